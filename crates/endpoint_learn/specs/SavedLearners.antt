-- How a learner is saved.
use Rattle.std.specs.Prelude.{ℕ, ◌≡◌, ◌<◌, ◌^◌, Bool, List, ◌∷◌, ◌++◌, length, replicate, Option, Some, None, IfSome, if◌then◌else◌}
use Rattle.std.specs.Int.{w16, to_be_bytes}
use Rattle.relay_outside.specs.declared.address.Addr.{Addr}
use Rattle.relay_outside.specs.declared.address.Ip.{Ip}
use Rattle.relay_outside.specs.declared.address.Ip.TheVariants as ip
use Rattle.endpoint_learn.specs.declared.learner.Learner.{Learner}

-- the version of the protocol, and the address in 16 bytes: those of version 4 stand in front
abbrev pub saved_ip : Ip → List ℕ
saved_ip (ip.V4 a) = 4 ∷ (a ++ replicate 12 0)
saved_ip (ip.V6 a) = 6 ∷ a

-- a transport address: the address and the port in 2 bytes, the higher first; 19 bytes
abbrev pub saved_addr : Addr → List ℕ
saved_addr addr = saved_ip addr.ip ++ to_be_bytes w16 addr.port

-- a source that may have been learned: the source, and 19 zeros where none was
abbrev pub saved_source : Option Addr → List ℕ
saved_source None = replicate 19 0
saved_source (Some source) = saved_addr source

abbrev pub saved_flag : Bool → ℕ
saved_flag flag = if flag then 1 else 0

-- the signalled address, the three flags and the learned source: 41 bytes
unfoldable pub saved_learner : Learner → List ℕ
saved_learner learner = saved_addr learner.signalled
    ++ (saved_flag learner.flags.strict ∷ saved_flag learner.flags.handover ∷ saved_flag learner.flags.asymmetric ∷ saved_source learner.learned)

-- the addresses that there are
abbrev pub FitsIp : Ip → Type 0
FitsIp (ip.V4 a) = length a ≡ 4
FitsIp (ip.V6 a) = length a ≡ 16

pub record FitsAddr (addr : Addr) : Type 0 where
  pub ip : FitsIp addr.ip
  pub port : addr.port < 2 ^ 16

-- the learners that there are
pub record FitsLearner (learner : Learner) : Type 0 where
  pub signalled : FitsAddr learner.signalled
  pub learned : IfSome learner.learned FitsAddr
