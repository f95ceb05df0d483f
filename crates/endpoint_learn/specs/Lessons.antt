-- What is learned from what was signalled and received at one leg and half, the latest first.
use Rattle.std.specs.Prelude.{Bool, true, false, not, ◌&&◌, List, [], ◌∷◌, ◌++◌, Option, Some, None, find, if◌then◌else◌}
use Rattle.relay_outside.specs.declared.address.Addr.{Addr}
use Rattle.relay_outside.specs.declared.settings.Flags.{Flags}
use Rattle.relay_outside.specs.Ports.{same_addr}
use Rattle.histories.specs.Words.{final, or_else}

-- an address was signalled with these flags; or an accepted packet came from this source
pub data LearnStep : Type 0 where
  Signalled : Addr → Flags → LearnStep
  Heard : Addr → LearnStep

-- what is signalled
pub record Signalling : Type 0 where
  pub address : Addr
  pub flags : Flags

-- what was signalled last
abbrev pub last_signal : List LearnStep → Option Signalling
last_signal [] = None
last_signal (Signalled address flags ∷ steps) = Some (record { address = address; flags = flags })
last_signal (Heard source ∷ steps) = last_signal steps

-- what an accepted packet teaches: its source, and whether that takes the place of a learned one
pub record Lesson : Type 0 where
  pub source : Addr
  pub moves : Bool

-- under `asymmetric` nothing is learned; under `media handover` without `strict source` a later source counts
abbrev pub lesson_under : Addr → Option Signalling → List Lesson
lesson_under source None = []
lesson_under source (Some signal) =
    if signal.flags.asymmetric then [] else record { source = source; moves = signal.flags.handover && not signal.flags.strict } ∷ []

-- the address is another one than was signalled before, or the first
abbrev pub is_new : Addr → Option Signalling → Bool
is_new address None = true
is_new address (Some signal) = not (same_addr signal.address address)

-- the lessons since the signalled address last changed
abbrev pub lessons : List LearnStep → List Lesson
lessons [] = []
lessons (Signalled address flags ∷ steps) = if is_new address (last_signal steps) then [] else lessons steps
lessons (Heard source ∷ steps) = lesson_under source (last_signal steps) ++ lessons steps

abbrev pub source_in : Option Lesson → Option Addr
source_in None = None
source_in (Some lesson) = Some lesson.source

-- the learned source: the last one that takes the place of others, or else the first
abbrev pub learned_after : List LearnStep → Option Addr
learned_after steps = source_in (or_else (find (λ lesson. lesson.moves) (lessons steps)) (final (lessons steps)))

-- where packets go: the learned source, or else the signalled address
abbrev pub endpoint_by : Signalling → Option Addr → Addr
endpoint_by signal None = signal.address
endpoint_by signal (Some source) = if signal.flags.asymmetric then signal.address else source

-- under `strict source` a packet from another source than the learned one is wrong
abbrev pub is_wrong_source : Flags → Option Addr → Addr → Bool
is_wrong_source flags None source = false
is_wrong_source flags (Some known) source = flags.strict && not flags.asymmetric && not (same_addr known source)

abbrev pub is_wrong_under : Option Signalling → Option Addr → Addr → Bool
is_wrong_under None known source = false
is_wrong_under (Some signal) known source = is_wrong_source signal.flags known source

-- a packet from this source is wrong after these steps
abbrev pub is_wrong_after : List LearnStep → Addr → Bool
is_wrong_after steps source = is_wrong_under (last_signal steps) (learned_after steps) source

abbrev pub endpoint_under : Option Signalling → Option Addr → Option Addr
endpoint_under None known = None
endpoint_under (Some signal) known = Some (endpoint_by signal known)

-- where packets go after these steps; nowhere before a signal
abbrev pub endpoint_after : List LearnStep → Option Addr
endpoint_after steps = endpoint_under (last_signal steps) (learned_after steps)

-- what is learned from one more source, where this is learned and these flags are in force
abbrev pub taught : Flags → Option Addr → Addr → Option Addr
taught flags None source = if flags.asymmetric then None else Some source
taught flags (Some known) source =
    if flags.asymmetric then Some known else if flags.handover && not flags.strict then Some source else Some known
