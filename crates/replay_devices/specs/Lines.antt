-- What single lines of a script ask of the devices of its replay.
use Rattle.std.specs.Prelude.{◌≡◌, ℕ, ◌+◌, ◌<◌, ◌≤◌, Bool, true, false, ◌&&◌, ◌==◌, Option, Some, None, List, ◌∷◌, [], ◌++◌, drop, take, count_by}
use Rattle.std.specs.Option.{is_some}
use Rattle.ng_bencode.specs.Room.{Room}
use Rattle.relay_outside.specs.declared.address.Addr.{Addr}
use Rattle.relay_outside.specs.declared.address.Ip.{Ip}
use Rattle.relay_outside.specs.declared.address.Ip.TheVariants as ip
use Rattle.relay_script.specs.declared.step.FailKind.{FailKind}
use Rattle.relay_script.specs.declared.step.FailKind.TheVariants as kind
use Rattle.relay_script.specs.declared.step.Step.{Step}
use Rattle.relay_script.specs.declared.step.Step.TheVariants as line

-- the lines from one index up to another, which is not among them
abbrev pub between : List Step → (from before : ℕ) → List Step
between steps from before = drop from (take before steps)

-- the key of a line `key`
abbrev pub scripted_key : Step → Option (List ℕ)
scripted_key (line.Key bytes) = Some bytes
scripted_key _ = None

-- the source and the bytes of a line `ng`
abbrev pub datagram_in : Step → Option (Addr × List ℕ)
datagram_in (line.Ng source bytes) = Some (source, bytes.list)
datagram_in _ = None

-- the source and the bytes of a line `take` or `packet`
abbrev pub packet_in : Step → Option (Addr × List ℕ)
packet_in (line.Take port source bytes) = Some (source, bytes.list)
packet_in (line.Packet port source bytes) = Some (source, bytes.list)
packet_in _ = None

-- it is a line `take` or `packet`, at whatever port
abbrev pub is_arrival : Step → Bool
is_arrival (line.Take port source bytes) = true
is_arrival (line.Packet port source bytes) = true
is_arrival _ = false

abbrev pub same_family : Ip → Ip → Bool
same_family (ip.V4 a) (ip.V4 b) = true
same_family (ip.V6 a) (ip.V6 b) = true
same_family _ _ = false

-- it is a line `take` or `packet` at the port of this address: of its number, and of the family of the line's source
abbrev pub arrives_at : Addr → Step → Bool
arrives_at at (line.Take port source bytes) = (port == at.port) && same_family source.ip at.ip
arrives_at at (line.Packet port source bytes) = (port == at.port) && same_family source.ip at.ip
arrives_at at _ = false

abbrev pub same_line_kind : FailKind → FailKind → Bool
same_line_kind kind.Open kind.Open = true
same_line_kind kind.Draw kind.Draw = true
same_line_kind kind.Take kind.Take = true
same_line_kind kind.Read kind.Read = true
same_line_kind kind.Reply kind.Reply = true
same_line_kind _ _ = false

abbrev pub where_true : Bool → ℕ → Option ℕ
where_true true n = Some n
where_true false n = None

-- the number of a line `fail` of this kind
abbrev pub asked_of : FailKind → Step → Option ℕ
asked_of wanted (line.Fail kind number) = where_true (same_line_kind kind wanted) number
asked_of wanted _ = None

-- the same, where there is a line
abbrev pub fail_asked_by : FailKind → Option Step → Option ℕ
fail_asked_by wanted None = None
fail_asked_by wanted (Some step) = asked_of wanted step

-- how many lines `fail` of this kind there are
abbrev pub failures_of : FailKind → List Step → ℕ
failures_of wanted steps = count_by (λ step. is_some (asked_of wanted step)) steps

-- the line asks that the call of a number fails: where there is room for it, it is one more
abbrev pub Asks : Option ℕ → Room ℕ → Room ℕ → Type 0
Asks None before after = after ≡ before
Asks (Some number) before after = (0 < before.spare → after.list ≡ before.list ++ number ∷ []) × (before.spare ≤ after.spare + 1)

-- the number of a line `fail send` of this port
abbrev pub send_failure : (port : ℕ) → Step → Option ℕ
send_failure port (line.FailSend other count) = where_true (other == port) count
send_failure port _ = None

abbrev pub is_number : Option ℕ → ℕ → Bool
is_number None number = false
is_number (Some other) number = other == number

-- it is a line `fail send` of this port and number
abbrev pub is_fail_send : (port number : ℕ) → Step → Bool
is_fail_send port number step = is_number (send_failure port step) number
