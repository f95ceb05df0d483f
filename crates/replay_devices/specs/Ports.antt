-- What the ports of a replay tell and give.
use Rattle.std.specs.Prelude.{◌≡◌, ℕ, ◌+◌, ◌<◌, min, Bool, true, false, ◌||◌, ◌==◌, Option, Some, None, Result, Ok, Err, MatchOption, IfSome, List, [], ◌∷◌, ◌++◌, length, take, drop, reverse, position, slice_get, slice_index_or, if◌then◌else◌}
use Rattle.std.specs.List.{list_any}
use Rattle.std.specs.Option.{option_map}
use Rattle.ng_bencode.specs.Room.{Room}
use Rattle.relay_outside.specs.declared.address.Addr.{Addr}
use Rattle.relay_outside.specs.declared.answers.Failed.{Failed}
use Rattle.relay_outside.specs.declared.ports.InCall.{InCall}
use Rattle.relay_outside.specs.declared.ports.OutCall.{OutCall}
use Rattle.relay_outside.specs.declared.ports.PortCall.{PortCall}
use Rattle.relay_outside.specs.DeviceLogs.{EndLog, opened_for}
use Rattle.relay_script.specs.declared.step.Step.{Step}
use Rattle.relay_script.specs.declared.step.Step.TheVariants as line
use Rattle.relay_script.specs.declared.step.FailKind.TheVariants as kind
use Rattle.replay_devices.specs.Countdowns.{counted_down}
use Rattle.replay_devices.specs.Lines.{is_arrival, arrives_at, packet_in, is_fail_send, between}

-- the line `fail take` has this number
abbrev pub is_take_failure : ℕ → Step → Bool
is_take_failure n (line.Fail kind.Take count) = count == n
is_take_failure n _ = false

-- of lines, the latest first, one makes the next line `take` or `packet` meet a failing take, where `later` lines of these two kinds
-- came after them
abbrev pub take_fails_behind : List Step → ℕ → Bool
take_fails_behind [] later = false
take_fails_behind (step ∷ past) later =
    is_take_failure (later + 1) step || take_fails_behind past (if is_arrival step then later + 1 else later)

-- a line `take` or `packet` of this index meets a failing take, where its port is open
abbrev pub take_fails : List Step → ℕ → Bool
take_fails steps index = take_fails_behind (reverse (take index steps)) 0

-- the receiving end of a port in a replay: what it tells, the address of its port among it; the script; the index of the first
-- line that it may give something for; the count of faults
pub record ReplayInState : Type 0 where
  pub log : EndLog InCall
  pub steps : List Step
  pub next : ℕ
  pub faults : ℕ

-- the sending end: what it tells, the address of its port among it; the lines in which its failing sends stand; how many sends
-- were made; the count of faults
pub record ReplayOutState : Type 0 where
  pub log : EndLog OutCall
  pub window : List Step
  pub sends : ℕ
  pub faults : ℕ

-- the maker of ports: what it tells; the script and the index of the present line; which later opens fail; for each number of a
-- port the index of the first line after its last open that made ends; the count of faults
pub record ReplayPortsState : Type 0 where
  pub log : Option (List PortCall)
  pub steps : List Step
  pub step : ℕ
  pub opens : Room ℕ
  pub since : List ℕ
  pub faults : ℕ

-- the index of the first line, from an index on, at the port of this address
abbrev pub next_line : List Step → Addr → ℕ → Option ℕ
next_line steps at from = option_map (λ place. from + place) (position (arrives_at at) (drop from steps))

abbrev pub packet_in_line : Option Step → Option (Addr × List ℕ)
packet_in_line None = None
packet_in_line (Some step) = packet_in step

-- a packet, cut at the room of the buffer
abbrev pub GivesCutPacket : Option (Addr × List ℕ) → Result (Option (Addr × ℕ)) Failed → List ℕ → Type 0
GivesCutPacket None answer buf = ⊥
GivesCutPacket (Some packet) answer buf =
    let len = min (length packet.1) (length buf) in
    (answer ≡ Ok (Some (packet.0, len))) × (take len buf ≡ take len packet.1)

abbrev pub IsFailed : {T : Type 0} → Result T Failed → Type 0
IsFailed (Ok value) = ⊥
IsFailed (Err failed) = Unit {0}

-- the take for a line fails, or gives its packet
abbrev pub GivesLinePacket : (failing : Bool) → Option Step → Result (Option (Addr × ℕ)) Failed → List ℕ → Type 0
GivesLinePacket true step answer buf = IsFailed answer
GivesLinePacket false step answer buf = GivesCutPacket (packet_in_line step) answer buf

-- a take is that of the first line at the port that no take was made for, and gives nothing where there is none
abbrev pub TakesFirstLine : ReplayInState → ReplayInState → Result (Option (Addr × ℕ)) Failed → List ℕ → Type 0
TakesFirstLine before after answer buf =
    MatchOption (next_line before.steps before.log.at before.next)
    ((answer ≡ Ok None) × (after.next ≡ before.next))
    (λ index. GivesLinePacket (take_fails before.steps index) (slice_get before.steps index) answer buf × (after.next ≡ index + 1))

-- the next send fails
abbrev pub next_send_fails : ReplayOutState → Bool
next_send_fails end = list_any (is_fail_send end.log.at.port (end.sends + 1)) end.window

-- the lesser of two numbers, of which there may be one alone
abbrev pub lesser : Option ℕ → ℕ → ℕ
lesser None number = number
lesser (Some least) number = min least number

-- the least number of a failing send among those still to come, where there is one
pub record IsNextFailing (port sends : ℕ) (window : List Step) (least : Option ℕ) : Type 0 where
  pub before : (n : ℕ) → sends < n → IfSome least (λ number. n < number) → list_any (is_fail_send port n) window ≡ false
  pub fails : IfSome least (λ number. (sends < number) × (list_any (is_fail_send port number) window ≡ true))

-- the ends that an open makes: the receiving one gives what the lines after the present one give, the sending one fails by
-- the lines between the last open of this port's number that made ends and the present line
pub record Opens (maker : ReplayPortsState) (at : Addr) (receiving : ReplayInState) (sending : ReplayOutState) : Type 0 where
  pub receiving_is : receiving ≡ record { log = opened_for at; steps = maker.steps; next = maker.step + 1; faults = 0 }
  pub sending_is :
      sending
      ≡ record {
        log = opened_for at;
        window = between maker.steps (slice_index_or maker.since at.port 0) maker.step;
        sends = 0;
        faults = 0;
      }

-- the numbers of the failing takes to come, after one more line
abbrev pub takes_after : Step → List ℕ → List ℕ
takes_after (line.Fail kind.Take count) numbers = numbers ++ count ∷ []
takes_after (line.Take port source bytes) numbers = counted_down numbers
takes_after (line.Packet port source bytes) numbers = counted_down numbers
takes_after _ numbers = numbers
