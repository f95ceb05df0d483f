-- What a sweep adds to the list of a hand: visits, each with one take and the relay of what it gave.
use Rattle.std.specs.Prelude.{◌≡◌, ◌-◌, ◌+◌, ◌^◌, ◌%◌, ℕ, Bool, true, false, ◌&&◌, ◌==◌, nat_lt, min, List, [], ◌∷◌, ◌++◌, filter, length, Option, Some, None, if◌then◌else◌}
use Rattle.relay_outside.specs.declared.settings.Config.{Config}
use Rattle.relay_outside.specs.DeviceLogs.{WhereInRange}
use Rattle.rtp_packet.specs.declared.head.Half.{Half}
use Rattle.turn_table.specs.declared.machine.Entry as table
use Rattle.turn_table.specs.Histories as table_lists
use Rattle.turn_table.specs.Steps.{entry}
use Rattle.srtp_sources.specs.Notes.{is_half}
use Rattle.port_pool.specs.Ports.{pair_count}
use Rattle.port_pool.specs.Boxes as box
use Rattle.port_pool.specs.Boxes.{Taken}
use Rattle.call_cell.specs.declared.outcome.Outcome.{Outcome}
use Rattle.call_cell.specs.declared.outcome.Outcome.TheVariants as outcomes
use Rattle.call_cell.specs.Cells as cells
use Rattle.relay_core.specs.Entries.{box_of}
use Rattle.relay_core.specs.Records.{Made}
use Rattle.relay_core.specs.Turns.{IsOfLane}
use Rattle.media_lane.specs.declared.answers.Totals.{Totals}
use Rattle.media_lane.specs.Takes.{take_made}
use Rattle.media_lane.specs.Relays.{relay_made}

abbrev pub Row : Type 0
Row = table.Entry Made (Unit {0})

-- takes and relays
abbrev pub AreOfLane : List Row → Type 0
AreOfLane rows = (row : Row) → table_lists.IsMemberOf row rows → IsOfLane row.event.event

-- a relay: its number at its cell, the moment that it was handed, its moment, and its outcome
pub record Passing : Type 0 where
  pub number : ℕ
  pub handed : ℕ
  pub moment : ℕ
  pub outcome : Outcome

-- one visit of a half of a pair: the number and the outcome of the take, and the relay of the datagram that it gave
pub record Visit : Type 0 where
  pub pair : ℕ
  pub half : Half
  pub number : ℕ
  pub taken : Taken
  pub passing : Option Passing

-- the packet of a visit, where its take gave a datagram
abbrev pub packet_by : ℕ → Half → Taken → Option cells.Receipt
packet_by number half (box.Datagram holder source bytes) = Some (record { take = number; half = half; source = source; bytes = bytes; holder = holder })
packet_by number half _ = None

abbrev pub packet_at : Visit → Option cells.Receipt
packet_at v = packet_by v.number v.half v.taken

abbrev pub relay_rows : Option cells.Receipt → Option Passing → List Row
relay_rows (Some p) (Some r) = entry p.holder.cell r.number (relay_made p r.handed r.moment r.outcome) (tt {0}) ∷ []
relay_rows _ _ = []

-- the rows that a visit adds: its take at the pair's box, and directly after it the relay of the datagram in its leg's cell
abbrev pub rows_of : Config → Visit → List Row
rows_of config v = entry (box_of config v.pair) v.number (take_made v.half v.taken) (tt {0}) ∷ relay_rows (packet_at v) v.passing

abbrev pub all_rows : Config → List Visit → List Row
all_rows config [] = []
all_rows config (v ∷ vs) = rows_of config v ++ all_rows config vs

-- a datagram has its relay, which was handed a moment of the clock's range, where this is told; nothing else has one
abbrev pub IsPassed : Option (ℕ × ℕ) → Option cells.Receipt → Option Passing → Type 0
IsPassed range (Some p) (Some r) = WhereInRange range r.handed
IsPassed range None None = Unit {0}
IsPassed range _ _ = ⊥

abbrev pub ArePassed : Option (ℕ × ℕ) → List Visit → Type 0
ArePassed range [] = Unit {0}
ArePassed range (v ∷ vs) = IsPassed range (packet_at v) v.passing × ArePassed range vs

-- How often.

abbrev pub is_of : ℕ → Half → Visit → Bool
is_of pair half v = (v.pair == pair) && is_half v.half half

-- how often a half of a pair was visited
abbrev pub visit_times : ℕ → Half → List Visit → ℕ
visit_times pair half visits = length (filter (is_of pair half) visits)

-- the pair is one of the configuration, and one of this lane's: its number is the lane's modulo the number of lanes
abbrev pub is_own : Config → ℕ → ℕ → ℕ → Bool
is_own config index lanes pair = nat_lt pair (pair_count config) && (pair % lanes == index)

abbrev pub one_where : Bool → ℕ
one_where own = if own then 1 else 0

-- What came of them.

abbrev pub is_there : Option cells.Receipt → Bool
is_there (Some p) = true
is_there None = false

abbrev pub has_packet : Visit → Bool
has_packet v = is_there (packet_at v)

abbrev pub ends_so : (Outcome → Bool) → Option Passing → Bool
ends_so p (Some r) = p r.outcome
ends_so p None = false

abbrev pub ends_with : (Outcome → Bool) → Visit → Bool
ends_with p v = ends_so p v.passing

abbrev pub has_sent : Outcome → Bool
has_sent (outcomes.Sent family port to len) = true
has_sent _ = false

abbrev pub is_refused : Outcome → Bool
is_refused (outcomes.Refused cause) = true
is_refused _ = false

abbrev pub is_lost : Outcome → Bool
is_lost (outcomes.Lost cause) = true
is_lost _ = false

-- how many visits pass, up to the end of the counter's type
abbrev pub count : (Visit → Bool) → List Visit → ℕ
count p visits = min (length (filter p visits)) (2 ^ 64 - 1)

-- the totals are the counts: of takes that gave a datagram, and of relays by their outcome
pub record AreTotals (visits : List Visit) (totals : Totals) : Type 0 where
  pub taken : totals.taken ≡ count has_packet visits
  pub sent : totals.sent ≡ count (ends_with has_sent) visits
  pub refused : totals.refused ≡ count (ends_with is_refused) visits
  pub lost : totals.lost ≡ count (ends_with is_lost) visits

-- one more, up to the end of the counter's type
abbrev pub one_more : ℕ → ℕ
one_more n = min (n + 1) (2 ^ 64 - 1)

-- a datagram more, whose relay had this outcome
pub record CountsRelay (outcome : Outcome) (old new : Totals) : Type 0 where
  pub taken : new.taken ≡ one_more old.taken
  pub sent : new.sent ≡ (if has_sent outcome then one_more old.sent else old.sent)
  pub refused : new.refused ≡ (if is_refused outcome then one_more old.refused else old.refused)
  pub lost : new.lost ≡ (if is_lost outcome then one_more old.lost else old.lost)
