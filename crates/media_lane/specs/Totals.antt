-- What came of the datagrams that were taken, by a list of entries.
use Rattle.std.specs.Prelude.{◌≡◌, ◌-◌, ◌^◌, ℕ, Bool, true, false, min, List, count_by}
use Rattle.port_pool.specs.Boxes as box
use Rattle.port_pool.specs.Boxes.{Taken, BoxEvent, Take}
use Rattle.call_cell.specs.declared.outcome.Outcome.{Outcome}
use Rattle.call_cell.specs.Cells.{CellEvent, Relay}
use Rattle.relay_core.specs.Entries.{Event, Cell, Box, Entry}
use Rattle.media_lane.specs.declared.answers.Totals.{Totals}
use Rattle.media_lane.specs.Visits.{has_sent, is_refused, is_lost}

abbrev pub is_datagram : Taken → Bool
is_datagram (box.Datagram holder source bytes) = true
is_datagram _ = false

abbrev pub gives : BoxEvent → Bool
gives (Take half taken) = is_datagram taken
gives _ = false

abbrev pub relays : (Outcome → Bool) → CellEvent → Bool
relays p (Relay x) = p x.deed.outcome
relays p _ = false

-- a take that gave a datagram
abbrev pub gave : Event → Bool
gave (Box b) = gives b
gave _ = false

-- a relay with such an outcome
abbrev pub is_relayed : (Outcome → Bool) → Event → Bool
is_relayed p (Cell c) = relays p c
is_relayed p _ = false

-- up to the end of a counter's type
abbrev pub capped : ℕ → ℕ
capped n = min n (2 ^ 64 - 1)

-- how many entries have such an event
abbrev pub counted : (Event → Bool) → List Entry → ℕ
counted p l = count_by (λ e. p e.event) l

-- The totals are the counts over the list, each up to the end of its type: of the takes that gave a datagram, and of the relays by
-- their outcome
pub record HasTotals (l : List Entry) (totals : Totals) : Type 0 where
  pub taken : totals.taken ≡ capped (counted gave l)
  pub sent : totals.sent ≡ capped (counted (is_relayed has_sent) l)
  pub refused : totals.refused ≡ capped (counted (is_relayed is_refused) l)
  pub lost : totals.lost ≡ capped (counted (is_relayed is_lost) l)
