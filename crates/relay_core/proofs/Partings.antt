-- At the close, what the out ends told of each leg that went from a cell is what the list has of the sends by them.
use Rattle.std.proofs.Common.{◌≡◌, sym, subst, refl, ℕ, suc, ◌≤◌, List, [], ◌∷◌, true, false, arith, length, take}
use Rattle.std.specs.List.{filter_map, cons_option}
use Rattle.relay_outside.specs.declared.ports.InCall.{InCall}
use Rattle.relay_outside.specs.declared.ports.OutCall.{OutCall}
use Rattle.relay_outside.specs.declared.settings.Config.{Config}
use Rattle.relay_outside.specs.DeviceLogs.{EndLog}
use Rattle.turn_table.specs.declared.machine.Entry as table
use Rattle.turn_table.specs.Histories.{Leaves}
use Rattle.turn_table.specs.Histories as table_lists
use Rattle.call_cell.specs.declared.cell.Cell as cell
use Rattle.call_cell.specs.Cells.{CellEntry, since_end}
use Rattle.relay_core.specs.declared.part.Part.{Part}
use Rattle.relay_core.specs.declared.part.Part.TheVariants as part
use Rattle.relay_core.specs.Entries.{Event, Board, Cell, Box, Entry, cell_at, cell_entry, history, cell_history}
use Rattle.relay_core.specs.Legal.{Orderly, StandsAt}
use Rattle.relay_core.specs.Records.{LegLeft, Made, entry_of, list_of}
use Rattle.relay_core.specs.ReturnedPairs.{AreReturned}
use Rattle.relay_core.specs.Steps.{CellSteps, Relates}
use Rattle.relay_core.specs.FirstPlaces.{AreParts, BeginsAs}
use Rattle.relay_core.specs.Joins.{IsSound}
use Rattle.relay_core.specs.PlaceHistories.{BringsNewKeys, CellStands, Stands, IsBoardPart, IsCellPart}
use Rattle.relay_core.specs.EndLogs.{is_parting, GoesWith, OutsAreTold}
use Rattle.relay_core.proofs.Stays.{onto, Steps, brings_onto, stands_onto, cell_stays, new_recorded}
use Rattle.relay_core.proofs.Filling.{fill_history, filled_in, filled_history, cell_fills}
use Rattle.relay_core.proofs.Placing.{step_at}
use Rattle.relay_core.proofs.Given.{begins_as, cell_begins}
use Rattle.relay_core.proofs.OutsTold.{AreTold, no_legs_told, cell_tells}
use Rattle.relay_core.proofs.Closed.{AreWhole, InRange, closed_numbered, place_of, past_is, new_keys, row_placed, next_is}

-- legs go from cells alone
parting_at : (config : Config) (k : ℕ) (event : Event) → is_parting event ≡ true → StandsAt config k event → (1 ≤ k) × (k ≤ config.max_sessions)
parting_at config k (Cell c) t at = at
parting_at config k (Box b) t at = absurd (let q : false ≡ true = t in cc)
parting_at config k (Board b) t at = absurd (let q : false ≡ true = t in cc)

module _ {I O : Type 0} (it : I → EndLog InCall) (ic : I → ℕ) (ot : O → EndLog OutCall) (oc : O → ℕ) where
  -- the out ends of a cell's legs told what its history says
  abbrev IsTold : Config → Part I O → List Entry → Type 0
  IsTold config (part.Cell cell) h = AreTold ot oc cell.legs.items (since_end (fill_history config (filter_map cell_entry h)))
  IsTold config (part.Board board) h = Unit {0}
  IsTold config (part.Pair box) h = Unit {0}

  record TellsRow (config : Config) (new : Part I O) (h after : List CellEntry) (event : Event) (left : List LegLeft) : Type 0 where
    log : (cell : cell.Cell O) → new ≡ part.Cell cell → AreTold ot oc cell.legs.items (since_end (fill_history config after))
    goes : is_parting event ≡ true → GoesWith (since_end (fill_history config h)) event left

  cell_event : (config : Config) (old new : cell.Cell O) (made : Made) (event : Event) (h : List CellEntry) → BringsNewKeys (cons_option (cell_at made.moment event) h)
      → CellSteps ot oc old made event new → CellStands config old h → AreTold ot oc old.legs.items (since_end (fill_history config h))
      → AreTold ot oc new.legs.items (since_end (fill_history config (cons_option (cell_at made.moment event) h)))
      × (is_parting event ≡ true → GoesWith (since_end (fill_history config h)) event made.left.legs)
  cell_event config old new made (Cell c) h fresh step stands log =
      let fills = cell_fills config old h stands in
      let t = cell_tells ot oc config old new made c (fill_history config h) made.moment
      (new_recorded (fill_history config h) h _ fills.is_recorded fresh.0) step fills.stands log in
      (t.after, t.going)
  cell_event config old new made (Box b) h fresh step stands log = absurd step
  cell_event config old new made (Board b) h fresh step stands log = absurd step

  not_both : (a : Part I O) → IsCellPart a → IsBoardPart a → ⊥
  not_both (part.Cell c) is board = board
  not_both (part.Board b) is board = is
  not_both (part.Pair b) is board = is

  module _ {T : Type 0} where
    row_event : (config : Config) (old new : Part I O) (row : table.Entry Made T) (h : List Entry) → IsCellPart old → BringsNewKeys (filter_map cell_entry (entry_of row ∷ h))
        → Relates it ic ot oc old row.event new → Stands config old h → IsTold config old h
        → IsTold config new (entry_of row ∷ h) × (is_parting row.event.event ≡ true → GoesWith (since_end (fill_history config (filter_map cell_entry h))) row.event.event row.event.left.legs)
    row_event config (part.Cell old) (part.Cell new) row h is fresh step stands log =
        cell_event config old new row.event row.event.event (filter_map cell_entry h) fresh step stands log
    row_event config (part.Cell old) (part.Board new) row h is fresh step stands log = absurd step
    row_event config (part.Cell old) (part.Pair new) row h is fresh step stands log = absurd step
    row_event config (part.Board old) new row h is fresh step stands log = absurd is
    row_event config (part.Pair old) new row h is fresh step stands log = absurd is

    -- from a cell's state to a later one
    rows_tell : (config : Config) (a b : Part I O) (rows : List (table.Entry Made T)) (h : List Entry) → IsCellPart a → Leaves (Steps it ic ot oc) a rows b
        → BringsNewKeys (filter_map cell_entry (onto rows h)) → Stands config a h → IsTold config a h → IsTold config b (onto rows h)
    rows_tell config a b [] h is same fresh stands log = subst (λ (x : Part I O). IsTold config x h) same log
    rows_tell config a b (row ∷ rows) h is l fresh stands log =
        let one = brings_onto rows (entry_of row ∷ h) fresh in
        rows_tell config l.0 b rows (entry_of row ∷ h) (cell_stays it ic ot oc a l.0 (row ∷ []) (l.0, l.1, refl) is) l.2 fresh
        (stands_onto it ic ot oc config a l.0 (row ∷ []) h (l.0, l.1, refl) (λ cell. one) (λ board. absurd (not_both a is board)) stands)
        (row_event config a l.0 row h is one l.1 stands log).0

  begins_told : (config : Config) (k : ℕ) (a : Part I O) → BeginsAs config k a → IsTold config a []
  begins_told config k (part.Cell cell) is = no_legs_told ot oc config cell [] is.2.legs_for
  begins_told config k (part.Board board) is = tt
  begins_told config k (part.Pair box) is = tt

module _ {T I O : Type 0} (it : I → EndLog InCall) (ic : I → ℕ) (ot : O → EndLog OutCall) (oc : O → ℕ)
    (starts : List (Part I O)) (rows : List (table.Entry Made T)) (range : InRange starts rows) (whole : AreWhole it ic ot oc starts rows) where
  row_goes : (config : Config) → AreParts config starts → Orderly config (list_of rows) → AreReturned config rows → (row : table.Entry Made T) → table_lists.IsMemberOf row rows
      → is_parting row.event.event ≡ true
      → GoesWith (since_end (fill_history config (cell_history (list_of rows) row.place row.number))) row.event.event row.event.left.legs
  row_goes config are orderly returned row i parts =
      let p = place_of it ic ot oc starts rows range whole row i in
      let w = p.history_of in
      let within = p.within in
      let low : row.number ≤ length w.past = omega (arith, within) in
      let high : suc row.number ≤ length w.past = omega (arith, within) in
      let first = begins_as config starts are row.place p.start p.starts_so in
      let at = parting_at config row.place row.event.event parts (row_placed it ic ot oc starts rows range whole config are orderly returned row i).0 in
      let begins = cell_begins config row.place p.start at.0 at.1 first in
      let s = step_at (Steps it ic ot oc) p.start w.last w.past w.leaves row.number row p.at in
      let keys : BringsNewKeys (filter_map cell_entry (onto (take row.number w.past) []))
      = new_keys it ic ot oc starts rows range whole config are orderly returned row.place p.start w row.number low in
      let is : onto (take row.number w.past) [] ≡ history (list_of rows) row.place row.number
      = past_is it ic ot oc starts rows range whole config are orderly returned row.place p.start w row.number low in
      let shown : IsTold it ic ot oc config s.old (history (list_of rows) row.place row.number)
      = subst (λ (h : List Entry). IsTold it ic ot oc config s.old h) is
      (rows_tell it ic ot oc config p.start s.old (take row.number w.past) [] begins.0 s.before keys begins.1 (begins_told it ic ot oc config row.place p.start first)) in
      let stands : Stands config s.old (history (list_of rows) row.place row.number)
      = subst (λ (h : List Entry). Stands config s.old h) is
      (stands_onto it ic ot oc config p.start s.old (take row.number w.past) [] s.before (λ cell. keys) (λ board. absurd (not_both it ic ot oc p.start begins.0 board)) begins.1) in
      let fresh : BringsNewKeys (filter_map cell_entry (entry_of row ∷ history (list_of rows) row.place row.number))
      = subst (λ (h : List Entry). BringsNewKeys (filter_map cell_entry h)) (next_is it ic ot oc starts rows range whole config are orderly returned row p)
      (new_keys it ic ot oc starts rows range whole config are orderly returned row.place p.start w (suc row.number) high) in
      (row_event it ic ot oc config s.old s.new row (history (list_of rows) row.place row.number) (cell_stays it ic ot oc p.start s.old (take row.number w.past) s.before begins.0)
      fresh s.step stands shown).1 parts

  pub sound_outs : (config : Config) → AreParts config starts → IsSound config rows → OutsAreTold rows (filled_in config (list_of rows))
  sound_outs config are sound row i parts =
      let numbered = closed_numbered it ic ot oc starts rows range whole in
      let orderly = sound.orderly numbered in
      subst (λ (h : List CellEntry). GoesWith (since_end h) row.event.event row.event.left.legs)
      (sym (filled_history config (list_of rows) orderly.numbered row.place row.number))
      (row_goes config are orderly (sound.returned numbered) row i parts)
