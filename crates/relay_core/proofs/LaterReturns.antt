-- Which pairs the steps of the board give back in a list that goes on from an earlier one: those of the boxes that are shut in their turns,
-- among the list's own.
use Rattle.std.proofs.Common.{◌≡◌, ◌∙◌, sym, ap, refl, ℕ, ◌+◌, ◌<◌, List, [], ◌++◌, Bool, true, Some, map, filter, ◌==◌, arith}
use Rattle.std.specs.Prelude.{◌&&◌}
use Rattle.std.specs.List.{filter_map}
use Rattle.relay_outside.specs.declared.settings.Config.{Config}
use Rattle.turn_table.specs.declared.machine.Entry as table
use Rattle.turn_table.specs.Histories as table_lists
use Rattle.histories.specs.Words.{In}
use Rattle.histories.proofs.Lists.{in_right, maps, equal_if}
use Rattle.port_pool.specs.Boxes.{Open, Take, Close}
use Rattle.call_board.specs.Futures.{closed_pairs}
use Rattle.relay_core.specs.Entries.{Event, Board, Cell, Box, Entry, is_nested, history, board_at, board_entry, front}
use Rattle.relay_core.specs.Legal.{Orderly, Legal}
use Rattle.relay_core.specs.Records.{Made, entry_of, list_of}
use Rattle.relay_core.specs.ReturnedPairs.{is_boards, shuts_in, pairs_shut, AreReturned}
use Rattle.relay_core.specs.FirstPlaces.{pair_at}
use Rattle.relay_core.specs.EndLogs.{is_closing}
use Rattle.relay_core.specs.Steps.{board_made}
use Rattle.relay_core.specs.Continued.{later_event, later}
use Rattle.relay_core.proofs.Histories.{both}
use Rattle.relay_core.proofs.Boxes.{below_front}
use Rattle.relay_core.proofs.Turns.{filter_append, filter_none, false_if}
use Rattle.relay_core.proofs.Returning.{shut_closed}
use Rattle.relay_core.proofs.Own.{rows_in}
use Rattle.relay_core.proofs.Stays.{GivesBack}
use Rattle.relay_core.proofs.Refilling.{filter_mapped}
use Rattle.relay_core.proofs.Filled.{mapped_twice}
use Rattle.relay_core.proofs.Later.{shifted, later_by}
use Rattle.relay_core.proofs.LaterSteps.{later_made}

-- a closing is nested
closing_nested : (v : Event) → is_closing v ≡ true → is_nested v ≡ true
closing_nested (Board b) t = absurd (let k = t in cc)
closing_nested (Cell c) t = absurd (let k = t in cc)
closing_nested (Box (Open leg)) t = refl
closing_nested (Box (Take half taken)) t = absurd (let k = t in cc)
closing_nested (Box Close) t = refl

-- so in a legal list it belongs to a board entry below the board's front
pub closing_low : (config : Config) (before : List Entry) → Legal config before → (e : Entry) → In e before → is_closing e.event ≡ true → e.board < front before 0
closing_low config before legal e i t =
    let b = legal.nested e i (closing_nested e.event t) in
    let low = below_front before b.0 0 b.1 b.2 in
    let number = b.3 in
    omega (arith, low, number)

module _ {T : Type 0} (config : Config) (before early : List Entry) (rows : List (table.Entry Made T))
    (low : (e : Entry) → In e early → is_closing e.event ≡ true → e.board < front before 0) where
  early_shut : (n : ℕ) → filter (shuts_in (n + front before 0)) early ≡ []
  early_shut n =
      filter_none (shuts_in (n + front before 0)) early (λ e i. false_if (shuts_in (n + front before 0) e) (λ t.
      let c = both (is_closing e.event) (e.board == n + front before 0) t in
      let below = low e i c.0 in
      let is = equal_if e.board (n + front before 0) c.1 in
      omega (arith, below, is)))

  late_shut : (n : ℕ) (e : Entry) → shuts_in (n + front before 0) (later config before e) ≡ shuts_in n e
  late_shut n e =
      ap (λ (t : Bool). t && (e.board + front before 0 == n + front before 0)) (later_by is_closing (λ x y. refl) config before e.event)
      ∙ ap (λ (t : Bool). is_closing e.event && t) (shifted e.board n (front before 0))

  -- in a turn counted on just the list's own boxes are shut
  shut_is : (n : ℕ) → pairs_shut config (early ++ map (later config before) (list_of rows)) (n + front before 0) ≡ pairs_shut config (list_of rows) n
  shut_is n =
      ap (λ (es : List Entry). map (λ (e : Entry). pair_at config e.place) es)
      (filter_append (shuts_in (n + front before 0)) early (map (later config before) (list_of rows))
      ∙ ap (λ (es : List Entry). es ++ filter (shuts_in (n + front before 0)) (map (later config before) (list_of rows))) (early_shut n)
      ∙ filter_mapped (later config before) (shuts_in n) (shuts_in (n + front before 0)) (list_of rows) (late_shut n))
      ∙ mapped_twice (λ (e : Entry). pair_at config e.place) (later config before) (filter (shuts_in n) (list_of rows))

  -- so each row of the board, counted on, records the pairs of the legs that it closes
  pub gives_later : Orderly config (early ++ map (later config before) (list_of rows)) → AreReturned config rows
      → (row : table.Entry Made T) → table_lists.IsMemberOf row rows
      → GivesBack (later_made config before row.event) (later_event config before row.event.event)
      (filter_map board_entry (history (early ++ map (later config before) (list_of rows)) row.place (row.number + front before row.place)))
  gives_later orderly returned row i = by_event row.event.event refl
    where
      in_list : In (later config before (entry_of row)) (early ++ map (later config before) (list_of rows))
      in_list = in_right early (map (later config before) (list_of rows)) (maps (later config before) (list_of rows) (rows_in rows i))

      by_event : (v : Event) → row.event.event ≡ v
          → GivesBack (later_made config before row.event) (later_event config before v)
          (filter_map board_entry (history (early ++ map (later config before) (list_of rows)) row.place (row.number + front before row.place)))
      by_event (Board b) q =
          let e = board_made row.event b in
          let is : board_entry (later config before (entry_of row)) ≡ Some e = ap (λ (v : Event). board_at row.event.moment (later_event config before v)) q in
          let at : row.place ≡ 0 = (orderly.board_fits (later config before (entry_of row)) e in_list is).0 in
          ap (λ (place : ℕ). closed_pairs (filter_map board_entry (history (early ++ map (later config before) (list_of rows)) place (row.number + front before row.place))) e) at
          ∙ sym (shut_closed config (early ++ map (later config before) (list_of rows)) orderly (later config before (entry_of row)) e in_list is)
          ∙ ap (λ (place : ℕ). pairs_shut config (early ++ map (later config before) (list_of rows)) (row.number + front before place)) at
          ∙ shut_is row.number
          ∙ sym (returned row i (ap is_boards q))
      by_event (Cell c) q = tt
      by_event (Box b) q = tt
