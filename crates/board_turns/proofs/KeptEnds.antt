-- A call that ends keeps together what the board, the cells and the boxes keep.
use Rattle.std.proofs.Common.{◌≡◌, ◌∙◌, refl, sym, ap, subst, ℕ, List, [], ◌∷◌, map, Some}
use Rattle.relay_outside.specs.declared.settings.Config.{Config}
use Rattle.turn_table.specs.declared.hands.Hand.{Hand}
use Rattle.turn_table.specs.Hands.{starts}
use Rattle.histories.specs.Words.{In, here, there}
use Rattle.histories.proofs.Lists.{in_right}
use Rattle.port_pool.specs.declared.holder.Holder.{Holder}
use Rattle.port_pool.specs.declared.pairs.Lease.{Lease}
use Rattle.call_cell.specs.Cells.{End}
use Rattle.call_cell.specs.Shapes.{CellLegShape}
use Rattle.call_board.specs.Acts.{Call}
use Rattle.call_board.specs.Boards.{pairs_in}
use Rattle.call_board.specs.Shapes.{BoardShape, LiveShape, ShapeEnds, shape_numbered, shape_ended, shape_returns}
use Rattle.call_shapes.specs.Agreement.{IsLegOf, CallAgrees}
use Rattle.call_shapes.specs.NumberedTurns.{EndsNumbered}
use Rattle.call_shapes.specs.OfferFits.{cell_holders}
use Rattle.call_shapes.specs.Turns.{RelayShape, IsWholeRelay, pairs_held}
use Rattle.call_shapes.proofs.Ending.{ends_whole}
use Rattle.call_shapes.proofs.NumberedSteps.{numbered_ends}
use Rattle.call_shapes.proofs.Numbered.{numbered}
use Rattle.relay_core.specs.declared.part.Part.{Part}
use Rattle.relay_core.specs.KeptAfter.{IsWholeWith, relay_after}
use Rattle.relay_core.specs.Records.{Made}
use Rattle.relay_core.specs.Scripts.{Owed, closing}
use Rattle.relay_core.specs.Turns.{GainsNested, made_by}
use Rattle.relay_core.proofs.KeptScripts.{one_turn}
use Rattle.relay_core.proofs.KeptWhole.{hand_turn_cell, hand_other_cells, hand_turn_boxes}
use Rattle.board_turns.specs.NestedSteps.{closing_of}
use Rattle.board_turns.specs.InCells.{in_cell_of}
use Rattle.board_turns.specs.Closings.{leases_of_legs, closings_of}
use Rattle.board_turns.specs.Departures.{AllHaveEnds, cell_kept}

-- The legs.

-- the closings of legs that went are those of the legs that held these pairs
closings_by_pairs : {O : Type 0} (config : Config) (gone : List (Lease × O × O)) → closings_of config gone ≡ map (closing_of config) (pairs_in (leases_of_legs gone))
closings_by_pairs config [] = refl
closings_by_pairs config (leg ∷ gone) = ap (λ (ws : List Owed). closing_of config leg.0.pair ∷ ws) (closings_by_pairs config gone)

closings_by_legs : (config : Config) (legs : List Holder) → map (closing_of config) (pairs_held legs) ≡ map (closing config) legs
closings_by_legs config [] = refl
closings_by_legs config (leg ∷ legs) = ap (λ (ws : List Owed). closing config leg ∷ ws) (closings_by_legs config legs)

pub pairs_of_leases : (config : Config) (cell call : ℕ) (legs : List CellLegShape) → ((leg : CellLegShape) → In leg legs → IsLegOf config cell call leg)
    → pairs_in (map (λ (leg : CellLegShape). leg.lease) legs) ≡ pairs_held (map (λ (leg : CellLegShape). leg.holder) legs)
pairs_of_leases config cell call [] are = refl
pairs_of_leases config cell call (leg ∷ legs) are =
    ap (λ (l : Lease). l.pair ∷ pairs_in (map (λ (x : CellLegShape). x.lease) legs)) (are leg (here refl)).lease_is
    ∙ ap (λ (ps : List ℕ). leg.holder.pair ∷ ps) (pairs_of_leases config cell call legs (λ l i. are l (there i)))

-- where the pairs are these, so are the closings
pub closings_alike : {O : Type 0} (config : Config) (gone : List (Lease × O × O)) (legs : List Holder) → pairs_in (leases_of_legs gone) ≡ pairs_held legs
    → closings_of config gone ≡ map (closing config) legs
closings_alike config gone legs same = closings_by_pairs config gone ∙ ap (map (closing_of config)) same ∙ closings_by_legs config legs

-- The relay.

-- the live call that is found agrees with its cell
pub found_agrees : (config : Config) (relay : RelayShape) (number : ℕ) (call : LiveShape) → IsWholeRelay config relay → shape_numbered relay.board number ≡ Some call
    → CallAgrees config call.cell call.number call.dialog (relay.cells call.cell)
found_agrees config relay number call whole found =
    let n = numbered number call.dialog relay.board.calls call found in
    whole.calls call (subst (λ (l : List LiveShape). In call l) (sym n.calls_are) (in_right n.front (call ∷ n.back) (here refl)))

-- a call by its number and cell; of its call-id nothing is said
abbrev call_at : (number cell : ℕ) → Call
call_at number cell = record { number = number; cell = cell; id = [] }

module _ {M I O T : Type 0} {g : _} (config : Config) (number moment : ℕ) (old new : Hand M (Part I O) Made T g) (same : starts new ≡ starts old) where
  -- the call with this shape ended in its cell, and all legs that the cell had were closed
  ends_numbered : (board after : BoardShape) (call : ℕ) (k : LiveShape) → shape_numbered board call ≡ Some k
      → GainsNested number moment (one_turn config [] (call_at call k.cell) End (cell_holders (cell_kept config old k.cell))) old new
      → after ≡ shape_returns (pairs_held (cell_holders (cell_kept config old k.cell))) (shape_ended call k.cell board)
      → EndsNumbered config (relay_after config (starts old) (made_by old) board) (relay_after config (starts new) (made_by new) after)
  ends_numbered board after call k found gains is =
      let of = call_at call k.cell in
      let gone = cell_holders (cell_kept config old k.cell) in
      record {
        number = call;
        call = k;
        found = found;
        calls_are = ap (λ (s : BoardShape). s.calls) is;
        config_is = ap (λ (s : BoardShape). s.config) is;
        begun_is = ap (λ (s : BoardShape). s.begun) is;
        taken_is = ap (λ (s : BoardShape). s.taken) is;
        pool_is = ap (λ (s : BoardShape). s.pool) is;
        cell_is = hand_turn_cell config number moment [] of End gone old new same gains;
        others = hand_other_cells config number moment [] of End gone old new same gains;
        boxes = hand_turn_boxes config number moment [] of End gone old new same gains (λ a b i. elim i [ ]) (λ leg i. elim i [ ]);
      }

  -- where the legs that went were those that the cell kept, each with its ends
  pub end_keeps_whole : (board mid after : BoardShape) (call cell : ℕ) (gone : List (Lease × O × O)) → ShapeEnds call cell board mid
      → GainsNested number moment (in_cell_of cell End ∷ closings_of config gone) old new
      → (AllHaveEnds (cell_kept config old cell) → leases_of_legs gone ≡ map (λ (leg : CellLegShape). leg.lease) (cell_kept config old cell).legs)
      → after ≡ shape_returns (pairs_in (leases_of_legs gone)) mid → IsWholeWith config old board → IsWholeWith config new after
  end_keeps_whole board mid after call cell gone ends gains left is whole =
      let k = ends.call in
      let relay = relay_after config (starts old) (made_by old) board in
      let agrees = found_agrees config relay call k whole ends.found in
      let legs = cell_holders (cell_kept config old k.cell) in
      let leases =
      subst (λ (c : ℕ). AllHaveEnds (cell_kept config old c) → leases_of_legs gone ≡ map (λ (leg : CellLegShape). leg.lease) (cell_kept config old c).legs)
      ends.cell_is left (λ leg i. (agrees.legs leg i).has_ends) in
      let pairs : pairs_in (leases_of_legs gone) ≡ pairs_held legs
      = ap pairs_in leases ∙ pairs_of_leases config k.cell k.number (cell_kept config old k.cell).legs agrees.legs in
      let events : in_cell_of cell End ∷ closings_of config gone ≡ in_cell_of k.cell End ∷ map (closing config) legs
      = ap (λ (c : ℕ). in_cell_of c End ∷ closings_of config gone) ends.cell_is
      ∙ ap (λ (ws : List Owed). in_cell_of k.cell End ∷ ws) (closings_alike config gone legs pairs) in
      let ended : mid ≡ shape_ended call k.cell board = ends.shape_is ∙ ap (λ (c : ℕ). shape_ended call c board) ends.cell_is in
      let step = ends_numbered board after call k ends.found (subst (λ (ws : List Owed). GainsNested number moment ws old new) events gains)
      (is ∙ ap (λ (ps : List ℕ). shape_returns ps mid) pairs ∙ ap (shape_returns (pairs_held legs)) ended) in
      ends_whole config relay (relay_after config (starts new) (made_by new) after) whole
      (numbered_ends config relay (relay_after config (starts new) (made_by new) after) whole step)
