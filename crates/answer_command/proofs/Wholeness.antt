-- An accepted answer keeps together what the board, the cells and the boxes keep.
use Rattle.std.proofs.Common.{◌≡◌, ◌∙◌, refl, sym, ap, subst, ℕ, ◌<◌, Bool, true, false, cond, List, [], ◌∷◌, map, filter, length, Option, Some, None, slice_get}
use Rattle.relay_outside.specs.declared.settings.Config.{Config}
use Rattle.turn_table.specs.declared.hands.Hand.{Hand}
use Rattle.turn_table.specs.Hands.{starts}
use Rattle.histories.specs.Words.{In, here, there}
use Rattle.port_pool.specs.declared.holder.Holder.{Holder}
use Rattle.port_pool.specs.declared.pairs.Lease.{Lease}
use Rattle.port_pool.specs.declared.signal.SectionSignal.{SectionSignal}
use Rattle.port_pool.specs.Signals.{is_rejected}
use Rattle.offer_answer.specs.Shapes.{SectionShape, DialogShape, dialog_shape, shape_of}
use Rattle.offer_answer.specs.AnswerShapes.{ShapeAnswered, AnswerShapes}
use Rattle.offer_answer.specs.OfferPlaces.{AnswerCounts}
use Rattle.offer_answer.specs.declared.dialog.Dialog.{Dialog}
use Rattle.offer_answer.specs.declared.plan.Plan.{Plan}
use Rattle.call_cell.specs.Cells.{Commit}
use Rattle.call_cell.specs.Shapes.{CellLegShape}
use Rattle.call_board.specs.Acts.{Call}
use Rattle.call_board.specs.Boards.{pairs_in}
use Rattle.call_board.specs.Shapes.{LiveShape, BoardShape, DialogApplies, LiveTakesIn, PlansReply, TakesPlanIn, board_shape, live_shape, shape_gone_on, shape_numbered, shape_returns}
use Rattle.call_board.specs.declared.board.Board.{Board}
use Rattle.call_board.specs.declared.board_plan.BoardPlan.{BoardPlan}
use Rattle.call_board.specs.declared.board_plan.NewCall.{NewCall}
use Rattle.call_board.specs.declared.live_call.LiveCall.{LiveCall}
use Rattle.call_board.proofs.Shaped.{numbered_shape}
use Rattle.call_shapes.specs.Agreement.{IsLegOf, section_kept}
use Rattle.call_shapes.specs.NumberedTurns.{AnswersNumbered, gone_by_answer}
use Rattle.call_shapes.specs.Turns.{DialogAnswered, pairs_held}
use Rattle.call_shapes.proofs.NumberedSteps.{answer_goes_on}
use Rattle.call_shapes.proofs.PlanOffers.{section_of}
use Rattle.call_shapes.proofs.Relays.{goes_on_whole}
use Rattle.relay_core.specs.declared.part.Part.{Part}
use Rattle.relay_core.specs.KeptAfter.{IsWholeWith, relay_after}
use Rattle.relay_core.specs.Records.{Made}
use Rattle.relay_core.specs.Scripts.{Owed}
use Rattle.relay_core.specs.Turns.{GainsNested, made_by}
use Rattle.relay_core.proofs.KeptScripts.{one_turn}
use Rattle.relay_core.proofs.KeptWhole.{hand_turn_cell, hand_other_cells, hand_turn_boxes}
use Rattle.board_turns.specs.InCells.{in_cell_of}
use Rattle.board_turns.specs.Closings.{leases_of_legs, closings_of}
use Rattle.board_turns.specs.Departures.{AllHaveEnds, cell_kept, leases_going}
use Rattle.board_turns.proofs.KeptEnds.{closings_alike, found_agrees}

some_is : {A : Type 0} (a b : A) → Some a ≡ Some b → a ≡ b
some_is a b e = cc

-- The legs that go.

-- the legs that pass, and the leases of those that do
abbrev holders_going : (Holder → Bool) → List CellLegShape → List Holder
holders_going goes legs = filter goes (map (λ (leg : CellLegShape). leg.holder) legs)

abbrev legs_going : (Holder → Bool) → List CellLegShape → List CellLegShape
legs_going goes legs = filter (λ (leg : CellLegShape). goes leg.holder) legs

abbrev leases_in : List CellLegShape → List Lease
leases_in legs = map (λ (leg : CellLegShape). leg.lease) legs

going_case : (config : Config) (cell call : ℕ) (goes : Holder → Bool) (leg : CellLegShape) (legs : List CellLegShape) → IsLegOf config cell call leg
    → pairs_in (leases_in (legs_going goes legs)) ≡ pairs_held (holders_going goes legs) → (t : Bool)
    → pairs_in (leases_in (cond t (leg ∷ legs_going goes legs) (legs_going goes legs))) ≡ pairs_held (cond t (leg.holder ∷ holders_going goes legs) (holders_going goes legs))
going_case config cell call goes leg legs is rest true =
    ap (λ (l : Lease). l.pair ∷ pairs_in (leases_in (legs_going goes legs))) is.lease_is ∙ ap (λ (ps : List ℕ). leg.holder.pair ∷ ps) rest
going_case config cell call goes leg legs is rest false = rest

-- their leases are of the pairs that they hold
going_pairs : (config : Config) (cell call : ℕ) (goes : Holder → Bool) (legs : List CellLegShape) → ((leg : CellLegShape) → In leg legs → IsLegOf config cell call leg)
    → pairs_in (leases_in (legs_going goes legs)) ≡ pairs_held (holders_going goes legs)
going_pairs config cell call goes [] are = refl
going_pairs config cell call goes (leg ∷ legs) are =
    going_case config cell call goes leg legs (are leg (here refl)) (going_pairs config cell call goes legs (λ l i. are l (there i))) (goes leg.holder)

-- The dialog.

-- the plan, once written, makes of the dialog what the answer signals
dialog_answered : (made written : Plan) (old new : Dialog) → written.signal ≡ made.signal → AnswerShapes made old written.next → AnswerCounts written old
    → DialogApplies written old new → DialogAnswered made.signal (dialog_shape old) (dialog_shape new)
dialog_answered made written old new same shapes counts applies = record {
  as_many = ap (λ (signal : List SectionSignal). length signal) (sym same) ∙ counts.signal_is;
  offered_is = applies.counts.offered_is ∙ counts.offered_is;
  committed_is = applies.counts.committed_is ∙ counts.committed_is;
  sections = λ section below.
      subst (λ (s : SectionShape). ShapeAnswered (slice_get made.signal section) s (section_kept (dialog_shape new) section)) (sym (section_of old section below))
      (subst (λ (s : SectionShape). ShapeAnswered (slice_get made.signal section) (shape_of old section) s) (sym (section_of new section below))
      (applies.answered made shapes section below));
}

-- The board takes an answer in: the live call of its plan has the dialog that the answer makes of its own.
pub record TakesAnswer (made : BoardPlan) (old new : Board) : Type 0 where
  pub call : LiveShape
  pub found : shape_numbered (board_shape old) made.call ≡ Some call
  pub cell_is : made.cell ≡ call.cell
  pub dialog : DialogShape
  pub answered : DialogAnswered made.plan.signal call.dialog dialog
  pub shape_is : board_shape new ≡ shape_gone_on made.call dialog (board_shape old)

pub takes_answer : (made written : BoardPlan) (old new : Board) → PlansReply old made → written ≡ record made { plan = written.plan }
    → written.plan.signal ≡ made.plan.signal
    → ((dialog : Dialog) → AnswerShapes made.plan dialog made.plan.next → AnswerShapes made.plan dialog written.plan.next)
    → ((dialog : Dialog) → AnswerCounts made.plan dialog → AnswerCounts written.plan dialog)
    → TakesPlanIn written written.begun old new → TakesAnswer made old new
takes_answer made written old new plans rest same shapes counts takes =
    let none : written.begun ≡ None = ap (λ (p : BoardPlan). p.begun) rest ∙ plans.begins_none in
    let at : written.call ≡ made.call = ap (λ (p : BoardPlan). p.call) rest in
    let live : LiveTakesIn made.call written.plan old new
    = subst (λ (number : ℕ). LiveTakesIn number written.plan old new) at (subst (λ (b : Option NewCall). TakesPlanIn written b old new) none takes) in
    let one : live.call ≡ plans.call = some_is live.call plans.call (sym live.found ∙ plans.found) in
    let applies : DialogApplies written.plan plans.call.dialog.value live.dialog
    = subst (λ (call : LiveCall). DialogApplies written.plan call.dialog.value live.dialog) one live.applies in
    record {
      call = live_shape plans.call;
      found = numbered_shape made.call old.calls.list plans.call plans.found;
      cell_is = plans.cell_is;
      dialog = dialog_shape live.dialog;
      answered = dialog_answered made.plan written.plan plans.call.dialog.value live.dialog same (shapes plans.call.dialog.value plans.shapes)
          (counts plans.call.dialog.value plans.counts) applies;
      shape_is = live.shape_is;
    }

-- The relay.

-- a call by its number and cell; of its call-id nothing is said
abbrev call_at : (number cell : ℕ) → Call
call_at number cell = record { number = number; cell = cell; id = [] }

module _ {M I O T : Type 0} {g : _} (config : Config) (number moment : ℕ) (old new : Hand M (Part I O) Made T g) (same : starts new ≡ starts old) where
  -- the call with this shape took the answer, its cell was told, and the legs of the rejected sections were closed
  answers_numbered : (board after : BoardShape) (call : ℕ) (k : LiveShape) (signal : List SectionSignal) (dialog : DialogShape) → shape_numbered board call ≡ Some k
      → DialogAnswered signal k.dialog dialog
      → GainsNested number moment (one_turn config [] (call_at call k.cell) (Commit signal) (gone_by_answer signal (cell_kept config old k.cell))) old new
      → after ≡ shape_returns (pairs_held (gone_by_answer signal (cell_kept config old k.cell))) (shape_gone_on call dialog board)
      → AnswersNumbered config (relay_after config (starts old) (made_by old) board) (relay_after config (starts new) (made_by new) after)
  answers_numbered board after call k signal dialog found answered gains is =
      let of = call_at call k.cell in
      let gone = gone_by_answer signal (cell_kept config old k.cell) in
      record {
        number = call;
        call = k;
        found = found;
        signal = signal;
        dialog = dialog;
        answered = answered;
        calls_are = ap (λ (s : BoardShape). s.calls) is;
        rest = record {
          config_is = ap (λ (s : BoardShape). s.config) is;
          begun_is = ap (λ (s : BoardShape). s.begun) is;
          taken_is = ap (λ (s : BoardShape). s.taken) is;
        };
        pool_is = ap (λ (s : BoardShape). s.pool) is;
        cell_is = hand_turn_cell config number moment [] of (Commit signal) gone old new same gains;
        others = hand_other_cells config number moment [] of (Commit signal) gone old new same gains;
        boxes = hand_turn_boxes config number moment [] of (Commit signal) gone old new same gains (λ a b i. elim i [ ]) (λ leg i. elim i [ ]);
      }

  -- where the legs that went are those of the rejected sections that the cell kept
  taken_keeps_whole : (made : BoardPlan) (board mid : Board) (after : BoardShape) (gone : List (Lease × O × O)) → (takes : TakesAnswer made board mid)
      → GainsNested number moment (in_cell_of takes.call.cell (Commit made.plan.signal) ∷ closings_of config gone) old new
      → (AllHaveEnds (cell_kept config old takes.call.cell)
      → leases_of_legs gone ≡ leases_going (λ (leg : Holder). is_rejected made.plan.signal leg.section) (cell_kept config old takes.call.cell))
      → after ≡ shape_returns (pairs_in (leases_of_legs gone)) (board_shape mid) → IsWholeWith config old (board_shape board) → IsWholeWith config new after
  taken_keeps_whole made board mid after gone takes gains left is whole =
      let k = takes.call in
      let signal = made.plan.signal in
      let relay = relay_after config (starts old) (made_by old) (board_shape board) in
      let next = relay_after config (starts new) (made_by new) after in
      let agrees = found_agrees config relay made.call k whole takes.found in
      let legs = gone_by_answer signal (cell_kept config old k.cell) in
      let pairs : pairs_in (leases_of_legs gone) ≡ pairs_held legs
      = ap pairs_in (left (λ leg i. (agrees.legs leg i).has_ends))
      ∙ going_pairs config k.cell k.number (λ (leg : Holder). is_rejected signal leg.section) (cell_kept config old k.cell).legs agrees.legs in
      let events = ap (λ (ws : List Owed). in_cell_of k.cell (Commit signal) ∷ ws) (closings_alike config gone legs pairs) in
      let step = answers_numbered (board_shape board) after made.call k signal takes.dialog takes.found takes.answered
      (subst (λ (ws : List Owed). GainsNested number moment ws old new) events gains)
      (is ∙ ap (λ (ps : List ℕ). shape_returns ps (board_shape mid)) pairs ∙ ap (shape_returns (pairs_held legs)) takes.shape_is) in
      goes_on_whole config relay next whole (answer_goes_on config relay next whole step)

  -- the answer's turn: its plan was written, the cell that the plan names was told what it signals, and the board took it in
  pub answer_keeps_whole : (made : BoardPlan) (board mid : Board) (after : BoardShape) (cell : ℕ) (signal : List SectionSignal) (gone : List (Lease × O × O))
      → cell ≡ made.cell → signal ≡ made.plan.signal → TakesAnswer made board mid
      → GainsNested number moment (in_cell_of cell (Commit signal) ∷ closings_of config gone) old new
      → (AllHaveEnds (cell_kept config old cell) → leases_of_legs gone ≡ leases_going (λ (leg : Holder). is_rejected signal leg.section) (cell_kept config old cell))
      → after ≡ shape_returns (pairs_in (leases_of_legs gone)) (board_shape mid) → IsWholeWith config old (board_shape board) → IsWholeWith config new after
  answer_keeps_whole made board mid after cell signal gone at said takes gains left is whole =
      taken_keeps_whole made board mid after gone takes
      (subst (λ (c : ℕ). GainsNested number moment (in_cell_of c (Commit made.plan.signal) ∷ closings_of config gone) old new) (at ∙ takes.cell_is)
      (subst (λ (s : List SectionSignal). GainsNested number moment (in_cell_of cell (Commit s) ∷ closings_of config gone) old new) said gains))
      (subst (λ (c : ℕ). AllHaveEnds (cell_kept config old c)
      → leases_of_legs gone ≡ leases_going (λ (leg : Holder). is_rejected made.plan.signal leg.section) (cell_kept config old c)) (at ∙ takes.cell_is)
      (subst (λ (s : List SectionSignal). AllHaveEnds (cell_kept config old cell)
      → leases_of_legs gone ≡ leases_going (λ (leg : Holder). is_rejected s leg.section) (cell_kept config old cell)) said left))
      is whole
