-- The shape of a board, and what each call makes of it. This is said of each board, also of one that stands for no history.
use Rattle.std.specs.Prelude.{◌≡◌, ◌<◌, ◌≤◌, ◌+◌, ◌-◌, ◌==◌, ℕ, zero, suc, Bool, true, false, List, [], ◌∷◌, ◌++◌, filter, map, replicate, Option, Some, None, slice_get, slice_index_or, slice_set, if◌then◌else◌}
use Rattle.std.specs.List.{list_any}
use Rattle.std.specs.Str.{bytes_eq}
use Rattle.relay_outside.specs.declared.address.Family.{Family}
use Rattle.relay_outside.specs.declared.address.Family.TheVariants.{V4, V6}
use Rattle.relay_outside.specs.declared.settings.Config.{Config}
use Rattle.histories.specs.Words.{first}
use Rattle.port_pool.specs.Ports.{family_eq}
use Rattle.port_pool.specs.Pools.{Pairs, IsFresh, free_pairs, family_in, after_return}
use Rattle.port_pool.specs.Leases.{LeasesFront}
use Rattle.port_pool.specs.Signals.{NewKey}
use Rattle.port_pool.specs.declared.pairs.Lease.{Lease}
use Rattle.offer_answer.specs.Rounds.{NewLeg}
use Rattle.offer_answer.specs.Sections.{most_sections}
use Rattle.offer_answer.specs.Shapes.{DialogShape, dialog_shape, shape_of, bare_shape, shape_offered, OfferShapes, FilledShapes}
use Rattle.offer_answer.specs.AnswerShapes.{ShapeAnswered, AnswerShapes}
use Rattle.offer_answer.specs.OfferPlaces.{OfferPlaces, AnswerCounts, TakesCounts}
use Rattle.offer_answer.specs.declared.dialog.Dialog.{Dialog}
use Rattle.offer_answer.specs.declared.plan.Plan.{Plan}
use Rattle.call_board.specs.declared.live_call.LiveCall.{LiveCall}
use Rattle.call_board.specs.declared.board.Board.{Board}
use Rattle.call_board.specs.declared.board_plan.NewCall.{NewCall}
use Rattle.call_board.specs.declared.board_plan.BoardPlan.{BoardPlan}

-- a live call: its number, its cell, and what its dialog keeps
pub record LiveShape : Type 0 where
  pub number : ℕ
  pub cell : ℕ
  pub dialog : DialogShape

abbrev pub live_shape : LiveCall → LiveShape
live_shape call = record { number = call.number; cell = call.cell; dialog = dialog_shape call.dialog.value }

abbrev pub live_shapes : List LiveCall → List LiveShape
live_shapes calls = map (λ (call : LiveCall). live_shape call) calls

-- What the relay is run with; the numbers of the next call and of the next key; the live calls in order of creation; for each cell, from 1,
-- whether it is taken; and the pairs.
pub record BoardShape : Type 0 where
  pub config : Config
  pub begun : ℕ
  pub drawn : ℕ
  pub calls : List LiveShape
  pub taken : List Bool
  pub pool : Pairs

abbrev pub board_shape : Board → BoardShape
board_shape board = record {
  config = board.config;
  begun = board.begun;
  drawn = board.drawn;
  calls = live_shapes board.calls.list;
  taken = board.taken.items;
  pool = board.pool;
}

-- a board before the first datagram
pub record IsFreshShape (config : Config) (shape : BoardShape) : Type 0 where
  pub config_is : shape.config ≡ config
  pub begun_is : shape.begun ≡ 0
  pub drawn_is : shape.drawn ≡ 0
  pub calls_are : shape.calls ≡ []
  pub taken_are : shape.taken ≡ replicate config.max_sessions false
  pub pool_is : IsFresh config shape.pool

-- one more key was drawn
abbrev pub shape_with_draw : BoardShape → BoardShape
shape_with_draw shape = record shape { drawn = shape.drawn + 1 }

-- the live call of this number
abbrev pub live_numbered : Board → ℕ → Option LiveCall
live_numbered board number = first (filter (λ (call : LiveCall). call.number == number) board.calls.list)

abbrev pub shape_numbered : BoardShape → ℕ → Option LiveShape
shape_numbered shape number = first (filter (λ (call : LiveShape). call.number == number) shape.calls)

-- The pairs.

abbrev pub with_pool : Pairs → BoardShape → BoardShape
with_pool pool shape = record shape { pool = pool }

-- for each of these legs in turn the front of its family's queue is leased and leaves it
abbrev pub LeasesLegs : Pairs → List NewLeg → List Lease → Pairs → Type 0
LeasesLegs old [] [] new = new ≡ old
LeasesLegs old [] (lease ∷ leases) new = ⊥
LeasesLegs old (leg ∷ legs) [] new = ⊥
LeasesLegs old (leg ∷ legs) (lease ∷ leases) new =
    (next : Pairs) × LeasesFront old leg.family (free_pairs old leg.family) (Some lease) next × LeasesLegs next legs leases new

-- and nothing else changes
pub record ShapeLeases (legs : List NewLeg) (leases : List Lease) (old new : BoardShape) : Type 0 where
  pub leases_are : LeasesLegs old.pool legs leases new.pool
  pub shape_is : new ≡ with_pool new.pool old

-- those of the pairs that are of this family
abbrev pub pairs_returned : Pairs → List ℕ → Family → List ℕ
pairs_returned pool pairs family = filter (λ pair. family_eq (family_in pool pair) family) pairs

-- these pairs came back in order: each waits after all that were free in its family and those that came before it
abbrev pub after_returns : Pairs → List ℕ → Pairs
after_returns pool pairs = record {
  first_port = pool.first_port;
  per_family = pool.per_family;
  free4 = pool.free4 ++ pairs_returned pool pairs V4;
  free6 = pool.free6 ++ pairs_returned pool pairs V6;
  generations = pool.generations;
}

-- and nothing else changes, where one came back, and where these did
abbrev pub shape_returned : ℕ → BoardShape → BoardShape
shape_returned pair shape = with_pool (after_return shape.pool pair) shape

abbrev pub shape_returns : List ℕ → BoardShape → BoardShape
shape_returns pairs shape = with_pool (after_returns shape.pool pairs) shape

-- The cells.

-- the cell, from 1, is taken or isn't; 0 is no cell
abbrev pub with_mark : ℕ → Bool → List Bool → List Bool
with_mark zero is_taken taken = taken
with_mark (suc place) is_taken taken = slice_set taken place is_taken

-- one of so many cells, from 1, that isn't taken
pub record IsFreeCell (count : ℕ) (taken : List Bool) (cell : ℕ) : Type 0 where
  pub from_one : 1 ≤ cell
  pub within : cell ≤ count
  pub is_free : slice_index_or taken (cell - 1) true ≡ false

-- Plans.

-- the plan of an offer of a live call, with the call's number and cell
pub record PlansLive (board : Board) (p : BoardPlan) : Type 0 where
  pub call : LiveCall
  pub found : live_numbered board p.call ≡ Some call
  pub cell_is : p.cell ≡ call.cell
  pub shapes : OfferShapes p.plan call.dialog.value p.plan.next
  pub places : OfferPlaces p.plan call.dialog.value

-- a dialog of which no section has pairs or keys, before its first offer
abbrev pub bare_dialog : DialogShape
bare_dialog = record { sections = replicate most_sections bare_shape; offered_count = 0; committed_count = 0 }

-- the plan of an offer that begins a call: the next one, in a cell that isn't taken, of a call-id that no live call has
pub record PlansFirst (board : Board) (p : BoardPlan) (begun : NewCall) : Type 0 where
  pub call_is : p.call ≡ board.begun
  pub cell_is : IsFreeCell board.config.max_sessions board.taken.items p.cell
  pub id_is_new : list_any (λ (call : LiveCall). bytes_eq call.id.list begun.id.list) board.calls.list ≡ false
  pub bare : dialog_shape begun.dialog.value ≡ bare_dialog
  pub shapes : OfferShapes p.plan begun.dialog.value p.plan.next
  pub places : OfferPlaces p.plan begun.dialog.value

abbrev pub PlansOfferOf : Board → BoardPlan → Option NewCall → Type 0
PlansOfferOf board p None = PlansLive board p
PlansOfferOf board p (Some begun) = PlansFirst board p begun

-- the plan of an answer to a live call's last offer, with the call's number and cell
pub record PlansReply (board : Board) (p : BoardPlan) : Type 0 where
  pub call : LiveCall
  pub found : live_numbered board p.call ≡ Some call
  pub cell_is : p.cell ≡ call.cell
  pub begins_none : p.begun ≡ None
  pub shapes : AnswerShapes p.plan call.dialog.value p.plan.next
  pub counts : AnswerCounts p.plan call.dialog.value

-- What a plan makes of the board that takes it in.

-- what it makes of the dialog: of an offer's, once it is filled, what the offer makes of it, and of an answer's what that does
pub record DialogApplies (plan : Plan) (old new : Dialog) : Type 0 where
  pub offered : (made : Plan) (ports : List ℕ) (keys : List NewKey) → FilledShapes made old ports keys plan.next →
      (section : ℕ) → section < 8 → shape_of new section ≡ shape_offered made ports keys section (shape_of old section)
  pub answered : (made : Plan) → AnswerShapes made old plan.next →
      (section : ℕ) → section < 8 → ShapeAnswered (slice_get made.signal section) (shape_of old section) (shape_of new section)
  pub counts : TakesCounts old plan.next new

-- the first live call of this number has that dialog
abbrev pub with_dialog_of : ℕ → DialogShape → List LiveShape → List LiveShape
with_dialog_of number dialog [] = []
with_dialog_of number dialog (call ∷ calls) =
    if call.number == number then record call { dialog = dialog } ∷ calls else call ∷ with_dialog_of number dialog calls

abbrev pub shape_gone_on : ℕ → DialogShape → BoardShape → BoardShape
shape_gone_on number dialog shape = record shape { calls = with_dialog_of number dialog shape.calls }

-- the live call of this number takes it in
pub record LiveTakesIn (number : ℕ) (plan : Plan) (old new : Board) : Type 0 where
  pub call : LiveCall
  pub found : live_numbered old number ≡ Some call
  pub dialog : Dialog
  pub applies : DialogApplies plan call.dialog.value dialog
  pub shape_is : board_shape new ≡ shape_gone_on number (dialog_shape dialog) (board_shape old)

-- one more call is live, in this cell, and with the next number
abbrev pub shape_begun : ℕ → DialogShape → BoardShape → BoardShape
shape_begun cell dialog shape = record {
  config = shape.config;
  begun = shape.begun + 1;
  drawn = shape.drawn;
  calls = shape.calls ++ record { number = shape.begun; cell = cell; dialog = dialog } ∷ [];
  taken = with_mark cell true shape.taken;
  pool = shape.pool;
}

-- the call that it begins takes it in
pub record NewTakesIn (begun : NewCall) (cell : ℕ) (plan : Plan) (old new : Board) : Type 0 where
  pub dialog : Dialog
  pub applies : DialogApplies plan begun.dialog.value dialog
  pub shape_is : board_shape new ≡ shape_begun cell (dialog_shape dialog) (board_shape old)

-- the board takes the plan in, where no live call has the call-id of one that it begins
abbrev pub TakesPlanIn : BoardPlan → Option NewCall → Board → Board → Type 0
TakesPlanIn p None old new = LiveTakesIn p.call p.plan old new
TakesPlanIn p (Some begun) old new =
    list_any (λ (call : LiveCall). bytes_eq call.id.list begun.id.list) old.calls.list ≡ false → NewTakesIn begun p.cell p.plan old new

-- The end of a call.

-- the live calls without the first of this number
abbrev pub without_live : ℕ → List LiveShape → List LiveShape
without_live number [] = []
without_live number (call ∷ calls) = if call.number == number then calls else call ∷ without_live number calls

abbrev pub shape_ended : ℕ → ℕ → BoardShape → BoardShape
shape_ended number cell shape = record shape { calls = without_live number shape.calls; taken = with_mark cell false shape.taken }

-- the live call of this number ends, and its cell isn't taken any more
pub record ShapeEnds (number cell : ℕ) (old new : BoardShape) : Type 0 where
  pub call : LiveShape
  pub found : shape_numbered old number ≡ Some call
  pub cell_is : cell ≡ call.cell
  pub shape_is : new ≡ shape_ended number cell old
