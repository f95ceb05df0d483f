-- Of each place: its steps are of its kind, are those that its history demands, and have the moments that they were handed.
use Rattle.std.proofs.Common.{◌≡◌, ◌∙◌, sym, ap, subst, refl, ℕ, zero, suc, ◌<◌, ◌≤◌, List, [], ◌∷◌, Some, None, map, arith, slice_get, take}
use Rattle.std.specs.List.{filter_map, cons_option}
use Rattle.relay_outside.specs.declared.ports.InCall.{InCall}
use Rattle.relay_outside.specs.declared.ports.OutCall.{OutCall}
use Rattle.relay_outside.specs.declared.settings.Config.{Config}
use Rattle.relay_outside.specs.DeviceLogs.{EndLog}
use Rattle.turn_table.specs.declared.machine.Entry as table
use Rattle.turn_table.specs.Histories.{Leaves}
use Rattle.histories.specs.Words.{In, here, there, greatest}
use Rattle.port_pool.specs.declared.boxes.PairBox.{PairBox}
use Rattle.port_pool.specs.Signals.{NewKey}
use Rattle.port_pool.specs.PairBoxes.{BoxFor}
use Rattle.call_cell.specs.declared.cell.Cell as cell
use Rattle.call_cell.specs.Cells.{CellEvent, CellEntry, Prepare, Commit, Relay, Expire, Read, End, keys_of, key_numbered}
use Rattle.call_cell.specs.Demands.{FitsCell}
use Rattle.call_cell.specs.Good.{FittingCell, empty, longer}
use Rattle.call_cell.specs.CellHistories as cells
use Rattle.call_board.specs.declared.board.Board as board
use Rattle.call_board.specs.Acts.{BoardEntry}
use Rattle.call_board.specs.Boards.{BoardFor}
use Rattle.call_board.specs.Fits.{IsFitting}
use Rattle.relay_core.specs.declared.part.Part.{Part}
use Rattle.relay_core.specs.declared.part.Part.TheVariants as part
use Rattle.relay_core.specs.Entries.{Event, Board, Cell, Box, Entry, board_at, cell_at, board_entry, cell_entry, box_event}
use Rattle.relay_core.specs.Legal.{StandsAt}
use Rattle.relay_core.specs.Records.{Made, entry_of, moment_of}
use Rattle.relay_core.specs.Steps.{BoardSteps, BoxSteps, CellStepsBy, CellSteps}
use Rattle.relay_core.specs.FirstPlaces.{BeginsAs}
use Rattle.relay_core.specs.Joins.{IsAtPlace}
use Rattle.relay_core.specs.PlaceHistories.{logged_entry, CellStands, BringsNewKeys, Stands, IsCellPart}
use Rattle.relay_core.proofs.Stays.{Steps, new_recorded, GivesBack, board_step_at}
use Rattle.relay_core.proofs.Filling.{cell_fills}
use Rattle.relay_core.proofs.Filled.{FitsTold}

-- The state before and after the step with this number.
pub record IsStepAt {S E O : Type 0} (relates : S → E → O → S → Type 0) (a : S) (rows : List (table.Entry E O)) (n : ℕ) (row : table.Entry E O) : Type 0 where
  pub old : S
  pub new : S
  pub before : Leaves relates a (take n rows) old
  pub step : relates old row.event row.outcome new
  pub after : Leaves relates a (take (suc n) rows) new

pub step_at : {S E O : Type 0} (relates : S → E → O → S → Type 0) (a b : S) (rows : List (table.Entry E O)) → Leaves relates a rows b
    → (n : ℕ) (row : table.Entry E O) → slice_get rows n ≡ Some row → IsStepAt relates a rows n row
step_at relates a b [] l n row q = absurd (let k : None ≡ Some row = q in cc)
step_at {O = O} relates a b (r ∷ rows) l zero row q =
    let k : Some r ≡ Some row = q in
    let same : r ≡ row = cc in
    record {
      old = a;
      new = l.0;
      before = refl;
      step = subst (λ (x : table.Entry _ O). relates a x.event x.outcome l.0) same l.1;
      after = (l.0, l.1, refl);
    }
step_at relates a b (r ∷ rows) l (suc n) row q =
    let s = step_at relates l.0 b rows l.2 n row q in
    record { old = s.old; new = s.new; before = (l.0, l.1, s.before); step = s.step; after = (l.0, l.1, s.after) }

-- The kinds of places.

module _ {I O : Type 0} where
  pub begins_kind : (config : Config) (k : ℕ) (a : Part I O) → BeginsAs config k a → IsAtPlace config k a
  begins_kind config k (part.Board b) is = is.0
  begins_kind config k (part.Cell c) is = (is.0, is.1)
  begins_kind config k (part.Pair b) is = is.0

  pub begins_stands : (config : Config) (k : ℕ) (a : Part I O) → BeginsAs config k a → Stands config a []
  begins_stands config k (part.Board b) is = (tt, is.1)
  begins_stands config k (part.Cell c) is = record { history = []; is_recorded = refl; fitting = empty; stands = is.2 }
  begins_stands config k (part.Pair b) is = (tt, is.1.0)

-- an event at its kind of place; those of boxes have the moment 0
abbrev pub IsPlaced : Config → ℕ → ℕ → Event → Type 0
IsPlaced config k moment v = StandsAt config k v × (config.max_sessions < k → moment ≡ 0)

board_placed : (config : Config) (k : ℕ) (old new : board.Board) (made : Made) (v : Event) → BoardSteps old made v new → k ≡ 0 → IsPlaced config k made.moment v
board_placed config k old new made (Board e) step is = (is, λ above. absurd (omega (arith, is, above)))
board_placed config k old new made (Cell e) step is = absurd step
board_placed config k old new made (Box e) step is = absurd step

cell_placed : {O : Type 0} (ot : O → EndLog OutCall) (oc : O → ℕ) (config : Config) (k : ℕ) (old new : cell.Cell O) (made : Made) (v : Event)
    → CellSteps ot oc old made v new → (1 ≤ k) × (k ≤ config.max_sessions) → IsPlaced config k made.moment v
cell_placed ot oc config k old new made (Cell e) step is = (is, λ above. absurd (let low = is.1 in omega (arith, low, above)))
cell_placed ot oc config k old new made (Board e) step is = absurd step
cell_placed ot oc config k old new made (Box e) step is = absurd step

box_placed : {I : Type 0} (it : I → EndLog InCall) (ic : I → ℕ) (config : Config) (k : ℕ) (old new : PairBox I) (made : Made) (v : Event)
    → BoxSteps it ic old made v new → config.max_sessions < k → IsPlaced config k made.moment v
box_placed it ic config k old new made (Box e) step is = (is, λ above. step.moment_is)
box_placed it ic config k old new made (Board e) step is = absurd step
box_placed it ic config k old new made (Cell e) step is = absurd step

-- The moments of a place.

abbrev pub moments : List Entry → List ℕ
moments h = map (λ (e : Entry). e.moment) h

-- all of a place's history stands at its kind of place
abbrev pub ArePlaced : Config → ℕ → List Entry → Type 0
ArePlaced config k h = (e : Entry) → In e h → IsPlaced config k e.moment e.event

board_moment : (config : Config) (k m : ℕ) (v : Event) (t : List BoardEntry) (ms : List ℕ) → StandsAt config k v → k ≡ 0
    → map (λ (e : BoardEntry). e.moment) t ≡ ms → map (λ (e : BoardEntry). e.moment) (cons_option (board_at m v) t) ≡ m ∷ ms
board_moment config k m (Board e) t ms at is rest = ap (λ (xs : List ℕ). m ∷ xs) rest
board_moment config k m (Cell e) t ms at is rest = absurd (let low = at.0 in omega (arith, low, is))
board_moment config k m (Box e) t ms at is rest = absurd (let low = at in omega (arith, low, is))

board_moments : (config : Config) (k : ℕ) (h : List Entry) → ArePlaced config k h → k ≡ 0
    → map (λ (e : BoardEntry). e.moment) (filter_map board_entry h) ≡ moments h
board_moments config k [] placed is = refl
board_moments config k (e ∷ h) placed is =
    board_moment config k e.moment e.event (filter_map board_entry h) (moments h) (placed e (here refl)).0 is
    (board_moments config k h (λ f i. placed f (there i)) is)

cell_moment : (config : Config) (k m : ℕ) (v : Event) (t : List CellEntry) (ms : List ℕ) → StandsAt config k v → (1 ≤ k) × (k ≤ config.max_sessions)
    → map (λ (e : CellEntry). e.moment) t ≡ ms → map (λ (e : CellEntry). e.moment) (cons_option (cell_at m v) t) ≡ m ∷ ms
cell_moment config k m (Cell e) t ms at is rest = ap (λ (xs : List ℕ). m ∷ xs) rest
cell_moment config k m (Board e) t ms at is rest = absurd (let low = is.0 in omega (arith, low, at))
cell_moment config k m (Box e) t ms at is rest = absurd (let high = is.1 in omega (arith, high, at))

cell_moments : (config : Config) (k : ℕ) (h : List Entry) → ArePlaced config k h → (1 ≤ k) × (k ≤ config.max_sessions)
    → map (λ (e : CellEntry). e.moment) (filter_map cell_entry h) ≡ moments h
cell_moments config k [] placed is = refl
cell_moments config k (e ∷ h) placed is =
    cell_moment config k e.moment e.event (filter_map cell_entry h) (moments h) (placed e (here refl)).0 is
    (cell_moments config k h (λ f i. placed f (there i)) is)

-- a box's last moment is 0
box_moments : (config : Config) (k : ℕ) (h : List Entry) → ArePlaced config k h → config.max_sessions < k → greatest (moments h) ≡ 0
box_moments config k [] placed above = refl
box_moments config k (e ∷ h) placed above =
    let m = (placed e (here refl)).1 above in
    let rest = box_moments config k h (λ f i. placed f (there i)) above in
    omega (arith, m, rest)

-- what is recorded of a cell's history has its moments
told_moments : (h : List CellEntry) → map (λ (e : CellEntry). e.moment) (map logged_entry h) ≡ map (λ (e : CellEntry). e.moment) h
told_moments [] = refl
told_moments (e ∷ h) = ap (λ (ms : List ℕ). e.moment ∷ ms) (told_moments h)

-- One step, after what is recorded of its place.

-- the event is what the place's history demands, and has the moment that it was handed, where none of the place is later
abbrev pub IsRight : Config → List Entry → Made → Event → Type 0
IsRight config past made v = FitsTold config past made.moment v × (made.moment ≡ moment_of v made.handed (greatest (moments past)))

board_right : (config : Config) (k : ℕ) (old new : board.Board) (made : Made) (v : Event) (past : List Entry) → GivesBack made v (filter_map board_entry past)
    → BoardSteps old made v new → IsFitting config (filter_map board_entry past) × BoardFor config old (filter_map board_entry past) → ArePlaced config k past → k ≡ 0
    → IsRight config past made v
board_right config k old new made (Board e) past gives steps for placed is = (
  tt,
  (board_step_at config old new made e (filter_map board_entry past) steps for gives).moment_is
      ∙ ap (λ (ms : List ℕ). moment_of (Board e) made.handed (greatest ms)) (board_moments config k past placed is),
)
board_right config k old new made (Cell e) past gives steps for placed is = absurd steps
board_right config k old new made (Box e) past gives steps for placed is = absurd steps

box_right : {I : Type 0} (it : I → EndLog InCall) (ic : I → ℕ) (config : Config) (k : ℕ) (old new : PairBox I) (made : Made) (v : Event) (past : List Entry)
    → BoxSteps it ic old made v new → BoxFor old (filter_map box_event past) → ArePlaced config k past → config.max_sessions < k → IsRight config past made v
box_right it ic config k old new made (Box e) past step for placed above =
    ((step.stands (filter_map box_event past) for).0, step.moment_is ∙ sym (box_moments config k past placed above))
box_right it ic config k old new made (Board e) past step for placed above = absurd step
box_right it ic config k old new made (Cell e) past step for placed above = absurd step

cell_timed : {O : Type 0} (ot : O → EndLog OutCall) (oc : O → ℕ) (config : Config) (old new : cell.Cell O) (made : Made) (c : CellEvent)
    (recorded : List CellEntry) → ((key : NewKey) → In key (keys_of c) → key_numbered recorded key.number ≡ None)
    → CellStepsBy ot oc old made c new → (for : CellStands config old recorded)
    → made.moment ≡ moment_of (Cell c) made.handed (cells.cell_last_moment for.history)
cell_timed ot oc config old new made (Prepare call legs keys dropped) recorded fresh step for =
    (step.steps config for.history for.stands (new_recorded for.history recorded keys for.is_recorded fresh)).0
cell_timed ot oc config old new made (Commit signal) recorded fresh step for = (step.steps config for.history for.stands).0
cell_timed ot oc config old new made (Relay x) recorded fresh step for = (step.steps config for.history x.packet.take for.stands).0
cell_timed ot oc config old new made (Expire due) recorded fresh step for = (step.steps config for.history for.stands).0
cell_timed ot oc config old new made (Read reports) recorded fresh step for = (step.steps config for.history for.stands).0
cell_timed ot oc config old new made End recorded fresh step for = (step.steps config for.history for.stands).0

fits_head : {config : Config} {e : CellEntry} {h : List CellEntry} → FittingCell config (e ∷ h) → FitsCell config h e
fits_head (longer fits rest) = fits

abbrev head_event : CellEvent → List CellEntry → CellEvent
head_event c [] = c
head_event c (e ∷ h) = e.event

cell_right : {O : Type 0} (ot : O → EndLog OutCall) (oc : O → ℕ) (config : Config) (k : ℕ) (old new : cell.Cell O) (made : Made) (v : Event)
    (past : List Entry) → BringsNewKeys (cons_option (cell_at made.moment v) (filter_map cell_entry past)) → CellSteps ot oc old made v new
    → CellStands config old (filter_map cell_entry past) → CellStands config new (cons_option (cell_at made.moment v) (filter_map cell_entry past))
    → ArePlaced config k past → (1 ≤ k) × (k ≤ config.max_sessions) → IsRight config past made v
cell_right ot oc config k old new made (Cell c) past fresh step for next placed is =
    let f = cell_fills config new (cons_option (cell_at made.moment (Cell c)) (filter_map cell_entry past)) next in
    let timed = cell_timed ot oc config old new made c (filter_map cell_entry past) fresh.0 step for in
    let same : map (λ (e : CellEntry). e.moment) for.history ≡ moments past
    = sym (told_moments for.history) ∙ ap (λ (h : List CellEntry). map (λ (e : CellEntry). e.moment) h) for.is_recorded ∙ cell_moments config k past placed is in (
      (fits_head f.fitting, ap (λ (h : List CellEntry). head_event c h) f.is_recorded),
      timed ∙ ap (λ (ms : List ℕ). moment_of (Cell c) made.handed (greatest ms)) same,
    )
cell_right ot oc config k old new made (Board e) past fresh step for next placed is = absurd step
cell_right ot oc config k old new made (Box e) past fresh step for next placed is = absurd step

-- Any place.

module _ {T I O : Type 0} (it : I → EndLog InCall) (ic : I → ℕ) (ot : O → EndLog OutCall) (oc : O → ℕ) where
  kind_step : (config : Config) (k : ℕ) (old new : Part I O) (made : Made) (o : T) → Steps it ic ot oc old made o new → IsAtPlace config k old → IsAtPlace config k new
  kind_step config k (part.Board old) (part.Board new) made o step is = is
  kind_step config k (part.Cell old) (part.Cell new) made o step is = is
  kind_step config k (part.Pair old) (part.Pair new) made o step is = is
  kind_step config k _ _ made o step is = absurd step

  pub kind_stays : (config : Config) (k : ℕ) (a b : Part I O) (rows : List (table.Entry Made T)) → Leaves (Steps it ic ot oc) a rows b
      → IsAtPlace config k a → IsAtPlace config k b
  kind_stays config k a b [] same is = subst (λ (x : Part I O). IsAtPlace config k x) same is
  kind_stays config k a b (row ∷ rows) l is = kind_stays config k l.0 b rows l.2 (kind_step config k a l.0 row.event row.outcome l.1 is)

  pub step_placed : (config : Config) (k : ℕ) (old new : Part I O) (made : Made) (o : T) → Steps it ic ot oc old made o new → IsAtPlace config k old
      → IsPlaced config k made.moment made.event
  step_placed config k (part.Board old) (part.Board new) made o step is = board_placed config k old new made made.event step is
  step_placed config k (part.Cell old) (part.Cell new) made o step is = cell_placed ot oc config k old new made made.event step is
  step_placed config k (part.Pair old) (part.Pair new) made o step is = box_placed it ic config k old new made made.event step is
  step_placed config k _ _ made o step is = absurd step

  pub step_right : (config : Config) (k : ℕ) (old new : Part I O) (row : table.Entry Made T) (past : List Entry)
      → (IsCellPart old → BringsNewKeys (filter_map cell_entry (entry_of row ∷ past)))
      → GivesBack row.event row.event.event (filter_map board_entry past) → Steps it ic ot oc old row.event row.outcome new
      → Stands config old past → Stands config new (entry_of row ∷ past) → ArePlaced config k past → IsAtPlace config k old
      → IsRight config past row.event row.event.event
  step_right config k (part.Board old) (part.Board new) row past fresh gives step for next placed is =
      board_right config k old new row.event row.event.event past gives step for placed is
  step_right config k (part.Cell old) (part.Cell new) row past fresh gives step for next placed is =
      cell_right ot oc config k old new row.event row.event.event past (fresh tt) step for next placed is
  step_right config k (part.Pair old) (part.Pair new) row past fresh gives step for next placed is =
      box_right it ic config k old new row.event row.event.event past step for.1 placed is
  step_right config k _ _ row past fresh gives step for next placed is = absurd step
