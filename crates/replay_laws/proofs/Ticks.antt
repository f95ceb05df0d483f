-- Two ticks after one history of the board, and of each cell, end the same calls.
use Rattle.std.proofs.Common.{◌≡◌, ◌∙◌, sym, ap, subst, refl, ℕ, max, List, [], ◌∷◌, map, filter, length, Bool, true, false, cond}
use Rattle.histories.specs.Words.{In, here, there, has}
use Rattle.relay_outside.specs.declared.settings.Config.{Config}
use Rattle.call_cell.specs.Cells.{CellEntry, since_end}
use Rattle.call_cell.specs.CellHistories as standing
use Rattle.call_cell.specs.Demands.{is_due}
use Rattle.call_board.specs.Acts.{Call, BoardEntry}
use Rattle.call_board.specs.Calls.{live, is_due_by, is_due_at}
use Rattle.call_board.specs.Views.{board_last_moment}
use Rattle.relay_core.specs.Entries.{Entry}
use Rattle.board_turns.specs.Between.{board_of}
use Rattle.board_turns.specs.Ticks.{IsDueBy, EndsRightly, tick_entry}
use Rattle.relay_script.specs.EventLines as event
use Rattle.relay_script.specs.EventLines.{Printed}
use Rattle.replay_steps.specs.Steps.{TicksAt}
use Rattle.replay_laws.proofs.Boards.{SameBoards}
use Rattle.replay_laws.proofs.Lists.{told_once}
use Rattle.replay_laws.proofs.Relays.{SameCells}
use Rattle.replay_laws.proofs.Turned.{turn_fits}

-- the call of a cell has timed out in both or in neither
due_once : (config : Config) (l k : List Entry) (cell moment : ℕ) (a b : Bool) → SameCells l k → IsDueBy config l cell moment a → IsDueBy config k cell moment b → a ≡ b
due_once config l k cell moment a b cells x y =
    let same = told_once config x.history y.history (x.recorded ∙ cells cell x.number y.number x.at_front y.at_front ∙ sym y.recorded) x.fitting y.fitting in
    x.due_is ∙ ap (λ (h : List CellEntry). is_due config (since_end h) (max moment (standing.cell_last_moment h))) same ∙ sym y.due_is

-- a call that is due in both or in neither ends in both or in neither
ends_once : (config : Config) (h g : List BoardEntry) (l k : List Entry) (moment : ℕ) (c : Call) (a b due : Bool) → SameCells l k
    → is_due_at h c.number moment ≡ due → is_due_at g c.number moment ≡ due → EndsRightly config h l moment c a → EndsRightly config g k moment c b → a ≡ b
ends_once config h g l k moment c a b true cells is too x y = x.when_due is ∙ sym (y.when_due too)
ends_once config h g l k moment c a b false cells is too x y = due_once config l k c.cell moment a b cells (x.when_timed_out is) (y.when_timed_out too)

filtered_case : (x : Call) (p q : Bool) (rest more : List Call) → p ≡ q → rest ≡ more → cond p (x ∷ rest) rest ≡ cond q (x ∷ more) more
filtered_case x p q rest more same equal =
    ap (λ (b : Bool). cond b (x ∷ rest) rest) same ∙ ap (λ (cs : List Call). cond q (x ∷ cs) cs) equal

filter_once : (p q : Call → Bool) (xs : List Call) → ((x : Call) → In x xs → p x ≡ q x) → filter p xs ≡ filter q xs
filter_once p q [] same = refl
filter_once p q (x ∷ xs) same =
    filtered_case x (p x) (q x) (filter p xs) (filter q xs) (same x (here refl)) (filter_once p q xs (λ y i. same y (there i)))

abbrev names : List Call → Call → Bool
names calls c = has (map (λ (d : Call). d.number) calls) c.number

pub tick_once : (config : Config) (clock : ℕ) (l k : List Entry) (e f : Printed) (new more : List Entry) → SameBoards config (board_of l) (board_of k) → SameCells l k
    → (a : TicksAt config clock l e new) → (b : TicksAt config clock k f more) → (e ≡ f) × (a.calls ≡ b.calls)
tick_once config clock l k e f new more board cells a b =
    let m = turn_fits config l (tick_entry (board_of l) clock a.calls) new a.turns in
    let n = turn_fits config k (tick_entry (board_of k) clock b.calls) more b.turns in
    let same : (c : Call) → In c (live (board_of l)) → names a.calls c ≡ names b.calls c =
    (λ c i.
    let j : In c (live (board_of k)) = subst (λ (cs : List Call). In c cs) board.live_is i in
    let time : max clock (board_last_moment (board_of k)) ≡ max clock (board_last_moment (board_of l)) = ap (max clock) (sym board.moment_is) in
    let moment : ℕ = max clock (board_last_moment (board_of l)) in
    ends_once config (board_of l) (board_of k) l k moment c (names a.calls c) (names b.calls c) (is_due_at (board_of k) c.number moment) cells
    (ap (is_due_by moment) (board.dues_are c.number)) refl (a.due c i)
    (subst (λ (t : ℕ). EndsRightly config (board_of k) k t c (names b.calls c)) time (b.due c j))) in
    let calls : a.calls ≡ b.calls =
    m.0 ∙ filter_once (names a.calls) (names b.calls) (live (board_of l)) same ∙ ap (filter (names b.calls)) board.live_is ∙ sym n.0 in
    (a.printed ∙ ap (λ (cs : List Call). event.Ended (length cs)) calls ∙ sym b.printed, calls)
