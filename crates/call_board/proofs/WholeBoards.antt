-- A board that stands for a history is one that is saved: its calls' numbers rise, and no two have one call-id or one cell.
use Rattle.std.proofs.Common.{◌≡◌, ◌∙◌, refl, sym, ap, subst, ℕ, zero, suc, ◌+◌, ◌≤◌, ◌<◌, List, [], ◌∷◌, map, filter, length, Bool, true, false, cond, not, arith}
use Rattle.std.specs.List.{list_any}
use Rattle.std.specs.Str.{bytes_eq}
use Rattle.std.specs.Cmp.Lexicographic.{bytes_decides}
use Rattle.relay_outside.specs.declared.settings.Config.{Config}
use Rattle.histories.specs.Words.{In, here, there, has, numbers}
use Rattle.histories.proofs.Lists.{mapped, maps, any_is_in}
use Rattle.port_pool.specs.Pools.{AreFree, AreFrom}
use Rattle.port_pool.specs.SavedPools.{FitsPool}
use Rattle.cookie_cache.specs.Saved.{FitsCache}
use Rattle.call_board.specs.declared.live_call.LiveCall.{LiveCall}
use Rattle.call_board.specs.declared.board.Board.{Board}
use Rattle.call_board.specs.declared.saved_board.BoardSaved.{BoardSaved}
use Rattle.call_board.specs.Acts.{Call, BoardEntry}
use Rattle.call_board.specs.Calls.{begun, live, has_ended}
use Rattle.call_board.specs.Fits.{IsFitting}
use Rattle.call_board.specs.Views.{CallView, call_view, view_of}
use Rattle.call_board.specs.CallNumbers.{AreBelow}
use Rattle.call_board.specs.Boards.{CallFor, CallsFor, BoardFor}
use Rattle.call_board.specs.SavedBoards.{AreWholeCalls, IdsApart, MarksCells, WholeBoard, BoardSaves, NoBoardSaves, cells_of_live, ids_of_live}
use Rattle.call_board.proofs.Once.{Once}
use Rattle.call_board.proofs.Sieves.{is_out}
use Rattle.call_board.proofs.Calls.{begun_numbers}
use Rattle.call_board.proofs.Cells.{live_cells_once, live_cell}
use Rattle.call_board.proofs.Ids.{live_ids}
use Rattle.call_board.proofs.FreeAfter.{live_once}
use Rattle.call_board.proofs.SavedLoading.{RiseBelow, numbers_of_live}
use Rattle.call_board.proofs.SavedMoves.{cells_shown}

abbrev number_of : Call → ℕ
number_of c = c.number

abbrev cell_of : Call → ℕ
cell_of c = c.cell

abbrev id_of : Call → List ℕ
id_of c = c.id

-- what is kept of the calls is what the history tells of them
shown_map : {A : Type 0} (f : LiveCall → A) (g : Call → A) (config : Config) (h : List BoardEntry) → ((call : LiveCall) (c : CallView) → CallFor config call c → f call ≡ g c.of)
    → (calls : List LiveCall) (cs : List Call) → CallsFor config calls (map (call_view h) cs) → map f calls ≡ map g cs
shown_map f g config h same [] [] is = refl
shown_map f g config h same [] (c ∷ cs) is = absurd is
shown_map f g config h same (call ∷ calls) [] is = absurd is
shown_map f g config h same (call ∷ calls) (c ∷ cs) is = λ i. same call (call_view h c) is.0 i ∷ shown_map f g config h same calls cs is.1 i

-- ---- numbers

head_is : (a b : ℕ) (xs ys : List ℕ) → ◌≡◌ {A = List ℕ} (a ∷ xs) (b ∷ ys) → (a ≡ b) × (xs ≡ ys)
head_is a b xs ys e = (cc, cc)

lower : (from other : ℕ) (ns : List ℕ) (below : ℕ) → from ≤ other → RiseBelow other ns below → RiseBelow from ns below
lower from other [] below le rise = omega (arith, le, rise)
lower from other (n ∷ ns) below le rise = (omega (arith, le, rise.0), rise.1)

-- some of the numbers from one on
some_rise : (p : Call → Bool) (from count : ℕ) (cs : List Call) → map number_of cs ≡ numbers from count → RiseBelow from (map number_of (filter p cs)) (from + count)
some_rise p from count [] is = omega arith
some_rise p from zero (c ∷ cs) is = let e : ◌≡◌ {A = List ℕ} (c.number ∷ map number_of cs) [] = is in absurd (cc)
some_rise p from (suc count) (c ∷ cs) is =
    let parts = head_is c.number from (map number_of cs) (numbers (suc from) count) is in
    let top : suc from + count ≡ from + suc count = omega arith in
    let rest : RiseBelow (suc from) (map number_of (filter p cs)) (from + suc count) =
    subst (λ (n : ℕ). RiseBelow (suc from) (map number_of (filter p cs)) n) top (some_rise p (suc from) count cs parts.1) in
    by_test (p c) parts.0 rest
  where
    by_test : (b : Bool) → c.number ≡ from → RiseBelow (suc from) (map number_of (filter p cs)) (from + suc count)
        → RiseBelow from (map number_of (cond b (c ∷ filter p cs) (filter p cs))) (from + suc count)
    by_test true at rest = (omega (arith, at), subst (λ (n : ℕ). RiseBelow n (map number_of (filter p cs)) (from + suc count)) (omega (arith, at)) rest)
    by_test false at rest = lower from (suc from) (map number_of (filter p cs)) (from + suc count) (omega arith) rest

below_of : (from : ℕ) (calls : List LiveCall) (below : ℕ) → RiseBelow from (numbers_of_live calls) below → AreBelow from calls below
below_of from [] below rise = rise
below_of from (call ∷ calls) below rise = (rise.0, below_of (call.number + 1) calls below rise.1)

-- the numbers of the live calls rise
live_rise : (config : Config) (h : List BoardEntry) → IsFitting config h → RiseBelow 0 (map number_of (live h)) (length (begun h))
live_rise config h fits =
    let count = length (begun h) in
    let all : 0 + count ≡ count = omega arith in
    subst (λ (n : ℕ). RiseBelow 0 (map number_of (live h)) n) all (some_rise (λ c. not (has_ended h c)) 0 count (begun h) (begun_numbers config h fits))

-- ---- call-ids

no_other : (c : Call) (cs : List Call) → (In c.number (map number_of cs) → ⊥) → ((d : Call) → In d cs → d.id ≡ c.id → d ≡ c) → list_any (λ other. bytes_eq other c.id) (map id_of cs) ≡ false
no_other c cs out same = by_test (list_any (λ other. bytes_eq other c.id) (map id_of cs)) refl
  where
    by_test : (b : Bool) → list_any (λ other. bytes_eq other c.id) (map id_of cs) ≡ b → list_any (λ other. bytes_eq other c.id) (map id_of cs) ≡ false
    by_test false is = is
    by_test true is =
        let found = any_is_in (λ other. bytes_eq other c.id) (map id_of cs) is in
        let from = mapped id_of cs found.is_in in
        let id : from.from.id ≡ c.id = from.makes ∙ (bytes_decides found.from c.id).0 found.makes in
        let call : from.from ≡ c = same from.from from.is_in id in
        absurd (out (subst (λ (d : Call). In d.number (map number_of cs)) call (maps number_of cs from.is_in)))

ids_apart : (cs : List Call) → Once (map number_of cs) → ((c d : Call) → In c cs → In d cs → c.id ≡ d.id → c ≡ d) → IdsApart (map id_of cs)
ids_apart [] once same = tt
ids_apart (c ∷ cs) once same =
    (no_other c cs once.0 (λ d i e. same d c (there i) (here refl) e), ids_apart cs once.1 (λ d x i j e. same d x (there i) (there j) e))

-- ---- cells

cells_free : (count : ℕ) (cells : List ℕ) → Once cells → ((n : ℕ) → In n cells → n < count) → AreFree count cells
cells_free count [] once below = tt
cells_free count (n ∷ cells) once below = (below n (here refl), is_out n cells once.0, cells_free count cells once.1 (λ m i. below m (there i)))

cells_from : (cells : List ℕ) → ((n : ℕ) → In n cells → 1 ≤ n) → AreFrom 1 cells
cells_from [] low = tt
cells_from (n ∷ cells) low = (low n (here refl), cells_from cells (λ m i. low m (there i)))

live_within : (config : Config) (h : List BoardEntry) → IsFitting config h → (n : ℕ) → In n (map cell_of (live h)) → (1 ≤ n) × (n ≤ config.max_sessions)
live_within config h fits n i =
    let from = mapped cell_of (live h) i in
    subst (λ (m : ℕ). (1 ≤ m) × (m ≤ config.max_sessions)) from.makes (live_cell config h from.from fits from.is_in)

-- ---- the board

whole_calls : (config : Config) (board : Board) (h : List BoardEntry) → IsFitting config h → BoardFor config board h → AreWholeCalls board.begun board.config.max_sessions board.calls.list
whole_calls config board h fits is =
    let calls = board.calls.list in
    let number = shown_map (λ (call : LiveCall). call.number) number_of config h (λ call c s. s.number_is) calls (live h) is.calls_for in
    let cell = shown_map (λ (call : LiveCall). call.cell) cell_of config h (λ call c s. s.cell_is) calls (live h) is.calls_for in
    let id = shown_map (λ (call : LiveCall). call.id.list) id_of config h (λ call c s. s.id_is) calls (live h) is.calls_for in
    let most : config.max_sessions ≡ board.config.max_sessions = ap (λ (c : Config). c.max_sessions) (sym is.config_is) in
    record {
      numbers = below_of 0 calls board.begun
          (subst (λ (ns : List ℕ). RiseBelow 0 ns board.begun) (sym number) (subst (λ (n : ℕ). RiseBelow 0 (map number_of (live h)) n) (sym is.begun_is) (live_rise config h fits)));
      ids = subst IdsApart (sym id) (ids_apart (live h) (live_once config h fits) (λ c d i j e. live_ids config h c d fits i j e));
      cells = subst (AreFree (board.config.max_sessions + 1)) (sym cell)
          (cells_free (board.config.max_sessions + 1) (map cell_of (live h)) (live_cells_once config h fits) (λ n i. let within = live_within config h fits n i in omega (arith, within.1, most)));
      from_one = subst (AreFrom 1) (sym cell) (cells_from (map cell_of (live h)) (λ n i. (live_within config h fits n i).0));
    }

marked : (config : Config) (board : Board) (h : List BoardEntry) → BoardFor config board h → MarksCells board.config.max_sessions board.taken.items (cells_of_live board.calls.list)
marked config board h is = record {
  count_is = is.cells_for.count_is ∙ ap (λ (c : Config). c.max_sessions) (sym is.config_is);
  marks_are = λ k d below. is.cells_for.taken_are k d below
      ∙ ap (λ (cells : List ℕ). has cells (1 + k)) (sym (cells_shown config board.calls.list (map (call_view h) (live h)) is.calls_for));
}

pub board_whole : (config : Config) (board : Board) (h : List BoardEntry) → IsFitting config h → BoardFor config board h → FitsPool board.pool → FitsCache board.replies → WholeBoard board
board_whole config board h fits is pool replies =
    record { calls = whole_calls config board h fits is; marks = marked config board h is; pool = pool; replies = replies }

pub board_loads : (config : Config) (board : Board) (h : List BoardEntry) (saved : BoardSaved) → IsFitting config h → BoardFor config board h → FitsPool board.pool → FitsCache board.replies
    → BoardSaves board saved → NoBoardSaves saved → ⊥
board_loads config board h saved fits is pool replies saves none = none board (board_whole config board h fits is pool replies) saves
