-- The numbers and cells of live calls, when a call changes, comes or goes.
use Rattle.std.proofs.Common.{◌≡◌, ◌∙◌, refl, sym, ap, subst, ℕ, zero, suc, ◌+◌, ◌-◌, ◌<◌, ◌≤◌, ◌⊎◌, inl, inr, Bool, true, false, cond, List, [], ◌∷◌, ◌++◌, length, slice_index_or, slice_set, ◌==◌, arith}
use Rattle.std.proofs.lemmas.List.{map-append, length-set, get_or-set_same, get_or-set_other}
use Rattle.std.proofs.lemmas.Bool.{cases_eq}
use Rattle.histories.specs.Words.{In, here, there, has}
use Rattle.histories.proofs.Lists.{in_right, it_has, maps, equal, equal_if}
use Rattle.port_pool.specs.Pools.{AreFree, AreFrom}
use Rattle.call_board.specs.Shapes.{LiveShape, IsFreeCell, with_mark}
use Rattle.call_shapes.specs.WholeRelay.{ShapesRise, AreMarked, cells_of_calls}
use Rattle.call_shapes.proofs.Times.{times, one_if, times_append, times_none, none_times, stands, free_times}

-- The numbers.

pub rises_same : (from below : ℕ) (front : List LiveShape) (old new : LiveShape) (back : List LiveShape) → new.number ≡ old.number
    → ShapesRise from (front ++ old ∷ back) below → ShapesRise from (front ++ new ∷ back) below
rises_same from below [] old new back is h =
    (subst (λ n. from ≤ n) (sym is) h.0, subst (λ n. ShapesRise (n + 1) back below) (sym is) h.1)
rises_same from below (call ∷ front) old new back is h = (h.0, rises_same (call.number + 1) below front old new back is h.1)

rises_lower : (low from below : ℕ) (calls : List LiveShape) → low ≤ from → ShapesRise from calls below → ShapesRise low calls below
rises_lower low from below [] le h = omega (arith, le, h)
rises_lower low from below (call ∷ calls) le h = (omega (arith, le, h.0), h.1)

pub rises_without : (from below : ℕ) (front : List LiveShape) (call : LiveShape) (back : List LiveShape) → ShapesRise from (front ++ call ∷ back) below → ShapesRise from (front ++ back) below
rises_without from below [] call back h = rises_lower from (call.number + 1) below back (omega (arith, h.0)) h.1
rises_without from below (first ∷ front) call back h = (h.0, rises_without (first.number + 1) below front call back h.1)

pub rises_more : (from below : ℕ) (calls : List LiveShape) (call : LiveShape) → call.number ≡ below → ShapesRise from calls below → ShapesRise from (calls ++ call ∷ []) (below + 1)
rises_more from below [] call is h = (omega (arith, is, h), omega (arith, is))
rises_more from below (first ∷ calls) call is h = (h.0, rises_more (first.number + 1) below calls call is h.1)

pub rises_least : (from below : ℕ) (calls : List LiveShape) → ShapesRise from calls below → from ≤ below
rises_least from below [] h = h
rises_least from below (call ∷ calls) h =
    let rest = rises_least (call.number + 1) below calls h.1 in let low = h.0 in omega (arith, rest, low)

-- The cells.

pub cells_around : (front : List LiveShape) (call : LiveShape) (back : List LiveShape) → cells_of_calls (front ++ call ∷ back) ≡ cells_of_calls front ++ call.cell ∷ cells_of_calls back
cells_around front call back = map-append (λ (c : LiveShape). c.cell) front (call ∷ back)

pub cells_without : (front back : List LiveShape) → cells_of_calls (front ++ back) ≡ cells_of_calls front ++ cells_of_calls back
cells_without front back = map-append (λ (c : LiveShape). c.cell) front back

-- a number among others of which each stands once stands nowhere else
pub nowhere_else : (count n : ℕ) (front back : List ℕ) → AreFree count (front ++ n ∷ back) → (times n front ≡ 0) × (times n back ≡ 0)
nowhere_else count n front back free =
    let most = free_times count n (front ++ n ∷ back) free in
    let all = times_append n front (n ∷ back) in
    let here_ : one_if (n == n) ≡ 1 = ap one_if (equal n n refl) in
    (omega (arith, most, all, here_), omega (arith, most, all, here_))

cell_stands : (n : ℕ) (calls : List LiveShape) (call : LiveShape) → In call calls → call.cell ≡ n → 1 ≤ times n (cells_of_calls calls)
cell_stands n calls call i is = subst (λ k. 1 ≤ times k (cells_of_calls calls)) is (stands call.cell (cells_of_calls calls) (maps (λ (c : LiveShape). c.cell) calls i))

pub other_cell : (n : ℕ) (calls : List LiveShape) → times n (cells_of_calls calls) ≡ 0 → (call : LiveShape) → In call calls → call.cell ≡ n → ⊥
other_cell n calls none call i is = let some = cell_stands n calls call i is in absurd (omega (arith, none, some))

-- numbers of which each stands once, without one of them
has_less : (n x : ℕ) (front back : List ℕ) → has (front ++ x ∷ back) n ≡ false → has (front ++ back) n ≡ false
has_less n x front back h =
    let none = none_times n (front ++ x ∷ back) h in
    let all = times_append n front (x ∷ back) in
    let less = times_append n front back in
    times_none n (front ++ back) (omega (arith, none, all, less))

pub free_without : (count x : ℕ) (front back : List ℕ) → AreFree count (front ++ x ∷ back) → AreFree count (front ++ back)
free_without count x [] back h = h.2
free_without count x (n ∷ front) back h = (h.0, has_less n x front back h.1, free_without count x front back h.2)

pub from_without : (low x : ℕ) (front back : List ℕ) → AreFrom low (front ++ x ∷ back) → AreFrom low (front ++ back)
from_without low x [] back h = h.1
from_without low x (n ∷ front) back h = (h.0, from_without low x front back h.1)

-- another number is among them as before
pub has_other : (n x : ℕ) (front back : List ℕ) → (x ≡ n → ⊥) → has (front ++ x ∷ back) n ≡ has (front ++ back) n
has_other n x [] back other = by (x == n) refl
  where
    by : (b : Bool) → (x == n) ≡ b → cond b true (has back n) ≡ has back n
    by true is = absurd (other (equal_if x n is))
    by false is = refl
has_other n x (m ∷ front) back other = ap (λ b. cond (m == n) true b) (has_other n x front back other)

pub has_here : (n : ℕ) (front back : List ℕ) → has (front ++ n ∷ back) n ≡ true
has_here n front back = it_has n (front ++ n ∷ back) (in_right front (n ∷ back) (here refl))

-- The marks.

mark_case : (place k : ℕ) (taken : List Bool) (mark d : Bool) (was now : List ℕ) → place < length taken → mark ≡ has now (suc place)
    → ((suc place ≡ k + 1 → ⊥) → has now (k + 1) ≡ has was (k + 1))
    → slice_index_or taken k d ≡ has was (k + 1) → (k ≡ place) ⊎ (k ≡ place → ⊥) → slice_index_or (slice_set taken place mark) k d ≡ has now (k + 1)
mark_case place k taken mark d was now within at others stood (inl same) =
    let next : suc place ≡ k + 1 = omega (arith, same) in
    subst (λ j. slice_index_or (slice_set taken place mark) j d ≡ has now (k + 1)) (sym same) (get_or-set_same taken place mark d within ∙ at ∙ ap (has now) next)
mark_case place k taken mark d was now within at others stood (inr other) =
    get_or-set_other taken place k mark d other ∙ stood ∙ sym (others (λ e. other (omega (arith, e))))

marked_at : (place count : ℕ) (taken : List Bool) (mark : Bool) (was now : List ℕ) → suc place ≤ count → AreMarked count taken was → mark ≡ has now (suc place)
    → ((n : ℕ) → (suc place ≡ n → ⊥) → has now n ≡ has was n) → AreMarked count (slice_set taken place mark) now
marked_at place count taken mark was now within marked at others = record {
  count_is = length-set taken place mark ∙ marked.count_is;
  marks = λ k d h.
      (let long : length (slice_set taken place mark) ≡ length taken = length-set taken place mark in
      let count_is = marked.count_is in
      mark_case place k taken mark d was now (omega (arith, within, count_is)) at (others (k + 1)) (marked.marks k d (omega (arith, h, long))) (cases_eq k place));
}

pub marked_by : (cell count : ℕ) (taken : List Bool) (mark : Bool) (was now : List ℕ) → 1 ≤ cell → cell ≤ count → AreMarked count taken was → mark ≡ has now cell
    → ((n : ℕ) → (cell ≡ n → ⊥) → has now n ≡ has was n) → AreMarked count (with_mark cell mark taken) now
marked_by zero count taken mark was now low high marked at others = absurd (omega (arith, low))
marked_by (suc place) count taken mark was now low high marked at others = marked_at place count taken mark was now high marked at others

-- a cell that isn't taken is no call's
spare_at : (place count : ℕ) (taken : List Bool) (cells : List ℕ) → suc place ≤ count → slice_index_or taken (suc place - 1) true ≡ false → AreMarked count taken cells → has cells (suc place) ≡ false
spare_at place count taken cells within spare marked =
    let count_is = marked.count_is in
    let at : suc place - 1 ≡ place = omega arith in
    let next : place + 1 ≡ suc place = omega arith in
    ap (has cells) (sym next) ∙ sym (marked.marks place true (omega (arith, within, count_is))) ∙ sym (ap (λ k. slice_index_or taken k true) at) ∙ spare

pub spare_cell : (cell count : ℕ) (taken : List Bool) (cells : List ℕ) → IsFreeCell count taken cell → AreMarked count taken cells → has cells cell ≡ false
spare_cell zero count taken cells is marked = absurd (let low = is.from_one in omega (arith, low))
spare_cell (suc place) count taken cells is marked = spare_at place count taken cells is.within is.is_free marked

-- a call's cell is between 1 and the most
pub cell_low : (low : ℕ) (cells : List ℕ) → AreFrom low cells → (cell : ℕ) → In cell cells → low ≤ cell
cell_low low [] h cell i = elim i [ ]
cell_low low (c ∷ cells) h cell (here e) = subst (λ n. low ≤ n) (sym e) h.0
cell_low low (c ∷ cells) h cell (there i) = cell_low low cells h.1 cell i

pub cell_high : (count : ℕ) (cells : List ℕ) → AreFree count cells → (cell : ℕ) → In cell cells → cell < count
cell_high count [] h cell i = elim i [ ]
cell_high count (c ∷ cells) h cell (here e) = subst (λ n. n < count) (sym e) h.0
cell_high count (c ∷ cells) h cell (there i) = cell_high count cells h.2 cell i
