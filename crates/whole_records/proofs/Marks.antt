-- The marks of the cells of calls, call by call.
use Rattle.std.proofs.Common.{◌≡◌, ◌∙◌, refl, sym, ap, ℕ, zero, suc, ◌+◌, ◌-◌, ◌<◌, ◌≤◌, ◌||◌, ◌⊎◌, inl, inr, Bool, true, false, cond, List, [], ◌∷◌, ◌++◌, length, map, take, get_or, set, ne_eqb, subst, arith}
use Rattle.std.proofs.lemmas.Bool.{cases_lt}
use Rattle.std.proofs.lemmas.List.{set_past, take_more, map-append}
use Rattle.histories.specs.Words.{here, has}
use Rattle.histories.proofs.Lists.{in_right, it_has}
use Rattle.call_board.specs.declared.saved_board.CallSaved.{CallSaved}
use Rattle.call_board.specs.Shapes.{with_mark}
use Rattle.call_board.proofs.Sieves.{has_append}
use Rattle.call_shapes.specs.WholeRelay.{AreMarked}
use Rattle.call_shapes.proofs.Rising.{marked_by}

or_none : (b : Bool) → (b || false) ≡ b
or_none true = refl
or_none false = refl

other_there : (cells : List ℕ) (cell n : ℕ) → (cell ≡ n → ⊥) → has (cells ++ cell ∷ []) n ≡ has cells n
other_there cells cell n apart =
    let last : has (cell ∷ []) n ≡ false = ap (λ b. cond b true false) (ne_eqb cell n apart) in
    has_append cells (cell ∷ []) n ∙ ap (λ b. has cells n || b) last ∙ or_none (has cells n)

it_there : (cells : List ℕ) (cell : ℕ) → has (cells ++ cell ∷ []) cell ≡ true
it_there cells cell = it_has cell (cells ++ cell ∷ []) (in_right cells (cell ∷ []) (here refl))

-- the marks of the cells still are, with one that is none of them
none_more : (count : ℕ) (marks : List Bool) (cells : List ℕ) (cell : ℕ) → ((k : ℕ) → k < count → cell ≡ k + 1 → ⊥)
    → AreMarked count marks cells → AreMarked count marks (cells ++ cell ∷ [])
none_more count marks cells cell apart h = record {
  count_is = h.count_is;
  marks = λ k d below. h.marks k d below ∙ sym (other_there cells cell (k + 1) (apart k (let e = h.count_is in omega (arith, e, below))));
}

-- no cell has this number
pub no_mark : (cell : ℕ) (marks : List Bool) → length marks < cell → with_mark cell true marks ≡ marks
no_mark zero marks past = refl
no_mark (suc place) marks past = set_past marks place true (omega arith)

pub one_mark : (cell : ℕ) (marks : List Bool) → 1 ≤ cell → set marks (cell - 1) true ≡ with_mark cell true marks
one_mark zero marks from = absurd (omega arith)
one_mark (suc place) marks from = let e : suc place - 1 ≡ place = omega arith in ap (λ (n : ℕ). set marks n true) e

-- the cell of one call more is marked
pub mark_more : (count : ℕ) (marks : List Bool) (cells : List ℕ) (cell : ℕ) → AreMarked count marks cells → AreMarked count (with_mark cell true marks) (cells ++ cell ∷ [])
mark_more count marks cells zero h = none_more count marks cells zero (λ k below e. omega (arith, e)) h
mark_more count marks cells (suc place) h = by (cases_lt place count)
  where
    by : (place < count) ⊎ (count ≤ place) → AreMarked count (with_mark (suc place) true marks) (cells ++ suc place ∷ [])
    by (inl within) = marked_by (suc place) count marks true cells (cells ++ suc place ∷ []) (omega arith) (omega arith) h (sym (it_there cells (suc place)))
        (λ n apart. other_there cells (suc place) n apart)
    by (inr past) =
        subst (λ (those : List Bool). AreMarked count those (cells ++ suc place ∷ [])) (sym (set_past marks place true (let e = h.count_is in omega (arith, e, past))))
        (none_more count marks cells (suc place) (λ k below e. omega (arith, e, below, past)) h)

-- the cells of one call more
pub cells_more : (calls : List CallSaved) (i : ℕ) (x : CallSaved) → i < length calls → x ≡ get_or calls i x
    → map (λ (call : CallSaved). call.cell) (take (i + 1) calls) ≡ map (λ (call : CallSaved). call.cell) (take i calls) ++ x.cell ∷ []
cells_more calls i x within is =
    ap (λ (l : List CallSaved). map (λ (call : CallSaved). call.cell) l) (take_more calls i x within)
    ∙ map-append (λ (call : CallSaved). call.cell) (take i calls) (get_or calls i x ∷ [])
    ∙ ap (λ (y : CallSaved). map (λ (call : CallSaved). call.cell) (take i calls) ++ y.cell ∷ []) (sym is)
