-- A call that ends.
use Rattle.std.proofs.Common.{◌≡◌, ◌∙◌, refl, ap, sym, subst, ℕ, zero, suc, ◌+◌, ◌-◌, ◌<◌, ◌≤◌, Bool, true, false, cond, List, [], ◌∷◌, map, length, filter, Some, get_or, set, arith}
use Rattle.std.specs.Prelude.{◌==◌, position}
use Rattle.std.specs.List.{remove}
use Rattle.std.proofs.lemmas.List.{length-set, get_or-set_same, get_or-set_other}
use Rattle.std.proofs.lemmas.List.Quantifiers.{position-Some}
use Rattle.relay_outside.specs.declared.settings.Config.{Config}
use Rattle.histories.specs.Words.{In, here, there, first, has}
use Rattle.histories.proofs.Lists.{equal, equal_if, it_has, maps, filtered, first_is_in}
use Rattle.call_board.specs.declared.live_call.LiveCall.{LiveCall}
use Rattle.call_board.specs.Views.{CallView, is_call_numbered, without}
use Rattle.call_board.specs.Boards.{CallsFor, CellsFor, CellsApart}

removed_at : (config : Config) (number : ℕ) (calls : List LiveCall) (cs : List CallView) (i : ℕ) (d : LiveCall) → CallsFor config calls cs → i < length calls →
    ((get_or calls i d).number == number) ≡ true → ((k : ℕ) → k < i → ((get_or calls k d).number == number) ≡ false) → CallsFor config (remove calls i) (without number cs)
removed_at config number [] cs i d s below is_so is_not = absurd (omega (arith, below))
removed_at config number (call ∷ calls) [] i d s below is_so is_not = elim s [ ]
removed_at config number (call ∷ calls) (c ∷ cs) zero d s below is_so is_not =
    subst (λ (b : Bool). CallsFor config calls (cond b cs (c ∷ without number cs))) (sym (ap (λ n. n == number) (sym s.0.number_is) ∙ is_so)) s.1
removed_at config number (call ∷ calls) (c ∷ cs) (suc i) d s below is_so is_not =
    subst (λ (b : Bool). CallsFor config (call ∷ remove calls i) (cond b cs (c ∷ without number cs))) (sym (ap (λ n. n == number) (sym s.0.number_is) ∙ is_not zero (omega arith)))
    (s.0, removed_at config number calls cs i d s.1 (omega (arith, below)) is_so (λ k lt. is_not (suc k) (omega (arith, lt))))

-- the other calls are kept as before
pub removed : (config : Config) (number : ℕ) (calls : List LiveCall) (cs : List CallView) (i : ℕ) (d : LiveCall) → CallsFor config calls cs →
    position (λ (call : LiveCall). call.number == number) calls ≡ Some i → CallsFor config (remove calls i) (without number cs)
removed config number calls cs i d s e =
    let f = position-Some (λ (call : LiveCall). call.number == number) calls i d e in removed_at config number calls cs i d s f.0 f.1 f.2

abbrev cells : List CallView → List ℕ
cells cs = map (λ (c : CallView). c.of.cell) cs

has_it_here : (c : CallView) (cs : List CallView) → In c cs → has (cells cs) c.of.cell ≡ true
has_it_here c cs i = it_has c.of.cell (cells cs) (maps (λ (d : CallView). d.of.cell) cs i)

has_cell : (number : ℕ) (cs : List CallView) (c : CallView) → first (filter (is_call_numbered number) cs) ≡ Some c → has (cells cs) c.of.cell ≡ true
has_cell number cs c e = has_it_here c cs (filtered (is_call_numbered number) cs (first_is_in (filter (is_call_numbered number) cs) e)).0

each_positive : (cs : List CallView) (c : CallView) → CellsApart cs → In c cs → 1 ≤ c.of.cell
each_positive [] c apart i = elim i [ ]
each_positive (x ∷ cs) c apart (here e) = subst (λ (d : CallView). 1 ≤ d.of.cell) (sym e) apart.1
each_positive (x ∷ cs) c apart (there i) = each_positive cs c apart.2 i

-- the cell of a live call is a number from 1 on
pub is_positive : (number : ℕ) (cs : List CallView) (c : CallView) → first (filter (is_call_numbered number) cs) ≡ Some c → CellsApart cs → 1 ≤ c.of.cell
is_positive number cs c e apart = each_positive cs c apart (filtered (is_call_numbered number) cs (first_is_in (filter (is_call_numbered number) cs) e)).0

-- which cells are taken without the call
without_cells : (number : ℕ) (cs : List CallView) (c : CallView) → first (filter (is_call_numbered number) cs) ≡ Some c → CellsApart cs → (n : ℕ) →
    has (cells (without number cs)) n ≡ cond (c.of.cell == n) false (has (cells cs) n)
without_cells number [] c e apart n = absurd (let f = e in cc)
without_cells number (x ∷ cs) c e apart n = go (is_call_numbered number x) refl (without_cells number cs c)
  where
    -- the call is the first one
    this : (same : Bool) → (x.of.cell == n) ≡ same → has (cells cs) n ≡ cond (x.of.cell == n) false (cond (x.of.cell == n) true (has (cells cs) n))
    this true at =
        let out : has (cells cs) n ≡ false = subst (λ m. has (cells cs) m ≡ false) (equal_if x.of.cell n at) apart.0 in
        out ∙ sym (ap (λ (b : Bool). cond b false (cond b true (has (cells cs) n))) at)
    this false at = sym (ap (λ (b : Bool). cond b false (cond b true (has (cells cs) n))) at)

    -- it is a later one
    later : (same : Bool) → (x.of.cell == n) ≡ same → has (cells cs) c.of.cell ≡ true → has (cells (without number cs)) n ≡ cond (c.of.cell == n) false (has (cells cs) n) →
        cond (x.of.cell == n) true (has (cells (without number cs)) n) ≡ cond (c.of.cell == n) false (cond (x.of.cell == n) true (has (cells cs) n))
    later true at had more =
        let other : (c.of.cell == n) ≡ false = other_one (c.of.cell == n) refl in
        ap (λ (b : Bool). cond b true (has (cells (without number cs)) n)) at
        ∙ sym (ap (λ (b : Bool). cond b false true) other)
        ∙ sym (ap (λ (b : Bool). cond (c.of.cell == n) false (cond b true (has (cells cs) n))) at)
      where
        other_one : (b : Bool) → (c.of.cell == n) ≡ b → (c.of.cell == n) ≡ false
        other_one true is =
            let same : c.of.cell ≡ x.of.cell = equal_if c.of.cell n is ∙ sym (equal_if x.of.cell n at) in
            absurd (let f : true ≡ false = sym had ∙ ap (has (cells cs)) same ∙ apart.0 in cc)
        other_one false is = is
    later false at had more =
        ap (λ (b : Bool). cond b true (has (cells (without number cs)) n)) at ∙ more
        ∙ sym (ap (λ (b : Bool). cond (c.of.cell == n) false (cond b true (has (cells cs) n))) at)

    go : (b : Bool) → is_call_numbered number x ≡ b →
        (first (filter (is_call_numbered number) cs) ≡ Some c → CellsApart cs → (n : ℕ) → has (cells (without number cs)) n ≡ cond (c.of.cell == n) false (has (cells cs) n)) →
        has (cells (cond (is_call_numbered number x) cs (x ∷ without number cs))) n ≡ cond (c.of.cell == n) false (has (cells (x ∷ cs)) n)
    go true is more =
        let f : Some x ≡ Some c = sym (ap (λ (b : Bool). first (cond b (x ∷ filter (is_call_numbered number) cs) (filter (is_call_numbered number) cs))) is) ∙ e in
        let same : x ≡ c = (let g = f in cc) in
        ap (λ (b : Bool). has (cells (cond b cs (x ∷ without number cs))) n) is
        ∙ subst (λ (d : CallView). has (cells cs) n ≡ cond (d.of.cell == n) false (has (cells (x ∷ cs)) n)) same (this (x.of.cell == n) refl)
    go false is more =
        let f : first (filter (is_call_numbered number) cs) ≡ Some c =
        sym (ap (λ (b : Bool). first (cond b (x ∷ filter (is_call_numbered number) cs) (filter (is_call_numbered number) cs))) is) ∙ e in
        ap (λ (b : Bool). has (cells (cond b cs (x ∷ without number cs))) n) is
        ∙ later (x.of.cell == n) refl (has_cell number cs c f) (more f apart.2 n)

pub cells_after : (config : Config) (number : ℕ) (taken : List Bool) (cs : List CallView) (c : CallView) → CellsFor config taken cs → first (filter (is_call_numbered number) cs) ≡ Some c →
    CellsApart cs → CellsFor config (set taken (c.of.cell - 1) false) (without number cs)
cells_after config number taken cs c s e apart = record {
  count_is = length-set taken (c.of.cell - 1) false ∙ s.count_is;
  taken_are = λ k d below. at k d (omega (arith, below, length-set taken (c.of.cell - 1) false)) (c.of.cell == 1 + k) refl;
}
  where
    positive : 1 ≤ c.of.cell
    positive = is_positive number cs c e apart

    at : (k : ℕ) (d : Bool) → k < length taken → (b : Bool) → (c.of.cell == 1 + k) ≡ b → get_or (set taken (c.of.cell - 1) false) k d ≡ has (cells (without number cs)) (1 + k)
    at k d below true is =
        let same : c.of.cell - 1 ≡ k = (let n = equal_if c.of.cell (1 + k) is in omega (arith, n)) in
        subst (λ i. get_or (set taken i false) k d ≡ false) (sym same) (get_or-set_same taken k false d below)
        ∙ sym (without_cells number cs c e apart (1 + k) ∙ ap (λ (b : Bool). cond b false (has (cells cs) (1 + k))) is)
    at k d below false is =
        get_or-set_other taken (c.of.cell - 1) k false d (λ same. let n : c.of.cell ≡ 1 + k = omega (arith, same, positive) in let f : true ≡ false = sym (equal c.of.cell (1 + k) n) ∙ is in cc)
        ∙ s.taken_are k d below
        ∙ sym (without_cells number cs c e apart (1 + k) ∙ ap (λ (b : Bool). cond b false (has (cells cs) (1 + k))) is)
