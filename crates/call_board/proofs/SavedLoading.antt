-- Which saved calls are those of a board: one after the other.
use Rattle.std.proofs.Common.{◌≡◌, ◌∙◌, sym, ap, subst, refl, ℕ, ◌+◌, ◌-◌, ◌<◌, ◌≤◌, Bool, true, false, cond, List, [], ◌∷◌, ◌++◌, map, length, set, get_or, replicate, arith, length-set, get_or-set_same, get_or-set_other, append-nil, append_assoc, if◌then◌else◌}
use Rattle.std.specs.Prelude.{◌||◌, ◌==◌, not}
use Rattle.std.specs.List.{list_any}
use Rattle.std.specs.Str.{bytes_eq}
use Rattle.std.specs.Cmp.Lexicographic.{bytes_decides}
use Rattle.std.proofs.lemmas.Bool.Decides.{nat_tests}
use Rattle.std.proofs.lemmas.List.{get_or-replicate, length-replicate}
use Rattle.histories.specs.Words.{has}
use Rattle.port_pool.specs.Pools.{AreFree, AreFrom}
use Rattle.port_pool.proofs.Queue.{first_differs, turned, one_behind, later_behind}
use Rattle.call_board.specs.declared.live_call.LiveCall.{LiveCall}
use Rattle.call_board.specs.declared.saved_board.CallSaved.{CallSaved}
use Rattle.call_board.specs.CallNumbers.{AreBelow}
use Rattle.call_board.specs.SavedBoards.{CallSaves, CallsSave, MarksCells, IdsApart, AreWholeCalls, CallFollows, cells_of_live, ids_of_live}

abbrev pub numbers_of_live : List LiveCall → List ℕ
numbers_of_live calls = map (λ (call : LiveCall). call.number) calls

push_map : {A B : Type 0} (f : A → B) (xs : List A) (x : A) → map f (xs ++ x ∷ []) ≡ map f xs ++ f x ∷ []
push_map f [] x = refl
push_map f (y ∷ xs) x = ap (λ ys. f y ∷ ys) (push_map f xs x)

-- ---- what is saved alike

saved_map : {A : Type 0} (f : LiveCall → A) (g : CallSaved → A) → ((call : LiveCall) (saved : CallSaved) → CallSaves call saved → f call ≡ g saved)
    → (calls : List LiveCall) (saved : List CallSaved) → CallsSave calls saved → map f calls ≡ map g saved
saved_map f g same [] [] is = refl
saved_map f g same [] (s ∷ saved) is = absurd is
saved_map f g same (call ∷ calls) [] is = absurd is
saved_map f g same (call ∷ calls) (s ∷ saved) is = λ i. same call s is.0 i ∷ saved_map f g same calls saved is.1 i

map_mid : {A B : Type 0} (f : A → B) (xs : List A) (x : A) (ys : List A) → map f (xs ++ x ∷ ys) ≡ map f xs ++ f x ∷ map f ys
map_mid f [] x ys = refl
map_mid f (z ∷ xs) x ys = ap (λ zs. f z ∷ zs) (map_mid f xs x ys)

saved_mid : {A : Type 0} (f : LiveCall → A) (g : CallSaved → A) → ((call : LiveCall) (saved : CallSaved) → CallSaves call saved → f call ≡ g saved)
    → (calls others : List LiveCall) (front : List CallSaved) (one : CallSaved) (rest : List CallSaved) → CallsSave calls front → CallsSave others (front ++ one ∷ rest)
    → map f others ≡ map f calls ++ g one ∷ map g rest
saved_mid f g same calls others front one rest is are =
    saved_map f g same others (front ++ one ∷ rest) are ∙ map_mid g front one rest
    ∙ ap (λ xs. xs ++ g one ∷ map g rest) (sym (saved_map f g same calls front is))

pub saves_more : (calls : List LiveCall) (front : List CallSaved) (call : LiveCall) (one : CallSaved) → CallsSave calls front → CallSaves call one
    → CallsSave (calls ++ call ∷ []) (front ++ one ∷ [])
saves_more [] [] call one is this = (this, tt)
saves_more [] (s ∷ front) call one is this = absurd is
saves_more (x ∷ calls) [] call one is this = absurd is
saves_more (x ∷ calls) (s ∷ front) call one is this = (is.0, saves_more calls front call one is.1 this)

-- ---- numbers

abbrev pub next_after : ℕ → List ℕ → ℕ
next_after from [] = from
next_after from (n ∷ ns) = next_after (n + 1) ns

next_push : (from : ℕ) (ns : List ℕ) (n : ℕ) → next_after from (ns ++ n ∷ []) ≡ n + 1
next_push from [] n = refl
next_push from (m ∷ ns) n = next_push (m + 1) ns n

abbrev pub RiseBelow : ℕ → List ℕ → ℕ → Type 0
RiseBelow from [] below = from ≤ below
RiseBelow from (n ∷ ns) below = (from ≤ n) × RiseBelow (n + 1) ns below

rise_of : (from : ℕ) (calls : List LiveCall) (below : ℕ) → AreBelow from calls below → RiseBelow from (numbers_of_live calls) below
rise_of from [] below are = are
rise_of from (call ∷ calls) below are = (are.0, rise_of (call.number + 1) calls below are.1)

rise_bound : (from : ℕ) (ns : List ℕ) (below : ℕ) → RiseBelow from ns below → from ≤ below
rise_bound from [] below rise = rise
rise_bound from (n ∷ ns) below rise = let more = rise_bound (n + 1) ns below rise.1 in omega (arith, more, rise.0)

rise_at : (from : ℕ) (ns : List ℕ) (n : ℕ) (rest : List ℕ) (below : ℕ) → RiseBelow from (ns ++ n ∷ rest) below → (next_after from ns ≤ n) × (n < below)
rise_at from [] n rest below rise = let more = rise_bound (n + 1) rest below rise.1 in (rise.0, omega (arith, more))
rise_at from (m ∷ ns) n rest below rise = rise_at (m + 1) ns n rest below rise.1

below_more : (from : ℕ) (calls : List LiveCall) (below : ℕ) (call : LiveCall) → AreBelow from calls below → below ≤ call.number → AreBelow from (calls ++ call ∷ []) (call.number + 1)
below_more from [] below call are later = (omega (arith, are, later), omega arith)
below_more from (x ∷ calls) below call are later = (are.0, below_more (x.number + 1) calls below call are.1 later)

below_higher : (from : ℕ) (calls : List LiveCall) (below top : ℕ) → AreBelow from calls below → below ≤ top → AreBelow from calls top
below_higher from [] below top are le = omega (arith, are, le)
below_higher from (x ∷ calls) below top are le = (are.0, below_higher (x.number + 1) calls below top are.1 le)

-- ---- call-ids

or_false : (a b : Bool) → (a || b) ≡ false → (a ≡ false) × (b ≡ false)
or_false true b h = absurd (let f = h in cc)
or_false false b h = (refl, h)

any_more : {A : Type 0} (p : A → Bool) (xs : List A) (y : A) → list_any p xs ≡ false → p y ≡ false → list_any p (xs ++ y ∷ []) ≡ false
any_more p [] y none not = ap (λ b. b || false) not
any_more p (x ∷ xs) y none not =
    let parts = or_false (p x) (list_any p xs) none in
    ap (λ b. b || list_any p (xs ++ y ∷ [])) parts.0 ∙ any_more p xs y parts.1 not

any_mid : {A : Type 0} (p : A → Bool) (xs : List A) (y : A) (rest : List A) → list_any p (xs ++ y ∷ rest) ≡ false → p y ≡ false
any_mid p [] y rest none = (or_false (p y) (list_any p rest) none).0
any_mid p (x ∷ xs) y rest none = any_mid p xs y rest (or_false (p x) (list_any p (xs ++ y ∷ rest)) none).1

id_turned : (a b : List ℕ) → bytes_eq a b ≡ false → bytes_eq b a ≡ false
id_turned a b apart = by_test (bytes_eq b a) refl
  where
    by_test : (t : Bool) → bytes_eq b a ≡ t → bytes_eq b a ≡ false
    by_test true is = absurd (let f : true ≡ false = sym ((bytes_decides a b).1 (sym ((bytes_decides b a).0 is))) ∙ apart in cc)
    by_test false is = is

ids_more : (ids : List (List ℕ)) (id : List ℕ) → IdsApart ids → list_any (λ other. bytes_eq other id) ids ≡ false → IdsApart (ids ++ id ∷ [])
ids_more [] id apart new = (refl, tt)
ids_more (x ∷ ids) id apart new =
    let parts = or_false (bytes_eq x id) (list_any (λ other. bytes_eq other id) ids) new in
    (any_more (λ other. bytes_eq other x) ids id apart.0 (id_turned x id parts.0), ids_more ids id apart.1 parts.1)

ids_mid : (ids : List (List ℕ)) (id : List ℕ) (rest : List (List ℕ)) → IdsApart (ids ++ id ∷ rest) → list_any (λ other. bytes_eq other id) ids ≡ false
ids_mid [] id rest apart = refl
ids_mid (x ∷ ids) id rest apart =
    ap (λ b. b || list_any (λ other. bytes_eq other id) ids) (id_turned id x (any_mid (λ other. bytes_eq other x) ids id rest apart.0)) ∙ ids_mid ids id rest apart.1

any_ids : (calls : List LiveCall) (id : List ℕ) → list_any (λ (live : LiveCall). bytes_eq live.id.list id) calls ≡ list_any (λ other. bytes_eq other id) (ids_of_live calls)
any_ids [] id = refl
any_ids (call ∷ calls) id = ap (λ b. bytes_eq call.id.list id || b) (any_ids calls id)

-- ---- cells

has_mid : (xs : List ℕ) (p : ℕ) (rest : List ℕ) (x : ℕ) → has (xs ++ p ∷ rest) x ≡ false → (p == x) ≡ false
has_mid [] p rest x out = (first_differs (p == x) (has rest x) out).0
has_mid (y ∷ xs) p rest x out = has_mid xs p rest x (first_differs (y == x) (has (xs ++ p ∷ rest) x) out).1

free_mid : (count : ℕ) (xs : List ℕ) (p : ℕ) (rest : List ℕ) → AreFree count (xs ++ p ∷ rest) → (p < count) × (has xs p ≡ false)
free_mid count [] p rest free = (free.0, refl)
free_mid count (x ∷ xs) p rest free =
    let more = free_mid count xs p rest free.2 in
    (more.0, ap (λ b. cond b true (has xs p)) (turned p x (has_mid xs p rest x free.1)) ∙ more.1)

from_mid : (first : ℕ) (xs : List ℕ) (p : ℕ) (rest : List ℕ) → AreFrom first (xs ++ p ∷ rest) → first ≤ p
from_mid first [] p rest from = from.0
from_mid first (x ∷ xs) p rest from = from_mid first xs p rest from.1

equal_if : (a b : ℕ) → (a == b) ≡ true → a ≡ b
equal_if a b is = grind (arith, nat_tests)

equal : (a b : ℕ) → a ≡ b → (a == b) ≡ true
equal a b is = grind (arith, nat_tests)

has_push : (xs : List ℕ) (p q : ℕ) → has (xs ++ p ∷ []) q ≡ cond (p == q) true (has xs q)
has_push [] p q = refl
has_push (x ∷ xs) p q = ap (λ (b : Bool). cond (x == q) true b) (has_push xs p q) ∙ swap (x == q) (p == q) (has xs q)
  where
    swap : (a b c : Bool) → cond a true (cond b true c) ≡ cond b true (cond a true c)
    swap true true c = refl
    swap true false c = refl
    swap false true c = refl
    swap false false c = refl

marks_more : (count : ℕ) (taken : List Bool) (cells : List ℕ) (cell : ℕ) → MarksCells count taken cells → 1 ≤ cell → MarksCells count (set taken (cell - 1) true) (cells ++ cell ∷ [])
marks_more count taken cells cell s low = record {
  count_is = length-set taken (cell - 1) true ∙ s.count_is;
  marks_are = λ k d below. at k d (omega (arith, below, length-set taken (cell - 1) true)) (cell == 1 + k) refl ∙ sym (has_push cells cell (1 + k));
}
  where
    at : (k : ℕ) (d : Bool) → k < length taken → (b : Bool) → (cell == 1 + k) ≡ b → get_or (set taken (cell - 1) true) k d ≡ cond (cell == 1 + k) true (has cells (1 + k))
    at k d below true is =
        let same : cell - 1 ≡ k = (let n = equal_if cell (1 + k) is in omega (arith, n)) in
        subst (λ i. get_or (set taken i true) k d ≡ true) (sym same) (get_or-set_same taken k true d below)
        ∙ sym (ap (λ (b : Bool). cond b true (has cells (1 + k))) is)
    at k d below false is =
        get_or-set_other taken (cell - 1) k true d (λ same. let n : cell ≡ 1 + k = omega (arith, same, low) in let f : true ≡ false = sym (equal cell (1 + k) n) ∙ is in cc)
        ∙ s.marks_are k d below
        ∙ sym (ap (λ (b : Bool). cond b true (has cells (1 + k))) is)

-- ---- what is loaded so far

pub record LoadsSo (all front rest : List CallSaved) (begun count next : ℕ) (taken : List Bool) (calls : List LiveCall) : Type 0 where
  pub split : front ++ rest ≡ all
  pub saves : CallsSave calls front
  pub numbers : AreBelow 0 calls next
  pub low : next ≤ begun
  pub next_is : next ≡ next_after 0 (numbers_of_live calls)
  pub ids : IdsApart (ids_of_live calls)
  pub cells : AreFree (count + 1) (cells_of_live calls)
  pub from_one : AreFrom 1 (cells_of_live calls)
  pub marks : MarksCells count taken (cells_of_live calls)

pub loads_none : (all : List CallSaved) (begun count : ℕ) (taken : List Bool) (calls : List LiveCall) → taken ≡ replicate count false → calls ≡ []
    → LoadsSo all [] all begun count 0 taken calls
loads_none all begun count taken calls blank none =
    subst (λ (those : List LiveCall). LoadsSo all [] all begun count 0 taken those) (sym none) (record {
      split = refl;
      saves = tt;
      numbers = omega arith;
      low = omega arith;
      next_is = refl;
      ids = tt;
      cells = tt;
      from_one = tt;
      marks = record {
        count_is = ap length blank ∙ length-replicate count false;
        marks_are = λ k d below.
            let many : length taken ≡ count = ap length blank ∙ length-replicate count false in
            ap (λ those. get_or those k d) blank ∙ get_or-replicate count k false d (omega (arith, below, many));
      };
    })

pub loads_more : (all front rest : List CallSaved) (one : CallSaved) (begun count next : ℕ) (taken after : List Bool) (calls new : List LiveCall) (call : LiveCall)
    → LoadsSo all front (one ∷ rest) begun count next taken calls → CallFollows next begun taken calls one → CallSaves call one
    → after ≡ set taken (one.cell - 1) true → new ≡ calls ++ call ∷ []
    → LoadsSo all (front ++ one ∷ []) rest begun count (one.number + 1) after new
loads_more all front rest one begun count next taken after calls new call s f this after_is new_is =
    let free : has (cells_of_live calls) one.cell ≡ false =
    (let back : 1 + (one.cell - 1) ≡ one.cell = omega (arith, f.low) in
    ap (λ n. has (cells_of_live calls) n) (sym back) ∙ sym (s.marks.marks_are (one.cell - 1) false (omega (arith, f.low, f.high))) ∙ f.free) in
    let within : one.cell < count + 1 = omega (arith, f.high, s.marks.count_is) in
    let cells_are : cells_of_live (calls ++ call ∷ []) ≡ cells_of_live calls ++ one.cell ∷ [] =
    push_map (λ (c : LiveCall). c.cell) calls call ∙ ap (λ n. cells_of_live calls ++ n ∷ []) this.cell_is in
    let ids_are : ids_of_live (calls ++ call ∷ []) ≡ ids_of_live calls ++ one.id.list ∷ [] =
    push_map (λ (c : LiveCall). c.id.list) calls call ∙ ap (λ n. ids_of_live calls ++ n ∷ []) this.id_is in
    let numbers_are : numbers_of_live (calls ++ call ∷ []) ≡ numbers_of_live calls ++ one.number ∷ [] =
    push_map (λ (c : LiveCall). c.number) calls call ∙ ap (λ n. numbers_of_live calls ++ n ∷ []) this.number_is in
    subst (λ (those : List LiveCall). LoadsSo all (front ++ one ∷ []) rest begun count (one.number + 1) after those) (sym new_is) (record {
      split = append_assoc front (one ∷ []) rest ∙ s.split;
      saves = saves_more calls front call one s.saves this;
      numbers = subst (λ n. AreBelow 0 (calls ++ call ∷ []) (n + 1)) this.number_is (below_more 0 calls next call s.numbers (omega (arith, f.later, this.number_is)));
      low = omega (arith, f.earlier);
      next_is = sym (ap (next_after 0) numbers_are ∙ next_push 0 (numbers_of_live calls) one.number);
      ids = subst IdsApart (sym ids_are) (ids_more (ids_of_live calls) one.id.list s.ids (sym (any_ids calls one.id.list) ∙ f.new));
      cells = subst (AreFree (count + 1)) (sym cells_are) (one_behind (count + 1) (cells_of_live calls) one.cell s.cells within free);
      from_one = subst (AreFrom 1) (sym cells_are) (later_behind 1 (cells_of_live calls) one.cell s.from_one f.low);
      marks = subst (λ (cs : List ℕ). MarksCells count after cs) (sym cells_are)
          (subst (λ (t : List Bool). MarksCells count t (cells_of_live calls ++ one.cell ∷ [])) (sym after_is) (marks_more count taken (cells_of_live calls) one.cell s.marks f.low));
    })

-- the next of calls that are a board's may follow
pub may_follow_lem : (all front rest : List CallSaved) (one : CallSaved) (begun count next : ℕ) (taken : List Bool) (calls others : List LiveCall)
    → LoadsSo all front (one ∷ rest) begun count next taken calls → CallsSave others all → AreWholeCalls begun count others → CallFollows next begun taken calls one
may_follow_lem all front rest one begun count next taken calls others s are whole =
    let saved : CallsSave others (front ++ one ∷ rest) = subst (λ (those : List CallSaved). CallsSave others those) (sym s.split) are in
    let numbers = saved_mid (λ (c : LiveCall). c.number) (λ (c : CallSaved). c.number) (λ call s is. is.number_is) calls others front one rest s.saves saved in
    let cells = saved_mid (λ (c : LiveCall). c.cell) (λ (c : CallSaved). c.cell) (λ call s is. is.cell_is) calls others front one rest s.saves saved in
    let ids = saved_mid (λ (c : LiveCall). c.id.list) (λ (c : CallSaved). c.id.list) (λ call s is. is.id_is) calls others front one rest s.saves saved in
    let rise = rise_at 0 (numbers_of_live calls) one.number (map (λ (c : CallSaved). c.number) rest) begun
    (subst (λ (ns : List ℕ). RiseBelow 0 ns begun) numbers (rise_of 0 others begun whole.numbers)) in
    let free = free_mid (count + 1) (cells_of_live calls) one.cell (map (λ (c : CallSaved). c.cell) rest) (subst (AreFree (count + 1)) cells whole.cells) in
    let from = from_mid 1 (cells_of_live calls) one.cell (map (λ (c : CallSaved). c.cell) rest) (subst (AreFrom 1) cells whole.from_one) in
    let many = s.marks.count_is in
    let back : 1 + (one.cell - 1) ≡ one.cell = omega (arith, from) in
    record {
      later = omega (arith, rise.0, s.next_is);
      earlier = rise.1;
      low = from;
      high = omega (arith, free.0, many);
      free = s.marks.marks_are (one.cell - 1) false (omega (arith, free.0, many, from)) ∙ ap (λ n. has (cells_of_live calls) n) back ∙ free.1;
      new = any_ids calls one.id.list ∙ ids_mid (ids_of_live calls) one.id.list (map (λ (c : CallSaved). c.id.list) rest) (subst IdsApart ids whole.ids);
    }

pub loads_all : (all front : List CallSaved) (begun count next : ℕ) (taken : List Bool) (calls : List LiveCall) → LoadsSo all front [] begun count next taken calls
    → CallsSave calls all × AreWholeCalls begun count calls × MarksCells count taken (cells_of_live calls)
loads_all all front begun count next taken calls s = (
  subst (λ (those : List CallSaved). CallsSave calls those) (sym (append-nil front) ∙ s.split) s.saves,
  record { numbers = below_higher 0 calls next begun s.numbers s.low; ids = s.ids; cells = s.cells; from_one = s.from_one },
  s.marks,
)

-- ---- a look-up that finds none

pub not_false : (b : Bool) → not b ≡ false → b ≡ true
not_false true is = refl
not_false false is = absurd (let f = is in cc)

pub gains : (old mid new : List LiveCall) (call : LiveCall) (id : List ℕ) → call.id.list ≡ id
    → new ≡ (if list_any (λ (live : LiveCall). bytes_eq live.id.list call.id.list) mid then mid else mid ++ call ∷ []) → mid ≡ old
    → list_any (λ (live : LiveCall). bytes_eq live.id.list id) old ≡ false → new ≡ old ++ call ∷ []
gains old mid new call id id_is is same none =
    is ∙ ap (λ (m : List LiveCall). if list_any (λ (live : LiveCall). bytes_eq live.id.list call.id.list) m then m else m ++ call ∷ []) same
    ∙ ap (λ (n : List ℕ). if list_any (λ (live : LiveCall). bytes_eq live.id.list n) old then old else old ++ call ∷ []) id_is
    ∙ ap (λ (b : Bool). if b then old else old ++ call ∷ []) none
