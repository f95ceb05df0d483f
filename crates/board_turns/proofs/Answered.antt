-- Live calls with what their cells returned: which were asked, and which of them are due.
use Rattle.std.proofs.Common.{◌≡◌, ◌∙◌, refl, sym, ap, subst, ℕ, suc, ◌+◌, Bool, true, false, not, cond, List, [], ◌∷◌, ◌++◌, map, filter, length, arith}
use Rattle.std.proofs.lemmas.List.{map-append}
use Rattle.std.specs.List.{flat_map}
use Rattle.histories.specs.Words.{In, here, there, has}
use Rattle.histories.proofs.Lists.{keeps, filtered, maps, mapped, it_has, has_it}
use Rattle.call_board.specs.Acts.{Call}
use Rattle.call_board.specs.Pairs.{Once}
use Rattle.call_board.proofs.Once.{once_equal}
use Rattle.relay_core.proofs.Turns.{filter_append, nothing_more}

abbrev pub asked_of : List (Call × Bool) → List Call
asked_of answers = map (λ (a : Call × Bool). a.0) answers

abbrev pub due_of : List (Call × Bool) → List Call
due_of answers = map (λ (a : Call × Bool). a.0) (filter (λ (a : Call × Bool). a.1) answers)

abbrev pub numbers_of : List Call → List ℕ
numbers_of calls = map (λ (c : Call). c.number) calls

-- One more answer.

pub asked_more : (answers : List (Call × Bool)) (of : Call) (due : Bool) → asked_of (answers ++ (of, due) ∷ []) ≡ asked_of answers ++ of ∷ []
asked_more answers of due = map-append (λ (a : Call × Bool). a.0) answers ((of, due) ∷ [])

pub due_more : (answers : List (Call × Bool)) (of : Call) (due : Bool) → due_of (answers ++ (of, due) ∷ []) ≡ cond due (due_of answers ++ of ∷ []) (due_of answers)
due_more answers of due =
    ap (map (λ (a : Call × Bool). a.0)) (filter_append (λ (a : Call × Bool). a.1) answers ((of, due) ∷ []))
    ∙ map-append (λ (a : Call × Bool). a.0) (filter (λ (a : Call × Bool). a.1) answers) (filter (λ (a : Call × Bool). a.1) ((of, due) ∷ []))
    ∙ by_case due
  where
    by_case : (d : Bool) → due_of answers ++ map (λ (a : Call × Bool). a.0) (cond d ((of, d) ∷ []) []) ≡ cond d (due_of answers ++ of ∷ []) (due_of answers)
    by_case true = refl
    by_case false = nothing_more (due_of answers)

-- Which calls they are.

pub is_asked : {c : Call} (answers : List (Call × Bool)) → In c (due_of answers) → In c (asked_of answers)
is_asked {c} answers i =
    let m = mapped (λ (a : Call × Bool). a.0) (filter (λ (a : Call × Bool). a.1) answers) i in
    subst (λ (d : Call). In d (asked_of answers)) m.makes
    (maps (λ (a : Call × Bool). a.0) answers (filtered (λ (a : Call × Bool). a.1) answers m.is_in).0)

pub is_due : {a : Call × Bool} (answers : List (Call × Bool)) → In a answers → a.1 ≡ true → In a.0 (due_of answers)
is_due answers i t = maps (λ (a : Call × Bool). a.0) (filter (λ (a : Call × Bool). a.1) answers) (keeps (λ (a : Call × Bool). a.1) answers i t)

numbered_twice : (answers : List (Call × Bool)) → numbers_of (asked_of answers) ≡ map (λ (a : Call × Bool). a.0.number) answers
numbered_twice [] = refl
numbered_twice (a ∷ answers) = ap (λ (ns : List ℕ). a.0.number ∷ ns) (numbered_twice answers)

named_case : (answers : List (Call × Bool)) (a : Call × Bool) → Once (numbers_of (asked_of answers)) → In a answers → (due named : Bool) → a.1 ≡ due
    → has (numbers_of (due_of answers)) a.0.number ≡ named → named ≡ due
named_case answers a once i true true d n = refl
named_case answers a once i false false d n = refl
named_case answers a once i true false d n =
    absurd (let t = it_has a.0.number (numbers_of (due_of answers)) (maps (λ (c : Call). c.number) (due_of answers) (is_due answers i d)) in let f = sym t ∙ n in cc)
named_case answers a once i false true d n =
    let m = mapped (λ (c : Call). c.number) (due_of answers) (has_it a.0.number (numbers_of (due_of answers)) n) in
    let k = mapped (λ (b : Call × Bool). b.0) (filter (λ (b : Call × Bool). b.1) answers) m.is_in in
    let f = filtered (λ (b : Call × Bool). b.1) answers k.is_in in
    let same : k.from ≡ a =
    once_equal (λ (b : Call × Bool). b.0.number) answers (subst Once (numbered_twice answers) once) f.0 i (ap (λ (c : Call). c.number) k.makes ∙ m.makes) in
    absurd (let q = sym f.1 ∙ ap (λ (b : Call × Bool). b.1) same ∙ d in cc)

-- a call that was asked is due where its number is that of one that is
pub named : (answers : List (Call × Bool)) (a : Call × Bool) → Once (numbers_of (asked_of answers)) → In a answers → has (numbers_of (due_of answers)) a.0.number ≡ a.1
named answers a once i = named_case answers a once i a.1 (has (numbers_of (due_of answers)) a.0.number) refl refl

-- Sieves and lists over the calls that were asked, by what their cells returned.

sieve_case : (a : Call × Bool) (kept : List Call) (answers : List (Call × Bool)) → kept ≡ due_of answers → (b : Bool) → b ≡ a.1
    → cond b (a.0 ∷ kept) kept ≡ map (λ (x : Call × Bool). x.0) (cond b (a ∷ filter (λ (x : Call × Bool). x.1) answers) (filter (λ (x : Call × Bool). x.1) answers))
sieve_case a kept answers rest true is = ap (λ (cs : List Call). a.0 ∷ cs) rest
sieve_case a kept answers rest false is = rest

pub sieve : (p : Call → Bool) (answers : List (Call × Bool)) → ((a : Call × Bool) → In a answers → p a.0 ≡ a.1) → filter p (asked_of answers) ≡ due_of answers
sieve p [] same = refl
sieve p (a ∷ answers) same =
    sieve_case a (filter p (asked_of answers)) answers (sieve p answers (λ b i. same b (there i))) (p a.0) (same a (here refl))
    ∙ ap (λ (b : Bool). map (λ (x : Call × Bool). x.0) (cond b (a ∷ filter (λ (x : Call × Bool). x.1) answers) (filter (λ (x : Call × Bool). x.1) answers)))
    (same a (here refl))

count_case : (kept : List Call) (a : Call × Bool) (answers : List (Call × Bool)) → length kept + length (due_of answers) ≡ length answers → (b : Bool)
    → length (cond (not b) (a.0 ∷ kept) kept)
    + length (map (λ (x : Call × Bool). x.0) (cond b (a ∷ filter (λ (x : Call × Bool). x.1) answers) (filter (λ (x : Call × Bool). x.1) answers)))
    ≡ suc (length answers)
count_case kept a answers rest true = omega (arith, rest)
count_case kept a answers rest false = omega (arith, rest)

-- those that are not due, and those that are
pub left_count : (q : Call → Bool) (answers : List (Call × Bool)) → ((a : Call × Bool) → In a answers → q a.0 ≡ not a.1)
    → length (filter q (asked_of answers)) + length (due_of answers) ≡ length answers
left_count q [] same = refl
left_count q (a ∷ answers) same =
    ap (λ (b : Bool). length (cond b (a.0 ∷ filter q (asked_of answers)) (filter q (asked_of answers))) + length (due_of (a ∷ answers))) (same a (here refl))
    ∙ count_case (filter q (asked_of answers)) a answers (left_count q answers (λ b i. same b (there i))) a.1

pub spread_asked : {B : Type 0} (f : Call → List B) (g : Call × Bool → List B) (answers : List (Call × Bool)) → ((a : Call × Bool) → In a answers → f a.0 ≡ g a)
    → flat_map f (asked_of answers) ≡ flat_map g answers
spread_asked f g [] same = refl
spread_asked f g (a ∷ answers) same =
    ap (λ (xs : List _). xs ++ flat_map f (asked_of answers)) (same a (here refl))
    ∙ ap (λ (xs : List _). g a ++ xs) (spread_asked f g answers (λ b i. same b (there i)))
