-- One key and one section more.
use Rattle.std.proofs.Common.{◌≡◌, refl, sym, ◌∙◌, ap, subst, ℕ, zero, suc, ◌+◌, ◌<◌, ◌≤◌, ◌++◌, ◌==◌, List, [], ◌∷◌, length, Bool, true, false, cond, map, filter, get_or, take, Some, None, arith, append_assoc}
use Rattle.std.specs.Prelude.{slice_get, slice_index_or}
use Rattle.std.specs.List.{AllZip}
use Rattle.histories.specs.Words.{In, here, there, has, numbers}
use Rattle.histories.proofs.Lists.{filtered, keeps, it_has, has_it}
use Rattle.port_pool.specs.Signals.{NewKey}
use Rattle.offer_answer.specs.Rounds.{KeyPlace, Round, OfferAsk}
use Rattle.offer_answer.specs.Demands.{is_dropped}
use Rattle.offer_answer.specs.Plan.{demand}
use Rattle.call_board.specs.Pairs.{drawn_keys_from}
use Rattle.call_cell.specs.declared.prepare.Prepare as prepared
use Rattle.call_cell.specs.declared.prepare.PreparedKey.{PreparedKey}
use Rattle.call_cell.specs.Preparations.{PrepareFor, IsPrepared, place_key, prepared_keys, drops_of}
use Rattle.relay_core.proofs.Turns.{filter_append, nothing_more}
use Rattle.offer_command.specs.PreparedLegs.{SameLegs, SectionsFor}

-- Keys.

-- the key of a draw, for a place
abbrev pub key_at : (number : ℕ) → List ℕ → KeyPlace → NewKey
key_at number bytes place = record { number = number; section = place.section; side = place.side; suite = place.suite; bytes = bytes }

keys_push : (n : ℕ) (draws : List (List ℕ)) (i : ℕ) (places : List KeyPlace) (bytes : List ℕ) (place : KeyPlace) → slice_get draws i ≡ Some bytes → slice_get places i ≡ Some place
    → drawn_keys_from n (take (suc i) draws) places ≡ drawn_keys_from n (take i draws) places ++ key_at (n + i) bytes place ∷ []
keys_push n [] i places bytes place q p = absurd (let e : None ≡ Some bytes = q in cc)
keys_push n (d ∷ draws) i [] bytes place q p = absurd (let e : None ≡ Some place = p in cc)
keys_push n (d ∷ draws) zero (x ∷ places) bytes place q p =
    let a : d ≡ bytes = (let e : Some d ≡ Some bytes = q in cc) in
    let b : x ≡ place = (let e : Some x ≡ Some place = p in cc) in
    let z : n ≡ n + 0 = omega arith in
    ap (λ (bs : List ℕ). key_at n bs x ∷ []) a ∙ ap (λ (y : KeyPlace). key_at n bytes y ∷ []) b ∙ ap (λ (m : ℕ). key_at m bytes place ∷ []) z
keys_push n (d ∷ draws) (suc i) (x ∷ places) bytes place q p =
    let z : (n + 1) + i ≡ n + suc i = omega arith in
    ap (λ (ks : List NewKey). key_at n d x ∷ ks) (keys_push (n + 1) draws i places bytes place q p
    ∙ ap (λ (m : ℕ). drawn_keys_from (n + 1) (take i draws) places ++ key_at m bytes place ∷ []) z)

pub keys_more : (n : ℕ) (draws : List (List ℕ)) (i : ℕ) (places : List KeyPlace) (bytes : List ℕ) (place : KeyPlace) (before : List NewKey) → slice_get draws i ≡ Some bytes
    → slice_get places i ≡ Some place
    → (before ++ drawn_keys_from n (take i draws) places) ++ key_at (n + i) bytes place ∷ [] ≡ before ++ drawn_keys_from n (take (i + 1) draws) places
keys_more n draws i places bytes place before q p =
    let z : suc i ≡ i + 1 = omega arith in
    append_assoc before (drawn_keys_from n (take i draws) places) (key_at (n + i) bytes place ∷ [])
    ∙ ap (λ (ks : List NewKey). before ++ ks) (sym (keys_push n draws i places bytes place q p) ∙ ap (λ (k : ℕ). drawn_keys_from n (take k draws) places) z)

pub legs_still : {O : Type 0} (a b c : prepared.Prepare O) → SameLegs a b → SameLegs b c → SameLegs a c
legs_still a b c p q = record {
  added_are = q.added_are ∙ p.added_are;
  parts_are = q.parts_are ∙ p.parts_are;
  room_is = q.room_is ∙ p.room_is;
  ready = λ r. q.ready (p.ready r);
}

pub legs_same : {O : Type 0} (a : prepared.Prepare O) → SameLegs a a
legs_same a = record { added_are = refl; parts_are = refl; room_is = refl; ready = λ r. r }

-- Sections.

swapped : (a b rest : Bool) → cond a true (cond b true rest) ≡ cond b true (cond a true rest)
swapped true true rest = refl
swapped true false rest = refl
swapped false true rest = refl
swapped false false rest = refl

has_last : (xs : List ℕ) (s n : ℕ) → has (s ∷ xs) n ≡ has (xs ++ s ∷ []) n
has_last [] s n = refl
has_last (x ∷ xs) s n = swapped (s == n) (x == n) (has xs n) ∙ ap (λ (b : Bool). cond (x == n) true b) (has_last xs s n)

-- it is one where a dropped section stands in the list
pub drops_last : {O : Type 0} (signal : prepared.Prepare O) (keys : List NewKey) (xs : List ℕ) (s : ℕ) → PrepareFor signal keys (s ∷ xs) → PrepareFor signal keys (xs ++ s ∷ [])
drops_last signal keys xs s stands = record {
  keys_are = stands.keys_are;
  drops = λ section low. stands.drops section low ∙ has_last xs s section;
  fresh = stands.fresh;
}

-- a wanted section is dropped, and one that is not wanted is not
pub drops_wanted : {O : Type 0} (signal : prepared.Prepare O) (keys : List NewKey) (xs wanted : List ℕ) (s : ℕ) → has wanted s ≡ true → PrepareFor signal keys (s ∷ xs)
    → PrepareFor signal keys (xs ++ filter (has wanted) (s ∷ []))
drops_wanted signal keys xs wanted s is stands =
    subst (λ (b : Bool). PrepareFor signal keys (xs ++ cond b (s ∷ []) [])) (sym is) (drops_last signal keys xs s stands)

pub drops_unwanted : {O : Type 0} (signal : prepared.Prepare O) (keys : List NewKey) (xs wanted : List ℕ) (s : ℕ) → has wanted s ≡ false → PrepareFor signal keys xs
    → PrepareFor signal keys (xs ++ filter (has wanted) (s ∷ []))
drops_unwanted signal keys xs wanted s is stands =
    subst (λ (b : Bool). PrepareFor signal keys (xs ++ cond b (s ∷ []) [])) (sym is) (subst (λ (ys : List ℕ). PrepareFor signal keys ys) (sym (nothing_more xs)) stands)

numbers_push : (n count : ℕ) → numbers n (suc count) ≡ numbers n count ++ (n + count) ∷ []
numbers_push n zero = let z : n ≡ n + 0 = omega arith in ap (λ (m : ℕ). m ∷ []) z
numbers_push n (suc count) =
    let z : suc n + count ≡ n + suc count = omega arith in
    ap (λ (ns : List ℕ). n ∷ ns) (numbers_push (suc n) count ∙ ap (λ (m : ℕ). numbers (suc n) count ++ m ∷ []) z)

-- one section more
pub sections_more : (test : ℕ → Bool) (s : ℕ) → filter test (numbers 0 s) ++ filter test (s ∷ []) ≡ filter test (numbers 0 (s + 1))
sections_more test s =
    let z : suc s ≡ s + 1 = omega arith in
    let y : 0 + s ≡ s = omega arith in
    sym (filter_append test (numbers 0 s) (s ∷ []))
    ∙ ap (λ (m : ℕ). filter test (numbers 0 s ++ m ∷ [])) (sym y)
    ∙ ap (λ (ns : List ℕ). filter test ns) (sym (numbers_push 0 s))
    ∙ ap (λ (k : ℕ). filter test (numbers 0 k)) z

filter_by : (p q : ℕ → Bool) (xs : List ℕ) → ((x : ℕ) → In x xs → p x ≡ q x) → filter p xs ≡ filter q xs
filter_by p q [] same = refl
filter_by p q (x ∷ xs) same =
    ap (λ (b : Bool). cond b (x ∷ filter p xs) (filter p xs)) (same x (here refl))
    ∙ ap (λ (ys : List ℕ). cond (q x) (x ∷ ys) ys) (filter_by p q xs (λ y i. same y (there i)))

has_filtered : (test : ℕ → Bool) (xs : List ℕ) (x : ℕ) → In x xs → (b : Bool) → test x ≡ b → (h : Bool) → has (filter test xs) x ≡ h → h ≡ b
has_filtered test xs x i true t true e = refl
has_filtered test xs x i false t false e = refl
has_filtered test xs x i true t false e = let f = sym (it_has x (filter test xs) (keeps test xs i t)) ∙ e in absurd (let k : true ≡ false = f in cc)
has_filtered test xs x i false t true e = let f = sym (filtered test xs (has_it x (filter test xs) e)).1 ∙ t in absurd (let k : true ≡ false = f in cc)

filter_again : (test : ℕ → Bool) (xs : List ℕ) → filter (has (filter test xs)) xs ≡ filter test xs
filter_again test xs = filter_by (has (filter test xs)) test xs (λ x i. has_filtered test xs x i (test x) refl (has (filter test xs) x) refl)

-- the demanded sections stand upwards
pub demanded_are : (rounds : List Round) (ask : OfferAsk) (sections : List ℕ) → SectionsFor (demand rounds ask).dropped sections → sections ≡ (demand rounds ask).dropped
unfolding demand
demanded_are rounds ask sections are = are ∙ filter_again (is_dropped rounds ask) (numbers 0 8)

take_whole : {A : Type 0} (xs : List A) (n : ℕ) → length xs ≤ n → take n xs ≡ xs
take_whole [] zero low = refl
take_whole [] (suc n) low = refl
take_whole (x ∷ xs) zero low = absurd (omega (arith, low))
take_whole (x ∷ xs) (suc n) low = ap (λ ys. x ∷ ys) (take_whole xs n (omega (arith, low)))

-- all keys
pub keys_whole : (n i : ℕ) (draws drawn : List (List ℕ)) (places : List KeyPlace) → draws ≡ drawn → length draws ≤ i → drawn_keys_from n (take i draws) places ≡ drawn_keys_from n drawn places
keys_whole n i draws drawn places same low = ap (λ (ds : List (List ℕ)). drawn_keys_from n ds places) (take_whole draws i low ∙ same)

-- what stands at an index
pub got_at : (draws : List (List ℕ)) (i : ℕ) → i < length draws → slice_get draws i ≡ Some (get_or draws i [])
got_at [] i low = absurd (omega (arith, low))
got_at (d ∷ draws) zero low = refl
got_at (d ∷ draws) (suc i) low = got_at draws i (omega (arith, low))

-- What was prepared.

filter_numbers : (p q : ℕ → Bool) (n count : ℕ) → ((x : ℕ) → x < n + count → p x ≡ q x) → filter p (numbers n count) ≡ filter q (numbers n count)
filter_numbers p q n zero same = refl
filter_numbers p q n (suc count) same =
    ap (λ (b : Bool). cond b (n ∷ filter p (numbers (suc n) count)) (filter p (numbers (suc n) count))) (same n (omega arith))
    ∙ ap (λ (ys : List ℕ). cond (q n) (n ∷ ys) ys) (filter_numbers p q (suc n) count (λ x low. same x (omega (arith, low))))

zip_keys : (ps : List PreparedKey) (ks : List NewKey) → AllZip IsPrepared ps ks → map place_key ps ≡ ks
zip_keys [] [] all = refl
zip_keys [] (k ∷ ks) all = elim all [ ]
zip_keys (p ∷ ps) [] all = elim all [ ]
zip_keys (p ∷ ps) (k ∷ ks) all = ap (λ (x : NewKey). x ∷ map place_key ps) all.0.key_is ∙ ap (λ (xs : List NewKey). k ∷ xs) (zip_keys ps ks all.1)

-- what was prepared tells its keys, and its dropped sections upwards
pub keys_told : {O : Type 0} (signal : prepared.Prepare O) (keys : List NewKey) (dropped : List ℕ) → PrepareFor signal keys dropped → prepared_keys signal ≡ keys
keys_told signal keys dropped stands = zip_keys signal.keys.items keys stands.keys_are

pub drops_upwards : {O : Type 0} (signal : prepared.Prepare O) (keys : List NewKey) (dropped : List ℕ) → PrepareFor signal keys dropped → drops_of signal ≡ filter (has dropped) (numbers 0 8)
drops_upwards signal keys dropped stands = filter_numbers (λ section. slice_index_or signal.dropped section false) (has dropped) 0 8 stands.drops

pub drops_told : {O : Type 0} (signal : prepared.Prepare O) (keys : List NewKey) (rounds : List Round) (ask : OfferAsk) → PrepareFor signal keys (demand rounds ask).dropped
    → drops_of signal ≡ (demand rounds ask).dropped
drops_told signal keys rounds ask stands = drops_upwards signal keys (demand rounds ask).dropped stands ∙ demanded_are rounds ask (filter (has (demand rounds ask).dropped) (numbers 0 8)) refl
