-- Legs that are given out ends from a list, one after the other, each by its address.
use Rattle.std.proofs.Common.{◌≡◌, refl, ap, subst, sym, ◌∙◌, ℕ, suc, ◌+◌, ◌<◌, ◌≤◌, Bool, true, false, cond, List, [], ◌∷◌, ◌++◌, take, drop, length, Option, Some, None, get_or, set, arith, below_more, append_assoc}
use Rattle.std.specs.Prelude.{◌&&◌, ◌||◌, ◌==◌, IsSome, is_some, position}
use Rattle.std.specs.List.{filter, filter_map, count_by, list_any, remove}
use Rattle.std.specs.Cmp.Lexicographic.{bytes_decides}
use Rattle.std.proofs.lemmas.List.{length-map, get_or-map, take_more_set, take_all, drop_more}
use Rattle.std.proofs.Math.Seq.{map-set_same}
use Rattle.std.proofs.lemmas.List.Sums.{length-filter, sum_by-cons}
use Rattle.std.proofs.lemmas.List.Quantifiers.{position-Some}
use Rattle.std.proofs.lemmas.List.Elements.{filter-append, filter_map-append}
use Rattle.relay_outside.specs.declared.address.Addr.{Addr}
use Rattle.relay_outside.specs.declared.address.Ip.{Ip}
use Rattle.relay_outside.specs.declared.address.Ip.TheVariants as ip
use Rattle.relay_outside.specs.declared.settings.Config.{Config}
use Rattle.relay_outside.specs.Ports.{same_addr, same_ip}
use Rattle.histories.proofs.Lists.{equal, equal_if}
use Rattle.srtp_sources.proofs.Knowing.{any-position}
use Rattle.call_cell.specs.declared.leg.Leg.{Leg}
use Rattle.call_cell.specs.declared.saved.LegSaved.{LegSaved}
use Rattle.call_cell.specs.SavedCells.{saved_leg}
use Rattle.call_cell.specs.TakenEnds.{leased_address, ends_by_address}
use Rattle.call_cell.specs.GivenEnds.{is_of_address, is_saved_at, with_given_ends, HasEndsFor, ends_with_addresses, IsLeftOf, GivesEnds, TakesEndsOf}
use Rattle.call_cell.proofs.Few.{in_at}
use Rattle.call_cell.proofs.Placing.{at_set, off_set}
use Rattle.call_cell.proofs.SavedLegs.{saved_legs}
use Rattle.call_cell.proofs.LeftOf.{nothing_taken, taken_from, one_taken, to_front}

-- Addresses.

host_itself : (a : Ip) → same_ip a a ≡ true
host_itself (ip.V4 a) = (bytes_decides a a).1 refl
host_itself (ip.V6 a) = (bytes_decides a a).1 refl

pub itself : (a : Addr) → same_addr a a ≡ true
itself a = ap (λ (t : Bool). t && (a.port == a.port)) (host_itself a.ip) ∙ equal a.port a.port refl

host_is : (a b : Ip) → same_ip a b ≡ true → a ≡ b
host_is (ip.V4 a) (ip.V4 b) same = ap ip.V4 ((bytes_decides a b).0 same)
host_is (ip.V4 a) (ip.V6 b) same = absurd (let e = same in cc)
host_is (ip.V6 a) (ip.V4 b) same = absurd (let e = same in cc)
host_is (ip.V6 a) (ip.V6 b) same = ap ip.V6 ((bytes_decides a b).0 same)

both_true : (a b : Bool) → (a && b) ≡ true → (a ≡ true) × (b ≡ true)
both_true true b h = (refl, h)
both_true false b h = absurd (let e = h in cc)

pub address_is : (a b : Addr) → same_addr a b ≡ true → a ≡ b
address_is a b same =
    let parts = both_true (same_ip a.ip b.ip) (a.port == b.port) same in
    let host = host_is a.ip b.ip parts.0 in
    let port = equal_if a.port b.port parts.1 in
    λ i. record { ip = host i; port = port i }

-- The first ends of an address.

pub taken_at : {O : Type 0} (at : Addr) (those : List (Addr × O × O)) (i : ℕ) (x : Addr × O × O) → position (λ (e : Addr × O × O). is_of_address at e) those ≡ Some i
    → x ≡ get_or those i x → TakesEndsOf at those (remove those i) (x.1, x.2)
taken_at {O} at those i x there is =
    let p : Addr → Addr × O × O → Bool = λ (other : Addr) (e : Addr × O × O). is_of_address other e in
    let f = position-Some (p at) those i x there in
    let of : x.0 ≡ at = address_is x.0 at (ap (p at) is ∙ f.1) in
    record {
      taken = λ other.
          to_front (p other) those i x f.0 is
          (λ passes k less. ap (λ (a : Addr). same_addr (get_or those k x).0 a) (sym (sym of ∙ address_is x.0 other passes)) ∙ f.2 k less)
          ∙ ap (λ (a : Addr). filter (p other) ((a, x.1, x.2) ∷ remove those i)) of;
      left = one_taken those i f.0;
    }

-- one more stands in the list
count_one : {X : Type 0} (p : X → Bool) (x : X) (xs : List X) → p x ≡ true → count_by p (x ∷ xs) ≡ suc (count_by p xs)
count_one {X} p x xs q = sum_by-cons (λ (y : X). cond (p y) 1 0) x xs ∙ ap (λ (b : Bool). cond b 1 0 + count_by p xs) q ∙ omega arith

count_by_filter : {X : Type 0} (p : X → Bool) (xs ys : List X) → filter p xs ≡ filter p ys → count_by p xs ≡ count_by p ys
count_by_filter p xs ys same = sym (length-filter p xs) ∙ ap length same ∙ length-filter p ys

-- Each leg, one after the other.

-- the first legs have ends from the list, and it has ends for the others
pub record GivesUpTo {O : Type 0} (config : Config) (i : ℕ) (first now : List (Leg O)) (old new : List (Addr × O × O)) : Type 0 where
  pub all : (j : ℕ) (d : Leg O) → j < i → IsSome (get_or now j d).sending.ends
  pub rest : (j : ℕ) (d : Leg O) → i ≤ j → get_or now j d ≡ get_or first j d
  pub saved : saved_legs now ≡ saved_legs first
  pub given : (at : Addr) → filter (λ (e : Addr × O × O). is_of_address at e) old ≡ filter (λ (e : Addr × O × O). is_of_address at e) (ends_with_addresses config (take i now) ++ new)
  pub left : IsLeftOf old new
  pub room : HasEndsFor config (drop i (saved_legs first)) new

pub none_given : {O : Type 0} (config : Config) (legs : List (Leg O)) (old : List (Addr × O × O)) → HasEndsFor config (saved_legs legs) old → GivesUpTo config 0 legs legs old old
none_given config legs old room = record {
  all = λ j d less. absurd (omega (arith, less));
  rest = λ j d more. refl;
  saved = refl;
  given = λ at. refl;
  left = nothing_taken old;
  room = room;
}

-- the legs that are left begin with this one
saved_next : {O : Type 0} (first : List (Leg O)) (i : ℕ) (x : Leg O) → i < length first
    → drop i (saved_legs first) ≡ saved_leg (get_or first i x) ∷ drop (i + 1) (saved_legs first)
saved_next {O} first i x below =
    let f : Leg O → LegSaved = λ (leg : Leg O). saved_leg leg in
    drop_more (saved_legs first) i (saved_leg x) (omega (arith, below, length-map first f))
    ∙ ap (λ (s : LegSaved). s ∷ drop (i + 1) (saved_legs first)) (get_or-map f first i x (saved_leg x) below)

pub room_for : {O : Type 0} (config : Config) (i : ℕ) (first now : List (Leg O)) (old new : List (Addr × O × O)) (x : Leg O) → i < length first
    → GivesUpTo config i first now old new → 0 < count_by (λ (e : Addr × O × O). is_of_address (leased_address config (get_or now i x).lease) e) new
room_for {O} config i first now old new x below up =
    let at : Addr = leased_address config (get_or now i x).lease in
    let leg = get_or first i x in
    let p : LegSaved → Bool = λ (s : LegSaved). is_saved_at config at s in
    let here : p (saved_leg leg) ≡ true = ap (λ (l : Leg O). same_addr (leased_address config l.lease) at) (sym (up.rest i x (omega arith))) ∙ itself at in
    omega (arith, up.room at, ap (count_by p) (saved_next first i x below), count_one p (saved_leg leg) (drop (i + 1) (saved_legs first)) here)

same_rest : (b : Bool) (n m : ℕ) → cond b 1 0 + n ≤ cond b 1 0 + m → n ≤ m
same_rest true n m q = omega (arith, q)
same_rest false n m q = omega (arith, q)

-- one more leg has its ends
pub one_given : {O : Type 0} (config : Config) (i : ℕ) (first now : List (Leg O)) (old mid new : List (Addr × O × O)) (x leg : Leg O) (ends : O × O) → i < length first
    → length now ≡ length first → GivesUpTo config i first now old mid → TakesEndsOf (leased_address config (get_or now i x).lease) mid new ends
    → leg ≡ with_given_ends (get_or now i x) ends → GivesUpTo config (i + 1) first (set now i leg) old new
one_given {O} config i first now old mid new x leg ends below long up takes is = record {
  all = λ j d less.
      below_more (λ (k : ℕ). IsSome (get_or (set now i leg) k d).sending.ends) i
      (λ k h. subst (λ (l : Leg O). IsSome l.sending.ends) (sym (off_set now i k leg d (λ q. omega (arith, q, h)))) (up.all k d h))
      (subst (λ (l : Leg O). IsSome l.sending.ends) (sym is ∙ sym (at_set now i leg d within)) refl)
      j less;
  rest = λ j d more. off_set now i j leg d (λ q. omega (arith, q, more)) ∙ up.rest j d (omega (arith, more));
  saved = map-set_same saves now i leg x (ap saves is) ∙ up.saved;
  given = given_at;
  left = taken_from old mid new up.left takes.left;
  room = room_at;
}
  where
    within : i < length now
    within = omega (arith, below, long)

    saves : Leg O → LegSaved
    saves l = saved_leg l

    address : Addr
    address = leased_address config (get_or now i x).lease

    with_address : Leg O → Option (Addr × O × O)
    with_address l = ends_by_address (leased_address config l.lease) l.sending.ends

    before : List (Addr × O × O)
    before = ends_with_addresses config (take i now)

    more_ends : ends_with_addresses config (take (i + 1) (set now i leg)) ≡ before ++ (address, ends.0, ends.1) ∷ []
    more_ends =
        ap (λ (l : List (Leg O)). ends_with_addresses config l) (take_more_set now i leg within)
        ∙ filter_map-append with_address (take i now) (leg ∷ [])
        ∙ ap (λ (l : Leg O). before ++ filter_map with_address (l ∷ [])) is

    given_at : (at : Addr) → filter (is_of_address at) old ≡ filter (is_of_address at) (ends_with_addresses config (take (i + 1) (set now i leg)) ++ new)
    given_at at =
        let p : Addr × O × O → Bool = λ (e : Addr × O × O). is_of_address at e in
        up.given at
        ∙ filter-append p before mid
        ∙ ap (λ (l : List (Addr × O × O)). filter p before ++ l) (takes.taken at)
        ∙ sym (filter-append p before ((address, ends.0, ends.1) ∷ new))
        ∙ ap (filter p) (sym (append_assoc before ((address, ends.0, ends.1) ∷ []) new))
        ∙ ap (λ (l : List (Addr × O × O)). filter p (l ++ new)) (sym more_ends)

    room_at : HasEndsFor config (drop (i + 1) (saved_legs first)) new
    room_at at =
        let p : Addr × O × O → Bool = λ (e : Addr × O × O). is_of_address at e in
        let q : LegSaved → Bool = λ (s : LegSaved). is_saved_at config at s in
        let rest = drop (i + 1) (saved_legs first) in
        let b : Bool = same_addr address at in
        let wanted : count_by q (drop i (saved_legs first)) ≡ cond b 1 0 + count_by q rest
        = ap (count_by q) (saved_next first i x below)
        ∙ sum_by-cons (λ (s : LegSaved). cond (q s) 1 0) (saves (get_or first i x)) rest
        ∙ ap (λ (l : Leg O). cond (same_addr (leased_address config l.lease) at) 1 0 + count_by q rest) (sym (up.rest i x (omega arith))) in
        let there : count_by p mid ≡ cond b 1 0 + count_by p new
        = count_by_filter p mid ((address, ends.0, ends.1) ∷ new) (takes.taken at)
        ∙ sum_by-cons (λ (e : Addr × O × O). cond (p e) 1 0) (address, ends.0, ends.1) new in
        same_rest b (count_by q rest) (count_by p new) (omega (arith, up.room at, wanted, there))

pub all_given : {O : Type 0} (config : Config) (i : ℕ) (first now : List (Leg O)) (old new : List (Addr × O × O)) → length now ≤ i → GivesUpTo config i first now old new
    → GivesEnds config now old new
all_given {O} config i first now old new past up = record {
  all = λ leg there.
      let a = in_at now there in
      subst (λ (l : Leg O). IsSome l.sending.ends) (a.is leg) (up.all a.at leg (omega (arith, a.below, past)));
  given = λ at.
      up.given at
      ∙ ap (λ (l : List (Leg O)). filter (λ (e : Addr × O × O). is_of_address at e) (ends_with_addresses config l ++ new)) (take_all i now past);
  left = up.left;
}

-- where the list has ends of an address, the first of them are found

none_counted : {X : Type 0} (p : X → Bool) (x : X) (xs : List X) (b : Bool) → p x ≡ b → (b || list_any p xs) ≡ false → (list_any p xs ≡ false → count_by p xs ≡ 0)
    → count_by p (x ∷ xs) ≡ 0
none_counted p x xs true q none rest = absurd (let e = none in cc)
none_counted {X} p x xs false q none rest =
    sum_by-cons (λ (y : X). cond (p y) 1 0) x xs ∙ ap (λ (b : Bool). cond b 1 0 + count_by p xs) q ∙ omega (arith, rest none)

counts_none : {X : Type 0} (p : X → Bool) (xs : List X) → list_any p xs ≡ false → count_by p xs ≡ 0
counts_none p [] none = refl
counts_none p (x ∷ xs) none = none_counted p x xs (p x) refl none (counts_none p xs)

pub one_is_found : {X : Type 0} (p : X → Bool) (xs : List X) → 0 < count_by p xs → position p xs ≡ None → ⊥
one_is_found p xs some none =
    omega (arith, some, counts_none p xs (any-position p xs ∙ ap (λ (o : Option ℕ). is_some o) none))
