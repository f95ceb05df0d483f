-- Ends that are listed in the order of the legs that they are for; and each leg's ends stood in the list.
use Rattle.std.proofs.Common.{◌≡◌, refl, ap, subst, sym, ◌∙◌, ℕ, ◌+◌, Bool, true, false, cond, List, [], ◌∷◌, ◌++◌, map, Option, Some, None, arith}
use Rattle.std.specs.Prelude.{IsSome, is_some}
use Rattle.std.specs.List.{filter, cons_option, count_by}
use Rattle.std.proofs.lemmas.List.Sums.{sum_by-cons}
use Rattle.relay_outside.specs.declared.address.Addr.{Addr}
use Rattle.relay_outside.specs.declared.settings.Config.{Config}
use Rattle.relay_outside.specs.Ports.{same_addr}
use Rattle.histories.specs.Words.{In, here, there, or_else}
use Rattle.histories.proofs.Lists.{filtered, in_left, keeps, picks}
use Rattle.call_cell.specs.declared.leg.Leg.{Leg}
use Rattle.call_cell.specs.declared.saved.LegSaved.{LegSaved}
use Rattle.call_cell.specs.SavedCells.{AreEmptied}
use Rattle.call_cell.specs.TakenEnds.{leased_address, ends_by_address, without_ends, first_ends, without_first}
use Rattle.call_cell.specs.GivenEnds.{is_of_address, HasEndsFor, ends_with_addresses, GivesEnds}
use Rattle.call_cell.proofs.EndsThere.{is_there}
use Rattle.call_cell.proofs.GivenEnds.{itself}

-- There are enough.

count_made : {X Y : Type 0} (f : X → Y) (q : Y → Bool) (xs : List X) → count_by (λ (x : X). q (f x)) xs ≡ count_by q (map f xs)
count_made f q [] = refl
count_made {X} {Y} f q (x ∷ xs) =
    sum_by-cons (λ (y : X). cond (q (f y)) 1 0) x xs
    ∙ ap (λ (n : ℕ). cond (q (f x)) 1 0 + n) (count_made f q xs)
    ∙ sym (sum_by-cons (λ (y : Y). cond (q y) 1 0) (f x) (map f xs))

pub listed_room : {O : Type 0} (config : Config) (saved : List LegSaved) (those : List (Addr × O × O))
    → map (λ (e : Addr × O × O). e.0) those ≡ map (λ (leg : LegSaved). leased_address config leg.lease) saved → HasEndsFor config saved those
listed_room {O} config saved those same at =
    let q : Addr → Bool = λ (a : Addr). same_addr a at in
    omega (
      arith,
      count_made (λ (leg : LegSaved). leased_address config leg.lease) q saved,
      count_made (λ (e : Addr × O × O). e.0) q those,
      ap (count_by q) same,
    )

-- Each leg gets its own.

pub record AreAll {X : Type 0} (given those left : List X) : Type 0 where
  pub same : given ≡ those
  pub none : left ≡ []

passing : {X : Type 0} (p : X → Bool) (x : X) (xs : List X) → p x ≡ true → filter p (x ∷ xs) ≡ x ∷ filter p xs
passing {X} p x xs q = ap (λ (b : Bool). cond b (x ∷ filter p xs) (filter p xs)) q

rest_case : {X : Type 0} (x : X) (xs ys : List X) (b : Bool) → cond b (x ∷ xs) xs ≡ cond b (x ∷ ys) ys → xs ≡ ys
rest_case x xs ys true q = let e = q in cc
rest_case x xs ys false q = q

listed : {O : Type 0} (given those left : List (Addr × O × O)) → map (λ (e : Addr × O × O). e.0) those ≡ map (λ (e : Addr × O × O). e.0) given
    → ((at : Addr) → filter (λ (e : Addr × O × O). is_of_address at e) those ≡ filter (λ (e : Addr × O × O). is_of_address at e) (given ++ left)) → AreAll given those left
listed [] [] [] same per = record { same = refl; none = refl }
listed {O} [] [] (e ∷ left) same per =
    absurd (let q = per e.0 ∙ passing (λ (x : Addr × O × O). is_of_address e.0 x) e left (itself e.0) in cc)
listed [] (d ∷ those) left same per = absurd (let q = same in cc)
listed (e ∷ given) [] left same per = absurd (let q = same in cc)
listed {O} (e ∷ given) (d ∷ those) left same per =
    let address : Addr × O × O → Addr = λ (x : Addr × O × O). x.0 in
    let p : Addr → Addr × O × O → Bool = λ (at : Addr) (x : Addr × O × O). is_of_address at x in
    let heads : d.0 ≡ e.0 = (let q = same in cc) in
    let whole : d ∷ filter (p d.0) those ≡ e ∷ filter (p d.0) (given ++ left)
    = sym (passing (p d.0) d those (itself d.0)) ∙ per d.0
    ∙ passing (p d.0) e (given ++ left) (ap (λ (a : Addr). same_addr a d.0) (sym heads) ∙ itself d.0) in
    let one : d ≡ e = (let q = whole in cc) in
    let rest = listed given those left (let q = same in cc) (λ at.
    rest_case e (filter (p at) those) (filter (p at) (given ++ left)) (p at e)
    (ap (λ (x : Addr × O × O). filter (p at) (x ∷ those)) (sym one) ∙ per at)) in
    record {
      same = ap (λ (x : Addr × O × O). x ∷ given) (sym one) ∙ ap (λ (l : List (Addr × O × O)). d ∷ l) rest.same;
      none = rest.none;
    }

addresses_are : {O : Type 0} (config : Config) (those : List (Leg O)) → ((leg : Leg O) → In leg those → IsSome leg.sending.ends)
    → map (λ (e : Addr × O × O). e.0) (ends_with_addresses config those) ≡ map (λ (leg : Leg O). leased_address config leg.lease) those
addresses_are config [] all = refl
addresses_are {O} config (leg ∷ those) all =
    let e = is_there leg.sending.ends (all leg (here refl)) in
    ap (λ (o : Option (O × O)). map (λ (e : Addr × O × O). e.0) (cons_option (ends_by_address (leased_address config leg.lease) o) (ends_with_addresses config those))) e.1
    ∙ ap (λ (l : List Addr). leased_address config leg.lease ∷ l) (addresses_are config those (λ other i. all other (there i)))

pub each_its_own : {O : Type 0} (config : Config) (those : List (Leg O)) (ends left : List (Addr × O × O))
    → map (λ (e : Addr × O × O). e.0) ends ≡ map (λ (leg : Leg O). leased_address config leg.lease) those → GivesEnds config those ends left
    → (ends_with_addresses config those ≡ ends) × (left ≡ [])
each_its_own config those ends left same gives =
    let all = listed (ends_with_addresses config those) ends left (same ∙ sym (addresses_are config those gives.all)) gives.given in
    (all.same, all.none)

pub stood_there : {O : Type 0} (config : Config) (those : List (Leg O)) (ends left : List (Addr × O × O)) (leg : Leg O) (own : O × O) → GivesEnds config those ends left
    → In leg those → leg.sending.ends ≡ Some own → In (leased_address config leg.lease, own.0, own.1) ends
stood_there {O} config those ends left leg own gives i is =
    let at : Addr = leased_address config leg.lease in
    let p : Addr × O × O → Bool = λ (e : Addr × O × O). is_of_address at e in
    let given : In (at, own.0, own.1) (ends_with_addresses config those)
    = picks (λ (l : Leg O). ends_by_address (leased_address config l.lease) l.sending.ends) those i (ap (ends_by_address at) is) in
    let kept : In (at, own.0, own.1) (filter p (ends_with_addresses config those ++ left))
    = keeps p (ends_with_addresses config those ++ left) (in_left (ends_with_addresses config those) left given) (itself at) in
    (filtered p ends (subst (λ (l : List (Addr × O × O)). In (at, own.0, own.1) l) (sym (gives.given at)) kept)).0

-- Where none was left to be taken, no leg has its ends.

none_first : {O : Type 0} (at : Addr) (o : Option (O × O)) (rest : Option (Addr × O × O)) → or_else (ends_by_address at o) rest ≡ None → (o ≡ None) × (rest ≡ None)
none_first at None rest q = (refl, q)
none_first at (Some own) rest q = absurd (let e = q in cc)

emptied_more : {O : Type 0} (leg : Leg O) (rest : List (Leg O)) → leg.sending.ends ≡ None → AreEmptied rest → (other : Leg O) → In other (leg ∷ rest) → other.sending.ends ≡ None
emptied_more {O} leg rest none others other (here is) = ap (λ (l : Leg O). l.sending.ends) is ∙ none
emptied_more leg rest none others other (there i) = others other i

emptied_case : {O : Type 0} (leg : Leg O) (given rest : List (Leg O)) → leg.sending.ends ≡ None → AreEmptied rest → (b : Bool) → is_some leg.sending.ends ≡ b
    → AreEmptied (cond b given (leg ∷ rest))
emptied_case {O} leg given rest none others true q = absurd (let e = sym q ∙ ap (λ (o : Option (O × O)). is_some o) none in cc)
emptied_case leg given rest none others false q = λ other i. emptied_more leg rest none others other i

pub none_left_there : {O : Type 0} (config : Config) (those : List (Leg O)) → first_ends config those ≡ None → AreEmptied (without_first those)
none_left_there config [] q = λ other i. elim i [ ]
none_left_there {O} config (leg ∷ those) q =
    let both = none_first (leased_address config leg.lease) leg.sending.ends (first_ends config those) q in
    emptied_case leg (without_ends leg ∷ those) (without_first those) both.0 (none_left_there config those both.1) (is_some leg.sending.ends) refl
