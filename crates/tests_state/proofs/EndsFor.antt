-- Ends that are listed for the legs of a saved cell.
use Rattle.std.proofs.Common.{◌≡◌, refl, ap, sym, ◌∙◌, ℕ, ◌+◌, ◌<◌, ◌≤◌, Bool, true, false, cond, List, [], ◌∷◌, take, length, get_or, arith}
use Rattle.std.specs.Prelude.{slice_index_or, is_ok, if◌then◌else◌, Result, Ok}
use Rattle.std.specs.List.{count_by, insert}
use Rattle.std.proofs.lemmas.List.Sums.{sum_by-cons, count_by_more_yes, count_by_more_no}
use Rattle.relay_outside.specs.declared.address.Addr.{Addr}
use Rattle.relay_outside.specs.declared.settings.Config.{Config}
use Rattle.relay_outside.specs.Ports.{same_addr}
use Rattle.call_cell.specs.declared.saved.LegSaved.{LegSaved}
use Rattle.call_cell.specs.TakenEnds.{leased_address}
use Rattle.call_cell.specs.GivenEnds.{is_of_address, is_saved_at, HasEndsFor}

count_more : {X : Type 0} (p : X → Bool) (x : X) (xs : List X) → count_by p (x ∷ xs) ≡ cond (p x) 1 0 + count_by p xs
count_more {X} p x xs = sum_by-cons (λ (y : X). cond (p y) 1 0) x xs

one_more : {O : Type 0} (config : Config) (at : Addr) (legs : List LegSaved) (i : ℕ) (d : LegSaved) (those : List (Addr × O × O)) (ends : Addr × O × O) (b : Bool) → i < length legs
    → is_saved_at config at (get_or legs i d) ≡ b → is_of_address at ends ≡ b
    → count_by (is_saved_at config at) (take i legs) ≤ count_by (is_of_address at) those
    → count_by (is_saved_at config at) (take (i + 1) legs) ≤ count_by (is_of_address at) (ends ∷ those)
one_more {O} config at legs i d those ends true less saved of up =
    omega (arith, up, count_by_more_yes (is_saved_at config at) legs i d less saved, count_more (is_of_address at) ends those, ap {B = ℕ} (λ (t : Bool). cond t 1 0) of)
one_more {O} config at legs i d those ends false less saved of up =
    omega (arith, up, count_by_more_no (is_saved_at config at) legs i d less saved, count_more (is_of_address at) ends those, ap {B = ℕ} (λ (t : Bool). cond t 1 0) of)

pub more_ends : {O : Type 0} (config : Config) (legs : List LegSaved) (i : ℕ) (those : List (Addr × O × O)) (ends : Addr × O × O) → i < length legs
    → ((d : LegSaved) → ends.0 ≡ leased_address config (slice_index_or legs i d).lease) → HasEndsFor config (take i legs) those
    → HasEndsFor config (take (i + 1) legs) (ends ∷ those)
more_ends config [] i those ends less is up = absurd (omega (arith, less))
more_ends config (leg ∷ legs) i those ends less is up = λ at.
    one_more config at (leg ∷ legs) i leg those ends (is_of_address at ends) less
    (ap (λ (a : Addr). same_addr a at) (sym (is leg))) refl (up at)

-- what was put in front of a list
pub inserted : {X T E : Type 0} (result : Result T E) (xs ys : List X) (x : X) (done : T) → ys ≡ (if is_ok result then insert xs 0 x else xs) → result ≡ Ok done → ys ≡ x ∷ xs
inserted {X} {T} {E} result xs ys x done is ok = is ∙ ap (λ (r : Result T E). if is_ok r then insert xs 0 x else xs) ok
