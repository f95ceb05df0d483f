use Rattle.std.proofs.Common.{◌≡◌, ◌∙◌, ap, subst, refl, ℕ, zero, suc, List, [], ◌∷◌, ◌++◌, Option, Some}
use Rattle.std.specs.Prelude.{slice_get}
use Rattle.std.specs.List.{AllZip}
use Rattle.std.specs.Option.{option_to_list}
use Rattle.media_ports.specs.Ends.{IsPairOpened}
use Rattle.media_ports.proofs.UpTo.{opened_of}
use Rattle.tests_turns.specs.declared.media_ports_tests.TheConstants.{CONFIG}
use Rattle.tests_turns.proofs.media_ports_tests.two_ends.Goals as goal

zip_at : {A B : Type 0} (R : A → B → Type 0) (xs : List A) (ys : List B) (i : ℕ) (x : A) (y : B) → AllZip R xs ys → slice_get xs i ≡ Some x → slice_get ys i ≡ Some y → R x y
zip_at R [] ys i x y all at it = absurd (let f = at in cc)
zip_at R (z ∷ xs) [] i x y all at it = absurd all
zip_at R (z ∷ xs) (w ∷ ys) zero x y all at it =
    subst (λ a. R a y) (let same : z ≡ x = (let f = at in cc) in same) (subst (λ b. R z b) (let same : w ≡ y = (let f = it in cc) in same) all.0)
zip_at R (z ∷ xs) (w ∷ ys) (suc i) x y all at it = zip_at R xs ys i x y all.1 at it

popped : {B : Type 0} (list rest : List B) (o : Option B) (y : B) → list ≡ option_to_list o ++ rest → o ≡ Some y → list ≡ y ∷ rest
popped {B} list rest o y is some = is ∙ ap (λ (p : Option B). option_to_list p ++ rest) some

pub returns-clause-first : goal.returns-clause-first
returns-clause-first c leases lease all at =
    let is = popped c.args.opened.list _ c.pop.result c.unwrap-first.result c.pop.ensures.list c.unwrap-first.ensures in
    opened_of _ _ CONFIG lease c.unwrap-first.result (zip_at (IsPairOpened _ _ CONFIG) leases c.args.opened.list 0 lease c.unwrap-first.result all at (rw is refl))

pub returns-clause-second : goal.returns-clause-second
returns-clause-second c leases lease all at =
    let is = popped c.args.opened.list _ c.pop.result c.unwrap-first.result c.pop.ensures.list c.unwrap-first.ensures in
    let then = popped c.pop.new.self.list _ c.pop-2.result c.unwrap-second.result c.pop-2.ensures.list c.unwrap-second.ensures in
    opened_of _ _ CONFIG lease c.unwrap-second.result (zip_at (IsPairOpened _ _ CONFIG) leases c.args.opened.list 1 lease c.unwrap-second.result all at (rw (is, then) refl))
