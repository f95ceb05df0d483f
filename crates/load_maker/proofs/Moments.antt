-- A moment more is 0 too.
use Rattle.std.proofs.Common.{◌∙◌, ◌≡◌, ap, sym, subst, ℕ, ◌==◌, ◌&&◌, true, Some, None, Option, List, [], ◌∷◌, ◌++◌}
use Rattle.std.specs.List.{list_all}
use Rattle.std.proofs.lemmas.List.Folds.{list_all-append}
use Rattle.relay_outside.specs.DeviceLogs.{Gains}
use Rattle.load_maker.specs.Moments.{AreZero}

zero_more : (moments : List ℕ) → list_all (λ moment. moment == 0) moments ≡ true → list_all (λ moment. moment == 0) (moments ++ 0 ∷ []) ≡ true
zero_more moments zeros = list_all-append (λ moment. moment == 0) moments (0 ∷ []) ∙ ap (λ b. b && true) zeros

pub noted_zero : (old new : Option (List ℕ)) → Gains old new 0 → AreZero old → AreZero new
noted_zero old None gains zeros = tt
noted_zero None (Some new) gains zeros = elim gains [ ]
noted_zero (Some moments) (Some new) gains zeros = subst (λ ms. list_all (λ moment. moment == 0) ms ≡ true) (sym gains) (zero_more moments zeros)
