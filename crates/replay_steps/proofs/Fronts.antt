-- The steps of the lines before one.
use Rattle.std.proofs.Common.{◌≡◌, ◌∙◌, sym, ap, ℕ, suc, ◌+◌, ◌<◌, List, [], ◌∷◌, ◌++◌, length, map, take, drop, arith}
use Rattle.std.proofs.Math.ListN.{get_or}
use Rattle.std.proofs.Math.Seq.{take-suc, take-length}
use Rattle.std.proofs.lemmas.List.{length-map, length-take-le, map-append}
use Rattle.relay_script.specs.declared.step.Step as coded
use Rattle.relay_script.specs.Steps.{Step, step_meaning}
use Rattle.replay_steps.proofs.Holdings.{around, next}

-- the steps of this many lines
abbrev pub upto : ℕ → List coded.Step → List Step
upto n steps = map step_meaning (take n steps)

module _ (steps : List coded.Step) (made : ℕ) (s : coded.Step) (less : made < length steps) (is : s ≡ get_or steps made s) where
  -- the next step, and the steps about it
  pub step_at : map step_meaning steps ≡ upto made steps ++ step_meaning s ∷ map step_meaning (drop (suc made) steps)
  step_at =
      ap (λ (xs : List coded.Step). map step_meaning xs) (around steps made s less)
      ∙ map-append step_meaning (take made steps) (get_or steps made s ∷ drop (suc made) steps)
      ∙ ap (λ (x : coded.Step). upto made steps ++ step_meaning x ∷ map step_meaning (drop (suc made) steps)) (sym is)

  pub upto_next : upto made steps ++ step_meaning s ∷ [] ≡ upto (made + 1) steps
  upto_next =
      ap (λ (x : coded.Step). upto made steps ++ step_meaning x ∷ []) is
      ∙ sym (map-append step_meaning (take made steps) (get_or steps made s ∷ []))
      ∙ ap (λ (xs : List coded.Step). map step_meaning xs) (sym (take-suc steps made s less))
      ∙ ap (λ (n : ℕ). upto n steps) (next made)

  pub upto_count : length (upto made steps) ≡ made
  upto_count = length-map (take made steps) step_meaning ∙ length-take-le made steps (omega (arith, less))

-- all of them
pub upto_all : (steps : List coded.Step) (n : ℕ) → n ≡ length steps → upto n steps ≡ map step_meaning steps
upto_all steps n is = ap (λ (k : ℕ). upto k steps) is ∙ ap (λ (xs : List coded.Step). map step_meaning xs) (take-length steps)
