-- The calls of a script's source are read in one way.
use Rattle.std.proofs.Common.{◌≡◌, ◌∙◌, sym, ap, subst, refl, ℕ, List, [], ◌∷◌, ◌++◌, length}
use Rattle.relay_outside.specs.declared.lines.LineCall.{LineCall}
use Rattle.relay_outside.specs.declared.lines.LineGiven.TheVariants as given
use Rattle.relay_script.proofs.Once.{one_step}
use Rattle.relay_script.specs.Lines.{SpellsLine}
use Rattle.relay_script.specs.Steps.{Step}
use Rattle.replay_devices.specs.declared.script.Ending.{Ending}
use Rattle.replay_devices.specs.declared.script.Ending.TheVariants as ending
use Rattle.replay_devices.specs.Scripts.{ReadsScript, ReadsStep, ReadsSteps, ReadsEnding, read}

heads : {A : Type 0} (x y : A) (xs ys : List A) → x ∷ xs ≡ y ∷ ys → x ≡ y
heads x y xs ys e = cc

tails : {A : Type 0} (x y : A) (xs ys : List A) → x ∷ xs ≡ y ∷ ys → xs ≡ ys
tails x y xs ys e = cc

both : {A : Type 0} (x y : A) (xs ys : List A) → x ≡ y → xs ≡ ys → x ∷ xs ≡ y ∷ ys
both x y xs ys e f = cc

no_end : {A : Type 0} (ys : List A) (y : A) → [] ≡ ys ++ y ∷ [] → ⊥
no_end [] y e = cc
no_end (z ∷ ys) y e = cc

last_once : {A : Type 0} (xs ys : List A) (x y : A) → xs ++ x ∷ [] ≡ ys ++ y ∷ [] → (xs ≡ ys) × (x ≡ y)
last_once [] [] x y e = (refl, heads x y [] [] e)
last_once [] (z ∷ ys) x y e = absurd (no_end ys y (tails x z [] (ys ++ y ∷ []) e))
last_once (w ∷ xs) [] x y e = absurd (no_end xs x (sym (tails w y (xs ++ x ∷ []) [] e)))
last_once (w ∷ xs) (z ∷ ys) x y e =
    let more = last_once xs ys x y (tails w z (xs ++ x ∷ []) (ys ++ y ∷ []) e) in
    (both w z xs ys (heads w z (xs ++ x ∷ []) (ys ++ y ∷ []) e) more.0, more.1)

line_once : (l k : List ℕ) → read (given.Text l) ≡ read (given.Text k) → l ≡ k
line_once l k e = cc

step_once : (s t : Step) (made : LineCall) → ReadsStep s made → ReadsStep t made → s ≡ t
step_once s t made a b = one_step b.line s t (subst (λ (l : List ℕ). SpellsLine l s) (line_once a.line b.line (sym a.read_is ∙ b.read_is)) a.spells) b.spells

steps_once : (ss ts : List Step) (calls : List LineCall) → ReadsSteps ss calls → ReadsSteps ts calls → ss ≡ ts
steps_once [] [] calls a b = refl
steps_once [] (t ∷ ts) [] a b = absurd b
steps_once [] (t ∷ ts) (made ∷ calls) a b = absurd a
steps_once (s ∷ ss) ts [] a b = absurd a
steps_once (s ∷ ss) [] (made ∷ calls) a b = absurd b
steps_once (s ∷ ss) (t ∷ ts) (made ∷ calls) a b =
    ap (λ (x : Step). x ∷ ss) (step_once s t made a.0 b.0) ∙ ap (λ (xs : List Step). t ∷ xs) (steps_once ss ts calls a.1 b.1)

end_or_fault : {A : Type 0} → read given.End ≡ read given.Failed → A
end_or_fault e = absurd (let f : read given.End ≡ read given.Failed = e in cc)

end_or_line : {A : Type 0} (l : List ℕ) → read given.End ≡ read (given.Text l) → A
end_or_line l e = absurd (let f : read given.End ≡ read (given.Text l) = e in cc)

fault_or_line : {A : Type 0} (l : List ℕ) → read given.Failed ≡ read (given.Text l) → A
fault_or_line l e = absurd (let f : read given.Failed ≡ read (given.Text l) = e in cc)

ending_once : (m n : ℕ) (x y : Ending) (made : LineCall) → ReadsEnding m x made → ReadsEnding n y made → x ≡ y
ending_once m n ending.End ending.End made a b = refl
ending_once m n ending.End ending.Fault made a b = end_or_fault (sym a ∙ b)
ending_once m n ending.End ending.Outside made a b = end_or_line b.line (sym a ∙ b.read_is)
ending_once m n ending.Fault ending.End made a b = end_or_fault (sym b ∙ a)
ending_once m n ending.Fault ending.Fault made a b = refl
ending_once m n ending.Fault ending.Outside made a b = fault_or_line b.line (sym a ∙ b.read_is)
ending_once m n ending.Outside ending.End made a b = end_or_line a.line (sym b ∙ a.read_is)
ending_once m n ending.Outside ending.Fault made a b = fault_or_line a.line (sym b ∙ a.read_is)
ending_once m n ending.Outside ending.Outside made a b = refl

-- the steps of a script, and how its reading ended
pub reads_once : (ss ts : List Step) (x y : Ending) (calls : List LineCall) → ReadsScript ss x calls → ReadsScript ts y calls → (ss ≡ ts) × (x ≡ y)
reads_once ss ts x y calls a b =
    let same = last_once a.before b.before a.last b.last (sym a.calls_are ∙ b.calls_are) in (
      steps_once ss ts b.before (subst (λ (l : List LineCall). ReadsSteps ss l) same.0 a.each) b.each,
      ending_once (length ss) (length ts) x y b.last (subst (λ (l : LineCall). ReadsEnding (length ss) x l) same.1 a.ends) b.ends,
    )
