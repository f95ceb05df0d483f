-- A line that begins with a text, as more is added to it.
use Rattle.std.proofs.Common.{◌≡◌, sym, ℕ, Bool, true, false, List, [], ◌∷◌, ◌++◌, refl, subst, codes}
use Rattle.std.specs.Prelude.{nat_eq, if◌then◌else◌}
use Rattle.std.specs.List.{starts_with}
use Rattle.clap.proofs.WalkLemmas.{both}
use Rattle.command_line.specs.Refusals.{begins_usage}

begins : (needle xs ys : List ℕ) → starts_with nat_eq xs needle ≡ true → starts_with nat_eq (xs ++ ys) needle ≡ true
begins [] xs ys e = refl
begins (n ∷ ns) [] ys e = cc
begins (n ∷ ns) (x ∷ xs) ys e =
    let parts = both (nat_eq n x) (starts_with nat_eq xs ns) e in
    rw parts.0 (begins ns xs ys parts.1)

pub goes_on : (line more new : List ℕ) (is_longer : Bool) → new ≡ (if is_longer then line ++ more else line) → begins_usage line ≡ true → begins_usage new ≡ true
goes_on line more new true is e = subst (λ (text : List ℕ). begins_usage text ≡ true) (sym is) (begins (codes "usage: rtpengine") line more e)
goes_on line more new false is e = subst (λ (text : List ℕ). begins_usage text ≡ true) (sym is) e
