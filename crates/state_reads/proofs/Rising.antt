-- Numbers that rise.
use Rattle.std.proofs.Common.{◌≡◌, ℕ, ◌+◌, ◌<◌, ◌≤◌, List, [], ◌∷◌, subst, arith}
use Rattle.call_board.specs.declared.saved_board.CallSaved.{CallSaved}
use Rattle.state_reads.specs.Calls.{saved_numbers, AreRising}

pub rising_low : (from : ℕ) (numbers : List ℕ) (below : ℕ) → AreRising from numbers below → from ≤ below
rising_low from [] below rise = rise
rising_low from (n ∷ numbers) below rise = let rest = rising_low (n + 1) numbers below rise.1 in omega (arith, rise.0, rest)

-- the first of these calls
pub first_rises : (from : ℕ) (calls : List CallSaved) (call : CallSaved) (rest : List CallSaved) (below : ℕ) → calls ≡ call ∷ rest
    → AreRising from (saved_numbers calls) below → (from ≤ call.number) × (call.number < below)
first_rises from calls call rest below is rise =
    let it : AreRising from (saved_numbers (call ∷ rest)) below = subst (λ (l : List CallSaved). AreRising from (saved_numbers l) below) is rise in
    let low = rising_low (call.number + 1) (saved_numbers rest) below it.1 in
    (it.0, omega (arith, low))
