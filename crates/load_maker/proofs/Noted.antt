-- A call of a device was noted, where it could be copied.
use Rattle.std.proofs.Common.{◌≡◌, sym, subst, Some, None, Option, MatchOption, List}
use Rattle.relay_outside.specs.DeviceLogs.{Gains}

pub gains_call : {C : Type 0} (old new : Option (List C)) (copied : Option C) (call : C) → MatchOption copied (new ≡ None) (λ c. Gains old new c) → MatchOption copied (Unit {0}) (λ c. c ≡ call) → Gains old new call
gains_call old new None call stops is = subst (λ n. Gains old n call) (sym stops) tt
gains_call old new (Some c) call gains is = subst (λ x. Gains old new x) is gains
