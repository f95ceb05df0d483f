-- what a list of calls gained over several calls
use Rattle.std.proofs.Common.{◌∙◌, sym, ap, List, [], ◌∷◌, ◌++◌, Option, Some, None, append_assoc, append-nil}
use Rattle.relay_outside.specs.DeviceLogs.{Gains, Gained}

-- no call
pub gained_none : {C : Type 0} (log : Option (List C)) (P : List C → Type 0) → P [] → Gained log log P
gained_none None P here = tt
gained_none (Some calls) P here = ([], sym (append-nil calls), here)

-- one call
pub gained_one : {C : Type 0} (old new : Option (List C)) (call : C) (P : List C → Type 0) → Gains old new call → P (call ∷ []) → Gained old new P
gained_one old None call P gains here = tt
gained_one None (Some new) call P gains here = absurd gains
gained_one (Some old) (Some new) call P gains here = (call ∷ [], gains, here)

-- calls, and then more calls
pub gained_both : {C : Type 0} (first second third : Option (List C)) (P Q R : List C → Type 0) →
    ((xs ys : List C) → P xs → Q ys → R (xs ++ ys)) → Gained first second P → Gained second third Q → Gained first third R
gained_both first second None P Q R join before after = tt
gained_both first None (Some third) P Q R join before after = absurd after
gained_both None (Some second) (Some third) P Q R join before after = absurd before
gained_both (Some first) (Some second) (Some third) P Q R join before after = (
  before.0 ++ after.0,
  after.1 ∙ ap (λ (calls : List _). calls ++ after.0) before.1 ∙ append_assoc first before.0 after.0,
  join before.0 after.0 before.2 after.2,
)

-- what holds of the calls, said in another way
pub gained_less : {C : Type 0} (old new : Option (List C)) (P Q : List C → Type 0) → ((xs : List C) → P xs → Q xs) → Gained old new P → Gained old new Q
gained_less old None P Q less gained = tt
gained_less None (Some new) P Q less gained = absurd gained
gained_less (Some old) (Some new) P Q less gained = (gained.0, gained.1, less gained.0 gained.2)
