-- What holds of a list of calls as the device gains more of them.
use Rattle.std.proofs.Common.{sym, subst, List, ◌++◌, Option, Some, None}
use Rattle.relay_outside.specs.DeviceLogs.{Gained, WhereLogged}
use Rattle.media_ports.specs.Calls.{WhereBothLogged}

-- of the list before and of that after
pub both_told : {C : Type 0} (old new : Option (List C)) (P : List C → Type 0) (Q : List C → List C → Type 0) →
    ((before more : List C) → P more → Q before (before ++ more)) → Gained old new P → WhereBothLogged old new Q
both_told old None P Q step gained = tt
both_told None (Some now) P Q step gained = tt
both_told (Some before) (Some now) P Q step gained = subst (Q before) (sym gained.1) (step before gained.0 gained.2)

-- the same, where something held before
pub both_told_where : {C : Type 0} (old new : Option (List C)) (P R : List C → Type 0) (Q : List C → List C → Type 0) →
    ((before more : List C) → R before → P more → Q before (before ++ more)) → WhereLogged old R → Gained old new P → WhereBothLogged old new Q
both_told_where old None P R Q step held gained = tt
both_told_where None (Some now) P R Q step held gained = tt
both_told_where (Some before) (Some now) P R Q step held gained = subst (Q before) (sym gained.1) (step before gained.0 held gained.2)

-- of the list after
pub told_after : {C : Type 0} (old new : Option (List C)) (P Q R : List C → Type 0) →
    ((before more : List C) → Q before → P more → R (before ++ more)) → WhereLogged old Q → Gained old new P → WhereLogged new R
told_after old None P Q R step held gained = tt
told_after None (Some now) P Q R step held gained = absurd gained
told_after (Some before) (Some now) P Q R step held gained = subst R (sym gained.1) (step before gained.0 held gained.2)

-- what holds of a list that is told, said in another way
pub told_less : {C : Type 0} (log : Option (List C)) (P Q : List C → Type 0) → ((calls : List C) → P calls → Q calls) → WhereLogged log P → WhereLogged log Q
told_less None P Q less held = tt
told_less (Some calls) P Q less held = less calls held
