use Rattle.std.proofs.Common.{refl}
use Rattle.relay_app.proofs.Refusals.{serves_nothing}
use Rattle.relay_app.proofs.app.run.Goals as goal

pub returns-in-Err-OutOfMemory-clause-served : goal.returns-in-Err-OutOfMemory-clause-served
returns-in-Err-OutOfMemory-clause-served g c = serves_nothing _ _ _ _ _ refl refl refl refl
