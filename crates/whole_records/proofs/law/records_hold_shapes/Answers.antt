use Rattle.whole_records.proofs.HeldShapes.{dialog_held, call_held, calls_held}
use Rattle.whole_records.proofs.law.records_hold_shapes.Goals as goal

pub returns-clause-dialog : goal.returns-clause-dialog
returns-clause-dialog c = dialog_held

pub returns-clause-call : goal.returns-clause-call
returns-clause-call c = call_held

pub returns-clause-calls : goal.returns-clause-calls
returns-clause-calls c = calls_held
