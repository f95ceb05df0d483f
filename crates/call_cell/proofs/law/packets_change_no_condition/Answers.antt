use Rattle.call_cell.proofs.Nested.{can_come_kept, names_keys_kept, due_kept}
use Rattle.call_cell.proofs.law.packets_change_no_condition.Goals as goal

pub returns-clause-offers : goal.returns-clause-offers
returns-clause-offers g c config h k signal call keys dropped same can = can_come_kept config h k signal call keys dropped same can

pub returns-clause-answers : goal.returns-clause-answers
returns-clause-answers g c h k signal same names = names_keys_kept h k signal same names

pub returns-clause-contexts : goal.returns-clause-contexts
returns-clause-contexts g c h k signal same = due_kept h k signal same
