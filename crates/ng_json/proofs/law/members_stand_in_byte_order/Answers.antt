use Rattle.ng_json.proofs.Order.{stands_in_order}
use Rattle.ng_json.proofs.law.members_stand_in_byte_order.Goals as goal

pub returns : goal.returns
returns c = stands_in_order
