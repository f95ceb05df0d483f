use Rattle.std.proofs.Common.{refl, ap}
use Rattle.srtp_keys.specs.MasterKey.{MasterKey}
use Rattle.port_pool.specs.Signals.{NewKey}
use Rattle.call_cell.proofs.Prepared.{one_more_key}
use Rattle.call_cell.proofs.prepare.Prepare.add_key.Goals as goal

pub returns-clause-stands : goal.returns-clause-stands
returns-clause-stands g c keys dropped for =
    let key : NewKey = record { number = c.args.key.number; section = c.args.section; side = c.args.side; suite = c.args.suite; bytes = c.args.key.bytes } in
    one_more_key c.args.self.now _ _ key keys dropped refl refl c.push_reserved.ensures.items
    (record { key_is = ap (λ (drawn : MasterKey). record { number = drawn.number; section = c.args.section; side = c.args.side; suite = c.args.suite; bytes = drawn.bytes }) c.of-drawn.ensures; section = refl; side = refl; suite = refl; contexts = c.new.ensures key refl refl refl }) for
