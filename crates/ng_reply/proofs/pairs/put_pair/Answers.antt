use Rattle.ng_bencode.specs.Row.{list_in}
use Rattle.ng_reply.proofs.Pushed.{pair_kept}
use Rattle.ng_reply.proofs.pairs.put_pair.Goals as goal

pub returns-clause-put : goal.returns-clause-put
returns-clause-put c =
    pair_kept (list_in c.args.pairs.now) (list_in c.reserve.new.self) (list_in c.push.new.self) c.in-Ok.name c.args.value c.args.key.now
    c.in-Ok-reserve.ensures.list c.push.ensures.list c.in-Ok.ensures
