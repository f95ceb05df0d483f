use Rattle.std.proofs.Common.{◌∙◌, sym, ap}
use Rattle.replay_steps.specs.Receipts.{ReceiptList}
use Rattle.replay_steps.proofs.Holdings.{takes_out}
use Rattle.replay_steps.proofs.receipts.Receipts.take.Goals as goal

pub returns : goal.returns
returns c =
    let is = c.self.view_is in
    takes_out c.args.number c.in-Some.at c.remove.result c.self.inside.list.items c.args.self.now _ (sym c.find.ensures.place ∙ c.in-Some.is)
    (ap (λ (v : ReceiptList). v.list) (sym is)) c.remove.ensures.value c.remove.ensures.by_index.2
    (ap (λ (v : ReceiptList). v.received) is) (c.remove.ensures.capacity ∙ ap (λ (v : ReceiptList). v.room) is)
