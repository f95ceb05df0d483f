use Rattle.std.proofs.Common.{◌∙◌, ap, map}
use Rattle.ng_bencode.specs.Row.{list_in}
use Rattle.ng_bencode.specs.Tree.{Bytes, tree_of}
use Rattle.call_board.specs.Views.{CallView}
use Rattle.call_report.proofs.Pushed.{item_pushed}
use Rattle.call_report.proofs.Listed.{id_listed}
use Rattle.call_report.proofs.live_calls.call_ids.Goals as goal

pub calls-preserved : goal.calls-preserved
calls-preserved c = λ config v s.
    id_listed (map (λ (call : CallView). call.of.id) v.calls) c.calls.index c.call_id_at.result.now (map tree_of (list_in c.calls.call_ids))
    (map tree_of (list_in c.put_item.new.values)) (c.call_id_at.ensures config v s) (c.calls.invariant config v s)
    (ap (map tree_of) c.in_ok-put_item.ensures
    ∙ item_pushed (list_in c.calls.call_ids) c.bytes.result (Bytes c.call_id_at.result.now) (c.bytes.ensures ∙ ap Bytes c.in-Ok.ensures))
