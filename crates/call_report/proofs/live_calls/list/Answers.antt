use Rattle.std.proofs.Common.{◌∙◌, ap, refl, ℕ, List, map, take, codes}
use Rattle.ng_bencode.specs.Tree.{Tree, Bytes, Items, Dict, no_entries, entry, items_of, pairs_of}
use Rattle.call_board.specs.Views.{CallView}
use Rattle.call_board.specs.Reports.{listing_tree}
use Rattle.call_report.proofs.Pushed.{then_pair}
use Rattle.call_report.proofs.live_calls.list.Goals as goal

pub returns : goal.returns
unfolding listing_tree
returns c = λ config v s.
    let ids : List (List ℕ) = take c.args.limit (map (λ (call : CallView). call.of.id) v.calls) in
    let calls : Tree = Items (items_of (map Bytes ids)) in
    c.dict.ensures
    ∙ ap Dict
    (then_pair (entry (codes "calls") calls no_entries) _ _ (codes "result") (Bytes (codes "ok")) _ c.in_ok-put_text.ensures.put
    (then_pair no_entries _ _ (codes "calls") calls _ c.in_ok-put_pair.ensures.put (ap pairs_of c.new-pairs.ensures)
    (c.list.ensures ∙ ap (λ (trees : List Tree). Items (items_of trees)) (c.in_ok-call_ids.ensures config v s)))
    refl)
