use Rattle.std.proofs.Common.{◌≡◌, drop, ◌+◌, string_bytes, sym, ap, ◌∙◌, arith}
use Rattle.serde_json.specs.Data.{items_depth}
use Rattle.serde_json.specs.View.{view, items_view, members_view}
use Rattle.ng_bencode.specs.Row.{list_in}
use Rattle.ng_bencode.specs.Tree.{Tree, pairs_of}
use Rattle.ng_json.specs.Strings.{bytes_of_string}
use Rattle.ng_json.specs.Twins.{trees_in, pairs_in, with_pair_in_order}
use Rattle.ng_json.proofs.Trees.{next_item, items_more, items_end, stuck_pair}
use Rattle.ng_json.proofs.decode.+twin.Goals as goal

pub pairs_in-returns-in_default-clause-no_twin : goal.pairs_in-returns-in_default-clause-no_twin
pairs_in-returns-in_default-clause-no_twin t c is deep =
    let key : c.as_slice.result.now ≡ bytes_of_string (string_bytes c.in-Some.text.now) = c.as_slice.ensures ∙ c.in_ok-key.ensures ∙ ap bytes_of_string c.as_bytes.ensures.value in
    let there = λ (tree : Tree). ap (λ (k : _). with_pair_in_order k tree (pairs_of c.loop-text.found.items)) (sym key) ∙ ap (λ (ps : _). with_pair_in_order c.as_slice.result.now tree (pairs_of ps)) (sym c.deref.ensures.value) ∙ c.in_default.ensures.place tree in
    c.loop-text.invariant.found ∙ ap (λ (es : _). pairs_in (members_view es) (pairs_of c.loop-text.found.items)) c.in-Some.ensures.steps
    ∙ stuck_pair (string_bytes c.in-Some.text.now) (view c.in-Some.member.now) (members_view c.next.new.self) (pairs_of c.loop-text.found.items) there

pub values_in-loop-item-preserved : goal.values_in-loop-item-preserved
values_in-loop-item-preserved t c =
    let xs = c.deref-item-items.result.now in
    let i = c.loop-item.item-index in
    let x = c.item-item.result in
    let here = next_item xs i x (omega arith) c.item-item.is in
    let depths = ap items_depth here in
    record {
      deep = λ h. c.loop-item.invariant.deep (omega (arith, h, depths, c.in_ok-value.ensures.deep));
      left = λ h. omega (arith, c.loop-item.invariant.left h, depths);
      found = items_more (items_view xs) (items_view (drop i xs)) (view x) (items_view (drop (i + 1) xs)) (list_in c.loop-item.found) (list_in c.reserve.new.self) (list_in c.push.new.self) c.in_ok-value.value here c.in_ok-value.ensures.value
          c.in_ok-reserve.ensures.list c.push.ensures.list c.loop-item.invariant.found;
    }

pub values_in-returns-clause-values : goal.values_in-returns-clause-values
values_in-returns-clause-values t c =
    let xs = c.deref-item-items.result.now in
    ap (λ (ys : _). trees_in (items_view ys)) (sym c.deref-item-items.ensures.value)
    ∙ items_end (items_view xs) xs c.loop-item.item-index (list_in c.loop-item.found) (omega arith) c.loop-item.invariant.found
