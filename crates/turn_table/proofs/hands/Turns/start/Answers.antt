use Rattle.std.proofs.Common.{◌≡◌, ◌*◌, ◌<◌, map, length, get_or, Some, None, sym, ap, ◌∙◌, subst}
use mathlib.Core.Option.{some}
use lib.ListN.{get_elem?}
use Rattle.turn_table.specs.Layout.{column_rows, spot_of}
use Rattle.turn_table.proofs.Spans.{opens}
use Rattle.turn_table.proofs.hands.Turns.start.Goals as goal

pub new-requires : goal.new-requires
new-requires g c =
    let is = ap (λ v. v.items) c.of-key.ensures in
    let words = c.as_slice.ensures.value in
    let starts = c.of-key.result.value.items in
    let places : c.len-places.result ≡ length starts = c.len-places.ensures ∙ (c.args.states.ok.0 ∙ ap length (sym is)) in
    let rows : c.row_count-rows.result ≡ column_rows (length starts) = c.row_count-rows.ensures ∙ ap column_rows places in
    let aside : c.in_ok-aside.aside.items ≡ map (λ x. Some x) starts = c.in_ok-aside.ensures ∙ ap (map (λ x. Some x)) (sym is) in
    let slots = c.in_ok-slots.slots.items in
    opens g.M.Machine.relates g.M.Machine.reserved starts c.as_slice.result.now slots
    (ap length words ∙ (c.in_ok-words.ensures.length ∙ ap (λ n. 3840 * n) rows))
    (λ i. ap (λ l. get_or l i 0) words ∙ c.in_ok-words.ensures.clear i)
    (c.in_ok-slots.ensures.length ∙ ap (λ n. 960 * n) rows)
    (λ k low. subst (λ xs. get_elem? slots (spot_of (column_rows (length starts)) k) ≡ some (get_or xs k None)) aside
    (subst (λ n. get_elem? slots (spot_of n k) ≡ some (get_or c.in_ok-aside.aside.items k None)) rows
    (c.in_ok-slots.ensures.cased k (subst (λ n. k < 960 * n) (sym rows) low))))
