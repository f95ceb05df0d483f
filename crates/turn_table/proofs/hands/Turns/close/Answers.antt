use Rattle.std.proofs.Common.{arith, ◌≡◌, ◌*◌, ◌<◌, ◌≤◌, length, Some, None, slice_get, sym, ap, ◌∙◌, subst}
use Rattle.std.proofs.lemmas.Option.{slice_get_within}
use mathlib.Core.Option.{some}
use lib.ListN.{get_elem?}
use Rattle.std.specs.Slots.{slots_items}
use Rattle.turn_table.specs.Layout.{column_rows, spot_of}
use Rattle.turn_table.proofs.Lists.{get_there}
use Rattle.turn_table.proofs.Spots.{rows_hold}
use Rattle.turn_table.proofs.Spans.{closes}
use Rattle.turn_table.proofs.hands.Turns.close.Goals as goal

pub uncase_all-requires-clause-rows : goal.uncase_all-requires-clause-rows
uncase_all-requires-clause-rows g c =
    let counts = c.args.self.counts in let e = counts.1 in let h = rows_hold c.args.self.places in
    (omega arith, c.args.self.few.1, c.close_with-closed.ensures.counts.1 ∙ c.args.self.deep)

pub uncase_all-requires-clause-home : goal.uncase_all-requires-clause-home
uncase_all-requires-clause-home g c = λ k low.
    let rel = g.M.Machine.relates in let res = g.M.Machine.reserved in let starts = c.args.self.table.shared.key.value.items in
    let hand = c.args.hand.seat in
    let last = c.close_with-closed.ensures.values.2 in let s = last.0 in let r = last.1.0 in
    let at = subst (λ z. get_elem? s.views z.id ≡ some z.me.0) c.into_seat.ensures last.1.1 in
    let rows : column_rows (length starts) ≡ c.args.self.rows = ap column_rows (sym c.args.self.counts.0) ∙ sym c.args.self.counts.1 in
    let b = get_there starts k (subst (λ n. k < n) c.args.self.counts.0 low) in
    let h = closes rel res starts s r hand.id hand.me.0 at c.requires.all c.requires.idle k b.0 b.1 in
    (h.0, subst (λ n. get_elem? (slots_items c.close_with-closed.result.slots) (spot_of n k) ≡ some (Some h.0)) rows (last.4 (spot_of (column_rows (length starts)) k) (Some h.0) h.1))

pub uncase_all-requires-clause-spare : goal.uncase_all-requires-clause-spare
uncase_all-requires-clause-spare g c = λ k past low.
    let starts = c.args.self.table.shared.key.value.items in
    let last = c.close_with-closed.ensures.values.2 in let s = last.0 in let r = last.1.0 in
    let rows : column_rows (length starts) ≡ c.args.self.rows = ap column_rows (sym c.args.self.counts.0) ∙ sym c.args.self.counts.1 in
    let here : k < length s.homes = subst (λ n. k < n) (sym (r.long ∙ ap (λ n. 960 * n) rows)) low in
    subst (λ n. get_elem? (slots_items c.close_with-closed.result.slots) (spot_of n k) ≡ some None) rows (last.4 (spot_of (column_rows (length starts)) k) None (r.spare k (subst (λ n. n ≤ k) c.args.self.counts.0 past) here))

pub returns-clause-range : goal.returns-clause-range
returns-clause-range g c = λ e there.
    let hand = c.args.hand.seat in
    let last = c.close_with-closed.ensures.values.2 in let s = last.0 in let r = last.1.0 in
    let at = subst (λ z. get_elem? s.views z.id ≡ some z.me.0) c.into_seat.ensures last.1.1 in
    let mine = r.seat hand.id hand.me.0 at in
    subst (λ l. e.place < length l) (sym (mine.same c.args.hand.live)) (mine.tied e there).0

pub returns-clause-length : goal.returns-clause-length
returns-clause-length g c =
    let hand = c.args.hand.seat in
    let last = c.close_with-closed.ensures.values.2 in let s = last.0 in let r = last.1.0 in
    let at = subst (λ z. get_elem? s.views z.id ≡ some z.me.0) c.into_seat.ensures last.1.1 in
    let same = (r.seat hand.id hand.me.0 at).same c.args.hand.live in
    sym c.uncase_all.result.ok.0 ∙ (c.uncase_all.ensures.length ∙ (c.args.self.counts.0 ∙ ap length (sym same)))

pub returns-clause-states : goal.returns-clause-states
returns-clause-states g c = λ k a start.
    let rel = g.M.Machine.relates in let res = g.M.Machine.reserved in let starts = c.args.self.table.shared.key.value.items in
    let hand = c.args.hand.seat in
    let last = c.close_with-closed.ensures.values.2 in let s = last.0 in let r = last.1.0 in
    let at = subst (λ z. get_elem? s.views z.id ≡ some z.me.0) c.into_seat.ensures last.1.1 in
    let same = (r.seat hand.id hand.me.0 at).same c.args.hand.live in
    let rows : column_rows (length starts) ≡ c.args.self.rows = ap column_rows (sym c.args.self.counts.0) ∙ sym c.args.self.counts.1 in
    let begun : slice_get starts k ≡ Some a = sym (ap (λ l. slice_get l k) same) ∙ start in
    let inside : k < c.args.self.places = subst (λ n. k < n) (sym c.args.self.counts.0) (slice_get_within starts k a begun) in
    let h = closes rel res starts s r hand.id hand.me.0 at c.requires.all c.requires.idle k a begun in
    let there = subst (λ n. get_elem? (slots_items c.close_with-closed.result.slots) (spot_of n k) ≡ some (Some h.0)) rows (last.4 (spot_of (column_rows (length starts)) k) (Some h.0) h.1) in
    (r.log k, h.0, c.uncase_all.ensures.states k h.0 inside there, h.2, h.3)
