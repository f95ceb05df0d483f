use Rattle.std.proofs.Common.{◌≡◌, ◌∙◌, ◌<◌, sym, ap, subst, ℕ, List, false, nat_eq, None}
use Rattle.std.specs.Cmp.Lexicographic.{pointwise}
use Rattle.std.specs.List.{list_any}
use Rattle.std.specs.Map.{lookup, values_of}
use Rattle.ng_bencode.specs.Room.{Room}
use Rattle.indexmap.proofs.CallerLemmas.{insert_entry-new}
use Rattle.call_board.specs.declared.live_call.LiveCall.{LiveCall}
use Rattle.call_board.specs.CallIds.{AreUnderTheirIds}
use Rattle.call_board.proofs.Keyed.{has_bytes, has_id, not_there, on_ok, under-insert, values-push}
use Rattle.call_board.proofs.live_calls.LiveCalls.append.Goals as goal

pub invariant_of-self : goal.invariant_of-self
invariant_of-self c =
    let spare = subst (λ (calls : Room LiveCall). 0 < calls.spare) (sym c.self.view_is) c.requires.room in
    let put = on_ok c.insert.result _ (c.insert.ensures.succeeds spare) c.insert.ensures.entries in
    subst AreUnderTheirIds (sym put) (under-insert c.args.key c.args.call c.self.inside.calls.entries c.requires.key c.self.invariant)

pub returns : goal.returns
returns c = rw (← c.self.view_is) (λ none.
    let es = c.self.inside.calls.entries in
    let spare = subst (λ (calls : Room LiveCall). 0 < calls.spare) (sym c.self.view_is) c.requires.room in
    let put = on_ok c.insert.result _ (c.insert.ensures.succeeds spare) c.insert.ensures.entries in
    let fresh = subst (λ (id : List ℕ). list_any (has_id id) (values_of es) ≡ false) (sym c.requires.key) none in
    let absent : lookup (has_bytes c.args.key.items) es ≡ None = not_there c.args.key.items es c.self.invariant fresh in
    ap values_of (put ∙ insert_entry-new (λ x y. pointwise nat_eq x.items y.items) c.self.inside.calls c.args.key c.args.call absent) ∙ values-push es (c.args.key, c.args.call))
