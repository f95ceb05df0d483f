use Rattle.std.proofs.Common.{◌∙◌, ◌<◌, sym, ap, subst, length, arith}
use Rattle.std.specs.Map.{values_of}
use Rattle.std.proofs.lemmas.Map.Entries.{length-values_of}
use Rattle.ng_bencode.specs.Room.{Room}
use Rattle.call_board.specs.declared.live_call.LiveCall.{LiveCall}
use Rattle.call_board.specs.CallIds.{AreUnderTheirIds}
use Rattle.call_board.proofs.Keyed.{call_at, none_past, under-remove, values-remove}
use Rattle.call_board.proofs.live_calls.LiveCalls.remove.Goals as goal

pub unreachable-requires : goal.unreachable-requires
unreachable-requires c =
    let low = subst (λ (calls : Room LiveCall). c.args.place < length calls.list) (sym c.self.view_is) c.requires in
    none_past c.self.inside.calls.entries c.args.place (omega (arith, low, length-values_of c.self.inside.calls.entries)) (sym c.shift_remove_index.ensures.entry ∙ c.in_default.is)

pub invariant_of-self : goal.invariant_of-self
invariant_of-self c = subst AreUnderTheirIds (sym c.shift_remove_index.ensures.entries) (under-remove c.self.inside.calls.entries c.args.place c.self.invariant)

pub returns-clause-value : goal.returns-clause-value
returns-clause-value c =
    rw (← c.self.view_is) (call_at c.self.inside.calls.entries c.args.place _ (sym c.shift_remove_index.ensures.entry ∙ c.in-Some.is))

pub returns-clause-list : goal.returns-clause-list
returns-clause-list c = rw (← c.self.view_is) (ap values_of c.shift_remove_index.ensures.entries ∙ values-remove c.self.inside.calls.entries c.args.place)
