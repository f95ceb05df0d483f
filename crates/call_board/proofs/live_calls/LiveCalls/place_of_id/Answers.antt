use Rattle.std.proofs.Common.{◌∙◌, ◌<◌, sym, subst, ℕ}
use Rattle.std.specs.Option.{IfSome}
use Rattle.std.proofs.lemmas.Map.Entries.{length-values_of}
use Rattle.call_board.proofs.Keyed.{same_place}
use Rattle.call_board.proofs.live_calls.LiveCalls.place_of_id.Goals as goal

pub returns-clause-place : goal.returns-clause-place
returns-clause-place c = rw (← c.self.view_is) (c.get_index_of.ensures.index ∙ same_place c.args.id.now c.self.inside.calls.entries c.self.invariant)

pub returns-clause-within : goal.returns-clause-within
returns-clause-within c =
    rw (← c.self.view_is)
    (subst (λ (n : ℕ). IfSome c.get_index_of.result (λ (at : ℕ). at < n)) (sym (length-values_of c.self.inside.calls.entries)) c.get_index_of.ensures.within)
