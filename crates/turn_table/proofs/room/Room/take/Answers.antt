use Rattle.std.proofs.Common.{vec_capacity, ◌≤◌, sym, ap, ◌∙◌, subst}
use mathlib.Core.Option.{some-injective}
use lib.ListN.{get_elem?}
use Rattle.turn_table.proofs.room.Room.take.Goals as goal

pub returns-clause-empty : goal.returns-clause-empty
returns-clause-empty g c =
    let last = c.close-closed.ensures.values.2 in
    let there = last.4 0 last.1.0 (ap (λ hs. get_elem? hs 0) last.1.1) in
    ap (λ v. v.items) (some-injective _ _ (sym c.take-empty.ensures.value ∙ there)) ∙ last.1.2

pub returns-clause-room : goal.returns-clause-room
returns-clause-room g c =
    let last = c.close-closed.ensures.values.2 in
    let there = last.4 0 last.1.0 (ap (λ hs. get_elem? hs 0) last.1.1) in
    subst (λ v. c.args.self.table.shared.key ≤ vec_capacity v) (some-injective _ _ (sym there ∙ c.take-empty.ensures.value)) last.1.3
