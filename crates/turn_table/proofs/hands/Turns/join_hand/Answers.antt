use Rattle.std.proofs.Common.{arith, ◌≡◌, ◌≢◌, Bool, true, false, sym, refl, ap, ◌∙◌, subst}
use Rattle.atomic_table.specs.Table.{Joins}
use Rattle.turn_table.specs.Histories.{seen_at, phase_at}
use Rattle.turn_table.specs.Invariant.{Kept, spent_view}
use Rattle.turn_table.specs.Steps.{glued}
use Rattle.turn_table.proofs.Lists.{seen_append}
use Rattle.turn_table.proofs.Spans.{joins}
use Rattle.turn_table.proofs.hands.Turns.join_hand.Goals as goal

not_true : (b : Bool) → b ≢ true → b ≡ false
not_true true ne = absurd (ne refl)
not_true false ne = refl

pub join_seat-requires : goal.join_seat-requires
join_seat-requires g c =
    let v = c.args.hand.now.seat.me.0 in
    let starts = c.args.self.now.table.shared.key.value.items in
    let is = c.into_seat.ensures in let wide = c.args.self.now.wide in let some_place = c.args.self.now.few.0 in (
      c.requires.tables.0,
      ap (λ s. s.table_id) is ∙ c.requires.tables.1,
      ap (λ s. s.me.1) is ∙ c.args.other.empty,
      omega arith,
      subst (λ s. Joins (Kept g.M.Machine.relates g.M.Machine.reserved starts) c.args.hand.now.seat.id v s.id s.me.0 (glued v s.me.0) spent_view) (sym is)
          (joins g.M.Machine.relates g.M.Machine.reserved starts c.args.hand.now.seat.id c.args.other.seat.id v c.args.other.seat.me.0 c.args.hand.now.live (not_true c.args.other.seat.me.0.main c.requires.side) c.requires.idle.1),
    )

pub returns : goal.returns
returns g c =
    let v = c.args.hand.now.seat.me.0 in let w = c.args.other.seat.me.0 in
    let e = c.join_seat.ensures.2 ∙ ap (λ s. (glued v s.me.0, c.args.hand.now.seat.me.1)) c.into_seat.ensures in (
      c.join_seat.ensures.0,
      ap (λ m. m.0.starts) e,
      ap (λ m. m.0.entries) e,
      ap (λ m. m.0.parts) e,
      ap (λ m. m.0.main) e,
      λ k. ap (λ m. phase_at m.0.turns k) e ∙ c.requires.idle.0 k,
      λ k. ap (λ m. seen_at m.0.seen k) e ∙ seen_append v.seen w.seen k,
      ap (λ m. m.0.tries) e,
    )
