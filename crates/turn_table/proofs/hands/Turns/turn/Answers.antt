use Rattle.std.proofs.Common.{rules, [], refl, ⊎_elim}
use Rattle.turn_table.proofs.Calls.{tried_again}
use Rattle.turn_table.proofs.hands.Turns.turn.Goals as goal

pub loop-init : goal.loop-init
loop-init g c = record { same = search rules; entries = refl; tried = ([], refl, λ t h. elim h [ ]); turns = λ j. refl; more = search rules; others = λ j ne. refl }

pub loop-preserved : goal.loop-preserved
loop-preserved g c =
    let before = c.loop.hand.seat.me.0.tries in let after = c.try_turn.new.hand.seat.me.0.tries in
    let inv = c.loop.invariant in let k = c.args.place in record {
      same = search rules;
      entries = search rules;
      tried = ⊎_elim (λ e. tried_again k _ before after inv.tried 1 e.0) (λ e. tried_again k _ before after inv.tried 0 e.0) c.in_default.ensures.tried;
      turns = search rules;
      more = search rules;
      others = search rules;
    }
