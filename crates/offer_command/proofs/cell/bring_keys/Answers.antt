use Rattle.std.proofs.Common.{refl, subst, filter, ℕ, List, []}
use Rattle.histories.specs.Words.{has, numbers}
use Rattle.offer_answer.specs.Plan.{demand}
use Rattle.call_board.specs.Pairs.{drawn_keys_from}
use Rattle.call_cell.specs.Preparations.{PrepareFor}
use Rattle.offer_command.proofs.Filled.{legs_still, demanded_are}
use Rattle.offer_command.proofs.cell.bring_keys.Goals as goal

pub returns-clause-stands : goal.returns-clause-stands
returns-clause-stands g c rounds ask demands nothing =
    let asked = demand rounds ask in
    let keys = drawn_keys_from c.args.first_key c.args.drawn.now.list asked.keys in
    subst (λ (ds : List ℕ). PrepareFor c.add_drops.new.prepare keys ds) (demanded_are rounds ask (filter (has asked.dropped) (numbers 0 8)) refl)
    (c.add_drops.ensures.stands asked keys demands (c.add_keys.ensures.stands asked [] [] demands nothing))

pub returns-clause-legs : goal.returns-clause-legs
returns-clause-legs g c =
    legs_still c.args.prepare.now c.add_keys.new.prepare c.add_drops.new.prepare c.add_keys.ensures.legs c.add_drops.ensures.legs
