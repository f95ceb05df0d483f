use Rattle.std.proofs.Common.{◌∙◌, ap, sym, subst, ℕ, ◌++◌, List, length}
use Rattle.port_pool.specs.Signals.{NewKey}
use Rattle.offer_answer.specs.Nexts.{numbered_keys}
use Rattle.offer_answer.specs.Plan.{offer_text}
use Rattle.offer_answer.specs.Plans.{OfferFilled}
use Rattle.offer_answer.specs.Shapes.{FilledShapes, OfferShapes, keys_demanded}
use Rattle.offer_answer.specs.declared.dialog.Dialog.{Dialog}
use Rattle.call_board.specs.NextBoards.{MayApply}
use Rattle.call_board.specs.Boards.{BoardMatches}
use Rattle.call_board.specs.Views.{View}
use Rattle.call_board.specs.declared.board_plan.BoardPlan.{BoardPlan}
use Rattle.offer_answer.specs.Rounds as round
use Rattle.offer_command.specs.Offers.{target_of, demand_of, offer_of, ports_of_legs}
use Rattle.offer_command.proofs.Taken.{keys_filled, takes_in, taken_with}
use Rattle.offer_command.proofs.WholenessPlans.{plan_offered}
use Rattle.offer_command.proofs.description.apply_offer.Goals as goal

pub apply-requires : goal.apply-requires
apply-requires c =
    subst (λ (p : BoardPlan). MayApply c.args.board.now p p.begun) (sym c.fill_plan.ensures.rest) c.requires.may

pub returns-clause-taken : goal.returns-clause-taken
returns-clause-taken c config h id ask v good d first ports shows calls begun =
    let draws = c.args.taken.drawn.list in
    let o = offer_of config h id ask draws in
    let t = target_of config h id in
    let keys : List NewKey = numbered_keys c.args.taken.first_key draws (demand_of config h id ask).keys in
    let filled = c.fill_plan.new.plan in
    let is : OfferFilled config t.rounds ask (ports_of_legs config o) o.keys filled.plan.next =
    subst (λ (ks : List NewKey). OfferFilled config t.rounds ask (ports_of_legs config o) ks filled.plan.next) (keys_filled config h id ask draws good c.args.taken.plan d c.args.taken.first_key first)
    (subst (λ (ps : List ℕ). OfferFilled config t.rounds ask ps keys filled.plan.next) (c.as_slice.ensures.value ∙ ports) (c.fill_plan.ensures.filled config t.rounds ask d.plans.1.plan_for)) in
    subst (λ (w : View). BoardMatches config c.apply.new.self w) (taken_with config h id ask draws good c.args.taken.plan d v c.args.now filled c.fill_plan.ensures.rest)
    (c.apply.ensures.taken config v t.of (round.Offered ask o.legs o.keys) shows (takes_in config h id ask draws good c.args.taken.plan d v filled calls begun c.fill_plan.ensures.rest is))

pub returns-clause-text : goal.returns-clause-text
returns-clause-text c config h id ask good d first ports lines =
    let draws = c.args.taken.drawn.list in
    let o = offer_of config h id ask draws in
    let t = target_of config h id in
    let keys : List NewKey = numbered_keys c.args.taken.first_key draws (demand_of config h id ask).keys in
    c.fill_plan.ensures.text config t.rounds ask d.plans.1.plan_for lines
    ∙ ap (λ (ps : List ℕ). c.args.out.now.list ++ offer_text config t.rounds ask ps keys) (c.as_slice.ensures.value ∙ ports)
    ∙ ap (λ (ks : List NewKey). c.args.out.now.list ++ offer_text config t.rounds ask (ports_of_legs config o) ks) (keys_filled config h id ask draws good c.args.taken.plan d c.args.taken.first_key first)

pub fill_plan-requires-clause-ports : goal.fill_plan-requires-clause-ports
fill_plan-requires-clause-ports c = ap length c.as_slice.ensures.value ∙ c.requires.ports

pub returns-clause-shape : goal.returns-clause-shape
returns-clause-shape c =
    let p = c.args.taken.plan in
    let filled = c.fill_plan.new.plan in
    let keys : List NewKey = numbered_keys c.args.taken.first_key c.args.taken.drawn.list (keys_demanded c.args.taken.plan.plan) in
    let rest = c.fill_plan.ensures.rest in
    plan_offered p filled c.args.taken.numbers.items keys c.args.board.now c.apply.new.self (ap (λ (q : BoardPlan). q.call) rest) (ap (λ (q : BoardPlan). q.cell) rest)
    (subst (λ (ps : List ℕ). (dialog : Dialog) → OfferShapes c.args.taken.plan.plan dialog c.args.taken.plan.plan.next → FilledShapes c.args.taken.plan.plan dialog ps keys c.fill_plan.new.plan.plan.next)
    c.as_slice.ensures.value c.fill_plan.ensures.shape)
    c.fill_plan.ensures.counts (ap (λ (q : BoardPlan). q.begun) rest) c.requires.plans c.apply.ensures.shape
