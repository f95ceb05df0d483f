use Rattle.std.proofs.Common.{rules, arith, ◌≡◌, ◌+◌, ◌*◌, ◌<◌, set, get_or, None, sym, refl, ap, ◌∙◌, subst}
use Rattle.turn_table.specs.Layout.{place_at}
use Rattle.turn_table.proofs.Casing.{Left, Laid, laid_none, left_less, left_here, laid_more, laid_all}
use Rattle.turn_table.proofs.cased.case_all.Goals as goal

pub boxes-init : goal.boxes-init
boxes-init g c = record { count = search rules; room = search rules; low = search rules; left = λ k k_low past. refl; laid = laid_none c.args.rows c.args.aside.items _ }

pub place-requires-clause-spot : goal.place-requires-clause-spot
place-requires-clause-spot g c = let inv = c.boxes.invariant in let low = c.boxes-test.true in omega arith

pub push_reserved-requires : goal.push_reserved-requires
push_reserved-requires g c =
    let inv = c.boxes.invariant in let low = c.boxes-test.true in let count = inv.count in let room = inv.room in omega arith

pub boxes-preserved : goal.boxes-preserved
boxes-preserved g c =
    let inv = c.boxes.invariant in let low = c.boxes-test.true in let count = inv.count in
    let rows = c.args.rows in let was = c.args.aside.items in let spot = c.boxes.spot in
    let inside : spot < 960 * rows = omega arith in
    let there : c.place.result ≡ place_at rows spot = c.place.ensures in
    let state = c.taken-state.ensures.state ∙ (ap (λ i. get_or c.boxes.aside.items i None) there ∙ left_here rows was spot c.boxes.aside.items inside inv.left) in
    record {
      low = omega arith;
      count = search rules;
      room = search rules;
      left = subst (Left rows was (spot + 1)) (sym (c.taken-state.ensures.others ∙ ap (λ i. set c.boxes.aside.items i None) there)) (left_less rows was spot c.boxes.aside.items inside inv.left);
      laid = subst (Laid rows was (spot + 1)) (sym c.push_reserved.ensures.items) (laid_more rows was spot c.boxes.slots.items c.in_ok-slot.slot inside (sym c.boxes.slots.ok.0 ∙ inv.count) (c.in_ok-slot.ensures ∙ state) inv.laid);
    }

pub returns-clause-length : goal.returns-clause-length
returns-clause-length g c =
    let inv = c.boxes.invariant in let high = c.boxes-test.false in let low = inv.low in
    let all : c.boxes.spot ≡ 960 * c.args.rows = omega arith in sym c.boxes.slots.ok.0 ∙ (inv.count ∙ all)

pub returns-clause-cased : goal.returns-clause-cased
returns-clause-cased g c =
    let inv = c.boxes.invariant in let high = c.boxes-test.false in
    laid_all c.args.rows c.args.aside.items c.boxes.spot c.boxes.slots.items (omega arith) inv.laid
