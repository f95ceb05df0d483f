use Rattle.std.proofs.Common.{◌≡◌, ◌≤◌, ◌∙◌, arith, refl, ap, sym, subst, ℕ, ◌*◌, List, length}
use Rattle.turn_table.specs.Hands.{entries}
use Rattle.offer_answer.specs.declared.plan.Plan.{Plan}
use Rattle.offer_answer.specs.Offers.{pairs_demanded, AsksOffer}
use Rattle.call_board.specs.Requests.{sdp_error_for}
use Rattle.call_board.specs.Replies.{Described, Fault, reply_datagram}
use Rattle.call_board.specs.Views.{view_of, view_at_moment}
use Rattle.relay_core.specs.Entries.{board_history}
use Rattle.relay_core.specs.Turns.{made_by}
use Rattle.relay_core.specs.KeptAfter.{IsWholeWith}
use Rattle.call_board.specs.Shapes.{BoardShape}
use Rattle.offer_command.proofs.WholenessPlans.{plans_kept}
use Rattle.board_turns.proofs.Tying.{ties_none}
use Rattle.control_messages.specs.Bodies.{IsErrorOf}
use Rattle.board_turns.specs.declared.device_answers.DeviceAnswers.TheVariants as device_answers
use Rattle.board_turns.specs.Commands.{record_by}
use Rattle.board_turns.specs.Controls.{entry_pairs}
use Rattle.board_turns.proofs.Givings.{unasked_given}
use Rattle.board_turns.proofs.Tellings.{is_short_carries}
use Rattle.offer_command.specs.Offers.{CanOffer}
use Rattle.offer_command.specs.Brings.{HasOfferRoom}
use Rattle.offer_command.specs.Commands.{GivesOutcome, ask_of_offer, undone_code, undone_answers}
use Rattle.offer_command.proofs.Asked.{asks_for, lines_read, may_offer}
use Rattle.offer_command.proofs.Carried.{gives_carries, misdescribed_carries, offered_carries, refuses_carries, turn_on, undone_carries}
use Rattle.offer_command.proofs.Givings.{accepted_given, undone_given}
use Rattle.board_turns.proofs.Staying.{nests_none, works_none}
use Rattle.offer_command.proofs.command.offer.Goals as goal

pub returns-in-Err-clause-carries : goal.returns-in-Err-clause-carries
returns-in-Err-clause-carries g c pairs asking =
    let config = c.args.turn.now.main.config.now in
    misdescribed_carries config c.args.turn.now.main.turns.now c.args.turn.now.main.hand.now c.args.turn.now.main.entry_id c.args.asked.now.request.now pairs c.args.asked.now.input.now c.in-Err.fault c.misdescribed.result c.args.turn.now.board.now
    (g.P.PortMaker.log c.args.turn.now.ports.now) c.requires.begins.in_turn c.requires.anew asking
    (subst (λ (text : List ℕ). IsErrorOf (sdp_error_for config c.args.asked.now.input.now.options.family text) c.in-Err.fault) c.as_slice.ensures c.in-Err.ensures.error) c.misdescribed.ensures.refuses

pub returns-in-Err-clause-given : goal.returns-in-Err-clause-given
returns-in-Err-clause-given g c pairs asking =
    let config = c.args.turn.now.main.config.now in
    let h = board_history (made_by c.args.turn.now.main.hand.now) c.args.turn.now.main.entry_id.number in
    let leased = entry_pairs config h c.args.turn.now.main.entry_id.moment (record_by c.args.asked.now.request.now pairs c.misdescribed.result) in
    unasked_given config leased c.misdescribed.result.device_answers (g.P.PortMaker.faults c.args.turn.now.ports.now) (g.P.PortMaker.faults c.args.turn.now.ports.now) (g.K.KeySource.faults c.args.keys.now) (g.K.KeySource.faults c.args.keys.now)
    (g.P.PortMaker.log c.args.turn.now.ports.now) (g.K.KeySource.log c.args.keys.now) c.misdescribed.ensures.unasked

pub returns-in-Err-plan_offer-clause-carries : goal.returns-in-Err-plan_offer-clause-carries
returns-in-Err-plan_offer-clause-carries g c pairs asking =
    let config = c.args.turn.now.main.config.now in
    let h = board_history (made_by c.args.turn.now.main.hand.now) c.args.turn.now.main.entry_id.number in
    let v = view_at_moment (view_of config h) c.args.turn.now.main.entry_id.moment in
    let request = c.args.asked.now.request.now in
    let input = c.args.asked.now.input.now in
    let id = input.call_id.list in
    let chosen = c.of_offer-chosen_lines.result in
    let ask = ask_of_offer input chosen in
    let text = c.as_slice.result.now in
    let lines = lines_read input text c.in-Ok.sdp c.in-Ok.ensures.lines c.as_slice.ensures in
    let heard = c.of_offer-chosen_lines.ensures ask lines refl in
    let hears : AsksOffer input c.in-Ok.sdp ask = record { from_tag_is = refl; options_are = refl; hears = record { lines_are = lines; heard = heard } } in
    let asks = asks_for config h c.args.turn.now.main.entry_id.moment request pairs input text c.requires.anew asking c.as_slice.ensures c.in-Ok.ensures.sound in
    let turn = turn_on config c.args.turn.now.main.turns.now c.args.turn.now.main.hand.now c.args.turn.now.main.entry_id c.args.turn.now.board.now c.plan_offer.new.self (g.P.PortMaker.log c.args.turn.now.ports.now) c.requires.begins.in_turn
    (c.plan_offer.ensures.shows config v c.requires.begins.in_turn.shows) c.plan_offer.ensures.shape in
    refuses_carries config c.args.turn.now.main.turns.now c.args.turn.now.main.hand.now c.args.turn.now.main.entry_id request pairs input chosen c.in-Err-plan_offer.fault c.unplanned.result c.plan_offer.new.self
    (g.P.PortMaker.log c.args.turn.now.ports.now) turn asks heard (c.in-Err-plan_offer.ensures.plans config v ask c.requires.begins.in_turn.shows hears) c.unplanned.ensures.refuses

pub returns-in-Err-plan_offer-clause-given : goal.returns-in-Err-plan_offer-clause-given
returns-in-Err-plan_offer-clause-given g c pairs asking =
    let config = c.args.turn.now.main.config.now in
    let h = board_history (made_by c.args.turn.now.main.hand.now) c.args.turn.now.main.entry_id.number in
    let leased = entry_pairs config h c.args.turn.now.main.entry_id.moment (record_by c.args.asked.now.request.now pairs c.unplanned.result) in
    unasked_given config leased c.unplanned.result.device_answers (g.P.PortMaker.faults c.args.turn.now.ports.now) (g.P.PortMaker.faults c.args.turn.now.ports.now) (g.K.KeySource.faults c.args.keys.now) (g.K.KeySource.faults c.args.keys.now)
    (g.P.PortMaker.log c.args.turn.now.ports.now) (g.K.KeySource.log c.args.keys.now) c.unplanned.ensures.unasked

pub returns-in_default-clause-carries : goal.returns-in_default-clause-carries
returns-in_default-clause-carries g c pairs asking =
    let config = c.args.turn.now.main.config.now in
    let h = board_history (made_by c.args.turn.now.main.hand.now) c.args.turn.now.main.entry_id.number in
    let v = view_at_moment (view_of config h) c.args.turn.now.main.entry_id.moment in
    let turn = turn_on config c.args.turn.now.main.turns.now c.args.turn.now.main.hand.now c.args.turn.now.main.entry_id c.args.turn.now.board.now c.plan_offer.new.self (g.P.PortMaker.log c.args.turn.now.ports.now) c.requires.begins.in_turn
    (c.plan_offer.ensures.shows config v c.requires.begins.in_turn.shows) c.plan_offer.ensures.shape in
    is_short_carries config c.args.turn.now.main.turns.now c.args.turn.now.main.hand.now c.args.turn.now.main.entry_id c.args.asked.now.request.now pairs c.short.result c.plan_offer.new.self (g.P.PortMaker.log c.args.turn.now.ports.now) turn
    c.requires.anew c.short.ensures.is_short

pub returns-in_default-clause-given : goal.returns-in_default-clause-given
returns-in_default-clause-given g c pairs asking =
    let config = c.args.turn.now.main.config.now in
    let h = board_history (made_by c.args.turn.now.main.hand.now) c.args.turn.now.main.entry_id.number in
    let leased = entry_pairs config h c.args.turn.now.main.entry_id.moment (record_by c.args.asked.now.request.now pairs c.short.result) in
    unasked_given config leased c.short.result.device_answers (g.P.PortMaker.faults c.args.turn.now.ports.now) (g.P.PortMaker.faults c.args.turn.now.ports.now) (g.K.KeySource.faults c.args.keys.now) (g.K.KeySource.faults c.args.keys.now)
    (g.P.PortMaker.log c.args.turn.now.ports.now) (g.K.KeySource.log c.args.keys.now) c.short.ensures.unasked

pub offer_act-requires-clause-due : goal.offer_act-requires-clause-due
offer_act-requires-clause-due g c =
    let config = c.args.turn.now.main.config.now in
    let h = board_history (made_by c.args.turn.now.main.hand.now) c.args.turn.now.main.entry_id.number in
    let v = view_at_moment (view_of config h) c.args.turn.now.main.entry_id.moment in
    let request = c.args.asked.now.request.now in
    let input = c.args.asked.now.input.now in
    let id = input.call_id.list in
    let chosen = c.of_offer-chosen_lines.result in
    let ask = ask_of_offer input chosen in
    let text = c.as_slice.result.now in
    let lines = lines_read input text c.in-Ok.sdp c.in-Ok.ensures.lines c.as_slice.ensures in
    let heard = c.of_offer-chosen_lines.ensures ask lines refl in
    let hears : AsksOffer input c.in-Ok.sdp ask = record { from_tag_is = refl; options_are = refl; hears = record { lines_are = lines; heard = heard } } in
    let pairs = c.requires.asked.0 in
    let asks = asks_for config h c.args.turn.now.main.entry_id.moment request pairs input text c.requires.anew c.requires.asked.1 c.as_slice.ensures c.in-Ok.ensures.sound in
    let plan = c.in-Ok-plan_offer.plan in (
      id,
      ask,
      subst (λ (are : List (List ℕ)). CanOffer config h id ask are plan) lines
          (may_offer config h c.args.turn.now.main.entry_id.moment request pairs input chosen plan asks heard (c.in-Ok-plan_offer.ensures.plans config v ask c.requires.begins.in_turn.shows hears)),
    )

pub accepted-requires-clause-room : goal.accepted-requires-clause-room
accepted-requires-clause-room g c =
    let count = ap (λ (p : Plan). p.reply_len) c.planned.ensures in
    c.in-Ok-offer_memory.ensures.reply.described c.in-Ok-offer_act.offered.text.list
    (let within = c.in-Ok-offer_act.ensures.within in omega (arith, count, within))

pub returns-in-Err-offer_act-clause-carries : goal.returns-in-Err-offer_act-clause-carries
returns-in-Err-offer_act-clause-carries g c pairs asking =
    let config = c.args.turn.now.main.config.now in
    let h = board_history (made_by c.args.turn.now.main.hand.now) c.args.turn.now.main.entry_id.number in
    let v = view_at_moment (view_of config h) c.args.turn.now.main.entry_id.moment in
    let request = c.args.asked.now.request.now in
    let input = c.args.asked.now.input.now in
    let id = input.call_id.list in
    let chosen = c.of_offer-chosen_lines.result in
    let ask = ask_of_offer input chosen in
    let text = c.as_slice.result.now in
    let lines = lines_read input text c.in-Ok.sdp c.in-Ok.ensures.lines c.as_slice.ensures in
    let heard = c.of_offer-chosen_lines.ensures ask lines refl in
    let hears : AsksOffer input c.in-Ok.sdp ask = record { from_tag_is = refl; options_are = refl; hears = record { lines_are = lines; heard = heard } } in
    let asks = asks_for config h c.args.turn.now.main.entry_id.moment request pairs input text c.requires.anew asking c.as_slice.ensures c.in-Ok.ensures.sound in
    let plan = c.in-Ok-plan_offer.plan in
    let plans = c.in-Ok-plan_offer.ensures.plans config v ask c.requires.begins.in_turn.shows hears in
    let board = c.offer_act.new.turn.board.now in
    let log = g.P.PortMaker.log c.offer_act.new.turn.ports.now in
    let opens : c.pairs-opens.result ≡ pairs_demanded plan.plan = c.pairs-opens.ensures.count ∙ ap pairs_demanded c.planned-2.ensures in
    let can = subst (λ (are : List (List ℕ)). CanOffer config h id ask are plan) lines (may_offer config h c.args.turn.now.main.entry_id.moment request pairs input chosen plan asks heard plans) in
    let fault = c.in-Err-offer_act.fault in
    let gives = subst (λ (n : ℕ). GivesOutcome request.cookie.now request.body.now chosen (undone_answers (2 * n) fault) (Fault (undone_code fault)) c.undone.result) opens c.undone.ensures in
    gives_carries config c.args.turn.now.main.hand.now c.offer_act.new.turn.main.hand.now c.args.turn.now.main.entry_id request pairs chosen (undone_answers (2 * pairs_demanded plan.plan) fault) (Fault (undone_code fault))
    c.undone.result board log gives
    (λ text is. undone_carries config c.args.turn.now.main.hand.now c.offer_act.new.turn.main.hand.now c.args.turn.now.main.entry_id request pairs input chosen plan fault text board log asks heard plans
    c.in-Err-offer_act.ensures.early (c.in-Err-offer_act.ensures.undoes id ask can) is)

pub returns-in-Err-offer_act-clause-given : goal.returns-in-Err-offer_act-clause-given
returns-in-Err-offer_act-clause-given g c pairs asking =
    let config = c.args.turn.now.main.config.now in
    let h = board_history (made_by c.args.turn.now.main.hand.now) c.args.turn.now.main.entry_id.number in
    let v = view_at_moment (view_of config h) c.args.turn.now.main.entry_id.moment in
    let request = c.args.asked.now.request.now in
    let input = c.args.asked.now.input.now in
    let chosen = c.of_offer-chosen_lines.result in
    let ask = ask_of_offer input chosen in
    let text = c.as_slice.result.now in
    let lines = lines_read input text c.in-Ok.sdp c.in-Ok.ensures.lines c.as_slice.ensures in
    let heard = c.of_offer-chosen_lines.ensures ask lines refl in
    let hears : AsksOffer input c.in-Ok.sdp ask = record { from_tag_is = refl; options_are = refl; hears = record { lines_are = lines; heard = heard } } in
    let asks = asks_for config h c.args.turn.now.main.entry_id.moment request pairs input text c.requires.anew asking c.as_slice.ensures c.in-Ok.ensures.sound in
    let plan = c.in-Ok-plan_offer.plan in
    let plans = c.in-Ok-plan_offer.ensures.plans config v ask c.requires.begins.in_turn.shows hears in
    let opens : c.pairs-opens.result ≡ pairs_demanded plan.plan = c.pairs-opens.ensures.count ∙ ap pairs_demanded c.planned-2.ensures in
    let fault = c.in-Err-offer_act.fault in
    undone_given config h c.args.turn.now.main.entry_id.moment request pairs input chosen plan asks plans c.undone.result c.undone.ensures.chosen_are
    (g.P.PortMaker.faults c.args.turn.now.ports.now) (g.P.PortMaker.faults c.offer_act.new.turn.ports.now) (g.K.KeySource.faults c.args.keys.now) (g.K.KeySource.faults c.offer_act.new.keys)
    (g.P.PortMaker.log c.args.turn.now.ports.now) (g.P.PortMaker.log c.offer_act.new.turn.ports.now) (g.K.KeySource.log c.args.keys.now) (g.K.KeySource.log c.offer_act.new.keys)
    fault (c.undone.ensures.answers_are ∙ ap (λ (n : ℕ). undone_answers (2 * n) fault) opens)
    c.in-Err-offer_act.ensures.cause c.in-Err-offer_act.ensures.opens_before c.in-Err-offer_act.ensures.draws_before

pub returns-clause-carries : goal.returns-clause-carries
returns-clause-carries g c pairs asking =
    let config = c.args.turn.now.main.config.now in
    let h = board_history (made_by c.args.turn.now.main.hand.now) c.args.turn.now.main.entry_id.number in
    let v = view_at_moment (view_of config h) c.args.turn.now.main.entry_id.moment in
    let request = c.args.asked.now.request.now in
    let input = c.args.asked.now.input.now in
    let id = input.call_id.list in
    let chosen = c.of_offer-chosen_lines.result in
    let ask = ask_of_offer input chosen in
    let text = c.as_slice.result.now in
    let lines = lines_read input text c.in-Ok.sdp c.in-Ok.ensures.lines c.as_slice.ensures in
    let heard = c.of_offer-chosen_lines.ensures ask lines refl in
    let hears : AsksOffer input c.in-Ok.sdp ask = record { from_tag_is = refl; options_are = refl; hears = record { lines_are = lines; heard = heard } } in
    let asks = asks_for config h c.args.turn.now.main.entry_id.moment request pairs input text c.requires.anew asking c.as_slice.ensures c.in-Ok.ensures.sound in
    let plan = c.in-Ok-plan_offer.plan in
    let plans = c.in-Ok-plan_offer.ensures.plans config v ask c.requires.begins.in_turn.shows hears in
    let board = c.offer_act.new.turn.board.now in
    let log = g.P.PortMaker.log c.offer_act.new.turn.ports.now in
    let opens : c.pairs-opens.result ≡ pairs_demanded plan.plan = c.pairs-opens.ensures.count ∙ ap pairs_demanded c.planned-2.ensures in
    let can = subst (λ (are : List (List ℕ)). CanOffer config h id ask are plan) lines (may_offer config h c.args.turn.now.main.entry_id.moment request pairs input chosen plan asks heard plans) in
    let offered = c.in-Ok-offer_act.offered in
    let gives = subst (λ (n : ℕ). GivesOutcome request.cookie.now request.body.now chosen (device_answers.Offered (2 * n) offered.drawn) (Described offered.text.list) c.accepted.result) opens c.accepted.ensures in
    gives_carries config c.args.turn.now.main.hand.now c.offer_act.new.turn.main.hand.now c.args.turn.now.main.entry_id request pairs chosen (device_answers.Offered (2 * pairs_demanded plan.plan) offered.drawn) (Described offered.text.list)
    c.accepted.result board log gives
    (λ text is. offered_carries config c.args.turn.now.main.hand.now c.offer_act.new.turn.main.hand.now c.args.turn.now.main.entry_id request pairs input chosen plan offered.drawn text board log asks heard plans
    c.in-Ok-offer_act.ensures.count (c.in-Ok-offer_act.ensures.does id ask can)
    (is ∙ ap (λ (bytes : List ℕ). reply_datagram config request.cookie.now request.body.now (Described bytes)) (c.in-Ok-offer_act.ensures.text id ask can)))

pub returns-clause-given : goal.returns-clause-given
returns-clause-given g c pairs asking =
    let config = c.args.turn.now.main.config.now in
    let h = board_history (made_by c.args.turn.now.main.hand.now) c.args.turn.now.main.entry_id.number in
    let v = view_at_moment (view_of config h) c.args.turn.now.main.entry_id.moment in
    let request = c.args.asked.now.request.now in
    let input = c.args.asked.now.input.now in
    let chosen = c.of_offer-chosen_lines.result in
    let ask = ask_of_offer input chosen in
    let text = c.as_slice.result.now in
    let lines = lines_read input text c.in-Ok.sdp c.in-Ok.ensures.lines c.as_slice.ensures in
    let heard = c.of_offer-chosen_lines.ensures ask lines refl in
    let hears : AsksOffer input c.in-Ok.sdp ask = record { from_tag_is = refl; options_are = refl; hears = record { lines_are = lines; heard = heard } } in
    let asks = asks_for config h c.args.turn.now.main.entry_id.moment request pairs input text c.requires.anew asking c.as_slice.ensures c.in-Ok.ensures.sound in
    let plan = c.in-Ok-plan_offer.plan in
    let plans = c.in-Ok-plan_offer.ensures.plans config v ask c.requires.begins.in_turn.shows hears in
    let opens : c.pairs-opens.result ≡ pairs_demanded plan.plan = c.pairs-opens.ensures.count ∙ ap pairs_demanded c.planned-2.ensures in
    let drawn = c.in-Ok-offer_act.offered.drawn in
    accepted_given config h c.args.turn.now.main.entry_id.moment request pairs input chosen plan asks plans c.accepted.result c.accepted.ensures.chosen_are
    (g.P.PortMaker.faults c.args.turn.now.ports.now) (g.P.PortMaker.faults c.offer_act.new.turn.ports.now) (g.K.KeySource.faults c.args.keys.now) (g.K.KeySource.faults c.offer_act.new.keys)
    (g.P.PortMaker.log c.args.turn.now.ports.now) (g.P.PortMaker.log c.offer_act.new.turn.ports.now) (g.K.KeySource.log c.args.keys.now) (g.K.KeySource.log c.offer_act.new.keys)
    drawn (c.accepted.ensures.answers_are ∙ ap (λ (n : ℕ). device_answers.Offered (2 * n) drawn) opens)
    c.in-Ok-offer_act.ensures.opens c.in-Ok-offer_act.ensures.draws

pub read_description-requires : goal.read_description-requires
read_description-requires g c =
    let same = ap length c.as_slice.ensures in
    let small = c.requires.small in
    omega (arith, same, small)

pub offer_act-requires-clause-room : goal.offer_act-requires-clause-room
offer_act-requires-clause-room g c = subst (λ (p : Plan). HasOfferRoom p c.in-Ok-offer_memory.memory.room) c.planned.ensures c.in-Ok-offer_memory.ensures.room

pub accepted-requires-clause-small : goal.accepted-requires-clause-small
accepted-requires-clause-small g c =
    let count = ap (λ (p : Plan). p.reply_len) c.planned.ensures in
    let within = c.in-Ok-offer_act.ensures.within in
    let small = c.in-Ok-offer_memory.ensures.small in
    omega (arith, count, within, small)

no_less : (count : ℕ) → count ≤ count
no_less count = omega arith

pub offer_act-requires-clause-begins : goal.offer_act-requires-clause-begins
offer_act-requires-clause-begins g c =
    let turn = c.args.turn.now in
    let config = turn.main.config.now in
    let h = board_history (made_by turn.main.hand.now) turn.main.entry_id.number in
    let v = view_at_moment (view_of config h) turn.main.entry_id.moment in
    record {
      in_turn = turn_on config turn.main.turns.now turn.main.hand.now turn.main.entry_id turn.board.now c.plan_offer.new.self (g.P.PortMaker.log turn.ports.now) c.requires.begins.in_turn
          (c.plan_offer.ensures.shows config v c.requires.begins.in_turn.shows) c.plan_offer.ensures.shape;
      empty = c.requires.begins.empty;
    }

pub returns-in-Err-clause-works : goal.returns-in-Err-clause-works
returns-in-Err-clause-works g c = works_none g.P.PortMaker.log g.P.PortMaker.faults c.args.turn.now c.requires.begins.in_turn.may c.requires.begins.empty

pub returns-in-Err-plan_offer-clause-works : goal.returns-in-Err-plan_offer-clause-works
returns-in-Err-plan_offer-clause-works g c =
    let turn = c.args.turn.now in
    record {
      stays = record {
        nests = nests_none turn.main c.requires.begins.in_turn.may;
        devices = record { board_is = refl; ports_are = refl; gone_is = refl };
        replies = c.plan_offer.ensures.replies;
        later = no_less (g.P.PortMaker.faults turn.ports.now);
      };
      ties = ties_none turn.main.config.now (g.P.PortMaker.log turn.ports.now) (entries turn.main.hand.now);
      empty = c.requires.begins.empty;
      whole = λ was. subst (λ (shape : BoardShape). IsWholeWith turn.main.config.now turn.main.hand.now shape) (sym c.plan_offer.ensures.shape) was;
    }

pub returns-in_default-clause-works : goal.returns-in_default-clause-works
returns-in_default-clause-works g c =
    let turn = c.args.turn.now in
    record {
      stays = record {
        nests = nests_none turn.main c.requires.begins.in_turn.may;
        devices = record { board_is = refl; ports_are = refl; gone_is = refl };
        replies = c.plan_offer.ensures.replies;
        later = no_less (g.P.PortMaker.faults turn.ports.now);
      };
      ties = ties_none turn.main.config.now (g.P.PortMaker.log turn.ports.now) (entries turn.main.hand.now);
      empty = c.requires.begins.empty;
      whole = λ was. subst (λ (shape : BoardShape). IsWholeWith turn.main.config.now turn.main.hand.now shape) (sym c.plan_offer.ensures.shape) was;
    }

pub returns-in-Err-offer_act-clause-works : goal.returns-in-Err-offer_act-clause-works
returns-in-Err-offer_act-clause-works g c =
    let works = c.offer_act.ensures.works in
    let devices = works.stays.devices in
    record {
      stays = record {
        nests = works.stays.nests;
        devices = record { board_is = devices.board_is; ports_are = devices.ports_are; gone_is = devices.gone_is };
        replies = works.stays.replies ∙ c.plan_offer.ensures.replies;
        later = works.stays.later;
      };
      ties = works.ties;
      empty = works.empty;
      whole = λ was. works.whole (subst (λ (shape : BoardShape). IsWholeWith c.args.turn.now.main.config.now c.args.turn.now.main.hand.now shape) (sym c.plan_offer.ensures.shape) was);
    }

pub returns-clause-works : goal.returns-clause-works
returns-clause-works g c =
    let works = c.offer_act.ensures.works in
    let devices = works.stays.devices in
    record {
      stays = record {
        nests = works.stays.nests;
        devices = record { board_is = devices.board_is; ports_are = devices.ports_are; gone_is = devices.gone_is };
        replies = works.stays.replies ∙ c.plan_offer.ensures.replies;
        later = works.stays.later;
      };
      ties = works.ties;
      empty = works.empty;
      whole = λ was. works.whole (subst (λ (shape : BoardShape). IsWholeWith c.args.turn.now.main.config.now c.args.turn.now.main.hand.now shape) (sym c.plan_offer.ensures.shape) was);
    }

pub offer_act-requires-clause-plans : goal.offer_act-requires-clause-plans
offer_act-requires-clause-plans g c =
    let same = c.plan_offer.ensures.shape in
    plans_kept c.args.turn.now.board.now c.plan_offer.new.self c.in-Ok-plan_offer.plan c.plan_offer.ensures.live c.plan_offer.ensures.begun
    (ap (λ (shape : BoardShape). shape.config) same) (ap (λ (shape : BoardShape). shape.taken) same) c.in-Ok-plan_offer.ensures.made
