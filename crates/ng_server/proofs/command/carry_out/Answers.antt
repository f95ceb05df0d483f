use Rattle.std.proofs.Common.{◌∙◌, ◌<◌, ◌^◌, ap, sym, subst, length, Ok}
use Rattle.relay_outside.specs.DeviceLogs.{Gained}
use Rattle.ng_command.specs.Meanings as says
use Rattle.ng_command.specs.Meanings.{said}
use Rattle.ng_command.specs.declared.command.Command.{Command}
use Rattle.ng_command.specs.declared.command.OfferIn.{OfferIn}
use Rattle.ng_command.specs.declared.command.AnswerIn.{AnswerIn}
use Rattle.ng_command.specs.declared.command.DeleteIn.{DeleteIn}
use Rattle.ng_command.specs.declared.command.QueryIn.{QueryIn}
use Rattle.control_messages.specs.declared.request.Request.{Request}
use Rattle.media_ports.specs.Openings.{NoneOpened}
use Rattle.media_ports.proofs.Asked.{gained_no_opening}
use Rattle.board_turns.specs.Commands.{ExecutesCommand, record_by}
use Rattle.board_turns.specs.Controls.{entry_pairs}
use Rattle.board_turns.specs.DeviceAnswers.{given_by, IsGivenBy}
use Rattle.call_board.specs.Replies.{Pong, reply_datagram}
use Rattle.relay_core.specs.Entries.{board_history}
use Rattle.relay_core.specs.Turns.{made_by}
use Rattle.board_turns.proofs.Staying.{works_none}
use Rattle.control_messages.specs.Bodies.{said_by}
use Rattle.board_turns.proofs.Givings.{unasked_given, closing_given}
use Rattle.ng_server.proofs.Commands.{faulty_carries, ping_carries, list_carries, is_asking, is_asking_with, small_asked}
use Rattle.ng_server.proofs.command.carry_out.Goals as goal

pub returns-in-Err-clause-carries : goal.returns-in-Err-clause-carries
returns-in-Err-clause-carries g c pairs reads is =
    faulty_carries c.args.turn.now.main.config.now c.args.turn.now.main.turns.now c.args.turn.now.main.hand.now c.args.turn.now.main.entry_id c.args.asked.now.request.now pairs c.none.result c.in-Err.code c.refused.result c.args.turn.now.board.now
    (g.P.PortMaker.log c.args.turn.now.ports.now) c.requires.begins.in_turn c.requires.anew reads
    (is ∙ ap said_by c.in-Err.is) (c.refused.ensures.tells c.args.turn.now.main.config.now)

pub returns-in-Err-clause-given : goal.returns-in-Err-clause-given
returns-in-Err-clause-given g c pairs reads is =
    let config = c.args.turn.now.main.config.now in
    let h = board_history (made_by c.args.turn.now.main.hand.now) c.args.turn.now.main.entry_id.number in
    let leased = entry_pairs config h c.args.turn.now.main.entry_id.moment (record_by c.args.asked.now.request.now pairs c.refused.result) in
    unasked_given config leased c.refused.result.device_answers (g.P.PortMaker.faults c.args.turn.now.ports.now) (g.P.PortMaker.faults c.args.turn.now.ports.now) (g.K.KeySource.faults c.args.keys.now) (g.K.KeySource.faults c.args.keys.now)
    (g.P.PortMaker.log c.args.turn.now.ports.now) (g.K.KeySource.log c.args.keys.now) c.refused.ensures.unasked

pub returns-in-Ping-clause-carries : goal.returns-in-Ping-clause-carries
returns-in-Ping-clause-carries g c pairs reads is =
    ping_carries c.args.turn.now.main.config.now c.args.turn.now.main.turns.now c.args.turn.now.main.hand.now c.args.turn.now.main.entry_id c.args.asked.now.request.now pairs c.none-in-Ping.result c.replied.result c.args.turn.now.board.now
    (g.P.PortMaker.log c.args.turn.now.ports.now) c.requires.begins.in_turn c.requires.anew reads
    (is ∙ ap said_by c.in-Ok.is ∙ ap (λ (x : Command). Ok (said x)) c.in-Ping.is)
    (c.replied.ensures.tells (reply_datagram c.args.turn.now.main.config.now c.args.asked.now.request.now.cookie.now c.args.asked.now.request.now.body.now Pong) (c.pong_datagram.ensures c.args.turn.now.main.config.now))

pub returns-in-Ping-clause-given : goal.returns-in-Ping-clause-given
returns-in-Ping-clause-given g c pairs reads is =
    let config = c.args.turn.now.main.config.now in
    let h = board_history (made_by c.args.turn.now.main.hand.now) c.args.turn.now.main.entry_id.number in
    let leased = entry_pairs config h c.args.turn.now.main.entry_id.moment (record_by c.args.asked.now.request.now pairs c.replied.result) in
    unasked_given config leased c.replied.result.device_answers (g.P.PortMaker.faults c.args.turn.now.ports.now) (g.P.PortMaker.faults c.args.turn.now.ports.now) (g.K.KeySource.faults c.args.keys.now) (g.K.KeySource.faults c.args.keys.now)
    (g.P.PortMaker.log c.args.turn.now.ports.now) (g.K.KeySource.log c.args.keys.now) c.replied.ensures.unasked

pub returns-in-Answer-clause-given : goal.returns-in-Answer-clause-given
returns-in-Answer-clause-given g c pairs reads is =
    let config = c.args.turn.now.main.config.now in
    let h = board_history (made_by c.args.turn.now.main.hand.now) c.args.turn.now.main.entry_id.number in
    let leased = entry_pairs config h c.args.turn.now.main.entry_id.moment (record_by c.args.asked.now.request.now pairs c.answer.result) in
    closing_given config leased c.answer.result.device_answers (g.P.PortMaker.faults c.args.turn.now.ports.now) (g.P.PortMaker.faults c.answer.new.turn.ports.now) (g.K.KeySource.faults c.args.keys.now) (g.K.KeySource.faults c.args.keys.now)
    (g.P.PortMaker.log c.args.turn.now.ports.now) (g.P.PortMaker.log c.answer.new.turn.ports.now) (g.K.KeySource.log c.args.keys.now) c.answer.ensures.closes c.answer.ensures.unasked

pub returns-in-Delete-clause-given : goal.returns-in-Delete-clause-given
returns-in-Delete-clause-given g c pairs reads is =
    let config = c.args.turn.now.main.config.now in
    let h = board_history (made_by c.args.turn.now.main.hand.now) c.args.turn.now.main.entry_id.number in
    let leased = entry_pairs config h c.args.turn.now.main.entry_id.moment (record_by c.args.asked.now.request.now pairs c.delete.result) in
    closing_given config leased c.delete.result.device_answers (g.P.PortMaker.faults c.args.turn.now.ports.now) (g.P.PortMaker.faults c.delete.new.turn.ports.now) (g.K.KeySource.faults c.args.keys.now) (g.K.KeySource.faults c.args.keys.now)
    (g.P.PortMaker.log c.args.turn.now.ports.now) (g.P.PortMaker.log c.delete.new.turn.ports.now) (g.K.KeySource.log c.args.keys.now) c.delete.ensures.closes c.delete.ensures.unasked

pub returns-in-Query-clause-carries : goal.returns-in-Query-clause-carries
returns-in-Query-clause-carries g c pairs reads is =
    let with = c.with-in-Query in
    let new = c.query.new.turn in
    let main = c.args.turn.now.main in
    let same = ap (λ request. request.now) with.ensures.request in
    subst (λ (request : Request). ExecutesCommand main.config.now main.hand.now new.main.hand.now main.entry_id (record_by request pairs c.query.result) c.query.result.reply new.board.now (g.P.PortMaker.log new.ports.now)) same
    (c.query.ensures.carries pairs
    (is_asking_with (λ (i : QueryIn). says.Query i.call_id.list) c.args.asked.now.request.now with.result.request.now _ with.result.input.now pairs same with.ensures.input
    (is_asking c.args.asked.now.request.now pairs _ reads (is ∙ ap said_by c.in-Ok.is ∙ ap (λ (x : Command). Ok (said x)) c.in-Query.is))))

pub returns-in-Query-clause-given : goal.returns-in-Query-clause-given
returns-in-Query-clause-given g c pairs reads is =
    let config = c.args.turn.now.main.config.now in
    let h = board_history (made_by c.args.turn.now.main.hand.now) c.args.turn.now.main.entry_id.number in
    let leased = entry_pairs config h c.args.turn.now.main.entry_id.moment (record_by c.args.asked.now.request.now pairs c.query.result) in
    let before = g.P.PortMaker.log c.args.turn.now.ports.now in
    closing_given config leased c.query.result.device_answers (g.P.PortMaker.faults c.args.turn.now.ports.now)
    (g.P.PortMaker.faults c.query.new.turn.ports.now) (g.K.KeySource.faults c.args.keys.now) (g.K.KeySource.faults c.args.keys.now) before (g.P.PortMaker.log c.query.new.turn.ports.now)
    (g.K.KeySource.log c.args.keys.now)
    (subst (λ ports. Gained before (g.P.PortMaker.log ports) NoneOpened) (sym c.query.ensures.nothing.1) (gained_no_opening before)) c.query.ensures.unasked

pub returns-in-List-clause-carries : goal.returns-in-List-clause-carries
returns-in-List-clause-carries g c pairs reads is =
    list_carries c.args.turn.now.main.config.now c.args.turn.now.main.turns.now c.args.turn.now.main.hand.now c.args.turn.now.main.entry_id c.args.asked.now.request.now pairs c.in-List.limit c.list.result c.args.turn.now.board.now
    (g.P.PortMaker.log c.args.turn.now.ports.now) c.requires.begins.in_turn c.requires.anew reads
    (is ∙ ap said_by c.in-Ok.is ∙ ap (λ (x : Command). Ok (said x)) c.in-List.is) c.list.ensures.tells

pub returns-in-List-clause-given : goal.returns-in-List-clause-given
returns-in-List-clause-given g c pairs reads is =
    let config = c.args.turn.now.main.config.now in
    let h = board_history (made_by c.args.turn.now.main.hand.now) c.args.turn.now.main.entry_id.number in
    let leased = entry_pairs config h c.args.turn.now.main.entry_id.moment (record_by c.args.asked.now.request.now pairs c.list.result) in
    unasked_given config leased c.list.result.device_answers (g.P.PortMaker.faults c.args.turn.now.ports.now) (g.P.PortMaker.faults c.args.turn.now.ports.now) (g.K.KeySource.faults c.args.keys.now) (g.K.KeySource.faults c.args.keys.now)
    (g.P.PortMaker.log c.args.turn.now.ports.now) (g.K.KeySource.log c.args.keys.now) c.list.ensures.unasked

pub offer-requires-clause-asked : goal.offer-requires-clause-asked
offer-requires-clause-asked g c =
    let asked = c.requires.asked in
    let with = c.with in (
      asked.0,
      is_asking_with (λ (i : OfferIn). says.Offer i.call_id.list i.from_tag.list i.sdp.list i.options) c.args.asked.now.request.now with.result.request.now _ with.result.input.now asked.0 (ap (λ request. request.now) with.ensures.request) with.ensures.input
          (is_asking c.args.asked.now.request.now asked.0 _ asked.1 (asked.2 ∙ ap said_by c.in-Ok.is ∙ ap (λ (x : Command). Ok (said x)) c.in-Offer.is)),
    )

pub returns-in-Offer-clause-carries : goal.returns-in-Offer-clause-carries
returns-in-Offer-clause-carries g c pairs reads is =
    let with = c.with in
    let new = c.offer.new.turn in
    let main = c.args.turn.now.main in
    let same = ap (λ request. request.now) with.ensures.request in
    subst (λ (request : Request). ExecutesCommand main.config.now main.hand.now new.main.hand.now main.entry_id (record_by request pairs c.offer.result) c.offer.result.reply new.board.now (g.P.PortMaker.log new.ports.now)) same
    (c.offer.ensures.carries pairs
    (is_asking_with (λ (i : OfferIn). says.Offer i.call_id.list i.from_tag.list i.sdp.list i.options) c.args.asked.now.request.now with.result.request.now _ with.result.input.now pairs same with.ensures.input
    (is_asking c.args.asked.now.request.now pairs _ reads (is ∙ ap said_by c.in-Ok.is ∙ ap (λ (x : Command). Ok (said x)) c.in-Offer.is))))

pub returns-in-Offer-clause-given : goal.returns-in-Offer-clause-given
returns-in-Offer-clause-given g c pairs reads is =
    let with = c.with in
    let new = c.offer.new.turn in
    let main = c.args.turn.now.main in
    let h = board_history (made_by main.hand.now) main.entry_id.number in
    let same = ap (λ request. request.now) with.ensures.request in
    subst (λ (request : Request). IsGivenBy main.config.now (entry_pairs main.config.now h main.entry_id.moment (record_by request pairs c.offer.result)) (given_by c.offer.result.device_answers)
    (g.P.PortMaker.faults c.args.turn.now.ports.now) (g.P.PortMaker.faults new.ports.now) (g.K.KeySource.faults c.args.keys.now) (g.K.KeySource.faults c.offer.new.keys)
    (g.P.PortMaker.log c.args.turn.now.ports.now) (g.P.PortMaker.log new.ports.now) (g.K.KeySource.log c.args.keys.now) (g.K.KeySource.log c.offer.new.keys)) same
    (c.offer.ensures.given pairs
    (is_asking_with (λ (i : OfferIn). says.Offer i.call_id.list i.from_tag.list i.sdp.list i.options) c.args.asked.now.request.now with.result.request.now _ with.result.input.now pairs same with.ensures.input
    (is_asking c.args.asked.now.request.now pairs _ reads (is ∙ ap said_by c.in-Ok.is ∙ ap (λ (x : Command). Ok (said x)) c.in-Offer.is))))

pub offer-requires-clause-small : goal.offer-requires-clause-small
offer-requires-clause-small g c =
    let asked = c.requires.asked in
    subst (λ (i : OfferIn). length i.sdp.list < 2 ^ 31) (sym c.with.ensures.input)
    (small_asked c.args.asked.now.request.now asked.0 c.args.asked.now.input.now _ c.requires.anew.length_is c.requires.small asked.2
    (ap said_by c.in-Ok.is ∙ ap (λ (x : Command). Ok (said x)) c.in-Offer.is))

pub answer-requires-clause-asked : goal.answer-requires-clause-asked
answer-requires-clause-asked g c =
    let asked = c.requires.asked in
    let with = c.with-in-Answer in (
      asked.0,
      is_asking_with (λ (i : AnswerIn). says.Answer i.call_id.list i.from_tag.list i.to_tag.list i.sdp.list i.options) c.args.asked.now.request.now with.result.request.now _ with.result.input.now asked.0 (ap (λ request. request.now) with.ensures.request) with.ensures.input
          (is_asking c.args.asked.now.request.now asked.0 _ asked.1 (asked.2 ∙ ap said_by c.in-Ok.is ∙ ap (λ (x : Command). Ok (said x)) c.in-Answer.is)),
    )

pub returns-in-Answer-clause-carries : goal.returns-in-Answer-clause-carries
returns-in-Answer-clause-carries g c pairs reads is =
    let with = c.with-in-Answer in
    let new = c.answer.new.turn in
    let main = c.args.turn.now.main in
    let same = ap (λ request. request.now) with.ensures.request in
    subst (λ (request : Request). ExecutesCommand main.config.now main.hand.now new.main.hand.now main.entry_id (record_by request pairs c.answer.result) c.answer.result.reply new.board.now (g.P.PortMaker.log new.ports.now)) same
    (c.answer.ensures.carries pairs
    (is_asking_with (λ (i : AnswerIn). says.Answer i.call_id.list i.from_tag.list i.to_tag.list i.sdp.list i.options) c.args.asked.now.request.now with.result.request.now _ with.result.input.now pairs same with.ensures.input
    (is_asking c.args.asked.now.request.now pairs _ reads (is ∙ ap said_by c.in-Ok.is ∙ ap (λ (x : Command). Ok (said x)) c.in-Answer.is))))

pub answer-requires-clause-small : goal.answer-requires-clause-small
answer-requires-clause-small g c =
    let asked = c.requires.asked in
    subst (λ (i : AnswerIn). length i.sdp.list < 2 ^ 31) (sym c.with-in-Answer.ensures.input)
    (small_asked c.args.asked.now.request.now asked.0 c.args.asked.now.input.now _ c.requires.anew.length_is c.requires.small asked.2
    (ap said_by c.in-Ok.is ∙ ap (λ (x : Command). Ok (said x)) c.in-Answer.is))

pub delete-requires-clause-asked : goal.delete-requires-clause-asked
delete-requires-clause-asked g c =
    let asked = c.requires.asked in
    let with = c.with-in-Delete in (
      asked.0,
      is_asking_with (λ (i : DeleteIn). says.Delete i.call_id.list (says.strings_in_list i.from_tag) i.fatal i.delay_s) c.args.asked.now.request.now with.result.request.now _ with.result.input.now asked.0 (ap (λ request. request.now) with.ensures.request) with.ensures.input
          (is_asking c.args.asked.now.request.now asked.0 _ asked.1 (asked.2 ∙ ap said_by c.in-Ok.is ∙ ap (λ (x : Command). Ok (said x)) c.in-Delete.is)),
    )

pub returns-in-Delete-clause-carries : goal.returns-in-Delete-clause-carries
returns-in-Delete-clause-carries g c pairs reads is =
    let with = c.with-in-Delete in
    let new = c.delete.new.turn in
    let main = c.args.turn.now.main in
    let same = ap (λ request. request.now) with.ensures.request in
    subst (λ (request : Request). ExecutesCommand main.config.now main.hand.now new.main.hand.now main.entry_id (record_by request pairs c.delete.result) c.delete.result.reply new.board.now (g.P.PortMaker.log new.ports.now)) same
    (c.delete.ensures.carries pairs
    (is_asking_with (λ (i : DeleteIn). says.Delete i.call_id.list (says.strings_in_list i.from_tag) i.fatal i.delay_s) c.args.asked.now.request.now with.result.request.now _ with.result.input.now pairs same with.ensures.input
    (is_asking c.args.asked.now.request.now pairs _ reads (is ∙ ap said_by c.in-Ok.is ∙ ap (λ (x : Command). Ok (said x)) c.in-Delete.is))))

pub returns-in-Err-clause-works : goal.returns-in-Err-clause-works
returns-in-Err-clause-works g c = works_none g.P.PortMaker.log g.P.PortMaker.faults c.args.turn.now c.requires.begins.in_turn.may c.requires.begins.empty

pub returns-in-Ping-clause-works : goal.returns-in-Ping-clause-works
returns-in-Ping-clause-works g c = works_none g.P.PortMaker.log g.P.PortMaker.faults c.args.turn.now c.requires.begins.in_turn.may c.requires.begins.empty

pub returns-in-List-clause-works : goal.returns-in-List-clause-works
returns-in-List-clause-works g c = works_none g.P.PortMaker.log g.P.PortMaker.faults c.args.turn.now c.requires.begins.in_turn.may c.requires.begins.empty
