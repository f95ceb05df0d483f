use Rattle.std.proofs.Common.{refl, sym, subst, ap, ◌∙◌, ◌≡◌, le_refl, false, ℕ, List, Option, Some}
use Rattle.turn_table.specs.Hands.{entries}
use Rattle.ng_bencode.specs.Room.{Room}
use Rattle.ng_bencode.specs.declared.row.Row.{Row}
use Rattle.ng_bencode.specs.declared.value.Value.{Value}
use Rattle.control_messages.specs.Bodies.{pairs_if, said_by}
use Rattle.call_board.specs.Requests.{ReadsBody, command_in}
use Rattle.call_board.specs.Shapes.{BoardShape}
use Rattle.call_board.specs.Views.{view_of, view_at_moment}
use Rattle.relay_core.specs.Entries.{board_history}
use Rattle.relay_core.specs.KeptAfter.{IsWholeWith}
use Rattle.relay_core.specs.Turns.{made_by}
use Rattle.board_turns.proofs.Givings.{unasked_given}
use Rattle.board_turns.proofs.Staying.{nests_none}
use Rattle.board_turns.proofs.Tying.{ties_none}
use Rattle.board_turns.specs.Commands.{record_by}
use Rattle.board_turns.specs.Controls.{control_of, entry_pairs}
use Rattle.ng_server.specs.Requests.{record_of}
use Rattle.ng_server.specs.SentReplies.{SendsOnce}
use Rattle.ng_server.proofs.Kept.{anew, datagram_is, deals_kept, is_kept_now, repeated_deals, repeated_reply, short_deals, short_reply, turn_keeps}
use Rattle.ng_server.proofs.request.deal.Goals as goal

pub find_reply-requires : goal.find_reply-requires
find_reply-requires g c = c.requires.request.cookie

pub returns-in-Some-clause-deals : goal.returns-in-Some-clause-deals
returns-in-Some-clause-deals g c =
    let config = c.args.turn.now.main.config.now in
    let h = board_history (made_by c.args.turn.now.main.hand.now) c.args.turn.now.main.entry_id.number in
    let found = c.in-Some.ensures config (view_at_moment (view_of config h) c.args.turn.now.main.entry_id.moment) c.requires.begins.in_turn.shows in
    let is_kept = is_kept_now h c.args.turn.now.main.entry_id.moment c.args.request.now.source c.args.request.now.cookie.now (Some c.in-Some.kept.now) c.requires.begins.in_turn.timely found in
    repeated_deals config c.args.turn.now.main.turns.now c.args.turn.now.main.hand.now c.args.turn.now.main.entry_id c.args.request.now c.repeat.result.turn_record c.in-Some.kept.now c.args.turn.now.board.now
    (g.P.PortMaker.log c.args.turn.now.ports.now) c.requires.begins.in_turn c.requires.request is_kept c.repeat.ensures.nothing.2

pub returns-in-Some-clause-sent : goal.returns-in-Some-clause-sent
returns-in-Some-clause-sent g c =
    let config = c.args.turn.now.main.config.now in
    let h = board_history (made_by c.args.turn.now.main.hand.now) c.args.turn.now.main.entry_id.number in
    let found = c.in-Some.ensures config (view_at_moment (view_of config h) c.args.turn.now.main.entry_id.moment) c.requires.begins.in_turn.shows in
    let is_kept = is_kept_now h c.args.turn.now.main.entry_id.moment c.args.request.now.source c.args.request.now.cookie.now (Some c.in-Some.kept.now) c.requires.begins.in_turn.timely found in
    let turn_record = c.repeat.result.turn_record in
    subst (λ (bytes : List ℕ). SendsOnce c.args.request.now.source bytes c.repeat.result.sent (g.N.ControlLink.log c.args.link.now) (g.N.ControlLink.log c.repeat.new.link))
    (sym (repeated_reply config h c.args.turn.now.main.entry_id.moment c.args.request.now (pairs_if turn_record.dictionary) turn_record.chosen_lines turn_record.device_answers
    c.in-Some.kept.now is_kept c.repeat.ensures.nothing.2)) c.repeat.ensures.sent

pub returns-in-Some-clause-devices : goal.returns-in-Some-clause-devices
returns-in-Some-clause-devices g c = record { board_is = refl; ports_are = refl; gone_is = refl }

pub returns-in-Some-clause-nests : goal.returns-in-Some-clause-nests
returns-in-Some-clause-nests g c = nests_none c.args.turn.now.main c.requires.begins.in_turn.may

pub returns-in-Some-clause-cause : goal.returns-in-Some-clause-cause
returns-in-Some-clause-cause g c = c.repeat.ensures.cause

pub returns-in-Some-clause-empty : goal.returns-in-Some-clause-empty
returns-in-Some-clause-empty g c = c.requires.begins.empty

pub returns-in-Some-clause-whole : goal.returns-in-Some-clause-whole
returns-in-Some-clause-whole g c = λ whole. whole

pub returns-in-Some-clause-ties : goal.returns-in-Some-clause-ties
returns-in-Some-clause-ties g c = ties_none c.args.turn.now.main.config.now (g.P.PortMaker.log c.args.turn.now.ports.now) (entries c.args.turn.now.main.hand.now)

pub returns-in-Some-clause-later : goal.returns-in-Some-clause-later
returns-in-Some-clause-later g c = (le_refl _, le_refl _)

pub returns-in-Some-clause-given : goal.returns-in-Some-clause-given
returns-in-Some-clause-given g c =
    let config = c.args.turn.now.main.config.now in
    let h = board_history (made_by c.args.turn.now.main.hand.now) c.args.turn.now.main.entry_id.number in
    let leased = entry_pairs config h c.args.turn.now.main.entry_id.moment (record_of c.args.request.now c.repeat.result.turn_record) in
    unasked_given config leased c.repeat.result.turn_record.device_answers (g.P.PortMaker.faults c.args.turn.now.ports.now)
    (g.P.PortMaker.faults c.args.turn.now.ports.now) (g.K.KeySource.faults c.args.keys.now) (g.K.KeySource.faults c.args.keys.now)
    (g.P.PortMaker.log c.args.turn.now.ports.now) (g.K.KeySource.log c.args.keys.now) c.repeat.ensures.unasked

pub answer_short-requires : goal.answer_short-requires
answer_short-requires g c = c.requires.request.cookie

pub returns-in_default-prepare-clause-deals : goal.returns-in_default-prepare-clause-deals
returns-in_default-prepare-clause-deals g c =
    let config = c.args.turn.now.main.config.now in
    let h = board_history (made_by c.args.turn.now.main.hand.now) c.args.turn.now.main.entry_id.number in
    let is_anew = anew config h c.args.turn.now.main.entry_id.moment c.args.request.now c.args.turn.now.board.now c.requires.begins.in_turn.timely c.requires.begins.in_turn.shows c.requires.request c.in_default.ensures in
    short_deals config c.args.turn.now.main.turns.now c.args.turn.now.main.hand.now c.args.turn.now.main.entry_id c.args.request.now c.answer_short.result.turn_record c.args.turn.now.board.now c.prepare.new.board
    (g.P.PortMaker.log c.args.turn.now.ports.now) c.requires.begins.in_turn is_anew c.prepare.ensures.shows c.answer_short.ensures.short.2

pub returns-in_default-prepare-clause-sent : goal.returns-in_default-prepare-clause-sent
returns-in_default-prepare-clause-sent g c =
    let config = c.args.turn.now.main.config.now in
    let h = board_history (made_by c.args.turn.now.main.hand.now) c.args.turn.now.main.entry_id.number in
    let is_anew = anew config h c.args.turn.now.main.entry_id.moment c.args.request.now c.args.turn.now.board.now c.requires.begins.in_turn.timely c.requires.begins.in_turn.shows c.requires.request c.in_default.ensures in
    let turn_record = c.answer_short.result.turn_record in
    subst (λ (bytes : List ℕ). SendsOnce c.args.request.now.source bytes c.answer_short.result.sent (g.N.ControlLink.log c.args.link.now) (g.N.ControlLink.log c.answer_short.new.link))
    (sym (short_reply config h c.args.turn.now.main.entry_id.moment c.args.request.now (pairs_if turn_record.dictionary) turn_record.chosen_lines turn_record.device_answers
    is_anew.not_kept c.answer_short.ensures.short.2)) c.answer_short.ensures.sent

pub returns-in_default-prepare-clause-devices : goal.returns-in_default-prepare-clause-devices
returns-in_default-prepare-clause-devices g c = record { board_is = refl; ports_are = refl; gone_is = refl }

pub returns-in_default-prepare-clause-nests : goal.returns-in_default-prepare-clause-nests
returns-in_default-prepare-clause-nests g c = nests_none c.args.turn.now.main c.requires.begins.in_turn.may

pub returns-in_default-prepare-clause-cause : goal.returns-in_default-prepare-clause-cause
returns-in_default-prepare-clause-cause g c = c.answer_short.ensures.cause

pub returns-in_default-prepare-clause-empty : goal.returns-in_default-prepare-clause-empty
returns-in_default-prepare-clause-empty g c = c.requires.begins.empty

pub returns-in_default-prepare-clause-whole : goal.returns-in_default-prepare-clause-whole
returns-in_default-prepare-clause-whole g c = λ whole.
    subst (λ (shape : BoardShape). IsWholeWith c.args.turn.now.main.config.now c.args.turn.now.main.hand.now shape) (sym c.prepare.ensures.shape) whole

pub returns-in_default-prepare-clause-ties : goal.returns-in_default-prepare-clause-ties
returns-in_default-prepare-clause-ties g c = ties_none c.args.turn.now.main.config.now (g.P.PortMaker.log c.args.turn.now.ports.now) (entries c.args.turn.now.main.hand.now)

pub returns-in_default-prepare-clause-later : goal.returns-in_default-prepare-clause-later
returns-in_default-prepare-clause-later g c = (le_refl _, le_refl _)

pub returns-in_default-prepare-clause-given : goal.returns-in_default-prepare-clause-given
returns-in_default-prepare-clause-given g c =
    let config = c.args.turn.now.main.config.now in
    let h = board_history (made_by c.args.turn.now.main.hand.now) c.args.turn.now.main.entry_id.number in
    let leased = entry_pairs config h c.args.turn.now.main.entry_id.moment (record_of c.args.request.now c.answer_short.result.turn_record) in
    unasked_given config leased c.answer_short.result.turn_record.device_answers (g.P.PortMaker.faults c.args.turn.now.ports.now)
    (g.P.PortMaker.faults c.args.turn.now.ports.now) (g.K.KeySource.faults c.args.keys.now) (g.K.KeySource.faults c.args.keys.now)
    (g.P.PortMaker.log c.args.turn.now.ports.now) (g.K.KeySource.log c.args.keys.now) c.answer_short.ensures.unasked

pub carry_out-chosen_lines-requires-clause-begins : goal.carry_out-chosen_lines-requires-clause-begins
carry_out-chosen_lines-requires-clause-begins g c =
    record { in_turn = turn_keeps c.args.turn.now.main.config.now c.args.turn.now.main.turns.now c.args.turn.now.main.hand.now c.args.turn.now.main.entry_id c.args.turn.now.board.now c.prepare.new.board (g.P.PortMaker.log c.args.turn.now.ports.now) c.prepare.ensures.shows c.prepare.ensures.shape c.requires.begins.in_turn; empty = c.requires.begins.empty }

pub carry_out-chosen_lines-requires-clause-anew : goal.carry_out-chosen_lines-requires-clause-anew
carry_out-chosen_lines-requires-clause-anew g c =
    let config = c.args.turn.now.main.config.now in
    let h = board_history (made_by c.args.turn.now.main.hand.now) c.args.turn.now.main.entry_id.number in
    let is_anew = anew config h c.args.turn.now.main.entry_id.moment c.args.request.now c.args.turn.now.board.now c.requires.begins.in_turn.timely c.requires.begins.in_turn.shows c.requires.request c.in_default.ensures in
    is_anew

pub carry_out-chosen_lines-requires-clause-small : goal.carry_out-chosen_lines-requires-clause-small
carry_out-chosen_lines-requires-clause-small g c = c.in-Ok.ensures.small

pub carry_out-chosen_lines-requires-clause-asked : goal.carry_out-chosen_lines-requires-clause-asked
carry_out-chosen_lines-requires-clause-asked g c = (pairs_if c.in-Ok.prepared.asked.dictionary, c.in-Ok.ensures.reads, c.in-Ok.ensures.command)

pub reply_to-sent-requires-clause-cookie : goal.reply_to-sent-requires-clause-cookie
reply_to-sent-requires-clause-cookie g c = (c.requires.request.cookie, c.in-Ok.ensures.cookie)

pub returns-clause-deals : goal.returns-clause-deals
returns-clause-deals g c =
    let dictionary = c.dictionary_of.result in
    let is : dictionary ≡ c.in-Ok.prepared.asked.dictionary = c.dictionary_of.ensures in
    let reads : c.args.request.now.too_long ≡ false → ReadsBody c.args.request.now.body.now (pairs_if dictionary) =
    subst (λ (pairs : Option (Row (Room ℕ × Value))). c.args.request.now.too_long ≡ false → ReadsBody c.args.request.now.body.now (pairs_if pairs)) (sym is) c.in-Ok.ensures.reads in
    let command : command_in c.args.request.now.too_long (pairs_if dictionary) ≡ said_by c.in-Ok.prepared.asked.command =
    ap (λ (pairs : Option (Row (Room ℕ × Value))). command_in c.args.request.now.too_long (pairs_if pairs)) is ∙ c.in-Ok.ensures.command in
    let carries = c.carry_out-chosen_lines.ensures.carries (pairs_if dictionary) reads command in
    deals_kept c.args.turn.now.main.config.now c.args.turn.now.main.turns.now c.args.turn.now.main.hand.now c.carry_out-chosen_lines.new.turn.main.hand.now c.args.turn.now.main.entry_id c.args.request.now
    (record { dictionary = dictionary; chosen_lines = c.carry_out-chosen_lines.result.chosen_lines; device_answers = c.carry_out-chosen_lines.result.device_answers })
    c.carry_out-chosen_lines.result.reply c.args.turn.now.board.now c.carry_out-chosen_lines.new.turn.board.now c.reply_to-sent.new.board (g.P.PortMaker.log c.args.turn.now.ports.now)
    (g.P.PortMaker.log c.carry_out-chosen_lines.new.turn.ports.now) c.requires.begins.in_turn carries c.reply_to-sent.ensures.kept

pub returns-clause-sent : goal.returns-clause-sent
returns-clause-sent g c =
    let config = c.args.turn.now.main.config.now in
    let h = board_history (made_by c.args.turn.now.main.hand.now) c.args.turn.now.main.entry_id.number in
    let dictionary = c.dictionary_of.result in
    let is : dictionary ≡ c.in-Ok.prepared.asked.dictionary = c.dictionary_of.ensures in
    let reads : c.args.request.now.too_long ≡ false → ReadsBody c.args.request.now.body.now (pairs_if dictionary) =
    subst (λ (pairs : Option (Row (Room ℕ × Value))). c.args.request.now.too_long ≡ false → ReadsBody c.args.request.now.body.now (pairs_if pairs)) (sym is) c.in-Ok.ensures.reads in
    let command : command_in c.args.request.now.too_long (pairs_if dictionary) ≡ said_by c.in-Ok.prepared.asked.command =
    ap (λ (pairs : Option (Row (Room ℕ × Value))). command_in c.args.request.now.too_long (pairs_if pairs)) is ∙ c.in-Ok.ensures.command in
    let carries = c.carry_out-chosen_lines.ensures.carries (pairs_if dictionary) reads command in
    subst (λ (bytes : List ℕ). SendsOnce c.args.request.now.source bytes c.reply_to-sent.result (g.N.ControlLink.log c.args.link.now) (g.N.ControlLink.log c.reply_to-sent.new.link))
    (datagram_is (control_of config h c.args.turn.now.main.entry_id.moment (record_by c.args.request.now (pairs_if dictionary) c.carry_out-chosen_lines.result)) c.carry_out-chosen_lines.result.reply carries.replies)
    c.reply_to-sent.ensures.sent

pub returns-clause-devices : goal.returns-clause-devices
returns-clause-devices g c =
    let devices = c.carry_out-chosen_lines.ensures.works.stays.devices in
    record { board_is = devices.board_is; ports_are = devices.ports_are; gone_is = devices.gone_is }

pub returns-clause-nests : goal.returns-clause-nests
returns-clause-nests g c = c.carry_out-chosen_lines.ensures.works.stays.nests

pub returns-clause-cause : goal.returns-clause-cause
returns-clause-cause g c = c.reply_to-sent.ensures.cause

pub returns-clause-empty : goal.returns-clause-empty
returns-clause-empty g c = c.carry_out-chosen_lines.ensures.works.empty

pub returns-clause-whole : goal.returns-clause-whole
returns-clause-whole g c = λ whole.
    let new = c.carry_out-chosen_lines.new.turn in
    subst (λ (shape : BoardShape). IsWholeWith new.main.config.now new.main.hand.now shape) (sym c.reply_to-sent.ensures.shape)
    (c.carry_out-chosen_lines.ensures.works.whole
    (subst (λ (shape : BoardShape). IsWholeWith c.args.turn.now.main.config.now c.args.turn.now.main.hand.now shape) (sym c.prepare.ensures.shape) whole))

pub returns-clause-ties : goal.returns-clause-ties
returns-clause-ties g c = c.carry_out-chosen_lines.ensures.works.ties

pub returns-clause-later : goal.returns-clause-later
returns-clause-later g c = (c.carry_out-chosen_lines.ensures.works.stays.later, c.carry_out-chosen_lines.ensures.later)

pub returns-clause-given : goal.returns-clause-given
returns-clause-given g c =
    let dictionary = c.dictionary_of.result in
    let is : dictionary ≡ c.in-Ok.prepared.asked.dictionary = c.dictionary_of.ensures in
    let reads : c.args.request.now.too_long ≡ false → ReadsBody c.args.request.now.body.now (pairs_if dictionary) =
    subst (λ (pairs : Option (Row (Room ℕ × Value))). c.args.request.now.too_long ≡ false → ReadsBody c.args.request.now.body.now (pairs_if pairs)) (sym is) c.in-Ok.ensures.reads in
    let command : command_in c.args.request.now.too_long (pairs_if dictionary) ≡ said_by c.in-Ok.prepared.asked.command =
    ap (λ (pairs : Option (Row (Room ℕ × Value))). command_in c.args.request.now.too_long (pairs_if pairs)) is ∙ c.in-Ok.ensures.command in
    c.carry_out-chosen_lines.ensures.given (pairs_if dictionary) reads command
