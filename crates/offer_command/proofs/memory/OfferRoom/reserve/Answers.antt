use Rattle.std.proofs.Common.{◌≡◌, ap, arith}
use Rattle.offer_answer.specs.Offers.{pairs_demanded, key_count}
use Rattle.media_ports.specs.Draws.{KeyBytes}
use Rattle.media_ports.specs.Ends.{EndsList}
use Rattle.offer_command.proofs.memory.OfferRoom.reserve.Goals as goal

pub returns-in-Ok : goal.returns-in-Ok
returns-in-Ok g c =
    let pairs : c.pairs-pairs.result ≡ pairs_demanded c.args.plan.now = c.pairs-pairs.ensures.count in
    let keys : c.keys-keys.result ≡ key_count c.args.plan.now = c.keys-keys.ensures.count in
    let len = c.reply_len.ensures in
    let opened_room = ap (λ (x : EndsList g.row.I.Denot g.row.O.Denot). x.room) c.in_ok-opened.ensures in
    let drawn_room = ap (λ (x : KeyBytes). x.room) c.in_ok-drawn.ensures in
    let leg_room = c.in-Ok.ensures.room.0 in
    let key_room = c.in-Ok.ensures.room.1 in
    let numbers_room = c.in_ok-numbers.ensures.numbers.1 in
    let text_room = c.in_ok-numbers.ensures.text.1 in
    record {
      lease = record {
        opened = (ap (λ (x : EndsList g.row.I.Denot g.row.O.Denot). x.list) c.in_ok-opened.ensures, omega (arith, opened_room, pairs));
        numbers = (c.in_ok-numbers.ensures.numbers.0, omega (arith, numbers_room, pairs));
        drawn = (ap (λ (x : KeyBytes). x.list) c.in_ok-drawn.ensures, omega (arith, drawn_room, keys));
      };
      prepare = record {
        nothing = c.in-Ok.ensures.nothing.0;
        no_legs = c.in-Ok.ensures.nothing.1;
        no_parts = c.in-Ok.ensures.nothing.2;
        legs = omega (arith, leg_room, pairs);
        keys = omega (arith, key_room, keys);
        ready = c.in-Ok.ensures.ready;
      };
      text = (c.in_ok-numbers.ensures.text.0, omega (arith, text_room, len));
    }
