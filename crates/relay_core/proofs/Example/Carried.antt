-- What the list of the worked calls has.
use Rattle.std.proofs.Common.{◌≡◌, ap, refl, Bool, true, false, [], ◌==◌, arith}
use Rattle.std.specs.Prelude.{◌&&◌, not}
use Rattle.rtp_packet.specs.declared.head.Half.TheVariants.{Rtp}
use Rattle.histories.specs.Words.{here, there}
use Rattle.port_pool.specs.declared.holder.Holder.{Holder}
use Rattle.port_pool.specs.Boxes.{Close}
use Rattle.port_pool.specs.Ports.{range_pairs}
use Rattle.call_cell.specs.Cells.{Expire}
use Rattle.relay_core.specs.Entries.{Event, Cell, Box, Entry, box_of}
use Rattle.relay_core.specs.WholeCalls.{OccursOf, CarriesPacket, CarriesCalls}
use Rattle.relay_core.proofs.Example.Datagrams.{config, leg_a, leg_b, legs, key_80, line, next_leg_a, last_legs}
use Rattle.relay_core.proofs.Example.Board.{accepted_offer, accepted_answer, offer_turn, repeat_turn, answer_turn, delete_turn, accepted_next, next_turn, accepted_last, last_call, last_turn, delay_turn}
use Rattle.relay_core.proofs.Example.Cell.{relayed, sending, relayed_back, sending_back, reply_note, is_wire, refused_late}
use Rattle.relay_core.proofs.Example.Members.{Each, none_left, ◌&◌, of_each, at_place, of_all, together, equal_is}
use Rattle.relay_core.proofs.Example.Entries.{entries, offered, repeated, answered, taken, sent, taken_back, sent_back, asked, ticked, ended, closed_b, closed_a, deleted, offered_next, relayed_late, timed_out, offered_last, delayed, asked_early, ticked_early, ended_last, closed_b_last, closed_a_last, over}

-- the box of the leg closes
abbrev Closes : Holder → Type 0
Closes leg = OccursOf entries deleted.number (box_of config leg.pair) (Box Close)

boxes_close : Each Closes legs
boxes_close = (closed_b, at_place entries 15 refl, refl, refl, refl) & (closed_a, at_place entries 16 refl, refl, refl, refl) & none_left

-- the same at the end of the last call
abbrev ClosesLast : Holder → Type 0
ClosesLast leg = OccursOf entries over.number (box_of config leg.pair) (Box Close)

boxes_close_last : Each ClosesLast last_legs
boxes_close_last = (closed_b_last, at_place entries 36 refl, refl, refl, refl) & (closed_a_last, at_place entries 37 refl, refl, refl, refl) & none_left

-- no call is asked then whether it has timed out
abbrev asks : Event → Bool
asks (Cell (Expire _)) = true
asks _ = false

abbrev is_no_question : Entry → Bool
is_no_question e = not (e.board == over.number && asks e.event)

not_both : (b : Bool) → not b ≡ true → b ≡ true → ⊥
not_both true h p = let k : false ≡ true = h in cc
not_both false h p = let k : false ≡ true = p in cc

unasked : (finds : Bool) → OccursOf entries over.number last_call.cell (Cell (Expire finds)) → ⊥
unasked finds o =
    not_both (o.0.board == over.number && asks o.0.event) (of_all is_no_question entries refl o.0 o.1)
    (together (o.0.board == over.number) (asks o.0.event) (equal_is o.0.board over.number o.4) (ap asks o.3))

to_b : CarriesPacket config entries leg_a leg_b
unfolding range_pairs
to_b = record {
  relay = relayed;
  is_relayed = (sent, at_place entries 8 refl, refl, refl);
  is_taken = (taken, at_place entries 7 refl, refl, refl);
  sending = sending;
  sends = refl;
  is_sent = refl;
}

to_a : CarriesPacket config entries leg_b leg_a
unfolding range_pairs
to_a = record {
  relay = relayed_back;
  is_relayed = (sent_back, at_place entries 10 refl, refl, refl);
  is_taken = (taken_back, at_place entries 9 refl, refl, refl);
  sending = sending_back;
  sends = refl;
  is_sent = refl;
}

pub carries : CarriesCalls config entries
unfolding to_a to_b
carries = record {
  offer_turn = offer_turn;
  is_offered = (offered, at_place entries 3 refl, refl, refl);
  offer = accepted_offer;
  accepts_offer = refl;
  begins = refl;
  repeat_turn = repeat_turn;
  is_repeated = (repeated, at_place entries 4 refl, refl, refl);
  same_datagram = (refl, refl, refl);
  repeats = refl;
  answer_turn = answer_turn;
  is_answered = (answered, at_place entries 6 refl, refl, refl);
  answer = accepted_answer;
  accepts_answer = refl;
  answers_offer = refl;
  ticked = [];
  is_ticked = (ticked, at_place entries 13 refl, refl, refl);
  is_asked = (asked, at_place entries 12 refl, refl, refl, refl);
  delete_turn = delete_turn;
  is_deleted = (deleted, at_place entries 17 refl, refl, refl);
  accepts_delete = refl;
  ends = (ended, at_place entries 14 refl, refl, refl, refl);
  closes = of_each Closes legs boxes_close;
  leg_a = leg_a;
  leg_b = leg_b;
  has_leg_a = there (here refl);
  has_leg_b = here refl;
  sides = (refl, refl);
  same_section = refl;
  to_b = to_b;
  key = key_80;
  is_drawn = here refl;
  shield = record { key = 0; note = record { half = Rtp; ssrc = 286331153; index = 100 } };
  is_shielded = refl;
  under_key = refl;
  protects = refl;
  to_a = to_a;
  line = line;
  is_chosen = here refl;
  note = reply_note;
  is_noted = refl;
  opens = is_wire;
  learned = refl;
  next_turn = next_turn;
  is_offered_next = (offered_next, at_place entries 21 refl, refl, refl);
  next = accepted_next;
  accepts_next = refl;
  begins_next = refl;
  next_leg = next_leg_a;
  has_next_leg = there (here refl);
  same_pair = refl;
  later_lease = refl;
  late = refused_late;
  is_late = (relayed_late, at_place entries 22 refl, refl, refl);
  for_former = refl;
  is_stale = refl;
  times_out = (timed_out, at_place entries 27 refl, refl, refl);
  last_turn = last_turn;
  is_offered_last = (offered_last, at_place entries 31 refl, refl, refl);
  last = accepted_last;
  accepts_last = refl;
  begins_last = refl;
  delay_turn = delay_turn;
  is_delayed = (delayed, at_place entries 32 refl, refl, refl);
  seconds = 30;
  accepts_delay = refl;
  some_delay = omega arith;
  early = (ticked_early, at_place entries 34 refl, refl, refl);
  asks_early = (asked_early, at_place entries 33 refl, refl, refl, refl);
  is_over = (over, at_place entries 38 refl, refl, refl);
  when_due = refl;
  just_before = refl;
  unasked = unasked;
  ends_last = (ended_last, at_place entries 35 refl, refl, refl, refl);
  closes_last = of_each ClosesLast last_legs boxes_close_last;
  in_turn = (omega arith, (omega arith, (omega arith, (omega arith, (omega arith, (omega arith, (omega arith, (omega arith, (omega arith, (omega arith, tt))))))))));
  in_cell = (omega arith, (omega arith, (omega arith, (omega arith, (omega arith, (omega arith, tt))))));
  same_cell = (refl, refl);
}
