-- Worked turns, whole: what a datagram spells, what the turn was given, and the bytes of the reply.
use Rattle.std.proofs.Common.{◌≡◌, ◌≢◌, ap, get_or, ℕ, zero, suc, ◌<◌, inr, List, [], ◌∷◌, ◌++◌, true, false, Some, None, codes, refl, arith, not-suc-le-zero, le_of_suc-le-suc}
use Rattle.std.specs.Fmt.{digits}
use Rattle.ng_bencode.specs.Tree.{Bytes, Items, Entries, no_items, item, no_entries, entry}
use Rattle.ng_command.specs.declared.command.Options.{Options}
use Rattle.sdes_lines.specs.declared.crypto_line.CryptoLine.{CryptoLine}
use Rattle.sdes_lines.specs.CryptoLine.{IsUsable, line_text}
use Rattle.sdp_edit.specs.ChosenLines.{IsFirstOf, IsAny, section_lines}
use Rattle.sdp_text.specs.Lines.{lines_of}
use Rattle.sdp_edit.specs.Attributes.{is_removed, is_mux_attribute, is_feedback}
use Rattle.sdp_edit.specs.Images.{image_of}
use Rattle.sdp_edit.specs.Places.{line_place}
use Rattle.sdp_edit.specs.Texts.{with_end, connection_text, media_text, origin_text}
use Rattle.sdp_edit.specs.EditedText.{edited_from, edited_line, image_text, added_connection, added_mux, added_keys, key_lines}
use Rattle.cookie_cache.specs.Keepings as cache
use Rattle.port_pool.specs.Ports.{range_pairs, pair_count}
use Rattle.port_pool.specs.declared.holder.Side.TheVariants.{A, B}
use Rattle.offer_answer.specs.Rounds.{OfferAsk}
use Rattle.offer_answer.specs.Keys.{chosen_in}
use Rattle.offer_answer.specs.Plan.{OfferRead, offer_fault, demand, offer_text, is_side}
use Rattle.call_board.specs.Acts as act
use Rattle.call_board.specs.Acts.{Call, Control, Turn, Tick, Stop, BoardEntry}
use Rattle.call_board.specs.Requests.{asked, sdp_error}
use Rattle.call_board.specs.Replies.{reply_text}
use Rattle.call_board.specs.Answers.{offer_ask}
use Rattle.call_board.specs.Pairs.{free}
use Rattle.call_board.specs.Fits.{FitsControl, IsFitting}
use Rattle.call_board.proofs.rows.Histories.{config, from_port, given, options, call_of, c1, leg}

-- what is opened so that a turn computes
unfoldable pub turns : Unit {0}
unfolding asked sdp_error reply_text pair_count range_pairs cache.kept OfferRead offer_fault demand offer_text is_side digits is_removed is_mux_attribute is_feedback image_of line_place with_end connection_text media_text origin_text edited_from edited_line image_text added_connection added_mux added_keys key_lines
turns = tt

abbrev pub at : ℕ → Control → BoardEntry
at moment c = record { moment = moment; event = Turn c }

-- A ping.

abbrev pub ping : Control
ping = record {
  source = from_port 2223;
  cookie = codes "5323_1";
  body = codes "d7:command4:pinge";
  too_long = false;
  pairs = Some (entry (codes "command") (Bytes (codes "ping")) no_entries);
  chosen = [];
  given = given;
  reply = codes "5323_1 d6:result4:ponge";
  act = act.Told;
}

pub ping_fits : FitsControl config [] 0 ping
unfolding turns
ping_fits = record {
  framed = refl;
  length_is = refl;
  reads = λ read. record { ints = (tt, tt); deep = omega arith; spelled = refl };
  hears = λ heard. absurd (let e : false ≡ true = heard in cc);
  gives = (record { no_opens = refl; no_draws = refl; none_failed = refl }, refl);
  reports = λ runs_out. absurd (let e = runs_out in cc);
  answers = refl;
}

-- An offer, which begins a call.

abbrev pub alice : List ℕ
alice = codes "v=0\r\no=alice 1 1 IN IP4 192.0.2.10\r\ns=-\r\nc=IN IP4 192.0.2.10\r\nt=0 0\r\nm=audio 6000 RTP/AVP 0 8\r\na=rtpmap:0 PCMU/8000\r\na=sendrecv\r\n"

abbrev alice_replaced : List ℕ
alice_replaced = codes "v=0\r\no=alice 1 1 IN IP4 203.0.113.1\r\ns=-\r\nc=IN IP4 203.0.113.1\r\nt=0 0\r\nm=audio 30000 RTP/AVP 0 8\r\nc=IN IP4 203.0.113.1\r\na=rtpmap:0 PCMU/8000\r\na=sendrecv\r\n"

abbrev offer_pairs : Entries
offer_pairs =
    entry (codes "sdp") (Bytes alice) (entry (codes "call-id") (Bytes (codes "c1")) (entry (codes "from-tag") (Bytes (codes "a"))
    (entry (codes "replace") (Items (item (Bytes (codes "origin")) (item (Bytes (codes "session connection")) no_items)))
    (entry (codes "flags") (Items (item (Bytes (codes "trust-address")) no_items))
    (entry (codes "foo") (Bytes (codes "bar")) (entry (codes "command") (Bytes (codes "offer")) no_entries))))))

abbrev replacing : Options
replacing = record options { replace_origin = true; replace_session = true }

abbrev ask : OfferAsk
ask = offer_ask (codes "a") alice replacing (None ∷ [])

abbrev pub offered : Control
offered = record {
  source = from_port 2223;
  cookie = codes "7_o";
  body = codes "d3:sdp129:" ++ alice ++ codes "7:call-id2:c18:from-tag1:a7:replacel6:origin18:session connectione5:flagsl13:trust-addresse3:foo3:bar7:command5:offere";
  too_long = false;
  pairs = Some offer_pairs;
  chosen = None ∷ [];
  given = record given { opens = true ∷ true ∷ true ∷ true ∷ [] };
  reply = codes "7_o d6:result2:ok3:sdp154:" ++ alice_replaced ++ codes "e";
  act = act.Offered (record { of = c1; begins = true; ask = ask; legs = leg c1 0 B 0 1 ∷ leg c1 0 A 1 1 ∷ []; keys = []; dropped = [] });
}

no_key_in : (line : List ℕ) (key : CryptoLine) → IsUsable line key.tag key.suite key.key → get_or line 2 0 ≡ 99
unfolding line_text
no_key_in line key usable = ap (λ bytes. get_or bytes 2 0) usable.line_is

-- no line of the section is a crypto line
clash : (n : ℕ) → n ≡ 99 → n ≢ 99 → ⊥
clash n e differs = differs e

no_key : IsFirstOf IsAny (section_lines 0 (lines_of alice)) None
no_key = inr (λ key line. clash 114 (no_key_in (codes "a=rtpmap:0 PCMU/8000") key line.0) (omega arith), inr (λ key line. clash 115 (no_key_in (codes "a=sendrecv") key line.0) (omega arith), refl))

alice_heard : (section : ℕ) → section < 1 → IsFirstOf IsAny (section_lines section (lines_of alice)) (chosen_in (None ∷ []) section)
alice_heard zero below = no_key
alice_heard (suc section) below = absurd (not-suc-le-zero (le_of_suc-le-suc below))

pub offered_fits : FitsControl config (at 0 ping ∷ []) 1 offered
unfolding turns
offered_fits = record {
  framed = refl;
  length_is = refl;
  reads = λ read. record { ints = (tt, (tt, (tt, ((tt, (tt, tt)), ((tt, tt), (tt, (tt, tt))))))); deep = omega arith; spelled = refl };
  hears = λ heard. record { count = refl; first = alice_heard };
  gives = (record { all_opened = refl }, record { all_drawn = refl; none_failed = refl }, refl);
  reports = λ runs_out. absurd (let e = runs_out in cc);
  answers = refl;
}

-- The same datagram from another source is executed: a repeated offer, whose pairs stand.

abbrev again : Control
again = record offered {
  source = from_port 2224;
  given = given;
  act = act.Offered (record { of = c1; begins = false; ask = ask; legs = []; keys = []; dropped = [] });
}

abbrev pub before_again : List BoardEntry
before_again = at 1 offered ∷ at 0 ping ∷ []

again_fits : FitsControl config before_again 2 again
unfolding turns
again_fits = record {
  framed = refl;
  length_is = refl;
  reads = λ read. offered_fits.reads refl;
  hears = λ heard. offered_fits.hears refl;
  gives = (record { all_opened = refl }, record { all_drawn = refl; none_failed = refl }, refl);
  reports = λ runs_out. absurd (let e = runs_out in cc);
  answers = refl;
}

-- A delete.

abbrev deleted : Control
deleted = record {
  source = from_port 2223;
  cookie = codes "8_d";
  body = codes "d7:call-id2:c17:command6:deletee";
  too_long = false;
  pairs = Some (entry (codes "call-id") (Bytes (codes "c1")) (entry (codes "command") (Bytes (codes "delete")) no_entries));
  chosen = [];
  given = given;
  reply = codes "8_d d6:result2:oke";
  act = act.Deleted c1;
}

abbrev before_delete : List BoardEntry
before_delete = at 2 again ∷ before_again

deleted_fits : FitsControl config before_delete 3 deleted
unfolding turns
deleted_fits = record {
  framed = refl;
  length_is = refl;
  reads = λ read. record { ints = (tt, (tt, tt)); deep = omega arith; spelled = refl };
  hears = λ heard. absurd (let e : false ≡ true = heard in cc);
  gives = (record { no_opens = refl; no_draws = refl; none_failed = refl }, refl);
  reports = λ runs_out. absurd (let e = runs_out in cc);
  answers = refl;
}

-- The first datagram once more: its reply is kept, though its call is gone.

abbrev repeated : Control
repeated = record offered { given = given; act = act.Repeated }

abbrev before_repeat : List BoardEntry
before_repeat = at 3 deleted ∷ before_delete

repeated_fits : FitsControl config before_repeat 60000 repeated
unfolding turns
repeated_fits = record {
  framed = refl;
  length_is = refl;
  reads = λ read. offered_fits.reads refl;
  hears = λ heard. offered_fits.hears refl;
  gives = (record { no_opens = refl; no_draws = refl; none_failed = refl }, refl, refl);
  reports = λ runs_out. absurd (let e = runs_out in cc);
  answers = refl;
}

-- Nothing reads its body, so that what is recorded of that is free; the same where memory ran out before the body was read.

unread_repeat_fits : FitsControl config before_repeat 60000 (record repeated { pairs = None; chosen = [] })
unfolding turns
unread_repeat_fits = record {
  framed = refl;
  length_is = refl;
  reads = λ read. absurd (let e : false ≡ true = read in cc);
  hears = λ heard. absurd (let e : false ≡ true = heard in cc);
  gives = (record { no_opens = refl; no_draws = refl; none_failed = refl }, refl, refl);
  reports = λ runs_out. absurd (let e = runs_out in cc);
  answers = refl;
}

unread_out_of_memory_fits : FitsControl config [] 0 (record ping { pairs = None; given = record given { out_of_memory = true }; reply = codes "5323_1 d12:error-reason13:out of memory6:result5:errore"; act = act.OutOfMemory })
unfolding turns
unread_out_of_memory_fits = record {
  framed = refl;
  length_is = refl;
  reads = λ read. absurd (let e : false ≡ true = read in cc);
  hears = λ heard. absurd (let e : false ≡ true = heard in cc);
  gives = record { no_opens = refl; no_draws = refl; none_failed = refl };
  reports = λ runs_out queries. refl;
  answers = refl;
}

-- It has no report, since it asks after no call.

out_of_memory_report : FitsControl config [] 0 (record ping { given = record given { out_of_memory = true; report = Some [] }; reply = codes "5323_1 d12:error-reason13:out of memory6:result5:errore"; act = act.OutOfMemory }) → ⊥
unfolding turns
out_of_memory_report fits = let e = fits.reports refl refl in cc

-- A millisecond later it is an offer again, which begins another call in the same cell, with the pairs that were never leased.

abbrev alice_anew : List ℕ
alice_anew = codes "v=0\r\no=alice 1 1 IN IP4 203.0.113.1\r\ns=-\r\nc=IN IP4 203.0.113.1\r\nt=0 0\r\nm=audio 30004 RTP/AVP 0 8\r\nc=IN IP4 203.0.113.1\r\na=rtpmap:0 PCMU/8000\r\na=sendrecv\r\n"

abbrev c1_anew : Call
c1_anew = call_of 1 1 (codes "c1")

abbrev anew : Control
anew = record offered {
  reply = codes "7_o d6:result2:ok3:sdp154:" ++ alice_anew ++ codes "e";
  act = act.Offered (record { of = c1_anew; begins = true; ask = ask; legs = leg c1_anew 0 B 2 1 ∷ leg c1_anew 0 A 3 1 ∷ []; keys = []; dropped = [] });
}

abbrev before_anew : List BoardEntry
before_anew = at 60000 repeated ∷ before_repeat

anew_fits : FitsControl config before_anew 60001 anew
unfolding turns
anew_fits = record {
  framed = refl;
  length_is = refl;
  reads = λ read. offered_fits.reads refl;
  hears = λ heard. offered_fits.hears refl;
  gives = (record { all_opened = refl }, record { all_drawn = refl; none_failed = refl }, refl);
  reports = λ runs_out. absurd (let e = runs_out in cc);
  answers = refl;
}

-- A tick and a stop.

abbrev after_tick : List BoardEntry
after_tick = record { moment = 60002; event = Tick [] } ∷ at 60001 anew ∷ before_anew

-- such a history can come about
whole_fits : IsFitting config (record { moment = 60002; event = Stop (c1_anew ∷ []) } ∷ after_tick)
unfolding turns
whole_fits = (refl, ((refl, ((λ due. due), tt)), (anew_fits, (repeated_fits, (deleted_fits, (again_fits, (offered_fits, (ping_fits, tt))))))))

all_is_free : free config (record { moment = 60002; event = Stop (c1_anew ∷ []) } ∷ after_tick) ≡ 0 ∷ 1 ∷ 2 ∷ 3 ∷ []
unfolding turns
all_is_free = refl
