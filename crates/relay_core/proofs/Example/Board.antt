-- The board's entries of the worked calls, and that each is the one that the board's history demands.
use Rattle.std.proofs.Common.{◌≡◌, refl, List, [], ◌∷◌, ◌++◌, false, true, Some, None, codes, length}
use Rattle.std.specs.Prelude.{nat_lt}
use Rattle.relay_outside.specs.declared.address.Addr.{Addr}
use Rattle.relay_outside.specs.declared.address.Ip.TheVariants as ips
use Rattle.ng_frame.specs.Frame.{frame}
use Rattle.cookie_cache.specs.Keepings as cache
use Rattle.port_pool.specs.Ports.{range_pairs, pair_count}
use Rattle.offer_answer.specs.Plan as plan
use Rattle.call_board.specs.Acts as act
use Rattle.call_board.specs.Acts.{Call, Given, Control, Turn, Tick, BoardEntry}
use Rattle.call_board.specs.KeptReplies.{kept_reply}
use Rattle.call_board.specs.Replies.{Done, Described, reply_datagram}
use Rattle.call_board.specs.Answers.{answering_unless}
use Rattle.call_board.specs.Fits.{answered_in, FitsControl}
use Rattle.relay_core.proofs.Example.Datagrams.{config, id, offer, answer, legs, keys, first_draw, second_draw, offered, line, signal, offer_body, offer_pairs, offer_is_read, offer_is_asked, offer_is_faultless, offer_demands, offer_is_heard, answer_body, answer_pairs, answer_is_read, answer_is_asked, answer_is_faultless, answer_commits, answer_is_heard, delete_body, delete_pairs, delete_is_read, delete_is_asked, next_id, next_body, next_pairs, next_offer, next_legs, next_is_read, next_is_asked, next_is_faultless, next_demands, next_is_heard, last_legs, delay_body, delay_pairs, delay_is_read, delay_is_asked}

-- who sends the datagrams
abbrev pub controller : Addr
controller = record { ip = ips.V4 (127 ∷ 0 ∷ 0 ∷ 1 ∷ []); port = 2223 }

abbrev pub the_call : Call
the_call = record { number = 0; cell = 1; id = id }

abbrev pub nothing_given : Given
nothing_given = record { out_of_memory = false; opens = []; draws = []; draw_failed = false; report = None }

-- The offer begins the call, leases two pairs and draws two keys.

abbrev pub accepted_offer : act.Offer
accepted_offer = record { of = the_call; begins = true; ask = offer; legs = legs; keys = keys; dropped = [] }

abbrev pub offer_turn : Control
offer_turn = record {
  source = controller;
  cookie = codes "1";
  body = offer_body;
  too_long = false;
  pairs = Some offer_pairs;
  chosen = None ∷ [];
  given = record { out_of_memory = false; opens = true ∷ true ∷ true ∷ true ∷ []; draws = first_draw ∷ second_draw ∷ []; draw_failed = false; report = None };
  reply = reply_datagram config (codes "1") offer_body (Described (plan.offer_text config [] offer (30000 ∷ 30002 ∷ []) keys));
  act = act.Offered accepted_offer;
}

offer_is_answered : answered_in offer_turn ≡ answering_unless config [] offer_turn (kept_reply [] controller (codes "1") 1000)
unfolding cache.kept pair_count range_pairs
offer_is_answered = rw (offer_is_asked, offer_is_faultless, offer_demands) refl

offer_is_framed : frame (codes "1" ++ 32 ∷ offer_body) ≡ Some (codes "1", offer_body)
unfolding offer_body
offer_is_framed = refl

offer_is_short : false ≡ nat_lt 16384 (length (codes "1" ++ 32 ∷ offer_body))
unfolding offer_body
offer_is_short = refl

pub offer_fits : FitsControl config [] 1000 offer_turn
offer_fits = record {
  framed = offer_is_framed;
  length_is = offer_is_short;
  reads = λ read. offer_is_read;
  hears = λ heard. rw offer_is_asked offer_is_heard;
  gives = rw (offer_is_asked, offer_demands) (record { all_opened = refl }, record { all_drawn = refl; none_failed = refl }, refl);
  reports = λ runs_out. absurd (let e = runs_out in cc);
  answers = offer_is_answered;
}

-- The same datagram again, a tenth of a second later, has the same reply and does nothing.

abbrev pub repeat_turn : Control
repeat_turn = record offer_turn { given = nothing_given; act = act.Repeated }

abbrev pub after_offer : List BoardEntry
after_offer = record { moment = 1000; event = Turn offer_turn } ∷ []

repeat_is_answered : answered_in repeat_turn ≡ answering_unless config after_offer repeat_turn (kept_reply after_offer controller (codes "1") 1100)
unfolding cache.kept
repeat_is_answered = refl

pub repeat_fits : FitsControl config after_offer 1100 repeat_turn
repeat_fits = record {
  framed = offer_is_framed;
  length_is = offer_is_short;
  reads = λ read. offer_is_read;
  hears = λ heard. absurd (let e : false ≡ true = heard in cc);
  gives = (record { no_opens = refl; no_draws = refl; none_failed = refl }, refl, refl);
  reports = λ runs_out. absurd (let e = runs_out in cc);
  answers = repeat_is_answered;
}

abbrev pub after_repeat : List BoardEntry
after_repeat = record { moment = 1100; event = Turn repeat_turn } ∷ after_offer

-- The answer.

abbrev pub accepted_answer : act.Answer
accepted_answer = record { of = the_call; ask = answer; signal = signal }

abbrev pub answer_turn : Control
answer_turn = record {
  source = controller;
  cookie = codes "2";
  body = answer_body;
  too_long = false;
  pairs = Some answer_pairs;
  chosen = Some line ∷ [];
  given = nothing_given;
  reply = reply_datagram config (codes "2") answer_body (Described (plan.answer_text config offered answer));
  act = act.Answered accepted_answer;
}

answer_is_answered : answered_in answer_turn ≡ answering_unless config after_repeat answer_turn (kept_reply after_repeat controller (codes "2") 2000)
unfolding cache.kept
answer_is_answered = rw (answer_is_asked, answer_is_faultless, answer_commits) refl

answer_is_framed : frame (codes "2" ++ 32 ∷ answer_body) ≡ Some (codes "2", answer_body)
unfolding answer_body
answer_is_framed = refl

answer_is_short : false ≡ nat_lt 16384 (length (codes "2" ++ 32 ∷ answer_body))
unfolding answer_body
answer_is_short = refl

pub answer_fits : FitsControl config after_repeat 2000 answer_turn
answer_fits = record {
  framed = answer_is_framed;
  length_is = answer_is_short;
  reads = λ read. answer_is_read;
  hears = λ heard. rw answer_is_asked answer_is_heard;
  gives = (record { no_opens = refl; no_draws = refl; none_failed = refl }, refl);
  reports = λ runs_out. absurd (let e = runs_out in cc);
  answers = answer_is_answered;
}

-- The delete.

abbrev pub delete_turn : Control
delete_turn = record {
  source = controller;
  cookie = codes "3";
  body = delete_body;
  too_long = false;
  pairs = Some delete_pairs;
  chosen = [];
  given = nothing_given;
  reply = reply_datagram config (codes "3") delete_body Done;
  act = act.Deleted the_call;
}

abbrev pub after_answer : List BoardEntry
after_answer = record { moment = 2000; event = Turn answer_turn } ∷ after_repeat

-- a tick finds that no call has timed out
abbrev pub after_tick : List BoardEntry
after_tick = record { moment = 3000; event = Tick [] } ∷ after_answer

delete_is_answered : answered_in delete_turn ≡ answering_unless config after_tick delete_turn (kept_reply after_tick controller (codes "3") 5000)
unfolding cache.kept
delete_is_answered = rw delete_is_asked refl

delete_is_framed : frame (codes "3" ++ 32 ∷ delete_body) ≡ Some (codes "3", delete_body)
unfolding delete_body
delete_is_framed = refl

delete_is_short : false ≡ nat_lt 16384 (length (codes "3" ++ 32 ∷ delete_body))
unfolding delete_body
delete_is_short = refl

pub delete_fits : FitsControl config after_tick 5000 delete_turn
delete_fits = record {
  framed = delete_is_framed;
  length_is = delete_is_short;
  reads = λ read. delete_is_read;
  hears = λ heard. absurd (let e : false ≡ true = heard in cc);
  gives = (record { no_opens = refl; no_draws = refl; none_failed = refl }, refl);
  reports = λ runs_out. absurd (let e = runs_out in cc);
  answers = delete_is_answered;
}

-- The next call gets the cell and the pairs of the one that has ended.

abbrev pub after_delete : List BoardEntry
after_delete = record { moment = 5000; event = Turn delete_turn } ∷ after_tick

abbrev pub next_call : Call
next_call = record { number = 1; cell = 1; id = next_id }

abbrev pub accepted_next : act.Offer
accepted_next = record { of = next_call; begins = true; ask = next_offer; legs = next_legs; keys = []; dropped = [] }

abbrev pub next_turn : Control
next_turn = record {
  source = controller;
  cookie = codes "4";
  body = next_body;
  too_long = false;
  pairs = Some next_pairs;
  chosen = None ∷ [];
  given = record nothing_given { opens = true ∷ true ∷ true ∷ true ∷ [] };
  reply = reply_datagram config (codes "4") next_body (Described (plan.offer_text config [] next_offer (30000 ∷ 30002 ∷ []) []));
  act = act.Offered accepted_next;
}

next_is_answered : answered_in next_turn ≡ answering_unless config after_delete next_turn (kept_reply after_delete controller (codes "4") 6000)
unfolding cache.kept pair_count range_pairs
next_is_answered = rw (next_is_asked, next_is_faultless, next_demands) refl

next_is_framed : frame (codes "4" ++ 32 ∷ next_body) ≡ Some (codes "4", next_body)
unfolding next_body
next_is_framed = refl

next_is_short : false ≡ nat_lt 16384 (length (codes "4" ++ 32 ∷ next_body))
unfolding next_body
next_is_short = refl

pub next_fits : FitsControl config after_delete 6000 next_turn
next_fits = record {
  framed = next_is_framed;
  length_is = next_is_short;
  reads = λ read. next_is_read;
  hears = λ heard. rw next_is_asked next_is_heard;
  gives = rw (next_is_asked, next_demands) (record { all_opened = refl }, record { all_drawn = refl; none_failed = refl }, refl);
  reports = λ runs_out. absurd (let e = runs_out in cc);
  answers = next_is_answered;
}

-- A tick ends the next call an hour after its offer, which comes again under another cookie and begins the last call.

abbrev pub after_next : List BoardEntry
after_next = record { moment = 6000; event = Turn next_turn } ∷ after_delete

abbrev pub after_timeout : List BoardEntry
after_timeout = record { moment = 3606000; event = Tick (next_call ∷ []) } ∷ after_next

abbrev pub last_call : Call
last_call = record { number = 2; cell = 1; id = next_id }

abbrev pub accepted_last : act.Offer
accepted_last = record { of = last_call; begins = true; ask = next_offer; legs = last_legs; keys = []; dropped = [] }

abbrev pub last_turn : Control
last_turn = record next_turn {
  cookie = codes "5";
  reply = reply_datagram config (codes "5") next_body (Described (plan.offer_text config [] next_offer (30000 ∷ 30002 ∷ []) []));
  act = act.Offered accepted_last;
}

last_is_answered : answered_in last_turn ≡ answering_unless config after_timeout last_turn (kept_reply after_timeout controller (codes "5") 3607000)
unfolding cache.kept pair_count range_pairs
last_is_answered = rw (next_is_asked, next_is_faultless, next_demands) refl

last_is_framed : frame (codes "5" ++ 32 ∷ next_body) ≡ Some (codes "5", next_body)
unfolding next_body
last_is_framed = refl

last_is_short : false ≡ nat_lt 16384 (length (codes "5" ++ 32 ∷ next_body))
unfolding next_body
last_is_short = refl

pub last_fits : FitsControl config after_timeout 3607000 last_turn
last_fits = record {
  framed = last_is_framed;
  length_is = last_is_short;
  reads = λ read. next_is_read;
  hears = λ heard. rw next_is_asked next_is_heard;
  gives = rw (next_is_asked, next_demands) (record { all_opened = refl }, record { all_drawn = refl; none_failed = refl }, refl);
  reports = λ runs_out. absurd (let e = runs_out in cc);
  answers = last_is_answered;
}

-- The delete with a delay of half a minute.

abbrev pub delay_turn : Control
delay_turn = record {
  source = controller;
  cookie = codes "6";
  body = delay_body;
  too_long = false;
  pairs = Some delay_pairs;
  chosen = [];
  given = nothing_given;
  reply = reply_datagram config (codes "6") delay_body Done;
  act = act.Delayed last_call 30;
}

abbrev pub after_last : List BoardEntry
after_last = record { moment = 3607000; event = Turn last_turn } ∷ after_timeout

delay_is_answered : answered_in delay_turn ≡ answering_unless config after_last delay_turn (kept_reply after_last controller (codes "6") 3608000)
unfolding cache.kept
delay_is_answered = rw delay_is_asked refl

delay_is_framed : frame (codes "6" ++ 32 ∷ delay_body) ≡ Some (codes "6", delay_body)
unfolding delay_body
delay_is_framed = refl

delay_is_short : false ≡ nat_lt 16384 (length (codes "6" ++ 32 ∷ delay_body))
unfolding delay_body
delay_is_short = refl

pub delay_fits : FitsControl config after_last 3608000 delay_turn
delay_fits = record {
  framed = delay_is_framed;
  length_is = delay_is_short;
  reads = λ read. delay_is_read;
  hears = λ heard. absurd (let e : false ≡ true = heard in cc);
  gives = (record { no_opens = refl; no_draws = refl; none_failed = refl }, refl);
  reports = λ runs_out. absurd (let e = runs_out in cc);
  answers = delay_is_answered;
}

abbrev pub after_delay : List BoardEntry
after_delay = record { moment = 3608000; event = Turn delay_turn } ∷ after_last

-- a tick just before the due moment
abbrev pub after_early : List BoardEntry
after_early = record { moment = 3637999; event = Tick [] } ∷ after_delay
