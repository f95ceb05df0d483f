-- Worked turns of other commands and of errors, whole.
use Rattle.std.proofs.Common.{◌≡◌, ℕ, List, [], ◌∷◌, ◌++◌, map, true, false, Some, None, Ok, Err, codes, refl, arith}
use Rattle.relay_outside.specs.declared.address.Ip.TheVariants as ips
use Rattle.ng_bencode.specs.Tree.{Bytes, Entries, no_entries, entry}
use Rattle.ng_command.specs.Meanings.{Offer, Query, Listing}
use Rattle.ng_command.specs.Bodies.{said_or_fault as command_told}
use Rattle.ng_command.specs.declared.fault.KeyName.TheVariants.{CallId}
use Rattle.ng_reply.specs.declared.code.ErrorCode.TheVariants.{E1, E3, E4, E6, E7, E8, E9, E10, E11, E12, E13, E14, E15, E18}
use Rattle.ng_reply.specs.declared.code.SdpPart.TheVariants as part
use Rattle.offer_answer.specs.Plan.{tag, protocol}
use Rattle.call_board.specs.Acts as act
use Rattle.call_board.specs.Acts.{Act, Control, BoardEntry}
use Rattle.call_board.specs.Requests.{asked}
use Rattle.call_board.specs.Reports.{report_tree, listing_tree}
use Rattle.call_board.specs.Fits.{FitsControl, is_read, is_request_read, asks_after}
use Rattle.call_board.proofs.rows.Histories.{config, from_port, given, options, c1, c2, begins}
use Rattle.call_board.proofs.rows.Turns.{turns, at, ping, ping_fits, offered, offered_fits}

replies : Unit {0}
unfolding turns tag protocol report_tree listing_tree
replies = tt

-- a datagram whose turn opens and draws nothing
abbrev plain : (cookie body : List ℕ) → Entries → (reply : List ℕ) → Act → Control
plain cookie body pairs reply does = record {
  source = from_port 2223;
  cookie = cookie;
  body = body;
  too_long = false;
  pairs = Some pairs;
  chosen = [];
  given = given;
  reply = reply;
  act = does;
}

abbrev pair : List ℕ → List ℕ → Entries → Entries
pair key text rest = entry key (Bytes text) rest

-- the call of the worked offer, from moment 0 on
abbrev one_call : List BoardEntry
one_call = at 0 offered ∷ []

unrecognized : FitsControl config [] 0 (plain (codes "1") (codes "d7:command3:fooe") (pair (codes "command") (codes "foo") no_entries)
    (codes "1 d12:error-reason20:unrecognized command6:result5:errore") (act.Failed E3))
unfolding replies
unrecognized = record {
  framed = refl;
  length_is = refl;
  reads = λ read. record { ints = (tt, tt); deep = omega arith; spelled = refl };
  hears = λ heard. absurd (let e : false ≡ true = heard in cc);
  gives = (record { no_opens = refl; no_draws = refl; none_failed = refl }, refl);
  reports = λ runs_out. absurd (let e = runs_out in cc);
  answers = refl;
}

call_id_is_missing : FitsControl config [] 0 (plain (codes "x") (codes "d7:command5:offere") (pair (codes "command") (codes "offer") no_entries)
    (codes "x d12:error-reason29:missing or wrong key: call-id6:result5:errore") (act.Failed (E4 CallId)))
unfolding replies
call_id_is_missing = record {
  framed = refl;
  length_is = refl;
  reads = λ read. record { ints = (tt, tt); deep = omega arith; spelled = refl };
  hears = λ heard. absurd (let e : false ≡ true = heard in cc);
  gives = (record { no_opens = refl; no_draws = refl; none_failed = refl }, refl);
  reports = λ runs_out. absurd (let e = runs_out in cc);
  answers = refl;
}

-- A list and a query.

list_is_read : command_told (pair (codes "command") (codes "list") no_entries) ≡ Ok (Listing 32)
list_is_read = refl

listed : FitsControl config one_call 0 (plain (codes "3") (codes "d7:command4:liste") (pair (codes "command") (codes "list") no_entries)
    (codes "3 d5:callsl2:c1e6:result2:oke") act.Told)
unfolding replies
listed = record {
  framed = refl;
  length_is = refl;
  reads = λ read. record { ints = (tt, tt); deep = omega arith; spelled = refl };
  hears = λ heard. absurd (let e : false ≡ true = heard in cc);
  gives = (record { no_opens = refl; no_draws = refl; none_failed = refl }, refl);
  reports = λ runs_out. absurd (let e = runs_out in cc);
  answers = refl;
}

abbrev query : Control
query = record (plain (codes "4") (codes "d7:call-id2:c17:command5:querye") (pair (codes "call-id") (codes "c1") (pair (codes "command") (codes "query") no_entries))
    (codes "4 d7:createdi0e11:last signali0e6:result2:ok4:tagsd1:ad6:mediasleeee") (act.Queried c1)) { given = record given { report = Some [] } }

query_is_read : command_told (pair (codes "call-id") (codes "c1") (pair (codes "command") (codes "query") no_entries)) ≡ Ok (Query (codes "c1"))
query_is_read = refl

queried : FitsControl config one_call 0 query
unfolding replies
queried = record {
  framed = refl;
  length_is = refl;
  reads = λ read. record { ints = (tt, (tt, tt)); deep = omega arith; spelled = refl };
  hears = λ heard. absurd (let e : false ≡ true = heard in cc);
  gives = (record { no_opens = refl; no_draws = refl; none_failed = refl }, refl);
  reports = λ runs_out. absurd (let e = runs_out in cc);
  answers = refl;
}

-- a query of a call that is not live reads none
query_of_none : FitsControl config [] 0 (plain (codes "4") (codes "d7:call-id2:c17:command5:querye") (pair (codes "call-id") (codes "c1") (pair (codes "command") (codes "query") no_entries))
    (codes "4 d12:error-reason15:unknown call-id6:result5:errore") (act.Failed E9))
unfolding replies
query_of_none = record {
  framed = refl;
  length_is = refl;
  reads = λ read. record { ints = (tt, (tt, tt)); deep = omega arith; spelled = refl };
  hears = λ heard. absurd (let e : false ≡ true = heard in cc);
  gives = (record { no_opens = refl; no_draws = refl; none_failed = refl }, refl);
  reports = λ runs_out. absurd (let e = runs_out in cc);
  answers = refl;
}

-- a query that runs out of memory may have read its call, and no other

reads_its_call : asks_after one_call (Ok (Query (codes "c1"))) ≡ true
unfolding replies
reads_its_call = refl

reads_no_stranger : asks_after [] (Ok (Query (codes "c1"))) ≡ false
reads_no_stranger = refl

abbrev out_of_memory_query : Control
out_of_memory_query = record query {
  given = record given { out_of_memory = true; report = Some [] };
  reply = codes "4 d12:error-reason13:out of memory6:result5:errore";
  act = act.OutOfMemory;
}

out_of_memory_query_reads : FitsControl config one_call 0 out_of_memory_query
unfolding replies
out_of_memory_query_reads = record {
  framed = refl;
  length_is = refl;
  reads = λ read. record { ints = (tt, (tt, tt)); deep = omega arith; spelled = refl };
  hears = λ heard. absurd (let e : false ≡ true = heard in cc);
  gives = record { no_opens = refl; no_draws = refl; none_failed = refl };
  reports = λ runs_out strange. absurd (let e : true ≡ false = strange in cc);
  answers = refl;
}

out_of_memory_query_of_none : FitsControl config [] 0 out_of_memory_query → ⊥
unfolding replies
out_of_memory_query_of_none fits = let e = fits.reports refl refl in cc

-- a delete of an unknown call-id warns and changes nothing
unknown_is_warned : FitsControl config one_call 0 (plain (codes "9") (codes "d7:call-id1:z7:command6:deletee") (pair (codes "call-id") (codes "z") (pair (codes "command") (codes "delete") no_entries))
    (codes "9 d6:result2:ok7:warning15:unknown call-ide") act.Told)
unfolding replies
unknown_is_warned = record {
  framed = refl;
  length_is = refl;
  reads = λ read. record { ints = (tt, (tt, tt)); deep = omega arith; spelled = refl };
  hears = λ heard. absurd (let e : false ≡ true = heard in cc);
  gives = (record { no_opens = refl; no_draws = refl; none_failed = refl }, refl);
  reports = λ runs_out. absurd (let e = runs_out in cc);
  answers = refl;
}

-- Want of sessions and of pairs, for the worked offer.

abbrev failing : List ℕ → Act → Control
failing reply does = record offered { given = given; reply = reply; act = does }

no_session : FitsControl (record config { max_sessions = 1 }) (begins c2 [] ∷ []) 0 (record (failing (codes "7_p d12:error-reason21:session limit reached6:result5:errore") (act.Failed E14)) { cookie = codes "7_p" })
unfolding replies
no_session = record {
  framed = refl;
  length_is = refl;
  reads = λ read. offered_fits.reads refl;
  hears = λ heard. offered_fits.hears refl;
  gives = (record { no_opens = refl; no_draws = refl; none_failed = refl }, refl);
  reports = λ runs_out. absurd (let e = runs_out in cc);
  answers = refl;
}

-- a range of one pair
no_pair : FitsControl (record config { port_max = 30001 }) [] 0 (failing (codes "7_o d12:error-reason17:no free port pair6:result5:errore") (act.Failed E13))
unfolding replies
no_pair = record {
  framed = refl;
  length_is = refl;
  reads = λ read. offered_fits.reads refl;
  hears = λ heard. offered_fits.hears refl;
  gives = (record { no_opens = refl; no_draws = refl; none_failed = refl }, refl);
  reports = λ runs_out. absurd (let e = runs_out in cc);
  answers = refl;
}

-- What comes first of a datagram's bytes.

too_long_first : asked config true None ≡ Err E18
unfolding asked
too_long_first = refl

no_dictionary : asked config false None ≡ Err E1
unfolding asked
no_dictionary = refl

-- a description that is none, of a command whose keys are right
abbrev describes : List ℕ → Entries
describes sdp = pair (codes "call-id") (codes "c1") (pair (codes "command") (codes "offer") (pair (codes "from-tag") (codes "a") (pair (codes "sdp") sdp no_entries)))

no_description : asked config false (Some (describes (codes "foo"))) ≡ Err (E6 1)
unfolding replies
no_description = refl

-- a wrong key comes first
key_first : asked config false (Some (pair (codes "command") (codes "offer") (pair (codes "from-tag") (codes "a") (pair (codes "sdp") (codes "foo") no_entries)))) ≡ Err (E4 CallId)
unfolding replies
key_first = refl

-- An address of version 6 is an error where the proxy has none to relay at.

abbrev by_version_6 : List ℕ
by_version_6 = codes "v=0\r\nc=IN IP6 2001:db8::1\r\nm=audio 6000 RTP/AVP 0\r\n"

version_6_alone : asked config false (Some (describes by_version_6)) ≡ Err (E7 (part.Line 2))
unfolding replies
version_6_alone = refl

version_6_too : asked (record config { interface6 = Some (ips.V6 (1 ∷ [])) }) false (Some (describes by_version_6)) ≡ Ok (Offer (codes "c1") (codes "a") by_version_6 options)
unfolding replies
version_6_too = refl

-- a faulty line comes first, wherever it stands

fault_before_version_6 : asked config false (Some (describes (by_version_6 ++ codes "foo"))) ≡ Err (E6 4)
unfolding replies
fault_before_version_6 = refl

version_6_refused : FitsControl config [] 0 (plain (codes "6") (codes "d7:call-id2:c17:command5:offer8:from-tag1:a3:sdp51:" ++ by_version_6 ++ codes "e") (describes by_version_6)
    (codes "6 d12:error-reason23:unsupported SDP: line 26:result5:errore") (act.Failed (E7 (part.Line 2))))
unfolding replies
version_6_refused = record {
  framed = refl;
  length_is = refl;
  reads = λ read. record { ints = (tt, (tt, (tt, (tt, tt)))); deep = omega arith; spelled = refl };
  hears = λ heard. absurd (let e : false ≡ true = heard in cc);
  gives = (record { no_opens = refl; no_draws = refl; none_failed = refl }, refl);
  reports = λ runs_out. absurd (let e = runs_out in cc);
  answers = refl;
}

-- What is read of a datagram, and when lines are chosen.

long_is_unread : is_read (record ping { too_long = true; act = act.Failed E18 }) ≡ false
long_is_unread = refl

out_of_memory_is_unread : is_read (record ping { given = record given { out_of_memory = true }; act = act.OutOfMemory }) ≡ false
out_of_memory_is_unread = refl

others_are_read : is_read ping ≡ true
others_are_read = refl

heard_acts : map is_request_read (act.Failed E8 ∷ act.Failed E13 ∷ act.Failed E14 ∷ act.Undone E15 [] [] ∷ []) ≡ true ∷ true ∷ true ∷ true ∷ []
heard_acts = refl

unheard_acts : map is_request_read (act.Failed E9 ∷ act.Failed E10 ∷ act.Failed E11 ∷ act.Failed E12 ∷ act.Told ∷ act.OutOfMemory ∷ act.Repeated ∷ []) ≡ false ∷ false ∷ false ∷ false ∷ false ∷ false ∷ false ∷ []
unheard_acts = refl

-- What no turn is.

not_too_long : FitsControl config [] 0 (record ping { too_long = true }) → ⊥
not_too_long fits = let e = fits.length_is in cc

without_a_cookie : FitsControl config [] 0 (record ping { cookie = [] }) → ⊥
without_a_cookie fits = let e = fits.framed in cc

misread : FitsControl config [] 0 (record ping { pairs = None }) → ⊥
misread fits = fits.reads refl (entry (codes "command") (Bytes (codes "ping")) no_entries) (ping_fits.reads refl)
