-- That no turn of a list answers that memory ran out: of the parts of a list, and by what is printed.
use Rattle.std.proofs.Common.{◌≡◌, ◌∙◌, sym, ap, subst, refl, ℕ, ◌+◌, ◌⊎◌, inl, inr, List, [], ◌∷◌, ◌++◌, map, length, Bool, true, false}
use Rattle.histories.specs.Words.{In, here, there}
use Rattle.histories.proofs.Lists.{in_append, in_left, in_right, maps}
use Rattle.ng_reply.specs.declared.code.ErrorCode.TheVariants.{E17}
use Rattle.relay_outside.specs.declared.address.Addr.{Addr}
use Rattle.relay_outside.specs.declared.keys.KeyCall.{KeyCall}
use Rattle.relay_outside.specs.declared.lines.WriteCall.{WriteCall}
use Rattle.relay_outside.specs.declared.lines.WriteCall.TheVariants.{Write}
use Rattle.relay_outside.specs.declared.ports.PortCall.{PortCall}
use Rattle.relay_outside.specs.declared.settings.Config.{Config}
use Rattle.rtp_packet.specs.declared.head.Half.{Half}
use Rattle.port_pool.specs.Boxes.{Taken}
use Rattle.call_cell.specs.declared.outcome.Outcome.{Outcome}
use Rattle.call_cell.specs.Cells.{Receipt}
use Rattle.call_board.specs.Acts as act
use Rattle.call_board.specs.Acts.{Act, Call, Control, BoardEvent, BoardEntry, Turn, Tick, Stop}
use Rattle.call_board.specs.Answers.{Answered, answering_unless}
use Rattle.call_board.specs.KeptReplies.{kept_reply}
use Rattle.call_board.specs.Replies.{fault_datagram}
use Rattle.relay_core.specs.Entries.{Event, Board, Cell, Box, Entry, is_nested}
use Rattle.relay_core.specs.Legal.{Orderly}
use Rattle.relay_core.proofs.Turns.{nothing_is_orderly, turn_elsewhere}
use Rattle.media_lane.specs.Steps.{take_entry, recorded_relay}
use Rattle.board_turns.specs.Between.{board_of}
use Rattle.board_turns.specs.Controls.{RequestRecord, unanswered, with_answer, entry_at, moment_at}
use Rattle.relay_script.specs.Steps as step
use Rattle.relay_script.specs.Steps.{Step}
use Rattle.relay_script.specs.EventLines.{Printed, Reply, ReplyFault, ScriptFault, printed_line}
use Rattle.replay_devices.specs.declared.script.Ending.{Ending}
use Rattle.replay_steps.specs.Steps.{Course, Packet, TurnsBoard, TakesPacket, Misses, Replying, Controls, Makes, Plays, at_first, course_after}
use Rattle.replay_steps.specs.Output.{written, unwritten, Played, PlayedAnd, StopsAt, FailsAt, Demands, DidWrite}
use Rattle.replay_steps.specs.declared.ended.Ended.{Ended}
use Rattle.replay_steps.specs.declared.ended.Ended.TheVariants as ended
use Rattle.replay_laws.specs.Alike.{NeverOutOfMemory, HasLine, NoReplyIsE17}
use Rattle.replay_laws.specs.Faultless.{RunsOut}
use Rattle.replay_laws.proofs.Answering.{says_so}
use Rattle.replay_laws.proofs.Turned.{turn_event}
use Rattle.replay_laws.proofs.Gaining.{step_gained}

-- Parts of a list.

turn_once : (c d : Control) → Board (Turn c) ≡ Board (Turn d) → c ≡ d
turn_once c d e = cc

fed_none : NeverOutOfMemory []
fed_none e c i = elim i [ ]

pub fed_both : (l k : List Entry) → NeverOutOfMemory l → NeverOutOfMemory k → NeverOutOfMemory (l ++ k)
fed_both l k a b e c i event = elim (in_append l k i) [ inl j ↦ a e c j event | inr j ↦ b e c j event ]

-- an entry that is no turn of a datagram, or one that doesn't say so
fed_one : (e : Entry) → ((c : Control) → e.event ≡ Board (Turn c) → c.act ≡ act.OutOfMemory → ⊥) → NeverOutOfMemory (e ∷ [])
fed_one e fed f c (here q) event = fed c (ap (λ (x : Entry). x.event) (sym q) ∙ event)
fed_one e fed f c (there i) event = elim i [ ]

no_turn : (e : Entry) (v : Event) → e.event ≡ v → ((c : Control) → v ≡ Board (Turn c) → ⊥) → NeverOutOfMemory (e ∷ [])
no_turn e v is not = fed_one e (λ c event does. not c (sym is ∙ event))

-- A turn of the list answers so, or none does.

did_not : (e : Entry) (c : Control) → e.event ≡ Board (Turn c) → (a : Act) → c.act ≡ a → (a ≡ act.OutOfMemory → ⊥) → NeverOutOfMemory (e ∷ [])
did_not e c is a q not = fed_one e (λ d event does. not (sym q ∙ ap (λ (x : Control). x.act) (turn_once c d (sym is ∙ event)) ∙ does))

by_act : (e : Entry) (c : Control) → e.event ≡ Board (Turn c) → (a : Act) → c.act ≡ a → NeverOutOfMemory (e ∷ []) ⊎ RunsOut (e ∷ [])
by_act e c is act.OutOfMemory q = inr (record { entry = e; control = c; is_in = here refl; is_turn = is; ran_out = q })
by_act e c is act.Repeated q = inl (did_not e c is act.Repeated q (λ r. let k = r in cc))
by_act e c is (act.Failed code) q = inl (did_not e c is (act.Failed code) q (λ r. let k = r in cc))
by_act e c is (act.Undone code leases draws) q = inl (did_not e c is (act.Undone code leases draws) q (λ r. let k = r in cc))
by_act e c is (act.Offered o) q = inl (did_not e c is (act.Offered o) q (λ r. let k = r in cc))
by_act e c is (act.Answered a) q = inl (did_not e c is (act.Answered a) q (λ r. let k = r in cc))
by_act e c is (act.Deleted of) q = inl (did_not e c is (act.Deleted of) q (λ r. let k = r in cc))
by_act e c is (act.Queried of) q = inl (did_not e c is (act.Queried of) q (λ r. let k = r in cc))
by_act e c is act.Told q = inl (did_not e c is act.Told q (λ r. let k = r in cc))
by_act e c is (act.Delayed of s) q = inl (did_not e c is (act.Delayed of s) q (λ r. let k = r in cc))

by_event : (e : Entry) (v : Event) → e.event ≡ v → NeverOutOfMemory (e ∷ []) ⊎ RunsOut (e ∷ [])
by_event e (Board (Turn c)) is = by_act e c is c.act refl
by_event e (Board (Tick calls)) is = inl (no_turn e (Board (Tick calls)) is (λ c q. let k = q in cc))
by_event e (Board (Stop calls)) is = inl (no_turn e (Board (Stop calls)) is (λ c q. let k = q in cc))
by_event e (Cell v) is = inl (no_turn e (Cell v) is (λ c q. let k = q in cc))
by_event e (Box v) is = inl (no_turn e (Box v) is (λ c q. let k = q in cc))

pub runs_out_or_never : (l : List Entry) → NeverOutOfMemory l ⊎ RunsOut l
runs_out_or_never [] = inl fed_none
runs_out_or_never (e ∷ l) = first (by_event e e.event refl) (runs_out_or_never l)
  where
    first : NeverOutOfMemory (e ∷ []) ⊎ RunsOut (e ∷ []) → NeverOutOfMemory l ⊎ RunsOut l → NeverOutOfMemory (e ∷ l) ⊎ RunsOut (e ∷ l)
    first (inr now) rest = inr (record { entry = now.entry; control = now.control; is_in = in_left (e ∷ []) l now.is_in; is_turn = now.is_turn; ran_out = now.ran_out })
    first (inl never) (inr later) = inr (record { entry = later.entry; control = later.control; is_in = there later.is_in; is_turn = later.is_turn; ran_out = later.ran_out })
    first (inl never) (inl later) = inl (fed_both (e ∷ []) l never later)

-- By what is printed.

-- each reply is among the events, and none is E17
record ShowsFed (prints : List Printed) : Type 0 where
  none_says_so : (to : Addr) (cookie body : List ℕ) → In (Reply to (fault_datagram cookie body E17)) prints → ⊥
  each_is_shown : In ReplyFault prints → ⊥

front_shows : (xs ys : List Printed) → ShowsFed (xs ++ ys) → ShowsFed xs
front_shows xs ys s = record { none_says_so = λ to cookie body i. s.none_says_so to cookie body (in_left xs ys i); each_is_shown = λ i. s.each_is_shown (in_left xs ys i) }

back_shows : (xs ys : List Printed) → ShowsFed (xs ++ ys) → ShowsFed ys
back_shows xs ys s = record { none_says_so = λ to cookie body i. s.none_says_so to cookie body (in_right xs ys i); each_is_shown = λ i. s.each_is_shown (in_right xs ys i) }

one_fed : (l new : List Entry) (e : Entry) → new ≡ l ++ e ∷ [] → ((c : Control) → e.event ≡ Board (Turn c) → ⊥) → NeverOutOfMemory l → NeverOutOfMemory new
one_fed l new e is not fed = subst NeverOutOfMemory (sym is) (fed_both l (e ∷ []) fed (no_turn e e.event refl not))

same_fed : (l new : List Entry) → new ≡ l → NeverOutOfMemory l → NeverOutOfMemory new
same_fed l new is fed = subst NeverOutOfMemory (sym is) fed

not_nested : (v : Event) (c : Control) → is_nested v ≡ true → v ≡ Board (Turn c) → ⊥
not_nested v c nested is = let k : false ≡ true = sym (ap is_nested is) ∙ nested in cc

board_once : (c : Control) (v : BoardEvent) → Board v ≡ Board (Turn c) → v ≡ Turn c
board_once c v e = cc

turn_fed : (config : Config) (l new : List Entry) (e : BoardEntry) → Orderly config l → TurnsBoard config l e new → ((c : Control) → e.event ≡ Turn c → c.act ≡ act.OutOfMemory → ⊥)
    → NeverOutOfMemory l → NeverOutOfMemory new
turn_fed config l new e o t not fed =
    let last = turn_event config l e new t in
    let nested : NeverOutOfMemory t.nested =
    (λ (f : Entry) (c : Control) i event does. not_nested f.event c (turn_elsewhere config l t.nested t.last o t.turn f i).0 event) in
    subst NeverOutOfMemory (sym t.list_is)
    (fed_both (l ++ t.nested) (t.last ∷ []) (fed_both l t.nested fed nested) (fed_one t.last (λ c event does. not c (board_once c e.event (sym last.1 ∙ event)) does)))

tick_fed : (config : Config) (l new : List Entry) (e : BoardEntry) (calls : List Call) → Orderly config l → TurnsBoard config l e new → e.event ≡ Tick calls → NeverOutOfMemory l → NeverOutOfMemory new
tick_fed config l new e calls o t is fed = turn_fed config l new e o t (λ c event does. let k : Tick calls ≡ Turn c = sym is ∙ event in cc) fed

take_fed : (config : Config) (l new : List Entry) (pair : ℕ) (half : Half) (number : ℕ) (taken : Taken) → new ≡ l ++ take_entry config pair half number taken ∷ [] → NeverOutOfMemory l → NeverOutOfMemory new
take_fed config l new pair half number taken is fed = one_fed l new (take_entry config pair half number taken) is (λ c q. let k = q in cc) fed

none_fed : (config : Config) (l : List Entry) (port : ℕ) (source : Addr) (bytes : List ℕ) (failing : Bool) (e : Printed) (new : List Entry) → Misses config l port source bytes failing e new
    → NeverOutOfMemory l → NeverOutOfMemory new
none_fed config l port source bytes failing e new (inl none) fed = same_fed l new none.2 fed
none_fed config l port source bytes failing e new (inr t) fed = take_fed config l new t.end.0 t.end.1 t.number t.taken t.list_is fed

packet_fed : (config : Config) (l : List Entry) (port : ℕ) (source : Addr) (bytes : List ℕ) (p : Packet) (new : List Entry) → TakesPacket config l port source bytes p new → NeverOutOfMemory l → NeverOutOfMemory new
packet_fed config l port source bytes p new t fed = take_fed config l new _ _ _ _ t.list_is fed

relay_fed : (l new : List Entry) (p : Receipt) (number moment : ℕ) (outcome : Outcome) → new ≡ l ++ recorded_relay p number moment outcome ∷ [] → NeverOutOfMemory l → NeverOutOfMemory new
relay_fed l new p number moment outcome is fed = one_fed l new (recorded_relay p number moment outcome) is (λ c q. let k = q in cc) fed

-- a reply that says so is printed, or its send fails
not_replied : (failing : Bool) (source : Addr) (reply cookie body : List ℕ) (e : Printed) (p : List Printed) → p ≡ e ∷ [] → ShowsFed p → Replying failing source reply e
    → reply ≡ fault_datagram cookie body E17 → ⊥
not_replied true source reply cookie body e p is s replies says = s.each_is_shown (subst (λ (xs : List Printed). In ReplyFault xs) (sym is) (here (sym replies)))
not_replied false source reply cookie body e p is s replies says =
    s.none_says_so source cookie body
    (subst (λ (xs : List Printed). In (Reply source (fault_datagram cookie body E17)) xs) (sym is) (here (ap (Reply source) (sym says) ∙ sym replies)))

answered_once : (c d : Control) → Turn c ≡ Turn d → c ≡ d
answered_once c d e = cc

control_fed : (config : Config) (clock : ℕ) (l : List Entry) (source : Addr) (bytes : List ℕ) (read_fails reply_fails : Bool) (opened : List PortCall) (drawn : List KeyCall) (e : Printed) (p : List Printed) (new : List Entry)
    → Orderly config l → p ≡ e ∷ [] → ShowsFed p → Controls config clock l source bytes read_fails reply_fails opened drawn e new → NeverOutOfMemory l → NeverOutOfMemory new
control_fed config clock l source bytes true reply_fails opened drawn e p new o is s c fed = same_fed l new c.1.2 fed
control_fed config clock l source bytes false reply_fails opened drawn e p new o is s (inl c) fed = same_fed l new c.2.2 fed
control_fed config clock l source bytes false reply_fails opened drawn e p new o is s (inr a) fed =
    let h : List BoardEntry = board_of l in
    let x : RequestRecord = a.heard in
    let due : Answered = answering_unless config h (unanswered x) (kept_reply h x.source x.cookie (moment_at h clock)) in
    turn_fed config l new (entry_at config h (moment_at h clock) x) o a.turns
    (λ c event does.
    let same = answered_once (with_answer x due) c event in
    not_replied reply_fails source due.bytes x.cookie x.body e p is s a.replies
    (says_so config h (unanswered x) (kept_reply h x.source x.cookie (moment_at h clock)) (ap (λ (d : Control). d.act) same ∙ does)))
    fed

course_fed : (x y : Course) → x ≡ y → NeverOutOfMemory y.entries → NeverOutOfMemory x.entries
course_fed x y is fed = subst (λ (c : Course). NeverOutOfMemory c.entries) (sym is) fed

step_fed : (config : Config) (seed : ℕ) (r : Course) (s : Step) (p : List Printed) (x : Course) → Orderly config r.entries → ShowsFed p → Makes config seed r s p x → NeverOutOfMemory r.entries → NeverOutOfMemory x.entries
step_fed config seed r step.Skip p x o s m fed = course_fed x r m.1 fed
step_fed config seed r (step.At moment) p x o s m fed = course_fed x _ m.1 fed
step_fed config seed r (step.Key bytes) p x o s m fed = course_fed x r m.1 fed
step_fed config seed r (step.Fail kind count) p x o s m fed = course_fed x r m.1 fed
step_fed config seed r (step.FailSend port count) p x o s m fed = course_fed x r m.1 fed
step_fed config seed r (step.Ng source bytes) p x o s m fed =
    let a = m.holds in
    course_fed x _ a.new_is (control_fed config r.clock r.entries source bytes _ _ a.opened a.drawn m.event p a.entries o m.prints_are s a.controls fed)
step_fed config seed r (step.Take port source bytes) p x o s m fed = elim m.1.holds [
  | inl a ↦ course_fed x _ a.new_is (packet_fed config r.entries port source bytes a.packet a.entries a.takes fed)
  | inr a ↦ course_fed x _ a.new_is (none_fed config r.entries port source bytes _ m.1.event a.entries a.misses fed)
]
step_fed config seed r (step.Relay number) p x o s m fed =
    let a = m.holds in
    course_fed x _ a.new_is (relay_fed r.entries a.entries a.packet.1 _ _ a.relays.outcome a.relays.relayed.list_is fed)
step_fed config seed r (step.Packet port source bytes) p x o s m fed = elim m.holds [
  | inl a ↦
      course_fed x _ a.new_is
      (relay_fed a.between a.entries a.packet.1 _ _ a.relays.outcome a.relays.relayed.list_is (packet_fed config r.entries port source bytes a.packet a.between a.takes fed))
  | inr a ↦ course_fed x _ a.new_is (none_fed config r.entries port source bytes _ m.event a.entries a.misses fed)
]
step_fed config seed r step.Tick p x o s m fed =
    let a = m.holds in
    course_fed x _ a.new_is (tick_fed config r.entries a.entries _ a.ticks.calls o a.ticks.turns refl fed)

play_fed : (config : Config) (seed : ℕ) (steps : List Step) (r : Course) (p : List Printed) (x : Course) → Orderly config r.entries → ShowsFed p → Plays config seed steps r p x
    → NeverOutOfMemory r.entries → Orderly config x.entries × NeverOutOfMemory x.entries
play_fed config seed [] r p x o s plays fed = (subst (λ (c : Course). Orderly config c.entries) (sym plays.1) o, course_fed x r plays.1 fed)
play_fed config seed (it ∷ steps) r p x o s plays fed =
    let shown : ShowsFed (plays.1 ++ plays.2) = subst ShowsFed plays.3 s in
    play_fed config seed steps (course_after it plays.0) plays.2 x (step_gained config seed r it plays.1 plays.0 o plays.4).orderly (back_shows plays.1 plays.2 shown) plays.5
    (step_fed config seed r it plays.1 plays.0 o (front_shows plays.1 plays.2 shown) plays.4 fed)

-- By a text.

shows_by : (prints : List Printed) (writes : List WriteCall) → ((e : Printed) → In e prints → HasLine e writes) → NoReplyIsE17 writes → ShowsFed prints
shows_by prints writes lines none = record {
  none_says_so = λ to cookie body i. none.none_says_so to cookie body (lines (Reply to (fault_datagram cookie body E17)) i);
  each_is_shown = λ i. none.each_is_shown (lines ReplyFault i);
}

played_shows : (prints : List Printed) (more writes : List WriteCall) → writes ≡ map written prints ++ more → NoReplyIsE17 writes → ShowsFed prints
played_shows prints more writes is none =
    shows_by prints writes (λ e i. (true, subst (λ (l : List WriteCall). In (written e) l) (sym is) (in_left (map written prints) more (maps written prints i)))) none

has_front : (e : Printed) (xs ys zs : List WriteCall) → zs ≡ xs ++ ys → HasLine e xs → HasLine e zs
has_front e xs ys zs is line = (line.0, subst (λ (l : List WriteCall). In (Write (printed_line e ++ 10 ∷ []) line.0) l) (sym is) (in_left xs ys line.1))

-- what was written but for its last line
front_none : (xs ys zs : List WriteCall) → zs ≡ xs ++ ys → NoReplyIsE17 zs → NoReplyIsE17 xs
front_none xs ys zs is none = record {
  none_says_so = λ to cookie body line. none.none_says_so to cookie body (has_front (Reply to (fault_datagram cookie body E17)) xs ys zs is line);
  each_is_shown = λ line. none.each_is_shown (has_front ReplyFault xs ys zs is line);
}

played_fed : (config : Config) (seed : ℕ) (steps : List Step) (l : List Entry) (v : List WriteCall) → NoReplyIsE17 v → Played config seed steps l v → NeverOutOfMemory l
played_fed config seed steps l v none a =
    subst NeverOutOfMemory a.entries_are
    (play_fed config seed steps at_first a.prints a.course (nothing_is_orderly config) (shows_by a.prints v (λ e i. (true, subst (λ (l : List WriteCall). In (written e) l) (sym a.writes_are) (maps written a.prints i))) none) a.plays
    fed_none).1

stops_fed : (config : Config) (seed : ℕ) (steps : List Step) (l : List Entry) (v : List WriteCall) → NoReplyIsE17 v → StopsAt config seed steps l v → NeverOutOfMemory l
stops_fed config seed steps l v none a =
    let all : List Printed = a.prints ++ ScriptFault (length a.before + 1) ∷ [] in
    subst NeverOutOfMemory a.entries_are
    (play_fed config seed a.before at_first a.prints a.course (nothing_is_orderly config)
    (front_shows a.prints (ScriptFault (length a.before + 1) ∷ []) (shows_by all v (λ e i. (true, subst (λ (l : List WriteCall). In (written e) l) (sym a.writes_are) (maps written all i))) none)) a.plays fed_none).1

last_shows : (prints : List Printed) (event : Printed) (v : List WriteCall) → v ≡ map written prints ++ unwritten event ∷ [] → NoReplyIsE17 v → ShowsFed (event ∷ [])
last_shows prints event v is none = shows_by (event ∷ []) v lines none
  where
    lines : (e : Printed) → In e (event ∷ []) → HasLine e v
    lines e (here q) = (false, subst (λ (l : List WriteCall). In (unwritten e) l) (sym is) (in_right (map written prints) (unwritten event ∷ []) (here (ap unwritten q))))
    lines e (there i) = elim i [ ]

fails_fed : (config : Config) (seed : ℕ) (steps : List Step) (l : List Entry) (v : List WriteCall) → NoReplyIsE17 v → FailsAt config seed steps l v → NeverOutOfMemory l
fails_fed config seed steps l v none a = subst NeverOutOfMemory a.entries_are (by_case a.demands)
  where
    there_fed : Orderly config a.course.entries × NeverOutOfMemory a.course.entries
    there_fed = play_fed config seed a.before at_first a.prints a.course (nothing_is_orderly config) (played_shows a.prints (unwritten a.event ∷ []) v a.writes_are none) a.plays fed_none

    by_case : Demands config seed a.course a.step (length a.before + 1) a.event a.last → NeverOutOfMemory a.last.entries
    by_case (inl makes) = step_fed config seed a.course a.step (a.event ∷ []) a.last there_fed.0 (last_shows a.prints a.event v a.writes_are none) makes there_fed.1
    by_case (inr faulty) = course_fed a.last a.course faulty.2 there_fed.1

and_fed : (config : Config) (seed : ℕ) (steps : List Step) (l : List Entry) (more v : List WriteCall) → NoReplyIsE17 v → PlayedAnd config seed steps l more v → NeverOutOfMemory l
and_fed config seed steps l more v none a = played_fed config seed steps l a.front (front_none a.front more v a.writes_are none) a.played

-- a replay that ended so has a list
abbrev pub HasList : Ended → Type 0
HasList ended.Finished = Unit {0}
HasList ended.ScriptRead = Unit {0}
HasList ended.ScriptFault = Unit {0}
HasList ended.PrintFault = Unit {0}
HasList ended.OutOfMemory = ⊥
HasList ended.DeviceFault = ⊥

pub did_fed : (config : Config) (seed : ℕ) (steps : List Step) (how : Ending) (end : Ended) (l : List Entry) (v : List WriteCall) → HasList end → NoReplyIsE17 v
    → DidWrite config seed steps how end l v → NeverOutOfMemory l
did_fed config seed steps how ended.Finished l v has none did = played_fed config seed steps l v none did.1
did_fed config seed steps how ended.ScriptRead l v has none did = played_fed config seed steps l v none did.1
did_fed config seed steps how ended.ScriptFault l v has none did = elim did [
  | inl stops ↦ stops_fed config seed steps l v none stops
  | inr all ↦ and_fed config seed steps l _ v none all.1
]
did_fed config seed steps how ended.PrintFault l v has none did = elim did [
  | inl fails ↦ fails_fed config seed steps l v none fails
  | inr all ↦ and_fed config seed steps l _ v none all.1
]
did_fed config seed steps how ended.OutOfMemory l v has none did = absurd has
did_fed config seed steps how ended.DeviceFault l v has none did = absurd has
