-- From what follows a datagram to one control turn.
use Rattle.std.proofs.Common.{◌≡◌, ◌≤◌, ◌∙◌, refl, sym, ap, subst, ℕ, List, [], ◌∷◌, ◌++◌, Option, Some, None, Bool, true, false, take, drop, length, arith}
use Rattle.std.proofs.lemmas.List.{take_at}
use Rattle.std.specs.Prelude.{Result, Ok, Err, nat_lt}
use Rattle.ng_frame.specs.Frame.{frame, IsFrame}
use Rattle.relay_outside.specs.DeviceLogs.{Gains, Gained, HasCause, Rose, is_done}
use Rattle.relay_outside.specs.declared.address.Addr.{Addr}
use Rattle.relay_outside.specs.declared.answers.Failed.{Failed}
use Rattle.relay_outside.specs.declared.answers.Taken.{Taken}
use Rattle.relay_outside.specs.declared.answers.Taken.TheVariants as taken
use Rattle.relay_outside.specs.declared.keys.KeyCall.{KeyCall}
use Rattle.relay_outside.specs.declared.link.LinkGiven.{LinkGiven}
use Rattle.relay_outside.specs.declared.link.LinkGiven.TheVariants as given
use Rattle.relay_outside.specs.declared.link.LinkCall.{LinkCall}
use Rattle.relay_outside.specs.declared.link.LinkCall.TheVariants as call
use Rattle.relay_outside.specs.declared.ports.PortCall.{PortCall}
use Rattle.relay_outside.specs.declared.settings.Config.{Config}
use Rattle.relay_outside.specs.Link.{link_given}
use Rattle.relay_outside.proofs.Telling.{gained_none, gained_one, gained_both}
use Rattle.turn_table.specs.declared.hands.Hand.{Hand}
use Rattle.call_board.specs.Acts.{BoardEntry}
use Rattle.relay_core.specs.declared.part.Part.{Part}
use Rattle.relay_core.specs.Records.{Made}
use Rattle.relay_core.specs.Turns.{made_by}
use Rattle.board_turns.specs.Between.{board_of}
use Rattle.control_messages.specs.declared.request.Request.{Request}
use Rattle.board_turns.specs.Controls.{RequestRecord, control_of, moment_at}
use Rattle.ng_server.specs.declared.control_turn.ControlTurn.{ControlTurn}
use Rattle.ng_server.specs.declared.control_turn.ControlTurn.TheVariants as turn
use Rattle.ng_server.specs.Datagrams.{AnswersInTurn, IsRequest}
use Rattle.ng_server.specs.ControlTurns.{is_answered, turn_after, is_too_long, EndsAs, TakesDatagram, TakesNoDatagram, Exchanged, DidReply, DidFollow, DidTurn, Responded, Turned}

-- a datagram with a frame is a request
pub is_request : (datagram : List ℕ) (request : Request) → IsFrame datagram request.cookie.now request.body.now → frame datagram ≡ Some (request.cookie.now, request.body.now)
    → request.too_long ≡ is_too_long datagram → IsRequest request
is_request datagram request is framed length_is = record {
  cookie = record { some = is.some; short = is.short };
  framed = subst (λ (bytes : List ℕ). frame bytes ≡ Some (request.cookie.now, request.body.now)) is.bytes framed;
  length_is = length_is ∙ ap (λ (bytes : List ℕ). nat_lt 16384 (length bytes)) is.bytes;
}

after_is_answered : (answer : ControlTurn) (done : Bool) → answer ≡ turn_after done → is_answered answer ≡ true
after_is_answered answer true e = ap is_answered e
after_is_answered answer false e = ap is_answered e

exchanged_so : (config : Config) (h : List BoardEntry) (now : ℕ) (from : Addr) (request : Request) (too_long : Bool) (answer : ControlTurn) (x : RequestRecord) (done : Bool)
    → x.source ≡ request.source → x.cookie ≡ request.cookie.now → x.body ≡ request.body.now → x.too_long ≡ request.too_long
    → request.source ≡ from → request.too_long ≡ too_long → answer ≡ turn_after done
    → Exchanged config h now from (request.cookie.now, request.body.now) too_long answer x (call.Send request.source (control_of config h (moment_at h now) x).reply done ∷ [])
exchanged_so config h now from request too_long answer x done source cookie body long source_is length_is answer_is = record {
  source_is = source ∙ source_is;
  cookie_is = cookie;
  body_is = body;
  length_is = long ∙ length_is;
  done = done;
  answer_is = answer_is;
  sends_are = ap (λ (to : Addr). call.Send to (control_of config h (moment_at h now) x).reply done ∷ []) source_is;
}

ends_unanswered : (gave : LinkGiven) (answer : ControlTurn) → EndsAs gave answer → is_answered answer ≡ false
ends_unanswered (given.Datagram from datagram) answer ends = absurd ends
ends_unanswered given.Nothing answer ends = ap is_answered ends
ends_unanswered given.End answer ends = ap is_answered ends
ends_unanswered given.Failed answer ends = ap is_answered ends

ends_followed : (config : Config) (h : List BoardEntry) (now : ℕ) (gave : LinkGiven) (answer : ControlTurn) → EndsAs gave answer → DidFollow config h now gave answer None []
ends_followed config h now (given.Datagram from datagram) answer ends = absurd ends
ends_followed config h now given.Nothing answer ends = (ends, refl, refl)
ends_followed config h now given.End answer ends = (ends, refl, refl)
ends_followed config h now given.Failed answer ends = (ends, refl, refl)

module _ {M I O T : Type 0} {g : _} where
  pub responded : (config : Config) (old new : Hand M (Part I O) Made T g) (now : ℕ) (from : Addr) (datagram : List ℕ) (request : Request) (answer : ControlTurn)
      (sent : Result (Unit {0}) Failed) (ports ports_now keys keys_now : ℕ) (opened opened_now : Option (List PortCall)) (drew drew_now : Option (List KeyCall)) (before after : Option (List LinkCall))
      → frame datagram ≡ Some (request.cookie.now, request.body.now) → request.source ≡ from → request.too_long ≡ is_too_long datagram → answer ≡ turn_after (is_done sent)
      → AnswersInTurn config old new request now sent ports ports_now keys keys_now opened opened_now drew drew_now before after → Responded config old new now from datagram answer ports ports_now keys keys_now opened opened_now drew drew_now before after
  responded config old new now from datagram request answer sent ports ports_now keys keys_now opened opened_now drew drew_now before after framed source_is length_is answer_is a =
      let h = board_of (made_by old) in
      let x = a.hearing in
      let reply = (control_of config h (moment_at h now) x).reply in
      record {
        made = Some x;
        follows = (after_is_answered answer (is_done sent) answer_is, a.makes);
        given = a.given;
        calls = subst (λ (parts : Option (List ℕ × List ℕ)). Gained before after (DidReply config h now from parts (is_too_long datagram) answer (Some x))) (sym framed)
            (gained_one before after (call.Send request.source reply (is_done sent))
            (DidReply config h now from (Some (request.cookie.now, request.body.now)) (is_too_long datagram) answer (Some x)) a.sends
            (exchanged_so config h now from request (is_too_long datagram) answer x (is_done sent) a.is_heard.source_is a.is_heard.cookie_is a.is_heard.body_is a.is_heard.length_is
            source_is length_is answer_is));
      }

  pub silent : (config : Config) (hand : Hand M (Part I O) Made T g) (now : ℕ) (from : Addr) (datagram : List ℕ) (ports ports_now keys keys_now : ℕ) (opened : Option (List PortCall)) (drew : Option (List KeyCall))
      (before : Option (List LinkCall)) → frame datagram ≡ None → Responded config hand hand now from datagram turn.Silent ports ports_now keys keys_now opened opened drew drew before before
  silent config hand now from datagram ports ports_now keys keys_now opened drew before framed =
      let h = board_of (made_by hand) in
      record {
        made = None;
        follows = (refl, refl);
        given = (refl, refl);
        calls = subst (λ (parts : Option (List ℕ × List ℕ)). Gained before before (DidReply config h now from parts (is_too_long datagram) turn.Silent None)) (sym framed)
            (gained_none before (DidReply config h now from None (is_too_long datagram) turn.Silent None) (refl, refl, refl));
      }

  turned_alone : (config : Config) (hand : Hand M (Part I O) Made T g) (now : ℕ) (answer : ControlTurn) (ports ports_now keys keys_now : ℕ) (opened : Option (List PortCall)) (drew : Option (List KeyCall))
      (before after : Option (List LinkCall)) (gave : LinkGiven)
      → is_answered answer ≡ false → DidFollow config (board_of (made_by hand)) now gave answer None [] → Gains before after (call.Take 16385 gave)
      → Turned config hand hand now answer ports ports_now keys keys_now opened opened drew drew before after
  turned_alone config hand now answer ports ports_now keys keys_now opened drew before after gave none followed gains =
      let h = board_of (made_by hand) in
      record {
        made = None;
        follows = (none, refl);
        given = (refl, refl);
        calls = gained_one before after (call.Take 16385 gave) (DidTurn config h now answer None) gains
            (record { gave = gave; sends = []; calls_are = refl; followed = followed });
      }

  turned_by : (config : Config) (old new : Hand M (Part I O) Made T g) (now : ℕ) (answer : ControlTurn) (ports ports_now keys keys_now : ℕ) (opened opened_now : Option (List PortCall)) (drew drew_now : Option (List KeyCall))
      (before mid after : Option (List LinkCall)) (from : Addr) (datagram : List ℕ)
      → Gains before mid (call.Take 16385 (given.Datagram from datagram)) → Responded config old new now from datagram answer ports ports_now keys keys_now opened opened_now drew drew_now mid after
      → Turned config old new now answer ports ports_now keys keys_now opened opened_now drew drew_now before after
  turned_by config old new now answer ports ports_now keys keys_now opened opened_now drew drew_now before mid after from datagram gains did =
      let h = board_of (made_by old) in
      let it : LinkCall = call.Take 16385 (given.Datagram from datagram) in
      record {
        made = did.made;
        follows = did.follows;
        given = did.given;
        calls = gained_both before mid after (λ xs. xs ≡ it ∷ []) (DidReply config h now from (frame datagram) (is_too_long datagram) answer did.made)
            (DidTurn config h now answer did.made)
            (λ xs ys x y. record { gave = given.Datagram from datagram; sends = ys; calls_are = ap (λ (zs : List LinkCall). zs ++ ys) x; followed = y })
            (gained_one before mid it (λ xs. xs ≡ it ∷ []) gains refl) did.calls;
      }

  -- a datagram was taken, and what followed it, by bytes that are those of the room
  pub took_seen : (config : Config) (old new : Hand M (Part I O) Made T g) (now : ℕ) (answer : ControlTurn) (ports ports_now keys keys_now : ℕ) (opened opened_now : Option (List PortCall)) (drew drew_now : Option (List KeyCall))
      (before mid after : Option (List LinkCall)) (buf items seen : List ℕ) (n : ℕ) (from : Addr) (len : ℕ) → seen ≡ take n (buf ++ drop (length buf) items) → length buf ≡ n
      → TakesDatagram from (take len buf) before mid → Responded config old new now from (take len seen) answer ports ports_now keys keys_now opened opened_now drew drew_now mid after
      → Turned config old new now answer ports ports_now keys keys_now opened opened_now drew drew_now before after
  took_seen config old new now answer ports ports_now keys keys_now opened opened_now drew drew_now before mid after buf items seen n from len is long takes did =
      turned_by config old new now answer ports ports_now keys keys_now opened opened_now drew drew_now before mid after from (take len buf) takes
      (subst (λ (bytes : List ℕ). Responded config old new now from (take len bytes) answer ports ports_now keys keys_now opened opened_now drew drew_now mid after)
      (is ∙ take_at buf (drop (length buf) items) n long) did)

  -- no datagram was taken
  pub took_none : (config : Config) (hand : Hand M (Part I O) Made T g) (now : ℕ) (answer : ControlTurn) (ports ports_now keys keys_now : ℕ) (opened : Option (List PortCall)) (drew : Option (List KeyCall))
      (before after : Option (List LinkCall)) → TakesNoDatagram answer before after → Turned config hand hand now answer ports ports_now keys keys_now opened opened drew drew before after
  took_none config hand now answer ports ports_now keys keys_now opened drew before after takes =
      turned_alone config hand now answer ports ports_now keys keys_now opened drew before after takes.gave (ends_unanswered takes.gave answer takes.ends)
      (ends_followed config (board_of (made_by hand)) now takes.gave answer takes.ends) takes.gains

-- a take that gave a datagram, by its result
pub takes_datagram : (room : ℕ) (result : Result Taken Failed) (buf : List ℕ) (from : Addr) (len : ℕ) (before after : Option (List LinkCall)) → room ≡ 16385 → result ≡ Ok (taken.Datagram from len)
    → Gains before after (call.Take room (link_given result buf)) → TakesDatagram from (take len buf) before after
takes_datagram room result buf from len before after room_is e gains =
    subst (λ (r : Result Taken Failed). Gains before after (call.Take 16385 (link_given r buf))) e (subst (λ (n : ℕ). Gains before after (call.Take n (link_given result buf))) room_is gains)

-- a take that gave none
pub takes_none : (room : ℕ) (result without : Result Taken Failed) (buf : List ℕ) (answer : ControlTurn) (before after : Option (List LinkCall)) → room ≡ 16385 → result ≡ without
    → EndsAs (link_given without buf) answer → Gains before after (call.Take room (link_given result buf)) → TakesNoDatagram answer before after
takes_none room result without buf answer before after room_is e ends gains = record {
  gave = link_given without buf;
  ends = ends;
  gains = subst (λ (r : Result Taken Failed). Gains before after (call.Take 16385 (link_given r buf))) e (subst (λ (n : ℕ). Gains before after (call.Take n (link_given result buf))) room_is gains);
}

-- a take without a datagram ends no turn by the failed send of a reply
pub none_replies : {P : Type 0} (gave : LinkGiven) (answer : ControlTurn) → EndsAs gave answer → answer ≡ turn.ReplyFault → P
none_replies (given.Datagram from datagram) answer ends is = absurd ends
none_replies given.Nothing answer ends is = absurd cc
none_replies given.End answer ends is = absurd cc
none_replies given.Failed answer ends is = absurd cc

-- a turn whose reply was sent, or not, is none whose take failed
pub reply_reads : {P : Type 0} (done : Bool) (answer : ControlTurn) → answer ≡ turn_after done → answer ≡ turn.ReadFault → P
reply_reads true answer after is = absurd cc
reply_reads false answer after is = absurd cc

-- the send of a reply fails only where the count of faults rose
pub reply_rose : (before mid after : ℕ) (sent : Result (Unit {0}) Failed) (answer : ControlTurn) → before ≤ mid → HasCause mid after sent → answer ≡ turn_after (is_done sent)
    → answer ≡ turn.ReplyFault → Rose before after
reply_rose before mid after (Ok done) answer late cause ends is = absurd cc
reply_rose before mid after (Err failed) answer late cause ends is = let rose : Rose mid after = cause.failed in omega (arith, rose)
