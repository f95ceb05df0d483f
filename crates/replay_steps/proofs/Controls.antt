-- What a control turn did, by what its link tells of it.
use Rattle.std.proofs.Common.{◌≡◌, ◌∙◌, refl, sym, ap, subst, ℕ, Bool, true, false, List, [], ◌∷◌, ◌++◌, Option, Some, None, Result, Ok, Err, inl, inr, filter_map}
use Rattle.std.specs.List.{last_or}
use Rattle.std.proofs.lemmas.List.Elements.{filter_map-append}
use Rattle.ng_frame.specs.Frame.{frame}
use Rattle.relay_outside.specs.DeviceLogs.{Gained}
use Rattle.relay_outside.specs.declared.address.Addr.{Addr}
use Rattle.relay_outside.specs.declared.keys.KeyCall.{KeyCall}
use Rattle.relay_outside.specs.declared.link.LinkCall.{LinkCall}
use Rattle.relay_outside.specs.declared.link.LinkCall.TheVariants as call
use Rattle.relay_outside.specs.declared.link.LinkGiven.{LinkGiven}
use Rattle.relay_outside.specs.declared.link.LinkGiven.TheVariants as given
use Rattle.relay_outside.specs.declared.ports.PortCall.{PortCall}
use Rattle.relay_outside.specs.declared.settings.Config.{Config}
use Rattle.relay_outside.specs.Link.{datagram_of, sent_of}
use Rattle.relay_outside.proofs.Telling.{gained_none, gained_less}
use Rattle.media_ports.specs.Openings.{OpensAt}
use Rattle.turn_table.specs.declared.machine.Entry as table
use Rattle.turn_table.specs.declared.hands.Hand.{Hand}
use Rattle.turn_table.specs.Hands.{entries}
use Rattle.call_board.specs.Acts.{BoardEntry}
use Rattle.relay_core.specs.declared.part.Part.{Part}
use Rattle.relay_core.specs.Records.{Made, entry_of, list_of}
use Rattle.relay_core.specs.Turns.{made_by}
use Rattle.relay_core.proofs.Recording.{turn_list}
use Rattle.board_turns.specs.Between.{board_of, MakesTurn}
use Rattle.board_turns.specs.Controls.{RequestRecord, control_of, entry_at, moment_at, entry_pairs}
use Rattle.ng_server.specs.declared.control_turn.ControlTurn.{ControlTurn}
use Rattle.ng_server.specs.declared.control_turn.ControlTurn.TheVariants as turn
use Rattle.board_turns.specs.DeviceAnswers.{draws_of}
use Rattle.ng_server.specs.ControlTurns.{is_answered, is_too_long, turn_after, FollowsTake, Exchanged, DidReply, DidFollow, DidTurn, GaveFor, Turned}
use Rattle.relay_script.specs.declared.event.Printed as coded
use Rattle.relay_script.specs.EventLines as event
use Rattle.relay_script.specs.EventLines.{Printed, event_of}
use Rattle.replay_devices.proofs.Lists.{last_or-append}
use Rattle.replay_steps.specs.declared.ended.Untold.{Untold}
use Rattle.replay_steps.specs.Steps.{TurnsBoard, filled, Replying, Answers, IsIdle, Controls}
use Rattle.replay_steps.specs.ControlSteps.{IsReply, TellsTaken, IsOfTurn, TellsTurn, TellsEvent, Controlled}

-- The last call of a kind in a longer list.

last_of : {A : Type 0} (f : LinkCall → Option A) (xs ys : List LinkCall) → last_or None (filter_map f (xs ++ ys)) ≡ last_or (last_or None (filter_map f xs)) (filter_map f ys)
last_of f xs ys = ap (last_or None) (filter_map-append f xs ys) ∙ last_or-append None (filter_map f xs) (filter_map f ys)

-- the last item is given back
pub same_some : {A : Type 0} (x y : A) → Some x ≡ Some y → x ≡ y
same_some x y p = cc

pub same_ok : {A B : Type 0} (r : Result A B) (x y : A) → r ≡ Ok x → r ≡ Ok y → x ≡ y
same_ok r x y p q = let k = sym p ∙ q in cc

module _ (config : Config) (now : ℕ) (source : Addr) (bytes : List ℕ) where
  -- no frame
  silent : (h : List BoardEntry) (from : Addr) (datagram : List ℕ) (made : Option RequestRecord) (calls sends : List LinkCall)
      → TellsTaken (Some (calls ++ call.Take 16385 (given.Datagram from datagram) ∷ sends)) source bytes
      → (f : Option (List ℕ × List ℕ)) → frame datagram ≡ f → DidReply config h now from f (is_too_long datagram) turn.Silent made sends → frame (filled bytes) ≡ None
  silent h from datagram made calls sends tells None is did =
      let at : Some (from, datagram) ≡ Some (source, filled bytes) =
      sym (ap (λ (s : List LinkCall). last_or None (filter_map datagram_of (calls ++ call.Take 16385 (given.Datagram from datagram) ∷ s))) did.2
      ∙ last_of datagram_of calls (call.Take 16385 (given.Datagram from datagram) ∷ [])) ∙ tells in
      ap (λ (d : Addr × List ℕ). frame d.1) (sym (same_some (from, datagram) (source, filled bytes) at)) ∙ is
  silent h from datagram None calls sends tells (Some parts) is did = absurd did
  silent h from datagram (Some x) calls sends tells (Some parts) is did = absurd (not_silent did.done did.answer_is)
    where
      not_silent : (done : Bool) → turn.Silent ≡ turn_after done → ⊥
      not_silent true p = absurd (let k : turn.Silent ≡ turn.Replied = p in cc)
      not_silent false p = absurd (let k : turn.Silent ≡ turn.ReplyFault = p in cc)

  -- a datagram that got no answer
  silent_taken : (h : List BoardEntry) (calls sends : List LinkCall) (made : Option RequestRecord) (gave : LinkGiven)
      → TellsTaken (Some (calls ++ call.Take 16385 gave ∷ sends)) source bytes → DidFollow config h now gave turn.Silent made sends → frame (filled bytes) ≡ None
  silent_taken h calls sends made (given.Datagram from datagram) tells did = silent h from datagram made calls sends tells (frame datagram) refl did
  silent_taken h calls sends made given.Nothing tells did = absurd (let k : turn.Silent ≡ turn.Nothing = did.0 in cc)
  silent_taken h calls sends made given.End tells did = absurd (let k : turn.Silent ≡ turn.End = did.0 in cc)
  silent_taken h calls sends made given.Failed tells did = absurd (let k : turn.Silent ≡ turn.ReadFault = did.0 in cc)

  silent_told : (h : List BoardEntry) (before after : Option (List LinkCall)) (made : Option RequestRecord) → TellsTaken after source bytes
      → Gained before after (DidTurn config h now turn.Silent made) → frame (filled bytes) ≡ None
  silent_told h before None made tells gained = absurd (let k : None ≡ Some (source, filled bytes) = tells in cc)
  silent_told h None (Some calls) made tells gained = absurd gained
  silent_told h (Some first) (Some calls) made tells (more, is, did) =
      silent_taken h first did.sends made did.gave
      (subst (λ (c : List LinkCall). TellsTaken (Some c) source bytes) (is ∙ ap (λ (m : List LinkCall). first ++ m) did.calls_are) tells) did.followed

module _ (config : Config) {M I O T : Type 0} {g : _} where
  pub turns_board : (old new : Hand M (Part I O) Made T g) (e : BoardEntry) → MakesTurn config old new e → TurnsBoard config (made_by old) e (made_by new)
  turns_board old new e makes = record {
    nested = list_of makes.rows;
    last = entry_of makes.row;
    list_is = ap (λ (rows : List (table.Entry Made T)). list_of rows) makes.list_is ∙ turn_list (entries old) makes.rows makes.row;
    turn = makes.turn;
    is = makes.is;
  }

  -- a turn without a reply left the hand as it was
  unanswered : (old new : Hand M (Part I O) Made T g) (now : ℕ) (answer : ControlTurn) (made : Option RequestRecord) → is_answered answer ≡ false → FollowsTake config old new now answer made
      → made_by new ≡ made_by old
  unanswered old new now answer None unsent follows = ap (λ (h : Hand M (Part I O) Made T g). made_by h) follows.1
  unanswered old new now answer (Some x) unsent follows = absurd (let k : false ≡ true = sym unsent ∙ follows.0 in cc)

  module _ (now : ℕ) (source : Addr) (bytes : List ℕ) (reply_fails : Bool) (e : Printed) (old new : Hand M (Part I O) Made T g) (answer : ControlTurn) (x : RequestRecord) (opened : List PortCall)
      (drawn : List KeyCall) (opens : OpensAt config (entry_pairs config (board_of (made_by old)) (moment_at (board_of (made_by old)) now) x) x.given.opens opened) (draws : drawn ≡ draws_of x.given) (follows : FollowsTake config old new now answer (Some x)) where
    reply : List ℕ
    reply = (control_of config (board_of (made_by old)) (moment_at (board_of (made_by old)) now) x).reply

    -- its reply was sent, or not
    module _ (from : Addr) (datagram : List ℕ) (calls : List LinkCall) (from_is : from ≡ source) where
      of_reply : IsReply (Some (calls ++ call.Take 16385 (given.Datagram from datagram) ∷ call.Send from reply true ∷ [])) e → e ≡ event.Reply source reply
      of_reply r =
          let sent : Some (from, reply) ≡ Some (r.to, r.bytes) = sym (last_of sent_of calls (call.Take 16385 (given.Datagram from datagram) ∷ call.Send from reply true ∷ [])) ∙ r.sent in
          let same = same_some (from, reply) (r.to, r.bytes) sent in
          r.is ∙ ap (λ (d : Addr × List ℕ). event.Reply d.0 d.1) (sym same) ∙ ap (λ (a : Addr). event.Reply a reply) from_is

      replying : (done : Bool) → answer ≡ turn_after done
          → IsOfTurn answer reply_fails (Some (calls ++ call.Take 16385 (given.Datagram from datagram) ∷ call.Send from reply done ∷ [])) e → Replying reply_fails source reply e
      replying true is of =
          let shown = subst (λ (a : ControlTurn). IsOfTurn a reply_fails (Some (calls ++ call.Take 16385 (given.Datagram from datagram) ∷ call.Send from reply true ∷ [])) e) is of in
          subst (λ (b : Bool). Replying b source reply e) (sym shown.0) (of_reply shown.1)
      replying false is of =
          let shown = subst (λ (a : ControlTurn). IsOfTurn a reply_fails (Some (calls ++ call.Take 16385 (given.Datagram from datagram) ∷ call.Send from reply false ∷ [])) e) is of in
          subst (λ (b : Bool). Replying b source reply e) (sym shown.0) shown.1

    exchanged : (from : Addr) (datagram : List ℕ) (calls sends : List LinkCall) (parts : List ℕ × List ℕ)
        → TellsTaken (Some (calls ++ call.Take 16385 (given.Datagram from datagram) ∷ sends)) source bytes
        → IsOfTurn answer reply_fails (Some (calls ++ call.Take 16385 (given.Datagram from datagram) ∷ sends)) e → frame datagram ≡ Some parts
        → Exchanged config (board_of (made_by old)) now from parts (is_too_long datagram) answer x sends
        → Answers config now (made_by old) source (filled bytes) reply_fails opened drawn e (made_by new)
    unfolding reply
    exchanged from datagram calls sends (cookie, body) tells of is did =
        let h = board_of (made_by old) in
        let taken : Some (from, datagram) ≡ Some (source, filled bytes) =
        sym (ap (λ (s : List LinkCall). last_or None (filter_map datagram_of (calls ++ call.Take 16385 (given.Datagram from datagram) ∷ s))) did.sends_are
        ∙ last_of datagram_of calls (call.Take 16385 (given.Datagram from datagram) ∷ call.Send from reply did.done ∷ [])) ∙ tells in
        let same = same_some (from, datagram) (source, filled bytes) taken in
        let from_is : from ≡ source = ap (λ (d : Addr × List ℕ). d.0) same in
        let datagram_is : datagram ≡ filled bytes = ap (λ (d : Addr × List ℕ). d.1) same in record {
          heard = x;
          is_heard = record {
            source_is = did.source_is ∙ from_is;
            framed = ap frame (sym datagram_is) ∙ is ∙ ap (λ (c : List ℕ). Some (c, body)) (sym did.cookie_is) ∙ ap (λ (b : List ℕ). Some (x.cookie, b)) (sym did.body_is);
            length_is = did.length_is ∙ ap is_too_long datagram_is;
          };
          turns = turns_board old new (entry_at config h (moment_at h now) x) follows.1;
          opens = opens;
          draws = draws;
          replies = replying from datagram calls from_is did.done did.answer_is
              (subst (λ (s : List LinkCall). IsOfTurn answer reply_fails (Some (calls ++ call.Take 16385 (given.Datagram from datagram) ∷ s)) e) did.sends_are of);
        }

    answered : (from : Addr) (datagram : List ℕ) (calls sends : List LinkCall)
        → TellsTaken (Some (calls ++ call.Take 16385 (given.Datagram from datagram) ∷ sends)) source bytes
        → IsOfTurn answer reply_fails (Some (calls ++ call.Take 16385 (given.Datagram from datagram) ∷ sends)) e
        → (f : Option (List ℕ × List ℕ)) → frame datagram ≡ f → DidReply config (board_of (made_by old)) now from f (is_too_long datagram) answer (Some x) sends
        → Answers config now (made_by old) source (filled bytes) reply_fails opened drawn e (made_by new)
    answered from datagram calls sends tells of None is did = absurd (let k : Some x ≡ None = did.1 in cc)
    answered from datagram calls sends tells of (Some parts) is did = exchanged from datagram calls sends parts tells of is did

    -- a turn with a reply took a datagram
    taken : is_answered answer ≡ true → (calls sends : List LinkCall) (gave : LinkGiven)
        → TellsTaken (Some (calls ++ call.Take 16385 gave ∷ sends)) source bytes
        → IsOfTurn answer reply_fails (Some (calls ++ call.Take 16385 gave ∷ sends)) e
        → DidFollow config (board_of (made_by old)) now gave answer (Some x) sends
        → Answers config now (made_by old) source (filled bytes) reply_fails opened drawn e (made_by new)
    taken sent calls sends (given.Datagram from datagram) tells of did = answered from datagram calls sends tells of (frame datagram) refl did
    taken sent calls sends given.Nothing tells of did = absurd (let k : false ≡ true = sym (ap is_answered did.0) ∙ sent in cc)
    taken sent calls sends given.End tells of did = absurd (let k : false ≡ true = sym (ap is_answered did.0) ∙ sent in cc)
    taken sent calls sends given.Failed tells of did = absurd (let k : false ≡ true = sym (ap is_answered did.0) ∙ sent in cc)

    taken_told : is_answered answer ≡ true → (before after : Option (List LinkCall)) → TellsTaken after source bytes → IsOfTurn answer reply_fails after e
        → Gained before after (DidTurn config (board_of (made_by old)) now answer (Some x))
        → Answers config now (made_by old) source (filled bytes) reply_fails opened drawn e (made_by new)
    taken_told sent before None tells of gained = absurd (let k : None ≡ Some (source, filled bytes) = tells in cc)
    taken_told sent None (Some calls) tells of gained = absurd gained
    taken_told sent (Some first) (Some calls) tells of (more, is, did) =
        let list : calls ≡ first ++ call.Take 16385 did.gave ∷ did.sends = is ∙ ap (λ (m : List LinkCall). first ++ m) did.calls_are in
        taken sent first did.sends did.gave (subst (λ (c : List LinkCall). TellsTaken (Some c) source bytes) list tells)
        (subst (λ (c : List LinkCall). IsOfTurn answer reply_fails (Some c) e) list of) did.followed

  module _ (now : ℕ) (source : Addr) (bytes : List ℕ) (reply_fails : Bool) (e : Printed) (old new : Hand M (Part I O) Made T g)
      (ports ports_now keys keys_now : ℕ) (opened opened_now : Option (List PortCall)) (drew drew_now : Option (List KeyCall)) where
    abbrev Made_so : Bool → Type 0
    Made_so read_fails =
        Gained opened opened_now (λ opens. Gained drew drew_now (λ draws. Controls config now (made_by old) source bytes read_fails reply_fails opens draws e (made_by new)))

    -- nothing was called, and nothing was done
    idle : (read_fails : Bool) (answer : ControlTurn) (made : Option RequestRecord) → is_answered answer ≡ false → FollowsTake config old new now answer made
        → GaveFor config (board_of (made_by old)) now made ports ports_now keys keys_now opened opened_now drew drew_now
        → (IsIdle [] [] (made_by old) (made_by new) → Controls config now (made_by old) source bytes read_fails reply_fails [] [] e (made_by new)) → Made_so read_fails
    idle read_fails answer None unsent follows gave so =
        subst (λ (o : Option (List PortCall)). Gained opened o (λ opens. Gained drew drew_now (λ draws. Controls config now (made_by old) source bytes read_fails reply_fails opens draws e (made_by new))))
        (sym gave.0) (gained_none opened _
        (subst (λ (d : Option (List KeyCall)). Gained drew d (λ draws. Controls config now (made_by old) source bytes read_fails reply_fails [] draws e (made_by new)))
        (sym gave.1) (gained_none drew _ (so (refl, refl, unanswered old new now answer None unsent follows)))))
    idle read_fails answer (Some x) unsent follows gave so = absurd (let k : false ≡ true = sym unsent ∙ follows.0 in cc)

    answers : (answer : ControlTurn) (made : Option RequestRecord) (before after : Option (List LinkCall)) → is_answered answer ≡ true → FollowsTake config old new now answer made
        → GaveFor config (board_of (made_by old)) now made ports ports_now keys keys_now opened opened_now drew drew_now → Gained before after (DidTurn config (board_of (made_by old)) now answer made)
        → TellsTaken after source bytes → IsOfTurn answer reply_fails after e → Made_so false
    answers answer None before after sent follows gave gained tells of = absurd (let k : false ≡ true = sym follows.0 ∙ sent in cc)
    answers answer (Some x) before after sent follows gave gained tells of =
        gained_less opened opened_now (OpensAt config (entry_pairs config (board_of (made_by old)) (moment_at (board_of (made_by old)) now) x) x.given.opens) _
        (λ opens opens_are. gained_less drew drew_now (λ draws. draws ≡ draws_of x.given) _
        (λ draws draws_are. inr (taken_told now source bytes reply_fails e old new answer x opens draws opens_are draws_are follows sent before after tells of gained)) gave.draws) gave.opens

    controls_line : (read_fails : Bool) (answer : ControlTurn) (before after : Option (List LinkCall)) (made : Option RequestRecord) → FollowsTake config old new now answer made
        → GaveFor config (board_of (made_by old)) now made ports ports_now keys keys_now opened opened_now drew drew_now → Gained before after (DidTurn config (board_of (made_by old)) now answer made)
        → TellsTurn answer read_fails reply_fails after source bytes e → Made_so read_fails
    controls_line read_fails turn.ReadFault before after made follows gave gained tells =
        subst Made_so (sym tells.0) (idle true turn.ReadFault made refl follows gave (λ is. (tells.1, is)))
    controls_line read_fails turn.Silent before after made follows gave gained tells =
        subst Made_so (sym tells.0) (idle false turn.Silent made refl follows gave
        (λ is. inl (silent_told config now source bytes (board_of (made_by old)) before after made tells.1 gained, tells.2, is)))
    controls_line read_fails turn.Replied before after made follows gave gained tells =
        subst Made_so (sym tells.0) (answers turn.Replied made before after refl follows gave gained tells.1 tells.2)
    controls_line read_fails turn.ReplyFault before after made follows gave gained tells =
        subst Made_so (sym tells.0) (answers turn.ReplyFault made before after refl follows gave gained tells.1 tells.2)
    controls_line read_fails turn.Nothing before after made follows gave gained tells = absurd tells.2
    controls_line read_fails turn.End before after made follows gave gained tells = absurd tells.2

  -- what is printed of a turn says what it did
  pub controls : (old new : Hand M (Part I O) Made T g) (now : ℕ) (answer : ControlTurn) (ports ports_now keys keys_now : ℕ) (opened opened_now : Option (List PortCall))
      (drew drew_now : Option (List KeyCall)) (before after : Option (List LinkCall)) (source : Addr) (bytes : List ℕ) (read_fails reply_fails : Bool) (e : Result coded.Printed Untold)
      → Turned config old new now answer ports ports_now keys keys_now opened opened_now drew drew_now before after → TellsEvent answer read_fails reply_fails after source bytes e
      → Controlled config now (made_by old) source bytes read_fails reply_fails opened opened_now drew drew_now e (made_by new)
  controls old new now answer ports ports_now keys keys_now opened opened_now drew drew_now before after source bytes read_fails reply_fails (Err why) turned tells = tt
  controls old new now answer ports ports_now keys keys_now opened opened_now drew drew_now before after source bytes read_fails reply_fails (Ok e) turned tells =
      controls_line now source bytes reply_fails (event_of e) old new ports ports_now keys keys_now opened opened_now drew drew_now read_fails answer before after turned.made turned.follows
      turned.given turned.calls tells
