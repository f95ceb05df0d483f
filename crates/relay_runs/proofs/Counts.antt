-- What the calls of the link count, and the take that ends the control turns.
use Rattle.std.proofs.Common.{◌≡◌, ◌∙◌, ap, refl, sym, subst, ℕ, ◌+◌, ◌<◌, List, [], ◌∷◌, ◌++◌, Option, Some, None, Bool, true, false, cond, arith, length, length-append}
use Rattle.std.specs.Prelude.{count_by}
use Rattle.std.proofs.lemmas.List.Sums.{sum_by-append}
use Rattle.std.proofs.lemmas.List.Elements.{filter_map-append}
use Rattle.ng_frame.specs.Frame.{frame}
use Rattle.relay_outside.specs.declared.address.Addr.{Addr}
use Rattle.relay_outside.specs.declared.link.LinkGiven.{LinkGiven}
use Rattle.relay_outside.specs.declared.link.LinkGiven.TheVariants as given
use Rattle.relay_outside.specs.declared.link.LinkCall.{LinkCall}
use Rattle.relay_outside.specs.declared.link.LinkCall.TheVariants as call
use Rattle.relay_outside.specs.declared.settings.Config.{Config}
use Rattle.relay_outside.specs.Link.{datagram_of, sent_of, datagrams, sent}
use Rattle.call_board.specs.Acts.{BoardEntry}
use Rattle.board_turns.specs.Controls.{RequestRecord}
use Rattle.ng_server.specs.ControlTurns.{turn_after, is_answered, is_too_long, DidReply, DidFollow, DidTurn}
use Rattle.ng_server.specs.declared.control_turn.ControlTurn.{ControlTurn}
use Rattle.ng_server.specs.declared.control_turn.ControlTurn.TheVariants as turn
use Rattle.relay_runs.specs.declared.status.Status.{Status}
use Rattle.relay_runs.specs.declared.status.Status.TheVariants as status
use Rattle.relay_runs.specs.declared.totals.Counts.{Counts}
use Rattle.relay_runs.specs.Rounds.{ControlRound, status_after, history_after}
use Rattle.relay_runs.specs.ServeRuns.{run_counts, turn_counts, sum_of_counts, counts_in, is_turn, Counted, AreExchanges, last_take, HasEnded}

count_append : (p : LinkCall → Bool) (xs ys : List LinkCall) → count_by p (xs ++ ys) ≡ count_by p xs + count_by p ys
count_append p xs ys = sum_by-append (λ x. cond (p x) 1 0) xs ys

both_counted : (xs ys : List LinkCall) (m n : Counts) → Counted m xs → Counted n ys → Counted (sum_of_counts m n) (xs ++ ys)
both_counted xs ys m n a b = record {
  turns_are = omega (arith, count_append is_turn xs ys, a.turns_are, b.turns_are);
  datagrams_are = rw (filter_map-append datagram_of xs ys) (omega (arith, length-append (datagrams xs) (datagrams ys), a.datagrams_are, b.datagrams_are));
  replies_are = rw (filter_map-append sent_of xs ys) (omega (arith, length-append (sent xs) (sent ys), a.replies_are, b.replies_are));
}

-- the bind counts nothing
pub bind_counted : (at : Addr) (done : Bool) (calls : List LinkCall) (n : Counts) → Counted n calls → Counted n (call.Bind at done ∷ calls)
bind_counted at done calls n c = record {
  turns_are = omega (arith, count_append is_turn (call.Bind at done ∷ []) calls, c.turns_are);
  datagrams_are = c.datagrams_are;
  replies_are = c.replies_are;
}

-- One turn.

counted_as : (answer other : ControlTurn) (calls alike : List LinkCall) → answer ≡ other → calls ≡ alike → Counted (turn_counts other) alike → Counted (turn_counts answer) calls
counted_as answer other calls alike a c counted =
    let P : ControlTurn → Type 0 = λ x. Counted (turn_counts x) alike in
    subst (λ (xs : List LinkCall). Counted (turn_counts answer) xs) (sym c) (subst P (sym a) counted)

exchange_counted : (done : Bool) (from : Addr) (datagram reply : List ℕ) → Counted (turn_counts (turn_after done)) (call.Take 16385 (given.Datagram from datagram) ∷ call.Send from reply done ∷ [])
exchange_counted true from datagram reply = record { turns_are = refl; datagrams_are = refl; replies_are = refl }
exchange_counted false from datagram reply = record { turns_are = refl; datagrams_are = refl; replies_are = refl }

behind : (gave : LinkGiven) (sends same : List LinkCall) → sends ≡ same → call.Take 16385 gave ∷ sends ≡ call.Take 16385 gave ∷ same
behind gave sends same is = ap (λ (xs : List LinkCall). call.Take 16385 gave ∷ xs) is

module _ (config : Config) (h : List BoardEntry) (now : ℕ) where
  reply_counted : (from : Addr) (datagram : List ℕ) (answer : ControlTurn) (made : Option RequestRecord) (sends : List LinkCall) (parts : Option (List ℕ × List ℕ)) (too_long : Bool)
      → DidReply config h now from parts too_long answer made sends → Counted (turn_counts answer) (call.Take 16385 (given.Datagram from datagram) ∷ sends)
  reply_counted from datagram answer made sends None too_long did =
      counted_as answer turn.Silent _ _ did.0 (behind (given.Datagram from datagram) sends [] did.2) (record { turns_are = refl; datagrams_are = refl; replies_are = refl })
  reply_counted from datagram answer None sends (Some parts) too_long did = absurd did
  reply_counted from datagram answer (Some x) sends (Some parts) too_long did =
      counted_as answer (turn_after did.done) _ _ did.answer_is (behind (given.Datagram from datagram) sends _ did.sends_are) (exchange_counted did.done from datagram _)

  turn_counted : (gave : LinkGiven) (answer : ControlTurn) (made : Option RequestRecord) (sends : List LinkCall) → DidFollow config h now gave answer made sends
      → Counted (turn_counts answer) (call.Take 16385 gave ∷ sends)
  turn_counted (given.Datagram from datagram) answer made sends did = reply_counted from datagram answer made sends (frame datagram) (is_too_long datagram) did
  turn_counted given.Nothing answer made sends did =
      counted_as answer turn.Nothing _ _ did.0 (behind given.Nothing sends [] did.2) (record { turns_are = refl; datagrams_are = refl; replies_are = refl })
  turn_counted given.End answer made sends did =
      counted_as answer turn.End _ _ did.0 (behind given.End sends [] did.2) (record { turns_are = refl; datagrams_are = refl; replies_are = refl })
  turn_counted given.Failed answer made sends did =
      counted_as answer turn.ReadFault _ _ did.0 (behind given.Failed sends [] did.2) (record { turns_are = refl; datagrams_are = refl; replies_are = refl })

  did_counted : (answer : ControlTurn) (made : Option RequestRecord) (calls : List LinkCall) → DidTurn config h now answer made calls → Counted (turn_counts answer) calls
  did_counted answer made calls did =
      subst (λ (xs : List LinkCall). Counted (turn_counts answer) xs) (sym did.calls_are) (turn_counted did.gave answer made did.sends did.followed)

-- All rounds.

exchanges_counted : (config : Config) (rounds : List ControlRound) (calls : List LinkCall) → AreExchanges config rounds calls → Counted (counts_in rounds) calls
exchanges_counted config [] calls none =
    subst (λ (xs : List LinkCall). Counted (run_counts 0 0 0) xs) (sym none) (record { turns_are = refl; datagrams_are = refl; replies_are = refl })
exchanges_counted config (r ∷ rounds) calls e =
    subst (λ (xs : List LinkCall). Counted (counts_in (r ∷ rounds)) xs) (sym e.2)
    (both_counted e.0 e.1 (counts_in rounds) (turn_counts r.answer) (exchanges_counted config rounds e.0 e.3)
    (did_counted config (history_after config rounds) r.handed r.answer r.heard e.1 e.4))

pub sum_none : (n : Counts) → sum_of_counts n (run_counts 0 0 0) ≡ n
sum_none n =
    let t : n.turns + 0 ≡ n.turns = omega arith in
    let d : n.datagrams + 0 ≡ n.datagrams = omega arith in
    let r : n.replies + 0 ≡ n.replies = omega arith in
    ap (λ (k : ℕ). run_counts k (n.datagrams + 0) (n.replies + 0)) t ∙ ap (λ (k : ℕ). run_counts n.turns k (n.replies + 0)) d ∙ ap (λ (k : ℕ). run_counts n.turns n.datagrams k) r

last_counted : (ended : Status) → Counted (run_counts 0 0 0) (last_take ended)
last_counted status.Ok = record { turns_are = refl; datagrams_are = refl; replies_are = refl }
last_counted status.ControlFault = record { turns_are = refl; datagrams_are = refl; replies_are = refl }
last_counted status.TurnsSpent = record { turns_are = refl; datagrams_are = refl; replies_are = refl }
last_counted status.OutOfMemory = record { turns_are = refl; datagrams_are = refl; replies_are = refl }
last_counted status.PrintFault = record { turns_are = refl; datagrams_are = refl; replies_are = refl }
last_counted status.Usage = record { turns_are = refl; datagrams_are = refl; replies_are = refl }
last_counted status.ScriptFault = record { turns_are = refl; datagrams_are = refl; replies_are = refl }
last_counted status.ScriptRead = record { turns_are = refl; datagrams_are = refl; replies_are = refl }

pub calls_counted : (config : Config) (rounds : List ControlRound) (ended : Status) (calls : List LinkCall) → AreExchanges config rounds calls → Counted (counts_in rounds) (calls ++ last_take ended)
calls_counted config rounds ended calls e =
    subst (λ (n : Counts). Counted n (calls ++ last_take ended)) (sum_none (counts_in rounds))
    (both_counted calls (last_take ended) (counts_in rounds) (run_counts 0 0 0) (exchanges_counted config rounds calls e) (last_counted ended))

-- The turn that ends them.

pub not_answered : (answer : ControlTurn) (ended : Status) → Some ended ≡ status_after answer → is_answered answer ≡ false
not_answered turn.Replied ended is = absurd (let k = is in cc)
not_answered turn.ReplyFault ended is = absurd (let k = is in cc)
not_answered turn.Silent ended is = refl
not_answered turn.Nothing ended is = refl
not_answered turn.End ended is = refl
not_answered turn.ReadFault ended is = refl

pub ends_uncounted : (answer : ControlTurn) (ended : Status) → Some ended ≡ status_after answer → turn_counts answer ≡ run_counts 0 0 0
ends_uncounted turn.Replied ended is = absurd (let k = is in cc)
ends_uncounted turn.ReplyFault ended is = absurd (let k = is in cc)
ends_uncounted turn.Silent ended is = absurd (let k = is in cc)
ends_uncounted turn.Nothing ended is = absurd (let k = is in cc)
ends_uncounted turn.End ended is = refl
ends_uncounted turn.ReadFault ended is = refl

pub ends_below : (limit turns : ℕ) (answer : ControlTurn) (ended : Status) → Some ended ≡ status_after answer → turns < limit → HasEnded ended limit turns
ends_below limit turns turn.Replied ended is below = absurd (let k = is in cc)
ends_below limit turns turn.ReplyFault ended is below = absurd (let k = is in cc)
ends_below limit turns turn.Silent ended is below = absurd (let k = is in cc)
ends_below limit turns turn.Nothing ended is below = absurd (let k = is in cc)
ends_below limit turns turn.End ended is below =
    let same : status.Ok ≡ ended = (let k = is in cc) in let P : Status → Type 0 = λ s. HasEnded s limit turns in subst P same below
ends_below limit turns turn.ReadFault ended is below =
    let same : status.ControlFault ≡ ended = (let k = is in cc) in let P : Status → Type 0 = λ s. HasEnded s limit turns in subst P same below

pub one_take : (answer : ControlTurn) (ended : Status) → Some ended ≡ status_after answer → 1 ≡ length (last_take ended)
one_take turn.Replied ended is = absurd (let k = is in cc)
one_take turn.ReplyFault ended is = absurd (let k = is in cc)
one_take turn.Silent ended is = absurd (let k = is in cc)
one_take turn.Nothing ended is = absurd (let k = is in cc)
one_take turn.End ended is = let same : status.Ok ≡ ended = (let k = is in cc) in ap (λ (s : Status). length (last_take s)) same
one_take turn.ReadFault ended is = let same : status.ControlFault ≡ ended = (let k = is in cc) in ap (λ (s : Status). length (last_take s)) same

module _ (config : Config) (h : List BoardEntry) (now : ℕ) where
  framed_end : (from : Addr) (answer : ControlTurn) (parts : Option (List ℕ × List ℕ)) (too_long : Bool) (sends : List LinkCall)
      → DidReply config h now from parts too_long answer None sends → answer ≡ turn.Silent
  framed_end from answer None too_long sends did = did.0
  framed_end from answer (Some parts) too_long sends did = absurd did

  ending : (gave : LinkGiven) (answer : ControlTurn) (ended : Status) (sends : List LinkCall) → Some ended ≡ status_after answer
      → DidFollow config h now gave answer None sends → call.Take 16385 gave ∷ sends ≡ last_take ended
  ending (given.Datagram from datagram) answer ended sends is did =
      let silent = framed_end from answer (frame datagram) (is_too_long datagram) sends did in
      absurd (let k : Some ended ≡ None = is ∙ ap (λ (a : ControlTurn). status_after a) silent in cc)
  ending given.Nothing answer ended sends is did =
      absurd (let k : Some ended ≡ None = is ∙ ap (λ (a : ControlTurn). status_after a) did.0 in cc)
  ending given.End answer ended sends is did =
      let k : Some ended ≡ Some status.Ok = is ∙ ap (λ (a : ControlTurn). status_after a) did.0 in
      let same : ended ≡ status.Ok = cc in
      behind given.End sends [] did.2 ∙ ap (λ (s : Status). last_take s) (sym same)
  ending given.Failed answer ended sends is did =
      let k : Some ended ≡ Some status.ControlFault = is ∙ ap (λ (a : ControlTurn). status_after a) did.0 in
      let same : ended ≡ status.ControlFault = cc in
      behind given.Failed sends [] did.2 ∙ ap (λ (s : Status). last_take s) (sym same)

  -- the calls of the turn that ends them are its take
  pub ends_with : (answer : ControlTurn) (ended : Status) (calls : List LinkCall) → Some ended ≡ status_after answer → DidTurn config h now answer None calls → calls ≡ last_take ended
  ends_with answer ended calls is did = did.calls_are ∙ ending did.gave answer ended did.sends is did.followed
