-- The changes that the calls of the board make together are a whole entry of its history.
use Rattle.std.proofs.Common.{◌≡◌, ◌∙◌, refl, sym, ap, subst, ℕ, zero, suc, ◌+◌, ◌≤◌, ◌<◌, List, [], ◌∷◌, ◌++◌, map, filter, length, Bool, true, false, cond, not, ◌==◌, Some, None, arith, append_assoc, append-nil, length-append}
use Rattle.std.specs.Prelude.{max}
use Rattle.std.specs.List.{flat_map, cons_option}
use Rattle.std.proofs.lemmas.List.{map-append, length-map}
use Rattle.std.proofs.lemmas.List.Sums.{sum_by-append}
use Rattle.relay_outside.specs.declared.settings.Config.{Config}
use Rattle.ng_reply.specs.declared.code.ErrorCode.{ErrorCode}
use Rattle.histories.specs.Words.{In, has}
use Rattle.histories.proofs.Lists.{equal, equal_if}
use Rattle.cookie_cache.specs.Keepings.{Keeping, moment_used}
use Rattle.cookie_cache.specs.Keepings as cache
use Rattle.port_pool.specs.declared.holder.Holder.{Holder}
use Rattle.port_pool.specs.Signals.{NewKey}
use Rattle.offer_answer.specs.Rounds as round
use Rattle.offer_answer.specs.Rounds.{Round}
use Rattle.call_board.specs.Acts as act
use Rattle.call_board.specs.Acts.{Call, Lease, Offer, Answer, Act, Control, BoardEvent, Turn, Tick, Stop, BoardEntry}
use Rattle.call_board.specs.Calls.{begun, live, has_ended, rounds, first_moment, latest_moment, due_after, dues, least}
use Rattle.call_board.specs.Pairs.{closed_of, all_leased, leased_by_act, free, drawn}
use Rattle.call_board.specs.KeptReplies.{is_kept, keeping_at, keepings}
use Rattle.call_board.specs.Fits.{FitsBoard, FitsAt, IsFitting}
use Rattle.call_board.specs.Views.{View, CallView, call_view, board_last_moment, times_leased, view_of, view_at_moment, one_drawn, with_leases, with_returned, without, goes_on, with_round, with_due}
use Rattle.call_board.specs.Boards.{BoardMatches, BoardFor}
use Rattle.call_board.specs.declared.board.Board.{Board}
use Rattle.call_board.specs.Whole.{with_draws, with_reply, with_closed, with_more, with_first, with_ended, view_after, IsMomentOf, IsTimely}
use Rattle.call_board.proofs.Once.{Once}
use Rattle.call_board.proofs.Sieves.{filter_whole}
use Rattle.call_board.proofs.Told.{IsTurn, IsCallOf, begins, goes_on as again}
use Rattle.call_board.proofs.Tells.{offer_told}
use Rattle.call_board.proofs.Calls.{next_open, live_begun, begun_below}
use Rattle.call_board.proofs.Cells.{live_step, still_live}
use Rattle.call_board.proofs.Repeats.{repeat_alike}
use Rattle.call_board.proofs.Idle.{is_idle, idle_changes_nothing, undone_changes}
use Rattle.call_board.proofs.FreeAfter.{live_once, free_without}
use Rattle.call_board.proofs.CallsAfter.{Views, rounds_fresh, rounds_had, dues_fresh, call_after, call_begun, eq_swap, map_alike, changed_map, cleared, cleared_map}

pub view_alike : (v w : View) → v.moment ≡ w.moment → v.begun ≡ w.begun → v.drawn ≡ w.drawn → v.calls ≡ w.calls → v.free ≡ w.free → v.leases ≡ w.leases → v.keepings ≡ w.keepings → v ≡ w
view_alike v w a b c d e f g = λ i. record { moment = a i; begun = b i; drawn = c i; calls = d i; free = e i; leases = f i; keepings = g i }

-- How the changes of several calls go together.

-- pairs that were given back one after the other
pub returned_more : (v : View) (xs ys : List ℕ) → with_returned (with_returned v xs) ys ≡ with_returned v (xs ++ ys)
returned_more v xs ys = view_alike (with_returned (with_returned v xs) ys) (with_returned v (xs ++ ys)) refl refl refl refl (append_assoc v.free xs ys) refl refl

pub returned_none : (v : View) → with_returned v [] ≡ v
returned_none v = view_alike (with_returned v []) v refl refl refl refl (append-nil v.free) refl refl

-- that many keys more
abbrev pub more_drawn : View → ℕ → View
more_drawn v count =
    record { moment = v.moment; begun = v.begun; drawn = v.drawn + count; calls = v.calls; free = v.free; leases = v.leases; keepings = v.keepings }

pub draws_are : (v : View) (count : ℕ) → with_draws v count ≡ more_drawn v count
draws_are v zero = view_alike v (more_drawn v zero) refl refl (omega arith) refl refl refl refl
draws_are v (suc count) =
    ap one_drawn (draws_are v count) ∙ view_alike (one_drawn (more_drawn v count)) (more_drawn v (suc count)) refl refl (omega arith) refl refl refl refl

-- a draw changes how many keys were drawn, and nothing else
pub record AreDraws (v : View) (count : ℕ) (drawn : View) : Type 0 where
  pub moment_is : drawn.moment ≡ v.moment
  pub begun_is : drawn.begun ≡ v.begun
  pub drawn_is : drawn.drawn ≡ v.drawn + count
  pub calls_are : drawn.calls ≡ v.calls
  pub free_is : drawn.free ≡ v.free
  pub leases_are : drawn.leases ≡ v.leases
  pub keepings_are : drawn.keepings ≡ v.keepings

pub draws_keep : (v : View) (count : ℕ) → AreDraws v count (with_draws v count)
draws_keep v count = let is = draws_are v count in record {
  moment_is = ap (λ (w : View). w.moment) is;
  begun_is = ap (λ (w : View). w.begun) is;
  drawn_is = ap (λ (w : View). w.drawn) is;
  calls_are = ap (λ (w : View). w.calls) is;
  free_is = ap (λ (w : View). w.free) is;
  leases_are = ap (λ (w : View). w.leases) is;
  keepings_are = ap (λ (w : View). w.keepings) is;
}

-- one key more
pub one_more_drawn : (v : View) (count : ℕ) → one_drawn (with_draws v count) ≡ with_draws v (count + 1)
one_more_drawn v count = let next : suc count ≡ count + 1 = omega arith in ap (with_draws v) next

-- the board's moment, raised to the moment that was handed in
pub raised : (v : View) (now moment : ℕ) → moment ≡ max now v.moment → view_at_moment v now ≡ view_at_moment v moment
raised v now moment is = view_alike (view_at_moment v now) (view_at_moment v moment) (omega (arith, is)) refl refl refl refl refl refl

-- what a board keeps when these calls ended
abbrev pub ended_view : List BoardEntry → BoardEntry → List Call → View → View
ended_view h e calls v = record {
  moment = v.moment;
  begun = v.begun;
  drawn = v.drawn;
  calls = cleared calls v.calls;
  free = v.free ++ map (λ leg. leg.pair) (flat_map (closed_of h e) calls);
  leases = v.leases;
  keepings = v.keepings;
}

abbrev pair_of : Holder → ℕ
pair_of leg = leg.pair

pub ended_are : (h : List BoardEntry) (e : BoardEntry) (calls : List Call) (v : View) → with_ended h e calls v ≡ ended_view h e calls v
ended_are h e [] v = view_alike v (ended_view h e [] v) refl refl refl refl (sym (append-nil v.free)) refl refl
ended_are h e (of ∷ calls) v =
    let next = with_closed h e of (record { moment = v.moment; begun = v.begun; drawn = v.drawn; calls = without of.number v.calls; free = v.free; leases = v.leases; keepings = v.keepings }) in
    ended_are h e calls next
    ∙ view_alike (ended_view h e calls next) (ended_view h e (of ∷ calls) v) refl refl refl refl
    (append_assoc v.free (map pair_of (closed_of h e of)) (map pair_of (flat_map (closed_of h e) calls))
    ∙ ap (λ (ps : List ℕ). v.free ++ ps) (sym (map-append pair_of (closed_of h e of) (flat_map (closed_of h e) calls))))
    refl refl

-- calls that end one after the other
pub ended_more : (h : List BoardEntry) (e : BoardEntry) (calls more : List Call) (v : View) → with_ended h e more (with_ended h e calls v) ≡ with_ended h e (calls ++ more) v
ended_more h e [] more v = refl
ended_more h e (of ∷ calls) more v =
    ended_more h e calls more
    (with_closed h e of (record { moment = v.moment; begun = v.begun; drawn = v.drawn; calls = without of.number v.calls; free = v.free; leases = v.leases; keepings = v.keepings }))

-- The moment of what is kept.

kept_turn : (moment : ℕ) (c : Control) (ks : List Keeping) (last : ℕ) → cache.last_keeping_moment ks ≤ last → (b : Bool) →
    cache.last_keeping_moment (cons_option (cond b (Some (record { source = c.source; cookie = c.cookie; reply = c.reply; moment = moment })) None) ks) ≤ max moment last
kept_turn moment c ks last rest true = omega arith
kept_turn moment c ks last rest false = omega (arith, rest)

kept_event : (moment : ℕ) (event : BoardEvent) (ks : List Keeping) (last : ℕ) → cache.last_keeping_moment ks ≤ last → cache.last_keeping_moment (cons_option (keeping_at moment event) ks) ≤ max moment last
kept_event moment (Turn c) ks last rest = kept_turn moment c ks last rest (is_kept c.act)
kept_event moment (Tick calls) ks last rest = omega (arith, rest)
kept_event moment (Stop calls) ks last rest = omega (arith, rest)

-- no reply was kept later than the history's last moment
pub kept_by : (h : List BoardEntry) → cache.last_keeping_moment (keepings h) ≤ board_last_moment h
kept_by [] = omega arith
kept_by (e ∷ h) = kept_event e.moment e.event (keepings h) (board_last_moment h) (kept_by h)

-- the moment of the reply that is kept now is the one that was handed in
pub used_now : (h : List BoardEntry) (now : ℕ) → board_last_moment h ≤ now → moment_used (keepings h) now ≡ now
used_now h now late = let kept = kept_by h in omega (arith, late, kept)

-- The acts.

-- the turn of a datagram that did this
abbrev turn : ℕ → Control → Act → BoardEntry
turn now c a = record { moment = now; event = Turn (record c { act = a }) }

abbrev its_turn : (now : ℕ) (c : Control) (a : Act) → IsTurn (turn now c a) a
its_turn now c a = record { control = record c { act = a }; is_turn = refl; acts = refl }

abbrev keeping : Control → ℕ → Keeping
keeping c moment = record { source = c.source; cookie = c.cookie; reply = c.reply; moment = moment }

kept_now : (h : List BoardEntry) (now : ℕ) (c : Control) → board_last_moment h ≤ now → keeping c now ∷ keepings h ≡ keeping c (moment_used (keepings h) now) ∷ keepings h
kept_now h now c late = ap (λ m. keeping c m ∷ keepings h) (sym (used_now h now late))

-- an act that leaves calls, pairs and keys
idle_turn : (config : Config) (h : List BoardEntry) (now : ℕ) (c : Control) (a : Act) (ks : List Keeping) → is_idle a ≡ true → keepings (turn now c a ∷ h) ≡ ks →
    view_of config (turn now c a ∷ h)
    ≡ record {
      moment = max now (board_last_moment h);
      begun = length (begun h);
      drawn = length (drawn h);
      calls = map (call_view h) (live h);
      free = free config h;
      leases = times_leased h;
      keepings = ks;
    }
idle_turn config h now c act.Repeated ks idle is = let r = idle_changes_nothing config (turn now c act.Repeated) h act.Repeated (its_turn now c act.Repeated) idle in
    view_alike (view_of config (turn now c act.Repeated ∷ h)) _ refl (ap length (append-nil (begun h))) (ap length (append-nil (drawn h))) (ap (map (call_view h)) r.same_live) r.same_free refl is
idle_turn config h now c act.OutOfMemory ks idle is = let r = idle_changes_nothing config (turn now c act.OutOfMemory) h act.OutOfMemory (its_turn now c act.OutOfMemory) idle in
    view_alike (view_of config (turn now c act.OutOfMemory ∷ h)) _ refl (ap length (append-nil (begun h))) (ap length (append-nil (drawn h))) (ap (map (call_view h)) r.same_live) r.same_free refl is
idle_turn config h now c (act.Failed code) ks idle is = let r = idle_changes_nothing config (turn now c (act.Failed code)) h (act.Failed code) (its_turn now c (act.Failed code)) idle in
    view_alike (view_of config (turn now c (act.Failed code) ∷ h)) _ refl (ap length (append-nil (begun h))) (ap length (append-nil (drawn h))) (ap (map (call_view h)) r.same_live) r.same_free refl is
idle_turn config h now c (act.Queried of) ks idle is = let r = idle_changes_nothing config (turn now c (act.Queried of)) h (act.Queried of) (its_turn now c (act.Queried of)) idle in
    view_alike (view_of config (turn now c (act.Queried of) ∷ h)) _ refl (ap length (append-nil (begun h))) (ap length (append-nil (drawn h))) (ap (map (call_view h)) r.same_live) r.same_free refl is
idle_turn config h now c act.Told ks idle is = let r = idle_changes_nothing config (turn now c act.Told) h act.Told (its_turn now c act.Told) idle in
    view_alike (view_of config (turn now c act.Told ∷ h)) _ refl (ap length (append-nil (begun h))) (ap length (append-nil (drawn h))) (ap (map (call_view h)) r.same_live) r.same_free refl is
idle_turn config h now c (act.Delayed of s) ks idle is = absurd (let e = idle in cc)
idle_turn config h now c (act.Undone code leases draws) ks idle is = absurd (let e = idle in cc)
idle_turn config h now c (act.Offered o) ks idle is = absurd (let e = idle in cc)
idle_turn config h now c (act.Answered a) ks idle is = absurd (let e = idle in cc)
idle_turn config h now c (act.Deleted of) ks idle is = absurd (let e = idle in cc)

-- how often each pair was leased
leases_after : (config : Config) (h : List BoardEntry) (e : BoardEntry) → times_leased (e ∷ h) ≡ (with_leases (view_of config h) (leased_by_act (act.act e))).leases
leases_after config h e = λ i pair. each pair i
  where
    each : (pair : ℕ) → times_leased (e ∷ h) pair ≡ (with_leases (view_of config h) (leased_by_act (act.act e))).leases pair
    each pair =
        let sum = sum_by-append (λ (p : ℕ). cond (p == pair) 1 0) (leased_by_act (act.act e)) (all_leased h) in
        omega (arith, sum)

undone_turn : (config : Config) (h : List BoardEntry) (now : ℕ) (c : Control) (code : ErrorCode) (leases : List Lease) (draws : List (List ℕ)) → IsFitting config h →
    FitsBoard config h (turn now c (act.Undone code leases draws)) → board_last_moment h ≤ now →
    view_of config (turn now c (act.Undone code leases draws) ∷ h) ≡ view_after h (turn now c (act.Undone code leases draws)) (view_of config h)
undone_turn config h now c code leases draws old fits late =
    let e = turn now c (act.Undone code leases draws) in
    let pairs = map (λ (lease : Lease). lease.pair) leases in
    let all_leased = with_leases (view_at_moment (view_of config h) now) pairs in
    let u = undone_changes config e h code leases draws (its_turn now c (act.Undone code leases draws)) (fits, old) in
    view_alike (view_of config (e ∷ h)) (with_reply now c (with_returned (more_drawn all_leased (length draws)) pairs)) refl (ap length (append-nil (begun h)))
    (length-append (drawn h) draws) (ap (map (call_view h)) u.same_live)
    (free_without config h e old fits)
    (leases_after config h e) (kept_now h now c late)
    ∙ ap (λ v. with_reply now c (with_returned v pairs)) (sym (draws_are all_leased (length draws)))

none_leased : (xs : List ℕ) → filter (λ p. not (has [] p)) xs ≡ xs
none_leased xs = filter_whole (λ p. not (has [] p)) xs (λ p i. refl)

-- what an act that closes legs of one call gives back
closed_pairs : (h : List BoardEntry) (e : BoardEntry) (of : Call) → map pair_of (closed_of h e of ++ []) ++ [] ≡ map pair_of (closed_of h e of)
closed_pairs h e of = append-nil (map pair_of (closed_of h e of ++ [])) ∙ ap (map pair_of) (append-nil (closed_of h e of))

abbrev sees : (h : List BoardEntry) → Views (call_view h)
sees h = record { of_is = λ c. refl }

-- Calls that go on.

on_again : (h : List BoardEntry) (e : BoardEntry) (of : Call) (made : Round) (calls : List Call) →
    ((c : Call) → In c calls → call_view (e ∷ h) c ≡ cond (c.number == of.number) (with_round made e.moment (call_view h c)) (call_view h c)) →
    Once (map (λ (c : Call). c.number) calls) → map (call_view (e ∷ h)) calls ≡ goes_on of.number made e.moment (map (call_view h) calls)
on_again h e of made calls each once =
    map_alike (call_view (e ∷ h)) (λ (c : Call). cond (c.number == of.number) (with_round made e.moment (call_view h c)) (call_view h c)) calls each
    ∙ sym (changed_map (call_view h) of.number (with_round made e.moment) calls (sees h) once)

live_same : (h : List BoardEntry) → filter (λ (c : Call). not false) (live h) ++ [] ≡ live h
live_same h = append-nil (filter (λ (c : Call). not false) (live h)) ∙ filter_whole (λ (c : Call). not false) (live h) (λ c i. refl)

answered_call : (h : List BoardEntry) (now : ℕ) (c : Control) (a : Answer) (d : Call) → In d (live h) →
    call_view (turn now c (act.Answered a) ∷ h) d ≡ cond (d.number == a.of.number) (with_round (round.Answered a.ask) now (call_view h d)) (call_view h d)
answered_call h now c a d i =
    call_after h (turn now c (act.Answered a)) d (round.Answered a.ask) (d.number == a.of.number) (eq_swap a.of.number d.number)
    (ap (λ b. cond b (round.Answered a.ask ∷ []) []) (eq_swap a.of.number d.number)) refl (rounds_had h d (live_begun h d i)).1

answered_turn : (config : Config) (h : List BoardEntry) (now : ℕ) (c : Control) (a : Answer) → IsFitting config h → FitsBoard config h (turn now c (act.Answered a)) → board_last_moment h ≤ now →
    view_of config (turn now c (act.Answered a) ∷ h) ≡ view_after h (turn now c (act.Answered a)) (view_of config h)
answered_turn config h now c a old fits late =
    let e = turn now c (act.Answered a) in
    view_alike (view_of config (e ∷ h)) (view_after h e (view_of config h)) refl (ap length (append-nil (begun h))) (ap length (append-nil (drawn h)))
    (ap (map (call_view (e ∷ h))) (live_step h e ∙ live_same h) ∙ on_again h e a.of (round.Answered a.ask) (live h) (answered_call h now c a) (live_once config h old))
    (free_without config h e old fits
    ∙ ap (λ (ps : List ℕ). ps ++ (map pair_of (closed_of h e a.of ++ []) ++ [])) (none_leased (free config h))
    ∙ ap (λ (ps : List ℕ). free config h ++ ps) (closed_pairs h e a.of))
    refl (kept_now h now c late)

-- Offers.

abbrev made_by : Offer → Round
made_by o = round.Offered o.ask o.legs o.keys

offered_call : (h : List BoardEntry) (now : ℕ) (c : Control) (o : Offer) (d : Call) → In d (live h) →
    call_view (turn now c (act.Offered o) ∷ h) d ≡ cond (d.number == o.of.number) (with_round (made_by o) now (call_view h d)) (call_view h d)
offered_call h now c o d i =
    call_after h (turn now c (act.Offered o)) d (made_by o) (d.number == o.of.number) (eq_swap o.of.number d.number)
    (ap (λ b. cond b (made_by o ∷ []) []) (eq_swap o.of.number d.number)) refl (rounds_had h d (live_begun h d i)).1

-- what an accepted offer makes of how many calls were begun and of the live calls
record OfferCalls (h : List BoardEntry) (e : BoardEntry) (o : Offer) (count : ℕ) (calls : List CallView) : Type 0 where
  begun_is : length (begun (e ∷ h)) ≡ count
  calls_are : map (call_view (e ∷ h)) (live (e ∷ h)) ≡ calls

-- it went on with its call
offer_goes_on : (config : Config) (h : List BoardEntry) (now : ℕ) (c : Control) (o : Offer) → IsFitting config h → o.begins ≡ false →
    OfferCalls h (turn now c (act.Offered o)) o (length (begun h)) (goes_on o.of.number (made_by o) now (map (call_view h) (live h)))
offer_goes_on config h now c o old is_old =
    let e = turn now c (act.Offered o) in
    let none : cond o.begins (o.of ∷ []) [] ≡ [] = ap (λ b. cond b (o.of ∷ []) []) is_old in
    record {
      begun_is = ap (λ (cs : List Call). length (begun h ++ cs)) none ∙ ap length (append-nil (begun h));
      calls_are =
          ap (map (call_view (e ∷ h)))
          (live_step h e ∙ ap (λ (cs : List Call). still_live e h ++ filter (λ (d : Call). not (has_ended (e ∷ h) d)) cs) none ∙ live_same h)
          ∙ on_again h e o.of (made_by o) (live h) (offered_call h now c o) (live_once config h old);
    }

not_yet : (n m : ℕ) → n < m → (b : Bool) → (n == m) ≡ b → (n == m) ≡ false
not_yet n m below true is = let same = equal_if n m is in absurd (omega (arith, below, same))
not_yet n m below false is = is

-- it began its call
offer_begins : (config : Config) (h : List BoardEntry) (now : ℕ) (c : Control) (o : Offer) → IsFitting config h → o.begins ≡ true → o.of.number ≡ length (begun h) →
    OfferCalls h (turn now c (act.Offered o)) o (length (begun h) + 1) (map (call_view h) (live h) ++ record { of = o.of; rounds = made_by o ∷ []; first = now; last = now; due = None } ∷ [])
offer_begins config h now c o old is_new number =
    let e = turn now c (act.Offered o) in
    let one : cond o.begins (o.of ∷ []) [] ≡ o.of ∷ [] = ap (λ b. cond b (o.of ∷ []) []) is_new in
    let open_ : has_ended h o.of ≡ false = next_open config h o.of old number (has_ended h o.of) refl in
    let own : (o.of.number == o.of.number) ≡ true = equal o.of.number o.of.number refl in
    let none = rounds_fresh config h o.of.number old (omega (arith, number)) in
    record {
      begun_is = ap (λ (cs : List Call). length (begun h ++ cs)) one ∙ length-append (begun h) (o.of ∷ []);
      calls_are =
          ap (map (call_view (e ∷ h)))
          (live_step h e
          ∙ ap (λ (cs : List Call). still_live e h ++ filter (λ (d : Call). not (has_ended (e ∷ h) d)) cs) one
          ∙ ap (λ b. still_live e h ++ cond (not b) (o.of ∷ []) []) open_
          ∙ ap (λ (cs : List Call). cs ++ o.of ∷ []) (filter_whole (λ (d : Call). not false) (live h) (λ d i. refl)))
          ∙ map-append (call_view (e ∷ h)) (live h) (o.of ∷ [])
          ∙ ap (λ (cs : List CallView). cs ++ call_view (e ∷ h) o.of ∷ [])
          (map_alike (call_view (e ∷ h)) (call_view h) (live h)
          (λ d i. offered_call h now c o d i
          ∙ ap (λ b. cond b (with_round (made_by o) now (call_view h d)) (call_view h d))
          (not_yet d.number o.of.number (let below = begun_below config h d old (live_begun h d i) in omega (arith, below, number)) (d.number == o.of.number) refl)))
          ∙ ap (λ (v : CallView). map (call_view h) (live h) ++ v ∷ [])
          (call_begun h e o.of (made_by o) own (ap (λ b. cond b (made_by o ∷ []) []) own) refl none.0 none.1
          (dues_fresh config h o.of.number old (omega (arith, number))));
    }

-- an offer, once it is said whether it began its call
offer_with : (config : Config) (h : List BoardEntry) (now : ℕ) (c : Control) (o : Offer) (taken : View) → IsFitting config h → FitsBoard config h (turn now c (act.Offered o)) → board_last_moment h ≤ now →
    OfferCalls h (turn now c (act.Offered o)) o taken.begun taken.calls → taken.moment ≡ max now (board_last_moment h) → taken.drawn ≡ length (drawn h) + length o.keys →
    taken.free ≡ filter (λ p. not (has (map pair_of o.legs) p)) (free config h) → taken.leases ≡ (with_leases (view_of config h) (map pair_of o.legs)).leases → taken.keepings ≡ keepings h →
    view_of config (turn now c (act.Offered o) ∷ h) ≡ with_reply now c (with_closed h (turn now c (act.Offered o)) o.of taken)
offer_with config h now c o taken old fits late calls moment_is drawn_is free_is leases_are keepings_are =
    let e = turn now c (act.Offered o) in
    let keys : length (map (λ (key : NewKey). key.bytes) o.keys) ≡ length o.keys = length-map o.keys (λ (key : NewKey). key.bytes) in
    view_alike (view_of config (e ∷ h)) (with_reply now c (with_closed h e o.of taken)) (sym moment_is) calls.begun_is
    (length-append (drawn h) (map (λ (key : NewKey). key.bytes) o.keys) ∙ ap (λ n. length (drawn h) + n) keys ∙ sym drawn_is)
    calls.calls_are
    (free_without config h e old fits
    ∙ ap (λ (ps : List ℕ). filter (λ p. not (has (map pair_of o.legs) p)) (free config h) ++ ps) (closed_pairs h e o.of)
    ∙ ap (λ (ps : List ℕ). ps ++ map pair_of (closed_of h e o.of)) (sym free_is))
    (leases_after config h e ∙ sym leases_are)
    (kept_now h now c late ∙ ap (λ ks. keeping c (moment_used ks now) ∷ ks) (sym keepings_are))

-- the board with the offer's leases and draws
abbrev leased_for : Config → List BoardEntry → ℕ → Offer → View
leased_for config h now o = more_drawn (with_leases (view_at_moment (view_of config h) now) (map pair_of o.legs)) (length o.keys)

abbrev taken_by : Bool → Offer → ℕ → View → View
taken_by new o now v = cond new (with_first o.of (made_by o) now v) (with_more o.of (made_by o) now v)

offer_case : (config : Config) (h : List BoardEntry) (now : ℕ) (c : Control) (o : Offer) (id : List ℕ) → IsFitting config h → FitsBoard config h (turn now c (act.Offered o)) → board_last_moment h ≤ now →
    IsCallOf config h id o →
    view_of config (turn now c (act.Offered o) ∷ h) ≡ with_reply now c (with_closed h (turn now c (act.Offered o)) o.of (taken_by o.begins o now (leased_for config h now o)))
offer_case config h now c o id old fits late (begins is_new of_is none room) =
    offer_with config h now c o (with_first o.of (made_by o) now (leased_for config h now o)) old fits late
    (offer_begins config h now c o old is_new (ap (λ (d : Call). d.number) of_is)) refl refl refl refl refl
    ∙ ap (λ b. with_reply now c (with_closed h (turn now c (act.Offered o)) o.of (taken_by b o now (leased_for config h now o)))) (sym is_new)
offer_case config h now c o id old fits late (again is_old found is_live) =
    offer_with config h now c o (with_more o.of (made_by o) now (leased_for config h now o)) old fits late
    (offer_goes_on config h now c o old is_old) refl refl refl refl refl
    ∙ ap (λ b. with_reply now c (with_closed h (turn now c (act.Offered o)) o.of (taken_by b o now (leased_for config h now o)))) (sym is_old)

offered_turn : (config : Config) (h : List BoardEntry) (now : ℕ) (c : Control) (o : Offer) → IsFitting config h → FitsBoard config h (turn now c (act.Offered o)) → board_last_moment h ≤ now →
    view_of config (turn now c (act.Offered o) ∷ h) ≡ view_after h (turn now c (act.Offered o)) (view_of config h)
offered_turn config h now c o old fits late =
    let e = turn now c (act.Offered o) in
    let shown = offer_told config h e o fits refl in
    offer_case config h now c o shown.id old fits late shown.call_is
    ∙ ap (λ v. with_reply now c (with_closed h e o.of (taken_by o.begins o now v)))
    (sym (draws_are (with_leases (view_at_moment (view_of config h) now) (map pair_of o.legs)) (length o.keys)))

-- Calls that are ending.

delayed_call : (h : List BoardEntry) (now : ℕ) (c : Control) (of : Call) (seconds : ℕ) (d : Call) →
    call_view (turn now c (act.Delayed of seconds) ∷ h) d ≡ cond (d.number == of.number) (with_due (due_after now seconds) (call_view h d)) (call_view h d)
delayed_call h now c of seconds d =
    go (of.number == d.number) ∙ ap (λ b. cond b (with_due (due_after now seconds) (call_view h d)) (call_view h d)) (eq_swap of.number d.number)
  where
    ends : Bool → CallView
    ends b = record {
      of = d;
      rounds = rounds h d.number;
      first = first_moment h d.number;
      last = latest_moment h d.number;
      due = least (cond b (due_after now seconds ∷ []) [] ++ dues h d.number);
    }

    go : (b : Bool) → ends b ≡ cond b (with_due (due_after now seconds) (call_view h d)) (call_view h d)
    go true = refl
    go false = refl

delayed_turn : (config : Config) (h : List BoardEntry) (now : ℕ) (c : Control) (of : Call) (seconds : ℕ) → IsFitting config h → FitsBoard config h (turn now c (act.Delayed of seconds)) →
    board_last_moment h ≤ now → view_of config (turn now c (act.Delayed of seconds) ∷ h) ≡ view_after h (turn now c (act.Delayed of seconds)) (view_of config h)
delayed_turn config h now c of seconds old fits late =
    let e = turn now c (act.Delayed of seconds) in
    let same = repeat_alike config now c h in
    view_alike (view_of config (e ∷ h)) (view_after h e (view_of config h)) refl (ap length (append-nil (begun h))) (ap length (append-nil (drawn h)))
    (ap (map (call_view (e ∷ h))) same.same_live
    ∙ map_alike (call_view (e ∷ h)) (λ (d : Call). cond (d.number == of.number) (with_due (due_after now seconds) (call_view h d)) (call_view h d)) (live h)
    (λ d i. delayed_call h now c of seconds d)
    ∙ sym (changed_map (call_view h) of.number (with_due (due_after now seconds)) (live h) (sees h) (live_once config h old)))
    same.same_free refl (kept_now h now c late)

-- Calls that end.

deleted_turn : (config : Config) (h : List BoardEntry) (now : ℕ) (c : Control) (of : Call) → IsFitting config h → FitsBoard config h (turn now c (act.Deleted of)) → board_last_moment h ≤ now →
    view_of config (turn now c (act.Deleted of) ∷ h) ≡ view_after h (turn now c (act.Deleted of)) (view_of config h)
deleted_turn config h now c of old fits late =
    let e = turn now c (act.Deleted of) in
    view_alike (view_of config (e ∷ h)) (view_after h e (view_of config h)) refl (ap length (append-nil (begun h))) (ap length (append-nil (drawn h)))
    (ap (map (call_view h)) (live_step h e ∙ append-nil (still_live e h)) ∙ sym (cleared_map (call_view h) (of ∷ []) (live h) (sees h) (live_once config h old)))
    (free_without config h e old fits
    ∙ ap (λ (ps : List ℕ). ps ++ (map pair_of (closed_of h e of ++ []) ++ [])) (none_leased (free config h))
    ∙ ap (λ (ps : List ℕ). free config h ++ ps) (closed_pairs h e of))
    refl (kept_now h now c late)

abbrev ending : ℕ → List Call → BoardEntry
ending now calls = record { moment = now; event = Tick calls }

abbrev stopping : ℕ → List Call → BoardEntry
stopping now calls = record { moment = now; event = Stop calls }

-- what calls that end give back
ended_free : (config : Config) (h : List BoardEntry) (e : BoardEntry) (calls : List Call) →
    filter (λ p. not (has [] p)) (free config h) ++ (map pair_of (flat_map (closed_of h e) calls) ++ []) ≡ free config h ++ map pair_of (flat_map (closed_of h e) calls)
ended_free config h e calls =
    ap (λ (ps : List ℕ). ps ++ (map pair_of (flat_map (closed_of h e) calls) ++ [])) (none_leased (free config h))
    ∙ ap (λ (ps : List ℕ). free config h ++ ps) (append-nil (map pair_of (flat_map (closed_of h e) calls)))

ticked : (config : Config) (h : List BoardEntry) (now : ℕ) (calls : List Call) → IsFitting config h → FitsBoard config h (ending now calls) →
    view_of config (ending now calls ∷ h) ≡ view_after h (ending now calls) (view_of config h)
ticked config h now calls old fits =
    let e = ending now calls in
    view_alike (view_of config (e ∷ h)) (ended_view h e calls (view_at_moment (view_of config h) now)) refl (ap length (append-nil (begun h))) (ap length (append-nil (drawn h)))
    (ap (map (call_view h)) (live_step h e ∙ append-nil (still_live e h)) ∙ sym (cleared_map (call_view h) calls (live h) (sees h) (live_once config h old)))
    (free_without config h e old fits ∙ ended_free config h e calls) refl refl
    ∙ sym (ended_are h e calls (view_at_moment (view_of config h) now))

stopped : (config : Config) (h : List BoardEntry) (now : ℕ) (calls : List Call) → IsFitting config h → FitsBoard config h (stopping now calls) → now ≡ board_last_moment h →
    view_of config (stopping now calls ∷ h) ≡ view_after h (stopping now calls) (view_of config h)
stopped config h now calls old fits last =
    let e = stopping now calls in
    view_alike (view_of config (e ∷ h)) (ended_view h e calls (view_of config h)) (omega (arith, last)) (ap length (append-nil (begun h))) (ap length (append-nil (drawn h)))
    (ap (map (call_view h)) (live_step h e ∙ append-nil (still_live e h)) ∙ sym (cleared_map (call_view h) calls (live h) (sees h) (live_once config h old)))
    (free_without config h e old fits ∙ ended_free config h e calls) refl refl
    ∙ sym (ended_are h e calls (view_of config h))

-- Any entry.

turned : (config : Config) (h : List BoardEntry) (now : ℕ) (c : Control) (a : Act) → IsFitting config h → FitsBoard config h (turn now c a) → board_last_moment h ≤ now →
    view_of config (turn now c a ∷ h) ≡ view_after h (turn now c a) (view_of config h)
turned config h now c act.Repeated old fits late = idle_turn config h now c act.Repeated (keepings h) refl refl
turned config h now c act.OutOfMemory old fits late = idle_turn config h now c act.OutOfMemory (keepings h) refl refl
turned config h now c (act.Failed code) old fits late = idle_turn config h now c (act.Failed code) (keeping c (moment_used (keepings h) now) ∷ keepings h) refl (kept_now h now c late)
turned config h now c (act.Queried of) old fits late = idle_turn config h now c (act.Queried of) (keeping c (moment_used (keepings h) now) ∷ keepings h) refl (kept_now h now c late)
turned config h now c act.Told old fits late = idle_turn config h now c act.Told (keeping c (moment_used (keepings h) now) ∷ keepings h) refl (kept_now h now c late)
turned config h now c (act.Delayed of s) old fits late = delayed_turn config h now c of s old fits late
turned config h now c (act.Undone code leases draws) old fits late = undone_turn config h now c code leases draws old fits late
turned config h now c (act.Offered o) old fits late = offered_turn config h now c o old fits late
turned config h now c (act.Answered a) old fits late = answered_turn config h now c a old fits late
turned config h now c (act.Deleted of) old fits late = deleted_turn config h now c of old fits late

happened : (config : Config) (h : List BoardEntry) (now : ℕ) (event : BoardEvent) → IsFitting config h → FitsAt config h now event → IsMomentOf h now event →
    view_of config (record { moment = now; event = event } ∷ h) ≡ view_after h (record { moment = now; event = event }) (view_of config h)
happened config h now (Turn c) old fits timely = turned config h now c c.act old fits timely
happened config h now (Tick calls) old fits timely = ticked config h now calls old fits
happened config h now (Stop calls) old fits timely = stopped config h now calls old fits timely

-- what the calls of an entry's turn make of what the board keeps is what there is to keep after it
pub whole : (config : Config) (h : List BoardEntry) (e : BoardEntry) → IsFitting config h → FitsBoard config h e → IsTimely h e → view_of config (e ∷ h) ≡ view_after h e (view_of config h)
whole config h e old fits timely = happened config h e.moment e.event old fits timely

-- a board that keeps what the entry makes stands for the history with it
pub entry_stands : (config : Config) (board : Board) (h : List BoardEntry) (e : BoardEntry) → IsFitting config h → FitsBoard config h e → IsTimely h e → BoardMatches config board (view_after h e (view_of config h)) → BoardFor config board (e ∷ h)
entry_stands config board h e old fits timely s = subst (BoardMatches config board) (sym (whole config h e old fits timely)) s
