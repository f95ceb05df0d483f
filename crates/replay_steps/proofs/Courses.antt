-- What a step of a script did.
use Rattle.std.proofs.Common.{◌≡◌, ◌∙◌, refl, sym, ap, subst, ℕ, ◌+◌, ◌<◌, ◌≤◌, ◌⊎◌, Bool, true, false, ◌||◌, List, [], ◌∷◌, ◌++◌, Option, None, Result, Ok, Err, inl, inr, map, length, is_some, arith}
use Rattle.std.specs.Prelude.{MatchResult}
use Rattle.std.specs.List.{list_any}
use Rattle.std.proofs.lemmas.List.{length-map, map-append, append-nil, append_assoc}
use Rattle.relay_outside.specs.declared.address.Addr.{Addr}
use Rattle.relay_outside.specs.declared.settings.Config.{Config}
use Rattle.rtp_packet.specs.declared.head.Half.{Half}
use Rattle.port_pool.specs.Boxes as box
use Rattle.port_pool.specs.Boxes.{Taken, FitsTaken, holder}
use Rattle.port_pool.specs.declared.holder.Holder.{Holder}
use Rattle.call_board.proofs.Placed.{any-position}
use Rattle.turn_table.specs.declared.hands.Hand.{Hand}
use Rattle.relay_core.specs.declared.part.Part.{Part}
use Rattle.relay_core.specs.Entries.{Entry, box_of, box_history}
use Rattle.relay_core.specs.Legal.{Legal}
use Rattle.relay_core.specs.Safe.{Safe}
use Rattle.relay_core.specs.Records.{Made, as_logged}
use Rattle.relay_core.specs.Turns.{IsAbove, made_by}
use Rattle.media_lane.specs.declared.receipt.Receipt.{Receipt}
use Rattle.media_lane.specs.declared.answers.Received.{Received}
use Rattle.media_lane.specs.declared.answers.Received.TheVariants as answer
use Rattle.media_lane.specs.Lanes.{packet_of}
use Rattle.board_turns.specs.Between.{board_of, MakesTurn}
use Rattle.board_turns.specs.Stops.{stop_entry}
use Rattle.media_lane.specs.Steps.{Took}
use Rattle.relay_script.specs.Steps as step
use Rattle.relay_script.specs.Steps.{Step}
use Rattle.relay_script.specs.EventLines as event
use Rattle.relay_script.specs.EventLines.{Printed, event_of}
use Rattle.relay_script.specs.declared.event.Printed as coded
use Rattle.replay_steps.specs.declared.ended.Untold.{Untold}
use Rattle.replay_steps.specs.declared.step.Stepped.{Stepped}
use Rattle.replay_steps.specs.declared.step.Stepped.TheVariants as stepped
use Rattle.replay_devices.specs.Steps as model
use Rattle.replay_devices.specs.Devices.{Happening, fails}
use Rattle.replay_steps.specs.Arrivals.{IsEndAt}
use Rattle.replay_steps.specs.Receipts.{NumberedReceipt, ReceiptList, receipt_has_number, LacksNumber, TakesOut, taken_with_pair}
use Rattle.replay_steps.specs.Steps.{Packet, Course, packet_under, course_of, with_past, holding, left_with, course_after, TurnsBoard, TakesPacket, PrintsTaken, FailsSo, Misses, TookOther, TakesOther, RelaysPacket, PrintsOne, HoldsNone, Makes, OfStep, is_under, Plays, Stops}
use Rattle.replay_devices.specs.Watch.{WatchState, WatchStandsFor}
use Rattle.replay_steps.specs.WatchNotes.{RelaysSo, StepsSo}
use Rattle.replay_steps.proofs.Controls.{turns_board}

-- Takes.

module _ (config : Config) (l new : List Entry) (port : ℕ) (source : Addr) (bytes : List ℕ) (failing : Bool) (pair : ℕ) (half : Half) (at : IsEndAt config port source.ip (pair, half)) where
  takes_none : (given : Received) (e : Printed) (took : Took config l pair half given new) → PrintsTaken took.taken bytes e → FailsSo took.taken failing → Misses config l port source bytes failing e new
  takes_none given e took printed asked = inr (record {
    end = (pair, half);
    at = at;
    number = took.number;
    at_front = took.at_front;
    taken = took.taken;
    fits = took.fits;
    printed = printed;
    asked = asked;
    list_is = took.list_is;
  })

  pub takes_nothing : ((n : ℕ) → IsAbove l (box_of config pair) n → holder (box_history l (box_of config pair) n) ≡ None) → Took config l pair half answer.Nothing new
      → Misses config l port source bytes failing event.Nothing new
  takes_nothing shut took =
      let closed : took.taken ≡ box.Closed = subst (λ (o : Option Holder). FitsTaken o took.taken) (shut took.number took.at_front) took.fits in
      takes_none answer.Nothing event.Nothing took (subst (λ (t : Taken). PrintsTaken t bytes event.Nothing) (sym closed) refl) (subst (λ (t : Taken). FailsSo t failing) (sym closed) tt)

  pub takes_too_long : failing ≡ false → 2000 < length bytes → Took config l pair half answer.TooLong new → Misses config l port source bytes failing event.TooLong new
  takes_too_long no_fault long took =
      takes_none answer.TooLong event.TooLong took (subst (λ (t : Taken). PrintsTaken t bytes event.TooLong) (sym took.tells.2) (long, refl)) (subst (λ (t : Taken). FailsSo t failing) (sym took.tells.2) no_fault)

  pub takes_fault : failing ≡ true → Took config l pair half answer.TakeFault new → Misses config l port source bytes failing event.TakeFault new
  takes_fault fault took =
      takes_none answer.TakeFault event.TakeFault took (subst (λ (t : Taken). PrintsTaken t bytes event.TakeFault) (sym took.tells) refl) (subst (λ (t : Taken). FailsSo t failing) (sym took.tells) fault)

  takes_other : (given : Received) (took : Took config l pair half given new) → TookOther took.taken source bytes failing → TakesOther config l port source bytes failing new
  takes_other given took other = record {
    end = (pair, half);
    at = at;
    number = took.number;
    at_front = took.at_front;
    taken = took.taken;
    fits = took.fits;
    other = other;
    list_is = took.list_is;
  }

  pub other_packet : (r : Receipt) → (failing ≡ false → (packet_of r).source ≡ source → (packet_of r).bytes ≡ bytes → ⊥) → Took config l pair half (answer.Got r) new
      → TakesOther config l port source bytes failing new
  other_packet r differs took = takes_other (answer.Got r) took (subst (λ (t : Taken). TookOther t source bytes failing) (sym took.tells.gave) differs)

  pub other_nothing : Took config l pair half answer.Nothing new → TakesOther config l port source bytes failing new
  other_nothing took = takes_other answer.Nothing took (by_case took.tells)
    where
      by_case : (took.taken ≡ box.Closed) ⊎ (took.taken ≡ box.Nothing) → TookOther took.taken source bytes failing
      by_case (inl is) = subst (λ (t : Taken). TookOther t source bytes failing) (sym is) tt
      by_case (inr is) = subst (λ (t : Taken). TookOther t source bytes failing) (sym is) tt

  pub other_length : (failing ≡ false → 2000 < length bytes → ⊥) → Took config l pair half answer.TooLong new → TakesOther config l port source bytes failing new
  other_length differs took = takes_other answer.TooLong took (subst (λ (t : Taken). TookOther t source bytes failing) (sym took.tells.2) differs)

  pub other_fault : failing ≡ false → Took config l pair half answer.TakeFault new → TakesOther config l port source bytes failing new
  other_fault not took = takes_other answer.TakeFault took (subst (λ (t : Taken). TookOther t source bytes failing) (sym took.tells) not)

-- Where a replay comes to.

abbrev there : List Entry → List (ℕ × Packet) → (received clock : ℕ) → List Happening → Course
there l held received clock past = record { entries = l; held = held; received = received; clock = clock; past = past }

same_course : (l : List Entry) (clock : ℕ) (past : List Happening) (held held_now : List (ℕ × Packet)) (n n_now : ℕ) → held_now ≡ held → n_now ≡ n → there l held_now n_now clock past ≡ there l held n clock past
same_course l clock past held held_now n n_now p q = ap (λ (h : List (ℕ × Packet)). there l h n_now clock past) p ∙ ap (λ (k : ℕ). there l held k clock past) q

pub same_receipts : (l new : List Entry) (was is : ReceiptList) (clock : ℕ) (past : List Happening) → new ≡ l → is ≡ was → course_of new is clock past ≡ course_of l was clock past
same_receipts l new was is clock past p q = ap (λ (k : List Entry). course_of k is clock past) p ∙ ap (λ (r : ReceiptList). course_of l r clock past) q

pub few_held : (list : List NumberedReceipt) → (64 ≤ length list → ⊥) → length (map packet_under list) < 64
few_held list few = let many = length-map list packet_under in let less : length list < 64 = omega (arith, few) in omega (arith, many, less)

pub many_held : (list : List NumberedReceipt) → 64 ≤ length list → 64 ≤ length (map packet_under list)
many_held list more = let many = length-map list packet_under in omega (arith, many, more)

-- one more is held
pub held_more : (l new : List Entry) (was is : ReceiptList) (clock : ℕ) (past : List Happening) (r : Receipt) → is.list ≡ was.list ++ (was.received + 1, r) ∷ [] → is.received ≡ was.received + 1
    → course_of new is clock past ≡ holding (taken_with_pair r) new (course_of l was clock past)
held_more l new was is clock past r list number =
    same_course new clock past (map packet_under was.list ++ (was.received + 1, taken_with_pair r) ∷ []) (map packet_under is.list) (was.received + 1) is.received
    (ap (λ (xs : List NumberedReceipt). map packet_under xs) list ∙ map-append packet_under was.list ((was.received + 1, r) ∷ [])) number

-- one is held no more
pub held_less : (l new : List Entry) (number : ℕ) (r : Receipt) (was is : ReceiptList) (clock : ℕ) (past : List Happening) (out : TakesOut number r was is)
    → course_of new is clock past ≡ left_with (map packet_under out.before ++ map packet_under out.after) new (course_of l was clock past)
held_less l new number r was is clock past out =
    same_course new clock past (map packet_under out.before ++ map packet_under out.after) (map packet_under is.list) was.received is.received
    (ap (λ (xs : List NumberedReceipt). map packet_under xs) out.new_is ∙ map-append packet_under out.before out.after) out.received_is

-- the number of no receipt
any_under : (number : ℕ) (list : List NumberedReceipt) → list_any (is_under number) (map packet_under list) ≡ list_any (receipt_has_number number) list
any_under number [] = refl
any_under number (h ∷ list) = ap (λ (b : Bool). receipt_has_number number h || b) (any_under number list)

pub lacks_under : (number : ℕ) (list : List NumberedReceipt) → LacksNumber number list → list_any (is_under number) (map packet_under list) ≡ false
lacks_under number list lacks = any_under number list ∙ any-position (receipt_has_number number) list ∙ ap (λ (o : Option ℕ). is_some o) lacks

-- Steps.

pub one_event : (e : Printed) (P : Printed → Type 0) → P e → PrintsOne (e ∷ []) P
one_event e P p = record { event = e; prints_are = refl; holds = p }

module _ (config : Config) (seed : ℕ) (l : List Entry) (was : ReceiptList) (clock : ℕ) (past : List Happening) where
  module _ (failing : Bool) (asked : failing ≡ fails model.Taking past) where
    pub holds_packet : (port : ℕ) (source : Addr) (bytes : List ℕ) (r : Receipt) (n : ℕ) (new : List Entry) (is : ReceiptList) → (64 ≤ length was.list → ⊥)
        → (failing ≡ false) × TakesPacket config l port source bytes (taken_with_pair r) new → n ≡ was.received + 1 → is.list ≡ was.list ++ (was.received + 1, r) ∷ [] → is.received ≡ was.received + 1
        → Makes config seed (course_of l was clock past) (step.Take port source bytes) (event.Took n ∷ []) (course_of new is clock past)
    holds_packet port source bytes r n new is few takes number list received = (
      few_held was.list few,
      one_event (event.Took n) _ (inl (record {
        packet = taken_with_pair r;
        entries = new;
        asked = sym asked ∙ takes.0;
        takes = takes.1;
        printed = ap (λ (k : ℕ). event.Took k) number;
        new_is = held_more l new was is clock past r list received;
      })),
    )

    none_held : (port : ℕ) (source : Addr) (bytes : List ℕ) (e : Printed) (new : List Entry) → Misses config l port source bytes failing e new
        → HoldsNone config (course_of l was clock past) port source bytes e (course_of new was clock past)
    none_held port source bytes e new misses = record { entries = new; misses = subst (λ (b : Bool). Misses config l port source bytes b e new) asked misses; new_is = refl }

    pub holds_none : (port : ℕ) (source : Addr) (bytes : List ℕ) (e : Printed) (new : List Entry) → (64 ≤ length was.list → ⊥) → Misses config l port source bytes failing e new
        → Makes config seed (course_of l was clock past) (step.Take port source bytes) (e ∷ []) (course_of new was clock past)
    holds_none port source bytes e new few misses = (few_held was.list few, one_event e _ (inr (none_held port source bytes e new misses)))

    pub passes_none : (port : ℕ) (source : Addr) (bytes : List ℕ) (e : Printed) (new : List Entry) → Misses config l port source bytes failing e new
        → Makes config seed (course_of l was clock past) (step.Packet port source bytes) (e ∷ []) (course_of new was clock past)
    passes_none port source bytes e new misses = one_event e _ (inr (none_held port source bytes e new misses))

  passes_packet : (port : ℕ) (source : Addr) (bytes : List ℕ) (r : Receipt) (e : Printed) (mid new : List Entry) (past_now : List Happening) → fails model.Taking past ≡ false
      → TakesPacket config l port source bytes (taken_with_pair r) mid → RelaysPacket config clock mid past (packet_of r) e new past_now
      → Makes config seed (course_of l was clock past) (step.Packet port source bytes) (e ∷ []) (course_of new was clock past_now)
  passes_packet port source bytes r e mid new past_now asked takes relays =
      one_event e _ (inl (record { packet = taken_with_pair r; between = mid; entries = new; asked = asked; takes = takes; past = past_now; relays = relays; new_is = refl }))

  relays_held : (number : ℕ) (r : Receipt) (e : Printed) (new : List Entry) (past_now : List Happening) (is : ReceiptList) (out : TakesOut number r was is)
      → RelaysPacket config clock l past (packet_of r) e new past_now → Makes config seed (course_of l was clock past) (step.Relay number) (e ∷ []) (course_of new is clock past_now)
  relays_held number r e new past_now is out relays = one_event e _ (record {
    before = map packet_under out.before;
    packet = taken_with_pair r;
    after = map packet_under out.after;
    held_is = ap (λ (xs : List NumberedReceipt). map packet_under xs) out.old_is ∙ map-append packet_under out.before ((number, r) ∷ out.after);
    entries = new;
    past = past_now;
    relays = relays;
    new_is = ap (with_past past_now) (held_less l new number r was is clock past out);
  })

-- Relays, with a watch.

module _ (config : Config) (seed : ℕ) (l : List Entry) (was : ReceiptList) (clock : ℕ) (old now : WatchState) where
  pub passed : (port : ℕ) (source : Addr) (bytes : List ℕ) (r : Receipt) (mid new : List Entry) (o : Result coded.Printed Untold) (did : Stepped) (failing : Bool)
      → MatchResult o (λ (e : coded.Printed). did ≡ stepped.Prints e) (λ (why : Untold). did ≡ stepped.Untold why)
      → ((past : List Happening) → WatchStandsFor config seed past old → failing ≡ fails model.Taking past)
      → (failing ≡ false) × TakesPacket config l port source bytes (taken_with_pair r) mid → RelaysSo config seed clock mid (taken_with_pair r) o old now new
      → StepsSo config seed did old now (λ past past_now. OfStep config seed (course_of l was clock past) (step.Packet port source bytes) did (course_of new was clock past_now))
  passed port source bytes r mid new (Err why) did failing tells asked takes relays =
      subst (λ (d : Stepped). StepsSo config seed d old now (λ past past_now. OfStep config seed (course_of l was clock past) (step.Packet port source bytes) d (course_of new was clock past_now)))
      (sym tells) tt
  passed port source bytes r mid new (Ok e) did failing tells asked takes relays =
      subst (λ (d : Stepped). StepsSo config seed d old now (λ past past_now. OfStep config seed (course_of l was clock past) (step.Packet port source bytes) d (course_of new was clock past_now)))
      (sym tells) (λ past s.
      let f = relays past s in
      (f.0, passes_packet config seed l was clock past port source bytes r (event_of e) mid new f.0 (sym (asked past s) ∙ takes.0) takes.1 f.1, f.2))

  pub relayed : (number : ℕ) (r : Receipt) (new : List Entry) (is : ReceiptList) (o : Result coded.Printed Untold) (did : Stepped)
      → MatchResult o (λ (e : coded.Printed). did ≡ stepped.Prints e) (λ (why : Untold). did ≡ stepped.Untold why) → (out : TakesOut number r was is) → RelaysSo config seed clock l (taken_with_pair r) o old now new
      → StepsSo config seed did old now (λ past past_now. OfStep config seed (course_of l was clock past) (step.Relay number) did (course_of new is clock past_now))
  relayed number r new later (Err why) did tells out relays =
      subst (λ (d : Stepped). StepsSo config seed d old now (λ past past_now. OfStep config seed (course_of l was clock past) (step.Relay number) d (course_of new later clock past_now))) (sym tells) tt
  relayed number r new later (Ok e) did tells out relays =
      subst (λ (d : Stepped). StepsSo config seed d old now (λ past past_now. OfStep config seed (course_of l was clock past) (step.Relay number) d (course_of new later clock past_now)))
      (sym tells) (λ past s. let f = relays past s in (f.0, relays_held config seed l was clock past number r (event_of e) new f.0 later out f.1, f.2))

-- one step more
pub plays_more : (config : Config) (seed : ℕ) (steps : List Step) (r : Course) (prints : List Printed) (mid : Course) (s : Step) (more : List Printed) (new : Course)
    → Plays config seed steps r prints mid → Makes config seed mid s more new → Plays config seed (steps ++ s ∷ []) r (prints ++ more) (course_after s new)
plays_more config seed [] r prints mid s more new (none, same) makes =
    (new, more, [], ap (λ (xs : List Printed). xs ++ more) none ∙ sym (append-nil more), subst (λ (c : Course). Makes config seed c s more new) same makes, (refl, refl))
plays_more config seed (x ∷ steps) r prints mid s more new (between, first, rest, is, made, plays) makes =
    (between, first, rest ++ more, ap (λ (xs : List Printed). xs ++ more) is ∙ append_assoc first rest more, made, plays_more config seed steps (course_after x between) rest mid s more new plays makes)

-- a stop after it all
pub stops : (config : Config) {M I O T : Type 0} {g : _} (old new : Hand M (Part I O) Made T g) → MakesTurn config old new (stop_entry (board_of (made_by old)))
    → (l : List Entry) × (map as_logged l ≡ made_by new) × Legal config l × Safe config l → Stops config (made_by old)
stops config old new makes (all, is, legal, safe) = record {
  all = all;
  stopped = subst (λ (k : List Entry). TurnsBoard config (made_by old) (stop_entry (board_of (made_by old))) k) (sym is)
      (turns_board config old new (stop_entry (board_of (made_by old))) makes);
  legal = legal;
  safe = safe;
}
