-- So which entries a board's history demands, and what they owe, is the same, too.
use Rattle.std.proofs.Common.{◌≡◌, ◌∙◌, ap, subst, refl, ℕ, ◌+◌, ◌==◌, max, List, [], ◌∷◌, ◌++◌, map, filter, flat_map, count_by, length, take, Bool, true, false, cond, not, Option, Some, None, Result, Ok, Err}
use Rattle.std.specs.Prelude.{◌&&◌, nat_le, is_some}
use Rattle.std.specs.List.{list_any}
use Rattle.std.specs.Str.{bytes_eq}
use Rattle.cookie_cache.specs.Keepings.{Keeping}
use Rattle.cookie_cache.specs.Keepings as cache
use Rattle.relay_outside.specs.declared.settings.Config.{Config}
use Rattle.relay_outside.specs.declared.address.Addr.{Addr}
use Rattle.relay_outside.specs.declared.address.Family.{Family}
use Rattle.ng_command.specs.Meanings as said
use Rattle.ng_command.specs.Meanings.{Said}
use Rattle.ng_reply.specs.declared.code.ErrorCode.{ErrorCode}
use Rattle.ng_reply.specs.declared.code.ErrorCode.TheVariants.{E10, E13, E14, E15, E16}
use Rattle.histories.specs.Words.{first, has, or_else}
use Rattle.port_pool.specs.declared.holder.Holder.{Holder}
use Rattle.offer_answer.specs.Rounds.{Round, NewLeg, OfferAsk, AnswerAsk, Demand}
use Rattle.offer_answer.specs.Plan as plan
use Rattle.call_cell.specs.Cells.{Prepare, Commit, Expire, End}
use Rattle.call_board.specs.Acts as act
use Rattle.call_board.specs.Acts.{Call, Act, Lease, Given, Control, BoardEvent, Turn, Tick, Stop, BoardEntry}
use Rattle.call_board.specs.Calls.{begun, live, lowest_but, find_call, new_call, is_due_by, is_due_at, is_ending, rounds, rounds_of_call, first_moment, latest_moment}
use Rattle.port_pool.specs.Ports.{pair_family, family_eq}
use Rattle.call_board.specs.Pairs.{held, closes_leg, free, fronts, is_short, next_generation, leased_new_legs, drawn_keys_from, drawn, all_leased}
use Rattle.call_board.specs.KeptReplies.{kept_reply}
use Rattle.call_board.specs.Requests.{asked}
use Rattle.call_board.specs.Replies.{Done, Fault, Reported, Listed}
use Rattle.call_board.specs.Answers.{Answering, failing, telling, ending_error, deleting, leased_pairs, undoing, offering, offer_ask, answer_ask, offer_leased, offer_planned, offer_unless, offer_to, answer_unless, answer_to, names_side, nothing_to_end, delete_of, reported_legs, query_of, answering_asked, answering_unless}
use Rattle.call_board.specs.Fits.{FitsControl, GivesFor, ReadsRequest, ReadsAnswerOf, demanded_by, asks_after}
use Rattle.call_board.proofs.Fixed.{unless_out_of_memory}
use Rattle.call_board.proofs.Tells.{leased_case}
use Rattle.relay_core.specs.Scripts.{Owed, open_owed, closing, in_cell, expiring, reading, reading_out_of_memory, script_of_act, script_of, script}
use Rattle.board_turns.specs.Controls.{RequestRecord, unanswered, with_answer, control_of, moment_at}
use Rattle.replay_laws.proofs.Boards.{SameBoards}

flat_same : (f g : Call → List Owed) (cs : List Call) → ((c : Call) → f c ≡ g c) → flat_map f cs ≡ flat_map g cs
flat_same f g [] same = refl
flat_same f g (c ∷ cs) same = ap (λ (ws : List Owed). ws ++ flat_map f cs) (same c) ∙ ap (λ (ws : List Owed). g c ++ ws) (flat_same f g cs same)

abbrev call_as : ℕ → ℕ → List ℕ → Call
call_as number cell id = record { number = number; cell = cell; id = id }

abbrev leg_as : Call → NewLeg → ℕ → ℕ → Holder
leg_as c leg pair generation = record { cell = c.cell; call = c.number; section = leg.section; side = leg.side; pair = pair; generation = generation }

abbrev lease_as : List ℕ → ℕ → Lease
lease_as out p = record { pair = p; generation = count_by (λ (q : ℕ). q == p) out + 1 }

abbrev offer_as : Given → OfferAsk → Call → Bool → List Round → List Holder → ℕ → act.Offer
offer_as given ask of begins before legs n = record {
  of = of;
  begins = begins;
  ask = ask;
  legs = legs;
  keys = drawn_keys_from n given.draws (plan.demand before ask).keys;
  dropped = (plan.demand before ask).dropped;
}

abbrev query_as : Given → Call → (created last : ℕ) → List Round → Answering
query_as given of created last rounds = record {
  reply = Reported (record { created = created; last_signal = last; rounds = rounds; legs = reported_legs given.report });
  act = act.Queried of;
}

abbrev of_family : Config → List ℕ → Family → List ℕ
of_family config free family = filter (λ (p : ℕ). family_eq (pair_family config p) family) free

module _ (config : Config) (h k : List BoardEntry) (same : SameBoards config h k) where
  find_same : (id : List ℕ) → find_call h id ≡ find_call k id
  find_same id = ap (λ (cs : List Call). first (filter (λ (c : Call). bytes_eq c.id id) cs)) same.live_is

  new_same : (id : List ℕ) → new_call h id ≡ new_call k id
  new_same id =
      ap (λ (cs : List Call). call_as (length cs) (lowest_but (map (λ (c : Call). c.cell) (live h))) id) same.begun_is
      ∙ ap (λ (cs : List Call). call_as (length (begun k)) (lowest_but (map (λ (c : Call). c.cell) cs)) id) same.live_is

  rounds_of_same : (o : Option Call) → rounds_of_call h o ≡ rounds_of_call k o
  rounds_of_same None = refl
  rounds_of_same (Some of) = same.rounds_are of.number

  ending_same : (n : ℕ) → is_ending h n ≡ is_ending k n
  ending_same n = ap is_some (same.dues_are n)

  legs_same : (c : Call) (ps : List ℕ) (legs : List NewLeg) → leased_new_legs h c ps legs ≡ leased_new_legs k c ps legs
  legs_same c [] legs = refl
  legs_same c (p ∷ ps) [] = refl
  legs_same c (p ∷ ps) (leg ∷ legs) =
      ap (λ (out : List ℕ). leg_as c leg p (count_by (λ (q : ℕ). q == p) out + 1) ∷ leased_new_legs h c ps legs) same.leased_is
      ∙ ap (λ (ls : List Holder). leg_as c leg p (next_generation k p) ∷ ls) (legs_same c ps legs)

  pairs_same : (d : Demand) → leased_pairs config h d ≡ leased_pairs config k d
  pairs_same d = ap (λ (fr : List ℕ). fronts (of_family config fr) d.pairs) same.free_is

  undoing_same : (code : ErrorCode) (pairs : List ℕ) (draws : List (List ℕ)) → undoing h code pairs draws ≡ undoing k code pairs draws
  undoing_same code pairs draws =
      ap (λ (out : List ℕ). record { reply = Fault code; act = act.Undone code (map (lease_as out) pairs) draws }) same.leased_is

  case_same : (given : Given) (ask : OfferAsk) (of : Call) (begins : Bool) (before : List Round) (pairs : List ℕ) (failed drew : Bool)
      → leased_case config h given ask of begins before pairs failed drew ≡ leased_case config k given ask of begins before pairs failed drew
  case_same given ask of begins before pairs true drew = undoing_same E15 pairs []
  case_same given ask of begins before pairs false true = undoing_same E16 pairs given.draws
  case_same given ask of begins before pairs false false =
      ap (λ (ls : List Holder). offering config before (offer_as given ask of begins before ls (length (drawn h)))) (legs_same of pairs (plan.demand before ask).pairs)
      ∙ ap (λ (ks : List (List ℕ)). offering config before (offer_as given ask of begins before (leased_new_legs k of pairs (plan.demand before ask).pairs) (length ks))) same.drawn_is

  leased_same : (given : Given) (ask : OfferAsk) (of : Call) (begins : Bool) (before : List Round) (pairs : List ℕ)
      → offer_leased config h given ask of begins before pairs ≡ offer_leased config k given ask of begins before pairs
  leased_same given ask of begins before pairs = case_same given ask of begins before pairs (list_any not given.opens) given.draw_failed

  abbrev planned_as : Given → OfferAsk → Call → Bool → List Round → List Call → List ℕ → Answering → Answering
  planned_as given ask of begins before calls fr all_leased =
      cond (begins && nat_le config.max_sessions (length calls)) (failing E14) (cond (is_short (of_family config fr) (plan.demand before ask).pairs) (failing E13) all_leased)

  planned_same : (given : Given) (ask : OfferAsk) (of : Call) (begins : Bool) (before : List Round)
      → offer_planned config h given ask of begins before ≡ offer_planned config k given ask of begins before
  planned_same given ask of begins before =
      let d : Demand = plan.demand before ask in
      let all : offer_leased config h given ask of begins before (leased_pairs config h d) ≡ offer_leased config k given ask of begins before (leased_pairs config k d) =
      leased_same given ask of begins before (leased_pairs config h d) ∙ ap (offer_leased config k given ask of begins before) (pairs_same d) in
      ap (λ (cs : List Call). planned_as given ask of begins before cs (free config h) (offer_leased config h given ask of begins before (leased_pairs config h d))) same.live_is
      ∙ ap (λ (fr : List ℕ). planned_as given ask of begins before (live k) fr (offer_leased config h given ask of begins before (leased_pairs config h d))) same.free_is
      ∙ ap (planned_as given ask of begins before (live k) (free config k)) all

  unless_same : (given : Given) (ask : OfferAsk) (of : Call) (begins : Bool) (before : List Round) (fault : Option ErrorCode)
      → offer_unless config h given ask of begins before fault ≡ offer_unless config k given ask of begins before fault
  unless_same given ask of begins before (Some code) = refl
  unless_same given ask of begins before None = planned_same given ask of begins before

  offer_same : (given : Given) (id : List ℕ) (ask : OfferAsk) (o : Option Call) → offer_to config h given id ask o ≡ offer_to config k given id ask o
  offer_same given id ask None =
      unless_same given ask (new_call h id) true [] (plan.offer_fault [] ask)
      ∙ ap (λ (of : Call). offer_unless config k given ask of true [] (plan.offer_fault [] ask)) (new_same id)
  offer_same given id ask (Some of) =
      unless_same given ask of false (rounds h of.number) (or_else (ending_error (is_ending h of.number)) (plan.offer_fault (rounds h of.number) ask))
      ∙ ap (λ (b : Bool). offer_unless config k given ask of false (rounds h of.number) (or_else (ending_error b) (plan.offer_fault (rounds h of.number) ask))) (ending_same of.number)
      ∙ ap (λ (rs : List Round). offer_unless config k given ask of false rs (or_else (ending_error (is_ending k of.number)) (plan.offer_fault rs ask))) (same.rounds_are of.number)

  answer_same : (ask : AnswerAsk) (o : Option Call) → answer_to config h ask o ≡ answer_to config k ask o
  answer_same ask None = refl
  answer_same ask (Some of) =
      ap (λ (b : Bool). answer_unless config ask of (rounds h of.number) (or_else (ending_error b) (plan.answer_fault (rounds h of.number) ask))) (ending_same of.number)
      ∙ ap (λ (rs : List Round). answer_unless config ask of rs (or_else (ending_error (is_ending k of.number)) (plan.answer_fault rs ask))) (same.rounds_are of.number)

  delete_same : (tag : Option (List ℕ)) (fatal : Bool) (seconds : ℕ) (o : Option Call) → delete_of h tag fatal seconds o ≡ delete_of k tag fatal seconds o
  delete_same tag fatal seconds None = refl
  delete_same tag fatal seconds (Some of) =
      ap (λ (rs : List Round). cond (names_side rs tag) (record { reply = Done; act = deleting of seconds }) (nothing_to_end fatal E10)) (same.rounds_are of.number)

  query_same : (given : Given) (o : Option Call) → query_of h given o ≡ query_of k given o
  query_same given None = refl
  query_same given (Some of) =
      ap (λ (n : ℕ). query_as given of n (latest_moment h of.number) (rounds h of.number)) (same.firsts_are of.number)
      ∙ ap (λ (n : ℕ). query_as given of (first_moment k of.number) n (rounds h of.number)) (same.latests_are of.number)
      ∙ ap (query_as given of (first_moment k of.number) (latest_moment k of.number)) (same.rounds_are of.number)

  asked_same : (c : Control) (r : Result Said ErrorCode) → answering_asked config h c r ≡ answering_asked config k c r
  asked_same c (Err code) = refl
  asked_same c (Ok said.Ping) = refl
  asked_same c (Ok (said.Offer id from_tag sdp options)) =
      offer_same c.given id (offer_ask from_tag sdp options c.chosen) (find_call h id)
      ∙ ap (offer_to config k c.given id (offer_ask from_tag sdp options c.chosen)) (find_same id)
  asked_same c (Ok (said.Answer id from_tag to_tag sdp options)) =
      answer_same (answer_ask from_tag to_tag sdp options c.chosen) (find_call h id)
      ∙ ap (answer_to config k (answer_ask from_tag to_tag sdp options c.chosen)) (find_same id)
  asked_same c (Ok (said.Delete id from_tag fatal seconds)) = delete_same from_tag fatal seconds (find_call h id) ∙ ap (delete_of k from_tag fatal seconds) (find_same id)
  asked_same c (Ok (said.Query id)) = query_same c.given (find_call h id) ∙ ap (query_of k c.given) (find_same id)
  asked_same c (Ok (said.Listing limit)) = ap (λ (cs : List Call). telling (Listed (take limit (map (λ (call : Call). call.id) cs)))) same.live_is

  unkept_same : (c : Control) (o : Option (List ℕ)) → answering_unless config h c o ≡ answering_unless config k c o
  unkept_same c (Some bytes) = refl
  unkept_same c None = ap (unless_out_of_memory config c.cookie c.body c.given.out_of_memory) (asked_same c (asked config c.too_long c.pairs))

  kept_same : (source : Addr) (cookie : List ℕ) (now : ℕ) → kept_reply h source cookie now ≡ kept_reply k source cookie now
  kept_same source cookie now = ap (λ (ks : List Keeping). cache.kept ks source cookie now) same.keepings_are

  due_same : (c : Control) (now : ℕ) → answering_unless config h c (kept_reply h c.source c.cookie now) ≡ answering_unless config k c (kept_reply k c.source c.cookie now)
  due_same c now = unkept_same c (kept_reply h c.source c.cookie now) ∙ ap (answering_unless config k c) (kept_same c.source c.cookie now)

  answer_heard : (ask : AnswerAsk) (o : Option Call) → ReadsAnswerOf h ask o → ReadsAnswerOf k ask o
  answer_heard ask None heard = tt
  answer_heard ask (Some of) heard = subst (λ (rs : List Round). plan.AnswerRead rs ask) (same.rounds_are of.number) heard

  hears_same : (c : Control) (r : Result Said ErrorCode) → ReadsRequest h c r → ReadsRequest k c r
  hears_same c (Err code) heard = tt
  hears_same c (Ok said.Ping) heard = tt
  hears_same c (Ok (said.Offer id from_tag sdp options)) heard = heard
  hears_same c (Ok (said.Answer id from_tag to_tag sdp options)) heard =
      subst (ReadsAnswerOf k (answer_ask from_tag to_tag sdp options c.chosen)) (find_same id) (answer_heard (answer_ask from_tag to_tag sdp options c.chosen) (find_call h id) heard)
  hears_same c (Ok (said.Delete id from_tag fatal seconds)) heard = tt
  hears_same c (Ok (said.Query id)) heard = tt
  hears_same c (Ok (said.Listing limit)) heard = tt

  demand_same : (c : Control) (r : Result Said ErrorCode) → demanded_by h c r ≡ demanded_by k c r
  demand_same c (Err code) = refl
  demand_same c (Ok said.Ping) = refl
  demand_same c (Ok (said.Offer id from_tag sdp options)) =
      ap (λ (rs : List Round). plan.demand rs (offer_ask from_tag sdp options c.chosen)) (rounds_of_same (find_call h id) ∙ ap (rounds_of_call k) (find_same id))
  demand_same c (Ok (said.Answer id from_tag to_tag sdp options)) = refl
  demand_same c (Ok (said.Delete id from_tag fatal seconds)) = refl
  demand_same c (Ok (said.Query id)) = refl
  demand_same c (Ok (said.Listing limit)) = refl

  after_same : (r : Result Said ErrorCode) → asks_after h r ≡ asks_after k r
  after_same (Err code) = refl
  after_same (Ok said.Ping) = refl
  after_same (Ok (said.Offer id from_tag sdp options)) = refl
  after_same (Ok (said.Answer id from_tag to_tag sdp options)) = refl
  after_same (Ok (said.Delete id from_tag fatal seconds)) = refl
  after_same (Ok (said.Query id)) = ap is_some (find_same id)
  after_same (Ok (said.Listing limit)) = refl

  pub fits_same : (now : ℕ) (c : Control) → FitsControl config h now c → FitsControl config k now c
  fits_same now c fits = record {
    framed = fits.framed;
    length_is = fits.length_is;
    reads = fits.reads;
    hears = λ heard. hears_same c (asked config c.too_long c.pairs) (fits.hears heard);
    gives = subst (λ (d : Demand). GivesFor d c.given c.act) (demand_same c (asked config c.too_long c.pairs)) fits.gives;
    reports = λ out_of_memory none. fits.reports out_of_memory (after_same (asked config c.too_long c.pairs) ∙ none);
    answers = fits.answers ∙ due_same c now;
  }

  pub time_same : (clock : ℕ) → moment_at h clock ≡ moment_at k clock
  time_same clock = ap (max clock) same.moment_is

  pub turn_same : (clock : ℕ) (x : RequestRecord) → control_of config h (moment_at h clock) x ≡ control_of config k (moment_at k clock) x
  turn_same clock x =
      ap (λ (m : ℕ). control_of config h m x) (time_same clock) ∙ ap (with_answer x) (due_same (unanswered x) (moment_at k clock))

  -- What an entry owes.

  abbrev closing_as : (e : BoardEntry) → Call → List Holder → List Owed
  closing_as e of ls = map (closing config) (filter (λ (leg : Holder). (leg.call == of.number) && closes_leg e leg) ls)

  out_of_memory_same : (c : Control) (r : Result Said ErrorCode) → reading_out_of_memory h c r ≡ reading_out_of_memory k c r
  out_of_memory_same c (Err code) = refl
  out_of_memory_same c (Ok said.Ping) = refl
  out_of_memory_same c (Ok (said.Offer id from_tag sdp options)) = refl
  out_of_memory_same c (Ok (said.Answer id from_tag to_tag sdp options)) = refl
  out_of_memory_same c (Ok (said.Delete id from_tag fatal seconds)) = refl
  out_of_memory_same c (Ok (said.Query id)) = ap (λ (o : Option Call). reading o c.given.report) (find_same id)
  out_of_memory_same c (Ok (said.Listing limit)) = refl

  act_same : (e : BoardEntry) (c : Control) (a : Act) → script_of_act config h e c a ≡ script_of_act config k e c a
  act_same e c act.Repeated = refl
  act_same e c act.OutOfMemory = out_of_memory_same c (asked config c.too_long c.pairs)
  act_same e c (act.Failed code) = refl
  act_same e c (act.Undone code leases draws) = refl
  act_same e c (act.Offered o) =
      ap (λ (ls : List Holder). map (open_owed config) o.legs ++ in_cell o.of (Prepare o.of.number o.legs o.keys o.dropped) ∷ closing_as e o.of ls) same.held_is
  act_same e c (act.Answered a) = ap (λ (ls : List Holder). in_cell a.of (Commit a.signal) ∷ closing_as e a.of ls) same.held_is
  act_same e c (act.Deleted of) = ap (λ (ls : List Holder). in_cell of End ∷ closing_as e of ls) same.held_is
  act_same e c (act.Queried of) = refl
  act_same e c act.Told = refl
  act_same e c (act.Delayed of s) = refl

  abbrev expiring_as : BoardEntry → Call → List Holder → (named due : Bool) → List Owed
  expiring_as e c ls named due = cond due (in_cell c End ∷ closing_as e c ls) (in_cell c (Expire named) ∷ cond named (in_cell c End ∷ closing_as e c ls) [])

  expiring_same : (e : BoardEntry) (calls : List Call) (c : Call) → expiring config h e calls c ≡ expiring config k e calls c
  expiring_same e calls c =
      ap (λ (ls : List Holder). expiring_as e c ls (has (map (λ (d : Call). d.number) calls) c.number) (is_due_at h c.number e.moment)) same.held_is
      ∙ ap (λ (d : Option ℕ). expiring_as e c (held k) (has (map (λ (d : Call). d.number) calls) c.number) (is_due_by e.moment d)) (same.dues_are c.number)

  event_same : (e : BoardEntry) (v : BoardEvent) → script_of config h e v ≡ script_of config k e v
  event_same e (Turn c) = act_same e c c.act
  event_same e (Tick calls) =
      flat_same (expiring config h e calls) (expiring config k e calls) (live h) (expiring_same e calls)
      ∙ ap (flat_map (expiring config k e calls)) same.live_is
  event_same e (Stop calls) = ap (λ (ls : List Holder). flat_map (λ (c : Call). in_cell c End ∷ closing_as e c ls) calls) same.held_is

  pub script_same : (e : BoardEntry) → script config h e ≡ script config k e
  script_same e = event_same e e.event
