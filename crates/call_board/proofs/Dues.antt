-- What the board plans is what is due: the answer to an offer or an answer by its plan, and the legs of an offer by its leases.
use Rattle.std.proofs.Common.{◌≡◌, ◌≢◌, ◌∙◌, refl, sym, ap, subst, ℕ, ◌+◌, ◌<◌, List, [], ◌∷◌, map, filter, length, Bool, true, false, cond, Option, Some, None, Ok, Err, arith}
use Rattle.std.specs.Prelude.{◌&&◌, nat_le, option_map}
use Rattle.std.proofs.lemmas.List.{length-map}
use Rattle.std.proofs.lemmas.Simd.{map-map}
use Rattle.std.proofs.lemmas.Bool.Decides.{nat_tests}
use Rattle.relay_outside.specs.declared.settings.Config.{Config}
use Rattle.ng_command.specs.declared.command.AnswerIn.{AnswerIn}
use Rattle.ng_reply.specs.declared.code.ErrorCode.{ErrorCode}
use Rattle.ng_reply.specs.declared.code.ErrorCode.TheVariants.{E9, E13, E14}
use Rattle.histories.specs.Words.{In, first, or_else}
use Rattle.offer_answer.specs.Rounds.{Round, OfferAsk, AnswerAsk, NewLeg, Demand}
use Rattle.offer_answer.specs.Plan as plan
use Rattle.offer_answer.specs.Plan.{demand}
use Rattle.offer_answer.specs.Answers.{AsksAnswer}
use Rattle.call_board.specs.Acts as act
use Rattle.call_board.specs.Acts.{Call, BoardEntry, Given}
use Rattle.call_board.specs.Calls.{begun, live, find_call, new_call, rounds, is_ending, lowest_but}
use Rattle.call_board.specs.Pairs.{free_in, is_short, leased_new_legs}
use Rattle.call_board.specs.Replies.{Described}
use Rattle.call_board.specs.Answers.{Answering, failing, ending_error, leased_pairs, offer_leased, offer_planned, offer_unless, offer_to, answer_unless, answer_to}
use Rattle.call_board.specs.Views.{View, CallView, call_view, view_of, times_leased, is_of_id, call_of_id, with_calls, goes_on}
use Rattle.call_board.specs.Boards.{lease_at, fronts_for, leases_at}
use Rattle.call_board.specs.Plans.{Target, target, target_by, shortage, refusal, fault_or_shortage, board_code, BeginsFor, PlansOffer, PlansAnswer, AnswerPlanFor}
use Rattle.call_board.specs.NextBoards.{IsNext, taken_in}
use Rattle.call_board.specs.Whole.{holders_of_new_legs, with_first, with_more}
use Rattle.call_board.specs.declared.fault.BoardFault.{BoardFault}
use Rattle.call_board.specs.declared.fault.BoardFault.TheVariants as faults
use Rattle.call_board.specs.declared.board_plan.BoardPlan.{BoardPlan}
use Rattle.call_board.specs.declared.board_plan.NewCall.{NewCall}
use Rattle.call_board.proofs.Lowest.{lowest_is, lowest_bound}
use Rattle.call_board.proofs.Calls.{found_live}
use Rattle.call_board.proofs.Found.{found_by_id}

-- The pairs of an offer.

-- it leases for each leg the front of its family's free pairs
pub leased_are : (config : Config) (h : List BoardEntry) (demanded : Demand) → leased_pairs config h demanded ≡ fronts_for config (view_of config h) demanded.pairs
leased_are config h demanded = refl

-- The call of an offer.

-- the call that an offer of this call-id begins, or the live one that it goes on with
abbrev pub target_in : List BoardEntry → List ℕ → Option Call → Target
target_in h id None = record { of = new_call h id; begins = true; ending = false; rounds = [] }
target_in h id (Some of) = record { of = of; begins = false; ending = is_ending h of.number; rounds = rounds h of.number }

cells_are : (h : List BoardEntry) → map (λ (c : CallView). c.of.cell) (map (call_view h) (live h)) ≡ map (λ (c : Call). c.cell) (live h)
cells_are h = map-map (λ (c : CallView). c.of.cell) (call_view h) (live h)

target_case : (config : Config) (h : List BoardEntry) (id : List ℕ) (o : Option Call) → target_by (view_of config h) id (option_map (call_view h) o) ≡ target_in h id o
target_case config h id None =
    ap (λ (cells : List ℕ). record { of = record { number = length (begun h); cell = lowest_but cells; id = id }; begins = true; ending = false; rounds = [] }) (cells_are h)
target_case config h id (Some of) = refl

-- the board's call of an offer is that of the history
pub target_is : (config : Config) (h : List BoardEntry) (id : List ℕ) → target (view_of config h) id ≡ target_in h id (find_call h id)
target_is config h id = ap (target_by (view_of config h) id) (found_by_id config h id) ∙ target_case config h id (find_call h id)

-- the first fault of an offer that is no shortage
abbrev fault_of : Target → OfferAsk → Option ErrorCode
fault_of t ask = or_else (ending_error t.ending) (plan.offer_fault t.rounds ask)

first_of : (a b c : Option ErrorCode) → or_else (or_else a b) c ≡ or_else a (or_else b c)
first_of (Some code) b c = refl
first_of None b c = refl

to_case : (config : Config) (h : List BoardEntry) (given : Given) (id : List ℕ) (ask : OfferAsk) (o : Option Call) → offer_to config h given id ask o
    ≡ offer_unless config h given ask (target_in h id o).of (target_in h id o).begins (target_in h id o).rounds (fault_of (target_in h id o) ask)
to_case config h given id ask None = refl
to_case config h given id ask (Some of) = refl

-- an offer, by the board's call of it
to_target : (config : Config) (h : List BoardEntry) (given : Given) (id : List ℕ) (ask : OfferAsk) → offer_to config h given id ask (find_call h id)
    ≡ offer_unless config h given ask (target (view_of config h) id).of (target (view_of config h) id).begins (target (view_of config h) id).rounds (fault_of (target (view_of config h) id) ask)
to_target config h given id ask =
    to_case config h given id ask (find_call h id) ∙ ap (λ (t : Target). offer_unless config h given ask t.of t.begins t.rounds (fault_of t ask)) (sym (target_is config h id))

-- What is due to an offer.

-- the reply to an offer without a fault, by what it lacks
planned_by : (config : Config) (h : List BoardEntry) (given : Given) (ask : OfferAsk) (of : Call) (new : Bool) (before : List Round) → offer_planned config h given ask of new before
    ≡ cond (new && nat_le config.max_sessions (length (map (call_view h) (live h)))) (failing E14)
    (cond (is_short (free_in config h) (demand before ask).pairs) (failing E13) (offer_leased config h given ask of new before (leased_pairs config h (demand before ask))))
planned_by config h given ask of new before =
    let due = offer_leased config h given ask of new before (leased_pairs config h (demand before ask)) in
    ap (λ n. cond (new && nat_le config.max_sessions n) (failing E14) (cond (is_short (free_in config h) (demand before ask).pairs) (failing E13) due)) (sym (length-map (live h) (call_view h)))

-- the code of a shortage, or what else is due
abbrev due_or : Option ErrorCode → Answering → Answering
due_or None due = due
due_or (Some code) due = failing code

short_case : (over short : Bool) (due : Answering) → cond over (failing E14) (cond short (failing E13) due) ≡ due_or (cond over (Some E14) (cond short (Some E13) None)) due
short_case true short due = refl
short_case false true due = refl
short_case false false due = refl

fault_case : (config : Config) (h : List BoardEntry) (given : Given) (ask : OfferAsk) (of : Call) (new : Bool) (before : List Round) (fault : Option ErrorCode) →
    offer_unless config h given ask of new before fault
    ≡ due_or (or_else fault (shortage config (view_of config h) new before ask)) (offer_leased config h given ask of new before (leased_pairs config h (demand before ask)))
fault_case config h given ask of new before (Some code) = refl
fault_case config h given ask of new before None =
    planned_by config h given ask of new before
    ∙ short_case (new && nat_le config.max_sessions (length (map (call_view h) (live h)))) (is_short (free_in config h) (demand before ask).pairs)
    (offer_leased config h given ask of new before (leased_pairs config h (demand before ask)))

-- an offer is refused as the board refuses it, or it leases its pairs
due_by : (config : Config) (h : List BoardEntry) (given : Given) (id : List ℕ) (ask : OfferAsk) (t : Target) → t ≡ target (view_of config h) id → offer_to config h given id ask (find_call h id)
    ≡ due_or (refusal config (view_of config h) t ask) (offer_leased config h given ask t.of t.begins t.rounds (leased_pairs config h (demand t.rounds ask)))
due_by config h given id ask t is =
    to_target config h given id ask
    ∙ ap (λ (t : Target). offer_unless config h given ask t.of t.begins t.rounds (fault_of t ask)) (sym is)
    ∙ fault_case config h given ask t.of t.begins t.rounds (fault_of t ask)
    ∙ ap (λ (o : Option ErrorCode). due_or o (offer_leased config h given ask t.of t.begins t.rounds (leased_pairs config h (demand t.rounds ask))))
    (first_of (ending_error t.ending) (plan.offer_fault t.rounds ask) (shortage config (view_of config h) t.begins t.rounds ask))

known : (fault : BoardFault) (code : ErrorCode) → board_code fault ≡ Some code → fault ≢ faults.OutOfMemory
known fault code is e = let wrong : None ≡ Some code = ap board_code (sym e) ∙ is in cc

-- an offer that the board refuses fails by the code of its fault
pub offer_fails : (config : Config) (h : List BoardEntry) (given : Given) (id : List ℕ) (ask : OfferAsk) (fault : BoardFault) (code : ErrorCode) →
    PlansOffer config (view_of config h) id ask (Err fault) → board_code fault ≡ Some code → offer_to config h given id ask (find_call h id) ≡ failing code
offer_fails config h given id ask fault code refused is =
    let t = target (view_of config h) id in
    due_by config h given id ask t refl
    ∙ ap (λ (o : Option ErrorCode). due_or o (offer_leased config h given ask t.of t.begins t.rounds (leased_pairs config h (demand t.rounds ask))))
    (refused (known fault code is) ∙ is)

-- an offer that the board plans leases for each leg the front of its family's free pairs, for the call of its plan
pub offer_leases : (config : Config) (h : List BoardEntry) (given : Given) (id : List ℕ) (ask : OfferAsk) (p : BoardPlan) → PlansOffer config (view_of config h) id ask (Ok p) →
    offer_to config h given id ask (find_call h id)
    ≡ offer_leased config h given ask (target (view_of config h) id).of (target (view_of config h) id).begins (target (view_of config h) id).rounds
    (fronts_for config (view_of config h) (demand (target (view_of config h) id).rounds ask).pairs)
offer_leases config h given id ask p planned =
    let t = target (view_of config h) id in
    due_by config h given id ask t refl
    ∙ ap (λ (o : Option ErrorCode). due_or o (offer_leased config h given ask t.of t.begins t.rounds (leased_pairs config h (demand t.rounds ask)))) planned.0

-- What is due to an answer.

-- what an answer asks is known where its call is live
abbrev pub AsksOf : List BoardEntry → AnswerIn → List (List ℕ) → AnswerAsk → Option Call → Type 0
AsksOf h input lines ask None = Unit {0}
AsksOf h input lines ask (Some of) = AsksAnswer input lines (rounds h of.number) ask

answer_case : (config : Config) (h : List BoardEntry) (input : AnswerIn) (lines : List (List ℕ)) (ask : AnswerAsk) (fault : BoardFault) (code : ErrorCode) (o : Option Call) →
    PlansAnswer config input lines (option_map (call_view h) o) (Err fault) → AsksOf h input lines ask o → board_code fault ≡ Some code → answer_to config h ask o ≡ failing code
answer_case config h input lines ask fault code None refused asks is =
    let unknown : fault ≡ faults.UnknownCall = (let e = refused in cc) in
    let same : Some E9 ≡ Some code = ap board_code (sym unknown) ∙ is in
    let which : E9 ≡ code = (let e = same in cc) in ap failing which
answer_case config h input lines ask fault code (Some of) refused asks is =
    ap (answer_unless config ask of (rounds h of.number)) (refused ask asks (known fault code is) ∙ is)

-- an answer that the board refuses fails by the code of its fault
pub answer_fails : (config : Config) (h : List BoardEntry) (input : AnswerIn) (lines : List (List ℕ)) (id : List ℕ) (ask : AnswerAsk) (fault : BoardFault) (code : ErrorCode) →
    PlansAnswer config input lines (call_of_id (view_of config h) id) (Err fault) → AsksOf h input lines ask (find_call h id) → board_code fault ≡ Some code →
    answer_to config h ask (find_call h id) ≡ failing code
answer_fails config h input lines id ask fault code refused asks is =
    answer_case config h input lines ask fault code (find_call h id)
    (subst (λ (o : Option CallView). PlansAnswer config input lines o (Err fault)) (found_by_id config h id) refused) asks is

-- an answer that the board plans is accepted, for the live call of its plan
pub record IsAnswerDue (config : Config) (h : List BoardEntry) (lines : List (List ℕ)) (ask : AnswerAsk) (p : BoardPlan) (o : Option Call) : Type 0 where
  pub of : Call
  pub found : o ≡ Some of
  pub plan_for : AnswerPlanFor config (call_view h of) ask lines p
  pub due : answer_to config h ask o ≡ record {
    reply = Described (plan.answer_text config (rounds h of.number) ask);
    act = act.Answered (record { of = of; ask = ask; signal = plan.signal (rounds h of.number) ask });
  }

due_case : (config : Config) (h : List BoardEntry) (input : AnswerIn) (lines : List (List ℕ)) (ask : AnswerAsk) (p : BoardPlan) (o : Option Call) →
    PlansAnswer config input lines (option_map (call_view h) o) (Ok p) → AsksOf h input lines ask o → IsAnswerDue config h lines ask p o
due_case config h input lines ask p None planned asks = absurd (let e = planned in cc)
due_case config h input lines ask p (Some of) planned asks =
    let made = planned ask asks in record { of = of; found = refl; plan_for = made.1; due = ap (answer_unless config ask of (rounds h of.number)) made.0 }

pub answer_due : (config : Config) (h : List BoardEntry) (input : AnswerIn) (lines : List (List ℕ)) (id : List ℕ) (ask : AnswerAsk) (p : BoardPlan) →
    PlansAnswer config input lines (call_of_id (view_of config h) id) (Ok p) → AsksOf h input lines ask (find_call h id) → IsAnswerDue config h lines ask p (find_call h id)
answer_due config h input lines id ask p planned asks =
    due_case config h input lines ask p (find_call h id)
    (subst (λ (o : Option CallView). PlansAnswer config input lines o (Ok p)) (found_by_id config h id) planned) asks

-- The legs of an offer, by its leases.

legs_by : (config : Config) (h : List BoardEntry) (of : Call) (pairs : List ℕ) (legs : List NewLeg) → leased_new_legs h of pairs legs ≡ holders_of_new_legs of (map (lease_at config (times_leased h)) pairs) legs
legs_by config h of [] legs = refl
legs_by config h of (p ∷ pairs) [] = refl
legs_by config h of (p ∷ pairs) (leg ∷ legs) =
    ap (λ rest. record { cell = of.cell; call = of.number; section = leg.section; side = leg.side; pair = p; generation = times_leased h p + 1 } ∷ rest) (legs_by config h of pairs legs)

-- the new legs are made of the leases, leg by leg
pub legs_leased_are : (config : Config) (h : List BoardEntry) (of : Call) (pairs : List ℕ) (legs : List NewLeg) →
    leased_new_legs h of pairs legs ≡ holders_of_new_legs of (leases_at config (view_of config h) pairs) legs
legs_leased_are config h of pairs legs = legs_by config h of pairs legs

-- Taking a plan in.

-- what the board becomes by its plan is what the entry makes of it
pub taken_is : (config : Config) (v : View) (t : Target) (tag : List ℕ) (made : Round) (now : ℕ) (p : BoardPlan) (new : Option NewCall) → p.call ≡ t.of.number → BeginsFor config t tag new →
    taken_in v t.of made now p new ≡ cond t.begins (with_first t.of made now v) (with_more t.of made now v)
taken_is config v t tag made now p None call old =
    ap (λ n. with_calls v (goes_on n made now v.calls)) call ∙ sym (ap (λ b. cond b (with_first t.of made now v) (with_more t.of made now v)) old)
taken_is config v t tag made now p (Some call) number new = sym (ap (λ b. cond b (with_first t.of made now v) (with_more t.of made now v)) new.0)

has_room : (full short : Bool) → cond full (Some E14) (cond short (Some E13) None) ≡ None → full ≡ false
has_room true short e = absurd (let f = e in cc)
has_room false short e = refl

pub no_fault : (fault other : Option ErrorCode) → or_else fault other ≡ None → other ≡ None
no_fault None other e = e
no_fault (Some code) other e = absurd (let f = e in cc)

below_limit : (limit count : ℕ) → nat_le limit count ≡ false → count < limit
below_limit limit count h = grind (arith, nat_tests)

-- a call that an offer may begin is the board's next one
pub next_is : (config : Config) (h : List BoardEntry) (v : View) (id : List ℕ) (ask : OfferAsk) → fault_or_shortage config (view_of config h) true [] ask ≡ None → v.begun ≡ length (begun h) →
    v.calls ≡ (view_of config h).calls → find_call h id ≡ None → IsNext config v (new_call h id)
next_is config h v id ask fine begun_is calls_are none =
    let short = no_fault (plan.offer_fault [] ask) (shortage config (view_of config h) true [] ask) fine in
    let room = below_limit config.max_sessions (length (map (call_view h) (live h)))
    (has_room (nat_le config.max_sessions (length (map (call_view h) (live h)))) (is_short (free_in config h) (demand [] ask).pairs) short) in
    let cells = map (λ (c : Call). c.cell) (live h) in
    let least = (lowest_is cells).positive in
    let most = lowest_bound cells in
    let calls : length (map (call_view h) (live h)) ≡ length (live h) = length-map (live h) (call_view h) in
    let count : length cells ≡ length (live h) = length-map (live h) (λ (c : Call). c.cell) in
    record {
      number_is = sym begun_is;
      cell_is_one = least;
      cell_is_there = omega (arith, room, most, calls, count);
      id_is_new = ap (λ (cs : List CallView). first (filter (is_of_id id) cs)) calls_are ∙ found_by_id config h id ∙ ap (option_map (call_view h)) none;
    }

-- A live call that an offer goes on with.
pub record GoesOn (h : List BoardEntry) (id : List ℕ) (t : Target) : Type 0 where
  pub found : find_call h id ≡ Some t.of
  pub is_live : In t.of (live h)
  pub rounds_are : t.rounds ≡ rounds h t.of.number

-- a call that an offer begins
pub record BeginsNew (h : List BoardEntry) (id : List ℕ) (t : Target) : Type 0 where
  pub none : find_call h id ≡ None
  pub of_is : t.of ≡ new_call h id
  pub no_rounds : t.rounds ≡ []

on_case : (h : List BoardEntry) (id : List ℕ) (o : Option Call) → find_call h id ≡ o → (target_in h id o).begins ≡ false → GoesOn h id (target_in h id o)
on_case h id None is old = absurd (let e = old in cc)
on_case h id (Some of) is old = record { found = is; is_live = found_live h id of is; rounds_are = refl }

new_case : (h : List BoardEntry) (id : List ℕ) (o : Option Call) → find_call h id ≡ o → (target_in h id o).begins ≡ true → BeginsNew h id (target_in h id o)
new_case h id None is new = record { none = is; of_is = refl; no_rounds = refl }
new_case h id (Some of) is new = absurd (let e = new in cc)

pub goes_on_with : (config : Config) (h : List BoardEntry) (id : List ℕ) → (target (view_of config h) id).begins ≡ false → GoesOn h id (target (view_of config h) id)
goes_on_with config h id old =
    subst (λ (t : Target). t.begins ≡ false → GoesOn h id t) (sym (target_is config h id)) (on_case h id (find_call h id) refl) old

pub begins_new : (config : Config) (h : List BoardEntry) (id : List ℕ) → (target (view_of config h) id).begins ≡ true → BeginsNew h id (target (view_of config h) id)
begins_new config h id new =
    subst (λ (t : Target). t.begins ≡ true → BeginsNew h id t) (sym (target_is config h id)) (new_case h id (find_call h id) refl) new
