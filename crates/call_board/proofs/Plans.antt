-- The reply to an offer, by its plan and by what it lacks.
use Rattle.std.proofs.Common.{◌≡◌, ◌≢◌, ◌∙◌, refl, ap, sym, ℕ, ◌+◌, ◌-◌, ◌<◌, Bool, true, false, not, List, length, map, ◌⊎◌, inl, inr, Option, Some, None, arith, get_or, if◌then◌else◌}
use Rattle.std.specs.Prelude.{◌&&◌, ◌||◌, nat_le, nat_lt, position, is_some, count_by, Err}
use Rattle.std.specs.List.{position_or_len}
use Rattle.std.proofs.lemmas.List.Sums.{position_or_len_is}
use Rattle.std.proofs.lemmas.Bool.Decides.{nat_tests}
use Rattle.relay_outside.specs.declared.address.Family.{Family}
use Rattle.relay_outside.specs.declared.address.Family.TheVariants.{V4, V6}
use Rattle.relay_outside.specs.declared.settings.Config.{Config}
use Rattle.ng_reply.specs.declared.code.ErrorCode.{ErrorCode}
use Rattle.ng_reply.specs.declared.code.ErrorCode.TheVariants.{E13, E14, E19}
use Rattle.histories.specs.Words.{In, has, or_else}
use Rattle.histories.proofs.Lists.{it_has, has_it}
use Rattle.port_pool.specs.Ports.{family_eq, pairs_of_family}
use Rattle.port_pool.specs.Pools.{free_pairs}
use Rattle.offer_answer.specs.Rounds.{Round, OfferAsk, AnswerAsk, NewLeg, Demand}
use Rattle.offer_answer.specs.Plan as plan
use Rattle.offer_answer.specs.Offers.{PlanFor, legs_demanded}
use Rattle.offer_answer.specs.Plans.{OfferAnswered, AnswerAnswered}
use Rattle.offer_answer.specs.declared.plan.Plan.{Plan}
use Rattle.offer_answer.specs.declared.fault.OaFault.{OaFault}
use Rattle.offer_answer.specs.declared.fault.OaFault.TheVariants as oa
use Rattle.call_board.specs.declared.board.Board.{Board}
use Rattle.call_board.specs.declared.fault.BoardFault.TheVariants as faults
use Rattle.call_board.specs.Calls.{lowest_but}
use Rattle.call_board.specs.Pairs.{is_short, is_short_of}
use Rattle.call_board.specs.Views.{View, CallView}
use Rattle.call_board.specs.Boards.{BoardMatches}
use Rattle.call_board.specs.Plans.{board_fault, board_code, shortage, fault_or_shortage, refusal, answer_refusal, target_by}
use Rattle.call_board.specs.Answers.{ending_error}
use Rattle.call_board.proofs.Lowest.{lowest_is, lowest_bound}
use Rattle.call_board.proofs.Shown.{calls_count}

-- a fault of the plan is the answer
pub refused_by : (config : Config) (v : View) (begins : Bool) (rounds : List Round) (ask : OfferAsk) (fault : OaFault) → OfferAnswered config rounds ask (Err fault) →
    board_fault fault ≢ faults.OutOfMemory → fault_or_shortage config v begins rounds ask ≡ board_code (board_fault fault)
refused_by config v begins rounds ask oa.UnknownTag answered n =
    ap (λ (o : Option ErrorCode). or_else o (shortage config v begins rounds ask)) (answered (λ e. let f : oa.UnknownTag ≡ oa.OutOfMemory = e in cc))
refused_by config v begins rounds ask oa.OtherSide answered n =
    ap (λ (o : Option ErrorCode). or_else o (shortage config v begins rounds ask)) (answered (λ e. let f : oa.OtherSide ≡ oa.OutOfMemory = e in cc))
refused_by config v begins rounds ask oa.MediaCount answered n =
    ap (λ (o : Option ErrorCode). or_else o (shortage config v begins rounds ask)) (answered (λ e. let f : oa.MediaCount ≡ oa.OutOfMemory = e in cc))
refused_by config v begins rounds ask oa.Family answered n =
    ap (λ (o : Option ErrorCode). or_else o (shortage config v begins rounds ask)) (answered (λ e. let f : oa.Family ≡ oa.OutOfMemory = e in cc))
refused_by config v begins rounds ask oa.NoCrypto answered n =
    ap (λ (o : Option ErrorCode). or_else o (shortage config v begins rounds ask)) (answered (λ e. let f : oa.NoCrypto ≡ oa.OutOfMemory = e in cc))
refused_by config v begins rounds ask oa.OutOfMemory answered n = absurd (n refl)

-- without a fault, what is short is the answer
refusal_is : (config : Config) (v : View) (begins : Bool) (rounds : List Round) (ask : OfferAsk) (full short : Bool) → plan.offer_fault rounds ask ≡ None →
    (begins && nat_le config.max_sessions (length v.calls)) ≡ full → is_short (pairs_of_family config v.free) (plan.demand rounds ask).pairs ≡ short →
    fault_or_shortage config v begins rounds ask ≡ (if full then Some E14 else if short then Some E13 else None)
refusal_is config v begins rounds ask full short fine is_full lacks =
    ap (λ (o : Option ErrorCode). or_else o (shortage config v begins rounds ask)) fine
    ∙ ap (λ (b : Bool). if b then Some E14 else if is_short (pairs_of_family config v.free) (plan.demand rounds ask).pairs then Some E13 else None) is_full
    ∙ ap (λ (b : Bool). if full then Some E14 else if b then Some E13 else None) lacks

short_alike : (some others : Family → List ℕ) (legs : List NewLeg) → ((family : Family) → some family ≡ others family) → is_short some legs ≡ is_short others legs
short_alike some others legs same =
    ap (λ (pairs : List ℕ). nat_lt (length pairs) (count_by (λ (leg : NewLeg). family_eq leg.family V4) legs) || is_short_of some legs V6) (same V4)
    ∙ ap (λ (pairs : List ℕ). is_short_of others legs V4 || nat_lt (length pairs) (count_by (λ (leg : NewLeg). family_eq leg.family V6) legs)) (same V6)

-- the board's tests, and what they say of what it keeps
is_full_by : (config : Config) (board : Board) (v : View) (b : Bool) → BoardMatches config board v → nat_le board.config.max_sessions (length board.calls.list) ≡ b →
    nat_le config.max_sessions (length v.calls) ≡ b
is_full_by config board v b s e =
    sym (ap (λ (c : Config). nat_le c.max_sessions (length v.calls)) s.config_is)
    ∙ sym (ap (λ n. nat_le board.config.max_sessions n) (calls_count config board.calls.list v.calls s.calls_for)) ∙ e

lacks_by : (config : Config) (board : Board) (v : View) (p : Plan) (asked : Demand) (b : Bool) → BoardMatches config board v → PlanFor p asked →
    is_short (free_pairs board.pool) (legs_demanded p) ≡ b → is_short (pairs_of_family config v.free) asked.pairs ≡ b
lacks_by config board v p asked b s for e =
    sym (short_alike (free_pairs board.pool) (pairs_of_family config v.free) asked.pairs s.pool_for.free_is)
    ∙ ap (is_short (free_pairs board.pool)) (sym for.pairs_are) ∙ e

pub answers_full : (config : Config) (board : Board) (v : View) (rounds : List Round) (ask : OfferAsk) → BoardMatches config board v → plan.offer_fault rounds ask ≡ None →
    nat_le board.config.max_sessions (length board.calls.list) ≡ true → fault_or_shortage config v true rounds ask ≡ Some E14
answers_full config board v rounds ask s fine full =
    refusal_is config v true rounds ask true (is_short (pairs_of_family config v.free) (plan.demand rounds ask).pairs) fine (is_full_by config board v true s full) refl

both_false : (begins full : Bool) → (begins ≡ false) ⊎ (full ≡ false) → (begins && full) ≡ false
both_false false full o = refl
both_false true full (inl e) = absurd (let f = e in cc)
both_false true full (inr e) = e

pub answers_short : (config : Config) (board : Board) (v : View) (begins : Bool) (rounds : List Round) (ask : OfferAsk) (p : Plan) → BoardMatches config board v →
    (plan.offer_fault rounds ask ≡ None) × PlanFor p (plan.demand rounds ask) →
    (begins ≡ false) ⊎ (nat_le board.config.max_sessions (length board.calls.list) ≡ false) →
    is_short (free_pairs board.pool) (legs_demanded p) ≡ true → fault_or_shortage config v begins rounds ask ≡ Some E13
answers_short config board v begins rounds ask p s made room short =
    refusal_is config v begins rounds ask false true made.0
    (both_false begins (nat_le config.max_sessions (length v.calls)) (room_by room)) (lacks_by config board v p (plan.demand rounds ask) true s made.1 short)
  where
    room_by : (begins ≡ false) ⊎ (nat_le board.config.max_sessions (length board.calls.list) ≡ false) → (begins ≡ false) ⊎ (nat_le config.max_sessions (length v.calls) ≡ false)
    room_by (inl e) = inl e
    room_by (inr e) = inr (is_full_by config board v false s e)

pub answers_none : (config : Config) (board : Board) (v : View) (begins : Bool) (rounds : List Round) (ask : OfferAsk) (p : Plan) → BoardMatches config board v →
    (plan.offer_fault rounds ask ≡ None) × PlanFor p (plan.demand rounds ask) →
    (begins ≡ false) ⊎ (nat_le board.config.max_sessions (length board.calls.list) ≡ false) →
    is_short (free_pairs board.pool) (legs_demanded p) ≡ false → fault_or_shortage config v begins rounds ask ≡ None
answers_none config board v begins rounds ask p s made room short =
    refusal_is config v begins rounds ask false false made.0
    (both_false begins (nat_le config.max_sessions (length v.calls)) (room_by room)) (lacks_by config board v p (plan.demand rounds ask) false s made.1 short)
  where
    room_by : (begins ≡ false) ⊎ (nat_le board.config.max_sessions (length board.calls.list) ≡ false) → (begins ≡ false) ⊎ (nat_le config.max_sessions (length v.calls) ≡ false)
    room_by (inl e) = inl e
    room_by (inr e) = inr (is_full_by config board v false s e)

-- Calls that are ending.

-- what the board's mark says of a call
pub marked_by : {mark due : Option ℕ} {b c : Bool} → mark ≡ due → b ≡ is_some mark → b ≡ c → is_some due ≡ c
marked_by {mark} {due} {b} {c} same asked is = sym (ap is_some same) ∙ sym asked ∙ is

-- a call that isn't ending refuses by what the offer has or lacks
pub unless_ending : (config : Config) (v : View) (id : List ℕ) (c : CallView) (ask : OfferAsk) (o : Option ErrorCode) → is_some c.due ≡ false →
    fault_or_shortage config v false c.rounds ask ≡ o → refusal config v (target_by v id (Some c)) ask ≡ o
unless_ending config v id c ask o is refused = ap (λ (b : Bool). or_else (ending_error b) (fault_or_shortage config v false c.rounds ask)) is ∙ refused

pub when_ending : (config : Config) (v : View) (id : List ℕ) (c : CallView) (ask : OfferAsk) → is_some c.due ≡ true → refusal config v (target_by v id (Some c)) ask ≡ Some E19
when_ending config v id c ask is = ap (λ (b : Bool). or_else (ending_error b) (fault_or_shortage config v false c.rounds ask)) is

pub answer_unless_ending : (c : CallView) (ask : AnswerAsk) (o : Option ErrorCode) → is_some c.due ≡ false → plan.answer_fault c.rounds ask ≡ o → answer_refusal c ask ≡ o
answer_unless_ending c ask o is refused = ap (λ (b : Bool). or_else (ending_error b) (plan.answer_fault c.rounds ask)) is ∙ refused

pub answer_when_ending : (c : CallView) (ask : AnswerAsk) → is_some c.due ≡ true → answer_refusal c ask ≡ Some E19
answer_when_ending c ask is = ap (λ (b : Bool). or_else (ending_error b) (plan.answer_fault c.rounds ask)) is

-- The lowest cell.

abbrev pub cells_of : View → List ℕ
cells_of v = map (λ (c : CallView). c.of.cell) v.calls

free_here : (b : Bool) (cells : List ℕ) (n : ℕ) → has cells n ≡ b → (In n cells → ⊥) → b ≡ false
free_here true cells n e out = absurd (out (has_it n cells e))
free_here false cells n e out = refl

pub lowest_place : (taken : List Bool) (cells : List ℕ) (max : ℕ) → length taken ≡ max →
    ((k : ℕ) (d : Bool) → k < length taken → get_or taken k d ≡ has cells (1 + k)) → length cells < max →
    position_or_len not taken + 1 ≡ lowest_but cells
lowest_place taken cells max count are room =
    let l = lowest_is cells in
    let bound = lowest_bound cells in
    let positive = l.positive in
    let low = lowest_but cells - 1 in
    let inside : low < length taken = omega (arith, bound, positive, count, room) in
    let back : 1 + low ≡ lowest_but cells = omega (arith, positive) in
    let at = position_or_len_is not taken low true (omega (arith, inside))
    (λ k lt. ap not (are k true (omega (arith, lt, inside)) ∙ it_has (1 + k) cells (l.full (1 + k) (omega arith) (omega (arith, lt, back)))))
    (λ lt. ap not (are low true lt ∙ ap (has cells) back ∙ free_here (has cells (lowest_but cells)) cells (lowest_but cells) refl l.fresh)) in
    omega (arith, at, back)

not_full : (config : Config) (board : Board) (v : View) → BoardMatches config board v → nat_le board.config.max_sessions (length board.calls.list) ≡ false → length v.calls < config.max_sessions
not_full config board v s e = below config.max_sessions (length v.calls) (is_full_by config board v false s e)
  where
    below : (m n : ℕ) → nat_le m n ≡ false → n < m
    below m n e = grind (arith, nat_tests)

pub has_session : (config : Config) (board : Board) (v : View) → BoardMatches config board v → nat_le board.config.max_sessions (length board.calls.list) ≡ false → length v.calls < config.max_sessions
has_session = not_full

pub some_if : (b : Bool) (n : ℕ) → b ≡ true → (if b then Some n else None) ≡ Some n
some_if true n e = refl
some_if false n e = absurd (let f = e in cc)

pub is_below : (n m : ℕ) → n < m → nat_lt n m ≡ true
is_below n m lt = grind (arith, nat_tests)

-- a place that isn't taken, and the cell of that place
pub record IsLowestPlace (taken : List Bool) (cells : List ℕ) (max : ℕ) : Type 0 where
  pub place : ℕ
  pub found : position not taken ≡ Some place
  pub cell_is : place + 1 ≡ lowest_but cells
  pub inside : place < max

pub lowest_free : (taken : List Bool) (cells : List ℕ) (max : ℕ) → length taken ≡ max →
    ((k : ℕ) (d : Bool) → k < length taken → get_or taken k d ≡ has cells (1 + k)) → length cells < max → IsLowestPlace taken cells max
lowest_free taken cells max count are room =
    let at = lowest_place taken cells max count are room in
    let bound = lowest_bound cells in
    let inside : position_or_len not taken < length taken = omega (arith, at, bound, count, room) in record {
      place = position_or_len not taken;
      found = some_if (nat_lt (position_or_len not taken) (length taken)) (position_or_len not taken) (is_below (position_or_len not taken) (length taken) inside);
      cell_is = at;
      inside = omega (arith, inside, count);
    }

-- a fault of an answer's plan is the answer
pub answer_refused_by : (rounds : List Round) (ask : AnswerAsk) (lines : List (List ℕ)) (config : Config) (fault : OaFault) → AnswerAnswered config rounds ask lines (Err fault) →
    board_fault fault ≢ faults.OutOfMemory → plan.answer_fault rounds ask ≡ board_code (board_fault fault)
answer_refused_by rounds ask lines config oa.UnknownTag answered n = answered (λ e. let f : oa.UnknownTag ≡ oa.OutOfMemory = e in cc)
answer_refused_by rounds ask lines config oa.OtherSide answered n = answered (λ e. let f : oa.OtherSide ≡ oa.OutOfMemory = e in cc)
answer_refused_by rounds ask lines config oa.MediaCount answered n = answered (λ e. let f : oa.MediaCount ≡ oa.OutOfMemory = e in cc)
answer_refused_by rounds ask lines config oa.Family answered n = answered (λ e. let f : oa.Family ≡ oa.OutOfMemory = e in cc)
answer_refused_by rounds ask lines config oa.NoCrypto answered n = answered (λ e. let f : oa.NoCrypto ≡ oa.OutOfMemory = e in cc)
answer_refused_by rounds ask lines config oa.OutOfMemory answered n = absurd (n refl)
