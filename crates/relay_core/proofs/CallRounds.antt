-- The rounds of each call of a board are as they come about.
use Rattle.std.proofs.Common.{◌≡◌, ◌∙◌, sym, ap, subst, refl, ℕ, ◌+◌, ◌<◌, ◌≤◌, inl, inr, List, [], ◌∷◌, ◌++◌, Bool, true, false, cond, not, Option, map, filter, length, length-append, ◌==◌, arith}
use Rattle.relay_outside.specs.declared.settings.Config.{Config}
use Rattle.histories.specs.Words.{In, has}
use Rattle.histories.proofs.Lists.{in_append, in_left, in_right, filtered, equal, equal_if}
use Rattle.port_pool.specs.declared.holder.Side.{Side}
use Rattle.port_pool.specs.declared.holder.Holder.{Holder}
use Rattle.port_pool.specs.Signals.{NewKey, same_leg, is_rejected}
use Rattle.offer_answer.specs.Rounds.{Round, OfferAsk, AnswerAsk, NewLeg, KeyPlace, Demand}
use Rattle.offer_answer.specs.Rounds as round
use Rattle.offer_answer.specs.Sections.{most_sections, section_count, leased_for}
use Rattle.offer_answer.specs.Plan as plan
use Rattle.offer_answer.specs.Laws.{leg_place, new_leg_place, key_place, IsOfferRound, IsAnswerRound}
use Rattle.call_cell.specs.Cells.{legs}
use Rattle.call_cell.proofs.Legs.{same_leg_is}
use Rattle.call_cell.proofs.Joined.{map_map}
use Rattle.call_board.specs.Acts as act
use Rattle.call_board.specs.Acts.{Call, Act, Control, BoardEvent, Turn, BoardEntry}
use Rattle.call_board.specs.Calls.{begun, begun_by_act, find_call, rounds, rounds_of_call, round_of}
use Rattle.call_board.specs.Pairs.{next_generation, drawn_keys_from, drawn}
use Rattle.call_board.specs.Answers.{answer_ask}
use Rattle.call_board.specs.Fits.{FitsBoard, FitsAt, FitsControl, IsFitting, ReadsRequest, ReadsAnswerOf, is_request_read}
use Rattle.call_board.proofs.Moments.{now, after}
use Rattle.call_board.proofs.Told.{IsTurn, IsCallOf, begins, goes_on, IsOffer}
use Rattle.call_board.proofs.Tells.{offer_told, answer_told}
use Rattle.call_board.proofs.Calls.{begun_below, live_begun, offered_live}
use Rattle.call_board.proofs.Leases.{leg_generation, leg_below_next, generations_rise}
use Rattle.call_board.proofs.Demands.{Place, of_leg, of_new_leg, legs_demanded}
use Rattle.relay_core.proofs.Rounded.{entries_of, AreGood}
use Rattle.relay_core.proofs.Asks.{IsItsCall, is_new, is_found, control_offers, control_answers, offers_few}

-- What an entry adds to the rounds of a call.
pub data MoreRounds (h : List BoardEntry) (x : BoardEntry) (number : ℕ) : Type 0 where
  none : rounds (x ∷ h) number ≡ rounds h number → MoreRounds h x number
  by_offer : (p : act.Offer) → act.act x ≡ act.Offered p → p.of.number ≡ number
      → rounds (x ∷ h) number ≡ round.Offered p.ask p.legs p.keys ∷ rounds h number → MoreRounds h x number
  by_answer : (a : act.Answer) → act.act x ≡ act.Answered a → a.of.number ≡ number
      → rounds (x ∷ h) number ≡ round.Answered a.ask ∷ rounds h number → MoreRounds h x number

more_offer : (h : List BoardEntry) (x : BoardEntry) (number : ℕ) (p : act.Offer) → act.act x ≡ act.Offered p → (b : Bool) → (p.of.number == number) ≡ b → MoreRounds h x number
more_offer h x number p q true m =
    by_offer p q (equal_if p.of.number number m)
    (ap (λ (a : Act). round_of number a ++ rounds h number) q ∙ ap (λ (b : Bool). cond b (round.Offered p.ask p.legs p.keys ∷ []) [] ++ rounds h number) m)
more_offer h x number p q false m =
    none (ap (λ (a : Act). round_of number a ++ rounds h number) q ∙ ap (λ (b : Bool). cond b (round.Offered p.ask p.legs p.keys ∷ []) [] ++ rounds h number) m)

more_answer : (h : List BoardEntry) (x : BoardEntry) (number : ℕ) (a : act.Answer) → act.act x ≡ act.Answered a → (b : Bool) → (a.of.number == number) ≡ b → MoreRounds h x number
more_answer h x number a q true m =
    by_answer a q (equal_if a.of.number number m)
    (ap (λ (d : Act). round_of number d ++ rounds h number) q ∙ ap (λ (b : Bool). cond b (round.Answered a.ask ∷ []) [] ++ rounds h number) m)
more_answer h x number a q false m =
    none (ap (λ (d : Act). round_of number d ++ rounds h number) q ∙ ap (λ (b : Bool). cond b (round.Answered a.ask ∷ []) [] ++ rounds h number) m)

more_by : (h : List BoardEntry) (x : BoardEntry) (number : ℕ) (a : Act) → act.act x ≡ a → MoreRounds h x number
more_by h x number (act.Offered p) q = more_offer h x number p q (p.of.number == number) refl
more_by h x number (act.Answered a) q = more_answer h x number a q (a.of.number == number) refl
more_by h x number act.Repeated q = none (ap (λ (d : Act). round_of number d ++ rounds h number) q)
more_by h x number act.OutOfMemory q = none (ap (λ (d : Act). round_of number d ++ rounds h number) q)
more_by h x number (act.Failed code) q = none (ap (λ (d : Act). round_of number d ++ rounds h number) q)
more_by h x number (act.Undone code leases draws) q = none (ap (λ (d : Act). round_of number d ++ rounds h number) q)
more_by h x number (act.Deleted of) q = none (ap (λ (d : Act). round_of number d ++ rounds h number) q)
more_by h x number (act.Queried of) q = none (ap (λ (d : Act). round_of number d ++ rounds h number) q)
more_by h x number act.Told q = none (ap (λ (d : Act). round_of number d ++ rounds h number) q)
more_by h x number (act.Delayed of s) q = none (ap (λ (d : Act). round_of number d ++ rounds h number) q)

pub more_rounds : (h : List BoardEntry) (x : BoardEntry) (number : ℕ) → MoreRounds h x number
more_rounds h x number = more_by h x number (act.act x) refl

pub rounds_offer : (h : List BoardEntry) (x : BoardEntry) (p : act.Offer) → act.act x ≡ act.Offered p
    → rounds (x ∷ h) p.of.number ≡ round.Offered p.ask p.legs p.keys ∷ rounds h p.of.number
rounds_offer h x p q =
    ap (λ (a : Act). round_of p.of.number a ++ rounds h p.of.number) q
    ∙ ap (λ (b : Bool). cond b (round.Offered p.ask p.legs p.keys ∷ []) [] ++ rounds h p.of.number) (equal p.of.number p.of.number refl)

pub rounds_answer : (h : List BoardEntry) (x : BoardEntry) (a : act.Answer) → act.act x ≡ act.Answered a
    → rounds (x ∷ h) a.of.number ≡ round.Answered a.ask ∷ rounds h a.of.number
rounds_answer h x a q =
    ap (λ (d : Act). round_of a.of.number d ++ rounds h a.of.number) q
    ∙ ap (λ (b : Bool). cond b (round.Answered a.ask ∷ []) [] ++ rounds h a.of.number) (equal a.of.number a.of.number refl)

-- A call that wasn't begun has no rounds.

begun_grows : (h : List BoardEntry) (x : BoardEntry) → length (begun h) ≤ length (begun (x ∷ h))
begun_grows h x = let both = length-append (begun h) (begun_by_act (act.act x)) in omega (arith, both)

no_case : (config : Config) (h : List BoardEntry) (x : BoardEntry) (number : ℕ) → IsFitting config h → FitsBoard config h x → length (begun (x ∷ h)) ≤ number
    → rounds h number ≡ [] → MoreRounds h x number → rounds (x ∷ h) number ≡ []
no_case config h x number good fits low rest (none q) = q ∙ rest
no_case config h x number good fits low rest (by_offer p q m s) =
    let below = begun_below config (x ∷ h) p.of (fits, good) (live_begun (x ∷ h) p.of (offered_live config h x p good fits q)) in
    absurd (omega (arith, below, low, m))
no_case config h x number good fits low rest (by_answer a q m s) =
    let shown = answer_told config h x a fits q in
    let below = begun_below config h a.of good (live_begun h a.of shown.is_live) in
    let grows = begun_grows h x in
    absurd (omega (arith, below, low, m, grows))

pub no_rounds : (config : Config) (h : List BoardEntry) (number : ℕ) → IsFitting config h → length (begun h) ≤ number → rounds h number ≡ []
no_rounds config [] number good low = refl
no_rounds config (x ∷ h) number good low =
    let grows = begun_grows h x in
    no_case config h x number good.1 good.0 low (no_rounds config h number good.1 (omega (arith, low, grows))) (more_rounds h x number)

pub its_rounds : (config : Config) (h : List BoardEntry) (id : List ℕ) (of : Call) → IsFitting config h → IsItsCall h id of
    → rounds_of_call h (find_call h id) ≡ rounds h of.number
its_rounds config h id of good (is_found q) = ap (rounds_of_call h) q
its_rounds config h id of good (is_new q is) =
    let number : of.number ≡ length (begun h) = ap (λ (c : Call). c.number) is in
    ap (rounds_of_call h) q ∙ sym (no_rounds config h of.number good (omega (arith, number)))

-- The rounds of an offer and of an answer.

abbrev turn_fits : (config : Config) (h : List BoardEntry) (x : BoardEntry) (a : Act) → FitsBoard config h x → (t : IsTurn x a) → FitsControl config h x.moment t.control
turn_fits config h x a fits t = subst (λ (v : BoardEvent). FitsAt config h x.moment v) t.is_turn fits

keys_placed : (n : ℕ) (draws : List (List ℕ)) (places : List KeyPlace) → length draws ≡ length places → map key_place (drawn_keys_from n draws places) ≡ places
keys_placed n [] [] same = refl
keys_placed n [] (place ∷ places) same = absurd (let e = same in omega (arith, e))
keys_placed n (bytes ∷ draws) [] same = absurd (let e = same in omega (arith, e))
keys_placed n (bytes ∷ draws) (place ∷ places) same =
    ap (λ (rest : List KeyPlace). place ∷ rest) (keys_placed (n + 1) draws places (let e = same in omega (arith, e)))

as_pair : Place → ℕ × Side
as_pair p = (p.section, p.side)

legs_placed : (config : Config) (h : List BoardEntry) (x : BoardEntry) (p : act.Offer) → (shown : IsOffer config h x p)
    → map leg_place p.legs ≡ map new_leg_place shown.demand.pairs
unfolding as_pair
legs_placed config h x p shown =
    sym (map_map as_pair of_leg p.legs) ∙ ap (λ (ps : List Place). map as_pair ps) (legs_demanded config h x p shown) ∙ map_map as_pair of_new_leg shown.demand.pairs

-- an accepted offer after the rounds of its call
pub record IsRoundOf (config : Config) (h : List BoardEntry) (p : act.Offer) : Type 0 where
  pub comes : IsOfferRound (rounds h p.of.number) p.ask p.legs p.keys
  pub few : section_count p.ask.sdp ≤ most_sections
  pub dropped_are : p.dropped ≡ (plan.demand (rounds h p.of.number) p.ask).dropped

pub told_call : (config : Config) (h : List BoardEntry) (x : BoardEntry) (p : act.Offer) → (shown : IsOffer config h x p) → IsItsCall h shown.id p.of
told_call config h x p shown = go shown.call_is
  where
    go : IsCallOf config h shown.id p → IsItsCall h shown.id p.of
    go (begins b new nothing room) = is_new nothing new
    go (goes_on b found alive) = is_found found

pub offer_round : (config : Config) (h : List BoardEntry) (x : BoardEntry) (p : act.Offer) → IsFitting config h → FitsBoard config h x → act.act x ≡ act.Offered p
    → IsRoundOf config h p
offer_round config h x p good fits q =
    let shown = offer_told config h x p fits q in
    let s = control_offers config h x.moment shown.turn.control p (turn_fits config h x (act.Offered p) fits shown.turn) shown.turn.acts in
    let demand_is : shown.demand ≡ plan.demand (rounds h p.of.number) p.ask
    = shown.demand_is ∙ ap (λ (rs : List Round). plan.demand rs p.ask) (its_rounds config h shown.id p.of good (told_call config h x p shown)) in
    let few = offers_few config shown.turn.control.too_long shown.turn.control.pairs s.id s.from_tag s.sdp s.options s.asks in
    record {
      comes = record {
        no_fault = ap (λ (rs : List Round). plan.offer_fault rs p.ask) (sym (its_rounds config h s.id p.of good s.call_is)) ∙ s.no_fault;
        leased = legs_placed config h x p shown ∙ ap (λ (d : Demand). map new_leg_place d.pairs) demand_is;
        drawn = ap (λ (ks : List NewKey). map key_place ks) shown.keys_are
            ∙ keys_placed (length (drawn h)) shown.draws shown.demand.keys shown.as_many ∙ ap (λ (d : Demand). d.keys) demand_is;
      };
      few = subst (λ (a : OfferAsk). section_count a.sdp ≤ most_sections) (sym s.ask_is) few;
      dropped_are = shown.dropped_are ∙ ap (λ (d : Demand). d.dropped) demand_is;
    }

pub answer_round : (config : Config) (h : List BoardEntry) (x : BoardEntry) (a : act.Answer) → FitsBoard config h x → act.act x ≡ act.Answered a
    → IsAnswerRound (rounds h a.of.number) a.ask
answer_round config h x a fits q =
    let shown = answer_told config h x a fits q in
    let c = shown.turn.control in
    let control = turn_fits config h x (act.Answered a) fits shown.turn in
    let s = control_answers config h x.moment c a control shown.turn.acts in
    let heard = subst (λ r. ReadsRequest h c r) s.asks (control.hears (ap is_request_read shown.turn.acts)) in
    let heard_found = subst (λ (o : Option Call). ReadsAnswerOf h (answer_ask s.from_tag s.to_tag s.sdp s.options c.chosen) o) s.found heard in
    record {
      no_fault = s.no_fault;
      heard = subst (λ (k : AnswerAsk). plan.AnswerRead (rounds h a.of.number) k) (sym s.ask_is) heard_found;
    }

-- Leases.

-- the legs that a cell has were leased
pub legs_leased : (number : ℕ) (rs : List Round) (leg : Holder) → In leg (legs (entries_of number rs)) → In leg (leased_for rs)
legs_leased number [] leg i = elim i [ ]
legs_leased number (round.Offered ask new keys ∷ rs) leg i =
    let stay : Holder → Bool = λ (y : Holder). not (has (plan.demand rs ask).dropped y.section) in
    elim (in_append (filter stay (legs (entries_of number rs))) new i) [
      | inl j ↦ in_right new (leased_for rs) (legs_leased number rs leg (filtered stay (legs (entries_of number rs)) j).0)
      | inr j ↦ in_left new (leased_for rs) j
    ]
legs_leased number (round.Answered ask ∷ rs) leg i =
    let stay : Holder → Bool = λ (y : Holder). not (is_rejected (plan.signal rs ask) y.section) in
    elim (in_append (filter stay (legs (entries_of number rs))) [] i) [
      | inl j ↦ legs_leased number rs leg (filtered stay (legs (entries_of number rs)) j).0
      | inr j ↦ elim j [ ]
    ]

low_more : (h : List BoardEntry) (x : BoardEntry) (a : Holder) → a.generation < next_generation h a.pair → a.generation < next_generation (x ∷ h) a.pair
low_more h x a low = let rise = generations_rise h (x ∷ h) a.pair (after (now refl)) in omega (arith, rise, low)

low_case : (config : Config) (h : List BoardEntry) (x : BoardEntry) (number : ℕ) (a : Holder) → FitsBoard config h x
    → (In a (leased_for (rounds h number)) → a.generation < next_generation h a.pair) → MoreRounds h x number
    → In a (leased_for (rounds (x ∷ h) number)) → a.generation < next_generation (x ∷ h) a.pair
low_case config h x number a fits rest (none q) i = low_more h x a (rest (subst (λ (rs : List Round). In a (leased_for rs)) q i))
low_case config h x number a fits rest (by_offer p q m s) i =
    elim (in_append p.legs (leased_for (rounds h number)) (subst (λ (rs : List Round). In a (leased_for rs)) s i)) [
      | inl j ↦ leg_below_next config h x p a fits q j
      | inr j ↦ low_more h x a (rest j)
    ]
low_case config h x number a fits rest (by_answer b q m s) i = low_more h x a (rest (subst (λ (rs : List Round). In a (leased_for rs)) s i))

leased_low : (config : Config) (h : List BoardEntry) (number : ℕ) (a : Holder) → IsFitting config h → In a (leased_for (rounds h number))
    → a.generation < next_generation h a.pair
leased_low config [] number a good i = elim i [ ]
leased_low config (x ∷ h) number a good i =
    low_case config h x number a good.0 (leased_low config h number a good.1) (more_rounds h x number) i

-- an offer's legs have other leases than those that its cell has
pub lease_anew : (config : Config) (h : List BoardEntry) (x : BoardEntry) (p : act.Offer) → IsFitting config h → FitsBoard config h x → act.act x ≡ act.Offered p
    → (leg other : Holder) → In leg p.legs → In other (legs (entries_of p.of.number (rounds h p.of.number))) → same_leg other leg ≡ true → ⊥
lease_anew config h x p good fits q leg other i j same =
    let s = same_leg_is other leg same in
    let low = leased_low config h p.of.number other good (legs_leased p.of.number (rounds h p.of.number) other j) in
    let is = leg_generation config h x p leg fits q i in
    let next : next_generation h other.pair ≡ next_generation h leg.pair = ap (λ (n : ℕ). next_generation h n) s.1 in
    let generations = s.2 in
    omega (arith, low, is, next, generations)

-- Rounds as they come about.

good_case : (config : Config) (h : List BoardEntry) (x : BoardEntry) (number : ℕ) → IsFitting config h → FitsBoard config h x → AreGood number (rounds h number)
    → MoreRounds h x number → AreGood number (rounds (x ∷ h) number)
good_case config h x number good fits g (none q) = subst (λ (rs : List Round). AreGood number rs) (sym q) g
good_case config h x number good fits g (by_offer p q m s) =
    let r = offer_round config h x p good fits q in
    let comes = subst (λ (n : ℕ). IsOfferRound (rounds h n) p.ask p.legs p.keys) m r.comes in
    let new : (leg other : Holder) → In leg p.legs → In other (legs (entries_of number (rounds h number))) → same_leg other leg ≡ true → ⊥
    = subst (λ (n : ℕ). (leg other : Holder) → In leg p.legs → In other (legs (entries_of n (rounds h n))) → same_leg other leg ≡ true → ⊥) m
    (lease_anew config h x p good fits q) in
    subst (λ (rs : List Round). AreGood number rs) (sym s) (record { come = (comes, g.come); few = (r.few, g.few); anew = (new, g.anew) })
good_case config h x number good fits g (by_answer a q m s) =
    let comes = subst (λ (n : ℕ). IsAnswerRound (rounds h n) a.ask) m (answer_round config h x a fits q) in
    subst (λ (rs : List Round). AreGood number rs) (sym s) (record { come = (comes, g.come); few = g.few; anew = g.anew })

pub good_rounds : (config : Config) (h : List BoardEntry) (number : ℕ) → IsFitting config h → AreGood number (rounds h number)
good_rounds config [] number good = record { come = tt; few = tt; anew = tt }
good_rounds config (x ∷ h) number good =
    good_case config h x number good.1 good.0 (good_rounds config h number good.1) (more_rounds h x number)
