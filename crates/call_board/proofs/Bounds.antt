-- How often a pair is leased, how many keys are drawn and how many calls are begun: a few at each entry.
use Rattle.std.proofs.Common.{◌≡◌, refl, ap, subst, ℕ, suc, ◌+◌, ◌*◌, ◌^◌, ◌≤◌, ◌<◌, ◌⊎◌, inl, inr, List, [], ◌∷◌, filter, length, Bool, true, false, cond, not, ◌==◌, Option, Some, None, Result, Ok, Err, arith, length-append, mul-suc}
use Rattle.std.specs.Prelude.{count_by, ◌&&◌, is_none, nat_lt}
use Rattle.std.specs.List.{flat_map, list_any}
use Rattle.std.proofs.lemmas.List.{length-map, get_or_past}
use Rattle.std.proofs.lemmas.List.Sums.{sum_by-append}
use Rattle.std.proofs.lemmas.Bool.Decides.{nat_tests}
use Rattle.relay_outside.specs.declared.settings.Config.{Config}
use Rattle.sdp_text.specs.Lines.{lines_of}
use Rattle.sdp_text.specs.Descriptions.{fault_in, v6_line_in}
use Rattle.sdp_text.specs.declared.fault.SdpFault.{SdpFault}
use Rattle.ng_bencode.specs.Tree.{Entries}
use Rattle.ng_command.specs.declared.command.Options.{Options}
use Rattle.ng_command.specs.Meanings as said
use Rattle.ng_command.specs.Meanings.{Said}
use Rattle.ng_reply.specs.declared.code.ErrorCode.{ErrorCode}
use Rattle.sdes_lines.specs.declared.crypto_line.Suite.{Suite}
use Rattle.sdes_lines.specs.declared.crypto_line.Suite.TheVariants.{Tag80, Tag32}
use Rattle.sdes_lines.specs.declared.crypto_line.CryptoLine.{CryptoLine}
use Rattle.histories.specs.Words.{or_else}
use Rattle.histories.proofs.Lists.{equal_if}
use Rattle.port_pool.specs.Ports.{pair_count}
use Rattle.port_pool.specs.Pools.{generation}
use Rattle.port_pool.specs.declared.holder.Side.{Side}
use Rattle.port_pool.specs.Signals.{other_side}
use Rattle.offer_answer.specs.Rounds.{Round, OfferAsk, Demand}
use Rattle.offer_answer.specs.Sides.{offerer}
use Rattle.offer_answer.specs.Sections.{section_in, section_count, all_sections, active_sections, is_active_in, has_pairs}
use Rattle.offer_answer.specs.Profiles.{is_srtp, written_profile}
use Rattle.offer_answer.specs.Keys.{leg_key, key_in_force, key_place_of, section_keys, missing_keys, offerers_suites, others_suites, suite_of, chosen_in}
use Rattle.offer_answer.specs.Demands.{legs_for, new_active_sections}
use Rattle.offer_answer.specs.Plan.{demand}
use Rattle.offer_answer.proofs.Demanded.{few_sections}
use Rattle.call_board.specs.Acts as act
use Rattle.call_board.specs.Acts.{Act, Given, Control, BoardEvent, Turn, Tick, Stop, BoardEntry, act}
use Rattle.call_board.specs.Calls.{begun, begun_by_act, find_call, rounds_of_call}
use Rattle.call_board.specs.Pairs.{all_leased, leased_by_act, drawn, draws_of_act}
use Rattle.call_board.specs.Requests.{asked, asked_by, unless, command_in, description_error, sdp_error, code_if, v6_error, family_error}
use Rattle.call_board.specs.Answers.{offer_ask}
use Rattle.call_board.specs.Fits.{FitsAt, IsFitting, GivesFor, GivesUndone, demanded, demanded_by}
use Rattle.call_board.specs.Views.{View, times_leased}
use Rattle.call_board.specs.Boards.{BoardMatches}
use Rattle.call_board.specs.declared.board.Board.{Board}
use Rattle.call_board.proofs.Once.{Once, filter_less}
use Rattle.call_board.proofs.Sieves.{is_out}
use Rattle.call_board.proofs.Lowest.{length_numbers}
use Rattle.call_board.proofs.Leased.{count-none}
use Rattle.call_board.proofs.Draws.{entry_draws}
use Rattle.call_board.proofs.FreeAfter.{leases_once}

-- Leases.

count_next : (p x : ℕ) (xs : List ℕ) → count_by (λ q. q == p) (x ∷ xs) ≡ cond (x == p) 1 0 + count_by (λ q. q == p) xs
count_next p x xs = let both = sum_by-append (λ (q : ℕ). cond (q == p) 1 0) (x ∷ []) xs in omega (arith, both)

once_case : (p x : ℕ) (xs : List ℕ) → Once (x ∷ xs) → count_by (λ q. q == p) xs ≤ 1 → (b : Bool) → (x == p) ≡ b → cond b 1 0 + count_by (λ q. q == p) xs ≤ 1
once_case p x xs once rest true is =
    let none = count-none x xs (is_out x xs once.0) in
    let same = ap (λ n. count_by (λ q. q == n) xs) (equal_if x p is) in omega (arith, none, same)
once_case p x xs once rest false is = omega (arith, rest)

-- a number stands at most once
pub once_count : (p : ℕ) (xs : List ℕ) → Once xs → count_by (λ q. q == p) xs ≤ 1
once_count p [] once = omega arith
once_count p (x ∷ xs) once =
    let more = once_case p x xs once (once_count p xs once.1) (x == p) refl in
    let next = count_next p x xs in omega (arith, more, next)

-- a pair is leased at most once at each entry
pub few_leases : (config : Config) (h : List BoardEntry) (pair : ℕ) → IsFitting config h → times_leased h pair ≤ length h
few_leases config [] pair fits = omega arith
few_leases config (e ∷ h) pair fits =
    let rest = few_leases config h pair fits.1 in
    let one = once_count pair (leased_by_act (act e)) (leases_once config h e fits.0) in
    let sum = sum_by-append (λ (q : ℕ). cond (q == pair) 1 0) (leased_by_act (act e)) (all_leased h) in omega (arith, rest, one, sum)

-- Calls.

one_begun : (a : Act) → length (begun_by_act a) ≤ 1
one_begun (act.Offered o) = go o.begins
  where
    go : (b : Bool) → length (cond b (o.of ∷ []) []) ≤ 1
    go true = omega arith
    go false = omega arith
one_begun (act.Answered a) = omega arith
one_begun act.Repeated = omega arith
one_begun act.OutOfMemory = omega arith
one_begun (act.Failed code) = omega arith
one_begun (act.Undone code leases draws) = omega arith
one_begun (act.Deleted of) = omega arith
one_begun (act.Queried of) = omega arith
one_begun act.Told = omega arith
one_begun (act.Delayed of s) = omega arith

-- at most one call is begun at each entry
pub few_begun : (h : List BoardEntry) → length (begun h) ≤ length h
few_begun [] = omega arith
few_begun (e ∷ h) =
    let rest = few_begun h in
    let one = one_begun (act e) in
    let sum = length-append (begun h) (begun_by_act (act e)) in omega (arith, rest, one, sum)

-- What an offer demands.

bounded : {A B : Type 0} (f : A → List B) (most : ℕ) (xs : List A) → ((x : A) → length (f x) ≤ most) → length (flat_map f xs) ≤ most * length xs
bounded f most [] each = omega arith
bounded f most (x ∷ xs) each =
    let here = each x in
    let rest = bounded f most xs each in
    let sum = length-append (f x) (flat_map f xs) in
    let times : most * suc (length xs) ≡ most * length xs + most = mul-suc most (length xs) in
    omega (arith, here, rest, sum, times)

few_missing : (rounds : List Round) (section : ℕ) (side : Side) (suites : List Suite) → length (missing_keys rounds section side suites) ≤ length suites
few_missing rounds section side suites =
    let has_none = λ (suite : Suite). is_none (leg_key rounds section side suite) in
    let less = filter_less has_none suites in
    let count = length-map (filter has_none suites) (key_place_of section side) in omega (arith, less, count)

offerers_few : (b : Bool) (o : Option CryptoLine) → length (cond b (suite_of o) []) ≤ 1
offerers_few true None = omega arith
offerers_few true (Some line) = omega arith
offerers_few false o = omega arith

others_few : (b : Bool) (one two : Suite) → length (cond b (one ∷ two ∷ []) []) ≤ 2
others_few true one two = omega arith
others_few false one two = omega arith

few_keys_of : (rounds : List Round) (ask : OfferAsk) (section : ℕ) → length (section_keys rounds ask section) ≤ 3
few_keys_of rounds ask section =
    let one = offerers_few (is_srtp (section_in ask.sdp section).proto) (chosen_in ask.chosen section) in
    let two = others_few (is_srtp (written_profile rounds ask section) && is_none (key_in_force rounds section (other_side (offerer rounds ask)))) Tag80 Tag32 in
    let first = few_missing rounds section (offerer rounds ask) (offerers_suites ask section) in
    let second = few_missing rounds section (other_side (offerer rounds ask)) (others_suites rounds ask section) in
    let sum = length-append (missing_keys rounds section (offerer rounds ask) (offerers_suites ask section))
    (missing_keys rounds section (other_side (offerer rounds ask)) (others_suites rounds ask section)) in
    omega (arith, one, two, first, second, sum)

-- an offer with at most eight sections demands at most 16 pairs
pub few_pairs_asked : (rounds : List Round) (ask : OfferAsk) → fault_in (lines_of ask.sdp) ≡ None → length (demand rounds ask).pairs ≤ 16
unfolding demand
few_pairs_asked rounds ask sound =
    let sections = few_sections ask.sdp sound in
    let all = length_numbers 0 (section_count ask.sdp) in
    let active = filter_less (is_active_in ask.sdp) (all_sections ask.sdp) in
    let new = filter_less (λ section. not (has_pairs rounds section)) (active_sections ask.sdp) in
    let pairs = bounded (legs_for rounds ask) 2 (new_active_sections rounds ask) (λ section. omega arith) in
    omega (arith, sections, all, active, new, pairs)

-- and at most 24 keys
pub few_keys_asked : (rounds : List Round) (ask : OfferAsk) → fault_in (lines_of ask.sdp) ≡ None → length (demand rounds ask).keys ≤ 24
unfolding demand
few_keys_asked rounds ask sound =
    let sections = few_sections ask.sdp sound in
    let all = length_numbers 0 (section_count ask.sdp) in
    let active = filter_less (is_active_in ask.sdp) (all_sections ask.sdp) in
    let keys = bounded (section_keys rounds ask) 3 (active_sections ask.sdp) (few_keys_of rounds ask) in
    omega (arith, sections, all, active, keys)

-- What a datagram's offer demands.

unless_sound : (config : Config) (says s : Said) (o : Option ErrorCode) → description_error config s ≡ o → unless o s ≡ Ok says → description_error config says ≡ None
unless_sound config says s None is e = let same : s ≡ says = (let f = e in cc) in subst (λ (x : Said). description_error config x ≡ None) same is
unless_sound config says s (Some code) is e = absurd (let f = e in cc)

asked_sound : (config : Config) (says : Said) (r : Result Said ErrorCode) → asked_by config r ≡ Ok says → description_error config says ≡ None
asked_sound config says (Err code) e = absurd (let f = e in cc)
asked_sound config says (Ok s) e = unless_sound config says s (description_error config s) refl e

fault_none : (o : Option SdpFault) (v : Option ErrorCode) → or_else (code_if o) v ≡ None → o ≡ None
fault_none None v e = refl
fault_none (Some fault) v e = absurd (let f = e in cc)

sdp_sound : (config : Config) (sdp : List ℕ) → sdp_error config sdp ≡ None → fault_in (lines_of sdp) ≡ None
unfolding sdp_error
sdp_sound config sdp e = fault_none (fault_in (lines_of sdp)) (v6_error config.interface6 (v6_line_in (lines_of sdp))) e

later_none : (a b : Option ErrorCode) → or_else a b ≡ None → b ≡ None
later_none None b e = e
later_none (Some code) b e = absurd (let f = e in cc)

-- the description of an offer that is asked has no fault
pub offer_sound : (config : Config) (too_long : Bool) (pairs : Option Entries) (id from_tag sdp : List ℕ) (options : Options) → asked config too_long pairs ≡ Ok (said.Offer id from_tag sdp options) →
    fault_in (lines_of sdp) ≡ None
unfolding asked
offer_sound config too_long pairs id from_tag sdp options is =
    sdp_sound config sdp (later_none (family_error options.family config.interface6) (sdp_error config sdp)
    (asked_sound config (said.Offer id from_tag sdp options) (command_in too_long pairs) is))

demand_case : (config : Config) (h : List BoardEntry) (c : Control) (r : Result Said ErrorCode) → asked config c.too_long c.pairs ≡ r → length (demanded_by h c r).keys ≤ 24
demand_case config h c (Err code) is = omega arith
demand_case config h c (Ok said.Ping) is = omega arith
demand_case config h c (Ok (said.Offer id from_tag sdp options)) is =
    few_keys_asked (rounds_of_call h (find_call h id)) (offer_ask from_tag sdp options c.chosen) (offer_sound config c.too_long c.pairs id from_tag sdp options is)
demand_case config h c (Ok (said.Answer id from_tag to_tag sdp options)) is = omega arith
demand_case config h c (Ok (said.Delete id from_tag fatal seconds)) is = omega arith
demand_case config h c (Ok (said.Query id)) is = omega arith
demand_case config h c (Ok (said.Listing limit)) is = omega arith

few_demanded : (config : Config) (h : List BoardEntry) (c : Control) → length (demanded config h c).keys ≤ 24
few_demanded config h c = demand_case config h c (asked config c.too_long c.pairs) refl

none_drawn : (given : Given) → given.draws ≡ [] → length given.draws ≤ 24
none_drawn given none = let count : length given.draws ≡ 0 = ap length none in omega (arith, count)

undone_few : (demand : Demand) (given : Given) (b : Bool) → length demand.keys ≤ 24 → GivesUndone demand given b → length given.draws ≤ 24
undone_few demand given true few gives = none_drawn given gives.1
undone_few demand given false few gives = let less = gives.1.some_are_left in omega (arith, few, less)

given_few : (demand : Demand) (given : Given) (a : Act) → length demand.keys ≤ 24 → GivesFor demand given a → length given.draws ≤ 24
given_few demand given (act.Offered o) few gives = let all = gives.1.all_drawn in omega (arith, few, all)
given_few demand given (act.Undone code leases draws) few gives = undone_few demand given (list_any not given.opens) few gives.0
given_few demand given act.Repeated few gives = none_drawn given gives.0.no_draws
given_few demand given act.OutOfMemory few gives = none_drawn given gives.no_draws
given_few demand given (act.Failed code) few gives = none_drawn given gives.0.no_draws
given_few demand given (act.Answered a) few gives = none_drawn given gives.0.no_draws
given_few demand given (act.Deleted of) few gives = none_drawn given gives.0.no_draws
given_few demand given (act.Queried of) few gives = none_drawn given gives.0.no_draws
given_few demand given act.Told few gives = none_drawn given gives.0.no_draws
given_few demand given (act.Delayed of s) few gives = none_drawn given gives.0.no_draws

event_few : (config : Config) (h : List BoardEntry) (now : ℕ) (event : BoardEvent) → FitsAt config h now event → length (draws_of_act (act (record { moment = now; event = event }))) ≤ 24
event_few config h now (Turn c) fits =
    let few = given_few (demanded config h c) c.given c.act (few_demanded config h c) fits.gives in
    let same : length (draws_of_act c.act) ≡ length c.given.draws = ap length (entry_draws config h now c fits) in omega (arith, few, same)
event_few config h now (Tick calls) fits = omega arith
event_few config h now (Stop calls) fits = omega arith

-- at most 24 keys are drawn at each entry
pub few_drawn : (config : Config) (h : List BoardEntry) → IsFitting config h → length (drawn h) ≤ 24 * length h
few_drawn config [] fits = omega arith
few_drawn config (e ∷ h) fits =
    let rest = few_drawn config h fits.1 in
    let few = event_few config h e.moment e.event fits.0 in
    let sum = length-append (drawn h) (draws_of_act (act e)) in
    let times = mul-suc 24 (length h) in omega (arith, rest, few, sum, times)

-- What the board's calls ask.

low_or_high : (n m : ℕ) → (n < m) ⊎ (m ≤ n)
low_or_high n m = go (nat_lt n m) refl
  where
    go : (b : Bool) → nat_lt n m ≡ b → (n < m) ⊎ (m ≤ n)
    go true is = inl (grind (arith, nat_tests))
    go false is = inr (grind (arith, nat_tests))

generation_case : (config : Config) (board : Board) (v : View) (pair most : ℕ) → BoardMatches config board v → v.leases pair ≤ most → (pair < pair_count config) ⊎ (pair_count config ≤ pair) → generation board.pool pair ≤ most
generation_case config board v pair most s few (inl below) = let is = s.pool_for.leases_are pair below in omega (arith, few, is)
generation_case config board v pair most s few (inr past) =
    let none : generation board.pool pair ≡ 0 = get_or_past board.pool.generations pair 0 (let count = s.pool_for.count_is in omega (arith, past, count)) in omega (arith, none)

-- no pair was leased so often that an offer's leases reach the end of their count
pub may_lease : (config : Config) (h : List BoardEntry) (board : Board) (v : View) (count pair : ℕ) → IsFitting config h → BoardMatches config board v → v.leases ≡ times_leased h → length h < 2 ^ 56 → count ≤ 16 →
    generation board.pool pair + count ≤ 2 ^ 63
may_lease config h board v count pair fits s leases short few =
    let most = few_leases config h pair fits in
    let same : v.leases pair ≡ times_leased h pair = ap (λ (f : ℕ → ℕ). f pair) leases in
    let bound = generation_case config board v pair (length h) s (omega (arith, most, same)) (low_or_high pair (pair_count config)) in
    omega (arith, bound, short, few)

-- nor do the calls that began
pub may_begin : (config : Config) (h : List BoardEntry) (board : Board) (v : View) → BoardMatches config board v → v.begun ≡ length (begun h) → length h < 2 ^ 56 → board.begun < 2 ^ 63
may_begin config h board v s begun_is short =
    let most = few_begun h in
    let here = s.begun_is in omega (arith, most, here, begun_is, short)
