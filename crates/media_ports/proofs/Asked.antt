-- The openings among several calls, and their results.
use Rattle.std.proofs.Common.{◌≡◌, ◌∙◌, sym, ap, refl, ℕ, zero, suc, ◌*◌, ◌≤◌, Bool, List, [], ◌∷◌, ◌++◌, Option, length, take, drop, append-nil, arith}
use Rattle.std.specs.List.{AllZip}
use Rattle.std.proofs.lemmas.List.Elements.{filter-append, filter_map-append}
use Rattle.relay_outside.specs.declared.address.Addr.{Addr}
use Rattle.relay_outside.specs.declared.settings.Config.{Config}
use Rattle.relay_outside.specs.declared.ports.PortCall.{PortCall}
use Rattle.relay_outside.specs.declared.ports.PortCall.TheVariants.{Open, Close}
use Rattle.relay_outside.specs.DeviceLogs.{Gained}
use Rattle.relay_outside.proofs.Telling.{gained_both, gained_none}
use Rattle.port_pool.specs.declared.pairs.Lease.{Lease}
use Rattle.media_ports.specs.Addresses.{pair_addresses, addresses_of, pairs_of_leases}
use Rattle.media_ports.specs.Openings.{opening_answer, opening_answers, is_opening, opening_calls, OpensWith, NoneOpened, OpensThese, OpensAt}
use Rattle.media_ports.specs.Calls.{openings, ClosesUncalled}
use Rattle.media_ports.proofs.Leased.{length-addresses_of}

pub opening_answers-append : (xs ys : List PortCall) → opening_answers (xs ++ ys) ≡ opening_answers xs ++ opening_answers ys
opening_answers-append xs ys = filter_map-append opening_answer xs ys

-- openings with some results, and then with more
pub opens_with_both : (some more : List Bool) (xs ys : List PortCall) → OpensWith some xs → OpensWith more ys → OpensWith (some ++ more) (xs ++ ys)
opens_with_both some more xs ys these those =
    opening_answers-append xs ys ∙ ap (λ (bs : List Bool). bs ++ opening_answers ys) these ∙ ap (λ (bs : List Bool). some ++ bs) those

-- openings, and then calls that open none
pub opens_with_closed : (answers : List Bool) (xs ys : List PortCall) → OpensWith answers xs → NoneOpened ys → OpensWith answers (xs ++ ys)
opens_with_closed answers xs ys these none = opens_with_both answers [] xs ys these none ∙ append-nil answers

-- no call opens none
pub gained_no_opening : (log : Option (List PortCall)) → Gained log log NoneOpened
gained_no_opening log = gained_none log NoneOpened refl

-- neither the former calls nor the latter open any
pub gained_no_openings : (first second third : Option (List PortCall)) → Gained first second NoneOpened → Gained second third NoneOpened → Gained first third NoneOpened
gained_no_openings first second third before after =
    gained_both first second third NoneOpened NoneOpened NoneOpened (λ xs ys these those. opens_with_closed [] xs ys these those) before after

-- the results of openings are those that they were given, where there is an address for each
pub openings_answered : (ats : List Addr) (answers : List Bool) → length answers ≤ length ats → OpensWith answers (openings ats answers)
openings_answered [] [] few = refl
openings_answered [] (done ∷ answers) few = absurd (omega (arith, few))
openings_answered (at ∷ ats) [] few = refl
openings_answered (at ∷ ats) (done ∷ answers) few = ap (λ (bs : List Bool). done ∷ bs) (openings_answered ats answers (omega (arith, few)))

-- closings open none
pub uncalled_opens_none : (ats : List Addr) (calls : List PortCall) → AllZip ClosesUncalled ats calls → NoneOpened calls
uncalled_opens_none [] [] closes = refl
uncalled_opens_none [] (call ∷ calls) closes = absurd closes
uncalled_opens_none (at ∷ ats) [] closes = absurd closes
uncalled_opens_none (at ∷ ats) (Open there done ∷ calls) closes = absurd closes.0
uncalled_opens_none (at ∷ ats) (Close there taken sent ∷ calls) closes = uncalled_opens_none ats calls closes.1

-- Which ports are opened.

opening_calls-append : (xs ys : List PortCall) → opening_calls (xs ++ ys) ≡ opening_calls xs ++ opening_calls ys
opening_calls-append xs ys = filter-append is_opening xs ys

-- some openings, and then more
pub opens_these_both : (some more xs ys : List PortCall) → OpensThese some xs → OpensThese more ys → OpensThese (some ++ more) (xs ++ ys)
opens_these_both some more xs ys these those =
    opening_calls-append xs ys ∙ ap (λ (calls : List PortCall). calls ++ opening_calls ys) these ∙ ap (λ (calls : List PortCall). some ++ calls) those

-- calls without a result of an opening have no opening
none_opened : (calls : List PortCall) → NoneOpened calls → opening_calls calls ≡ []
none_opened [] none = refl
none_opened (Open at done ∷ calls) none = absurd (let e = none in cc)
none_opened (Close at taken sent ∷ calls) none = none_opened calls none

-- openings, and then calls that open none
opens_these_closed : (opens xs ys : List PortCall) → OpensThese opens xs → NoneOpened ys → OpensThese opens (xs ++ ys)
opens_these_closed opens xs ys these none = opens_these_both opens [] xs ys these (none_opened ys none) ∙ append-nil opens

openings_kept : (ats : List Addr) (answers : List Bool) → opening_calls (openings ats answers) ≡ openings ats answers
openings_kept [] answers = refl
openings_kept (at ∷ ats) [] = refl
openings_kept (at ∷ ats) (done ∷ answers) = ap (λ (calls : List PortCall). Open at done ∷ calls) (openings_kept ats answers)

openings_none : (ats : List Addr) → openings ats [] ≡ []
openings_none [] = refl
openings_none (at ∷ ats) = refl

-- those of the addresses in front, where there is one for each answer
openings_front : (ats more : List Addr) (answers : List Bool) → length answers ≤ length ats → openings (ats ++ more) answers ≡ openings ats answers
openings_front [] more [] few = openings_none more
openings_front [] more (done ∷ answers) few = absurd (omega (arith, few))
openings_front (at ∷ ats) more [] few = refl
openings_front (at ∷ ats) more (done ∷ answers) few = ap (λ (calls : List PortCall). Open at done ∷ calls) (openings_front ats more answers (omega (arith, few)))

pair_addresses_split : (config : Config) (count : ℕ) (pairs : List ℕ) →
    pair_addresses config pairs ≡ pair_addresses config (take count pairs) ++ pair_addresses config (drop count pairs)
pair_addresses_split config zero [] = refl
pair_addresses_split config zero (pair ∷ pairs) = refl
pair_addresses_split config (suc count) [] = refl
pair_addresses_split config (suc count) (pair ∷ pairs) =
    ap (λ (ats : List Addr). pair_addresses config (pair ∷ []) ++ ats) (pair_addresses_split config count pairs)

-- openings of the ports of leases whose pairs are in front, and then calls that open none
pub opens_front : (config : Config) (pairs : List ℕ) (count : ℕ) (leases : List Lease) (answers : List Bool) (closes calls : List PortCall) →
    pairs_of_leases leases ≡ take count pairs → length answers ≤ 2 * length leases → calls ≡ openings (addresses_of config leases) answers ++ closes → NoneOpened closes →
    OpensAt config pairs answers calls
opens_front config pairs count leases answers closes calls front few opens none =
    let ats = addresses_of config leases in
    let enough : length answers ≤ length ats = (let many = length-addresses_of config leases in omega (arith, many, few)) in
    let those : ats ≡ pair_addresses config (take count pairs) = ap (pair_addresses config) front in record {
      answered = ap opening_answers opens ∙ opens_with_closed answers (openings ats answers) closes (openings_answered ats answers enough) none;
      in_order = ap opening_calls opens ∙ opens_these_closed (openings ats answers) (openings ats answers) closes (openings_kept ats answers) none ∙ sym (openings_front ats (pair_addresses config (drop count pairs)) answers enough)
          ∙ ap (λ (front : List Addr). openings (front ++ pair_addresses config (drop count pairs)) answers) those
          ∙ ap (λ (all : List Addr). openings all answers) (sym (pair_addresses_split config count pairs));
    }

-- calls that open none
pub opens_none_at : (config : Config) (pairs : List ℕ) (calls : List PortCall) → NoneOpened calls → OpensAt config pairs [] calls
opens_none_at config pairs calls none = record { answered = none; in_order = none_opened calls none ∙ sym (openings_none (pair_addresses config pairs)) }

-- the former calls open these ports, the latter open none
pub gained_opens_alone : (config : Config) (pairs : List ℕ) (answers : List Bool) (first second third : Option (List PortCall)) → Gained first second (OpensAt config pairs answers) →
    Gained second third NoneOpened → Gained first third (OpensAt config pairs answers)
gained_opens_alone config pairs answers first second third before after =
    gained_both first second third (OpensAt config pairs answers) NoneOpened (OpensAt config pairs answers)
    (λ xs ys these none. record {
      answered = opens_with_closed answers xs ys these.answered none;
      in_order = opens_these_closed (openings (pair_addresses config pairs) answers) xs ys these.in_order none;
    }) before after
