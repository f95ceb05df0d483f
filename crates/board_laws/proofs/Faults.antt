-- The faults that come before crypto lines are chosen don't depend on these.
use Rattle.std.proofs.Common.{◌≡◌, ◌⊎◌, inl, inr, refl, ℕ, List, [], Bool, true, false, cond, not, Option, Some, None}
use Rattle.std.specs.Prelude.{nat_lt, ◌&&◌, ◌==◌}
use Rattle.std.specs.List.{list_any}
use Rattle.std.specs.Str.{bytes_eq}
use Rattle.histories.specs.Words.{or_else}
use Rattle.ng_command.specs.declared.command.Options.{Options}
use Rattle.ng_reply.specs.declared.code.ErrorCode.{ErrorCode}
use Rattle.ng_reply.specs.declared.code.ErrorCode.TheVariants.{E8, E10, E11, E12, E19, E20}
use Rattle.sdes_lines.specs.declared.crypto_line.CryptoLine.{CryptoLine}
use Rattle.offer_answer.specs.Rounds.{Round}
use Rattle.offer_answer.specs.Sides.{MadeOffer, last_offer, is_some_sides}
use Rattle.offer_answer.specs.Sections.{active_sections, all_sections, section_count, committed_count}
use Rattle.offer_answer.specs.Faults.{is_strangers, lacks_line, misfits_offerer, may_answer, misfits_answerer, takes_no_line, fault_of_answer_to}
use Rattle.offer_answer.specs.Plan.{offer_fault, answer_fault}
use Rattle.call_board.specs.Answers.{ending_error, offer_ask, answer_ask}

abbrev pub Chosen : Type 0
Chosen = List (Option CryptoLine)

-- whatever is chosen, this is the fault
abbrev pub IsEarly : (Chosen → Option ErrorCode) → Type 0
IsEarly fault = (code : ErrorCode) × ((xs : Chosen) → fault xs ≡ Some code)

-- whatever is chosen, a section lacks its line, or there is no fault
abbrev pub IsLate : (Chosen → Option ErrorCode) → Type 0
IsLate fault = (xs : Chosen) → (fault xs ≡ Some E8) ⊎ (fault xs ≡ None)

abbrev pub Split : (Chosen → Option ErrorCode) → Type 0
Split fault = IsEarly fault ⊎ IsLate fault

-- a call that is ending is found before anything is chosen
ending_split : (ending : Bool) (fault : Chosen → Option ErrorCode) → Split fault → Split (λ xs. or_else (ending_error ending) (fault xs))
ending_split true fault split = inl (E19, λ xs. refl)
ending_split false fault split = split

lacking : (lacks : Bool) → (cond lacks (Some E8) None ≡ Some E8) ⊎ (cond lacks (Some E8) None ≡ None)
lacking true = inl refl
lacking false = inr refl

offer_case : (stranger fewer differs : Bool) (lacks : Chosen → Bool)
    → Split (λ xs. cond stranger (Some E10) (cond fewer (Some E12) (cond differs (Some E20) (cond (lacks xs) (Some E8) None))))
offer_case true fewer differs lacks = inl (E10, λ xs. refl)
offer_case false true differs lacks = inl (E12, λ xs. refl)
offer_case false false true lacks = inl (E20, λ xs. refl)
offer_case false false false lacks = inr (λ xs. lacking (lacks xs))

fault_split : (before : List Round) (from_tag sdp : List ℕ) (options : Options) → Split (λ xs. offer_fault before (offer_ask from_tag sdp options xs))
unfolding offer_fault
fault_split before from_tag sdp options =
    offer_case (is_strangers before (offer_ask from_tag sdp options [])) (nat_lt (section_count sdp) (committed_count before))
    (list_any (misfits_offerer before (offer_ask from_tag sdp options [])) (active_sections sdp))
    (λ xs. list_any (lacks_line (offer_ask from_tag sdp options xs)) (active_sections sdp))

-- why an offer to a call is refused that is ending, or isn't
abbrev pub offer_refusal : (ending : Bool) → List Round → (from_tag sdp : List ℕ) → Options → Chosen → Option ErrorCode
offer_refusal ending before from_tag sdp options xs = or_else (ending_error ending) (offer_fault before (offer_ask from_tag sdp options xs))

pub offer_split : (ending : Bool) (before : List Round) (from_tag sdp : List ℕ) (options : Options) → Split (offer_refusal ending before from_tag sdp options)
offer_split ending before from_tag sdp options =
    ending_split ending (λ xs. offer_fault before (offer_ask from_tag sdp options xs)) (fault_split before from_tag sdp options)

answer_case : (wrong fewer differs : Bool) (lacks : Chosen → Bool)
    → Split (λ xs. cond wrong (Some E11) (cond fewer (Some E12) (cond differs (Some E20) (cond (lacks xs) (Some E8) None))))
answer_case true fewer differs lacks = inl (E11, λ xs. refl)
answer_case false true differs lacks = inl (E12, λ xs. refl)
answer_case false false true lacks = inl (E20, λ xs. refl)
answer_case false false false lacks = inr (λ xs. lacking (lacks xs))

made_case : (before : List Round) (from_tag to_tag sdp : List ℕ) (options : Options) (unknown : Bool) (made : Option MadeOffer)
    → Split (λ xs. cond unknown (Some E10) (elim made [ None ↦ Some E10 | Some offer ↦ fault_of_answer_to before offer (answer_ask from_tag to_tag sdp options xs) ]))
made_case before from_tag to_tag sdp options true made = inl (E10, λ xs. refl)
made_case before from_tag to_tag sdp options false None = inl (E10, λ xs. refl)
made_case before from_tag to_tag sdp options false (Some offer) =
    answer_case (not (bytes_eq from_tag offer.ask.from_tag)) (not (section_count sdp == section_count offer.ask.sdp))
    (list_any (misfits_answerer before offer (answer_ask from_tag to_tag sdp options [])) (active_sections sdp))
    (λ xs. list_any (takes_no_line offer (answer_ask from_tag to_tag sdp options xs)) (all_sections sdp))

wrong_split : (before : List Round) (from_tag to_tag sdp : List ℕ) (options : Options) → Split (λ xs. answer_fault before (answer_ask from_tag to_tag sdp options xs))
unfolding answer_fault
wrong_split before from_tag to_tag sdp options =
    made_case before from_tag to_tag sdp options (not (is_some_sides before from_tag && may_answer before (answer_ask from_tag to_tag sdp options []))) (last_offer before)

-- why an answer to a call is refused that is ending, or isn't
abbrev pub answer_refusal : (ending : Bool) → List Round → (from_tag to_tag sdp : List ℕ) → Options → Chosen → Option ErrorCode
answer_refusal ending before from_tag to_tag sdp options xs = or_else (ending_error ending) (answer_fault before (answer_ask from_tag to_tag sdp options xs))

pub answer_split : (ending : Bool) (before : List Round) (from_tag to_tag sdp : List ℕ) (options : Options) → Split (answer_refusal ending before from_tag to_tag sdp options)
answer_split ending before from_tag to_tag sdp options =
    ending_split ending (λ xs. answer_fault before (answer_ask from_tag to_tag sdp options xs)) (wrong_split before from_tag to_tag sdp options)
