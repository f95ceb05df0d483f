-- The errors of a datagram's bytes and of what its call is come before the devices.
use Rattle.std.proofs.Common.{◌≡◌, sym, subst, refl, ℕ, List, Bool, true, false, cond, not, codes, Option, Some, None, Result, Ok, Err}
use Rattle.std.specs.Prelude.{nat_lt, ◌&&◌, ◌==◌, find, length}
use Rattle.std.specs.List.{list_any}
use Rattle.std.specs.Option.{option_map}
use Rattle.std.specs.Str.{bytes_eq}
use Rattle.relay_outside.specs.declared.address.Family.{Family}
use Rattle.relay_outside.specs.declared.address.Family.TheVariants.{V4, V6}
use Rattle.relay_outside.specs.declared.address.Ip.{Ip}
use Rattle.relay_outside.specs.declared.settings.Config.{Config}
use Rattle.histories.specs.Words as words
use Rattle.ng_bencode.specs.Tree.{Entries}
use Rattle.ng_command.specs.Effects.{command_kind}
use Rattle.ng_command.specs.Faults.{first_wrong, first_unsupported, fault_by}
use Rattle.ng_command.specs.Bodies.{kind_or_fault, kind_named, or_fault, said_of_kind, said_or_fault}
use Rattle.ng_command.specs.Meanings as said
use Rattle.ng_command.specs.Meanings.{Said, meaning}
use Rattle.ng_command.specs.Values.{text_at}
use Rattle.ng_command.specs.declared.fault.KeyName.{KeyName}
use Rattle.ng_reply.specs.declared.code.ErrorCode.{ErrorCode}
use Rattle.ng_reply.specs.declared.code.ErrorCode.TheVariants.{E8, E10, E11, E12, E20}
use Rattle.sdp_text.specs.Lines.{lines_of}
use Rattle.sdp_text.specs.LineFaults.{faulty_line}
use Rattle.sdp_text.specs.First.{by_count, by_address}
use Rattle.sdp_text.specs.Parts.{first_of_two, media_parts, is_unplaced, is_dtls_part, served_fault}
use Rattle.sdp_text.specs.Descriptions.{unplaced_fault, dtls_fault, number_fault, sections_fault, fault_in, v6_line_in}
use Rattle.sdp_text.specs.declared.fault.SdpFault.{SdpFault}
use Rattle.sdp_text.specs.declared.fault.SdpFault.TheVariants as sdp
use Rattle.sdp_text.proofs.Faults.{first_fault}
use Rattle.offer_answer.specs.Rounds.{Round, OfferAsk, AnswerAsk}
use Rattle.offer_answer.specs.Sides.{MadeOffer, last_offer, is_some_sides}
use Rattle.offer_answer.specs.Sections.{active_sections, all_sections, section_count, committed_count}
use Rattle.offer_answer.specs.Faults.{is_strangers, lacks_line, misfits_offerer, may_answer, misfits_answerer, takes_no_line, fault_of_answer_to}
use Rattle.offer_answer.specs.Plan.{offer_fault, answer_fault}
use Rattle.call_board.specs.Answers.{ending_error}
use Rattle.call_board.specs.Requests.{or_code, code_if, v6_error, family_error, sdp_error, description_error, unless, asked_by, asked}
use Rattle.board_laws.specs.Answers.{ComesFirst}

-- the error that is there comes first
abbrev pub IsFirst : Option ErrorCode → Type 0
IsFirst None = Unit {0}
IsFirst (Some code) = ComesFirst code

-- Descriptions.

abbrev IsTold : Option SdpFault → Type 0
IsTold fault = IsFirst (code_if fault)

either : (a b : Option SdpFault) → IsTold a → IsTold b → IsTold (first_of_two a b)
either None b p q = q
either (Some x) b p q = p

mapped_told : {P : Type 0} (o : Option P) (f : P → SdpFault) → ((x : P) → IsTold (Some (f x))) → IsTold (option_map f o)
mapped_told None f each = tt
mapped_told (Some x) f each = each x

dtls_told : (there : Bool) → IsTold (cond there (Some sdp.Dtls) None)
dtls_told true = tt
dtls_told false = tt

number_told : (over : Bool) (n : ℕ) → IsTold (cond over (Some (sdp.TooManyMedia n)) None)
number_told true n = tt
number_told false n = tt

named_told : (x y : SdpFault) → IsTold (Some y) → x ≡ y → IsTold (Some x)
named_told x y p e = subst (λ (f : SdpFault). IsTold (Some f)) (sym e) p

served_told : (lines : List (List ℕ)) (fault : Option SdpFault) → served_fault (media_parts lines) ≡ fault → IsTold fault
served_told lines None is = tt
served_told lines (Some fault) is = elim (first_fault (media_parts lines) fault is).there.at_fault [
  | by_count single e ↦ named_told fault _ tt e
  | by_address number names e ↦ named_told fault (sdp.Address number) tt e
]

text_told : (lines : List (List ℕ)) → IsTold (fault_in lines)
text_told lines =
    either (option_map sdp.Line (faulty_line lines)) (sections_fault (media_parts lines)) (mapped_told (faulty_line lines) sdp.Line (λ n. tt))
    (either (unplaced_fault (media_parts lines)) (first_of_two (dtls_fault (media_parts lines)) (first_of_two (number_fault (media_parts lines)) (served_fault (media_parts lines))))
    (mapped_told (find is_unplaced (media_parts lines)) (λ part. sdp.Line part.line) (λ part. tt))
    (either (dtls_fault (media_parts lines)) (first_of_two (number_fault (media_parts lines)) (served_fault (media_parts lines))) (dtls_told (list_any is_dtls_part (media_parts lines)))
    (either (number_fault (media_parts lines)) (served_fault (media_parts lines)) (number_told (nat_lt 8 (length (media_parts lines))) (length (media_parts lines)))
    (served_told lines (served_fault (media_parts lines)) refl))))

v6_first : (address : Option Ip) (line : Option ℕ) → IsFirst (v6_error address line)
v6_first (Some address) line = tt
v6_first None None = tt
v6_first None (Some n) = tt

either_first : (a b : Option ErrorCode) → IsFirst a → IsFirst b → IsFirst (words.or_else a b)
either_first None b p q = q
either_first (Some code) b p q = p

sdp_first : (config : Config) (text : List ℕ) → IsFirst (sdp_error config text)
unfolding sdp_error
sdp_first config text =
    either_first (code_if (fault_in (lines_of text))) (v6_error config.interface6 (v6_line_in (lines_of text))) (text_told (lines_of text))
    (v6_first config.interface6 (v6_line_in (lines_of text)))

family_first : (family : Option Family) (address : Option Ip) → IsFirst (family_error family address)
family_first None address = tt
family_first (Some V4) address = tt
family_first (Some V6) (Some address) = tt
family_first (Some V6) None = tt

described_first : (config : Config) (says : Said) → IsFirst (description_error config says)
described_first config said.Ping = tt
described_first config (said.Offer call_id from_tag sdp options) =
    either_first (family_error options.family config.interface6) (sdp_error config sdp) (family_first options.family config.interface6) (sdp_first config sdp)
described_first config (said.Answer call_id from_tag to_tag sdp options) = sdp_first config sdp
described_first config (said.Delete call_id from_tag fatal seconds) = tt
described_first config (said.Query call_id) = tt
described_first config (said.Listing limit) = tt

-- Commands.

-- there is no error but one that comes first
abbrev pub FailsFirst : Result Said ErrorCode → Type 0
FailsFirst (Ok says) = Unit {0}
FailsFirst (Err code) = ComesFirst code

keys_first : (wrong unsupported : Option KeyName) (says : Said) → FailsFirst (or_code (or_fault (fault_by wrong unsupported) says))
keys_first (Some key) unsupported says = tt
keys_first None (Some key) says = tt
keys_first None None says = tt

named_first : (name : Option (List ℕ)) (pairs : Entries) → FailsFirst (or_code (said_of_kind (kind_named name) pairs))
named_first None pairs = tt
named_first (Some name) pairs = elim (command_kind name) as (λ kind. FailsFirst (or_code (said_of_kind (kind_or_fault kind) pairs))) [
  | None ↦ tt
  | Some kind ↦ keys_first (first_wrong kind pairs) (first_unsupported kind pairs) (meaning kind pairs)
]

unless_first : (error : Option ErrorCode) (says : Said) → IsFirst error → FailsFirst (unless error says)
unless_first None says p = tt
unless_first (Some code) says p = p

asked_by_first : (config : Config) (r : Result Said ErrorCode) → FailsFirst r → FailsFirst (asked_by config r)
asked_by_first config (Err code) p = p
asked_by_first config (Ok says) p = unless_first (description_error config says) says (described_first config says)

-- an error of a datagram's bytes
pub asked_first : (config : Config) (too_long : Bool) (pairs : Option Entries) → FailsFirst (asked config too_long pairs)
unfolding asked
asked_first config true pairs = tt
asked_first config false None = tt
asked_first config false (Some pairs) = asked_by_first config (or_code (said_or_fault pairs)) (named_first (text_at pairs (codes "command")) pairs)

-- Offers and answers.

by_cases : (code : ErrorCode) → ComesFirst code → (first fewer differs lacks : Bool)
    → IsFirst (cond first (Some code) (cond fewer (Some E12) (cond differs (Some E20) (cond lacks (Some E8) None))))
by_cases code p true fewer differs lacks = p
by_cases code p false true differs lacks = tt
by_cases code p false false true lacks = tt
by_cases code p false false false true = tt
by_cases code p false false false false = tt

-- the call is ending, or an error comes first
pub ending_first : (ending : Bool) (fault : Option ErrorCode) → IsFirst fault → IsFirst (words.or_else (ending_error ending) fault)
ending_first true fault p = tt
ending_first false fault p = p

-- an error of an offer
pub offer_first : (before : List Round) (ask : OfferAsk) → IsFirst (offer_fault before ask)
unfolding offer_fault
offer_first before ask =
    by_cases E10 tt (is_strangers before ask) (nat_lt (section_count ask.sdp) (committed_count before)) (list_any (misfits_offerer before ask) (active_sections ask.sdp))
    (list_any (lacks_line ask) (active_sections ask.sdp))

made_first : (before : List Round) (ask : AnswerAsk) (unknown : Bool) (made : Option MadeOffer)
    → IsFirst (cond unknown (Some E10) (elim made [ None ↦ Some E10 | Some offer ↦ fault_of_answer_to before offer ask ]))
made_first before ask true made = tt
made_first before ask false None = tt
made_first before ask false (Some offer) =
    by_cases E11 tt (not (bytes_eq ask.from_tag offer.ask.from_tag)) (not (section_count ask.sdp == section_count offer.ask.sdp))
    (list_any (misfits_answerer before offer ask) (active_sections ask.sdp)) (list_any (takes_no_line offer ask) (all_sections ask.sdp))

-- an error of an answer
pub answer_first : (before : List Round) (ask : AnswerAsk) → IsFirst (answer_fault before ask)
unfolding answer_fault
answer_first before ask = made_first before ask (not (is_some_sides before ask.from_tag && may_answer before ask)) (last_offer before)
