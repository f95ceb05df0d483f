-- What an offer asks of a section, by what the dialog keeps of it.
use Rattle.std.specs.Prelude.{◌≡◌, ℕ, List, [], ◌∷◌, ◌++◌, length, false, not, ◌&&◌, Option, Some, None, is_none, if◌then◌else◌, filter, map, unwrap_or, slice_index_or}
use Rattle.histories.specs.Words.{or_else, has}
use Rattle.relay_outside.specs.declared.address.Family.{Family}
use Rattle.relay_outside.specs.declared.settings.Config.{Config}
use Rattle.sdes_lines.specs.declared.crypto_line.Suite.{Suite}
use Rattle.sdes_lines.specs.declared.crypto_line.Suite.TheVariants.{Tag80, Tag32}
use Rattle.sdp_text.specs.Lines.{lines_of}
use Rattle.sdp_text.specs.Parts.{is_rtp_proto}
use Rattle.sdp_text.specs.declared.proto.Proto.{Proto}
use Rattle.ng_command.specs.declared.command.Options.{Options}
use Rattle.ng_command.specs.declared.command.OfferIn.{OfferIn}
use Rattle.ng_reply.specs.declared.code.ErrorCode.{ErrorCode}
use Rattle.ng_reply.specs.declared.code.ErrorCode.TheVariants.{E8, E10, E11, E12, E20}
use Rattle.port_pool.specs.declared.holder.Side.{Side}
use Rattle.port_pool.specs.Signals.{other_side}
use Rattle.offer_answer.specs.Rounds.{Round, OfferAsk, Demand, NewLeg, KeyPlace}
use Rattle.offer_answer.specs.Sections.{section_in, is_active}
use Rattle.offer_answer.specs.Profiles.{is_srtp}
use Rattle.offer_answer.specs.Keys.{chosen_in, suite_of, key_place_of}
use Rattle.offer_answer.specs.Families.{family_by}
use Rattle.offer_answer.specs.Plan.{OfferRead}
use Rattle.offer_answer.specs.Dialogs.{SectionFor, key_for, leg_at}
use Rattle.offer_answer.specs.declared.leg.Leg.{Leg}
use Rattle.offer_answer.specs.declared.offered_section.OfferedSection.{OfferedSection}
use Rattle.offer_answer.specs.declared.plan.Plan.{Plan}
use Rattle.offer_answer.specs.declared.fault.OaFault.{OaFault}
use Rattle.offer_answer.specs.declared.fault.OaFault.TheVariants as faults

-- the offer's description has these lines, and its crypto lines are the chosen ones
pub record ReadsOffer (lines : List (List ℕ)) (ask : OfferAsk) : Type 0 where
  pub lines_are : lines_of ask.sdp ≡ lines
  pub heard : OfferRead ask

-- this is asked by the command, whose description has these lines
pub record AsksOffer (input : OfferIn) (lines : List (List ℕ)) (ask : OfferAsk) : Type 0 where
  pub from_tag_is : ask.from_tag ≡ input.from_tag.list
  pub options_are : ask.options ≡ input.options
  pub hears : ReadsOffer lines ask

-- a section of the offer, with what the dialog keeps of it
pub record OfferedFor (config : Config) (rounds : List Round) (ask : OfferAsk) (section : ℕ) (offered : OfferedSection) : Type 0 where
  pub section_is : offered.section ≡ section_in ask.sdp section
  pub line_is : offered.line ≡ chosen_in ask.chosen section
  pub kept_is : SectionFor config rounds section offered.kept

-- the profile that is written over a section's own, by the one that the options ask for and the one in force
abbrev pub written_over : Option Proto → Option Proto → Proto → Proto
written_over transport in_force own = if is_rtp_proto own then unwrap_or (or_else transport in_force) own else own

-- of these suites those for which the leg has no key
abbrev pub missing : Leg → ℕ → Side → List Suite → List (ℕ × Side × Suite)
missing leg section side suites = map (λ suite. (section, side, suite)) (filter (λ suite. is_none (key_for leg suite)) suites)

abbrev pub offerers_keys : OfferedSection → ℕ → Side → List (ℕ × Side × Suite)
offerers_keys offered section side =
    missing (leg_at offered.kept side) section side (if is_srtp offered.section.proto then suite_of offered.line else [])

abbrev pub others_keys : OfferedSection → Option Proto → ℕ → Side → List (ℕ × Side × Suite)
others_keys offered transport section side =
    let leg = leg_at offered.kept side in
    missing leg section side
    (if is_srtp (written_over transport leg.in_force offered.section.proto) && is_none leg.key_in_force then Tag80 ∷ Tag32 ∷ [] else [])

-- the keys that the section demands
abbrev pub keys_asked : OfferedSection → Option Proto → ℕ → Side → List (ℕ × Side × Suite)
keys_asked offered transport section side =
    if is_active offered.section then offerers_keys offered section side ++ others_keys offered transport section (other_side side) else []

abbrev pub leg_asked : ℕ × Side × Family → NewLeg
leg_asked leg = record { section = leg.0; side = leg.1; family = leg.2 }

abbrev pub key_asked : ℕ × Side × Suite → KeyPlace
key_asked key = key_place_of key.0 key.1 key.2

-- the legs that the plan demands pairs for, in the order of leases
abbrev pub legs_demanded : Plan → List NewLeg
legs_demanded plan = map leg_asked plan.legs.items

-- the legs that the section demands pairs for, in an offer with these options from a side
abbrev pub legs_asked : OfferedSection → Options → ℕ → Side → List (ℕ × Side × Family)
legs_asked offered options section side =
    if is_active offered.section && not offered.kept.has_pairs
    then (section, other_side side, family_by options offered.section side (other_side side)) ∷ (section, side, family_by options offered.section side side) ∷ []
    else []

-- what the plan demands
pub record PlanFor (plan : Plan) (asked : Demand) : Type 0 where
  pub pairs_are : legs_demanded plan ≡ asked.pairs
  pub keys_are : map key_asked plan.key_places.items ≡ asked.keys
  pub drops_are : (section : ℕ) → slice_index_or plan.dropped section false ≡ has asked.dropped section

-- the error code of a fault
abbrev pub plan_code : OaFault → Option ErrorCode
plan_code faults.UnknownTag = Some E10
plan_code faults.OtherSide = Some E11
plan_code faults.MediaCount = Some E12
plan_code faults.Family = Some E20
plan_code faults.NoCrypto = Some E8
plan_code faults.OutOfMemory = None

-- the error code of the fault that was found, if any
abbrev pub fault_code : Option OaFault → Option ErrorCode
fault_code None = None
fault_code (Some fault) = plan_code fault

-- how many pairs and keys the plan demands
abbrev pub pairs_demanded : Plan → ℕ
pairs_demanded plan = length plan.legs.items

abbrev pub key_count : Plan → ℕ
key_count plan = length plan.key_places.items
