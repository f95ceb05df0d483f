-- The profiles of legs (RFC 3551, RFC 4585, RFC 3711, RFC 5124).
use Rattle.std.specs.Prelude.{ℕ, List, [], ◌∷◌, Bool, true, false, Option, Some, None, if◌then◌else◌, unwrap_or}
use Rattle.histories.specs.Words.{or_else}
use Rattle.sdp_text.specs.Parts.{is_rtp_proto}
use Rattle.sdp_text.specs.declared.proto.Proto.{Proto}
use Rattle.sdp_text.specs.declared.proto.Proto.TheVariants.{Avp, Avpf, Savp, Savpf, Other}
use Rattle.port_pool.specs.declared.holder.Side.{Side}
use Rattle.port_pool.specs.Signals.{side_eq, other_side}
use Rattle.offer_answer.specs.Rounds.{Round, Offered, Answered, OfferAsk}
use Rattle.offer_answer.specs.Sides.{offerer}
use Rattle.offer_answer.specs.Sections.{section_in, is_committed}

-- SRTP: `RTP/SAVP` and `RTP/SAVPF`
abbrev pub is_srtp : Proto → Bool
is_srtp Avp = false
is_srtp Avpf = false
is_srtp Savp = true
is_srtp Savpf = true
is_srtp Other = false

abbrev pub is_srtp_leg : Option Proto → Bool
is_srtp_leg None = false
is_srtp_leg (Some profile) = is_srtp profile

-- The profile that an offer's section is written with, by the one in force on the other leg: the one that the offer asks for,
-- else the one in force, else its own. A protocol that is none of the four stays.
abbrev pub profile_over : Option Proto → OfferAsk → ℕ → Proto
profile_over in_force ask section =
    let own = (section_in ask.sdp section).proto in
    if is_rtp_proto own then unwrap_or (or_else ask.options.transport in_force) own else own

abbrev mutual
  -- the profile that a leg has by the last offer: the offerer's its own, the other side's the written one
  pub profile_offered : List Round → ℕ → Side → Option Proto
  profile_offered [] section side = None
  profile_offered (Offered ask legs keys ∷ rounds) section side =
      Some (if side_eq side (offerer rounds ask) then (section_in ask.sdp section).proto else profile_over (profile_in_force rounds section side) ask section)
  profile_offered (Answered ask ∷ rounds) section side = profile_offered rounds section side

  -- the profile that the last commit of a leg gave it
  pub profile_in_force : List Round → ℕ → Side → Option Proto
  profile_in_force [] section side = None
  profile_in_force (Offered ask legs keys ∷ rounds) section side =
      if is_committed (Offered ask legs keys ∷ rounds) section then profile_in_force rounds section side else None
  profile_in_force (Answered ask ∷ rounds) section side =
      if is_committed (Answered ask ∷ rounds) section then profile_offered rounds section side else None

-- the profile that an offer after these rounds is written with to the other side
abbrev pub written_profile : List Round → OfferAsk → ℕ → Proto
written_profile rounds ask section = profile_over (profile_in_force rounds section (other_side (offerer rounds ask))) ask section
