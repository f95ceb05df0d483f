-- The families of addresses and legs: a leg has one family for its life, which is that of its pair of ports.
use Rattle.std.specs.Prelude.{ℕ, List, [], ◌∷◌, Bool, not, ◌&&◌, ◌||◌, Option, Some, None, if◌then◌else◌, unwrap_or, option_map}
use Rattle.relay_outside.specs.declared.address.Family.{Family}
use Rattle.relay_outside.specs.Settings.{ip_family, family_eq}
use Rattle.sdp_text.specs.declared.section.Section.{Section}
use Rattle.ng_command.specs.declared.command.Options.{Options}
use Rattle.port_pool.specs.declared.holder.Side.{Side}
use Rattle.port_pool.specs.Signals.{side_eq}
use Rattle.offer_answer.specs.Rounds.{Round, Offered, Answered, OfferAsk}
use Rattle.offer_answer.specs.Sides.{MadeOffer, offerer}
use Rattle.offer_answer.specs.Sections.{section_in, leases, has_pairs}
use Rattle.offer_answer.specs.Signals.{signalled}

-- the families of the two addresses that a section signals
abbrev pub rtp_family : Options → Section → Family
rtp_family options section = ip_family (signalled options.source section.address)

abbrev pub rtcp_family : Options → Section → Family
rtcp_family options section = ip_family (signalled options.source section.rtcp_address)

-- the family of a new leg, by the section of an offer with these options: the offerer's is that of its address, the other side's
-- the one that is asked for, and else the offerer's
abbrev pub family_by : Options → Section → Side → Side → Family
family_by options section maker side =
    if side_eq side maker then rtp_family options section else unwrap_or options.family (rtp_family options section)

abbrev pub new_family : List Round → OfferAsk → ℕ → Side → Family
new_family rounds ask section side = family_by ask.options (section_in ask.sdp section) (offerer rounds ask) side

-- the last offer that leased pairs for the section
abbrev pub leasing_offer : List Round → ℕ → Option MadeOffer
leasing_offer [] section = None
leasing_offer (Offered ask legs keys ∷ rounds) section =
    if leases (Offered ask legs keys) section then Some (record { ask = ask; keys = keys; before = rounds }) else leasing_offer rounds section
leasing_offer (Answered ask ∷ rounds) section = leasing_offer rounds section

-- the family of a section's leg on a side, by the offer that leased the pairs that the section has
abbrev pub leg_family : List Round → ℕ → Side → Option Family
leg_family rounds section side =
    if has_pairs rounds section
    then option_map (λ (offer : MadeOffer). new_family offer.before offer.ask section side) (leasing_offer rounds section)
    else None

-- the family of a leg after an offer that uses its section: the one that it has, and that of a new leg where it is new
abbrev pub family_after : List Round → OfferAsk → ℕ → Side → Family
family_after rounds ask section side = unwrap_or (leg_family rounds section side) (new_family rounds ask section side)

-- The section isn't on hold, and one of its addresses is of another family than its side's leg. Without such a leg its two addresses
-- are of two families.
abbrev pub misfits : Option Family → Options → Section → Bool
misfits leg options section =
    let family = unwrap_or leg (rtp_family options section) in
    not section.hold && (not (family_eq (rtp_family options section) family) || not (family_eq (rtcp_family options section) family))
