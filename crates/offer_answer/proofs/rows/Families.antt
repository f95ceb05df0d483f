-- Worked rows of the families of legs: which pairs are demanded, which offers and answers have an address that doesn't fit, and which addresses are written.
use Rattle.std.proofs.Common.{◌≡◌, ℕ, List, [], ◌∷◌, ◌++◌, true, Some, None, codes, refl}
use Rattle.relay_outside.specs.declared.address.Family.{Family}
use Rattle.relay_outside.specs.declared.address.Family.TheVariants.{V4, V6}
use Rattle.relay_outside.specs.declared.address.Ip.TheVariants as ips
use Rattle.relay_outside.specs.declared.settings.Config.{Config}
use Rattle.ng_command.specs.declared.command.Options.{Options}
use Rattle.ng_reply.specs.declared.code.ErrorCode.TheVariants.{E8, E12, E20}
use Rattle.port_pool.specs.declared.holder.Side.TheVariants.{A, B}
use Rattle.port_pool.specs.declared.holder.Holder.{Holder}
use Rattle.offer_answer.specs.Rounds.{Round, Offered, NewLeg}
use Rattle.offer_answer.specs.Plan.{offer_fault, demand, answer_fault, offer_text, answer_text}
use Rattle.offer_answer.proofs.rows.Calls.{config, plain, new_four, alice_with, bob_with, audio, secure_audio, no_audio, video, two_legs, leg, nothing, offer_by, answer_by, a, b, none1, none2}
use Rattle.offer_answer.proofs.rows.Texts.{offers_and_answers}

-- the configuration with 2001:db8::1 beside 203.0.113.1; the range has 5,000 pairs for each of them
abbrev both_config : Config
both_config = record config { interface6 = Some (ips.V6 (32 ∷ 1 ∷ 13 ∷ 184 ∷ 0 ∷ 0 ∷ 0 ∷ 0 ∷ 0 ∷ 0 ∷ 0 ∷ 0 ∷ 0 ∷ 0 ∷ 0 ∷ 1 ∷ [])) }

abbrev asking : Family → Options
asking family = record plain { family = Some family }

abbrev from_v6 : Options
from_v6 = record plain { source = Some (ips.V6 (32 ∷ 1 ∷ 13 ∷ 184 ∷ 0 ∷ 0 ∷ 0 ∷ 0 ∷ 0 ∷ 0 ∷ 0 ∷ 0 ∷ 0 ∷ 0 ∷ 0 ∷ 119 ∷ [])) }

abbrev bob6_with : List ℕ → List ℕ
bob6_with media = codes "v=0\r\nc=IN IP6 2001:db8::20\r\n" ++ media

abbrev alice6_with : List ℕ → List ℕ
alice6_with media = codes "v=0\r\nc=IN IP6 2001:db8::10\r\n" ++ media

-- the legs of a section that side A offered from IPv4 towards IPv6
abbrev mixed_legs : List Holder
mixed_legs = leg 0 B 5000 ∷ leg 0 A 0 ∷ []

abbrev mixed : List Round
mixed = Offered (offer_by a (alice_with audio) (asking V6) none1) mixed_legs [] ∷ []

-- New legs.

abbrev new_six : ℕ → NewLeg
new_six section = record { section = section; side = B; family = V6 }

other_leg_is_asked_for : demand [] (offer_by a (alice_with audio) (asking V6) none1) ≡ record { pairs = new_six 0 ∷ new_four 0 A ∷ []; keys = []; dropped = [] }
unfolding demand
other_leg_is_asked_for = refl

-- without a word of it, both legs have the offerer's family
both_legs_are_offerers : demand [] (offer_by a (alice6_with audio) plain none1)
    ≡ record { pairs = new_six 0 ∷ record { section = 0; side = A; family = V6 } ∷ []; keys = []; dropped = [] }
unfolding demand
both_legs_are_offerers = refl

-- the address that is signalled decides, and not the description's
source_decides : demand [] (offer_by a (alice_with audio) from_v6 none1)
    ≡ record { pairs = new_six 0 ∷ record { section = 0; side = A; family = V6 } ∷ []; keys = []; dropped = [] }
unfolding demand
source_decides = refl

-- a section on hold has the family of its unspecified address
hold_has_a_family : demand [] (offer_by a (codes "v=0\r\nc=IN IP6 ::\r\n" ++ audio) (asking V4) none1)
    ≡ record { pairs = new_four 0 B ∷ record { section = 0; side = A; family = V6 } ∷ []; keys = []; dropped = [] }
unfolding demand
hold_has_a_family = refl

-- legs that stand keep their family
repeated_demands_nothing : demand mixed (offer_by a (alice_with audio) (asking V4) none1) ≡ nothing
unfolding demand
repeated_demands_nothing = refl

-- Addresses that don't fit.

abbrev audio_with : List ℕ → List ℕ
audio_with line = audio ++ line

other_rtcp_offered : offer_fault [] (offer_by a (alice_with (audio_with (codes "a=rtcp:6001 IN IP6 2001:db8::10\r\n"))) plain none1) ≡ Some E20
unfolding offer_fault
other_rtcp_offered = refl

-- a section on hold is exempt with all its addresses
held_rtcp_offered : offer_fault [] (offer_by a (codes "v=0\r\nc=IN IP4 0.0.0.0\r\n" ++ audio_with (codes "a=rtcp:6001 IN IP6 2001:db8::10\r\n")) plain none1) ≡ None
unfolding offer_fault
held_rtcp_offered = refl

-- so is one whose address isn't signalled
source_covers_rtcp : offer_fault [] (offer_by a (alice_with (audio_with (codes "a=rtcp:6001 IN IP6 2001:db8::10\r\n"))) from_v6 none1) ≡ None
unfolding offer_fault
source_covers_rtcp = refl

offerer_changes_family : offer_fault mixed (offer_by a (alice6_with audio) plain none1) ≡ Some E20
unfolding offer_fault
offerer_changes_family = refl

-- it stands before the lack of a crypto line, and after the number of sections
family_before_lines : offer_fault mixed (offer_by a (alice6_with secure_audio) plain none1) ≡ Some E20
unfolding offer_fault
family_before_lines = refl

lines_where_families_fit : offer_fault mixed (offer_by a (alice_with secure_audio) plain none1) ≡ Some E8
unfolding offer_fault
lines_where_families_fit = refl

answer_fits : answer_fault mixed (answer_by a b (bob6_with audio) plain none1) ≡ None
unfolding answer_fault
answer_fits = refl

answer_of_another_family : answer_fault mixed (answer_by a b (bob_with audio) plain none1) ≡ Some E20
unfolding answer_fault
answer_of_another_family = refl

-- `address family` says nothing in an answer
answer_asks_for_family : answer_fault mixed (answer_by a b (bob6_with audio) (asking V4) none1) ≡ None
unfolding answer_fault
answer_asks_for_family = refl

more_sections_first : answer_fault mixed (answer_by a b (bob_with (audio ++ video)) plain none2) ≡ Some E12
unfolding answer_fault
more_sections_first = refl

unused_section_fits : answer_fault mixed (answer_by a b (bob_with no_audio) plain none1) ≡ None
unfolding answer_fault
unused_section_fits = refl

-- a section that the answer rejects, since it isn't active in the offer, is asked too
rejected_section_differs : answer_fault (Offered (offer_by a (alice_with (audio ++ no_audio)) plain none2) (two_legs 0 0) [] ∷ [])
    (answer_by a b (bob_with (audio ++ audio_with (codes "a=rtcp:6001 IN IP6 2001:db8::10\r\n"))) plain none2) ≡ Some E20
unfolding answer_fault
rejected_section_differs = refl

-- What is written.

offer_towards_v6 : offer_text both_config [] (offer_by a (alice_with audio) (asking V6) none1) (30000 ∷ 30000 ∷ []) []
    ≡ codes "v=0\r\nc=IN IP4 192.0.2.10\r\nm=audio 30000 RTP/AVP 0\r\nc=IN IP6 2001:db8::1\r\n"
unfolding offers_and_answers
offer_towards_v6 = refl

-- the leg that stands is written with its own family's address
standing_v6_leg : offer_text both_config mixed (offer_by a (alice_with audio) (asking V4) none1) [] []
    ≡ codes "v=0\r\nc=IN IP4 192.0.2.10\r\nm=audio 30000 RTP/AVP 0\r\nc=IN IP6 2001:db8::1\r\n"
unfolding offers_and_answers
standing_v6_leg = refl

answer_from_v6 : answer_text both_config mixed (answer_by a b (bob6_with audio) plain none1)
    ≡ codes "v=0\r\nc=IN IP6 2001:db8::20\r\nm=audio 30000 RTP/AVP 0\r\nc=IN IP4 203.0.113.1\r\n"
unfolding offers_and_answers
answer_from_v6 = refl

-- Before the first section stands the address of the first one with a port, and beside a port 0 that of the interface of version 4.
session_has_first_used_address : offer_text both_config [] (offer_by a (alice_with (no_audio ++ video)) (record (asking V6) { replace_session = true }) none2) (30000 ∷ 30000 ∷ []) []
    ≡ codes "v=0\r\nc=IN IP6 2001:db8::1\r\nm=audio 0 RTP/AVP 0\r\nc=IN IP4 203.0.113.1\r\nm=video 30000 RTP/AVP 31\r\nc=IN IP6 2001:db8::1\r\n"
unfolding offers_and_answers
session_has_first_used_address = refl

session_of_unused_sections : offer_text both_config [] (offer_by a (alice6_with no_audio) (record (asking V6) { replace_session = true }) none1) [] []
    ≡ codes "v=0\r\nc=IN IP4 203.0.113.1\r\nm=audio 0 RTP/AVP 0\r\nc=IN IP4 203.0.113.1\r\n"
unfolding offers_and_answers
session_of_unused_sections = refl
