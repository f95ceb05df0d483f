-- Worked rows of a call between the families: side A's leg has the ports 30000 and 30001 of version 4, and side B's leg those of version 6.
use Rattle.std.proofs.Common.{◌≡◌, List, [], ◌∷◌, Bool, true, false, Some, refl}
use Rattle.std.specs.Prelude.{replicate}
use Rattle.relay_outside.specs.declared.settings.Config.{Config}
use Rattle.relay_outside.specs.declared.address.Family.TheVariants.{V4, V6}
use Rattle.relay_outside.specs.declared.address.Ip.TheVariants as ips
use Rattle.relay_outside.specs.declared.address.Addr.{Addr}
use Rattle.rtp_packet.specs.declared.head.Half.TheVariants.{Rtp, Rtcp}
use Rattle.rtp_packet.specs.Head.{rtp_head, rtcp_ssrc}
use Rattle.port_pool.specs.Ports.{range_pairs}
use Rattle.port_pool.specs.declared.holder.Holder.{Holder}
use Rattle.call_cell.specs.declared.outcome.Outcome.{Outcome}
use Rattle.call_cell.specs.declared.outcome.Outcome.TheVariants as outcomes
use Rattle.call_cell.specs.declared.outcome.Lost.TheVariants as lost
use Rattle.call_cell.specs.Cells.{CellEntry, Prepare, Receipt}
use Rattle.call_cell.specs.Deeds.{deed}
use Rattle.call_cell.proofs.rows.Calls.{config, leg_a, leg_b, at_a, no_flags, plain, side_a, committed, now, steps, rtp_of, rtcp_of, received, next_port}

abbrev both : Config
both = record config { interface6 = Some (ips.V6 (32 ∷ 1 ∷ 13 ∷ 184 ∷ replicate 12 0)) }

-- the range has 5,000 pairs, so this is the first one of version 6
abbrev later_leg : Holder
later_leg = record leg_b { pair = 5000 }

abbrev first_leg : Holder
first_leg = record leg_a { pair = 0 }

abbrev far : Addr
far = record { ip = ips.V6 (32 ∷ 1 ∷ 13 ∷ 184 ∷ replicate 12 1); port = 7000 }

abbrev of_both : List CellEntry
of_both = steps [] (now (Prepare 0 (later_leg ∷ first_leg ∷ []) [] []) ∷ now (committed side_a (plain far no_flags)) ∷ [])

abbrev becomes : Receipt → Bool → Outcome
becomes p ok = (deed both of_both p ok).outcome

-- a packet leaves by a port of the other leg's family
towards_the_later : becomes (received first_leg Rtp at_a (rtp_of 1 1)) true ≡ outcomes.Sent V6 30000 far 13
unfolding deed rtp_head range_pairs
towards_the_later = refl

towards_the_first : becomes (received later_leg Rtcp far (rtcp_of 1)) true ≡ outcomes.Sent V4 30001 (next_port at_a) 8
unfolding deed rtcp_ssrc range_pairs
towards_the_first = refl

-- a send that fails
fails_by_the_later : becomes (received first_leg Rtp at_a (rtp_of 1 1)) false ≡ outcomes.Lost (lost.SendFault V6 30000)
unfolding deed rtp_head range_pairs
fails_by_the_later = refl
