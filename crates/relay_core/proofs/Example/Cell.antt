-- The relays of the worked calls: a packet of side A leaves towards side B under the key of 80 bits, and one of side B, which
-- is opened under the key of its crypto line, leaves towards side A.
use Rattle.std.proofs.Common.{◌≡◌, ◌∙◌, sym, ap, refl, ℕ, List, [], ◌∷◌, ◌≤◌, false, true, Some, None, length, arith}
use Rattle.std.specs.Prelude.{Result, Ok, Err, not, is_some, nat_lt, if◌then◌else◌}
use Rattle.std.specs.Option.{option_map_or}
use Rattle.relay_outside.specs.declared.address.Addr.{Addr}
use Rattle.relay_outside.specs.declared.address.Family.TheVariants as families
use Rattle.relay_outside.specs.declared.address.Ip.TheVariants as ips
use Rattle.rtp_packet.specs.declared.head.Half.TheVariants.{Rtp}
use Rattle.rtp_packet.specs.declared.head.RtpHead.{RtpHead}
use Rattle.rtp_packet.specs.Head.{rtp_head}
use Rattle.port_pool.specs.Ports.{range_pairs}
use Rattle.replay_window.specs.Indices.{near, nearest_lifted, fresh}
use Rattle.srtp_sources.specs.Notes.{Note, indices, sources, has_room}
use Rattle.srtp_keys.specs.declared.faults.UnprotectFault.{UnprotectFault}
use Rattle.srtp_keys.specs.declared.faults.UnprotectFault.TheVariants as fault
use Rattle.srtp_context.specs.Packets as srtp
use Rattle.srtp_context.specs.InboundPackets as srtp_in
use Rattle.srtp_context.specs.OutboundPackets as srtp_out
use Rattle.srtp_context.proofs.PacketLemmas.{protect-opens}
use Rattle.sdes_lines.specs.declared.crypto_line.Suite.TheVariants.{Tag80}
use Rattle.call_cell.specs.declared.outcome.Refused.TheVariants as refused
use Rattle.call_cell.specs.declared.outcome.Outcome.TheVariants.{Refused, Sent}
use Rattle.call_cell.specs.Cells.{CellEntry, Prepare, Commit, Relay, Receipt, Relayed, Sending}
use Rattle.call_cell.specs.Protection.{Stopped, Passed, opened_rtp, opened_under, wrapped_under}
use Rattle.call_cell.specs.Demands.{is_due, FitsRelay}
use Rattle.call_cell.specs.Deeds.{judged, deed_judged, deed}
use Rattle.relay_core.proofs.Example.Datagrams.{config, leg_a, leg_b, legs, keys, first_draw, answerers_key, signal, signal_b, next_legs, last_legs}
use Rattle.relay_core.proofs.Example.Wire.{IsWire, protected_is_wire}

-- From side A to side B.

-- where side A's packets come from, which is not where it signalled
abbrev pub source_a : Addr
source_a = record { ip = ips.V4 (192 ∷ 0 ∷ 2 ∷ 77 ∷ []); port = 5000 }

-- an RTP packet of 13 bytes with sequence number 100
unfoldable pub packet : List ℕ
packet = 128 ∷ 0 ∷ 0 ∷ 100 ∷ 0 ∷ 0 ∷ 0 ∷ 0 ∷ 17 ∷ 17 ∷ 17 ∷ 17 ∷ 1 ∷ []

pub packet_is_short : length packet ≤ 2000
unfolding packet
packet_is_short = omega arith

-- it was taken by the second step of its box
abbrev pub receipt : Receipt
receipt = record { take = 1; half = Rtp; source = source_a; bytes = packet; holder = leg_a }

abbrev pub answered : List CellEntry
answered = record { moment = 2000; event = Commit signal } ∷ record { moment = 1000; event = Prepare 0 legs keys [] } ∷ []

-- its one send
abbrev pub sending : Sending
sending = record { pair = 0; half = Rtp; to = signal_b.rtp; bytes = srtp.protect first_draw Tag80 packet 100 }

abbrev pub relayed : Relayed
relayed = record {
  packet = receipt;
  sent_ok = true;
  deed = record {
    outcome = Sent families.V4 30000 signal_b.rtp (length sending.bytes);
    kind = Rtp;
    noted = None;
    shield = Some (record { key = 0; note = record { half = Rtp; ssrc = 286331153; index = 100 } });
    sending = Some sending;
  };
}

pub relay_fits : FitsRelay config answered relayed
unfolding packet deed rtp_head range_pairs wrapped_under srtp_out.wrapping srtp_out.sent_index near nearest_lifted fresh indices sources has_room
relay_fits = record { does = refl; answered = tt }

-- From side B to side A.

-- an RTP packet of 13 bytes with sequence number 200, and what side B makes of it
unfoldable pub reply : List ℕ
reply = 128 ∷ 0 ∷ 0 ∷ 200 ∷ 0 ∷ 0 ∷ 0 ∷ 0 ∷ 34 ∷ 34 ∷ 34 ∷ 34 ∷ 1 ∷ []

unfoldable pub wire : List ℕ
wire = srtp.protect answerers_key Tag80 reply 200

abbrev head : RtpHead
head = record { ssrc = 572662306; seq = 200; head = 12 }

reply_head : rtp_head reply ≡ Some head
unfolding reply rtp_head
reply_head = refl

wire_is : IsWire Tag80 reply wire head
unfolding wire
wire_is = protected_is_wire answerers_key Tag80 reply 200 head reply_head

wire_opens : srtp.OpensAs answerers_key Tag80 wire 200 reply
unfolding wire
wire_opens = protect-opens answerers_key Tag80 reply 200 head reply_head

size_of_wire : length wire ≡ 23
unfolding reply
size_of_wire = wire_is.size

pub wire_is_short : length wire ≤ 2000
wire_is_short = omega (arith, size_of_wire)

abbrev pub reply_note : Note
reply_note = record { half = Rtp; ssrc = 572662306; index = 200 }

abbrev taken_at : Result ℕ UnprotectFault
taken_at = srtp_in.taken_index answerers_key Tag80 [] wire head

takes : taken_at ≡ Ok 200
unfolding srtp_in.taken_index near fresh indices sources has_room
takes =
    ap (λ (n : ℕ). if nat_lt n 22 then Err fault.Short else (if srtp.is_authentic answerers_key Tag80 wire 200 then Ok 200 else Err fault.NotAuthentic)) size_of_wire
    ∙ ap (λ b. if b then Ok 200 else Err fault.NotAuthentic) wire_opens.authentic

opens : opened_under (answerers_key, Tag80) [] Rtp wire ≡ Passed (Some reply_note) reply
unfolding opened_under srtp_in.opening
opens =
    ap (λ o. opened_rtp (option_map_or (λ found. srtp_in.opened_at answerers_key Tag80 wire found (srtp_in.taken_index answerers_key Tag80 [] wire found)) o (Err fault.Short))) wire_is.head
    ∙ ap (λ r. opened_rtp (srtp_in.opened_at answerers_key Tag80 wire head r)) takes
    ∙ ap (λ l. Passed (Some reply_note) l) wire_opens.holds

abbrev pub receipt_back : Receipt
receipt_back = record { take = 1; half = Rtp; source = signal_b.rtp; bytes = wire; holder = leg_b }

abbrev pub after_relay : List CellEntry
after_relay = record { moment = 2020; event = Relay relayed } ∷ answered

is_judged : judged after_relay receipt_back leg_b ≡ Passed (Some reply_note) reply
is_judged =
    ap (λ o. if not (is_some o) then Stopped refused.Malformed else opened_under (answerers_key, Tag80) [] Rtp wire) wire_is.head ∙ opens

-- it goes to where side A's packet came from
abbrev pub sending_back : Sending
sending_back = record { pair = 1; half = Rtp; to = source_a; bytes = reply }

abbrev pub relayed_back : Relayed
relayed_back = record {
  packet = receipt_back;
  sent_ok = true;
  deed = record {
    outcome = Sent families.V4 30002 source_a (length reply);
    kind = Rtp;
    noted = Some reply_note;
    shield = None;
    sending = Some sending_back;
  };
}

pub relay_back_fits : FitsRelay config after_relay relayed_back
unfolding deed range_pairs
relay_back_fits = record { does = sym (ap (deed_judged config after_relay receipt_back true leg_b) is_judged); answered = tt }

pub is_wire : receipt_back.bytes ≡ srtp.protect answerers_key Tag80 sending_back.bytes 200
unfolding wire
is_wire = refl

-- A packet that was taken for side A's leg is relayed when the next call has the cell.

abbrev pub late_receipt : Receipt
late_receipt = record receipt { take = 2 }

abbrev pub refused_late : Relayed
refused_late = record {
  packet = late_receipt;
  sent_ok = true;
  deed = record { outcome = Refused refused.Stale; kind = Rtp; noted = None; shield = None; sending = None };
}

abbrev next_offered : List CellEntry
next_offered = record { moment = 6000; event = Prepare 1 next_legs [] [] } ∷ []

pub late_fits : FitsRelay config next_offered refused_late
unfolding deed
late_fits = record { does = refl; answered = refl }

-- After its packets the first call hasn't timed out at a tick; the next one has, an hour after its offer.

abbrev after_relays : List CellEntry
after_relays = record { moment = 2040; event = Relay relayed_back } ∷ after_relay

pub is_not_due : false ≡ is_due config after_relays 3000
unfolding is_due
is_not_due = refl

abbrev after_late : List CellEntry
after_late = record { moment = 6010; event = Relay refused_late } ∷ next_offered

pub is_due_now : true ≡ is_due config after_late 3606000
unfolding is_due
is_due_now = refl

-- The last one hasn't, half a minute after its offer.

abbrev last_offered : List CellEntry
last_offered = record { moment = 3607000; event = Prepare 2 last_legs [] [] } ∷ []

pub is_not_due_yet : false ≡ is_due config last_offered 3637999
unfolding is_due
is_not_due_yet = refl
