-- What the contexts of one key do, half by half: a note of one half changes nothing in the other half's context.
use Rattle.std.proofs.Common.{◌≡◌, refl, ap, subst, sym, ◌∙◌, ℕ, List, ◌∷◌, ◌++◌, Bool, false, Option, Some, None, Result, Ok, Err, length, take, drop, take_at}
use Rattle.std.specs.Prelude.{◌==◌, ◌&&◌, if◌then◌else◌}
use Rattle.std.specs.List.{cons_option, filter_map}
use Rattle.std.specs.Option.{option_map_or}
use Rattle.sdes_lines.specs.declared.crypto_line.Suite.{Suite}
use Rattle.rtp_packet.specs.declared.head.Half.{Half}
use Rattle.rtp_packet.specs.declared.head.Half.TheVariants.{Rtp, Rtcp}
use Rattle.rtp_packet.specs.declared.head.RtpHead.{RtpHead}
use Rattle.rtp_packet.specs.Head.{rtp_head, rtcp_ssrc}
use Rattle.srtp_keys.specs.declared.faults.UnprotectFault.{UnprotectFault}
use Rattle.srtp_keys.specs.declared.faults.UnprotectFault.TheVariants as opening_fault
use Rattle.srtp_keys.specs.declared.faults.ProtectFault.{ProtectFault}
use Rattle.srtp_keys.specs.declared.faults.ProtectFault.TheVariants as wrapping_fault
use Rattle.srtp_sources.specs.Notes.{Note, is_half, once, source_under, sources, index_under, indices}
use Rattle.srtp_sources.proofs.Tabling.{noted_elsewhere}
use Rattle.srtp_context.specs.declared.inbound.InRtp.{InRtp}
use Rattle.srtp_context.specs.declared.outbound.OutRtp.{OutRtp}
use Rattle.srtp_context.specs.InboundPackets as srtp
use Rattle.srtp_context.specs.OutboundPackets as srtp_out
use Rattle.srtp_context.specs.Contexts as srtp_for
use Rattle.srtcp_context.specs.declared.inbound.InRtcp.{InRtcp}
use Rattle.srtcp_context.specs.declared.outbound.OutRtcp.{OutRtcp}
use Rattle.srtcp_context.specs.declared.counts.Counts.{Counts}
use Rattle.srtcp_context.specs.Counts.{CountsFor}
use Rattle.srtcp_context.specs.InboundPackets as srtcp
use Rattle.srtcp_context.specs.OutboundPackets as srtcp_out
use Rattle.srtcp_context.specs.Contexts as srtcp_for
use Rattle.port_pool.specs.Signals.{NewKey}
use Rattle.call_cell.specs.declared.outcome.Refused.{Refused}
use Rattle.call_cell.specs.declared.outcome.Lost.{Lost}
use Rattle.call_cell.specs.declared.contexts.Inbound.{Inbound}
use Rattle.call_cell.specs.declared.contexts.Outbound.{Outbound}
use Rattle.call_cell.specs.Protection.{refused_by, opened_rtp, opened_rtcp, opened_under, lost_by, wrapped_rtp, wrapped_rtcp, wrapped_under}
use Rattle.call_cell.specs.Contexts.{InboundFor, InboundOpensTo, OutboundFor, OutboundWrapsTo}

-- The halves of notes.

abbrev half_opened : Result srtp.Opened UnprotectFault → Half
half_opened (Ok w) = w.note.half
half_opened (Err cause) = Rtp

abbrev half_opened_control : Result srtcp.Opened UnprotectFault → Half
half_opened_control (Ok w) = w.note.half
half_opened_control (Err cause) = Rtcp

abbrev half_wrapped : Result srtp_out.Wrapped ProtectFault → Half
half_wrapped (Ok w) = w.note.half
half_wrapped (Err cause) = Rtp

abbrev half_wrapped_control : Result srtcp_out.Wrapped ProtectFault → Half
half_wrapped_control (Ok w) = w.note.half
half_wrapped_control (Err cause) = Rtcp

opened_is_rtp : (master : List ℕ) (suite : Suite) (bytes : List ℕ) (found : RtpHead) (r : Result ℕ UnprotectFault) (w : srtp.Opened)
    → srtp.opened_at master suite bytes found r ≡ Ok w → w.note.half ≡ Rtp
opened_is_rtp master suite bytes found (Err cause) w q = absurd (let f = q in cc)
opened_is_rtp master suite bytes found (Ok index) w q = sym (ap half_opened q)

head_is_rtp : (master : List ℕ) (suite : Suite) (notes : List Note) (bytes : List ℕ) (o : Option RtpHead) (w : srtp.Opened)
    → option_map_or (λ (found : RtpHead). srtp.opened_at master suite bytes found (srtp.taken_index master suite notes bytes found)) o (Err opening_fault.Short) ≡ Ok w
    → w.note.half ≡ Rtp
head_is_rtp master suite notes bytes None w q = absurd (let f = q in cc)
head_is_rtp master suite notes bytes (Some found) w q = opened_is_rtp master suite bytes found (srtp.taken_index master suite notes bytes found) w q

opening_is_rtp : (master : List ℕ) (suite : Suite) (notes : List Note) (bytes : List ℕ) (w : srtp.Opened)
    → srtp.opening master suite notes bytes ≡ Ok w → w.note.half ≡ Rtp
unfolding srtp.opening
opening_is_rtp master suite notes bytes w q = head_is_rtp master suite notes bytes (rtp_head bytes) w q

opened_is_rtcp : (master bytes : List ℕ) (ssrc : ℕ) (r : Result ℕ UnprotectFault) (w : srtcp.Opened)
    → srtcp.rtcp_opened_at master bytes ssrc r ≡ Ok w → w.note.half ≡ Rtcp
opened_is_rtcp master bytes ssrc (Err cause) w q = absurd (let f = q in cc)
opened_is_rtcp master bytes ssrc (Ok index) w q = sym (ap half_opened_control q)

ssrc_is_rtcp : (master : List ℕ) (notes : List Note) (bytes : List ℕ) (o : Option ℕ) (w : srtcp.Opened)
    → option_map_or (λ (ssrc : ℕ). srtcp.rtcp_opened_at master bytes ssrc (srtcp.taken_rtcp_index master notes bytes ssrc)) o (Err opening_fault.Short) ≡ Ok w
    → w.note.half ≡ Rtcp
ssrc_is_rtcp master notes bytes None w q = absurd (let f = q in cc)
ssrc_is_rtcp master notes bytes (Some ssrc) w q = opened_is_rtcp master bytes ssrc (srtcp.taken_rtcp_index master notes bytes ssrc) w q

opening_is_rtcp : (master : List ℕ) (notes : List Note) (bytes : List ℕ) (w : srtcp.Opened)
    → srtcp.rtcp_opening master notes bytes ≡ Ok w → w.note.half ≡ Rtcp
unfolding srtcp.rtcp_opening
opening_is_rtcp master notes bytes w q = ssrc_is_rtcp master notes bytes (rtcp_ssrc bytes) w q

wrapped_is_rtp : (master : List ℕ) (suite : Suite) (bytes : List ℕ) (found : RtpHead) (r : Result ℕ ProtectFault) (w : srtp_out.Wrapped)
    → srtp_out.wrapped_at master suite bytes found r ≡ Ok w → w.note.half ≡ Rtp
wrapped_is_rtp master suite bytes found (Err cause) w q = absurd (let f = q in cc)
wrapped_is_rtp master suite bytes found (Ok index) w q = sym (ap half_wrapped q)

sent_is_rtp : (master : List ℕ) (suite : Suite) (notes : List Note) (bytes : List ℕ) (o : Option RtpHead) (w : srtp_out.Wrapped)
    → option_map_or (λ (found : RtpHead). srtp_out.wrapped_at master suite bytes found (srtp_out.sent_index notes found)) o (Err wrapping_fault.TooOld) ≡ Ok w
    → w.note.half ≡ Rtp
sent_is_rtp master suite notes bytes None w q = absurd (let f = q in cc)
sent_is_rtp master suite notes bytes (Some found) w q = wrapped_is_rtp master suite bytes found (srtp_out.sent_index notes found) w q

wrapping_is_rtp : (master : List ℕ) (suite : Suite) (notes : List Note) (bytes : List ℕ) (w : srtp_out.Wrapped)
    → srtp_out.wrapping master suite notes bytes ≡ Ok w → w.note.half ≡ Rtp
unfolding srtp_out.wrapping
wrapping_is_rtp master suite notes bytes w q = sent_is_rtp master suite notes bytes (rtp_head bytes) w q

wrapped_is_rtcp : (master bytes : List ℕ) (ssrc : ℕ) (r : Result ℕ ProtectFault) (w : srtcp_out.Wrapped)
    → srtcp_out.rtcp_wrapped_at master bytes ssrc r ≡ Ok w → w.note.half ≡ Rtcp
wrapped_is_rtcp master bytes ssrc (Err cause) w q = absurd (let f = q in cc)
wrapped_is_rtcp master bytes ssrc (Ok index) w q = sym (ap half_wrapped_control q)

sent_is_rtcp : (master : List ℕ) (notes : List Note) (bytes : List ℕ) (o : Option ℕ) (w : srtcp_out.Wrapped)
    → option_map_or (λ (ssrc : ℕ). srtcp_out.rtcp_wrapped_at master bytes ssrc (srtcp_out.sent_rtcp_index notes ssrc)) o (Err wrapping_fault.TooManySources) ≡ Ok w
    → w.note.half ≡ Rtcp
sent_is_rtcp master notes bytes None w q = absurd (let f = q in cc)
sent_is_rtcp master notes bytes (Some ssrc) w q = wrapped_is_rtcp master bytes ssrc (srtcp_out.sent_rtcp_index notes ssrc) w q

wrapping_is_rtcp : (master : List ℕ) (notes : List Note) (bytes : List ℕ) (w : srtcp_out.Wrapped)
    → srtcp_out.rtcp_wrapping master notes bytes ≡ Ok w → w.note.half ≡ Rtcp
unfolding srtcp_out.rtcp_wrapping
wrapping_is_rtcp master notes bytes w q = sent_is_rtcp master notes bytes (rtcp_ssrc bytes) w q

-- A note of the other half.

sources_elsewhere : (note : Note) (notes : List Note) → is_half Rtcp note.half ≡ false → sources Rtcp (note ∷ notes) ≡ sources Rtcp notes
unfolding sources
sources_elsewhere note notes not =
    ap (λ (t : Bool). once (cons_option (if t then Some note.ssrc else None) (filter_map (source_under Rtcp) notes))) not

indices_elsewhere : (ssrc : ℕ) (note : Note) (notes : List Note) → is_half Rtcp note.half ≡ false → indices Rtcp ssrc (note ∷ notes) ≡ indices Rtcp ssrc notes
unfolding indices
indices_elsewhere ssrc note notes not =
    ap (λ (t : Bool). cons_option (if t && (note.ssrc == ssrc) then Some note.index else None) (filter_map (index_under Rtcp ssrc) notes)) not

counted_elsewhere : (table : Counts) (note : Note) (notes : List Note) → is_half Rtcp note.half ≡ false
    → CountsFor table notes → CountsFor table (note ∷ notes)
counted_elsewhere table note notes not for = record {
  known = for.known ∙ sym (sources_elsewhere note notes not);
  each = λ place below. for.each place below ∙ sym (ap (λ (l : List ℕ). length l) (indices_elsewhere _ note notes not));
}

no_rtp : (half : Half) → half ≡ Rtp → is_half Rtcp half ≡ false
no_rtp half q = ap (λ (h : Half). is_half Rtcp h) q

no_rtcp : (half : Half) → half ≡ Rtcp → is_half Rtp half ≡ false
no_rtcp half q = ap (λ (h : Half). is_half Rtp h) q

front_is : (bytes rest buf : List ℕ) → buf ≡ bytes ++ rest → take (length bytes) buf ≡ bytes
front_is bytes rest buf q = ap (λ (l : List ℕ). take (length bytes) l) q ∙ take_at bytes rest (length bytes) refl

-- Opening.

abbrev pub refusal : Refused → Result ℕ Refused
refusal cause = Err cause

abbrev pub loss : Lost → Result ℕ Lost
loss cause = Err cause

abbrev pub opened_answer : Result ℕ UnprotectFault → Result ℕ Refused
opened_answer (Ok size) = Ok size
opened_answer (Err cause) = Err (refused_by cause)

rtp_opens : (key : List ℕ × Suite) (notes : List Note) (old : Inbound) (new : InRtp) (buf_old buf_new : List ℕ) (r : Result ℕ UnprotectFault)
    → InboundFor key old notes → (o : Result srtp.Opened UnprotectFault) → ((w : srtp.Opened) → o ≡ Ok w → w.note.half ≡ Rtp)
    → srtp_for.OpensRtpTo o key.0 key.1 notes old.rtp new buf_old buf_new r
    → InboundOpensTo (opened_rtp o) key notes old (record { rtp = new; rtcp = old.rtcp }) buf_new (opened_answer r)
rtp_opens key notes old new buf_old buf_new r for (Err cause) half does =
    record { answer = ap opened_answer does.answer; contexts = ap (λ (x : InRtp). record { rtp = x; rtcp = old.rtcp }) does.context }
rtp_opens key notes old new buf_old buf_new r for (Ok w) half does =
    record {
      answer = ap opened_answer does.answer;
      buffer = front_is w.packet (drop (length w.packet) buf_old) buf_new does.buffer;
      contexts = record {
        rtp = does.context;
        rtcp = record {
          session = for.rtcp.session;
          sources = noted_elsewhere Rtcp old.rtcp.sources w.note notes (no_rtp w.note.half (half w refl)) for.rtcp.sources;
        };
      };
    }

pub opens_rtp : (key : List ℕ × Suite) (notes : List Note) (bytes : List ℕ) (old : Inbound) (new : InRtp) (buf_old buf_new : List ℕ)
    (r : Result ℕ UnprotectFault) (result : Result ℕ Refused) → result ≡ opened_answer r → InboundFor key old notes
    → srtp_for.OpensRtpTo (srtp.opening key.0 key.1 notes bytes) key.0 key.1 notes old.rtp new buf_old buf_new r
    → InboundOpensTo (opened_under key notes Rtp bytes) key notes old (record { rtp = new; rtcp = old.rtcp }) buf_new result
unfolding opened_under
opens_rtp key notes bytes old new buf_old buf_new r result is for does =
    let P : Result ℕ Refused → Type 0 = λ (x : Result ℕ Refused).
    InboundOpensTo (opened_rtp (srtp.opening key.0 key.1 notes bytes)) key notes old (record { rtp = new; rtcp = old.rtcp }) buf_new x in
    subst P (sym is)
    (rtp_opens key notes old new buf_old buf_new r for (srtp.opening key.0 key.1 notes bytes) (opening_is_rtp key.0 key.1 notes bytes) does)

rtcp_opens : (key : List ℕ × Suite) (notes : List Note) (old : Inbound) (new : InRtcp) (buf_old buf_new : List ℕ) (r : Result ℕ UnprotectFault)
    → InboundFor key old notes → (o : Result srtcp.Opened UnprotectFault) → ((w : srtcp.Opened) → o ≡ Ok w → w.note.half ≡ Rtcp)
    → srtcp_for.OpensRtcpTo o key.0 notes old.rtcp new buf_old buf_new r
    → InboundOpensTo (opened_rtcp o) key notes old (record { rtp = old.rtp; rtcp = new }) buf_new (opened_answer r)
rtcp_opens key notes old new buf_old buf_new r for (Err cause) half does =
    record { answer = ap opened_answer does.answer; contexts = ap (λ (x : InRtcp). record { rtp = old.rtp; rtcp = x }) does.context }
rtcp_opens key notes old new buf_old buf_new r for (Ok w) half does =
    record {
      answer = ap opened_answer does.answer;
      buffer = front_is w.packet (drop (length w.packet) buf_old) buf_new does.buffer;
      contexts = record {
        rtp = record {
          session = for.rtp.session;
          sources = noted_elsewhere Rtp old.rtp.sources w.note notes (no_rtcp w.note.half (half w refl)) for.rtp.sources;
        };
        rtcp = does.context;
      };
    }

pub opens_rtcp : (key : List ℕ × Suite) (notes : List Note) (bytes : List ℕ) (old : Inbound) (new : InRtcp) (buf_old buf_new : List ℕ)
    (r : Result ℕ UnprotectFault) (result : Result ℕ Refused) → result ≡ opened_answer r → InboundFor key old notes
    → srtcp_for.OpensRtcpTo (srtcp.rtcp_opening key.0 notes bytes) key.0 notes old.rtcp new buf_old buf_new r
    → InboundOpensTo (opened_under key notes Rtcp bytes) key notes old (record { rtp = old.rtp; rtcp = new }) buf_new result
unfolding opened_under
opens_rtcp key notes bytes old new buf_old buf_new r result is for does =
    let P : Result ℕ Refused → Type 0 = λ (x : Result ℕ Refused).
    InboundOpensTo (opened_rtcp (srtcp.rtcp_opening key.0 notes bytes)) key notes old (record { rtp = old.rtp; rtcp = new }) buf_new x in
    subst P (sym is)
    (rtcp_opens key notes old new buf_old buf_new r for (srtcp.rtcp_opening key.0 notes bytes) (opening_is_rtcp key.0 notes bytes) does)

-- Protecting.

abbrev pub wrapped_answer : Result (ℕ × ℕ) ProtectFault → Result ℕ Lost
wrapped_answer (Ok sent) = Ok sent.0
wrapped_answer (Err cause) = Err (lost_by cause)

rtp_wraps : (key : NewKey) (notes : List Note) (old : Outbound) (new : OutRtp) (buf_old buf_new : List ℕ) (r : Result (ℕ × ℕ) ProtectFault)
    → OutboundFor key old notes → (o : Result srtp_out.Wrapped ProtectFault) → ((w : srtp_out.Wrapped) → o ≡ Ok w → w.note.half ≡ Rtp)
    → srtp_for.WrapsRtpTo o key.bytes key.suite notes old.rtp new buf_old buf_new r
    → OutboundWrapsTo (wrapped_rtp key.number o) key notes old (record { number = old.number; rtp = new; rtcp = old.rtcp }) buf_new (wrapped_answer r)
rtp_wraps key notes old new buf_old buf_new r for (Err cause) half does =
    record {
      answer = ap wrapped_answer does.answer;
      contexts = ap (λ (x : OutRtp). record { number = old.number; rtp = x; rtcp = old.rtcp }) does.context;
    }
rtp_wraps key notes old new buf_old buf_new r for (Ok w) half does =
    record {
      answer = ap wrapped_answer does.answer;
      buffer = front_is w.bytes (drop (length w.bytes) buf_old) buf_new does.buffer;
      under = refl;
      contexts = record {
        number = for.number;
        rtp = does.context;
        rtcp = record {
          session = for.rtcp.session;
          counts = counted_elsewhere old.rtcp.counts w.note notes (no_rtp w.note.half (half w refl)) for.rtcp.counts;
        };
      };
    }

pub wraps_rtp : (key : NewKey) (notes : List Note) (bytes : List ℕ) (old : Outbound) (new : OutRtp) (buf_old buf_new : List ℕ)
    (r : Result (ℕ × ℕ) ProtectFault) (result : Result ℕ Lost) → result ≡ wrapped_answer r → OutboundFor key old notes
    → srtp_for.WrapsRtpTo (srtp_out.wrapping key.bytes key.suite notes bytes) key.bytes key.suite notes old.rtp new buf_old buf_new r
    → OutboundWrapsTo (wrapped_under key notes Rtp bytes) key notes old (record { number = old.number; rtp = new; rtcp = old.rtcp }) buf_new result
unfolding wrapped_under
wraps_rtp key notes bytes old new buf_old buf_new r result is for does =
    let P : Result ℕ Lost → Type 0 = λ (x : Result ℕ Lost).
    OutboundWrapsTo (wrapped_rtp key.number (srtp_out.wrapping key.bytes key.suite notes bytes)) key notes old (record { number = old.number; rtp = new; rtcp = old.rtcp }) buf_new x in
    subst P (sym is)
    (rtp_wraps key notes old new buf_old buf_new r for (srtp_out.wrapping key.bytes key.suite notes bytes) (wrapping_is_rtp key.bytes key.suite notes bytes) does)

rtcp_wraps : (key : NewKey) (notes : List Note) (old : Outbound) (new : OutRtcp) (buf_old buf_new : List ℕ) (r : Result (ℕ × ℕ) ProtectFault)
    → OutboundFor key old notes → (o : Result srtcp_out.Wrapped ProtectFault) → ((w : srtcp_out.Wrapped) → o ≡ Ok w → w.note.half ≡ Rtcp)
    → srtcp_for.WrapsRtcpTo o key.bytes notes old.rtcp new buf_old buf_new r
    → OutboundWrapsTo (wrapped_rtcp key.number o) key notes old (record { number = old.number; rtp = old.rtp; rtcp = new }) buf_new (wrapped_answer r)
rtcp_wraps key notes old new buf_old buf_new r for (Err cause) half does =
    record {
      answer = ap wrapped_answer does.answer;
      contexts = ap (λ (x : OutRtcp). record { number = old.number; rtp = old.rtp; rtcp = x }) does.context;
    }
rtcp_wraps key notes old new buf_old buf_new r for (Ok w) half does =
    record {
      answer = ap wrapped_answer does.answer;
      buffer = front_is w.bytes (drop (length w.bytes) buf_old) buf_new does.buffer;
      under = refl;
      contexts = record {
        number = for.number;
        rtp = record {
          session = for.rtp.session;
          sources = noted_elsewhere Rtp old.rtp.sources w.note notes (no_rtcp w.note.half (half w refl)) for.rtp.sources;
        };
        rtcp = does.context;
      };
    }

pub wraps_rtcp : (key : NewKey) (notes : List Note) (bytes : List ℕ) (old : Outbound) (new : OutRtcp) (buf_old buf_new : List ℕ)
    (r : Result (ℕ × ℕ) ProtectFault) (result : Result ℕ Lost) → result ≡ wrapped_answer r → OutboundFor key old notes
    → srtcp_for.WrapsRtcpTo (srtcp_out.rtcp_wrapping key.bytes notes bytes) key.bytes notes old.rtcp new buf_old buf_new r
    → OutboundWrapsTo (wrapped_under key notes Rtcp bytes) key notes old (record { number = old.number; rtp = old.rtp; rtcp = new }) buf_new result
unfolding wrapped_under
wraps_rtcp key notes bytes old new buf_old buf_new r result is for does =
    let P : Result ℕ Lost → Type 0 = λ (x : Result ℕ Lost).
    OutboundWrapsTo (wrapped_rtcp key.number (srtcp_out.rtcp_wrapping key.bytes notes bytes)) key notes old (record { number = old.number; rtp = old.rtp; rtcp = new }) buf_new x in
    subst P (sym is)
    (rtcp_wraps key notes old new buf_old buf_new r for (srtcp_out.rtcp_wrapping key.bytes notes bytes) (wrapping_is_rtcp key.bytes notes bytes) does)
