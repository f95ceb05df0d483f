-- The parts of saved counts and contexts.
use Rattle.std.proofs.Common.{◌≡◌, ℕ, ◌≤◌, List, [], ◌∷◌, length, get_or, take, drop, arith, sym, ap, subst, ◌∙◌, refl, length-append}
use Rattle.std.proofs.lemmas.List.{take_more}
use Rattle.std.proofs.Props.{props}
use Rattle.srtp_sources.specs.SavedWords.{saved_words}
use Rattle.srtp_sources.specs.SavedSources.{saved_sources}
use Rattle.srtp_sources.proofs.Pieces.{read_more, same_parts, back_is, two_read}
use Rattle.srtp_sources.proofs.SavedKeyParts.{length-saved_keys, same_keys}
use Rattle.srtp_sources.proofs.SavedLists.{length-saved_words, same_words}
use Rattle.srtp_sources.proofs.SavedTables.{length-saved_sources, same_sources}
use Rattle.srtcp_context.specs.declared.session.RtcpSession.{RtcpSession}
use Rattle.srtcp_context.specs.declared.counts.Counts.{Counts}
use Rattle.srtcp_context.specs.declared.inbound.InRtcp.{InRtcp}
use Rattle.srtcp_context.specs.declared.outbound.OutRtcp.{OutRtcp}
use Rattle.srtcp_context.specs.SavedCounts.{FitsCounts, saved_counts}
use Rattle.srtcp_context.specs.SavedRtcp.{FitsRtcpSession, saved_rtcp_session, FitsInRtcp, saved_in_rtcp, FitsOutRtcp, saved_out_rtcp}

-- ---- counts

pub length-saved_counts : (table : Counts) → FitsCounts table → length (saved_counts table) ≡ 257
unfolding saved_counts
length-saved_counts table fits =
    omega (arith, length-append (saved_words table.ssrcs) (saved_words table.sent), length-saved_words table.ssrcs fits.ssrcs, length-saved_words table.sent fits.sent)

pub saved_count : (table : Counts) (bytes : List ℕ) → saved_counts table ≡ bytes → table.count ≡ get_or bytes 0 0
unfolding saved_counts
saved_count table bytes is = ap (λ (l : List ℕ). get_or l 0 0) is

pub table_read : (table : Counts) (bytes : List ℕ) → length bytes ≡ 257 → table.count ≡ get_or bytes 0 0
    → saved_words table.ssrcs ≡ take 128 (drop 1 bytes) → saved_words table.sent ≡ take 128 (drop 129 bytes) → saved_counts table ≡ bytes
unfolding saved_counts
table_read table bytes long count ssrcs sent =
    let first : table.count ∷ [] ≡ take 1 bytes = ap (λ (n : ℕ). n ∷ []) count ∙ sym (take_more bytes 0 0 (omega arith)) in
    let two : table.count ∷ saved_words table.ssrcs ≡ take 129 bytes = read_more bytes (table.count ∷ []) (saved_words table.ssrcs) 1 128 129 first ssrcs refl in
    two_read bytes (table.count ∷ saved_words table.ssrcs) (saved_words table.sent) 129 128 two sent long

-- tables alike in their fields are one
same_table : (ssrcs others sent more : List ℕ) (count known : ℕ) → ssrcs ≡ others → sent ≡ more → count ≡ known
    → (h : count ≤ 32) (h' : known ≤ 32)
    → ◌≡◌ {A = Counts} (record { ssrcs = ssrcs; sent = sent; count = count; within = h }) (record { ssrcs = others; sent = more; count = known; within = h' })
same_table ssrcs others sent more count known same_ssrcs same_sent same_count h =
    subst (λ (n : ℕ). (h' : n ≤ 32)
    → ◌≡◌ {A = Counts} (record { ssrcs = ssrcs; sent = sent; count = count; within = h }) (record { ssrcs = others; sent = more; count = n; within = h' }))
    same_count
    (λ h'. λ i. record { ssrcs = same_ssrcs i; sent = same_sent i; count = count; within = at_most h h' i })
  where
    at_most : IsProp (count ≤ 32)
    at_most = hlevel props

same_counts : (a b : Counts) → FitsCounts a → FitsCounts b → saved_counts a ≡ saved_counts b → a ≡ b
unfolding saved_counts
same_counts a b fits_a fits_b is =
    let cut = same_parts (a.count ∷ saved_words a.ssrcs) (saved_words a.sent) (b.count ∷ saved_words b.ssrcs) (saved_words b.sent)
    (omega (arith, length-saved_words a.ssrcs fits_a.ssrcs, length-saved_words b.ssrcs fits_b.ssrcs)) is in
    let head = same_parts (a.count ∷ []) (saved_words a.ssrcs) (b.count ∷ []) (saved_words b.ssrcs) refl cut.0 in
    same_table a.ssrcs b.ssrcs a.sent b.sent a.count b.count (same_words a.ssrcs b.ssrcs fits_a.ssrcs fits_b.ssrcs head.1)
    (same_words a.sent b.sent fits_a.sent fits_b.sent cut.1) (ap (λ (l : List ℕ). get_or l 0 0) head.0) a.within b.within

-- ---- sessions

length-session : (session : RtcpSession) → FitsRtcpSession session → length (saved_rtcp_session session) ≡ 50
length-session session fits = length-saved_keys session.cipher session.mac session.salt fits

same_session : (a b : RtcpSession) → FitsRtcpSession a → FitsRtcpSession b → saved_rtcp_session a ≡ saved_rtcp_session b → a ≡ b
same_session a b fits_a fits_b is =
    let keys = same_keys a.cipher a.mac a.salt b.cipher b.mac b.salt fits_a fits_b is in
    λ i. record { cipher = keys.cipher_same i; mac = keys.mac_same i; salt = keys.salt_same i }

-- ---- contexts

pub sources_part : (context : InRtcp) (bytes : List ℕ) → FitsInRtcp context → saved_in_rtcp context ≡ bytes
    → saved_sources context.sources ≡ take 929 (drop 50 bytes)
unfolding saved_in_rtcp
sources_part context bytes fits is =
    back_is bytes (saved_rtcp_session context.session) (saved_sources context.sources) 50 929 is (length-session context.session fits.session_fits)
    (length-saved_sources context.sources fits.sources_fit)

pub counts_part : (context : OutRtcp) (bytes : List ℕ) → FitsOutRtcp context → saved_out_rtcp context ≡ bytes
    → saved_counts context.counts ≡ take 257 (drop 50 bytes)
unfolding saved_out_rtcp
counts_part context bytes fits is =
    back_is bytes (saved_rtcp_session context.session) (saved_counts context.counts) 50 257 is (length-session context.session fits.session_fits)
    (length-saved_counts context.counts fits.counts_fit)

pub same_in_rtcp : (a b : InRtcp) → FitsInRtcp a → FitsInRtcp b → saved_in_rtcp a ≡ saved_in_rtcp b → a ≡ b
unfolding saved_in_rtcp
same_in_rtcp a b fits_a fits_b is =
    let cut = same_parts (saved_rtcp_session a.session) (saved_sources a.sources) (saved_rtcp_session b.session) (saved_sources b.sources)
    (length-session a.session fits_a.session_fits ∙ sym (length-session b.session fits_b.session_fits)) is in
    let session = same_session a.session b.session fits_a.session_fits fits_b.session_fits cut.0 in
    let sources = same_sources a.sources b.sources fits_a.sources_fit fits_b.sources_fit cut.1 in
    λ i. record { session = session i; sources = sources i }

pub same_out_rtcp : (a b : OutRtcp) → FitsOutRtcp a → FitsOutRtcp b → saved_out_rtcp a ≡ saved_out_rtcp b → a ≡ b
unfolding saved_out_rtcp
same_out_rtcp a b fits_a fits_b is =
    let cut = same_parts (saved_rtcp_session a.session) (saved_counts a.counts) (saved_rtcp_session b.session) (saved_counts b.counts)
    (length-session a.session fits_a.session_fits ∙ sym (length-session b.session fits_b.session_fits)) is in
    let session = same_session a.session b.session fits_a.session_fits fits_b.session_fits cut.0 in
    let counts = same_counts a.counts b.counts fits_a.counts_fit fits_b.counts_fit cut.1 in
    λ i. record { session = session i; counts = counts i }
