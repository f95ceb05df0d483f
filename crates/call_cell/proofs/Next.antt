-- Under which index a packet is protected: an RTP packet under one that no packet of its source had, an RTCP packet under
-- the count of those.
use Rattle.std.proofs.Common.{◌≡◌, refl, subst, sym, ℕ, ◌^◌, List, [], ◌∷◌, Bool, true, false, cond, Option, Some, None, Result, Ok, Err, length, ◌==◌}
use Rattle.std.specs.Prelude.{◌||◌, nat_lt}
use Rattle.std.specs.Option.{option_map_or}
use Rattle.rtp_packet.specs.declared.head.Half.{Half}
use Rattle.rtp_packet.specs.declared.head.Half.TheVariants.{Rtp, Rtcp}
use Rattle.rtp_packet.specs.declared.head.RtpHead.{RtpHead}
use Rattle.rtp_packet.specs.Head.{rtp_head, rtcp_ssrc}
use Rattle.sdes_lines.specs.declared.crypto_line.Suite.{Suite}
use Rattle.replay_window.specs.declared.answers.Near.{Near}
use Rattle.replay_window.specs.declared.answers.Near.TheVariants.{At, Below, Beyond}
use Rattle.replay_window.specs.declared.answers.Fresh.{Fresh}
use Rattle.replay_window.specs.declared.answers.Fresh.TheVariants.{Yes, TooOld, Used}
use Rattle.replay_window.specs.Indices.{near, fresh, is_too_old, is_noted}
use Rattle.srtp_keys.specs.declared.faults.ProtectFault.{ProtectFault}
use Rattle.srtp_keys.specs.declared.faults.ProtectFault.TheVariants as fault
use Rattle.srtp_sources.specs.Notes.{Note, indices, has_room}
use Rattle.srtp_context.specs.OutboundPackets as srtp_out
use Rattle.srtcp_context.specs.OutboundPackets as srtcp_out
use Rattle.histories.specs.Words.{In, here, there}
use Rattle.histories.proofs.Lists.{equal}
use Rattle.port_pool.specs.Signals.{NewKey}
use Rattle.call_cell.specs.Cells.{Shield}
use Rattle.call_cell.specs.Protection.{Leaves, wrapped_rtp, wrapped_rtcp, wrapped_under}

-- the index that the next packet of a source gets
abbrev pub IsNextIndex : Half → ℕ → List Note → ℕ → Type 0
IsNextIndex Rtp ssrc notes index = In index (indices Rtp ssrc notes) → ⊥
IsNextIndex Rtcp ssrc notes index = index ≡ length (indices Rtcp ssrc notes)

abbrev pub IsNext : List Note → Note → Type 0
IsNext notes note = IsNextIndex note.half note.ssrc notes note.index

-- RTP

any_there : (a b : Bool) → b ≡ true → (a || b) ≡ true
any_there true b q = refl
any_there false b q = q

any_here : (a b : Bool) → a ≡ true → (a || b) ≡ true
any_here true b q = refl
any_here false b q = absurd (let e = q in cc)

in_is_noted : (noted : List ℕ) (index : ℕ) → In index noted → is_noted noted index ≡ true
in_is_noted [] index i = elim i [ ]
in_is_noted (x ∷ noted) index (here q) = any_here (x == index) (is_noted noted index) (equal x index (sym q))
in_is_noted (x ∷ noted) index (there i) = any_there (x == index) (is_noted noted index) (in_is_noted noted index i)

fresh_case : (old used : Bool) → cond old TooOld (cond used Used Yes) ≡ Yes → used ≡ false
fresh_case true used q = absurd (let e = q in cc)
fresh_case false true q = absurd (let e = q in cc)
fresh_case false false q = refl

fresh_is_new : (noted : List ℕ) (index : ℕ) → fresh noted index ≡ Yes → In index noted → ⊥
unfolding fresh
fresh_is_new noted index q i =
    let none = fresh_case (is_too_old noted index) (is_noted noted index) q in
    let some = in_is_noted noted index i in
    cc

room_case : (room : Bool) (i index : ℕ) → cond room (Ok i) (Err fault.TooManySources) ≡ Ok index → i ≡ index
room_case true i index q = let e = q in cc
room_case false i index q = absurd (let e = q in cc)

by_case : (ssrc : ℕ) (notes : List Note) (i index : ℕ) (f : Fresh) → fresh (indices Rtp ssrc notes) i ≡ f
    → srtp_out.unused_index_by ssrc notes i f ≡ Ok index → In index (indices Rtp ssrc notes) → ⊥
by_case ssrc notes i index TooOld e q j = let f = q in cc
by_case ssrc notes i index Used e q j = let f = q in cc
by_case ssrc notes i index Yes e q j =
    fresh_is_new (indices Rtp ssrc notes) i e
    (subst (λ (k : ℕ). In k (indices Rtp ssrc notes)) (sym (room_case (has_room Rtp ssrc notes) i index q)) j)

near_case : (ssrc : ℕ) (notes : List Note) (index : ℕ) (n : Near) → srtp_out.sent_index_near ssrc notes n ≡ Ok index
    → In index (indices Rtp ssrc notes) → ⊥
near_case ssrc notes index (At i) q j = by_case ssrc notes i index (fresh (indices Rtp ssrc notes) i) refl q j
near_case ssrc notes index Below q j = let f = q in cc
near_case ssrc notes index Beyond q j = let f = q in cc

sent_is_new : (notes : List Note) (found : RtpHead) (index : ℕ) → srtp_out.sent_index notes found ≡ Ok index
    → In index (indices Rtp found.ssrc notes) → ⊥
unfolding srtp_out.sent_index
sent_is_new notes found index q j = near_case found.ssrc notes index (near (indices Rtp found.ssrc notes) found.seq) q j

-- what a note is, and that it is the next one
pub record Next (half : Half) (notes : List Note) (note : Note) : Type 0 where
  pub half_is : note.half ≡ half
  pub is_next : IsNext notes note

at_case : (master : List ℕ) (suite : Suite) (packet : List ℕ) (notes : List Note) (found : RtpHead) (r : Result ℕ ProtectFault)
    → srtp_out.sent_index notes found ≡ r → (w : srtp_out.Wrapped) → srtp_out.wrapped_at master suite packet found r ≡ Ok w → Next Rtp notes w.note
at_case master suite packet notes found (Err cause) e w q = absurd (let f = q in cc)
at_case master suite packet notes found (Ok index) e w q =
    let f = q in
    let is_it : record { half = Rtp; ssrc = found.ssrc; index = index } ≡ w.note = cc in
    subst (λ (n : Note). Next Rtp notes n) is_it (record { half_is = refl; is_next = sent_is_new notes found index e })

head_case : (master : List ℕ) (suite : Suite) (packet : List ℕ) (notes : List Note) (o : Option RtpHead) (w : srtp_out.Wrapped)
    → option_map_or (λ (found : RtpHead). srtp_out.wrapped_at master suite packet found (srtp_out.sent_index notes found)) o (Err fault.TooOld) ≡ Ok w
    → Next Rtp notes w.note
head_case master suite packet notes None w q = absurd (let f = q in cc)
head_case master suite packet notes (Some found) w q = at_case master suite packet notes found (srtp_out.sent_index notes found) refl w q

pub rtp_next : (master : List ℕ) (suite : Suite) (notes : List Note) (packet : List ℕ) (w : srtp_out.Wrapped)
    → srtp_out.wrapping master suite notes packet ≡ Ok w → Next Rtp notes w.note
unfolding srtp_out.wrapping
rtp_next master suite notes packet w q = head_case master suite packet notes (rtp_head packet) w q

-- RTCP

spent_case : (room below : Bool) (n index : ℕ)
    → cond room (cond below (Ok n) (Err fault.KeySpent)) (Err fault.TooManySources) ≡ Ok index → index ≡ n
spent_case true true n index q = let e = q in cc
spent_case true false n index q = absurd (let e = q in cc)
spent_case false below n index q = absurd (let e = q in cc)

sent_is_count : (notes : List Note) (ssrc index : ℕ) → srtcp_out.sent_rtcp_index notes ssrc ≡ Ok index → index ≡ length (indices Rtcp ssrc notes)
unfolding srtcp_out.sent_rtcp_index
sent_is_count notes ssrc index q =
    spent_case (has_room Rtcp ssrc notes) (nat_lt (srtcp_out.next_index ssrc notes) (2 ^ 31)) (srtcp_out.next_index ssrc notes) index q

at_case_control : (master : List ℕ) (packet : List ℕ) (notes : List Note) (ssrc : ℕ) (r : Result ℕ ProtectFault)
    → srtcp_out.sent_rtcp_index notes ssrc ≡ r → (w : srtcp_out.Wrapped) → srtcp_out.rtcp_wrapped_at master packet ssrc r ≡ Ok w → Next Rtcp notes w.note
at_case_control master packet notes ssrc (Err cause) e w q = absurd (let f = q in cc)
at_case_control master packet notes ssrc (Ok index) e w q =
    let f = q in
    let is_it : record { half = Rtcp; ssrc = ssrc; index = index } ≡ w.note = cc in
    subst (λ (n : Note). Next Rtcp notes n) is_it (record { half_is = refl; is_next = sent_is_count notes ssrc index e })

ssrc_case : (master : List ℕ) (packet : List ℕ) (notes : List Note) (o : Option ℕ) (w : srtcp_out.Wrapped)
    → option_map_or (λ (ssrc : ℕ). srtcp_out.rtcp_wrapped_at master packet ssrc (srtcp_out.sent_rtcp_index notes ssrc)) o (Err fault.TooManySources) ≡ Ok w
    → Next Rtcp notes w.note
ssrc_case master packet notes None w q = absurd (let f = q in cc)
ssrc_case master packet notes (Some ssrc) w q = at_case_control master packet notes ssrc (srtcp_out.sent_rtcp_index notes ssrc) refl w q

pub rtcp_next : (master : List ℕ) (notes : List Note) (packet : List ℕ) (w : srtcp_out.Wrapped)
    → srtcp_out.rtcp_wrapping master notes packet ≡ Ok w → Next Rtcp notes w.note
unfolding srtcp_out.rtcp_wrapping
rtcp_next master notes packet w q = ssrc_case master packet notes (rtcp_ssrc packet) w q

-- either

-- under what a packet leaves, where it leaves under a key
pub record IsShield (key : NewKey) (notes : List Note) (half : Half) (s : Shield) : Type 0 where
  pub key_is : s.key ≡ key.number
  pub next : Next half notes s.note

wraps_rtp : (key : NewKey) (notes : List Note) (r : Result srtp_out.Wrapped ProtectFault) (s : Shield) (bytes : List ℕ)
    → ((w : srtp_out.Wrapped) → r ≡ Ok w → Next Rtp notes w.note) → wrapped_rtp key.number r ≡ Leaves (Some s) bytes → IsShield key notes Rtp s
wraps_rtp key notes (Err cause) s bytes next q = absurd (let f = q in cc)
wraps_rtp key notes (Ok w) s bytes next q =
    let f = q in
    let is_it : record { key = key.number; note = w.note } ≡ s = cc in
    subst (λ (x : Shield). IsShield key notes Rtp x) is_it (record { key_is = refl; next = next w refl })

wraps_rtcp : (key : NewKey) (notes : List Note) (r : Result srtcp_out.Wrapped ProtectFault) (s : Shield) (bytes : List ℕ)
    → ((w : srtcp_out.Wrapped) → r ≡ Ok w → Next Rtcp notes w.note) → wrapped_rtcp key.number r ≡ Leaves (Some s) bytes → IsShield key notes Rtcp s
wraps_rtcp key notes (Err cause) s bytes next q = absurd (let f = q in cc)
wraps_rtcp key notes (Ok w) s bytes next q =
    let f = q in
    let is_it : record { key = key.number; note = w.note } ≡ s = cc in
    subst (λ (x : Shield). IsShield key notes Rtcp x) is_it (record { key_is = refl; next = next w refl })

pub wraps_next : (key : NewKey) (notes : List Note) (half : Half) (plain : List ℕ) (s : Shield) (bytes : List ℕ)
    → wrapped_under key notes half plain ≡ Leaves (Some s) bytes → IsShield key notes half s
unfolding wrapped_under
wraps_next key notes Rtp plain s bytes q =
    wraps_rtp key notes (srtp_out.wrapping key.bytes key.suite notes plain) s bytes (rtp_next key.bytes key.suite notes plain) q
wraps_next key notes Rtcp plain s bytes q =
    wraps_rtcp key notes (srtcp_out.rtcp_wrapping key.bytes notes plain) s bytes (rtcp_next key.bytes notes plain) q
