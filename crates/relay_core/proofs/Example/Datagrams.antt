-- Three worked calls: an offer of plain RTP towards SRTP, its answer, a delete, another offer and a delete with a delay, and what
-- each of these datagrams asks.
use Rattle.std.proofs.Common.{◌≡◌, refl, inl, ℕ, zero, suc, ◌<◌, List, [], ◌∷◌, false, Some, None, replicate, codes, arith}
use Rattle.std.specs.Prelude.{Ok, pos, slice_index}
use Rattle.std.specs.Fmt.{digits}
use Rattle.base64.specs.Rfc4648.{encode_symbols}
use Rattle.relay_outside.specs.declared.settings.Config.{Config}
use Rattle.relay_outside.specs.declared.address.Ip.TheVariants as ips
use Rattle.sdes_lines.specs.declared.crypto_line.Suite.TheVariants.{Tag80, Tag32}
use Rattle.sdes_lines.specs.declared.crypto_line.CryptoLine.{CryptoLine}
use Rattle.sdes_lines.specs.CryptoLine.{line_text, IsUsable}
use Rattle.sdp_text.specs.declared.proto.Proto.TheVariants.{Savp}
use Rattle.ng_bencode.specs.Tree.{Int, Bytes, Entries, entry, no_entries}
use Rattle.ng_command.specs.declared.command.Options.{Options}
use Rattle.ng_command.specs.Meanings as said
use Rattle.ng_command.specs.Meanings.{Said}
use Rattle.port_pool.specs.declared.holder.Side.TheVariants.{A, B}
use Rattle.port_pool.specs.declared.holder.Holder.{Holder}
use Rattle.port_pool.specs.declared.signal.LegSignal.{LegSignal}
use Rattle.port_pool.specs.declared.signal.SectionSignal.{SectionSignal}
use Rattle.port_pool.specs.declared.signal.SectionSignal.TheVariants.{Commit}
use Rattle.port_pool.specs.Signals.{NewKey}
use Rattle.offer_answer.specs.Rounds.{Round, Offered, OfferAsk, AnswerAsk}
use Rattle.relay_outside.specs.declared.address.Family.TheVariants.{V4}
use Rattle.offer_answer.specs.Plan as plan
use Rattle.call_board.specs.Requests.{ReadsBody, asked, sdp_error}

-- one call at a time, and two port pairs
abbrev pub config : Config
config = record {
  interface = ips.V4 (203 ∷ 0 ∷ 113 ∷ 1 ∷ []);
  interface6 = None;
  port_min = 30000;
  port_max = 30003;
  timeout_ms = 60000;
  offer_timeout_ms = 3600000;
  max_sessions = 1;
}

abbrev pub id : List ℕ
id = codes "c"

abbrev pub tag_a : List ℕ
tag_a = codes "a"

abbrev pub tag_b : List ℕ
tag_b = codes "b"

abbrev pub plain : Options
plain = record {
  flags = record { strict = false; handover = false; asymmetric = false };
  replace_origin = false;
  replace_session = false;
  transport = None;
  source = None;
  family = None;
  mux_offer = false;
  mux_demux = false;
  mux_accept = false;
}

abbrev pub towards_srtp : Options
towards_srtp = record plain { transport = Some Savp }

-- The offer.

unfoldable pub offer_sdp : List ℕ
offer_sdp = codes "v=0\nc=IN IP4 192.0.2.10\nm=audio 6000 RTP/AVP 0\n"

unfoldable pub offer_body : List ℕ
offer_body = codes "d7:command5:offer7:call-id1:c8:from-tag1:a3:sdp47:v=0\nc=IN IP4 192.0.2.10\nm=audio 6000 RTP/AVP 0\n18:transport protocol8:RTP/SAVPe"

unfoldable pub offer_pairs : Entries
offer_pairs =
    entry (codes "command") (Bytes (codes "offer")) (entry (codes "call-id") (Bytes id) (entry (codes "from-tag") (Bytes tag_a)
    (entry (codes "sdp") (Bytes offer_sdp) (entry (codes "transport protocol") (Bytes (codes "RTP/SAVP")) no_entries))))

pub offer_is_read : ReadsBody offer_body (Some offer_pairs)
unfolding offer_body offer_pairs offer_sdp digits
offer_is_read = record { ints = (tt, (tt, (tt, (tt, (tt, tt))))); deep = omega arith; spelled = refl }

pub offer_is_asked : asked config false (Some offer_pairs) ≡ Ok (said.Offer id tag_a offer_sdp towards_srtp)
unfolding asked sdp_error offer_pairs offer_sdp
offer_is_asked = refl

abbrev pub offer : OfferAsk
offer = record { from_tag = tag_a; sdp = offer_sdp; options = towards_srtp; chosen = None ∷ [] }

pub offer_is_faultless : plan.offer_fault [] offer ≡ None
unfolding plan.offer_fault offer_sdp
offer_is_faultless = refl

pub offer_demands : plan.demand [] offer ≡ record {
  pairs = record { section = 0; side = B; family = V4 } ∷ record { section = 0; side = A; family = V4 } ∷ [];
  keys = record { section = 0; side = B; suite = Tag80 } ∷ record { section = 0; side = B; suite = Tag32 } ∷ [];
  dropped = [];
}
unfolding plan.demand offer_sdp
offer_demands = refl

-- what holds of the first section holds of each, where there is one
of_one_section : (P : ℕ → Type 0) → P 0 → (section : ℕ) → section < 1 → P section
of_one_section P first zero h = first
of_one_section P first (suc n) h = absurd (omega arith)

pub offer_is_heard : plan.OfferRead offer
unfolding plan.OfferRead offer_sdp
offer_is_heard = record { count = refl; first = of_one_section _ refl }

-- The legs that it leases pairs for, and the keys that it draws.

abbrev pub leg_b : Holder
leg_b = record { cell = 1; call = 0; section = 0; side = B; pair = 0; generation = 1 }

abbrev pub leg_a : Holder
leg_a = record { cell = 1; call = 0; section = 0; side = A; pair = 1; generation = 1 }

abbrev pub legs : List Holder
legs = leg_b ∷ leg_a ∷ []

unfoldable pub first_draw : List ℕ
first_draw = replicate 30 1

unfoldable pub second_draw : List ℕ
second_draw = replicate 30 2

abbrev pub key_80 : NewKey
key_80 = record { number = 0; section = 0; side = B; suite = Tag80; bytes = first_draw }

abbrev pub key_32 : NewKey
key_32 = record { number = 1; section = 0; side = B; suite = Tag32; bytes = second_draw }

abbrev pub keys : List NewKey
keys = key_80 ∷ key_32 ∷ []

abbrev pub offered : List Round
offered = Offered offer legs keys ∷ []

-- The answer takes up the line of 80 bits.

unfoldable pub answerers_key : List ℕ
answerers_key = replicate 30 40

abbrev pub line : CryptoLine
line = record { tag = 1; suite = Tag80; key = answerers_key }

unfoldable pub answer_sdp : List ℕ
answer_sdp = codes "v=0\nc=IN IP4 198.51.100.20\nm=audio 7000 RTP/SAVP 0\na=crypto:1 AES_CM_128_HMAC_SHA1_80 inline:KCgoKCgoKCgoKCgoKCgoKCgoKCgoKCgoKCgoKCgo\n"

unfoldable pub answer_body : List ℕ
answer_body = codes "d7:command6:answer7:call-id1:c8:from-tag1:a6:to-tag1:b3:sdp134:v=0\nc=IN IP4 198.51.100.20\nm=audio 7000 RTP/SAVP 0\na=crypto:1 AES_CM_128_HMAC_SHA1_80 inline:KCgoKCgoKCgoKCgoKCgoKCgoKCgoKCgoKCgoKCgo\ne"

unfoldable pub answer_pairs : Entries
answer_pairs =
    entry (codes "command") (Bytes (codes "answer")) (entry (codes "call-id") (Bytes id) (entry (codes "from-tag") (Bytes tag_a)
    (entry (codes "to-tag") (Bytes tag_b) (entry (codes "sdp") (Bytes answer_sdp) no_entries))))

pub answer_is_read : ReadsBody answer_body (Some answer_pairs)
unfolding answer_body answer_pairs answer_sdp digits
answer_is_read = record { ints = (tt, (tt, (tt, (tt, (tt, tt))))); deep = omega arith; spelled = refl }

pub answer_is_asked : asked config false (Some answer_pairs) ≡ Ok (said.Answer id tag_a tag_b answer_sdp plain)
unfolding asked sdp_error answer_pairs answer_sdp
answer_is_asked = refl

abbrev pub answer : AnswerAsk
answer = record { from_tag = tag_a; to_tag = tag_b; sdp = answer_sdp; options = plain; chosen = Some line ∷ [] }

pub answer_is_faultless : plan.answer_fault offered answer ≡ None
unfolding plan.answer_fault offer_sdp answer_sdp
answer_is_faultless = refl

-- what it commits: side A's leg with plain RTP, side B's under the key of 80 bits
abbrev pub signal_a : LegSignal
signal_a = record {
  rtp = record { ip = ips.V4 (192 ∷ 0 ∷ 2 ∷ 10 ∷ []); port = 6000 };
  rtcp = record { ip = ips.V4 (192 ∷ 0 ∷ 2 ∷ 10 ∷ []); port = 6001 };
  flags = plain.flags;
  hold = false;
  mux = false;
  inbound = None;
  outbound = None;
}

abbrev pub signal_b : LegSignal
signal_b = record {
  rtp = record { ip = ips.V4 (198 ∷ 51 ∷ 100 ∷ 20 ∷ []); port = 7000 };
  rtcp = record { ip = ips.V4 (198 ∷ 51 ∷ 100 ∷ 20 ∷ []); port = 7001 };
  flags = plain.flags;
  hold = false;
  mux = false;
  inbound = Some (answerers_key, Tag80);
  outbound = Some 0;
}

abbrev pub signal : List SectionSignal
signal = Commit signal_a signal_b ∷ []

pub answer_commits : plan.signal offered answer ≡ signal
unfolding plan.signal offer_sdp answer_sdp
answer_commits = refl

each_is_a_byte : (n i : ℕ) → slice_index (replicate n 40) i < 256
each_is_a_byte zero i = omega arith
each_is_a_byte (suc n) zero = omega arith
each_is_a_byte (suc n) (suc i) = each_is_a_byte n i

line_is_usable : IsUsable (codes "a=crypto:1 AES_CM_128_HMAC_SHA1_80 inline:KCgoKCgoKCgoKCgoKCgoKCgoKCgoKCgoKCgoKCgo") 1 Tag80 answerers_key
unfolding answerers_key line_text digits encode_symbols
line_is_usable = record {
  is_tag = omega arith;
  is_key = record { size = refl; bytes = each_is_a_byte 30 };
  end = [];
  is_end = record { lifetime = []; spaces = 0; is_lifetime = inl refl; text_is = refl };
  line_is = refl;
}

pub answer_is_heard : plan.AnswerRead offered answer
unfolding plan.AnswerRead offer_sdp answer_sdp
answer_is_heard = record { count = refl; first = of_one_section _ (inl ((line_is_usable, inl (refl, refl)), refl)) }

-- The delete.

unfoldable pub delete_body : List ℕ
delete_body = codes "d7:command6:delete7:call-id1:ce"

unfoldable pub delete_pairs : Entries
delete_pairs = entry (codes "command") (Bytes (codes "delete")) (entry (codes "call-id") (Bytes id) no_entries)

pub delete_is_read : ReadsBody delete_body (Some delete_pairs)
unfolding delete_body delete_pairs digits
delete_is_read = record { ints = (tt, (tt, tt)); deep = omega arith; spelled = refl }

pub delete_is_asked : asked config false (Some delete_pairs) ≡ Ok (said.Delete id None false 0)
unfolding asked delete_pairs
delete_is_asked = refl

-- The offer of the next call, of plain RTP.

abbrev pub next_id : List ℕ
next_id = codes "d"

unfoldable pub next_body : List ℕ
next_body = codes "d7:command5:offer7:call-id1:d8:from-tag1:a3:sdp47:v=0\nc=IN IP4 192.0.2.10\nm=audio 6000 RTP/AVP 0\ne"

unfoldable pub next_pairs : Entries
next_pairs =
    entry (codes "command") (Bytes (codes "offer")) (entry (codes "call-id") (Bytes next_id) (entry (codes "from-tag") (Bytes tag_a)
    (entry (codes "sdp") (Bytes offer_sdp) no_entries)))

pub next_is_read : ReadsBody next_body (Some next_pairs)
unfolding next_body next_pairs offer_sdp digits
next_is_read = record { ints = (tt, (tt, (tt, (tt, tt)))); deep = omega arith; spelled = refl }

pub next_is_asked : asked config false (Some next_pairs) ≡ Ok (said.Offer next_id tag_a offer_sdp plain)
unfolding asked sdp_error next_pairs offer_sdp
next_is_asked = refl

abbrev pub next_offer : OfferAsk
next_offer = record { from_tag = tag_a; sdp = offer_sdp; options = plain; chosen = None ∷ [] }

pub next_is_faultless : plan.offer_fault [] next_offer ≡ None
unfolding plan.offer_fault offer_sdp
next_is_faultless = refl

pub next_demands : plan.demand [] next_offer ≡ record {
  pairs = record { section = 0; side = B; family = V4 } ∷ record { section = 0; side = A; family = V4 } ∷ [];
  keys = [];
  dropped = [];
}
unfolding plan.demand offer_sdp
next_demands = refl

pub next_is_heard : plan.OfferRead next_offer
unfolding plan.OfferRead offer_sdp
next_is_heard = record { count = refl; first = of_one_section _ refl }

-- it gets the same pairs, in their next leases
abbrev pub next_leg_b : Holder
next_leg_b = record leg_b { call = 1; generation = 2 }

abbrev pub next_leg_a : Holder
next_leg_a = record leg_a { call = 1; generation = 2 }

abbrev pub next_legs : List Holder
next_legs = next_leg_b ∷ next_leg_a ∷ []

-- The same offer begins the last call, which gets the pairs too, and a delete is to end it after half a minute.

abbrev pub last_leg_b : Holder
last_leg_b = record leg_b { call = 2; generation = 3 }

abbrev pub last_leg_a : Holder
last_leg_a = record leg_a { call = 2; generation = 3 }

abbrev pub last_legs : List Holder
last_legs = last_leg_b ∷ last_leg_a ∷ []

unfoldable pub delay_body : List ℕ
delay_body = codes "d7:command6:delete7:call-id1:d12:delete delayi30ee"

unfoldable pub delay_pairs : Entries
delay_pairs =
    entry (codes "command") (Bytes (codes "delete")) (entry (codes "call-id") (Bytes next_id)
    (entry (codes "delete delay") (Int (pos 30)) no_entries))

pub delay_is_read : ReadsBody delay_body (Some delay_pairs)
unfolding delay_body delay_pairs digits
delay_is_read = record { ints = (tt, (tt, (omega arith, tt))); deep = omega arith; spelled = refl }

pub delay_is_asked : asked config false (Some delay_pairs) ≡ Ok (said.Delete next_id None false 30)
unfolding asked delay_pairs
delay_is_asked = refl
