-- The descriptions, offers and answers of the worked rows.
use Rattle.std.proofs.Common.{ℕ, List, [], ◌∷◌, ◌++◌, false, true, ◌+◌, Option, Some, None, codes, replicate}
use Rattle.relay_outside.specs.declared.settings.Config.{Config}
use Rattle.relay_outside.specs.declared.address.Family.TheVariants.{V4}
use Rattle.relay_outside.specs.declared.address.Ip.{Ip}
use Rattle.relay_outside.specs.declared.address.Ip.TheVariants as ips
use Rattle.sdes_lines.specs.declared.crypto_line.Suite.{Suite}
use Rattle.sdes_lines.specs.declared.crypto_line.Suite.TheVariants.{Tag80, Tag32}
use Rattle.sdes_lines.specs.declared.crypto_line.CryptoLine.{CryptoLine}
use Rattle.sdp_text.specs.declared.proto.Proto.{Proto}
use Rattle.ng_command.specs.declared.command.Options.{Options}
use Rattle.port_pool.specs.declared.holder.Side.{Side}
use Rattle.port_pool.specs.declared.holder.Side.TheVariants.{A, B}
use Rattle.port_pool.specs.declared.holder.Holder.{Holder}
use Rattle.port_pool.specs.declared.signal.LegSignal.{LegSignal}
use Rattle.port_pool.specs.Signals.{NewKey}
use Rattle.offer_answer.specs.Rounds.{Round, Offered, Answered, OfferAsk, AnswerAsk, Demand, NewLeg, KeyPlace}

-- The configuration and the options of a command.

abbrev pub config : Config
config = record {
  interface = ips.V4 (203 ∷ 0 ∷ 113 ∷ 1 ∷ []);
  interface6 = None;
  port_min = 30000;
  port_max = 40000;
  timeout_ms = 60000;
  offer_timeout_ms = 3600000;
  max_sessions = 2048;
}

abbrev pub plain : Options
plain = record {
  flags = record { strict = false; handover = false; asymmetric = false };
  replace_origin = false;
  replace_session = false;
  transport = None;
  source = None;
  family = None;
  mux_offer = false;
  mux_demux = false;
  mux_accept = false;
}

abbrev pub replacing : Options
replacing = record plain { replace_origin = true; replace_session = true }

abbrev pub towards : Proto → Options
towards profile = record plain { transport = Some profile }

abbrev pub from_source : Options
from_source = record plain { source = Some (ips.V4 (192 ∷ 0 ∷ 2 ∷ 77 ∷ [])) }

abbrev pub strict : Options
strict = record plain { flags = record { strict = true; handover = false; asymmetric = false } }

abbrev pub handing_over : Options
handing_over = record plain { flags = record { strict = false; handover = true; asymmetric = false } }

-- The descriptions.

abbrev pub alice_ip : Ip
alice_ip = ips.V4 (192 ∷ 0 ∷ 2 ∷ 10 ∷ [])

abbrev pub bob_ip : Ip
bob_ip = ips.V4 (198 ∷ 51 ∷ 100 ∷ 20 ∷ [])

abbrev pub alice_with : List ℕ → List ℕ
alice_with media = codes "v=0\r\nc=IN IP4 192.0.2.10\r\n" ++ media

abbrev pub bob_with : List ℕ → List ℕ
bob_with media = codes "v=0\r\nc=IN IP4 198.51.100.20\r\n" ++ media

abbrev pub audio : List ℕ
audio = codes "m=audio 6000 RTP/AVP 0\r\n"

abbrev pub feedback_audio : List ℕ
feedback_audio = codes "m=audio 6000 RTP/AVPF 0\r\n"

abbrev pub secure_audio : List ℕ
secure_audio = codes "m=audio 6000 RTP/SAVP 0\r\n"

abbrev pub no_secure_audio : List ℕ
no_secure_audio = codes "m=audio 0 RTP/SAVP 0\r\n"

abbrev pub no_audio : List ℕ
no_audio = codes "m=audio 0 RTP/AVP 0\r\n"

abbrev pub video : List ℕ
video = codes "m=video 6002 RTP/AVP 31\r\n"

abbrev pub no_video : List ℕ
no_video = codes "m=video 0 RTP/AVP 31\r\n"

abbrev pub image : List ℕ
image = codes "m=image 4000 udptl t38\r\n"

-- Crypto lines and keys.

abbrev pub line80 : CryptoLine
line80 = record { tag = 5; suite = Tag80; key = replicate 30 7 }

abbrev pub line32 : CryptoLine
line32 = record { tag = 6; suite = Tag32; key = replicate 30 8 }

-- Legs and keys.

abbrev pub leg : ℕ → Side → ℕ → Holder
leg section side pair = record { cell = 1; call = 0; section = section; side = side; pair = pair; generation = 1 }

-- the two legs of a section that side A offered, with pairs from this number on
abbrev pub two_legs : ℕ → ℕ → List Holder
two_legs section pair = leg section B pair ∷ leg section A (pair + 1) ∷ []

abbrev pub key : ℕ → ℕ → Side → Suite → NewKey
key number section side suite = record { number = number; section = section; side = side; suite = suite; bytes = replicate 30 (number + 1) }

abbrev pub place : ℕ → Side → Suite → KeyPlace
place section side suite = record { section = section; side = side; suite = suite }

abbrev pub nothing : Demand
nothing = record { pairs = []; keys = []; dropped = [] }

-- a new leg of version 4
abbrev pub new_four : ℕ → Side → NewLeg
new_four section side = record { section = section; side = side; family = V4 }

-- new legs that side A's offer demands for the section
abbrev pub new_two : ℕ → List NewLeg
new_two section = new_four section B ∷ new_four section A ∷ []

-- Offers and answers.

abbrev pub offer_by : List ℕ → List ℕ → Options → List (Option CryptoLine) → OfferAsk
offer_by from sdp options chosen = record { from_tag = from; sdp = sdp; options = options; chosen = chosen }

abbrev pub answer_by : List ℕ → List ℕ → List ℕ → Options → List (Option CryptoLine) → AnswerAsk
answer_by from to sdp options chosen = record { from_tag = from; to_tag = to; sdp = sdp; options = options; chosen = chosen }

abbrev pub a : List ℕ
a = codes "a"

abbrev pub b : List ℕ
b = codes "b"

abbrev pub d : List ℕ
d = codes "d"

abbrev pub none1 : List (Option CryptoLine)
none1 = None ∷ []

abbrev pub none2 : List (Option CryptoLine)
none2 = None ∷ None ∷ []

-- one plain section: side A's offer, side B's answer
abbrev pub audio_offer : OfferAsk
audio_offer = offer_by a (alice_with audio) plain none1

abbrev pub audio_answer : AnswerAsk
audio_answer = answer_by a b (bob_with audio) plain none1

abbrev pub offered_once : List Round
offered_once = Offered audio_offer (two_legs 0 0) [] ∷ []

abbrev pub answered_once : List Round
answered_once = Answered audio_answer ∷ offered_once

-- a leg that is committed with plain RTP at this address and port
abbrev pub plain_leg : Ip → ℕ → LegSignal
plain_leg ip port = record {
  rtp = record { ip = ip; port = port };
  rtcp = record { ip = ip; port = port + 1 };
  flags = plain.flags;
  hold = false;
  mux = false;
  inbound = None;
  outbound = None;
}
