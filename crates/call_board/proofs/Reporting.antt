-- Worked reports, as equations that compute.
use Rattle.std.proofs.Common.{◌≡◌, refl, ℕ, ℤ, pos, negsuc, List, [], ◌∷◌, false, Some, None, codes}
use Rattle.std.specs.Fmt.{digits}
use Rattle.relay_outside.specs.declared.address.Ip.TheVariants as ips
use Rattle.relay_outside.specs.declared.settings.Config.{Config}
use Rattle.ng_bencode.specs.Tree.{Dict}
use Rattle.ng_bencode.specs.Spells.{spelling}
use Rattle.rtcp_reports.specs.declared.block.Block.{Block}
use Rattle.ng_command.specs.declared.command.Options.{Options}
use Rattle.port_pool.specs.declared.holder.Side.{Side}
use Rattle.port_pool.specs.declared.holder.Side.TheVariants.{A, B}
use Rattle.port_pool.specs.declared.holder.Holder.{Holder}
use Rattle.port_pool.specs.declared.reports.LegReport.{LegReport}
use Rattle.offer_answer.specs.Rounds.{Round, Offered, Answered}
use Rattle.offer_answer.specs.Plan.{protocol}
use Rattle.call_board.specs.Reports.{report_entry, leg_value}

abbrev config : Config
config = record {
  interface = ips.V4 (203 ∷ 0 ∷ 113 ∷ 1 ∷ []);
  interface6 = None;
  port_min = 30000;
  port_max = 40000;
  timeout_ms = 60000;
  offer_timeout_ms = 3600000;
  max_sessions = 2048;
}

abbrev no_options : Options
no_options = record {
  flags = record { strict = false; handover = false; asymmetric = false };
  replace_origin = false;
  replace_session = false;
  transport = None;
  source = None;
  family = None;
  mux_offer = false;
  mux_demux = false;
  mux_accept = false;
}

abbrev leg : Side → ℕ → Holder
leg side pair = record { cell = 1; call = 0; section = 0; side = side; pair = pair; generation = 1 }

abbrev text : List ℕ
text = codes "v=0\nc=IN IP4 192.0.2.10\nm=audio 6000 RTP/AVP 0\n"

abbrev offered : List Round
offered = Offered (record { from_tag = codes "a"; sdp = text; options = no_options; chosen = None ∷ [] }) (leg B 0 ∷ leg A 1 ∷ []) [] ∷ []

abbrev answered : List Round
answered = Answered (record { from_tag = codes "a"; to_tag = codes "B"; sdp = text; options = no_options; chosen = None ∷ [] }) ∷ offered

abbrev log : Side → ℕ → LegReport
log side port = record {
  section = 0;
  side = side;
  port = port;
  endpoint = record { ip = ips.V4 (192 ∷ 0 ∷ 2 ∷ 10 ∷ []); port = 6000 };
  rtp_accepted = 7;
  rtp_sent = 0;
  rtcp_accepted = 0;
  rtcp_sent = 12;
  report = None;
}

abbrev block : ℤ → Block
block lost = record { ssrc = 572662306; fraction = 5; lost = lost; highest = 65636; jitter = 32 }

spelled_report : spelling (Dict (report_entry (Some (block (pos 3)))))
    ≡ codes "d6:reportd13:fraction losti5e7:highesti65636e6:jitteri32e4:losti3e4:ssrci572662306eee"
unfolding digits
spelled_report = refl

-- more packets came than were sent, as where they came twice
spelled_duplicates : spelling (Dict (report_entry (Some (block (negsuc 0)))))
    ≡ codes "d6:reportd13:fraction losti5e7:highesti65636e6:jitteri32e4:losti-1e4:ssrci572662306eee"
unfolding digits
spelled_duplicates = refl

-- a leg without a block is told of as before there were any
no_report : spelling (leg_value answered (log A 30000))
    ≡ codes "d4:RTCPd8:acceptedi0e4:senti12ee3:RTPd8:acceptedi7e4:senti0ee8:endpointd7:address10:192.0.2.104:porti6000ee5:indexi1e10:local porti30000e8:protocol7:RTP/AVPe"
unfolding protocol digits
no_report = refl
