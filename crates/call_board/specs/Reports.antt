-- The texts of reports, as bencoded values with their keys in byte order.
use Rattle.std.specs.Prelude.{ℕ, pos, ◌+◌, ◌-◌, ◌^◌, ◌&&◌, ◌==◌, Bool, true, false, List, [], ◌∷◌, map, min, nat_lt, Option, Some, None, filter, filter_map, codes, if◌then◌else◌}
use Rattle.relay_outside.specs.declared.settings.Config.{Config}
use Rattle.relay_outside.specs.declared.address.Addr.{Addr}
use Rattle.ng_bencode.specs.Tree.{Tree, Int, Bytes, Items, Dict, Entries, no_entries, entry, items_of}
use Rattle.sdp_text.specs.Hosts.{text_of}
use Rattle.sdp_text.specs.declared.proto.Proto.{Proto}
use Rattle.sdp_edit.specs.Texts.{proto_text}
use Rattle.histories.specs.Words.{first, numbers}
use Rattle.rtcp_reports.specs.declared.block.Block.{Block}
use Rattle.port_pool.specs.declared.holder.Side.{Side}
use Rattle.port_pool.specs.declared.holder.Side.TheVariants.{A, B}
use Rattle.port_pool.specs.Signals.{side_eq}
use Rattle.port_pool.specs.declared.reports.LegReport.{LegReport}
use Rattle.offer_answer.specs.Rounds.{Round}
use Rattle.offer_answer.specs.Texts.{host_of_ip}
use Rattle.offer_answer.specs.Plan as plan

-- what is told of a call: the moments of its first and of its last accepted offer or answer, these, and its committed legs
pub record Report : Type 0 where
  pub created : ℕ
  pub last_signal : ℕ
  pub rounds : List Round
  pub legs : List LegReport

abbrev pub whole : ℕ → Tree
whole n = Int (pos n)

-- a moment, at most 2 ^ 63 - 1
abbrev pub moment_value : ℕ → Tree
moment_value n = whole (min n (2 ^ 63 - 1))

-- how many packets of one half were accepted from a leg, and sent by its ports
abbrev pub counts_tree : ℕ → ℕ → Tree
counts_tree accepted sent = Dict (entry (codes "accepted") (whole accepted) (entry (codes "sent") (whole sent) no_entries))

abbrev pub endpoint_value : Addr → Tree
endpoint_value at = Dict (entry (codes "address") (Bytes (text_of (host_of_ip at.ip))) (entry (codes "port") (whole at.port) no_entries))

abbrev pub profile_text : Option Proto → List ℕ
profile_text None = []
profile_text (Some proto) = proto_text proto []

-- the last report block of a side: `lost` may be negative, the other numbers are not
abbrev pub block_tree : Block → Tree
block_tree block = Dict (
    entry (codes "fraction lost") (whole block.fraction) (
    entry (codes "highest") (whole block.highest) (
    entry (codes "jitter") (whole block.jitter) (
    entry (codes "lost") (Int block.lost) (
    entry (codes "ssrc") (whole block.ssrc) no_entries)))))

-- nothing is told of a block that is not there
abbrev pub report_entry : Option Block → Entries
report_entry None = no_entries
report_entry (Some block) = entry (codes "report") (block_tree block) no_entries

-- one leg; sections count from 1 here
abbrev pub leg_value : List Round → LegReport → Tree
leg_value rounds report = Dict (
    entry (codes "RTCP") (counts_tree report.rtcp_accepted report.rtcp_sent) (
    entry (codes "RTP") (counts_tree report.rtp_accepted report.rtp_sent) (
    entry (codes "endpoint") (endpoint_value report.endpoint) (
    entry (codes "index") (whole (report.section + 1)) (
    entry (codes "local port") (whole report.port) (
    entry (codes "protocol") (Bytes (profile_text (plan.protocol rounds report.section report.side))) (report_entry report.report)))))))

-- the leg of a section and side
abbrev pub leg_report_at : List LegReport → Side → ℕ → Option LegReport
leg_report_at legs side section = first (filter (λ report. (report.section == section) && side_eq report.side side) legs)

-- the legs of a side in the order of their sections
abbrev pub side_value : Report → Side → Tree
side_value report side =
    Dict (entry (codes "medias") (Items (items_of (map (leg_value report.rounds) (filter_map (leg_report_at report.legs side) (numbers 0 8))))) no_entries)

-- the first differing byte is smaller, or the text ends first
abbrev pub stands_before : List ℕ → List ℕ → Bool
stands_before [] others = true
stands_before (a ∷ more) [] = false
stands_before (a ∷ more) (b ∷ others) = if a == b then stands_before more others else nat_lt a b

abbrev pub tag_pair : List ℕ → Tree → List ℕ → Tree → Entries
tag_pair a of_a b of_b = if stands_before a b then entry a of_a (entry b of_b no_entries) else entry b of_b (entry a of_a no_entries)

-- the tags of the sides, in byte order
abbrev pub tags_by : Option (List ℕ) → Tree → Option (List ℕ) → Tree → Entries
tags_by None of_a None of_b = no_entries
tags_by (Some a) of_a None of_b = entry a of_a no_entries
tags_by None of_a (Some b) of_b = entry b of_b no_entries
tags_by (Some a) of_a (Some b) of_b = tag_pair a of_a b of_b

abbrev pub tags_value : Report → Tree
tags_value shown = Dict (tags_by (plan.tag shown.rounds A) (side_value shown A) (plan.tag shown.rounds B) (side_value shown B))

unfoldable pub report_tree : Config → Report → Tree
report_tree config report = Dict (
    entry (codes "created") (moment_value report.created) (
    entry (codes "last signal") (moment_value report.last_signal) (
    entry (codes "result") (Bytes (codes "ok")) (
    entry (codes "tags") (tags_value report) no_entries))))

-- the call-ids of live calls
unfoldable pub listing_tree : List (List ℕ) → Tree
listing_tree call_ids = Dict (entry (codes "calls") (Items (items_of (map Bytes call_ids))) (entry (codes "result") (Bytes (codes "ok")) no_entries))
