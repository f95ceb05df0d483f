-- The packets of a leg, counted by halves: those that were accepted from its side, and those that were sent to it.
use Rattle.std.specs.Prelude.{◌≡◌, ◌<◌, ◌≤◌, ℕ, ◌+◌, ◌-◌, ◌^◌, Bool, min, List, if◌then◌else◌}
use Rattle.rtp_packet.specs.declared.head.Half.{Half}
use Rattle.rtp_packet.specs.declared.head.Half.TheVariants.{Rtp, Rtcp}
use Rattle.port_pool.specs.declared.holder.Holder.{Holder}
use Rattle.call_cell.specs.declared.counts.Counts.{Counts}
use Rattle.call_cell.specs.Cells.{CellEntry}
use Rattle.call_cell.specs.Demands.{accepted_count, sent_count}

abbrev pub no_counts : Counts
no_counts = record { rtp_accepted = 0; rtp_sent = 0; rtcp_accepted = 0; rtcp_sent = 0 }

-- a count as far as 64 bits go
abbrev pub as_counted : ℕ → ℕ
as_counted n = min n (2 ^ 64 - 1)

abbrev pub accepted_in : Half → Counts → ℕ
accepted_in Rtp counts = counts.rtp_accepted
accepted_in Rtcp counts = counts.rtcp_accepted

abbrev pub sent_in : Half → Counts → ℕ
sent_in Rtp counts = counts.rtp_sent
sent_in Rtcp counts = counts.rtcp_sent

-- a packet of a half was accepted
abbrev pub more_accepted : Half → Counts → Counts
more_accepted Rtp counts = record counts { rtp_accepted = as_counted (counts.rtp_accepted + 1) }
more_accepted Rtcp counts = record counts { rtcp_accepted = as_counted (counts.rtcp_accepted + 1) }

-- a packet of a half was sent
abbrev pub one_sent : Half → Counts → Counts
one_sent Rtp counts = record counts { rtp_sent = as_counted (counts.rtp_sent + 1) }
one_sent Rtcp counts = record counts { rtcp_sent = as_counted (counts.rtcp_sent + 1) }

-- a packet of a half left, and its send had this result
abbrev pub more_sent : Half → Bool → Counts → Counts
more_sent half ok counts = if ok then one_sent half counts else counts

-- the counts are those of the history, as far as 64 bits go
pub record IsCounted (h : List CellEntry) (leg : Holder) (counts : Counts) : Type 0 where
  pub accepted : (half : Half) → accepted_in half counts ≡ as_counted (accepted_count h leg half)
  pub sent : (half : Half) → sent_in half counts ≡ as_counted (sent_count h leg half)

-- each count is below that
pub record CountsUnder (bound : ℕ) (counts : Counts) : Type 0 where
  pub accepted : (half : Half) → accepted_in half counts < bound
  pub sent : (half : Half) → sent_in half counts < bound

-- no count rose by more than one
pub record RoseByOne (old new : Counts) : Type 0 where
  pub accepted : (half : Half) → accepted_in half new ≤ accepted_in half old + 1
  pub sent : (half : Half) → sent_in half new ≤ sent_in half old + 1

-- of accepted packets at most one more is counted, and no more of those that were sent
pub record AcceptedOne (old new : Counts) : Type 0 where
  pub accepted : (half : Half) → accepted_in half new ≤ accepted_in half old + 1
  pub sent : (half : Half) → sent_in half new ≡ sent_in half old

-- of packets that were sent at most one more is counted, and no more of accepted ones
pub record SentOne (old new : Counts) : Type 0 where
  pub accepted : (half : Half) → accepted_in half new ≡ accepted_in half old
  pub sent : (half : Half) → sent_in half new ≤ sent_in half old + 1
