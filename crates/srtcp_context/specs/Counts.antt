-- What a table of counts keeps of the notes.
use Rattle.std.specs.Prelude.{ℕ, ◌≡◌, ◌<◌, ◌==◌, List, Bool, length, take, position, slice_index}
use Rattle.rtp_packet.specs.declared.head.Half.TheVariants.{Rtcp}
use Rattle.srtp_sources.specs.Notes.{Note, sources, indices, is_room_in}
use Rattle.srtcp_context.specs.declared.counts.Counts.{Counts}
use Rattle.srtcp_context.specs.declared.counts.Sender.{Sender}

-- the table stands for the notes: it has their sources, and of each how many packets were sent
pub record CountsFor (table : Counts) (notes : List Note) : Type 0 where
  pub known : take table.count table.ssrcs ≡ sources Rtcp notes
  pub each : (place : ℕ) → place < table.count
      → slice_index table.sent place ≡ length (indices Rtcp (slice_index table.ssrcs place) notes)

-- the table knows the source, or has a place for it
unfoldable pub can_count : Counts → ℕ → Bool
can_count table ssrc = is_room_in (take table.count table.ssrcs) ssrc

-- the source is at the place of this table where its SSRC stands first, and at none where the table doesn't know it
abbrev pub IsSenderPlaced : Counts → Sender → Type 0
IsSenderPlaced table sender = sender.place ≡ position (λ known. known == sender.ssrc) (take table.count table.ssrcs)
