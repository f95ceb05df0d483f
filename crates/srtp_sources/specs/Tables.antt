-- What a table of sources keeps of the notes.
use Rattle.std.specs.Prelude.{ℕ, ◌≡◌, ◌<◌, ◌==◌, Bool, List, take, position, slice_index, slice_index_or}
use Rattle.rtp_packet.specs.declared.head.Half.{Half}
use Rattle.replay_window.specs.declared.window.Window.{Window}
use Rattle.replay_window.specs.Windows.{WindowStandsFor}
use Rattle.srtp_sources.specs.declared.sources.Source.{Source}
use Rattle.srtp_sources.specs.declared.sources.Sources.{Sources}
use Rattle.srtp_sources.specs.Notes.{Note, sources, indices, is_room_in}

-- the table stands for the notes of a half: it has their sources, and of each a window that stands for its indices
pub record SourcesFor (half : Half) (table : Sources) (notes : List Note) : Type 0 where
  pub known : take table.count table.ssrcs ≡ sources half notes
  pub each : (place : ℕ) (other : Window) → place < table.count
      → WindowStandsFor (slice_index_or table.windows place other) (indices half (slice_index table.ssrcs place) notes)

-- the table knows the source, or has a place for it
unfoldable pub can_note : Sources → ℕ → Bool
can_note table ssrc = is_room_in (take table.count table.ssrcs) ssrc

-- the source is at the place of this table where its SSRC stands first, and at none where the table doesn't know it
abbrev pub IsPlaced : Sources → Source → Type 0
IsPlaced table source = source.place ≡ position (λ known. known == source.ssrc) (take table.count table.ssrcs)
