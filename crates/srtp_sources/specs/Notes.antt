-- What a context has taken or sent under its key, as a plain list of notes, the latest first; and what follows from it for
-- one source of one half.
use Rattle.std.specs.Prelude.{ℕ, ◌==◌, ◌&&◌, ◌||◌, List, [], ◌∷◌, ◌++◌, Bool, true, false, Option, Some, None, length, nat_lt, if◌then◌else◌}
use Rattle.std.specs.List.{list_any, filter_map}
use Rattle.rtp_packet.specs.declared.head.Half.{Half}
use Rattle.rtp_packet.specs.declared.head.Half.TheVariants.{Rtp, Rtcp}

-- a packet that was taken or sent: its half, its source, its index
pub record Note : Type 0 where
  pub half : Half
  pub ssrc : ℕ
  pub index : ℕ

abbrev pub is_half : Half → Half → Bool
is_half Rtp Rtp = true
is_half Rtcp Rtcp = true
is_half Rtp Rtcp = false
is_half Rtcp Rtp = false

-- the index of a note, where it is of this half and source
abbrev pub index_under : Half → ℕ → Note → Option ℕ
index_under half ssrc note = if is_half half note.half && (note.ssrc == ssrc) then Some note.index else None

-- the indices of one source in one half
unfoldable pub indices : Half → ℕ → List Note → List ℕ
indices half ssrc notes = filter_map (index_under half ssrc) notes

-- the source of a note, where it is of this half
abbrev pub source_under : Half → Note → Option ℕ
source_under half note = if is_half half note.half then Some note.ssrc else None

-- each element once, in the order in which they came first (the list has the latest first)
abbrev pub once : List ℕ → List ℕ
once [] = []
once (x ∷ xs) = if list_any (λ y. y == x) (once xs) then once xs else once xs ++ x ∷ []

-- the sources of one half that have an index
unfoldable pub sources : Half → List Note → List ℕ
sources half notes = once (filter_map (source_under half) notes)

-- a source is known, or fewer than 32 are
abbrev pub is_room_in : List ℕ → ℕ → Bool
is_room_in known ssrc = nat_lt (length known) 32 || list_any (λ other. other == ssrc) known

-- a packet of this source may be noted
unfoldable pub has_room : Half → ℕ → List Note → Bool
has_room half ssrc notes = is_room_in (sources half notes) ssrc
