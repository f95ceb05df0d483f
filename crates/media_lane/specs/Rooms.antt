-- What contracts see in the two rooms of a lane.
use Rattle.std.specs.Prelude.{◌-◌, ℕ, List, [], take, slice_index_or}
use Rattle.media_lane.specs.declared.rooms.Rooms.{Rooms}

-- the free room
abbrev pub free_room : Rooms → List ℕ
free_room r = slice_index_or r.rooms r.free []

-- its front, into which a take reads
abbrev pub front_in : Rooms → List ℕ
front_in r = take 2001 (free_room r)

-- the room of the last relay
abbrev pub last_in : Rooms → List ℕ
last_in r = slice_index_or r.rooms (1 - r.free) []

-- what it sent
abbrev pub sent_room : Rooms → List ℕ
sent_room r = take r.sent (last_in r)
