-- What becomes of a packet of either half under a key: how its index is judged, and what it does to its context and buffer.
use Rattle.std.specs.Prelude.{ℕ, ◌≡◌, List, ◌∷◌, ◌++◌, Result, Ok, Err, length, drop, if◌then◌else◌}
use Rattle.rtp_packet.specs.declared.head.Half.{Half}
use Rattle.replay_window.specs.declared.answers.Fresh.{Fresh}
use Rattle.replay_window.specs.declared.answers.Fresh.TheVariants.{Yes, TooOld, Used}
use Rattle.replay_window.specs.Indices.{fresh}
use Rattle.srtp_keys.specs.declared.faults.ProtectFault.{ProtectFault}
use Rattle.srtp_keys.specs.declared.faults.UnprotectFault.{UnprotectFault}
use Rattle.srtp_keys.specs.declared.faults.UnprotectFault.TheVariants as fault
use Rattle.srtp_sources.specs.Notes.{Note, indices, has_room}

-- an index that the window allows, where its source is known or has room
abbrev pub index_by : Half → ℕ → List Note → ℕ → Fresh → Result ℕ UnprotectFault
index_by half ssrc notes index TooOld = Err fault.TooOld
index_by half ssrc notes index Used = Err fault.Replayed
index_by half ssrc notes index Yes = if has_room half ssrc notes then Ok index else Err fault.TooManySources

-- the index of an authentic packet, by the window of its source
abbrev pub judged_index : Half → ℕ → List Note → ℕ → Result ℕ UnprotectFault
judged_index half ssrc notes index = index_by half ssrc notes index (fresh (indices half ssrc notes) index)

-- a packet that is taken: its note, and the plain packet
pub record Opened : Type 0 where
  pub note : Note
  pub packet : List ℕ

-- a packet that is protected: its note, and its bytes
pub record Wrapped : Type 0 where
  pub note : Note
  pub bytes : List ℕ

-- these bytes, `size` of them, were written at a buffer's front, and the bytes after them are as before
pub record Writes (bytes old new : List ℕ) (size : ℕ) : Type 0 where
  pub length_is : size ≡ length bytes
  pub buffer : new ≡ bytes ++ drop (length bytes) old

-- a packet was refused, and nothing changed
pub record Refuses {C T F : Type 0} (cause : F) (old new : C) (buf_old buf_new : List ℕ) (result : Result T F) : Type 0 where
  pub answer : result ≡ Err cause
  pub buffer : buf_new ≡ buf_old
  pub context : new ≡ old

-- what a context stands for, its notes
module _ {C : Type 0} (for : C → List Note → Type 0) (notes : List Note) where
  -- a packet was taken: the plain packet stands at the buffer's front, the bytes after it are as before, and the context
  -- has one more note
  pub record Takes (packet : Opened) (new : C) (buf_old buf_new : List ℕ) (result : Result ℕ UnprotectFault) : Type 0 where
    pub answer : result ≡ Ok (length packet.packet)
    pub buffer : buf_new ≡ packet.packet ++ drop (length packet.packet) buf_old
    pub context : for new (packet.note ∷ notes)

  abbrev pub OpensTo : Result Opened UnprotectFault → C → C → List ℕ → List ℕ → Result ℕ UnprotectFault → Type 0
  OpensTo (Ok packet) old new buf_old buf_new result = Takes packet new buf_old buf_new result
  OpensTo (Err cause) old new buf_old buf_new result = Refuses cause old new buf_old buf_new result

  -- a packet was protected: its bytes stand at the buffer's front, the bytes after them are as before, and the context
  -- has one more note
  pub record Sends (packet : Wrapped) (new : C) (buf_old buf_new : List ℕ) (result : Result (ℕ × ℕ) ProtectFault) : Type 0 where
    pub answer : result ≡ Ok (length packet.bytes, packet.note.index)
    pub buffer : buf_new ≡ packet.bytes ++ drop (length packet.bytes) buf_old
    pub context : for new (packet.note ∷ notes)

  abbrev pub WrapsTo : Result Wrapped ProtectFault → C → C → List ℕ → List ℕ → Result (ℕ × ℕ) ProtectFault → Type 0
  WrapsTo (Ok packet) old new buf_old buf_new result = Sends packet new buf_old buf_new result
  WrapsTo (Err cause) old new buf_old buf_new result = Refuses cause old new buf_old buf_new result
