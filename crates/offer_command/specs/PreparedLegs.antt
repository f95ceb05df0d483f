-- What stays of a prepared offer when keys and dropped sections are added, and which sections are dropped.
use Rattle.std.specs.Prelude.{◌≡◌, ℕ, List, filter}
use Rattle.histories.specs.Words.{has, numbers}
use Rattle.sdes_lines.specs.declared.crypto_line.Suite.{Suite}
use Rattle.srtp_keys.specs.MasterKey.{MasterKey}
use Rattle.port_pool.specs.declared.holder.Side.{Side}
use Rattle.port_pool.specs.Signals.{NewKey}
use Rattle.call_cell.specs.declared.prepare.Prepare as prepared
use Rattle.call_cell.specs.Preparations.{IsReady, added, parts_added, leg_room}

-- the legs are as before, with their leases and ends, and so is the room for more of them and their places
pub record SameLegs {O : Type 0} (old new : prepared.Prepare O) : Type 0 where
  pub added_are : added new ≡ added old
  pub parts_are : parts_added new ≡ parts_added old
  pub room_is : leg_room new ≡ leg_room old
  pub ready : IsReady old → IsReady new

-- a drawn key for the leg of a section and side, and a suite
abbrev pub drawn_key : ℕ → Side → Suite → MasterKey → NewKey
drawn_key section side suite key = record { number = key.number; section = section; side = side; suite = suite; bytes = key.bytes }

-- these are the sections from 0 to 7 that stand in the demanded ones, upwards
abbrev pub SectionsFor : (demanded sections : List ℕ) → Type 0
SectionsFor demanded sections = sections ≡ filter (has demanded) (numbers 0 8)
