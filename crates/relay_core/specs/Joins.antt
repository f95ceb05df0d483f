-- What is known of the rows of the main hand, and of those of lanes, when they are joined and the table is closed.
use Rattle.std.specs.Prelude.{◌≡◌, ◌<◌, ◌≤◌, ℕ, List, Some, slice_get}
use Rattle.relay_outside.specs.declared.address.Addr.{Addr}
use Rattle.relay_outside.specs.declared.settings.Config.{Config}
use Rattle.rtp_packet.specs.declared.head.Half.{Half}
use Rattle.turn_table.specs.declared.machine.Entry as table
use Rattle.turn_table.specs.Histories as table_lists
use Rattle.histories.specs.Words.{In}
use Rattle.port_pool.specs.declared.holder.Holder.{Holder}
use Rattle.port_pool.specs.Boxes.{Take, Datagram}
use Rattle.relay_core.specs.declared.part.Part.{Part}
use Rattle.relay_core.specs.declared.part.Part.TheVariants as part
use Rattle.relay_core.specs.Entries.{Box, Entry, history, box_of}
use Rattle.relay_core.specs.Legal.{Orderly}
use Rattle.relay_core.specs.Records.{Made, list_of}
use Rattle.relay_core.specs.PlaceHistories.{Stands}
use Rattle.relay_core.specs.Turns.{Numbered, IsAbove, IsOfLane, IsReceiving}
use Rattle.relay_core.specs.NestedMoments.{IsHanded}
use Rattle.relay_core.specs.ReturnedPairs.{AreReturned}

-- each take of the list gave its datagram to a leg that holds the pair of its own box
abbrev pub TakesOwnPairs : Config → List Entry → Type 0
TakesOwnPairs config l =
    (e : Entry) (half : Half) (holder : Holder) (source : Addr) (bytes : List ℕ) → In e l → e.event ≡ Box (Take half (Datagram holder source bytes))
    → e.place ≡ box_of config holder.pair

module _ {T : Type 0} where
  -- the rows of a lane: takes, and relays of what they gave
  pub record IsLaneRows (config : Config) (rows : List (table.Entry Made T)) : Type 0 where
    pub of_lane : (row : table.Entry Made T) → table_lists.IsMemberOf row rows → IsOfLane row.event.event
    pub receiving : TakesOwnPairs config (list_of rows) → IsReceiving config (list_of rows)

  -- The rows of the main hand, followed by those of lanes: what they have, given that each place and number stands once among
  -- them and that takes are of their own pairs. Both are known when the table is closed.
  pub record IsSound (config : Config) (rows : List (table.Entry Made T)) : Type 0 where
    pub orderly : Numbered (list_of rows) → Orderly config (list_of rows)
    pub handed : Numbered (list_of rows) → IsHanded rows
    pub returned : Numbered (list_of rows) → AreReturned config rows
    pub receiving : Numbered (list_of rows) → TakesOwnPairs config (list_of rows) → IsReceiving config (list_of rows)

module _ {I O : Type 0} where
  -- the place with this number holds a part of its kind
  abbrev pub IsAtPlace : Config → ℕ → Part I O → Type 0
  IsAtPlace config k (part.Board board) = k ≡ 0
  IsAtPlace config k (part.Cell cell) = (1 ≤ k) × (k ≤ config.max_sessions)
  IsAtPlace config k (part.Pair box) = config.max_sessions < k

  -- each part is of its place's kind, and stands for all that the list has of its place
  abbrev pub AreStanding : Config → List (Part I O) → List Entry → Type 0
  AreStanding config parts l =
      (k n : ℕ) (x : Part I O) → slice_get parts k ≡ Some x → IsAbove l k n → IsAtPlace config k x × Stands config x (history l k n)
