-- What a receipt is of, by the list of entries of the hand that has it.
use Rattle.std.specs.Prelude.{◌≡◌, ◌≤◌, ℕ, List}
use Rattle.relay_outside.specs.declared.settings.Config.{Config}
use Rattle.histories.specs.Words.{In}
use Rattle.port_pool.specs.Boxes.{Take, Datagram}
use Rattle.call_cell.specs.Cells.{Receipt, Relay, Relayed}
use Rattle.relay_core.specs.Entries.{Cell, Box, Entry, box_of}
use Rattle.relay_core.specs.Joins.{TakesOwnPairs}
use Rattle.relay_core.specs.Legal.{Orderly}
use Rattle.relay_core.specs.Turns.{Numbered, IsReceiving}

-- no relay of the list names the take of this packet
abbrev pub IsUnspent : List Entry → Receipt → Type 0
IsUnspent l p =
    (e : Entry) (x : Relayed) → In e l → e.event ≡ Cell (Relay x) → x.packet.holder.pair ≡ p.holder.pair → x.packet.take ≡ p.take → ⊥

-- The packet was taken at the box of this pair, by an entry of the list, and isn't relayed yet. That takes are of their own boxes'
-- pairs is so in each list whose boxes are opened by the board's entries for the pairs that they lease. A lane sees no opening:
-- it takes this as a premise.
pub record IsReceiptOf (config : Config) (l : List Entry) (pair : ℕ) (p : Receipt) : Type 0 where
  pub taking : Entry
  pub is_there : In taking l
  pub at_box : taking.place ≡ box_of config pair
  pub with_number : taking.number ≡ p.take
  pub gave : taking.event ≡ Box (Take p.half (Datagram p.holder p.source p.bytes))
  pub for_cell : (1 ≤ p.holder.cell) × (p.holder.cell ≤ config.max_sessions)
  pub unspent : TakesOwnPairs config l → IsReceiving config l → IsUnspent l p

-- What a longer list keeps of the one before.
pub record KeepsList (config : Config) (old new : List Entry) : Type 0 where
  -- each entry has its place and its number alone
  pub numbered : Numbered old → Numbered new
  pub orderly : Orderly config old → Orderly config new
  -- each relay is of a take before it, and no two are of one
  pub receiving : TakesOwnPairs config new → IsReceiving config old → IsReceiving config new
