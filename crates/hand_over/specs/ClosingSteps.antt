-- How the ports of all legs are closed, leg by leg: what has to hold of a cell, and what a step does to the places.
use Rattle.std.specs.Prelude.{◌≡◌, ◌<◌, ◌≤◌, ◌++◌, ℕ, List, [], ◌∷◌, length, map, filter, Option, Some, None, is_some, IsSome, slice_get}
use Rattle.relay_outside.specs.declared.address.Addr.{Addr}
use Rattle.relay_outside.specs.declared.ports.InCall.{InCall}
use Rattle.relay_outside.specs.declared.ports.OutCall.{OutCall}
use Rattle.relay_outside.specs.declared.ports.PortCall.{PortCall}
use Rattle.relay_outside.specs.declared.settings.Config.{Config}
use Rattle.relay_outside.specs.DeviceLogs.{EndLog, Gained, WhereLogged}
use Rattle.rtp_packet.specs.declared.head.Half.TheVariants.{Rtp}
use Rattle.histories.specs.Words.{In}
use Rattle.port_pool.specs.declared.boxes.PairBox.{PairBox}
use Rattle.port_pool.specs.Ports.{AreOfPair, port_address, pair_count}
use Rattle.port_pool.specs.Pools.{AreFree}
use Rattle.port_pool.specs.PairBoxes.{ends_in}
use Rattle.call_cell.specs.declared.leg.Leg.{Leg}
use Rattle.call_cell.specs.declared.cell.Cell as cell
use Rattle.call_cell.specs.declared.saved.CellSaved.{CellSaved}
use Rattle.call_cell.specs.SavedCells.{SavesCell}
use Rattle.call_cell.specs.TakenEnds.{TakesEnds}
use Rattle.call_board.specs.Returns.{leg_lease}
use Rattle.call_board.specs.Shapes.{LiveShape}
use Rattle.call_board.specs.declared.board.Board as board
use Rattle.media_ports.specs.Addresses.{pair_addresses}
use Rattle.media_ports.specs.Calls.{AllOpen}
use Rattle.relay_core.specs.declared.part.Part.{Part}
use Rattle.relay_core.specs.declared.part.Part.TheVariants as part
use Rattle.relay_core.specs.Entries.{box_of}
use Rattle.hand_over.specs.Closings.{legs_at, cell_closings}

-- both ports of the pair are open, where the port maker tells
abbrev pub IsPairOpen : Config → Option (List PortCall) → (pair : ℕ) → Type 0
IsPairOpen config log pair = WhereLogged log (AllOpen (pair_addresses config (pair ∷ [])))

module _ {O : Type 0} where
  abbrev pub pairs_of_legs : List (Leg O) → List ℕ
  pairs_of_legs those = map (λ (leg : Leg O). leg.holder.pair) those

  -- the legs that have their ends
  abbrev pub legs_with_ends : List (Leg O) → List (Leg O)
  legs_with_ends those = filter (λ (leg : Leg O). is_some leg.sending.ends) those

  -- a cell that stays, but for the ends of its legs
  pub record KeepsAllButEnds (old new : cell.Cell O) : Type 0 where
    pub saves : (saved : CellSaved) → SavesCell new saved → SavesCell old saved

module _ {I O : Type 0} where
  -- the state is an open box
  abbrev pub IsOpenBox : Part I O → Type 0
  IsOpenBox (part.Pair box) = IsSome (ends_in box)
  IsOpenBox _ = ⊥

  -- the box gave these ends
  abbrev pub GaveBoxEnds : Part I O → Part I O → I × I → Type 0
  GaveBoxEnds (part.Pair was) (part.Pair now) ends = (ends_in was ≡ Some ends) × (ends_in now ≡ None)
  GaveBoxEnds _ _ ends = ⊥

  -- the state is a cell, and gave the ends of its first leg that has some
  abbrev pub HoldsCell : Part I O → Type 0
  HoldsCell (part.Cell held) = Unit {0}
  HoldsCell _ = ⊥

  abbrev pub HoldsBoard : Part I O → Type 0
  HoldsBoard (part.Board held) = Unit {0}
  HoldsBoard _ = ⊥

  -- the first place has the board
  abbrev pub HasBoard : List (Part I O) → Type 0
  HasBoard parts = (held : board.Board) × (slice_get parts 0 ≡ Some (part.Board held))

  abbrev pub GaveEnds : Part I O → Part I O → Option (Addr × O × O) → Type 0
  GaveEnds (part.Cell was) (part.Cell now) ends = TakesEnds was now ends
  GaveEnds _ _ ends = ⊥

  -- the place holds a box with these ends
  pub record HoldsEnds (parts : List (Part I O)) (place : ℕ) (ends : I × I) : Type 0 where
    pub box : PairBox I
    pub box_is : slice_get parts place ≡ Some (part.Pair box)
    pub ends_are : ends_in box ≡ Some ends

  -- what another place holds is the same
  abbrev pub SameElsewhere : List (Part I O) → List (Part I O) → (place : ℕ) → Type 0
  SameElsewhere old new place = (k : ℕ) → (k ≡ place → ⊥) → slice_get new k ≡ slice_get old k

  -- the cell at the place gave the ends of its first leg that has some, and all else is as it was
  pub record TakesAt (old new : List (Part I O)) (place : ℕ) (ends : Option (Addr × O × O)) : Type 0 where
    pub was : cell.Cell O
    pub was_is : slice_get old place ≡ Some (part.Cell was)
    pub now : cell.Cell O
    pub now_is : slice_get new place ≡ Some (part.Cell now)
    pub takes : TakesEnds was now ends
    pub others : SameElsewhere old new place
    pub length_is : length new ≡ length old

  -- the box at the place gave its ends, and all else is as it was
  pub record GivesBox (old new : List (Part I O)) (place : ℕ) (ends : I × I) : Type 0 where
    pub gave : HoldsEnds old place ends
    pub box : PairBox I
    pub box_is : slice_get new place ≡ Some (part.Pair box)
    pub shut : ends_in box ≡ None
    pub others : SameElsewhere old new place
    pub length_is : length new ≡ length old

  -- the cell at the place stays but for the ends of its legs
  abbrev pub KeepsCellAt : List (Part I O) → List (Part I O) → (place : ℕ) → Type 0
  KeepsCellAt old new place = (was : cell.Cell O) → slice_get old place ≡ Some (part.Cell was)
      → (now : cell.Cell O) × (slice_get new place ≡ Some (part.Cell now)) × KeepsAllButEnds was now

module _ {I O : Type 0} (taken : I → EndLog InCall) (sent : O → EndLog OutCall) where
  -- Where a leg has its ends, they were opened for the ports of its pair, as those of the box were, and both ports are open
  abbrev pub AreReady : Config → List (Part I O) → Option (List PortCall) → (pair : ℕ) → Option (O × O) → Type 0
  AreReady config parts log pair None = Unit {0}
  AreReady config parts log pair (Some ends) =
      AreOfPair sent (port_address config pair Rtp) ends.0 ends.1
      × (in_ends : I × I) × HoldsEnds parts (box_of config pair) in_ends × AreOfPair taken (port_address config pair Rtp) in_ends.0 in_ends.1
      × IsPairOpen config log pair

  pub record IsLegReady (config : Config) (parts : List (Part I O)) (log : Option (List PortCall)) (leg : Leg O) : Type 0 where
    pub lease_is : leg.lease ≡ leg_lease config leg.holder
    pub ready : AreReady config parts log leg.holder.pair leg.sending.ends

  -- The place is that of a cell whose legs have different pairs, and are ready
  pub record IsCellReady (config : Config) (parts : List (Part I O)) (log : Option (List PortCall)) (place : ℕ) : Type 0 where
    pub cell : cell.Cell O
    pub cell_is : slice_get parts place ≡ Some (part.Cell cell)
    pub config_is : cell.config ≡ config
    pub within : place ≤ config.max_sessions
    pub apart : AreFree (pair_count config) (pairs_of_legs cell.legs.items)
    pub legs : (leg : Leg O) → In leg cell.legs.items → IsLegReady config parts log leg

  -- Some legs of the cell at the place were closed, the first of those that had their ends
  pub record ClosesSome (config : Config) (place : ℕ) (old : List (Part I O)) (was : Option (List PortCall)) (new : List (Part I O)) (now : Option (List PortCall)) : Type 0 where
    pub ready : IsCellReady config new now place
    pub closes : Gained was now (λ calls. calls ++ cell_closings taken sent config new (legs_at new place) ≡ cell_closings taken sent config old (legs_at old place))
    pub keeps : KeepsCellAt old new place
    pub pairs_are : pairs_of_legs (legs_at new place) ≡ pairs_of_legs (legs_at old place)
    pub others : (k : ℕ) → (k ≡ place → ⊥) → ((pair : ℕ) → In pair (pairs_of_legs (legs_at old place)) → k ≡ box_of config pair → ⊥) → slice_get new k ≡ slice_get old k
    pub still_open : (pair : ℕ) → pair < pair_count config → (In pair (pairs_of_legs (legs_at old place)) → ⊥) → IsPairOpen config was pair → IsPairOpen config now pair
    pub length_is : length new ≡ length old

module _ {I O : Type 0} where
  -- the cell at the place is saved as before, and no leg of it has its ends
  pub record IsEmptied (old new : List (Part I O)) (place : ℕ) : Type 0 where
    pub keeps : KeepsCellAt old new place
    pub none : legs_with_ends (legs_at new place) ≡ []

  -- the cells of these calls were emptied, and all other cells and the board are as they were
  pub record LeavesEmptied (config : Config) (old new : List (Part I O)) (calls : List LiveShape) : Type 0 where
    pub emptied : (call : LiveShape) → In call calls → IsEmptied old new call.cell
    pub others : (k : ℕ) → k ≤ config.max_sessions → ((call : LiveShape) → In call calls → k ≡ call.cell → ⊥) → slice_get new k ≡ slice_get old k
