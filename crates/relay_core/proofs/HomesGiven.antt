-- What a turn gives, and what the close of the table returns, has its ends at home, where what the places began with has.
use Rattle.std.proofs.Common.{◌≡◌, ◌∙◌, sym, subst, ℕ, ◌<◌, ◌≤◌, List, [], Option, Some, length, arith, slice_get}
use Rattle.std.specs.List.{filter_map}
use Rattle.std.proofs.lemmas.Option.{slice_get_within}
use Rattle.relay_outside.specs.declared.address.Addr.{Addr}
use Rattle.relay_outside.specs.declared.ports.InCall.{InCall}
use Rattle.relay_outside.specs.declared.ports.OutCall.{OutCall}
use Rattle.relay_outside.specs.declared.settings.Config.{Config}
use Rattle.relay_outside.specs.DeviceLogs.{EndLog}
use Rattle.turn_table.specs.declared.machine.Entry as table
use Rattle.turn_table.specs.declared.view.View.{View}
use Rattle.turn_table.specs.Histories.{Leaves}
use Rattle.histories.specs.Words.{In}
use Rattle.rtp_packet.specs.declared.head.Half.TheVariants.{Rtp}
use Rattle.port_pool.specs.Ports.{AreOfPair, pair_count, port_address}
use Rattle.port_pool.specs.PairBoxes.{at_of, ends_in}
use Rattle.port_pool.specs.declared.boxes.PairBox.{PairBox}
use Rattle.port_pool.specs.declared.pairs.Lease.{Lease}
use Rattle.call_cell.specs.declared.leg.Leg.{Leg}
use Rattle.call_cell.specs.declared.cell.Cell as cell
use Rattle.call_cell.specs.CellEnds.{parts_of}
use Rattle.call_cell.specs.CellHistories.{CellFor}
use Rattle.relay_core.specs.declared.part.Part.{Part}
use Rattle.relay_core.specs.declared.part.Part.TheVariants as part
use Rattle.relay_core.specs.Entries.{box_of}
use Rattle.relay_core.specs.FirstPlaces.{AreParts, BeginsAs}
use Rattle.relay_core.specs.Records.{Made}
use Rattle.relay_core.specs.PlaceHistories.{AreHome, GoneHome, BoxHome}
use Rattle.relay_core.specs.Homes.{IsCellHome, KeepsHome, AreEndsHome}
use Rattle.relay_core.proofs.Closed.{AreClosed, in_range}
use Rattle.relay_core.proofs.Given.{Gives, begins_as}
use Rattle.relay_core.proofs.GivenHomes.{box_begins_home}
use Rattle.relay_core.proofs.Homes.{parts_home}
use Rattle.relay_core.proofs.HomesKept.{rows_keep_home}
use Rattle.relay_core.proofs.Stays.{Steps, home_stays}
use Rattle.relay_core.proofs.WholeFirst.{no_items}

-- What a turn gives, by any hand.

module _ {T I O : Type 0} (it : I → EndLog InCall) (ic : I → ℕ) (ot : O → EndLog OutCall) (oc : O → ℕ) where
  pub box_home_given : (config : Config) (v : View (Part I O) Made T) (pair n : ℕ) (x : Part I O) → AreEndsHome it ot config v.starts → pair < pair_count config
      → Gives it ic ot oc (box_of config pair) v n x → BoxHome it config pair x
  box_home_given config v pair n x homes below g =
      home_stays it ic ot oc config pair g.start x g.history g.leaves (homes.boxes pair g.start below g.starts)

  pub cell_home_given : (config : Config) (v : View (Part I O) Made T) (k n : ℕ) (x : Part I O) → AreEndsHome it ot config v.starts → 1 ≤ k → k ≤ config.max_sessions
      → Gives it ic ot oc k v n x → KeepsHome ot config x
  cell_home_given config v k n x homes low high g =
      rows_keep_home it ic ot oc config g.start x g.history g.leaves (homes.cells k g.start low high g.starts)

-- What leaves a place.

module _ {I O : Type 0} (it : I → EndLog InCall) (ot : O → EndLog OutCall) (oc : O → ℕ) where
  -- the in ends of a box are those of its pair
  pub box_ends_home : (config : Config) (pair : ℕ) (box : PairBox I) (ends : I × I) → BoxHome {I = I} {O = O} it config pair (part.Pair box) → ends_in box ≡ Some ends
      → AreOfPair it (port_address config pair Rtp) ends.0 ends.1
  box_ends_home config pair box ends home is =
      subst (λ (at : Addr). AreOfPair it at ends.0 ends.1) home.0 (subst (λ (o : Option (I × I)). AreHome it (at_of box) o) is home.1)

  -- and legs that go from a cell have the out ends of the pairs that are leased
  pub cell_parts_home : (config : Config) (c : cell.Cell O) (those : List (Leg O)) (gone : List (Lease × O × O)) → IsCellHome ot config c
      → ((leg : Leg O) → In leg those → In leg c.legs.items) → gone ≡ filter_map (λ (leg : Leg O). parts_of leg) those → GoneHome ot config gone
  cell_parts_home config c those gone home within went =
      subst (λ (l : List (Lease × O × O)). GoneHome ot config l) (sym went)
      (parts_home ot oc config those (λ leg i. home.legs leg (within leg i)) (λ leg i. home.paired leg (within leg i)))

-- What the places hold before the first step.

module _ {I O : Type 0} (it : I → EndLog InCall) (ot : O → EndLog OutCall) (oc : O → ℕ) where
  empty_home : (config : Config) (c : cell.Cell O) → CellFor config c [] → IsCellHome ot config c
  empty_home config c for =
      let none : c.legs.items ≡ [] = no_items (λ (leg : Leg O). leg.holder) c.legs.items for.legs_for.holders in
      record {
        config_is = for.config_is;
        paired = λ leg i. elim (subst (λ (l : List (Leg O)). In leg l) none i) [ ];
        legs = λ leg i. elim (subst (λ (l : List (Leg O)). In leg l) none i) [ ];
      }

  cell_first : (config : Config) (k : ℕ) (x : Part I O) → 1 ≤ k → k ≤ config.max_sessions → BeginsAs config k x → KeepsHome ot config x
  cell_first config k (part.Cell c) low high is = empty_home config c is.2
  cell_first config k (part.Board b) low high is = absurd (let l = is.0 in omega (arith, l, low))
  cell_first config k (part.Pair b) low high is = absurd (let l = is.0 in omega (arith, l, high))

  pub first_home : (config : Config) (parts : List (Part I O)) → AreParts config parts → AreEndsHome it ot config parts
  first_home config parts are = record {
    cells = λ k x low high q. cell_first config k x low high (begins_as config parts are k x q);
    boxes = λ pair x below q. box_begins_home it ot oc config pair x (begins_as config parts are (box_of config pair) x q);
  }

-- What the close returns.

same_some : {A : Type 0} {x y : A} → Some x ≡ Some y → x ≡ y
same_some q = cc

module _ {T I O : Type 0} (it : I → EndLog InCall) (ic : I → ℕ) (ot : O → EndLog OutCall) (oc : O → ℕ) where
  pub closed_home : (config : Config) (starts : List (Part I O)) (rows : List (table.Entry Made T)) (states : List (Part I O))
      → AreClosed it ic ot oc starts rows states → length states ≡ length starts → AreEndsHome it ot config starts → AreEndsHome it ot config states
  closed_home config starts rows states closed long homes = record {
    cells = λ k x low high q.
        let c = left k x q in
        rows_keep_home it ic ot oc config c.0 x c.1 c.3 (homes.cells k c.0 low high c.2);
    boxes = λ pair x below q.
        let c = left (box_of config pair) x q in
        home_stays it ic ot oc config pair c.0 x c.1 c.3 (homes.boxes pair c.0 below c.2);
  }
    where
      -- what the place began with, and the rows that lead from it to this
      left : (k : ℕ) (x : Part I O) → slice_get states k ≡ Some x
          → (a : Part I O) × (past : List (table.Entry Made T)) × (slice_get starts k ≡ Some a) × Leaves (Steps it ic ot oc) a past x
      left k x q =
          let low = slice_get_within states k x q in
          let a = in_range starts k (omega (arith, low, long)) in
          let h = closed k a.0 a.1 in
          (a.0, h.0, a.1, subst (λ (y : Part I O). Leaves (Steps it ic ot oc) a.0 h.0 y) (same_some (sym h.2 ∙ q)) h.3)
