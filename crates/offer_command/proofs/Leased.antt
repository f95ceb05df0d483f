-- The leases of an offer: their pairs are free, so that the boxes of these are shut, and their ports are those of the pairs.
use Rattle.std.proofs.Common.{◌≡◌, ◌∙◌, sym, ap, subst, ℕ, ◌+◌, ◌<◌, ◌^◌, List, [], ◌∷◌, map, refl, arith}
use Rattle.relay_outside.specs.declared.settings.Config.{Config}
use Rattle.rtp_packet.specs.declared.head.Half.{Half}
use Rattle.rtp_packet.specs.declared.head.Half.TheVariants.{Rtp, Rtcp}
use Rattle.histories.specs.Words.{In, here, there}
use Rattle.histories.proofs.Lists.{picks, mapped}
use Rattle.turn_table.specs.declared.hands.Hand.{Hand}
use Rattle.port_pool.specs.Ports.{pair_count, pair_family, pair_port, half_port}
use Rattle.port_pool.specs.Pools.{AreFree}
use Rattle.port_pool.specs.declared.pairs.Lease.{Lease}
use Rattle.port_pool.specs.Signals.{NewKey}
use Rattle.offer_answer.specs.Rounds.{NewLeg}
use Rattle.call_cell.specs.declared.leg.Leg.{Leg}
use Rattle.call_cell.specs.declared.prepare.Prepare as prepared
use Rattle.call_cell.specs.CellEnds.{parts_of, parts_with}
use Rattle.call_cell.proofs.EndsThere.{is_there}
use Rattle.call_cell.specs.LegHistories.{port_by}
use Rattle.call_cell.specs.Preparations.{PrepareFor, parts_added}
use Rattle.call_board.specs.Acts.{BoardEntry}
use Rattle.call_board.specs.Pairs.{free}
use Rattle.call_board.specs.Fits.{IsFitting}
use Rattle.call_board.specs.declared.board.Board.{Board}
use Rattle.call_board.specs.Shapes.{board_shape}
use Rattle.call_board.specs.Views.{View, view_of}
use Rattle.call_board.specs.Boards.{BoardMatches, lease_at, leases_at, fronts_for}
use Rattle.call_board.proofs.Free.{front_among}
use Rattle.call_board.proofs.Outs.{are_free, lease_pairs}
use Rattle.media_ports.specs.Addresses.{pairs_of_leases, AreLeased}
use Rattle.media_ports.specs.declared.ends.PairEnds.{PairEnds}
use Rattle.media_ports.proofs.Held.{pair_fits}
use Rattle.relay_core.specs.declared.part.Part.{Part}
use Rattle.relay_core.specs.KeptAfter.{IsWholeWith}
use Rattle.relay_core.specs.Records.{Made}
use Rattle.board_turns.proofs.TakenPairs.{free_shut}
use Rattle.offer_command.specs.LegBoxes.{AreShut, leased_parts}
use Rattle.offer_command.proofs.Fronts.{fronts_free, leases_leased}

-- they are of different pairs of the configuration
pub are_leased : (config : Config) (h : List BoardEntry) (legs : List NewLeg) (leases : List Lease) → IsFitting config h →
    leases ≡ leases_at config (view_of config h) (fronts_for config (view_of config h) legs) → AreLeased config leases
are_leased config h legs leases good is =
    subst (AreLeased config) (sym is)
    (leases_leased config (view_of config h) (fronts_for config (view_of config h) legs) (fronts_free config (view_of config h) legs (are_free config h good)))

-- the pairs are those that the legs get
pub pairs_leased : (config : Config) (v : View) (pairs : List ℕ) (leases : List Lease) → leases ≡ leases_at config v pairs → pairs_of_leases leases ≡ pairs
pairs_leased config v pairs leases is = ap pairs_of_leases is ∙ lease_pairs config v.leases pairs

pub lease_free : (config : Config) (h : List BoardEntry) (legs : List NewLeg) (leases : List Lease) → leases ≡ leases_at config (view_of config h) (fronts_for config (view_of config h) legs) →
    (pair : ℕ) → In pair (pairs_of_leases leases) → In pair (free config h)
lease_free config h legs leases is pair i =
    front_among config (free config h) legs pair
    (subst (In pair) (pairs_leased config (view_of config h) (fronts_for config (view_of config h) legs) leases is) i)

-- their boxes are shut
module _ {M I O T : Type 0} {g : _} where
  pub are_shut : (config : Config) (hand : Hand M (Part I O) Made T g) (board : Board) (v : View) (h : List BoardEntry) (legs : List NewLeg) (leases : List Lease)
      → IsWholeWith config hand (board_shape board) → BoardMatches config board v → v.free ≡ free config h
      → leases ≡ leases_at config (view_of config h) (fronts_for config (view_of config h) legs) → AreShut config hand (pairs_of_leases leases)
  are_shut config hand board v h legs leases whole shows free_is is pair i =
      free_shut config hand board v pair whole shows (subst (λ (ps : List ℕ). In pair ps) (sym free_is) (lease_free config h legs leases is pair i))

-- Their ports.

part_in : {I O : Type 0} (leases : List Lease) (opened : List (PairEnds I O)) (x : Lease × O × O) → In x (leased_parts leases opened) → In x.0 leases
part_in [] opened x i = elim i [ ]
part_in (lease ∷ leases) [] x i = elim i [ ]
part_in {I} {O} (lease ∷ leases) (ends ∷ opened) x (here q) = here (ap (λ (y : Lease × O × O). y.0) q)
part_in (lease ∷ leases) (ends ∷ opened) x (there i) = there (part_in leases opened x i)

-- the lease has the port and the family of its pair
record IsOwn (config : Config) (lease : Lease) : Type 0 where
  port : lease.rtp_port ≡ pair_port config lease.pair
  family : lease.family ≡ pair_family config lease.pair

own_in : (config : Config) (f : ℕ → ℕ) (pairs : List ℕ) (lease : Lease) → In lease (map (lease_at config f) pairs) → IsOwn config lease
own_in config f pairs lease i =
    let m = mapped (lease_at config f) pairs i in
    subst (IsOwn config) m.makes (record { port = refl; family = refl })

pair_in : (config : Config) (count : ℕ) (leases : List Lease) (lease : Lease) → AreFree count (pairs_of_leases leases) → In lease leases → lease.pair < count
pair_in config count [] lease are i = elim i [ ]
pair_in config count (first ∷ leases) lease are (here q) = let p = ap (λ (x : Lease). x.pair) q in let b = are.0 in omega (arith, p, b)
pair_in config count (first ∷ leases) lease are (there i) = pair_in config count leases lease are.2 i

half_case : (config : Config) (port pair : ℕ) → port ≡ pair_port config pair → pair_port config pair + 1 < 2 ^ 16 → (half : Half) → port_by half port ≡ half_port config pair half
half_case config port pair is low Rtp = is
half_case config port pair is low Rtcp = omega (arith, is, low)

module _ {I O : Type 0} (config : Config) (v : View) (pairs : List ℕ) (signal : prepared.Prepare O) (leases : List Lease) (opened : List (PairEnds I O)) (keys : List NewKey) (dropped : List ℕ)
    (is : leases ≡ leases_at config v pairs) (parts : parts_added signal ≡ leased_parts leases opened) (stands : PrepareFor signal keys dropped) where
  lease_of : (leg : Leg O) → In leg signal.legs.items → In leg.lease leases
  lease_of leg i =
      let t = is_there leg.sending.ends (stands.fresh leg i).ends in
      let p : Lease × O × O = (leg.lease, t.0.0, t.0.1) in
      part_in leases opened p (subst (In p) parts (picks (λ (x : Leg O). parts_of x) signal.legs.items i (ap (parts_with leg.lease) t.1)))

  own : (leg : Leg O) → In leg signal.legs.items → IsOwn config leg.lease
  own leg i = own_in config v.leases pairs leg.lease (subst (In leg.lease) is (lease_of leg i))

  -- each leg that was prepared with them has the ports of its pair
  pub ports_of_legs : config.port_max < 2 ^ 16 → AreLeased config leases → (leg : Leg O) → In leg signal.legs.items → (half : Half) → port_by half leg.lease.rtp_port ≡ half_port config leg.holder.pair half
  ports_of_legs most are leg i half =
      let pair : leg.lease.pair ≡ leg.holder.pair = (stands.fresh leg i).pair in
      half_case config leg.lease.rtp_port leg.holder.pair ((own leg i).port ∙ ap (pair_port config) pair)
      (pair_fits config leg.holder.pair most (subst (λ (p : ℕ). p < pair_count config) pair (pair_in config (pair_count config) leases leg.lease are.differ (lease_of leg i)))) half

  -- and its family
  pub families_of_legs : (leg : Leg O) → In leg signal.legs.items → leg.lease.family ≡ pair_family config leg.holder.pair
  families_of_legs leg i = (own leg i).family ∙ ap (pair_family config) (stands.fresh leg i).pair
