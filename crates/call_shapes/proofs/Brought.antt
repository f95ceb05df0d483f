-- What an offer brings to a cell, by what was prepared and by the event.
use Rattle.std.proofs.Common.{◌≡◌, refl, sym, ◌∙◌, ap, ℕ, Bool, true, false, List, [], ◌∷◌, Option, filter, map}
use Rattle.std.specs.Prelude.{not, is_some, slice_index_or, ◌++◌}
use Rattle.std.specs.List.{filter_map}
use Rattle.relay_outside.specs.declared.settings.Config.{Config}
use Rattle.sdes_lines.specs.declared.crypto_line.Suite.TheVariants.{Tag80, Tag32}
use Rattle.histories.specs.Words.{In, here, there, has}
use Rattle.port_pool.specs.declared.pairs.Lease.{Lease}
use Rattle.port_pool.specs.declared.holder.Holder.{Holder}
use Rattle.port_pool.specs.Ports.{pair_port, pair_family}
use Rattle.port_pool.specs.Signals.{NewKey}
use Rattle.call_cell.specs.declared.leg.Leg.{Leg}
use Rattle.call_cell.specs.declared.prepare.Prepare as prepared
use Rattle.call_cell.specs.declared.cell.Cell.{Cell}
use Rattle.call_cell.specs.Cells as event
use Rattle.call_cell.specs.CellEnds.{parts_of}
use Rattle.call_cell.specs.Parts.{key_number_in}
use Rattle.call_cell.specs.Preparations.{IsFreshLeg, PrepareFor, added}
use Rattle.call_cell.specs.Shapes.{CellLegShape, LegsGo, ends_of_legs, counts_of_legs, cell_leg_shape, cell_leg_shapes, cell_shape, offered_shape, with_key_numbers, IsSmall}
use Rattle.call_cell.proofs.Shaped.{small_in}
use Rattle.call_board.specs.Returns.{leg_lease}
use Rattle.call_board.proofs.Sieves.{filter_alike}
use Rattle.call_shapes.proofs.Sieves.{flag_is}
use Rattle.call_shapes.specs.Events.{brought_shape, section_flags, shape_after_event}

-- A new leg.

lease_is : (lease : Lease) (config : Config) (leg : Holder) → lease.pair ≡ leg.pair → lease.family ≡ pair_family config leg.pair
    → lease.rtp_port ≡ pair_port config leg.pair → lease.generation ≡ leg.generation → lease ≡ leg_lease config leg
lease_is lease config leg pair family port generation =
    ap (λ (n : ℕ). record { pair = n; family = lease.family; rtp_port = lease.rtp_port; generation = lease.generation }) pair
    ∙ ap (λ (f : _). record { pair = leg.pair; family = f; rtp_port = lease.rtp_port; generation = lease.generation }) family
    ∙ ap (λ (n : ℕ). record { pair = leg.pair; family = pair_family config leg.pair; rtp_port = n; generation = lease.generation }) port
    ∙ ap (λ (n : ℕ). record { pair = leg.pair; family = pair_family config leg.pair; rtp_port = pair_port config leg.pair; generation = n }) generation

leg_brought : {O : Type 0} (config : Config) (leg : Leg O) → IsFreshLeg leg → leg.lease.family ≡ pair_family config leg.holder.pair
    → leg.lease.rtp_port ≡ pair_port config leg.holder.pair → cell_leg_shape leg ≡ brought_shape config leg.holder
leg_brought config leg fresh family port =
    let lease = lease_is leg.lease config leg.holder fresh.pair family port fresh.generation in
    let ends : is_some leg.sending.ends ≡ true = fresh.ends in
    let signal = ap is_some fresh.signal in
    let long = ap key_number_in (fresh.keyless Tag80) in
    let short = ap key_number_in (fresh.keyless Tag32) in
    ap (λ (l : Lease). record (cell_leg_shape leg) { lease = l }) lease
    ∙ ap (λ (b : Bool). record (cell_leg_shape leg) { lease = leg_lease config leg.holder; has_ends = b }) ends
    ∙ ap (λ (b : Bool). record (brought_shape config leg.holder) { is_committed = b; tag80 = (cell_leg_shape leg).tag80; tag32 = (cell_leg_shape leg).tag32 }) signal
    ∙ ap (λ (n : Option ℕ). record (brought_shape config leg.holder) { tag80 = n; tag32 = (cell_leg_shape leg).tag32 }) long
    ∙ ap (λ (n : Option ℕ). record (brought_shape config leg.holder) { tag32 = n }) short

module _ {O : Type 0} (config : Config) where
  -- the lease of each leg is the one that follows from its pair
  abbrev pub AreLeasedSo : List (Leg O) → Type 0
  AreLeasedSo those = (leg : Leg O) → In leg those → (leg.lease.family ≡ pair_family config leg.holder.pair) × (leg.lease.rtp_port ≡ pair_port config leg.holder.pair)

  pub legs_brought : (those : List (Leg O)) → ((leg : Leg O) → In leg those → IsFreshLeg leg) → AreLeasedSo those
      → cell_leg_shapes those ≡ map (brought_shape config) (map (λ (leg : Leg O). leg.holder) those)
  legs_brought [] fresh leased = refl
  legs_brought (leg ∷ those) fresh leased =
      let one = leg_brought config leg (fresh leg (here refl)) (leased leg (here refl)).0 (leased leg (here refl)).1 in
      ap (λ (s : CellLegShape). s ∷ cell_leg_shapes those) one
      ∙ ap (λ (rest : List CellLegShape). brought_shape config leg.holder ∷ rest)
      (legs_brought those (λ x i. fresh x (there i)) (λ x i. leased x (there i)))

-- The whole offer.

-- what the cell makes of what was prepared is what its event makes of its shape
pub offer_is_event : {O : Type 0} (old : Cell O) (signal : prepared.Prepare O) (call : ℕ) (keys : List NewKey) (dropped : List ℕ) → PrepareFor signal keys dropped
    → AreLeasedSo old.config signal.legs.items → IsSmall (cell_leg_shapes old.legs.items)
    → offered_shape signal.dropped (cell_leg_shapes signal.legs.items) keys call (cell_shape old)
    ≡ shape_after_event (event.Prepare call (added signal) keys dropped) (cell_shape old)
offer_is_event old signal call keys dropped for leased small =
    let news = legs_brought old.config signal.legs.items for.fresh leased in
    let stay = filter_alike (λ (leg : CellLegShape). not (slice_index_or signal.dropped leg.holder.section false))
    (λ (leg : CellLegShape). not (slice_index_or (section_flags dropped) leg.holder.section false)) (cell_leg_shapes old.legs.items)
    (λ leg i. ap not (for.drops leg.holder.section (small.sections leg i) ∙ sym (flag_is dropped leg.holder.section (small.sections leg i)))) in
    ap (λ (those : List CellLegShape). record (cell_shape old) { call = (offered_shape signal.dropped those keys call (cell_shape old)).call; legs = with_key_numbers keys (filter (λ (leg : CellLegShape). not (slice_index_or signal.dropped leg.holder.section false)) (cell_leg_shapes old.legs.items) ++ those) }) news
    ∙ ap (λ (kept : List CellLegShape). record (cell_shape old) { call = (offered_shape signal.dropped [] keys call (cell_shape old)).call; legs = with_key_numbers keys (kept ++ map (brought_shape old.config) (added signal)) }) stay

-- the legs that go by the flags of what was prepared are those of the dropped sections
pub flagged_go : {O : Type 0} (signal : prepared.Prepare O) (keys : List NewKey) (dropped : List ℕ) (old new : List (Leg O)) (gone : List (Lease × O × O))
    → PrepareFor signal keys dropped → IsSmall (cell_leg_shapes old)
    → LegsGo (λ leg. slice_index_or signal.dropped leg.section false) signal.legs.items old new gone
    → LegsGo (λ leg. has dropped leg.section) signal.legs.items old new gone
flagged_go {O} signal keys dropped old new gone for small go =
    let flagged : Leg O → Bool = λ (leg : Leg O). slice_index_or signal.dropped leg.holder.section false in
    let named : Leg O → Bool = λ (leg : Leg O). has dropped leg.holder.section in
    let agree : (leg : Leg O) → In leg old → flagged leg ≡ named leg = λ leg i. for.drops leg.holder.section (small_in old small leg i) in
    let away = filter_alike flagged named old agree in
    let stay = filter_alike (λ (leg : Leg O). not (flagged leg)) (λ (leg : Leg O). not (named leg)) old (λ leg i. ap not (agree leg i)) in
    record {
      went = go.went ∙ ap (λ (l : List (Leg O)). filter_map (λ (leg : Leg O). parts_of leg) l) away;
      ends = go.ends ∙ ap (λ (l : List (Leg O)). ends_of_legs l ++ ends_of_legs signal.legs.items) stay;
      counts = go.counts ∙ ap (λ (l : List (Leg O)). counts_of_legs l ++ counts_of_legs signal.legs.items) stay;
    }
