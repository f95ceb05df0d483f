-- The shape of a cell, and what each call makes of it, whatever the cell's history: its configuration, the call, whether an answer
-- committed it, and of each leg, in lease order, its holder, its lease, whether it has its out ends, whether an answer committed it,
-- and the numbers of its keys. Besides, whatever the history, what each call does to the legs' out ends and to what they count.
use Rattle.std.specs.Prelude.{◌≡◌, ◌<◌, ◌≤◌, ℕ, ◌&&◌, ◌||◌, ◌==◌, not, Bool, true, false, List, [], ◌∷◌, ◌++◌, map, filter, filter_map, length, Option, Some, None, is_some, slice_index_or, if◌then◌else◌}
use Rattle.std.specs.List.{AllZip}
use Rattle.relay_outside.specs.declared.settings.Config.{Config}
use Rattle.relay_outside.specs.declared.ports.OutCall.{OutCall}
use Rattle.relay_outside.specs.DeviceLogs.{EndLog}
use Rattle.sdes_lines.specs.declared.crypto_line.Suite.{Suite}
use Rattle.sdes_lines.specs.declared.crypto_line.Suite.TheVariants.{Tag80, Tag32}
use Rattle.histories.specs.Words.{In, or_else}
use Rattle.port_pool.specs.declared.pairs.Lease.{Lease}
use Rattle.port_pool.specs.declared.holder.Holder.{Holder}
use Rattle.port_pool.specs.declared.holder.Side.{Side}
use Rattle.port_pool.specs.declared.signal.SectionSignal.{SectionSignal}
use Rattle.port_pool.specs.Signals.{NewKey, side_eq, is_rejected}
use Rattle.call_cell.specs.declared.counts.Counts.{Counts}
use Rattle.call_cell.specs.declared.leg.Leg.{Leg}
use Rattle.call_cell.specs.declared.cell.Cell.{Cell}
use Rattle.call_cell.specs.declared.prepare.PreparedKey.{PreparedKey}
use Rattle.call_cell.specs.Counts.{RoseByOne}
use Rattle.call_cell.specs.Parts.{contexts_of, key_number_in}
use Rattle.call_cell.specs.CellEnds.{parts_of}
use Rattle.call_cell.specs.Commits.{said_of}

pub record CellLegShape : Type 0 where
  pub holder : Holder
  pub lease : Lease
  pub has_ends : Bool
  pub is_committed : Bool
  pub tag80 : Option ℕ
  pub tag32 : Option ℕ

abbrev pub cell_leg_shape : {O : Type 0} → Leg O → CellLegShape
cell_leg_shape leg = record {
  holder = leg.holder;
  lease = leg.lease;
  has_ends = is_some leg.sending.ends;
  is_committed = is_some leg.signal;
  tag80 = key_number_in (contexts_of Tag80 leg.sending);
  tag32 = key_number_in (contexts_of Tag32 leg.sending);
}

abbrev pub cell_leg_shapes : {O : Type 0} → List (Leg O) → List CellLegShape
cell_leg_shapes {O} those = map (λ (leg : Leg O). cell_leg_shape leg) those

pub record CellShape : Type 0 where
  pub config : Config
  pub call : Option ℕ
  pub is_committed : Bool
  pub legs : List CellLegShape

abbrev pub cell_shape : {O : Type 0} → Cell O → CellShape
cell_shape cell = record { config = cell.config; call = cell.call; is_committed = cell.is_committed; legs = cell_leg_shapes cell.legs.items }

-- Counts.

-- what a leg counts
abbrev pub counts_of : {O : Type 0} → Leg O → Counts
counts_of leg = leg.counts

abbrev pub counts_of_legs : {O : Type 0} → List (Leg O) → List Counts
counts_of_legs {O} those = map (λ (leg : Leg O). counts_of leg) those

-- no count of a leg rose by more than one, in the legs' order
abbrev pub CountsRoseByOne : {O : Type 0} → List (Leg O) → List (Leg O) → Type 0
CountsRoseByOne {O} old new = AllZip (λ (a b : Leg O). RoseByOne (counts_of a) (counts_of b)) old new

-- A packet.

-- the out ends are of the same ports; where there were none there are none
abbrev pub SamePorts : {O : Type 0} → (O → EndLog OutCall) → Option (O × O) → Option (O × O) → Type 0
SamePorts log None None = Unit {0}
SamePorts log (Some old) (Some new) = ((log new.0).at ≡ (log old.0).at) × ((log new.1).at ≡ (log old.1).at)
SamePorts log _ _ = ⊥

-- the leg in this lease of its pair, with out ends of the same ports
pub record KeepsPort {O : Type 0} (log : O → EndLog OutCall) (old new : Leg O) : Type 0 where
  pub holder : new.holder ≡ old.holder
  pub lease : new.lease ≡ old.lease
  pub ends : SamePorts log old.sending.ends new.sending.ends

-- the same of each leg, in their order
abbrev pub KeepsPorts : {O : Type 0} → (O → EndLog OutCall) → List (Leg O) → List (Leg O) → Type 0
KeepsPorts {O} log old new = AllZip (λ (a b : Leg O). KeepsPort log a b) old new

-- An offer.

-- the leg has the key of this number for a suite
abbrev pub with_key_number : Suite → Option ℕ → CellLegShape → CellLegShape
with_key_number Tag80 number leg = record leg { tag80 = number }
with_key_number Tag32 number leg = record leg { tag32 = number }

-- the first leg on a side of a section has it
abbrev pub key_number_at : (section : ℕ) → Side → Suite → Option ℕ → List CellLegShape → List CellLegShape
key_number_at section side suite number [] = []
key_number_at section side suite number (leg ∷ legs) =
    if (section == leg.holder.section) && side_eq side leg.holder.side then with_key_number suite number leg ∷ legs
    else leg ∷ key_number_at section side suite number legs

-- the legs have the keys that are for them; of two for one suite, the former
abbrev pub with_key_numbers : List NewKey → List CellLegShape → List CellLegShape
with_key_numbers [] legs = legs
with_key_numbers (key ∷ keys) legs = key_number_at key.section key.side key.suite (Some key.number) (with_key_numbers keys legs)

-- the same of keys as they are prepared
abbrev pub with_prepared : List PreparedKey → List CellLegShape → List CellLegShape
with_prepared [] legs = legs
with_prepared (key ∷ keys) legs = key_number_at key.section key.side key.suite (key_number_in key.contexts.value) (with_prepared keys legs)

-- the cell holds the call, if it held none; the legs of the sections with a flag went, the new ones came, and the keys came to them
abbrev pub offered_shape : List Bool → List CellLegShape → List NewKey → (call : ℕ) → CellShape → CellShape
offered_shape flags new keys call shape = record {
  config = shape.config;
  call = or_else shape.call (Some call);
  is_committed = shape.is_committed;
  legs = with_key_numbers keys (filter (λ leg. not (slice_index_or flags leg.holder.section false)) shape.legs ++ new);
}

-- An answer.

abbrev pub answered_leg : List SectionSignal → CellLegShape → CellLegShape
answered_leg signal leg = record leg { is_committed = is_some (said_of signal leg.holder) || leg.is_committed }

-- the legs of rejected sections went, and those of which it says something are committed
abbrev pub answered_shape : List SectionSignal → CellShape → CellShape
answered_shape signal shape = record {
  config = shape.config;
  call = shape.call;
  is_committed = true;
  legs = map (answered_leg signal) (filter (λ leg. not (is_rejected signal leg.holder.section)) shape.legs);
}

-- An end.

-- a cell that holds no call
abbrev pub ended_shape : Config → CellShape
ended_shape config = record { config = config; call = None; is_committed = false; legs = [] }

-- Legs that go.

-- a call has at most 16 legs, and no section from 8 on
pub record IsSmall (legs : List CellLegShape) : Type 0 where
  pub few : length legs ≤ 16
  pub sections : (leg : CellLegShape) → In leg legs → leg.holder.section < 8

abbrev pub ends_of_legs : {O : Type 0} → List (Leg O) → List (Option (O × O))
ends_of_legs {O} those = map (λ (leg : Leg O). leg.sending.ends) those

-- of the old legs those that pass went with their leases and ends, in lease order, and the others have the ends that they had, and
-- count what they counted; the new ones came after them with theirs
pub record LegsGo {O : Type 0} (goes : Holder → Bool) (came old new : List (Leg O)) (gone : List (Lease × O × O)) : Type 0 where
  pub went : gone ≡ filter_map (λ (leg : Leg O). parts_of leg) (filter (λ (leg : Leg O). goes leg.holder) old)
  pub ends : ends_of_legs new ≡ ends_of_legs (filter (λ (leg : Leg O). not (goes leg.holder)) old) ++ ends_of_legs came
  pub counts : counts_of_legs new ≡ counts_of_legs (filter (λ (leg : Leg O). not (goes leg.holder)) old) ++ counts_of_legs came

-- Legs that stay and legs that go are whole, whatever the cell holds.

-- for whom a leg is, in which lease of its pair, and with which out ends
pub record LegForm (O : Type 0) : Type 0 where
  pub holder : Holder
  pub lease : Lease
  pub ends : Option (O × O)

abbrev pub leg_form : {O : Type 0} → Leg O → LegForm O
leg_form leg = record { holder = leg.holder; lease = leg.lease; ends = leg.sending.ends }

abbrev pub leg_forms : {O : Type 0} → List (Leg O) → List (LegForm O)
leg_forms {O} those = map (λ (leg : Leg O). leg_form leg) those

-- each leg that is there then has the holder, the lease and the out ends of an old one or of one that came, and each that went left with
-- the lease and the out ends of an old one
pub record FormsStay {O : Type 0} (came old new : List (Leg O)) (gone : List (Lease × O × O)) : Type 0 where
  pub new_are : (leg : Leg O) → In leg new → In (leg_form leg) (leg_forms old ++ leg_forms came)
  pub gone_are : (parts : Lease × O × O) → In parts gone → In (Some parts) (map (λ (leg : Leg O). parts_of leg) old)
