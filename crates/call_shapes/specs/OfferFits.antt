-- Which offers keep a call and its cell agreeing.
use Rattle.std.specs.Prelude.{◌≡◌, ◌<◌, ◌≤◌, ◌==◌, ◌&&◌, ◌++◌, not, ℕ, Bool, true, false, List, map, filter, length, slice_index_or}
use Rattle.relay_outside.specs.declared.settings.Config.{Config}
use Rattle.histories.specs.Words.{In, has}
use Rattle.port_pool.specs.declared.pairs.Lease.{Lease}
use Rattle.port_pool.specs.declared.holder.Holder.{Holder}
use Rattle.port_pool.specs.declared.holder.Side.{Side}
use Rattle.port_pool.specs.Ports.{pair_count, pair_port}
use Rattle.port_pool.specs.Signals.{NewKey, side_eq}
use Rattle.offer_answer.specs.Rounds.{NewLeg}
use Rattle.offer_answer.specs.Shapes.{DialogShape, bare_shape, is_demanded, shape_left, shape_with_new}
use Rattle.call_cell.specs.Cells.{CellEvent, Prepare}
use Rattle.call_cell.specs.Shapes.{CellLegShape, CellShape, ended_shape}
use Rattle.call_board.specs.Acts.{Call}
use Rattle.call_board.specs.Whole.{holders_of_new_legs}
use Rattle.call_board.specs.Returns.{leg_lease}
use Rattle.call_shapes.specs.Events.{section_flags}
use Rattle.call_shapes.specs.Agreement.{CallAgrees, section_kept}

-- What an offer brings to a call and takes from it: the legs that it demands pairs for, the lease of each, the keys that were drawn, and
-- the sections whose legs it drops.
pub record Offering : Type 0 where
  pub legs : List NewLeg
  pub leases : List Lease
  pub keys : List NewKey
  pub dropped : List ℕ

-- the leg is for this side of the section
abbrev pub is_new_on : ℕ → Side → NewLeg → Bool
is_new_on section side leg = (leg.section == section) && side_eq leg.side side

-- the ports of the new legs, in the order of leases
abbrev pub ports_leased : Config → List Lease → List ℕ
ports_leased config leases = map (λ (lease : Lease). pair_port config lease.pair) leases

-- The new legs: a lease of a pair of the range for each, and where there are some for a section just one for each side.
pub record LegsFit (config : Config) (legs : List NewLeg) (leases : List Lease) : Type 0 where
  pub as_many : length leases ≡ length legs
  pub pairs : (lease : Lease) → In lease leases → lease.pair < pair_count config
  pub sections : (leg : NewLeg) → In leg legs → leg.section < 8
  pub both_sides : (section : ℕ) (side : Side) → is_demanded legs section ≡ true → length (filter (is_new_on section side) legs) ≡ 1

-- A section that legs are demanded for has no pairs, isn't committed and isn't dropped.
pub record IsFree (dialog : DialogShape) (dropped : List ℕ) (section : ℕ) : Type 0 where
  pub no_pairs : (section_kept dialog section).has_pairs ≡ false
  pub not_committed : (section_kept dialog section).is_committed ≡ false
  pub not_dropped : has dropped section ≡ false

-- How many sections the last offer and the last committed one have: what was committed stays so, and the new offer has each section with
-- pairs, be they new or kept.
pub record CountsOfOffer (legs : List NewLeg) (dropped : List ℕ) (old new : DialogShape) : Type 0 where
  pub committed_is : new.committed_count ≡ old.committed_count
  pub no_more : new.committed_count ≤ new.offered_count
  pub most : new.offered_count ≤ 8
  pub demanded : (section : ℕ) → section < 8 → is_demanded legs section ≡ true → section < new.offered_count
  pub kept : (section : ℕ) → section < 8 → (section_kept old section).has_pairs ≡ true → (section_kept old section).is_committed ≡ false
      → has dropped section ≡ false → section < new.offered_count

-- The offer goes with the dialog's old shape and makes it the new one: sections that are dropped lose all, the demanded ones get pairs, and
-- the legs the new ports and keys. Each key is for a leg that then has a pair.
pub record OfferFits (config : Config) (offer : Offering) (old new : DialogShape) : Type 0 where
  pub legs : LegsFit config offer.legs offer.leases
  pub free : (section : ℕ) → section < 8 → is_demanded offer.legs section ≡ true → IsFree old offer.dropped section
  pub sections_are : (section : ℕ) → section < 8 → section_kept new section
      ≡ shape_with_new offer.legs (ports_leased config offer.leases) offer.keys section
      (shape_left offer.legs (has offer.dropped section) section (section_kept old section))
  pub keys : (key : NewKey) → In key offer.keys → key.section < 8 → (section_kept new key.section).has_pairs ≡ true
  pub counts : CountsOfOffer offer.legs offer.dropped old new

-- The call is a new one: its cell is empty, and its dialog bare.
pub record IsNewCall (config : Config) (dialog : DialogShape) (shape : CellShape) : Type 0 where
  pub empty : shape ≡ ended_shape config
  pub sections : (section : ℕ) → section < 8 → section_kept dialog section ≡ bare_shape

-- the legs that the offer leases pairs for
abbrev pub new_holders : Call → Offering → List Holder
new_holders of offer = holders_of_new_legs of offer.leases offer.legs

-- what the cell is told of it
abbrev pub offer_event : Call → Offering → CellEvent
offer_event of offer = Prepare of.number (new_holders of offer) offer.keys offer.dropped

-- the legs of a cell, in lease order, of these those of some sections, and the others
abbrev pub cell_holders : CellShape → List Holder
cell_holders shape = map (λ (leg : CellLegShape). leg.holder) shape.legs

abbrev pub dropped_holders : List ℕ → List Holder → List Holder
dropped_holders dropped legs = filter (λ (leg : Holder). has dropped leg.section) legs

abbrev pub kept_holders : List ℕ → List Holder → List Holder
kept_holders dropped legs = filter (λ (leg : Holder). not (has dropped leg.section)) legs

-- the legs of a cell whose sections have a flag as dropped ones
abbrev pub flagged_legs : Offering → CellShape → List CellLegShape
flagged_legs offer shape = filter (λ (leg : CellLegShape). slice_index_or (section_flags offer.dropped) leg.holder.section false) shape.legs

-- After the offer the call and its cell agree again. Of the cell's legs those of dropped sections went, in lease order, by the leases of
-- their pairs; then it has those that stayed and behind them the new ones.
pub record OfferAgrees (config : Config) (of : Call) (offer : Offering) (new : DialogShape) (before after : CellShape) : Type 0 where
  pub agrees : CallAgrees config of.cell of.number new after
  pub legs_are : cell_holders after ≡ kept_holders offer.dropped (cell_holders before) ++ new_holders of offer
  pub gone_are : map (λ (leg : CellLegShape). leg.holder) (flagged_legs offer before) ≡ dropped_holders offer.dropped (cell_holders before)
  pub given_back : map (λ (leg : CellLegShape). leg.lease) (flagged_legs offer before) ≡ map (leg_lease config) (dropped_holders offer.dropped (cell_holders before))
