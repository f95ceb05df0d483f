-- Cells that are written alike have the same counts and generations.
use Rattle.std.proofs.Common.{◌≡◌, zero, suc, arith, List, [], ◌∷◌, All, map, refl, sym, subst}
use Rattle.std.proofs.lemmas.List.Elements.{All-head, All-tail, All-nil}
use Rattle.ng_bencode.specs.Tree.{Tree}
use Rattle.port_pool.specs.SavedLeases.{saved_lease}
use Rattle.port_pool.specs.declared.pairs.Lease.{Lease}
use Rattle.port_pool.specs.SavedLeases.{FitsLease}
use Rattle.port_pool.proofs.SavedLeaseParts.{same_lease}
use Rattle.call_cell.specs.declared.saved.LegSaved.{LegSaved}
use Rattle.call_cell.specs.declared.saved.CellSaved.{CellSaved}
use Rattle.call_cell.specs.declared.counts.Counts.{Counts}
use Rattle.port_pool.specs.declared.holder.Holder.{Holder}
use Rattle.state_values.specs.Numbers.{list_tree}
use Rattle.state_values.specs.CellLegTrees.{lease_tree}
use Rattle.state_values.specs.CellTrees.{cell_leg_tree, cell_tree, FitsLegSaved, FitsCellSaved}
use Rattle.state_values.proofs.KeyedTrees.{same_entries, same_value, same_rest}
use Rattle.state_values.proofs.ListTrees.{same_list}
use Rattle.state_values.proofs.SignalLaws.{same_bytes, same_holder}
use Rattle.state_values.proofs.CellLegLaws.{same_counts}
use Rattle.state_reads.specs.Bounds.{IsCountBelow, PacketCounts, LegCounts, LegRanges, CellCounts}

leases_same : (a b : Lease) → FitsLease a → FitsLease b → lease_tree a ≡ lease_tree b → a ≡ b
unfolding lease_tree
leases_same a b fits_a fits_b same = same_lease a b fits_a fits_b (same_bytes (saved_lease a) (saved_lease b) same)

-- one leg
leg_tells : (a b : LegSaved) → LegRanges a → FitsLegSaved b → cell_leg_tree a ≡ cell_leg_tree b → LegCounts b → LegCounts a
unfolding cell_leg_tree
leg_tells a b ranges fits same counts =
    let first = same_entries same in
    let second = same_rest first in
    let third = same_rest second in
    let fourth = same_rest third in
    let packets = same_counts a.counts b.counts ranges.packets fits.counts (same_value first) in
    let holder = same_holder a.holder b.holder ranges.holder fits.holder (same_value second) in
    let lease = leases_same a.lease b.lease ranges.lease fits.lease (same_value fourth) in
    record {
      packets = subst (λ (it : Counts). PacketCounts it) (sym packets) counts.packets;
      holder = subst (λ (it : Holder). IsCountBelow it.generation) (sym holder) counts.holder;
      lease = subst (λ (it : Lease). IsCountBelow it.generation) (sym lease) counts.lease;
    }

cons_all : {A : Type 0} (P : A → Type 0) (x : A) (xs : List A) → P x → All P xs → All P (x ∷ xs)
cons_all P x xs one all zero d low = one
cons_all P x xs one all (suc k) d low = all k d (omega arith)

-- all legs
legs_tell : (a b : List LegSaved) → All LegRanges a → All FitsLegSaved b → map cell_leg_tree a ≡ map cell_leg_tree b → All LegCounts b → All LegCounts a
legs_tell [] b ranges fits e counts = All-nil LegCounts
legs_tell (x ∷ a) [] ranges fits e counts = let f : ◌≡◌ {A = List Tree} (cell_leg_tree x ∷ map cell_leg_tree a) [] = e in absurd (cc)
legs_tell (x ∷ a) (y ∷ b) ranges fits e counts =
    let f : ◌≡◌ {A = List Tree} (cell_leg_tree x ∷ map cell_leg_tree a) (cell_leg_tree y ∷ map cell_leg_tree b) = e in
    let one : cell_leg_tree x ≡ cell_leg_tree y = cc in
    let others : map cell_leg_tree a ≡ map cell_leg_tree b = cc in
    cons_all LegCounts x a
    (leg_tells x y (All-head LegRanges x a ranges) (All-head FitsLegSaved y b fits) one (All-head LegCounts y b counts))
    (legs_tell a b (All-tail LegRanges x a ranges) (All-tail FitsLegSaved y b fits) others (All-tail LegCounts y b counts))

pub cell_tells : (a b : CellSaved) → All LegRanges a.legs.items → FitsCellSaved b → cell_tree a ≡ cell_tree b → CellCounts b → CellCounts a
unfolding cell_tree
cell_tells a b ranges fits same counts =
    let first = same_entries same in
    let second = same_rest first in
    let third = same_rest second in
    let fourth = same_rest third in
    let fifth = same_rest fourth in
    let sixth = same_rest fifth in
    let legs = same_value sixth in
    legs_tell a.legs.items b.legs.items ranges fits.legs
    (same_list cell_leg_tree (list_tree cell_leg_tree a.legs.items) (map cell_leg_tree a.legs.items) b.legs.items refl legs) counts
