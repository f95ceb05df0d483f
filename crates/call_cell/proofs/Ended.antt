-- All legs go from a cell.
use Rattle.std.proofs.Common.{◌≡◌, refl, ap, subst, sym, ◌∙◌, ℕ, zero, suc, ◌+◌, ◌<◌, ◌≤◌, Bool, true, false, cond, not, List, [], ◌∷◌, ◌++◌, filter, length, get_or, arith}
use Rattle.std.specs.List.{filter_map}
use Rattle.relay_outside.specs.declared.settings.Config.{Config}
use Rattle.histories.specs.Words.{In, here, there}
use Rattle.port_pool.specs.declared.pairs.Lease.{Lease}
use Rattle.call_cell.specs.declared.leg.Leg.{Leg}
use Rattle.call_cell.specs.Cells.{CellEntry}
use Rattle.call_cell.specs.LegHistories.{LegsStandFor}
use Rattle.call_cell.specs.CellEnds.{parts_of}
use Rattle.call_cell.specs.DroppedLegs.{goes, stays, Part}
use Rattle.call_cell.proofs.Few.{few, each_in}

all_case : {X : Type 0} (p : X → Bool) (x : X) (xs : List X) → p x ≡ true → filter p xs ≡ xs → filter p (x ∷ xs) ≡ x ∷ xs
all_case {X} p x xs q rest = ap (λ (b : Bool). cond b (x ∷ filter p xs) (filter p xs)) q ∙ ap (λ (l : List X). x ∷ l) rest

pub filter_whole : {X : Type 0} (p : X → Bool) (xs : List X) → ((x : X) → In x xs → p x ≡ true) → filter p xs ≡ xs
filter_whole p [] all = refl
filter_whole p (x ∷ xs) all = all_case p x xs (all x (here refl)) (filter_whole p xs (λ y i. all y (there i)))

none_case : {X : Type 0} (p : X → Bool) (x : X) (xs : List X) → p x ≡ false → filter p xs ≡ [] → filter p (x ∷ xs) ≡ []
none_case p x xs q rest = ap (λ (b : Bool). cond b (x ∷ filter p xs) (filter p xs)) q ∙ rest

pub filter_none : {X : Type 0} (p : X → Bool) (xs : List X) → ((x : X) → In x xs → p x ≡ false) → filter p xs ≡ []
filter_none p [] none = refl
filter_none p (x ∷ xs) none = none_case p x xs (none x (here refl)) (filter_none p xs (λ y i. none y (there i)))

pub all_go : {O : Type 0} (config : Config) (h : List CellEntry) (flags : List Bool) (old new : List (Leg O)) (before after : List (Lease × O × O))
    → LegsStandFor config h old → ((section : ℕ) → section < 8 → get_or flags section false ≡ true) → before ≡ [] → Part flags old new before after
    → (new ≡ []) × (after ≡ filter_map (λ (leg : Leg O). parts_of leg) old)
all_go {O} config h flags old new before after for flagged empty part =
    let room : length before + length old ≤ 16
    = subst (λ (l : List (Lease × O × O)). length l + length old ≤ 16) (sym empty) (omega (arith, few config h old for)) in
    let gone : (leg : Leg O) → In leg old → goes flags leg ≡ true = λ leg i. flagged leg.holder.section (each_in config h old leg for i).section in (
      (part room).0 ∙ filter_none (λ (leg : Leg O). stays flags leg) old (λ leg i. ap not (gone leg i)),
      (part room).1 ∙ ap (λ (l : List (Lease × O × O)). l ++ filter_map (λ (leg : Leg O). parts_of leg) (filter (λ (leg : Leg O). goes flags leg) old)) empty
          ∙ ap (λ (l : List (Leg O)). filter_map (λ (leg : Leg O). parts_of leg) l) (filter_whole (λ (leg : Leg O). goes flags leg) old gone),
    )

pub eight_true : (section : ℕ) → section < 8 → get_or (true ∷ true ∷ true ∷ true ∷ true ∷ true ∷ true ∷ true ∷ []) section false ≡ true
eight_true zero q = refl
eight_true (suc zero) q = refl
eight_true (suc (suc zero)) q = refl
eight_true (suc (suc (suc zero))) q = refl
eight_true (suc (suc (suc (suc zero)))) q = refl
eight_true (suc (suc (suc (suc (suc zero))))) q = refl
eight_true (suc (suc (suc (suc (suc (suc zero)))))) q = refl
eight_true (suc (suc (suc (suc (suc (suc (suc zero))))))) q = refl
eight_true (suc (suc (suc (suc (suc (suc (suc (suc n)))))))) q = absurd (omega (arith, q))
