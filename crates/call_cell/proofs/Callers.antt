-- What a cell's caller knows of its legs by the history.
use Rattle.std.proofs.Common.{◌≡◌, refl, ap, sym, ◌∙◌, ℕ, Bool, List, [], ◌∷◌, ◌++◌, Option, map, filter, length, arith}
use Rattle.std.specs.List.{count_by, filter_map}
use Rattle.std.proofs.lemmas.List.{length-append, length-map}
use Rattle.std.proofs.lemmas.List.Sums.{length-filter, count_by-le-length}
use Rattle.relay_outside.specs.declared.settings.Config.{Config}
use Rattle.histories.specs.Words.{In}
use Rattle.port_pool.specs.declared.pairs.Lease.{Lease}
use Rattle.port_pool.specs.declared.holder.Holder.{Holder}
use Rattle.port_pool.specs.declared.signal.LegSignal.{LegSignal}
use Rattle.port_pool.specs.declared.signal.SectionSignal.{SectionSignal}
use Rattle.port_pool.specs.Signals.{NewKey}
use Rattle.call_cell.specs.declared.leg.Leg.{Leg}
use Rattle.call_cell.specs.declared.prepare.Prepare as prepared
use Rattle.call_cell.specs.declared.cell.Cell.{Cell}
use Rattle.call_cell.specs.Cells.{CellEntry, in_force, since_end}
use Rattle.call_cell.specs.CellHistories.{CellFor}
use Rattle.call_cell.specs.CellEnds.{parts_of}
use Rattle.call_cell.specs.DroppedLegs.{goes, stays, Part}
use Rattle.call_cell.specs.Commits.{contexts_due, contexts_due_after, needs_contexts, needs_inbound, said_of}
use Rattle.call_cell.specs.Preparations.{PrepareFor, CanCome, FitsPlaces, added, with_keys}
use Rattle.call_cell.proofs.Few.{few, each_in}
use Rattle.call_cell.proofs.Offered.{offered, filter_by}
use Rattle.call_cell.proofs.Answered.{map_filter}

pub places_fit : {O : Type 0} (config : Config) (cell : Cell O) (h : List CellEntry) (signal : prepared.Prepare O) (call : ℕ) (keys : List NewKey) (dropped : List ℕ)
    → CellFor config cell h → PrepareFor signal keys dropped → CanCome config (since_end h) signal call keys dropped → FitsPlaces cell signal
places_fit {O} config cell h signal call keys dropped for prep can =
    let old = cell.legs.items in
    let p : Leg O → Bool = λ (leg : Leg O). stays signal.dropped leg in
    let kept = filter p old in
    let f : Leg O → Leg O = λ (leg : Leg O). with_keys signal.keys.items leg in
    let after : List (Lease × O × O) = filter_map (λ (leg : Leg O). parts_of leg) (filter (λ (leg : Leg O). goes signal.dropped leg) old) in
    let part : Part signal.dropped old kept [] after = λ room. (refl, refl) in
    let o = offered config 0 call signal keys dropped (since_end h) old kept (kept ++ signal.legs.items) (map f (kept ++ signal.legs.items)) [] after
    for.legs_for for.unnoted prep can refl part refl (λ apart. refl) in
    let many = few config _ (map f (kept ++ signal.legs.items)) o.legs_for in
    record {
      before = omega (arith, few config (since_end h) old for.legs_for, cell.legs.ok.0);
      after = omega (arith, many, length-map (kept ++ signal.legs.items) f, length-append kept signal.legs.items, length-filter p old, signal.legs.ok.0);
    }

count_same : {X Y : Type 0} (p : X → Bool) (q : Y → Bool) (f : X → Y) (xs : List X) → ((x : X) → In x xs → p x ≡ q (f x)) → count_by p xs ≡ count_by q (map f xs)
count_same {X} {Y} p q f xs same =
    sym (length-filter p xs)
    ∙ ap (λ (l : List X). length l) (filter_by (λ (x : X). q (f x)) p xs same)
    ∙ sym (length-map (filter (λ (x : X). q (f x)) xs) f)
    ∙ ap (λ (l : List Y). length l) (map_filter f q xs)
    ∙ length-filter q (map f xs)

pub due_is : {O : Type 0} (config : Config) (cell : Cell O) (h : List CellEntry) (signal : List SectionSignal) → CellFor config cell h
    → contexts_due signal cell.legs.items ≡ contexts_due_after (since_end h) signal
due_is {O} config cell h signal for =
    let s = since_end h in
    let q : Holder → Bool = λ (leg : Holder). needs_inbound (in_force s leg) (said_of signal leg) in
    count_same (λ (leg : Leg O). needs_contexts signal leg) q (λ (leg : Leg O). leg.holder) cell.legs.items
    (λ leg i. ap (λ (x : Option LegSignal). needs_inbound x (said_of signal leg.holder)) (each_in config s cell.legs.items leg for.legs_for i).signal)
    ∙ ap (λ (l : List Holder). count_by q l) for.legs_for.holders

pub empty_fits : {O : Type 0} (config : Config) (cell : Cell O) (signal : prepared.Prepare O) (before : List Holder) (leg : Holder) → CellFor config cell []
    → before ≡ [] → added signal ≡ before ++ leg ∷ [] → FitsPlaces cell signal
empty_fits {O} config cell signal before leg for none one =
    let f : Leg O → Holder = λ (x : Leg O). x.holder in
    let no_leg : length cell.legs.items ≡ 0 = sym (length-map cell.legs.items f) ∙ ap (λ (l : List Holder). length l) for.legs_for.holders in
    let one_leg : length signal.legs.items ≡ 1
    = sym (length-map signal.legs.items f) ∙ ap (λ (l : List Holder). length l) (one ∙ ap (λ (l : List Holder). l ++ leg ∷ []) none) in
    record {
      before = omega (arith, no_leg, cell.legs.ok.0);
      after = omega (arith, no_leg, one_leg, signal.legs.ok.0, count_by-le-length (λ (x : Leg O). stays signal.dropped x) cell.legs.items);
    }
