-- The first element that passes a test, by a search from the front.
use Rattle.std.proofs.Common.{◌≡◌, ◌∙◌, ap, sym, ℕ, zero, suc, ◌+◌, List, [], ◌∷◌, Bool, true, false, cond, ◌&&◌, ◌==◌, Some, filter, drop, slice_get, add-one}
use Rattle.std.proofs.lemmas.Option.{same_Some}
use Rattle.histories.specs.Words.{In, first}
use Rattle.histories.proofs.Lists.{filtered, first_is_in}
use Rattle.port_pool.specs.declared.holder.Side.{Side}
use Rattle.port_pool.specs.declared.reports.LegReport.{LegReport}
use Rattle.port_pool.specs.Reports.{CountsFit}
use Rattle.port_pool.specs.Signals.{side_eq}
use Rattle.call_board.specs.Reports.{leg_report_at}

-- what doesn't pass is passed over
first_after : {A : Type 0} (p : A → Bool) (xs : List A) (i : ℕ) (x : A) → slice_get xs i ≡ Some x → p x ≡ false →
    first (filter p (drop i xs)) ≡ first (filter p (drop (suc i) xs))
first_after p [] i x at fails = absurd (let e = at in cc)
first_after p (y ∷ xs) zero x at fails = ap (λ (b : Bool). first (cond b (y ∷ filter p xs) (filter p xs))) (ap p (same_Some y x at) ∙ fails)
first_after p (y ∷ xs) (suc i) x at fails = first_after p xs i x at fails

first_here : {A : Type 0} (p : A → Bool) (xs : List A) (i : ℕ) (x : A) → slice_get xs i ≡ Some x → p x ≡ true → first (filter p (drop i xs)) ≡ Some x
first_here p [] i x at passes = absurd (let e = at in cc)
first_here p (y ∷ xs) zero x at passes = ap (λ (b : Bool). first (cond b (y ∷ filter p xs) (filter p xs))) (ap p (same_Some y x at) ∙ passes) ∙ at
first_here p (y ∷ xs) (suc i) x at passes = first_here p xs i x at passes

pub leg_passed : (legs : List LegReport) (side : Side) (section i : ℕ) (report : LegReport) → slice_get legs i ≡ Some report →
    ((report.section == section) && side_eq report.side side) ≡ false → leg_report_at (drop i legs) side section ≡ leg_report_at (drop (i + 1) legs) side section
leg_passed legs side section i report at other =
    rw add-one (first_after (λ (it : LegReport). (it.section == section) && side_eq it.side side) legs i report at other)

pub leg_found : (legs : List LegReport) (side : Side) (section i : ℕ) (report : LegReport) → slice_get legs i ≡ Some report →
    ((report.section == section) && side_eq report.side side) ≡ true → leg_report_at (drop i legs) side section ≡ Some report
leg_found legs side section i report at is = first_here (λ (it : LegReport). (it.section == section) && side_eq it.side side) legs i report at is

-- what is found is one of the list
pub found_fits : (legs : List LegReport) (side : Side) (section : ℕ) (report : LegReport) → Some report ≡ leg_report_at legs side section →
    ((report : LegReport) → In report legs → CountsFit report) → CountsFit report
found_fits legs side section report found fit =
    let test : LegReport → Bool = λ it. (it.section == section) && side_eq it.side side in
    fit report (filtered test legs (first_is_in (filter test legs) (sym found))).0
