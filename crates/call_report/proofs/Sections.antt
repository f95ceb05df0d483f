-- The legs of a side, by the sections that were looked at.
use Rattle.std.proofs.Common.{◌≡◌, ◌∙◌, ap, sym, ℕ, suc, ◌+◌, ◌-◌, ◌<◌, List, [], ◌∷◌, ◌++◌, map, filter_map, Option, Some, None, append_assoc, append-nil, arith}
use Rattle.std.specs.List.{cons_option}
use Rattle.histories.specs.Words.{numbers}
use Rattle.ng_bencode.specs.Tree.{Tree}
use Rattle.port_pool.specs.declared.holder.Side.{Side}
use Rattle.port_pool.specs.declared.reports.LegReport.{LegReport}
use Rattle.offer_answer.specs.Rounds.{Round}
use Rattle.call_board.specs.Reports.{leg_value, leg_report_at}

-- of all sections
abbrev pub side_legs : List Round → List LegReport → Side → List Tree
side_legs rounds legs side = map (leg_value rounds) (filter_map (leg_report_at legs side) (numbers 0 8))

-- of the sections from this one on
abbrev pub legs_left : List Round → List LegReport → Side → ℕ → List Tree
legs_left rounds legs side section = map (leg_value rounds) (filter_map (leg_report_at legs side) (numbers section (8 - section)))

next_number : (section : ℕ) → section < 8 → numbers section (8 - section) ≡ section ∷ numbers (section + 1) (8 - (section + 1))
next_number section below =
    let more : 8 - section ≡ suc (8 - (section + 1)) = omega (arith, below) in
    let next : suc section ≡ section + 1 = omega arith in
    ap (numbers section) more ∙ ap (λ (n : ℕ). section ∷ numbers n (8 - (section + 1))) next

legs_of_next : (rounds : List Round) (legs : List LegReport) (side : Side) (section : ℕ) → section < 8 → (found : Option LegReport) → leg_report_at legs side section ≡ found →
    legs_left rounds legs side section ≡ map (leg_value rounds) (cons_option found (filter_map (leg_report_at legs side) (numbers (section + 1) (8 - (section + 1)))))
legs_of_next rounds legs side section below found is =
    ap (λ (ns : List ℕ). map (leg_value rounds) (filter_map (leg_report_at legs side) ns)) (next_number section below)
    ∙ ap (λ (o : Option LegReport). map (leg_value rounds) (cons_option o (filter_map (leg_report_at legs side) (numbers (section + 1) (8 - (section + 1)))))) is

-- a section that has no leg
pub section_passed : (rounds : List Round) (legs : List LegReport) (side : Side) (section : ℕ) (trees : List Tree) → section < 8 → None ≡ leg_report_at legs side section →
    trees ++ legs_left rounds legs side section ≡ side_legs rounds legs side → trees ++ legs_left rounds legs side (section + 1) ≡ side_legs rounds legs side
section_passed rounds legs side section trees below none so_far =
    ap (λ (left : List Tree). trees ++ left) (sym (legs_of_next rounds legs side section below None (sym none))) ∙ so_far

-- a section that has one
pub section_told : (rounds : List Round) (legs : List LegReport) (side : Side) (section : ℕ) (trees more : List Tree) (report : LegReport) → section < 8 →
    Some report ≡ leg_report_at legs side section → more ≡ trees ++ leg_value rounds report ∷ [] →
    trees ++ legs_left rounds legs side section ≡ side_legs rounds legs side → more ++ legs_left rounds legs side (section + 1) ≡ side_legs rounds legs side
section_told rounds legs side section trees more report below found is so_far =
    ap (λ (front : List Tree). front ++ legs_left rounds legs side (section + 1)) is
    ∙ append_assoc trees (leg_value rounds report ∷ []) (legs_left rounds legs side (section + 1))
    ∙ ap (λ (left : List Tree). trees ++ left) (sym (legs_of_next rounds legs side section below (Some report) (sym found)))
    ∙ so_far

pub all_sections : (rounds : List Round) (legs : List LegReport) (side : Side) (section : ℕ) (trees : List Tree) → section ≡ 8 →
    trees ++ legs_left rounds legs side section ≡ side_legs rounds legs side → trees ≡ side_legs rounds legs side
all_sections rounds legs side section trees last so_far =
    sym (append-nil trees) ∙ ap (λ (n : ℕ). trees ++ legs_left rounds legs side n) (sym last) ∙ so_far
