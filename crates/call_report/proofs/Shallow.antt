-- A report is no deeper than a spelling may be.
use Rattle.std.proofs.Common.{ℕ, ◌≤◌, List, [], ◌∷◌, Bool, true, false, cond, Option, Some, None, map, filter_map, arith}
use Rattle.relay_outside.specs.declared.settings.Config.{Config}
use Rattle.histories.specs.Words.{numbers}
use Rattle.ng_bencode.specs.Tree.{Tree, Bytes, no_entries, entry, depth, items_of, items_depth, entries_depth}
use Rattle.port_pool.specs.declared.holder.Side.{Side}
use Rattle.port_pool.specs.declared.holder.Side.TheVariants.{A, B}
use Rattle.rtcp_reports.specs.declared.block.Block.{Block}
use Rattle.port_pool.specs.declared.reports.LegReport.{LegReport}
use Rattle.offer_answer.specs.Rounds.{Round}
use Rattle.offer_answer.specs.Plan as plan
use Rattle.call_board.specs.Reports.{Report, report_entry, leg_value, leg_report_at, side_value, stands_before, tags_by, report_tree, listing_tree}

block_shallow : (block : Option Block) → entries_depth (report_entry block) ≤ 1
block_shallow None = omega arith
block_shallow (Some block) = omega arith

legs_shallow : (rounds : List Round) (legs : List LegReport) → items_depth (items_of (map (leg_value rounds) legs)) ≤ 2
legs_shallow rounds [] = omega arith
legs_shallow rounds (report ∷ legs) =
    let rest = legs_shallow rounds legs in let block = block_shallow report.report in omega (arith, rest, block)

side_shallow : (report : Report) (side : Side) → depth (side_value report side) ≤ 4
side_shallow report side = let legs = legs_shallow report.rounds (filter_map (leg_report_at report.legs side) (numbers 0 8)) in omega (arith, legs)

pair_shallow : (a b : List ℕ) (of_a of_b : Tree) (t : Bool) → depth of_a ≤ 4 → depth of_b ≤ 4 →
    entries_depth (cond t (entry a of_a (entry b of_b no_entries)) (entry b of_b (entry a of_a no_entries))) ≤ 4
pair_shallow a b of_a of_b true low_a low_b = omega (arith, low_a, low_b)
pair_shallow a b of_a of_b false low_a low_b = omega (arith, low_a, low_b)

tags_shallow : (a b : Option (List ℕ)) (of_a of_b : Tree) → depth of_a ≤ 4 → depth of_b ≤ 4 → entries_depth (tags_by a of_a b of_b) ≤ 4
tags_shallow None None of_a of_b low_a low_b = omega arith
tags_shallow None (Some b) of_a of_b low_a low_b = omega (arith, low_b)
tags_shallow (Some a) None of_a of_b low_a low_b = omega (arith, low_a)
tags_shallow (Some a) (Some b) of_a of_b low_a low_b = pair_shallow a b of_a of_b (stands_before a b) low_a low_b

pub report_shallow : (config : Config) (report : Report) → depth (report_tree config report) ≤ 16
unfolding report_tree
report_shallow config report =
    let tags = tags_shallow (plan.tag report.rounds A) (plan.tag report.rounds B) (side_value report A) (side_value report B) (side_shallow report A) (side_shallow report B) in
    omega (arith, tags)

ids_shallow : (ids : List (List ℕ)) → items_depth (items_of (map Bytes ids)) ≤ 0
ids_shallow [] = omega arith
ids_shallow (id ∷ ids) = let rest = ids_shallow ids in omega (arith, rest)

pub listing_shallow : (ids : List (List ℕ)) → depth (listing_tree ids) ≤ 16
unfolding listing_tree
listing_shallow ids = let ids_low = ids_shallow ids in omega (arith, ids_low)
