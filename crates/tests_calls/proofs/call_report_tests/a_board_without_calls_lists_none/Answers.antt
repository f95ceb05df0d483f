use Rattle.std.proofs.Common.{◌≤◌, sym, subst}
use Rattle.ng_bencode.specs.Tree.{Tree, depth}
use Rattle.call_report.proofs.Shallow.{listing_shallow}
use Rattle.tests_calls.proofs.call_report_tests.a_board_without_calls_lists_none.Goals as goal

pub encode-requires : goal.encode-requires
encode-requires g c =
    subst (λ (tree : Tree). depth tree ≤ 16) (sym (c.in-Ok-list.ensures _ _ c.in-Ok.ensures.stands)) (listing_shallow _)
