use Rattle.std.proofs.Common.{◌≡◌, drop}
use Rattle.call_board.specs.Reports.{stands_before}
use Rattle.call_report.proofs.tag_order.stands_before.Given as goal

-- no byte so far differs
abbrev pub invariant-bytes : goal.invariant-bytes
invariant-bytes l = stands_before l.a l.b ≡ stands_before (drop l.i l.a) (drop l.i l.b)
