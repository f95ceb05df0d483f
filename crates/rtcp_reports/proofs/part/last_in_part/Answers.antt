use Rattle.std.proofs.Common.{◌≡◌, ◌∙◌, sym, ap, suc, ◌-◌, ◌/◌, ◌%◌, min, length, get_or, Some, arith}
use Rattle.rtcp_reports.specs.declared.block.Block.{Block}
use Rattle.rtcp_reports.proofs.Places.{none_begins, none_fits, last_fits}
use Rattle.rtcp_reports.proofs.part.last_in_part.Goals as goal

pub returns-in_err-begin : goal.returns-in_err-begin
returns-in_err-begin c =
    c.from_residual.ensures ∙ none_begins c.args.part.now (sym c.blocks_begin.ensures ∙ c.in_err-begin.was)

pub returns-then-count-eq0 : goal.returns-then-count-eq0
returns-then-count-eq0 c =
    let none : min (get_or c.args.part.now 0 0 % 32) ((length c.args.part.now - c.in_ok-begin.begin) / 24) ≡ 0 = omega arith in
    none_fits c.args.part.now c.in_ok-begin.begin (sym c.blocks_begin.ensures ∙ c.in_ok-begin.was) none

pub returns : goal.returns
returns c =
    let some : min (get_or c.args.part.now 0 0 % 32) ((length c.args.part.now - c.in_ok-begin.begin) / 24) ≡ suc (c.min-count.result - 1) = omega arith in
    ap (λ (b : Block). Some b) c.read_block.ensures
    ∙ sym (last_fits c.args.part.now c.in_ok-begin.begin (c.min-count.result - 1)
    (sym c.blocks_begin.ensures ∙ c.in_ok-begin.was) some)
