use Rattle.std.proofs.Common.{rules, arith}
use Rattle.relay_script.proofs.Digits.{same_number}
use Rattle.relay_script.proofs.fields.read_count.Goals as goal
use Rattle.relay_script.proofs.fields.read_count.Goals.{then-count-eq0-via-then-count-eq0, then-count-eq0-via-else-count-eq0+then-count-gt4294967295}

pub returns-then-count-eq0 : goal.returns-then-count-eq0
returns-then-count-eq0 c n is =
    let same = same_number 4294967296 (omega arith) c.args.text.now c.in_ok-count.count n (search rules) c.in_ok-count.ensures is.number in
    elim c.then-count-eq0.branch [
      | then-count-eq0-via-then-count-eq0 w ↦ omega (arith, is.some, is.number.small, same)
      | then-count-eq0-via-else-count-eq0+then-count-gt4294967295 w ↦ omega (arith, is.some, is.number.small, same)
    ]
