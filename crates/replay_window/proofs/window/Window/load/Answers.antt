use Rattle.std.proofs.Common.{refl, arith}
use Rattle.replay_window.proofs.SavedParts.{none_saved, some_saved, saves_parts, no_window}
use Rattle.replay_window.proofs.window.Window.load.Goals as goal
use Rattle.replay_window.proofs.window.Window.load.Goals.{else-flag-eq0-via-then-flag-eq0+then-index-eq0+else-bits-eq0, else-flag-eq0-via-then-flag-eq0+else-index-eq0, else-flag-eq0-via-else-flag-eq0, else-flag-eq1-via-then-flag-eq1+else-index, else-flag-eq1-via-else-flag-eq1}

pub returns-then-bits-eq0-clause-some : goal.returns-then-bits-eq0-clause-some
returns-then-bits-eq0-clause-some c =
    let r = c.read-flag.result in
    none_saved c.new.result c.args.bytes.now r.0 r.1 r.2 c.read-flag.ensures.parts c.if-flag-eq0.true c.if-index-eq0.true c.if-bits-eq0.true c.new.ensures.top

pub returns-then-index-clause-some : goal.returns-then-index-clause-some
returns-then-index-clause-some c =
    let r = c.read-flag.result in
    some_saved _ c.args.bytes.now r.0 r.1 r.2 c.read-flag.ensures.parts c.if-flag-eq1.true c.read-flag.ensures.bits refl refl

pub returns-clause-none : goal.returns-clause-none
returns-clause-none c window fits same =
    let r = c.read-flag.result in
    no_window window.greatest window.bits r.0 r.1 r.2 fits.in_range fits.unused
    (saves_parts window c.args.bytes.now r.0 r.1 r.2 c.read-flag.ensures.parts c.read-flag.ensures.index c.read-flag.ensures.bits fits same)
    (λ flag index bits. elim c.else-flag-eq0.branch [
      | else-flag-eq0-via-then-flag-eq0+then-index-eq0+else-bits-eq0 w ↦ w.if-bits-eq0.false bits
      | else-flag-eq0-via-then-flag-eq0+else-index-eq0 w ↦ w.if-index-eq0.false index
      | else-flag-eq0-via-else-flag-eq0 w ↦ w.if-flag-eq0.false flag
    ])
    (λ flag index. elim c.else-flag-eq1.branch [
      | else-flag-eq1-via-then-flag-eq1+else-index w ↦ omega (arith, w.if-index.false)
      | else-flag-eq1-via-else-flag-eq1 w ↦ w.if-flag-eq1.false flag
    ])
