use Rattle.std.proofs.Common.{◌≡◌, ℕ, ◌∙◌, false, arith, get_or, set, below_more}
use Rattle.std.proofs.lemmas.List.{length-set}
use Rattle.port_pool.specs.Signals.{is_rejected}
use Rattle.call_cell.proofs.Turning.{at_set, off_set}
use Rattle.call_cell.proofs.signals.rejected.Goals as goal

pub loop-section-preserved : goal.loop-section-preserved
loop-section-preserved c =
    let i = c.loop-section.section in
    let flags = c.loop-section.flags in
    let v = c.is_rejected.result in (
      length-set flags i v ∙ c.loop-section.invariant.0,
      below_more (λ (k : ℕ). get_or (set flags i v) k false ≡ is_rejected c.args.signal.now k) i
          (λ k h. off_set flags i k v false (omega (arith, h)) ∙ c.loop-section.invariant.1 k h)
          (at_set flags i v false (omega (arith, c.loop-section.invariant.0, c.loop-section-test.true)) ∙ c.is_rejected.ensures),
    )
