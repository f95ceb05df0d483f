use Rattle.std.proofs.Common.{arith, ◌≡◌, ◌<◌, ◌-◌, ◌^◌, ◌∙◌}
use Rattle.outside_real.proofs.KeyStreams.{fill_keeps, gives_key, moves_on, told_more}
use Rattle.outside_real.proofs.keys.ChaChaKeysKeySource.draw.Goals as goal

pub invariant_of-self : goal.invariant_of-self
invariant_of-self c =
    let kept = fill_keeps _ _ _ c.fill_bytes_via_u32.ensures in
    let zeroth : c.self.inside.generator.stream ≡ 0 = c.self.invariant.0 in (
      kept.1 ∙ zeroth,
      λ few.
          let low : c.self.inside.drawn < 2 ^ 64 - 1 = omega arith in
          let at = c.self.invariant.1 low in
          let on = moves_on _ _ _ c.self.inside.drawn zeroth at (omega arith) c.fill_bytes_via_u32.ensures in
          omega arith,
    )

pub returns-clause-key : goal.returns-clause-key
returns-clause-key c = rw (← c.self.view_is) (λ few.
    gives_key _ _ _ c.self.inside.drawn c.self.invariant.0 (c.self.invariant.1 few) (omega arith) c.fill_bytes_via_u32.ensures)

pub returns-clause-counted : goal.returns-clause-counted
returns-clause-counted c =
    let kept = fill_keeps _ _ _ c.fill_bytes_via_u32.ensures in
    rw (← c.self.view_is) (λ i. record { seed_words = kept.0 i; drawn = c.saturating_add-self-inside.ensures i })

pub returns-clause-log : goal.returns-clause-log
returns-clause-log c =
    let kept = fill_keeps _ _ _ c.fill_bytes_via_u32.ensures in
    let key = λ (few : c.self.inside.drawn < 2 ^ 64 - 1). gives_key _ _ _ c.self.inside.drawn c.self.invariant.0 (c.self.invariant.1 few) (omega arith) c.fill_bytes_via_u32.ensures in
    rw (← c.self.view_is, kept.0) (told_more c.self.inside.generator.key c.self.inside.drawn c.saturating_add-self-inside.result c.fill_bytes_via_u32.new.dst c.saturating_add-self-inside.ensures key)
