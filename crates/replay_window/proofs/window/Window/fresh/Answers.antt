use Rattle.std.proofs.Common.{◌≡◌, ap, sym, ◌∙◌, arith, unwrap_or}
use Rattle.replay_window.specs.Indices.{greatest_index}
use Rattle.replay_window.proofs.Noting.{fresh_first, fresh_above}
use Rattle.replay_window.proofs.window.Window.fresh.Goals as goal

pub returns-in_default : goal.returns-in_default
returns-in_default c = λ noted stands. fresh_first noted c.args.index (sym stands.top ∙ c.in_default.is)

pub returns-then-greatest-index : goal.returns-then-greatest-index
returns-then-greatest-index c = λ noted stands.
    let top : unwrap_or (greatest_index noted) 0 ≡ c.in-Some.greatest = ap (λ o. unwrap_or o 0) (sym stands.top ∙ c.in-Some.is) in
    fresh_above noted c.args.index (omega arith)
