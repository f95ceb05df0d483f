use Rattle.std.proofs.Common.{◌≡◌, ◌-◌, ap, sym, ◌∙◌, arith, unwrap_or, Some}
use Rattle.replay_window.specs.Indices.{greatest_index}
use Rattle.replay_window.proofs.Noting.{tell_first, tell_above, tell_below, fresh_near}
use Rattle.replay_window.proofs.window.Window.note.Goals as goal

pub returns-in-None : goal.returns-in-None
returns-in-None c = λ noted stands new.
    let none = sym stands.top ∙ c.in-None.is in
    let top : unwrap_or (greatest_index noted) 0 ≡ 0 = ap (λ o. unwrap_or o 0) none in
    record { top = ap Some (omega arith); recent = tell_first noted c.args.index none }

pub returns-then-greatest-index : goal.returns-then-greatest-index
returns-then-greatest-index c = λ noted stands new.
    let top : unwrap_or (greatest_index noted) 0 ≡ c.in-Some.greatest = ap (λ o. unwrap_or o 0) (sym stands.top ∙ c.in-Some.is) in
    record {
      top = ap Some (omega arith);
      recent =
          tell_above noted c.args.index (c.args.index - c.in-Some.greatest) c.args.self.now.bits c.shifted.result (omega arith) (omega arith) stands.recent c.shifted.ensures.low
          c.shifted.ensures.high;
    }

pub returns-else-greatest-index : goal.returns-else-greatest-index
returns-else-greatest-index c = λ noted stands new.
    let top : unwrap_or (greatest_index noted) 0 ≡ c.in-Some.greatest = ap (λ o. unwrap_or o 0) (sym stands.top ∙ c.in-Some.is) in
    let near = fresh_near noted c.args.index new in
    record {
      top = c.in-Some.is ∙ ap Some (omega arith);
      recent =
          tell_below noted c.args.index (c.in-Some.greatest - c.args.index) c.args.self.now.bits c.marked-self.result (omega arith) stands.recent (c.marked-self.ensures.set (omega arith))
          c.marked-self.ensures.others;
    }
