use Rattle.std.proofs.Common.{rules, sym, subst, ◌≡◌, ◌∷◌, [], length, get_or-set_same, arith}
use Rattle.replay_window.specs.declared.window.Window.{Window}
use Rattle.replay_window.specs.Windows.{WindowStandsFor}
use Rattle.srtp_sources.proofs.Tabling.{fresh_first}
use Rattle.srtp_sources.proofs.sources.Sources.enter.Goals as goal

pub returns-clause-here : goal.returns-clause-here
returns-clause-here c other =
    let places : length c.args.self.now.windows ≡ 32 = search rules in
    let P : Window → Type 0 = λ w. WindowStandsFor w (c.args.index ∷ []) in
    subst P (sym (get_or-set_same c.args.self.now.windows c.args.self.now.count c.note.new.self other (omega arith)))
    (c.note.ensures [] c.new-window.ensures (fresh_first c.args.index))
