use Rattle.std.proofs.Common.{◌≡◌, ℕ, ◌++◌, ◌∷◌, Option, Some, None, sym, ap, ◌∙◌, arith}
use Rattle.std.specs.Int.{w64, w128, to_be_bytes}
use Rattle.replay_window.specs.declared.window.Window.{Window}
use Rattle.replay_window.specs.SavedWindows.{saved_window}
use Rattle.replay_window.proofs.SavedParts.{flag_of, index_of, by_parts}
use Rattle.replay_window.proofs.window.Window.save.Goals as goal

saves : (window : Window) (top : Option ℕ) → window.greatest ≡ top
    → flag_of top ∷ (to_be_bytes w64 (index_of top) ++ to_be_bytes w128 window.bits) ≡ saved_window window
saves window top is =
    ap (λ (t : Option ℕ). flag_of t ∷ (to_be_bytes w64 (index_of t) ++ to_be_bytes w128 window.bits)) (sym is) ∙ sym (by_parts window)

pub returns-in-None : goal.returns-in-None
returns-in-None c =
    let window = c.args.self.now in
    (record { in_range = window.in_range; unused = window.unused; width = omega arith }, c.written.ensures ∙ saves window None c.in-None.is)

pub returns-in-Some : goal.returns-in-Some
returns-in-Some c =
    let window = c.args.self.now in (
      record { in_range = window.in_range; unused = window.unused; width = omega arith },
      c.written-in-Some.ensures ∙ saves window (Some c.in-Some.index) c.in-Some.is,
    )
