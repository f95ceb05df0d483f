-- A run whose words are refused, or aren't read since memory ran out.
use Rattle.std.proofs.Common.{◌≡◌, ◌∙◌, inr, ap, refl, ℕ, List, [], ◌∷◌, ◌++◌, Option, Some, None, Bool, true, false}
use Rattle.relay_outside.specs.declared.lines.WriteCall.{WriteCall}
use Rattle.relay_outside.specs.declared.lines.WriteCall.TheVariants as put
use Rattle.relay_outside.specs.DeviceLogs.{Gains, Gained}
use Rattle.relay_outside.proofs.Telling.{gained_one, gained_both, gained_less}
use Rattle.command_line.specs.Refusals.{begins_usage}
use Rattle.command_line.specs.declared.settings.Settings.{Settings}
use Rattle.relay_runs.specs.declared.status.Status.TheVariants as status
use Rattle.relay_runs.specs.ServeRuns.{Outside}
use Rattle.relay_runs.specs.Run.{Serves}
use Rattle.relay_app.specs.Run.{PrintsUsage, PrintsLine}
use Rattle.relay_runs.proofs.Runs.{not_begun}

pub serves_nothing : (settings : Option Settings) (range : Option (ℕ × ℕ)) (gate : ℕ → Type 0) (outside : Outside) (wrote : Option (List WriteCall)) → outside.link ≡ outside.link_now
    → outside.timer ≡ outside.timer_now → outside.opened ≡ outside.opened_now → outside.drew ≡ outside.drew_now
    → Serves settings range gate outside wrote wrote status.OutOfMemory
serves_nothing None range gate outside wrote link timer opened drew = tt
serves_nothing (Some settings) range gate outside wrote link timer opened drew = not_begun settings range gate outside wrote link timer opened drew

-- a line, and then a text
tells_text : (before between after : Option (List WriteCall)) (line text : List ℕ) (done : Bool) → Gains before between (put.Write line true)
    → Gains between after (put.Write text done) → Gained before after (PrintsLine line done)
tells_text before between after line text done first second =
    gained_both before between after
    (λ writes. writes ≡ put.Write line true ∷ [])
    (λ writes. writes ≡ put.Write text done ∷ [])
    (PrintsLine line done)
    (λ xs ys left right. inr (text, ap (λ (writes : List WriteCall). writes ++ ys) left ∙ ap (λ (writes : List WriteCall). put.Write line true ∷ writes) right))
    (gained_one before between (put.Write line true) (λ writes. writes ≡ put.Write line true ∷ []) first refl)
    (gained_one between after (put.Write text done) (λ writes. writes ≡ put.Write text done ∷ []) second refl)

-- both were written
pub tells_usage : (before between after : Option (List WriteCall)) (line text bytes : List ℕ) → line ≡ bytes → begins_usage bytes ≡ true
    → Gains before between (put.Write line true) → Gains between after (put.Write text true) → Gained before after (PrintsUsage status.Usage)
tells_usage before between after line text bytes same begins first second =
    gained_less before after (PrintsLine line true) (PrintsUsage status.Usage)
    (λ writes tells. (line, tells, ap begins_usage same ∙ begins))
    (tells_text before between after line text true first second)

-- the text was not taken
pub tells_line : (before between after : Option (List WriteCall)) (line text bytes : List ℕ) → line ≡ bytes → begins_usage bytes ≡ true
    → Gains before between (put.Write line true) → Gains between after (put.Write text false) → Gained before after (PrintsUsage status.PrintFault)
tells_line before between after line text bytes same begins first second =
    gained_less before after (PrintsLine line false) (PrintsUsage status.PrintFault)
    (λ writes tells. (line, tells, ap begins_usage same ∙ begins))
    (tells_text before between after line text false first second)
