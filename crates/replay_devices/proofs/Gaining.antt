-- The reads of a script, as one more is made.
use Rattle.std.proofs.Common.{◌≡◌, ◌∙◌, ap, sym, subst, refl, ℕ, ◌≤◌, List, [], ◌∷◌, ◌++◌, Option, Result, length, map, Ok, Err, inl, arith}
use Rattle.std.specs.Prelude.{IfOk}
use Rattle.std.proofs.lemmas.List.{map-append, length-map}
use Rattle.relay_outside.specs.declared.answers.OutOfMemory.{OutOfMemory}
use Rattle.relay_outside.specs.declared.lines.LineCall.{LineCall}
use Rattle.relay_outside.specs.declared.lines.LineCall.TheVariants as call
use Rattle.relay_outside.specs.declared.lines.LineGiven.TheVariants as given
use Rattle.relay_outside.specs.DeviceLogs.{Gains, Gained}
use Rattle.relay_outside.proofs.Telling.{gained_none, gained_one, gained_both}
use Rattle.relay_script.specs.declared.step.Step as coded
use Rattle.relay_script.specs.Steps.{Step, step_meaning}
use Rattle.replay_devices.specs.declared.script_reader.Found.{Found}
use Rattle.replay_devices.specs.declared.script_reader.Found.TheVariants as found
use Rattle.replay_devices.specs.declared.script.Ending.{Ending}
use Rattle.replay_devices.specs.LineReads.{IsFoundOrShort, Finds, IsFoundBy, OneRead}
use Rattle.replay_devices.specs.Scripts.{read, ReadsStep, ReadsSteps, ReadsEnding, ReadsScript, ReadsFront}

reads_more : (steps : List Step) (calls : List LineCall) (step : Step) (made : LineCall) → ReadsSteps steps calls → ReadsStep step made
    → ReadsSteps (steps ++ step ∷ []) (calls ++ made ∷ [])
reads_more [] [] step made those this = (this, tt)
reads_more [] (x ∷ calls) step made those this = absurd those
reads_more (s ∷ steps) [] step made those this = absurd those
reads_more (s ∷ steps) (x ∷ calls) step made those this = (those.0, reads_more steps calls step made those.1 this)

module _ (old mid new : Option (List LineCall)) where
  one_more : (made : LineCall) (P R : List LineCall → Type 0) → ((xs : List LineCall) → P xs → R (xs ++ made ∷ [])) → Gained old mid P → Gains mid new made → Gained old new R
  one_more made P R step before gains =
      gained_both old mid new P (λ calls. calls ≡ made ∷ []) R
      (λ xs ys x y. subst (λ (more : List LineCall). R (xs ++ more)) (sym y) (step xs x))
      before (gained_one mid new made (λ calls. calls ≡ made ∷ []) gains refl)

  -- one more step
  pub step_read : (steps more : List coded.Step) (step : coded.Step) → more ≡ steps ++ step ∷ [] → Gained old mid (ReadsSteps (map step_meaning steps))
      → OneRead mid new (IsFoundBy (found.Step step)) → Gained old new (ReadsSteps (map step_meaning more))
  step_read steps more step is before one =
      subst (λ (all : List Step). Gained old new (ReadsSteps all)) (sym (ap (map step_meaning) is ∙ map-append step_meaning steps (step ∷ [])))
      (one_more one.made (ReadsSteps (map step_meaning steps)) (ReadsSteps (map step_meaning steps ++ step_meaning step ∷ []))
      (λ xs x. reads_more (map step_meaning steps) xs (step_meaning step) one.made x one.holds) before one.gains)

  -- the last read
  pub ending_read : (steps : List coded.Step) (ending : Ending) → length steps ≤ 50000 → Gained old mid (ReadsSteps (map step_meaning steps))
      → OneRead mid new (ReadsEnding (length steps) ending) → Gained old new (ReadsScript (map step_meaning steps) ending)
  ending_read steps ending most before one =
      let same : length (map step_meaning steps) ≡ length steps = length-map steps step_meaning in
      one_more one.made (ReadsSteps (map step_meaning steps)) (ReadsScript (map step_meaning steps) ending)
      (λ xs x. record {
        before = xs;
        last = one.made;
        calls_are = refl;
        each = x;
        most = omega (arith, same);
        ends = subst (λ (n : ℕ). ReadsEnding n ending one.made) (sym same) one.holds;
      })
      before one.gains

  -- the same, of an ending that was found before a script's last line
  pub ending_found : (steps : List coded.Step) (ending : Ending) → length steps ≤ 50000 → Gained old mid (ReadsSteps (map step_meaning steps))
      → OneRead mid new (IsFoundBy (found.Ending ending)) → Gained old new (ReadsScript (map step_meaning steps) ending)
  ending_found steps ending most before one =
      ending_read steps ending most before (record { made = one.made; gains = one.gains; holds = one.holds (length steps) })

  -- a line for whose step there was no memory
  pub line_read : (steps : List coded.Step) → length steps ≤ 50000 → Gained old mid (ReadsSteps (map step_meaning steps))
      → OneRead mid new (λ made. (line : List ℕ) × (made ≡ read (given.Text line))) → Gained old new ReadsFront
  line_read steps most before one =
      let same : length (map step_meaning steps) ≡ length steps = length-map steps step_meaning in
      one_more one.made (ReadsSteps (map step_meaning steps)) ReadsFront
      (λ xs x. record {
        steps = map step_meaning steps;
        before = xs;
        more = one.made ∷ [];
        calls_are = refl;
        each = x;
        most = omega (arith, same);
        line = one.holds;
      })
      before one.gains

  pub step_lost : (steps : List coded.Step) (step : coded.Step) → length steps ≤ 50000 → Gained old mid (ReadsSteps (map step_meaning steps))
      → OneRead mid new (IsFoundBy (found.Step step)) → Gained old new ReadsFront
  step_lost steps step most before one =
      line_read steps most before (record { made = one.made; gains = one.gains; holds = (one.holds.line, one.holds.read_is) })

-- a line
pub text_read : (old new : Option (List LineCall)) (room : ℕ) (line : List ℕ) (answer : Result Found OutOfMemory) → room ≡ 40001 → Gains old new (call.Line room (given.Text line))
    → IfOk answer (Finds line) → OneRead old new (IsFoundOrShort answer)
text_read old new room line (Ok (found.Step step)) full gains finds = record {
  made = call.Line room (given.Text line);
  gains = gains;
  holds = record { line = line; read_is = ap (λ (n : ℕ). call.Line n (given.Text line)) full; spells = finds };
}
text_read old new room line (Ok (found.Ending last)) full gains finds = record {
  made = call.Line room (given.Text line);
  gains = gains;
  holds = λ count.
      subst (λ (e : Ending). ReadsEnding count e (call.Line room (given.Text line))) (sym finds.0)
      (record { line = line; read_is = ap (λ (n : ℕ). call.Line n (given.Text line)) full; refused = inl finds.1 });
}
text_read old new room line (Err fault) full gains finds = record {
  made = call.Line room (given.Text line);
  gains = gains;
  holds = (line, ap (λ (n : ℕ). call.Line n (given.Text line)) full);
}

-- nothing is read yet
pub none_read : (log : Option (List LineCall)) → Gained log log (ReadsSteps [])
none_read log = gained_none log (ReadsSteps []) tt

pub no_line_read : (log : Option (List LineCall)) → Gained log log ReadsFront
no_line_read log = gained_none log ReadsFront (record { steps = []; before = []; more = []; calls_are = refl; each = tt; most = omega arith; line = tt })
