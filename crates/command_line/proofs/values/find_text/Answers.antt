use Rattle.std.proofs.Common.{◌≡◌, ◌∙◌, sym, ℕ, List, Option, Some, None}
use Rattle.std.specs.Prelude.{MatchOption, option_map}
use Rattle.std.specs.Borrow.{Bor}
use Rattle.clap.specs.Words.{found_of}
use Rattle.clap.proofs.WalkLemmas.{first_value-rows}
use Rattle.command_line.proofs.values.find_text.Goals as goal

as_text : (r : Option (Bor (List ℕ))) (said : Option (List ℕ)) → option_map (λ s. s.now) r ≡ said → MatchOption r (said ≡ None) (λ text. said ≡ Some text.now)
as_text None said is = sym is
as_text (Some text) said is = sym is

pub returns : goal.returns
returns c = as_text c.get_str.result _ (c.get_str.ensures ∙ first_value-rows (found_of c.args.matches.now) c.args.name.now)
