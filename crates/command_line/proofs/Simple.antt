-- The commands are ones of which `clap` tells all.
use Rattle.std.proofs.Common.{◌≡◌, ◌∙◌, ap, true, refl}
use Rattle.clap.specs.Words.{App, is_simple_and_free}
use Rattle.command_line.specs.Commands.{serve_app, replay_app, load_app}

serve_literal : is_simple_and_free serve_app ≡ true
unfolding serve_app
serve_literal = refl

replay_literal : is_simple_and_free replay_app ≡ true
unfolding replay_app
replay_literal = refl

load_literal : is_simple_and_free load_app ≡ true
unfolding load_app
load_literal = refl

pub serve_simple : (app : App) → app ≡ serve_app → is_simple_and_free app ≡ true
serve_simple app is = ap is_simple_and_free is ∙ serve_literal

pub replay_simple : (app : App) → app ≡ replay_app → is_simple_and_free app ≡ true
replay_simple app is = ap is_simple_and_free is ∙ replay_literal

pub load_simple : (app : App) → app ≡ load_app → is_simple_and_free app ≡ true
load_simple app is = ap is_simple_and_free is ∙ load_literal
