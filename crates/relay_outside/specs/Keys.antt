-- What a key source's list of draws says.
use Rattle.std.specs.Prelude.{Result, Ok, Err, ℕ, List}
use Rattle.relay_outside.specs.declared.answers.Failed.{Failed}
use Rattle.relay_outside.specs.declared.keys.KeyCall.{KeyCall}
use Rattle.relay_outside.specs.declared.keys.KeyCall.TheVariants as call

-- what the list says of a draw with this answer
abbrev pub drawn_as : Result (List ℕ) Failed → KeyCall
drawn_as (Ok key) = call.Drawn key
drawn_as (Err failed) = call.Failed
