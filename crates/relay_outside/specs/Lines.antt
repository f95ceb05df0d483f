-- What the lists of a line source and of a line sink say.
use Rattle.std.specs.Prelude.{ℕ, ◌≤◌, Result, Ok, Err, List, take}
use Rattle.relay_outside.specs.declared.answers.Failed.{Failed}
use Rattle.relay_outside.specs.declared.answers.LineRead.{LineRead}
use Rattle.relay_outside.specs.declared.answers.LineRead.TheVariants as read
use Rattle.relay_outside.specs.declared.lines.LineGiven.{LineGiven}
use Rattle.relay_outside.specs.declared.lines.LineGiven.TheVariants as given

-- a line fills no more than the room for it
abbrev pub FitsLine : Result LineRead Failed → ℕ → Type 0
FitsLine (Ok (read.Text len)) room = len ≤ room
FitsLine (Ok read.End) room = Unit {0}
FitsLine (Err failed) room = Unit {0}

-- what the list says of a read with this answer, after which the buffer holds these bytes
abbrev pub line_given : Result LineRead Failed → List ℕ → LineGiven
line_given (Ok (read.Text len)) buf = given.Text (take len buf)
line_given (Ok read.End) buf = given.End
line_given (Err failed) buf = given.Failed
