-- What a stream of bytes gives line by line, where its bytes are known.
use Rattle.std.specs.Prelude.{◌≡◌, ◌≢◌, ℕ, ◌≤◌, min, Bool, true, false, not, ◌==◌, Option, IfSome, Some, None, List, [], ◌∷◌, ◌++◌, All, length, take}
use Rattle.std.specs.List.{take_while}
use Rattle.std.specs.Option.{option_map}
use Rattle.std.specs.Io.KnownBytes.{Consumes, IsAtEnd}
use Rattle.std.specs.Io.BufRead.{drop_through}
use Rattle.relay_outside.specs.declared.answers.LineRead.{LineRead}
use Rattle.relay_outside.specs.declared.answers.LineRead.TheVariants as read
use Rattle.outside_real.specs.declared.lines.Stop.{Stop}
use Rattle.outside_real.specs.declared.lines.Stop.TheVariants as stop

-- a line source over a stream: the bytes from its next line on, where they are known, and its count of faults
pub record LinesLeft : Type 0 where
  pub bytes : Option (List ℕ)
  pub faults : ℕ

-- the bytes from the next line on, of a stream that has these bytes left and may stand within a line
abbrev pub from_next_line : Bool → Option (List ℕ) → Option (List ℕ)
from_next_line true left = option_map (drop_through 10) left
from_next_line false left = left

-- the bytes before the first line feed, or all where there is none
abbrev pub first_line : List ℕ → List ℕ
first_line bytes = take_while (λ byte. not (byte == 10)) bytes

-- where these bytes are left, a read gives their first line, cut at the room of the buffer, and leaves what stands
-- after its line feed; where no byte is left it gives the end
abbrev pub GivesFirstLine : List ℕ → Option (List ℕ) → LineRead → List ℕ → Type 0
GivesFirstLine bytes left read.End buf = (bytes ≡ []) × (left ≡ Some [])
GivesFirstLine bytes left (read.Text len) buf =
    (bytes ≢ [])
    × (len ≡ min (length (first_line bytes)) (length buf))
    × (take len buf ≡ take len (first_line bytes))
    × (left ≡ Some (drop_through 10 bytes))

-- the same, where it is known which bytes are left
abbrev pub ReadsLine : Option (List ℕ) → Option (List ℕ) → LineRead → List ℕ → Type 0
ReadsLine before after answer buf = IfSome before (λ bytes. GivesFirstLine bytes after answer buf)

-- a stream gives its next byte, and none where it has no byte left
abbrev pub GivesByte : Option (List ℕ) → Option (List ℕ) → Option ℕ → Type 0
GivesByte before after None = Consumes before after [] × IsAtEnd after
GivesByte before after (Some byte) = Consumes before after (byte ∷ [])

-- what a stream lost that gave these bytes of a line before the reading of it stopped
abbrev pub Lost : Option (List ℕ) → Option (List ℕ) → List ℕ → Stop → Type 0
Lost before after bytes stop.LineFeed = Consumes before after (bytes ++ 10 ∷ [])
Lost before after bytes stop.End = Consumes before after bytes × IsAtEnd after
Lost before after bytes stop.Full = Consumes before after bytes

-- how much of its room a buffer is filled where the reading of a line stopped: all of it where it stopped since there was no more room
abbrev pub IsFull : ℕ → ℕ → Stop → Type 0
IsFull len room stop.LineFeed = len ≤ room
IsFull len room stop.End = len ≤ room
IsFull len room stop.Full = len ≡ room

-- the front of a line that stands in a buffer, without a line feed
pub record Filled (before after : Option (List ℕ)) (len : ℕ) (stop : Stop) (buf : List ℕ) : Type 0 where
  pub room : IsFull len (length buf) stop
  pub within : All (λ byte. byte ≢ 10) (take len buf)
  pub lost : Lost before after (take len buf) stop
