-- What the reader of one line tells, of which a line of some kind is wanted.
use Rattle.std.specs.Prelude.{◌≡◌, ◌<◌, ◌^◌, ℕ, List, [], ◌∷◌, length, take, Result, Ok, Err}
use Rattle.hex.specs.Hex.{encode_lower, IsBytes}
use Rattle.relay_outside.specs.declared.lines.LineCall.{LineCall}
use Rattle.relay_outside.specs.declared.lines.LineGiven.{LineGiven}
use Rattle.relay_outside.specs.declared.lines.LineGiven.TheVariants as given
use Rattle.state_lines.specs.declared.faults.LineFault.{LineFault}
use Rattle.state_lines.specs.declared.faults.LineFault.TheVariants as fault
use Rattle.state_lines.specs.declared.faults.Unread.{Unread}
use Rattle.state_lines.specs.declared.faults.Unread.TheVariants as unread
use Rattle.state_lines.specs.LineReads.{read_of, text_read, AreOneLineAtMost}
use Rattle.state_lines.specs.StateLines.{length_line}

-- the line above some value
pub record IsLengthLine (line : List ℕ) : Type 0 where
  pub bytes : ℕ
  pub counted : bytes < 10 ^ 64
  pub line_is : line ≡ length_line bytes

-- a line of digits of so many bytes
pub record IsDigitLine (count : ℕ) (line : List ℕ) : Type 0 where
  pub text : List ℕ
  pub bytes : IsBytes text
  pub length_is : length text ≡ count
  pub line_is : line ≡ encode_lower text

-- a refusal says this, unless memory was wanting
abbrev pub TellsOf : Unread → Type 0 → Type 0
TellsOf unread.NotOfForm fact = fact
TellsOf unread.OutOfMemory fact = Unit {0}

-- the fault of the line of this number, where it was refused so
abbrev pub fault_at : Unread → ℕ → LineFault
fault_at unread.NotOfForm number = fault.NotState number
fault_at unread.OutOfMemory number = fault.OutOfMemory

-- one read: it gave the line at the front of the room, no line, or it failed; or none was made
abbrev pub ReadsNext : Result ℕ LineFault → (room : List ℕ) → List LineCall → Type 0
ReadsNext (Ok len) room calls = calls ≡ text_read (take len room) ∷ []
ReadsNext (Err (fault.NotState n)) room calls = calls ≡ read_of given.End ∷ []
ReadsNext (Err fault.Source) room calls = calls ≡ read_of given.Failed ∷ []
ReadsNext (Err fault.OutOfMemory) room calls = calls ≡ []

-- no line that is wanted was given
abbrev pub IsUnwanted : (List ℕ → Type 0) → LineGiven → Type 0
IsUnwanted wanted (given.Text line) = wanted line → ⊥
IsUnwanted wanted given.End = Unit {0}
IsUnwanted wanted given.Failed = ⊥

-- one read that gave no line that is wanted
pub record GivesUnwanted (wanted : List ℕ → Type 0) (calls : List LineCall) : Type 0 where
  pub last : LineGiven
  pub reads : calls ≡ read_of last ∷ []
  pub unwanted : IsUnwanted wanted last

-- the reads by which a line that is wanted was missed
abbrev pub MissesLine : (List ℕ → Type 0) → LineFault → List LineCall → Type 0
MissesLine wanted (fault.NotState n) calls = GivesUnwanted wanted calls
MissesLine wanted fault.Source calls = calls ≡ read_of given.Failed ∷ []
MissesLine wanted fault.OutOfMemory calls = AreOneLineAtMost calls
