-- One read of a line, of which some kind is wanted.
use Rattle.std.proofs.Common.{◌≡◌, sym, subst, refl, ℕ, List, [], ◌∷◌, Err}
use Rattle.relay_outside.specs.declared.lines.LineCall.{LineCall}
use Rattle.relay_outside.specs.declared.lines.LineGiven.TheVariants as given
use Rattle.state_lines.specs.declared.faults.LineFault.{LineFault}
use Rattle.state_lines.specs.declared.faults.LineFault.TheVariants as fault
use Rattle.state_lines.specs.declared.faults.Unread.{Unread}
use Rattle.state_lines.specs.declared.faults.Unread.TheVariants as unread
use Rattle.state_lines.specs.LineReads.{text_read, AreOneLineAtMost}
use Rattle.state_lines.specs.OneRead.{TellsOf, fault_at, ReadsNext, GivesUnwanted, MissesLine}

-- no line came
pub missed : (wanted : List ℕ → Type 0) (f : LineFault) (room : List ℕ) (calls : List LineCall) → ReadsNext (Err f) room calls → MissesLine wanted f calls
missed wanted (fault.NotState n) room calls read = record { last = given.End; reads = read; unwanted = tt }
missed wanted fault.Source room calls read = read
missed wanted fault.OutOfMemory room calls read = subst AreOneLineAtMost (sym read) tt

-- a line came that isn't wanted
pub unwanted : (wanted : List ℕ → Type 0) (line : List ℕ) (calls : List LineCall) → calls ≡ text_read line ∷ [] → (wanted line → ⊥) → GivesUnwanted wanted calls
unwanted wanted line calls read other = record { last = given.Text line; reads = read; unwanted = other }

-- a line came that was refused
pub refused : (wanted : List ℕ → Type 0) (line : List ℕ) (u : Unread) (number : ℕ) (calls : List LineCall) → calls ≡ text_read line ∷ [] → TellsOf u (wanted line → ⊥) → MissesLine wanted (fault_at u number) calls
refused wanted line unread.NotOfForm number calls read other = unwanted wanted line calls read other
refused wanted line unread.OutOfMemory number calls read other = subst AreOneLineAtMost (sym read) (line, refl)
