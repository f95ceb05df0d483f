-- A refusal, by what it says of the words.
use Rattle.std.proofs.Common.{◌≡◌, ap, sym, List, [], ◌∷◌, Some, None, inl, inr, true, refl}
use Rattle.std.specs.Prelude.{Ok, Err, ◌≢◌}
use Rattle.clap.specs.Walk.{Row, Text}
use Rattle.clap.specs.Words.{App, FailsBy, HasMatchesOf, HasKind, Kinds, fault_of, found_of, is_simple_and_free, kind_of, matches_of, rows_of}
use Rattle.clap.specs.declared.error.Error.{Error}
use Rattle.clap.specs.declared.error.kind.ErrorKind.TheVariants.{OutOfMemory}
use Rattle.clap.specs.declared.parser.matches.ArgMatches.{ArgMatches}
use Rattle.clap.proofs.WalkLemmas.{both}
use Rattle.command_line.specs.Refusals.{IsRefused}
use Rattle.command_line.specs.Words.{rows_if, taken}
use Rattle.command_line.specs.declared.refusal.Refusal.{Refusal}
use Rattle.command_line.specs.declared.refusal.Refusal.TheVariants as refusal

-- by what follows of it
pub refused_as : (P Q : Type 0) (r : Refusal) → (P → Q) → IsRefused P r → IsRefused Q r
refused_as P Q refusal.OutOfMemory follows is = tt
refused_as P Q (refusal.Usage usage) follows is = (follows is.0, is.1)

-- `clap` gave matches
pub parsed : (app : App) (words : List Text) (m : ArgMatches) → is_simple_and_free app ≡ true → FailsBy {T = ArgMatches} (fault_of app words) (Ok m) → HasMatchesOf app words m
    → taken app words ≡ Some (rows_of (found_of m))
unfolding taken
parsed app words m simple none has = rw none (ap Some (sym (has (both _ _ simple).0).0))

refused_rows : (kinds : Kinds) (rows : List Row) (e : Error) → HasKind kinds e → kind_of e ≢ OutOfMemory → rows_if kinds rows ≡ None
refused_rows [] rows e (inl memory) other = absurd (other memory)
refused_rows [] rows e (inr among) other = absurd among
refused_rows (k ∷ ks) rows e any other = refl

-- `clap` refused the words, and not for memory
pub unparsed : (app : App) (words : List Text) (e : Error) → FailsBy {T = ArgMatches} (fault_of app words) (Err e) → kind_of e ≢ OutOfMemory → taken app words ≡ None
unfolding taken
unparsed app words e has other = refused_rows (fault_of app words) (matches_of app words) e has other
