-- What a hand makes next is above all that it made at that place.
use Rattle.std.proofs.Common.{◌≡◌, refl, sym, ◌∙◌, ap, subst, ℕ, ◌<◌, List, [], ◌∷◌, ◌++◌}
use Rattle.relay_outside.specs.declared.ports.InCall.{InCall}
use Rattle.relay_outside.specs.declared.ports.OutCall.{OutCall}
use Rattle.relay_outside.specs.DeviceLogs.{EndLog}
use Rattle.turn_table.specs.declared.machine.Entry as table
use Rattle.turn_table.specs.declared.hands.Hand.{Hand}
use Rattle.turn_table.specs.Hands.{entries, tries, TriedUntilFree}
use Rattle.turn_table.specs.Steps.{entry}
use Rattle.relay_core.specs.declared.part.Part.{Part}
use Rattle.relay_core.specs.Entries.{Entry}
use Rattle.relay_core.specs.Records.{Made, entry_of, list_of}
use Rattle.relay_core.specs.Turns.{IsAbove, made_by}
use Rattle.relay_core.proofs.Own.{in_rows}
use Rattle.media_lane.specs.Busy.{Gives}

module _ {I O : Type 0} (it : I → EndLog InCall) (ic : I → ℕ) (ot : O → EndLog OutCall) (oc : O → ℕ) {M : Type 0} {g : _} where
  pub above : (hand : Hand M (Part I O) Made (Unit {0}) g) (k n : ℕ) (x : Part I O) → Gives it ic ot oc hand k n x → IsAbove (made_by hand) k n
  above hand k n x given e i p =
      let found = in_rows (entries hand) i in
      let below : found.row.number < n = given.above found.row found.is_in (ap (λ (y : Entry). y.place) found.is ∙ p) in
      subst (λ (y : Entry). y.number < n) found.is below

list_more : {T : Type 0} (rows : List (table.Entry Made T)) (row : table.Entry Made T) → list_of (rows ++ row ∷ []) ≡ list_of rows ++ entry_of row ∷ []
list_more [] row = refl
list_more (r ∷ rows) row = ap (λ (l : List Entry). entry_of r ∷ l) (list_more rows row)

-- the list of a hand that gained one row
pub made_more : {M S T : Type 0} {g : _} (old new : Hand M S Made T g) (row : table.Entry Made T) → entries new ≡ entries old ++ row ∷ []
    → made_by new ≡ made_by old ++ entry_of row ∷ []
made_more old new row is = ap (λ (rows : List (table.Entry Made _)). list_of rows) is ∙ list_more (entries old) row

pub made_same : {M S T : Type 0} {g : _} (old new : Hand M S Made T g) → entries new ≡ entries old → made_by new ≡ made_by old
made_same old new is = ap (λ (rows : List (table.Entry Made _)). list_of rows) is

-- a hand that put its turn gained one row
pub list_gained : {M S : Type 0} {g : _} (old mid new : Hand M S Made (Unit {0}) g) (place place' number number' : ℕ) (made : Made)
    → entries new ≡ entries mid ++ entry place number made (tt {0}) ∷ [] → entries mid ≡ entries old → place ≡ place' → number' ≡ number
    → entries new ≡ entries old ++ entry place' number' made (tt {0}) ∷ []
list_gained old mid new place place' number number' made put kept at numbered =
    put ∙ ap (λ (rows : List (table.Entry Made (Unit {0}))). rows ++ entry place number made (tt {0}) ∷ []) kept
    ∙ ap (λ (k : ℕ). entries old ++ entry k number made (tt {0}) ∷ []) at
    ∙ ap (λ (n : ℕ). entries old ++ entry place' n made (tt {0}) ∷ []) (sym numbered)

-- a mark that was tried until it was free, of a hand that tried none since
pub tried_still : {M S E O : Type 0} {g : _} (k : ℕ) (old mid new : Hand M S E O g) → TriedUntilFree k old mid → tries new ≡ tries mid → TriedUntilFree k old new
tried_still k old mid new tried same = (tried.0, same ∙ tried.1, tried.2)
