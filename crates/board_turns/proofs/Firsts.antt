-- The main hand before the board's first turn.
use Rattle.std.proofs.Common.{◌≡◌, sym, subst, ap, List, [], ◌∷◌, ◌++◌, length, length-append, arith, false, true}
use Rattle.relay_outside.specs.declared.ports.PortCall.{PortCall}
use Rattle.relay_outside.specs.declared.settings.Config.{Config}
use Rattle.turn_table.specs.declared.machine.Entry as table
use Rattle.turn_table.specs.declared.hands.Turns.{Turns}
use Rattle.turn_table.specs.declared.hands.Hand.{Hand}
use Rattle.turn_table.specs.Hands.{IsHandOf, IsFirstHand, entries}
use Rattle.relay_core.specs.declared.part.Part.{Part}
use Rattle.relay_core.specs.Entries.{Entry}
use Rattle.relay_core.specs.Records.{Made, list_of}
use Rattle.relay_core.specs.FirstPlaces.{AreParts}
use Rattle.relay_core.specs.WholeParts.{AreWholeParts}
use Rattle.relay_core.specs.Turns.{made_by}
use Rattle.relay_core.proofs.Known.{IsKnown}
use Rattle.relay_core.proofs.KeptGiven.{whole_first}
use Rattle.relay_core.proofs.Turns.{nothing_is_orderly}
use Rattle.media_ports.specs.OpenPorts.{OpensHeld}
use Rattle.board_turns.specs.Between.{board_of, IsBetween}

nothing_known : {T : Type 0} (config : Config) → IsKnown {T = T} config []
nothing_known config = record {
  orderly = nothing_is_orderly config;
  handed = λ row i. elim i [ ];
  returned = λ row i. elim i [ ];
  receiving = λ own. record { received = λ e x i. elim i [ ]; once = λ e f x y i. elim i [ ] };
}

module _ {M I O T : Type 0} {g : _} where
  -- the hand of a table that began with the parts of the configuration
  pub first_between : (config : Config) (turns : Turns M (Part I O) Made T) (hand : Hand M (Part I O) Made T g) (parts : List (Part I O)) → IsHandOf turns hand
      → IsFirstHand parts hand → AreParts config parts → AreWholeParts config parts → IsBetween config turns hand
  first_between config turns hand parts of_table first are whole =
      let known : IsKnown config (entries hand) = subst (λ (rows : List (table.Entry Made T)). IsKnown config rows) (sym first.1) (nothing_known config) in
      let whole_parts = subst (λ (l : List (Part I O)). AreWholeParts config l) (sym first.0) whole in
      record {
        of_table = of_table;
        main = first.3;
        idle = first.4;
        parts = subst (λ (l : List (Part I O)). AreParts config l) (sym first.0) are;
        whole_parts = whole_parts;
        whole = whole_first config hand first.1 whole_parts;
        numbered = known.orderly.numbered;
        orderly = known.orderly;
        handed = known.handed;
        returned = known.returned;
        receiving = known.receiving;
      }

  pub first_made : (hand : Hand M (Part I O) Made T g) (parts : List (Part I O)) → IsFirstHand parts hand → made_by hand ≡ []
  first_made hand parts first = ap (λ (rows : List (table.Entry Made T)). list_of rows) first.1

-- a list without an entry has none of the board
pub first_board : (l : List Entry) → l ≡ [] → board_of l ≡ []
first_board l none = ap (λ (k : List Entry). board_of k) none

not_opened : (before after : List PortCall) (call : PortCall) → [] ≡ before ++ call ∷ after → ⊥
not_opened before after call q =
    let long = length-append before (call ∷ after) in
    let none : 0 ≡ length (before ++ call ∷ after) = ap length q in
    omega (arith, long, none)

-- and of a port maker that was not called no port is open
pub none_open : (config : Config) → OpensHeld config [] []
none_open config pair half low = (
  λ is_open. absurd (not_opened is_open.before is_open.after _ is_open.opened),
  λ held. absurd (let q : false ≡ true = held in cc),
)
