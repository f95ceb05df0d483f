-- Fresh parts are what the empty list leaves, and a list that goes on from the empty one is that list.
use Rattle.std.proofs.Common.{◌≡◌, ◌∙◌, ap, subst, refl, ℕ, suc, ◌+◌, ◌≤◌, List, [], ◌∷◌, ◌++◌, map, length, length-append, arith}
use Rattle.relay_outside.specs.declared.settings.Config.{Config}
use Rattle.histories.proofs.Lists.{mapped}
use Rattle.call_cell.specs.Cells.{Prepare, Commit, Relay, Expire, Read, End, Relayed}
use Rattle.relay_core.specs.declared.part.Part.{Part}
use Rattle.relay_core.specs.declared.part.Part.TheVariants as part
use Rattle.relay_core.specs.Entries.{Event, Board, Cell, Box, Entry, history, front, box_of}
use Rattle.relay_core.specs.Legal.{Legal}
use Rattle.relay_core.specs.FirstPlaces.{AreParts, BeginsAs}
use Rattle.relay_core.specs.Steps.{with_take}
use Rattle.relay_core.specs.Joins.{IsAtPlace}
use Rattle.relay_core.specs.Continued.{later_relayed, later_event, later, continued, IsLeftAt, AreLeftBy, TakesLater}
use Rattle.relay_core.proofs.Turns.{nothing_is_orderly}
use Rattle.relay_core.proofs.Given.{begins_as}

nothing_is_legal : (config : Config) → Legal config []
nothing_is_legal config = record {
  orderly = nothing_is_orderly config;
  counted = λ e i. elim i [ ];
  fits = λ e i. elim i [ ];
  timed = λ e i. elim i [ ];
  placed = λ e i. elim i [ ];
  received = λ e x i. elim i [ ];
  once = λ e f x y i. elim i [ ];
}

module _ {I O : Type 0} where
  first_left : (config : Config) (k : ℕ) (x : Part I O) → BeginsAs config k x → IsAtPlace config k x × IsLeftAt config x (history [] k (front [] k))
  first_left config k (part.Board b) is = is
  first_left config k (part.Cell c) is = ((is.0, is.1), is.2)
  first_left config k (part.Pair b) is = (is.0, (is.1.0, is.1.2))

  pub first_parts : (config : Config) (parts : List (Part I O)) → AreParts config parts → AreLeftBy config [] parts
  first_parts config parts are = record {
    legal = nothing_is_legal config;
    families = are.families;
    count_is =
        let all : length parts ≡ suc (length (are.cells ++ are.boxes)) = ap length are.parts_are in
        let both = length-append are.cells are.boxes in
        let cells = are.cell_count in
        let boxes = are.box_count in
        omega (arith, all, both, cells, boxes);
    are_left = λ k x q. first_left config k x (begins_as config parts are k x q);
  }

more_none : (n : ℕ) → n + 0 ≡ n
more_none n = omega arith

same_event : (config : Config) (v : Event) → later_event config [] v ≡ v
same_event config (Board b) = refl
same_event config (Cell (Prepare call legs keys dropped)) = refl
same_event config (Cell (Commit signal)) = refl
same_event config (Cell (Relay x)) =
    ap (λ (n : ℕ). Cell (Relay (record { packet = with_take n x.packet; sent_ok = x.sent_ok; deed = x.deed }))) (more_none x.packet.take)
same_event config (Cell (Expire due)) = refl
same_event config (Cell (Read reports)) = refl
same_event config (Cell End) = refl
same_event config (Box b) = refl

same_entry : (config : Config) (e : Entry) → later config [] e ≡ e
same_entry config e =
    ap (λ (n : ℕ). record { place = e.place; number = n; moment = e.moment; board = e.board + 0; event = later_event config [] e.event }) (more_none e.number)
    ∙ ap (λ (n : ℕ). record { place = e.place; number = e.number; moment = e.moment; board = n; event = later_event config [] e.event }) (more_none e.board)
    ∙ ap (λ (v : Event). record { place = e.place; number = e.number; moment = e.moment; board = e.board; event = v }) (same_event config e.event)

pub continues_nothing : (config : Config) (l : List Entry) → continued config [] l ≡ l
continues_nothing config [] = refl
continues_nothing config (e ∷ l) =
    ap (λ (x : Entry). x ∷ map (later config []) l) (same_entry config e) ∙ ap (λ (xs : List Entry). e ∷ xs) (continues_nothing config l)

-- A relay counted on is of a take counted on.

taken_later : (config : Config) (before : List Entry) (v : Event) (x : Relayed) → later_event config before v ≡ Cell (Relay x)
    → front before (box_of config x.packet.holder.pair) ≤ x.packet.take
taken_later config before (Board b) x q = absurd (let k = q in cc)
taken_later config before (Box b) x q = absurd (let k = q in cc)
taken_later config before (Cell (Relay r)) x q =
    let made : Cell (Relay (later_relayed config before r)) ≡ Cell (Relay x) = q in
    let same : later_relayed config before r ≡ x = cc in
    subst (λ (y : Relayed). front before (box_of config y.packet.holder.pair) ≤ y.packet.take) same (omega arith)
taken_later config before (Cell (Prepare call legs keys dropped)) x q = absurd (let k = q in cc)
taken_later config before (Cell (Commit signal)) x q = absurd (let k = q in cc)
taken_later config before (Cell (Expire due)) x q = absurd (let k = q in cc)
taken_later config before (Cell (Read reports)) x q = absurd (let k = q in cc)
taken_later config before (Cell End) x q = absurd (let k = q in cc)

pub takes_later : (config : Config) (before l : List Entry) → TakesLater config before l
takes_later config before l e x i q =
    let m = mapped (later config before) l i in
    taken_later config before m.from.event x (ap (λ (y : Entry). y.event) m.makes ∙ q)
