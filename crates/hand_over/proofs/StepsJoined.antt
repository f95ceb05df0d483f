-- Several legs of a cell are closed, one after the other.
use Rattle.std.proofs.Common.{◌≡◌, ◌∙◌, sym, ap, subst, refl, ℕ, List, [], ◌++◌, Option, append_assoc}
use Rattle.relay_outside.specs.declared.ports.InCall.{InCall}
use Rattle.relay_outside.specs.declared.ports.OutCall.{OutCall}
use Rattle.relay_outside.specs.declared.ports.PortCall.{PortCall}
use Rattle.relay_outside.specs.declared.settings.Config.{Config}
use Rattle.relay_outside.specs.DeviceLogs.{EndLog, Gained}
use Rattle.relay_outside.proofs.Telling.{gained_both, gained_less, gained_none}
use Rattle.histories.specs.Words.{In}
use Rattle.call_cell.specs.declared.cell.Cell as cell
use Rattle.relay_core.specs.declared.part.Part.{Part}
use Rattle.hand_over.specs.Closings.{legs_at, cell_closings}
use Rattle.hand_over.specs.ClosingSteps.{pairs_of_legs, legs_with_ends, KeepsAllButEnds, IsCellReady, ClosesSome}
use Rattle.hand_over.proofs.FirstLegs.{none_closed}
use Rattle.std.proofs.Common.{append-nil}

pub keeps_itself : {O : Type 0} (c : cell.Cell O) → KeepsAllButEnds c c
keeps_itself c = record { saves = λ saved s. s }

module _ {I O : Type 0} (taken : I → EndLog InCall) (sent : O → EndLog OutCall) where
  pub closes_nothing : (config : Config) (place : ℕ) (parts : List (Part I O)) (log : Option (List PortCall)) → IsCellReady taken sent config parts log place
      → ClosesSome taken sent config place parts log parts log
  closes_nothing config place parts log ready = record {
    ready = ready;
    closes = gained_none log (λ calls. calls ++ cell_closings taken sent config parts (legs_at parts place) ≡ cell_closings taken sent config parts (legs_at parts place)) refl;
    keeps = λ c is. (c, is, keeps_itself c);
    pairs_are = refl;
    others = λ k differs no_box. refl;
    still_open = λ pair within not_in opened. opened;
    length_is = refl;
  }

  pub closes_both : (config : Config) (place : ℕ) (first second third : List (Part I O)) (a b c : Option (List PortCall)) → ClosesSome taken sent config place first a second b
      → ClosesSome taken sent config place second b third c → ClosesSome taken sent config place first a third c
  closes_both config place first second third a b c one two =
      let left : List (Part I O) → List PortCall = λ (parts : List (Part I O)). cell_closings taken sent config parts (legs_at parts place) in
      let among : (pair : ℕ) → In pair (pairs_of_legs (legs_at second place)) → In pair (pairs_of_legs (legs_at first place)) =
      λ pair i. subst (λ (ps : List ℕ). In pair ps) one.pairs_are i in
      record {
        ready = two.ready;
        closes = gained_both a b c (λ calls. calls ++ left second ≡ left first) (λ calls. calls ++ left third ≡ left second) (λ calls. calls ++ left third ≡ left first)
            (λ xs ys x y. append_assoc xs ys (left third) ∙ ap (λ (cs : List PortCall). xs ++ cs) y ∙ x) one.closes two.closes;
        keeps = λ was is.
            let mid = one.keeps was is in
            let last = two.keeps mid.0 mid.1 in
            (last.0, last.1, record { saves = λ saved s. mid.2.saves saved (last.2.saves saved s) });
        pairs_are = two.pairs_are ∙ one.pairs_are;
        others = λ k differs no_box. two.others k differs (λ pair i e. no_box pair (among pair i) e) ∙ one.others k differs no_box;
        still_open = λ pair within not_in opened. two.still_open pair within (λ i. not_in (among pair i)) (one.still_open pair within not_in opened);
        length_is = two.length_is ∙ one.length_is;
      }

  -- where none is left with ends, all were closed
  pub all_closed : (config : Config) (place : ℕ) (old new : List (Part I O)) (was now : Option (List PortCall)) → ClosesSome taken sent config place old was new now → legs_with_ends (legs_at new place) ≡ []
      → Gained was now (λ calls. calls ≡ cell_closings taken sent config old (legs_at old place))
  all_closed config place old new was now steps none =
      gained_less was now (λ calls. calls ++ cell_closings taken sent config new (legs_at new place) ≡ cell_closings taken sent config old (legs_at old place))
      (λ calls. calls ≡ cell_closings taken sent config old (legs_at old place))
      (λ calls is. sym (append-nil calls) ∙ ap (λ (cs : List PortCall). calls ++ cs) (sym (none_closed taken sent config new (legs_at new place) none)) ∙ is) steps.closes
