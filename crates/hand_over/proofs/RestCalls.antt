-- The calls whose cells are still to be closed.
use Rattle.std.proofs.Common.{◌≡◌, ◌∙◌, sym, ap, subst, refl, ◌≤◌, ℕ, zero, suc, true, List, [], ◌∷◌, ◌++◌, take, drop, Option, Some, arith, append_assoc}
use Rattle.std.specs.Prelude.{slice_get}
use Rattle.relay_outside.specs.declared.ports.InCall.{InCall}
use Rattle.relay_outside.specs.declared.ports.OutCall.{OutCall}
use Rattle.relay_outside.specs.declared.ports.PortCall.{PortCall}
use Rattle.relay_outside.specs.declared.settings.Config.{Config}
use Rattle.relay_outside.specs.DeviceLogs.{EndLog, Gained}
use Rattle.relay_outside.proofs.Telling.{gained_both}
use Rattle.histories.specs.Words.{In, here, there, has}
use Rattle.histories.proofs.Lists.{it_has, maps}
use Rattle.port_pool.specs.Pools.{AreFree}
use Rattle.call_cell.specs.declared.leg.Leg.{Leg}
use Rattle.call_cell.specs.declared.cell.Cell as cell
use Rattle.call_board.specs.Shapes.{LiveShape}
use Rattle.call_shapes.specs.WholeRelay.{cells_of_calls}
use Rattle.relay_core.specs.declared.part.Part.{Part}
use Rattle.relay_core.specs.declared.part.Part.TheVariants as part
use Rattle.relay_core.specs.Entries.{box_of}
use Rattle.hand_over.specs.Closings.{legs_there, legs_at, box_ends_in, cell_closings, call_closings}
use Rattle.hand_over.specs.ClosingSteps.{pairs_of_legs, legs_with_ends, IsCellReady, ClosesSome}
use Rattle.hand_over.proofs.FirstLegs.{same_closings}
use Rattle.hand_over.proofs.OneClosed.{kept_ready, within_range, legs_of_cell}
use Rattle.hand_over.proofs.StepsJoined.{all_closed}

-- no call of the front has the cell of one behind
pub cells_apart : (count : ℕ) (calls : List LiveShape) (i : ℕ) → AreFree count (cells_of_calls calls) → (a b : LiveShape) → In a (take i calls) → In b (drop i calls) → a.cell ≡ b.cell → ⊥
cells_apart count [] zero free a b x y same = elim x [ ]
cells_apart count [] (suc i) free a b x y same = elim x [ ]
cells_apart count (c ∷ calls) zero free a b x y same = elim x [ ]
cells_apart count (c ∷ calls) (suc i) free a b (here is) y same =
    let stands = it_has b.cell (cells_of_calls calls) (maps (λ (call : LiveShape). call.cell) calls (in_drop calls i y)) in
    let at : b.cell ≡ c.cell = sym same ∙ ap (λ (call : LiveShape). call.cell) is in
    absurd (let f = sym (subst (λ (n : ℕ). has (cells_of_calls calls) n ≡ true) at stands) ∙ free.1 in cc)
  where
    in_drop : (xs : List LiveShape) (i : ℕ) → In b (drop i xs) → In b xs
    in_drop xs zero among = among
    in_drop [] (suc i) among = among
    in_drop (x ∷ xs) (suc i) among = there (in_drop xs i among)
cells_apart count (c ∷ calls) (suc i) free a b (there x) y same = cells_apart count calls i free.2 a b x y same

module _ {I O : Type 0} where
  -- two places have other cells, of legs of other pairs
  pub record ArePlacesApart (parts : List (Part I O)) (place other : ℕ) : Type 0 where
    pub differ : other ≡ place → ⊥
    pub pairs : (pair : ℕ) → In pair (pairs_of_legs (legs_at parts place)) → In pair (pairs_of_legs (legs_at parts other)) → ⊥

  abbrev pub AllApart : List (Part I O) → (place : ℕ) → List LiveShape → Type 0
  AllApart parts place rest = (other : LiveShape) → In other rest → ArePlacesApart parts place other.cell

module _ {I O : Type 0} (taken : I → EndLog InCall) (sent : O → EndLog OutCall) where
  -- the cells of the calls are ready, and apart
  abbrev pub AreRest : Config → List (Part I O) → Option (List PortCall) → List LiveShape → Type 0
  AreRest config parts log [] = Unit {0}
  AreRest config parts log (call ∷ rest) = IsCellReady taken sent config parts log call.cell × AllApart parts call.cell rest × AreRest config parts log rest

  -- what the closing of another cell leaves
  other_same : (config : Config) (place other : ℕ) (old new : List (Part I O)) (was now : Option (List PortCall)) → ClosesSome taken sent config place old was new now
      → ArePlacesApart old place other → other ≤ config.max_sessions → slice_get new other ≡ slice_get old other
  other_same config place other old new was now steps apart within = steps.others other apart.differ (λ pair i e. absurd (omega (arith, e, within)))

  boxes_same : (config : Config) (place other : ℕ) (old new : List (Part I O)) (was now : Option (List PortCall)) → ClosesSome taken sent config place old was new now
      → ArePlacesApart old place other → (pair : ℕ) → In pair (pairs_of_legs (legs_at old other)) → slice_get new (box_of config pair) ≡ slice_get old (box_of config pair)
  boxes_same config place other old new was now steps apart pair among =
      let low = steps.ready.within in
      steps.others (box_of config pair) (λ e. absurd (omega (arith, e, low)))
      (λ q i e. let same : pair ≡ q = omega (arith, e) in apart.pairs q i (subst (λ (n : ℕ). In n (pairs_of_legs (legs_at old other))) same among))

  in_pairs : (parts : List (Part I O)) (place : ℕ) (c : cell.Cell O) (leg : Leg O) → slice_get parts place ≡ Some (part.Cell c) → In leg c.legs.items → In leg.holder.pair (pairs_of_legs (legs_at parts place))
  in_pairs parts place c leg is among = subst (λ (l : List (Leg O)). In leg.holder.pair (pairs_of_legs l)) (sym (legs_of_cell parts place c is)) (maps (λ (l : Leg O). l.holder.pair) c.legs.items among)

  other_ready : (config : Config) (place other : ℕ) (old new : List (Part I O)) (was now : Option (List PortCall)) → ClosesSome taken sent config place old was new now
      → ArePlacesApart old place other → IsCellReady taken sent config old was other → IsCellReady taken sent config new now other
  other_ready config place other old new was now steps apart ready = record {
    cell = ready.cell;
    cell_is = other_same config place other old new was now steps apart ready.within ∙ ready.cell_is;
    config_is = ready.config_is;
    within = ready.within;
    apart = ready.apart;
    legs = λ leg among.
        let is = ready.legs leg among in
        let at = in_pairs old other ready.cell leg ready.cell_is among in
        record {
          lease_is = is.lease_is;
          ready = kept_ready taken sent config old new was now leg.holder.pair leg.sending.ends (boxes_same config place other old new was now steps apart leg.holder.pair at)
              (steps.still_open leg.holder.pair (within_range taken sent config ready.cell.legs.items leg ready.apart among) (λ i. apart.pairs leg.holder.pair i at)) is.ready;
        };
  }

  -- the rest stays as it is
  pub rest_stays : (config : Config) (place : ℕ) (old new : List (Part I O)) (was now : Option (List PortCall)) (rest : List LiveShape) → ClosesSome taken sent config place old was new now
      → AllApart old place rest → AreRest config old was rest → AreRest config new now rest
  rest_stays config place old new was now [] steps apart ready = tt
  rest_stays config place old new was now (call ∷ rest) steps apart ready =
      let mine = other_same config place call.cell old new was now steps (apart call (here refl)) ready.0.within in (
        other_ready config place call.cell old new was now steps (apart call (here refl)) ready.0,
        (λ other i. record {
          differ = (ready.1 other i).differ;
          pairs = λ pair x y. (ready.1 other i).pairs pair
              (subst (λ (o : Option (Part I O)). In pair (pairs_of_legs (legs_there o))) mine x)
              (subst (λ (o : Option (Part I O)). In pair (pairs_of_legs (legs_there o)))
              (other_same config place other.cell old new was now steps (apart other (there i)) (within_rest rest ready.2 other i)) y);
        }),
        rest_stays config place old new was now rest steps (λ other i. apart other (there i)) ready.2,
      )
    where
      within_rest : (rest : List LiveShape) → AreRest config old was rest → (other : LiveShape) → In other rest → other.cell ≤ config.max_sessions
      within_rest [] r other i = elim i [ ]
      within_rest (x ∷ rest) r other (here is) = subst (λ (c : LiveShape). c.cell ≤ config.max_sessions) (sym is) r.0.within
      within_rest (x ∷ rest) r other (there i) = within_rest rest r.2 other i

  -- and so does what is to be closed of it
  pub closings_stay : (config : Config) (place : ℕ) (old new : List (Part I O)) (was now : Option (List PortCall)) (rest : List LiveShape) → ClosesSome taken sent config place old was new now
      → AllApart old place rest → AreRest config old was rest → call_closings taken sent config new rest ≡ call_closings taken sent config old rest
  closings_stay config place old new was now [] steps apart ready = refl
  closings_stay config place old new was now (call ∷ rest) steps apart ready =
      let mine = other_same config place call.cell old new was now steps (apart call (here refl)) ready.0.within in
      let legs : legs_at new call.cell ≡ legs_at old call.cell = ap (λ (o : Option (Part I O)). legs_there o) mine in
      ap (λ (l : List (Leg O)). cell_closings taken sent config new l ++ call_closings taken sent config new rest) legs
      ∙ ap (λ (cs : List PortCall). cs ++ call_closings taken sent config new rest)
      (same_closings taken sent config new old (legs_at old call.cell)
      (λ leg i. ap (λ (o : Option (Part I O)). box_ends_in o) (boxes_same config place call.cell old new was now steps (apart call (here refl)) leg.holder.pair (maps (λ (l : Leg O). l.holder.pair) (legs_at old call.cell) i))))
      ∙ ap (λ (cs : List PortCall). cell_closings taken sent config old (legs_at old call.cell) ++ cs) (closings_stay config place old new was now rest steps (λ other i. apart other (there i)) ready.2)

  -- the first of the rest was closed
  pub closed_more : (config : Config) (old new : List (Part I O)) (first was now : Option (List PortCall)) (call : LiveShape) (rest : List LiveShape) (all : List PortCall)
      → AreRest config old was (call ∷ rest) → ClosesSome taken sent config call.cell old was new now → legs_with_ends (legs_at new call.cell) ≡ []
      → Gained first was (λ calls. calls ++ call_closings taken sent config old (call ∷ rest) ≡ all) → Gained first now (λ calls. calls ++ call_closings taken sent config new rest ≡ all)
  closed_more config old new first was now call rest all ready steps none gained =
      gained_both first was now (λ calls. calls ++ call_closings taken sent config old (call ∷ rest) ≡ all) (λ calls. calls ≡ cell_closings taken sent config old (legs_at old call.cell))
      (λ calls. calls ++ call_closings taken sent config new rest ≡ all)
      (λ xs ys x y.
      append_assoc xs ys (call_closings taken sent config new rest)
      ∙ ap (λ (cs : List PortCall). xs ++ (cs ++ call_closings taken sent config new rest)) y
      ∙ ap (λ (cs : List PortCall). xs ++ (cell_closings taken sent config old (legs_at old call.cell) ++ cs)) (closings_stay config call.cell old new was now rest steps ready.1 ready.2)
      ∙ x) gained (all_closed taken sent config call.cell old new was now steps none)
