-- Sweeps of one lane, one after the other, and of many lanes.
use Rattle.std.proofs.Common.{◌≡◌, ◌∙◌, refl, sym, ap, subst, ℕ, ◌+◌, ◌^◌, ◌<◌, ◌≤◌, inl, inr, List, [], ◌∷◌, ◌++◌, Option, length, length-append, append_assoc, append-nil, get_or, set, arith}
use Rattle.std.proofs.lemmas.Bool.{cases_eq}
use Rattle.std.proofs.lemmas.List.{get_or-set_other, length-set}
use Rattle.std.proofs.lemmas.Grind.{get_or-set_at}
use Rattle.relay_outside.specs.declared.settings.Config.{Config}
use Rattle.turn_table.specs.declared.hands.Turns.{Turns}
use Rattle.turn_table.specs.Hands.{IsHandOf}
use Rattle.relay_core.specs.declared.part.Part.{Part}
use Rattle.relay_core.specs.declared.machine.Relay.{Relay}
use Rattle.relay_core.specs.Records.{Made}
use Rattle.media_lane.specs.declared.answers.Totals.{Totals}
use Rattle.media_lane.specs.Gates.{GainsGated}
use Rattle.media_lane.specs.Lanes.{hand_in, lane_list, config_in, index_in, lanes_in, IsSameHandOf}
use Rattle.media_lane.specs.SweepLoops.{AddsTotals, AreSweeps, visits_of}
use Rattle.media_lane.specs.Receipts.{KeepsList}
use Rattle.media_lane.specs.Sweeps.{Sweeps}
use Rattle.media_lane.specs.Visits.{Row, Visit, rows_of as visit_rows, all_rows, AreTotals}
use Rattle.media_lane.proofs.Gates.{gains_none, gains_both}
use Rattle.media_lane.proofs.Loops.{keeps_none, totals_both}
use Rattle.media_lane.proofs.Visiting.{keeps_more}
use Rattle.relay_runs.specs.declared.lanes.OwnLane.{OwnLane}
use Rattle.relay_runs.specs.Threads.{lane_rows, AreOfTable, Swept, Each}
use Rattle.relay_runs.proofs.Each.{each_none, each_both}

visits_both : (news olds : List (List Visit)) → visits_of (news ++ olds) ≡ visits_of olds ++ visits_of news
visits_both [] olds = sym (append-nil (visits_of olds))
visits_both (v ∷ news) olds = ap (λ (vs : List Visit). vs ++ v) (visits_both news olds) ∙ append_assoc (visits_of olds) (visits_of news) v

rows_both : (config : Config) (vs ws : List Visit) → all_rows config (vs ++ ws) ≡ all_rows config vs ++ all_rows config ws
rows_both config [] ws = refl
rows_both config (v ∷ vs) ws =
    ap (λ (rows : List Row). visit_rows config v ++ rows) (rows_both config vs ws) ∙ sym (append_assoc (visit_rows config v) (all_rows config vs) (all_rows config ws))

sweeps_both : (config : Config) (index lanes : ℕ) (range : Option (ℕ × ℕ)) (news olds : List (List Visit)) → AreSweeps config index lanes range news
    → AreSweeps config index lanes range olds → AreSweeps config index lanes range (news ++ olds)
sweeps_both config index lanes range [] olds first second = second
sweeps_both config index lanes range (v ∷ news) olds first second = (sweeps_both config index lanes range news olds first.0 second, first.1)

module _ {I O : Type 0} {gi : _} {go : _} {gm : _} (range : Option (ℕ × ℕ)) (gate : ℕ → Type 0) where
  -- nothing was done
  pub swept_none : (own : OwnLane I O gi go gm) → Swept 0 range gate own own
  swept_none own = record {
    same = record { hand = (refl, refl, refl, refl); config_is = refl; index_is = refl; lanes_is = refl };
    sweeps = [];
    enough = omega arith;
    are_sweeps = tt;
    list_is = sym (append-nil (lane_rows own));
    totals_are = λ before are. subst (λ (vs : List Visit). AreTotals vs own.totals) (sym (append-nil before)) are;
    keeps = keeps_none (config_in own.lane) (lane_list own.lane);
    gated = gains_none gate (lane_list own.lane);
    taken = omega arith;
  }

  -- one sweep
  pub swept_one : (old new : OwnLane I O gi go gm) (more : Totals) → IsSameHandOf old.lane new.lane
      → Sweeps (config_in old.lane) (index_in old.lane) (lanes_in old.lane) range (hand_in old.lane) (hand_in new.lane) more
      → KeepsList (config_in old.lane) (lane_list old.lane) (lane_list new.lane) → GainsGated gate (lane_list old.lane) (lane_list new.lane)
      → AddsTotals old.totals more new.totals → old.totals.taken < 2 ^ 64 → Swept 1 range gate old new
  swept_one old new more same sweep keeps gated sum few = record {
    same = same;
    sweeps = sweep.visits ∷ [];
    enough = omega arith;
    are_sweeps = (tt, record { passed = sweep.passed; own_once = sweep.own_once });
    list_is = sweep.list_is;
    totals_are = λ before are. totals_both before sweep.visits old.totals more new.totals are sweep.totals_are sum;
    keeps = keeps;
    gated = gated;
    taken = (let now = sum.taken in omega (arith, now, few));
  }

  pub swept_both : (m n : ℕ) (x y z : OwnLane I O gi go gm) → Swept m range gate x y → Swept n range gate y z → Swept (m + n) range gate x z
  swept_both m n x y z first second = record {
    same = record {
      hand = (
        second.same.hand.0 ∙ first.same.hand.0,
        second.same.hand.1 ∙ first.same.hand.1,
        second.same.hand.2 ∙ first.same.hand.2,
        second.same.hand.3 ∙ first.same.hand.3,
      );
      config_is = second.same.config_is ∙ first.same.config_is;
      index_is = second.same.index_is ∙ first.same.index_is;
      lanes_is = second.same.lanes_is ∙ first.same.lanes_is;
    };
    sweeps = second.sweeps ++ first.sweeps;
    enough = (let a = first.enough in let b = second.enough in omega (arith, a, b, length-append second.sweeps first.sweeps));
    are_sweeps =
        sweeps_both (config_in x.lane) (index_in x.lane) (lanes_in x.lane) range second.sweeps first.sweeps
        (subst (λ (n : ℕ). AreSweeps (config_in x.lane) (index_in x.lane) n range second.sweeps) first.same.lanes_is
        (subst (λ (n : ℕ). AreSweeps (config_in x.lane) n (lanes_in y.lane) range second.sweeps) first.same.index_is
        (subst (λ (k : Config). AreSweeps k (index_in y.lane) (lanes_in y.lane) range second.sweeps) first.same.config_is second.are_sweeps)))
        first.are_sweeps;
    list_is =
        second.list_is
        ∙ ap (λ (rows : List Row). rows ++ all_rows (config_in y.lane) (visits_of second.sweeps)) first.list_is
        ∙ ap (λ (k : Config). (lane_rows x ++ all_rows (config_in x.lane) (visits_of first.sweeps)) ++ all_rows k (visits_of second.sweeps)) first.same.config_is
        ∙ append_assoc (lane_rows x) (all_rows (config_in x.lane) (visits_of first.sweeps)) (all_rows (config_in x.lane) (visits_of second.sweeps))
        ∙ ap (λ (rows : List Row). lane_rows x ++ rows) (sym (rows_both (config_in x.lane) (visits_of first.sweeps) (visits_of second.sweeps)))
        ∙ ap (λ (vs : List Visit). lane_rows x ++ all_rows (config_in x.lane) vs) (sym (visits_both second.sweeps first.sweeps));
    totals_are = λ before are.
        subst (λ (vs : List Visit). AreTotals vs z.totals)
        (append_assoc before (visits_of first.sweeps) (visits_of second.sweeps) ∙ ap (λ (vs : List Visit). before ++ vs) (sym (visits_both second.sweeps first.sweeps)))
        (second.totals_are (before ++ visits_of first.sweeps) (first.totals_are before are));
    keeps = keeps_more (config_in x.lane) (config_in y.lane) (all_rows (config_in y.lane) (visits_of second.sweeps)) (hand_in x.lane) (hand_in y.lane) (hand_in z.lane) second.list_is
        first.same.config_is first.keeps second.keeps;
    gated = gains_both gate (lane_list x.lane) (lane_list y.lane) (lane_list z.lane) first.gated second.gated;
    taken = (let a = first.taken in let b = second.taken in omega (arith, a, b));
  }

  -- as many sweeps are enough where fewer are wanted
  pub swept_fewer : (m n : ℕ) (x y : OwnLane I O gi go gm) → n ≤ m → Swept m range gate x y → Swept n range gate x y
  swept_fewer m n x y le s = record {
    same = s.same;
    sweeps = s.sweeps;
    enough = (let a = s.enough in omega (arith, a, le));
    are_sweeps = s.are_sweeps;
    list_is = s.list_is;
    totals_are = s.totals_are;
    keeps = s.keeps;
    gated = s.gated;
    taken = s.taken;
  }

  -- Many lanes.

  pub each_swept : (m n : ℕ) (xs ys zs : List (OwnLane I O gi go gm)) → Each (Swept m range gate) xs ys → Each (Swept n range gate) ys zs → Each (Swept (m + n) range gate) xs zs
  each_swept m n xs ys zs first second = each_both (Swept m range gate) (Swept n range gate) (Swept (m + n) range gate) (swept_both m n) xs ys zs first second

  pub each_unswept : (xs : List (OwnLane I O gi go gm)) → Each (Swept 0 range gate) xs xs
  each_unswept xs = each_none (Swept 0 range gate) swept_none xs

  pub each_fewer : (m n : ℕ) (xs ys : List (OwnLane I O gi go gm)) → n ≤ m → Each (Swept m range gate) xs ys → Each (Swept n range gate) xs ys
  each_fewer m n xs ys le each = record { as_many = each.as_many; at = λ i d lt. swept_fewer m n (get_or xs i d) (get_or ys i d) le (each.at i d lt) }

  -- the lane at this place made a sweep
  module _ (xs : List (OwnLane I O gi go gm)) (at : ℕ) (y : OwnLane I O gi go gm) (lt : at < length xs) (swept : (d : OwnLane I O gi go gm) → Swept 1 range gate (get_or xs at d) y) where
    pub this_at : (d : OwnLane I O gi go gm) → Swept 1 range gate (get_or xs at d) (get_or (set xs at y) at d)
    this_at d = subst (λ (z : OwnLane I O gi go gm). Swept 1 range gate (get_or xs at d) z) (sym (get_or-set_at xs at at y d refl lt)) (swept d)

    pub each_at : Each (Swept 0 range gate) xs (set xs at y)
    each_at = record {
      as_many = length-set xs at y;
      at = λ i d le.
          elim (cases_eq i at) [
            | inl h ↦ subst (λ (k : ℕ). Swept 0 range gate (get_or xs k d) (get_or (set xs at y) k d)) (sym h) (swept_fewer 1 0 (get_or xs at d) (get_or (set xs at y) at d) (omega arith) (this_at d))
            | inr h ↦ subst (λ (z : OwnLane I O gi go gm). Swept 0 range gate (get_or xs i d) z) (sym (get_or-set_other xs at i y d h)) (swept_none (get_or xs i d))
          ];
    }

    pub of_table_at : (turns : Turns (Relay I O) (Part I O) Made (Unit {0})) → AreOfTable turns xs → AreOfTable turns (set xs at y)
    of_table_at turns all i d le =
        elim (cases_eq i at) [
          | inl h ↦ subst (λ (k : ℕ). IsHandOf turns (hand_in (get_or (set xs at y) k d).lane)) (sym h)
              (subst (λ (z : OwnLane I O gi go gm). IsHandOf turns (hand_in z.lane)) (sym (get_or-set_at xs at at y d refl lt)) ((swept d).same.hand.0 ∙ all at d lt))
          | inr h ↦ subst (λ (z : OwnLane I O gi go gm). IsHandOf turns (hand_in z.lane)) (sym (get_or-set_other xs at i y d h)) (all i d (let long = length-set xs at y in omega (arith, le, long)))
        ]
