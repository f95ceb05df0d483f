-- One sweep of a lane after others.
use Rattle.std.proofs.Common.{◌≡◌, refl, sym, ◌∙◌, ap, subst, ℕ, ◌+◌, ◌-◌, ◌^◌, ◌<◌, Bool, min, List, [], ◌∷◌, ◌++◌, Option, filter, length, length-append, append_assoc, append-nil, arith}
use Rattle.relay_outside.specs.declared.settings.Config.{Config}
use Rattle.turn_table.specs.declared.hands.Hand.{Hand}
use Rattle.turn_table.specs.Hands.{entries}
use Rattle.relay_core.specs.Entries.{Entry}
use Rattle.relay_core.specs.Records.{Made, list_of}
use Rattle.relay_core.specs.Turns.{made_by}
use Rattle.relay_core.proofs.Turns.{filter_append}
use Rattle.media_lane.specs.declared.answers.Totals.{Totals}
use Rattle.media_lane.specs.Receipts.{KeepsList}
use Rattle.media_lane.specs.Visits.{Row, Visit, rows_of, all_rows, has_packet, ends_with, has_sent, is_refused, is_lost, count, AreTotals}
use Rattle.media_lane.specs.Sweeps.{Sweeps}
use Rattle.media_lane.specs.SweepLoops.{sum_of, AddsTotals, visits_of, MakesSweeps}
use Rattle.media_lane.proofs.Visiting.{keeps_both, list_append}

rows_both : (config : Config) (vs ws : List Visit) → all_rows config (vs ++ ws) ≡ all_rows config vs ++ all_rows config ws
rows_both config [] ws = refl
rows_both config (v ∷ vs) ws =
    ap (λ (rows : List Row). rows_of config v ++ rows) (rows_both config vs ws) ∙ sym (append_assoc (rows_of config v) (all_rows config vs) (all_rows config ws))

-- Counts of both.

capped_sum : (a b c x y z : ℕ) → x ≡ min a (2 ^ 64 - 1) → y ≡ min b (2 ^ 64 - 1) → z ≡ min (x + y) (2 ^ 64 - 1) → c ≡ a + b → z ≡ min c (2 ^ 64 - 1)
capped_sum a b c x y z first second sum both = omega arith

count_both : (p : Visit → Bool) (vs ws : List Visit) (x y z : ℕ) → x ≡ count p vs → y ≡ count p ws → z ≡ sum_of x y → z ≡ count p (vs ++ ws)
count_both p vs ws x y z first second sum =
    capped_sum (length (filter p vs)) (length (filter p ws)) (length (filter p (vs ++ ws))) x y z first second sum
    (ap (λ (xs : List Visit). length xs) (filter_append p vs ws) ∙ length-append (filter p vs) (filter p ws))

pub totals_both : (vs ws : List Visit) (s t u : Totals) → AreTotals vs s → AreTotals ws t → AddsTotals s t u → AreTotals (vs ++ ws) u
totals_both vs ws s t u a b sum = record {
  taken = count_both has_packet vs ws s.taken t.taken u.taken a.taken b.taken sum.taken;
  sent = count_both (ends_with has_sent) vs ws s.sent t.sent u.sent a.sent b.sent sum.sent;
  refused = count_both (ends_with is_refused) vs ws s.refused t.refused u.refused a.refused b.refused sum.refused;
  lost = count_both (ends_with is_lost) vs ws s.lost t.lost u.lost a.lost b.lost sum.lost;
}

pub keeps_none : (config : Config) (l : List Entry) → KeepsList config l l
keeps_none config l = record { numbered = λ n. n; orderly = λ o. o; receiving = λ own r. r }

module _ {M S : Type 0} {g : _} where
  pub no_sweep : (config : Config) (index lanes : ℕ) (range : Option (ℕ × ℕ)) (hand : Hand M S Made (Unit {0}) g) (totals : Totals) → AreTotals [] totals
      → MakesSweeps config index lanes range hand hand totals
  no_sweep config index lanes range hand totals none =
      record { sweeps = []; are_sweeps = tt; list_is = sym (append-nil (entries hand)); totals_are = none }

  module _ (config : Config) (index lanes : ℕ) (range : Option (ℕ × ℕ)) (old mid new : Hand M S Made (Unit {0}) g) (s t u : Totals)
      (made : MakesSweeps config index lanes range old mid s) (sweep : Sweeps config index lanes range mid new t) (sum : AddsTotals s t u) where
    pub sweeps_more : MakesSweeps config index lanes range old new u
    sweeps_more = record {
      sweeps = sweep.visits ∷ made.sweeps;
      are_sweeps = (made.are_sweeps, record { passed = sweep.passed; own_once = sweep.own_once });
      list_is = sweep.list_is
          ∙ ap (λ (rows : List Row). rows ++ all_rows config sweep.visits) made.list_is
          ∙ append_assoc (entries old) (all_rows config (visits_of made.sweeps)) (all_rows config sweep.visits)
          ∙ ap (λ (rows : List Row). entries old ++ rows) (sym (rows_both config (visits_of made.sweeps) sweep.visits));
      totals_are = totals_both (visits_of made.sweeps) sweep.visits s t u made.totals_are sweep.totals_are sum;
    }

  -- what the lists keep
  pub keeps_swept : (config : Config) (index lanes : ℕ) (range : Option (ℕ × ℕ)) (old mid new : Hand M S Made (Unit {0}) g) (t : Totals) → Sweeps config index lanes range mid new t
      → KeepsList config (made_by old) (made_by mid) → KeepsList config (made_by mid) (made_by new) → KeepsList config (made_by old) (made_by new)
  keeps_swept config index lanes range old mid new t sweep before after =
      keeps_both config (made_by old) (made_by mid) (made_by new) (list_of (all_rows config sweep.visits))
      (ap (λ (rows : List Row). list_of rows) sweep.list_is ∙ list_append (entries mid) (all_rows config sweep.visits)) before after

module _ {M S : Type 0} {g : _} (config config' : Config) (index index' lanes lanes' : ℕ) (range : Option (ℕ × ℕ)) (old mid new : Hand M S Made (Unit {0}) g) (t : Totals)
    (config_is : config' ≡ config) (index_is : index' ≡ index) (lanes_are : lanes' ≡ lanes) (swept : Sweeps config' index' lanes' range mid new t) where
  same_sweep : Sweeps config index lanes range mid new t
  same_sweep =
      subst (λ (n : ℕ). Sweeps config index n range mid new t) lanes_are
      (subst (λ (n : ℕ). Sweeps config n lanes' range mid new t) index_is
      (subst (λ (k : Config). Sweeps k index' lanes' range mid new t) config_is swept))

  -- one more sweep of a lane that is the same
  pub loop_on : (s u : Totals) → MakesSweeps config index lanes range old mid s → AddsTotals s t u
      → (made : MakesSweeps config index lanes range old new u) × (0 < length made.sweeps)
  unfolding sweeps_more
  loop_on s u made sum = (sweeps_more config index lanes range old mid new s t u made same_sweep sum, omega arith)

  pub loop_keeps : KeepsList config (made_by old) (made_by mid) → KeepsList config' (made_by mid) (made_by new) → KeepsList config (made_by old) (made_by new)
  loop_keeps before after =
      keeps_swept config index lanes range old mid new t same_sweep before (subst (λ (k : Config). KeepsList k (made_by mid) (made_by new)) config_is after)
