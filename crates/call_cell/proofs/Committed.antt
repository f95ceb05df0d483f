-- What is in force on a leg is what a commit said, after the leg was added.
use Rattle.std.proofs.Common.{◌≡◌, refl, ap, sym, ◌∙◌, ℕ, List, [], ◌∷◌, ◌++◌, Bool, true, false, cond, Option, Some, None, filter_map}
use Rattle.std.specs.Prelude.{◌||◌}
use Rattle.std.specs.List.{list_any, cons_option}
use Rattle.histories.specs.Words.{In, here, there, first}
use Rattle.port_pool.specs.declared.holder.Holder.{Holder}
use Rattle.port_pool.specs.declared.signal.LegSignal.{LegSignal}
use Rattle.port_pool.specs.declared.signal.SectionSignal.{SectionSignal}
use Rattle.port_pool.specs.Signals.{same_leg, signal_at}
use Rattle.call_cell.specs.Cells.{CellEvent, CellEntry, Prepare, Commit, Relay, Expire, Read, End, legs_of, legs, life, committed, commits_for, in_force}
use Rattle.call_cell.proofs.Legs.{is_same_leg}
use Rattle.call_cell.proofs.Splits.{none_in, or_first}

-- the last commit of the leg, with what stands after and before it
pub record IsCommitted (h : List CellEntry) (leg : Holder) (s : LegSignal) : Type 0 where
  pub newer : List CellEntry
  pub entry : CellEntry
  pub older : List CellEntry
  pub splits : h ≡ newer ++ entry ∷ older
  pub signal : List SectionSignal
  pub is_commit : entry.event ≡ Commit signal
  pub says : signal_at signal leg.section leg.side ≡ Some s
  -- no later entry commits the leg, or adds it
  pub is_last : (e : CellEntry) → In e newer → committed leg e ≡ None
  pub adds_none : (e : CellEntry) → In e newer → list_any (same_leg leg) (legs_of e.event) ≡ false

-- an entry that commits the leg is a Commit
record IsCommit (e : CellEntry) (leg : Holder) (s : LegSignal) : Type 0 where
  signal : List SectionSignal
  is_commit : e.event ≡ Commit signal
  says : signal_at signal leg.section leg.side ≡ Some s

commit_event : (moment : ℕ) (event : CellEvent) (leg : Holder) (s : LegSignal) → commits_for leg event ≡ Some s
    → IsCommit (record { moment = moment; event = event }) leg s
commit_event moment (Commit signal) leg s q = record { signal = signal; is_commit = refl; says = q }
commit_event moment (Prepare call legs keys dropped) leg s q = absurd (let e = q in cc)
commit_event moment (Relay r) leg s q = absurd (let e = q in cc)
commit_event moment (Expire due) leg s q = absurd (let e = q in cc)
commit_event moment (Read log) leg s q = absurd (let e = q in cc)
commit_event moment End leg s q = absurd (let e = q in cc)

abbrev adds : Holder → CellEntry → Bool
adds leg e = list_any (same_leg leg) (legs_of e.event)

commit_here : (x : CellEntry) (h : List CellEntry) (leg : Holder) (s : LegSignal) → committed leg x ≡ Some s → IsCommitted (x ∷ h) leg s
commit_here x h leg s q =
    let c = commit_event x.moment x.event leg s q in
    record {
      newer = [];
      entry = x;
      older = h;
      splits = refl;
      signal = c.signal;
      is_commit = c.is_commit;
      says = c.says;
      is_last = none_in (λ (y : CellEntry). committed leg y ≡ None);
      adds_none = none_in (λ (y : CellEntry). adds leg y ≡ false);
    }

commit_there : (x : CellEntry) (h : List CellEntry) (leg : Holder) (s : LegSignal) → committed leg x ≡ None → adds leg x ≡ false
    → IsCommitted h leg s → IsCommitted (x ∷ h) leg s
commit_there x h leg s q none c = record {
  newer = x ∷ c.newer;
  entry = c.entry;
  older = c.older;
  splits = ap (λ (k : List CellEntry). x ∷ k) c.splits;
  signal = c.signal;
  is_commit = c.is_commit;
  says = c.says;
  is_last = or_first (λ (y : CellEntry). committed leg y ≡ None) q c.is_last;
  adds_none = or_first (λ (y : CellEntry). adds leg y ≡ false) none c.adds_none;
}

said_case : (x : CellEntry) (h : List CellEntry) (leg : Holder) (s : LegSignal) → (in_force h leg ≡ Some s → IsCommitted h leg s)
    → adds leg x ≡ false → (o : Option LegSignal) → committed leg x ≡ o
    → first (cons_option o (filter_map (committed leg) (life h leg))) ≡ Some s → IsCommitted (x ∷ h) leg s
said_case x h leg s rest none None q f = commit_there x h leg s q none (rest f)
said_case x h leg s rest none (Some t) q f = commit_here x h leg s (q ∙ f)

force_case : (x : CellEntry) (h : List CellEntry) (leg : Holder) (s : LegSignal) → (in_force h leg ≡ Some s → IsCommitted h leg s)
    → (b : Bool) → adds leg x ≡ b → first (filter_map (committed leg) (cond b [] (x ∷ life h leg))) ≡ Some s → IsCommitted (x ∷ h) leg s
force_case x h leg s rest true q f = absurd (let e = f in cc)
force_case x h leg s rest false q f = said_case x h leg s rest q (committed leg x) refl f

pub in_force_committed : (h : List CellEntry) (leg : Holder) (s : LegSignal) → in_force h leg ≡ Some s → IsCommitted h leg s
in_force_committed [] leg s q = absurd (let e = q in cc)
in_force_committed (x ∷ h) leg s q = force_case x h leg s (in_force_committed h leg s) (adds leg x) refl q

-- what adds the leg is seen to

or_true : (b c : Bool) → b ≡ true → (b || c) ≡ true
or_true true c q = refl
or_true false c q = absurd (let e = q in cc)

true_or : (b c : Bool) → c ≡ true → (b || c) ≡ true
true_or true c q = refl
true_or false c q = q

is_among : (leg : Holder) (xs : List Holder) → In leg xs → list_any (same_leg leg) xs ≡ true
is_among leg [] i = elim i [ ]
is_among leg (x ∷ xs) (here q) =
    or_true (same_leg leg x) (list_any (same_leg leg) xs) (sym (ap (λ (y : Holder). same_leg leg y) q) ∙ is_same_leg leg)
is_among leg (x ∷ xs) (there i) = true_or (same_leg leg x) (list_any (same_leg leg) xs) (is_among leg xs i)
