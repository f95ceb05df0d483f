-- What an offer and an answer ask of a cell's history hangs on its lasting entries alone.
use Rattle.std.proofs.Common.{◌≡◌, refl, ap, subst, sym, ◌∙◌, ℕ, Bool, true, false, cond, not, List, [], ◌∷◌, ◌++◌, Option, map, filter, filter_map, length}
use Rattle.std.specs.List.{list_any, count_by, cons_option}
use Rattle.std.proofs.lemmas.List.Sums.{length-filter}
use Rattle.relay_outside.specs.declared.settings.Config.{Config}
use Rattle.histories.specs.Words.{In, first, final, has}
use Rattle.port_pool.specs.declared.holder.Holder.{Holder}
use Rattle.port_pool.specs.declared.signal.LegSignal.{LegSignal}
use Rattle.port_pool.specs.declared.signal.SectionSignal.{SectionSignal}
use Rattle.port_pool.specs.Signals.{NewKey, same_leg}
use Rattle.call_cell.specs.declared.prepare.Prepare as prepared
use Rattle.call_cell.specs.Cells.{CellEvent, CellEntry, Prepare, Commit, Relay, Expire, Read, End, since_end, call_prepared, prepared_call, call, legs_of, takes_away, legs, life, commits_for, committed, in_force, keys_of, keys_in, key_numbered}
use Rattle.call_cell.specs.LegKeys.{keys_since, keys_for, is_for_leg, OnePerSuite}
use Rattle.call_cell.specs.SignalEntries.{is_lasting, lasting_entries}
use Rattle.call_cell.specs.Commits.{NamesKeys, contexts_due_after, needs_inbound, said_of}
use Rattle.call_cell.specs.Preparations.{CanCome, added, prepare_entry}
use Rattle.call_cell.proofs.Legs.{legs_stay}
use Rattle.call_cell.proofs.Offered.{filter_by}

-- The lasting entries.

abbrev pub entry_at : ℕ → CellEvent → CellEntry
entry_at moment event = record { moment = moment; event = event }

-- what the lasting entries are, without their moments
abbrev pub lasting_events : List CellEntry → List CellEvent
lasting_events h = map (λ (e : CellEntry). e.event) (lasting_entries h)

abbrev pub bare : List CellEvent → List CellEntry
bare events = map (entry_at 0) events

again_case : (e : CellEntry) (h : List CellEntry) → lasting_entries (lasting_entries h) ≡ lasting_entries h → (b : Bool) → is_lasting e.event ≡ b
    → lasting_entries (cond b (e ∷ lasting_entries h) (lasting_entries h)) ≡ cond b (e ∷ lasting_entries h) (lasting_entries h)
again_case e h rest true q =
    ap (λ (b : Bool). cond b (e ∷ lasting_entries (lasting_entries h)) (lasting_entries (lasting_entries h))) q ∙ ap (λ (l : List CellEntry). e ∷ l) rest
again_case e h rest false q = rest

pub kept_again : (h : List CellEntry) → lasting_entries (lasting_entries h) ≡ lasting_entries h
kept_again [] = refl
kept_again (e ∷ h) = again_case e h (kept_again h) (is_lasting e.event) refl

since_event : (moment : ℕ) (event : CellEvent) (h : List CellEntry) → lasting_entries (since_end h) ≡ since_end (lasting_entries h)
    → lasting_entries (since_end (entry_at moment event ∷ h)) ≡ since_end (lasting_entries (entry_at moment event ∷ h))
since_event moment (Prepare call legs keys dropped) h rest = ap (λ (l : List CellEntry). entry_at moment (Prepare call legs keys dropped) ∷ l) rest
since_event moment (Commit signal) h rest = ap (λ (l : List CellEntry). entry_at moment (Commit signal) ∷ l) rest
since_event moment (Relay r) h rest = rest
since_event moment (Expire due) h rest = rest
since_event moment (Read log) h rest = rest
since_event moment End h rest = refl

-- the lasting entries since the last End
pub kept_since : (h : List CellEntry) → lasting_entries (since_end h) ≡ since_end (lasting_entries h)
kept_since [] = refl
kept_since (e ∷ h) = since_event e.moment e.event h (kept_since h)

-- A question that each entry changes by its event alone, and none but a lasting one changes.
pub record IsLasting {X : Type 0} (f : List CellEntry → X) : Type 0 where
  pub step : (d e : CellEntry) (g h : List CellEntry) → d.event ≡ e.event → f g ≡ f h → f (d ∷ g) ≡ f (e ∷ h)
  pub skip : (moment : ℕ) (event : CellEvent) (h : List CellEntry) → is_lasting event ≡ false → f (entry_at moment event ∷ h) ≡ f h

bare_case : {X : Type 0} (f : List CellEntry → X) → IsLasting f → (e : CellEntry) (h : List CellEntry) → f (bare (lasting_events h)) ≡ f h
    → (b : Bool) → is_lasting e.event ≡ b → f (bare (map (λ (x : CellEntry). x.event) (cond b (e ∷ lasting_entries h) (lasting_entries h)))) ≡ f (e ∷ h)
bare_case f asks e h rest true q = asks.step (entry_at 0 e.event) e (bare (lasting_events h)) h refl rest
bare_case f asks e h rest false q = rest ∙ sym (asks.skip e.moment e.event h q)

bare_so : {X : Type 0} (f : List CellEntry → X) → IsLasting f → (h : List CellEntry) → f (bare (lasting_events h)) ≡ f h
bare_so f asks [] = refl
bare_so f asks (e ∷ h) = bare_case f asks e h (bare_so f asks h) (is_lasting e.event) refl

pub lasts : {X : Type 0} (f : List CellEntry → X) → IsLasting f → (h k : List CellEntry) → lasting_events h ≡ lasting_events k → f h ≡ f k
lasts f asks h k same = sym (bare_so f asks h) ∙ ap (λ (l : List CellEvent). f (bare l)) same ∙ bare_so f asks k

-- The questions.

no_legs : (event : CellEvent) → is_lasting event ≡ false → legs_of event ≡ []
no_legs (Prepare call legs keys dropped) q = absurd (let e = q in cc)
no_legs (Commit signal) q = refl
no_legs (Relay r) q = refl
no_legs (Expire due) q = refl
no_legs (Read log) q = refl
no_legs End q = refl

takes_none : (event : CellEvent) (section : ℕ) → is_lasting event ≡ false → takes_away event section ≡ false
takes_none (Prepare call legs keys dropped) section q = absurd (let e = q in cc)
takes_none (Commit signal) section q = absurd (let e = q in cc)
takes_none (Relay r) section q = refl
takes_none (Expire due) section q = refl
takes_none (Read log) section q = refl
takes_none End section q = refl

legs_step : (d e : CellEntry) (g h : List CellEntry) → d.event ≡ e.event → legs g ≡ legs h → legs (d ∷ g) ≡ legs (e ∷ h)
legs_step d e g h q rest =
    ap (λ (v : CellEvent). filter (λ (leg : Holder). not (takes_away v leg.section)) (legs g) ++ legs_of v) q
    ∙ ap (λ (l : List Holder). filter (λ (leg : Holder). not (takes_away e.event leg.section)) l ++ legs_of e.event) rest

legs_last : IsLasting legs
legs_last = record {
  step = legs_step;
  skip = λ moment event h q. legs_stay (entry_at moment event) h (no_legs event q) (λ section. takes_none event section q);
}

keys_skip : (moment : ℕ) (event : CellEvent) (h : List CellEntry) → is_lasting event ≡ false → keys_in (entry_at moment event ∷ h) ≡ keys_in h
keys_skip moment (Prepare call legs keys dropped) h q = absurd (let e = q in cc)
keys_skip moment (Commit signal) h q = refl
keys_skip moment (Relay r) h q = refl
keys_skip moment (Expire due) h q = refl
keys_skip moment (Read log) h q = refl
keys_skip moment End h q = refl

keys_last : IsLasting keys_in
keys_last = record {
  step = λ d e g h q rest. ap (λ (v : CellEvent). keys_of v ++ keys_in g) q ∙ ap (λ (l : List NewKey). keys_of e.event ++ l) rest;
  skip = keys_skip;
}

abbrev keys_of_leg : Holder → List CellEntry → List NewKey
keys_of_leg leg h = keys_since h leg

since_skip : (leg : Holder) (moment : ℕ) (event : CellEvent) (h : List CellEntry) → is_lasting event ≡ false
    → keys_since (entry_at moment event ∷ h) leg ≡ keys_since h leg
since_skip leg moment (Prepare call legs keys dropped) h q = absurd (let e = q in cc)
since_skip leg moment (Commit signal) h q = refl
since_skip leg moment (Relay r) h q = refl
since_skip leg moment (Expire due) h q = refl
since_skip leg moment (Read log) h q = refl
since_skip leg moment End h q = refl

since_last : (leg : Holder) → IsLasting (keys_of_leg leg)
since_last leg = record {
  step = λ d e g h q rest.
      ap (λ (v : CellEvent). keys_of v ++ cond (list_any (same_leg leg) (legs_of v)) [] (keys_since g leg)) q
      ∙ ap (λ (l : List NewKey). keys_of e.event ++ cond (list_any (same_leg leg) (legs_of e.event)) [] l) rest;
  skip = since_skip leg;
}

abbrev commits_of : Holder → List CellEntry → List LegSignal
commits_of leg h = filter_map (committed leg) (life h leg)

commits_case : (leg : Holder) (d e : CellEntry) (g h : List CellEntry) → d.event ≡ e.event → commits_of leg g ≡ commits_of leg h → (b : Bool)
    → filter_map (committed leg) (cond b [] (d ∷ life g leg)) ≡ filter_map (committed leg) (cond b [] (e ∷ life h leg))
commits_case leg d e g h q rest true = refl
commits_case leg d e g h q rest false =
    ap (λ (v : CellEvent). cons_option (commits_for leg v) (commits_of leg g)) q
    ∙ ap (λ (l : List LegSignal). cons_option (commits_for leg e.event) l) rest

commits_skip : (leg : Holder) (moment : ℕ) (event : CellEvent) (h : List CellEntry) → is_lasting event ≡ false
    → commits_of leg (entry_at moment event ∷ h) ≡ commits_of leg h
commits_skip leg moment (Prepare call legs keys dropped) h q = absurd (let e = q in cc)
commits_skip leg moment (Commit signal) h q = absurd (let e = q in cc)
commits_skip leg moment (Relay r) h q = refl
commits_skip leg moment (Expire due) h q = refl
commits_skip leg moment (Read log) h q = refl
commits_skip leg moment End h q = refl

commits_last : (leg : Holder) → IsLasting (commits_of leg)
commits_last leg = record {
  step = λ d e g h q rest.
      ap (λ (v : CellEvent). filter_map (committed leg) (cond (list_any (same_leg leg) (legs_of v)) [] (d ∷ life g leg))) q
      ∙ commits_case leg d e g h q rest (list_any (same_leg leg) (legs_of e.event));
  skip = commits_skip leg;
}

abbrev calls_of : List CellEntry → List ℕ
calls_of h = filter_map prepared_call h

calls_skip : (moment : ℕ) (event : CellEvent) (h : List CellEntry) → is_lasting event ≡ false → calls_of (entry_at moment event ∷ h) ≡ calls_of h
calls_skip moment (Prepare call legs keys dropped) h q = absurd (let e = q in cc)
calls_skip moment (Commit signal) h q = refl
calls_skip moment (Relay r) h q = refl
calls_skip moment (Expire due) h q = refl
calls_skip moment (Read log) h q = refl
calls_skip moment End h q = refl

calls_last : IsLasting calls_of
calls_last = record {
  step = λ d e g h q rest.
      ap (λ (v : CellEvent). cons_option (call_prepared v) (calls_of g)) q ∙ ap (λ (l : List ℕ). cons_option (call_prepared e.event) l) rest;
  skip = calls_skip;
}

-- Two histories with the same lasting entries, but for their moments.

pub record SameLasting (h k : List CellEntry) : Type 0 where
  pub legs_are : legs h ≡ legs k
  pub keys_are : keys_in h ≡ keys_in k
  pub since_are : (leg : Holder) → keys_since h leg ≡ keys_since k leg
  pub force_is : (leg : Holder) → in_force h leg ≡ in_force k leg
  pub call_is : call h ≡ call k

pub same_lasting : (h k : List CellEntry) → lasting_events h ≡ lasting_events k → SameLasting h k
same_lasting h k same = record {
  legs_are = lasts legs legs_last h k same;
  keys_are = lasts keys_in keys_last h k same;
  since_are = λ leg. lasts (keys_of_leg leg) (since_last leg) h k same;
  force_is = λ leg. ap (λ (l : List LegSignal). first l) (lasts (commits_of leg) (commits_last leg) h k same);
  call_is = ap (λ (l : List ℕ). final l) (lasts calls_of calls_last h k same);
}

pub keys_for_same : (h k : List CellEntry) → SameLasting h k → (leg : Holder) → keys_for h leg ≡ keys_for k leg
keys_for_same h k s leg = ap (λ (l : List NewKey). filter (is_for_leg leg) l) (s.since_are leg)

pub numbered_same : (h k : List CellEntry) → SameLasting h k → (number : ℕ) → key_numbered h number ≡ key_numbered k number
numbered_same h k s number =
    ap (λ (l : List NewKey). first (filter (λ (key : NewKey). Rattle.std.specs.Prelude.◌==◌ key.number number) l)) s.keys_are

abbrev pub turned : (h k : List CellEntry) → SameLasting h k → SameLasting k h
turned h k s = record {
  legs_are = sym s.legs_are;
  keys_are = sym s.keys_are;
  since_are = λ leg. sym (s.since_are leg);
  force_is = λ leg. sym (s.force_is leg);
  call_is = sym s.call_is;
}

-- what can come after the one can come after the other
pub can_come_same : {O : Type 0} (config : Config) (h k : List CellEntry) (signal : prepared.Prepare O) (number : ℕ) (keys : List NewKey) (dropped : List ℕ)
    → SameLasting h k → CanCome config h signal number keys dropped → CanCome config k signal number keys dropped
can_come_same {O} config h k signal number keys dropped s can =
    let stays : Holder → Bool = λ (leg : Holder). not (has dropped leg.section) in
    let e = prepare_entry 0 number (added signal) keys dropped in
    let in_legs : (leg : Holder) → In leg (legs k) → In leg (legs h) = λ leg i. subst (λ (l : List Holder). In leg l) (sym s.legs_are) i in
    let keys_are : (leg : Holder) → keys_for (e ∷ h) leg ≡ keys_for (e ∷ k) leg
    = λ leg. ap (λ (l : List NewKey). filter (is_for_leg leg) (keys ++ cond (list_any (same_leg leg) (added signal)) [] l)) (s.since_are leg) in
    record {
      sections = can.sections;
      families = can.families;
      ports = can.ports;
      differ = can.differ;
      new_lease = λ leg other i j. can.new_lease leg other i (in_legs other j);
      free_place = λ leg other i j. can.free_place leg other i (in_legs other j);
      one_each = λ leg i. subst (λ (l : List NewKey). OnePerSuite l) (keys_are leg)
          (can.one_each leg (subst (λ (l : List Holder). In leg (filter stays l ++ added signal)) (sym s.legs_are) i));
      new_number = λ key i. sym (numbered_same h k s key.number) ∙ can.new_number key i;
      numbers_differ = can.numbers_differ;
    }

pub names_keys_same : (h k : List CellEntry) (signal : List SectionSignal) → SameLasting h k → NamesKeys h signal → NamesKeys k signal
names_keys_same h k signal s names leg number i q =
    let it = names leg number (subst (λ (l : List Holder). In leg l) (sym s.legs_are) i) q in
    record { key = it.key; is_there = subst (λ (l : List NewKey). In it.key l) (keys_for_same h k s leg) it.is_there; number_is = it.number_is }

pub due_same : (h k : List CellEntry) (signal : List SectionSignal) → SameLasting h k → contexts_due_after h signal ≡ contexts_due_after k signal
due_same h k signal s =
    let p : Holder → Bool = λ (leg : Holder). needs_inbound (in_force h leg) (said_of signal leg) in
    let q : Holder → Bool = λ (leg : Holder). needs_inbound (in_force k leg) (said_of signal leg) in
    ap (λ (l : List Holder). count_by p l) s.legs_are
    ∙ sym (length-filter p (legs k))
    ∙ ap (λ (l : List Holder). length l) (filter_by q p (legs k) (λ leg i. ap (λ (x : Option LegSignal). needs_inbound x (said_of signal leg)) (s.force_is leg)))
    ∙ length-filter q (legs k)

-- Two histories with the same lasting entries.

pub same_kept : (h k : List CellEntry) → lasting_entries h ≡ lasting_entries k → SameLasting (since_end h) (since_end k)
same_kept h k same =
    same_lasting (since_end h) (since_end k)
    (ap (λ (l : List CellEntry). map (λ (e : CellEntry). e.event) l) (kept_since h ∙ ap (λ (l : List CellEntry). since_end l) same ∙ sym (kept_since k)))

-- the keys of a history are those of its lasting entries
pub keys_in_kept : (h : List CellEntry) → keys_in (lasting_entries h) ≡ keys_in h
keys_in_kept h =
    lasts keys_in keys_last (lasting_entries h) h (ap (λ (l : List CellEntry). map (λ (e : CellEntry). e.event) l) (kept_again h))

-- and so a history and its lasting entries
pub kept_is_same : (h : List CellEntry) → SameLasting (since_end (lasting_entries h)) (since_end h)
kept_is_same h = same_kept (lasting_entries h) h (kept_again h)

pub legs_kept : (h : List CellEntry) → legs (since_end (lasting_entries h)) ≡ legs (since_end h)
legs_kept h = let s = kept_is_same h in s.legs_are

pub can_come_kept : {O : Type 0} (config : Config) (h k : List CellEntry) (signal : prepared.Prepare O) (number : ℕ) (keys : List NewKey) (dropped : List ℕ)
    → lasting_entries h ≡ lasting_entries k → CanCome config (since_end h) signal number keys dropped → CanCome config (since_end k) signal number keys dropped
can_come_kept config h k signal number keys dropped same can =
    can_come_same config (since_end h) (since_end k) signal number keys dropped (same_kept h k same) can

pub names_keys_kept : (h k : List CellEntry) (signal : List SectionSignal) → lasting_entries h ≡ lasting_entries k → NamesKeys (since_end h) signal → NamesKeys (since_end k) signal
names_keys_kept h k signal same names = names_keys_same (since_end h) (since_end k) signal (same_kept h k same) names

pub due_kept : (h k : List CellEntry) (signal : List SectionSignal) → lasting_entries h ≡ lasting_entries k
    → contexts_due_after (since_end h) signal ≡ contexts_due_after (since_end k) signal
due_kept h k signal same = due_same (since_end h) (since_end k) signal (same_kept h k same)
