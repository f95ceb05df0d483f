-- A leg over one commit: it is committed, or nothing is said of it.
use Rattle.std.proofs.Common.{◌≡◌, refl, ap, subst, sym, ◌∙◌, ℕ, Bool, true, false, cond, List, [], ◌∷◌, filter, Option, Some, None}
use Rattle.std.specs.Prelude.{◌||◌}
use Rattle.std.specs.List.{cons_option}
use Rattle.relay_outside.specs.declared.settings.Config.{Config}
use Rattle.rtp_packet.specs.declared.head.Half.{Half}
use Rattle.sdes_lines.specs.declared.crypto_line.Suite.{Suite}
use Rattle.sdes_lines.specs.declared.crypto_line.Suite.TheVariants.{Tag80, Tag32}
use Rattle.srtp_sources.specs.Notes.{Note}
use Rattle.srtp_sources.proofs.Knowing.{equal}
use Rattle.histories.specs.Words.{In, first, or_else}
use Rattle.histories.proofs.Lists.{filtered, keeps, first_is_in}
use Rattle.port_pool.specs.declared.holder.Holder.{Holder}
use Rattle.port_pool.specs.declared.signal.LegSignal.{LegSignal}
use Rattle.port_pool.specs.declared.signal.SectionSignal.{SectionSignal}
use Rattle.port_pool.specs.Signals.{NewKey, suite_eq}
use Rattle.call_cell.specs.Parts.{inbound_of, learner_of}
use Rattle.relay_outside.specs.declared.address.Addr.{Addr}
use Rattle.call_cell.specs.declared.contexts.Outbound.{Outbound}
use Rattle.call_cell.specs.declared.sender.Sending.{Sending}
use Rattle.call_cell.specs.declared.leg.Leg.{Leg}
use Rattle.call_cell.specs.Cells.{CellEntry, Commit, differs, in_force}
use Rattle.call_cell.specs.Protection.{same_inbound, accepted}
use Rattle.endpoint_learn.specs.Lessons as learner
use Rattle.endpoint_learn.specs.Lessons.{Signalling, is_new}
use Rattle.endpoint_learn.proofs.Lessons.{learned_again}
use Rattle.call_cell.specs.Lessons.{address, step_by, steps_of, learned}
use Rattle.call_cell.specs.LegKeys.{keys_for, key_number_for, key_number_of, OnePerSuite}
use Rattle.call_cell.specs.Parts.{InboundIn, HasIt, boxed_in, contexts_of, has_number, is_numbered, key_number_in}
use Rattle.call_cell.specs.LegHistories.{LegStandsFor}
use Rattle.call_cell.specs.Commits.{LegCommits, LegCommitsBy, HasKey, relearned, said_of, outbound_in}
use Rattle.call_cell.proofs.Steps.{commit_in_force, commit_accepted, signal_is}
use Rattle.call_cell.proofs.KeysEqual.{suite_is}

abbrev pub commit_entry : ℕ → List SectionSignal → CellEntry
commit_entry moment signal = record { moment = moment; event = Commit signal }

-- The key that a signal names.

suite_itself : (s : Suite) → suite_eq s s ≡ true
suite_itself Tag80 = refl
suite_itself Tag32 = refl

-- of the keys for a suite there is a first one
first_there : (key : NewKey) (keys : List NewKey) → In key keys → (k : NewKey) × (first keys ≡ Some k)
first_there key [] i = elim i [ ]
first_there key (k ∷ keys) i = (k, refl)

numbered_so : (o : Option Outbound) (n : ℕ) → key_number_in o ≡ Some n → is_numbered o n ≡ true
numbered_so None n q = absurd (let e = q in cc)
numbered_so (Some x) n q = equal x.number n (let e = q in cc)

or_right : (b : Bool) → (b || true) ≡ true
or_right true = refl
or_right false = refl

has_so : {O : Type 0} (suite : Suite) (sending : Sending O) (n : ℕ) → key_number_in (contexts_of suite sending) ≡ Some n → has_number sending n ≡ true
has_so Tag80 sending n q = ap (λ (b : Bool). b || is_numbered (boxed_in sending.tag32) n) (numbered_so (boxed_in sending.tag80) n q)
has_so Tag32 sending n q = ap (λ (b : Bool). is_numbered (boxed_in sending.tag80) n || b) (numbered_so (boxed_in sending.tag32) n q) ∙ or_right (is_numbered (boxed_in sending.tag80) n)

-- a key of a leg has its contexts
pub has_of : {O : Type 0} (keys : List NewKey) (sending : Sending O) (n : ℕ) → ((suite : Suite) → key_number_in (contexts_of suite sending) ≡ key_number_for suite keys)
    → OnePerSuite keys → (k : NewKey) → In k keys → k.number ≡ n → has_number sending n ≡ true
has_of keys sending n held one k stands is =
    let test : NewKey → Bool = λ (x : NewKey). suite_eq x.suite k.suite in
    let f = first_there k (filter test keys) (keeps test keys stands (suite_itself k.suite)) in
    let first_one = filtered test keys (first_is_in (filter test keys) f.1) in
    let same : f.0.number ≡ n = one f.0 k first_one.0 stands (suite_is f.0.suite k.suite first_one.1) ∙ is in
    has_so k.suite sending n (held k.suite ∙ ap key_number_of f.1 ∙ ap Some same)

named_by : {O : Type 0} (config : Config) (h : List CellEntry) (leg : Leg O) (o : Option ℕ) → LegStandsFor config h leg
    → ((n : ℕ) → o ≡ Some n → HasKey h leg.holder n) → HasIt o leg.sending
named_by config h leg None for keys = tt
named_by config h leg (Some n) for keys =
    let key = keys n refl in
    has_of (keys_for h leg.holder) leg.sending n for.held for.one_each key.key key.is_there key.number_is

-- What a commit does to what is received.

learned_still : (m : ℕ) (signal : List SectionSignal) (h : List CellEntry) (leg : Holder) (half : Half) → said_of signal leg ≡ None
    → learned (commit_entry m signal ∷ h) leg half ≡ learned h leg half
learned_still m signal h leg half is =
    ap (λ (o : Option LegSignal). learner.learned_after (cons_option (step_by leg half o None) (steps_of h leg half))) is

learned_so : (m : ℕ) (signal : List SectionSignal) (h : List CellEntry) (leg : Holder) (half : Half) (s : LegSignal) (earlier : Option LegSignal)
    → said_of signal leg ≡ Some s → earlier ≡ in_force h leg
    → learned (commit_entry m signal ∷ h) leg half ≡ relearned earlier s half (learned h leg half)
learned_so m signal h leg half s earlier is force =
    ap (λ (o : Option LegSignal). learner.learned_after (cons_option (step_by leg half o None) (steps_of h leg half))) is
    ∙ learned_again (steps_of h leg half) (address half s) s.flags
    ∙ ap (λ (o : Option Signalling). cond (is_new (address half s) o) None (learned h leg half)) (signal_is h leg half earlier (sym force))

accepted_so : (m : ℕ) (signal : List SectionSignal) (h : List CellEntry) (leg : Holder) (said earlier : Option LegSignal) → said_of signal leg ≡ said
    → earlier ≡ in_force h leg
    → accepted (commit_entry m signal ∷ h) leg ≡ cond (differs same_inbound said earlier) [] (accepted h leg)
accepted_so m signal h leg said earlier is force =
    commit_accepted m signal h leg
    ∙ ap (λ (o : Option LegSignal). cond (differs same_inbound o (in_force h leg)) [] (accepted h leg)) is
    ∙ sym (ap (λ (o : Option LegSignal). cond (differs same_inbound said o) [] (accepted h leg)) force)

force_so : (m : ℕ) (signal : List SectionSignal) (h : List CellEntry) (leg : Holder) (said : Option LegSignal) → said_of signal leg ≡ said
    → in_force (commit_entry m signal ∷ h) leg ≡ or_else said (in_force h leg)
force_so m signal h leg said is = commit_in_force m signal h leg ∙ ap (λ (o : Option LegSignal). or_else o (in_force h leg)) is

-- The leg.

silent_leg : {O : Type 0} (config : Config) (m : ℕ) (signal : List SectionSignal) (h : List CellEntry) (leg : Leg O) → said_of signal leg.holder ≡ None
    → LegStandsFor config h leg → LegStandsFor config (commit_entry m signal ∷ h) leg
silent_leg config m signal h leg is for =
    record {
      pair = for.pair;
      generation = for.generation;
      signal = for.signal ∙ sym (force_so m signal h leg.holder None is);
      family = for.family;
      port = for.port;
      receiving = record {
        learned = λ half. for.receiving.learned half ∙ ap (λ (o : Option Addr). learner_of half leg.signal o) (sym (learned_still m signal h leg.holder half is));
        inbound = subst (λ (l : List Note). InboundIn (inbound_of leg.signal) (boxed_in leg.receiving.inbound) l)
            (sym (accepted_so m signal h leg.holder None leg.signal is for.signal)) for.receiving.inbound;
      };
      sending = for.sending;
      named = for.named;
      section = for.section;
      held = for.held;
      one_each = for.one_each;
      counted = record { accepted = for.counted.accepted; sent = for.counted.sent };
      reported = for.reported;
    }

said_leg : {O : Type 0} (config : Config) (m : ℕ) (signal : List SectionSignal) (h : List CellEntry) (old new : Leg O) (s : LegSignal)
    → said_of signal old.holder ≡ Some s → ((n : ℕ) → s.outbound ≡ Some n → HasKey h old.holder n) → LegCommits s old new → LegStandsFor config h old
    → LegStandsFor config (commit_entry m signal ∷ h) new
said_leg {O} config m signal h old new s is keys does for =
    let r = does.receiving (learned h old.holder) (accepted h old.holder) for.receiving in
    let P : Leg O → Type 0 = λ (l : Leg O). LegStandsFor config (commit_entry m signal ∷ h) l in
    subst P (sym does.rest)
    (record {
      pair = for.pair;
      generation = for.generation;
      signal = sym (force_so m signal h old.holder (Some s) is);
      family = for.family;
      port = for.port;
      receiving = record {
        learned = λ half. r.learned half ∙ ap (λ (o : Option Addr). learner_of half (Some s) o) (sym (learned_so m signal h old.holder half s old.signal is for.signal));
        inbound = subst (λ (l : List Note). InboundIn s.inbound (boxed_in new.receiving.inbound) l)
            (sym (accepted_so m signal h old.holder (Some s) old.signal is for.signal)) r.inbound;
      };
      sending = for.sending;
      named = named_by config h old s.outbound for keys;
      section = for.section;
      held = for.held;
      one_each = for.one_each;
      counted = record { accepted = for.counted.accepted; sent = for.counted.sent };
      reported = for.reported;
    })

pub committed_leg : {O : Type 0} (config : Config) (m : ℕ) (signal : List SectionSignal) (h : List CellEntry) (old new : Leg O) (said : Option LegSignal)
    → said_of signal old.holder ≡ said → ((n : ℕ) → outbound_in said ≡ Some n → HasKey h old.holder n) → LegCommitsBy said old new → LegStandsFor config h old
    → LegStandsFor config (commit_entry m signal ∷ h) new
committed_leg {O} config m signal h old new None is keys does for =
    subst (λ (l : Leg O). LegStandsFor config (commit_entry m signal ∷ h) l) (sym does) (silent_leg config m signal h old is for)
committed_leg config m signal h old new (Some s) is keys does for = said_leg config m signal h old new s is keys does for
