-- What one more entry does to each question to a cell.
use Rattle.std.proofs.Common.{◌≡◌, refl, ap, ◌∙◌, ℕ, List, [], ◌∷◌, Bool, true, false, cond, Option, Some, None, option_map, map, filter, filter_map, not, ◌==◌, append-nil}
use Rattle.std.specs.Prelude.{◌&&◌}
use Rattle.std.specs.List.{list_any, cons_option}
use Rattle.relay_outside.specs.declared.address.Addr.{Addr}
use Rattle.rtp_packet.specs.declared.head.Half.{Half}
use Rattle.srtp_sources.specs.Notes.{Note}
use Rattle.histories.specs.Words.{first, or_else}
use Rattle.port_pool.specs.declared.holder.Holder.{Holder}
use Rattle.port_pool.specs.declared.signal.LegSignal.{LegSignal}
use Rattle.port_pool.specs.declared.signal.SectionSignal.{SectionSignal}
use Rattle.port_pool.specs.Signals.{NewKey, same_leg, signal_at, is_rejected}
use Rattle.call_cell.specs.Cells.{CellEvent, CellEntry, Prepare, Commit, Relay, Relayed, Shield, call, legs, life, committed, in_force, differs, is_accepted, accepted_of, relayed, since_change}
use Rattle.call_cell.specs.Protection.{same_inbound, span, accepted, shield_of, protected}
use Rattle.endpoint_learn.specs.Lessons as learner
use Rattle.endpoint_learn.specs.Lessons.{LearnStep, Heard, last_signal}
use Rattle.call_cell.specs.Lessons.{signalling, hears, step_by, steps_of, learned}
use Rattle.call_cell.specs.Parts.{note_under}
use Rattle.call_cell.proofs.Legs.{legs_stay}

abbrev entry : ℕ → CellEvent → CellEntry
entry moment event = record { moment = moment; event = event }

abbrev pub if_true : {A : Type 0} → Bool → Option A → Option A
if_true true o = o
if_true false o = None

-- A relay.

pub relay_legs : (moment : ℕ) (r : Relayed) (h : List CellEntry) → legs (entry moment (Relay r) ∷ h) ≡ legs h
relay_legs moment r h = legs_stay (entry moment (Relay r)) h refl (λ section. refl)

-- what the relay notes under the leg's inbound key
abbrev pub note_for : Holder → Relayed → Option Note
note_for leg r = if_true (same_leg leg r.packet.holder && is_accepted r.deed.outcome) r.deed.noted

noted_case : (r : Relayed) (rest : List Relayed) (b : Bool)
    → filter_map (λ (x : Relayed). x.deed.noted) (cond b (r ∷ rest) rest) ≡ cons_option (if_true b r.deed.noted) (filter_map (λ (x : Relayed). x.deed.noted) rest)
noted_case r rest true = refl
noted_case r rest false = refl

pub relay_accepted : (moment : ℕ) (r : Relayed) (h : List CellEntry) (leg : Holder)
    → accepted (entry moment (Relay r) ∷ h) leg ≡ cons_option (note_for leg r) (accepted h leg)
relay_accepted moment r h leg =
    noted_case r (accepted_of (span h leg) leg) (same_leg leg r.packet.holder && is_accepted r.deed.outcome)

under_case : (key : ℕ) (s : Shield) (rest : List Shield) (b : Bool)
    → map (λ (x : Shield). x.note) (cond b (s ∷ rest) rest) ≡ cons_option (cond b (Some s.note) None) (map (λ (x : Shield). x.note) rest)
under_case key s rest true = refl
under_case key s rest false = refl

shield_case : (key : ℕ) (shields : List Shield) (o : Option Shield)
    → map (λ (x : Shield). x.note) (filter (λ (x : Shield). x.key == key) (cons_option o shields))
    ≡ cons_option (note_under key o) (map (λ (x : Shield). x.note) (filter (λ (x : Shield). x.key == key) shields))
shield_case key shields None = refl
shield_case key shields (Some s) = under_case key s (filter (λ (x : Shield). x.key == key) shields) (s.key == key)

pub relay_protected : (moment : ℕ) (r : Relayed) (h : List CellEntry) (key : ℕ)
    → protected (entry moment (Relay r) ∷ h) key ≡ cons_option (note_under key r.deed.shield) (protected h key)
relay_protected moment r h key = shield_case key (filter_map shield_of h) r.deed.shield

-- A commit.

pub commit_legs : (moment : ℕ) (signal : List SectionSignal) (h : List CellEntry)
    → legs (entry moment (Commit signal) ∷ h) ≡ filter (λ (leg : Holder). not (is_rejected signal leg.section)) (legs h)
commit_legs moment signal h = append-nil (filter (λ (leg : Holder). not (is_rejected signal leg.section)) (legs h))

first_of : {A : Type 0} (o : Option A) (xs : List A) → first (cons_option o xs) ≡ or_else o (first xs)
first_of None xs = refl
first_of (Some x) xs = refl

pub commit_in_force : (moment : ℕ) (signal : List SectionSignal) (h : List CellEntry) (leg : Holder)
    → in_force (entry moment (Commit signal) ∷ h) leg ≡ or_else (signal_at signal leg.section leg.side) (in_force h leg)
commit_in_force moment signal h leg = first_of (signal_at signal leg.section leg.side) (filter_map (committed leg) (life h leg))

cut_accepted : (moment : ℕ) (signal : List SectionSignal) (rest : List CellEntry) (leg : Holder) (b : Bool)
    → filter_map (λ (x : Relayed). x.deed.noted) (accepted_of (cond b [] (entry moment (Commit signal) ∷ rest)) leg)
    ≡ cond b [] (filter_map (λ (x : Relayed). x.deed.noted) (accepted_of rest leg))
cut_accepted moment signal rest leg true = refl
cut_accepted moment signal rest leg false = refl

-- a commit that says another key or suite resets the leg's notes
pub commit_accepted : (moment : ℕ) (signal : List SectionSignal) (h : List CellEntry) (leg : Holder)
    → accepted (entry moment (Commit signal) ∷ h) leg ≡ cond (differs same_inbound (signal_at signal leg.section leg.side) (in_force h leg)) [] (accepted h leg)
commit_accepted moment signal h leg =
    cut_accepted moment signal (span h leg) leg (differs same_inbound (signal_at signal leg.section leg.side) (in_force h leg))

-- A Prepare.

abbrev adds : Holder → List Holder → Bool
adds leg new = list_any (same_leg leg) new

-- a leg that the Prepare doesn't add goes on, and one that it adds begins
pub prepare_goes_on : (moment call : ℕ) (new : List Holder) (keys : List NewKey) (dropped : List ℕ) (h : List CellEntry) (leg : Holder)
    → adds leg new ≡ false → life (entry moment (Prepare call new keys dropped) ∷ h) leg ≡ entry moment (Prepare call new keys dropped) ∷ life h leg
prepare_goes_on moment call new keys dropped h leg q =
    ap (λ (b : Bool). cond b [] (entry moment (Prepare call new keys dropped) ∷ life h leg)) q

pub prepare_begins : (moment call : ℕ) (new : List Holder) (keys : List NewKey) (dropped : List ℕ) (h : List CellEntry) (leg : Holder)
    → adds leg new ≡ true → life (entry moment (Prepare call new keys dropped) ∷ h) leg ≡ []
prepare_begins moment call new keys dropped h leg q =
    ap (λ (b : Bool). cond b [] (entry moment (Prepare call new keys dropped) ∷ life h leg)) q

pub prepare_in_force : (moment call : ℕ) (new : List Holder) (keys : List NewKey) (dropped : List ℕ) (h : List CellEntry) (leg : Holder)
    → adds leg new ≡ false → in_force (entry moment (Prepare call new keys dropped) ∷ h) leg ≡ in_force h leg
prepare_in_force moment call new keys dropped h leg q =
    ap (λ (k : List CellEntry). first (filter_map (committed leg) k)) (prepare_goes_on moment call new keys dropped h leg q)

pub prepare_accepted : (moment call : ℕ) (new : List Holder) (keys : List NewKey) (dropped : List ℕ) (h : List CellEntry) (leg : Holder)
    → adds leg new ≡ false → accepted (entry moment (Prepare call new keys dropped) ∷ h) leg ≡ accepted h leg
prepare_accepted moment call new keys dropped h leg q =
    ap (λ (k : List CellEntry). filter_map (λ (x : Relayed). x.deed.noted) (accepted_of (since_change same_inbound leg k) leg))
    (prepare_goes_on moment call new keys dropped h leg q)

pub prepare_learned : (moment call : ℕ) (new : List Holder) (keys : List NewKey) (dropped : List ℕ) (h : List CellEntry) (leg : Holder) (half : Half)
    → adds leg new ≡ false → learned (entry moment (Prepare call new keys dropped) ∷ h) leg half ≡ learned h leg half
prepare_learned moment call new keys dropped h leg half q =
    ap (λ (k : List CellEntry). learner.learned_after (filter_map (λ (e : CellEntry). step_by leg half (committed leg e) (relayed e)) k))
    (prepare_goes_on moment call new keys dropped h leg q)

pub new_leg_unanswered : (moment call : ℕ) (new : List Holder) (keys : List NewKey) (dropped : List ℕ) (h : List CellEntry) (leg : Holder)
    → adds leg new ≡ true → in_force (entry moment (Prepare call new keys dropped) ∷ h) leg ≡ None
new_leg_unanswered moment call new keys dropped h leg q =
    ap (λ (k : List CellEntry). first (filter_map (committed leg) k)) (prepare_begins moment call new keys dropped h leg q)

pub new_leg_notes_nothing : (moment call : ℕ) (new : List Holder) (keys : List NewKey) (dropped : List ℕ) (h : List CellEntry) (leg : Holder)
    → adds leg new ≡ true → accepted (entry moment (Prepare call new keys dropped) ∷ h) leg ≡ []
new_leg_notes_nothing moment call new keys dropped h leg q =
    ap (λ (k : List CellEntry). filter_map (λ (x : Relayed). x.deed.noted) (accepted_of (since_change same_inbound leg k) leg))
    (prepare_begins moment call new keys dropped h leg q)

-- What the learner of a half was signalled last is in force.

heard_last : (source : Addr) (steps : List LearnStep) (b : Bool) → last_signal (cons_option (cond b (Some (Heard source)) None) steps) ≡ last_signal steps
heard_last source steps true = refl
heard_last source steps false = refl

last_case : (leg : Holder) (half : Half) (o : Option LegSignal) (r : Option Relayed) (steps : List LearnStep) (before : List LegSignal)
    → last_signal steps ≡ option_map (signalling half) (first before)
    → last_signal (cons_option (step_by leg half o r) steps) ≡ option_map (signalling half) (first (cons_option o before))
last_case leg half (Some s) r steps before q = refl
last_case leg half None (Some r) steps before q = heard_last r.packet.source steps (hears leg half r) ∙ q
last_case leg half None None steps before q = q

last_is : (leg : Holder) (half : Half) (h : List CellEntry)
    → last_signal (filter_map (λ (e : CellEntry). step_by leg half (committed leg e) (relayed e)) h)
    ≡ option_map (signalling half) (first (filter_map (committed leg) h))
last_is leg half [] = refl
last_is leg half (e ∷ h) =
    last_case leg half (committed leg e) (relayed e) (filter_map (λ (x : CellEntry). step_by leg half (committed leg x) (relayed x)) h)
    (filter_map (committed leg) h) (last_is leg half h)

pub signal_is : (h : List CellEntry) (leg : Holder) (half : Half) (o : Option LegSignal) → in_force h leg ≡ o
    → last_signal (steps_of h leg half) ≡ option_map (signalling half) o
signal_is h leg half o q = last_is leg half (life h leg) ∙ ap (option_map (signalling half)) q
