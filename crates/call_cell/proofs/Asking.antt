-- A cell that is asked whether its call is due.
use Rattle.std.proofs.Common.{◌≡◌, refl, ap, sym, ◌∙◌, ℕ, ◌+◌, Bool, true, false, cond, List, [], ◌∷◌, filter, Option, Some, None, max, arith}
use Rattle.std.specs.Prelude.{◌||◌, is_some, nat_le, if◌then◌else◌}
use Rattle.std.specs.List.{list_any}
use Rattle.relay_outside.specs.declared.settings.Config.{Config}
use Rattle.histories.specs.Words.{first, final}
use Rattle.call_cell.specs.declared.cell.Cell.{Cell}
use Rattle.call_cell.specs.Cells.{CellEvent, CellEntry, Prepare, Commit, Relay, Expire, Read, End, since_end, prepared_call}
use Rattle.call_cell.specs.Demands.{commits, is_activity, is_past, is_due}
use Rattle.call_cell.specs.CellHistories.{CellFor, WasAt, cell_last_moment}
use Rattle.call_cell.specs.Expiries.{is_ago, due_by, expired_at, with_moment, CellExpires}
use Rattle.call_cell.proofs.Legs.{legs_stay}
use Rattle.call_cell.proofs.Offered.{both_final}

-- the entry is past, by its moment
past_so : (o : Option CellEntry) (now limit moment : ℕ) → WasAt o moment → is_past now limit o ≡ (if is_some o then is_ago now limit moment else false)
past_so None now limit moment was = refl
past_so (Some e) now limit moment was = ap (λ (m : ℕ). nat_le (m + limit) now) was

-- a commit is an activity
is_active : (event : CellEvent) → commits event ≡ true → is_activity event ≡ true
is_active (Commit signal) q = refl
is_active (Prepare call legs keys dropped) q = absurd (let e = q in cc)
is_active (Relay r) q = absurd (let e = q in cc)
is_active (Expire due) q = absurd (let e = q in cc)
is_active (Read log) q = absurd (let e = q in cc)
is_active End q = absurd (let e = q in cc)

active_case : (e : CellEntry) (rest : List CellEntry) (a b : Bool) → (b ≡ true → a ≡ true) → ((b ≡ false) → is_some (first rest) ≡ true)
    → is_some (first (cond a (e ∷ rest) rest)) ≡ true
active_case e rest true b both more = refl
active_case e rest false true both more = absurd (let q = both refl in cc)
active_case e rest false false both more = more refl

or_rest : (a b : Bool) → (a || b) ≡ true → a ≡ false → b ≡ true
or_rest true b q none = absurd (let e = none in cc)
or_rest false b q none = q

active_some : (h : List CellEntry) → list_any (λ (e : CellEntry). commits e.event) h ≡ true → is_some (first (filter (λ (e : CellEntry). is_activity e.event) h)) ≡ true
active_some [] q = absurd (let e = q in cc)
active_some (e ∷ h) q =
    active_case e (filter (λ (x : CellEntry). is_activity x.event) h) (is_activity e.event) (commits e.event) (is_active e.event)
    (λ none. active_some h (or_rest (commits e.event) (list_any (λ (x : CellEntry). commits x.event) h) q none))

-- by what is kept the call is due exactly where the history says so
due_case : (committed holds : Bool) (active began : Option CellEntry) (now timeout offer a b : ℕ) → (committed ≡ true → is_some active ≡ true)
    → holds ≡ is_some began → WasAt active a → WasAt began b
    → (if committed then is_ago now timeout a else if holds then is_ago now offer b else false)
    ≡ (if committed then is_past now timeout active else is_past now offer began)
due_case true holds active began now timeout offer a b some is one two =
    sym (past_so active now timeout a one ∙ ap (λ (c : Bool). if c then is_ago now timeout a else false) (some refl))
due_case false holds active began now timeout offer a b some is one two =
    ap (λ (c : Bool). if c then is_ago now offer b else false) is ∙ sym (past_so began now offer b two)

due_so : {O : Type 0} (config : Config) (cell : Cell O) (h : List CellEntry) (now : ℕ) → CellFor config cell h
    → due_by cell now ≡ is_due config (since_end h) now
unfolding is_due
due_so {O} config cell h now for =
    let s = since_end h in
    let active = first (filter (λ (e : CellEntry). is_activity e.event) s) in
    let began = final (filter (λ (e : CellEntry). is_some (prepared_call e)) s) in
    let c = list_any (λ (e : CellEntry). commits e.event) s in
    let holds : is_some cell.call ≡ is_some began = ap (λ (o : Option ℕ). is_some o) for.call_is ∙ both_final prepared_call s in
    ap (λ (b : Bool). if b then is_ago now cell.config.timeout_ms cell.active
    else if is_some cell.call then is_ago now cell.config.offer_timeout_ms cell.began else false) for.is_committed
    ∙ due_case c (is_some cell.call) active began now cell.config.timeout_ms cell.config.offer_timeout_ms cell.active cell.began (active_some s) holds for.active for.began
    ∙ ap (λ (x : Config). if c then is_past now x.timeout_ms active else is_past now x.offer_timeout_ms began) for.config_is

max_swap : (m n : ℕ) → max m n ≡ max n m
max_swap m n = omega arith

max_again : (m n : ℕ) → max m n ≡ max (max n m) m
max_again m n = omega arith

pub cell_expires : {O : Type 0} (config : Config) (old : Cell O) (h : List CellEntry) (now moment : ℕ) (due : Bool) → CellFor config old h
    → moment ≡ max old.moment now → due ≡ due_by (with_moment old moment) moment → CellExpires config old (with_moment old moment) h now due
cell_expires {O} config old h now moment due for is answer =
    let e = expired_at h now due in
    let s = since_end h in
    let last : moment ≡ cell_last_moment (e ∷ h) = is ∙ ap (λ (m : ℕ). max m now) for.moment ∙ max_again (cell_last_moment h) now in
    let now_is : moment ≡ e.moment = is ∙ ap (λ (m : ℕ). max m now) for.moment ∙ max_swap (cell_last_moment h) now in
    record {
      fits = answer ∙ due_so config old h moment for ∙ ap (λ (m : ℕ). is_due config s m) now_is;
      stands = record {
        config_is = for.config_is;
        moment = last;
        call_is = for.call_is;
        began = for.began;
        is_committed = for.is_committed;
        active = for.active;
        unnoted = for.unnoted;
        legs_for = record {
          holders = for.legs_for.holders ∙ sym (legs_stay e s refl (λ section. refl));
          apart = for.legs_for.apart;
          each = λ i d below.
              let l = for.legs_for.each i d below in
              record {
                pair = l.pair;
                generation = l.generation;
                signal = l.signal;
                family = l.family;
                port = l.port;
                receiving = l.receiving;
                sending = l.sending;
                named = l.named;
                section = l.section;
                held = l.held;
                one_each = l.one_each;
                counted = record { accepted = l.counted.accepted; sent = l.counted.sent };
                reported = l.reported;
              };
        };
      };
      rest = refl;
    }
