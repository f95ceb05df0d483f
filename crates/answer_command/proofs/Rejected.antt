-- The legs of the sections that an answer rejects are those that its entry closes, and their pairs are held no more.
use Rattle.std.proofs.Common.{◌≡◌, ◌∙◌, refl, sym, ap, ℕ, Bool, true, false, not, cond, ◌==◌, List, [], ◌∷◌, ◌++◌, map, filter}
use Rattle.std.specs.Prelude.{◌&&◌}
use Rattle.relay_outside.specs.declared.settings.Config.{Config}
use Rattle.histories.specs.Words.{has}
use Rattle.histories.proofs.Lists.{equal, equal_if}
use Rattle.port_pool.specs.declared.holder.Holder.{Holder}
use Rattle.port_pool.specs.Signals.{is_rejected}
use Rattle.call_cell.specs.Cells.{Commit}
use Rattle.offer_answer.specs.Rounds as round
use Rattle.call_board.specs.Acts as act
use Rattle.call_board.specs.Acts.{Act, Call, Answer, Turn, Tick, Stop, BoardEvent, BoardEntry, act_in, act}
use Rattle.call_board.specs.Calls.{ended_by, ended_in, ended_by_act}
use Rattle.call_board.specs.Fits.{IsFitting}
use Rattle.call_board.specs.Pairs.{held, closed_of, closes_leg, closes_leg_act, legs_of_act}
use Rattle.call_board.specs.Views.{View}
use Rattle.call_board.specs.Whole.{with_more, with_closed}
use Rattle.call_board.proofs.Free.{held_once}
use Rattle.relay_core.specs.Scripts.{script, script_of, script_of_act, in_cell, closings}
use Rattle.relay_core.proofs.Turns.{nothing_more}
use Rattle.board_turns.specs.Acts.{acted}
use Rattle.board_turns.specs.Closings.{pairs_left}
use Rattle.board_turns.specs.CallEnds.{leg_pairs}
use Rattle.answer_command.proofs.Stays.{stay_left}

ends_by : (v : BoardEvent) (a : Answer) → act_in v ≡ act.Answered a → ended_in v ≡ []
ends_by (Turn c) a is = ap ended_by_act is
ends_by (Tick calls) a is = absurd (let q = is in cc)
ends_by (Stop calls) a is = absurd (let q = is in cc)

-- an answer ends no call
pub ends_none : (e : BoardEntry) (a : Answer) → act e ≡ act.Answered a → ended_by e ≡ []
ends_none e a is = ends_by e.event a is

-- it closes just the legs of its call in the sections that it rejects
closes_its : (e : BoardEntry) (a : Answer) → act e ≡ act.Answered a → (leg : Holder) → closes_leg e leg ≡ ((a.of.number == leg.call) && is_rejected a.signal leg.section)
closes_its e a is leg =
    ap (λ (calls : List Call). cond (has (map (λ (c : Call). c.number) calls) leg.call) true (closes_leg_act (act e) leg)) (ends_none e a is)
    ∙ ap (λ (d : Act). closes_leg_act d leg) is

filter_same : (p q : Holder → Bool) → ((leg : Holder) → p leg ≡ q leg) → (legs : List Holder) → filter p legs ≡ filter q legs
filter_same p q same [] = refl
filter_same p q same (leg ∷ legs) =
    ap (λ (b : Bool). cond b (leg ∷ filter p legs) (filter p legs)) (same leg)
    ∙ ap (λ (rest : List Holder). cond (q leg) (leg ∷ rest) rest) (filter_same p q same legs)

none_is : (t : Bool) → (t && false) ≡ false
none_is true = refl
none_is false = refl

both_case : (a b : ℕ) (r t : Bool) → (b == a) ≡ t → ((a == b) && ((b == a) && r)) ≡ ((b == a) && r)
both_case a b r true s =
    let back : (a == b) ≡ true = equal a b (sym (equal_if b a s)) in
    ap (λ (x : Bool). x && ((b == a) && r)) back
both_case a b r false s =
    ap (λ (x : Bool). (a == b) && (x && r)) s ∙ none_is (a == b) ∙ sym (ap (λ (x : Bool). x && r) s)

-- of its call it closes all that it closes
closes_all : (h : List BoardEntry) (e : BoardEntry) (a : Answer) → act e ≡ act.Answered a → closed_of h e a.of ≡ filter (closes_leg e) (held h)
closes_all h e a is =
    filter_same (λ (leg : Holder). (leg.call == a.of.number) && closes_leg e leg) (closes_leg e)
    (λ leg. ap (λ (b : Bool). (leg.call == a.of.number) && b) (closes_its e a is leg)
    ∙ both_case leg.call a.of.number (is_rejected a.signal leg.section) (a.of.number == leg.call) refl ∙ sym (closes_its e a is leg))
    (held h)

held_then : (h : List BoardEntry) (e : BoardEntry) (a : Answer) → act e ≡ act.Answered a → held (e ∷ h) ≡ filter (λ leg. not (closes_leg e leg)) (held h)
held_then h e a is =
    ap (λ (d : Act). filter (λ leg. not (closes_leg e leg)) (held h) ++ legs_of_act d) is
    ∙ nothing_more (filter (λ leg. not (closes_leg e leg)) (held h))

-- just the pairs of these legs are held no more
pub answered_held : (config : Config) (h : List BoardEntry) (e : BoardEntry) (a : Answer) → IsFitting config h → act e ≡ act.Answered a → (q : ℕ)
    → has (pairs_left (leg_pairs (closed_of h e a.of)) (leg_pairs (held h))) q ≡ has (leg_pairs (held (e ∷ h))) q
answered_held config h e a fits is q =
    ap (λ (legs : List Holder). has (pairs_left (leg_pairs legs) (leg_pairs (held h))) q) (closes_all h e a is)
    ∙ stay_left (closes_leg e) (held h) q (held_once config h fits)
    ∙ ap (λ (legs : List Holder). has (leg_pairs legs) q) (sym (held_then h e a is))

owes_by : (config : Config) (h : List BoardEntry) (e : BoardEntry) (v : BoardEvent) (a : Answer) → act_in v ≡ act.Answered a
    → script_of config h e v ≡ in_cell a.of (Commit a.signal) ∷ closings config h e a.of
owes_by config h e (Turn c) a is = ap (script_of_act config h e c) is
owes_by config h e (Tick calls) a is = absurd (let q = is in cc)
owes_by config h e (Stop calls) a is = absurd (let q = is in cc)

-- what it owes: its commit, and the closes of these legs
pub answered_owes : (config : Config) (h : List BoardEntry) (e : BoardEntry) (a : Answer) → act e ≡ act.Answered a
    → script config h e ≡ in_cell a.of (Commit a.signal) ∷ closings config h e a.of
answered_owes config h e a is = owes_by config h e e.event a is

-- what it makes of what the board keeps
pub answered_acts : (h : List BoardEntry) (e : BoardEntry) (a : Answer) (v : View) → act e ≡ act.Answered a
    → acted h e (act e) v ≡ with_closed h e a.of (with_more a.of (round.Answered a.ask) e.moment v)
answered_acts h e a v is = ap (λ (d : Act). acted h e d v) is
