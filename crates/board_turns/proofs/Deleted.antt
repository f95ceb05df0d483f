-- A delete, as the end of one call.
use Rattle.std.proofs.Common.{◌≡◌, ◌∙◌, refl, sym, ap, subst, ℕ, Bool, true, false, not, cond, List, [], ◌∷◌, ◌++◌, Option, map, filter, append-nil}
use Rattle.std.specs.Prelude.{◌&&◌, ◌==◌}
use Rattle.relay_outside.specs.declared.ports.PortCall.{PortCall}
use Rattle.relay_outside.specs.declared.settings.Config.{Config}
use Rattle.turn_table.specs.declared.hands.Turns.{Turns}
use Rattle.turn_table.specs.declared.hands.Hand.{Hand}
use Rattle.histories.specs.Words.{In, has}
use Rattle.histories.proofs.Lists.{equal, equal_if}
use Rattle.port_pool.specs.declared.holder.Holder.{Holder}
use Rattle.call_board.specs.declared.board.Board.{Board}
use Rattle.call_board.specs.Acts as act
use Rattle.call_board.specs.Acts.{Call, Act, Control, Turn, Tick, Stop, BoardEvent, BoardEntry, act_in, act}
use Rattle.call_board.specs.Calls.{live, ended_by, ended_in, ended_by_act}
use Rattle.call_board.specs.Boards.{IsLive}
use Rattle.call_board.specs.Fits.{IsFitting}
use Rattle.call_board.specs.Pairs.{held, free, closed_of, closes_leg, closes_leg_act, legs_of_act}
use Rattle.call_board.specs.Views.{View, view_of, view_at_moment}
use Rattle.relay_core.specs.declared.part.Part.{Part}
use Rattle.relay_core.specs.Entries.{Entry, board_history}
use Rattle.relay_core.specs.Records.{Made}
use Rattle.relay_core.specs.Scripts.{script, script_of, script_of_act, ending}
use Rattle.relay_core.specs.Turns.{made_by}
use Rattle.relay_core.proofs.Turns.{nothing_more}
use Rattle.board_turns.specs.declared.board_turn.BoardEntryId.{BoardEntryId}
use Rattle.board_turns.specs.Closings.{pairs_left}
use Rattle.board_turns.specs.CallEnds.{CanEnd, IsCallOf, leg_pairs, with_call_ended}
use Rattle.board_turns.specs.Acts.{acted, InTurn}
use Rattle.call_board.proofs.Free.{held_once}
use Rattle.board_turns.proofs.Lefts.{told_alike, left_none}
use Rattle.board_turns.proofs.Next.{next_can}
use Rattle.board_turns.proofs.StayHeld.{stay_left}
use Rattle.board_turns.proofs.TakenPairs.{may_end}

-- Which legs a delete closes.

-- an entry that deletes a call ends it alone
pub record EndsOne (e : BoardEntry) (of : Call) : Type 0 where
  pub ends : ended_by e ≡ of ∷ []
  pub acts : act e ≡ act.Deleted of

ends_by : (v : BoardEvent) (of : Call) → act_in v ≡ act.Deleted of → ended_in v ≡ of ∷ []
ends_by (Turn c) of is = ap ended_by_act is
ends_by (Tick calls) of is = absurd (let q = is in cc)
ends_by (Stop calls) of is = absurd (let q = is in cc)

pub ends_one : (e : BoardEntry) (of : Call) → act e ≡ act.Deleted of → EndsOne e of
ends_one e of is = record { ends = ends_by e.event of is; acts = is }

-- it closes just the call's legs
closes_its : (e : BoardEntry) (of : Call) → EndsOne e of → (leg : Holder) → closes_leg e leg ≡ (of.number == leg.call)
closes_its e of one leg =
    ap (λ (calls : List Call). cond (has (map (λ (c : Call). c.number) calls) leg.call) true (closes_leg_act (act e) leg)) one.ends
    ∙ ap (λ (a : Act). cond (cond (of.number == leg.call) true false) true (closes_leg_act a leg)) one.acts
    ∙ by_case (of.number == leg.call)
  where
    by_case : (b : Bool) → cond (cond b true false) true false ≡ b
    by_case true = refl
    by_case false = refl

filter_same : (p q : Holder → Bool) → ((leg : Holder) → p leg ≡ q leg) → (legs : List Holder) → filter p legs ≡ filter q legs
filter_same p q same [] = refl
filter_same p q same (leg ∷ legs) =
    ap (λ (b : Bool). cond b (leg ∷ filter p legs) (filter p legs)) (same leg)
    ∙ ap (λ (rest : List Holder). cond (q leg) (leg ∷ rest) rest) (filter_same p q same legs)

equal_both : (a b : ℕ) → ((a == b) && (b == a)) ≡ (b == a)
equal_both a b = by_case (b == a) refl
  where
    by_case : (t : Bool) → (b == a) ≡ t → ((a == b) && (b == a)) ≡ (b == a)
    by_case true s =
        let same : b ≡ a = equal_if b a s in
        ap (λ (n : ℕ). (n == b) && (b == n)) (sym same) ∙ ap (λ (t : Bool). t && t) (equal b b refl) ∙ sym s
    by_case false s = ap (λ (t : Bool). (a == b) && t) s ∙ none (a == b) ∙ sym s
      where
        none : (t : Bool) → (t && false) ≡ false
        none true = refl
        none false = refl

-- the legs that it closes are those of the call
closes_all : (e : BoardEntry) (of : Call) → EndsOne e of → (h : List BoardEntry) → closed_of h e of ≡ filter (closes_leg e) (held h)
closes_all e of one h =
    filter_same (λ (leg : Holder). (leg.call == of.number) && closes_leg e leg) (closes_leg e)
    (λ leg. ap (λ (b : Bool). (leg.call == of.number) && b) (closes_its e of one leg) ∙ equal_both leg.call of.number ∙ sym (closes_its e of one leg))
    (held h)

held_then : (e : BoardEntry) (of : Call) → EndsOne e of → (h : List BoardEntry) → held (e ∷ h) ≡ filter (λ leg. not (closes_leg e leg)) (held h)
held_then e of one h =
    ap (λ (a : Act). filter (λ leg. not (closes_leg e leg)) (held h) ++ legs_of_act a) one.acts
    ∙ nothing_more (filter (λ leg. not (closes_leg e leg)) (held h))

-- just their pairs are held no more
pub deleted_held : (config : Config) (h : List BoardEntry) (e : BoardEntry) (of : Call) → IsFitting config h → act e ≡ act.Deleted of → (q : ℕ)
    → has (pairs_left (leg_pairs (closed_of h e of)) (leg_pairs (held h))) q ≡ has (leg_pairs (held (e ∷ h))) q
deleted_held config h e of fits is q =
    let one = ends_one e of is in
    ap (λ (legs : List Holder). has (pairs_left (leg_pairs legs) (leg_pairs (held h))) q) (closes_all e of one h)
    ∙ stay_left (closes_leg e) (held h) q (held_once config h fits)
    ∙ ap (λ (legs : List Holder). has (leg_pairs legs) q) (sym (held_then e of one h))

-- What it owes.

owes_by : (config : Config) (h : List BoardEntry) (e : BoardEntry) (v : BoardEvent) (of : Call) → act_in v ≡ act.Deleted of → script_of config h e v ≡ ending config h e of
owes_by config h e (Turn c) of is = ap (script_of_act config h e c) is
owes_by config h e (Tick calls) of is = absurd (let q = is in cc)
owes_by config h e (Stop calls) of is = absurd (let q = is in cc)

pub deleted_owes : (config : Config) (h : List BoardEntry) (e : BoardEntry) (of : Call) → act e ≡ act.Deleted of → script config h e ≡ ending config h e of
deleted_owes config h e of is = owes_by config h e e.event of is

-- what it makes of what the board keeps
pub deleted_acts : (h : List BoardEntry) (e : BoardEntry) (of : Call) (v : View) → act e ≡ act.Deleted of
    → acted h e (act e) v ≡ with_call_ended v of.number (closed_of h e of)
deleted_acts h e of v is = ap (λ (a : Act). acted h e a v) is

-- It may be done.

module _ {M I O T : Type 0} {g : _} where
  -- the call, for any entry that ends it
  pub deleted_call : (config : Config) (turns : Turns M (Part I O) Made T) (hand : Hand M (Part I O) Made T g) (entry_id : BoardEntryId) (board : Board) (log : Option (List PortCall))
      (e : BoardEntry) (of : Call) → InTurn config turns hand entry_id board log → In of (live (board_history (made_by hand) entry_id.number)) → In of (ended_by e)
      → IsCallOf config (made_by hand) board of.number of (closed_of (board_history (made_by hand) entry_id.number) e of)
  deleted_call config turns hand entry_id board log e of turn alive ends =
      let l = made_by hand in
      let h = board_history l entry_id.number in
      subst (λ (k : List Entry). IsCallOf config k board of.number of (closed_of h e of)) (nothing_more l)
      (next_can config l [] turn.orderly entry_id.number e [] of board turn.above alive ends (λ i. elim i [ ]) (λ d i. elim i [ ]) refl
      (view_at_moment (view_of config h) entry_id.moment) refl turn.shows)

  -- it may be ended
  pub may_delete : (config : Config) (turns : Turns M (Part I O) Made T) (hand : Hand M (Part I O) Made T g) (entry_id : BoardEntryId) (board : Board) (log : Option (List PortCall))
      (call : ℕ) → InTurn config turns hand entry_id board log → IsLive board call → CanEnd config hand board log call
  may_delete config turns hand entry_id board log call turn live =
      let h = board_history (made_by hand) entry_id.number in
      may_end config hand board log call h [] (view_at_moment (view_of config h) entry_id.moment) turn.whole turn.shows (sym (append-nil (free config h))) live
      (told_alike config log (leg_pairs (held h)) (pairs_left [] (leg_pairs (held h))) (left_none (leg_pairs (held h))) turn.opens)
