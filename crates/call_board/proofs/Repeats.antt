-- A datagram whose reply is kept gets that reply, and changes nothing.
use Rattle.std.proofs.Common.{◌≡◌, ◌∙◌, sym, ap, subst, ℕ, List, [], ◌∷◌, ◌++◌, map, filter, true, not, Some, refl}
use Rattle.std.proofs.lemmas.List.{append-nil}
use Rattle.relay_outside.specs.declared.settings.Config.{Config}
use Rattle.relay_outside.specs.declared.address.Addr.{Addr}
use Rattle.histories.specs.Words.{has, last_once, numbers}
use Rattle.port_pool.specs.Ports.{pair_count}
use Rattle.port_pool.specs.declared.holder.Holder.{Holder}
use Rattle.call_board.specs.Acts as act
use Rattle.call_board.specs.Acts.{Act, Call, Control, Turn, BoardEvent, BoardEntry}
use Rattle.call_board.specs.Calls.{begun, has_ended, live, rounds, due_moment}
use Rattle.call_board.specs.Pairs.{held, all_leased, returned, free, drawn}
use Rattle.call_board.specs.KeptReplies.{kept_reply}
use Rattle.call_board.specs.Answers.{Answered, answering_unless}
use Rattle.call_board.specs.Fits.{FitsControl, answered_in}

pub kept_repeats : (config : Config) (h : List BoardEntry) (now : ℕ) (c : Control) (reply : List ℕ) → FitsControl config h now c → kept_reply h c.source c.cookie now ≡ Some reply
    → (c.act ≡ act.Repeated) × (c.reply ≡ reply)
kept_repeats config h now c reply fits is_kept =
    let answer : answered_in c ≡ record { bytes = reply; act = act.Repeated } = fits.answers ∙ ap (answering_unless config h c) is_kept in
    (ap (λ (a : Answered). a.act) answer, ap (λ (a : Answered). a.bytes) answer)

-- the history says the same with the entry as without it
pub record ChangesNothing (config : Config) (e : BoardEntry) (h : List BoardEntry) : Type 0 where
  pub same_live : live (e ∷ h) ≡ live h
  pub same_rounds : (n : ℕ) → rounds (e ∷ h) n ≡ rounds h n
  pub same_due : (n : ℕ) → due_moment (e ∷ h) n ≡ due_moment h n
  pub same_held : held (e ∷ h) ≡ held h
  pub same_free : free config (e ∷ h) ≡ free config h
  pub same_drawn : drawn (e ∷ h) ≡ drawn h
  pub same_kept : (source : Addr) (cookie : List ℕ) (now : ℕ) → kept_reply (e ∷ h) source cookie now ≡ kept_reply h source cookie now

filter_all : {A : Type 0} (xs : List A) → filter (λ x. true) xs ≡ xs
filter_all [] = refl
filter_all (x ∷ xs) = ap (λ ys. x ∷ ys) (filter_all xs)

-- the entry of a repeat, as a literal
abbrev pub repeat : ℕ → Control → BoardEntry
repeat moment c = record { moment = moment; event = Turn (record c { act = act.Repeated }) }

held_alike : (moment : ℕ) (c : Control) (h : List BoardEntry) → held (repeat moment c ∷ h) ≡ held h
held_alike moment c h = append-nil (filter (λ (leg : Holder). true) (held h)) ∙ filter_all (held h)

returned_alike : (moment : ℕ) (c : Control) (h : List BoardEntry) → returned (repeat moment c ∷ h) ≡ returned h
returned_alike moment c h = append-nil (returned h ++ []) ∙ append-nil (returned h)

abbrev free_by : Config → List BoardEntry → List Holder → List ℕ → List ℕ
free_by config h holders given_back =
    filter (λ p. not (has (all_leased h) p)) (numbers 0 (pair_count config)) ++ filter (λ p. not (has (map (λ (leg : Holder). leg.pair) holders) p)) (last_once given_back)

pub repeat_alike : (config : Config) (moment : ℕ) (c : Control) (h : List BoardEntry) → ChangesNothing config (repeat moment c) h
repeat_alike config moment c h = record {
  same_live = ap (filter (λ (d : Call). not (has_ended h d))) (append-nil (begun h));
  same_rounds = λ n. refl;
  same_due = λ n. refl;
  same_held = held_alike moment c h;
  same_free = ap (λ holders. free_by config h holders (returned (repeat moment c ∷ h))) (held_alike moment c h) ∙ ap (free_by config h (held h)) (returned_alike moment c h);
  same_drawn = append-nil (drawn h);
  same_kept = λ source cookie now. refl;
}

pub repeat_changes_nothing : (config : Config) (e : BoardEntry) (h : List BoardEntry) (c : Control) → e.event ≡ Turn c → c.act ≡ act.Repeated → ChangesNothing config e h
repeat_changes_nothing config e h c is repeats =
    let turn : e ≡ record { moment = e.moment; event = Turn c } = ap (λ (v : BoardEvent). record { moment = e.moment; event = v }) is in
    let whole : e ≡ repeat e.moment c = turn ∙ ap (λ (a : Act). record { moment = e.moment; event = Turn (record c { act = a }) }) repeats in
    subst (λ x. ChangesNothing config x h) (sym whole) (repeat_alike config e.moment c h)
