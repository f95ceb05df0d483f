-- What is asked of a board's history is the same whatever is recorded of bodies and of crypto lines.
use Rattle.std.proofs.Common.{◌≡◌, ◌∙◌, sym, ap, refl, ℕ, ◌==◌, max, List, [], ◌∷◌, ◌++◌, map, filter, flat_map, Bool, cond, not}
use Rattle.std.specs.Prelude.{◌&&◌}
use Rattle.std.specs.List.{list_any}
use Rattle.relay_outside.specs.declared.settings.Config.{Config}
use Rattle.histories.specs.Words.{final, first, has, last_once, numbers}
use Rattle.port_pool.specs.Ports.{pair_count}
use Rattle.port_pool.specs.declared.holder.Holder.{Holder}
use Rattle.call_board.specs.Acts.{Call, Act, BoardEvent, Turn, Tick, Stop, BoardEntry, act, act_in}
use Rattle.call_board.specs.Calls.{begun, begun_by_act, ended_in, has_ended, live, dues_by_act, least, due_moment, round_of, rounds, is_round, moment_or_zero, first_moment, latest_moment}
use Rattle.call_board.specs.Pairs.{legs_of_act, closes_leg, held, calls_in, closed, leased_by_act, all_leased, undone_pairs, returned, free, draws_of_act, drawn}
use Rattle.call_board.specs.KeptReplies.{keeping_at, keeping_of, keepings}
use Rattle.call_board.specs.Views.{board_last_moment}
use Rattle.relay_core.proofs.Refilling.{filter_mapped, picked_mapped}
use Rattle.replay_laws.specs.Alike.{bare_event, bare}

-- One entry.

act_bare : (v : BoardEvent) → act_in (bare_event v) ≡ act_in v
act_bare (Turn c) = refl
act_bare (Tick calls) = refl
act_bare (Stop calls) = refl

ended_bare : (v : BoardEvent) → ended_in (bare_event v) ≡ ended_in v
ended_bare (Turn c) = refl
ended_bare (Tick calls) = refl
ended_bare (Stop calls) = refl

keeping_bare : (moment : ℕ) (v : BoardEvent) → keeping_at moment (bare_event v) ≡ keeping_at moment v
keeping_bare moment (Turn c) = refl
keeping_bare moment (Tick calls) = refl
keeping_bare moment (Stop calls) = refl

abbrev entry : ℕ → BoardEvent → BoardEntry
entry moment v = record { moment = moment; event = v }

closes_bare : (moment : ℕ) (v : BoardEvent) (leg : Holder) → closes_leg (entry moment (bare_event v)) leg ≡ closes_leg (entry moment v) leg
closes_bare moment (Turn c) leg = refl
closes_bare moment (Tick calls) leg = refl
closes_bare moment (Stop calls) leg = refl

-- Lists.

sift_case : {A : Type 0} (x : A) (p q : Bool) (rest more : List A) → p ≡ q → rest ≡ more → cond p (x ∷ rest) rest ≡ cond q (x ∷ more) more
sift_case x p q rest more same equal =
    ap (λ b. cond b (x ∷ rest) rest) same ∙ ap (λ xs. cond q (x ∷ xs) xs) equal

sift : {A : Type 0} (p q : A → Bool) (xs : List A) → ((x : A) → p x ≡ q x) → filter p xs ≡ filter q xs
sift p q [] same = refl
sift p q (x ∷ xs) same = sift_case x (p x) (q x) (filter p xs) (filter q xs) (same x) (sift p q xs same)

flat_bare : {B : Type 0} (f : BoardEntry → List B) (h : List BoardEntry) → ((e : BoardEntry) → f (bare e) ≡ f e) → flat_map f (map bare h) ≡ flat_map f h
flat_bare f [] same = refl
flat_bare f (e ∷ h) same = ap (λ xs. xs ++ flat_map f (map bare h)) (same e) ∙ ap (λ xs. f e ++ xs) (flat_bare f h same)

any_bare : (p : BoardEntry → Bool) (h : List BoardEntry) → ((e : BoardEntry) → p (bare e) ≡ p e) → list_any p (map bare h) ≡ list_any p h
any_bare p [] same = refl
any_bare p (e ∷ h) same = rw (same e, any_bare p h same) refl

-- Calls.

begun_bare : (h : List BoardEntry) → begun (map bare h) ≡ begun h
begun_bare [] = refl
begun_bare (e ∷ h) =
    ap (λ (a : Act). begun (map bare h) ++ begun_by_act a) (act_bare e.event) ∙ ap (λ (cs : List Call). cs ++ begun_by_act (act e)) (begun_bare h)

has_ended_bare : (h : List BoardEntry) (c : Call) → has_ended (map bare h) c ≡ has_ended h c
has_ended_bare h c = any_bare _ h (λ e. ap (λ (cs : List Call). has (map (λ (d : Call). d.number) cs) c.number) (ended_bare e.event))

live_bare : (h : List BoardEntry) → live (map bare h) ≡ live h
live_bare h =
    ap (filter (λ (c : Call). not (has_ended (map bare h) c))) (begun_bare h)
    ∙ sift (λ (c : Call). not (has_ended (map bare h) c)) (λ (c : Call). not (has_ended h c)) (begun h) (λ c. ap not (has_ended_bare h c))

rounds_bare : (h : List BoardEntry) (n : ℕ) → rounds (map bare h) n ≡ rounds h n
rounds_bare h n = flat_bare (λ (e : BoardEntry). round_of n (act e)) h (λ e. ap (round_of n) (act_bare e.event))

due_bare : (h : List BoardEntry) (n : ℕ) → due_moment (map bare h) n ≡ due_moment h n
due_bare h n =
    ap least (flat_bare (λ (e : BoardEntry). dues_by_act n e.moment (act e)) h (λ e. ap (dues_by_act n e.moment) (act_bare e.event)))

final_bare : (xs : List BoardEntry) → moment_or_zero (final (map bare xs)) ≡ moment_or_zero (final xs)
final_bare [] = refl
final_bare (x ∷ []) = refl
final_bare (x ∷ y ∷ ys) = final_bare (y ∷ ys)

front_bare : (xs : List BoardEntry) → moment_or_zero (first (map bare xs)) ≡ moment_or_zero (first xs)
front_bare [] = refl
front_bare (x ∷ xs) = refl

of_round : (h : List BoardEntry) (n : ℕ) → filter (λ (e : BoardEntry). is_round n (act e)) (map bare h) ≡ map bare (filter (λ (e : BoardEntry). is_round n (act e)) h)
of_round h n = filter_mapped bare (λ (e : BoardEntry). is_round n (act e)) (λ (e : BoardEntry). is_round n (act e)) h (λ e. ap (is_round n) (act_bare e.event))

first_bare : (h : List BoardEntry) (n : ℕ) → first_moment (map bare h) n ≡ first_moment h n
first_bare h n = ap (λ (xs : List BoardEntry). moment_or_zero (final xs)) (of_round h n) ∙ final_bare (filter (λ (e : BoardEntry). is_round n (act e)) h)

latest_bare : (h : List BoardEntry) (n : ℕ) → latest_moment (map bare h) n ≡ latest_moment h n
latest_bare h n = ap (λ (xs : List BoardEntry). moment_or_zero (first xs)) (of_round h n) ∙ front_bare (filter (λ (e : BoardEntry). is_round n (act e)) h)

-- Pairs and keys.

drawn_bare : (h : List BoardEntry) → drawn (map bare h) ≡ drawn h
drawn_bare [] = refl
drawn_bare (e ∷ h) =
    ap (λ (a : Act). drawn (map bare h) ++ draws_of_act a) (act_bare e.event) ∙ ap (λ (ks : List (List ℕ)). ks ++ draws_of_act (act e)) (drawn_bare h)

leased_bare : (h : List BoardEntry) → all_leased (map bare h) ≡ all_leased h
leased_bare h = flat_bare (λ (e : BoardEntry). leased_by_act (act e)) h (λ e. ap leased_by_act (act_bare e.event))

held_bare : (h : List BoardEntry) → held (map bare h) ≡ held h
held_bare [] = refl
held_bare (e ∷ h) =
    ap (λ (a : Act). filter (λ (leg : Holder). not (closes_leg (bare e) leg)) (held (map bare h)) ++ legs_of_act a) (act_bare e.event)
    ∙ ap (λ (ls : List Holder). filter (λ (leg : Holder). not (closes_leg (bare e) leg)) ls ++ legs_of_act (act e)) (held_bare h)
    ∙ ap (λ (ls : List Holder). ls ++ legs_of_act (act e))
    (sift (λ (leg : Holder). not (closes_leg (bare e) leg)) (λ (leg : Holder). not (closes_leg e leg)) (held h) (λ leg. ap not (closes_bare e.moment e.event leg)))

closed_by : (h : List BoardEntry) (moment : ℕ) (v : BoardEvent) → closed (map bare h) (entry moment (bare_event v)) ≡ closed h (entry moment v)
closed_by h moment (Turn c) =
    ap (λ (ls : List Holder). flat_map (λ (of : Call). filter (λ (leg : Holder). (leg.call == of.number) && closes_leg (entry moment (Turn c)) leg) ls) (calls_in (entry moment (Turn c)))) (held_bare h)
closed_by h moment (Tick calls) =
    ap (λ (ls : List Holder). flat_map (λ (of : Call). filter (λ (leg : Holder). (leg.call == of.number) && closes_leg (entry moment (Tick calls)) leg) ls) (calls_in (entry moment (Tick calls)))) (held_bare h)
closed_by h moment (Stop calls) =
    ap (λ (ls : List Holder). flat_map (λ (of : Call). filter (λ (leg : Holder). (leg.call == of.number) && closes_leg (entry moment (Stop calls)) leg) ls) (calls_in (entry moment (Stop calls)))) (held_bare h)

returned_bare : (h : List BoardEntry) → returned (map bare h) ≡ returned h
returned_bare [] = refl
returned_bare (e ∷ h) =
    ap (λ (a : Act). returned (map bare h) ++ map (λ (leg : Holder). leg.pair) (closed (map bare h) (bare e)) ++ undone_pairs a) (act_bare e.event)
    ∙ ap (λ (ls : List Holder). returned (map bare h) ++ map (λ (leg : Holder). leg.pair) ls ++ undone_pairs (act e)) (closed_by h e.moment e.event)
    ∙ ap (λ (ps : List ℕ). ps ++ map (λ (leg : Holder). leg.pair) (closed h e) ++ undone_pairs (act e)) (returned_bare h)

abbrev free_by : Config → List ℕ → List Holder → List ℕ → List ℕ
free_by config out its back =
    filter (λ (p : ℕ). not (has out p)) (numbers 0 (pair_count config)) ++ filter (λ (p : ℕ). not (has (map (λ (leg : Holder). leg.pair) its) p)) (last_once back)

free_bare : (config : Config) (h : List BoardEntry) → free config (map bare h) ≡ free config h
free_bare config h =
    ap (λ (out : List ℕ). free_by config out (held (map bare h)) (returned (map bare h))) (leased_bare h)
    ∙ ap (λ (its : List Holder). free_by config (all_leased h) its (returned (map bare h))) (held_bare h)
    ∙ ap (free_by config (all_leased h) (held h)) (returned_bare h)

-- Replies and moments.

keepings_bare : (h : List BoardEntry) → keepings (map bare h) ≡ keepings h
keepings_bare h = picked_mapped bare keeping_of keeping_of h (λ e. keeping_bare e.moment e.event)

moment_bare : (h : List BoardEntry) → board_last_moment (map bare h) ≡ board_last_moment h
moment_bare [] = refl
moment_bare (e ∷ h) = ap (max e.moment) (moment_bare h)

-- All that is asked of two histories.
pub record SameBoards (config : Config) (h k : List BoardEntry) : Type 0 where
  pub begun_is : begun h ≡ begun k
  pub live_is : live h ≡ live k
  pub rounds_are : (n : ℕ) → rounds h n ≡ rounds k n
  pub dues_are : (n : ℕ) → due_moment h n ≡ due_moment k n
  pub firsts_are : (n : ℕ) → first_moment h n ≡ first_moment k n
  pub latests_are : (n : ℕ) → latest_moment h n ≡ latest_moment k n
  pub drawn_is : drawn h ≡ drawn k
  pub leased_is : all_leased h ≡ all_leased k
  pub held_is : held h ≡ held k
  pub free_is : free config h ≡ free config k
  pub keepings_are : keepings h ≡ keepings k
  pub moment_is : board_last_moment h ≡ board_last_moment k

pub same_boards : (config : Config) (h k : List BoardEntry) → map bare h ≡ map bare k → SameBoards config h k
same_boards config h k is = record {
  begun_is = sym (begun_bare h) ∙ ap begun is ∙ begun_bare k;
  live_is = sym (live_bare h) ∙ ap live is ∙ live_bare k;
  rounds_are = λ n. sym (rounds_bare h n) ∙ ap (λ (x : List BoardEntry). rounds x n) is ∙ rounds_bare k n;
  dues_are = λ n. sym (due_bare h n) ∙ ap (λ (x : List BoardEntry). due_moment x n) is ∙ due_bare k n;
  firsts_are = λ n. sym (first_bare h n) ∙ ap (λ (x : List BoardEntry). first_moment x n) is ∙ first_bare k n;
  latests_are = λ n. sym (latest_bare h n) ∙ ap (λ (x : List BoardEntry). latest_moment x n) is ∙ latest_bare k n;
  drawn_is = sym (drawn_bare h) ∙ ap drawn is ∙ drawn_bare k;
  leased_is = sym (leased_bare h) ∙ ap all_leased is ∙ leased_bare k;
  held_is = sym (held_bare h) ∙ ap held is ∙ held_bare k;
  free_is = sym (free_bare config h) ∙ ap (free config) is ∙ free_bare config k;
  keepings_are = sym (keepings_bare h) ∙ ap keepings is ∙ keepings_bare k;
  moment_is = sym (moment_bare h) ∙ ap board_last_moment is ∙ moment_bare k;
}
