-- Histories that one board stands for: what the entries that they demand are made of is the same.
use Rattle.std.proofs.Common.{◌≡◌, ◌∙◌, refl, sym, ap, subst, ℕ, ◌+◌, ◌<◌, List, [], ◌∷◌, map, length, filter, Some}
use Rattle.std.specs.Prelude.{is_some}
use Rattle.std.specs.Str.{bytes_eq}
use Rattle.relay_outside.specs.declared.settings.Config.{Config}
use Rattle.relay_outside.specs.declared.address.Addr.{Addr}
use Rattle.relay_outside.specs.declared.address.Family.{Family}
use Rattle.histories.specs.Words.{In, here, there, first}
use Rattle.port_pool.specs.Ports.{pair_count}
use Rattle.offer_answer.proofs.Alike.{Alike}
use Rattle.call_board.specs.Acts.{Call, BoardEntry}
use Rattle.call_board.specs.Calls.{begun, live, find_call, new_call, lowest_but, rounds, due_moment, is_ending}
use Rattle.call_board.specs.Pairs.{free_in, next_generation, drawn}
use Rattle.call_board.specs.KeptReplies.{kept_reply, keepings}
use Rattle.call_board.specs.Views.{call_view, view_of}
use Rattle.call_board.proofs.Calls.{found_live}
use Rattle.call_board.proofs.AlikeKeepings.{kept_alike}
use Rattle.call_board.proofs.AlikeViews.{AlikeCalls, AllAlike, AlikeViews}

pub record AlikeHistories (config : Config) (g h : List BoardEntry) : Type 0 where
  pub live_is : live g ≡ live h
  pub begun_is : length (begun g) ≡ length (begun h)
  pub drawn_is : length (drawn g) ≡ length (drawn h)
  pub free_is : (family : Family) → free_in config g family ≡ free_in config h family
  pub leases_are : (pair : ℕ) → pair < pair_count config → next_generation g pair ≡ next_generation h pair
  pub calls_are : (of : Call) → In of (live g) → AlikeCalls config (call_view g of) (call_view h of)
  pub kept_is : (source : Addr) (cookie : List ℕ) (now : ℕ) → kept_reply g source cookie now ≡ kept_reply h source cookie now

calls_same : (config : Config) (g h : List BoardEntry) (xs ys : List Call) → AllAlike config (map (call_view g) xs) (map (call_view h) ys) → xs ≡ ys
calls_same config g h [] [] s = refl
calls_same config g h [] (y ∷ ys) s = elim s [ ]
calls_same config g h (x ∷ xs) [] s = elim s [ ]
calls_same config g h (x ∷ xs) (y ∷ ys) s =
    let here : x ≡ y = s.0.of_is in
    let more = calls_same config g h xs ys s.1 in
    λ i. here i ∷ more i

each_call : (config : Config) (g h : List BoardEntry) (xs ys : List Call) (of : Call) → AllAlike config (map (call_view g) xs) (map (call_view h) ys) → In of xs →
    AlikeCalls config (call_view g of) (call_view h of)
each_call config g h [] ys of s i = elim i [ ]
each_call config g h (x ∷ xs) [] of s i = elim s [ ]
each_call config g h (x ∷ xs) (y ∷ ys) of s (here e) =
    let same : y ≡ of = (let p : x ≡ y = s.0.of_is in sym p ∙ sym e) in
    subst (λ (d : Call). AlikeCalls config (call_view g of) (call_view h d)) same (subst (λ (d : Call). AlikeCalls config (call_view g d) (call_view h y)) (sym e) s.0)
each_call config g h (x ∷ xs) (y ∷ ys) of s (there i) = each_call config g h xs ys of s.1 i

pub histories_alike : (config : Config) (g h : List BoardEntry) → AlikeViews config (view_of config g) (view_of config h) → AlikeHistories config g h
histories_alike config g h s = record {
  live_is = calls_same config g h (live g) (live h) s.calls_are;
  begun_is = s.begun_is;
  drawn_is = s.drawn_is;
  free_is = s.free_is;
  leases_are = λ pair below. ap (λ n. n + 1) (s.leases_are pair below);
  calls_are = λ of i. each_call config g h (live g) (live h) of s.calls_are i;
  kept_is = λ source cookie now. kept_alike (keepings g) (keepings h) source cookie now s.keepings_are;
}

pub found_alike : (config : Config) (g h : List BoardEntry) (id : List ℕ) → AlikeHistories config g h → find_call g id ≡ find_call h id
found_alike config g h id s = ap (λ (calls : List Call). first (filter (λ (c : Call). bytes_eq c.id id) calls)) s.live_is

pub new_alike : (config : Config) (g h : List BoardEntry) (id : List ℕ) → AlikeHistories config g h → new_call g id ≡ new_call h id
new_alike config g h id s =
    let number = s.begun_is in
    let live = s.live_is in
    λ i. record { number = number i; cell = lowest_but (map (λ (c : Call). c.cell) (live i)); id = id }

-- the rounds of a call that was found
pub rounds_alike : (config : Config) (g h : List BoardEntry) (id : List ℕ) (of : Call) → AlikeHistories config g h → find_call h id ≡ Some of → Alike config (rounds g of.number) (rounds h of.number)
rounds_alike config g h id of s is = (s.calls_are of (found_live g id of (found_alike config g h id s ∙ is))).rounds_are

-- whether a call that was found is ending, and when it is due
pub due_alike : (config : Config) (g h : List BoardEntry) (of : Call) → AlikeHistories config g h → In of (live g) → due_moment g of.number ≡ due_moment h of.number
due_alike config g h of s i = (s.calls_are of i).due_is

pub ending_alike : (config : Config) (g h : List BoardEntry) (id : List ℕ) (of : Call) → AlikeHistories config g h → find_call h id ≡ Some of → is_ending g of.number ≡ is_ending h of.number
ending_alike config g h id of s is = ap is_some (due_alike config g h of s (found_live g id of (found_alike config g h id s ∙ is)))
