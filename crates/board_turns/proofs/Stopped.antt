-- The live calls in order, of which those up to a number have ended.
use Rattle.std.proofs.Common.{◌≡◌, ◌∙◌, refl, sym, ap, subst, ℕ, zero, suc, ◌+◌, ◌<◌, Bool, true, false, not, List, [], ◌∷◌, ◌++◌, Some, map, filter, take, drop, length, arith, append-nil, append_assoc}
use Rattle.std.specs.Prelude.{slice_get}
use Rattle.std.specs.List.{flat_map}
use Rattle.std.proofs.lemmas.List.{length-map, take-map}
use Rattle.relay_outside.specs.declared.settings.Config.{Config}
use Rattle.turn_table.specs.declared.hands.Hand.{Hand}
use Rattle.histories.specs.Words.{In, here, there, has}
use Rattle.histories.proofs.Lists.{filtered, it_has}
use Rattle.call_board.specs.Acts.{Call, BoardEntry}
use Rattle.call_board.specs.Calls.{live}
use Rattle.call_board.specs.Pairs.{closed_of}
use Rattle.call_board.specs.Fits.{IsFitting}
use Rattle.call_board.specs.declared.board.Board.{Board}
use Rattle.call_board.specs.declared.live_call.LiveCall.{LiveCall}
use Rattle.call_board.specs.Views.{CallView, call_view, view_of}
use Rattle.call_board.specs.Boards.{BoardMatches, CallsFor}
use Rattle.call_board.specs.Whole.{with_ended}
use Rattle.call_board.proofs.Found.{filter_map_is, ended_calls}
use Rattle.call_board.proofs.FreeAfter.{live_once}
use Rattle.call_board.proofs.Sieves.{without_taken}
use Rattle.relay_core.specs.Entries.{Entry, board_history}
use Rattle.relay_core.specs.Legal.{Orderly}
use Rattle.relay_core.specs.Records.{Made, list_of}
use Rattle.relay_core.specs.Scripts.{ending}
use Rattle.relay_core.specs.Turns.{IsAbove, GainsNested, made_by}
use Rattle.relay_core.proofs.Histories.{good_history}
use Rattle.media_ports.proofs.Leased.{drop_next}
use Rattle.board_turns.specs.CallEnds.{IsCallOf}
use Rattle.board_turns.specs.Stops.{stop_entry}
use Rattle.board_turns.proofs.Closed.{list_gained}
use Rattle.board_turns.proofs.Next.{next_can}

-- Lists at a place.

pub nth : {A : Type 0} (xs : List A) (i : ℕ) → i < length xs → (x : A) × (slice_get xs i ≡ Some x)
nth [] i low = absurd (omega (arith, low))
nth (x ∷ xs) zero low = (x, refl)
nth (x ∷ xs) (suc i) low = nth xs i (omega (arith, low))

pub in_at : {A : Type 0} (xs : List A) (i : ℕ) (x : A) → slice_get xs i ≡ Some x → In x xs
in_at [] i x at = absurd (let f = at in cc)
in_at (y ∷ ys) zero x at = here (let f : Some y ≡ Some x = at in let q : y ≡ x = cc in sym q)
in_at (y ∷ ys) (suc i) x at = there (in_at ys i x at)

pub in_taken : {A : Type 0} {x : A} (k : ℕ) (xs : List A) → In x (take k xs) → In x xs
in_taken zero [] i = i
in_taken zero (y ∷ ys) i = elim i [ ]
in_taken (suc k) [] i = i
in_taken (suc k) (y ∷ ys) (here q) = here q
in_taken (suc k) (y ∷ ys) (there i) = there (in_taken k ys i)

pub get_map : {A B : Type 0} (f : A → B) (xs : List A) (i : ℕ) (x : A) → slice_get xs i ≡ Some x → slice_get (map f xs) i ≡ Some (f x)
get_map f [] i x at = absurd (let q = at in cc)
get_map f (y ∷ ys) zero x at = ap (λ z. Some (f z)) (let q : Some y ≡ Some x = at in let e : y ≡ x = cc in e)
get_map f (y ∷ ys) (suc i) x at = get_map f ys i x at

pub spread_more : {A B : Type 0} (f : A → List B) (xs : List A) (x : A) → flat_map f (xs ++ x ∷ []) ≡ flat_map f xs ++ f x
spread_more f [] x = append-nil (f x)
spread_more f (y ∷ ys) x = ap (λ zs. f y ++ zs) (spread_more f ys x) ∙ sym (append_assoc (f y) (flat_map f ys) (f x))

pub calls_long : (config : Config) (calls : List LiveCall) (cs : List CallView) → CallsFor config calls cs → length calls ≡ length cs
calls_long config [] [] for = refl
calls_long config [] (c ∷ cs) for = absurd for
calls_long config (call ∷ calls) [] for = absurd for
calls_long config (call ∷ calls) (c ∷ cs) for = ap suc (calls_long config calls cs for.1)

-- The numbers of the calls that are left.

abbrev number_of : Call → ℕ
number_of c = c.number

pub views_numbers : (h : List BoardEntry) (cs : List Call) → map (λ (c : CallView). c.of.number) (map (call_view h) cs) ≡ map number_of cs
views_numbers h [] = refl
views_numbers h (c ∷ cs) = ap (λ (ns : List ℕ). c.number ∷ ns) (views_numbers h cs)

left_numbers : (config : Config) (h : List BoardEntry) (e : BoardEntry) (i : ℕ) → IsFitting config h →
    map (λ (c : CallView). c.of.number) (with_ended h e (take i (live h)) (view_of config h)).calls ≡ drop i (map number_of (live h))
left_numbers config h e i fits =
    let nums = map number_of (live h) in
    ap (map (λ (c : CallView). c.of.number)) (ended_calls config h e (take i (live h)) (view_of config h) fits refl)
    ∙ views_numbers h (filter (λ (c : Call). not (has (map number_of (take i (live h))) c.number)) (live h))
    ∙ sym (filter_map_is number_of (λ (n : ℕ). not (has (map number_of (take i (live h))) n)) (live h))
    ∙ ap (λ (ns : List ℕ). filter (λ (n : ℕ). not (has ns n)) nums) (sym (take-map number_of i (live h)))
    ∙ without_taken i nums (live_once config h fits)

-- the first of the board's calls is the next one
pub next_number : (config : Config) (h : List BoardEntry) (e : BoardEntry) (i : ℕ) (of : Call) → IsFitting config h → slice_get (live h) i ≡ Some of →
    slice_get (map (λ (c : CallView). c.of.number) (with_ended h e (take i (live h)) (view_of config h)).calls) 0 ≡ Some of.number
next_number config h e i of fits at =
    ap (λ (ns : List ℕ). slice_get ns 0)
    (left_numbers config h e i fits ∙ drop_next (map number_of (live h)) i of.number (get_map number_of (live h) i of at))

-- there is one
pub one_left : (config : Config) (h : List BoardEntry) (e : BoardEntry) (i : ℕ) (of : Call) (board : Board) → IsFitting config h → slice_get (live h) i ≡ Some of →
    BoardMatches config board (with_ended h e (take i (live h)) (view_of config h)) → 0 < length board.calls.list
one_left config h e i of board fits at shows =
    let v = with_ended h e (take i (live h)) (view_of config h) in
    let long = calls_long config board.calls.list v.calls shows.calls_for in
    let mapped = length-map v.calls (λ (c : CallView). c.of.number) in
    let is : length (map (λ (c : CallView). c.of.number) v.calls) ≡ suc (length (drop (i + 1) (map number_of (live h)))) =
    ap length (left_numbers config h e i fits ∙ drop_next (map number_of (live h)) i of.number (get_map number_of (live h) i of at)) in
    omega (arith, long, mapped, is)

out_case : (b : Bool) → not b ≡ true → b ≡ true → ⊥
out_case true left is = let f = left in cc
out_case false left is = let f = is in cc

pub not_yet : (config : Config) (h : List BoardEntry) (i : ℕ) (of : Call) → IsFitting config h → slice_get (live h) i ≡ Some of → In of.number (map number_of (take i (live h))) → ⊥
not_yet config h i of fits at among =
    let nums = map number_of (live h) in
    let rest = without_taken i nums (live_once config h fits) ∙ drop_next nums i of.number (get_map number_of (live h) i of at) in
    let kept = filtered (λ (n : ℕ). not (has (take i nums) n)) nums (subst (λ (ns : List ℕ). In of.number ns) (sym rest) (here refl)) in
    out_case (has (take i nums) of.number) kept.1 (it_has of.number (take i nums) (subst (λ (ns : List ℕ). In of.number ns) (sym (take-map number_of i (live h))) among))

module _ {M S T : Type 0} {g : _} where
  -- it is the call by its list
  pub stop_call : (config : Config) (number moment : ℕ) (old now : Hand M S Made T g) (i : ℕ) (of : Call) (board : Board) →
      Orderly config (made_by old) → IsAbove (made_by old) 0 number → slice_get (live (board_history (made_by old) number)) i ≡ Some of →
      GainsNested number moment (flat_map (ending config (board_history (made_by old) number) (stop_entry (board_history (made_by old) number))) (take i (live (board_history (made_by old) number)))) old now →
      BoardMatches config board (with_ended (board_history (made_by old) number) (stop_entry (board_history (made_by old) number)) (take i (live (board_history (made_by old) number))) (view_of config (board_history (made_by old) number))) →
      IsCallOf config (made_by now) board of.number of (closed_of (board_history (made_by old) number) (stop_entry (board_history (made_by old) number)) of)
  stop_call config number moment old now i of board o above at gains shows =
      let l = made_by old in
      let h = board_history l number in
      let e = stop_entry h in
      let alive = in_at (live h) i of at in
      subst (λ (es : List Entry). IsCallOf config es board of.number of (closed_of h e of))
      (sym (list_gained number moment (flat_map (ending config h e) (take i (live h))) old now gains))
      (next_can config l (list_of gains.rows) o number e (take i (live h)) of board above alive alive (not_yet config h i of (good_history config l o number) at)
      (λ d j. in_taken i (live h) j) gains.gained.owes (view_of config h) refl shows)
