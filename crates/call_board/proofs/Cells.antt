-- The cells of live calls: no two calls have one, and there are no more than the limit of sessions.
use Rattle.std.proofs.Common.{◌≡◌, ◌∙◌, sym, ap, subst, ℕ, ◌+◌, ◌≤◌, ◌<◌, ◌⊎◌, inl, inr, List, [], ◌∷◌, ◌++◌, map, filter, length, Bool, true, false, cond, not, refl, arith, length-append}
use Rattle.std.specs.Prelude.{◌||◌}
use Rattle.std.proofs.lemmas.List.{map-append, length-map}
use Rattle.std.proofs.lemmas.List.Elements.{filter-append}
use Rattle.relay_outside.specs.declared.settings.Config.{Config}
use Rattle.histories.specs.Words.{In, here, there, has}
use Rattle.histories.proofs.Lists.{filtered, maps, mapped}
use Rattle.call_board.specs.Acts.{Call, BoardEntry, act}
use Rattle.call_board.specs.Calls.{begun, begun_by_act, ended_by, has_ended, live, lowest_but}
use Rattle.call_board.specs.Fits.{FitsBoard, IsFitting}
use Rattle.call_board.proofs.Once.{Once, once_equal, once_append, once_filtered, filter_less}
use Rattle.call_board.proofs.Lowest.{IsLowest, lowest_is, lowest_bound}
use Rattle.call_board.proofs.Calls.{Begins, nothing, a_call, entry_begins, live_before}

abbrev cell_of : Call → ℕ
cell_of c = c.cell

two_case : {A : Type 0} (q r : A → Bool) (x : A) (xs : List A) → filter (λ y. not (q y || r y)) xs ≡ filter (λ y. not (q y)) (filter (λ y. not (r y)) xs)
    → (a b : Bool) → q x ≡ a
    → cond (not (a || b)) (x ∷ filter (λ y. not (q y || r y)) xs) (filter (λ y. not (q y || r y)) xs) ≡ filter (λ y. not (q y)) (cond (not b) (x ∷ filter (λ y. not (r y)) xs) (filter (λ y. not (r y)) xs))
two_case q r x xs rest true true is = rest
two_case q r x xs rest false true is = rest
two_case q r x xs rest true false is = rest ∙ sym (ap (λ a. cond (not a) (x ∷ filter (λ y. not (q y)) (filter (λ y. not (r y)) xs)) (filter (λ y. not (q y)) (filter (λ y. not (r y)) xs))) is)
two_case q r x xs rest false false is = ap (λ ys. x ∷ ys) rest ∙ sym (ap (λ a. cond (not a) (x ∷ filter (λ y. not (q y)) (filter (λ y. not (r y)) xs)) (filter (λ y. not (q y)) (filter (λ y. not (r y)) xs))) is)

two_filters : {A : Type 0} (q r : A → Bool) (xs : List A) → filter (λ y. not (q y || r y)) xs ≡ filter (λ y. not (q y)) (filter (λ y. not (r y)) xs)
two_filters q r [] = refl
two_filters q r (x ∷ xs) = two_case q r x xs (two_filters q r xs) (q x) (r x) refl

-- the entry ends the call
abbrev ends : BoardEntry → Call → Bool
ends e c = has (map (λ (d : Call). d.number) (ended_by e)) c.number

abbrev pub still_live : BoardEntry → List BoardEntry → List Call
still_live e h = filter (λ (c : Call). not (ends e c)) (live h)

abbrev pub newly_live : BoardEntry → List BoardEntry → List Call
newly_live e h = filter (λ (c : Call). not (has_ended (e ∷ h) c)) (begun_by_act (act e))

-- the live calls after an entry: those before it that it did not end, and the one that it began
pub live_step : (h : List BoardEntry) (e : BoardEntry) → live (e ∷ h) ≡ still_live e h ++ newly_live e h
live_step h e =
    filter-append (λ (c : Call). not (has_ended (e ∷ h) c)) (begun h) (begun_by_act (act e))
    ∙ ap (λ xs. xs ++ newly_live e h) (two_filters (ends e) (λ (c : Call). has_ended h c) (begun h))

bound_case : (config : Config) (h : List BoardEntry) (calls : List Call) (p q : Call → Bool) → length (live h) ≤ config.max_sessions → Begins config h calls
    → length (filter p (live h) ++ filter q calls) ≤ config.max_sessions
bound_case config h calls p q rest (nothing none) =
    let less = filter_less p (live h) in
    let new = filter_less q calls in
    let count : length calls ≡ 0 = ap length none in
    let sum = length-append (filter p (live h)) (filter q calls) in omega (arith, less, new, sum)
bound_case config h calls p q rest (a_call c id is c_is room) =
    let less = filter_less p (live h) in
    let new = filter_less q calls in
    let count : length calls ≡ 1 = ap length is in
    let sum = length-append (filter p (live h)) (filter q calls) in omega (arith, less, new, sum)

pub live_bound : (config : Config) (h : List BoardEntry) → IsFitting config h → length (live h) ≤ config.max_sessions
live_bound config [] fits = omega arith
live_bound config (e ∷ h) fits =
    subst (λ xs. length xs ≤ config.max_sessions) (sym (live_step h e))
    (bound_case config h (begun_by_act (act e)) (λ (c : Call). not (ends e c)) (λ (c : Call). not (has_ended (e ∷ h) c)) (live_bound config h fits.1) (entry_begins config h e fits.0))

once_begun : (config : Config) (h : List BoardEntry) (calls : List Call) → Begins config h calls → Once (map cell_of calls)
once_begun config h calls (nothing none) = subst (λ xs. Once (map cell_of xs)) (sym none) tt
once_begun config h calls (a_call c id is c_is room) = subst (λ xs. Once (map cell_of xs)) (sym is) (λ i. elim i [ ], tt)

only_one : (c d : Call) → In c (d ∷ []) → c ≡ d
only_one c d (here e) = e
only_one c d (there i) = elim i [ ]

fresh_cell : (config : Config) (h : List BoardEntry) (calls : List Call) (c : Call) → Begins config h calls → In c calls → IsLowest (map cell_of (live h)) c.cell × (c.cell ≤ length (live h) + 1) × (length (live h) < config.max_sessions)
fresh_cell config h calls c (nothing none) i = elim (subst (λ xs. In c xs) none i) [ ]
fresh_cell config h calls c (a_call d id is d_is room) i =
    let same : c ≡ d = only_one c d (subst (λ xs. In c xs) is i) in
    let cell : c.cell ≡ lowest_but (map cell_of (live h)) = ap cell_of same ∙ ap cell_of d_is in
    let bound = lowest_bound (map cell_of (live h)) in
    let count : length (map cell_of (live h)) ≡ length (live h) = simp length-map in
    (subst (IsLowest (map cell_of (live h))) (sym cell) (lowest_is (map cell_of (live h))), omega (arith, cell, bound, count), room)

cells_apart : (config : Config) (h : List BoardEntry) (e : BoardEntry) (n : ℕ) → FitsBoard config h e → In n (map cell_of (still_live e h)) → In n (map cell_of (newly_live e h)) → ⊥
cells_apart config h e n fits i j =
    let old = mapped cell_of (still_live e h) i in
    let new = mapped cell_of (newly_live e h) j in
    let lowest = fresh_cell config h (begun_by_act (act e)) new.from (entry_begins config h e fits) (filtered (λ (c : Call). not (has_ended (e ∷ h) c)) (begun_by_act (act e)) new.is_in).0 in
    let there_is = maps cell_of (live h) (filtered (λ (c : Call). not (ends e c)) (live h) old.is_in).0 in
    lowest.0.fresh (subst (λ m. In m (map cell_of (live h))) (old.makes ∙ sym new.makes) there_is)

pub live_cells_once : (config : Config) (h : List BoardEntry) → IsFitting config h → Once (map (λ (c : Call). c.cell) (live h))
live_cells_once config [] fits = tt
live_cells_once config (e ∷ h) fits =
    subst Once (sym (ap (map cell_of) (live_step h e) ∙ map-append cell_of (still_live e h) (newly_live e h)))
    (once_append (map cell_of (still_live e h)) (map cell_of (newly_live e h))
    (once_filtered cell_of (λ (c : Call). not (ends e c)) (live h) (live_cells_once config h fits.1))
    (once_filtered cell_of (λ (c : Call). not (has_ended (e ∷ h) c)) (begun_by_act (act e)) (once_begun config h (begun_by_act (act e)) (entry_begins config h e fits.0)))
    (λ n i j. cells_apart config h e n fits.0 i j))

pub live_cells : (config : Config) (h : List BoardEntry) (c d : Call) → IsFitting config h → In c (live h) → In d (live h) → c.cell ≡ d.cell → c ≡ d
live_cells config h c d fits i j e = once_equal cell_of (live h) (live_cells_once config h fits) i j e

cell_case : (config : Config) (h : List BoardEntry) (e : BoardEntry) (c : Call) → FitsBoard config h e → (In c (live h) → (1 ≤ c.cell) × (c.cell ≤ config.max_sessions))
    → In c (live h) ⊎ In c (begun_by_act (act e)) → (1 ≤ c.cell) × (c.cell ≤ config.max_sessions)
cell_case config h e c fits rest (inl i) = rest i
cell_case config h e c fits rest (inr i) =
    let f = fresh_cell config h (begun_by_act (act e)) c (entry_begins config h e fits) i in (f.0.positive, omega (arith, f.1, f.2))

-- the cell of a live call is a number from 1 to the limit of sessions
pub live_cell : (config : Config) (h : List BoardEntry) (c : Call) → IsFitting config h → In c (live h) → (1 ≤ c.cell) × (c.cell ≤ config.max_sessions)
live_cell config [] c fits i = elim i [ ]
live_cell config (e ∷ h) c fits i = cell_case config h e c fits.0 (live_cell config h c fits.1) (live_before h e c i).0
