-- Call-ids: no two live calls have one, so that a call-id finds its call.
use Rattle.std.proofs.Common.{◌≡◌, ◌∙◌, sym, ap, subst, ℕ, ◌⊎◌, inl, inr, List, [], ◌∷◌, filter, Bool, cond, Option, Some, None, refl}
use Rattle.std.specs.Str.{bytes_eq}
use Rattle.std.specs.Cmp.Lexicographic.{bytes_decides}
use Rattle.relay_outside.specs.declared.settings.Config.{Config}
use Rattle.histories.specs.Words.{In, here, there, first}
use Rattle.histories.proofs.Lists.{filtered, keeps, first_is_in}
use Rattle.call_board.specs.Acts as act
use Rattle.call_board.specs.Acts.{Call, Offer, Act, BoardEntry, act}
use Rattle.call_board.specs.Calls.{begun_by_act, live, find_call}
use Rattle.call_board.specs.Fits.{IsFitting}
use Rattle.call_board.proofs.Told.{Tells, IsCallOf, begins, goes_on}
use Rattle.call_board.proofs.Tells.{tells}
use Rattle.call_board.proofs.Calls.{live_before, found_live}

abbrev has_id : List ℕ → Call → Bool
has_id id c = bytes_eq c.id id

-- the call that is found has the call-id
pub found_id : (h : List BoardEntry) (id : List ℕ) (c : Call) → find_call h id ≡ Some c → c.id ≡ id
found_id h id c found = (bytes_decides c.id id).0 (filtered (has_id id) (live h) (first_is_in (filter (has_id id) (live h)) found)).1

first_none : {A : Type 0} {x : A} (xs : List A) → first xs ≡ None → In x xs → ⊥
first_none [] h i = elim i [ ]
first_none (y ∷ ys) h i = let e = h in cc

-- where none is found, no live call has it
pub none_found : (h : List BoardEntry) (id : List ℕ) (c : Call) → find_call h id ≡ None → In c (live h) → c.id ≡ id → ⊥
none_found h id c none i same = first_none (filter (has_id id) (live h)) none (keeps (has_id id) (live h) i ((bytes_decides c.id id).1 same))

only_one : (c d : Call) → In c (d ∷ []) → c ≡ d
only_one c d (here e) = e
only_one c d (there i) = elim i [ ]

-- what an entry begins: nothing, or one call whose call-id no live call had
data BeginsAnew (h : List BoardEntry) (calls : List Call) : Type 0 where
  nothing : calls ≡ [] → BeginsAnew h calls
  a_call : (c : Call) → calls ≡ c ∷ [] → find_call h c.id ≡ None → BeginsAnew h calls

anew_case : (config : Config) (h : List BoardEntry) (id : List ℕ) (o : Offer) → IsCallOf config h id o → BeginsAnew h (begun_by_act (act.Offered o))
anew_case config h id o (begins is_new of_is none room) =
    a_call o.of (ap (λ b. cond b (o.of ∷ []) []) is_new) (ap (find_call h) (ap (λ (c : Call). c.id) of_is) ∙ none)
anew_case config h id o (goes_on is_old found is_live) = nothing (ap (λ b. cond b (o.of ∷ []) []) is_old)

begins_anew : (config : Config) (h : List BoardEntry) (e : BoardEntry) (a : Act) → Tells config h e a → BeginsAnew h (begun_by_act a)
begins_anew config h e (act.Offered o) shown = anew_case config h shown.id o shown.call_is
begins_anew config h e act.Repeated shown = nothing refl
begins_anew config h e act.OutOfMemory shown = nothing refl
begins_anew config h e (act.Failed code) shown = nothing refl
begins_anew config h e (act.Undone code leases draws) shown = nothing refl
begins_anew config h e (act.Answered a) shown = nothing refl
begins_anew config h e (act.Deleted of) shown = nothing refl
begins_anew config h e (act.Queried of) shown = nothing refl
begins_anew config h e act.Told shown = nothing refl
begins_anew config h e (act.Delayed of s) shown = nothing refl

old_and_new : (h : List BoardEntry) (calls : List Call) (c d : Call) → BeginsAnew h calls → In c (live h) → In d calls → c.id ≡ d.id → ⊥
old_and_new h calls c d (nothing none) i j same = elim (subst (λ xs. In d xs) none j) [ ]
old_and_new h calls c d (a_call new is none) i j same =
    none_found h new.id c none i (same ∙ ap (λ (x : Call). x.id) (only_one d new (subst (λ xs. In d xs) is j)))

both_new : (h : List BoardEntry) (calls : List Call) (c d : Call) → BeginsAnew h calls → In c calls → In d calls → c ≡ d
both_new h calls c d (nothing none) i j = elim (subst (λ xs. In c xs) none i) [ ]
both_new h calls c d (a_call new is none) i j = only_one c new (subst (λ xs. In c xs) is i) ∙ sym (only_one d new (subst (λ xs. In d xs) is j))

ids_case : (h : List BoardEntry) (calls : List Call) (c d : Call) → BeginsAnew h calls → (In c (live h) → In d (live h) → c ≡ d)
    → In c (live h) ⊎ In c calls → In d (live h) ⊎ In d calls → c.id ≡ d.id → c ≡ d
ids_case h calls c d new rest (inl i) (inl j) same = rest i j
ids_case h calls c d new rest (inl i) (inr j) same = absurd (old_and_new h calls c d new i j same)
ids_case h calls c d new rest (inr i) (inl j) same = absurd (old_and_new h calls d c new j i (sym same))
ids_case h calls c d new rest (inr i) (inr j) same = both_new h calls c d new i j

-- no two live calls have one call-id
pub live_ids : (config : Config) (h : List BoardEntry) (c d : Call) → IsFitting config h → In c (live h) → In d (live h) → c.id ≡ d.id → c ≡ d
live_ids config [] c d fits i j same = elim i [ ]
live_ids config (e ∷ h) c d fits i j same =
    ids_case h (begun_by_act (act e)) c d (begins_anew config h e (act e) (tells config h e fits.0)) (λ k l. live_ids config h c d fits.1 k l same)
    (live_before h e c i).0 (live_before h e d j).0 same

find_case : (config : Config) (h : List BoardEntry) (c : Call) → IsFitting config h → In c (live h) → (o : Option Call) → find_call h c.id ≡ o → find_call h c.id ≡ Some c
find_case config h c fits i None found = absurd (none_found h c.id c found i refl)
find_case config h c fits i (Some d) found =
    found ∙ ap Some (live_ids config h d c fits (found_live h c.id d found) i (found_id h c.id d found))

-- a live call is found by its call-id
pub live_found : (config : Config) (h : List BoardEntry) (c : Call) → IsFitting config h → In c (live h) → find_call h c.id ≡ Some c
live_found config h c fits i = find_case config h c fits i (find_call h c.id) refl
