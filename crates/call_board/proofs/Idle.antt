-- What failed, asked or was repeated leaves the calls, when they are due, the pairs and the keys as they were.
use Rattle.std.proofs.Common.{◌≡◌, ◌∙◌, sym, ap, subst, ℕ, List, ◌∷◌, ◌++◌, Bool, true, false, refl}
use Rattle.relay_outside.specs.declared.settings.Config.{Config}
use Rattle.ng_reply.specs.declared.code.ErrorCode.{ErrorCode}
use Rattle.histories.specs.Words.{In}
use Rattle.call_board.specs.Acts as act
use Rattle.call_board.specs.Acts.{Act, Lease, Control, Turn, BoardEvent, BoardEntry, act}
use Rattle.call_board.specs.Calls.{live, rounds, due_moment}
use Rattle.call_board.specs.Pairs.{held, free, drawn}
use Rattle.call_board.specs.Fits.{IsFitting}
use Rattle.call_board.proofs.Told.{IsTurn}
use Rattle.call_board.proofs.Repeats.{repeat_alike}
use Rattle.call_board.proofs.Unheld.{same_held_free}

-- the entry changes nothing of these
pub record IsIdle (config : Config) (e : BoardEntry) (h : List BoardEntry) : Type 0 where
  pub same_live : live (e ∷ h) ≡ live h
  pub same_rounds : (n : ℕ) → rounds (e ∷ h) n ≡ rounds h n
  pub same_due : (n : ℕ) → due_moment (e ∷ h) n ≡ due_moment h n
  pub same_held : held (e ∷ h) ≡ held h
  pub same_free : free config (e ∷ h) ≡ free config h
  pub same_drawn : drawn (e ∷ h) ≡ drawn h

-- an act that changes nothing of them
abbrev pub is_idle : Act → Bool
is_idle act.Repeated = true
is_idle act.OutOfMemory = true
is_idle (act.Failed code) = true
is_idle (act.Queried of) = true
is_idle act.Told = true
is_idle _ = false

abbrev entry : ℕ → Control → Act → BoardEntry
entry moment c a = record { moment = moment; event = Turn (record c { act = a }) }

idle_alike : (config : Config) (moment : ℕ) (c : Control) (h : List BoardEntry) (a : Act) → is_idle a ≡ true → IsIdle config (entry moment c a) h
idle_alike config moment c h act.Repeated idle = let r = repeat_alike config moment c h in
    record { same_live = r.same_live; same_rounds = r.same_rounds; same_due = λ n. refl; same_held = r.same_held; same_free = r.same_free; same_drawn = r.same_drawn }
idle_alike config moment c h act.OutOfMemory idle = let r = repeat_alike config moment c h in
    record { same_live = r.same_live; same_rounds = r.same_rounds; same_due = λ n. refl; same_held = r.same_held; same_free = r.same_free; same_drawn = r.same_drawn }
idle_alike config moment c h (act.Failed code) idle = let r = repeat_alike config moment c h in
    record { same_live = r.same_live; same_rounds = r.same_rounds; same_due = λ n. refl; same_held = r.same_held; same_free = r.same_free; same_drawn = r.same_drawn }
idle_alike config moment c h (act.Queried of) idle = let r = repeat_alike config moment c h in
    record { same_live = r.same_live; same_rounds = r.same_rounds; same_due = λ n. refl; same_held = r.same_held; same_free = r.same_free; same_drawn = r.same_drawn }
idle_alike config moment c h act.Told idle = let r = repeat_alike config moment c h in
    record { same_live = r.same_live; same_rounds = r.same_rounds; same_due = λ n. refl; same_held = r.same_held; same_free = r.same_free; same_drawn = r.same_drawn }
idle_alike config moment c h (act.Delayed of s) idle = absurd (let e = idle in cc)
idle_alike config moment c h (act.Undone code leases draws) idle = absurd (let e = idle in cc)
idle_alike config moment c h (act.Offered o) idle = absurd (let e = idle in cc)
idle_alike config moment c h (act.Answered x) idle = absurd (let e = idle in cc)
idle_alike config moment c h (act.Deleted of) idle = absurd (let e = idle in cc)

whole : (e : BoardEntry) (a : Act) (t : IsTurn e a) → e ≡ entry e.moment t.control a
whole e a t =
    ap (λ (v : BoardEvent). record { moment = e.moment; event = v }) t.is_turn
    ∙ ap (λ (x : Act). record { moment = e.moment; event = Turn (record t.control { act = x }) }) t.acts

pub idle_changes_nothing : (config : Config) (e : BoardEntry) (h : List BoardEntry) (a : Act) → IsTurn e a → is_idle a ≡ true → IsIdle config e h
idle_changes_nothing config e h a t idle = subst (λ x. IsIdle config x h) (sym (whole e a t)) (idle_alike config e.moment t.control h a idle)

-- an offer that was undone leaves the calls, their rounds, the holders and the set of free pairs
pub record IsUndoing (config : Config) (e : BoardEntry) (h : List BoardEntry) (draws : List (List ℕ)) : Type 0 where
  pub same_live : live (e ∷ h) ≡ live h
  pub same_rounds : (n : ℕ) → rounds (e ∷ h) n ≡ rounds h n
  pub same_due : (n : ℕ) → due_moment (e ∷ h) n ≡ due_moment h n
  pub same_held : held (e ∷ h) ≡ held h
  pub still_free : (p : ℕ) → In p (free config h) → In p (free config (e ∷ h))
  pub free_before : (p : ℕ) → In p (free config (e ∷ h)) → In p (free config h)
  pub draws_are_used : drawn (e ∷ h) ≡ drawn h ++ draws

undone_held : (config : Config) (moment : ℕ) (c : Control) (h : List BoardEntry) (code : ErrorCode) (leases : List Lease) (draws : List (List ℕ))
    → held (entry moment c (act.Undone code leases draws) ∷ h) ≡ held h
undone_held config moment c h code leases draws = (repeat_alike config moment c h).same_held

undone_alike : (config : Config) (moment : ℕ) (c : Control) (h : List BoardEntry) (code : ErrorCode) (leases : List Lease) (draws : List (List ℕ))
    → IsFitting config (entry moment c (act.Undone code leases draws) ∷ h) → IsUndoing config (entry moment c (act.Undone code leases draws)) h draws
undone_alike config moment c h code leases draws fits = let r = repeat_alike config moment c h in record {
  same_live = r.same_live;
  same_rounds = r.same_rounds;
  same_due = λ n. refl;
  same_held = r.same_held;
  still_free = λ p i. same_held_free config h (entry moment c (act.Undone code leases draws) ∷ h) p fits.1 (sym (undone_held config moment c h code leases draws)) i;
  free_before = λ p i. same_held_free config (entry moment c (act.Undone code leases draws) ∷ h) h p fits (undone_held config moment c h code leases draws) i;
  draws_are_used = refl;
}

pub undone_changes : (config : Config) (e : BoardEntry) (h : List BoardEntry) (code : ErrorCode) (leases : List Lease) (draws : List (List ℕ))
    → IsTurn e (act.Undone code leases draws) → IsFitting config (e ∷ h) → IsUndoing config e h draws
undone_changes config e h code leases draws t fits =
    let same = whole e (act.Undone code leases draws) t in
    subst (λ x. IsUndoing config x h draws) (sym same)
    (undone_alike config e.moment t.control h code leases draws (subst (λ x. IsFitting config (x ∷ h)) same fits))
