-- The numbers of a watch say which calls fail.
use Rattle.std.proofs.Common.{◌≡◌, ◌∙◌, refl, sym, ap, ℕ, ◌+◌, ◌-◌, Bool, true, false, ◌&&◌, ◌||◌, ◌==◌, List, [], ◌∷◌, ◌++◌, arith, if◌then◌else◌}
use Rattle.std.specs.List.{list_any}
use Rattle.std.proofs.lemmas.Bool.Decides.{nat_tests}
use Rattle.relay_outside.specs.declared.settings.Config.{Config}
use Rattle.replay_devices.specs.Steps as model
use Rattle.replay_devices.specs.Devices.{Happening, Made, Opened, Drew, Replied, Sent, counts_for, same_kind, fails_nth, fails_behind, fails}
use Rattle.replay_devices.specs.Countdowns.{counted_down, next_counted_fails}
use Rattle.replay_devices.specs.declared.failures.SendFailure.{SendFailure}
use Rattle.replay_devices.specs.Watch.{asked_now, counts, sends_after, due, WatchState, Notes}

pub or_none : (b : Bool) → b ≡ (b || false)
or_none true = refl
or_none false = refl

pub or_swap : (a b : Bool) → (a || b) ≡ (b || a)
or_swap true true = refl
or_swap true false = refl
or_swap false true = refl
or_swap false false = refl

or_deep : (a b c : Bool) → (a || (b || c)) ≡ ((a || b) || c)
or_deep true b c = refl
or_deep false b c = refl

any_both : (p : ℕ → Bool) (xs ys : List ℕ) → list_any p (xs ++ ys) ≡ (list_any p xs || list_any p ys)
any_both p [] ys = refl
any_both p (x ∷ xs) ys = ap (λ (b : Bool). p x || b) (any_both p xs ys) ∙ or_deep (p x) (list_any p xs) (list_any p ys)

-- a number less one is this where the number is one more
one_less : (n later : ℕ) → (n - 1 == later + 1) ≡ (n == later + 1 + 1)
one_less n later = grind (arith, nat_tests)

any_less : (later : ℕ) (xs : List ℕ) → list_any (λ n. n == later + 1) (counted_down xs) ≡ list_any (λ n. n == later + 1 + 1) xs
any_less later [] = refl
any_less later (x ∷ xs) =
    ap (λ (b : Bool). b || list_any (λ n. n == later + 1) (counted_down xs)) (one_less x later) ∙ ap (λ (b : Bool). (x == later + 1 + 1) || b) (any_less later xs)

any_counted : (c : Bool) (later : ℕ) (xs : List ℕ) → list_any (λ n. n == later + 1) (if c then counted_down xs else xs) ≡ list_any (λ n. n == (if c then later + 1 else later) + 1) xs
any_counted true later xs = any_less later xs
any_counted false later xs = refl

asked_one : (b : Bool) (count m : ℕ) → (b && (count == m)) ≡ list_any (λ n. n == m) (if b then count ∷ [] else [])
asked_one true count m = or_none (count == m)
asked_one false count m = refl

asked_nth : (kind : model.FailKind) (m : ℕ) (x : Happening) → fails_nth kind m x ≡ list_any (λ n. n == m) (asked_now kind x)
asked_nth kind m (Made model.Skip) = refl
asked_nth kind m (Made (model.At moment)) = refl
asked_nth kind m (Made (model.Key bytes)) = refl
asked_nth kind m (Made (model.Fail other count)) = asked_one (same_kind other kind) count m
asked_nth kind m (Made (model.FailSend port count)) = refl
asked_nth kind m (Made (model.Ng source bytes)) = refl
asked_nth kind m (Made (model.Take port source bytes)) = refl
asked_nth kind m (Made (model.Relay receipt)) = refl
asked_nth kind m (Made (model.Packet port source bytes)) = refl
asked_nth kind m (Made model.Tick) = refl
asked_nth kind m (Opened pair half ok) = refl
asked_nth kind m (Drew ok) = refl
asked_nth kind m (Replied ok) = refl
asked_nth kind m (Sent pair half ok) = refl

behind_counts : (kind : model.FailKind) (past : List Happening) (later : ℕ) → fails_behind kind past later ≡ list_any (λ n. n == later + 1) (counts kind past)
behind_counts kind [] later = refl
behind_counts kind (x ∷ past) later =
    let c = counts_for kind x in
    let was = counts kind past in
    let now = if c then counted_down was else was in
    ap (λ (b : Bool). b || fails_behind kind past (if c then later + 1 else later)) (asked_nth kind (later + 1) x)
    ∙ ap (λ (b : Bool). list_any (λ n. n == later + 1) (asked_now kind x) || b) (behind_counts kind past (if c then later + 1 else later) ∙ sym (any_counted c later was))
    ∙ or_swap (list_any (λ n. n == later + 1) (asked_now kind x)) (list_any (λ n. n == later + 1) now)
    ∙ sym (any_both (λ n. n == later + 1) now (asked_now kind x))

-- the next call of a kind fails where one of the numbers is 1
pub counts_fail : (kind : model.FailKind) (past : List Happening) (numbers : List ℕ) → numbers ≡ counts kind past → next_counted_fails numbers ≡ fails kind past
counts_fail kind past numbers is = ap (λ (ns : List ℕ). next_counted_fails ns) is ∙ sym (behind_counts kind past 0)

-- the numbers of a kind after one more thing
abbrev pub counted_on : model.FailKind → Happening → List ℕ → List ℕ
counted_on kind x numbers = (if counts_for kind x then counted_down numbers else numbers) ++ asked_now kind x

-- one more thing
pub noted : (config : Config) (seed : ℕ) (x : Happening) (old new : WatchState) → new.opens ≡ counted_on model.Opening x old.opens → new.draws ≡ counted_on model.Drawing x old.draws
    → new.takes ≡ counted_on model.Taking x old.takes → new.reads ≡ counted_on model.Reading x old.reads → new.replies ≡ counted_on model.Replying x old.replies
    → new.sends ≡ sends_after config x old.sends → ((past : List Happening) → old.keys ≡ due seed past → new.keys ≡ due seed (x ∷ past)) → Notes config seed old new x
noted config seed x old new opens draws takes reads replies failing keys past s = record {
  opens_are = opens ∙ ap (λ (ns : List ℕ). counted_on model.Opening x ns) s.opens_are;
  draws_are = draws ∙ ap (λ (ns : List ℕ). counted_on model.Drawing x ns) s.draws_are;
  takes_are = takes ∙ ap (λ (ns : List ℕ). counted_on model.Taking x ns) s.takes_are;
  reads_are = reads ∙ ap (λ (ns : List ℕ). counted_on model.Reading x ns) s.reads_are;
  replies_are = replies ∙ ap (λ (ns : List ℕ). counted_on model.Replying x ns) s.replies_are;
  sends_are = failing ∙ ap (λ (fs : List SendFailure). sends_after config x fs) s.sends_are;
  keys_are = keys past s.keys_are;
}
