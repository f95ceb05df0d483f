-- Which takes fail, as one line is passed after another.
use Rattle.std.proofs.Common.{◌≡◌, ◌∙◌, ap, sym, refl, subst, below_more, ℕ, zero, suc, ◌+◌, ◌-◌, ◌<◌, Bool, List, [], ◌∷◌, ◌++◌, Some, true, false, ◌||◌, length, take, reverse, get_or, arith}
use Rattle.std.specs.Prelude.{◌==◌, slice_get}
use Rattle.std.specs.List.{list_any}
use Rattle.std.proofs.lemmas.List.{take_more, reverse-append}
use Rattle.std.proofs.lemmas.List.Folds.{list_any-append}
use Rattle.relay_script.specs.declared.step.FailKind.TheVariants as kind
use Rattle.relay_script.specs.declared.step.Step.{Step}
use Rattle.relay_script.specs.declared.step.Step.TheVariants as line
use Rattle.replay_devices.specs.Countdowns.{counted_down}
use Rattle.replay_devices.specs.Ports.{take_fails_behind, take_fails, takes_after}

same_after : (n later : ℕ) → ((n - 1) == later + 1) ≡ (n == (later + 1) + 1)
same_after n later = grind arith

any_after : (numbers : List ℕ) (later : ℕ) →
    list_any (λ n. n == later + 1) (counted_down numbers) ≡ list_any (λ n. n == (later + 1) + 1) numbers
any_after [] later = refl
any_after (n ∷ numbers) later = rw (same_after n later, any_after numbers later) refl

turned : (a b : Bool) → (a || (b || false)) ≡ (b || a)
turned true true = refl
turned true false = refl
turned false true = refl
turned false false = refl

-- what the numbers say of later takes, as one more line is passed
pub passed : (step : Step) (past : List Step) (numbers : List ℕ) →
    ((later : ℕ) → list_any (λ n. n == later + 1) numbers ≡ take_fails_behind past later) → (later : ℕ) →
    list_any (λ n. n == later + 1) (takes_after step numbers) ≡ take_fails_behind (step ∷ past) later
passed line.Skip past numbers holds later = holds later
passed (line.At moment) past numbers holds later = holds later
passed (line.Key bytes) past numbers holds later = holds later
passed (line.Fail kind.Open count) past numbers holds later = holds later
passed (line.Fail kind.Draw count) past numbers holds later = holds later
passed (line.Fail kind.Take count) past numbers holds later =
    list_any-append (λ (n : ℕ). n == later + 1) numbers (count ∷ [])
    ∙ turned (list_any (λ (n : ℕ). n == later + 1) numbers) (count == later + 1)
    ∙ ap (λ (b : Bool). (count == later + 1) || b) (holds later)
passed (line.Fail kind.Read count) past numbers holds later = holds later
passed (line.Fail kind.Reply count) past numbers holds later = holds later
passed (line.FailSend port count) past numbers holds later = holds later
passed (line.Ng source bytes) past numbers holds later = holds later
passed (line.Take port source bytes) past numbers holds later = any_after numbers later ∙ holds (later + 1)
passed (line.Relay receipt) past numbers holds later = holds later
passed (line.Packet port source bytes) past numbers holds later = any_after numbers later ∙ holds (later + 1)
passed line.Tick past numbers holds later = holds later

-- the lines that were passed, the latest first, as one more is
pub one_passed : (steps : List Step) (i : ℕ) (step : Step) → i < length steps → step ≡ get_or steps i step →
    step ∷ reverse (take i steps) ≡ reverse (take (i + 1) steps)
one_passed steps i step below is =
    ap (λ (x : Step). x ∷ reverse (take i steps)) is
    ∙ sym (reverse-append (take i steps) (get_or steps i step ∷ []))
    ∙ ap (λ (xs : List Step). reverse xs) (sym (take_more steps i step below))

got_before : (marks : List Bool) (mark : Bool) (i : ℕ) → i < length marks → slice_get (marks ++ mark ∷ []) i ≡ slice_get marks i
got_before [] mark i below = absurd (omega arith)
got_before (x ∷ marks) mark zero below = refl
got_before (x ∷ marks) mark (suc i) below = got_before marks mark i (omega arith)

got_last : (marks : List Bool) (mark : Bool) → slice_get (marks ++ mark ∷ []) (length marks) ≡ Some mark
got_last [] mark = refl
got_last (x ∷ marks) mark = got_last marks mark

-- which takes fail, up to one more line
pub one_settled : (marks : List Bool) (steps : List Step) (i : ℕ) (mark : Bool) → length marks ≡ i →
    ((index : ℕ) → index < i → slice_get marks index ≡ Some (take_fails steps index)) → mark ≡ take_fails steps i →
    (index : ℕ) → index < i + 1 → slice_get (marks ++ mark ∷ []) index ≡ Some (take_fails steps index)
one_settled marks steps i mark len done is =
    below_more (λ (index : ℕ). slice_get (marks ++ mark ∷ []) index ≡ Some (take_fails steps index)) i
    (λ index below. got_before marks mark index (rw len below) ∙ done index below)
    (subst (λ (n : ℕ). slice_get (marks ++ mark ∷ []) n ≡ Some (take_fails steps i)) len
    (got_last marks mark ∙ ap (λ (b : Bool). Some b) is))
