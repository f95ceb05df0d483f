-- What one more source teaches, and what a new signal leaves.
use Rattle.std.proofs.Common.{◌≡◌, sym, ap, subst, refl, List, [], ◌∷◌, ◌++◌, Bool, true, false, cond, Option, Some, None}
use Rattle.std.specs.Prelude.{not, ◌&&◌, find}
use Rattle.relay_outside.specs.declared.address.Addr.{Addr}
use Rattle.relay_outside.specs.declared.settings.Flags.{Flags}
use Rattle.histories.specs.Words.{final, or_else}
use Rattle.endpoint_learn.specs.Lessons.{LearnStep, Heard, Signalled, Signalling, last_signal, Lesson, lesson_under, lessons, is_new, source_in, learned_after, taught}

abbrev pub learned_from : List Lesson → Option Addr
learned_from ls = source_in (or_else (find (λ lesson. lesson.moves) ls) (final ls))

-- a lesson that doesn't move, before none and before others
stays : (source : Addr) (l : Lesson) (ls : List Lesson) (first : Option Lesson)
    → source_in (or_else first (final (l ∷ ls))) ≡ source_in (or_else first (final (record { source = source; moves = false } ∷ l ∷ ls)))
stays source l ls None = refl
stays source l ls (Some x) = refl

-- something is learned from lessons
final_is_some : (l : Lesson) (ls : List Lesson) → (x : Lesson) × (final (l ∷ ls) ≡ Some x)
final_is_some l [] = (l, refl)
final_is_some l (m ∷ ls) = final_is_some m ls

is_known : (l : Lesson) (ls : List Lesson) (first : Option Lesson) → (known : Addr) × (source_in (or_else first (final (l ∷ ls))) ≡ Some known)
is_known l ls (Some x) = (x.source, refl)
is_known l ls None = let f = final_is_some l ls in (f.0.source, ap source_in f.1)

moved : (flags : Flags) (source : Addr) (known : Option Addr) → flags.asymmetric ≡ false → (flags.handover && not flags.strict) ≡ true
    → Some source ≡ taught flags known source
moved flags source None a m = rw (a) refl
moved flags source (Some known) a m = rw (a, m) refl

unmoved : (flags : Flags) (source known : Addr) → flags.asymmetric ≡ false → (flags.handover && not flags.strict) ≡ false
    → Some known ≡ taught flags (Some known) source
unmoved flags source known a m = rw (a, m) refl

closed : (flags : Flags) (source : Addr) (known : Option Addr) → flags.asymmetric ≡ true → known ≡ taught flags known source
closed flags source None a = rw (a) refl
closed flags source (Some known) a = rw (a) refl

open_case : (flags : Flags) (source : Addr) (ls : List Lesson) → flags.asymmetric ≡ false → (m : Bool) → (flags.handover && not flags.strict) ≡ m
    → learned_from (record { source = source; moves = m } ∷ ls) ≡ taught flags (learned_from ls) source
open_case flags source ls a true m = moved flags source (learned_from ls) a m
open_case flags source [] a false m = rw (a) refl
open_case flags source (l ∷ ls) a false m =
    let k = is_known l ls (find (λ lesson. lesson.moves) (l ∷ ls)) in
    let before : learned_from (l ∷ ls) ≡ Some k.0 = k.1 in
    let same : learned_from (record { source = source; moves = false } ∷ l ∷ ls) ≡ learned_from (l ∷ ls) =
    sym (stays source l ls (find (λ lesson. lesson.moves) (l ∷ ls))) in
    let known : Some k.0 ≡ taught flags (Some k.0) source = unmoved flags source k.0 a m in
    subst (λ o. learned_from (record { source = source; moves = false } ∷ l ∷ ls) ≡ taught flags o source) (sym before) (chain same before known)
  where
    chain : {A : Type 0} {x y z w : A} → x ≡ y → y ≡ z → z ≡ w → x ≡ w
    chain p q r = cc

asymmetric_case : (flags : Flags) (at source : Addr) (ls : List Lesson) → (b : Bool) → flags.asymmetric ≡ b
    → learned_from (cond b [] (record { source = source; moves = flags.handover && not flags.strict } ∷ []) ++ ls) ≡ taught flags (learned_from ls) source
asymmetric_case flags at source ls true a = closed flags source (learned_from ls) a
asymmetric_case flags at source ls false a =
    subst (λ m. learned_from (record { source = source; moves = m } ∷ ls) ≡ taught flags (learned_from ls) source) refl
    (open_case flags source ls a (flags.handover && not flags.strict) refl)

heard_by : (s : Option Signalling) (flags : Flags) (at source : Addr) (ls : List Lesson) → s ≡ Some (record { address = at; flags = flags })
    → learned_from (lesson_under source s ++ ls) ≡ taught flags (learned_from ls) source
heard_by s flags at source ls q =
    subst (λ o. learned_from (lesson_under source o ++ ls) ≡ taught flags (learned_from ls) source) (sym q)
    (asymmetric_case flags at source ls flags.asymmetric refl)

pub learned_more : (steps : List LearnStep) (at source : Addr) (flags : Flags) → last_signal steps ≡ Some (record { address = at; flags = flags })
    → learned_after (Heard source ∷ steps) ≡ taught flags (learned_after steps) source
learned_more steps at source flags q = heard_by (last_signal steps) flags at source (lessons steps) q

cut : (b : Bool) (steps : List LearnStep) → learned_from (cond b [] (lessons steps)) ≡ cond b None (learned_after steps)
cut true steps = refl
cut false steps = refl

pub learned_again : (steps : List LearnStep) (at : Addr) (flags : Flags)
    → learned_after (Signalled at flags ∷ steps) ≡ cond (is_new at (last_signal steps)) None (learned_after steps)
learned_again steps at flags = cut (is_new at (last_signal steps)) steps
