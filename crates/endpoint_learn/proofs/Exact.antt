-- What a learner's calls say of the learner itself: each learner stands for some list, so what they say of every list pins it.
use Rattle.std.proofs.Common.{◌≡◌, ◌∙◌, sym, ap, refl, List, [], ◌∷◌, Bool, true, false, cond, Option, Some, None, eq-eqb}
use Rattle.std.specs.Prelude.{not, ◌&&◌}
use Rattle.std.specs.Cmp.Lexicographic.{bytes_decides}
use Rattle.relay_outside.specs.declared.address.Addr.{Addr}
use Rattle.relay_outside.specs.declared.address.Ip.{Ip}
use Rattle.relay_outside.specs.declared.address.Ip.TheVariants as ip
use Rattle.relay_outside.specs.declared.settings.Flags.{Flags}
use Rattle.relay_outside.specs.Ports.{same_addr, same_ip}
use Rattle.endpoint_learn.specs.declared.learner.Learner.{Learner}
use Rattle.endpoint_learn.specs.declared.learner.Judge.{Judge}
use Rattle.endpoint_learn.specs.Lessons.{LearnStep, Signalled, Heard, Signalling, lessons, learned_after, taught, endpoint_after, endpoint_by, endpoint_under, is_wrong_after, is_wrong_source, is_wrong_under, is_new}
use Rattle.endpoint_learn.specs.Learners.{LearnerStandsFor, judge_of, signal_of}
use Rattle.endpoint_learn.proofs.Lessons.{learned_from, learned_more, learned_again}

-- a learner that was signalled this address with these flags, and learned this
abbrev pub learner : Addr → Flags → Option Addr → Learner
learner address flags known = record { signalled = address; flags = flags; learned = known }

learners : (a b : Addr) (f g : Flags) (k l : Option Addr) → a ≡ b → f ≡ g → k ≡ l → learner a f k ≡ learner b g l
learners a b f g k l p q r = λ i. record { signalled = p i; flags = q i; learned = r i }

-- A list for each learner.

abbrev plain : Flags
plain = record { strict = false; handover = false; asymmetric = false }

abbrev steps_with : Addr → Flags → Option Addr → List LearnStep
steps_with address flags None = Signalled address flags ∷ []
steps_with address flags (Some known) = Signalled address flags ∷ Heard known ∷ Signalled address plain ∷ []

both_true : (a b : Bool) → a ≡ true → b ≡ true → a && b ≡ true
both_true a b p q = rw (p, q) refl

ip_itself : (a : Ip) → same_ip a a ≡ true
ip_itself (ip.V4 a) = (bytes_decides a a).1 refl
ip_itself (ip.V6 a) = (bytes_decides a a).1 refl

addr_itself : (a : Addr) → same_addr a a ≡ true
addr_itself a = both_true _ _ (ip_itself a.ip) (eq-eqb a.port a.port refl)

heard_once : (address known : Addr) (flags : Flags) → learned_after (steps_with address flags (Some known)) ≡ Some known
heard_once address known flags =
    ap (λ (b : Bool). learned_from (cond (not b) [] (lessons (Heard known ∷ Signalled address plain ∷ [])))) (addr_itself address)

stands_case : (address : Addr) (flags : Flags) (known : Option Addr) → LearnerStandsFor (learner address flags known) (steps_with address flags known)
stands_case address flags None = record { signal_is = refl; learned_is = refl }
stands_case address flags (Some known) = record { signal_is = refl; learned_is = heard_once address known flags }

-- a list for which the learner stands
abbrev steps_for : Learner → List LearnStep
steps_for l = steps_with l.signalled l.flags l.learned

stands_so : (l : Learner) → LearnerStandsFor l (steps_for l)
stands_so l = stands_case l.signalled l.flags l.learned

-- What the calls say.

signals_are : (a b : Signalling) → Some a ≡ Some b → a ≡ b
signals_are a b p = let q = p in cc

-- a new learner
pub begins : (l : Learner) (address : Addr) (flags : Flags) → LearnerStandsFor l (Signalled address flags ∷ []) → l ≡ learner address flags None
begins l address flags stands =
    let s = signals_are (record { address = address; flags = flags }) (signal_of l) stands.signal_is in
    learners l.signalled address l.flags flags l.learned None (ap (λ (x : Signalling). x.address) (sym s)) (ap (λ (x : Signalling). x.flags) (sym s))
    (sym stands.learned_is)

-- a learner with a received source
pub learns : (old new : Learner) (source : Addr) → ((steps : List LearnStep) → LearnerStandsFor old steps → LearnerStandsFor new (Heard source ∷ steps))
    → new ≡ learner old.signalled old.flags (taught old.flags old.learned source)
learns old new source does =
    let before = stands_so old in
    let after = does (steps_for old) before in
    let s = signals_are (signal_of old) (signal_of new) (sym before.signal_is ∙ after.signal_is) in
    learners new.signalled old.signalled new.flags old.flags new.learned (taught old.flags old.learned source)
    (ap (λ (x : Signalling). x.address) (sym s)) (ap (λ (x : Signalling). x.flags) (sym s))
    (sym after.learned_is ∙ learned_more (steps_for old) old.signalled source old.flags before.signal_is
    ∙ ap (λ (known : Option Addr). taught old.flags known source) before.learned_is)

-- a learner that was signalled again
pub signals : (old new : Learner) (address : Addr) (flags : Flags)
    → ((steps : List LearnStep) → LearnerStandsFor old steps → LearnerStandsFor new (Signalled address flags ∷ steps))
    → new ≡ learner address flags (cond (not (same_addr old.signalled address)) None old.learned)
signals old new address flags does =
    let steps = steps_for old in
    let before = stands_so old in
    let after = does steps before in
    let s = signals_are (record { address = address; flags = flags }) (signal_of new) after.signal_is in
    learners new.signalled address new.flags flags new.learned (cond (not (same_addr old.signalled address)) None old.learned)
    (ap (λ (x : Signalling). x.address) (sym s)) (ap (λ (x : Signalling). x.flags) (sym s))
    (sym after.learned_is
    ∙ learned_again steps address flags
    ∙ ap (λ (o : Option Signalling). cond (is_new address o) None (learned_after steps)) before.signal_is
    ∙ ap (λ (known : Option Addr). cond (not (same_addr old.signalled address)) None known) before.learned_is)

-- how a source is judged
pub judges : (l : Learner) (source : Addr) (answer : Judge) → ((steps : List LearnStep) → LearnerStandsFor l steps → answer ≡ judge_of (is_wrong_after steps source))
    → answer ≡ judge_of (is_wrong_source l.flags l.learned source)
judges l source answer does =
    let before = stands_so l in
    does (steps_for l) before
    ∙ ap (λ (o : Option Signalling). judge_of (is_wrong_under o (learned_after (steps_for l)) source)) before.signal_is
    ∙ ap (λ (known : Option Addr). judge_of (is_wrong_source l.flags known source)) before.learned_is

addrs_are : (a b : Addr) → Some a ≡ Some b → a ≡ b
addrs_are a b p = let q = p in cc

-- where packets go
pub goes_to : (l : Learner) (answer : Addr) → ((steps : List LearnStep) → LearnerStandsFor l steps → endpoint_after steps ≡ Some answer)
    → answer ≡ endpoint_by (signal_of l) l.learned
goes_to l answer does =
    let before = stands_so l in
    addrs_are answer (endpoint_by (signal_of l) l.learned)
    (sym (does (steps_for l) before)
    ∙ ap (λ (o : Option Signalling). endpoint_under o (learned_after (steps_for l))) before.signal_is
    ∙ ap (λ (known : Option Addr). endpoint_under (Some (signal_of l)) known) before.learned_is)
