-- The learners of a leg's halves: what is learned, a new signal, and where packets go.
use Rattle.std.proofs.Common.{◌≡◌, ◌∙◌, refl, sym, ap, ℕ, List, Bool, true, false, Option, Some, None, cond}
use Rattle.std.specs.Prelude.{not, ◌∷◌}
use Rattle.relay_outside.specs.declared.address.Addr.{Addr}
use Rattle.relay_outside.specs.Ports.{same_addr}
use Rattle.rtp_packet.specs.declared.head.Half.{Half}
use Rattle.port_pool.specs.declared.signal.LegSignal.{LegSignal}
use Rattle.port_pool.specs.declared.reports.LegReport.{LegReport}
use Rattle.endpoint_learn.specs.declared.learner.Learner.{Learner}
use Rattle.endpoint_learn.specs.declared.learner.Judge.{Judge}
use Rattle.endpoint_learn.specs.declared.learner.Judge.TheVariants.{Pass, WrongSource}
use Rattle.endpoint_learn.specs.Lessons.{LearnStep, Signalled, Heard, taught, endpoint_after, is_wrong_after, is_wrong_source}
use Rattle.endpoint_learn.specs.Learners.{LearnerStandsFor, judge_of}
use Rattle.endpoint_learn.proofs.Exact.{learner, learns, signals, judges, goes_to}
use Rattle.call_cell.specs.declared.leg.Leg.{Leg}
use Rattle.call_cell.specs.Lessons.{address}
use Rattle.call_cell.specs.Parts.{learner_of, endpoint_of, is_wrong_for}
use Rattle.call_cell.specs.LegHistories.{in_force_with}
use Rattle.call_cell.specs.Commits.{relearned}
use Rattle.call_cell.specs.LegReports.{leg_report_under}

some_is : (a b : Learner) → Some a ≡ Some b → a ≡ b
some_is a b p = let q = p in cc

passes : (b : Bool) → judge_of b ≡ Pass → b ≡ false
passes true q = absurd (let p = q in cc)
passes false q = refl

fails : (b : Bool) → judge_of b ≡ WrongSource → b ≡ true
fails true q = refl
fails false q = absurd (let p = q in cc)

-- how a learner judges a source
pub is_right : (o : Option Learner) (l : Learner) (source : Addr) (answer : Judge) → o ≡ Some l
    → ((steps : List LearnStep) → LearnerStandsFor l steps → answer ≡ judge_of (is_wrong_after steps source)) → answer ≡ Pass → false ≡ is_wrong_for o source
is_right o l source answer is does q =
    sym (ap (λ (x : Option Learner). is_wrong_for x source) is ∙ passes (is_wrong_source l.flags l.learned source) (sym (judges l source answer does) ∙ q))

pub is_wrong_so : (o : Option Learner) (l : Learner) (source : Addr) (answer : Judge) → o ≡ Some l
    → ((steps : List LearnStep) → LearnerStandsFor l steps → answer ≡ judge_of (is_wrong_after steps source)) → answer ≡ WrongSource → true ≡ is_wrong_for o source
is_wrong_so o l source answer is does q =
    sym (ap (λ (x : Option Learner). is_wrong_for x source) is ∙ fails (is_wrong_source l.flags l.learned source) (sym (judges l source answer does) ∙ q))

-- a learner with a received source
pub teaches : (o : Option Learner) (l new : Learner) (source : Addr) (half : Half) (s : LegSignal) (known : Option Addr) → o ≡ Some l
    → ((steps : List LearnStep) → LearnerStandsFor l steps → LearnerStandsFor new (Heard source ∷ steps))
    → o ≡ learner_of half (Some s) known → Some new ≡ learner_of half (Some s) (taught s.flags known source)
teaches o l new source half s known is does was =
    ap Some (learns l new source does)
    ∙ ap (λ (x : Learner). Some (learner x.signalled x.flags (taught x.flags x.learned source)))
    (some_is l (learner (address half s) s.flags known) (sym is ∙ was))

-- the learner of a later one
pub later_signal : (o : Option Learner) (l new : Learner) (a : Addr) (half : Half) (s : LegSignal) (earlier : Option LegSignal) (known : Option Addr)
    → o ≡ Some l → a ≡ address half s → ((steps : List LearnStep) → LearnerStandsFor l steps → LearnerStandsFor new (Signalled a s.flags ∷ steps))
    → o ≡ learner_of half earlier known → Some new ≡ learner_of half (Some s) (relearned earlier s half known)
later_signal o l new a half s None known is at does was = absurd (let p = sym is ∙ was in cc)
later_signal o l new a half s (Some e) known is at does was =
    ap Some (signals l new a s.flags does)
    ∙ ap (λ (x : Addr). Some (learner x s.flags (cond (not (same_addr l.signalled x)) None l.learned))) at
    ∙ ap (λ (x : Learner). Some (learner (address half s) s.flags (cond (not (same_addr x.signalled (address half s))) None x.learned)))
    (some_is l (learner (address half e) e.flags known) (sym is ∙ was))

abbrev signal_in : Option (LegSignal × Learner) → Option LegSignal
signal_in None = None
signal_in (Some both) = Some both.0

-- what is in force, where there is a learner
pub is_in_force : (o : Option LegSignal) (x : Option Learner) (s : LegSignal) (l : Learner) → in_force_with o x ≡ Some (s, l) → o ≡ Some s
is_in_force None x s l q = absurd (let p = q in cc)
is_in_force (Some t) None s l q = absurd (let p = q in cc)
is_in_force (Some t) (Some y) s l q = ap signal_in q

-- where a learner has packets go
pub goes : (l : Learner) (answer : Addr) → ((steps : List LearnStep) → LearnerStandsFor l steps → endpoint_after steps ≡ Some answer) → answer ≡ endpoint_of l
goes l answer does = goes_to l answer does

abbrev pub told_as : {O : Type 0} → Leg O → (port : ℕ) → Addr → Option LegReport
told_as leg port to = Some (record {
  section = leg.holder.section;
  side = leg.holder.side;
  port = port;
  endpoint = to;
  rtp_accepted = leg.counts.rtp_accepted;
  rtp_sent = leg.counts.rtp_sent;
  rtcp_accepted = leg.counts.rtcp_accepted;
  rtcp_sent = leg.counts.rtcp_sent;
  report = leg.report;
})

-- what a leg tells
pub reports : {O : Type 0} (leg : Leg O) (s : LegSignal) (l : Learner) (port : ℕ) (to : Addr) (o : Option (LegSignal × Learner)) → o ≡ Some (s, l)
    → port ≡ leg.lease.rtp_port → to ≡ endpoint_of l → told_as leg port to ≡ leg_report_under leg o
reports leg s l port to o is at goes =
    ap (λ (n : ℕ). told_as leg n to) at ∙ ap (λ (a : Addr). told_as leg leg.lease.rtp_port a) goes
    ∙ sym (ap (λ (x : Option (LegSignal × Learner)). leg_report_under leg x) is)
