-- What a packet does to the out ends and to the counts of the legs, whatever the history; and that counts that are below 2 ^ 63 fit
-- their reports.
use Rattle.std.proofs.Common.{◌≡◌, refl, ap, subst, sym, ◌∙◌, ℕ, zero, suc, ◌≤◌, ◌+◌, ◌^◌, Bool, true, false, List, [], ◌∷◌, Option, Some, None, get_or, set, arith}
use Rattle.std.specs.Prelude.{position, slice_get}
use Rattle.std.specs.List.{AllZip}
use Rattle.std.specs.Option.{option_and_then}
use Rattle.relay_outside.specs.declared.address.Addr.{Addr}
use Rattle.relay_outside.specs.declared.ports.OutCall.{OutCall}
use Rattle.relay_outside.specs.DeviceLogs.{EndLog}
use Rattle.rtp_packet.specs.declared.head.Half.{Half}
use Rattle.rtp_packet.specs.declared.head.Half.TheVariants.{Rtp, Rtcp}
use Rattle.histories.specs.Words.{In, here, there, numbers}
use Rattle.histories.proofs.Lists.{spread, picked}
use Rattle.port_pool.specs.Reports.{CountsFit}
use Rattle.port_pool.specs.declared.holder.Side.TheVariants.{A, B}
use Rattle.port_pool.specs.declared.signal.LegSignal.{LegSignal}
use Rattle.port_pool.specs.declared.reports.LegReport.{LegReport}
use Rattle.endpoint_learn.specs.declared.learner.Learner.{Learner}
use Rattle.call_cell.specs.declared.counts.Counts.{Counts}
use Rattle.call_cell.specs.declared.sender.Sending.{Sending}
use Rattle.call_cell.specs.declared.leg.Leg.{Leg}
use Rattle.call_cell.specs.Counts.{CountsUnder, RoseByOne, AcceptedOne, SentOne, accepted_in, sent_in, more_accepted, one_sent, more_sent}
use Rattle.call_cell.specs.Demands.{stands_at}
use Rattle.call_cell.specs.LegReports.{leg_report_under, leg_report, leg_report_from, told_at, reports_of_section, leg_reports}
use Rattle.call_cell.specs.Parts.{SendsBy, end_of, endpoint_of, other_half}
use Rattle.call_cell.specs.Shapes.{CellLegShape, SamePorts, KeepsPort, KeepsPorts, CountsRoseByOne, cell_leg_shape, counts_of}

-- The counts of a leg.

pub counts_same : (old new : Counts) → new ≡ old → AcceptedOne old new
counts_same old new same = record {
  accepted = λ half. subst (λ (n : ℕ). n ≤ accepted_in half old + 1) (sym (ap (accepted_in half) same)) (omega arith);
  sent = λ half. ap (sent_in half) same;
}

pub accepted_one : (kind : Half) (old new : Counts) → new ≡ more_accepted kind old → AcceptedOne old new
accepted_one kind old new is = subst (λ (c : Counts). AcceptedOne old c) (sym is) (record { accepted = accepted kind; sent = sent kind })
  where
    accepted : (kind half : Half) → accepted_in half (more_accepted kind old) ≤ accepted_in half old + 1
    accepted Rtp Rtp = omega arith
    accepted Rtp Rtcp = omega arith
    accepted Rtcp Rtp = omega arith
    accepted Rtcp Rtcp = omega arith

    sent : (kind half : Half) → sent_in half (more_accepted kind old) ≡ sent_in half old
    sent Rtp Rtp = refl
    sent Rtp Rtcp = refl
    sent Rtcp Rtp = refl
    sent Rtcp Rtcp = refl

pub unsent : (old : Counts) → SentOne old old
unsent old = record { accepted = λ half. refl; sent = λ half. omega arith }

pub sent_one : (half : Half) (ok : Bool) (old new : Counts) → new ≡ more_sent half ok old → SentOne old new
sent_one half ok old new is = subst (λ (c : Counts). SentOne old c) (sym is) (by half ok)
  where
    accepted : (kind half : Half) → accepted_in half (one_sent kind old) ≡ accepted_in half old
    accepted Rtp Rtp = refl
    accepted Rtp Rtcp = refl
    accepted Rtcp Rtp = refl
    accepted Rtcp Rtcp = refl

    sent : (kind half : Half) → sent_in half (one_sent kind old) ≤ sent_in half old + 1
    sent Rtp Rtp = omega arith
    sent Rtp Rtcp = omega arith
    sent Rtcp Rtp = omega arith
    sent Rtcp Rtcp = omega arith

    by : (half : Half) (ok : Bool) → SentOne old (more_sent half ok old)
    by half true = record { accepted = accepted half; sent = sent half }
    by half false = unsent old

-- The ports of a leg.

pub ports_same : {O : Type 0} (log : O → EndLog OutCall) (old new : Option (O × O)) → new ≡ old → SamePorts log old new
ports_same {O} log old new same = subst (λ (o : Option (O × O)). SamePorts log old o) (sym same) (by old)
  where
    by : (o : Option (O × O)) → SamePorts log o o
    by None = tt
    by (Some ends) = (refl, refl)

pub ports_then : {O : Type 0} (log : O → EndLog OutCall) (a b c : Option (O × O)) → SamePorts log a b → SamePorts log b c → SamePorts log a c
ports_then log None None None first second = tt
ports_then log None None (Some z) first second = absurd second
ports_then log None (Some y) c first second = absurd first
ports_then log (Some x) None c first second = absurd first
ports_then log (Some x) (Some y) None first second = absurd second
ports_then log (Some x) (Some y) (Some z) first second = (second.0 ∙ first.0, second.1 ∙ first.1)

by_half : {O : Type 0} (log : O → EndLog OutCall) (half : Half) (before after : O × O) → (log (end_of half after)).at ≡ (log (end_of half before)).at
    → end_of (other_half half) after ≡ end_of (other_half half) before → SamePorts log (Some before) (Some after)
by_half {O} log Rtp before after same other = (same, ap (λ (e : O). (log e).at) other)
by_half {O} log Rtcp before after same other = (ap (λ (e : O). (log e).at) other, same)

pub sent_ports : {O : Type 0} (log : O → EndLog OutCall) (faults : O → ℕ) (half : Half) (to : Addr) (bytes : List ℕ) (ok : Bool) (old mid new : Sending O)
    → mid.ends ≡ old.ends → SendsBy log faults half to bytes ok mid new → SamePorts log old.ends new.ends
sent_ports {O} log faults half to bytes ok old mid new same s =
    subst (λ (o : Option (O × O)). SamePorts log o new.ends) same
    (subst (λ (o : Option (O × O)). SamePorts log mid.ends o) (sym s.has)
    (subst (λ (o : Option (O × O)). SamePorts log o (Some s.after)) (sym s.had) (by_half log half s.before s.after s.gains.same s.other)))

keeps_shape : {O : Type 0} (log : O → EndLog OutCall) (old new : Leg O) → cell_leg_shape new ≡ cell_leg_shape old → SamePorts log old.sending.ends new.sending.ends
    → KeepsPort log old new
keeps_shape log old new same ports =
    record { holder = ap (λ (s : CellLegShape). s.holder) same; lease = ap (λ (s : CellLegShape). s.lease) same; ends = ports }

keeps_it : {O : Type 0} (log : O → EndLog OutCall) (leg : Leg O) → KeepsPort log leg leg
keeps_it log leg = record { holder = refl; lease = refl; ends = ports_same log leg.sending.ends leg.sending.ends refl }

keeps_then : {O : Type 0} (log : O → EndLog OutCall) (a b c : Leg O) → KeepsPort log a b → KeepsPort log b c → KeepsPort log a c
keeps_then log a b c first second = record {
  holder = second.holder ∙ first.holder;
  lease = second.lease ∙ first.lease;
  ends = ports_then log a.sending.ends b.sending.ends c.sending.ends first.ends second.ends;
}

-- The legs.

zip_same : {X : Type 0} (R : X → X → Type 0) (xs : List X) → ((x : X) → R x x) → AllZip R xs xs
zip_same R [] same = tt
zip_same R (x ∷ xs) same = (same x, zip_same R xs same)

zip_set : {X : Type 0} (R : X → X → Type 0) (xs : List X) (i : ℕ) (x new : X) → ((y : X) → R y y) → R (get_or xs i x) new → AllZip R xs (set xs i new)
zip_set R [] i x new same r = tt
zip_set R (y ∷ xs) zero x new same r = (r, zip_same R xs same)
zip_set R (y ∷ xs) (suc i) x new same r = (same y, zip_set R xs i x new same r)

zip_then : {X : Type 0} (P Q R : X → X → Type 0) (xs ys zs : List X) → ((x y z : X) → P x y → Q y z → R x z) → AllZip P xs ys → AllZip Q ys zs → AllZip R xs zs
zip_then P Q R [] [] [] both first second = tt
zip_then P Q R [] [] (z ∷ zs) both first second = absurd second
zip_then P Q R [] (y ∷ ys) zs both first second = absurd first
zip_then P Q R (x ∷ xs) [] zs both first second = absurd first
zip_then P Q R (x ∷ xs) (y ∷ ys) [] both first second = absurd second
zip_then P Q R (x ∷ xs) (y ∷ ys) (z ∷ zs) both first second =
    (both x y z first.0 second.0, zip_then P Q R xs ys zs both first.1 second.1)

rose : (old new : Counts) → AcceptedOne old new → RoseByOne old new
rose old new a = record { accepted = a.accepted; sent = λ half. let same = a.sent half in omega (arith, same) }

rose_both : (old mid new : Counts) → AcceptedOne old mid → SentOne mid new → RoseByOne old new
rose_both old mid new a s = record {
  accepted = λ half. let first = a.accepted half in let second = s.accepted half in omega (arith, first, second);
  sent = λ half. let first = a.sent half in let second = s.sent half in omega (arith, first, second);
}

pub counts_stay : {O : Type 0} (those : List (Leg O)) → CountsRoseByOne those those
counts_stay {O} those = zip_same (λ (a b : Leg O). RoseByOne (counts_of a) (counts_of b)) those (λ x. rose x.counts x.counts (counts_same x.counts x.counts refl))

pub counts_accepted : {O : Type 0} (those : List (Leg O)) (i : ℕ) (x new : Leg O) → AcceptedOne (get_or those i x).counts new.counts → CountsRoseByOne those (set those i new)
counts_accepted {O} those i x new one =
    zip_set (λ (a b : Leg O). RoseByOne (counts_of a) (counts_of b)) those i x new (λ y. rose y.counts y.counts (counts_same y.counts y.counts refl))
    (rose (get_or those i x).counts new.counts one)

pub counts_forwarded : {O : Type 0} (those : List (Leg O)) (i j : ℕ) (x mid y new : Leg O) → AcceptedOne (get_or those i x).counts mid.counts
    → SentOne (get_or (set those i mid) j y).counts new.counts → CountsRoseByOne those (set (set those i mid) j new)
counts_forwarded {O} those i j x mid y new a s =
    let P : Leg O → Leg O → Type 0 = λ (a b : Leg O). AcceptedOne (counts_of a) (counts_of b) in
    let Q : Leg O → Leg O → Type 0 = λ (a b : Leg O). SentOne (counts_of a) (counts_of b) in
    let R : Leg O → Leg O → Type 0 = λ (a b : Leg O). RoseByOne (counts_of a) (counts_of b) in
    zip_then P Q R those (set those i mid) (set (set those i mid) j new) (λ x y z p q. rose_both x.counts y.counts z.counts p q)
    (zip_set P those i x mid (λ z. counts_same z.counts z.counts refl) a)
    (zip_set Q (set those i mid) j y new (λ z. unsent z.counts) s)

pub ports_stay : {O : Type 0} (log : O → EndLog OutCall) (those : List (Leg O)) → KeepsPorts log those those
ports_stay {O} log those = zip_same (λ (a b : Leg O). KeepsPort log a b) those (keeps_it log)

pub ports_accepted : {O : Type 0} (log : O → EndLog OutCall) (those : List (Leg O)) (i : ℕ) (x new : Leg O) → cell_leg_shape new ≡ cell_leg_shape (get_or those i x)
    → new.sending.ends ≡ (get_or those i x).sending.ends → KeepsPorts log those (set those i new)
ports_accepted {O} log those i x new shape ends =
    zip_set (λ (a b : Leg O). KeepsPort log a b) those i x new (keeps_it log)
    (keeps_shape log (get_or those i x) new shape (ports_same log (get_or those i x).sending.ends new.sending.ends ends))

pub ports_forwarded : {O : Type 0} (log : O → EndLog OutCall) (those : List (Leg O)) (i j : ℕ) (x mid y new : Leg O)
    → cell_leg_shape mid ≡ cell_leg_shape (get_or those i x) → mid.sending.ends ≡ (get_or those i x).sending.ends
    → cell_leg_shape new ≡ cell_leg_shape (get_or (set those i mid) j y) → SamePorts log (get_or (set those i mid) j y).sending.ends new.sending.ends
    → KeepsPorts log those (set (set those i mid) j new)
ports_forwarded {O} log those i j x mid y new shape ends shape_2 ports =
    let R : Leg O → Leg O → Type 0 = λ (a b : Leg O). KeepsPort log a b in
    zip_then R R R those (set those i mid) (set (set those i mid) j new) (keeps_then log) (ports_accepted log those i x mid shape ends)
    (zip_set R (set those i mid) j y new (keeps_it log) (keeps_shape log (get_or (set those i mid) j y) new shape_2 ports))

-- The counts of reports.

got_in : {X : Type 0} (xs : List X) (i : ℕ) (x : X) → slice_get xs i ≡ Some x → In x xs
got_in [] i x q = absurd (let e = q in cc)
got_in (y ∷ xs) zero x q = here (let e = q in cc)
got_in (y ∷ xs) (suc i) x q = there (got_in xs i x q)

fits_case : {O : Type 0} (leg : Leg O) (report : LegReport) → CountsUnder (2 ^ 63) leg.counts → (o : Option (LegSignal × Learner)) → leg_report_under leg o ≡ Some report
    → CountsFit report
fits_case leg report few None q = absurd (let e = q in cc)
fits_case leg report few (Some (s, learner)) q =
    let it : LegReport = record {
      section = leg.holder.section;
      side = leg.holder.side;
      port = leg.lease.rtp_port;
      endpoint = endpoint_of learner;
      rtp_accepted = leg.counts.rtp_accepted;
      rtp_sent = leg.counts.rtp_sent;
      rtcp_accepted = leg.counts.rtcp_accepted;
      rtcp_sent = leg.counts.rtcp_sent;
      report = leg.report;
    } in
    let same : it ≡ report = (let e = q in cc) in
    subst (λ (r : LegReport). CountsFit r) same
    (record { rtp_accepted = few.accepted Rtp; rtp_sent = few.sent Rtp; rtcp_accepted = few.accepted Rtcp; rtcp_sent = few.sent Rtcp })

pub told_fit : {O : Type 0} (those : List (Leg O)) → ((leg : Leg O) → In leg those → CountsUnder (2 ^ 63) (counts_of leg))
    → (report : LegReport) → In report (leg_reports those) → CountsFit report
told_fit {O} those few report i =
    let s = spread (reports_of_section those) (numbers 0 8) i in
    let p = picked (told_at those s.from) (A ∷ B ∷ []) s.has_it in
    place_case (position (λ (leg : Leg O). stands_at s.from p.from leg.holder) those) p.makes
  where
    leg_case : (at : ℕ) (o : Option (Leg O)) → slice_get those at ≡ o → option_and_then (λ (leg : Leg O). leg_report leg) o ≡ Some report → CountsFit report
    leg_case at None got q = absurd (let e = q in cc)
    leg_case at (Some leg) got q = fits_case leg report (few leg (got_in those at leg got)) _ q

    place_case : (place : Option ℕ) → leg_report_from those place ≡ Some report → CountsFit report
    place_case None q = absurd (let e = q in cc)
    place_case (Some at) q = leg_case at (slice_get those at) refl q
