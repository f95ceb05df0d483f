-- What a cell tells of its legs is what its history says.
use Rattle.std.proofs.Common.{◌≡◌, refl, ap, subst, sym, ◌∙◌, ℕ, suc, ◌+◌, ◌-◌, ◌<◌, ◌≤◌, ◌^◌, Bool, List, [], ◌∷◌, ◌++◌, filter, length, Option, Some, None, get_or, max, min, arith, append_assoc, length-append, option_to_list}
use Rattle.std.specs.Prelude.{position}
use Rattle.std.specs.List.{cons_option, flat_map}
use Rattle.std.specs.Option.{option_and_then}
use Rattle.std.proofs.lemmas.Option.{slice_get-get_or}
use Rattle.relay_outside.specs.declared.settings.Config.{Config}
use Rattle.relay_outside.specs.declared.address.Addr.{Addr}
use Rattle.rtp_packet.specs.declared.head.Half.{Half}
use Rattle.rtp_packet.specs.declared.head.Half.TheVariants.{Rtp, Rtcp}
use Rattle.rtcp_reports.specs.declared.block.Block.{Block}
use Rattle.histories.specs.Words.{In, first, numbers}
use Rattle.histories.proofs.Lists.{maps, spread, picked, filtered, first_is_in}
use Rattle.port_pool.specs.Ports.{pair_port}
use Rattle.port_pool.specs.Reports.{CountsFit}
use Rattle.port_pool.specs.declared.holder.Holder.{Holder}
use Rattle.port_pool.specs.declared.holder.Side.{Side}
use Rattle.port_pool.specs.declared.holder.Side.TheVariants.{A, B}
use Rattle.port_pool.specs.declared.signal.LegSignal.{LegSignal}
use Rattle.port_pool.specs.declared.reports.LegReport.{LegReport}
use Rattle.endpoint_learn.specs.declared.learner.Learner.{Learner}
use Rattle.call_cell.specs.Parts.{learner_of}
use Rattle.call_cell.specs.LegHistories.{in_force_with}
use Rattle.call_cell.specs.declared.leg.Leg.{Leg}
use Rattle.call_cell.specs.declared.cell.Cell.{Cell}
use Rattle.call_cell.specs.Cells.{CellEntry, legs, in_force, since_end}
use Rattle.call_cell.specs.Lessons.{learned, leg_endpoint_by}
use Rattle.call_cell.specs.Blocks.{last_report}
use Rattle.call_cell.specs.Demands.{CountsBelow, accepted_count, sent_count, report_under, report_of, report_in, report_at, section_reports, reports, stands_at}
use Rattle.call_cell.specs.LegHistories.{LegStandsFor, LegsStandFor}
use Rattle.call_cell.specs.CellHistories.{CellFor, cell_last_moment}
use Rattle.call_cell.specs.LegReports.{CellReads, read_after, leg_report_under, leg_report, leg_report_from, told_at, reports_of_section, leg_reports}
use Rattle.call_cell.proofs.Legs.{legs_stay}
use Rattle.call_cell.proofs.Placing.{place_is, no_place}
use Rattle.call_cell.proofs.Few.{at_in}

-- A leg.

report : Holder → (port : ℕ) → Addr → (a b c d : ℕ) → Option Block → Option LegReport
report leg port endpoint a b c d block = Some (record {
  section = leg.section;
  side = leg.side;
  port = port;
  endpoint = endpoint;
  rtp_accepted = a;
  rtp_sent = b;
  rtcp_accepted = c;
  rtcp_sent = d;
  report = block;
})

-- a count below 2 ^ 63 is kept as it is
uncut : (kept n : ℕ) → kept ≡ min n (2 ^ 64 - 1) → n < 2 ^ 63 → kept ≡ n
uncut kept n is below = omega (arith, is, below)

told_case : {O : Type 0} (config : Config) (h : List CellEntry) (leg : Leg O) → LegStandsFor config h leg
    → ((half : Half) → (accepted_count h leg.holder half < 2 ^ 63) × (sent_count h leg.holder half < 2 ^ 63))
    → (o : Option LegSignal) → leg_report_under leg (in_force_with o (learner_of Rtp o (learned h leg.holder Rtp))) ≡ report_under config h leg.holder o
unfolding report
told_case config h leg for below None = refl
told_case {O} config h leg for below (Some s) =
    let at = pair_port config leg.holder.pair in
    let to = leg_endpoint_by s (learned h leg.holder Rtp) Rtp in
    let k = leg.counts in
    ap (λ (n : ℕ). report leg.holder n to k.rtp_accepted k.rtp_sent k.rtcp_accepted k.rtcp_sent leg.report) (for.port Rtp)
    ∙ ap (λ (n : ℕ). report leg.holder at to n k.rtp_sent k.rtcp_accepted k.rtcp_sent leg.report)
    (uncut k.rtp_accepted (accepted_count h leg.holder Rtp) (for.counted.accepted Rtp) (below Rtp).0)
    ∙ ap (λ (n : ℕ). report leg.holder at to (accepted_count h leg.holder Rtp) n k.rtcp_accepted k.rtcp_sent leg.report)
    (uncut k.rtp_sent (sent_count h leg.holder Rtp) (for.counted.sent Rtp) (below Rtp).1)
    ∙ ap (λ (n : ℕ). report leg.holder at to (accepted_count h leg.holder Rtp) (sent_count h leg.holder Rtp) n k.rtcp_sent leg.report)
    (uncut k.rtcp_accepted (accepted_count h leg.holder Rtcp) (for.counted.accepted Rtcp) (below Rtcp).0)
    ∙ ap (λ (n : ℕ). report leg.holder at to (accepted_count h leg.holder Rtp) (sent_count h leg.holder Rtp) (accepted_count h leg.holder Rtcp) n leg.report)
    (uncut k.rtcp_sent (sent_count h leg.holder Rtcp) (for.counted.sent Rtcp) (below Rtcp).1)
    ∙ ap (λ (o : Option Block). report leg.holder at to (accepted_count h leg.holder Rtp) (sent_count h leg.holder Rtp) (accepted_count h leg.holder Rtcp) (sent_count h leg.holder Rtcp) o)
    for.reported

told_leg : {O : Type 0} (config : Config) (h : List CellEntry) (leg : Leg O) → LegStandsFor config h leg
    → ((half : Half) → (accepted_count h leg.holder half < 2 ^ 63) × (sent_count h leg.holder half < 2 ^ 63)) → leg_report leg ≡ report_of config h leg.holder
told_leg config h leg for below =
    ap (λ (o : Option Learner). leg_report_under leg (in_force_with leg.signal o)) (for.receiving.learned Rtp)
    ∙ ap (λ (o : Option LegSignal). leg_report_under leg (in_force_with o (learner_of Rtp o (learned h leg.holder Rtp)))) for.signal
    ∙ told_case config h leg for below (in_force h leg.holder)

-- The legs.

place_case : {O : Type 0} (config : Config) (h : List CellEntry) (those : List (Leg O)) (section : ℕ) (side : Side) → LegsStandFor config h those → CountsBelow h
    → (place : Option ℕ) → position (λ (leg : Leg O). stands_at section side leg.holder) those ≡ place → leg_report_from those place ≡ report_at config h section side
place_case {O} config h those section side for below None is =
    sym (ap (λ (o : Option Holder). report_in config h o)
    (ap (λ (l : List Holder). first (filter (stands_at section side) l)) (sym for.holders) ∙ no_place (stands_at section side) those is))
place_case {O} config h those section side for below (Some i) is = found_case those is for
  where
    found_case : (all : List (Leg O)) → position (λ (leg : Leg O). stands_at section side leg.holder) all ≡ Some i → LegsStandFor config h all
        → leg_report_from all (Some i) ≡ report_at config h section side
    found_case [] q stands = absurd (let e = q in cc)
    found_case (x ∷ xs) q stands =
        let place = place_is (stands_at section side) (x ∷ xs) i x q in
        let leg = get_or (x ∷ xs) i x in
        let is_leg : In leg.holder (legs h)
        = subst (λ (l : List Holder). In leg.holder l) stands.holders (maps (λ (y : Leg O). y.holder) (x ∷ xs) (at_in (x ∷ xs) i x place.below)) in
        ap (λ (o : Option (Leg O)). option_and_then (λ (y : Leg O). leg_report y) o) (slice_get-get_or (x ∷ xs) i x place.below)
        ∙ told_leg config h leg (stands.each i x place.below) (λ half. below leg.holder half is_leg)
        ∙ sym (ap (λ (o : Option Holder). report_in config h o)
        (ap (λ (l : List Holder). first (filter (stands_at section side) l)) (sym stands.holders) ∙ place.is_first))

-- the leg of that section and side tells this
pub told_found : {O : Type 0} (those : List (Leg O)) (section : ℕ) (side : Side) (i : ℕ) (x : Leg O)
    → position (λ (leg : Leg O). stands_at section side leg.holder) those ≡ Some i → i < length those → x ≡ get_or those i x
    → told_at those section side ≡ leg_report x
told_found {O} those section side i x place below is =
    ap (λ (o : Option ℕ). leg_report_from those o) place
    ∙ ap (λ (o : Option (Leg O)). option_and_then (λ (y : Leg O). leg_report y) o) (slice_get-get_or those i x below)
    ∙ ap (λ (y : Leg O). leg_report y) (sym is)

told_side : {O : Type 0} (config : Config) (h : List CellEntry) (those : List (Leg O)) (section : ℕ) (side : Side) → LegsStandFor config h those → CountsBelow h
    → told_at those section side ≡ report_at config h section side
told_side {O} config h those section side for below =
    place_case config h those section side for below (position (λ (leg : Leg O). stands_at section side leg.holder) those) refl

told_section : {O : Type 0} (config : Config) (h : List CellEntry) (those : List (Leg O)) (section : ℕ) → LegsStandFor config h those → CountsBelow h
    → reports_of_section those section ≡ section_reports config h section
told_section {O} config h those section for below =
    ap (λ (o : Option LegReport). cons_option o (cons_option (told_at those section B) [])) (told_side config h those section A for below)
    ∙ ap (λ (o : Option LegReport). cons_option (report_at config h section A) (cons_option o [])) (told_side config h those section B for below)

flat_by : {X Y : Type 0} (f g : X → List Y) → ((x : X) → f x ≡ g x) → (xs : List X) → flat_map f xs ≡ flat_map g xs
flat_by f g same [] = refl
flat_by {X} {Y} f g same (x ∷ xs) = ap (λ (l : List Y). l ++ flat_map f xs) (same x) ∙ ap (λ (l : List Y). g x ++ l) (flat_by f g same xs)

pub told_legs : {O : Type 0} (config : Config) (h : List CellEntry) (those : List (Leg O)) → LegsStandFor config h those → CountsBelow h
    → leg_reports those ≡ reports config h
unfolding reports
told_legs config h those for below =
    flat_by (reports_of_section those) (section_reports config h) (λ section. told_section config h those section for below) (numbers 0 8)

-- The counts of reports.

fits_case : (config : Config) (h : List CellEntry) (leg : Holder) (one_report : LegReport)
    → ((half : Half) → (accepted_count h leg half < 2 ^ 63) × (sent_count h leg half < 2 ^ 63)) → (o : Option LegSignal)
    → report_under config h leg o ≡ Some one_report → CountsFit one_report
fits_case config h leg one_report below None q = absurd (let e = q in cc)
fits_case config h leg one_report below (Some s) q =
    let it : LegReport = record {
      section = leg.section;
      side = leg.side;
      port = pair_port config leg.pair;
      endpoint = leg_endpoint_by s (learned h leg Rtp) Rtp;
      rtp_accepted = accepted_count h leg Rtp;
      rtp_sent = sent_count h leg Rtp;
      rtcp_accepted = accepted_count h leg Rtcp;
      rtcp_sent = sent_count h leg Rtcp;
      report = last_report h leg;
    } in
    let same : it ≡ one_report = (let e = q in cc) in
    subst (λ (t : LegReport). CountsFit t) same
    (record { rtp_accepted = (below Rtp).0; rtp_sent = (below Rtp).1; rtcp_accepted = (below Rtcp).0; rtcp_sent = (below Rtcp).1 })

pub reports_fit : (config : Config) (h : List CellEntry) → CountsBelow h → (one_report : LegReport) → In one_report (reports config h) → CountsFit one_report
unfolding reports
reports_fit config h below one_report i =
    let s = spread (section_reports config h) (numbers 0 8) i in
    let p = picked (report_at config h s.from) (A ∷ B ∷ []) s.has_it in
    leg_case (stands_at s.from p.from) (first (filter (stands_at s.from p.from) (legs h))) refl p.makes
  where
    leg_case : (test : Holder → Bool) (o : Option Holder) → first (filter test (legs h)) ≡ o → report_in config h o ≡ Some one_report → CountsFit one_report
    leg_case test None is q = absurd (let e = q in cc)
    leg_case test (Some leg) is q =
        fits_case config h leg one_report (λ half. below leg half (filtered test (legs h) (first_is_in (filter test (legs h)) is)).0) (in_force h leg) q

-- Section by section.

cons_is : {X : Type 0} (o : Option X) (xs : List X) → cons_option o xs ≡ option_to_list o ++ xs
cons_is None xs = refl
cons_is (Some x) xs = refl

pub told_more : {O : Type 0} (those : List (Leg O)) (section : ℕ) (out one two all : List LegReport) → section < 8
    → out ++ flat_map (reports_of_section those) (numbers section (8 - section)) ≡ all → one ≡ out ++ option_to_list (told_at those section A)
    → two ≡ one ++ option_to_list (told_at those section B) → two ++ flat_map (reports_of_section those) (numbers (section + 1) (8 - (section + 1))) ≡ all
told_more {O} those section out one two all below is a b =
    let rest = flat_map (reports_of_section those) (numbers (section + 1) (8 - (section + 1))) in
    let left : 8 - section ≡ suc (8 - (section + 1)) = omega (arith, below) in
    let next : suc section ≡ section + 1 = omega arith in
    let split : numbers section (8 - section) ≡ section ∷ numbers (section + 1) (8 - (section + 1))
    = ap (λ (n : ℕ). numbers section n) left ∙ ap (λ (n : ℕ). section ∷ numbers n (8 - (section + 1))) next in
    let both : two ≡ out ++ reports_of_section those section
    = b ∙ ap (λ (l : List LegReport). l ++ option_to_list (told_at those section B)) a
    ∙ append_assoc out (option_to_list (told_at those section A)) (option_to_list (told_at those section B))
    ∙ ap (λ (l : List LegReport). out ++ l)
    (sym (cons_is (told_at those section A) (cons_option (told_at those section B) []) ∙ ap (λ (l : List LegReport). option_to_list (told_at those section A) ++ l) (only (told_at those section B)))) in
    ap (λ (l : List LegReport). l ++ rest) both ∙ append_assoc out (reports_of_section those section) rest
    ∙ ap (λ (l : List ℕ). out ++ flat_map (reports_of_section those) l) (sym split) ∙ is
  where
    only : (o : Option LegReport) → cons_option o [] ≡ option_to_list o
    only None = refl
    only (Some x) = refl

one_at_most : {X : Type 0} (o : Option X) → length (option_to_list o) ≤ 1
one_at_most None = omega arith
one_at_most (Some x) = omega arith

pub few_more : {X : Type 0} (o : Option X) (out new : List X) (n : ℕ) → new ≡ out ++ option_to_list o → length out ≤ n → length new ≤ n + 1
few_more {X} o out new n is few =
    omega (arith, ap (λ (l : List X). length l) is, length-append out (option_to_list o), one_at_most o, few)

-- The cell.

max_same : (m : ℕ) → m ≡ max m m
max_same m = omega arith

-- a report changes nothing
still : {O : Type 0} (config : Config) (cell : Cell O) (h : List CellEntry) (all_reports : List LegReport) → CellFor config cell h
    → CellFor config cell (read_after h all_reports ∷ h)
still config cell h all_reports for =
    let e = read_after h all_reports in
    let s = since_end h in
    record {
      config_is = for.config_is;
      moment = for.moment ∙ max_same (cell_last_moment h);
      call_is = for.call_is;
      began = for.began;
      is_committed = for.is_committed;
      active = for.active;
      unnoted = for.unnoted;
      legs_for = record {
        holders = for.legs_for.holders ∙ sym (legs_stay e s refl (λ section. refl));
        apart = for.legs_for.apart;
        each = λ i d below.
            let l = for.legs_for.each i d below in
            record {
              pair = l.pair;
              generation = l.generation;
              signal = l.signal;
              family = l.family;
              port = l.port;
              receiving = l.receiving;
              sending = l.sending;
              named = l.named;
              section = l.section;
              held = l.held;
              one_each = l.one_each;
              counted = record { accepted = l.counted.accepted; sent = l.counted.sent };
              reported = l.reported;
            };
      };
    }

pub cell_reads : {O : Type 0} (config : Config) (cell : Cell O) (h : List CellEntry) (all_reports : List LegReport) → CellFor config cell h → CountsBelow (since_end h)
    → all_reports ≡ leg_reports cell.legs.items → CellReads config cell h all_reports
cell_reads config cell h all_reports for below is = record {
  fits = is ∙ told_legs config (since_end h) cell.legs.items for.legs_for below;
  stands = still config cell h all_reports for;
}
