-- What a leg's part for receiving does with a packet that opens.
use Rattle.std.proofs.Common.{◌≡◌, refl, ap, subst, sym, ◌∙◌, ℕ, Bool, true, false, List, length, take, Option, Some, Result, Ok, Err}
use Rattle.std.specs.Prelude.{Box, not, if◌then◌else◌}
use Rattle.std.specs.Global.{Global}
use Rattle.std.specs.List.{cons_option}
use Rattle.relay_outside.specs.declared.address.Addr.{Addr}
use Rattle.rtp_packet.specs.declared.head.Half.{Half}
use Rattle.rtp_packet.specs.declared.head.Half.TheVariants.{Rtp, Rtcp}
use Rattle.rtcp_reports.specs.declared.block.Block.{Block}
use Rattle.srtp_sources.specs.Notes.{Note}
use Rattle.histories.specs.Words.{or_else}
use Rattle.port_pool.specs.declared.signal.LegSignal.{LegSignal}
use Rattle.call_cell.specs.declared.outcome.Refused.{Refused}
use Rattle.call_cell.specs.declared.outcome.Refused.TheVariants as refused
use Rattle.call_cell.specs.declared.contexts.Inbound.{Inbound}
use Rattle.call_cell.specs.declared.counts.Counts.{Counts}
use Rattle.call_cell.specs.declared.receiver.Receiving.{Receiving}
use Rattle.call_cell.specs.declared.leg.Leg.{Leg}
use Rattle.call_cell.specs.Protection.{Judged, Stopped, Passed, is_packet, opened_by}
use Rattle.endpoint_learn.specs.Lessons.{is_wrong_source}
use Rattle.call_cell.specs.Deeds.{judged_leg, kind_on}
use Rattle.call_cell.specs.Blocks.{block_in}
use Rattle.call_cell.specs.Counts.{more_accepted}
use Rattle.call_cell.specs.LegHistories.{LegAccepts}
use Rattle.call_cell.specs.Parts.{ReceivingFor, OpensIn, AcceptsTo, learner_in, taught_half}

abbrev with_inbound : Receiving → Option (Box (Option Inbound) Global) → Receiving
with_inbound old inbound = record { rtp = old.rtp; rtcp = old.rtcp; inbound = inbound }

same_learned : (old : Receiving) (inbound : Option (Box (Option Inbound) Global)) (half : Half) → learner_in half (with_inbound old inbound) ≡ learner_in half old
same_learned old inbound Rtp = refl
same_learned old inbound Rtcp = refl

accepts_case : (s : LegSignal) (half : Half) (source : Addr) (known : Half → Option Addr) (notes : List Note) (old new : Receiving) (inbound : Option (Box (Option Inbound) Global))
    (buf : List ℕ) (size : ℕ) → ReceivingFor (Some s) old known notes → (j : Judged) → OpensIn j s.inbound notes old.inbound inbound buf (Ok size)
    → ((l : List Note) → ReceivingFor (Some s) (with_inbound old inbound) known l → ReceivingFor (Some s) new (taught_half half s.flags source known) l)
    → AcceptsTo j half source s known notes old new buf (Ok size)
accepts_case s half source known notes old new inbound buf size for (Stopped cause) opens learns = absurd (let f = opens.answer in cc)
accepts_case s half source known notes old new inbound buf size for (Passed noted plain) opens learns =
    record {
      answer = opens.answer;
      buffer = opens.buffer;
      receiving = learns (cons_option noted notes) (record { learned = λ other. same_learned old inbound other ∙ for.learned other; inbound = opens.contexts });
    }

pub accepts : (s : LegSignal) (half kind : Half) (source : Addr) (bytes : List ℕ) (known : Half → Option Addr) (notes : List Note) (old new : Receiving)
    (inbound : Option (Box (Option Inbound) Global)) (buf : List ℕ) (size : ℕ) → ReceivingFor (Some s) old known notes
    → not (is_packet kind bytes) ≡ false → is_wrong_source s.flags (known half) source ≡ false
    → OpensIn (opened_by s.inbound notes kind bytes) s.inbound notes old.inbound inbound buf (Ok size)
    → ((l : List Note) → ReceivingFor (Some s) (with_inbound old inbound) known l → ReceivingFor (Some s) new (taught_half half s.flags source known) l)
    → AcceptsTo (judged_leg (Some s) (known half) notes kind source bytes) half source s known notes old new buf (Ok size)
accepts s half kind source bytes known notes old new inbound buf size for is right opens learns =
    let P : Bool → Type 0 = λ (b : Bool).
    AcceptsTo (if b then Stopped refused.Malformed else (if is_wrong_source s.flags (known half) source then Stopped refused.WrongSource else opened_by s.inbound notes kind bytes))
    half source s known notes old new buf (Ok size) in
    let Q : Bool → Type 0 = λ (b : Bool).
    AcceptsTo (if b then Stopped refused.WrongSource else opened_by s.inbound notes kind bytes) half source s known notes old new buf (Ok size) in
    subst P (sym is) (subst Q (sym right) (accepts_case s half source known notes old new inbound buf size for (opened_by s.inbound notes kind bytes) opens learns))

-- What becomes of a packet that is refused.

judged_so : LegSignal → Option Addr → List Note → Half → Addr → List ℕ → Bool → Bool → Judged
judged_so s known notes kind source bytes packet wrong =
    if not packet then Stopped refused.Malformed else (if wrong then Stopped refused.WrongSource else opened_by s.inbound notes kind bytes)

pub wrongly_sent : (s : LegSignal) (half kind : Half) (source : Addr) (bytes : List ℕ) (known : Half → Option Addr) (notes : List Note) (old : Receiving) (buf : List ℕ)
    → is_packet kind bytes ≡ true → is_wrong_source s.flags (known half) source ≡ true
    → AcceptsTo (judged_leg (Some s) (known half) notes kind source bytes) half source s known notes old old buf (Err refused.WrongSource)
unfolding judged_so
wrongly_sent s half kind source bytes known notes old buf is wrong =
    let P : Bool → Type 0 = λ (b : Bool).
    AcceptsTo (judged_so s (known half) notes kind source bytes b (is_wrong_source s.flags (known half) source)) half source s known notes old old buf (Err refused.WrongSource) in
    let Q : Bool → Type 0 = λ (b : Bool).
    AcceptsTo (judged_so s (known half) notes kind source bytes true b) half source s known notes old old buf (Err refused.WrongSource) in
    subst P (sym is) (subst Q (sym wrong) (record { answer = refl; contexts = refl }))

stops_case : (s : LegSignal) (half : Half) (source : Addr) (known : Half → Option Addr) (notes : List Note) (old : Receiving) (inbound : Option (Box (Option Inbound) Global))
    (buf : List ℕ) (cause : Refused) → (j : Judged) → OpensIn j s.inbound notes old.inbound inbound buf (Err cause)
    → AcceptsTo j half source s known notes old (with_inbound old inbound) buf (Err cause)
stops_case s half source known notes old inbound buf cause (Stopped why) opens =
    record { answer = opens.answer; contexts = ap (λ (i : Option (Box (Option Inbound) Global)). with_inbound old i) opens.contexts }
stops_case s half source known notes old inbound buf cause (Passed noted plain) opens = absurd (let f = opens.answer in cc)

pub stops : (s : LegSignal) (half kind : Half) (source : Addr) (bytes : List ℕ) (known : Half → Option Addr) (notes : List Note) (old : Receiving)
    (inbound : Option (Box (Option Inbound) Global)) (buf : List ℕ) (cause : Refused)
    → is_packet kind bytes ≡ true → is_wrong_source s.flags (known half) source ≡ false
    → OpensIn (opened_by s.inbound notes kind bytes) s.inbound notes old.inbound inbound buf (Err cause)
    → AcceptsTo (judged_leg (Some s) (known half) notes kind source bytes) half source s known notes old (with_inbound old inbound) buf (Err cause)
unfolding judged_so
stops s half kind source bytes known notes old inbound buf cause is right opens =
    let P : Bool → Type 0 = λ (b : Bool).
    AcceptsTo (judged_so s (known half) notes kind source bytes b (is_wrong_source s.flags (known half) source)) half source s known notes old (with_inbound old inbound) buf (Err cause) in
    let Q : Bool → Type 0 = λ (b : Bool).
    AcceptsTo (judged_so s (known half) notes kind source bytes true b) half source s known notes old (with_inbound old inbound) buf (Err cause) in
    subst P (sym is) (subst Q (sym right) (stops_case s half source known notes old inbound buf cause (opened_by s.inbound notes kind bytes) opens))

-- A leg.

abbrev leg_with : {O : Type 0} → Leg O → Receiving → Counts → Option Block → Leg O
leg_with old receiving counts report =
    record { holder = old.holder; lease = old.lease; signal = old.signal; receiving = receiving; sending = old.sending; counts = counts; report = report }

-- what has no head is refused
pub leg_malformed : {O : Type 0} (half kind : Half) (source : Addr) (bytes : List ℕ) (s : LegSignal) (known : Half → Option Addr) (notes : List Note) (old : Leg O)
    (buf : List ℕ) → old.signal ≡ Some s → kind ≡ kind_on (Some s) half bytes → is_packet kind bytes ≡ false
    → LegAccepts (judged_leg old.signal (known half) notes (kind_on old.signal half bytes) source bytes) half (kind_on old.signal half bytes) source known notes old old buf
    (Err refused.Malformed)
unfolding judged_so
leg_malformed {O} half kind source bytes s known notes old buf signal same is =
    let P : Option LegSignal → Type 0 = λ (o : Option LegSignal).
    LegAccepts {O = O} (judged_leg o (known half) notes (kind_on o half bytes) source bytes) half (kind_on o half bytes) source known notes old old buf (Err refused.Malformed) in
    let Q : Half → Type 0 = λ (k : Half).
    LegAccepts {O = O} (judged_leg (Some s) (known half) notes k source bytes) half k source known notes old old buf (Err refused.Malformed) in
    let R : Bool → Type 0 = λ (b : Bool).
    LegAccepts {O = O} (judged_so s (known half) notes kind source bytes b (is_wrong_source s.flags (known half) source)) half kind source known notes old old buf (Err refused.Malformed) in
    subst P (sym signal) (subst Q same (subst R (sym is) (record { answer = refl; contexts = refl })))

refuses_case : {O : Type 0} (half kind : Half) (source : Addr) (s : LegSignal) (known : Half → Option Addr) (notes : List Note) (old : Leg O) (new : Receiving)
    (buf : List ℕ) (cause : Refused) (j : Judged) → AcceptsTo j half source s known notes old.receiving new buf (Err cause)
    → LegAccepts j half kind source known notes old (leg_with old new old.counts old.report) buf (Err cause)
refuses_case half kind source s known notes old new buf cause (Stopped why) does =
    record { answer = does.answer; contexts = ap (λ (r : Receiving). leg_with old r old.counts old.report) does.contexts }
refuses_case half kind source s known notes old new buf cause (Passed noted plain) does = absurd (let f = does.answer in cc)

pub leg_refuses : {O : Type 0} (half kind : Half) (source : Addr) (bytes : List ℕ) (s : LegSignal) (known : Half → Option Addr) (notes : List Note) (old : Leg O)
    (new : Receiving) (buf : List ℕ) (cause : Refused) → old.signal ≡ Some s → kind ≡ kind_on (Some s) half bytes
    → AcceptsTo (judged_leg (Some s) (known half) notes kind source bytes) half source s known notes old.receiving new buf (Err cause)
    → LegAccepts (judged_leg old.signal (known half) notes (kind_on old.signal half bytes) source bytes) half (kind_on old.signal half bytes) source known notes old
    (leg_with old new old.counts old.report) buf (Err cause)
leg_refuses {O} half kind source bytes s known notes old new buf cause signal same does =
    let P : Option LegSignal → Type 0 = λ (o : Option LegSignal).
    LegAccepts {O = O} (judged_leg o (known half) notes (kind_on o half bytes) source bytes) half (kind_on o half bytes) source known notes old (leg_with old new old.counts old.report) buf (Err cause) in
    let Q : Half → Type 0 = λ (k : Half).
    LegAccepts {O = O} (judged_leg (Some s) (known half) notes k source bytes) half k source known notes old (leg_with old new old.counts old.report) buf (Err cause) in
    subst P (sym signal) (subst Q same (refuses_case half kind source s known notes old new buf cause (judged_leg (Some s) (known half) notes kind source bytes) does))

many : (size n : ℕ) → ◌≡◌ {A = Result ℕ Refused} (Ok size) (Ok n) → size ≡ n
many size n q = let f = q in cc

takes_case : {O : Type 0} (half kind : Half) (source : Addr) (s : LegSignal) (known : Half → Option Addr) (notes : List Note) (old : Leg O) (new : Receiving)
    (counts : Counts) (report : Option Block) (buf : List ℕ) (size : ℕ) → old.signal ≡ Some s → counts ≡ more_accepted kind old.counts → report ≡ or_else (block_in kind (take size buf)) old.report → (j : Judged)
    → AcceptsTo j half source s known notes old.receiving new buf (Ok size)
    → LegAccepts j half kind source known notes old (leg_with old new counts report) buf (Ok size)
takes_case half kind source s known notes old new counts report buf size signal counted told (Stopped why) does = absurd (let f = does.answer in cc)
takes_case half kind source s known notes old new counts report buf size signal counted told (Passed noted plain) does =
    record {
      answer = does.answer;
      buffer = does.buffer;
      signal = s;
      in_force = signal;
      receiving = does.receiving;
      rest = ap (λ (c : Counts). leg_with old new c report) counted
          ∙ ap (λ (r : Option Block). leg_with old new (more_accepted kind old.counts) r)
          (told ∙ ap (λ (l : List ℕ). or_else (block_in kind l) old.report) (ap (λ (n : ℕ). take n buf) (many size (length plain) does.answer) ∙ does.buffer));
    }

pub leg_takes : {O : Type 0} (half kind : Half) (source : Addr) (bytes : List ℕ) (s : LegSignal) (known : Half → Option Addr) (notes : List Note) (old : Leg O)
    (new : Receiving) (counts : Counts) (report : Option Block) (buf : List ℕ) (size : ℕ) → old.signal ≡ Some s → kind ≡ kind_on (Some s) half bytes → counts ≡ more_accepted kind old.counts
    → report ≡ or_else (block_in kind (take size buf)) old.report
    → AcceptsTo (judged_leg (Some s) (known half) notes kind source bytes) half source s known notes old.receiving new buf (Ok size)
    → LegAccepts (judged_leg old.signal (known half) notes (kind_on old.signal half bytes) source bytes) half (kind_on old.signal half bytes) source known notes old
    (leg_with old new counts report) buf (Ok size)
leg_takes {O} half kind source bytes s known notes old new counts report buf size signal same counted told does =
    let P : Option LegSignal → Type 0 = λ (o : Option LegSignal).
    LegAccepts {O = O} (judged_leg o (known half) notes (kind_on o half bytes) source bytes) half (kind_on o half bytes) source known notes old (leg_with old new counts report) buf (Ok size) in
    let Q : Half → Type 0 = λ (k : Half).
    LegAccepts {O = O} (judged_leg (Some s) (known half) notes k source bytes) half k source known notes old (leg_with old new counts report) buf (Ok size) in
    subst P (sym signal)
    (subst Q same (takes_case half kind source s known notes old new counts report buf size signal counted told (judged_leg (Some s) (known half) notes kind source bytes) does))
