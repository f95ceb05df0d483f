-- What a leg does with an accepted packet: it stays, or leaves by one send of the leg's end of the half.
use Rattle.std.proofs.Common.{◌≡◌, refl, ap, subst, sym, ◌∙◌, ℕ, Bool, true, false, List, length, take, Option, Some, Result, Ok, Err}
use Rattle.std.specs.Prelude.{Box, IsSome, OnErr, if◌then◌else◌, is_ok}
use Rattle.std.specs.Global.{Global}
use Rattle.relay_outside.specs.declared.address.Addr.{Addr}
use Rattle.relay_outside.specs.declared.ports.OutCall.{OutCall}
use Rattle.relay_outside.specs.declared.ports.OutCall.TheVariants.{Send}
use Rattle.relay_outside.specs.DeviceLogs.{EndLog, EndGains, HasCause, Rose, is_done}
use Rattle.rtp_packet.specs.declared.head.Half.{Half}
use Rattle.sdes_lines.specs.declared.crypto_line.Suite.TheVariants.{Tag80, Tag32}
use Rattle.srtp_sources.specs.Notes.{Note}
use Rattle.port_pool.specs.declared.holder.Holder.{Holder}
use Rattle.port_pool.specs.declared.signal.LegSignal.{LegSignal}
use Rattle.port_pool.specs.Signals.{NewKey}
use Rattle.endpoint_learn.specs.declared.learner.Learner.{Learner}
use Rattle.call_cell.specs.Parts.{learner_in, endpoint_of}
use Rattle.call_cell.specs.LegHistories.{in_force_with}
use Rattle.call_cell.specs.declared.outcome.LocalPort.{LocalPort}
use Rattle.call_cell.specs.declared.outcome.Lost.{Lost}
use Rattle.call_cell.specs.declared.outcome.Lost.TheVariants as lost
use Rattle.call_cell.specs.declared.outcome.Outcome.{Outcome}
use Rattle.call_cell.specs.declared.contexts.Outbound.{Outbound}
use Rattle.call_cell.specs.declared.sender.Sending.{Sending}
use Rattle.call_cell.specs.declared.leg.Leg.{Leg}
use Rattle.call_cell.specs.declared.counts.Counts.{Counts}
use Rattle.call_cell.specs.Protection.{Departure, Held, Leaves}
use Rattle.call_cell.specs.Counts.{more_sent}
use Rattle.call_cell.specs.Parts.{boxed_in, OutboundIn, ProtectsTo, ForwardsTo, SendsBy, SameEnds, SameKeys, end_of, other_half, noted_under, wrapped_by, wrapped_for, send_answer}
use Rattle.call_cell.specs.LegHistories.{LegForwards, LegForwardsBy, with_send, leased_port, outcome_of, send_outcome, sent_ok}

-- A refusal.

held_case : {O : Type 0} (log : O → EndLog OutCall) (faults : O → ℕ) (leg : Holder) (keys : ℕ → Option NewKey) (notes : ℕ → List Note) (half : Half)
    (from : LocalPort) (to : Addr) (old new : Sending O) (buf : List ℕ) (cause : Lost) (w : Departure) → ProtectsTo w leg keys notes old new buf (Err cause)
    → ForwardsTo log faults w leg keys notes half from to old new buf (Err cause)
held_case log faults leg keys notes half from to old new buf cause (Held other) does = does
held_case log faults leg keys notes half from to old new buf cause (Leaves shield bytes) does = absurd (let f = does.answer in cc)

pub held : {O : Type 0} (log : O → EndLog OutCall) (faults : O → ℕ) (leg : Holder) (keys : ℕ → Option NewKey) (notes : ℕ → List Note) (s : LegSignal)
    (half kind : Half) (bytes : List ℕ) (from : LocalPort) (to : Addr) (old new : Sending O) (buf : List ℕ) (cause : Lost) → s.hold ≡ false
    → ProtectsTo (wrapped_by keys notes s.outbound kind bytes) leg keys notes old new buf (Err cause)
    → ForwardsTo log faults (wrapped_for keys notes s kind bytes) leg keys notes half from to old new buf (Err cause)
held {O} log faults leg keys notes s half kind bytes from to old new buf cause free does =
    let P : Bool → Type 0 = λ (b : Bool).
    ForwardsTo {O = O} log faults (if b then Held lost.Hold else wrapped_by keys notes s.outbound kind bytes) leg keys notes half from to old new buf (Err cause) in
    subst P (sym free) (held_case log faults leg keys notes half from to old new buf cause (wrapped_by keys notes s.outbound kind bytes) does)

-- A send.

done_is : {T E : Type 0} (r : Result T E) → is_done r ≡ is_ok r
done_is (Ok value) = refl
done_is (Err error) = refl

if_failed : {T E : Type 0} (r : Result T E) (P : Type 0) → is_ok r ≡ false → OnErr r P → P
if_failed (Ok value) P failed holds = absurd (let f = failed in cc)
if_failed (Err error) P failed holds = holds

pub end_sends : {O T E : Type 0} (log : O → EndLog OutCall) (faults : O → ℕ) (half : Half) (to : Addr) (bytes : List ℕ) (done : Bool) (r : Result T E)
    (old new : Sending O) (before after : O × O) → old.ends ≡ Some before → new.ends ≡ Some after → done ≡ is_ok r
    → EndGains (log (end_of half before)) (log (end_of half after)) (Send to bytes (is_done r))
    → HasCause (faults (end_of half before)) (faults (end_of half after)) r → end_of (other_half half) after ≡ end_of (other_half half) before
    → SendsBy log faults half to bytes done old new
end_sends {O} log faults half to bytes done r old new before after had has is gains cause other =
    record {
      before = before;
      after = after;
      had = had;
      has = has;
      gains = subst (λ (b : Bool). EndGains (log (end_of half before)) (log (end_of half after)) (Send to bytes b)) (done_is r ∙ sym is) gains;
      later = cause.later;
      cause = λ failed. if_failed r (Rose (faults (end_of half before)) (faults (end_of half after))) (sym is ∙ failed) cause.failed;
      other = other;
    }

sends_from : {O : Type 0} (log : O → EndLog OutCall) (faults : O → ℕ) (half : Half) (to : Addr) (bytes : List ℕ) (ok : Bool) (old mid new : Sending O)
    → SameEnds old mid → SendsBy log faults half to bytes ok mid new → SendsBy log faults half to bytes ok old new
sends_from {O} log faults half to bytes ok old mid new same sends =
    record {
      before = sends.before;
      after = sends.after;
      had = sym same ∙ sends.had;
      has = sends.has;
      gains = sends.gains;
      later = sends.later;
      cause = sends.cause;
      other = sends.other;
    }

answered : (from : LocalPort) (size : ℕ) (done : Bool) → is_ok (send_answer from size done) ≡ done
answered from size true = refl
answered from size false = refl

same_size : (size n : ℕ) → ◌≡◌ {A = Result ℕ Lost} (Ok size) (Ok n) → size ≡ n
same_size size n q = let f = q in cc

sent_case : {O : Type 0} (log : O → EndLog OutCall) (faults : O → ℕ) (leg : Holder) (keys : ℕ → Option NewKey) (notes : ℕ → List Note) (half : Half)
    (from : LocalPort) (to : Addr) (old mid new : Sending O) (buf : List ℕ) (size : ℕ) (done : Bool) (result : Result ℕ Lost) (w : Departure)
    → ProtectsTo w leg keys notes old mid buf (Ok size) → SameEnds old mid → SameKeys mid new → SendsBy log faults half to (take size buf) done mid new
    → result ≡ send_answer from size done → ForwardsTo log faults w leg keys notes half from to old new buf result
sent_case log faults leg keys notes half from to old mid new buf size done result (Held cause) does ends same sends is = absurd (let f = does.answer in cc)
sent_case {O} log faults leg keys notes half from to old mid new buf size done result (Leaves shield bytes) does ends same sends is =
    let many : size ≡ length bytes = same_size size (length bytes) does.answer in
    let ok : done ≡ is_ok result = sym (answered from size done) ∙ ap (λ (r : Result ℕ Lost). is_ok r) (sym is) in
    let front : take size buf ≡ bytes = ap (λ (n : ℕ). take n buf) many ∙ does.buffer in
    let sent : SendsBy log faults half to bytes (is_ok result) old new
    = subst (λ (l : List ℕ). SendsBy log faults half to l (is_ok result) old new) front
    (subst (λ (b : Bool). SendsBy log faults half to (take size buf) b old new) ok
    (sends_from log faults half to (take size buf) done old mid new ends sends)) in
    record {
      answer = is ∙ ap (λ (n : ℕ). send_answer from n done) many ∙ ap (λ (b : Bool). send_answer from (length bytes) b) ok;
      buffer = does.buffer;
      under = does.under;
      keeps = record {
        ends = subst (λ (o : Option (O × O)). IsSome o) (sym sends.has) refl;
        tag80 = subst (λ (o : Option (Box (Option Outbound) Global)). OutboundIn leg Tag80 keys (noted_under shield notes) (boxed_in o)) (sym same.tag80) does.keeps.tag80;
        tag32 = subst (λ (o : Option (Box (Option Outbound) Global)). OutboundIn leg Tag32 keys (noted_under shield notes) (boxed_in o)) (sym same.tag32) does.keeps.tag32;
      };
      sends = sent;
    }

pub sent : {O : Type 0} (log : O → EndLog OutCall) (faults : O → ℕ) (leg : Holder) (keys : ℕ → Option NewKey) (notes : ℕ → List Note) (s : LegSignal)
    (half kind : Half) (bytes : List ℕ) (from : LocalPort) (to : Addr) (old mid new : Sending O) (buf : List ℕ) (size : ℕ) (done : Bool) (result : Result ℕ Lost) → s.hold ≡ false
    → ProtectsTo (wrapped_by keys notes s.outbound kind bytes) leg keys notes old mid buf (Ok size) → SameEnds old mid → SameKeys mid new
    → SendsBy log faults half to (take size buf) done mid new → result ≡ send_answer from size done
    → ForwardsTo log faults (wrapped_for keys notes s kind bytes) leg keys notes half from to old new buf result
sent {O} log faults leg keys notes s half kind bytes from to old mid new buf size done result free does ends same sends is =
    let P : Bool → Type 0 = λ (b : Bool).
    ForwardsTo {O = O} log faults (if b then Held lost.Hold else wrapped_by keys notes s.outbound kind bytes) leg keys notes half from to old new buf result in
    subst P (sym free)
    (sent_case log faults leg keys notes half from to old mid new buf size done result (wrapped_by keys notes s.outbound kind bytes) does ends same sends is)

-- A leg.

by_answer : (from : LocalPort) (to : Addr) (size : ℕ) (ok : Bool) → outcome_of from to (send_answer from size ok) ≡ send_outcome from to size ok
by_answer from to size true = refl
by_answer from to size false = refl

ok_of : (from : LocalPort) (to : Addr) (size : ℕ) (ok : Bool) → sent_ok (send_outcome from to size ok) ≡ ok
ok_of from to size true = refl
ok_of from to size false = refl

leg_case : {O : Type 0} (log : O → EndLog OutCall) (faults : O → ℕ) (keys : ℕ → Option NewKey) (notes : ℕ → List Note) (half : Half) (from : LocalPort)
    (to : Addr) (old : Leg O) (new : Sending O) (buf : List ℕ) (sent : Result ℕ Lost) (result : Outcome) → from ≡ leased_port half old.lease
    → result ≡ outcome_of from to sent → (w : Departure) → ForwardsTo log faults w old.holder keys notes half from to old.sending new buf sent
    → LegForwards log faults w keys notes half to old (with_send half (is_ok sent) old new) buf result
leg_case {O} log faults keys notes half from to old new buf sent result from_is is (Held cause) does =
    record {
      answer = is ∙ ap (λ (r : Result ℕ Lost). outcome_of from to r) does.answer;
      leg = ap (λ (r : Result ℕ Lost). with_send half (is_ok r) old new) does.answer
          ∙ ap (λ (x : Sending O). with_send half false old x) does.contexts;
    }
leg_case {O} log faults keys notes half from to old new buf sent result from_is is (Leaves shield bytes) does =
    let whole : result ≡ send_outcome from to (length bytes) (is_ok sent)
    = is ∙ ap (λ (r : Result ℕ Lost). outcome_of from to r) does.answer ∙ by_answer from to (length bytes) (is_ok sent) in
    let ok : is_ok sent ≡ sent_ok result = sym (ap (λ (o : Outcome). sent_ok o) whole ∙ ok_of from to (length bytes) (is_ok sent)) in
    record {
      answer = whole ∙ ap (λ (b : Bool). send_outcome from to (length bytes) b) ok ∙ ap (λ (a : LocalPort). send_outcome a to (length bytes) (sent_ok result)) from_is;
      buffer = does.buffer;
      under = does.under;
      sending = does.keeps;
      sends = subst (λ (b : Bool). SendsBy log faults half to bytes b old.sending new) ok does.sends;
      rest = ap (λ (b : Bool). with_send half b old new) ok;
    }

abbrev leg_over : {O : Type 0} → Leg O → Sending O → Counts → Leg O
leg_over old sending counts =
    record { holder = old.holder; lease = old.lease; signal = old.signal; receiving = old.receiving; sending = sending; counts = counts; report = old.report }

pub leg_forwards : {O : Type 0} (log : O → EndLog OutCall) (faults : O → ℕ) (keys : ℕ → Option NewKey) (notes : ℕ → List Note) (kind half : Half)
    (learner : Learner) (plain : List ℕ) (s : LegSignal) (to : Addr) (from : LocalPort) (old : Leg O) (new : Sending O) (counts : Counts) (buf : List ℕ)
    (sent : Result ℕ Lost) (result : Outcome) → in_force_with old.signal (learner_in half old.receiving) ≡ Some (s, learner) → to ≡ endpoint_of learner → from ≡ leased_port half old.lease
    → counts ≡ more_sent half (is_ok sent) old.counts → result ≡ outcome_of from to sent
    → ForwardsTo log faults (wrapped_for keys notes s kind plain) old.holder keys notes half from to old.sending new buf sent
    → LegForwardsBy log faults (in_force_with old.signal (learner_in half old.receiving)) keys notes kind half plain old (leg_over old new counts) buf result
leg_forwards {O} log faults keys notes kind half learner plain s to from old new counts buf sent result signal to_is from_is counted is does =
    let P : Option (LegSignal × Learner) → Type 0 = λ (o : Option (LegSignal × Learner)). LegForwardsBy {O = O} log faults o keys notes kind half plain old (leg_over old new counts) buf result in
    let Q : Counts → Type 0 = λ (c : Counts). LegForwards {O = O} log faults (wrapped_for keys notes s kind plain) keys notes half (endpoint_of learner) old (leg_over old new c) buf result in
    let R : Addr → Type 0 = λ (a : Addr). LegForwards {O = O} log faults (wrapped_for keys notes s kind plain) keys notes half a old (with_send half (is_ok sent) old new) buf result in
    subst P (sym signal)
    (subst Q (sym counted)
    (subst R to_is
    (leg_case log faults keys notes half from to old new buf sent result from_is is (wrapped_for keys notes s kind plain) does)))
