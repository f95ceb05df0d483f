-- Two replays of one script, as the contract of a replay says of each what it did.
use Rattle.std.proofs.Common.{sym, subst, ℕ, List, ◌++◌, Option, Some}
use Rattle.std.proofs.lemmas.List.{append_cancel_left}
use Rattle.relay_outside.specs.declared.lines.LineCall.{LineCall}
use Rattle.relay_outside.specs.declared.lines.WriteCall.{WriteCall}
use Rattle.relay_outside.specs.declared.settings.Config.{Config}
use Rattle.relay_script.specs.Steps.{Step}
use Rattle.replay_devices.specs.Scripts.{ReadsScript}
use Rattle.replay_devices.specs.declared.script.Ending.{Ending}
use Rattle.replay_steps.specs.Output.{DidPlay, DidReplay, Replays}
use Rattle.replay_steps.specs.declared.ended.Ended.{Ended}
use Rattle.replay_steps.specs.declared.ended.Ended.TheVariants as ended
use Rattle.replay_laws.specs.Alike.{NoReplyIsE17, IsWrittenOut, WritesOut, SaysTheSame, BreaksOff}
use Rattle.replay_laws.proofs.Broken.{writes_broken}
use Rattle.replay_laws.proofs.Faultless.{written_are}
use Rattle.replay_laws.proofs.Fed.{HasList, did_fed}
use Rattle.replay_laws.proofs.Reading.{reads_once}
use Rattle.replay_laws.proofs.Texts.{writes_once}

has_list : (end : Ended) → IsWrittenOut end → HasList end
has_list ended.Finished i = i
has_list ended.ScriptRead i = i
has_list ended.ScriptFault i = i
has_list ended.PrintFault i = absurd i
has_list ended.OutOfMemory i = absurd i
has_list ended.DeviceFault i = absurd i

did_of : (config : Config) (seed : ℕ) (end : Ended) (read read_now : Option (List LineCall)) (wrote wrote_now : Option (List WriteCall)) → HasList end
    → Replays config seed end read read_now wrote wrote_now → DidReplay config seed end read read_now wrote wrote_now
did_of config seed ended.Finished read read_now wrote wrote_now has r = r
did_of config seed ended.ScriptRead read read_now wrote wrote_now has r = r
did_of config seed ended.ScriptFault read read_now wrote wrote_now has r = r
did_of config seed ended.PrintFault read read_now wrote wrote_now has r = r
did_of config seed ended.OutOfMemory read read_now wrote wrote_now has r = absurd has
did_of config seed ended.DeviceFault read read_now wrote wrote_now has r = absurd has

-- of a text in which no reply is E17
writes_out : (config : Config) (seed : ℕ) (steps : List Step) (how : Ending) (end : Ended) (v : List WriteCall) → HasList end → NoReplyIsE17 v → DidPlay config seed steps how end v
    → WritesOut config seed steps how end v
writes_out config seed steps how ended.Finished v has none d =
    record { entries = d.0; wrote = d.1; stopped = d.2; fed = did_fed config seed steps how ended.Finished d.0 v has none d.1 }
writes_out config seed steps how ended.ScriptRead v has none d =
    record { entries = d.0; wrote = d.1; stopped = d.2; fed = did_fed config seed steps how ended.ScriptRead d.0 v has none d.1 }
writes_out config seed steps how ended.ScriptFault v has none d =
    record { entries = d.0; wrote = d.1; stopped = d.2; fed = did_fed config seed steps how ended.ScriptFault d.0 v has none d.1 }
writes_out config seed steps how ended.PrintFault v has none d =
    record { entries = d.0; wrote = d.1; stopped = d.2; fed = did_fed config seed steps how ended.PrintFault d.0 v has none d.1 }
writes_out config seed steps how ended.OutOfMemory v has none d = absurd has
writes_out config seed steps how ended.DeviceFault v has none d = absurd has

-- what is known of one replay of the script
record OfScript (config : Config) (seed : ℕ) (end : Ended) (calls : List LineCall) (v : List WriteCall) : Type 0 where
  steps : List Step
  how : Ending
  reads : ReadsScript steps how calls
  out : WritesOut config seed steps how end v

of_script : (config : Config) (seed : ℕ) (end : Ended) (a calls : List LineCall) (p v : List WriteCall) → HasList end → NoReplyIsE17 v
    → Replays config seed end (Some a) (Some (a ++ calls)) (Some p) (Some (p ++ v)) → OfScript config seed end calls v
of_script config seed end a calls p v has none r =
    let d = did_of config seed end (Some a) (Some (a ++ calls)) (Some p) (Some (p ++ v)) has r in
    let more = d.reads_are in
    record {
      steps = d.steps;
      how = d.how;
      reads = subst (λ (l : List LineCall). ReadsScript d.steps d.how l) (sym (append_cancel_left a calls more.0 more.1)) more.2;
      out = writes_out config seed d.steps d.how end v has none
          (subst (λ (w : List WriteCall). DidPlay config seed d.steps d.how end w) (written_are p v d.writes d.writes_are) d.did);
    }

-- the one by the steps of the other
tied_out : (config : Config) (seed : ℕ) (end : Ended) (calls : List LineCall) (v : List WriteCall) → (x : OfScript config seed end calls v) → (steps : List Step) (how : Ending) → ReadsScript steps how calls
    → WritesOut config seed steps how end v
tied_out config seed end calls v x steps how reads =
    let same = reads_once x.steps steps x.how how calls x.reads reads in
    subst (λ (ss : List Step). WritesOut config seed ss how end v) same.0 (subst (λ (y : Ending). WritesOut config seed x.steps y end v) same.1 x.out)

pub scripts_once : (config : Config) (seed : ℕ) (end other : Ended) (a b calls : List LineCall) (p q v w : List WriteCall) → IsWrittenOut end → IsWrittenOut other → NoReplyIsE17 v → NoReplyIsE17 w
    → Replays config seed end (Some a) (Some (a ++ calls)) (Some p) (Some (p ++ v)) → Replays config seed other (Some b) (Some (b ++ calls)) (Some q) (Some (q ++ w)) → SaysTheSame end other v w
scripts_once config seed end other a b calls p q v w i j none none_too r s =
    let x = of_script config seed end a calls p v (has_list end i) none r in
    let y = of_script config seed other b calls q w (has_list other j) none_too s in
    writes_once config seed y.steps y.how end other v w i j (tied_out config seed end calls v x y.steps y.how y.reads) y.out

pub scripts_broken : (config : Config) (seed : ℕ) (other : Ended) (a b calls : List LineCall) (p q v w : List WriteCall) → IsWrittenOut other → NoReplyIsE17 v → NoReplyIsE17 w
    → Replays config seed ended.PrintFault (Some a) (Some (a ++ calls)) (Some p) (Some (p ++ v)) → Replays config seed other (Some b) (Some (b ++ calls)) (Some q) (Some (q ++ w)) → BreaksOff v w
scripts_broken config seed other a b calls p q v w j none none_too r s =
    let x = of_script config seed ended.PrintFault a calls p v tt none r in
    let y = of_script config seed other b calls q w (has_list other j) none_too s in
    writes_broken config seed y.steps y.how other v w j (tied_out config seed ended.PrintFault calls v x y.steps y.how y.reads) y.out
