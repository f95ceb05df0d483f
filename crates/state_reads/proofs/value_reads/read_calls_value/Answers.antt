use Rattle.state_reads.specs.Calls.{AreCallsOf}
use Rattle.state_reads.specs.Refusals.{NoCalls}
use Rattle.state_reads.proofs.ToldValues.{told_slice}
use Rattle.state_reads.proofs.value_reads.read_calls_value.Goals as goal

pub returns-clause-read : goal.returns-clause-read
returns-clause-read g c =
    told_slice (g.S.LineSource.log c.args.source.now) (g.S.LineSource.log c.read_value.new.source) (AreCallsOf c.args.begun c.args.count) (NoCalls c.args.begun c.args.count) c.args.reader.now c.read_value.new.self c.asked.result
    c.in_ok-text.text.items c.deref.result.now c.calls_of_text.result c.told.result c.told.ensures c.asked.ensures c.deref.ensures.value
    c.in_ok-text.ensures.fits c.in_ok-text.ensures.number c.calls_of_text.ensures.some c.calls_of_text.ensures.none c.in_ok-text.ensures.read
