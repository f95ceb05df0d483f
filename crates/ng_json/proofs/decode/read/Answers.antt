use Rattle.serde_json.specs.View.{view}
use Rattle.ng_json.proofs.Trees.{says_so, says_none, depths_so}
use Rattle.ng_json.proofs.decode.read.Goals as goal

pub returns-in-Ok-clause-value : goal.returns-in-Ok-clause-value
returns-in-Ok-clause-value c =
    says_so c.args.body.now (view c.in-Ok.json) c.value_in.result (record { utf8 = c.in-Ok.ensures.ok.0; is = c.in-Ok.ensures.ok.1 }) c.value_in.ensures.deep c.value_in.ensures.value

pub returns-in-Ok-clause-no_twin : goal.returns-in-Ok-clause-no_twin
returns-in-Ok-clause-no_twin c =
    says_none c.args.body.now (view c.in-Ok.json) c.value_in.result (record { utf8 = c.in-Ok.ensures.ok.0; is = c.in-Ok.ensures.ok.1 }) c.value_in.ensures.no_twin

pub returns-in-Ok-clause-shallow : goal.returns-in-Ok-clause-shallow
returns-in-Ok-clause-shallow c = depths_so (view c.in-Ok.json) c.value_in.result c.value_in.ensures.deep c.value_in.ensures.value
