use Rattle.board_laws.proofs.law.due_packets_are_sent.Goals as goal
use Rattle.board_laws.proofs.Due.{sent_once, sent_or_failed}

pub returns-clause-once : goal.returns-clause-once
returns-clause-once c = sent_once

pub returns-clause-relayed : goal.returns-clause-relayed
returns-clause-relayed c = sent_or_failed
