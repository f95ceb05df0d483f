use Rattle.board_turns.proofs.MainHands.{split_between, begun_joins, joined_joins, surveyed_between, joined_history}
use Rattle.board_turns.proofs.laws.main_hand_stays.Goals as goal

pub returns-clause-split : goal.returns-clause-split
returns-clause-split g c = λ old between left. split_between c.args.config.now c.args.turns.now old c.args.hand.now between left

pub returns-clause-begun : goal.returns-clause-begun
returns-clause-begun g c = begun_joins c.args.config.now c.args.turns.now c.args.hand.now

pub returns-clause-joined : goal.returns-clause-joined
returns-clause-joined g c = λ old other between lane is. joined_joins c.args.config.now c.args.turns.now old other c.args.hand.now between lane is

pub returns-clause-surveyed : goal.returns-clause-surveyed
returns-clause-surveyed g c = λ old between same knows. surveyed_between c.args.config.now c.args.turns.now old c.args.hand.now between same knows

pub returns-clause-history : goal.returns-clause-history
returns-clause-history g c = λ old other lane is. joined_history c.args.config.now c.args.turns.now old other c.args.hand.now lane is
