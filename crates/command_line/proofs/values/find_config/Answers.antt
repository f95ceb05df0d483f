use Rattle.std.proofs.Common.{rules}
use Rattle.command_line.proofs.Pairs.{pairs_there}
use Rattle.command_line.proofs.values.find_config.Goals as goal

pub returns-then-has_pair-clause-limits : goal.returns-then-has_pair-clause-limits
returns-then-has_pair-clause-limits c = record {
  families = record { first_is = c.in_ok-interface.ensures.version; other_is = c.in_ok-interface6.ensures.version };
  port_min = c.in_ok-port_min.ensures.within;
  port_max = search rules;
  pairs = pairs_there _ (search rules);
  least_sessions = c.in_ok-max_sessions.ensures.within.0;
  most_sessions = c.in_ok-max_sessions.ensures.within.1;
}
