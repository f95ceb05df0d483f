use Rattle.sdes_lines.proofs.LineEnds.{packets_end, power_end, end_is_packets, end_is_power}
use Rattle.sdes_lines.proofs.read.is_lifetime_and_spaces.Goals as goal

pub returns-in-None : goal.returns-in-None
returns-in-None c = (
  λ number. packets_end c.args.text.now (c.is_number_and_spaces.ensures.0 number),
  λ end. c.is_number_and_spaces.ensures.1 (end_is_packets c.args.text.now c.in-None.ensures end),
)

pub returns-in-Some : goal.returns-in-Some
returns-in-Some c = (
  λ number. power_end c.args.text.now c.in-Some.exponent.now c.in-Some.ensures (c.is_number_and_spaces-in-Some.ensures.0 number),
  λ end. c.is_number_and_spaces-in-Some.ensures.1 (end_is_power c.args.text.now c.in-Some.exponent.now c.in-Some.ensures end),
)
