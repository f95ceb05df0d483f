use Rattle.tests_turns.proofs.media_ports_tests.each_end_is_that_of_its_port.Goals as goal

pub close_two-requires-clause-first : goal.close_two-requires-clause-first
close_two-requires-clause-first g c lease at = c.two_ends.ensures.first _ lease c.in-Ok-open_two.ensures.opened at

pub close_two-requires-clause-second : goal.close_two-requires-clause-second
close_two-requires-clause-second g c lease at = c.hears_and_sends.ensures lease (c.two_ends.ensures.second _ lease c.in-Ok-open_two.ensures.opened at)
