use Rattle.call_cell.specs.Preparations.{prepared_keys, drops_of}
use Rattle.offer_command.proofs.Filled.{keys_told, drops_upwards}
use Rattle.board_turns.proofs.First.{tells_same}
use Rattle.tests_turns.proofs.nested_step_tests.cells.offer.Goals as goal

pub returns-clause-tells : goal.returns-clause-tells
returns-clause-tells c =
    let signal = c.drop_section.new.self in
    let stands = c.drop_section.ensures.stands _ _ (c.add_key.ensures.stands _ _ c.in_ok-signal.ensures.nothing.0) in
    tells_same signal _ (prepared_keys signal) _ (drops_of signal) (keys_told signal _ _ stands) (drops_upwards signal _ _ stands) stands

pub returns-clause-keys : goal.returns-clause-keys
returns-clause-keys c =
    let signal = c.drop_section.new.self in
    let stands = c.drop_section.ensures.stands _ _ (c.add_key.ensures.stands _ _ c.in_ok-signal.ensures.nothing.0) in
    (_, keys_told signal _ _ stands)
