use Rattle.call_board.proofs.board.Board.from_saved.Goals as goal

pub invariant_of-result : goal.invariant_of-result
invariant_of-result c =
    let given = rw c.in-Some.is at c.in_ok-calls.ensures.loaded in
    record { numbers = given.1.numbers }
