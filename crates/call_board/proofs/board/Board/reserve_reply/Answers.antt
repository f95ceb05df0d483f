use Rattle.call_board.proofs.board.Board.reserve_reply.Goals as goal

pub returns-clause-shows : goal.returns-clause-shows
returns-clause-shows c = λ config v s. record {
  config_is = s.config_is;
  moment_is = s.moment_is;
  begun_is = s.begun_is;
  drawn_is = s.drawn_is;
  calls_for = s.calls_for;
  cells_for = s.cells_for;
  pool_for = s.pool_for;
  replies_for = c.reserve.ensures.kept v.keepings s.replies_for;
}
