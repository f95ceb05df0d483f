use Rattle.call_board.proofs.OneBoard.{one_board_lives, one_board_answers, one_board_demands, one_board_fits, one_board_goes_on}
use Rattle.call_board.proofs.law.one_board_has_one_future.Goals as goal

pub returns-clause-lives : goal.returns-clause-lives
returns-clause-lives c config board g h a b = one_board_lives config board g h a b

pub returns-clause-answers : goal.returns-clause-answers
returns-clause-answers c config board g h now control old a b = one_board_answers config board g h now control old a b

pub returns-clause-demands : goal.returns-clause-demands
returns-clause-demands c config board g h control a b = one_board_demands config board g h control a b

pub returns-clause-fits : goal.returns-clause-fits
returns-clause-fits c config board g h e old a b fits = one_board_fits config board g h e old a b fits

pub returns-clause-goes_on : goal.returns-clause-goes_on
returns-clause-goes_on c config old new g h e first second a b fits timely same shown = one_board_goes_on config old new g h e first second a b fits timely same shown
