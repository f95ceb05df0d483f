use Rattle.call_board.specs.Views.{view_of}
use Rattle.call_board.proofs.ShapedViews.{shows}
use Rattle.call_board.proofs.law.shapes_show_histories.Goals as goal

pub returns : goal.returns
returns c = λ config board h s. shows config board (view_of config h) s
