-- What a step of the board is for one history that the board stands for, it is for each one that gives the same pairs back by it.
use Rattle.std.proofs.Common.{◌≡◌, ◌∙◌, sym, ap, subst, ℕ, List, Some, arith}
use Rattle.relay_outside.specs.declared.settings.Config.{Config}
use Rattle.call_board.specs.declared.board.Board as board
use Rattle.call_board.specs.Acts.{BoardEvent, Turn, Tick, Stop, BoardEntry}
use Rattle.call_board.specs.Boards.{BoardFor}
use Rattle.call_board.specs.Fits.{IsFitting}
use Rattle.call_board.specs.Futures.{closed_pairs}
use Rattle.call_board.specs.Shapes.{board_shape}
use Rattle.call_board.specs.Views.{board_last_moment}
use Rattle.call_board.specs.Whole.{IsTimely}
use Rattle.call_board.proofs.OneBoard.{one_board_fits, one_board_goes_on}
use Rattle.relay_core.specs.Entries.{Board}
use Rattle.relay_core.specs.Records.{Made, moment_of}
use Rattle.relay_core.specs.Steps.{board_made, BoardStep, BoardSteps}

-- the moment of a step of the board is never before the last one
timely : (h : List BoardEntry) (made : Made) (event : BoardEvent) → made.moment ≡ moment_of (Board event) made.handed (board_last_moment h) → IsTimely h (board_made made event)
timely h made (Turn c) is = omega (arith, is)
timely h made (Tick calls) is = omega (arith, is)
timely h made (Stop calls) is = is

pub steps_for_all : (config : Config) (h : List BoardEntry) (old new : board.Board) (made : Made) (event : BoardEvent)
    → IsFitting config h × BoardFor config old h → closed_pairs h (board_made made event) ≡ made.returned → made.kept ≡ Some (board_shape new)
    → BoardStep config h made event new → BoardSteps old made (Board event) new
steps_for_all config h old new made event was gives kept step =
    let e = board_made made event in
    record {
      kept = kept;
      steps = subst (λ (k : Config). (g : List BoardEntry) → IsFitting k g → BoardFor k old g → closed_pairs g e ≡ made.returned → BoardStep k g made event new)
          (sym was.1.config_is)
          (λ g fitting for same. record {
            moment_is = step.moment_is ∙ ap (λ (last : ℕ). moment_of (Board event) made.handed last) (sym was.1.moment_is ∙ for.moment_is);
            fits = one_board_fits config old h g e was.0 was.1 for step.fits;
            stands = one_board_goes_on config old new h g e was.0 fitting was.1 for step.fits (timely h made event step.moment_is) (gives ∙ sym same) step.stands;
          });
    }
