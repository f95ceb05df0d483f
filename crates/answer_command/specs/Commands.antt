-- What the command of an answer asks, and what the board planned of it.
use Rattle.std.specs.Prelude.{◌≡◌, ℕ, List, Option, None, Ok}
use Rattle.relay_outside.specs.declared.settings.Config.{Config}
use Rattle.ng_bencode.specs.Tree.{Entries}
use Rattle.ng_command.specs.declared.command.AnswerIn.{AnswerIn}
use Rattle.ng_command.specs.Meanings.{Said, Answer}
use Rattle.sdes_lines.specs.declared.crypto_line.CryptoLine.{CryptoLine}
use Rattle.sdp_text.specs.Lines.{lines_of}
use Rattle.offer_answer.specs.Rounds.{AnswerAsk}
use Rattle.offer_answer.specs.Widths.{WritesFrom}
use Rattle.call_board.specs.declared.board_plan.BoardPlan.{BoardPlan}
use Rattle.call_board.specs.Acts.{BoardEntry}
use Rattle.call_board.specs.Answers.{answer_ask}
use Rattle.call_board.specs.Requests.{sdp_error}
use Rattle.call_board.specs.Calls.{find_call}
use Rattle.call_board.specs.Fits.{ReadsAnswerOf}
use Rattle.call_board.specs.Plans.{PlansAnswer}
use Rattle.call_board.specs.Views.{view_of, call_of_id}
use Rattle.control_messages.specs.declared.request.Request.{Request}
use Rattle.board_turns.specs.PlainReplies.{IsAnew, IsAsking}

-- what the command says
abbrev pub answer_says : AnswerIn → Said
answer_says input = Answer input.call_id.list input.from_tag.list input.to_tag.list input.sdp.list input.options

-- what the answer asks, in whose description these crypto lines were chosen
abbrev pub ask_of_answer : AnswerIn → List (Option CryptoLine) → AnswerAsk
ask_of_answer input chosen = answer_ask input.from_tag.list input.to_tag.list input.sdp.list input.options chosen

-- no reply is kept for the datagram, by its dictionary it asks for this answer, and the description of that has no error
pub record AsksForAnswer (config : Config) (h : List BoardEntry) (moment : ℕ) (request : Request) (pairs : Option Entries) (input : AnswerIn) : Type 0 where
  pub anew : IsAnew h moment request
  pub asking : IsAsking request pairs (answer_says input)
  pub fine : sdp_error config input.sdp.list ≡ None

-- These crypto lines were chosen in the description, which has these lines, and so the board planned the answer
pub record IsPlanned (config : Config) (h : List BoardEntry) (input : AnswerIn) (lines : List (List ℕ)) (chosen : List (Option CryptoLine)) (p : BoardPlan) : Type 0 where
  pub lines_are : lines_of input.sdp.list ≡ lines
  pub heard : ReadsAnswerOf h (ask_of_answer input chosen) (find_call h input.call_id.list)
  pub plans : PlansAnswer config input lines (call_of_id (view_of config h) input.call_id.list) (Ok p)
  pub writes : WritesFrom p.plan lines
