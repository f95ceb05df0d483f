-- A datagram that asks for an answer, and the crypto lines that are chosen in its description.
use Rattle.std.proofs.Common.{◌≡◌, ◌∙◌, refl, sym, ap, subst, ℕ, Bool, false, List, Option, Some, None, Result, Ok}
use Rattle.relay_outside.specs.declared.settings.Config.{Config}
use Rattle.ng_bencode.specs.Tree.{Entries}
use Rattle.ng_command.specs.declared.command.AnswerIn.{AnswerIn}
use Rattle.ng_command.specs.Meanings.{Said}
use Rattle.ng_reply.specs.declared.code.ErrorCode.{ErrorCode}
use Rattle.sdes_lines.specs.declared.crypto_line.CryptoLine.{CryptoLine}
use Rattle.sdp_text.specs.Lines.{lines_of}
use Rattle.offer_answer.specs.Rounds.{AnswerAsk}
use Rattle.offer_answer.specs.Plan.{AnswerRead}
use Rattle.call_board.specs.Acts.{Call, BoardEntry}
use Rattle.call_board.specs.Requests.{asked, sdp_error}
use Rattle.call_board.specs.Calls.{find_call, rounds}
use Rattle.call_board.specs.Fits.{ReadsRequest, ReadsAnswerOf}
use Rattle.call_board.proofs.Done.{Asks}
use Rattle.call_board.proofs.Dues.{AsksOf}
use Rattle.control_messages.specs.declared.request.Request.{Request}
use Rattle.board_turns.specs.declared.device_answers.DeviceAnswers.{DeviceAnswers}
use Rattle.board_turns.specs.Controls.{unanswered}
use Rattle.board_turns.specs.PlainReplies.{IsAnew, IsAsking}
use Rattle.board_turns.specs.DeviceAnswers.{given_by}
use Rattle.board_turns.specs.Commands.{record_as}
use Rattle.board_turns.proofs.Asking.{asks_so}
use Rattle.answer_command.specs.Commands.{AsksForAnswer, answer_says, ask_of_answer}

-- it asks for the answer
pub is_asked : (config : Config) (h : List BoardEntry) (moment : ℕ) (request : Request) (pairs : Option Entries) (input : AnswerIn) → AsksForAnswer config h moment request pairs input
    → asked config request.too_long pairs ≡ Ok (answer_says input)
is_asked config h moment request pairs input c =
    ap (λ (long : Bool). asked config long pairs) c.asking.short ∙ asks_so config false pairs (answer_says input) c.asking.command c.fine

pub asks_answer : (config : Config) (h : List BoardEntry) (moment : ℕ) (request : Request) (pairs : Option Entries) (input : AnswerIn) (chosen : List (Option CryptoLine)) (device_answers : DeviceAnswers)
    → AsksForAnswer config h moment request pairs input → (given_by device_answers).out_of_memory ≡ false → Asks config h moment (unanswered (record_as request pairs chosen device_answers)) (Ok (answer_says input))
asks_answer config h moment request pairs input chosen device_answers c fed =
    record { nothing_kept = c.anew.not_kept; not_out_of_memory = fed; is_asked = is_asked config h moment request pairs input c }

pub hears_answer : (config : Config) (h : List BoardEntry) (moment : ℕ) (request : Request) (pairs : Option Entries) (input : AnswerIn) (chosen : List (Option CryptoLine)) (device_answers : DeviceAnswers)
    → AsksForAnswer config h moment request pairs input → ReadsAnswerOf h (ask_of_answer input chosen) (find_call h input.call_id.list)
    → ReadsRequest h (unanswered (record_as request pairs chosen device_answers)) (asked config request.too_long pairs)
hears_answer config h moment request pairs input chosen device_answers c heard =
    subst (λ (r : Result Said ErrorCode). ReadsRequest h (unanswered (record_as request pairs chosen device_answers)) r) (sym (is_asked config h moment request pairs input c)) heard

-- what is asked of the call that has the call-id
pub asks_of : (h : List BoardEntry) (input : AnswerIn) (lines : List (List ℕ)) (chosen : List (Option CryptoLine)) (o : Option Call) → lines_of input.sdp.list ≡ lines
    → ReadsAnswerOf h (ask_of_answer input chosen) o → AsksOf h input lines (ask_of_answer input chosen) o
asks_of h input lines chosen None lines_are heard = tt
asks_of h input lines chosen (Some of) lines_are heard =
    record { from_tag_is = refl; to_tag_is = refl; options_are = refl; hears = record { lines_are = lines_are; heard = heard } }

-- which lines the board chooses
pub heard_by : (h : List BoardEntry) (ask : AnswerAsk) (o : Option Call) → ((of : Call) → o ≡ Some of → AnswerRead (rounds h of.number) ask) → ReadsAnswerOf h ask o
heard_by h ask None hears = tt
heard_by h ask (Some of) hears = hears of refl

-- the description that was read has no error
pub asks_for : (config : Config) (h : List BoardEntry) (moment : ℕ) (request : Request) (pairs : Option Entries) (input : AnswerIn) (text : List ℕ) → IsAnew h moment request
    → IsAsking request pairs (answer_says input) → text ≡ input.sdp.list → sdp_error config text ≡ None → AsksForAnswer config h moment request pairs input
asks_for config h moment request pairs input text anew asking is fine =
    record { anew = anew; asking = asking; fine = subst (λ (t : List ℕ). sdp_error config t ≡ None) is fine }

-- the lines of the description that was read
pub lines_read : (input : AnswerIn) (text : List ℕ) (lines : List (List ℕ)) → lines ≡ lines_of text → text ≡ input.sdp.list → lines_of input.sdp.list ≡ lines
lines_read input text lines are is = sym (are ∙ ap lines_of is)
