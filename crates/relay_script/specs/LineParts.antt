-- What the reader of a line tells of its parts: what is there, or that nothing of the kind is.
use Rattle.std.specs.Prelude.{◌≡◌, ◌^◌, ℕ, List, ◌∷◌, ◌++◌, Option, Some, None, codes, Result, Ok, Err, if◌then◌else◌}
use Rattle.std.specs.Str.{bytes_eq}
use Rattle.relay_script.specs.declared.step.FailKind.{FailKind}
use Rattle.relay_script.specs.declared.step.FailKind.TheVariants as kind
use Rattle.relay_script.specs.declared.step.ParseFault.{ParseFault}
use Rattle.relay_script.specs.declared.step.ParseFault.TheVariants.{NotInGrammar, OutOfMemory}
use Rattle.relay_script.specs.declared.step.Step as code
use Rattle.relay_script.specs.declared.parser.Keyword.{Keyword}
use Rattle.relay_script.specs.declared.parser.Keyword.TheVariants as word
use Rattle.relay_script.specs.Steps.{Step, FailSend, step_meaning}
use Rattle.relay_script.specs.Fields.{IsNumber, IsCount, Piece, IsPiece, piece_text, piece_byte}
use Rattle.relay_script.specs.Lines.{first_word, Behind, InWords}

-- a fault says this, unless it is out of memory
abbrev pub RefusesText : ParseFault → Type 0 → Type 0
RefusesText NotInGrammar fact = fact
RefusesText OutOfMemory fact = Unit {0}

-- the kind of failure of this name
abbrev pub fail_kind : List ℕ → Option FailKind
fail_kind name =
    if bytes_eq name (codes "open") then Some kind.Open
    else if bytes_eq name (codes "draw") then Some kind.Draw
    else if bytes_eq name (codes "take") then Some kind.Take
    else if bytes_eq name (codes "read") then Some kind.Read
    else if bytes_eq name (codes "reply") then Some kind.Reply
    else None

abbrev pub keyword_text : Keyword → List ℕ
keyword_text word.At = codes "at"
keyword_text word.Key = codes "key"
keyword_text word.Fail = codes "fail"
keyword_text word.Ng = codes "ng"
keyword_text word.Take = codes "take"
keyword_text word.Relay = codes "relay"
keyword_text word.Packet = codes "packet"

-- the first word of this name
abbrev pub keyword_of : List ℕ → Option Keyword
keyword_of name =
    if bytes_eq name (codes "at") then Some word.At
    else if bytes_eq name (codes "key") then Some word.Key
    else if bytes_eq name (codes "fail") then Some word.Fail
    else if bytes_eq name (codes "ng") then Some word.Ng
    else if bytes_eq name (codes "take") then Some word.Take
    else if bytes_eq name (codes "relay") then Some word.Relay
    else if bytes_eq name (codes "packet") then Some word.Packet
    else None

-- the text begins with a piece, which stands for this byte, and this follows
pub record BeginsWith (text : List ℕ) (byte : ℕ) (rest : List ℕ) : Type 0 where
  pub piece : Piece
  pub allowed : IsPiece piece
  pub stands_for : byte ≡ piece_byte piece
  pub parts : text ≡ piece_text piece ++ rest

-- no piece is at the head of the text
abbrev pub NoPiece : List ℕ → Type 0
NoPiece text = (piece : Piece) (rest : List ℕ) → IsPiece piece → text ≡ piece_text piece ++ rest → ⊥

-- a step with this first word, followed by this
pub record FitsWord (name rest : List ℕ) (step : Step) : Type 0 where
  pub word : first_word step ≡ name
  pub behind : Behind step rest

abbrev pub NoStep : (name rest : List ℕ) → Type 0
NoStep name rest = (step : Step) → first_word step ≡ name → Behind step rest → ⊥

-- after this first word the text asks for this step, or for none
abbrev pub ReadsRest : (name rest : List ℕ) → Result code.Step ParseFault → Type 0
ReadsRest name rest (Ok step) = FitsWord name rest (step_meaning step)
ReadsRest name rest (Err fault) = RefusesText fault (NoStep name rest)

-- what follows `fail send`: `PORT N`
pub record IsPortAndCount (text : List ℕ) (port count : ℕ) : Type 0 where
  pub port_text : List ℕ
  pub number : List ℕ
  pub parts : text ≡ port_text ++ 32 ∷ number
  pub port_number : IsNumber (2 ^ 16) port_text port
  pub counted : IsCount number count

-- the text asks for the failure of a send, or is none
abbrev pub ReadsSendFailure : List ℕ → Result code.Step ParseFault → Type 0
ReadsSendFailure text (Ok step) = (port : ℕ) × (count : ℕ) × (step_meaning step ≡ FailSend port count) × IsPortAndCount text port count
ReadsSendFailure text (Err fault) = RefusesText fault ((port count : ℕ) → IsPortAndCount text port count → ⊥)

-- no step that has words is asked for
abbrev pub NoWords : List ℕ → Type 0
NoWords line = (step : Step) → InWords line step → ⊥
