-- Which lines a script may have, and which step each asks for.
use Rattle.std.specs.Prelude.{◌≡◌, ◌≤◌, ◌^◌, ℕ, List, [], ◌∷◌, ◌++◌, codes, length}
use Rattle.relay_outside.specs.declared.address.Addr.{Addr}
use Rattle.relay_script.specs.declared.step.FailKind.{FailKind}
use Rattle.relay_script.specs.declared.step.FailKind.TheVariants as kind
use Rattle.relay_script.specs.Steps.{Step, Skip, At, Key, Fail, FailSend, Ng, Take, Relay, Packet, Tick}
use Rattle.relay_script.specs.Fields.{IsNumber, IsCount, IsAddr, IsPayload, IsHex}

-- the word by which each line begins
abbrev pub first_word : Step → List ℕ
first_word Skip = []
first_word (At moment) = codes "at"
first_word (Key bytes) = codes "key"
first_word (Fail kind count) = codes "fail"
first_word (FailSend port count) = codes "fail"
first_word (Ng source bytes) = codes "ng"
first_word (Take port source bytes) = codes "take"
first_word (Relay receipt) = codes "relay"
first_word (Packet port source bytes) = codes "packet"
first_word Tick = codes "tick"

abbrev pub kind_word : FailKind → List ℕ
kind_word kind.Open = codes "open"
kind_word kind.Draw = codes "draw"
kind_word kind.Take = codes "take"
kind_word kind.Read = codes "read"
kind_word kind.Reply = codes "reply"

-- `HEX`: the 60 digits of a key
pub record IsKeyText (text bytes : List ℕ) : Type 0 where
  pub hex : IsHex text bytes
  pub len : length bytes ≡ 30

-- `KIND N`
pub record IsFailure (text : List ℕ) (kind : FailKind) (count : ℕ) : Type 0 where
  pub number : List ℕ
  pub parts : text ≡ kind_word kind ++ 32 ∷ number
  pub counted : IsCount number count

-- `send PORT N`
pub record IsSendFailure (text : List ℕ) (port count : ℕ) : Type 0 where
  pub port_text : List ℕ
  pub number : List ℕ
  pub parts : text ≡ codes "send" ++ 32 ∷ (port_text ++ 32 ∷ number)
  pub port_number : IsNumber (2 ^ 16) port_text port
  pub counted : IsCount number count

-- `ADDR BYTES`
pub record IsDatagram (text : List ℕ) (source : Addr) (bytes : List ℕ) : Type 0 where
  pub address : List ℕ
  pub payload : List ℕ
  pub parts : text ≡ address ++ 32 ∷ payload
  pub from : IsAddr address source
  pub carried : IsPayload payload bytes

-- `PORT ADDR BYTES`
pub record IsArrival (text : List ℕ) (port : ℕ) (source : Addr) (bytes : List ℕ) : Type 0 where
  pub port_text : List ℕ
  pub datagram : List ℕ
  pub parts : text ≡ port_text ++ 32 ∷ datagram
  pub port_number : IsNumber (2 ^ 16) port_text port
  pub arrived : IsDatagram datagram source bytes

-- what follows the first word and a space; nothing follows `tick`
abbrev pub Behind : Step → List ℕ → Type 0
Behind Skip text = ⊥
Behind (At moment) text = IsNumber (2 ^ 64) text moment
Behind (Key bytes) text = IsKeyText text bytes
Behind (Fail kind count) text = IsFailure text kind count
Behind (FailSend port count) text = IsSendFailure text port count
Behind (Ng source bytes) text = IsDatagram text source bytes
Behind (Take port source bytes) text = IsArrival text port source bytes
Behind (Relay receipt) text = IsCount text receipt
Behind (Packet port source bytes) text = IsArrival text port source bytes
Behind Tick text = ⊥

-- a first word, a space, and what belongs after it
pub record InWords (line : List ℕ) (step : Step) : Type 0 where
  pub rest : List ℕ
  pub parts : line ≡ first_word step ++ 32 ∷ rest
  pub behind : Behind step rest

-- an empty line, or a comment
abbrev pub IsSkipped : List ℕ → Type 0
IsSkipped [] = Unit {0}
IsSkipped (byte ∷ bytes) = byte ≡ 35

-- a line `tick` is this word alone; each other line that asks for something has a word and more after it
abbrev pub SpellsStep : List ℕ → Step → Type 0
SpellsStep line Skip = IsSkipped line
SpellsStep line Tick = line ≡ codes "tick"
SpellsStep line step = InWords line step

-- The line is in the grammar, and asks for this step. No line has more than 40,000 bytes.
pub record SpellsLine (line : List ℕ) (step : Step) : Type 0 where
  pub short : length line ≤ 40000
  pub spelled : SpellsStep line step

-- the line is outside the grammar: it asks for no step
abbrev pub IsOutside : List ℕ → Type 0
IsOutside line = (step : Step) → SpellsLine line step → ⊥
