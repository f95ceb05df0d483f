-- Which calls of the devices fail, and what the draws give, by what happened so far: for each line `fail` the number of its call, less
-- the calls of its kind that came since.
use Rattle.std.specs.Prelude.{◌≡◌, ℕ, true, List, [], ◌∷◌, ◌++◌, map, if◌then◌else◌}
use Rattle.relay_outside.specs.declared.settings.Config.{Config}
use Rattle.call_cell.specs.LegHistories.{local_port}
use Rattle.outside_real.specs.KeyStream.{stream_of}
use Rattle.relay_script.specs.declared.step.FailKind.{FailKind}
use Rattle.relay_script.specs.declared.step.FailKind.TheVariants as kind
use Rattle.relay_script.specs.Steps as line
use Rattle.relay_script.specs.Steps.{Step}
use Rattle.replay_devices.specs.Steps as model
use Rattle.replay_devices.specs.Devices.{Happening, Made, Opened, Drew, Sent, counts_for, same_kind, unused, streamed, next_key}
use Rattle.replay_devices.specs.Countdowns.{counted_down}
use Rattle.replay_devices.specs.declared.failures.SendFailure.{SendFailure}
use Rattle.replay_devices.specs.Failures.{waiting_for, after_open_at, after_send_at}
use Rattle.replay_devices.specs.Due.{DueState, stream_from}

-- Lines as the steps of the model.

abbrev pub model_kind : FailKind → model.FailKind
model_kind kind.Open = model.Opening
model_kind kind.Draw = model.Drawing
model_kind kind.Take = model.Taking
model_kind kind.Read = model.Reading
model_kind kind.Reply = model.Replying

abbrev pub step_of : Step → model.ReplayStep
step_of line.Skip = model.Skip
step_of (line.At moment) = model.At moment
step_of (line.Key bytes) = model.Key bytes
step_of (line.Fail kind count) = model.Fail (model_kind kind) count
step_of (line.FailSend port count) = model.FailSend port count
step_of (line.Ng source bytes) = model.Ng source bytes
step_of (line.Take port source bytes) = model.Take port source bytes
step_of (line.Relay receipt) = model.Relay receipt
step_of (line.Packet port source bytes) = model.Packet port source bytes
step_of line.Tick = model.Tick

-- Numbers of calls.

abbrev pub asked_in : model.FailKind → model.ReplayStep → List ℕ
asked_in kind (model.Fail other count) = if same_kind other kind then count ∷ [] else []
asked_in kind s = []

-- the number that a line asks for, where it is one of this kind
abbrev pub asked_now : model.FailKind → Happening → List ℕ
asked_now kind (Made s) = asked_in kind s
asked_now kind x = []

-- the numbers that lines asked for of this kind, each less the calls of the kind that came since
abbrev pub counts : model.FailKind → List Happening → List ℕ
counts kind [] = []
counts kind (x ∷ past) = (if counts_for kind x then counted_down (counts kind past) else counts kind past) ++ asked_now kind x

-- Sends of out ends.

abbrev pub send_asked : model.ReplayStep → List SendFailure
send_asked (model.FailSend port number) = waiting_for port number ∷ []
send_asked _ = []

-- after one more thing: a line `fail send` asks for one, an opening makes an end, a packet is sent
abbrev pub sends_after : Config → Happening → List SendFailure → List SendFailure
sends_after config (Made s) failures = failures ++ send_asked s
sends_after config (Opened pair half true) failures = map (after_open_at (local_port config pair half)) failures
sends_after config (Sent pair half ok) failures = map (after_send_at (local_port config pair half)) failures
sends_after config _ failures = failures

-- the sends that lines asked to fail
abbrev pub sends_to_fail : Config → List Happening → List SendFailure
sends_to_fail config [] = []
sends_to_fail config (x ∷ past) = sends_after config x (sends_to_fail config past)

-- Keys.

-- the keys that draws have to give: those of lines, and after them those of the stream of a seed
abbrev pub due : (seed : ℕ) → List Happening → DueState
due seed past = record { unused = unused past; seed_words = (stream_of seed).seed_words; streamed = streamed past }

-- these numbers for each kind, the failing sends, and the keys
pub record WatchState : Type 0 where
  pub opens : List ℕ
  pub draws : List ℕ
  pub takes : List ℕ
  pub reads : List ℕ
  pub replies : List ℕ
  pub sends : List SendFailure
  pub keys : DueState

-- they are those of what happened, with the ports of this configuration and the stream of this seed
pub record WatchStandsFor (config : Config) (seed : ℕ) (past : List Happening) (w : WatchState) : Type 0 where
  pub opens_are : w.opens ≡ counts model.Opening past
  pub draws_are : w.draws ≡ counts model.Drawing past
  pub takes_are : w.takes ≡ counts model.Taking past
  pub reads_are : w.reads ≡ counts model.Reading past
  pub replies_are : w.replies ≡ counts model.Replying past
  pub sends_are : w.sends ≡ sends_to_fail config past
  pub keys_are : w.keys ≡ due seed past

-- one more thing happened
abbrev pub Notes : Config → (seed : ℕ) → WatchState → WatchState → Happening → Type 0
Notes config seed old new x = (past : List Happening) → WatchStandsFor config seed past old → WatchStandsFor config seed (x ∷ past) new

-- the same of a draw, which has to give this key
abbrev pub NotesDraw : Config → (seed : ℕ) → WatchState → WatchState → List ℕ → Type 0
NotesDraw config seed old new key =
    (past : List Happening) → WatchStandsFor config seed past old → (key ≡ next_key (stream_from seed) past) × WatchStandsFor config seed (Drew true ∷ past) new
