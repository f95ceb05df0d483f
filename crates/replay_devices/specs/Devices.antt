-- The devices of a replay: what they give and which of their calls fail, by the lines of the script and the calls that were
-- made so far.
use Rattle.std.specs.Prelude.{ℕ, ◌+◌, Bool, true, false, not, ◌&&◌, ◌||◌, ◌==◌, List, [], ◌∷◌, ◌++◌, drop, Option, Some, None, count_by, if◌then◌else◌}
use Rattle.std.specs.List.{list_any}
use Rattle.relay_outside.specs.declared.settings.Config.{Config}
use Rattle.rtp_packet.specs.declared.head.Half.{Half}
use Rattle.srtp_sources.specs.Notes.{is_half}
use Rattle.histories.specs.Words.{first, until}
use Rattle.port_pool.specs.Ports.{half_port}
use Rattle.call_cell.specs.Cells.{Sending}
use Rattle.replay_devices.specs.Steps.{FailKind, Opening, Drawing, Replying, Reading, Taking, ReplayStep}
use Rattle.replay_devices.specs.Steps as step

-- What happened in a replay, in a list of which the latest stands first: a step was made; a port of a pair was opened, or the
-- open failed; a key was drawn, or the draw failed; a reply was sent, or the send failed; an out end sent a packet, or its send
-- failed
pub data Happening : Type 0 where
  Made : ReplayStep → Happening
  Opened : (pair : ℕ) → Half → (ok : Bool) → Happening
  Drew : (ok : Bool) → Happening
  Replied : (ok : Bool) → Happening
  Sent : (pair : ℕ) → Half → (ok : Bool) → Happening

-- Failures.

-- the line meets a take of this kind: each line `ng` one of the control link, each line `take` or `packet` one of an in end,
-- whether its port is open or not
abbrev pub meets : FailKind → ReplayStep → Bool
meets Reading (step.Ng source bytes) = true
meets Taking (step.Take port source bytes) = true
meets Taking (step.Packet port source bytes) = true
meets _ _ = false

-- it counts as one of this kind, failed ones too
abbrev pub counts_for : FailKind → Happening → Bool
counts_for kind (Made s) = meets kind s
counts_for Opening (Opened pair half ok) = true
counts_for Drawing (Drew ok) = true
counts_for Replying (Replied ok) = true
counts_for _ _ = false

abbrev pub same_kind : FailKind → FailKind → Bool
same_kind Opening Opening = true
same_kind Drawing Drawing = true
same_kind Replying Replying = true
same_kind Reading Reading = true
same_kind Taking Taking = true
same_kind _ _ = false

abbrev pub is_failure : FailKind → ℕ → ReplayStep → Bool
is_failure kind n (step.Fail other count) = same_kind other kind && (count == n)
is_failure kind n _ = false

-- it is a line that makes the n-th one of this kind after it fail
abbrev pub fails_nth : FailKind → ℕ → Happening → Bool
fails_nth kind n (Made s) = is_failure kind n s
fails_nth kind n _ = false

-- a line makes the next one of this kind fail, where `later` of the kind came after this past
abbrev pub fails_behind : FailKind → List Happening → ℕ → Bool
fails_behind kind [] later = false
fails_behind kind (x ∷ past) later =
    fails_nth kind (later + 1) x || fails_behind kind past (if counts_for kind x then later + 1 else later)

-- the next one of this kind fails: some line asked for the n-th from then, and n - 1 came since
abbrev pub fails : FailKind → List Happening → Bool
fails kind past = fails_behind kind past 0

-- Sends of out ends.

-- what follows the first that passes
abbrev pub behind : {A : Type 0} → (A → Bool) → List A → List A
behind p [] = []
behind p (x ∷ xs) = if p x then xs else behind p xs

-- the open made an end for this half of the pair
abbrev pub makes_end : (pair : ℕ) → Half → Happening → Bool
makes_end pair half (Opened other opened true) = (other == pair) && is_half opened half
makes_end pair half _ = false

-- the open made an end at a port of this number
abbrev pub makes_at : Config → (port : ℕ) → Happening → Bool
makes_at config port (Opened pair half true) = half_port config pair half == port
makes_at config port _ = false

abbrev pub sends_by : (pair : ℕ) → Half → Happening → Bool
sends_by pair half (Sent other sent ok) = (other == pair) && is_half sent half
sends_by pair half _ = false

abbrev pub is_send_failure : (port n : ℕ) → ReplayStep → Bool
is_send_failure port n (step.FailSend other count) = (other == port) && (count == n)
is_send_failure port n _ = false

abbrev pub fails_send : (port n : ℕ) → Happening → Bool
fails_send port n (Made s) = is_send_failure port n s
fails_send port n _ = false

-- the number of the next send of the half's out end, from 1
abbrev pub next_send : List Happening → (pair : ℕ) → Half → ℕ
next_send past pair half = count_by (sends_by pair half) (until (makes_end pair half) past) + 1

-- what happened since the open before the one that made the end, at a port of this number: a line `fail send` waits for the
-- next open that makes an end
abbrev pub waiting : Config → List Happening → (pair : ℕ) → Half → List Happening
waiting config past pair half = until (makes_at config (half_port config pair half)) (behind (makes_end pair half) past)

-- the next send of the half's out end fails
abbrev pub send_fails : Config → List Happening → (pair : ℕ) → Half → Bool
send_fails config past pair half =
    list_any (fails_send (half_port config pair half) (next_send past pair half)) (waiting config past pair half)

-- the result of a send by an end, where one is made; where none is made, none fails
abbrev pub send_answers : Config → List Happening → Option Sending → Bool
send_answers config past None = true
send_answers config past (Some sending) = not (send_fails config past sending.pair sending.half)

-- what then has happened
abbrev pub after_send : List Happening → (ok : Bool) → Option Sending → List Happening
after_send past ok None = past
after_send past ok (Some sending) = Sent sending.pair sending.half ok ∷ past

-- Keys.

abbrev pub key_of_step : ReplayStep → List (List ℕ)
key_of_step (step.Key bytes) = bytes ∷ []
key_of_step _ = []

-- a line `key` is one more, and a draw that didn't fail uses up the oldest
abbrev pub unused_after : Happening → List (List ℕ) → List (List ℕ)
unused_after (Made s) keys = keys ++ key_of_step s
unused_after (Drew true) keys = drop 1 keys
unused_after _ keys = keys

-- the keys of lines that no draw used up, the oldest first
abbrev pub unused : List Happening → List (List ℕ)
unused [] = []
unused (x ∷ past) = unused_after x (unused past)

-- a draw that found no key of a line
abbrev pub is_of_stream : Happening → List (List ℕ) → Bool
is_of_stream (Drew true) [] = true
is_of_stream _ _ = false

-- how many draws were made from the stream
abbrev pub streamed : List Happening → ℕ
streamed [] = 0
streamed (x ∷ past) = if is_of_stream x (unused past) then streamed past + 1 else streamed past

-- what the next draw gives: the oldest unused key of a line, or else the next one of the stream of the seed
abbrev pub next_key : (ℕ → List ℕ) → List Happening → List ℕ
next_key stream past = elim (first (unused past)) [ None ↦ stream (streamed past) | Some bytes ↦ bytes ]
