-- The calls, legs and histories of the worked rows.
use Rattle.std.proofs.Common.{ℕ, List, [], ◌∷◌, ◌++◌, Bool, false, true, None}
use Rattle.std.specs.Prelude.{codes}
use Rattle.relay_outside.specs.declared.settings.Config.{Config}
use Rattle.relay_outside.specs.declared.address.Ip.TheVariants as ips
use Rattle.relay_outside.specs.declared.address.Addr.{Addr}
use Rattle.ng_command.specs.declared.command.Options.{Options}
use Rattle.sdes_lines.specs.declared.crypto_line.Suite.TheVariants.{Tag80}
use Rattle.port_pool.specs.declared.holder.Side.{Side}
use Rattle.port_pool.specs.declared.holder.Holder.{Holder}
use Rattle.port_pool.specs.declared.signal.SectionSignal.{SectionSignal}
use Rattle.port_pool.specs.Signals.{NewKey}
use Rattle.offer_answer.specs.Rounds.{OfferAsk, AnswerAsk}
use Rattle.call_board.specs.Acts as act
use Rattle.call_board.specs.Acts.{Call, Lease, Offer, Answer, Act, Given, Control, BoardEvent, Turn, Tick, Stop, BoardEntry}

-- a relay with four pairs, of ports 30000 to 30007, and three sessions
abbrev pub config : Config
config = record {
  interface = ips.V4 (203 ∷ 0 ∷ 113 ∷ 1 ∷ []);
  interface6 = None;
  port_min = 30000;
  port_max = 30007;
  timeout_ms = 60000;
  offer_timeout_ms = 3600000;
  max_sessions = 3;
}

abbrev pub from_port : ℕ → Addr
from_port port = record { ip = ips.V4 (192 ∷ 0 ∷ 2 ∷ 1 ∷ []); port = port }

abbrev pub options : Options
options = record {
  flags = record { strict = false; handover = false; asymmetric = false };
  replace_origin = false;
  replace_session = false;
  transport = None;
  source = None;
  family = None;
  mux_offer = false;
  mux_demux = false;
  mux_accept = false;
}

abbrev pub ask_to : List ℕ → OfferAsk
ask_to sdp = record { from_tag = codes "a"; sdp = sdp; options = options; chosen = [] }

abbrev pub asked : OfferAsk
asked = ask_to (codes "v=0")

abbrev pub answered : AnswerAsk
answered = record { from_tag = codes "a"; to_tag = codes "b"; sdp = codes "v=0"; options = options; chosen = [] }

-- Entries.

abbrev pub given : Given
given = record { out_of_memory = false; opens = []; draws = []; draw_failed = false; report = None }

-- a datagram of a source and a cookie, at a moment, with its reply and what it did
abbrev pub from : Addr → List ℕ → ℕ → List ℕ → Act → BoardEntry
from source cookie moment reply does = record {
  moment = moment;
  event = Turn (record { source = source; cookie = cookie; body = []; too_long = false; pairs = None; chosen = []; given = given; reply = reply; act = does });
}

-- a datagram that did this, at a moment
abbrev pub at : ℕ → Act → BoardEntry
at moment does = from (from_port 2223) (codes "7_o") moment [] does

abbrev pub did : Act → BoardEntry
did does = at 0 does

abbrev pub tick : List Call → BoardEntry
tick calls = record { moment = 0; event = Tick calls }

abbrev pub stop : List Call → BoardEntry
stop calls = record { moment = 0; event = Stop calls }

-- the history of these entries, given in order
abbrev pub history_of : List BoardEntry → List BoardEntry
history_of [] = []
history_of (e ∷ es) = history_of es ++ e ∷ []

-- Calls and legs.

abbrev pub call_of : (number cell : ℕ) → List ℕ → Call
call_of number cell id = record { number = number; cell = cell; id = id }

abbrev pub c1 : Call
c1 = call_of 0 1 (codes "c1")

abbrev pub c2 : Call
c2 = call_of 1 2 (codes "c2")

abbrev pub c3 : Call
c3 = call_of 2 3 (codes "c3")

-- the leg of a call in a section, with a pair in this lease of it
abbrev pub leg : Call → (section : ℕ) → Side → (pair generation : ℕ) → Holder
leg c section side pair generation = record { cell = c.cell; call = c.number; section = section; side = side; pair = pair; generation = generation }

abbrev pub key : (number section : ℕ) → Side → List ℕ → NewKey
key number section side bytes = record { number = number; section = section; side = side; suite = Tag80; bytes = bytes }

abbrev pub offer : Call → Bool → List Holder → List NewKey → List ℕ → Act
offer c begins legs keys dropped = act.Offered (record { of = c; begins = begins; ask = asked; legs = legs; keys = keys; dropped = dropped })

-- an offer that begins a call, with these legs
abbrev pub begins : Call → List Holder → BoardEntry
begins c legs = did (offer c true legs [] [])

-- another offer of the call, with these new legs and dropped sections
abbrev pub offers : Call → List Holder → List ℕ → BoardEntry
offers c legs dropped = did (offer c false legs [] dropped)

abbrev pub answers : Call → List SectionSignal → BoardEntry
answers c signal = did (act.Answered (record { of = c; ask = answered; signal = signal }))

abbrev pub deletes : Call → BoardEntry
deletes c = did (act.Deleted c)

-- a delete of the call at a moment, with a delay in seconds
abbrev pub delays : ℕ → Call → ℕ → BoardEntry
delays moment c seconds = at moment (act.Delayed c seconds)

-- c1 is to end at 6,000, then at 5,000, and a later moment changes nothing; c2 goes on
abbrev pub ending : List BoardEntry
ending = history_of (begins c1 [] ∷ begins c2 [] ∷ delays 1000 c1 5 ∷ delays 2000 c1 3 ∷ delays 3000 c1 9 ∷ [])

abbrev pub lease : (pair generation : ℕ) → Lease
lease pair generation = record { pair = pair; generation = generation }
