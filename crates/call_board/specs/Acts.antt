-- The history of the board, latest first: control datagrams with their replies and what they did, ticks and stops.
use Rattle.std.specs.Prelude.{ℕ, Bool, List, Option}
use Rattle.relay_outside.specs.declared.address.Addr.{Addr}
use Rattle.ng_bencode.specs.Tree.{Entries}
use Rattle.ng_reply.specs.declared.code.ErrorCode.{ErrorCode}
use Rattle.sdes_lines.specs.declared.crypto_line.CryptoLine.{CryptoLine}
use Rattle.port_pool.specs.declared.holder.Holder.{Holder}
use Rattle.port_pool.specs.declared.signal.SectionSignal.{SectionSignal}
use Rattle.port_pool.specs.Signals.{NewKey}
use Rattle.port_pool.specs.declared.reports.LegReport.{LegReport}
use Rattle.offer_answer.specs.Rounds.{OfferAsk, AnswerAsk}

-- a call: its number, its cell and its call-id
pub record Call : Type 0 where
  pub number : ℕ
  pub cell : ℕ
  pub id : List ℕ

-- a lease of a pair, the generation counting the leases of that pair from 1
pub record Lease : Type 0 where
  pub pair : ℕ
  pub generation : ℕ

-- an accepted offer: its call and whether it began it, the legs that it leased pairs for, the keys that it drew, and the
-- sections whose legs it dropped
pub record Offer : Type 0 where
  pub of : Call
  pub begins : Bool
  pub ask : OfferAsk
  pub legs : List Holder
  pub keys : List NewKey
  pub dropped : List ℕ

-- an accepted answer, and what it commits
pub record Answer : Type 0 where
  pub of : Call
  pub ask : AnswerAsk
  pub signal : List SectionSignal

-- What a control datagram did: it repeated a kept cookie; it ran out of memory; it failed; it failed after it had leased
-- pairs and drawn keys, which were given back and used up; its offer, its answer, its delete was accepted, the delete at once
-- or with a delay in seconds; it asked after a call; or it changed nothing
pub data Act : Type 0 where
  Repeated : Act
  OutOfMemory : Act
  Failed : ErrorCode → Act
  Undone : ErrorCode → (leases : List Lease) → (draws : List (List ℕ)) → Act
  Offered : Offer → Act
  Answered : Answer → Act
  Deleted : Call → Act
  Delayed : Call → (seconds : ℕ) → Act
  Queried : Call → Act
  Told : Act

-- What the devices returned in the turn of a control datagram: whether memory ran out, the results of the opens in order,
-- the keys that were drawn in order and whether the next draw failed, and the report of the call that was asked after
pub record Given : Type 0 where
  pub out_of_memory : Bool
  pub opens : List Bool
  pub draws : List (List ℕ)
  pub draw_failed : Bool
  pub report : Option (List LegReport)

-- A control datagram with a frame: its source, cookie and body, and whether it filled 16,385 bytes; the dictionary that the
-- body says, where it says one, and the usable crypto keys of its description, section by section; what the devices
-- returned; the reply, a whole datagram with the cookie first; and what it did
pub record Control : Type 0 where
  pub source : Addr
  pub cookie : List ℕ
  pub body : List ℕ
  pub too_long : Bool
  pub pairs : Option Entries
  pub chosen : List (Option CryptoLine)
  pub given : Given
  pub reply : List ℕ
  pub act : Act

-- a datagram; a tick, with the calls that it ended; a stop, with all calls that were live
pub data BoardEvent : Type 0 where
  Turn : Control → BoardEvent
  Tick : List Call → BoardEvent
  Stop : List Call → BoardEvent

pub record BoardEntry : Type 0 where
  pub moment : ℕ
  pub event : BoardEvent

abbrev pub act_in : BoardEvent → Act
act_in (Turn c) = c.act
act_in (Tick calls) = Told
act_in (Stop calls) = Told

-- what the entry did but for the calls that a tick or a stop ended
abbrev pub act : BoardEntry → Act
act e = act_in e.event
