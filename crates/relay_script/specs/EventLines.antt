-- What a replay prints, and the line that each is printed as.
use Rattle.std.specs.Prelude.{ℕ, ◌==◌, ◌&&◌, nat_le, List, [], ◌∷◌, ◌++◌, codes, decimal, if◌then◌else◌}
use Rattle.std.specs.List.{flat_map}
use Rattle.hex.specs.Hex.{encode_lower}
use Rattle.call_cell.specs.declared.outcome.Lost.{Lost}
use Rattle.call_cell.specs.declared.outcome.Lost.TheVariants as lost
use Rattle.call_cell.specs.declared.outcome.Outcome.{Outcome}
use Rattle.call_cell.specs.declared.outcome.Outcome.TheVariants as outcome
use Rattle.call_cell.specs.declared.outcome.Refused.{Refused}
use Rattle.call_cell.specs.declared.outcome.Refused.TheVariants as refused
use Rattle.relay_outside.specs.declared.address.Addr.{Addr}
use Rattle.relay_outside.specs.declared.address.Ip.{Ip}
use Rattle.relay_outside.specs.declared.address.Ip.TheVariants.{V4, V6}
use Rattle.sdp_text.specs.Hosts.{text_of}
use Rattle.sdp_text.specs.declared.host.Host.TheVariants as host
use Rattle.relay_script.specs.declared.event.Printed as coded
use Rattle.relay_script.specs.declared.event.Printed.TheVariants as code
use Rattle.relay_script.specs.Fields.{Piece, Plain, Backslash, Coded, piece_text}

-- The reply to a control datagram and where it goes; none was due; the take or the send of the control link failed. A packet
-- is received under this number; nothing came; it filled 2,001 bytes; the take failed. What became of a packet, with the bytes
-- that were sent, where the outcome is that they were. How many calls a tick ended. The number of the faulty line.
pub data Printed : Type 0 where
  Reply : Addr → (bytes : List ℕ) → Printed
  Silent : Printed
  ReadFault : Printed
  ReplyFault : Printed
  Took : (receipt : ℕ) → Printed
  Nothing : Printed
  TooLong : Printed
  TakeFault : Printed
  Relayed : Outcome → (bytes : List ℕ) → Printed
  Ended : (calls : ℕ) → Printed
  ScriptFault : (line : ℕ) → Printed

-- what an event of the code stands for
abbrev pub event_of : coded.Printed → Printed
event_of (code.Reply to bytes) = Reply to bytes.list
event_of code.Silent = Silent
event_of code.ReadFault = ReadFault
event_of code.ReplyFault = ReplyFault
event_of (code.Took receipt) = Took receipt
event_of code.Nothing = Nothing
event_of code.TooLong = TooLong
event_of code.TakeFault = TakeFault
event_of (code.Relayed outcome bytes) = Relayed outcome bytes.list
event_of (code.Ended calls) = Ended calls
event_of (code.ScriptFault line) = ScriptFault line

-- Addresses.

abbrev pub ip_text : Ip → List ℕ
ip_text (V4 bytes) = text_of (host.V4 bytes)
ip_text (V6 bytes) = 91 ∷ text_of (host.V6 bytes) ++ 93 ∷ []

abbrev pub addr_text : Addr → List ℕ
addr_text addr = ip_text addr.ip ++ 58 ∷ decimal addr.port

-- Bytes of a reply.

-- a byte from space to tilde but a backslash as it is, a backslash twice, any other one by its digits
abbrev pub shown_piece : ℕ → Piece
shown_piece byte = if byte == 92 then Backslash else if nat_le 32 byte && nat_le byte 126 then Plain byte else Coded byte

abbrev pub shown_byte : ℕ → List ℕ
shown_byte byte = piece_text (shown_piece byte)

abbrev pub shown_text : List ℕ → List ℕ
shown_text bytes = flat_map shown_byte bytes

-- Outcomes.

abbrev pub refused_name : Refused → List ℕ
refused_name refused.Stale = codes "Stale"
refused_name refused.NotAnswered = codes "NotAnswered"
refused_name refused.Malformed = codes "Malformed"
refused_name refused.WrongSource = codes "WrongSource"
refused_name refused.Short = codes "Short"
refused_name refused.NotAuthentic = codes "NotAuthentic"
refused_name refused.TooOld = codes "TooOld"
refused_name refused.Replayed = codes "Replayed"
refused_name refused.TooManySources = codes "TooManySources"

abbrev pub lost_name : Lost → List ℕ
lost_name lost.Hold = codes "Hold"
lost_name lost.OutTooOld = codes "OutTooOld"
lost_name lost.IndexUsed = codes "IndexUsed"
lost_name lost.OutSources = codes "OutSources"
lost_name lost.KeySpent = codes "KeySpent"
lost_name (lost.SendFault family port) = codes "SendFault"

-- the bytes are printed where they were sent
abbrev pub outcome_line : Outcome → List ℕ → List ℕ
outcome_line (outcome.Refused refused) bytes = codes "refused " ++ refused_name refused
outcome_line (outcome.Lost lost) bytes = codes "lost " ++ lost_name lost
outcome_line (outcome.Sent family port to len) bytes = codes "sent " ++ decimal port ++ codes " " ++ addr_text to ++ codes " x:" ++ encode_lower bytes

-- Lines, without their line feed.

abbrev pub printed_line : Printed → List ℕ
printed_line (Reply to bytes) = codes "reply " ++ addr_text to ++ codes " t:" ++ shown_text bytes
printed_line Silent = codes "silent"
printed_line ReadFault = codes "read-fault"
printed_line ReplyFault = codes "reply-fault"
printed_line (Took receipt) = codes "took " ++ decimal receipt
printed_line Nothing = codes "nothing"
printed_line TooLong = codes "too-long"
printed_line TakeFault = codes "take-fault"
printed_line (Relayed outcome bytes) = outcome_line outcome bytes
printed_line (Ended calls) = codes "ended " ++ decimal calls
printed_line (ScriptFault line) = codes "script fault: line " ++ decimal line
