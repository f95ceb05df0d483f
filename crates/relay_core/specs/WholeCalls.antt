-- What a list has that carries a call from its offer to its end, and then two other ones.
use Rattle.std.specs.Prelude.{◌≡◌, ℕ, ◌+◌, ◌*◌, ◌<◌, Bool, false, true, List, [], ◌∷◌, length, Some}
use Rattle.relay_outside.specs.declared.settings.Config.{Config}
use Rattle.srtp_sources.specs.Notes.{Note}
use Rattle.srtp_context.specs.Packets as srtp
use Rattle.sdes_lines.specs.declared.crypto_line.CryptoLine.{CryptoLine}
use Rattle.histories.specs.Words.{In}
use Rattle.port_pool.specs.declared.holder.Side.TheVariants.{A, B}
use Rattle.port_pool.specs.declared.holder.Holder.{Holder}
use Rattle.port_pool.specs.Signals.{NewKey}
use Rattle.port_pool.specs.Boxes.{Take, Datagram, Close}
use Rattle.port_pool.specs.Ports.{pair_family, half_port}
use Rattle.call_cell.specs.declared.outcome.Outcome.TheVariants.{Refused, Sent}
use Rattle.call_cell.specs.declared.outcome.Refused.TheVariants.{Stale}
use Rattle.call_cell.specs.Cells.{Relay, Expire, End, Relayed, Shield, Sending}
use Rattle.call_board.specs.Acts as act
use Rattle.call_board.specs.Acts.{Call, Control, Turn, Tick}
use Rattle.relay_core.specs.Entries.{Event, Board, Cell, Box, Entry, box_of}

-- an entry of the list, at this place, has this event
abbrev pub Occurs : List Entry → ℕ → Event → Type 0
Occurs l place event = (e : Entry) × In e l × (e.place ≡ place) × (e.event ≡ event)

-- one that belongs to the board entry of this number
abbrev pub OccursOf : List Entry → ℕ → ℕ → Event → Type 0
OccursOf l board place event = (e : Entry) × In e l × (e.place ≡ place) × (e.event ≡ event) × (e.board ≡ board)

-- each number is below the next
abbrev pub Rises : List ℕ → Type 0
Rises [] = Unit {0}
Rises (a ∷ []) = Unit {0}
Rises (a ∷ b ∷ ns) = (a < b) × Rises (b ∷ ns)

-- a packet is taken for one leg, and another leg's port sends it on
pub record CarriesPacket (config : Config) (l : List Entry) (from to : Holder) : Type 0 where
  pub relay : Relayed
  pub is_relayed : Occurs l from.cell (Cell (Relay relay))
  pub is_taken : Occurs l (box_of config from.pair) (Box (Take relay.packet.half (Datagram from relay.packet.source relay.packet.bytes)))
  pub sending : Sending
  pub sends : relay.deed.sending ≡ Some sending
  pub is_sent : relay.deed.outcome ≡ Sent (pair_family config to.pair) (half_port config to.pair sending.half) sending.to (length sending.bytes)

-- An offer begins a call and draws keys, its datagram comes again, the offer is answered, a tick finds that the call has not
-- timed out, and it is deleted, which ends its cell and closes the boxes of its legs. In between a packet of side A is sent on to
-- side B, protected under a key that was drawn, and one of side B, protected under the key of its crypto line, is sent on in the
-- clear to where the first one came from. The next call gets a port pair of the first one in a later lease, a packet that was taken
-- for the first one is refused as stale, and a tick ends the next call. The last call is deleted with a delay: a tick just before its
-- due moment asks whether it has timed out, and one at that moment ends it and closes the boxes of its legs, and asks nothing.
pub record CarriesCalls (config : Config) (l : List Entry) : Type 0 where
  pub offer_turn : Control
  pub is_offered : Occurs l 0 (Board (Turn offer_turn))
  pub offer : act.Offer
  pub accepts_offer : offer_turn.act ≡ act.Offered offer
  pub begins : offer.begins ≡ true
  pub repeat_turn : Control
  pub is_repeated : Occurs l 0 (Board (Turn repeat_turn))
  pub same_datagram : (repeat_turn.source ≡ offer_turn.source) × (repeat_turn.cookie ≡ offer_turn.cookie) × (repeat_turn.body ≡ offer_turn.body)
  pub repeats : repeat_turn.act ≡ act.Repeated
  pub answer_turn : Control
  pub is_answered : Occurs l 0 (Board (Turn answer_turn))
  pub answer : act.Answer
  pub accepts_answer : answer_turn.act ≡ act.Answered answer
  pub answers_offer : answer.of ≡ offer.of
  pub ticked : List Call
  pub is_ticked : Occurs l 0 (Board (Tick ticked))
  pub is_asked : OccursOf l is_ticked.0.number offer.of.cell (Cell (Expire false))
  pub delete_turn : Control
  pub is_deleted : Occurs l 0 (Board (Turn delete_turn))
  pub accepts_delete : delete_turn.act ≡ act.Deleted offer.of
  pub ends : OccursOf l is_deleted.0.number offer.of.cell (Cell End)
  pub closes : (leg : Holder) → In leg offer.legs → OccursOf l is_deleted.0.number (box_of config leg.pair) (Box Close)
  -- the two legs of a section
  pub leg_a : Holder
  pub leg_b : Holder
  pub has_leg_a : In leg_a offer.legs
  pub has_leg_b : In leg_b offer.legs
  pub sides : (leg_a.side ≡ A) × (leg_b.side ≡ B)
  pub same_section : leg_a.section ≡ leg_b.section
  -- to side B
  pub to_b : CarriesPacket config l leg_a leg_b
  pub key : NewKey
  pub is_drawn : In key offer.keys
  pub shield : Shield
  pub is_shielded : to_b.relay.deed.shield ≡ Some shield
  pub under_key : shield.key ≡ key.number
  pub protects : to_b.sending.bytes ≡ srtp.protect key.bytes key.suite to_b.relay.packet.bytes shield.note.index
  -- to side A
  pub to_a : CarriesPacket config l leg_b leg_a
  pub line : CryptoLine
  pub is_chosen : In (Some line) answer.ask.chosen
  pub note : Note
  pub is_noted : to_a.relay.deed.noted ≡ Some note
  pub opens : to_a.relay.packet.bytes ≡ srtp.protect line.key line.suite to_a.sending.bytes note.index
  pub learned : to_a.sending.to ≡ to_b.relay.packet.source
  -- the next call
  pub next_turn : Control
  pub is_offered_next : Occurs l 0 (Board (Turn next_turn))
  pub next : act.Offer
  pub accepts_next : next_turn.act ≡ act.Offered next
  pub begins_next : next.begins ≡ true
  pub next_leg : Holder
  pub has_next_leg : In next_leg next.legs
  pub same_pair : next_leg.pair ≡ leg_a.pair
  pub later_lease : next_leg.generation ≡ leg_a.generation + 1
  pub late : Relayed
  pub is_late : Occurs l next.of.cell (Cell (Relay late))
  pub for_former : late.packet.holder ≡ leg_a
  pub is_stale : late.deed.outcome ≡ Refused Stale
  pub times_out : Occurs l 0 (Board (Tick (next.of ∷ [])))
  -- the last call
  pub last_turn : Control
  pub is_offered_last : Occurs l 0 (Board (Turn last_turn))
  pub last : act.Offer
  pub accepts_last : last_turn.act ≡ act.Offered last
  pub begins_last : last.begins ≡ true
  pub delay_turn : Control
  pub is_delayed : Occurs l 0 (Board (Turn delay_turn))
  pub seconds : ℕ
  pub accepts_delay : delay_turn.act ≡ act.Delayed last.of seconds
  pub some_delay : 0 < seconds
  pub early : Occurs l 0 (Board (Tick []))
  pub asks_early : OccursOf l early.0.number last.of.cell (Cell (Expire false))
  pub is_over : Occurs l 0 (Board (Tick (last.of ∷ [])))
  pub when_due : is_over.0.moment ≡ is_delayed.0.moment + 1000 * seconds
  pub just_before : early.0.moment + 1 ≡ is_over.0.moment
  pub unasked : (timed_out : Bool) → OccursOf l is_over.0.number last.of.cell (Cell (Expire timed_out)) → ⊥
  pub ends_last : OccursOf l is_over.0.number last.of.cell (Cell End)
  pub closes_last : (leg : Holder) → In leg last.legs → OccursOf l is_over.0.number (box_of config leg.pair) (Box Close)
  -- one after the other: the entries of the board, and those of the cell, which all these calls have
  pub in_turn : Rises (is_offered.0.number ∷ is_repeated.0.number ∷ is_answered.0.number ∷ is_ticked.0.number ∷ is_deleted.0.number
      ∷ is_offered_next.0.number ∷ times_out.0.number ∷ is_offered_last.0.number ∷ is_delayed.0.number ∷ early.0.number
      ∷ is_over.0.number ∷ [])
  pub in_cell : Rises (to_b.is_relayed.0.number ∷ to_a.is_relayed.0.number ∷ is_asked.0.number ∷ ends.0.number ∷ is_late.0.number
      ∷ asks_early.0.number ∷ ends_last.0.number ∷ [])
  pub same_cell : (next.of.cell ≡ offer.of.cell) × (last.of.cell ≡ offer.of.cell)
