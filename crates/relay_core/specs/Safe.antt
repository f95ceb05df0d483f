-- What a safe list promises.
use Rattle.std.specs.Prelude.{◌≡◌, ◌<◌, ℕ, suc, ◌&&◌, nat_lt, true, false, List, [], map, length, Option, Some, None, filter, filter_map, Ok, IsSome}
use Rattle.relay_outside.specs.declared.address.Addr.{Addr}
use Rattle.relay_outside.specs.declared.address.Family.{Family}
use Rattle.relay_outside.specs.declared.settings.Config.{Config}
use Rattle.ng_command.specs.Meanings as said
use Rattle.ng_reply.specs.declared.code.ErrorCode.TheVariants.{E13, E14, E15, E16, E17}
use Rattle.histories.specs.Words.{In, Before}
use Rattle.port_pool.specs.declared.holder.Holder.{Holder}
use Rattle.port_pool.specs.declared.signal.LegSignal.{LegSignal}
use Rattle.port_pool.specs.declared.signal.SectionSignal.{SectionSignal}
use Rattle.port_pool.specs.Signals.{NewKey, signal_at}
use Rattle.port_pool.specs.Boxes.{BoxEvent, Open, Close, Take, Datagram, holder}
use Rattle.port_pool.specs.Ports.{pair_family, half_port}
use Rattle.offer_answer.specs.Plan as plan
use Rattle.offer_answer.specs.Rounds.{OfferAsk}
use Rattle.offer_answer.specs.Profiles.{is_srtp_leg, profile_offered}
use Rattle.call_cell.specs.declared.outcome.Outcome.TheVariants.{Sent}
use Rattle.call_cell.specs.Cells.{CellEvent, CellEntry, Commit, Relay, Relayed, Sending, Shield, call, legs, opposite, in_force, keys_of, key_numbered}
use Rattle.call_cell.specs.Protection.{shield_of_relay}
use Rattle.call_cell.specs.LegKeys.{keys_for}
use Rattle.call_cell.specs.Lessons.{endpoint}
use Rattle.call_cell.specs.Deeds.{deed, way, transform}
use Rattle.call_cell.specs.Cells as cells
use Rattle.call_board.specs.Acts as act
use Rattle.call_board.specs.Acts.{Control, Turn, BoardEntry}
use Rattle.call_board.specs.Calls.{live, rounds, due_moment, find_call, rounds_of_call, is_call_ending}
use Rattle.call_board.specs.Pairs.{Once, held, free, free_in, is_short, drawn}
use Rattle.call_board.specs.KeptReplies.{kept_reply}
use Rattle.call_board.specs.Requests.{ReadsBody, asked}
use Rattle.call_board.specs.Replies.{Fault, reply_datagram}
use Rattle.call_board.specs.Answers.{answering_unless, offering, spelled}
use Rattle.call_board.specs.Fits.{is_read, is_request_read, ReadsRequest, answered_in}
use Rattle.relay_core.specs.Entries.{Event, Board, Cell, Box, Entry, is_nested, history, front, box_event, board_entry, board_history, cell_before, box_history, box_of}
use Rattle.relay_core.specs.Legal.{Legal}

-- Packets that were sent.

-- A packet that left is the transform of one that was taken, to the opposite leg's endpoint, from that leg's port, in the
-- state of the call that held the receiving port when it was taken; and no other relay is of that take
pub record IsSentRight (config : Config) (l : List Entry) (e : Entry) (x : Relayed) (w : Sending) : Type 0 where
  pub taking : Entry
  pub taken : Before taking e l
  pub at_box : taking.place ≡ box_of config x.packet.holder.pair
  pub with_number : taking.number ≡ x.packet.take
  pub held_by : holder (box_history l taking.place taking.number) ≡ Some x.packet.holder
  pub gave : taking.event ≡ Box (Take x.packet.half (Datagram x.packet.holder x.packet.source x.packet.bytes))
  pub of_call : call (cell_before l e) ≡ Some x.packet.holder.call
  pub is_leg : In x.packet.holder (legs (cell_before l e))
  pub other : Holder
  pub is_opposite : opposite (cell_before l e) x.packet.holder ≡ Some other
  pub signal : LegSignal
  pub is_in_force : in_force (cell_before l e) other ≡ Some signal
  pub sends_bytes : transform (cell_before l e) x.packet x.packet.holder signal ≡ Some w.bytes
  pub sends_from : (w.pair ≡ other.pair) × (w.half ≡ way (cell_before l e) x.packet)
  pub sends_to : endpoint (cell_before l e) other w.half ≡ Some w.to
  pub sent_once : (f : Entry) (y : Relayed) → In f l → f.event ≡ Cell (Relay y) →
      x.packet.holder.pair ≡ y.packet.holder.pair → x.packet.take ≡ y.packet.take → f ≡ e

-- Keys.

-- under what a relay protected
abbrev pub shield_by : Event → Option Shield
shield_by (Cell c) = shield_of_relay (cells.relay_in c)
shield_by _ = None

abbrev pub shield_at : Entry → Option Shield
shield_at e = shield_by e.event

-- the cell got the key for this leg, in the leg's life: since the leg was added, or together with it
pub record GotKey (h : List CellEntry) (leg : Holder) (number : ℕ) : Type 0 where
  pub key : NewKey
  pub is_there : key_numbered h number ≡ Some key
  pub in_life : In key (keys_for h leg)

-- a packet is protected under a key that the cell got for the leg by which the packet leaves, in that leg's life
pub record IsProtectedBy (l : List Entry) (e : Entry) (x : Relayed) (s : Shield) : Type 0 where
  pub other : Holder
  pub is_opposite : opposite (cell_before l e) x.packet.holder ≡ Some other
  pub has_key : GotKey (cell_before l e) other s.key

-- The leg by which a packet leaves was committed last by an answer after which the profile of its side isn't SRTP (RFC 3711): the answer is
-- the act of an entry of the board, and the profile is what the call's offers and answers before that entry say
pub record IsClear (l : List Entry) (e : Entry) (x : Relayed) : Type 0 where
  pub other : Holder
  pub is_opposite : opposite (cell_before l e) x.packet.holder ≡ Some other
  pub commit : Entry
  pub is_there : In commit l
  pub at_cell : commit.place ≡ e.place
  pub before : commit.number < e.number
  pub signal : List SectionSignal
  pub commits : commit.event ≡ Cell (Commit signal)
  pub is_last : in_force (cell_before l e) other ≡ signal_at signal other.section other.side
  pub board : Entry
  pub entry : BoardEntry
  pub board_there : In board l
  pub board_is : board_entry board ≡ Some entry
  pub of_board : board.number ≡ commit.board
  pub answer : act.Answer
  pub acts : act.act entry ≡ act.Answered answer
  pub not_srtp : is_srtp_leg (profile_offered (rounds (board_history l board.number) answer.of.number) other.section other.side) ≡ false

-- the keys that a Prepare brings
abbrev pub keys_by : Event → List NewKey
keys_by (Cell c) = keys_of c
keys_by _ = []

abbrev pub keys_at : Entry → List NewKey
keys_at e = keys_by e.event

-- Port pairs.

-- the openings and closings of a box that belong to board entries below n
abbrev pub box_before : List Entry → ℕ → ℕ → List BoxEvent
box_before l place n = filter_map box_event (filter (λ e. is_nested e.event && nat_lt e.board n) (history l place (front l place)))

-- Kept replies.

-- a datagram whose reply is kept gets that reply, owes nothing and changes nothing
pub record IsRepeat (config : Config) (l : List Entry) (e : Entry) (c : Control) (reply : List ℕ) : Type 0 where
  pub first_reply : c.reply ≡ reply
  pub owes_nothing : (f : Entry) → In f l → is_nested f.event ≡ true → f.board ≡ e.number → ⊥
  pub same_live : live (board_history l (suc e.number)) ≡ live (board_history l e.number)
  pub same_rounds : (n : ℕ) → rounds (board_history l (suc e.number)) n ≡ rounds (board_history l e.number) n
  pub same_due : (n : ℕ) → due_moment (board_history l (suc e.number)) n ≡ due_moment (board_history l e.number) n
  pub same_held : held (board_history l (suc e.number)) ≡ held (board_history l e.number)
  pub same_free : free config (board_history l (suc e.number)) ≡ free config (board_history l e.number)
  pub same_drawn : drawn (board_history l (suc e.number)) ≡ drawn (board_history l e.number)
  pub same_kept : (source : Addr) (cookie : List ℕ) (now : ℕ) → kept_reply (board_history l (suc e.number)) source cookie now ≡ kept_reply (board_history l e.number) source cookie now

-- Offers.

-- nothing is kept for the datagram, and it is an offer without a fault, of no call that is ending
pub record IsValidOffer (config : Config) (h : List BoardEntry) (c : Control) (now : ℕ) (id : List ℕ) (ask : OfferAsk) : Type 0 where
  pub nothing_kept : kept_reply h c.source c.cookie now ≡ None
  pub is_asked : asked config c.too_long c.pairs ≡ Ok (said.Offer id ask.from_tag ask.sdp ask.options)
  pub is_heard : ask.chosen ≡ c.chosen
  pub not_ending : is_call_ending h (find_call h id) ≡ false
  pub no_fault : plan.offer_fault (rounds_of_call h (find_call h id)) ask ≡ None

-- the reply is a success, or the error of what it lacks
pub data IsOfferReply (config : Config) (h : List BoardEntry) (c : Control) (id : List ℕ) (ask : OfferAsk) : Type 0 where
  well : (o : act.Offer) → c.act ≡ act.Offered o → o.ask ≡ ask
      → c.reply ≡ (spelled config c.cookie c.body (offering config (rounds_of_call h (find_call h id)) o)).bytes → IsOfferReply config h c id ask
  no_pair : c.reply ≡ reply_datagram config c.cookie c.body (Fault E13) → c.act ≡ act.Failed E13
      → is_short (free_in config h) (plan.demand (rounds_of_call h (find_call h id)) ask).pairs ≡ true → IsOfferReply config h c id ask
  session_limit : c.reply ≡ reply_datagram config c.cookie c.body (Fault E14) → c.act ≡ act.Failed E14
      → find_call h id ≡ None → length (live h) ≡ config.max_sessions → IsOfferReply config h c id ask
  port_fault : (leases : List act.Lease) → c.reply ≡ reply_datagram config c.cookie c.body (Fault E15) → c.act ≡ act.Undone E15 leases []
      → In false c.given.opens → IsOfferReply config h c id ask
  key_fault : (leases : List act.Lease) → c.reply ≡ reply_datagram config c.cookie c.body (Fault E16) → c.act ≡ act.Undone E16 leases c.given.draws
      → c.given.draw_failed ≡ true → IsOfferReply config h c id ask
  no_memory : c.reply ≡ reply_datagram config c.cookie c.body (Fault E17) → c.act ≡ act.OutOfMemory → IsOfferReply config h c id ask

-- What an orderly list has, whatever the lanes do
pub record BoardSafe (config : Config) (l : List Entry) : Type 0 where
  -- no port has two holders
  pub pairs_once : (n : ℕ) → Once (map (λ leg. leg.pair) (held (board_history l n)))
  pub pairs_apart : (n : ℕ) (a b : Holder) → In a (held (board_history l n)) → In b (held (board_history l n)) → a.pair ≡ b.pair → a ≡ b
  pub box_is_held : (n : ℕ) (a : Holder) → In a (held (board_history l n)) → holder (box_before l (box_of config a.pair) n) ≡ Some a
  pub held_is_box : (n pair : ℕ) (a : Holder) → holder (box_before l (box_of config pair) n) ≡ Some a → (a.pair ≡ pair) × In a (held (board_history l n))
  -- a box is opened only where it has no holder, and closed only where it has one
  pub opens_shut : (e : Entry) (leg : Holder) → In e l → e.event ≡ Box (Open leg) → holder (box_history l e.place e.number) ≡ None
  pub closes_open : (e : Entry) → In e l → e.event ≡ Box Close → IsSome (holder (box_history l e.place e.number))
  -- each key number comes once, for one section and side of one call
  pub keys_apart : (e f : Entry) (k j : NewKey) → In e l → In f l → In k (keys_at e) → In j (keys_at f) → k.number ≡ j.number → (e ≡ f) × (k ≡ j)
  -- and it belongs to one leg, which is one lease of a pair, in whatever cells and at whatever times legs have it
  pub one_leg : (e f : Entry) (a b : Holder) (number : ℕ) → In e l → In f l → In a (legs (cell_before l e)) → In b (legs (cell_before l f))
      → GotKey (cell_before l e) a number → GotKey (cell_before l f) b number → a ≡ b
  -- what is read of a datagram is what its body says, and the lines that are chosen are those of its description
  pub bodies_are : (e : Entry) (c : Control) → In e l → e.event ≡ Board (Turn c) → is_read c ≡ true → ReadsBody c.body c.pairs
  pub lines_are : (e : Entry) (c : Control) → In e l → e.event ≡ Board (Turn c) → is_request_read c.act ≡ true
      → ReadsRequest (board_history l e.number) c (asked config c.too_long c.pairs)
  -- each reply, and what is done, are what the board's history demands
  pub replies_are : (e : Entry) (c : Control) → In e l → e.event ≡ Board (Turn c)
      → answered_in c ≡ answering_unless config (board_history l e.number) c (kept_reply (board_history l e.number) c.source c.cookie e.moment)
  -- a kept cookie gives its first reply and changes nothing
  pub repeated : (e : Entry) (c : Control) (reply : List ℕ) → In e l → e.event ≡ Board (Turn c)
      → kept_reply (board_history l e.number) c.source c.cookie e.moment ≡ Some reply → IsRepeat config l e c reply
  -- a valid offer fails only for a named shortage
  pub offers_answered : (e : Entry) (c : Control) (id : List ℕ) (ask : OfferAsk) → In e l → e.event ≡ Board (Turn c)
      → IsValidOffer config (board_history l e.number) c e.moment id ask → IsOfferReply config (board_history l e.number) c id ask

pub record Safe (config : Config) (l : List Entry) : Type 0 where
  pub board : BoardSafe config l
  -- what each relay does is what its cell's history demands
  pub deeds_are : (e : Entry) (x : Relayed) → In e l → e.event ≡ Cell (Relay x) → x.deed ≡ deed config (cell_before l e) x.packet x.sent_ok
  -- every packet sent is the transform of one received packet, sent once, to the opposite endpoint, by the leg that held the port
  pub sent_right : (e : Entry) (x : Relayed) (w : Sending) → In e l → e.event ≡ Cell (Relay x) → x.deed.sending ≡ Some w → IsSentRight config l e x w
  pub sent_sends : (e : Entry) (x : Relayed) (family : Family) (port : ℕ) (to : Addr) (len : ℕ) → In e l → e.event ≡ Cell (Relay x)
      → x.deed.outcome ≡ Sent family port to len → (w : Sending) × (x.deed.sending ≡ Some w) × (w.to ≡ to) × (length w.bytes ≡ len) × (family ≡ pair_family config w.pair)
      × (port ≡ half_port config w.pair w.half)
  -- no key, source and index protects two packets
  pub shields_apart : (e f : Entry) (s : Shield) → In e l → In f l → shield_at e ≡ Some s → shield_at f ≡ Some s → e ≡ f
  pub protected_by : (e : Entry) (x : Relayed) (s : Shield) → In e l → e.event ≡ Cell (Relay x) → x.deed.shield ≡ Some s → IsProtectedBy l e x s
  -- nothing leaves in the clear to a side that agreed on encryption
  pub clear : (e : Entry) (x : Relayed) (w : Sending) → In e l → e.event ≡ Cell (Relay x) → x.deed.sending ≡ Some w → x.deed.shield ≡ None → IsClear l e x
  -- the key that is in force on a leg is there, so that no packet is lost for lack of it
  pub keys_are_there : (e : Entry) (leg : Holder) (s : LegSignal) (number : ℕ) → In e l → In leg (legs (cell_before l e))
      → in_force (cell_before l e) leg ≡ Some s → s.outbound ≡ Some number → GotKey (cell_before l e) leg number

-- Two relays of one receipt, with one result of the send, after one history of their cells since the last End, do the same,
-- whatever else happens
abbrev pub IsIsolated : Config → Type 0
IsIsolated config = (l k : List Entry) (e f : Entry) (x y : Relayed) → Legal config l → Legal config k → In e l → In f k
    → e.event ≡ Cell (Relay x) → f.event ≡ Cell (Relay y) → x.packet ≡ y.packet → x.sent_ok ≡ y.sent_ok
    → cell_before l e ≡ cell_before k f → x.deed ≡ y.deed
