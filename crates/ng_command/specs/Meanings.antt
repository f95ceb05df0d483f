-- What a command says, without memory or spare room.
use Rattle.std.specs.Prelude.{ℕ, List, [], Bool, false, Option, Some, None, codes, unwrap_or}
use Rattle.ng_bencode.specs.Room.{Room}
use Rattle.ng_bencode.specs.Tree.{Entries}
use Rattle.ng_bencode.specs.Lookup.{value_at}
use Rattle.ng_command.specs.Values.{text_at}
use Rattle.ng_command.specs.Effects.{flags_of, replaces, asks_mux, protocol_in, source_of, has_flag, limit_of, delay_of, family_spelled}
use Rattle.ng_command.specs.declared.kind.Kind.{Kind}
use Rattle.ng_command.specs.declared.kind.Kind.TheVariants as kinds
use Rattle.ng_command.specs.declared.command.Options.{Options}
use Rattle.ng_command.specs.declared.command.Command.{Command}
use Rattle.ng_command.specs.declared.command.Command.TheVariants as command

pub data Said : Type 0 where
  Ping : Said
  Offer : (call_id from_tag sdp : List ℕ) → Options → Said
  Answer : (call_id from_tag to_tag sdp : List ℕ) → Options → Said
  Delete : (call_id : List ℕ) → (from_tag : Option (List ℕ)) → (fatal : Bool) → (delay : ℕ) → Said
  Query : (call_id : List ℕ) → Said
  Listing : (limit : ℕ) → Said

-- the bytes of a text that may be missing
abbrev pub strings_in_list : Option (Room ℕ) → Option (List ℕ)
strings_in_list None = None
strings_in_list (Some text) = Some text.list

abbrev pub said : Command → Said
said command.Ping = Ping
said (command.Offer offer) = Offer offer.call_id.list offer.from_tag.list offer.sdp.list offer.options
said (command.Answer answer) = Answer answer.call_id.list answer.from_tag.list answer.to_tag.list answer.sdp.list answer.options
said (command.Delete delete) = Delete delete.call_id.list (strings_in_list delete.from_tag) delete.fatal delete.delay_s
said (command.Query query) = Query query.call_id.list
said (command.List limit) = Listing limit

-- a byte string that is there
abbrev pub text_in : Entries → List ℕ → List ℕ
text_in pairs key = unwrap_or (text_at pairs key) []

-- how an answer is to be served
abbrev pub answer_options : Entries → Options
answer_options pairs = record {
  flags = flags_of pairs;
  replace_origin = replaces pairs (codes "origin");
  replace_session = replaces pairs (codes "session connection");
  transport = None;
  source = source_of pairs;
  family = None;
  mux_offer = false;
  mux_demux = false;
  mux_accept = false;
}

-- How an offer is to be served. It alone asks for a protocol, for a family and for RTP and RTCP on one port: in an answer
-- `transport protocol`, `address family` and `rtcp-mux` are ignored.
abbrev pub offer_options : Entries → Options
offer_options pairs = record (answer_options pairs) {
  transport = protocol_in (text_at pairs (codes "transport protocol"));
  family = family_spelled (text_at pairs (codes "address family"));
  mux_offer = asks_mux pairs (codes "offer");
  mux_demux = asks_mux pairs (codes "demux");
  mux_accept = asks_mux pairs (codes "accept");
}

-- what the keys of a command without a fault say
abbrev pub meaning : Kind → Entries → Said
meaning kinds.Ping pairs = Ping
meaning kinds.Offer pairs =
    Offer (text_in pairs (codes "call-id")) (text_in pairs (codes "from-tag")) (text_in pairs (codes "sdp"))
    (offer_options pairs)
meaning kinds.Answer pairs =
    Answer (text_in pairs (codes "call-id")) (text_in pairs (codes "from-tag")) (text_in pairs (codes "to-tag")) (text_in pairs (codes "sdp"))
    (answer_options pairs)
meaning kinds.Delete pairs =
    Delete (text_in pairs (codes "call-id")) (text_at pairs (codes "from-tag")) (has_flag pairs (codes "fatal"))
    (unwrap_or (delay_of (value_at pairs (codes "delete delay"))) 0)
meaning kinds.Query pairs = Query (text_in pairs (codes "call-id"))
meaning kinds.List pairs = Listing (unwrap_or (limit_of (value_at pairs (codes "limit"))) 32)
