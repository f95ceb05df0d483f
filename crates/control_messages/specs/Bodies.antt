-- What is read of a datagram's body and of its description.
use Rattle.std.specs.Prelude.{◌≡◌, ℕ, List, [], Option, Some, None, Result, Ok, Err}
use Rattle.ng_bencode.specs.Room.{Room}
use Rattle.ng_bencode.specs.Row.{list_in}
use Rattle.ng_bencode.specs.Tree.{Entries, pairs_of}
use Rattle.ng_bencode.specs.declared.row.Row.{Row}
use Rattle.ng_bencode.specs.declared.value.Value.{Value}
use Rattle.ng_command.specs.Meanings.{Said, Ping, Offer, Answer, Delete, Query, Listing, said}
use Rattle.ng_command.specs.declared.command.Command.{Command}
use Rattle.ng_reply.specs.declared.code.ErrorCode.{ErrorCode}
use Rattle.control_messages.specs.declared.body.Body.{Body}
use Rattle.control_messages.specs.declared.description.DescriptionFault.{DescriptionFault}
use Rattle.control_messages.specs.declared.description.DescriptionFault.TheVariants as faults

-- the pairs of a dictionary, where there is one
abbrev pub pairs_if : Option (Row (Room ℕ × Value)) → Option Entries
pairs_if None = None
pairs_if (Some pairs) = Some (pairs_of (list_in pairs))

-- the dictionary that the body says, or none
abbrev pub dictionary_in : Body → Option Entries
dictionary_in body = pairs_if body.dictionary

-- what a command says, or the error that there is in its place
abbrev pub said_by : Result Command ErrorCode → Result Said ErrorCode
said_by (Ok command) = Ok (said command)
said_by (Err code) = Err code

-- the description of an offer or an answer
abbrev pub description_in : Said → List ℕ
description_in Ping = []
description_in (Offer call_id from_tag sdp options) = sdp
description_in (Answer call_id from_tag to_tag sdp options) = sdp
description_in (Delete call_id from_tag fatal seconds) = []
description_in (Query call_id) = []
description_in (Listing limit) = []

-- the description is refused for this error, or memory ran out
abbrev pub IsErrorOf : Option ErrorCode → DescriptionFault → Type 0
IsErrorOf error (faults.Error code) = error ≡ Some code
IsErrorOf error faults.OutOfMemory = Unit {0}
