-- What a control link's list of calls says: datagrams taken, datagrams sent.
use Rattle.std.specs.Prelude.{ℕ, ◌≤◌, true, false, Option, Some, None, Result, Ok, Err, List, take, filter_map}
use Rattle.relay_outside.specs.declared.address.Addr.{Addr}
use Rattle.relay_outside.specs.declared.answers.Failed.{Failed}
use Rattle.relay_outside.specs.declared.answers.Taken.{Taken}
use Rattle.relay_outside.specs.declared.answers.Taken.TheVariants as taken
use Rattle.relay_outside.specs.declared.link.LinkGiven.{LinkGiven}
use Rattle.relay_outside.specs.declared.link.LinkGiven.TheVariants as given
use Rattle.relay_outside.specs.declared.link.LinkCall.{LinkCall}
use Rattle.relay_outside.specs.declared.link.LinkCall.TheVariants as call

-- a datagram fills no more than the room for it
abbrev pub FitsRoom : Result Taken Failed → ℕ → Type 0
FitsRoom (Ok (taken.Datagram from len)) room = len ≤ room
FitsRoom (Ok taken.Nothing) room = Unit {0}
FitsRoom (Ok taken.End) room = Unit {0}
FitsRoom (Err failed) room = Unit {0}

-- what the list says of a take with this answer, after which the buffer holds these bytes
abbrev pub link_given : Result Taken Failed → List ℕ → LinkGiven
link_given (Ok (taken.Datagram from len)) buf = given.Datagram from (take len buf)
link_given (Ok taken.Nothing) buf = given.Nothing
link_given (Ok taken.End) buf = given.End
link_given (Err failed) buf = given.Failed

-- the source and the bytes of a datagram that a call took
abbrev pub datagram_of : LinkCall → Option (Addr × List ℕ)
datagram_of (call.Bind at done) = None
datagram_of (call.Take room (given.Datagram from bytes)) = Some (from, bytes)
datagram_of (call.Take room given.Nothing) = None
datagram_of (call.Take room given.End) = None
datagram_of (call.Take room given.Failed) = None
datagram_of (call.Send to bytes done) = None

-- the target and the bytes of a send, whether it returned Ok or failed
abbrev pub send_of : LinkCall → Option (Addr × List ℕ)
send_of (call.Bind at done) = None
send_of (call.Take room answer) = None
send_of (call.Send to bytes done) = Some (to, bytes)

-- the target and the bytes of a send that returned Ok
abbrev pub sent_of : LinkCall → Option (Addr × List ℕ)
sent_of (call.Bind at done) = None
sent_of (call.Take room answer) = None
sent_of (call.Send to bytes true) = Some (to, bytes)
sent_of (call.Send to bytes false) = None

-- the datagrams that were taken, in order
abbrev pub datagrams : List LinkCall → List (Addr × List ℕ)
datagrams = filter_map datagram_of

-- what was given to the link to send, in order
abbrev pub sends : List LinkCall → List (Addr × List ℕ)
sends = filter_map send_of

-- what it sent, in order
abbrev pub sent : List LinkCall → List (Addr × List ℕ)
sent = filter_map sent_of
