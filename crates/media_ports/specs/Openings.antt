-- What a port maker was asked to open, by the list of its calls.
use Rattle.std.specs.Prelude.{◌≡◌, ℕ, Bool, true, false, Option, Some, None, List, [], filter, filter_map}
use Rattle.relay_outside.specs.declared.settings.Config.{Config}
use Rattle.relay_outside.specs.declared.ports.PortCall.{PortCall}
use Rattle.relay_outside.specs.declared.ports.PortCall.TheVariants.{Open, Close}
use Rattle.media_ports.specs.Addresses.{pair_addresses}
use Rattle.media_ports.specs.Calls.{openings}

-- the result of an opening
abbrev pub opening_answer : PortCall → Option Bool
opening_answer (Open at done) = Some done
opening_answer (Close at taken sent) = None

-- the results of the openings among these calls, in order
abbrev pub opening_answers : List PortCall → List Bool
opening_answers calls = filter_map opening_answer calls

-- ports are opened with these results, in order; others may be closed in between
abbrev pub OpensWith : List Bool → List PortCall → Type 0
OpensWith answers calls = opening_answers calls ≡ answers

-- none is opened
abbrev pub NoneOpened : List PortCall → Type 0
NoneOpened calls = opening_answers calls ≡ []

abbrev pub is_opening : PortCall → Bool
is_opening (Open at done) = true
is_opening (Close at taken sent) = false

-- the openings among these calls, in order
abbrev pub opening_calls : List PortCall → List PortCall
opening_calls calls = filter is_opening calls

-- the openings among the calls are these, in order
abbrev pub OpensThese : (opens : List PortCall) → List PortCall → Type 0
OpensThese opens calls = opening_calls calls ≡ opens

-- Ports are opened with these results, and others may be closed in between: those of these pairs, from the front, pair by pair and that for
-- RTP before that for RTCP, as many as there are results
pub record OpensAt (config : Config) (pairs : List ℕ) (answers : List Bool) (calls : List PortCall) : Type 0 where
  pub answered : OpensWith answers calls
  pub in_order : OpensThese (openings (pair_addresses config pairs) answers) calls
