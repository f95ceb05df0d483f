-- The calls: which are live, in which cells, which of them are ending, and their accepted offers and answers.
use Rattle.std.specs.Prelude.{ℕ, ◌+◌, ◌*◌, ◌-◌, ◌^◌, min, nat_le, Bool, false, not, ◌==◌, List, [], ◌∷◌, ◌++◌, map, length, Option, Some, None, is_some, filter, if◌then◌else◌}
use Rattle.std.specs.List.{list_any, flat_map}
use Rattle.std.specs.Str.{bytes_eq}
use Rattle.histories.specs.Words.{first, final, has, greatest, numbers}
use Rattle.offer_answer.specs.Rounds.{Round}
use Rattle.offer_answer.specs.Rounds as round
use Rattle.call_board.specs.Acts.{Call, Act, Offered, Answered, Deleted, Delayed, BoardEvent, Turn, Tick, Stop, BoardEntry, act}

-- the call that the entry began
abbrev pub begun_by_act : Act → List Call
begun_by_act (Offered o) = if o.begins then o.of ∷ [] else []
begun_by_act _ = []

-- the calls that the entry ended
abbrev pub ended_by_act : Act → List Call
ended_by_act (Deleted of) = of ∷ []
ended_by_act _ = []

abbrev pub ended_in : BoardEvent → List Call
ended_in (Turn c) = ended_by_act c.act
ended_in (Tick calls) = calls
ended_in (Stop calls) = calls

abbrev pub ended_by : BoardEntry → List Call
ended_by e = ended_in e.event

-- all calls that were begun, in order
abbrev pub begun : List BoardEntry → List Call
begun [] = []
begun (e ∷ h) = begun h ++ begun_by_act (act e)

abbrev pub has_ended : List BoardEntry → Call → Bool
has_ended h c = list_any (λ e. has (map (λ d. d.number) (ended_by e)) c.number) h

-- the calls that were begun and have not ended, in order
abbrev pub live : List BoardEntry → List Call
live h = filter (λ c. not (has_ended h c)) (begun h)

-- the live call of this call-id
abbrev pub find_call : List BoardEntry → List ℕ → Option Call
find_call h id = first (filter (λ c. bytes_eq c.id id) (live h))

-- Calls that are ending: a delete with a delay found them.

-- when a call ends that a delete with a delay of so many seconds finds at this moment, at most 2^64 - 1
abbrev pub due_after : ℕ → ℕ → ℕ
due_after moment seconds = min (2 ^ 64 - 1) (moment + 1000 * seconds)

abbrev pub dues_by_act : ℕ → ℕ → Act → List ℕ
dues_by_act number moment (Delayed of seconds) = if of.number == number then due_after moment seconds ∷ [] else []
dues_by_act number moment _ = []

-- the moments at which the deletes with a delay that found the call have it end, latest delete first
abbrev pub dues : List BoardEntry → ℕ → List ℕ
dues h number = flat_map (λ e. dues_by_act number e.moment (act e)) h

abbrev pub sooner : ℕ → Option ℕ → ℕ
sooner n None = n
sooner n (Some m) = min n m

abbrev pub least : List ℕ → Option ℕ
least [] = None
least (n ∷ ns) = Some (sooner n (least ns))

-- the due moment of a call that is ending: the earliest of these
abbrev pub due_moment : List BoardEntry → ℕ → Option ℕ
due_moment h number = least (dues h number)

abbrev pub is_ending : List BoardEntry → ℕ → Bool
is_ending h number = is_some (due_moment h number)

-- there is a call, and it is ending
abbrev pub is_call_ending : List BoardEntry → Option Call → Bool
is_call_ending h None = false
is_call_ending h (Some of) = is_ending h of.number

-- the due moment is there, and has come
abbrev pub is_due_by : ℕ → Option ℕ → Bool
is_due_by now None = false
is_due_by now (Some moment) = nat_le moment now

abbrev pub is_due_at : List BoardEntry → ℕ → ℕ → Bool
is_due_at h number now = is_due_by now (due_moment h number)

-- New calls.

abbrev pub number_or_zero : Option ℕ → ℕ
number_or_zero None = 0
number_or_zero (Some n) = n

-- the lowest number from 1 on that does not stand in the list
abbrev pub lowest_but : List ℕ → ℕ
lowest_but taken = number_or_zero (first (filter (λ n. not (has taken n)) (numbers 1 (greatest taken + 1))))

-- The call that an offer of that call-id begins: its number counts the calls that were begun before it, its cell is the
-- lowest that no live call has
abbrev pub new_call : List BoardEntry → List ℕ → Call
new_call h id = record { number = length (begun h); cell = lowest_but (map (λ c. c.cell) (live h)); id = id }

abbrev pub round_of : ℕ → Act → List Round
round_of number (Offered o) = if o.of.number == number then round.Offered o.ask o.legs o.keys ∷ [] else []
round_of number (Answered a) = if a.of.number == number then round.Answered a.ask ∷ [] else []
round_of number _ = []

-- the accepted offers and answers of the call, latest first
abbrev pub rounds : List BoardEntry → ℕ → List Round
rounds h number = flat_map (λ e. round_of number (act e)) h

-- the rounds before an offer of that call-id
abbrev pub rounds_of_call : List BoardEntry → Option Call → List Round
rounds_of_call h None = []
rounds_of_call h (Some of) = rounds h of.number

abbrev pub is_round : ℕ → Act → Bool
is_round number (Offered o) = o.of.number == number
is_round number (Answered a) = a.of.number == number
is_round number _ = false

abbrev pub moment_or_zero : Option BoardEntry → ℕ
moment_or_zero None = 0
moment_or_zero (Some e) = e.moment

-- the moments of the call's first and of its last accepted offer or answer
abbrev pub first_moment : List BoardEntry → ℕ → ℕ
first_moment h number = moment_or_zero (final (filter (λ e. is_round number (act e)) h))

abbrev pub latest_moment : List BoardEntry → ℕ → ℕ
latest_moment h number = moment_or_zero (first (filter (λ e. is_round number (act e)) h))
