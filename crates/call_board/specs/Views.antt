-- What the board keeps of its history.
use Rattle.std.specs.Prelude.{ℕ, ◌+◌, ◌==◌, max, Bool, not, List, [], ◌∷◌, ◌++◌, map, length, filter, count_by, Option, Some, if◌then◌else◌}
use Rattle.std.specs.Str.{bytes_eq}
use Rattle.relay_outside.specs.declared.settings.Config.{Config}
use Rattle.histories.specs.Words.{first, greatest, has}
use Rattle.cookie_cache.specs.Keepings.{Keeping}
use Rattle.offer_answer.specs.Rounds.{Round}
use Rattle.call_board.specs.Acts.{Call, BoardEntry}
use Rattle.call_board.specs.Calls.{begun, live, rounds, due_moment, sooner, first_moment, latest_moment}
use Rattle.call_board.specs.Pairs.{free, all_leased, drawn}
use Rattle.call_board.specs.KeptReplies.{keepings}

-- a live call: its accepted offers and answers, the moments of the first and of the last of them, and its due moment if it is
-- ending
pub record CallView : Type 0 where
  pub of : Call
  pub rounds : List Round
  pub first : ℕ
  pub last : ℕ
  pub due : Option ℕ

-- The greatest moment; how many calls were begun and keys drawn; the live calls in order of creation; the free pairs, the next
-- to be leased in front; how often each pair was leased; and the kept replies, latest first
pub record View : Type 0 where
  pub moment : ℕ
  pub begun : ℕ
  pub drawn : ℕ
  pub calls : List CallView
  pub free : List ℕ
  pub leases : ℕ → ℕ
  pub keepings : List Keeping

abbrev pub call_view : List BoardEntry → Call → CallView
call_view h c =
    record { of = c; rounds = rounds h c.number; first = first_moment h c.number; last = latest_moment h c.number; due = due_moment h c.number }

-- the greatest moment of a history, at first 0
abbrev pub board_last_moment : List BoardEntry → ℕ
board_last_moment h = greatest (map (λ (e : BoardEntry). e.moment) h)

-- how often a history leased a pair
abbrev pub times_leased : List BoardEntry → ℕ → ℕ
times_leased h pair = count_by (λ p. p == pair) (all_leased h)

-- what there is to keep of a history
abbrev pub view_of : Config → List BoardEntry → View
view_of config h = record {
  moment = board_last_moment h;
  begun = length (begun h);
  drawn = length (drawn h);
  calls = map (call_view h) (live h);
  free = free config h;
  leases = times_leased h;
  keepings = keepings h;
}

-- What the calls of the board change of it.

abbrev pub view_at_moment : View → ℕ → View
view_at_moment v now = record { moment = max now v.moment; begun = v.begun; drawn = v.drawn; calls = v.calls; free = v.free; leases = v.leases; keepings = v.keepings }

abbrev pub with_keeping : View → Keeping → View
with_keeping v k = record { moment = v.moment; begun = v.begun; drawn = v.drawn; calls = v.calls; free = v.free; leases = v.leases; keepings = k ∷ v.keepings }

abbrev pub one_drawn : View → View
one_drawn v = record { moment = v.moment; begun = v.begun; drawn = v.drawn + 1; calls = v.calls; free = v.free; leases = v.leases; keepings = v.keepings }

abbrev pub with_calls : View → List CallView → View
with_calls v calls = record { moment = v.moment; begun = v.begun; drawn = v.drawn; calls = calls; free = v.free; leases = v.leases; keepings = v.keepings }

-- one more call was begun
abbrev pub with_new_call : View → CallView → View
with_new_call v c =
    record { moment = v.moment; begun = v.begun + 1; drawn = v.drawn; calls = v.calls ++ c ∷ []; free = v.free; leases = v.leases; keepings = v.keepings }

-- these pairs were leased
abbrev pub with_leases : View → List ℕ → View
with_leases v pairs = record {
  moment = v.moment;
  begun = v.begun;
  drawn = v.drawn;
  calls = v.calls;
  free = filter (λ p. not (has pairs p)) v.free;
  leases = λ pair. v.leases pair + count_by (λ p. p == pair) pairs;
  keepings = v.keepings;
}

-- these pairs were given back, in this order
abbrev pub with_returned : View → List ℕ → View
with_returned v pairs =
    record { moment = v.moment; begun = v.begun; drawn = v.drawn; calls = v.calls; free = v.free ++ pairs; leases = v.leases; keepings = v.keepings }

-- What is asked of it.

abbrev pub is_of_id : List ℕ → CallView → Bool
is_of_id id c = bytes_eq c.of.id id

abbrev pub is_call_numbered : ℕ → CallView → Bool
is_call_numbered number c = c.of.number == number

-- the live call of this call-id
abbrev pub call_of_id : View → List ℕ → Option CallView
call_of_id v id = first (filter (is_of_id id) v.calls)

-- the live call of this number
abbrev pub call_numbered : View → ℕ → Option CallView
call_numbered v number = first (filter (is_call_numbered number) v.calls)

-- the calls without the first of this number
abbrev pub without : ℕ → List CallView → List CallView
without number [] = []
without number (c ∷ calls) = if is_call_numbered number c then calls else c ∷ without number calls

abbrev pub without_call : View → ℕ → View
without_call v number = with_calls v (without number v.calls)

-- one more accepted offer or answer of a call, at this moment
abbrev pub with_round : Round → ℕ → CallView → CallView
with_round round now c = record { of = c.of; rounds = round ∷ c.rounds; first = c.first; last = now; due = c.due }

-- the first call of this number is changed so
abbrev pub change_call : ℕ → (CallView → CallView) → List CallView → List CallView
change_call number change [] = []
change_call number change (c ∷ calls) = if is_call_numbered number c then change c ∷ calls else c ∷ change_call number change calls

-- the first call of this number has that round
abbrev pub goes_on : ℕ → Round → ℕ → List CallView → List CallView
goes_on number round now calls = change_call number (with_round round now) calls

-- a call that is to end at this moment, or earlier if that is due
abbrev pub with_due : ℕ → CallView → CallView
with_due moment c = record { of = c.of; rounds = c.rounds; first = c.first; last = c.last; due = Some (sooner moment c.due) }

-- the first call of this number is to end then
abbrev pub ends_by : ℕ → ℕ → List CallView → List CallView
ends_by number moment calls = change_call number (with_due moment) calls
