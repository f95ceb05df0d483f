-- What a datagram with an error as its reply leaves as it was.
use Rattle.std.specs.Prelude.{◌≡◌, ℕ, Bool, true, false, List, ◌∷◌, ◌++◌}
use Rattle.relay_outside.specs.declared.settings.Config.{Config}
use Rattle.histories.specs.Words.{In}
use Rattle.call_board.specs.Acts as act
use Rattle.call_board.specs.Acts.{Act, BoardEntry}
use Rattle.call_board.specs.Calls.{live, rounds, due_moment}
use Rattle.call_board.specs.Pairs.{held, free, drawn}

-- an error that comes before anything is leased, out of memory among them, and what else changes nothing: a repeat, a ping, a
-- delete that finds no call
abbrev pub is_idle : Act → Bool
is_idle act.Repeated = true
is_idle act.OutOfMemory = true
is_idle (act.Failed code) = true
is_idle (act.Queried of) = true
is_idle act.Told = true
is_idle _ = false

-- the calls, their accepted offers and answers, when they are due, the pairs and the keys are as before the entry
pub record LeavesAll (config : Config) (e : BoardEntry) (h : List BoardEntry) : Type 0 where
  pub same_live : live (e ∷ h) ≡ live h
  pub same_rounds : (n : ℕ) → rounds (e ∷ h) n ≡ rounds h n
  pub same_due : (n : ℕ) → due_moment (e ∷ h) n ≡ due_moment h n
  pub same_held : held (e ∷ h) ≡ held h
  pub same_free : free config (e ∷ h) ≡ free config h
  pub same_drawn : drawn (e ∷ h) ≡ drawn h

-- the calls and the held pairs are as before, the same pairs are free, and these keys are used up
pub record LeavesCalls (config : Config) (e : BoardEntry) (h : List BoardEntry) (draws : List (List ℕ)) : Type 0 where
  pub same_live : live (e ∷ h) ≡ live h
  pub same_rounds : (n : ℕ) → rounds (e ∷ h) n ≡ rounds h n
  pub same_due : (n : ℕ) → due_moment (e ∷ h) n ≡ due_moment h n
  pub same_held : held (e ∷ h) ≡ held h
  pub still_free : (p : ℕ) → In p (free config h) → In p (free config (e ∷ h))
  pub free_before : (p : ℕ) → In p (free config (e ∷ h)) → In p (free config h)
  pub draws_are_used : drawn (e ∷ h) ≡ drawn h ++ draws
