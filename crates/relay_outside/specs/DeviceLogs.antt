-- The log of a device, and when its count of faults rises.
-- A log is `Some` list of the device's calls, each with its answer, or `None` where the device keeps none (any more).
use Rattle.relay_outside.specs.declared.address.Addr.{Addr}
use Rattle.std.specs.Prelude.{◌≡◌, ℕ, ◌+◌, ◌-◌, ◌^◌, ◌≤◌, min, Bool, true, false, Option, Some, None, Result, Ok, Err, OnErr, List, [], ◌∷◌, ◌++◌}

-- the calls, where the device logs them
abbrev pub where_logged : {C : Type 0} → Bool → List C → Option (List C)
where_logged true calls = Some calls
where_logged false calls = None

-- of a device that still logs: its log is the earlier one with this call appended.
-- One that stopped says nothing, and never logs again
abbrev pub Gains : {C : Type 0} → Option (List C) → Option (List C) → C → Type 0
Gains old None call = Unit {0}
Gains None (Some new) call = ⊥
Gains (Some old) (Some new) call = new ≡ old ++ call ∷ []

-- the same of several calls, of which P holds
abbrev pub Gained : {C : Type 0} → Option (List C) → Option (List C) → (List C → Type 0) → Type 0
Gained old None P = Unit {0}
Gained None (Some new) P = ⊥
Gained (Some old) (Some new) P = (more : List _) × (new ≡ old ++ more) × P more

-- a device that was just opened, where it keeps a log, has not been called
abbrev pub StartsEmpty : {C : Type 0} → Option (List C) → Type 0
StartsEmpty None = Unit {0}
StartsEmpty (Some calls) = calls ≡ []

-- the log of an end of a port: the address that it was opened for, and its calls since then, where it logs them
pub record EndLog (C : Type 0) : Type 0 where
  pub at : Addr
  pub calls : Option (List C)

-- the end of the same address gained this call
pub record EndGains {C : Type 0} (old new : EndLog C) (call : C) : Type 0 where
  pub same : new.at ≡ old.at
  pub gains : Gains old.calls new.calls call

-- an end that was just opened for the address: where it logs its calls, it has not been called
pub record IsOpenedFor {C : Type 0} (at : Addr) (log : EndLog C) : Type 0 where
  pub at_is : log.at ≡ at
  pub uncalled : StartsEmpty log.calls

-- the log of an end that was just opened for the address, and keeps one
abbrev pub opened_for : {C : Type 0} → Addr → EndLog C
opened_for at = record { at = at; calls = Some [] }

-- what holds of the log, where there is one
abbrev pub WhereLogged : {C : Type 0} → Option (List C) → (List C → Type 0) → Type 0
WhereLogged None P = Unit {0}
WhereLogged (Some calls) P = P calls

-- whether the call returned Ok
abbrev pub is_done : {T E : Type 0} → Result T E → Bool
is_done (Ok value) = true
is_done (Err error) = false

-- the count of faults rose; one that stands at its end, 2 ^ 64 - 1, counts as risen
abbrev pub Rose : ℕ → ℕ → Type 0
Rose before now = min (before + 1) (2 ^ 64 - 1) ≤ now

-- the count never falls, and a fault is returned only where it rose
pub record HasCause {T E : Type 0} (before now : ℕ) (result : Result T E) : Type 0 where
  pub later : before ≤ now
  pub failed : OnErr result (Rose before now)

-- a moment between the least and the greatest, where these are known
abbrev pub WhereInRange : Option (ℕ × ℕ) → ℕ → Type 0
WhereInRange None moment = Unit {0}
WhereInRange (Some range) moment = (range.0 ≤ moment) × (moment ≤ range.1)
