-- The ports of an offer that is undone: all are opened, and closed again.
use Rattle.std.proofs.Common.{◌≡◌, ◌∙◌, ap, sym, subst, true, List, ◌++◌, inl, inr, Option, Some, None, length, replicate, append_assoc}
use Rattle.std.specs.List.{AllZip}
use Rattle.relay_outside.specs.declared.address.Addr.{Addr}
use Rattle.relay_outside.specs.declared.ports.PortCall.{PortCall}
use Rattle.relay_outside.specs.declared.settings.Config.{Config}
use Rattle.relay_outside.specs.Ports.{IsOpen}
use Rattle.relay_outside.specs.DeviceLogs.{Gained, WhereLogged}
use Rattle.relay_outside.proofs.Telling.{gained_both, gained_less}
use Rattle.port_pool.specs.declared.pairs.Lease.{Lease}
use Rattle.std.specs.Prelude.{ℕ}
use Rattle.media_ports.specs.Addresses.{addresses_of, AreLeased}
use Rattle.media_ports.specs.Calls.{openings, OpensPairs, ClosesUncalled, NoneOpen, SameOpen, WhereBothLogged}
use Rattle.media_ports.specs.ReturnedEnds.{GivesBackUncalled}
use Rattle.media_ports.specs.OpenPorts.{LogsHeld}
use Rattle.media_ports.proofs.Telling.{both_told_where}
use Rattle.media_ports.proofs.Closed.{closes_uncalled, still_open, open_among, open_since, open_beside, not_open}
use Rattle.media_ports.proofs.Leased.{all_from_pairs}
use Rattle.media_ports.proofs.Held.{held_same}
use Rattle.media_ports.proofs.Given.{AreOfPairs, leased_of_pairs, uncalled_both, opened_uncalled, closed_uncalled, pairs_uncalled, upto_uncalled}
use Rattle.offer_command.specs.declared.lease.LeaseFault.{LeaseFault}
use Rattle.offer_command.specs.declared.lease.LeaseFault.TheVariants.{Port, Key}
use Rattle.offer_command.specs.Undo.{OpensAndCloses, UndoesPorts}

pub gained_closed : (config : Config) (leases : List Lease) (old mid new : Option (List PortCall)) → Gained old mid (OpensPairs config leases) →
    Gained mid new (AllZip ClosesUncalled (addresses_of config leases)) → Gained old new (OpensAndCloses (addresses_of config leases))
gained_closed config leases old mid new opens closes =
    gained_both old mid new (OpensPairs config leases) (AllZip ClosesUncalled (addresses_of config leases)) (OpensAndCloses (addresses_of config leases))
    (λ xs ys these those. record { closes = ys; opens = ap (λ (calls : List PortCall). calls ++ ys) (all_from_pairs config leases xs these); closed = those }) opens closes

-- the same addresses are open as before
same_open : (ats : List Addr) (before more : List PortCall) → NoneOpen ats before → OpensAndCloses ats more → SameOpen before (before ++ more)
same_open ats before more none undone at =
    let answers = replicate (length ats) true in
    let opens = openings ats answers in
    let all : before ++ more ≡ (before ++ opens) ++ undone.closes = ap (λ (calls : List PortCall). before ++ calls) undone.opens ∙ sym (append_assoc before opens undone.closes) in
    let closed = closes_uncalled ats undone.closes undone.closed in (
      λ o.
          let since = open_since ats undone.closes (before ++ opens) at closed (subst (λ (calls : List PortCall). IsOpen calls at) all o) in
          elim (open_among ats answers before at since.0) [ inl was ↦ was | inr among ↦ absurd (since.1 among) ],
      λ o.
          let still = still_open ats answers before at o in
          subst (λ (calls : List PortCall). IsOpen calls at) (sym all)
          (open_beside ats undone.closes (before ++ opens) at closed (λ among. not_open ats before at none among o) still),
    )

pub same_after : (ats : List Addr) (old new : Option (List PortCall)) → WhereLogged old (NoneOpen ats) → Gained old new (OpensAndCloses ats) → WhereBothLogged old new SameOpen
same_after ats old new none undone =
    both_told_where old new (OpensAndCloses ats) (NoneOpen ats) SameOpen (λ before more closed these. same_open ats before more closed these) none undone

-- where the same ports are open they are those of the same pairs
pub held_after : (config : Config) (old new : Option (List PortCall)) (P : List PortCall → Type 0) (pairs : List ℕ) → Gained old new P → WhereBothLogged old new SameOpen →
    LogsHeld config old pairs → LogsHeld config new pairs
held_after config old None P pairs gained same held = tt
held_after config None (Some now) P pairs gained same held = absurd gained
held_after config (Some before) (Some now) P pairs gained same held = held_same config before now pairs held same

-- What is given back has not been called.

undone_uncalled : (config : Config) (ats : List Addr) (fault : LeaseFault) (calls : List PortCall) → AreOfPairs config ats → UndoesPorts ats fault calls → GivesBackUncalled config calls
undone_uncalled config ats (Port opened) calls are undone = upto_uncalled config ats opened calls are undone
undone_uncalled config ats (Key drawn) calls are undone =
    subst (GivesBackUncalled config) (sym undone.opens)
    (uncalled_both config (openings ats (replicate (length ats) true)) undone.closes (opened_uncalled config ats (replicate (length ats) true) are)
    (closed_uncalled config ats undone.closes are undone.closed))

pub gained_pairs_uncalled : (config : Config) (leases : List Lease) (old new : Option (List PortCall)) → AreLeased config leases → Gained old new (OpensPairs config leases) →
    Gained old new (GivesBackUncalled config)
gained_pairs_uncalled config leases old new leased opens =
    gained_less old new (OpensPairs config leases) (GivesBackUncalled config) (λ calls these. pairs_uncalled config leases calls leased these) opens

pub gained_undone_uncalled : (config : Config) (leases : List Lease) (fault : LeaseFault) (old new : Option (List PortCall)) → AreLeased config leases →
    Gained old new (UndoesPorts (addresses_of config leases) fault) → Gained old new (GivesBackUncalled config)
gained_undone_uncalled config leases fault old new leased undone =
    let ats = addresses_of config leases in
    gained_less old new (UndoesPorts ats fault) (GivesBackUncalled config) (λ calls these. undone_uncalled config ats fault calls (leased_of_pairs config leases leased) these) undone
