-- The openings that an offer asks for: those of the ports of the pairs that it leases.
use Rattle.std.proofs.Common.{◌≡◌, ◌∙◌, sym, ap, refl, ℕ, ◌+◌, ◌*◌, ◌≤◌, Bool, true, false, List, [], ◌∷◌, ◌++◌, Option, length, take, replicate, append-nil, arith}
use Rattle.std.proofs.lemmas.List.{length-append, length-replicate, take_all}
use Rattle.relay_outside.specs.declared.ports.PortCall.{PortCall}
use Rattle.relay_outside.specs.declared.settings.Config.{Config}
use Rattle.relay_outside.specs.DeviceLogs.{Gained}
use Rattle.relay_outside.proofs.Telling.{gained_less}
use Rattle.port_pool.specs.declared.pairs.Lease.{Lease}
use Rattle.media_ports.specs.Addresses.{addresses_of, pairs_of_leases}
use Rattle.media_ports.specs.Openings.{NoneOpened, OpensAt}
use Rattle.media_ports.specs.Calls.{openings, OpensPairs}
use Rattle.media_ports.proofs.Asked.{opens_front, uncalled_opens_none}
use Rattle.media_ports.proofs.Leased.{length-addresses_of}
use Rattle.offer_command.specs.declared.lease.LeaseFault.{LeaseFault}
use Rattle.offer_command.specs.declared.lease.LeaseFault.TheVariants.{Port, Key}
use Rattle.offer_command.specs.Undo.{ComesEarly, UndoesPorts, opens_before}

module _ (config : Config) (pairs : List ℕ) (count : ℕ) (leases : List Lease) (are : pairs_of_leases leases ≡ pairs) (many : length leases ≡ count) where
  -- openings of their ports, as many as there are results, and then calls that open none
  leased_opened : (answers : List Bool) (closes calls : List PortCall) → length answers ≤ 2 * count → calls ≡ openings (addresses_of config leases) answers ++ closes →
      NoneOpened closes → OpensAt config pairs answers calls
  leased_opened answers closes calls few opens none =
      opens_front config pairs (length pairs) leases answers closes calls (are ∙ sym (take_all (length pairs) pairs (omega arith))) (omega (arith, few, many)) opens none

  -- all of their ports
  pub gained_pairs : (old new : Option (List PortCall)) → Gained old new (OpensPairs config leases) → Gained old new (OpensAt config pairs (replicate (2 * count) true))
  gained_pairs old new opens =
      let ats = addresses_of config leases in
      let all = replicate (2 * count) true in
      gained_less old new (OpensPairs config leases) (OpensAt config pairs all)
      (λ calls these. leased_opened all [] calls (omega (arith, length-replicate (2 * count) true))
      (these ∙ ap (λ (n : ℕ). openings ats (replicate (2 * n) true)) many ∙ sym (append-nil (openings ats all))) refl) opens

  undone_opened : (keys : ℕ) (fault : LeaseFault) (calls : List PortCall) → ComesEarly count keys fault → UndoesPorts (addresses_of config leases) fault calls →
      OpensAt config pairs (opens_before count fault) calls
  undone_opened keys (Port opened) calls early undone =
      let answers = replicate opened true ++ false ∷ [] in
      let ats = addresses_of config leases in
      let length_is : length answers ≡ opened + 1 = length-append (replicate opened true) (false ∷ []) ∙ ap (λ (n : ℕ). n + 1) (length-replicate opened true) in
      leased_opened answers undone.closes calls (omega (arith, length_is, early)) undone.then_fails (uncalled_opens_none (take opened ats) undone.closes undone.closed)
  undone_opened keys (Key drawn) calls early undone =
      let ats = addresses_of config leases in
      let all = replicate (2 * count) true in
      let length_is : length ats ≡ 2 * count = length-addresses_of config leases ∙ ap (λ (n : ℕ). 2 * n) many in
      leased_opened all undone.closes calls (omega (arith, length-replicate (2 * count) true))
      (undone.opens ∙ ap (λ (n : ℕ). openings ats (replicate n true) ++ undone.closes) length_is) (uncalled_opens_none ats undone.closes undone.closed)

  -- those before the fault
  pub gained_undone : (keys : ℕ) (fault : LeaseFault) (old new : Option (List PortCall)) → ComesEarly count keys fault →
      Gained old new (UndoesPorts (addresses_of config leases) fault) → Gained old new (OpensAt config pairs (opens_before count fault))
  gained_undone keys fault old new early undone =
      gained_less old new (UndoesPorts (addresses_of config leases) fault) (OpensAt config pairs (opens_before count fault))
      (λ calls these. undone_opened keys fault calls early these) undone
