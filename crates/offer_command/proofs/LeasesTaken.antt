-- What is known of the leases that an offer took, by what is shown of the board before it.
use Rattle.std.proofs.Common.{◌≡◌, ◌∙◌, sym, ap, subst, false, ℕ, ◌+◌, ◌≤◌, ◌^◌, List, Option, length, arith}
use Rattle.std.proofs.lemmas.List.{length-map}
use Rattle.relay_outside.specs.declared.settings.Config.{Config}
use Rattle.relay_outside.specs.declared.ports.PortCall.{PortCall}
use Rattle.relay_outside.specs.DeviceLogs.{Gained, WhereLogged}
use Rattle.port_pool.specs.Ports.{pair_count, pairs_of_family}
use Rattle.port_pool.specs.Pools.{AreFree, generation}
use Rattle.port_pool.specs.declared.pairs.Lease.{Lease}
use Rattle.media_ports.specs.Addresses.{addresses_of, AreLeased}
use Rattle.media_ports.specs.Calls.{OpensPairs, NoneOpen}
use Rattle.media_ports.specs.OpenPorts.{OpensHeld, LogsHeld, HasBoth}
use Rattle.media_ports.proofs.Telling.{told_less}
use Rattle.media_ports.proofs.Held.{others_closed, told_opened}
use Rattle.offer_answer.specs.Offers.{leg_asked, legs_demanded}
use Rattle.call_board.specs.declared.board.Board.{Board}
use Rattle.call_board.specs.declared.board_plan.BoardPlan.{BoardPlan}
use Rattle.call_board.specs.Pairs.{is_short}
use Rattle.call_board.specs.Plans.{HasRoomForPlan}
use Rattle.call_board.specs.Views.{View, with_leases, with_returned}
use Rattle.call_board.specs.Boards.{BoardMatches, lease_at, leases_at, pairs_in, AreOut}
use Rattle.call_board.proofs.Outs.{lease_pairs}
use Rattle.offer_command.specs.declared.lease.LeaseFault.{LeaseFault}
use Rattle.offer_command.specs.declared.lease.LeaseFault.TheVariants.{Port, Key}
use Rattle.offer_command.specs.Leases.{CanLease, pairs_of_plan, keys_of_plan, planned_pairs, with_taken}
use Rattle.offer_command.specs.Undo.{ComesEarly, keys_before, with_undone}
use Rattle.offer_command.proofs.Fronts.{enough_kept, fronts_free, fronts_count, leases_leased, front_others, leased_out, generations_low}

-- a plan leases as many pairs as it demands
pub planned_count : (config : Config) (board : Board) (v : View) (p : BoardPlan) → BoardMatches config board v → HasRoomForPlan board p → length (planned_pairs config v p) ≡ pairs_of_plan p
planned_count config board v p shows room =
    fronts_count config v (legs_demanded p.plan) (enough_kept config board v (legs_demanded p.plan) shows room.pairs) ∙ length-map p.plan.legs.items leg_asked

-- the leases that it takes, by the view that it may be leased with
abbrev leases_planned : (config : Config) (board : Board) (log : Option (List PortCall)) (p : BoardPlan) → CanLease config board log p → List Lease
leases_planned config board log p can = leases_at config can.view (planned_pairs config can.view p)

planned_free : (config : Config) (board : Board) (log : Option (List PortCall)) (p : BoardPlan) → (can : CanLease config board log p) → AreFree (pair_count config) (planned_pairs config can.view p)
planned_free config board log p can = fronts_free config can.view (legs_demanded p.plan) can.are_free

planned_leased : (config : Config) (board : Board) (log : Option (List PortCall)) (p : BoardPlan) → (can : CanLease config board log p) → AreLeased config (leases_planned config board log p can)
planned_leased config board log p can = leases_leased config can.view (planned_pairs config can.view p) (planned_free config board log p can)

-- the leases are as many as the plan demands
pub taken_count : (config : Config) (board : Board) (log : Option (List PortCall)) (p : BoardPlan) (leases : List Lease) → (can : CanLease config board log p) →
    leases ≡ leases_at config can.view (planned_pairs config can.view p) → length leases ≡ pairs_of_plan p
taken_count config board log p leases can is =
    ap length is
    ∙ length-map (planned_pairs config can.view p) (lease_at config can.view.leases)
    ∙ planned_count config board can.view p can.shows can.room

-- they are of different pairs of the configuration
pub taken_of_pairs : (config : Config) (board : Board) (log : Option (List PortCall)) (p : BoardPlan) (leases : List Lease) → (can : CanLease config board log p) →
    leases ≡ leases_at config can.view (planned_pairs config can.view p) → AreLeased config leases
taken_of_pairs config board log p leases can is = subst (AreLeased config) (sym is) (planned_leased config board log p can)

-- none of their ports is open
pub taken_closed : (config : Config) (board : Board) (log : Option (List PortCall)) (p : BoardPlan) (leases : List Lease) → (can : CanLease config board log p) →
    leases ≡ leases_at config can.view (planned_pairs config can.view p) → WhereLogged log (NoneOpen (addresses_of config leases))
taken_closed config board log p leases can is =
    let those = leases_planned config board log p can in
    subst (λ (ls : List Lease). WhereLogged log (NoneOpen (addresses_of config ls))) (sym is)
    (told_less log (λ calls. OpensHeld config calls can.held) (NoneOpen (addresses_of config those))
    (λ calls held. others_closed config calls can.held those held (planned_leased config board log p can) (front_others config can.view (legs_demanded p.plan) can.held can.apart))
    can.opens)

-- their ports are open besides those that were
pub taken_open : (config : Config) (board : Board) (log new : Option (List PortCall)) (p : BoardPlan) (leases : List Lease) (held now : List ℕ) → (can : CanLease config board log p) →
    leases ≡ leases_at config can.view (planned_pairs config can.view p) → Gained log new (OpensPairs config leases) → LogsHeld config log held → HasBoth held (pairs_in leases) now → LogsHeld config new now
taken_open config board log new p leases held now can is opens tells both =
    told_opened config log new held now leases can.families tells (taken_of_pairs config board log p leases can is) opens both

pub taken_generations : (config : Config) (board : Board) (log : Option (List PortCall)) (p : BoardPlan) (pair : ℕ) → (can : CanLease config board log p) →
    generation board.pool pair + pairs_of_plan p ≤ 2 ^ 63
taken_generations config board log p pair can = generations_low config board can.view pair (pairs_of_plan p) can.shows (can.generations pair)

-- `count` keys may be numbered once the pairs are leased
pub taken_draws : (config : Config) (board after : Board) (log : Option (List PortCall)) (p : BoardPlan) (count : ℕ) → (can : CanLease config board log p) →
    BoardMatches config after (with_leases can.view (planned_pairs config can.view p)) → count ≤ keys_of_plan p → (config : Config) × (v : View) × BoardMatches config after v × (v.drawn + count ≤ 2 ^ 63)
taken_draws config board after log p count can shows few =
    (config, with_leases can.view (planned_pairs config can.view p), shows, (let low = can.draws in omega (arith, low, few)))

-- no more keys are drawn before a fault than are demanded
pub few_before : (pairs keys : ℕ) (fault : LeaseFault) → ComesEarly pairs keys fault → length (keys_before fault) ≤ keys
few_before pairs keys (Port opened) early = omega arith
few_before pairs keys (Key drawn) early = let e = early in omega (arith, e)

-- the leases may be given back
pub taken_out : (config : Config) (board after : Board) (log : Option (List PortCall)) (p : BoardPlan) (leases : List Lease) (keys : ℕ) → (can : CanLease config board log p) →
    leases ≡ leases_at config can.view (planned_pairs config can.view p) → BoardMatches config after (with_taken can.view (planned_pairs config can.view p) keys) → AreOut after.pool leases
taken_out config board after log p leases keys can is shows =
    subst (λ (ls : List Lease). AreOut after.pool ls) (sym is) (leased_out config after can.view (planned_pairs config can.view p) keys (planned_free config board log p can) shows)

-- what the board keeps then
pub undone_is : (config : Config) (board : Board) (v : View) (leases : List Lease) (pairs : List ℕ) (keys : ℕ) → leases ≡ leases_at config v pairs →
    BoardMatches config board (with_returned (with_taken v pairs keys) (pairs_in leases)) → BoardMatches config board (with_undone v pairs keys)
undone_is config board v leases pairs keys is shows =
    subst (λ (ps : List ℕ). BoardMatches config board (with_returned (with_taken v pairs keys) ps)) (ap pairs_in is ∙ lease_pairs config v.leases pairs) shows
