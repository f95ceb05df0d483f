use Rattle.std.proofs.Common.{◌≡◌, ◌∙◌, ◌≤◌, ◌<◌, ◌^◌, ap, sym, subst, ℕ, List, length, arith}
use Rattle.std.specs.Prelude.{vec_capacity}
use Rattle.port_pool.specs.declared.pairs.Lease.{Lease}
use Rattle.relay_outside.specs.DeviceLogs.{Gained}
use Rattle.media_ports.specs.Addresses.{addresses_of}
use Rattle.offer_answer.specs.Offers.{key_count, legs_demanded}
use Rattle.call_board.specs.declared.board_plan.BoardPlan.{BoardPlan}
use Rattle.call_board.specs.Views.{with_leases}
use Rattle.call_board.specs.Boards.{BoardMatches}
use Rattle.call_board.specs.Shapes.{board_shape}
use Rattle.offer_command.specs.Leases.{keys_of_plan, planned_pairs, with_taken}
use Rattle.offer_command.specs.Undo.{UndoesPorts, ComesEarly, with_undone}
use Rattle.offer_command.proofs.LeasesTaken.{taken_count, taken_closed, taken_open, taken_generations, taken_of_pairs, taken_draws, taken_out, few_before, undone_is}
use Rattle.offer_command.proofs.LeasesUndone.{held_after, gained_pairs_uncalled, gained_undone_uncalled}
use Rattle.offer_command.proofs.WholenessPlans.{takes_drawn, undoes_drawn}
use Rattle.offer_command.proofs.lease.lease_offer.Goals as goal

pub lease-leases-requires-clause-generations : goal.lease-leases-requires-clause-generations
lease-leases-requires-clause-generations g c = λ pair.
    taken_generations c.args.config.now c.args.board.now (g.P.PortMaker.log c.args.ports.now) c.args.plan pair c.requires.can

pub open_and_draw-requires-clause-opened : goal.open_and_draw-requires-clause-opened
open_and_draw-requires-clause-opened g c =
    let can = c.requires.can in
    let is = (c.lease-leases.ensures.leases c.args.config.now can.view can.shows can.are_free).1 in
    let many = taken_count c.args.config.now c.args.board.now (g.P.PortMaker.log c.args.ports.now) c.args.plan c.lease-leases.result.list can is in
    let room = c.requires.room.opened.1 in
    (c.requires.room.opened.0, omega (arith, many, room))

pub open_and_draw-requires-clause-drawn : goal.open_and_draw-requires-clause-drawn
open_and_draw-requires-clause-drawn g c =
    let demanded : c.keys-count.result ≡ keys_of_plan c.args.plan = c.keys-count.ensures.count ∙ ap key_count (c.planned.ensures ∙ ap (λ (p : BoardPlan). p.plan) c.lease-leases.ensures.plan) in
    let room = c.requires.room.drawn.1 in
    (c.requires.room.drawn.0, omega (arith, demanded, room))

pub open_and_draw-requires-clause-families : goal.open_and_draw-requires-clause-families
open_and_draw-requires-clause-families g c = c.requires.can.families

pub open_and_draw-requires-clause-leased : goal.open_and_draw-requires-clause-leased
open_and_draw-requires-clause-leased g c =
    let can = c.requires.can in
    let is = (c.lease-leases.ensures.leases c.args.config.now can.view can.shows can.are_free).1 in
    taken_of_pairs c.args.config.now c.args.board.now (g.P.PortMaker.log c.args.ports.now) c.args.plan c.lease-leases.result.list can is

pub open_and_draw-requires-clause-closed : goal.open_and_draw-requires-clause-closed
open_and_draw-requires-clause-closed g c =
    let can = c.requires.can in
    let is = (c.lease-leases.ensures.leases c.args.config.now can.view can.shows can.are_free).1 in
    taken_closed c.args.config.now c.args.board.now (g.P.PortMaker.log c.args.ports.now) c.args.plan c.lease-leases.result.list can is

pub count_draws-requires : goal.count_draws-requires
count_draws-requires g c =
    let can = c.requires.can in
    let shows = (c.lease-leases.ensures.leases c.args.config.now can.view can.shows can.are_free).0 in
    let demanded : c.keys-count.result ≡ keys_of_plan c.args.plan = c.keys-count.ensures.count ∙ ap key_count (c.planned.ensures ∙ ap (λ (p : BoardPlan). p.plan) c.lease-leases.ensures.plan) in
    let all : length c.as_slice.result.now ≤ keys_of_plan c.args.plan = omega (arith, ap length c.as_slice.ensures, c.in-Ok.ensures.count, demanded) in
    taken_draws c.args.config.now c.args.board.now c.lease-leases.new.self (g.P.PortMaker.log c.args.ports.now) c.args.plan (length c.as_slice.result.now) can shows all

pub count_draws-requires-in-Err : goal.count_draws-requires-in-Err
count_draws-requires-in-Err g c =
    let can = c.requires.can in
    let shows = (c.lease-leases.ensures.leases c.args.config.now can.view can.shows can.are_free).0 in
    let early : ComesEarly (length c.lease-leases.result.list) c.keys-count.result c.in-Err.fault = c.in-Err.ensures.early in
    let few = few_before (length c.lease-leases.result.list) c.keys-count.result c.in-Err.fault early in
    let demanded : c.keys-count.result ≡ keys_of_plan c.args.plan = c.keys-count.ensures.count ∙ ap key_count (c.planned.ensures ∙ ap (λ (p : BoardPlan). p.plan) c.lease-leases.ensures.plan) in
    let all : c.keys.result ≤ keys_of_plan c.args.plan = omega (arith, c.keys.ensures, few, demanded) in
    taken_draws c.args.config.now c.args.board.now c.lease-leases.new.self (g.P.PortMaker.log c.args.ports.now) c.args.plan c.keys.result can shows all

pub undo_offer-requires : goal.undo_offer-requires
undo_offer-requires g c =
    let can = c.requires.can in
    let is = (c.lease-leases.ensures.leases c.args.config.now can.view can.shows can.are_free).1 in
    let shows = (c.lease-leases.ensures.leases c.args.config.now can.view can.shows can.are_free).0 in
    taken_out c.args.config.now c.args.board.now c.count_draws-in-Err.new.board (g.P.PortMaker.log c.args.ports.now) c.args.plan c.lease-leases.result.list c.keys.result can is
    (c.count_draws-in-Err.ensures.drawn c.args.config.now (with_leases can.view (planned_pairs c.args.config.now can.view c.args.plan)) shows)

pub returns-in-Ok-clause-taken : goal.returns-in-Ok-clause-taken
returns-in-Ok-clause-taken g c = λ v s free.
    let pairs = planned_pairs c.args.config.now v c.args.plan in
    let shows = (c.lease-leases.ensures.leases c.args.config.now v s free).0 in
    subst (λ (k : ℕ). BoardMatches c.args.config.now c.count_draws.new.board (with_taken v pairs k)) (ap length c.as_slice.ensures)
    (c.count_draws.ensures.drawn c.args.config.now (with_leases v pairs) shows)

pub returns-in-Ok-clause-leases : goal.returns-in-Ok-clause-leases
returns-in-Ok-clause-leases g c = λ v s free. (c.lease-leases.ensures.leases c.args.config.now v s free).1

pub returns-in-Ok-clause-pairs : goal.returns-in-Ok-clause-pairs
returns-in-Ok-clause-pairs g c =
    let can = c.requires.can in
    let is = (c.lease-leases.ensures.leases c.args.config.now can.view can.shows can.are_free).1 in
    taken_count c.args.config.now c.args.board.now (g.P.PortMaker.log c.args.ports.now) c.args.plan c.lease-leases.result.list can is

pub returns-in-Ok-clause-keys : goal.returns-in-Ok-clause-keys
returns-in-Ok-clause-keys g c =
    let demanded : c.keys-count.result ≡ keys_of_plan c.args.plan = c.keys-count.ensures.count ∙ ap key_count (c.planned.ensures ∙ ap (λ (p : BoardPlan). p.plan) c.lease-leases.ensures.plan) in
    c.in-Ok.ensures.count ∙ demanded

pub returns-in-Ok-clause-low : goal.returns-in-Ok-clause-low
returns-in-Ok-clause-low g c =
    let can = c.requires.can in
    let first = c.next_key-first_key.ensures.drawn c.args.config.now can.view can.shows in
    let draws = can.draws in
    omega (arith, first, draws)

pub returns-in-Ok-clause-are_open : goal.returns-in-Ok-clause-are_open
returns-in-Ok-clause-are_open g c = λ held now tells both.
    let can = c.requires.can in
    let is = (c.lease-leases.ensures.leases c.args.config.now can.view can.shows can.are_free).1 in
    taken_open c.args.config.now c.args.board.now (g.P.PortMaker.log c.args.ports.now) (g.P.PortMaker.log c.open_and_draw.new.ports) c.args.plan c.lease-leases.result.list held now can is c.in-Ok.ensures.opens tells both

pub returns-in-Ok-clause-first : goal.returns-in-Ok-clause-first
returns-in-Ok-clause-first g c = λ v s. c.next_key-first_key.ensures.drawn c.args.config.now v s

pub returns-in-Err-clause-undone : goal.returns-in-Err-clause-undone
returns-in-Err-clause-undone g c = λ v s free.
    let config = c.args.config.now in
    let pairs = planned_pairs config v c.args.plan in
    let leased = c.lease-leases.ensures.leases config v s free in
    let taken = c.count_draws-in-Err.ensures.drawn config (with_leases v pairs) leased.0 in
    let back = c.undo_offer.ensures.returned config (with_taken v pairs c.keys.result) taken in
    subst (λ (k : ℕ). BoardMatches config c.undo_offer.new.self (with_undone v pairs k)) c.keys.ensures
    (undone_is config c.undo_offer.new.self v c.lease-leases.result.list pairs c.keys.result leased.1 back)

pub returns-in-Err-clause-early : goal.returns-in-Err-clause-early
returns-in-Err-clause-early g c =
    let can = c.requires.can in
    let is = (c.lease-leases.ensures.leases c.args.config.now can.view can.shows can.are_free).1 in
    let many = taken_count c.args.config.now c.args.board.now (g.P.PortMaker.log c.args.ports.now) c.args.plan c.lease-leases.result.list can is in
    let demanded : c.keys-count.result ≡ keys_of_plan c.args.plan = c.keys-count.ensures.count ∙ ap key_count (c.planned.ensures ∙ ap (λ (p : BoardPlan). p.plan) c.lease-leases.ensures.plan) in
    let fault = c.in-Err.fault in
    subst (λ (n : ℕ). ComesEarly n (keys_of_plan c.args.plan) fault) many
    (subst (λ (n : ℕ). ComesEarly (length c.lease-leases.result.list) n fault) demanded c.in-Err.ensures.early)

pub returns-in-Err-clause-closes : goal.returns-in-Err-clause-closes
returns-in-Err-clause-closes g c = λ v s free.
    let config = c.args.config.now in
    let log = g.P.PortMaker.log in
    subst (λ (leases : List Lease). Gained (log c.args.ports.now) (log c.open_and_draw.new.ports) (UndoesPorts (addresses_of config leases) c.in-Err.fault)) (c.lease-leases.ensures.leases config v s free).1 c.in-Err.ensures.closes

pub returns-in-Err-clause-still_open : goal.returns-in-Err-clause-still_open
returns-in-Err-clause-still_open g c = λ held tells.
    let config = c.args.config.now in
    let log = g.P.PortMaker.log in
    held_after config (log c.args.ports.now) (log c.open_and_draw.new.ports) (UndoesPorts (addresses_of config c.lease-leases.result.list) c.in-Err.fault) held
    c.in-Err.ensures.closes c.in-Err.ensures.same tells

pub returns-in-Ok-clause-gives_back : goal.returns-in-Ok-clause-gives_back
returns-in-Ok-clause-gives_back g c =
    let can = c.requires.can in
    let config = c.args.config.now in
    let log = g.P.PortMaker.log in
    let is = (c.lease-leases.ensures.leases config can.view can.shows can.are_free).1 in
    gained_pairs_uncalled config c.lease-leases.result.list (log c.args.ports.now) (log c.open_and_draw.new.ports)
    (taken_of_pairs config c.args.board.now (log c.args.ports.now) c.args.plan c.lease-leases.result.list can is) c.in-Ok.ensures.opens

pub returns-in-Err-clause-gives_back : goal.returns-in-Err-clause-gives_back
returns-in-Err-clause-gives_back g c =
    let can = c.requires.can in
    let config = c.args.config.now in
    let log = g.P.PortMaker.log in
    let is = (c.lease-leases.ensures.leases config can.view can.shows can.are_free).1 in
    gained_undone_uncalled config c.lease-leases.result.list c.in-Err.fault (log c.args.ports.now) (log c.open_and_draw.new.ports)
    (taken_of_pairs config c.args.board.now (log c.args.ports.now) c.args.plan c.lease-leases.result.list can is) c.in-Err.ensures.closes

pub returns-in-Ok-clause-calls : goal.returns-in-Ok-clause-calls
returns-in-Ok-clause-calls g c =
    let lease = c.lease-leases.ensures.calls in
    let count = c.count_draws.ensures.calls in
    record { calls_are = count.calls_are ∙ lease.calls_are; begun_is = count.begun_is ∙ lease.begun_is }

pub returns-in-Ok-clause-replies : goal.returns-in-Ok-clause-replies
returns-in-Ok-clause-replies g c = c.count_draws.ensures.replies ∙ c.lease-leases.ensures.replies

pub returns-in-Err-clause-calls : goal.returns-in-Err-clause-calls
returns-in-Err-clause-calls g c =
    let lease = c.lease-leases.ensures.calls in
    let count = c.count_draws-in-Err.ensures.calls in
    let undo = c.undo_offer.ensures.calls in
    record {
      calls_are = undo.calls_are ∙ count.calls_are ∙ lease.calls_are;
      begun_is = undo.begun_is ∙ count.begun_is ∙ lease.begun_is;
    }

pub returns-in-Err-clause-replies : goal.returns-in-Err-clause-replies
returns-in-Err-clause-replies g c = c.undo_offer.ensures.replies ∙ c.count_draws-in-Err.ensures.replies ∙ c.lease-leases.ensures.replies

pub list_ports-requires-clause-none : goal.list_ports-requires-clause-none
list_ports-requires-clause-none g c = ap (λ v. v.items) c.in-Ok.ensures.rest ∙ c.requires.room.numbers.0

pub list_ports-requires-clause-room : goal.list_ports-requires-clause-room
list_ports-requires-clause-room g c =
    let can = c.requires.can in
    let is = (c.lease-leases.ensures.leases c.args.config.now can.view can.shows can.are_free).1 in
    let many = taken_count c.args.config.now c.args.board.now (g.P.PortMaker.log c.args.ports.now) c.args.plan c.lease-leases.result.list can is in
    let room = c.requires.room.numbers.1 in
    subst (λ v. length c.lease-leases.result.list ≤ vec_capacity v) (sym c.in-Ok.ensures.rest) (omega (arith, many, room))

pub returns-in-Ok-clause-ports : goal.returns-in-Ok-clause-ports
returns-in-Ok-clause-ports g c = c.list_ports.ensures

pub returns-in-Ok-clause-shape : goal.returns-in-Ok-clause-shape
returns-in-Ok-clause-shape g c =
    takes_drawn (legs_demanded c.args.plan.plan) c.lease-leases.result.list (board_shape c.args.board.now) (board_shape c.lease-leases.new.self) (board_shape c.count_draws.new.board)
    (length c.as_slice.result.now) c.lease-leases.ensures.shape c.count_draws.ensures.shape

pub returns-in-Err-clause-shape_undone : goal.returns-in-Err-clause-shape_undone
returns-in-Err-clause-shape_undone g c =
    undoes_drawn (legs_demanded c.args.plan.plan) c.lease-leases.result.list (board_shape c.args.board.now) (board_shape c.lease-leases.new.self) (board_shape c.count_draws-in-Err.new.board)
    (board_shape c.undo_offer.new.self) c.keys.result c.lease-leases.ensures.shape c.count_draws-in-Err.ensures.shape c.undo_offer.ensures.shape
