-- All ports are closed, call by call.
use Rattle.std.proofs.Common.{◌≡◌, ◌∙◌, sym, ap, subst, refl, ◌≤◌, ◌+◌, ℕ, zero, suc, true, List, [], ◌∷◌, ◌++◌, take, Option, Some, None, arith, append-nil}
use Rattle.std.specs.Prelude.{slice_get, is_some, option_map}
use Rattle.std.specs.List.{AllZip}
use Rattle.relay_outside.specs.declared.address.Addr.{Addr}
use Rattle.relay_outside.specs.declared.ports.InCall.{InCall}
use Rattle.relay_outside.specs.declared.ports.OutCall.{OutCall}
use Rattle.relay_outside.specs.declared.ports.PortCall.{PortCall}
use Rattle.relay_outside.specs.declared.settings.Config.{Config}
use Rattle.relay_outside.specs.DeviceLogs.{EndLog, Gained, WhereLogged}
use Rattle.relay_outside.proofs.Telling.{gained_less}
use Rattle.rtp_packet.specs.declared.head.Half.TheVariants.{Rtp, Rtcp}
use Rattle.histories.specs.Words.{In, here, there}
use Rattle.histories.proofs.Lists.{maps}
use Rattle.port_pool.specs.Pools.{AreFree}
use Rattle.port_pool.specs.Ports.{port_address}
use Rattle.call_cell.specs.declared.leg.Leg.{Leg}
use Rattle.call_cell.specs.declared.cell.Cell as cell
use Rattle.call_cell.specs.Shapes.{cell_leg_shape, cell_shape}
use Rattle.call_board.specs.Shapes.{LiveShape, board_shape}
use Rattle.call_shapes.specs.Agreement.{CallAgrees}
use Rattle.call_shapes.specs.WholeRelay.{cells_of_calls}
use Rattle.media_ports.specs.Addresses.{pair_addresses}
use Rattle.media_ports.specs.Calls.{AllOpen, Closes, NoneOpen}
use Rattle.media_ports.proofs.Closed.{leaves_open, zip-append}
use Rattle.media_ports.proofs.Telling.{told_after}
use Rattle.relay_core.specs.declared.part.Part.{Part}
use Rattle.relay_core.specs.declared.part.Part.TheVariants as part
use Rattle.relay_core.specs.WholeParts.{AreWholeParts, shape_of_part}
use Rattle.hand_over.specs.Closings.{legs_at, calls_there, live_calls, pairs_of_all_legs, box_ends_at, pair_closings, cell_closings, call_closings, all_closings}
use Rattle.hand_over.specs.ClosingSteps.{pairs_of_legs, AreReady, IsLegReady, LeavesEmptied}
use Rattle.relay_core.specs.Homes.{AreEndsHome}
use Rattle.hand_over.specs.Homes.{AreLegsOpen, AreLegsShut}
use Rattle.hand_over.proofs.OneClosed.{held_ends, legs_of_cell}
use Rattle.hand_over.proofs.RestCalls.{AreRest}
use Rattle.hand_over.proofs.WholeReady.{call_ready, rest_at_first, pairs_free, from_low, below_free}
use Rattle.hand_over.proofs.LeftCells.{in_first}

pub record IsCallAt (calls : List LiveShape) (i place : ℕ) : Type 0 where
  pub call : LiveShape
  pub call_is : slice_get calls i ≡ Some call
  pub cell_is : place ≡ call.cell

pub call_at : (calls : List LiveShape) (i place : ℕ) → option_map (λ (call : LiveShape). call.cell) (slice_get calls i) ≡ Some place → IsCallAt calls i place
call_at calls i place is = by (slice_get calls i) refl is
  where
    by : (o : Option LiveShape) → slice_get calls i ≡ o → option_map (λ (call : LiveShape). call.cell) o ≡ Some place → IsCallAt calls i place
    by None at e = absurd (let q = e in cc)
    by (Some call) at e = record { call = call; call_is = at; cell_is = (let q = e in cc) }

pub within_calls : (calls : List LiveShape) (i : ℕ) (call : LiveShape) → slice_get calls i ≡ Some call → In call calls
within_calls [] i call is = absurd (let q = is in cc)
within_calls (c ∷ calls) zero call is = here (let q = is in cc)
within_calls (c ∷ calls) (suc i) call is = there (within_calls calls i call is)

addresses_append : (config : Config) (xs ys : List ℕ) → pair_addresses config (xs ++ ys) ≡ pair_addresses config xs ++ pair_addresses config ys
addresses_append config [] ys = refl
addresses_append config (x ∷ xs) ys = ap (λ (l : List Addr). port_address config x Rtp ∷ port_address config x Rtcp ∷ l) (addresses_append config xs ys)

module _ {I O : Type 0} where
  pub calls_are : (config : Config) (parts : List (Part I O)) (whole : AreWholeParts config parts) → live_calls parts ≡ (board_shape whole.board).calls
  calls_are config parts whole = ap (λ (o : Option (Part I O)). calls_there o) whole.board_is

  pub cells_free : (config : Config) (parts : List (Part I O)) (whole : AreWholeParts config parts) → AreFree (config.max_sessions + 1) (cells_of_calls (live_calls parts))
  cells_free config parts whole = subst (λ (l : List LiveShape). AreFree (config.max_sessions + 1) (cells_of_calls l)) (sym (calls_are config parts whole)) whole.whole.apart

  pub cells_within : (config : Config) (parts : List (Part I O)) (whole : AreWholeParts config parts) → (call : LiveShape) → In call (live_calls parts) → call.cell ≤ config.max_sessions
  cells_within config parts whole call among = let low = below_free (config.max_sessions + 1) (live_calls parts) call among (cells_free config parts whole) in omega (arith, low)

  -- the board stays
  pub board_kept : (config : Config) (old new : List (Part I O)) (i : ℕ) (whole : AreWholeParts config old) → LeavesEmptied config old new (take i (live_calls old)) → slice_get new 0 ≡ slice_get old 0
  board_kept config old new i whole left = left.others 0 (omega arith) (λ call x e.
      let among = subst (λ (l : List LiveShape). In call l) (calls_are config old whole) (in_first (live_calls old) i call x) in
      let low = from_low (board_shape whole.board).calls call among whole.whole.low in
      absurd (omega (arith, low, e)))

module _ {I O : Type 0} (taken : I → EndLog InCall) (sent : O → EndLog OutCall) where
  pub rest_of_whole : (config : Config) (parts : List (Part I O)) (log : Option (List PortCall)) → AreWholeParts config parts → AreEndsHome taken sent config parts → AreLegsOpen config parts log
      → AreRest taken sent config parts log (live_calls parts)
  rest_of_whole config parts log whole home opened =
      let same = calls_are config parts whole in
      let calls = (board_shape whole.board).calls in
      subst (λ (l : List LiveShape). AreRest taken sent config parts log l) (sym same)
      (rest_at_first taken sent config parts log calls
      (call_ready taken sent config parts log whole home (subst (λ (l : List LiveShape). WhereLogged log (AllOpen (pair_addresses config (pairs_of_all_legs parts l)))) same opened))
      (config.max_sessions + 1) whole.whole.apart (pairs_free config parts (board_shape whole.board).pool calls whole.whole.pool))

  -- Each leg has its ends, so each address is closed.

  have_ends : (config : Config) (parts : List (Part I O)) (whole : AreWholeParts config parts) → (call : LiveShape) → In call (live_calls parts) → (c : cell.Cell O) → slice_get parts call.cell ≡ Some (part.Cell c)
      → (leg : Leg O) → In leg c.legs.items → is_some leg.sending.ends ≡ true
  have_ends config parts whole call among c is leg i =
      let agrees : CallAgrees config call.cell call.number call.dialog (cell_shape c) =
      subst (λ (o : Option (Part I O)). CallAgrees config call.cell call.number call.dialog (shape_of_part config o)) is
      (whole.whole.calls call (subst (λ (l : List LiveShape). In call l) (calls_are config parts whole) among)) in
      (agrees.legs (cell_leg_shape leg) (maps (λ (l : Leg O). cell_leg_shape l) c.legs.items i)).has_ends

  leg_zip : (config : Config) (parts : List (Part I O)) (log : Option (List PortCall)) (pair : ℕ) (ends : Option (O × O)) → is_some ends ≡ true → AreReady taken sent config parts log pair ends
      → AllZip Closes (pair_addresses config (pair ∷ [])) (pair_closings taken sent config pair ends (box_ends_at config parts pair))
  leg_zip config parts log pair None has ready = absurd (let q = has in cc)
  leg_zip config parts log pair (Some ends) has ready =
      subst (λ (o : Option (I × I)). AllZip Closes (pair_addresses config (pair ∷ [])) (pair_closings taken sent config pair (Some ends) o))
      (sym (held_ends config parts pair ready.1 ready.2)) (refl, (refl, tt))

  cell_zip : (config : Config) (parts : List (Part I O)) (log : Option (List PortCall)) (those : List (Leg O)) → ((leg : Leg O) → In leg those → is_some leg.sending.ends ≡ true)
      → ((leg : Leg O) → In leg those → IsLegReady taken sent config parts log leg) → AllZip Closes (pair_addresses config (pairs_of_legs those)) (cell_closings taken sent config parts those)
  cell_zip config parts log [] has ready = tt
  cell_zip config parts log (leg ∷ legs) has ready =
      zip-append Closes (pair_addresses config (leg.holder.pair ∷ [])) (pair_addresses config (pairs_of_legs legs))
      (pair_closings taken sent config leg.holder.pair leg.sending.ends (box_ends_at config parts leg.holder.pair)) (cell_closings taken sent config parts legs)
      (leg_zip config parts log leg.holder.pair leg.sending.ends (has leg (here refl)) (ready leg (here refl)).ready)
      (cell_zip config parts log legs (λ l i. has l (there i)) (λ l i. ready l (there i)))

  calls_zip : (config : Config) (parts : List (Part I O)) (log : Option (List PortCall)) (calls : List LiveShape)
      → ((call : LiveShape) → In call calls → (c : cell.Cell O) → slice_get parts call.cell ≡ Some (part.Cell c) → (leg : Leg O) → In leg c.legs.items → is_some leg.sending.ends ≡ true)
      → AreRest taken sent config parts log calls → AllZip Closes (pair_addresses config (pairs_of_all_legs parts calls)) (call_closings taken sent config parts calls)
  calls_zip config parts log [] has rest = tt
  calls_zip config parts log (call ∷ calls) has rest =
      let ready = rest.0 in
      let legs = legs_of_cell parts call.cell ready.cell ready.cell_is in
      let mine = subst (λ (l : List (Leg O)). AllZip Closes (pair_addresses config (pairs_of_legs l)) (cell_closings taken sent config parts l)) (sym legs)
      (cell_zip config parts log ready.cell.legs.items (has call (here refl) ready.cell ready.cell_is) ready.legs) in
      subst (λ (l : List Addr). AllZip Closes l (call_closings taken sent config parts (call ∷ calls))) (sym (addresses_append config (pairs_of_legs (legs_at parts call.cell)) (pairs_of_all_legs parts calls)))
      (zip-append Closes (pair_addresses config (pairs_of_legs (legs_at parts call.cell))) (pair_addresses config (pairs_of_all_legs parts calls))
      (cell_closings taken sent config parts (legs_at parts call.cell)) (call_closings taken sent config parts calls) mine (calls_zip config parts log calls (λ c i. has c (there i)) rest.2))

  pub all_shut : (config : Config) (parts : List (Part I O)) (old new : Option (List PortCall)) → AreWholeParts config parts → AreEndsHome taken sent config parts → AreLegsOpen config parts old
      → Gained old new (λ calls. calls ≡ all_closings taken sent config parts) → AreLegsShut config parts new
  all_shut config parts old new whole home opened gained =
      let ats = pair_addresses config (pairs_of_all_legs parts (live_calls parts)) in
      let zip = calls_zip config parts old (live_calls parts) (have_ends config parts whole) (rest_of_whole config parts old whole home opened) in
      told_after old new (λ calls. calls ≡ all_closings taken sent config parts) (AllOpen ats) (NoneOpen ats)
      (λ calls more o those. (leaves_open ats more calls (subst (λ (cs : List PortCall). AllZip Closes ats cs) (sym those) zip)).closed) opened gained

  pub closed_all : (config : Config) (old new : List (Part I O)) (was now : Option (List PortCall)) (calls : List LiveShape) (all : List PortCall) → calls ≡ []
      → Gained was now (λ more. more ++ call_closings taken sent config new calls ≡ all) → Gained was now (λ more. more ≡ all)
  closed_all config old new was now calls all none gained =
      gained_less was now (λ more. more ++ call_closings taken sent config new calls ≡ all) (λ more. more ≡ all)
      (λ more is. sym (append-nil more) ∙ ap (λ (l : List LiveShape). more ++ call_closings taken sent config new l) (sym none) ∙ is) gained
