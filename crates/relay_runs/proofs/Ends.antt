-- What the calls of a port maker are by the steps of a whole run, and which ports they leave open.
use Rattle.std.proofs.Common.{◌≡◌, ◌∙◌, refl, sym, ap, subst, ℕ, zero, suc, ◌+◌, ◌<◌, ◌⊎◌, inl, inr, true, false, List, [], ◌∷◌, ◌++◌, Option, None, Some, map, filter, ◌==◌, All, append_assoc, append-nil}
use Rattle.std.specs.List.{filter_map}
use Rattle.std.proofs.lemmas.List.{map-append}
use Rattle.std.proofs.lemmas.List.Elements.{All-head, All-tail}
use Rattle.relay_outside.specs.declared.address.Addr.{Addr}
use Rattle.relay_outside.specs.declared.ports.InCall.{InCall}
use Rattle.relay_outside.specs.declared.ports.PortCall.{PortCall}
use Rattle.relay_outside.specs.declared.ports.PortCall.TheVariants as port
use Rattle.relay_outside.specs.declared.settings.Config.{Config}
use Rattle.relay_outside.specs.Ports.{IsOpen, ClosesNot, taken_at, sent_at}
use Rattle.relay_outside.specs.DeviceLogs.{Gained, WhereLogged}
use Rattle.relay_outside.proofs.Telling.{gained_less}
use Rattle.rtp_packet.specs.declared.head.Half.{Half}
use Rattle.histories.specs.Words.{greatest}
use Rattle.port_pool.specs.Boxes.{holder}
use Rattle.port_pool.specs.Ports.{pair_count}
use Rattle.relay_core.specs.Entries.{Event, Board, Cell, Box, Entry, is_at, history, box_in, box_event, box_history, front, box_of}
use Rattle.relay_core.specs.Records.{list_of, as_logged, logged_event}
use Rattle.relay_core.specs.EndLogs.{ins_logged, outs_logged, takes_of, takes_at, InsAreTold, OutsAreTold}
use Rattle.relay_core.proofs.Refilling.{filter_mapped, picked_mapped}
use Rattle.media_ports.specs.Addresses.{port_address}
use Rattle.media_ports.specs.ReturnedEnds.{address_called, IsOfPair, SameWhereTold}
use Rattle.media_ports.specs.OpenPorts.{LogsHeld}
use Rattle.media_ports.proofs.Opened.{open_still, open_before}
use Rattle.board_turns.specs.Between.{board_of}
use Rattle.board_turns.specs.Stops.{stop_entry}
use Rattle.board_turns.specs.Ties.{AreTied}
use Rattle.call_board.specs.Acts.{BoardEntry}
use Rattle.relay_core.specs.Legal.{Legal}
use Rattle.media_lane.specs.Visits.{Row}
use Rattle.relay_runs.specs.Ends.{AreTakes, AreSends, sends_at, AreEnds, OpensSame}
use Rattle.relay_runs.proofs.Sends.{outs_sent}
use Rattle.relay_runs.proofs.Shut.{boxes_shut}

-- What is recorded of a list has the same histories of boxes.

same_box : (event : Event) → box_in (logged_event event) ≡ box_in event
same_box (Board b) = refl
same_box (Cell c) = refl
same_box (Box b) = refl

told_history : (l : List Entry) (place n : ℕ) → history (map as_logged l) place n ≡ map as_logged (history l place n)
told_history l place zero = refl
told_history l place (suc n) =
    ap (λ (xs : List Entry). xs ++ history (map as_logged l) place n) (filter_mapped as_logged (is_at place n) (is_at place n) l (λ e. refl))
    ∙ ap (λ (xs : List Entry). map as_logged (filter (is_at place n) l) ++ xs) (told_history l place n)
    ∙ sym (map-append as_logged (filter (is_at place n) l) (history l place n))

told_boxes : (l : List Entry) (place n : ℕ) → box_history (map as_logged l) place n ≡ box_history l place n
told_boxes l place n =
    ap (λ (xs : List Entry). filter_map box_event xs) (told_history l place n)
    ∙ picked_mapped as_logged box_event box_event (history l place n) (λ e. same_box e.event)

numbers_same : (l : List Entry) → map (λ (e : Entry). e.number + 1) (map as_logged l) ≡ map (λ (e : Entry). e.number + 1) l
numbers_same [] = refl
numbers_same (e ∷ l) = ap (λ (ns : List ℕ). (e.number + 1) ∷ ns) (numbers_same l)

told_front : (l : List Entry) (place : ℕ) → front (map as_logged l) place ≡ front l place
told_front l place =
    ap (λ (xs : List Entry). greatest (map (λ (e : Entry). e.number + 1) xs))
    (filter_mapped as_logged (λ (e : Entry). e.place == place) (λ (e : Entry). e.place == place) l (λ e. refl))
    ∙ ap greatest (numbers_same (filter (λ (e : Entry). e.place == place) l))

-- What the in ends told.

agreed : {C : Type 0} (said shown : Option (List C)) (all : List C) → SameWhereTold said shown → WhereLogged shown (λ calls. calls ≡ all) → WhereLogged said (λ calls. calls ≡ all)
agreed {C} None shown all same is = tt
agreed {C} (Some calls) shown all same is = subst (λ (s : Option (List C)). WhereLogged s (λ calls. calls ≡ all)) same is

-- a list of all steps of a run, after which the board's history is this one with the stop
module _ (config : Config) (rows : List Row) (list : List Entry) (told_is : map as_logged list ≡ list_of rows) (h : List BoardEntry) (legal : Legal config list)
    (board_is : board_of list ≡ stop_entry h ∷ h) where
  same_boxes : (place : ℕ) → box_history (list_of rows) place (front (list_of rows) place) ≡ box_history list place (front list place)
  same_boxes place =
      ap (λ (l : List Entry). box_history l place (front l place)) (sym told_is)
      ∙ told_boxes list place (front (map as_logged list) place)
      ∙ ap (λ (n : ℕ). box_history list place n) (told_front list place)

  takes : InsAreTold config rows → (calls : List PortCall) → AreTied config rows calls → AreTakes config list calls
  takes ins calls tied pair half low =
      let place = box_of config pair in
      let shut : holder (box_history (list_of rows) place (front (list_of rows) place)) ≡ None =
      ap holder (same_boxes place) ∙ boxes_shut config list (h) legal board_is pair in
      subst (λ (all : List InCall). WhereLogged (taken_at calls (port_address config pair half)) (λ said. said ≡ all)) (ap (takes_of half) (same_boxes place))
      (agreed (taken_at calls (port_address config pair half)) (ins_logged rows place half) (takes_at (list_of rows) place half) (tied.takes pair half low)
      (ins pair half low shut))

  sends : OutsAreTold rows list → (calls : List PortCall) → AreTied config rows calls → AreSends config list calls
  sends outs calls tied pair half low =
      agreed (sent_at calls (port_address config pair half)) (outs_logged rows pair half) (sends_at list pair half) (tied.sends pair half low)
      (outs_sent list rows told_is outs pair half)

  pub whole_ends : InsAreTold config rows → OutsAreTold rows list → (before now : Option (List PortCall)) → Gained before now (AreTied config rows)
      → Gained before now (AreEnds config list)
  whole_ends ins outs before now tied =
      gained_less before now (AreTied config rows) (AreEnds config list)
      (λ calls these. record { of_pairs = these.of_pairs; takes = takes ins calls these; sends = sends outs calls these }) tied

-- Which addresses are open.

-- the address is that of a port of one of the configuration's pairs
abbrev IsPort : Config → Addr → Type 0
IsPort config at = (pair : ℕ) × (half : Half) × (pair < pair_count config) × (at ≡ port_address config pair half)

module _ (config : Config) (at : Addr) where
  called_at : (call : PortCall) → IsOfPair config call → address_called call ≡ at → IsPort config at
  called_at call of_pair is = (of_pair.pair, of_pair.half, of_pair.within, sym is ∙ of_pair.at)

  -- an address that is open after calls at ports is one, or was open before
  was_open : (more old : List PortCall) → All (IsOfPair config) more → IsOpen (old ++ more) at → IsPort config at ⊎ IsOpen old at
  was_open [] old of_pairs is_open = inr (subst (λ (calls : List PortCall). IsOpen calls at) (append-nil old) is_open)
  was_open (call ∷ more) old of_pairs is_open =
      by_rest
      (was_open more (old ++ call ∷ []) (All-tail (IsOfPair config) call more of_pairs)
      (subst (λ (calls : List PortCall). IsOpen calls at) (sym (append_assoc old (call ∷ []) more)) is_open))
    where
      by_last : (call ≡ port.Open at true) ⊎ (IsOpen old at × ClosesNot at call) → IsPort config at ⊎ IsOpen old at
      by_last (inl is) = inl (called_at call (All-head (IsOfPair config) call more of_pairs) (ap address_called is))
      by_last (inr before) = inr before.0

      by_rest : IsPort config at ⊎ IsOpen (old ++ call ∷ []) at → IsPort config at ⊎ IsOpen old at
      by_rest (inl is) = inl is
      by_rest (inr is) = by_last (open_before old call at is)

  other_stays : (call : PortCall) → IsOfPair config call → (IsPort config at → ⊥) → ClosesNot at call
  other_stays (port.Open there done) of_pair other = tt
  other_stays (port.Close there taken sent) of_pair other = λ same. other (called_at (port.Close there taken sent) of_pair same)

  -- and an open one that is none stays open
  still_open : (more old : List PortCall) → All (IsOfPair config) more → (IsPort config at → ⊥) → IsOpen old at → IsOpen (old ++ more) at
  still_open [] old of_pairs other is_open = subst (λ (calls : List PortCall). IsOpen calls at) (sym (append-nil old)) is_open
  still_open (call ∷ more) old of_pairs other is_open =
      subst (λ (calls : List PortCall). IsOpen calls at) (append_assoc old (call ∷ []) more)
      (still_open more (old ++ call ∷ []) (All-tail (IsOfPair config) call more of_pairs) other
      (open_still old call at (other_stays call (All-head (IsOfPair config) call more of_pairs) other) is_open))

  -- where no port is open, an open address is none
  no_port : (calls : List PortCall) → LogsHeld config (Some calls) [] → IsOpen calls at → IsPort config at → ⊥
  no_port calls shut is_open is =
      absurd (let never : false ≡ true = (shut is.0 is.1 is.2).0 (subst (λ (a : Addr). IsOpen calls a) is.3 is_open) in cc)

  same_case : (calls old : List PortCall) → LogsHeld config (Some calls) [] → IsOpen calls at → IsPort config at ⊎ IsOpen old at → IsOpen old at
  same_case calls old shut is_open (inl is) = absurd (no_port calls shut is_open is)
  same_case calls old shut is_open (inr is) = is

-- no port was open before these calls, and none is after them: so every address is open where it was
pub opens_same : (config : Config) (before now : Option (List PortCall)) → Gained before now (λ calls. All (IsOfPair config) calls) → LogsHeld config before [] → LogsHeld config now []
    → OpensSame before now
opens_same config before None calls old new = tt
opens_same config None (Some now) calls old new = absurd calls
opens_same config (Some before) (Some now) calls old new = λ at. (
  λ is_open. same_case config at now before new is_open
      (was_open config at calls.0 before calls.2 (subst (λ (all : List PortCall). IsOpen all at) calls.1 is_open)),
  λ is_open. subst (λ (all : List PortCall). IsOpen all at) (sym calls.1)
      (still_open config at calls.0 before calls.2 (no_port config at before old is_open) is_open),
)
