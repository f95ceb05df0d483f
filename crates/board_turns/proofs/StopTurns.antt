-- The turn of a stop.
use Rattle.std.proofs.Common.{◌≡◌, sym, subst, refl, ℕ, max, List, [], ◌∷◌, Option, Some, arith}
use Rattle.relay_outside.specs.declared.ports.InCall.{InCall}
use Rattle.relay_outside.specs.declared.ports.OutCall.{OutCall}
use Rattle.relay_outside.specs.declared.ports.PortCall.{PortCall}
use Rattle.relay_outside.specs.declared.settings.Config.{Config}
use Rattle.relay_outside.specs.DeviceLogs.{EndLog}
use Rattle.turn_table.specs.declared.hands.Turns.{Turns}
use Rattle.turn_table.specs.declared.hands.Hand.{Hand}
use Rattle.turn_table.specs.declared.hands.Turn.{Turn}
use Rattle.turn_table.specs.Hands.{IsSameHand, SameTurns, GainsTurn, EndsTurn, place_of, front_of, state_of, entries}
use Rattle.call_board.specs.declared.board.Board as board
use Rattle.call_board.specs.Acts.{Stop, BoardEntry}
use Rattle.call_board.specs.Boards.{BoardFor, BoardMatches}
use Rattle.call_board.specs.Fits.{IsFitting}
use Rattle.call_board.specs.Calls.{live}
use Rattle.call_board.specs.Views.{View, view_of, view_at_moment, board_last_moment}
use Rattle.call_board.specs.Shapes.{BoardShape}
use Rattle.relay_core.specs.KeptAfter.{IsWholeWith}
use Rattle.relay_core.specs.PartShapes.{board_shape_in}
use Rattle.relay_core.specs.declared.part.Part.{Part}
use Rattle.relay_core.specs.declared.part.Part.TheVariants as part
use Rattle.relay_core.specs.Entries.{board_history}
use Rattle.relay_core.specs.Records.{Made}
use Rattle.relay_core.specs.Scripts.{script}
use Rattle.relay_core.specs.PlaceHistories.{BoardIs}
use Rattle.relay_core.specs.Steps.{Relates}
use Rattle.relay_core.specs.Turns.{GainsNested, made_by}
use Rattle.board_turns.specs.Between.{board_of, IsBetween}
use Rattle.media_ports.specs.OpenPorts.{LogsHeld}
use Rattle.board_turns.specs.Stops.{stop_entry, stop_made, still_held}
use Rattle.board_turns.proofs.Betweens.{Begins, Ended, at_last, begins_whole, nested_history, relates_put, turn_ends}
use Rattle.board_turns.proofs.Unheld.{none_held}

-- the state is this board
pub stood : {I O : Type 0} (config : Config) (h : List BoardEntry) (x : Part I O) (b : board.Board) → x ≡ part.Board b → BoardIs config x h
    → IsFitting config h × BoardFor config b h
stood {I} {O} config h x b is stands = subst (λ (y : Part I O). BoardIs config y h) is stands

pub moved : {I O : Type 0} (config : Config) (h : List BoardEntry) (x y : Part I O) → y ≡ x → BoardIs config x h → BoardIs config y h
moved {I} {O} config h x y is stands = subst (λ (z : Part I O). BoardIs config z h) (sym is) stands

-- the board that was taken relates to the one that ended all live calls
pub stop_relates : {I O : Type 0} (it : I → EndLog InCall) (ic : I → ℕ) (ot : O → EndLog OutCall) (oc : O → ℕ)
    (config : Config) (h again : List BoardEntry) (old new : Part I O) → again ≡ h → BoardIs config old h → BoardIs config new (stop_entry h ∷ h)
    → Relates it ic ot oc old (stop_made again (board_shape_in new)) new
stop_relates it ic ot oc config h again old new same was stands =
    subst (λ (k : List BoardEntry). Relates it ic ot oc old (stop_made k (board_shape_in new)) new) (sym same)
    (relates_put it ic ot oc config h old new (stop_made h (board_shape_in new)) (Stop (live h)) refl refl refl was refl refl stands)

module _ {M S T : Type 0} {g : _} where
  pub gained_at : (config : Config) (mid nested : Hand M S Made T g) (number n : ℕ) → number ≡ n
      → GainsNested number (board_last_moment (board_history (made_by mid) number))
      (script config (board_history (made_by mid) number) (stop_entry (board_history (made_by mid) number))) mid nested
      → GainsNested n (board_last_moment (board_history (made_by mid) n)) (script config (board_history (made_by mid) n) (stop_entry (board_history (made_by mid) n))) mid nested
  gained_at config mid nested number n is gains =
      subst (λ (k : ℕ). GainsNested k (board_last_moment (board_history (made_by mid) k))
      (script config (board_history (made_by mid) k) (stop_entry (board_history (made_by mid) k))) mid nested) is gains

module _ {M I O T : Type 0} {g : _} where
  -- the nested entries of a stop change nothing of the board's history
  pub stop_history : (config : Config) (turns : Turns M (Part I O) Made T) (mid nested : Hand M (Part I O) Made T g) (turn : Turn M (Part I O) Made T) → Begins config turns mid turn
      → GainsNested (front_of turn) (board_last_moment (board_history (made_by mid) (front_of turn)))
      (script config (board_history (made_by mid) (front_of turn)) (stop_entry (board_history (made_by mid) (front_of turn)))) mid nested
      → board_history (made_by nested) (front_of turn) ≡ board_history (made_by mid) (front_of turn)
  stop_history config turns mid nested turn begins gains =
      let h = board_history (made_by mid) (front_of turn) in
      nested_history config mid nested (front_of turn) (board_last_moment h) (front_of turn) (stop_entry h) begins.orderly refl gains

  -- the stop's entry was put
  pub stop_ends : (kept : Option BoardShape) (config : Config) (turns : Turns M (Part I O) Made T) (old mid nested new : Hand M (Part I O) Made T g) (turn : Turn M (Part I O) Made T) (outcome : T)
      → IsBetween config turns old → IsSameHand old mid × (entries mid ≡ entries old) → GainsTurn 0 turn old mid → Begins config turns mid turn
      → IsSameHand mid nested × SameTurns mid nested
      → GainsNested (front_of turn) (board_last_moment (board_history (made_by mid) (front_of turn)))
      (script config (board_history (made_by mid) (front_of turn)) (stop_entry (board_history (made_by mid) (front_of turn)))) mid nested
      → IsSameHand nested new → EndsTurn (place_of turn) (front_of turn) (stop_made (board_history (made_by nested) (front_of turn)) kept) outcome nested new
      → (shape : BoardShape) → kept ≡ Some shape → IsWholeWith config nested shape → Ended config turns old new (stop_entry (board_of (made_by old)))
  stop_ends kept config turns old mid nested new turn outcome b same turned begins sames gains again ended shape is_kept whole =
      let h = board_history (made_by mid) (front_of turn) in
      let is : EndsTurn (place_of turn) (front_of turn) (stop_made h kept) outcome nested new =
      subst (λ (k : List BoardEntry). EndsTurn (place_of turn) (front_of turn) (stop_made k kept) outcome nested new) (stop_history config turns mid nested turn begins gains) ended in
      subst (λ (k : List BoardEntry). Ended config turns old new (stop_entry k)) (begins_whole config turns old mid turn same.1 begins)
      (turn_ends config turns old mid nested new turn (stop_made h kept) outcome (Stop (live h)) (board_last_moment h) b same turned begins.above sames gains refl refl refl refl again is
      shape is_kept whole)

module _ {M I O T : Type 0} {g : _} where
  -- what is known when the board's turn was taken for a stop, and its board, with which the turn of this number goes on, was advanced
  -- to no later moment
  pub record StopBegins (config : Config) (mid : Hand M (Part I O) Made T g) (turn : Turn M (Part I O) Made T) (number moment : ℕ) (now : board.Board) : Type 0 where
    pub number_is : number ≡ front_of turn
    pub moment_is : moment ≡ board_last_moment (board_history (made_by mid) number)
    pub fits : IsFitting config (board_history (made_by mid) (front_of turn))
    pub stands : BoardFor config now (board_history (made_by mid) number)

  pub stop_begins : (config : Config) (turns : Turns M (Part I O) Made T) (mid : Hand M (Part I O) Made T g) (turn : Turn M (Part I O) Made T) (number moment : ℕ)
      (x : Part I O) (was now : board.Board) → Begins config turns mid turn → number ≡ front_of turn → x ≡ state_of turn → x ≡ part.Board was
      → ((config : Config) (v : View) → BoardMatches config was v → BoardMatches config now (view_at_moment v 0) × (moment ≡ max 0 v.moment))
      → StopBegins config mid turn number moment now
  stop_begins config turns mid turn number moment x was now begins number_is state_is is advanced =
      let n = front_of turn in
      let h = board_history (made_by mid) n in
      let stands = stood config h x was is (moved config h (state_of turn) x state_is begins.board) in
      let a = advanced config (view_of config h) stands.1 in
      let at : moment ≡ max 0 (board_last_moment h) = a.1 in
      let last : moment ≡ board_last_moment h = omega (arith, at) in
      record {
        number_is = number_is;
        moment_is = subst (λ (k : ℕ). moment ≡ board_last_moment (board_history (made_by mid) k)) (sym number_is) last;
        fits = stands.0;
        stands = subst (λ (k : ℕ). BoardFor config now (board_history (made_by mid) k)) (sym number_is) (at_last config h now a.0);
      }

  pub stop_gained : (config : Config) (mid nested : Hand M (Part I O) Made T g) (turn : Turn M (Part I O) Made T) (number moment : ℕ) (now : board.Board)
      → StopBegins config mid turn number moment now
      → GainsNested number moment (script config (board_history (made_by mid) number) (stop_entry (board_history (made_by mid) number))) mid nested
      → GainsNested (front_of turn) (board_last_moment (board_history (made_by mid) (front_of turn)))
      (script config (board_history (made_by mid) (front_of turn)) (stop_entry (board_history (made_by mid) (front_of turn)))) mid nested
  stop_gained config mid nested turn number moment now b gains =
      gained_at config mid nested number (front_of turn) b.number_is
      (subst (λ (m : ℕ). GainsNested number m (script config (board_history (made_by mid) number) (stop_entry (board_history (made_by mid) number))) mid nested) b.moment_is gains)

  -- the board that ended all live calls stands for the history with the stop
  pub stop_stands : (config : Config) (mid : Hand M (Part I O) Made T g) (turn : Turn M (Part I O) Made T) (number moment : ℕ) (now new : board.Board)
      → StopBegins config mid turn number moment now
      → BoardFor config new (stop_entry (board_history (made_by mid) number) ∷ board_history (made_by mid) number)
      → BoardIs {I = I} {O = O} config (part.Board new) (stop_entry (board_history (made_by mid) (front_of turn)) ∷ board_history (made_by mid) (front_of turn))
  stop_stands config mid turn number moment now new b stands =
      ((refl, b.fits), subst (λ (k : ℕ). BoardFor config new (stop_entry (board_history (made_by mid) k) ∷ board_history (made_by mid) k)) b.number_is stands)

  -- and no pair is held
  pub stop_opens_none : (config : Config) (mid : Hand M (Part I O) Made T g) (turn : Turn M (Part I O) Made T) (number moment : ℕ) (now : board.Board)
      (log : Option (List PortCall)) → StopBegins config mid turn number moment now
      → (let h = board_history (made_by mid) number in LogsHeld config log (still_held h (stop_entry h) (live h))) → LogsHeld config log []
  stop_opens_none config mid turn number moment now log b opens =
      let h = board_history (made_by mid) number in
      subst (λ (ps : List ℕ). LogsHeld config log ps)
      (none_held config h (subst (λ (k : ℕ). IsFitting config (board_history (made_by mid) k)) (sym b.number_is) b.fits)) opens
