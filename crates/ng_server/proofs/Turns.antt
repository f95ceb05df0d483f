-- The board's turn of a datagram, from its take to its put.
use Rattle.std.proofs.Common.{◌≡◌, ◌∙◌, refl, sym, subst, ℕ, max, arith, List, ◌∷◌, Option, Some}
use Rattle.relay_outside.specs.declared.ports.InCall.{InCall}
use Rattle.relay_outside.specs.declared.ports.OutCall.{OutCall}
use Rattle.relay_outside.specs.declared.ports.PortCall.{PortCall}
use Rattle.relay_outside.specs.declared.settings.Config.{Config}
use Rattle.relay_outside.specs.DeviceLogs.{EndLog}
use Rattle.turn_table.specs.declared.hands.Turns.{Turns}
use Rattle.turn_table.specs.declared.hands.Hand.{Hand}
use Rattle.turn_table.specs.declared.hands.Turn.{Turn}
use Rattle.turn_table.specs.Hands.{IsSameHand, SameTurns, GainsTurn, EndsTurn, place_of, front_of, state_of, entries}
use Rattle.call_board.specs.declared.board.Board as board
use Rattle.call_board.specs.Acts as act
use Rattle.call_board.specs.Acts.{BoardEntry}
use Rattle.call_board.specs.Boards.{BoardMatches}
use Rattle.call_board.specs.Fits.{FitsBoard, IsFitting}
use Rattle.call_board.specs.Pairs.{held}
use Rattle.call_board.specs.Views.{View, view_of, view_at_moment, board_last_moment}
use Rattle.call_board.specs.Shapes.{BoardShape, board_shape}
use Rattle.relay_core.specs.PartShapes.{board_shape_in}
use Rattle.relay_core.specs.KeptAfter.{IsWholeWith}
use Rattle.relay_core.specs.declared.part.Part.{Part}
use Rattle.relay_core.specs.declared.part.Part.TheVariants as part
use Rattle.relay_core.specs.Entries.{board_history}
use Rattle.relay_core.specs.Records.{Made}
use Rattle.relay_core.specs.Scripts.{script}
use Rattle.relay_core.specs.PlaceHistories.{BoardIs}
use Rattle.relay_core.specs.Steps.{Relates}
use Rattle.relay_core.specs.Turns.{GainsNested, made_by}
use Rattle.media_ports.specs.OpenPorts.{LogsHeld}
use Rattle.board_turns.specs.Acts.{InTurn}
use Rattle.board_turns.specs.Between.{board_of, IsBetween}
use Rattle.board_turns.specs.CallEnds.{leg_pairs}
use Rattle.board_turns.proofs.Wholeness.{same_shape}
use Rattle.board_turns.proofs.Betweens.{at_turn, Begins, Ended, begins_whole, nested_history, relates_put, turn_ends}
use Rattle.board_turns.specs.Controls.{RequestRecord, control_of, entry_at, moment_at, control_made}
use Rattle.board_turns.proofs.StopTurns.{moved, stood}
use Rattle.ng_server.specs.Requests.{AnswersRequest}

-- the board that was taken relates to the one that stands for the history with the datagram's entry
pub control_relates : {I O : Type 0} (it : I → EndLog InCall) (ic : I → ℕ) (ot : O → EndLog OutCall) (oc : O → ℕ)
    (config : Config) (h again : List BoardEntry) (old new : Part I O) (now : ℕ) (x : RequestRecord) → again ≡ h → BoardIs config old h
    → FitsBoard config h (entry_at config h (moment_at h now) x) → BoardIs config new (entry_at config h (moment_at h now) x ∷ h)
    → Relates it ic ot oc old (control_made config again now x (board_shape_in new)) new
control_relates it ic ot oc config h again old new now x same was fits stands =
    subst (λ (k : List BoardEntry). Relates it ic ot oc old (control_made config k now x (board_shape_in new)) new) (sym same)
    (relates_put it ic ot oc config h old new (control_made config h now x (board_shape_in new)) (act.Turn (control_of config h (moment_at h now) x)) refl refl refl was refl fits stands)

module _ {M I O T : Type 0} {g : _} where
  -- The main hand has just taken the board's turn of this number and moment, to which the board of the place is advanced
  pub record Taken (config : Config) (turns : Turns M (Part I O) Made T) (mid : Hand M (Part I O) Made T g) (turn : Turn M (Part I O) Made T) (number moment now : ℕ) (new : board.Board)
      (log : Option (List PortCall)) : Type 0 where
    pub in_turn : InTurn config turns mid (record { number = number; moment = moment }) new log
    pub number_is : number ≡ front_of turn
    pub moment_is : moment ≡ moment_at (board_history (made_by mid) (front_of turn)) now
    pub fitting : IsFitting config (board_history (made_by mid) (front_of turn))

  -- A datagram was dealt with in the board's turn of this number: as `AnswersRequest`, where the board is the place's
  pub record DealsAt (config : Config) (old new : Hand M (Part I O) Made T g) (number moment : ℕ) (x : RequestRecord) (place : Part I O) (log : Option (List PortCall)) : Type 0 where
    pub fits : FitsBoard config (board_history (made_by old) number) (entry_at config (board_history (made_by old) number) moment x)
    pub gained : GainsNested number moment (script config (board_history (made_by old) number) (entry_at config (board_history (made_by old) number) moment x)) old new
    pub stands : BoardIs config place (entry_at config (board_history (made_by old) number) moment x ∷ board_history (made_by old) number)
    pub opens : LogsHeld config log (leg_pairs (held (entry_at config (board_history (made_by old) number) moment x ∷ board_history (made_by old) number)))

  -- the turn that was taken, by the number that the turn told, when its board is advanced
  pub taken : (config : Config) (turns : Turns M (Part I O) Made T) (old mid : Hand M (Part I O) Made T g) (turn : Turn M (Part I O) Made T) (number moment now : ℕ) (place : Part I O)
      (was new : board.Board) (log : Option (List PortCall)) → entries mid ≡ entries old → Begins config turns mid turn → number ≡ front_of turn → place ≡ state_of turn → place ≡ part.Board was
      → ((config : Config) (v : View) → BoardMatches config was v → BoardMatches config new (view_at_moment v now) × (moment ≡ max now v.moment))
      → board_shape new ≡ board_shape was → LogsHeld config log (leg_pairs (held (board_of (made_by old)))) → Taken config turns mid turn number moment now new log
  taken config turns old mid turn number moment now place was new log same begins number_is place_is is advances shape_is opens =
      let n = front_of turn in
      let h = board_history (made_by mid) n in
      let stands = stood config h place was is (moved config h (state_of turn) place place_is begins.board) in
      let advanced = advances config (view_of config h) stands.1 in
      let late : moment ≡ max now (board_last_moment h) = advanced.1 in
      let at : InTurn config turns mid (record { number = n; moment = moment }) new log = record {
        may = begins.may;
        above = begins.above;
        low = begins.low;
        orderly = begins.orderly;
        timely = omega (arith, late);
        shows = at_turn config h new now moment late advanced.0;
        opens = subst (λ (l : List BoardEntry). LogsHeld config log (leg_pairs (held l))) (sym (begins_whole config turns old mid turn same begins)) opens;
        whole = same_shape config mid was new shape_is (begins.whole was (sym place_is ∙ is));
      } in
      record {
        in_turn = subst (λ (k : ℕ). InTurn config turns mid (record { number = k; moment = moment }) new log) (sym number_is) at;
        number_is = number_is;
        moment_is = late;
        fitting = stands.0;
      }

  -- what was dealt with, by the number of the turn and at its moment
  pub dealt : (config : Config) (turns : Turns M (Part I O) Made T) (mid nested : Hand M (Part I O) Made T g) (turn : Turn M (Part I O) Made T) (number moment now : ℕ) (x : RequestRecord)
      (was b : board.Board) (before log : Option (List PortCall)) → Taken config turns mid turn number moment now was before
      → AnswersRequest config mid nested (record { number = number; moment = moment }) x b log
      → DealsAt config mid nested (front_of turn) (moment_at (board_history (made_by mid) (front_of turn)) now) x (part.Board b) log
  dealt config turns mid nested turn number moment now x was b before log taken deals =
      let n = front_of turn in
      let d : AnswersRequest config mid nested (record { number = n; moment = moment }) x b log =
      subst (λ (k : ℕ). AnswersRequest config mid nested (record { number = k; moment = moment }) x b log) taken.number_is deals in
      let at : DealsAt config mid nested n moment x (part.Board b) log = record {
        fits = d.fits;
        gained = d.gained;
        stands = ((d.fits, taken.fitting), d.stands);
        opens = d.opens;
      } in
      subst (λ (k : ℕ). DealsAt config mid nested n k x (part.Board b) log) taken.moment_is at

  -- what holds of the history before the turn, by its number, and of its moment holds of the whole history
  pub at_whole : (config : Config) (turns : Turns M (Part I O) Made T) (old mid : Hand M (Part I O) Made T g) (turn : Turn M (Part I O) Made T) (number moment now : ℕ) (new : board.Board)
      (log : Option (List PortCall)) (P : List BoardEntry → ℕ → Type 0) → entries mid ≡ entries old → Begins config turns mid turn → Taken config turns mid turn number moment now new log
      → P (board_history (made_by mid) number) moment → P (board_of (made_by old)) (moment_at (board_of (made_by old)) now)
  at_whole config turns old mid turn number moment now new log P same begins taken holds =
      let h = board_history (made_by mid) (front_of turn) in
      subst (λ (k : List BoardEntry). P k (moment_at k now)) (begins_whole config turns old mid turn same begins)
      (subst (λ (m : ℕ). P h m) taken.moment_is (subst (λ (k : ℕ). P (board_history (made_by mid) k) moment) taken.number_is holds))

  -- the nested entries of a datagram change nothing of the board's history
  pub control_history : (config : Config) (turns : Turns M (Part I O) Made T) (mid nested : Hand M (Part I O) Made T g) (turn : Turn M (Part I O) Made T) (now : ℕ) (x : RequestRecord)
      (place : Part I O) (log : Option (List PortCall)) → Begins config turns mid turn
      → DealsAt config mid nested (front_of turn) (moment_at (board_history (made_by mid) (front_of turn)) now) x place log
      → board_history (made_by nested) (front_of turn) ≡ board_history (made_by mid) (front_of turn)
  control_history config turns mid nested turn now x place log begins deals =
      let h = board_history (made_by mid) (front_of turn) in
      nested_history config mid nested (front_of turn) (moment_at h now) (front_of turn) (entry_at config h (moment_at h now) x) begins.orderly deals.fits deals.gained

  -- the datagram's entry was put
  pub control_ends : (shape : BoardShape) (config : Config) (turns : Turns M (Part I O) Made T) (old mid nested new : Hand M (Part I O) Made T g) (turn : Turn M (Part I O) Made T) (outcome : T)
      (now : ℕ) (x : RequestRecord) (place : Part I O) (log : Option (List PortCall))
      → IsBetween config turns old → IsSameHand old mid × (entries mid ≡ entries old) → GainsTurn 0 turn old mid → Begins config turns mid turn
      → IsSameHand mid nested × SameTurns mid nested
      → DealsAt config mid nested (front_of turn) (moment_at (board_history (made_by mid) (front_of turn)) now) x place log
      → IsSameHand nested new → EndsTurn (place_of turn) (front_of turn) (control_made config (board_history (made_by nested) (front_of turn)) now x (Some shape)) outcome nested new
      → IsWholeWith config nested shape
      → Ended config turns old new (entry_at config (board_of (made_by old)) (moment_at (board_of (made_by old)) now) x)
  control_ends shape config turns old mid nested new turn outcome now x place log b same turned begins sames deals again ended whole =
      let h = board_history (made_by mid) (front_of turn) in
      let is : EndsTurn (place_of turn) (front_of turn) (control_made config h now x (Some shape)) outcome nested new =
      subst (λ (k : List BoardEntry). EndsTurn (place_of turn) (front_of turn) (control_made config k now x (Some shape)) outcome nested new)
      (control_history config turns mid nested turn now x place log begins deals) ended in
      subst (λ (k : List BoardEntry). Ended config turns old new (entry_at config k (moment_at k now) x)) (begins_whole config turns old mid turn same.1 begins)
      (turn_ends config turns old mid nested new turn (control_made config h now x (Some shape)) outcome (act.Turn (control_of config h (moment_at h now) x)) (moment_at h now)
      b same turned begins.above sames deals.gained refl refl refl deals.fits again is shape refl whole)
