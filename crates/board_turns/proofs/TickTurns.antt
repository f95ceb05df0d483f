-- The turn of a tick.
use Rattle.std.proofs.Common.{◌≡◌, ◌∙◌, refl, sym, ap, subst, ℕ, max, Bool, true, false, not, List, [], ◌∷◌, Option, Some, map, filter}
use Rattle.relay_outside.specs.declared.ports.InCall.{InCall}
use Rattle.relay_outside.specs.declared.ports.OutCall.{OutCall}
use Rattle.relay_outside.specs.declared.ports.PortCall.{PortCall}
use Rattle.relay_outside.specs.declared.settings.Config.{Config}
use Rattle.relay_outside.specs.DeviceLogs.{EndLog}
use Rattle.turn_table.specs.declared.machine.Entry as table
use Rattle.turn_table.specs.declared.hands.Turns.{Turns}
use Rattle.turn_table.specs.declared.hands.Hand.{Hand}
use Rattle.turn_table.specs.declared.hands.Turn.{Turn}
use Rattle.turn_table.specs.Hands.{IsSameHand, SameTurns, GainsTurn, EndsTurn, place_of, front_of, state_of, entries}
use Rattle.histories.specs.Words.{In, has}
use Rattle.histories.proofs.Lists.{keeps, filtered, maps, mapped, it_has, has_it}
use Rattle.call_board.specs.declared.board.Board as board
use Rattle.call_board.specs.declared.live_call.LiveCall.{LiveCall}
use Rattle.call_board.specs.Acts.{Call, Tick, BoardEntry}
use Rattle.call_board.specs.Boards.{BoardFor, CallsFor, BoardMatches}
use Rattle.call_board.specs.Calls.{live}
use Rattle.call_board.specs.Fits.{IsFitting, named_live}
use Rattle.call_board.specs.Views.{View, CallView, call_view, view_of, view_at_moment, board_last_moment}
use Rattle.call_board.proofs.Calls.{live_numbers}
use Rattle.call_board.proofs.Cells.{live_step}
use Rattle.call_board.proofs.Sieves.{filter_alike}
use Rattle.call_board.specs.Shapes.{BoardShape}
use Rattle.relay_core.specs.KeptAfter.{IsWholeWith}
use Rattle.relay_core.specs.PartShapes.{board_shape_in}
use Rattle.relay_core.specs.declared.part.Part.{Part}
use Rattle.relay_core.specs.declared.part.Part.TheVariants as part
use Rattle.relay_core.specs.Entries.{board_history}
use Rattle.relay_core.specs.Records.{Made, list_of}
use Rattle.relay_core.specs.PlaceHistories.{BoardIs}
use Rattle.relay_core.specs.Steps.{Relates}
use Rattle.relay_core.specs.Turns.{made_by}
use Rattle.relay_core.proofs.Histories.{good_history}
use Rattle.relay_core.proofs.Turns.{nothing_more}
use Rattle.board_turns.specs.Between.{board_of, IsBetween}
use Rattle.board_turns.specs.Ticks.{EndsDue, EndsRightly, tick_at, tick_entry, tick_made, AreDue}
use Rattle.board_turns.proofs.Stopped.{views_numbers}
use Rattle.board_turns.proofs.Ticked.{same_truth}
use Rattle.board_turns.proofs.StopTurns.{moved, stood}
use Rattle.board_turns.proofs.Betweens.{Begins, Ended, begins_whole, nested_history, relates_put, turn_ends}

-- Which calls ended, by the board that the turn leaves: the live ones that it no longer has.

abbrev board_numbers : {I O : Type 0} → Part I O → List ℕ
board_numbers (part.Board b) = map (λ (call : LiveCall). call.number) b.calls.list
board_numbers _ = []

abbrev pub calls_gone : {I O : Type 0} → List BoardEntry → Part I O → List Call
calls_gone h x = filter (λ (c : Call). not (has (board_numbers x) c.number)) (live h)

numbers_shown : (config : Config) (calls : List LiveCall) (cs : List CallView) → CallsFor config calls cs
    → map (λ (call : LiveCall). call.number) calls ≡ map (λ (c : CallView). c.of.number) cs
numbers_shown config [] [] for = refl
numbers_shown config [] (c ∷ cs) for = absurd for
numbers_shown config (call ∷ calls) [] for = absurd for
numbers_shown config (call ∷ calls) (c ∷ cs) for =
    let first = for.0.number_is in
    let rest = numbers_shown config calls cs for.1 in
    λ i. first i ∷ rest i

-- a live call is among those that pass where its number is among theirs
kept_is : (config : Config) (h : List BoardEntry) (q : Call → Bool) → IsFitting config h → (c : Call) → In c (live h)
    → has (map (λ (d : Call). d.number) (filter q (live h))) c.number ≡ q c
kept_is config h q fits c i =
    same_truth (has (map (λ (d : Call). d.number) (filter q (live h))) c.number) (q c)
    (λ t. let m = mapped (λ (d : Call). d.number) (filter q (live h)) (has_it c.number (map (λ (d : Call). d.number) (filter q (live h))) t) in
    let f = filtered q (live h) m.is_in in
    subst (λ (d : Call). q d ≡ true) (live_numbers config h m.from c fits f.0 i m.makes) f.1)
    (λ t. it_has c.number (map (λ (d : Call). d.number) (filter q (live h))) (maps (λ (d : Call). d.number) (filter q (live h)) (keeps q (live h) i t)))

twice : (b : Bool) → not (not b) ≡ b
twice true = refl
twice false = refl

-- they are those that the tick ended
pub gone_are : {I O : Type 0} (config : Config) (h : List BoardEntry) (now : ℕ) (calls : List Call) (x : Part I O) → IsFitting config h → calls ≡ named_live h calls
    → BoardIs config x (tick_entry h now calls ∷ h) → calls_gone h x ≡ calls
gone_are config h now calls (part.Board b) fits is stands =
    let e = tick_entry h now calls in
    let left : Call → Bool = λ (c : Call). not (has (map (λ (d : Call). d.number) calls) c.number) in
    let still : live (e ∷ h) ≡ filter left (live h) = live_step h e ∙ nothing_more (filter left (live h)) in
    let numbers : map (λ (call : LiveCall). call.number) b.calls.list ≡ map (λ (c : Call). c.number) (filter left (live h)) =
    numbers_shown config b.calls.list (map (call_view (e ∷ h)) (live (e ∷ h))) stands.1.calls_for ∙ views_numbers (e ∷ h) (live (e ∷ h))
    ∙ ap (map (λ (c : Call). c.number)) still in
    filter_alike (λ (c : Call). not (has (map (λ (call : LiveCall). call.number) b.calls.list) c.number)) (λ (c : Call). has (map (λ (d : Call). d.number) calls) c.number) (live h)
    (λ c i. ap (λ (ns : List ℕ). not (has ns c.number)) numbers ∙ ap not (kept_is config h left fits c i) ∙ twice (has (map (λ (d : Call). d.number) calls) c.number))
    ∙ sym is
gone_are config h now calls (part.Cell b) fits is stands = absurd stands
gone_are config h now calls (part.Pair b) fits is stands = absurd stands

-- The turn.

module _ {M I O T : Type 0} {g : _} where
  -- what the table records of the tick, by what the turn leaves
  abbrev pub made_after : Hand M (Part I O) Made T g → ℕ → ℕ → Part I O → Made
  made_after nested n now x = tick_made (board_history (made_by nested) n) now (calls_gone (board_history (made_by nested) n) x) (board_shape_in x)

  module _ (config : Config) (turns : Turns M (Part I O) Made T) (mid nested : Hand M (Part I O) Made T g) (turn : Turn M (Part I O) Made T) (now count : ℕ) (x : Part I O)
      (log : Option (List PortCall)) (calls : List Call) (begins : Begins config turns mid turn)
      (ends : EndsDue config (board_history (made_by mid) (front_of turn)) (front_of turn) (max now (board_last_moment (board_history (made_by mid) (front_of turn)))) mid nested count log calls)
      (stands : BoardIs config x (tick_entry (board_history (made_by mid) (front_of turn)) now calls ∷ board_history (made_by mid) (front_of turn))) where
    -- the nested entries of a tick change nothing of the board's history
    same_history : board_history (made_by nested) (front_of turn) ≡ board_history (made_by mid) (front_of turn)
    same_history =
        let h = board_history (made_by mid) (front_of turn) in
        nested_history config mid nested (front_of turn) (max now (board_last_moment h)) (front_of turn) (tick_entry h now calls) begins.orderly (ends.named, ends.none_passed) ends.gained

    pub made_is : made_after nested (front_of turn) now x ≡ tick_made (board_history (made_by mid) (front_of turn)) now calls (board_shape_in x)
    made_is =
        let h = board_history (made_by mid) (front_of turn) in
        ap (λ (k : List BoardEntry). tick_made k now (calls_gone k x) (board_shape_in x)) same_history
        ∙ ap (λ (those : List Call). tick_made h now those (board_shape_in x)) (gone_are config h now calls x (good_history config (made_by mid) begins.orderly (front_of turn)) ends.named stands)

    -- the board that was taken relates to the one that ended the calls that were due
    pub tick_relates : (it : I → EndLog InCall) (ic : I → ℕ) (ot : O → EndLog OutCall) (oc : O → ℕ) (old : Part I O)
        → BoardIs config old (board_history (made_by mid) (front_of turn)) → Relates it ic ot oc old (made_after nested (front_of turn) now x) x
    tick_relates it ic ot oc old was =
        let h = board_history (made_by mid) (front_of turn) in
        subst (λ (m : Made). Relates it ic ot oc old m x) (sym made_is)
        (relates_put it ic ot oc config h old x (tick_made h now calls (board_shape_in x)) (Tick calls) refl refl refl was refl (ends.named, ends.none_passed) stands)

    -- the tick's entry was put
    pub tick_ends : (old new : Hand M (Part I O) Made T g) (outcome : T) → IsBetween config turns old → IsSameHand old mid × (entries mid ≡ entries old) → GainsTurn 0 turn old mid
        → IsSameHand mid nested × SameTurns mid nested → IsSameHand nested new
        → EndsTurn (place_of turn) (front_of turn) (made_after nested (front_of turn) now x) outcome nested new
        → (shape : BoardShape) → board_shape_in x ≡ Some shape → IsWholeWith config nested shape → Ended config turns old new (tick_entry (board_of (made_by old)) now calls)
    tick_ends old new outcome b same turned sames again ended shape kept whole =
        let h = board_history (made_by mid) (front_of turn) in
        subst (λ (k : List BoardEntry). Ended config turns old new (tick_entry k now calls)) (begins_whole config turns old mid turn same.1 begins)
        (turn_ends config turns old mid nested new turn (tick_made h now calls (board_shape_in x)) outcome (Tick calls) (max now (board_last_moment h)) b same turned begins.above sames ends.gained refl refl refl
        (ends.named, ends.none_passed) again (subst (λ (m : Made). EndsTurn (place_of turn) (front_of turn) m outcome nested new) made_is ended)
        shape kept whole)

  -- what is known when the board's turn was taken for a tick, which goes on with this number and moment
  pub record TickBegins (config : Config) (mid : Hand M (Part I O) Made T g) (turn : Turn M (Part I O) Made T) (number moment now : ℕ) : Type 0 where
    pub number_is : number ≡ front_of turn
    pub moment_is : moment ≡ max now (board_last_moment (board_history (made_by mid) (front_of turn)))
    pub fits : IsFitting config (board_history (made_by mid) (front_of turn))

  pub tick_begins : (config : Config) (turns : Turns M (Part I O) Made T) (mid : Hand M (Part I O) Made T g) (turn : Turn M (Part I O) Made T) (number moment now : ℕ)
      (x : Part I O) (was advanced : board.Board) → Begins config turns mid turn → number ≡ front_of turn → x ≡ state_of turn → x ≡ part.Board was
      → ((config : Config) (v : View) → BoardMatches config was v → BoardMatches config advanced (view_at_moment v now) × (moment ≡ max now v.moment))
      → TickBegins config mid turn number moment now
  tick_begins config turns mid turn number moment now x was advanced begins number_is state_is is advances =
      let h = board_history (made_by mid) (front_of turn) in
      let stands = stood config h x was is (moved config h (state_of turn) x state_is begins.board) in
      record { number_is = number_is; moment_is = (advances config (view_of config h) stands.1).1; fits = stands.0 }

  -- the calls that were due have ended
  pub tick_ended : (config : Config) (mid nested left : Hand M (Part I O) Made T g) (turn : Turn M (Part I O) Made T) (number moment now count : ℕ) (new : board.Board)
      (log : Option (List PortCall)) → TickBegins config mid turn number moment now → nested ≡ left
      → (calls : List Call) × EndsDue config (board_history (made_by mid) number) number moment mid nested count log calls
      × BoardFor config new (tick_at moment calls ∷ board_history (made_by mid) number)
      → (calls : List Call) × EndsDue config (board_history (made_by mid) (front_of turn)) (front_of turn) (max now (board_last_moment (board_history (made_by mid) (front_of turn)))) mid left
      count log calls
      × BoardIs {I = I} {O = O} config (part.Board new) (tick_entry (board_history (made_by mid) (front_of turn)) now calls ∷ board_history (made_by mid) (front_of turn))
  tick_ended config mid nested left turn number moment now count new log b same ends =
      let h = board_history (made_by mid) (front_of turn) in
      let there = subst (λ (k : ℕ). (calls : List Call) × EndsDue config (board_history (made_by mid) k) k moment mid nested count log calls
      × BoardFor config new (tick_at moment calls ∷ board_history (made_by mid) k)) b.number_is ends in
      let at = subst (λ (m : ℕ). (calls : List Call) × EndsDue config h (front_of turn) m mid nested count log calls × BoardFor config new (tick_at m calls ∷ h)) b.moment_is there in
      let owed = subst (λ (hand : Hand M (Part I O) Made T g). EndsDue config h (front_of turn) (max now (board_last_moment h)) mid hand count log at.0) same at.1 in
      (at.0, owed, (((at.1.named, at.1.none_passed), b.fits), at.2))

  -- which calls are due is said of the hand before its turn
  pub due_before_turn : (config : Config) (old mid : Hand M (Part I O) Made T g) (n now : ℕ) (calls : List Call) → IsSameHand old mid → entries mid ≡ entries old
      → board_history (made_by mid) n ≡ board_of (made_by old)
      → AreDue config (board_history (made_by mid) n) (max now (board_last_moment (board_history (made_by mid) n))) mid calls
      → AreDue config (board_of (made_by old)) (max now (board_last_moment (board_of (made_by old)))) old calls
  due_before_turn config old mid n now calls same list whole due all c i =
      let moment = max now (board_last_moment (board_of (made_by old))) in
      let by = subst (λ (h : List BoardEntry). AreDue config h (max now (board_last_moment h)) mid calls) whole due in
      subst (λ (rows : List (table.Entry Made T)). EndsRightly config (board_of (made_by old)) (list_of rows) moment c (has (map (λ (d : Call). d.number) calls) c.number)) list
      (by (same.2 ∙ all) c i)
