-- What a step leaves of what holds between two steps.
use Rattle.std.proofs.Common.{◌≡◌, ◌∙◌, refl, sym, subst, ap, ℕ, ◌+◌, ◌≤◌, true, arith, List, Option}
use Rattle.relay_outside.specs.declared.ports.PortCall.{PortCall}
use Rattle.relay_outside.specs.declared.settings.Config.{Config}
use Rattle.turn_table.specs.declared.hands.Turns.{Turns}
use Rattle.turn_table.specs.declared.hands.Hand.{Hand}
use Rattle.turn_table.specs.Hands.{IsSameHand, parts}
use Rattle.call_board.specs.Acts.{BoardEntry}
use Rattle.relay_core.specs.declared.part.Part.{Part}
use Rattle.relay_core.specs.Records.{Made}
use Rattle.relay_core.specs.Turns.{made_by}
use Rattle.board_turns.specs.Between.{board_of, IsBetween}
use Rattle.media_lane.specs.Steps.{KeepsReceipts}
use Rattle.ng_server.specs.Servers.{OpensJust, history_of}
use Rattle.relay_script.specs.Steps.{Step}
use Rattle.replay_devices.specs.Devices.{Happening}
use Rattle.replay_devices.specs.Watch.{WatchState}
use Rattle.replay_steps.specs.declared.state.Replayer.{Replayer}
use Rattle.replay_steps.specs.declared.state.ReplayState.{ReplayState}
use Rattle.replay_steps.specs.declared.ended.Untold.TheVariants as untold
use Rattle.replay_steps.specs.declared.step.Stepped.{Stepped}
use Rattle.replay_steps.specs.declared.step.Stepped.TheVariants as stepped
use Rattle.replay_steps.specs.Receipts.{ReceiptList, AreReceipts}
use Rattle.replay_steps.specs.Steps.{Course, course_of, calls_devices, OfStep}
use Rattle.replay_steps.specs.WatchNotes.{StepsSo}
use Rattle.replay_steps.specs.Ready.{IsReplayReady, course_at}
use Rattle.replay_steps.specs.Moves.{MakesStep}
use Rattle.replay_steps.proofs.Holdings.{receipts_kept}
use Rattle.replay_steps.proofs.Watchings.{steps_unwatched, steps_less}

-- the same by another name of the table and the configuration
pub moved_between : {M I O T : Type 0} {g : _} (config same : Config) (turns like : Turns M (Part I O) Made T) (hand : Hand M (Part I O) Made T g) → config ≡ same → turns ≡ like
    → IsBetween config turns hand → IsBetween same like hand
moved_between {M} {I} {O} {T} config same turns like hand p q between =
    subst (λ (t : Turns M (Part I O) Made T). IsBetween same t hand) q (subst (λ (c : Config). IsBetween c turns hand) p between)

module _ {R : Type 0} (replayer : Replayer R) (before after : ReplayState) (ready : IsReplayReady replayer before) where
  -- where only what it says nothing of has changed
  pub ready_still : after.hand ≡ before.hand → after.devices.ports.log ≡ before.devices.ports.log → after.receipts ≡ before.receipts → IsReplayReady replayer after
  ready_still hand_is log held = record {
    config_is = ready.config_is;
    between = subst (λ h. IsBetween replayer.server.config replayer.server.turns h) (sym hand_is) ready.between;
    opens = subst (λ (t : Option (List PortCall)). OpensJust replayer.server.config (history_of after.hand) t) (sym log)
        (subst (λ h. OpensJust replayer.server.config (history_of h) before.devices.ports.log) (sym hand_is) ready.opens);
    receipts = subst (λ (list : ReceiptList). AreReceipts replayer.server.config (made_by after.hand) list.list) (sym held)
        (subst (λ h. AreReceipts replayer.server.config (made_by h) before.receipts.list) (sym hand_is) ready.receipts);
    room = subst (λ (list : ReceiptList). list.room ≡ 64) (sym held) ready.room;
    all = ap (λ h. parts h) hand_is ∙ ready.all;
  }

  -- after a turn of the board, which keeps the receipts
  pub ready_after : IsSameHand before.hand after.hand → IsBetween replayer.server.config replayer.server.turns after.hand
      → OpensJust replayer.server.config (history_of after.hand) after.devices.ports.log → KeepsReceipts replayer.server.config (made_by before.hand) (made_by after.hand)
      → after.receipts ≡ before.receipts → IsReplayReady replayer after
  ready_after same between opens keeps held = record {
    config_is = ready.config_is;
    between = between;
    opens = opens;
    receipts = subst (λ (list : ReceiptList). AreReceipts replayer.server.config (made_by after.hand) list.list) (sym held)
        (receipts_kept replayer.server.config (made_by before.hand) (made_by after.hand) before.receipts.list keeps ready.receipts);
    room = subst (λ (list : ReceiptList). list.room ≡ 64) (sym held) ready.room;
    all = same.2 ∙ ready.all;
  }

  -- after a take or a relay, which changes nothing of the board
  pub ready_again : IsSameHand before.hand after.hand → IsBetween replayer.server.config replayer.server.turns after.hand → board_of (made_by after.hand) ≡ board_of (made_by before.hand)
      → after.devices.ports.log ≡ before.devices.ports.log → after.receipts ≡ before.receipts → AreReceipts replayer.server.config (made_by after.hand) before.receipts.list
      → IsReplayReady replayer after
  ready_again same between board log held receipts = record {
    config_is = ready.config_is;
    between = between;
    opens = subst (λ (t : Option (List PortCall)). OpensJust replayer.server.config (history_of after.hand) t) (sym log)
        (subst (λ (h : List BoardEntry). OpensJust replayer.server.config h before.devices.ports.log) (sym board) ready.opens);
    receipts = subst (λ (list : ReceiptList). AreReceipts replayer.server.config (made_by after.hand) list.list) (sym held) receipts;
    room = subst (λ (list : ReceiptList). list.room ≡ 64) (sym held) ready.room;
    all = same.2 ∙ ready.all;
  }

-- where other receipts are held
pub ready_holding : {R : Type 0} (replayer : Replayer R) (state : ReplayState) (held : ReceiptList) → IsReplayReady replayer state
    → AreReceipts replayer.server.config (made_by state.hand) held.list → held.room ≡ state.receipts.room
    → IsReplayReady replayer (record { hand = state.hand; desk = state.desk; devices = state.devices; watch = state.watch; receipts = held; clock = state.clock })
ready_holding replayer state held ready receipts room = record {
  config_is = ready.config_is;
  between = ready.between;
  opens = ready.opens;
  receipts = receipts;
  room = room ∙ ready.room;
  all = ready.all;
}

-- a step that leaves all as it was
pub stays : {R : Type 0} (replayer : Replayer R) (line : Step) (did : Stepped) (state : ReplayState) → IsReplayReady replayer state
    → (did ≡ stepped.Untold untold.DeviceFault → calls_devices line ≡ true)
    → ((seed : ℕ) (past : List Happening) → OfStep replayer.server.config seed (course_at state past) line did (course_at state past)) → MakesStep replayer line did state state
stays replayer line did state ready differs here = record {
  same = (refl, refl, refl, refl);
  ready = ready;
  received = omega arith;
  differs = differs;
  steps = λ seed.
      steps_unwatched replayer.server.config seed did state.watch
      (λ past past_now. OfStep replayer.server.config seed (course_at state past) line did (course_at state past_now)) (λ past s. here seed past);
}

-- where a replay is after what changes neither what is held nor the clock
at_last : (held : ReceiptList) (clock : ℕ) (after : ReplayState) (past : List Happening) → after.receipts ≡ held → after.clock ≡ clock
    → course_of (made_by after.hand) held clock past ≡ course_at after past
at_last held clock after past p q =
    ap (λ (w : ReceiptList). course_of (made_by after.hand) w clock past) (sym p) ∙ ap (λ (n : ℕ). course_of (made_by after.hand) after.receipts n past) (sym q)

pub steps_at : (config : Config) (seed : ℕ) (line : Step) (did : Stepped) (from : List Happening → Course) (old : WatchState) (held : ReceiptList) (clock : ℕ) (after : ReplayState)
    → after.receipts ≡ held → after.clock ≡ clock
    → StepsSo config seed did old after.watch (λ past past_now. OfStep config seed (from past) line did (course_of (made_by after.hand) held clock past_now))
    → StepsSo config seed did old after.watch (λ past past_now. OfStep config seed (from past) line did (course_at after past_now))
steps_at config seed line did from old held clock after p q so =
    steps_less config seed did old after.watch (λ past past_now. OfStep config seed (from past) line did (course_of (made_by after.hand) held clock past_now))
    (λ past past_now. OfStep config seed (from past) line did (course_at after past_now))
    (λ past past_now of. subst (λ (r : Course). OfStep config seed (from past) line did r) (at_last held clock after past_now p q) of) so

-- as many receipts were given out as before
pub as_many : (before after : ReplayState) (held : ReceiptList) → after.receipts ≡ held → held.received ≡ before.receipts.received → after.receipts.received ≤ before.receipts.received + 1
as_many before after held p q = let n = ap (λ (w : ReceiptList). w.received) p ∙ q in omega (arith, n)
