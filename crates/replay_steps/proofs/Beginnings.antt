-- What holds before the first step.
use Rattle.std.proofs.Common.{◌≡◌, ◌∙◌, sym, subst, ap, ℕ, List, [], Option, Some}
use Rattle.relay_outside.specs.declared.ports.PortCall.{PortCall}
use Rattle.turn_table.specs.Hands.{parts}
use Rattle.call_board.specs.Acts.{BoardEntry}
use Rattle.call_board.specs.Pairs as pairs
use Rattle.relay_core.specs.Turns.{made_by}
use Rattle.media_ports.specs.OpenPorts.{LogsHeld}
use Rattle.board_turns.specs.Between.{IsBetween}
use Rattle.board_turns.specs.CallEnds.{leg_pairs}
use Rattle.board_turns.proofs.Firsts.{first_board, none_open}
use Rattle.replay_steps.specs.declared.state.Replayer.{Replayer}
use Rattle.replay_steps.specs.declared.state.ReplayState.{ReplayState}
use Rattle.replay_steps.specs.Receipts.{ReceiptList, AreReceipts}
use Rattle.replay_steps.specs.Ready.{IsReplayReady, course_at}
use Rattle.replay_steps.specs.Steps.{course_of, at_first}
use Rattle.replay_steps.proofs.Courses.{same_receipts}

module _ {R : Type 0} (replayer : Replayer R) (state : ReplayState) (nothing : made_by state.hand ≡ []) (none : state.receipts ≡ record { list = []; received = 0; room = 64 }) where
  pub ready_first : replayer.config ≡ replayer.server.config → IsBetween replayer.server.config replayer.server.turns state.hand → parts state.hand ≡ 1024 → state.devices.ports.log ≡ Some []
      → IsReplayReady replayer state
  ready_first is between all log =
      let config = replayer.server.config in record {
        config_is = is;
        between = between;
        opens = subst (λ (h : List BoardEntry). LogsHeld config state.devices.ports.log (leg_pairs (pairs.held h))) (sym (first_board (made_by state.hand) nothing))
            (subst (λ (t : Option (List PortCall)). LogsHeld config t []) (sym log) (none_open config));
        receipts = subst (λ (list : ReceiptList). AreReceipts config (made_by state.hand) list.list) (sym none) tt;
        room = ap (λ (list : ReceiptList). list.room) none;
        all = all;
      }

  pub course_first : state.clock ≡ 0 → course_at state [] ≡ at_first
  course_first clock_is =
      ap (λ (n : ℕ). course_of (made_by state.hand) state.receipts n []) clock_is ∙ same_receipts [] (made_by state.hand) (record { list = []; received = 0; room = 64 }) state.receipts 0 [] nothing none
