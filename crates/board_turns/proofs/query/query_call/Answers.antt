use Rattle.std.proofs.Common.{refl, sym, subst, ℕ, [], ◌∷◌, arith}
use Rattle.relay_outside.specs.declared.settings.Config.{Config}
use Rattle.call_cell.specs.Cells.{Read}
use Rattle.call_board.specs.Acts.{Call}
use Rattle.call_board.specs.Shapes.{board_shape}
use Rattle.call_board.specs.Views.{call_view, view_of, view_at_moment}
use Rattle.call_board.proofs.Cells.{live_cell}
use Rattle.call_board.proofs.Found.{found_is_live}
use Rattle.relay_core.specs.Entries.{board_history}
use Rattle.relay_core.specs.KeptAfter.{IsWholeWith}
use Rattle.relay_core.specs.Turns.{GainsNested, made_by}
use Rattle.relay_core.proofs.Histories.{good_history}
use Rattle.relay_core.proofs.KeysOnce.{keys_once}
use Rattle.board_turns.specs.InCells.{in_cell_of}
use Rattle.board_turns.proofs.ReadCalls.{is_numbered_so, cell_told, nothing_read}
use Rattle.board_turns.proofs.KeptTold.{told_whole}
use Rattle.board_turns.proofs.Staying.{same_config}
use Rattle.board_turns.proofs.Tying.{ties_gained}
use Rattle.board_turns.proofs.query.query_call.Goals as goal

pub cell_of-cell-requires : goal.cell_of-cell-requires
cell_of-cell-requires g c =
    let config = c.args.turn.now.main.config.now in
    let l = made_by c.args.turn.now.main.hand.now in
    let h = board_history l c.args.turn.now.main.entry_id.number in
    let of : Call = c.requires.live.0 in
    let turn = c.requires.begins.in_turn in
    found_is_live config c.args.turn.now.board.now (view_at_moment (view_of config h) c.args.turn.now.main.entry_id.moment) c.args.call (call_view h of) turn.shows
    (is_numbered_so config h c.args.turn.now.main.entry_id.moment of c.args.call (good_history config l turn.orderly c.args.turn.now.main.entry_id.number) c.requires.live.1 c.requires.live.2)

pub read_cell-requires-clause-may : goal.read_cell-requires-clause-may
read_cell-requires-clause-may g c = let turn = c.requires.begins.in_turn in turn.may

pub read_cell-requires-clause-cell : goal.read_cell-requires-clause-cell
read_cell-requires-clause-cell g c =
    let config = c.args.turn.now.main.config.now in
    let l = made_by c.args.turn.now.main.hand.now in
    let h = board_history l c.args.turn.now.main.entry_id.number in
    let of : Call = c.requires.live.0 in
    let turn = c.requires.begins.in_turn in
    let fits = good_history config l turn.orderly c.args.turn.now.main.entry_id.number in
    let at = cell_told config h c.args.turn.now.main.entry_id.moment of c.args.call c.cell_of-cell.result fits c.requires.live.1 c.requires.live.2
    (c.cell_of-cell.ensures.live config (view_at_moment (view_of config h) c.args.turn.now.main.entry_id.moment) turn.shows) in
    let within = live_cell config h of fits c.requires.live.1 in
    (omega (arith, at, within.0), omega (arith, at, within.1))

pub read_cell-requires-clause-keys : goal.read_cell-requires-clause-keys
read_cell-requires-clause-keys g c n above =
    let turn = c.requires.begins.in_turn in
    keys_once c.args.turn.now.main.config.now (made_by c.args.turn.now.main.hand.now) turn.orderly c.cell_of-cell.result n

pub returns-clause-gained : goal.returns-clause-gained
returns-clause-gained g c of alive number =
    let config = c.args.turn.now.main.config.now in
    let l = made_by c.args.turn.now.main.hand.now in
    let h = board_history l c.args.turn.now.main.entry_id.number in
    let turn = c.requires.begins.in_turn in
    let at = cell_told config h c.args.turn.now.main.entry_id.moment of c.args.call c.cell_of-cell.result (good_history config l turn.orderly c.args.turn.now.main.entry_id.number) alive number
    (c.cell_of-cell.ensures.live config (view_at_moment (view_of config h) c.args.turn.now.main.entry_id.moment) turn.shows) in
    subst (λ (k : ℕ). GainsNested c.args.turn.now.main.entry_id.number c.args.turn.now.main.entry_id.moment (in_cell_of k (Read c.read_cell.new.out) ∷ []) c.args.turn.now.main.hand.now c.read_cell.new.main.hand.now) at
    c.read_cell.ensures.gained

pub returns-clause-works : goal.returns-clause-works
returns-clause-works g c =
    let main = c.args.turn.now.main in
    let new = c.read_cell.new.main in
    let shape = board_shape c.args.turn.now.board.now in
    record {
      stays = record {
        nests = c.read_cell.ensures.nests;
        devices = record { board_is = refl; ports_are = refl; gone_is = refl };
        replies = refl;
        later = omega arith;
      };
      ties = ties_gained main.config.now (g.P.PortMaker.log c.args.turn.now.ports.now) main.entry_id.number main.entry_id.moment (in_cell_of c.cell_of-cell.result (Read c.read_cell.new.out) ∷ [])
          main.hand.now c.read_cell.new.main.hand.now c.read_cell.ensures.gained (nothing_read c.cell_of-cell.result c.read_cell.new.out);
      empty = c.requires.begins.empty;
      whole = λ w. subst (λ (k : Config). IsWholeWith k new.hand.now shape) (sym (same_config main new c.read_cell.ensures.nests))
          (told_whole main.config.now main.entry_id.number main.entry_id.moment main.hand.now new.hand.now c.read_cell.ensures.nests.same.1 c.cell_of-cell.result (Read c.read_cell.new.out)
          shape (λ s. refl) c.read_cell.ensures.gained w);
    }
