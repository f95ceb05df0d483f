use Rattle.std.proofs.Common.{◌≡◌, map, take}
use Rattle.relay_outside.specs.declared.settings.Config.{Config}
use Rattle.ng_bencode.specs.Row.{list_in}
use Rattle.ng_bencode.specs.Tree.{Bytes, tree_of}
use Rattle.call_board.specs.Views.{CallView, View}
use Rattle.call_board.specs.Boards.{BoardMatches}
use Rattle.call_report.proofs.live_calls.call_ids.Given as goal

abbrev pub invariant-calls : goal.invariant-calls
invariant-calls l = (config : Config) (v : View) → BoardMatches config l.board v →
    map tree_of (list_in l.call_ids) ≡ map Bytes (take l.index (map (λ (c : CallView). c.of.id) v.calls))
