use Rattle.std.proofs.Common.{◌*◌, arith, sym, ap, ◌∙◌}
use Rattle.std.specs.List.{flat_map}
use Rattle.std.proofs.lemmas.List.{take_all}
use Rattle.replay_window.specs.SavedWindows.{saved_window}
use Rattle.srtp_sources.specs.SavedWindowLists.{saved_windows}
use Rattle.srtp_sources.proofs.windows.save_windows.Goals as goal

pub returns-clause-saved : goal.returns-clause-saved
unfolding saved_windows
returns-clause-saved c =
    sym (take_all (25 * c.places.place) c.places.bytes (omega arith)) ∙ c.places.invariant.written
    ∙ ap (flat_map saved_window) (take_all c.places.place c.args.windows.now (omega arith))
