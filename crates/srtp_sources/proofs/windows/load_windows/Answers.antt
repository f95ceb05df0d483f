use Rattle.std.proofs.Common.{◌≡◌, ◌+◌, ◌*◌, ◌<◌, ◌++◌, List, ℕ, length, take, arith, sym, ap, ◌∙◌, length-set}
use Rattle.std.specs.List.{flat_map}
use Rattle.std.proofs.lemmas.List.{take_all}
use Rattle.std.proofs.lemmas.List.Elements.{AllWithin-more_set}
use Rattle.replay_window.specs.SavedWindows.{FitsWindow, saved_window}
use Rattle.srtp_sources.specs.SavedWindowLists.{saved_windows}
use Rattle.srtp_sources.proofs.Pieces.{piece_more_set, part_more}
use Rattle.srtp_sources.proofs.SavedLists.{if_none, no_windows}
use Rattle.srtp_sources.proofs.windows.load_windows.Goals as goal

pub returns-in_err-windows-clause-none : goal.returns-in_err-windows-clause-none
returns-in_err-windows-clause-none c =
    if_none c.from_residual.result _
    (λ windows fits is. no_windows windows c.args.bytes.now c.places.place c.places-test.true c.in_err-windows.ensures.none fits is)

pub places-preserved : goal.places-preserved
places-preserved c =
    let at = c.places.place in
    let window = c.in_ok-windows.field-0 in
    let held : at < length c.places.windows = omega arith in
    let step : 25 * at + 25 ≡ 25 * (at + 1) = omega arith in
    record {
      long = length-set c.places.windows at window ∙ c.places.invariant.long;
      fit = AllWithin-more_set c.places.windows at window held FitsWindow c.places.invariant.fit c.in_ok-windows.ensures.some.0;
      read =
          piece_more_set saved_window c.places.windows at window held
          ∙ ap (λ (l : List ℕ). l ++ saved_window window) c.places.invariant.read
          ∙ ap (λ (l : List ℕ). take (25 * at) c.args.bytes.now ++ l) c.in_ok-windows.ensures.some.1
          ∙ part_more c.args.bytes.now (25 * at) 25 ∙ ap (λ (n : ℕ). take n c.args.bytes.now) step;
    }

pub returns-clause-some : goal.returns-clause-some
unfolding saved_windows
returns-clause-some c = (
  record {
    places = c.places.invariant.long;
    each = λ k d held. c.places.invariant.fit k d (omega arith) (omega arith);
  },
  ap (flat_map saved_window) (sym (take_all c.places.place c.places.windows (omega arith))) ∙ c.places.invariant.read
      ∙ take_all (25 * c.places.place) c.args.bytes.now (omega arith),
)
