use Rattle.std.proofs.Common.{◌≤◌, length, drop}
use Rattle.ng_bencode.specs.Fits.{IsFreeOf}
use Rattle.relay_script.proofs.fields.last_colon.Given as goal

-- no colon from here on
abbrev pub invariant-loop-at : goal.invariant-loop-at
invariant-loop-at l = record {
  within : l.at ≤ length l.text;
  free : IsFreeOf 58 (drop l.at l.text);
}

abbrev pub decreases-loop-at : goal.decreases-loop-at
decreases-loop-at l = l.at
