use Rattle.std.proofs.Common.{◌≡◌, ◌≤◌, min, take, true}
use Rattle.std.specs.List.{list_all}
use Rattle.sdp_text.specs.Pieces.{is_digit, decimal_value}
use Rattle.sdp_text.proofs.piece.read_number.Given as goal

-- what the digits so far say
abbrev pub invariant-loop-byte : goal.invariant-loop-byte
invariant-loop-byte l = record {
  limit : l.value ≤ l.greatest;
  digits : list_all is_digit (take l.byte-index l.text) ≡ true;
  value : l.value ≡ min l.greatest (decimal_value (take l.byte-index l.text));
}
