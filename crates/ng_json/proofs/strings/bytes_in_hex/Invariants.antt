use Rattle.std.proofs.Common.{◌≡◌, ◌+◌, ◌*◌, ◌≤◌, ◌++◌, length, option_map}
use Rattle.ng_json.specs.Strings.{bytes_in_hex}
use Rattle.ng_json.proofs.strings.bytes_in_hex.Given as goal

-- the bytes so far, with those that the rest stands for, are those of the whole
abbrev pub invariant-digits : goal.invariant-digits
invariant-digits l = record {
  read : bytes_in_hex l.digits ≡ option_map (λ more. l.bytes.list ++ more) (bytes_in_hex l.rest);
  room : length l.rest ≤ 2 * l.bytes.spare + 1;
}

abbrev pub decreases-digits : goal.decreases-digits
decreases-digits l = length l.rest
