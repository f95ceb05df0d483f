use Rattle.std.proofs.Common.{◌≡◌, ◌≤◌, ◌<◌, ◌*◌, ◌+◌, take, true, fold}
use Rattle.std.specs.List.{list_all}
use Rattle.sdp_text.specs.Hosts.{is_hex, hex_value}
use Rattle.sdp_text.proofs.group.read_group.Given as goal

-- what the digits so far say
abbrev pub invariant-loop-byte : goal.invariant-loop-byte
invariant-loop-byte l = record {
  none : l.byte-index ≤ 0 → l.value < 1;
  one : l.byte-index ≤ 1 → l.value < 16;
  two : l.byte-index ≤ 2 → l.value < 256;
  three : l.byte-index ≤ 3 → l.value < 4096;
  four : l.byte-index ≤ 4 → l.value < 65536;
  digits : list_all is_hex (take l.byte-index l.text) ≡ true;
  value : l.value ≡ fold (λ n byte. 16 * n + hex_value byte) 0 (take l.byte-index l.text);
}
