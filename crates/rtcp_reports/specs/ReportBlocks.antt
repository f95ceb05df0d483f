-- The report blocks of RTCP packets (RFC 3550, sections 6.4.1 and 6.4.2).
use Rattle.std.specs.Prelude.{ℕ, ℤ, pos, ◌+◌, ◌*◌, ◌%◌, ◌==◌, ◌^◌, ◌-ℤ◌, List, [], length, slice_index, nat_lt, nat_le, map, filter, Option, Some, None, if◌then◌else◌}
use Rattle.std.specs.List.{flat_map}
use Rattle.histories.specs.Words.{numbers, final}
use Rattle.rtp_packet.specs.Head.{u16_at, u32_at}
use Rattle.rtcp_reports.specs.declared.block.Block.{Block}
use Rattle.rtcp_reports.specs.Compound.{compound_parts}

-- the number with a sign that 24 bits are, in two's complement
abbrev pub signed_24 : ℕ → ℤ
signed_24 bits = if nat_lt bits 8388608 then pos bits else pos bits -ℤ pos 16777216

-- the number that three bytes spell from a place on, the most significant first
abbrev pub u24_at : List ℕ → ℕ → ℕ
u24_at part place = 65536 * slice_index part place + u16_at part (place + 1)

-- the block that stands at a place: the source, the fraction lost, the number lost with its sign, the highest sequence number received,
-- and the jitter
abbrev pub block_at : List ℕ → ℕ → Block
block_at part place = record {
  ssrc = u32_at part place;
  fraction = slice_index part (place + 4);
  lost = signed_24 (u24_at part (place + 5));
  highest = u32_at part (place + 8);
  jitter = u32_at part (place + 12);
}

-- where the blocks of a report begin, by its packet type: after 28 bytes in a sender report, after 8 in a receiver report; no other
-- packet has blocks
abbrev pub blocks_begin : ℕ → Option ℕ
blocks_begin packet_type = if packet_type == 200 then Some 28 else if packet_type == 201 then Some 8 else None

-- where blocks stand that begin there, as many as the count in the first byte says: each has 24 bytes
abbrev pub stated_places : List ℕ → ℕ → List ℕ
stated_places part begin = map (λ n. begin + 24 * n) (numbers 0 (slice_index part 0 % 32))

-- those that lie inside the part
abbrev pub block_places : List ℕ → Option ℕ → List ℕ
block_places part None = []
block_places part (Some begin) = filter (λ place. nat_le (place + 24) (length part)) (stated_places part begin)

-- the blocks of a part
unfoldable pub report_blocks : List ℕ → List Block
report_blocks part = map (block_at part) (block_places part (blocks_begin (slice_index part 1)))

-- the last block of the last part that has one, which is the last of all blocks of all parts; none where there is none
unfoldable pub last_report_block : List ℕ → Option Block
last_report_block packet = final (flat_map report_blocks (compound_parts packet))
