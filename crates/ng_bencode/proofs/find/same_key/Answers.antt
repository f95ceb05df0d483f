use Rattle.std.proofs.Common.{sym}
use Rattle.ng_bencode.proofs.Finding.{other_length}
use Rattle.ng_bencode.proofs.find.same_key.Goals as goal

pub returns-then-a-b : goal.returns-then-a-b
returns-then-a-b c = sym (other_length _ _ c.if-a-b.true)
