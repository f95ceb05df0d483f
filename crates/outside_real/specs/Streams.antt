-- What a stream holds that lines are written to.
use Rattle.std.specs.Prelude.{ℕ, Option, List}

-- a line sink over a stream: the bytes that the stream holds, where they are known, and the sink's count of faults
pub record Written : Type 0 where
  pub bytes : Option (List ℕ)
  pub faults : ℕ
