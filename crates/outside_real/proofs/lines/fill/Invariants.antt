use Rattle.std.proofs.Common.{◌≢◌, take}
use Rattle.std.specs.List.{All}
use Rattle.std.specs.Io.KnownBytes.{Consumes}
use Rattle.outside_real.proofs.lines.fill.Given as goal

abbrev pub invariant-bytes : goal.invariant-bytes
invariant-bytes g l = record {
  without : All (λ byte. byte ≢ 10) (take l.place l.buf);
  lost : Consumes (g.R.Read.remaining l.fn.stream) (g.R.Read.remaining l.stream) (take l.place l.buf);
}
