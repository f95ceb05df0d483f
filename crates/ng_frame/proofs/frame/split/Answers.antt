use Rattle.std.proofs.Common.{sym, subst, take, arith, ◌+◌}
use Rattle.ng_frame.specs.Frame.{IsFrame}
use Rattle.ng_frame.proofs.Framed.{first_space, in_time, real_here, rest_all}
use Rattle.ng_frame.proofs.frame.split.Goals as goal
use Rattle.ng_frame.proofs.frame.split.Goals.{then-at-lt-MIN_COOKIE-via-then-at-lt-MIN_COOKIE, then-at-lt-MIN_COOKIE-via-else-at-lt-MIN_COOKIE+then-at-gt-MAX_COOKIE}

pub returns-in_default-clause-missing : goal.returns-in_default-clause-missing
returns-in_default-clause-missing c cookie body is =
    let first = first_space c.args.datagram.now cookie body is in
    let place = c.first_space.ensures.place in
    let none = c.in_default.is in
    cc

pub returns-then-at-lt-MIN_COOKIE-clause-missing : goal.returns-then-at-lt-MIN_COOKIE-clause-missing
returns-then-at-lt-MIN_COOKIE-clause-missing c cookie body is =
    let t = in_time c.args.datagram.now cookie body is c.in-Some.at c.in-Some.ensures.place in
    elim c.then-at-lt-MIN_COOKIE.branch [
      | then-at-lt-MIN_COOKIE-via-then-at-lt-MIN_COOKIE w ↦ omega (arith, t.0)
      | then-at-lt-MIN_COOKIE-via-else-at-lt-MIN_COOKIE+then-at-gt-MAX_COOKIE w ↦ omega (arith, t.1)
    ]

pub returns-clause-found : goal.returns-clause-found
returns-clause-found c =
    subst (λ rest. IsFrame c.args.datagram.now (take c.in-Some.at c.args.datagram.now) rest) (sym (rest_all (c.in-Some.at + 1) c.args.datagram.now))
    (real_here c.args.datagram.now c.in-Some.at (sym c.in-Some.ensures.place) (omega arith) (omega arith))
