use Rattle.call_board.proofs.Idle.{undone_changes}
use Rattle.ng_server.proofs.Errors.{leaves_all}
use Rattle.ng_server.proofs.law.errors_change_nothing.Goals as goal

pub returns-clause-idle : goal.returns-clause-idle
returns-clause-idle c = leaves_all

pub returns-clause-undone : goal.returns-clause-undone
returns-clause-undone c = λ config h e control code leases draws is acts fits.
    let u = undone_changes config e h code leases draws (record { control = control; is_turn = is; acts = acts }) fits in
    record {
      same_live = u.same_live;
      same_rounds = u.same_rounds;
      same_due = u.same_due;
      same_held = u.same_held;
      still_free = u.still_free;
      free_before = u.free_before;
      draws_are_used = u.draws_are_used;
    }
