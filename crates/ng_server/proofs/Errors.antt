-- What a datagram with an error as its reply leaves as it was.
use Rattle.std.proofs.Common.{◌≡◌, refl, List, true}
use Rattle.relay_outside.specs.declared.settings.Config.{Config}
use Rattle.call_board.specs.Acts as act
use Rattle.call_board.specs.Acts.{Act, Control, Turn, BoardEntry}
use Rattle.call_board.proofs.Idle as idle
use Rattle.call_board.proofs.Idle.{idle_changes_nothing}
use Rattle.ng_server.specs.Errors.{is_idle, LeavesAll}

same_idle : (a : Act) → is_idle a ≡ true → idle.is_idle a ≡ true
same_idle act.Repeated is = refl
same_idle act.OutOfMemory is = refl
same_idle (act.Failed code) is = refl
same_idle (act.Queried of) is = refl
same_idle act.Told is = refl
same_idle (act.Delayed of seconds) is = is
same_idle (act.Undone code leases draws) is = is
same_idle (act.Offered o) is = is
same_idle (act.Answered x) is = is
same_idle (act.Deleted of) is = is

pub leaves_all : (config : Config) (h : List BoardEntry) (e : BoardEntry) (c : Control) → e.event ≡ Turn c → is_idle c.act ≡ true → LeavesAll config e h
leaves_all config h e c is idles =
    let r = idle_changes_nothing config e h c.act (record { control = c; is_turn = is; acts = refl }) (same_idle c.act idles) in
    record { same_live = r.same_live; same_rounds = r.same_rounds; same_due = r.same_due; same_held = r.same_held; same_free = r.same_free; same_drawn = r.same_drawn }
