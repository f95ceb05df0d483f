use Rattle.std.proofs.Common.{subst, List, ℕ}
use Rattle.std.proofs.lemmas.Bool.Decides.{Decides-eqb}
use Rattle.std.proofs.lemmas.Slice.Eq.{slice_eq-Decides}
use Rattle.replay_devices.specs.Watch.{NotesDraw}
use Rattle.replay_steps.proofs.watched_calls.note_key.Goals as goal

pub returns-in-Some : goal.returns-in-Some
returns-in-Some c sent config seed =
    subst (λ (key : List ℕ). NotesDraw config seed c.args.watch.now c.drew.new.self key)
    ((slice_eq-Decides Decides-eqb c.in-Some.due c.args.key c.eq.result c.eq.ensures).0 sent) (c.in-Some.ensures.drew config seed)
