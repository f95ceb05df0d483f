use Rattle.std.proofs.Common.{◌∙◌, ap, sym, subst, [], ◌∷◌, ◌++◌, if◌then◌else◌}
use Rattle.relay_outside.specs.DeviceLogs.{WhereLogged}
use Rattle.load_maker.specs.declared.ports.ClosedEnd.{ClosedEnd}
use Rattle.load_maker.specs.Takes.{GivesOn}
use Rattle.load_maker.proofs.Takes.{noted_kept}
use Rattle.load_maker.proofs.ports.LoadMakerPortMaker.close.Goals as goal

pub invariant_of-self : goal.invariant_of-self
invariant_of-self c =
    let before = c.self.invariant in
    let taken = c.args.receiving.log.calls in
    let one : ClosedEnd = record { at = c.args.at; stream = c.gave-stream.result.0; given = c.gave-stream.result.1 } in
    let closings = c.self.inside.closed.items in (
      before.0,
      before.1,
      noted_kept one taken closings c.push-kept.new.self.items c.self.inside.log c.note.new.self c.when_kept.result c.close_call-call.result c.is_ok.result
          c.note.ensures c.when_kept.ensures c.close_call-call.ensures.call c.close_call-call.ensures.log
          (λ ok. c.push-kept.ensures.items ∙ ap (λ b. if b then closings ++ one ∷ [] else closings) (sym c.is_ok.ensures.value ∙ ok))
          (subst (λ stream. WhereLogged taken (λ takes. GivesOn stream 0 takes c.gave-stream.result.1)) (sym c.gave-stream.ensures.stream)
          (subst (λ count. WhereLogged taken (λ takes. GivesOn c.args.receiving.stream 0 takes count)) (sym c.gave-stream.ensures.given) c.gave-stream.ensures.takes))
          before.2,
    )
