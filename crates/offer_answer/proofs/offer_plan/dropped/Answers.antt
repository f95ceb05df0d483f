use Rattle.std.proofs.Common.{◌≡◌, false, [], ◌∷◌}
use Rattle.offer_answer.specs.Shapes.{shape_of, is_active_at, is_dropped_from}
use Rattle.offer_answer.proofs.Offering.{eight-dropped}
use Rattle.offer_answer.proofs.AnswerSteps.{of-eight}
use Rattle.offer_answer.proofs.Places.{set-within}
use Rattle.offer_answer.proofs.offer_plan.dropped.Goals as goal

pub returns-clause-dropped : goal.returns-clause-dropped
returns-clause-dropped c = λ config rounds ask s h section.
    eight-dropped rounds ask section (c.is_dropped.ensures.dropped config rounds ask s h) (c.is_dropped-2.ensures.dropped config rounds ask s h)
    (c.is_dropped-3.ensures.dropped config rounds ask s h) (c.is_dropped-4.ensures.dropped config rounds ask s h) (c.is_dropped-5.ensures.dropped config rounds ask s h)
    (c.is_dropped-6.ensures.dropped config rounds ask s h) (c.is_dropped-7.ensures.dropped config rounds ask s h) (c.is_dropped-8.ensures.dropped config rounds ask s h)

pub returns-clause-shapes : goal.returns-clause-shapes
returns-clause-shapes c =
    of-eight (λ section dropped. dropped ≡ is_dropped_from (is_active_at c.args.sdp.now section) (shape_of c.args.dialog.now section)) false
    c.is_dropped.ensures.shape c.is_dropped-2.ensures.shape c.is_dropped-3.ensures.shape c.is_dropped-4.ensures.shape
    c.is_dropped-5.ensures.shape c.is_dropped-6.ensures.shape c.is_dropped-7.ensures.shape c.is_dropped-8.ensures.shape

pub returns-clause-within : goal.returns-clause-within
returns-clause-within c = λ section e.
    set-within
    (c.is_dropped.result ∷ c.is_dropped-2.result ∷ c.is_dropped-3.result ∷ c.is_dropped-4.result ∷ c.is_dropped-5.result ∷ c.is_dropped-6.result ∷ c.is_dropped-7.result ∷ c.is_dropped-8.result ∷ [])
    section e
