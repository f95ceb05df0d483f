use Rattle.std.proofs.Common.{◌≡◌, ◌∙◌, ◌+◌, Bool, List, [], ◌∷◌, filter, drop, get_or, sym, ap, subst}
use Rattle.std.specs.List.{position}
use Rattle.std.specs.Option.{is_some}
use Rattle.std.proofs.lemmas.Bool.{false≢true}
use Rattle.offer_answer.specs.Shapes.{LegShape, section_shape}
use Rattle.call_cell.specs.Shapes.{CellLegShape}
use Rattle.call_cell.specs.declared.saved.LegSaved.{LegSaved}
use Rattle.call_shapes.specs.Agreement.{stands_on, side_of_shape}
use Rattle.whole_records.specs.SavedShapes.{saved_leg_shape, saved_leg_shapes}
use Rattle.whole_records.specs.RecordParts.{KeepsLeg}
use Rattle.whole_records.proofs.Found.{none_found, one_found, some_found, none_if, none_then}
use Rattle.whole_records.proofs.Sides.{side_one, side_none, of_none, of_some}
use Rattle.whole_records.proofs.sections.side_holds.Goals as goal

pub returns-in_default : goal.returns-in_default
returns-in_default c =
    let kept = c.args.kept.now in
    let leg : LegShape = side_of_shape (section_shape kept) c.args.side in
    let found : List CellLegShape = filter (stands_on c.args.section c.args.side) (saved_leg_shapes c.args.legs.now) in
    let is : found ≡ [] = none_found (λ (one : LegSaved). saved_leg_shape one) (stands_on c.args.section c.args.side) c.args.legs.now (sym c.in_default.ensures.place) in
    let same = c.kept_leg-leg.ensures in (
      λ t.
          let bare = c.is_bare.ensures.0 t in
          side_none c.args.config.now kept.has_pairs kept.is_committed leg found bare.0 is
          (sym (ap (λ (l : LegShape). l.long_key) same) ∙ bare.1) (sym (ap (λ (l : LegShape). l.short_key) same) ∙ bare.2),
      λ h.
          let parts = of_none c.args.config.now kept.has_pairs kept.is_committed leg found is h in
          c.is_bare.ensures.1 (parts.0, ap (λ (l : LegShape). l.long_key) same ∙ parts.1, ap (λ (l : LegShape). l.short_key) same ∙ parts.2),
    )

pub returns-then-not-kept : goal.returns-then-not-kept
returns-then-not-kept c =
    let kept = c.args.kept.now in
    let leg : LegShape = side_of_shape (section_shape kept) c.args.side in
    let p : CellLegShape → Bool = stands_on c.args.section c.args.side in
    let legs : List LegSaved = c.args.legs.now in
    let place = c.in-Some.place in
    let found = some_found (λ (one : LegSaved). saved_leg_shape one) p legs place (sym c.in-Some.ensures.place) in (
      λ t. absurd (false≢true t),
      λ h.
          let parts = of_some c.args.config.now kept.has_pairs kept.is_committed leg (filter p (saved_leg_shapes legs)) (saved_leg_shape found.0)
          (filter p (saved_leg_shapes (drop (place + 1) legs))) found.1 h in
          sym c.if-not-kept.true ∙ parts.0,
    )

pub returns-then-is_some : goal.returns-then-is_some
returns-then-is_some c =
    let kept = c.args.kept.now in
    let leg : LegShape = side_of_shape (section_shape kept) c.args.side in
    let p : CellLegShape → Bool = stands_on c.args.section c.args.side in
    let legs : List LegSaved = c.args.legs.now in
    let place = c.in-Some.place in
    let found = some_found (λ (one : LegSaved). saved_leg_shape one) p legs place (sym c.in-Some.ensures.place) in
    let second : c.place_on-2.result ≡ position (λ (one : LegSaved). p (saved_leg_shape one)) (drop (place + 1) legs) =
    c.place_on-2.ensures.place ∙ ap (λ (those : List LegSaved). position (λ (one : LegSaved). p (saved_leg_shape one)) those) c.legs_after.ensures in (
      λ t. absurd (false≢true t),
      λ h.
          let parts = of_some c.args.config.now kept.has_pairs kept.is_committed leg (filter p (saved_leg_shapes legs)) (saved_leg_shape found.0)
          (filter p (saved_leg_shapes (drop (place + 1) legs))) found.1 h in
          let none = none_if (λ (one : LegSaved). saved_leg_shape one) p (drop (place + 1) legs) parts.1 in
          sym none ∙ sym (ap is_some second) ∙ sym c.is_some.ensures ∙ c.if-is_some.true,
    )

pub returns : goal.returns
returns c =
    let kept = c.args.kept.now in
    let leg : LegShape = side_of_shape (section_shape kept) c.args.side in
    let p : CellLegShape → Bool = stands_on c.args.section c.args.side in
    let legs : List LegSaved = c.args.legs.now in
    let place = c.in-Some.place in
    let one : LegSaved = c.index-legs-place.result in
    let found = one_found (λ (l : LegSaved). saved_leg_shape l) p legs place one (sym c.in-Some.ensures.place) in
    let read : get_or legs place one ≡ one = sym c.index-legs-place.is in
    let second : c.place_on-2.result ≡ position (λ (l : LegSaved). p (saved_leg_shape l)) (drop (place + 1) legs) =
    c.place_on-2.ensures.place ∙ ap (λ (those : List LegSaved). position (λ (l : LegSaved). p (saved_leg_shape l)) those) c.legs_after.ensures in
    let none = none_then (λ (l : LegSaved). saved_leg_shape l) p (drop (place + 1) legs) (sym (ap is_some second) ∙ sym c.is_some.ensures ∙ c.if-is_some.false) in
    let only : filter p (saved_leg_shapes legs) ≡ saved_leg_shape one ∷ [] =
    found ∙ ap (λ (l : LegSaved). saved_leg_shape l ∷ filter p (saved_leg_shapes (drop (place + 1) legs))) read ∙ ap (λ (l : List CellLegShape). saved_leg_shape one ∷ l) none in
    let same = c.kept_leg-leg.ensures in (
      λ t. side_one c.args.config.now kept.has_pairs kept.is_committed leg (filter p (saved_leg_shapes legs)) (saved_leg_shape one) c.if-not-kept.false only
          (subst (λ (l : LegShape). KeepsLeg c.args.config.now l kept.is_committed (saved_leg_shape one)) same (c.keeps_leg.ensures.0 t)),
      λ h.
          let parts = of_some c.args.config.now kept.has_pairs kept.is_committed leg (filter p (saved_leg_shapes legs)) (saved_leg_shape one) [] only h in
          c.keeps_leg.ensures.1 (subst (λ (l : LegShape). KeepsLeg c.args.config.now l kept.is_committed (saved_leg_shape one)) (sym same) parts.2),
    )
