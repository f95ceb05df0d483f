-- An offer keeps a call and its cell agreeing.
use Rattle.std.proofs.Common.{◌≡◌, ◌∙◌, refl, sym, ap, subst, ℕ, ◌<◌, ◌⊎◌, inl, inr, Bool, true, false, not, ◌||◌, List, [], ◌∷◌, ◌++◌, map, filter, get_or, Option, Some, unwrap_or, arith}
use Rattle.std.proofs.lemmas.List.{map-append}
use Rattle.std.proofs.lemmas.List.Elements.{filter-append}
use Rattle.histories.specs.Words.{In, has, or_else}
use Rattle.histories.proofs.Lists.{in_append, filtered, mapped}
use Rattle.relay_outside.specs.declared.settings.Config.{Config}
use Rattle.port_pool.specs.declared.holder.Holder.{Holder}
use Rattle.port_pool.specs.declared.holder.Side.{Side}
use Rattle.port_pool.specs.Signals.{NewKey}
use Rattle.offer_answer.specs.Shapes.{DialogShape, LegShape, SectionShape, bare_shape, is_demanded, leg_with_new, shape_with_new, shape_left}
use Rattle.call_cell.specs.Shapes.{CellLegShape, CellShape, with_key_numbers}
use Rattle.call_board.specs.Acts.{Call}
use Rattle.call_board.specs.Returns.{leg_lease}
use Rattle.call_shapes.specs.Events.{section_flags, brought_shape, shape_after_event}
use Rattle.call_shapes.specs.Agreement.{IsLegOf, SideAgrees, SectionAgrees, CallAgrees, stands_on, side_of_shape, section_kept}
use Rattle.call_shapes.specs.OfferFits.{Offering, OfferFits, IsNewCall, ports_leased, new_holders, OfferAgrees, offer_event, cell_holders, dropped_holders, kept_holders, flagged_legs}
use Rattle.call_shapes.proofs.Sieves.{same_pass, made_pass, flag_is}
use Rattle.call_shapes.proofs.KeyNumbers.{same_holders, same_legs}
use Rattle.call_shapes.proofs.NewLegs.{brought, brought_legs, brought_holders, none_new, one_new, none_demanded}
use Rattle.call_shapes.proofs.OfferSides.{no_keys, bare_after, pairs_after, side_new, having, side_having, no_long, no_short, stays, gone_at, kept_at, leases_are}

-- What both kinds of calls have before an offer.
pub record IsBefore (config : Config) (of : Call) (dialog : DialogShape) (shape : CellShape) : Type 0 where
  pub config_is : shape.config ≡ config
  pub call_is : or_else shape.call (Some of.number) ≡ Some of.number
  pub legs : (leg : CellLegShape) → In leg shape.legs → IsLegOf config of.cell of.number leg
  pub sections : (section : ℕ) (side : Side) → section < 8 → SectionAgrees config dialog shape.legs section side
  pub committed : (section : ℕ) → section < 8 → (section_kept dialog section).is_committed ≡ true → section < dialog.committed_count

pub agreeing_before : (config : Config) (of : Call) (dialog : DialogShape) (shape : CellShape) → CallAgrees config of.cell of.number dialog shape → IsBefore config of dialog shape
agreeing_before config of dialog shape agrees = record {
  config_is = agrees.config_is;
  call_is = ap (λ (o : Option ℕ). or_else o (Some of.number)) agrees.call_is;
  legs = agrees.legs;
  sections = agrees.sections;
  committed = agrees.counts.committed;
}

pub new_before : (config : Config) (of : Call) (dialog : DialogShape) (shape : CellShape) → IsNewCall config dialog shape → IsBefore config of dialog shape
new_before config of dialog shape is = record {
  config_is = ap (λ (s : CellShape). s.config) is.empty;
  call_is = ap (λ (s : CellShape). or_else s.call (Some of.number)) is.empty;
  legs = λ leg i. elim (subst (λ (s : CellShape). In leg s.legs) is.empty i) [ ];
  sections = λ section side below.
      let bare : SideAgrees config false false (side_of_shape bare_shape side) (filter (stands_on section side) shape.legs)
      = (ap (λ (s : CellShape). filter (stands_on section side) s.legs) is.empty, no_long side, no_short side) in
      subst (λ (kept : SectionShape). SideAgrees config kept.has_pairs kept.is_committed (side_of_shape kept side) (filter (stands_on section side) shape.legs))
      (sym (is.sections section below)) bare;
  committed = λ section below e. absurd (let f = sym (ap (λ (kept : SectionShape). kept.is_committed) (is.sections section below)) ∙ e in cc);
}

module _ (config : Config) (of : Call) (offer : Offering) (old new : DialogShape) (shape : CellShape) (before : IsBefore config of old shape) (fits : OfferFits config offer old new) where
  abbrev after : CellShape
  after = shape_after_event (offer_event of offer) shape

  abbrev joined : List CellLegShape
  joined = filter (stays offer.dropped) shape.legs ++ map (brought_shape shape.config) (new_holders of offer)

  abbrev ports : List ℕ
  ports = ports_leased config offer.leases

  abbrev with_new : ℕ → SectionShape → SectionShape
  with_new section kept = shape_with_new offer.legs ports offer.keys section kept

  brought_are : map (brought_shape shape.config) (new_holders of offer) ≡ brought config of offer.leases offer.legs
  brought_are = ap (λ (c : Config). map (brought_shape c) (new_holders of offer)) before.config_is

  parts : (section : ℕ) (side : Side) → filter (stands_on section side) joined
      ≡ filter (stands_on section side) (filter (stays offer.dropped) shape.legs) ++ filter (stands_on section side) (brought config of offer.leases offer.legs)
  parts section side =
      filter-append (stands_on section side) (filter (stays offer.dropped) shape.legs) (map (brought_shape shape.config) (new_holders of offer))
      ∙ ap (λ (l : List CellLegShape). filter (stands_on section side) (filter (stays offer.dropped) shape.legs) ++ filter (stands_on section side) l) brought_are

  never_there : (section : ℕ) → section < 8 → (section_kept new section).has_pairs ≡ false → (key : NewKey) → In key offer.keys → key.section ≡ section → ⊥
  never_there section below none key i e =
      let there_is = fits.keys key i (omega (arith, e, below)) in
      let at = ap (λ n. (section_kept new n).has_pairs) e in
      (let f = sym there_is ∙ at ∙ none in cc)

  -- The sections.

  left_is : (section : ℕ) → section < 8 → (dropped : Bool) → has offer.dropped section ≡ dropped
      → section_kept new section ≡ with_new section (shape_left offer.legs dropped section (section_kept old section))
  left_is section below dropped e = fits.sections_are section below ∙ ap (λ b. with_new section (shape_left offer.legs b section (section_kept old section))) e

  stayed_is : (section : ℕ) → section < 8 → (pairs demanded : Bool) → has offer.dropped section ≡ false → (section_kept old section).has_pairs ≡ pairs
      → is_demanded offer.legs section ≡ demanded → section_kept new section ≡ with_new section (having (pairs || demanded) (section_kept old section))
  stayed_is section below pairs demanded e f g =
      left_is section below false e
      ∙ ap (λ b. with_new section (having (b || is_demanded offer.legs section) (section_kept old section))) f
      ∙ ap (λ b. with_new section (having (pairs || b) (section_kept old section))) g

  by_kept : (section : ℕ) (side : Side) (kept : SectionShape) → section_kept new section ≡ with_new section kept
      → SideAgrees config kept.has_pairs kept.is_committed (leg_with_new offer.legs ports offer.keys section side (side_of_shape kept side))
      (filter (stands_on section side) (with_key_numbers offer.keys joined))
      → SectionAgrees config new after.legs section side
  by_kept section side kept is agrees =
      subst (λ (s : SectionShape). SideAgrees config s.has_pairs s.is_committed (side_of_shape s side) (filter (stands_on section side) after.legs)) (sym is)
      (subst (λ (s : LegShape). SideAgrees config kept.has_pairs kept.is_committed s (filter (stands_on section side) after.legs))
      (sym (side_new offer.legs ports offer.keys section kept side)) agrees)

  by_having : (section : ℕ) (side : Side) (pairs : Bool) → section_kept new section ≡ with_new section (having pairs (section_kept old section))
      → SideAgrees config pairs (section_kept old section).is_committed (leg_with_new offer.legs ports offer.keys section side (side_of_shape (section_kept old section) side))
      (filter (stands_on section side) (with_key_numbers offer.keys joined))
      → SectionAgrees config new after.legs section side
  by_having section side pairs is agrees =
      by_kept section side (having pairs (section_kept old section)) is
      (subst (λ (s : LegShape). SideAgrees config pairs (section_kept old section).is_committed (leg_with_new offer.legs ports offer.keys section side s)
      (filter (stands_on section side) (with_key_numbers offer.keys joined))) (sym (side_having pairs (section_kept old section) side)) agrees)

  -- where nothing is demanded the legs are those that stay
  no_more : (section : ℕ) (side : Side) (those : List CellLegShape) → is_demanded offer.legs section ≡ false
      → filter (stands_on section side) (filter (stays offer.dropped) shape.legs) ≡ those → filter (stands_on section side) joined ≡ those ++ []
  no_more section side those none e =
      let nothing = none_new config of offer.leases offer.legs section side (none_demanded offer.legs section side none) in
      parts section side
      ∙ ap (λ (l : List CellLegShape). l ++ filter (stands_on section side) (brought config of offer.leases offer.legs)) e
      ∙ ap (λ (l : List CellLegShape). those ++ l) nothing.found_is

  not_demanded : (section : ℕ) → section < 8 → (has offer.dropped section ≡ true) ⊎ ((section_kept old section).has_pairs ≡ true) → is_demanded offer.legs section ≡ false
  not_demanded section below why = by (is_demanded offer.legs section) refl why
    where
      by : (b : Bool) → is_demanded offer.legs section ≡ b → (has offer.dropped section ≡ true) ⊎ ((section_kept old section).has_pairs ≡ true) → is_demanded offer.legs section ≡ false
      by true e (inl f) = let free = fits.free section below e in absurd (let g = free.not_dropped in cc)
      by true e (inr f) = let free = fits.free section below e in absurd (let g = free.no_pairs in cc)
      by false e why = e

  dropped_section : (section : ℕ) (side : Side) → section < 8 → has offer.dropped section ≡ true → SectionAgrees config new after.legs section side
  dropped_section section side below e =
      let is = left_is section below true e in
      by_kept section side bare_shape is
      (bare_after config offer.legs ports offer.keys section side false (side_of_shape bare_shape side) joined
      (no_more section side [] (not_demanded section below (inl e)) (gone_at offer.dropped section side shape.legs below e))
      (no_keys offer.keys section side (never_there section below (ap (λ (s : SectionShape). s.has_pairs) is)))
      (no_long side) (no_short side))

  old_side : (section : ℕ) (side : Side) (pairs : Bool) → section < 8 → (section_kept old section).has_pairs ≡ pairs
      → SideAgrees config pairs (section_kept old section).is_committed (side_of_shape (section_kept old section) side) (filter (stands_on section side) shape.legs)
  old_side section side pairs below e =
      subst (λ b. SideAgrees config b (section_kept old section).is_committed (side_of_shape (section_kept old section) side) (filter (stands_on section side) shape.legs)) e
      (before.sections section side below)

  kept_section : (section : ℕ) (side : Side) → section < 8 → has offer.dropped section ≡ false → (section_kept old section).has_pairs ≡ true
      → SectionAgrees config new after.legs section side
  kept_section section side below e f =
      let none = not_demanded section below (inr f) in
      let had = old_side section side true below f in
      let kept = side_of_shape (section_kept old section) side in
      let nothing = none_new config of offer.leases offer.legs section side (none_demanded offer.legs section side none) in
      by_having section side true (stayed_is section below true false e f none)
      (pairs_after config offer.legs ports offer.keys section side (section_kept old section).is_committed kept joined had.0
      (no_more section side (had.0 ∷ []) none (kept_at offer.dropped section side shape.legs below e ∙ had.1))
      (ap (λ (o : Option ℕ). unwrap_or o kept.port) nothing.port_is ∙ had.2.port_is)
      had.2.long_is had.2.short_is had.3)

  new_section : (section : ℕ) (side : Side) → section < 8 → has offer.dropped section ≡ false → is_demanded offer.legs section ≡ true
      → SectionAgrees config new after.legs section side
  new_section section side below e f =
      let free = fits.free section below f in
      let had = old_side section side false below free.no_pairs in
      let kept = side_of_shape (section_kept old section) side in
      let one = one_new config of offer.leases offer.legs section side fits.legs.as_many (fits.legs.both_sides section side f) in
      by_having section side true (stayed_is section below false true e free.no_pairs f)
      (pairs_after config offer.legs ports offer.keys section side (section_kept old section).is_committed kept joined (brought_shape config one.leg)
      (parts section side
      ∙ ap (λ (l : List CellLegShape). l ++ filter (stands_on section side) (brought config of offer.leases offer.legs)) (kept_at offer.dropped section side shape.legs below e ∙ had.0)
      ∙ one.found_is)
      (ap (λ (o : Option ℕ). unwrap_or o kept.port) one.port_is)
      had.1 had.2 (sym free.not_committed))

  bare_section : (section : ℕ) (side : Side) → section < 8 → has offer.dropped section ≡ false → (section_kept old section).has_pairs ≡ false
      → is_demanded offer.legs section ≡ false → SectionAgrees config new after.legs section side
  bare_section section side below e f g =
      let is = stayed_is section below false false e f g in
      let had = old_side section side false below f in
      by_having section side false is
      (bare_after config offer.legs ports offer.keys section side (section_kept old section).is_committed (side_of_shape (section_kept old section) side) joined
      (no_more section side [] g (kept_at offer.dropped section side shape.legs below e ∙ had.0))
      (no_keys offer.keys section side (never_there section below (ap (λ (s : SectionShape). s.has_pairs) is)))
      had.1 had.2)

  sections_after : (section : ℕ) (side : Side) → section < 8 → SectionAgrees config new after.legs section side
  sections_after section side below = by (has offer.dropped section) (section_kept old section).has_pairs (is_demanded offer.legs section) refl refl refl
    where
      by : (dropped pairs demanded : Bool) → has offer.dropped section ≡ dropped → (section_kept old section).has_pairs ≡ pairs → is_demanded offer.legs section ≡ demanded
          → SectionAgrees config new after.legs section side
      by true pairs demanded e f g = dropped_section section side below e
      by false true demanded e f g = kept_section section side below e f
      by false false true e f g = new_section section side below e g
      by false false false e f g = bare_section section side below e f g

  -- The counts.

  offered_after : (section : ℕ) → section < 8 → (section_kept new section).has_pairs ≡ true → section < new.offered_count
  offered_after section below has_some =
      by (has offer.dropped section) (section_kept old section).has_pairs (section_kept old section).is_committed (is_demanded offer.legs section) refl refl refl refl
    where
      by : (dropped pairs committed demanded : Bool) → has offer.dropped section ≡ dropped → (section_kept old section).has_pairs ≡ pairs
          → (section_kept old section).is_committed ≡ committed → is_demanded offer.legs section ≡ demanded → section < new.offered_count
      by true pairs committed demanded e f c g = absurd (let h = sym (ap (λ (s : SectionShape). s.has_pairs) (left_is section below true e)) ∙ has_some in cc)
      by false pairs committed true e f c g = fits.counts.demanded section below g
      by false true true false e f c g =
          let l = before.committed section below c in
          let same = fits.counts.committed_is in
          let more = fits.counts.no_more in
          omega arith
      by false true false false e f c g = fits.counts.kept section below f c e
      by false false committed false e f c g = absurd (let h = sym (ap (λ (s : SectionShape). s.has_pairs) (stayed_is section below false false e f g)) ∙ has_some in cc)

  committed_after : (section : ℕ) → section < 8 → (section_kept new section).is_committed ≡ true → section < new.committed_count
  committed_after section below is = by (has offer.dropped section) refl
    where
      by : (dropped : Bool) → has offer.dropped section ≡ dropped → section < new.committed_count
      by true e = absurd (let h = sym (ap (λ (s : SectionShape). s.is_committed) (left_is section below true e)) ∙ is in cc)
      by false e =
          let l = before.committed section below (sym (ap (λ (s : SectionShape). s.is_committed) (left_is section below false e)) ∙ is) in
          let same = fits.counts.committed_is in
          omega arith

  -- The legs.

  legs_after : (leg : CellLegShape) → In leg after.legs → IsLegOf config of.cell of.number leg
  legs_after = same_legs config of.cell of.number offer.keys joined (λ leg i. by leg (in_append (filter (stays offer.dropped) shape.legs) (map (brought_shape shape.config) (new_holders of offer)) i))
    where
      by : (leg : CellLegShape) → In leg (filter (stays offer.dropped) shape.legs) ⊎ In leg (map (brought_shape shape.config) (new_holders of offer)) → IsLegOf config of.cell of.number leg
      by leg (inl i) = before.legs leg (filtered (stays offer.dropped) shape.legs i).0
      by leg (inr i) = brought_legs config of offer.leases offer.legs fits.legs.pairs fits.legs.sections leg (subst (λ (l : List CellLegShape). In leg l) brought_are i)

  flags_are : (leg : Holder) → In leg (cell_holders shape) → get_or (section_flags offer.dropped) leg.section false ≡ has offer.dropped leg.section
  flags_are leg i =
      let made = mapped (λ (l : CellLegShape). l.holder) shape.legs i in
      flag_is offer.dropped leg.section (subst (λ (h : Holder). h.section < 8) made.makes (before.legs made.from made.is_in).section)

  holders_after : cell_holders after ≡ kept_holders offer.dropped (cell_holders shape) ++ new_holders of offer
  holders_after =
      same_holders offer.keys joined
      ∙ map-append (λ (leg : CellLegShape). leg.holder) (filter (stays offer.dropped) shape.legs) (map (brought_shape shape.config) (new_holders of offer))
      ∙ ap (λ (l : List Holder). map (λ (leg : CellLegShape). leg.holder) (filter (stays offer.dropped) shape.legs) ++ l) (brought_holders shape.config (new_holders of offer))
      ∙ ap (λ (l : List Holder). l ++ new_holders of offer)
      (made_pass (λ (leg : CellLegShape). leg.holder) (λ (leg : Holder). not (get_or (section_flags offer.dropped) leg.section false)) shape.legs
      ∙ same_pass (λ (leg : Holder). not (get_or (section_flags offer.dropped) leg.section false)) (λ (leg : Holder). not (has offer.dropped leg.section)) (cell_holders shape)
      (λ leg i. ap not (flags_are leg i)))

  holders_gone : map (λ (leg : CellLegShape). leg.holder) (flagged_legs offer shape) ≡ dropped_holders offer.dropped (cell_holders shape)
  holders_gone =
      made_pass (λ (leg : CellLegShape). leg.holder) (λ (leg : Holder). get_or (section_flags offer.dropped) leg.section false) shape.legs
      ∙ same_pass (λ (leg : Holder). get_or (section_flags offer.dropped) leg.section false) (λ (leg : Holder). has offer.dropped leg.section) (cell_holders shape) flags_are

  leases_gone : map (λ (leg : CellLegShape). leg.lease) (flagged_legs offer shape) ≡ map (leg_lease config) (dropped_holders offer.dropped (cell_holders shape))
  leases_gone =
      leases_are config of.cell of.number (flagged_legs offer shape) (λ leg i. before.legs leg (filtered (λ (l : CellLegShape). get_or (section_flags offer.dropped) l.holder.section false) shape.legs i).0)
      ∙ ap (map (leg_lease config)) holders_gone

  pub kept_agreeing : OfferAgrees config of offer new shape after
  kept_agreeing = record {
    agrees = record {
      config_is = before.config_is;
      call_is = before.call_is;
      legs = legs_after;
      sections = sections_after;
      counts = record { most = fits.counts.most; no_more = fits.counts.no_more; offered = offered_after; committed = committed_after };
    };
    legs_are = holders_after;
    gone_are = holders_gone;
    given_back = leases_gone;
  }

pub offers_kept : (config : Config) (of : Call) (offer : Offering) (old new : DialogShape) (shape : CellShape)
    → CallAgrees config of.cell of.number old shape ⊎ IsNewCall config old shape → OfferFits config offer old new
    → OfferAgrees config of offer new shape (shape_after_event (offer_event of offer) shape)
offers_kept config of offer old new shape (inl agrees) fits = kept_agreeing config of offer old new shape (agreeing_before config of old shape agrees) fits
offers_kept config of offer old new shape (inr is) fits = kept_agreeing config of offer old new shape (new_before config of old shape is) fits
