-- What a plan demands and drops makes an offer that keeps a call and its cell agreeing.
use Rattle.std.proofs.Common.{◌≡◌, ◌∙◌, refl, sym, ap, subst, ℕ, suc, ◌<◌, Bool, true, false, cond, ◌||◌, ◌==◌, List, [], ◌∷◌, map, filter, length, get_or, arith}
use Rattle.std.specs.List.{list_any}
use Rattle.histories.specs.Words.{In, here, there, Before, begins, goes_on, has}
use Rattle.histories.proofs.Lists.{equal, equal_if, maps}
use Rattle.std.proofs.lemmas.Bool.{and_parts, and_left, or_right}
use Rattle.relay_outside.specs.declared.settings.Config.{Config}
use Rattle.port_pool.specs.declared.pairs.Lease.{Lease}
use Rattle.port_pool.specs.declared.holder.Side.{Side}
use Rattle.port_pool.specs.Ports.{pair_count}
use Rattle.port_pool.specs.Signals.{NewKey, side_eq}
use Rattle.offer_answer.specs.Rounds.{NewLeg, KeyPlace}
use Rattle.offer_answer.specs.Offers.{legs_demanded}
use Rattle.offer_answer.specs.Laws.{key_place}
use Rattle.offer_answer.specs.Dialogs.{no_state}
use Rattle.offer_answer.specs.Shapes.{SectionShape, bare_shape, is_demanded, shape_of, shape_left, shape_with_new, shape_offered, drops_at, keys_demanded, dialog_shape}
use Rattle.offer_answer.specs.OfferPlaces.{ArePairsOfSections, OfferPlaces, TakesCounts, offered_count_after}
use Rattle.offer_answer.specs.declared.dialog.Dialog.{Dialog}
use Rattle.offer_answer.specs.declared.plan.Plan.{Plan}
use Rattle.call_shapes.specs.Agreement.{section_kept}
use Rattle.call_shapes.specs.OfferFits.{Offering, OfferFits, LegsFit, IsFree, CountsOfOffer, is_new_on, ports_leased}
use Rattle.call_shapes.proofs.Sieves.{none_pass, at_number}
use Rattle.call_shapes.proofs.KeyNumbers.{side_if}

-- Of elements of which no two pass, and some does, just one does.

one_by : {A : Type 0} (p : A → Bool) (x : A) (xs : List A) → ((y z : A) → Before y z (x ∷ xs) → p y ≡ true → p z ≡ true → ⊥)
    → (list_any p xs ≡ true → length (filter p xs) ≡ 1) → (b : Bool) → p x ≡ b → (b || list_any p xs) ≡ true → length (cond b (x ∷ filter p xs) (filter p xs)) ≡ 1
one_by {A} p x xs apart rest true e some = ap (λ (l : List A). suc (length l)) (none_pass p xs (λ y i. by y i (p y) refl))
  where
    by : (y : A) → In y xs → (b : Bool) → p y ≡ b → p y ≡ false
    by y i true f = absurd (apart x y (begins refl i) e f)
    by y i false f = f
one_by p x xs apart rest false e some = rest some

pub just_one : {A : Type 0} (p : A → Bool) (xs : List A) → ((y z : A) → Before y z xs → p y ≡ true → p z ≡ true → ⊥) → list_any p xs ≡ true → length (filter p xs) ≡ 1
just_one p [] apart some = absurd (let f = some in cc)
just_one p (x ∷ xs) apart some =
    one_by p x xs apart (just_one p xs (λ y z b. apart y z (goes_on b))) (p x) refl some

pub one_each : (legs : List NewLeg) (section : ℕ) (side : Side) → ArePairsOfSections legs → is_demanded legs section ≡ true → length (filter (is_new_on section side) legs) ≡ 1
one_each legs section side are demanded = just_one (is_new_on section side) legs apart (are.both_sides section side ∙ demanded)
  where
    place : (leg : NewLeg) → is_new_on section side leg ≡ true → (leg.section ≡ section) × (leg.side ≡ side)
    place leg e =
        let both = and_parts (leg.section == section) (side_eq leg.side side) e in
        (equal_if leg.section section both.0, side_if leg.side side both.1)

    apart : (leg other : NewLeg) → Before leg other legs → is_new_on section side leg ≡ true → is_new_on section side other ≡ true → ⊥
    apart leg other b e f =
        let one = place leg e in
        let two = place other f in
        are.apart leg other b (one.0 ∙ sym two.0) (one.1 ∙ sym two.1)

any_if : {A : Type 0} (p : A → Bool) (x : A) (xs : List A) → In x xs → p x ≡ true → list_any p xs ≡ true
any_if p x [] i e = elim i [ ]
any_if p x (y ∷ ys) (here f) e = ap (λ (b : Bool). b || list_any p ys) (sym (ap p f) ∙ e)
any_if p x (y ∷ ys) (there i) e = or_right (p y) (list_any p ys) (any_if p x ys i e)

-- a demanded leg is of a demanded section
leg_demanded : (legs : List NewLeg) (leg : NewLeg) → In leg legs → is_demanded legs leg.section ≡ true
leg_demanded legs leg i = any_if (λ (l : NewLeg). l.section == leg.section) leg legs i (equal leg.section leg.section refl)

-- What the dialog keeps of a section.

pub section_of : (dialog : Dialog) (section : ℕ) → section < 8 → section_kept (dialog_shape dialog) section ≡ shape_of dialog section
section_of dialog section below = at_number (shape_of dialog) bare_shape section below

-- a section without pairs isn't committed
not_committed : (dialog : Dialog) (section : ℕ) → (shape_of dialog section).has_pairs ≡ false → (shape_of dialog section).is_committed ≡ false
not_committed dialog section none = and_left (shape_of dialog section).has_pairs (get_or dialog.sections section no_state).is_committed none

-- The offer is that of the plan, by leases of the range and keys for its places, and the dialog took it in.
pub record IsOfPlan (config : Config) (plan : Plan) (offer : Offering) (old new : Dialog) : Type 0 where
  pub legs_are : offer.legs ≡ legs_demanded plan
  pub keys_are : map key_place offer.keys ≡ keys_demanded plan
  pub drops_are : (section : ℕ) → section < 8 → has offer.dropped section ≡ drops_at plan section
  pub as_many : length offer.leases ≡ length offer.legs
  pub pairs : (lease : Lease) → In lease offer.leases → lease.pair < pair_count config
  pub shapes_are : (section : ℕ) → section < 8
      → shape_of new section ≡ shape_offered plan (ports_leased config offer.leases) offer.keys section (shape_of old section)
  pub counts : TakesCounts old plan.next new

module _ (config : Config) (plan : Plan) (offer : Offering) (old new : Dialog) (places : OfferPlaces plan old) (is : IsOfPlan config plan offer old new) where
  demanded_is : (section : ℕ) → is_demanded offer.legs section ≡ is_demanded (legs_demanded plan) section
  demanded_is section = ap (λ (l : List NewLeg). is_demanded l section) is.legs_are

  within_offer : (section : ℕ) → is_demanded offer.legs section ≡ true → section < offered_count_after old plan.next
  within_offer section e = (places.new section (sym (demanded_is section) ∙ e)).within

  legs_fit : LegsFit config offer.legs offer.leases
  legs_fit = record {
    as_many = is.as_many;
    pairs = is.pairs;
    sections = λ leg i.
        let l = within_offer leg.section (leg_demanded offer.legs leg i) in
        let m = places.counts.most in
        omega arith;
    both_sides = λ section side e. one_each offer.legs section side (subst (λ (l : List NewLeg). ArePairsOfSections l) (sym is.legs_are) places.pairs) e;
  }

  free_for : (section : ℕ) → section < 8 → is_demanded offer.legs section ≡ true → IsFree (dialog_shape old) offer.dropped section
  free_for section below e =
      let gets = places.new section (sym (demanded_is section) ∙ e) in
      let at = section_of old section below in
      record {
        no_pairs = ap (λ (s : SectionShape). s.has_pairs) at ∙ gets.had_none;
        not_committed = ap (λ (s : SectionShape). s.is_committed) at ∙ not_committed old section gets.had_none;
        not_dropped = is.drops_are section below ∙ gets.stays;
      }

  sections_fit : (section : ℕ) → section < 8 → section_kept (dialog_shape new) section
      ≡ shape_with_new offer.legs (ports_leased config offer.leases) offer.keys section
      (shape_left offer.legs (has offer.dropped section) section (section_kept (dialog_shape old) section))
  sections_fit section below =
      section_of new section below ∙ is.shapes_are section below
      ∙ ap (λ (l : List NewLeg). shape_with_new l (ports_leased config offer.leases) offer.keys section (shape_left l (drops_at plan section) section (shape_of old section))) (sym is.legs_are)
      ∙ ap (λ (b : Bool). shape_with_new offer.legs (ports_leased config offer.leases) offer.keys section (shape_left offer.legs b section (shape_of old section))) (sym (is.drops_are section below))
      ∙ ap (λ (s : SectionShape). shape_with_new offer.legs (ports_leased config offer.leases) offer.keys section (shape_left offer.legs (has offer.dropped section) section s)) (sym (section_of old section below))

  keys_fit : (key : NewKey) → In key offer.keys → key.section < 8 → (section_kept (dialog_shape new) key.section).has_pairs ≡ true
  keys_fit key i below =
      let place : In (key_place key) (keys_demanded plan) = subst (λ (l : List KeyPlace). In (key_place key) l) is.keys_are (maps key_place offer.keys i) in
      let gets = places.drawn (key_place key) place in
      ap (λ (s : SectionShape). s.has_pairs) (section_of new key.section below ∙ is.shapes_are key.section below)
      ∙ ap (λ (b : Bool). (shape_left (legs_demanded plan) b key.section (shape_of old key.section)).has_pairs) gets.stays
      ∙ gets.has_pairs

  counts_fit : CountsOfOffer offer.legs offer.dropped (dialog_shape old) (dialog_shape new)
  counts_fit = record {
    committed_is = is.counts.committed_is ∙ places.counts.committed_is;
    no_more =
        let a = places.counts.enough in
        let b = places.counts.committed_is in
        let c = is.counts.committed_is in
        let d = is.counts.offered_is in
        omega arith;
    most = let a = places.counts.most in let b = is.counts.offered_is in omega arith;
    demanded = λ section below e. let a = within_offer section e in let b = is.counts.offered_is in omega arith;
    kept = λ section below e f g.
        let at = section_of old section below in
        let a = places.counts.kept section below (sym (ap (λ (s : SectionShape). s.has_pairs) at) ∙ e) (sym (ap (λ (s : SectionShape). s.is_committed) at) ∙ f)
        (sym (is.drops_are section below) ∙ g) in
        let b = is.counts.offered_is in
        omega arith;
  }

  pub plan_fits : OfferFits config offer (dialog_shape old) (dialog_shape new)
  plan_fits = record { legs = legs_fit; free = free_for; sections_are = sections_fit; keys = keys_fit; counts = counts_fit }
