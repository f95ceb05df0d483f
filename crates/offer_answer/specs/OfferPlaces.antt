-- What the plan of an offer demands and drops, by the shape of the dialog that it was made from, and how many sections its offers have.
-- This is said of each dialog, also of one that stands for no rounds.
use Rattle.std.specs.Prelude.{◌≡◌, ◌<◌, ◌≤◌, ◌==◌, ◌&&◌, ◌||◌, ℕ, Bool, true, false, List, length, None}
use Rattle.std.specs.List.{list_any}
use Rattle.histories.specs.Words.{In, Before}
use Rattle.sdp_text.specs.Descriptions.{sections_in}
use Rattle.port_pool.specs.declared.holder.Side.{Side}
use Rattle.port_pool.specs.declared.holder.Side.TheVariants.{A, B}
use Rattle.port_pool.specs.Signals.{side_eq}
use Rattle.offer_answer.specs.Rounds.{NewLeg, KeyPlace}
use Rattle.offer_answer.specs.Sections.{most_sections}
use Rattle.offer_answer.specs.Offers.{legs_demanded}
use Rattle.offer_answer.specs.Shapes.{LegShape, SectionShape, shape_of, is_active_at, is_demanded, drops_at, keys_demanded, offered_count}
use Rattle.offer_answer.specs.AnswerShapes.{shape_key}
use Rattle.offer_answer.specs.declared.last_offer.LastOffer.{LastOffer}
use Rattle.offer_answer.specs.declared.dialog.Dialog.{Dialog}
use Rattle.offer_answer.specs.declared.plan.Next.{Next}
use Rattle.offer_answer.specs.declared.plan.Next.TheVariants.{Offer, Answer}
use Rattle.offer_answer.specs.declared.plan.Plan.{Plan}

-- the section's leg on a side
abbrev pub shape_leg : SectionShape → Side → LegShape
shape_leg old A = old.a
shape_leg old B = old.b

-- a pair is demanded for the leg of the section and side
abbrev pub is_leg_demanded : List NewLeg → ℕ → Side → Bool
is_leg_demanded legs section side = list_any (λ (leg : NewLeg). leg.section == section && side_eq leg.side side) legs

-- Pairs are demanded for both legs of a section or for neither, and one for each leg.
pub record ArePairsOfSections (legs : List NewLeg) : Type 0 where
  pub apart : (leg other : NewLeg) → Before leg other legs → leg.section ≡ other.section → leg.side ≡ other.side → ⊥
  pub both_sides : (section : ℕ) (side : Side) → is_leg_demanded legs section side ≡ is_demanded legs section
  pub few : length legs ≤ 16

-- One key is demanded for a leg and a suite, and at most three for a section: the offerer's and both of the other side.
pub record AreKeysOfLegs (keys : List KeyPlace) : Type 0 where
  pub apart : (key other : KeyPlace) → Before key other keys → key.section ≡ other.section → key.side ≡ other.side → key.suite ≡ other.suite → ⊥
  pub few : length keys ≤ 24

-- the dialog has no key for that leg and suite
abbrev pub LacksKey : Dialog → KeyPlace → Type 0
LacksKey dialog key = shape_key (shape_leg (shape_of dialog key.section) key.side) key.suite ≡ None

-- how many sections the last offer has, and the last committed one, once this is taken in
abbrev pub offered_count_after : Dialog → Next → ℕ
offered_count_after dialog (Offer next) = next.last.count
offered_count_after dialog (Answer next) = offered_count dialog

abbrev pub committed_count_after : Dialog → Next → ℕ
committed_count_after dialog (Offer next) = dialog.committed_count
committed_count_after dialog (Answer next) = next.count

-- a section that pairs are demanded for
pub record GetsPairs (plan : Plan) (dialog : Dialog) (section : ℕ) : Type 0 where
  pub within : section < offered_count_after dialog plan.next
  pub had_none : (shape_of dialog section).has_pairs ≡ false
  pub stays : drops_at plan section ≡ false

-- a section that is dropped
pub record LosesPairs (dialog : Dialog) (section : ℕ) : Type 0 where
  pub within : section < most_sections
  pub had_pairs : (shape_of dialog section).has_pairs ≡ true
  pub uncommitted : (shape_of dialog section).is_committed ≡ false

-- a key that is demanded: its section has pairs or gets them, and isn't dropped, and its leg has no such key, in a section that gets its
-- pairs too
pub record GetsKey (plan : Plan) (dialog : Dialog) (key : KeyPlace) : Type 0 where
  pub within : key.section < offered_count_after dialog plan.next
  pub has_pairs : ((shape_of dialog key.section).has_pairs || is_demanded (legs_demanded plan) key.section) ≡ true
  pub stays : drops_at plan key.section ≡ false
  pub lacks : LacksKey dialog key

-- The counts that an offer leaves: a section that keeps pairs which no answer has committed is one of the offer's.
pub record OfferCounts (plan : Plan) (dialog : Dialog) : Type 0 where
  pub most : offered_count_after dialog plan.next ≤ most_sections
  pub enough : dialog.committed_count ≤ offered_count_after dialog plan.next
  pub committed_is : committed_count_after dialog plan.next ≡ dialog.committed_count
  pub kept : (section : ℕ) → section < most_sections → (shape_of dialog section).has_pairs ≡ true → (shape_of dialog section).is_committed ≡ false →
      drops_at plan section ≡ false → section < offered_count_after dialog plan.next

pub record OfferPlaces (plan : Plan) (dialog : Dialog) : Type 0 where
  pub pairs : ArePairsOfSections (legs_demanded plan)
  pub new : (section : ℕ) → is_demanded (legs_demanded plan) section ≡ true → GetsPairs plan dialog section
  pub dropped : (section : ℕ) → drops_at plan section ≡ true → LosesPairs dialog section
  pub keys : AreKeysOfLegs (keys_demanded plan)
  pub drawn : (key : KeyPlace) → In key (keys_demanded plan) → GetsKey plan dialog key
  pub counts : OfferCounts plan dialog

-- both make the same counts of each dialog
pub record SameCounts (old new : Next) : Type 0 where
  pub offered_is : (dialog : Dialog) → offered_count_after dialog new ≡ offered_count_after dialog old
  pub committed_is : (dialog : Dialog) → committed_count_after dialog new ≡ committed_count_after dialog old

-- the dialog's counts once this was taken in
pub record TakesCounts (old : Dialog) (next : Next) (new : Dialog) : Type 0 where
  pub offered_is : offered_count new ≡ offered_count_after old next
  pub committed_is : new.committed_count ≡ committed_count_after old next

-- The answer's signal has an element for each section of the last offer, and that offer is the committed one from then on.
pub record AnswerCounts (plan : Plan) (dialog : Dialog) : Type 0 where
  pub signal_is : length plan.signal ≡ offered_count dialog
  pub most : offered_count dialog ≤ most_sections
  pub offered_is : offered_count_after dialog plan.next ≡ offered_count dialog
  pub committed_is : committed_count_after dialog plan.next ≡ offered_count dialog

-- How it comes about.

-- a key that an offer with these lines demands of the dialog
pub record AsksKey (lines : List (List ℕ)) (dialog : Dialog) (key : KeyPlace) : Type 0 where
  pub active : is_active_at lines key.section ≡ true
  pub lacks : LacksKey dialog key

-- an answer with these lines has as many sections as the offer
pub record AnswersSections (last : LastOffer) (lines : List (List ℕ)) : Type 0 where
  pub count_is : length (sections_in lines) ≡ last.count
  pub most : last.count ≤ most_sections
