-- What the length of an offer's text hangs on.
use Rattle.std.specs.Prelude.{◌≡◌, ◌<◌, ◌≤◌, ℕ, List, length}
use Rattle.sdp_edit.specs.EditedText.{edited, HaveTags}
use Rattle.offer_answer.specs.Sections.{most_sections}
use Rattle.offer_answer.specs.Texts.{interface_host}
use Rattle.offer_answer.specs.Edits.{IsEditReserved, made_at, widest_len}
use Rattle.offer_answer.specs.declared.last_offer.MadeSection.{MadeSection}
use Rattle.offer_answer.specs.declared.last_offer.LastOffer.{LastOffer}
use Rattle.offer_answer.specs.declared.plan.Next.{Next}
use Rattle.offer_answer.specs.declared.plan.Next.TheVariants.{Offer, Answer}
use Rattle.offer_answer.specs.declared.plan.Plan.{Plan}

-- the same section with the same profile, whatever its lines
pub record SameMade (old new : MadeSection) : Type 0 where
  pub section_is : new.section ≡ old.section
  pub written_is : new.written ≡ old.written

-- the same offer but for its lines
pub record SameOffer (old new : LastOffer) : Type 0 where
  pub options_are : new.options ≡ old.options
  pub count_is : new.count ≡ old.count
  pub sections_are : (section : ℕ) → section < most_sections → SameMade (made_at old section) (made_at new section)

abbrev pub KeepsOffer : Next → Next → Type 0
KeepsOffer (Offer old) (Offer new) = SameOffer old.last new.last
KeepsOffer (Answer old) (Answer new) = new ≡ old
KeepsOffer (Offer old) (Answer new) = ⊥
KeepsOffer (Answer old) (Offer new) = ⊥

-- an offer's edit has room for its sections, and the plan's length bounds its text; an answer's edit is whole
abbrev pub WritesNext : Plan → List (List ℕ) → Next → Type 0
WritesNext plan lines (Offer next) =
    (next.last.count ≤ most_sections) × IsEditReserved (interface_host plan.config) next.last.options next.last.count plan.edit
    × (widest_len plan.config next.last lines ≤ plan.reply_len)
WritesNext plan lines (Answer next) = HaveTags plan.edit.sections.list × (length (edited lines plan.edit) ≤ plan.reply_len)

-- the plan writes a description with these lines
abbrev pub WritesFrom : Plan → List (List ℕ) → Type 0
WritesFrom plan lines = WritesNext plan lines plan.next
