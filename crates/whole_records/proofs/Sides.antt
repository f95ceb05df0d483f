-- The legs on one side of a section, and what the dialog keeps there.
use Rattle.std.proofs.Common.{◌≡◌, ◌∙◌, refl, sym, subst, ℕ, ◌+◌, ◌<◌, ◌≤◌, ◌⊎◌, inl, inr, Bool, true, false, ◌&&◌, List, [], ◌∷◌, get_or, None, arith}
use Rattle.std.proofs.lemmas.Bool.{cases_lt}
use Rattle.relay_outside.specs.declared.settings.Config.{Config}
use Rattle.offer_answer.specs.Dialogs.{no_state}
use Rattle.offer_answer.specs.Shapes.{LegShape, SectionShape, bare_shape, section_shape, shape_in}
use Rattle.offer_answer.specs.declared.saved.DialogSaved.{DialogSaved}
use Rattle.port_pool.specs.declared.holder.Side.{Side}
use Rattle.port_pool.specs.declared.holder.Side.TheVariants.{A, B}
use Rattle.call_cell.specs.Shapes.{CellLegShape}
use Rattle.call_cell.specs.declared.saved.LegSaved.{LegSaved}
use Rattle.call_shapes.specs.Agreement.{LegAgrees, SideAgrees, CountsAgree, section_kept}
use Rattle.call_shapes.proofs.Sieves.{at_number}
use Rattle.whole_records.specs.SavedShapes.{saved_dialog_shape, saved_offered_count}
use Rattle.whole_records.specs.RecordParts.{KeepsLeg, SideHolds, SectionsHold, IsAmong}

-- one leg, and the section has pairs
pub side_one : (config : Config) (has committed : Bool) (kept : LegShape) (found : List CellLegShape) (leg : CellLegShape) → has ≡ true → found ≡ leg ∷ []
    → KeepsLeg config kept committed leg → SideAgrees config has (has && committed) kept found
side_one config true committed kept found leg all is keeps = (leg, is, keeps.agrees, keeps.is_committed)
side_one config false committed kept found leg all is keeps = absurd (cc)

-- no leg, and the section has none
pub side_none : (config : Config) (has committed : Bool) (kept : LegShape) (found : List CellLegShape) → has ≡ false → found ≡ []
    → kept.long_key ≡ None → kept.short_key ≡ None → SideAgrees config has (has && committed) kept found
side_none config true committed kept found bare is long short = absurd (cc)
side_none config false committed kept found bare is long short = (is, long, short)

-- what follows of the legs that were found

pub of_none : (config : Config) (has committed : Bool) (kept : LegShape) (found : List CellLegShape) → found ≡ [] → SideAgrees config has (has && committed) kept found
    → (has ≡ false) × (kept.long_key ≡ None) × (kept.short_key ≡ None)
of_none config true committed kept found is (leg, one, agrees, done) = absurd (let e : ◌≡◌ {A = List CellLegShape} (leg ∷ []) [] = sym one ∙ is in cc)
of_none config false committed kept found is h = (refl, h.1, h.2)

-- some leg: the section has pairs, and there is no further one
pub of_some : (config : Config) (has committed : Bool) (kept : LegShape) (found : List CellLegShape) (leg : CellLegShape) (more : List CellLegShape) → found ≡ leg ∷ more
    → SideAgrees config has (has && committed) kept found → (has ≡ true) × (more ≡ []) × KeepsLeg config kept committed leg
of_some config false committed kept found leg more is h = absurd (let e : ◌≡◌ {A = List CellLegShape} (leg ∷ more) [] = sym is ∙ h.0 in cc)
of_some config true committed kept found leg more is (only, one, agrees, done) =
    let e : ◌≡◌ {A = List CellLegShape} (only ∷ []) (leg ∷ more) = sym one ∙ is in
    let same : only ≡ leg = cc in
    let none : more ≡ [] = cc in
    let own = subst (λ (l : CellLegShape). LegAgrees config kept l) same agrees in
    (refl, none, record { agrees = own; is_committed = subst (λ (l : CellLegShape). l.is_committed ≡ committed) same done })

-- ---- all sections

-- a section of the record's shape
pub kept_at : (dialog : DialogSaved) (section : ℕ) → section < 8 → section_kept (saved_dialog_shape dialog) section ≡ section_shape (get_or dialog.sections section no_state)
kept_at dialog section below = at_number (shape_in dialog.sections) bare_shape section below

-- both sides of the sections below one
abbrev pub HoldBelow : Config → DialogSaved → List LegSaved → ℕ → Type 0
HoldBelow config dialog legs end = (section : ℕ) (side : Side) → section < end → SideHolds config (section_shape (get_or dialog.sections section no_state)) legs section side

side_case : (config : Config) (dialog : DialogSaved) (legs : List LegSaved) (section : ℕ) (side : Side)
    → SideHolds config (section_shape (get_or dialog.sections section no_state)) legs section A
    → SideHolds config (section_shape (get_or dialog.sections section no_state)) legs section B
    → SideHolds config (section_shape (get_or dialog.sections section no_state)) legs section side
side_case config dialog legs section A a b = a
side_case config dialog legs section B a b = b

-- one section more
pub hold_more : (config : Config) (dialog : DialogSaved) (legs : List LegSaved) (end : ℕ) → HoldBelow config dialog legs end
    → SideHolds config (section_shape (get_or dialog.sections end no_state)) legs end A → SideHolds config (section_shape (get_or dialog.sections end no_state)) legs end B
    → HoldBelow config dialog legs (end + 1)
hold_more config dialog legs end before a b section side below = by (cases_lt section end)
  where
    by : (section < end) ⊎ (end ≤ section) → SideHolds config (section_shape (get_or dialog.sections section no_state)) legs section side
    by (inl less) = before section side less
    by (inr from) =
        let same : end ≡ section = omega (arith, below, from) in
        subst (λ n. SideHolds config (section_shape (get_or dialog.sections n no_state)) legs n side) same (side_case config dialog legs end side a b)

pub hold_all : (config : Config) (dialog : DialogSaved) (legs : List LegSaved) → HoldBelow config dialog legs 8 → SectionsHold config (saved_dialog_shape dialog) legs
hold_all config dialog legs all section side below =
    subst (λ (kept : SectionShape). SideHolds config kept legs section side) (sym (kept_at dialog section below)) (all section side below)

pub hold_one : (config : Config) (dialog : DialogSaved) (legs : List LegSaved) → SectionsHold config (saved_dialog_shape dialog) legs → (section : ℕ) (side : Side) → section < 8
    → SideHolds config (section_shape (get_or dialog.sections section no_state)) legs section side
hold_one config dialog legs all section side below =
    subst (λ (kept : SectionShape). SideHolds config kept legs section side) (kept_at dialog section below) (all section side below)

-- ---- counts

abbrev pub AmongBelow : DialogSaved → (offered committed end : ℕ) → Type 0
AmongBelow dialog offered committed end = (section : ℕ) → section < end → IsAmong (section_shape (get_or dialog.sections section no_state)) section offered committed

pub among_more : (dialog : DialogSaved) (offered committed end : ℕ) → AmongBelow dialog offered committed end
    → IsAmong (section_shape (get_or dialog.sections end no_state)) end offered committed → AmongBelow dialog offered committed (end + 1)
among_more dialog offered committed end before one section below = by (cases_lt section end)
  where
    by : (section < end) ⊎ (end ≤ section) → IsAmong (section_shape (get_or dialog.sections section no_state)) section offered committed
    by (inl less) = before section less
    by (inr from) =
        let same : end ≡ section = omega (arith, below, from) in
        subst (λ n. IsAmong (section_shape (get_or dialog.sections n no_state)) n offered committed) same one

pub among_all : (dialog : DialogSaved) → saved_offered_count dialog.last_offer ≤ 8 → dialog.committed_count ≤ saved_offered_count dialog.last_offer
    → AmongBelow dialog (saved_offered_count dialog.last_offer) dialog.committed_count 8 → CountsAgree (saved_dialog_shape dialog)
among_all dialog most no_more all = record {
  most = most;
  no_more = no_more;
  offered = λ section below. subst (λ (kept : SectionShape). kept.has_pairs ≡ true → section < saved_offered_count dialog.last_offer)
      (sym (kept_at dialog section below)) (all section below).0;
  committed = λ section below. subst (λ (kept : SectionShape). kept.is_committed ≡ true → section < dialog.committed_count)
      (sym (kept_at dialog section below)) (all section below).1;
}

pub among_one : (dialog : DialogSaved) → CountsAgree (saved_dialog_shape dialog) → (section : ℕ) → section < 8
    → IsAmong (section_shape (get_or dialog.sections section no_state)) section (saved_offered_count dialog.last_offer) dialog.committed_count
among_one dialog h section below = (
  subst (λ (kept : SectionShape). kept.has_pairs ≡ true → section < saved_offered_count dialog.last_offer) (kept_at dialog section below) (h.offered section below),
  subst (λ (kept : SectionShape). kept.is_committed ≡ true → section < dialog.committed_count) (kept_at dialog section below) (h.committed section below),
)
