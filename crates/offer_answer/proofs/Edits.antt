-- The edited text doesn't depend on the room that is left in the list of section edits.
use Rattle.std.proofs.Common.{◌≡◌, ℕ, Bool, List, [], ◌∷◌, ◌++◌, refl, ap}
use Rattle.sdp_text.specs.declared.host.Host.{Host}
use Rattle.sdp_edit.specs.declared.edits.SectionEdit.{SectionEdit}
use Rattle.sdp_edit.specs.declared.edits.Edit.{Edit}
use Rattle.sdp_edit.specs.Images.{image_of}
use Rattle.sdp_edit.specs.EditedText.{edited_from, edited_line, edited}

abbrev with_spare : Host → Bool → Bool → List SectionEdit → ℕ → Edit
with_spare address origin session sections spare = record { address = address; replace_origin = origin; replace_session = session; sections = record { list = sections; spare = spare } }

from-spare : (address : Host) (origin session : Bool) (sections : List SectionEdit) (m n : ℕ) (before lines : List (List ℕ)) →
    edited_from (with_spare address origin session sections m) before lines ≡ edited_from (with_spare address origin session sections n) before lines
unfolding edited_from edited_line image_of
from-spare address origin session sections m n before [] = refl
from-spare address origin session sections m n before (line ∷ more) =
    ap (λ rest. edited_line (with_spare address origin session sections n) before line more ++ rest) (from-spare address origin session sections m n (line ∷ before) more)

pub edited-spare : (lines : List (List ℕ)) (edit : Edit) (n : ℕ) →
    edited lines edit ≡ edited lines (record edit { sections = record { list = edit.sections.list; spare = n } })
edited-spare lines edit n = from-spare edit.address edit.replace_origin edit.replace_session edit.sections.list edit.sections.spare n [] lines
