-- What becomes of a line.
use Rattle.std.specs.Prelude.{◌≡◌, ℕ, ◌+◌, ◌-◌, List, Bool, ◌&&◌, ◌||◌, not, ◌==◌, Option, Some, None, true, false, if◌then◌else◌, is_some, slice_get}
use Rattle.sdp_text.specs.Roles.{is_media, is_connection, is_origin}
use Rattle.sdp_text.specs.declared.proto.Proto.{Proto}
use Rattle.sdp_text.specs.declared.proto.Proto.TheVariants.{Avp, Avpf, Savp, Savpf, Other}
use Rattle.sdp_edit.specs.declared.edits.SectionEdit.{SectionEdit}
use Rattle.sdp_edit.specs.declared.edits.Edit.{Edit}
use Rattle.sdp_edit.specs.declared.image.Image.{Image}
use Rattle.sdp_edit.specs.declared.image.Image.TheVariants.{Dropped, Kept, Media, Connection, Origin}
use Rattle.sdp_edit.specs.declared.place.Place.{Place}
use Rattle.sdp_edit.specs.Attributes.{is_removed, is_mux_attribute, is_feedback}

-- the edit of the section with this number, from 1; 0 stands for the lines before the first section
abbrev pub edit_at : List SectionEdit → ℕ → Option SectionEdit
edit_at edits number = if number == 0 then None else slice_get edits (number - 1)

abbrev pub media_image : Option SectionEdit → Image
media_image None = Kept
media_image (Some edit) = Media edit

-- before the first section each `c=` line is replaced, if any is; in a section the first one is, and the others go
abbrev pub connection_image : Edit → Bool → Option SectionEdit → Image
connection_image edit has_connection None = if edit.replace_session then Connection edit.address else Kept
connection_image edit has_connection (Some section) = if has_connection then Dropped else Connection section.address

-- the first `o=` line alone is replaced
abbrev pub origin_image : Edit → Bool → Image
origin_image edit has_origin = if edit.replace_origin && not has_origin then Origin edit.address else Kept

-- a profile without early feedback
abbrev pub lacks_feedback : Proto → Bool
lacks_feedback Avp = true
lacks_feedback Avpf = false
lacks_feedback Savp = true
lacks_feedback Savpf = false
lacks_feedback Other = false

abbrev pub drops_feedback : Option SectionEdit → Bool
drops_feedback None = false
drops_feedback (Some edit) = lacks_feedback edit.proto

-- an edited section loses each `a=rtcp-mux` line of its own
abbrev pub attribute_image : Option SectionEdit → List ℕ → Image
attribute_image edit line = if is_removed line || (is_some edit && is_mux_attribute line) || (drops_feedback edit && is_feedback line) then Dropped else Kept

-- what becomes of a line at a place
unfoldable pub image_of : Edit → Place → List ℕ → Image
image_of edit place line =
    if is_media line then media_image (edit_at edit.sections.list (place.section + 1))
    else if is_connection line then connection_image edit place.has_connection (edit_at edit.sections.list place.section)
    else if is_origin line then origin_image edit place.has_origin
    else attribute_image (edit_at edit.sections.list place.section) line

-- an image that rewrites a line of one type is of such a line
abbrev pub Suits : Image → List ℕ → Type 0
Suits Dropped line = Unit {0}
Suits Kept line = Unit {0}
Suits (Media edit) line = is_media line ≡ true
Suits (Connection host) line = Unit {0}
Suits (Origin host) line = is_origin line ≡ true
