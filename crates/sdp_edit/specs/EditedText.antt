-- The edited text: for each line its image, and the lines that are added after it.
use Rattle.std.specs.Prelude.{ℕ, List, [], ◌∷◌, ◌++◌, Bool, ◌&&◌, not, Option, Some, None, if◌then◌else◌, All}
use Rattle.sdp_text.specs.Roles.{mux_line}
use Rattle.sdes_lines.specs.CryptoLine.{line_text, IsTag}
use Rattle.sdes_lines.specs.declared.crypto_line.CryptoLine.{CryptoLine}
use Rattle.sdp_edit.specs.declared.edits.SectionEdit.{SectionEdit}
use Rattle.sdp_edit.specs.declared.edits.Edit.{Edit}
use Rattle.sdp_edit.specs.declared.image.Image.{Image}
use Rattle.sdp_edit.specs.declared.image.Image.TheVariants.{Dropped, Kept, Media, Connection, Origin}
use Rattle.sdp_edit.specs.Texts.{with_end, connection_text, media_text, origin_text}
use Rattle.sdp_edit.specs.Places.{line_place, ends_section, begins_with_title, connection_follows}
use Rattle.sdp_edit.specs.Images.{image_of, edit_at}

-- nothing, the line itself, or one rewritten line
unfoldable pub image_text : Image → List ℕ → List ℕ
image_text Dropped line = []
image_text Kept line = with_end line
image_text (Media edit) line = with_end (media_text edit line)
image_text (Connection host) line = with_end (connection_text host)
image_text (Origin host) line = with_end (origin_text host line)

-- A section without a `c=` line gets one after its `m=` line and the `i=` lines that follow that directly.
unfoldable pub added_connection : Option SectionEdit → Bool → List (List ℕ) → List ℕ
added_connection None is_head more = []
added_connection (Some edit) is_head more =
    if is_head && not (begins_with_title more) && not (connection_follows more) then with_end (connection_text edit.address) else []

-- Where the edit says so, one line `a=rtcp-mux` comes at the end of the section (RFC 5761 section 5.1.1).
unfoldable pub added_mux : Option SectionEdit → List (List ℕ) → List ℕ
added_mux None more = []
added_mux (Some edit) more = if edit.mux && ends_section more then with_end mux_line else []

-- crypto lines in order (RFC 4568)
unfoldable pub key_lines : List (Option CryptoLine) → List ℕ
key_lines [] = []
key_lines (None ∷ more) = key_lines more
key_lines (Some key ∷ more) = with_end (line_text key.tag key.suite key.key) ++ key_lines more

-- The edit's crypto lines come at the end of the section, after that line.
unfoldable pub added_keys : Option SectionEdit → List (List ℕ) → List ℕ
added_keys None more = []
added_keys (Some edit) more = if ends_section more then key_lines edit.crypto else []

-- a line's image and the lines added after it, by the lines before it, the nearest first, and those after it
unfoldable pub edited_line : Edit → List (List ℕ) → List ℕ → List (List ℕ) → List ℕ
edited_line edit before line more =
    let here = line_place (line ∷ before) in
    let section = edit_at edit.sections.list here.section in
    image_text (image_of edit (line_place before) line) line ++ added_connection section here.is_head more ++ added_mux section more ++ added_keys section more

-- all of them from a line on
unfoldable pub edited_from : Edit → List (List ℕ) → List (List ℕ) → List ℕ
edited_from edit before [] = []
edited_from edit before (line ∷ more) = edited_line edit before line more ++ edited_from edit (line ∷ before) more

-- the edited text of a description with these lines
abbrev pub edited : List (List ℕ) → Edit → List ℕ
edited lines edit = edited_from edit [] lines

-- each crypto line has a tag that can be written
abbrev pub KeysHaveTags : List (Option CryptoLine) → Type 0
KeysHaveTags [] = Unit {0}
KeysHaveTags (None ∷ more) = KeysHaveTags more
KeysHaveTags (Some key ∷ more) = IsTag key.tag × KeysHaveTags more

abbrev pub SectionHasTags : Option SectionEdit → Type 0
SectionHasTags None = Unit {0}
SectionHasTags (Some edit) = KeysHaveTags edit.crypto

abbrev pub HaveTags : List SectionEdit → Type 0
HaveTags edits = All (λ edit. KeysHaveTags edit.crypto) edits
