-- The text of an edit that is within another one is no longer than that one's.
use Rattle.std.proofs.Common.{◌≡◌, ℕ, zero, suc, ◌+◌, ◌-◌, ◌≤◌, ◌==◌, ◌&&◌, ◌||◌, not, is_some, Bool, true, false, List, [], ◌∷◌, ◌++◌, length, drop, codes, decimal, Option, Some, None, refl, ap, arith, if◌then◌else◌}
use Rattle.std.proofs.lemmas.List.{length-append}
use Rattle.std.specs.List.{slice_get, join_with_byte}
use Rattle.base64.specs.Engines.{standard}
use Rattle.base64.specs.GeneralPurpose.{encode_of}
use Rattle.base64.proofs.RoundTrip.{length-encode_symbols}
use Rattle.sdes_lines.specs.CryptoLine.{line_text, suite_name}
use Rattle.sdes_lines.specs.declared.crypto_line.CryptoLine.{CryptoLine}
use Rattle.sdes_lines.proofs.Lines.{length-suite_name}
use Rattle.sdp_text.specs.Hosts.{text_of}
use Rattle.sdp_text.specs.declared.host.Host.{Host}
use Rattle.sdp_text.specs.declared.host.Host.TheVariants.{V4, V6}
use Rattle.sdp_text.specs.Pieces.{fields}
use Rattle.sdp_text.specs.Roles.{is_media, is_connection, is_origin, mux_line}
use Rattle.sdp_edit.specs.declared.edits.SectionEdit.{SectionEdit}
use Rattle.sdp_edit.specs.declared.edits.Edit.{Edit}
use Rattle.sdp_edit.specs.declared.image.Image.{Image}
use Rattle.sdp_edit.specs.declared.image.Image.TheVariants.{Dropped, Kept, Connection, Origin}
use Rattle.sdp_edit.specs.declared.place.Place.{Place}
use Rattle.sdp_edit.specs.Texts.{with_end, family_of, proto_text, edited_media_fields, media_text, connection_text, origin_fields, origin_text}
use Rattle.sdp_edit.specs.Places.{line_place, ends_section, begins_with_title, connection_follows}
use Rattle.sdp_edit.specs.Attributes.{is_removed, is_mux_attribute, is_feedback}
use Rattle.sdp_edit.specs.Images.{edit_at, media_image, connection_image, origin_image, lacks_feedback, attribute_image, image_of}
use Rattle.sdp_edit.specs.EditedText.{image_text, added_connection, added_mux, key_lines, added_keys, edited_line, edited_from, edited}
use Rattle.sdp_edit.specs.Widths.{AreLinesWithin, IsHostWithin, IsSectionWithin, AreSectionsWithin, IsWithin}
use Rattle.sdp_edit.proofs.TextLemmas.{length-with_end}

-- Sections.

-- the same section of both edits, or of none
abbrev AreWithinAt : Option SectionEdit → Option SectionEdit → Type 0
AreWithinAt None None = Unit {0}
AreWithinAt None (Some wide) = ⊥
AreWithinAt (Some section) None = ⊥
AreWithinAt (Some section) (Some wide) = IsSectionWithin section wide

get-within : (sections wide : List SectionEdit) (i : ℕ) → AreSectionsWithin sections wide → AreWithinAt (slice_get sections i) (slice_get wide i)
get-within [] [] i within = tt
get-within [] (w ∷ ws) i within = absurd within
get-within (s ∷ ss) [] i within = absurd within
get-within (s ∷ ss) (w ∷ ws) zero within = within.0
get-within (s ∷ ss) (w ∷ ws) (suc i) within = get-within ss ws i within.1

at-within : (sections wide : List SectionEdit) (number : ℕ) → AreSectionsWithin sections wide → AreWithinAt (edit_at sections number) (edit_at wide number)
at-within sections wide number within = go (number == 0)
  where
    go : (b : Bool) → AreWithinAt (if b then None else slice_get sections (number - 1)) (if b then None else slice_get wide (number - 1))
    go true = tt
    go false = get-within sections wide (number - 1) within

-- Crypto lines.

length-encoded : (a b : List ℕ) → length a ≡ length b → length (encode_of standard a) ≡ length (encode_of standard b)
length-encoded a b same =
    let left = length-encode_symbols standard.encode_table a in
    let right = length-encode_symbols standard.encode_table b in
    rw (length-append, length-append, left, right, same) refl

length-six : (a b c d e f : List ℕ) → length (a ++ b ++ c ++ d ++ e ++ f) ≡ length a + length b + length c + length d + length e + length f
length-six a b c d e f = simp length-append

line-within : (line wide : CryptoLine) → length (decimal line.tag) ≤ length (decimal wide.tag) → length line.key ≡ length wide.key →
    length (line_text line.tag line.suite line.key) ≤ length (line_text wide.tag wide.suite wide.key)
unfolding line_text
line-within line wide digits keys = omega (
  arith,
  digits,
  length-encoded line.key wide.key keys,
  length-suite_name line.suite,
  length-suite_name wide.suite,
  length-six (codes "a=crypto:") (decimal line.tag) (codes " ") (suite_name line.suite) (codes " inline:") (encode_of standard line.key),
  length-six (codes "a=crypto:") (decimal wide.tag) (codes " ") (suite_name wide.suite) (codes " inline:") (encode_of standard wide.key),
)

lines-within : (lines wide : List (Option CryptoLine)) → AreLinesWithin lines wide → length (key_lines lines) ≤ length (key_lines wide)
unfolding key_lines
lines-within [] wide within = omega arith
lines-within (line ∷ lines) [] within = absurd within
lines-within (None ∷ lines) (None ∷ more) within = lines-within lines more within.1
lines-within (None ∷ lines) (Some wide ∷ more) within =
    omega (arith, lines-within lines more within.1, length-append (with_end (line_text wide.tag wide.suite wide.key)) (key_lines more))
lines-within (Some line ∷ lines) (None ∷ more) within = absurd within.0
lines-within (Some line ∷ lines) (Some wide ∷ more) within = omega (
  arith,
  lines-within lines more within.1,
  line-within line wide within.0.0 within.0.1,
  length-with_end (line_text line.tag line.suite line.key),
  length-with_end (line_text wide.tag wide.suite wide.key),
  length-append (with_end (line_text line.tag line.suite line.key)) (key_lines lines),
  length-append (with_end (line_text wide.tag wide.suite wide.key)) (key_lines more),
)

keys-within : (s w : Option SectionEdit) (more : List (List ℕ)) → AreWithinAt s w → length (added_keys s more) ≤ length (added_keys w more)
unfolding added_keys
keys-within None None more within = omega arith
keys-within None (Some w) more within = absurd within
keys-within (Some s) None more within = absurd within
keys-within (Some s) (Some w) more within = go (ends_section more)
  where
    go : (b : Bool) → length (if b then key_lines s.crypto else []) ≤ length (if b then key_lines w.crypto else [])
    go true = lines-within s.crypto w.crypto within.lines_within
    go false = omega arith

-- The line for one port.

mux-within : (s w : Option SectionEdit) (more : List (List ℕ)) → AreWithinAt s w → length (added_mux s more) ≤ length (added_mux w more)
unfolding added_mux
mux-within None None more within = omega arith
mux-within None (Some w) more within = absurd within
mux-within (Some s) None more within = absurd within
mux-within (Some s) (Some w) more within =
    omega (arith, ap (λ b. length (if b && ends_section more then with_end mux_line else [])) within.mux_is)

-- Connections.

length-family : (host : Host) → length (family_of host) ≡ 3
length-family (V4 bytes) = refl
length-family (V6 bytes) = refl

length-four : (a b c d : List ℕ) → length (a ++ b ++ c ++ d) ≡ length a + length b + length c + length d
length-four a b c d = simp length-append

connection-within : (host wide : Host) → IsHostWithin host wide → length (with_end (connection_text host)) ≤ length (with_end (connection_text wide))
unfolding connection_text
connection-within host wide within = omega (
  arith,
  within,
  length-family host,
  length-family wide,
  length-with_end (connection_text host),
  length-with_end (connection_text wide),
  length-four (codes "c=IN ") (family_of host) (codes " ") (text_of host),
  length-four (codes "c=IN ") (family_of wide) (codes " ") (text_of wide),
)

added-within : (s w : Option SectionEdit) (is_head : Bool) (more : List (List ℕ)) → AreWithinAt s w →
    length (added_connection s is_head more) ≤ length (added_connection w is_head more)
unfolding added_connection
added-within None None is_head more within = omega arith
added-within None (Some w) is_head more within = absurd within
added-within (Some s) None is_head more within = absurd within
added-within (Some s) (Some w) is_head more within = go (is_head && not (begins_with_title more) && not (connection_follows more))
  where
    go : (b : Bool) → length (if b then with_end (connection_text s.address) else []) ≤ length (if b then with_end (connection_text w.address) else [])
    go true = connection-within s.address w.address within.address_within
    go false = omega arith

-- Images.

length-media : (m d p t : List ℕ) → length (codes "m=" ++ (m ++ 32 ∷ (d ++ 32 ∷ (p ++ 32 ∷ t)))) ≡ length m + length d + length p + length t + 5
length-media m d p t =
    omega (arith, length-append m (32 ∷ (d ++ 32 ∷ (p ++ 32 ∷ t))), length-append d (32 ∷ (p ++ 32 ∷ t)), length-append p (32 ∷ t))

media-within : (section wide : SectionEdit) (line : List ℕ) → IsSectionWithin section wide → length (media_text section line) ≤ length (media_text wide line)
unfolding media_text
media-within section wide line within = go (fields (drop 2 line))
  where
    go : (texts : List (List ℕ)) → length (codes "m=" ++ join_with_byte 32 (edited_media_fields section texts)) ≤ length (codes "m=" ++ join_with_byte 32 (edited_media_fields wide texts))
    go [] = omega arith
    go (a ∷ []) = omega arith
    go (a ∷ b ∷ []) = omega arith
    go (a ∷ b ∷ c ∷ []) = omega arith
    go (media ∷ port ∷ proto ∷ format ∷ more) = omega (
      arith,
      within.port_within,
      ap (λ p. length (proto_text p proto)) within.proto_is,
      length-media media (decimal section.port) (proto_text section.proto proto) (join_with_byte 32 (format ∷ more)),
      length-media media (decimal wide.port) (proto_text wide.proto proto) (join_with_byte 32 (format ∷ more)),
    )

media_image-within : (s w : Option SectionEdit) (line : List ℕ) → AreWithinAt s w → length (image_text (media_image s) line) ≤ length (image_text (media_image w) line)
unfolding image_text
media_image-within None None line within = omega arith
media_image-within None (Some w) line within = absurd within
media_image-within (Some s) None line within = absurd within
media_image-within (Some s) (Some w) line within =
    omega (arith, media-within s w line within, length-with_end (media_text s line), length-with_end (media_text w line))

connection_image-within : (edit wide : Edit) (has_connection : Bool) (s w : Option SectionEdit) (line : List ℕ) → IsWithin edit wide → AreWithinAt s w →
    length (image_text (connection_image edit has_connection s) line) ≤ length (image_text (connection_image wide has_connection w) line)
unfolding image_text
connection_image-within edit wide has_connection None None line within here = go edit.replace_session wide.replace_session within.session_is
  where
    go : (r s : Bool) → r ≡ s → length (image_text (if r then Connection edit.address else Kept) line) ≤ length (image_text (if s then Connection wide.address else Kept) line)
    go true true e = connection-within edit.address wide.address within.address_within
    go false false e = omega arith
    go true false e = cc
    go false true e = cc
connection_image-within edit wide has_connection None (Some w) line within here = absurd here
connection_image-within edit wide has_connection (Some s) None line within here = absurd here
connection_image-within edit wide has_connection (Some s) (Some w) line within here = go has_connection
  where
    go : (b : Bool) → length (image_text (if b then Dropped else Connection s.address) line) ≤ length (image_text (if b then Dropped else Connection w.address) line)
    go true = omega arith
    go false = connection-within s.address w.address here.address_within

length-origin : (a b c d e f : List ℕ) → length (codes "o=" ++ (a ++ 32 ∷ (b ++ 32 ∷ (c ++ 32 ∷ (d ++ 32 ∷ (e ++ 32 ∷ f))))))
    ≡ length a + length b + length c + length d + length e + length f + 7
length-origin a b c d e f = omega (
  arith,
  length-append a (32 ∷ (b ++ 32 ∷ (c ++ 32 ∷ (d ++ 32 ∷ (e ++ 32 ∷ f))))),
  length-append b (32 ∷ (c ++ 32 ∷ (d ++ 32 ∷ (e ++ 32 ∷ f)))),
  length-append c (32 ∷ (d ++ 32 ∷ (e ++ 32 ∷ f))),
  length-append d (32 ∷ (e ++ 32 ∷ f)),
  length-append e (32 ∷ f),
)

origin-within : (host wide : Host) (line : List ℕ) → IsHostWithin host wide → length (with_end (origin_text host line)) ≤ length (with_end (origin_text wide line))
unfolding origin_text
origin-within host wide line within =
    omega (arith, go (fields (drop 2 line)), length-with_end (origin_text host line), length-with_end (origin_text wide line))
  where
    go : (texts : List (List ℕ)) → length (codes "o=" ++ join_with_byte 32 (origin_fields host texts)) ≤ length (codes "o=" ++ join_with_byte 32 (origin_fields wide texts))
    go [] = omega arith
    go (a ∷ []) = omega arith
    go (a ∷ b ∷ []) = omega arith
    go (a ∷ b ∷ c ∷ []) = omega arith
    go (a ∷ b ∷ c ∷ d ∷ []) = omega arith
    go (a ∷ b ∷ c ∷ d ∷ e ∷ []) = omega arith
    go (a ∷ b ∷ c ∷ d ∷ e ∷ f ∷ []) = omega (
      arith,
      within,
      length-family host,
      length-family wide,
      length-origin a b c d (family_of host) (text_of host),
      length-origin a b c d (family_of wide) (text_of wide),
    )
    go (a ∷ b ∷ c ∷ d ∷ e ∷ f ∷ g ∷ more) = omega arith

origin_image-within : (edit wide : Edit) (has_origin : Bool) (line : List ℕ) → IsWithin edit wide →
    length (image_text (origin_image edit has_origin) line) ≤ length (image_text (origin_image wide has_origin) line)
unfolding image_text
origin_image-within edit wide has_origin line within = go edit.replace_origin wide.replace_origin has_origin within.origin_is
  where
    go : (r s h : Bool) → r ≡ s → length (image_text (if r && not h then Origin edit.address else Kept) line) ≤ length (image_text (if s && not h then Origin wide.address else Kept) line)
    go true true false e = origin-within edit.address wide.address line within.address_within
    go true true true e = omega arith
    go false false h e = omega arith
    go true false h e = cc
    go false true h e = cc

same-attribute : (s w : Option SectionEdit) (line : List ℕ) → AreWithinAt s w → attribute_image s line ≡ attribute_image w line
same-attribute None None line within = refl
same-attribute None (Some w) line within = absurd within
same-attribute (Some s) None line within = absurd within
same-attribute (Some s) (Some w) line within =
    ap (λ p. if is_removed line || is_mux_attribute line || (lacks_feedback p && is_feedback line) then Dropped else Kept) within.proto_is

alike : (i j : Image) (line : List ℕ) → i ≡ j → length (image_text i line) ≤ length (image_text j line)
alike i j line same = omega (arith, ap (λ k. length (image_text k line)) same)

image-within : (edit wide : Edit) (place : Place) (line : List ℕ) → IsWithin edit wide →
    length (image_text (image_of edit place line) line) ≤ length (image_text (image_of wide place line) line)
unfolding image_of
image-within edit wide place line within = go (is_media line) (is_connection line) (is_origin line)
  where
    here : AreWithinAt (edit_at edit.sections.list place.section) (edit_at wide.sections.list place.section)
    here = at-within edit.sections.list wide.sections.list place.section within.sections_within

    next : AreWithinAt (edit_at edit.sections.list (place.section + 1)) (edit_at wide.sections.list (place.section + 1))
    next = at-within edit.sections.list wide.sections.list (place.section + 1) within.sections_within

    image : Edit → Bool → Bool → Bool → Image
    image e m c o =
        if m then media_image (edit_at e.sections.list (place.section + 1))
        else if c then connection_image e place.has_connection (edit_at e.sections.list place.section)
        else if o then origin_image e place.has_origin
        else attribute_image (edit_at e.sections.list place.section) line

    go : (m c o : Bool) → length (image_text (image edit m c o) line) ≤ length (image_text (image wide m c o) line)
    go true c o = media_image-within _ _ line next
    go false true o = connection_image-within edit wide place.has_connection _ _ line within here
    go false false true = origin_image-within edit wide place.has_origin line within
    go false false false = alike _ _ line (same-attribute _ _ line here)

-- The text.

edited_line-within : (edit wide : Edit) (before : List (List ℕ)) (line : List ℕ) (more : List (List ℕ)) → IsWithin edit wide →
    length (edited_line edit before line more) ≤ length (edited_line wide before line more)
unfolding edited_line
edited_line-within edit wide before line more within =
    let here = line_place (line ∷ before) in
    let s = edit_at edit.sections.list here.section in
    let w = edit_at wide.sections.list here.section in
    let at = at-within edit.sections.list wide.sections.list here.section within.sections_within in
    omega (
      arith,
      image-within edit wide (line_place before) line within,
      added-within s w here.is_head more at,
      mux-within s w more at,
      keys-within s w more at,
      length-append (image_text (image_of edit (line_place before) line) line ++ added_connection s here.is_head more ++ added_mux s more) (added_keys s more),
      length-append (image_text (image_of edit (line_place before) line) line ++ added_connection s here.is_head more) (added_mux s more),
      length-append (image_text (image_of edit (line_place before) line) line) (added_connection s here.is_head more),
      length-append (image_text (image_of wide (line_place before) line) line ++ added_connection w here.is_head more ++ added_mux w more) (added_keys w more),
      length-append (image_text (image_of wide (line_place before) line) line ++ added_connection w here.is_head more) (added_mux w more),
      length-append (image_text (image_of wide (line_place before) line) line) (added_connection w here.is_head more),
    )

from-within : (edit wide : Edit) (before lines : List (List ℕ)) → IsWithin edit wide → length (edited_from edit before lines) ≤ length (edited_from wide before lines)
unfolding edited_from
from-within edit wide before [] within = omega arith
from-within edit wide before (line ∷ more) within = omega (
  arith,
  edited_line-within edit wide before line more within,
  from-within edit wide (line ∷ before) more within,
  length-append (edited_line edit before line more) (edited_from edit (line ∷ before) more),
  length-append (edited_line wide before line more) (edited_from wide (line ∷ before) more),
)

-- a wide edit writes at least as much
pub edited-within : (lines : List (List ℕ)) (edit wide : Edit) → IsWithin edit wide → length (edited lines edit) ≤ length (edited lines wide)
edited-within lines edit wide within = from-within edit wide [] lines within
