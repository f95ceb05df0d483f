-- What the lines before a line say of it. They come the nearest first.
use Rattle.std.specs.Prelude.{ℕ, List, [], ◌∷◌, Bool, true, false, if◌then◌else◌, count_by, codes, nat_eq}
use Rattle.std.specs.List.{starts_with, list_any, list_all}
use Rattle.sdp_text.specs.Roles.{is_media, is_connection, is_origin}
use Rattle.sdp_edit.specs.declared.place.Place.{Place}

-- RFC 8866 section 5.4
abbrev pub is_title : List ℕ → Bool
is_title line = starts_with nat_eq line (codes "i=")

-- the lines up to the next `m=` line, in either direction
abbrev pub up_to_media : List (List ℕ) → List (List ℕ)
up_to_media [] = []
up_to_media (line ∷ more) = if is_media line then [] else line ∷ up_to_media more

unfoldable pub line_place : List (List ℕ) → Place
line_place before = record {
  section = count_by is_media before;
  has_connection = list_any is_connection (up_to_media before);
  has_origin = list_any is_origin before;
  is_head = list_all is_title (up_to_media before);
}

-- whether a section ends before these lines
abbrev pub ends_section : List (List ℕ) → Bool
ends_section [] = true
ends_section (line ∷ more) = is_media line

-- whether the next of these lines is an `i=` line
abbrev pub begins_with_title : List (List ℕ) → Bool
begins_with_title [] = false
begins_with_title (line ∷ more) = is_title line

-- whether a `c=` line follows in the same section
abbrev pub connection_follows : List (List ℕ) → Bool
connection_follows more = list_any is_connection (up_to_media more)
