-- The place after a line.
use Rattle.std.proofs.Common.{◌≡◌, ℕ, ◌+◌, Bool, true, false, ◌||◌, ◌&&◌, List, ◌∷◌, refl, arith, count_by}
use Rattle.std.proofs.lemmas.List.Sums.{sum_by-cons}
use Rattle.sdp_text.specs.Roles.{is_media, is_connection, is_origin}
use Rattle.sdp_edit.specs.Places.{line_place, is_title, connection_follows}
use Rattle.sdp_edit.specs.declared.place.Place.{Place}

pub after_media : (place : Place) (line : List ℕ) (before : List (List ℕ)) (has_origin : Bool)
    → place ≡ line_place before → is_media line ≡ true → has_origin ≡ (is_origin line || place.has_origin)
    → record { section = place.section + 1; has_connection = false; has_origin = has_origin; is_head = true } ≡ line_place (line ∷ before)
unfolding line_place
after_media place line before has_origin is media origin =
    let count : count_by is_media (line ∷ before) ≡ place.section + 1 = rw (sum_by-cons, media, is) (omega arith) in
    rw (origin, count, media, is) refl

pub after_other : (place : Place) (line : List ℕ) (before : List (List ℕ)) (has_connection has_origin is_head : Bool)
    → place ≡ line_place before → is_media line ≡ false → has_origin ≡ (is_origin line || place.has_origin)
    → has_connection ≡ (is_connection line || place.has_connection) → is_head ≡ (is_title line && place.is_head)
    → record { section = place.section; has_connection = has_connection; has_origin = has_origin; is_head = is_head } ≡ line_place (line ∷ before)
unfolding line_place
after_other place line before has_connection has_origin is_head is media origin connection head =
    let count : count_by is_media (line ∷ before) ≡ place.section = rw (sum_by-cons, media, is) (omega arith) in
    rw (origin, connection, head, count, media, is) refl

-- the first of the lines that follow, where one does
pub follows_media : (line : List ℕ) (more : List (List ℕ)) → is_media line ≡ true → connection_follows (line ∷ more) ≡ false
follows_media line more media = rw media refl

pub follows_connection : (line : List ℕ) (more : List (List ℕ)) → is_media line ≡ false → is_connection line ≡ true → connection_follows (line ∷ more) ≡ true
follows_connection line more media connection = rw (media, connection) refl

pub follows_other : (line : List ℕ) (more : List (List ℕ)) → is_media line ≡ false → is_connection line ≡ false → connection_follows (line ∷ more) ≡ connection_follows more
follows_other line more media connection = rw (media, connection) refl
