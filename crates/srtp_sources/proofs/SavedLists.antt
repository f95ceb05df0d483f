-- What a list of saved windows says of each.
use Rattle.std.proofs.Common.{◌≡◌, ℕ, ◌*◌, ◌^◌, ◌<◌, List, [], ◌∷◌, ◌++◌, length, get_or, take, drop, Option, Some, None, arith, sym, ap, ◌∙◌, refl}
use Rattle.std.specs.Prelude.{IfNone}
use Rattle.std.specs.Int.{w32, w128, to_be_bytes, from_be_bytes}
use Rattle.std.proofs.lemmas.Nat.{from_be_bytes-to_be_bytes_4}
use Rattle.replay_window.specs.declared.window.Window.{Window}
use Rattle.replay_window.specs.SavedWindows.{FitsWindow, saved_greatest, saved_window}
use Rattle.replay_window.proofs.SavedParts.{same_saved}
use Rattle.srtp_sources.specs.SavedWords.{FitsWords, saved_words}
use Rattle.srtp_sources.specs.SavedWindowLists.{FitsWindows, saved_windows}
use Rattle.srtp_sources.proofs.Pieces.{length-pieces, piece_at, same_pieces}

-- what holds holds where there is none
pub if_none : {A : Type 0} (o : Option A) (P : Type 0) → P → IfNone o P
if_none None P p = p
if_none (Some x) P p = tt

length-saved : (top : Option ℕ) (bits : ℕ) → length (saved_greatest top ++ to_be_bytes w128 bits) ≡ 25
length-saved None bits = refl
length-saved (Some index) bits = refl

pub length-saved_window : (window : Window) → length (saved_window window) ≡ 25
unfolding saved_window
length-saved_window window = length-saved window.greatest window.bits

pub length-saved_windows : (windows : List Window) → FitsWindows windows → length (saved_windows windows) ≡ 800
unfolding saved_windows
length-saved_windows windows fits = omega (arith, length-pieces saved_window 25 length-saved_window windows, fits.places)

pub length-saved_words : (words : List ℕ) → FitsWords words → length (saved_words words) ≡ 128
unfolding saved_words
length-saved_words words fits = omega (arith, length-pieces (to_be_bytes w32) 4 (λ word. refl) words, fits.places)

-- where no window has the saved form that stands at a place, no windows have the whole
pub no_windows : (windows : List Window) (bytes : List ℕ) (place : ℕ) → place < 32
    → ((window : Window) → FitsWindow window → saved_window window ≡ take 25 (drop (25 * place) bytes) → ⊥)
    → FitsWindows windows → saved_windows windows ≡ bytes → ⊥
unfolding saved_windows
no_windows [] bytes place within none fits is = absurd (omega (arith, fits.places))
no_windows (first ∷ rest) bytes place within none fits is =
    let windows = first ∷ rest in
    let held : place < length windows = omega (arith, fits.places) in
    none (get_or windows place first) (fits.each place first held)
    (sym (piece_at saved_window 25 length-saved_window windows place first held) ∙ ap (λ (l : List ℕ). take 25 (drop (25 * place) l)) is)

word_tells : (x y : ℕ) → x < 2 ^ 32 → y < 2 ^ 32 → to_be_bytes w32 x ≡ to_be_bytes w32 y → x ≡ y
word_tells x y below_x below_y is =
    sym (from_be_bytes-to_be_bytes_4 x below_x) ∙ ap (from_be_bytes w32) is ∙ from_be_bytes-to_be_bytes_4 y below_y

pub same_words : (a b : List ℕ) → FitsWords a → FitsWords b → saved_words a ≡ saved_words b → a ≡ b
unfolding saved_words
same_words a b fits_a fits_b is =
    same_pieces (to_be_bytes w32) 4 (λ word. refl) (λ word. word < 2 ^ 32) word_tells a b (fits_a.places ∙ sym fits_b.places) fits_a.width fits_b.width is

pub same_windows : (a b : List Window) → FitsWindows a → FitsWindows b → saved_windows a ≡ saved_windows b → a ≡ b
unfolding saved_windows
same_windows a b fits_a fits_b is =
    same_pieces saved_window 25 length-saved_window FitsWindow same_saved a b (fits_a.places ∙ sym fits_b.places) fits_a.each fits_b.each is
