-- The parts of a saved table of sources.
use Rattle.std.proofs.Common.{◌≡◌, ℕ, ◌≤◌, List, [], ◌∷◌, ◌++◌, length, get_or, take, drop, arith, sym, ap, subst, ◌∙◌, refl, length-append}
use Rattle.std.proofs.lemmas.List.{append-nil, take_all, take_more}
use Rattle.std.proofs.Props.{props}
use Rattle.replay_window.specs.declared.window.Window.{Window}
use Rattle.srtp_sources.specs.declared.sources.Sources.{Sources}
use Rattle.srtp_sources.specs.SavedWords.{saved_words}
use Rattle.srtp_sources.specs.SavedWindowLists.{saved_windows}
use Rattle.srtp_sources.specs.SavedSources.{FitsSources, saved_sources}
use Rattle.srtp_sources.proofs.Pieces.{read_more, part_behind, same_parts}
use Rattle.srtp_sources.proofs.SavedLists.{length-saved_words, length-saved_windows, same_words, same_windows}

pub length-saved_sources : (table : Sources) → FitsSources table → length (saved_sources table) ≡ 929
unfolding saved_sources
length-saved_sources table fits =
    omega (arith, length-append (saved_words table.ssrcs) (saved_windows table.windows), length-saved_words table.ssrcs fits.ssrcs, length-saved_windows table.windows fits.windows)

pub saved_count : (table : Sources) (bytes : List ℕ) → saved_sources table ≡ bytes → table.count ≡ get_or bytes 0 0
unfolding saved_sources
saved_count table bytes is = ap (λ (l : List ℕ). get_or l 0 0) is

pub windows_part : (table : Sources) (bytes : List ℕ) → FitsSources table → saved_sources table ≡ bytes → saved_windows table.windows ≡ take 800 (drop 129 bytes)
unfolding saved_sources
windows_part table bytes fits is =
    let whole : (table.count ∷ saved_words table.ssrcs) ++ (saved_windows table.windows ++ []) ≡ bytes =
    ap (λ (l : List ℕ). (table.count ∷ saved_words table.ssrcs) ++ l) (append-nil (saved_windows table.windows)) ∙ is in
    part_behind bytes (table.count ∷ saved_words table.ssrcs) (saved_windows table.windows) [] 129 800 whole
    (omega (arith, length-saved_words table.ssrcs fits.ssrcs)) (length-saved_windows table.windows fits.windows)

-- what was read at its place is the whole
pub table_read : (table : Sources) (bytes : List ℕ) → length bytes ≡ 929 → table.count ≡ get_or bytes 0 0
    → saved_words table.ssrcs ≡ take 128 (drop 1 bytes) → saved_windows table.windows ≡ take 800 (drop 129 bytes) → saved_sources table ≡ bytes
unfolding saved_sources
table_read table bytes long count words windows =
    let first : table.count ∷ [] ≡ take 1 bytes = ap (λ (n : ℕ). n ∷ []) count ∙ sym (take_more bytes 0 0 (omega arith)) in
    let two : table.count ∷ saved_words table.ssrcs ≡ take 129 bytes = read_more bytes (table.count ∷ []) (saved_words table.ssrcs) 1 128 129 first words refl in
    read_more bytes (table.count ∷ saved_words table.ssrcs) (saved_windows table.windows) 129 800 929 two windows refl ∙ take_all 929 bytes (omega arith)

-- tables alike in their fields are one
same_table : (ssrcs others : List ℕ) (windows more : List Window) (count known : ℕ) → ssrcs ≡ others → windows ≡ more → count ≡ known
    → (h : count ≤ 32) (h' : known ≤ 32)
    → ◌≡◌ {A = Sources} (record { ssrcs = ssrcs; windows = windows; count = count; within = h }) (record { ssrcs = others; windows = more; count = known; within = h' })
same_table ssrcs others windows more count known same_ssrcs same_windows same_count h =
    subst (λ (n : ℕ). (h' : n ≤ 32)
    → ◌≡◌ {A = Sources} (record { ssrcs = ssrcs; windows = windows; count = count; within = h }) (record { ssrcs = others; windows = more; count = n; within = h' }))
    same_count
    (λ h'. λ i. record { ssrcs = same_ssrcs i; windows = same_windows i; count = count; within = at_most h h' i })
  where
    at_most : IsProp (count ≤ 32)
    at_most = hlevel props

pub same_sources : (a b : Sources) → FitsSources a → FitsSources b → saved_sources a ≡ saved_sources b → a ≡ b
unfolding saved_sources
same_sources a b fits_a fits_b is =
    let cut = same_parts (a.count ∷ saved_words a.ssrcs) (saved_windows a.windows) (b.count ∷ saved_words b.ssrcs) (saved_windows b.windows)
    (omega (arith, length-saved_words a.ssrcs fits_a.ssrcs, length-saved_words b.ssrcs fits_b.ssrcs)) is in
    let head = same_parts (a.count ∷ []) (saved_words a.ssrcs) (b.count ∷ []) (saved_words b.ssrcs) refl cut.0 in
    same_table a.ssrcs b.ssrcs a.windows b.windows a.count b.count (same_words a.ssrcs b.ssrcs fits_a.ssrcs fits_b.ssrcs head.1)
    (same_windows a.windows b.windows fits_a.windows fits_b.windows cut.1) (ap (λ (l : List ℕ). get_or l 0 0) head.0) a.within b.within
