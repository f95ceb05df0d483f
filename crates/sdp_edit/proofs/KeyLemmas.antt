-- The crypto lines of a section.
use Rattle.std.proofs.Common.{◌≡◌, ◌==◌, ◌-◌, ℕ, zero, suc, List, [], ◌∷◌, ◌++◌, length, Option, Some, None, refl, sym, ap, arith}
use Rattle.std.proofs.lemmas.List.{append-nil}
use Rattle.std.proofs.lemmas.List.Elements.{All-head, All-tail}
use Rattle.std.proofs.lemmas.Bool.{cond_both}
use Rattle.std.specs.List.{slice_index_or, slice_get}
use Rattle.sdes_lines.specs.declared.crypto_line.CryptoLine.{CryptoLine}
use Rattle.sdp_edit.specs.declared.edits.SectionEdit.{SectionEdit}
use Rattle.sdp_edit.specs.EditedText.{key_lines, KeysHaveTags, SectionHasTags, HaveTags}
use Rattle.sdp_edit.specs.Images.{edit_at}

key_lines-cons : (key : Option CryptoLine) (more : List (Option CryptoLine)) → key_lines (key ∷ more) ≡ key_lines (key ∷ []) ++ key_lines more
unfolding key_lines
key_lines-cons None more = refl
key_lines-cons (Some key) more = ap (λ t. t ++ key_lines more) (sym (append-nil _))

-- two of them
pub two_keys : (keys : List (Option CryptoLine)) (d : Option CryptoLine) → length keys ≡ 2
    → key_lines (slice_index_or keys 0 d ∷ []) ++ key_lines (slice_index_or keys 1 d ∷ []) ≡ key_lines keys
two_keys [] d two = absurd (omega arith)
two_keys (a ∷ []) d two = absurd (omega arith)
two_keys (a ∷ b ∷ []) d two = sym (key_lines-cons a (b ∷ []))
two_keys (a ∷ b ∷ c ∷ more) d two = absurd (omega arith)

get_tags : (edits : List SectionEdit) (i : ℕ) → HaveTags edits → SectionHasTags (slice_get edits i)
get_tags [] i tags = tt
get_tags (edit ∷ more) zero tags = All-head (λ (e : SectionEdit). KeysHaveTags e.crypto) edit more tags
get_tags (edit ∷ more) (suc i) tags = get_tags more i (All-tail (λ (e : SectionEdit). KeysHaveTags e.crypto) edit more tags)

-- the edit at a place has tags that can be written
pub edit_at_tags : (edits : List SectionEdit) (number : ℕ) → HaveTags edits → SectionHasTags (edit_at edits number)
edit_at_tags edits number tags = cond_both (number == 0) None (slice_get edits (number - 1)) SectionHasTags (λ _. tt) (λ _. get_tags edits (number - 1) tags)
