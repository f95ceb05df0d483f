-- The first line of a section that is one of those looked for.
use Rattle.std.proofs.Common.{◌≡◌, ℕ, zero, suc, ◌-◌, ◌<◌, ◌⊎◌, Bool, true, false, List, [], ◌∷◌, Option, Some, None, IsSome, refl, ap, subst, if◌then◌else◌, arith, inl, inr}
use Rattle.sdes_lines.specs.declared.crypto_line.CryptoLine.{CryptoLine}
use Rattle.sdp_text.specs.Roles.{is_media}
use Rattle.sdp_edit.specs.Places.{up_to_media}
use Rattle.sdp_edit.specs.ChosenLines.{section_lines, IsFirstOf, IsChosenKey, IsLineOf}

-- the section's lines begin after this `m=` line
pub section_here : (line : List ℕ) (more : List (List ℕ)) (left : ℕ) → is_media line ≡ true → left ≡ 0
    → section_lines left (line ∷ more) ≡ up_to_media more
section_here line more left media none = rw (none, media) refl

pub section_next : (line : List ℕ) (more : List (List ℕ)) (left : ℕ) → is_media line ≡ true → 0 < left
    → section_lines left (line ∷ more) ≡ section_lines (left - 1) more
section_next line more zero media some = absurd (omega arith)
section_next line more (suc left) media some =
    let one : suc left - 1 ≡ left = omega arith in
    rw (media, one) refl

pub section_on : (line : List ℕ) (more : List (List ℕ)) (left : ℕ) → is_media line ≡ false
    → section_lines left (line ∷ more) ≡ section_lines left more
section_on line more zero media = rw media refl
section_on line more (suc left) media = rw media refl

-- the section ends at an `m=` line
pub first_none : (P : CryptoLine → Type 0) (line : List ℕ) (more : List (List ℕ)) → is_media line ≡ true → IsFirstOf P (up_to_media (line ∷ more)) None
first_none P line more media = rw media refl

pub first_here : (P : CryptoLine → Type 0) (line : List ℕ) (more : List (List ℕ)) (key : CryptoLine) → is_media line ≡ false → IsLineOf P line key
    → IsFirstOf P (up_to_media (line ∷ more)) (Some key)
first_here P line more key media is = rw media (inl (is, refl))

pub first_later : (P : CryptoLine → Type 0) (line : List ℕ) (more : List (List ℕ)) (r : Option CryptoLine) → is_media line ≡ false → IsChosenKey P line None
    → IsFirstOf P (up_to_media more) r → IsFirstOf P (up_to_media (line ∷ more)) r
first_later P line more r media none first = rw media (inr (none, first))

-- no other key can be the first

pub only_none : (P : CryptoLine → Type 0) (line : List ℕ) (more : List (List ℕ)) (r : Option CryptoLine) → is_media line ≡ true
    → IsFirstOf P (up_to_media (line ∷ more)) r → r ≡ None
only_none P line more r media first = subst (λ (b : Bool). IsFirstOf P (if b then [] else line ∷ up_to_media more) r) media first

pub only_here : (P : CryptoLine → Type 0) (line : List ℕ) (more : List (List ℕ)) (key : CryptoLine) (r : Option CryptoLine) → is_media line ≡ false
    → IsLineOf P line key → ((other : CryptoLine) → IsLineOf P line other → other ≡ key) → IsFirstOf P (up_to_media (line ∷ more)) r → r ≡ Some key
only_here P line more key r media is one first = go r (subst (λ (b : Bool). IsFirstOf P (if b then [] else line ∷ up_to_media more) r) media first)
  where
    go : (r : Option CryptoLine) → (IsChosenKey P line r × IsSome r) ⊎ (IsChosenKey P line None × IsFirstOf P (up_to_media more) r) → r ≡ Some key
    go None (inl here) = cc (here.1)
    go (Some other) (inl here) = ap Some (one other here.0)
    go r (inr there) = absurd (there.0 key is)

pub only_later : (P : CryptoLine → Type 0) (line : List ℕ) (more : List (List ℕ)) (r : Option CryptoLine) → is_media line ≡ false → IsChosenKey P line None
    → IsFirstOf P (up_to_media (line ∷ more)) r → IsFirstOf P (up_to_media more) r
only_later P line more r media none first = go r (subst (λ (b : Bool). IsFirstOf P (if b then [] else line ∷ up_to_media more) r) media first)
  where
    go : (r : Option CryptoLine) → (IsChosenKey P line r × IsSome r) ⊎ (IsChosenKey P line None × IsFirstOf P (up_to_media more) r) → IsFirstOf P (up_to_media more) r
    go None (inl here) = cc (here.1)
    go (Some other) (inl here) = absurd (none other here.0)
    go r (inr there) = there.1
