-- The crypto lines that are chosen in a description, section by section.
use Rattle.std.proofs.Common.{◌≡◌, ◌<◌, ◌≤◌, ℕ, List, length, take, Option, Some, None, sym, ap, ◌∙◌, subst, slice_index_or, arith}
use Rattle.std.proofs.lemmas.List.{get_or-take, length-take-le}
use Rattle.std.proofs.lemmas.Option.{slice_get-get_or}
use Rattle.sdes_lines.specs.declared.crypto_line.CryptoLine.{CryptoLine}
use Rattle.sdp_text.specs.Lines.{lines_of}
use Rattle.sdp_text.specs.Descriptions.{sections_in}
use Rattle.sdp_edit.specs.ChosenLines.{section_lines, IsFirstOf}
use Rattle.offer_answer.specs.Sections.{section_count}
use Rattle.offer_answer.specs.Rounds.{Round}
use Rattle.offer_answer.specs.Sides.{MadeOffer, last_offer}
use Rattle.offer_answer.specs.Keys.{chosen_in, no_lines, offered_lines, last_lines}
use Rattle.offer_answer.specs.Faults.{AreFirst}

-- of the lines that are kept, those of the sections that are there are chosen
pub chosen-kept : (kept : List (Option CryptoLine)) (count section : ℕ) → section < count → count ≤ length kept →
    chosen_in (take count kept) section ≡ slice_index_or kept section None
chosen-kept kept count section below full =
    let within : section < length (take count kept) = rw (length-take-le count kept full) below in
    ap (λ (o : Option (Option CryptoLine)). elim o [ None ↦ None | Some line ↦ line ]) (slice_get-get_or (take count kept) section None within)
    ∙ get_or-take count kept section None below

pub first-heard : (P : ℕ → CryptoLine → Type 0) (lines : List (List ℕ)) (sdp : List ℕ) (chosen kept : List (Option CryptoLine)) (count : ℕ) →
    lines_of sdp ≡ lines → chosen ≡ take count kept → count ≡ length (sections_in lines) → count ≤ length kept →
    ((section : ℕ) → section < count → IsFirstOf (P section) (section_lines section lines) (slice_index_or kept section None)) →
    AreFirst P sdp chosen
first-heard P lines sdp chosen kept count read is counted full first = record {
  count = ap (λ (c : List (Option CryptoLine)). length c) is ∙ length-take-le count kept full ∙ there;
  first = λ section below.
      let within : section < count = omega (arith, below, there) in
      subst (λ (ls : List (List ℕ)). IsFirstOf (P section) (section_lines section ls) (chosen_in chosen section)) (sym read)
      (subst (IsFirstOf (P section) (section_lines section lines)) (sym (ap (λ (c : List (Option CryptoLine)). chosen_in c section) is ∙ chosen-kept kept count section within full))
      (first section within));
}
  where
    there : count ≡ section_count sdp
    there = counted ∙ sym (ap (λ (ls : List (List ℕ)). length (sections_in ls)) read)

-- before the first offer no line was offered
pub lines-none : (rounds : List Round) (section : ℕ) → last_offer rounds ≡ None → no_lines ≡ last_lines rounds section
lines-none rounds section l =
    sym (ap (λ (o : Option MadeOffer). elim o [ None ↦ no_lines | Some made ↦ offered_lines made.before made.ask made.keys section ]) l)
