-- How the refusal of a line becomes that of a form, and the refusal of a part that of the whole.
use Rattle.std.proofs.Common.{◌≡◌, ◌∙◌, ap, sym, subst, refl, ℕ, ◌+◌, ◌<◌, ◌≤◌, ◌^◌, List, [], ◌∷◌, ◌++◌, length, map, arith, append_assoc}
use Rattle.std.proofs.lemmas.List.{map-append, length-append}
use Rattle.relay_outside.specs.declared.lines.LineCall.{LineCall}
use Rattle.relay_outside.specs.declared.lines.LineGiven.{LineGiven}
use Rattle.relay_outside.specs.declared.lines.LineGiven.TheVariants as given
use Rattle.state_lines.specs.declared.faults.LineFault.{LineFault}
use Rattle.state_lines.specs.declared.faults.LineFault.TheVariants as fault
use Rattle.state_lines.specs.LineReads.{read_of, text_read, ReadsUpTo, BreaksForm, RefusesForm, IsLastLine}
use Rattle.state_lines.specs.OneRead.{IsLengthLine, IsUnwanted, MissesLine}
use Rattle.state_lines.specs.StateLines.{IsFront, IsOneLine, IsValue, AreDigitLines, length_line, value_lines, digit_lines}
use Rattle.state_lines.proofs.ByteLists.{heads, tails}
use Rattle.state_lines.proofs.Numbers.{same_length_line}

-- A line was missed after some lines.
module _ (form : List (List ℕ) → Type 0) (wanted : List ℕ → Type 0) (earlier : ℕ) (before : List (List ℕ)) where
  breaks : (last : LineGiven) → ((line : List ℕ) → IsFront form (before ++ line ∷ []) → wanted line) → IsUnwanted wanted last → BreaksForm form before last
  breaks (given.Text line) wants other = λ front. other (wants line front)
  breaks given.End wants other = tt
  breaks given.Failed wants other = other

  pub refuses : (f : LineFault) (mid now : ℕ) (calls : List LineCall) → IsFront form before → (form before → ⊥) → ((line : List ℕ) → IsFront form (before ++ line ∷ []) → wanted line)
      → mid ≡ earlier + length before → IsLastLine mid now f → now ≤ mid + 1 → MissesLine wanted f calls → RefusesForm form earlier f (map text_read before ++ calls)
  refuses (fault.NotState n) mid now calls front unfinished wants at number one missed = record {
    before = before;
    last = missed.last;
    reads = record { reads = ap (λ (more : List LineCall). map text_read before ++ more) missed.reads; front = front; unfinished = unfinished };
    breaks = breaks missed.last wants missed.unwanted;
    number = omega (arith, at, number.0, number.1, one);
  }
  refuses fault.Source mid now calls front unfinished wants at number one missed = record {
    before = before;
    reads = record { reads = ap (λ (more : List LineCall). map text_read before ++ more) missed; front = front; unfinished = unfinished };
  }
  refuses fault.OutOfMemory mid now calls front unfinished wants at number one missed = record {
    before = before;
    more = calls;
    reads = refl;
    front = front;
    line = missed;
  }

-- A part was refused after some lines of the whole.
module _ (part form : List (List ℕ) → Type 0) (front : List (List ℕ)) where
  joined : (before : List (List ℕ)) (more calls : List LineCall) → calls ≡ map text_read before ++ more → map text_read front ++ calls ≡ map text_read (front ++ before) ++ more
  joined before more calls reads =
      ap (λ (xs : List LineCall). map text_read front ++ xs) reads
      ∙ sym (append_assoc (map text_read front) (map text_read before) more)
      ∙ ap (λ (xs : List LineCall). xs ++ more) (sym (map-append text_read front before))

  pub record Fits : Type 0 where
    pub begins : (lines : List (List ℕ)) → IsFront part lines → IsFront form (front ++ lines)
    pub goes_on : (lines : List (List ℕ)) → IsFront part lines → (part lines → ⊥) → form (front ++ lines) → ⊥
    pub leads_back : (lines : List (List ℕ)) (line : List ℕ) → IsFront part lines → (part lines → ⊥) → IsFront form (front ++ (lines ++ line ∷ [])) → IsFront part (lines ++ line ∷ [])

  part_breaks : Fits → (before : List (List ℕ)) (last : LineGiven) → IsFront part before → (part before → ⊥) → BreaksForm part before last → BreaksForm form (front ++ before) last
  part_breaks fits before (given.Text line) begins unfinished breaks =
      λ whole. breaks (fits.leads_back before line begins unfinished (subst (λ (lines : List (List ℕ)). IsFront form lines) (append_assoc front before (line ∷ [])) whole))
  part_breaks fits before given.End begins unfinished breaks = tt
  part_breaks fits before given.Failed begins unfinished breaks = breaks

  up_to : Fits → (before : List (List ℕ)) (last : LineGiven) (calls : List LineCall) → ReadsUpTo part before last calls → ReadsUpTo form (front ++ before) last (map text_read front ++ calls)
  up_to fits before last calls up = record {
    reads = joined before (read_of last ∷ []) calls up.reads;
    front = fits.begins before up.front;
    unfinished = fits.goes_on before up.front up.unfinished;
  }

  pub part_refused : Fits → (earlier mid : ℕ) → mid ≡ earlier + length front → (f : LineFault) (calls : List LineCall) → RefusesForm part mid f calls → RefusesForm form earlier f (map text_read front ++ calls)
  part_refused fits earlier mid at (fault.NotState n) calls is = record {
    before = front ++ is.before;
    last = is.last;
    reads = up_to fits is.before is.last calls is.reads;
    breaks = part_breaks fits is.before is.last is.reads.front is.reads.unfinished is.breaks;
    number = omega (arith, is.number, at, length-append front is.before);
  }
  part_refused fits earlier mid at fault.Source calls is = record { before = front ++ is.before; reads = up_to fits is.before given.Failed calls is.reads }
  part_refused fits earlier mid at fault.OutOfMemory calls is = record {
    before = front ++ is.before;
    more = is.more;
    reads = joined is.before is.more calls is.reads;
    front = fits.begins is.before is.front;
    line = is.line;
  }

-- One line alone.
pub line_begins : (line : List ℕ) → IsFront (IsOneLine line) []
line_begins line = record { rest = line ∷ []; whole = refl }

pub line_goes_on : (line : List ℕ) → IsOneLine line [] → ⊥
line_goes_on line is = cc is

pub line_wanted : (line other : List ℕ) → IsFront (IsOneLine line) (other ∷ []) → other ≡ line
line_wanted line other front = heads other line front.rest [] front.whole

-- The digits of a value, below the line with its length.
module _ (len : ℕ) (counted : len < 10 ^ 64) where
  value_of : (lines : List (List ℕ)) → AreDigitLines len lines → IsValue (length_line len ∷ lines)
  value_of lines is = record {
    text = is.text;
    fits = is.fits;
    lines_are = ap (λ (all : List (List ℕ)). length_line len ∷ all) is.lines_are ∙ ap (λ (n : ℕ). length_line n ∷ digit_lines is.text) (sym is.length_is);
  }

  digits_of : (lines : List (List ℕ)) → IsValue (length_line len ∷ lines) → AreDigitLines len lines
  digits_of lines is = record {
    text = is.text;
    fits = is.fits;
    length_is = sym (same_length_line len (length is.text) counted is.fits.counted (heads (length_line len) (length_line (length is.text)) lines (digit_lines is.text) is.lines_are));
    lines_are = tails (length_line len) (length_line (length is.text)) lines (digit_lines is.text) is.lines_are;
  }

  pub digits_fit : Fits (AreDigitLines len) IsValue (length_line len ∷ [])
  digits_fit = record {
    begins = λ lines is. record { rest = is.rest; whole = value_of (lines ++ is.rest) is.whole };
    goes_on = λ lines is unfinished whole. unfinished (digits_of lines whole);
    leads_back = λ lines line is unfinished whole. record { rest = whole.rest; whole = digits_of ((lines ++ line ∷ []) ++ whole.rest) whole.whole };
  }

-- Before the line with a value's length.
pub value_begins : IsFront IsValue []
value_begins = record { rest = value_lines []; whole = record { text = []; fits = record { bytes = λ i. omega arith; counted = omega arith }; lines_are = refl } }

pub value_goes_on : IsValue [] → ⊥
value_goes_on is = cc is.lines_are

pub length_wanted : (line : List ℕ) → IsFront IsValue (line ∷ []) → IsLengthLine line
length_wanted line front = record {
  bytes = length front.whole.text;
  counted = front.whole.fits.counted;
  line_is = heads line (length_line (length front.whole.text)) front.rest (digit_lines front.whole.text) front.whole.lines_are;
}
