-- What the log of a source says, as its lines are read.
use Rattle.std.proofs.Common.{◌≡◌, ◌∙◌, ap, sym, subst, refl, ℕ, ◌+◌, ◌-◌, ◌%◌, ◌<◌, ◌≤◌, ◌^◌, min, List, [], ◌∷◌, ◌++◌, Option, Result, length, map, Ok, Err, arith}
use Rattle.std.specs.Prelude.{IfOk, MatchResult}
use Rattle.std.proofs.lemmas.List.{map-append}
use Rattle.relay_outside.specs.declared.lines.LineCall.{LineCall}
use Rattle.relay_outside.specs.DeviceLogs.{Gained}
use Rattle.relay_outside.proofs.Telling.{gained_none, gained_less, gained_both}
use Rattle.hex.specs.Hex.{encode_lower, IsBytes}
use Rattle.state_lines.specs.declared.faults.LineFault.{LineFault}
use Rattle.state_lines.specs.declared.faults.LineFault.TheVariants as fault
use Rattle.state_lines.specs.declared.faults.Unread.{Unread}
use Rattle.state_lines.specs.LineReads.{text_read, ReadsOneLine, RefusesForm, IsLastLine}
use Rattle.state_lines.specs.OneRead.{TellsOf, fault_at, ReadsNext, MissesLine, IsDigitLine, IsLengthLine}
use Rattle.state_lines.specs.StateLines.{IsOneLine, IsValue, AreDigitLines, length_line, digit_lines, value_lines}
use Rattle.state_lines.proofs.DigitLines.{digits_begin, digits_go_on, digits_wanted, digits_more}
use Rattle.state_lines.proofs.OneLines.{missed, unwanted, refused}
use Rattle.state_lines.proofs.Refusals.{refuses, part_refused, digits_fit, line_begins, line_goes_on, line_wanted, length_wanted, value_begins, value_goes_on}

module _ (old new : Option (List LineCall)) where
  pub told_missed : (wanted : List ℕ → Type 0) (f : LineFault) (room : List ℕ) → Gained old new (ReadsNext (Err f) room) → Gained old new (MissesLine wanted f)
  told_missed wanted f room = gained_less old new (ReadsNext (Err f) room) (MissesLine wanted f) (missed wanted f room)

  pub told_refused : (wanted : List ℕ → Type 0) (line : List ℕ) (u : Unread) (number : ℕ) → TellsOf u (wanted line → ⊥) → Gained old new (λ calls. calls ≡ text_read line ∷ []) → Gained old new (MissesLine wanted (fault_at u number))
  told_refused wanted line u number other =
      gained_less old new (λ calls. calls ≡ text_read line ∷ []) (MissesLine wanted (fault_at u number)) (λ xs read. refused wanted line u number xs read other)

  pub told_line : (a b : List ℕ) → a ≡ b → Gained old new (λ calls. calls ≡ text_read a ∷ []) → Gained old new (λ calls. calls ≡ text_read b ∷ [])
  told_line a b same = subst (λ (line : List ℕ). Gained old new (λ calls. calls ≡ text_read line ∷ [])) same

  one_missed : (line : List ℕ) (earlier now : ℕ) (f : LineFault) (xs : List LineCall) → IsLastLine earlier now f → now ≤ earlier + 1 → MissesLine (λ other. other ≡ line) f xs → ReadsOneLine line earlier (Err f) xs
  one_missed line earlier now f xs number one miss =
      refuses (IsOneLine line) (λ other. other ≡ line) earlier [] f earlier now xs (line_begins line) (line_goes_on line) (λ other front. line_wanted line other front) (omega arith) number one miss

  pub told_no_line : (line : List ℕ) (earlier now : ℕ) (f : LineFault) (room : List ℕ) → IsLastLine earlier now f → now ≤ earlier + 1 → Gained old new (ReadsNext (Err f) room) → Gained old new (ReadsOneLine line earlier (Err f))
  told_no_line line earlier now f room number one =
      gained_less old new (ReadsNext (Err f) room) (ReadsOneLine line earlier (Err f)) (λ xs read. one_missed line earlier now f xs number one (missed (λ other. other ≡ line) f room xs read))

  pub told_other : (line came : List ℕ) (earlier now : ℕ) → now ≡ earlier + 1 → (came ≡ line → ⊥) → Gained old new (λ calls. calls ≡ text_read came ∷ []) → Gained old new (ReadsOneLine line earlier (Err (fault.NotState now)))
  told_other line came earlier now next other =
      gained_less old new (λ calls. calls ≡ text_read came ∷ []) (ReadsOneLine line earlier (Err (fault.NotState now)))
      (λ xs read. one_missed line earlier now (fault.NotState now) xs (omega (arith, next), refl) (omega (arith, next)) (unwanted (λ other. other ≡ line) came xs read other))

  pub told_no_length : (f : LineFault) (earlier now : ℕ) → IsLastLine earlier now f → now ≤ earlier + 1 → Gained old new (MissesLine IsLengthLine f) → Gained old new (RefusesForm IsValue earlier f)
  told_no_length f earlier now number one =
      gained_less old new (MissesLine IsLengthLine f) (RefusesForm IsValue earlier f)
      (λ xs miss. refuses IsValue IsLengthLine earlier [] f earlier now xs value_begins value_goes_on (λ line front. length_wanted line front) (omega arith) number one miss)

-- nothing was read yet
pub told_start : (log : Option (List LineCall)) → Gained log log (λ calls. calls ≡ map text_read (digit_lines []))
told_start log = gained_none log (λ calls. calls ≡ map text_read (digit_lines [])) refl

module _ (first mid last : Option (List LineCall)) (len : ℕ) (text : List ℕ) (before : Gained first mid (λ calls. calls ≡ map text_read (digit_lines text))) where
  pub told_digits : (bytes : List ℕ) → length text % 8000 ≡ 0 → 0 < length bytes → length bytes ≤ 8000 → Gained mid last (λ calls. calls ≡ text_read (encode_lower bytes) ∷ [])
      → Gained first last (λ calls. calls ≡ map text_read (digit_lines (text ++ bytes)))
  told_digits bytes whole some short now =
      gained_both first mid last (λ calls. calls ≡ map text_read (digit_lines text)) (λ calls. calls ≡ text_read (encode_lower bytes) ∷ []) (λ calls. calls ≡ map text_read (digit_lines (text ++ bytes)))
      (λ xs ys x y. ap (λ (more : List LineCall). xs ++ more) y ∙ ap (λ (front : List LineCall). front ++ text_read (encode_lower bytes) ∷ []) x
      ∙ sym (map-append text_read (digit_lines text) (encode_lower bytes ∷ [])) ∙ ap (map text_read) (sym (digits_more text bytes whole some short)))
      before now

  pub told_no_digits : (f : LineFault) (earlier at now count : ℕ) → length text % 8000 ≡ 0 → length text < len → len < 2 ^ 64 → IsBytes text → count ≡ min (len - length text) 8000
      → at ≡ earlier + length (digit_lines text) → IsLastLine at now f → now ≤ at + 1 → Gained mid last (MissesLine (IsDigitLine count) f) → Gained first last (RefusesForm (AreDigitLines len) earlier f)
  told_no_digits f earlier at now count whole part small fit room is number one =
      gained_both first mid last (λ calls. calls ≡ map text_read (digit_lines text)) (MissesLine (IsDigitLine count) f) (RefusesForm (AreDigitLines len) earlier f)
      (λ xs ys x y. subst (λ (front : List LineCall). RefusesForm (AreDigitLines len) earlier f (front ++ ys)) (sym x)
      (refuses (AreDigitLines len) (IsDigitLine count) earlier (digit_lines text) f at now ys (digits_begin len text whole part (omega (arith, small)) fit) (digits_go_on len text whole part)
      (λ line front. digits_wanted len text whole part line count room front) is number one y))
      before

  -- a line whose bytes found no memory
  pub told_short : (earlier : ℕ) (bytes : List ℕ) → length text % 8000 ≡ 0 → length text < len → len < 2 ^ 64 → IsBytes text
      → Gained mid last (λ calls. calls ≡ text_read (encode_lower bytes) ∷ []) → Gained first last (RefusesForm (AreDigitLines len) earlier fault.OutOfMemory)
  told_short earlier bytes whole part small fit =
      gained_both first mid last (λ calls. calls ≡ map text_read (digit_lines text)) (λ calls. calls ≡ text_read (encode_lower bytes) ∷ []) (RefusesForm (AreDigitLines len) earlier fault.OutOfMemory)
      (λ xs ys x y. record {
        before = digit_lines text;
        more = text_read (encode_lower bytes) ∷ [];
        reads = ap (λ (more : List LineCall). xs ++ more) y ∙ ap (λ (front : List LineCall). front ++ text_read (encode_lower bytes) ∷ []) x;
        front = digits_begin len text whole part (omega (arith, small)) fit;
        line = (encode_lower bytes, refl);
      })
      before

-- The lines of a value below its first.
module _ (first mid last : Option (List LineCall)) (len : ℕ) (head : Gained first mid (λ calls. calls ≡ text_read (length_line len) ∷ [])) where
  pub told_value : (text : List ℕ) → length text ≡ len → Gained mid last (λ calls. calls ≡ map text_read (digit_lines text)) → Gained first last (λ calls. calls ≡ map text_read (value_lines text))
  told_value text is =
      gained_both first mid last (λ calls. calls ≡ text_read (length_line len) ∷ []) (λ calls. calls ≡ map text_read (digit_lines text)) (λ calls. calls ≡ map text_read (value_lines text))
      (λ xs ys x y. ap (λ (front : List LineCall). front ++ ys) x ∙ ap (λ (more : List LineCall). text_read (length_line len) ∷ more) y ∙ ap (λ (n : ℕ). text_read (length_line n) ∷ map text_read (digit_lines text)) (sym is))
      head

  pub told_no_value : (f : LineFault) (earlier at : ℕ) → len < 2 ^ 64 → at ≡ earlier + 1 → Gained mid last (RefusesForm (AreDigitLines len) at f) → Gained first last (RefusesForm IsValue earlier f)
  told_no_value f earlier at small next =
      gained_both first mid last (λ calls. calls ≡ text_read (length_line len) ∷ []) (RefusesForm (AreDigitLines len) at f) (RefusesForm IsValue earlier f)
      (λ xs ys x y. subst (λ (front : List LineCall). RefusesForm IsValue earlier f (front ++ ys)) (sym x)
      (part_refused (AreDigitLines len) IsValue (length_line len ∷ []) (digits_fit len (omega (arith, small))) earlier at next f ys y))
      head

  -- whatever came of them, at any type of what was read
  pub told_rest : {T : Type 0} (items : T → List ℕ) (r : Result T LineFault) (earlier at : ℕ) → len < 2 ^ 64 → at ≡ earlier + 1 → IfOk r (λ text. length (items text) ≡ len)
      → Gained mid last (λ calls. MatchResult r (λ text. calls ≡ map text_read (digit_lines (items text))) (λ f. RefusesForm (AreDigitLines len) at f calls))
      → Gained first last (λ calls. MatchResult r (λ text. calls ≡ map text_read (value_lines (items text))) (λ f. RefusesForm IsValue earlier f calls))
  told_rest items (Ok text) earlier at small next is rest = told_value (items text) is rest
  told_rest items (Err f) earlier at small next is rest = told_no_value f earlier at small next rest
