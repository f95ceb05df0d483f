-- A line that was read byte by byte.
use Rattle.std.proofs.Common.{◌≡◌, ◌≢◌, ℕ, ◌+◌, ◌<◌, ◌≤◌, min, not, Bool, true, false, ◌==◌, List, [], ◌∷◌, ◌++◌, Option, Some, None, length, take, refl, ap, sym, ◌∙◌, arith, cond, ne_eqb, length-append, append_assoc}
use Rattle.std.proofs.BufReadLemmas.{drop_through-append}
use Rattle.std.proofs.lemmas.List.{length-take-le}
use Rattle.std.proofs.lemmas.List.Elements.{All-head, All-tail}
use Rattle.std.proofs.lemmas.List.Sums.{take_while-cons}
use Rattle.std.proofs.Math.Seq.{take-append_seam}
use Rattle.std.specs.List.{All}
use Rattle.std.specs.Io.BufRead.{drop_through}
use Rattle.relay_outside.specs.declared.answers.LineRead.TheVariants as read
use Rattle.outside_real.specs.declared.lines.Stop.TheVariants as stop
use Rattle.outside_real.specs.Lines.{from_next_line, first_line, GivesFirstLine, ReadsLine, Filled}

-- bytes that are no line feed stand at the front of the line
line_of-append : (front rest : List ℕ) → All (λ byte. byte ≢ 10) front → first_line (front ++ rest) ≡ front ++ first_line rest
line_of-append [] rest none = refl
line_of-append (x ∷ front) rest none =
    let other : not (x == 10) ≡ true = ap not (ne_eqb x 10 (All-head (λ byte. byte ≢ 10) x front none)) in
    take_while-cons (λ byte. not (byte == 10)) x (front ++ rest)
    ∙ ap (λ (b : Bool). cond b (x ∷ first_line (front ++ rest)) []) other
    ∙ ap (λ (l : List ℕ). x ∷ l) (line_of-append front rest (All-tail (λ byte. byte ≢ 10) x front none))

line_of-fed : (rest : List ℕ) → first_line (10 ∷ rest) ≡ []
line_of-fed rest = take_while-cons (λ byte. not (byte == 10)) 10 rest

-- a line whose front stands in the buffer, and all of it where there is room for more
module _ (bytes rest buf : List ℕ) (len : ℕ) (room : len ≤ length buf) (within : All (λ byte. byte ≢ 10) (take len buf)) (is : bytes ≡ take len buf ++ rest) where
  line_is : first_line bytes ≡ take len buf ++ first_line rest
  line_is = ap first_line is ∙ line_of-append (take len buf) rest within

  long : length (first_line bytes) ≡ len + length (first_line rest)
  long = ap length line_is ∙ length-append (take len buf) (first_line rest) ∙ ap (λ (n : ℕ). n + length (first_line rest)) (length-take-le len buf room)

  pub cut_there : (len < length buf → length (first_line rest) ≡ 0) → len ≡ min (length (first_line bytes)) (length buf)
  cut_there whole = grind (arith, long)

  pub same_front : take len buf ≡ take len (first_line bytes)
  same_front =
      let front : take (length (take len buf)) (take len buf ++ first_line rest) ≡ take len buf = take-append_seam (take len buf) (first_line rest) in
      rw (line_is) (sym (rw (length-take-le len buf room) at front))

  pub left_behind : drop_through 10 bytes ≡ drop_through 10 rest
  left_behind = ap (drop_through 10) is ∙ drop_through-append 10 (take len buf) rest within

  pub has_some : 0 < len + length rest → bytes ≢ []
  has_some some none = omega (arith, ap length (sym none ∙ is), length-append (take len buf) rest, length-take-le len buf room)

  pub gives_text : (left : Option (List ℕ)) → 0 < len + length rest → (len < length buf → length (first_line rest) ≡ 0) → left ≡ Some (drop_through 10 rest) → GivesFirstLine bytes left (read.Text len) buf
  gives_text left some whole behind = (has_some some, cut_there whole, same_front, behind ∙ ap Some (sym left_behind))

pub gives_fed : (before after : Option (List ℕ)) (len : ℕ) (buf : List ℕ) → Filled before after len stop.LineFeed buf → ReadsLine before (from_next_line false after) (read.Text len) buf
gives_fed None after len buf filled = tt
gives_fed (Some bytes) None len buf filled = absurd filled.lost
gives_fed (Some bytes) (Some left) len buf filled =
    let is = filled.lost ∙ append_assoc (take len buf) (10 ∷ []) left in
    gives_text bytes (10 ∷ left) buf len filled.room filled.within is (Some left) (omega arith) (λ few. ap length (line_of-fed left)) refl

pub gives_last : (before after : Option (List ℕ)) (len : ℕ) (buf : List ℕ) → 0 < len → Filled before after len stop.End buf → ReadsLine before (from_next_line false after) (read.Text len) buf
gives_last None after len buf some filled = tt
gives_last (Some bytes) None len buf some filled = absurd filled.lost.0
gives_last (Some bytes) (Some left) len buf some filled =
    let is : bytes ≡ take len buf ++ [] = filled.lost.0 ∙ ap (λ (l : List ℕ). take len buf ++ l) filled.lost.1 in
    gives_text bytes [] buf len filled.room filled.within is (Some left) (omega arith) (λ few. refl) (ap Some filled.lost.1)

pub gives_cut : (before after : Option (List ℕ)) (len : ℕ) (buf : List ℕ) → 0 < length buf → Filled before after len stop.Full buf → ReadsLine before (from_next_line true after) (read.Text len) buf
gives_cut None after len buf some filled = tt
gives_cut (Some bytes) None len buf some filled = absurd filled.lost
gives_cut (Some bytes) (Some left) len buf some filled =
    let full : len ≡ length buf = filled.room in
    gives_text bytes left buf len (omega arith) filled.within filled.lost (Some (drop_through 10 left)) (omega arith) (λ few. absurd (omega arith)) refl
