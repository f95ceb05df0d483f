-- The parts of a usable line, from left to right.
use Rattle.std.proofs.Common.{◌≡◌, ℕ, ◌+◌, ◌-◌, ◌≤◌, List, ◌++◌, length, drop, codes, refl, sym, ap, ◌∙◌, append_assoc, arith}
use Rattle.std.proofs.lemmas.List.{append_cancel_left, drop-drop}
use Rattle.std.specs.Fmt.{decimal}
use Rattle.base64.specs.Engines.{standard}
use Rattle.base64.specs.GeneralPurpose.{encode_of}
use Rattle.sdes_lines.specs.declared.crypto_line.Suite.{Suite}
use Rattle.sdes_lines.specs.declared.crypto_line.Suite.TheVariants.{Tag80, Tag32}
use Rattle.sdes_lines.specs.CryptoLine.{IsUsable, IsTag, IsKey, IsLineEnd, line_text, suite_name}

-- what follows the attribute's name
abbrev pub after_attribute : ℕ → Suite → List ℕ → List ℕ → List ℕ
after_attribute tag suite key end =
    decimal tag ++ (codes " " ++ (suite_name suite ++ (codes " inline:" ++ (encode_of standard key ++ end))))

regroup : (a b c d e f g : List ℕ)
    → (((((a ++ b) ++ c) ++ d) ++ e) ++ f) ++ g ≡ a ++ (b ++ (c ++ (d ++ (e ++ (f ++ g)))))
regroup a b c d e f g = simp append_assoc

-- the whole line by its parts
pub line_parts : (tag : ℕ) (suite : Suite) (key end : List ℕ)
    → line_text tag suite key ++ end ≡ codes "a=crypto:" ++ after_attribute tag suite key end
unfolding line_text
line_parts tag suite key end =
    regroup (codes "a=crypto:") (decimal tag) (codes " ") (suite_name suite) (codes " inline:") (encode_of standard key) end

-- a usable line whose attribute's name was read
pub attribute_read : (line rest : List ℕ) (tag : ℕ) (suite : Suite) (key : List ℕ) → line ≡ codes "a=crypto:" ++ rest
    → (usable : IsUsable line tag suite key) → rest ≡ after_attribute tag suite key usable.end
attribute_read line rest tag suite key read usable =
    append_cancel_left (codes "a=crypto:") rest (after_attribute tag suite key usable.end)
    (sym read ∙ usable.line_is ∙ line_parts tag suite key usable.end)

-- and one whose every part was read
pub line_read : (line r1 r2 r3 r4 r5 end : List ℕ) (tag : ℕ) (suite : Suite) (key : List ℕ)
    → line ≡ codes "a=crypto:" ++ r1 → r1 ≡ decimal tag ++ r2 → r2 ≡ codes " " ++ r3 → r3 ≡ suite_name suite ++ r4
    → r4 ≡ codes " inline:" ++ r5 → r5 ≡ encode_of standard key ++ end
    → IsTag tag → IsKey key → IsLineEnd end → IsUsable line tag suite key
line_read line r1 r2 r3 r4 r5 end tag suite key e0 e1 e2 e3 e4 e5 is_tag is_key is_end = record {
  is_tag = is_tag;
  is_key = is_key;
  end = end;
  is_end = is_end;
  line_is = rw (e0, e1, e2, e3, e4, e5) (sym (line_parts tag suite key end));
}

-- both names are as long
pub length-suite_name : (suite : Suite) → length (suite_name suite) ≡ 23
length-suite_name Tag80 = refl
length-suite_name Tag32 = refl

-- what an earlier write left from its end on is left from a later end on
pub rest_left : (a b : List ℕ) (m n : ℕ) → drop m a ≡ drop m b → m ≤ n → drop n a ≡ drop n b
rest_left a b m n e later =
    let split : m + (n - m) ≡ n = omega arith in
    let left : drop (n - m) (drop m a) ≡ drop n a = rw (drop-drop, split) refl in
    let right : drop (n - m) (drop m b) ≡ drop n b = rw (drop-drop, split) refl in
    sym left ∙ ap (drop (n - m)) e ∙ right
