-- A text is read in one way: the dictionary of a body, and the crypto lines that are chosen of a description.
use Rattle.std.proofs.Common.{◌≡◌, ◌∙◌, sym, ap, refl, ℕ, suc, ◌<◌, ◌^◌, ◌⊎◌, inl, inr, Bool, true, false, List, [], ◌∷◌, ◌++◌, length, take, codes, decimal, get_or, Option, Some, None, Result, Ok, IsSome, arith}
use Rattle.std.proofs.lemmas.List.{append_cancel_left}
use Rattle.std.specs.List.{prefix_len}
use Rattle.std.specs.Char.{is_ascii_digit}
use Rattle.base64.specs.declared.decode.DecodeError.{DecodeError}
use Rattle.base64.specs.Engines.{standard}
use Rattle.base64.specs.GeneralPurpose.{encode_of}
use Rattle.ng_bencode.specs.Tree.{Dict, Entries}
use Rattle.ng_bencode.proofs.OneWay.{one_way}
use Rattle.ng_bencode.proofs.Fitting.{spells_fits}
use Rattle.ng_command.specs.declared.command.Options.{Options}
use Rattle.sdes_lines.specs.declared.crypto_line.Suite.{Suite}
use Rattle.sdes_lines.specs.declared.crypto_line.Suite.TheVariants.{Tag80, Tag32}
use Rattle.sdes_lines.specs.declared.crypto_line.CryptoLine.{CryptoLine}
use Rattle.sdes_lines.specs.CryptoLine.{IsTag, IsKey, IsUsable, suite_name}
use Rattle.sdes_lines.proofs.Lines.{after_attribute, line_parts, attribute_read}
use Rattle.sdes_lines.proofs.Tags.{tag_in_front, tag_value}
use Rattle.sdes_lines.proofs.Keys.{key_in_front, key_is_decoded}
use Rattle.sdp_text.specs.Lines.{lines_of}
use Rattle.sdp_edit.specs.ChosenLines.{IsFirstOf, IsChosenKey, section_lines, IsAny, IsOffered}
use Rattle.offer_answer.specs.Rounds.{Round}
use Rattle.offer_answer.specs.Sections.{section_count}
use Rattle.offer_answer.specs.Keys.{chosen_in, last_lines}
use Rattle.offer_answer.specs.Faults.{AreFirst}
use Rattle.offer_answer.specs.Plan.{OfferRead, AnswerRead}
use Rattle.call_board.specs.Dialects.{is_json, SaysIn}
use Rattle.call_board.specs.Requests.{ReadsBody}
use Rattle.call_board.specs.Answers.{offer_ask, answer_ask}
use Rattle.call_board.proofs.Saying.{says_once}

-- The dictionary of a body.

dict_once : (p q : Entries) → Dict p ≡ Dict q → p ≡ q
dict_once p q e = cc

said_once : (in_json : Bool) (body : List ℕ) (p q : Entries) → length body < 2 ^ 64 → SaysIn in_json body (Dict p) → SaysIn in_json body (Dict q) → p ≡ q
said_once false body p q short r s =
    dict_once p q (one_way 16 16 (Dict p) (Dict q) [] [] (spells_fits body (Dict p) r short) (spells_fits body (Dict q) s short)
    (ap (λ (text : List ℕ). text ++ []) (sym r.spelled ∙ s.spelled))).0
said_once true body p q short r s = dict_once p q (says_once body (Dict p) (Dict q) r s)

pub read_once : (body : List ℕ) (p q : Option Entries) → length body < 2 ^ 64 → ReadsBody body p → ReadsBody body q → p ≡ q
read_once body None None short r s = refl
read_once body (Some p) None short r s = absurd (s p r)
read_once body None (Some q) short r s = absurd (r q s)
read_once body (Some p) (Some q) short r s = ap Some (said_once (is_json body) body p q short r s)

-- A usable crypto line, from left to right.

tag_once : (s t : ℕ) (x y : List ℕ) → IsTag s → IsTag t → decimal s ++ (codes " " ++ x) ≡ decimal t ++ (codes " " ++ y) → (s ≡ t) × (x ≡ y)
tag_once s t x y is_s is_t e =
    let text : List ℕ = decimal s ++ (codes " " ++ x) in
    let n : ℕ = prefix_len is_ascii_digit text in
    let a = tag_in_front text n s x refl is_s refl in
    let b = tag_in_front text n t y refl is_t e in (
      sym (tag_value (decimal s) s is_s refl) ∙ tag_value (decimal s) t is_t (sym a.digits ∙ b.digits),
      append_cancel_left (codes " ") x y (sym a.rest_is ∙ b.rest_is),
    )

suite_once : (s t : Suite) (x y : List ℕ) → suite_name s ++ x ≡ suite_name t ++ y → (s ≡ t) × (x ≡ y)
suite_once Tag80 Tag80 x y e = (refl, append_cancel_left (suite_name Tag80) x y e)
suite_once Tag32 Tag32 x y e = (refl, append_cancel_left (suite_name Tag32) x y e)
suite_once Tag80 Tag32 x y e = absurd (let h : ◌≡◌ {A = ℕ} 56 51 = ap (λ (l : List ℕ). get_or l 21 0) e in omega arith)
suite_once Tag32 Tag80 x y e = absurd (let h : ◌≡◌ {A = ℕ} 51 56 = ap (λ (l : List ℕ). get_or l 21 0) e in omega arith)

ok_once : (j k : List ℕ) → ◌≡◌ {A = Result (List ℕ) DecodeError} (Ok j) (Ok k) → j ≡ k
ok_once j k e = cc

key_once : (j k x y : List ℕ) → IsKey j → IsKey k → encode_of standard j ++ x ≡ encode_of standard k ++ y → j ≡ k
key_once j k x y is_j is_k e =
    let text : List ℕ = encode_of standard j ++ x in
    let a = key_in_front text j x is_j refl in
    let b = key_in_front text k y is_k e in
    ok_once j k (sym (key_is_decoded (take 40 text) j is_j a.characters) ∙ key_is_decoded (take 40 text) k is_k b.characters)

abbrev crypto_of : ℕ → Suite → List ℕ → CryptoLine
crypto_of tag suite key = record { tag = tag; suite = suite; key = key }

pub usable_once : (line : List ℕ) (a b : CryptoLine) → IsUsable line a.tag a.suite a.key → IsUsable line b.tag b.suite b.key → a ≡ b
usable_once line a b u v =
    let first = attribute_read line (after_attribute a.tag a.suite a.key u.end) b.tag b.suite b.key (u.line_is ∙ line_parts a.tag a.suite a.key u.end) v in
    let tag = tag_once a.tag b.tag _ _ u.is_tag v.is_tag first in
    let suite = suite_once a.suite b.suite _ _ tag.1 in
    let key = key_once a.key b.key _ _ u.is_key v.is_key (append_cancel_left (codes " inline:") _ _ suite.1) in
    ap (λ (n : ℕ). crypto_of n a.suite a.key) tag.0 ∙ ap (λ (s : Suite). crypto_of b.tag s a.key) suite.0 ∙ ap (λ (k : List ℕ). crypto_of b.tag b.suite k) key

-- The first line of a section that is one of P.

first_case : (P : CryptoLine → Type 0) (line : List ℕ) (more : List (List ℕ)) → ((r s : Option CryptoLine) → IsFirstOf P more r → IsFirstOf P more s → r ≡ s)
    → (r s : Option CryptoLine) → (IsChosenKey P line r × IsSome r) ⊎ (IsChosenKey P line None × IsFirstOf P more r)
    → (IsChosenKey P line s × IsSome s) ⊎ (IsChosenKey P line None × IsFirstOf P more s) → r ≡ s
first_case P line more rest None s (inl f) g = cc (f.1)
first_case P line more rest (Some a) None (inl f) (inl g) = cc (g.1)
first_case P line more rest (Some a) (Some b) (inl f) (inl g) = ap Some (usable_once line a b f.0.0 g.0.0)
first_case P line more rest (Some a) s (inl f) (inr g) = absurd (g.0 a f.0)
first_case P line more rest r None (inr f) (inl g) = cc (g.1)
first_case P line more rest r (Some b) (inr f) (inl g) = absurd (f.0 b g.0)
first_case P line more rest r s (inr f) (inr g) = rest r s f.1 g.1

first_once : (P : CryptoLine → Type 0) (lines : List (List ℕ)) (r s : Option CryptoLine) → IsFirstOf P lines r → IsFirstOf P lines s → r ≡ s
first_once P [] r s f g = f ∙ sym g
first_once P (line ∷ more) r s f g = first_case P line more (first_once P more) r s f g

-- Lists of chosen lines.

same_length : {A : Type 0} (x y : A) (xs ys : List A) → length (x ∷ xs) ≡ length (y ∷ ys) → length xs ≡ length ys
same_length x y xs ys e = omega (arith, e)

lists_once : (xs ys : List (Option CryptoLine)) → length xs ≡ length ys → ((n : ℕ) → n < length xs → chosen_in xs n ≡ chosen_in ys n) → xs ≡ ys
lists_once [] [] e each = refl
lists_once [] (y ∷ ys) e each = absurd (omega (arith, e))
lists_once (x ∷ xs) [] e each = absurd (omega (arith, e))
lists_once (x ∷ xs) (y ∷ ys) e each =
    let head : x ≡ y = each 0 (omega arith) in
    let tail : xs ≡ ys = lists_once xs ys (same_length x y xs ys e) (λ n below. each (suc n) (let b = below in omega (arith, b))) in
    ap (λ (z : Option CryptoLine). z ∷ xs) head ∙ ap (λ (zs : List (Option CryptoLine)). y ∷ zs) tail

pub firsts_once : (P : ℕ → CryptoLine → Type 0) (sdp : List ℕ) (xs ys : List (Option CryptoLine)) → AreFirst P sdp xs → AreFirst P sdp ys → xs ≡ ys
firsts_once P sdp xs ys a b =
    lists_once xs ys (a.count ∙ sym b.count)
    (λ n below.
    let there : n < section_count sdp = (let k = a.count in let l = below in omega (arith, k, l)) in
    first_once (P n) (section_lines n (lines_of sdp)) (chosen_in xs n) (chosen_in ys n) (a.first n there) (b.first n there))

pub offer_once : (from_tag sdp : List ℕ) (options : Options) (xs ys : List (Option CryptoLine))
    → OfferRead (offer_ask from_tag sdp options xs) → OfferRead (offer_ask from_tag sdp options ys) → xs ≡ ys
unfolding OfferRead
offer_once from_tag sdp options xs ys a b = firsts_once (λ section. IsAny) sdp xs ys a b

pub answer_once : (before : List Round) (from_tag to_tag sdp : List ℕ) (options : Options) (xs ys : List (Option CryptoLine))
    → AnswerRead before (answer_ask from_tag to_tag sdp options xs) → AnswerRead before (answer_ask from_tag to_tag sdp options ys) → xs ≡ ys
unfolding AnswerRead
answer_once before from_tag to_tag sdp options xs ys a b = firsts_once (λ section. IsOffered (last_lines before section)) sdp xs ys a b
