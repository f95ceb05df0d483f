-- What the calls for decimal and hexadecimal digits tell.
use Rattle.std.proofs.Common.{◌≡◌, ℕ, List, [], ◌∷◌, ◌*◌, ◌<◌, ◌≤◌, ◌^◌, ◌⊎◌, ◌↔◌, length, get_or, refl, sym, ◌∙◌, ap, subst, arith, decimal, Ok, Err, Result, MatchResult, OnOk, IsOk}
use Rattle.std.proofs.lemmas.Fmt.{decimal_injective}
use Rattle.hex.specs.Hex.{encode_lower, decode_sized, IsBytes}
use Rattle.hex.specs.declared.error.FromHexError.{FromHexError}
use Rattle.hex.proofs.HexLemmas.{decode_of-ok, decode_sized-ok, decode_sized-twice, decode_sized-encode_lower}
use Rattle.ng_bencode.specs.Fits.{IsFreeOf}
use Rattle.relay_script.specs.Fields.{IsNumber}
use Rattle.relay_script.proofs.Texts.{free_number}

-- a text is at most one number
pub same_number : (limit : ℕ) → limit ≤ 2 ^ 64 → (text : List ℕ) (a n : ℕ) → a < 2 ^ 64 → text ≡ decimal a → IsNumber limit text n → a ≡ n
same_number limit high text a n small e is = decimal_injective a n small (omega (arith, is.small)) (sym e ∙ is.digits)

-- no number has a space or a colon
pub free_in_number : (stop : ℕ) → (stop < 48) ⊎ (57 < stop) → (limit : ℕ) → limit ≤ 2 ^ 64 → (text : List ℕ) (n : ℕ) → IsNumber limit text n → IsFreeOf stop text
free_in_number stop other limit high text n is = subst (IsFreeOf stop) (sym is.digits) (free_number stop other n (omega (arith, is.small)))

-- what decoding tells
abbrev pub DecodeTells : Result (List ℕ) FromHexError → Result Unit FromHexError → List ℕ → Type 0
DecodeTells d r out = MatchResult d (λ bytes. (r ≡ Ok tt) × (out ≡ bytes)) (λ e. r ≡ Err e)

pub decodes : (digits bytes : List ℕ) (n : ℕ) (r : Result Unit FromHexError) (out : List ℕ) → length bytes ≡ n → IsBytes bytes → digits ≡ encode_lower bytes → DecodeTells (decode_sized digits n) r out → (r ≡ Ok tt) × (out ≡ bytes)
decodes digits bytes n r out len fit e log =
    let d : decode_sized digits n ≡ Ok bytes = ap (λ t. decode_sized t n) e ∙ decode_sized-encode_lower bytes n len fit in
    subst (λ (x : Result (List ℕ) FromHexError). DecodeTells x r out) d log

decoded_at : (d : Result (List ℕ) FromHexError) (r : Result Unit FromHexError) (out : List ℕ) (x : Unit) → r ≡ Ok x → DecodeTells d r out → d ≡ Ok out
decoded_at (Ok bytes) r out x e shown = ap Ok (sym shown.1)
decoded_at (Err fault) r out x e shown = absurd (cc)

pub decoded : (digits : List ℕ) (n : ℕ) (r : Result Unit FromHexError) (out : List ℕ) (x : Unit) → r ≡ Ok x → DecodeTells (decode_sized digits n) r out → (length out ≡ n) × IsBytes out
decoded digits n r out x e log =
    let d = decoded_at (decode_sized digits n) r out x e log in
    let len = decode_sized-ok digits n out d in
    let all = decode_of-ok digits out (sym (decode_sized-twice digits n len) ∙ d) in
    (omega (arith, len, all.2), all.3)

pub encoded : (input new : List ℕ) (n : ℕ) (r : Result Unit FromHexError) → (IsOk r ↔ (n ≡ 2 * length input)) → OnOk r (new ≡ encode_lower input) → n ≡ 2 * length input → new ≡ encode_lower input
encoded input new n (Ok x) fits written len = written
encoded input new n (Err e) fits written len = cc (fits.1 len)

pub single : (xs : List ℕ) → length xs ≡ 1 → xs ≡ get_or xs 0 0 ∷ []
single [] len = absurd (omega arith)
single (x ∷ []) len = refl
single (x ∷ y ∷ xs) len = absurd (omega arith)
