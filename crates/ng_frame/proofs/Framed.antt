-- The frame that the first space gives is the one that a datagram has.
use Rattle.std.proofs.Common.{◌≡◌, ℕ, List, ◌∷◌, ◌++◌, ◌+◌, ◌-◌, ◌<◌, ◌≤◌, ◌==◌, ◌||◌, Bool, true, false, cond, length, take, drop, get_or, Option, Some, None, nat_lt, refl, sym, ◌∙◌, ap, subst, arith, eq-eqb, add-one}
use Rattle.std.specs.Prelude.{position}
use Rattle.std.specs.List.{position_or_len}
use Rattle.std.proofs.lemmas.Bool.{ne_eqb, eqb-true, eqb-false, lt-ltb}
use Rattle.std.proofs.lemmas.List.Sums.{position_or_len_is}
use Rattle.std.proofs.lemmas.List.Quantifiers.{position-Some}
use Rattle.std.proofs.lemmas.Bool.Decides.{nat_tests}
use Rattle.std.proofs.lemmas.Grind.{common_steps}
use Rattle.std.proofs.Math.Seq.{take-append_seam, get_or-append_seam, drop-append-add, split_at}
use Rattle.std.proofs.lemmas.List.{get_or_append_left, length-append, length-take-le, get_or-take}
use Rattle.ng_frame.specs.Frame.{IsFrame, frame, frame_at}

-- a cookie's length is the place of the first space
first_len : (cookie body : List ℕ) → ((k d : ℕ) → k < length cookie → get_or cookie k d ≡ 32 → ⊥) → position_or_len (λ byte. byte == 32) (cookie ++ 32 ∷ body) ≡ length cookie
first_len cookie body no_space =
    position_or_len_is (λ byte. byte == 32) (cookie ++ 32 ∷ body) (length cookie) 0
    (omega (arith, length-append cookie (32 ∷ body)))
    (λ k below. ne_eqb _ 32 (rw (get_or_append_left cookie (32 ∷ body) 0 k below) (no_space k 0 below)))
    (λ _. eq-eqb _ 32 (get_or-append_seam cookie 32 body 0))

in_front : (cookie body : List ℕ) → nat_lt (length cookie) (length (cookie ++ 32 ∷ body)) ≡ true
in_front cookie body = lt-ltb _ _ (omega (arith, length-append cookie (32 ∷ body)))

first_of : (cookie body : List ℕ) → ((k d : ℕ) → k < length cookie → get_or cookie k d ≡ 32 → ⊥) → position (λ byte. byte == 32) (cookie ++ 32 ∷ body) ≡ Some (length cookie)
first_of cookie body no_space = rw (first_len cookie body no_space, in_front cookie body)

pub first_space : (datagram cookie body : List ℕ) → IsFrame datagram cookie body → position (λ byte. byte == 32) datagram ≡ Some (length cookie)
first_space datagram cookie body is = rw (is.bytes) (first_of cookie body is.no_space)

none_under : (at : ℕ) → 0 < at → at ≤ 255 → ((at == 0) || nat_lt 255 at) ≡ false
none_under at some short = grind (arith, nat_tests)

under_none : (at : ℕ) → ((at == 0) || nat_lt 255 at) ≡ false → (0 < at) × (at ≤ 255)
under_none at e = grind (arith, nat_tests)

parts : (cookie body : List ℕ) → 0 < length cookie → length cookie ≤ 255 → frame_at (cookie ++ 32 ∷ body) (Some (length cookie)) ≡ Some (cookie, body)
parts cookie body some short =
    rw (none_under (length cookie) some short, take-append_seam cookie (32 ∷ body), drop-append-add cookie (32 ∷ body) 1)

pub frame_found : (datagram cookie body : List ℕ) → IsFrame datagram cookie body → frame datagram ≡ Some (cookie, body)
frame_found datagram cookie body is =
    ap (frame_at datagram) (first_space datagram cookie body is) ∙ rw (is.bytes) (parts cookie body is.some is.short)

pub real_here : (datagram : List ℕ) (at : ℕ) → position (λ byte. byte == 32) datagram ≡ Some at → 0 < at → at ≤ 255 → IsFrame datagram (take at datagram) (drop (at + 1) datagram)
real_here datagram at is some short =
    let known = position-Some (λ byte. byte == 32) datagram at 0 is in
    let below : at < length datagram = known.0 in
    let len = length-take-le at datagram (omega arith) in
    record {
      some = omega (arith, len);
      short = omega (arith, len);
      no_space = λ k d under e.
          let low : k < at = omega arith in
          eqb-false _ _ ((position-Some (λ byte. byte == 32) datagram at d is).2 k low) (sym (get_or-take at datagram k d low) ∙ e);
      bytes = split_at datagram at 0 below ∙ rw (add-one, eqb-true _ _ known.1);
    }

pub in_time : (datagram cookie body : List ℕ) → IsFrame datagram cookie body → (at : ℕ) → Some at ≡ position (λ byte. byte == 32) datagram → (0 < at) × (at ≤ 255)
in_time datagram cookie body is at e =
    let first = first_space datagram cookie body is in
    let same : at ≡ length cookie = cc in
    (omega (arith, is.some), omega (arith, is.short))

pub rest_all : (n : ℕ) (bytes : List ℕ) → take (length bytes - n) (drop n bytes) ≡ drop n bytes
rest_all n bytes = grind (arith, common_steps)

-- the place of the first space is not the first place, and at most the 256th
timely : (bad : Bool) (front rest cookie body : List ℕ) → cond {A = Option (List ℕ × List ℕ)} bad None (Some (front, rest)) ≡ Some (cookie, body) → (bad ≡ false) × (front ≡ cookie) × (rest ≡ body)
timely true front rest cookie body e = absurd (cc)
timely false front rest cookie body e =
    let same : ◌≡◌ {A = List ℕ × List ℕ} (front, rest) (cookie, body) = cc in
    let first : List ℕ × List ℕ → List ℕ = λ p. p.0 in
    let second : List ℕ × List ℕ → List ℕ = λ p. p.1 in
    (refl, ap first same, ap second same)

real_at : (datagram cookie body : List ℕ) (place : Option ℕ) → position (λ byte. byte == 32) datagram ≡ place → frame_at datagram place ≡ Some (cookie, body) → IsFrame datagram cookie body
real_at datagram cookie body None is e = absurd (cc)
real_at datagram cookie body (Some at) is e =
    let t = timely ((at == 0) || nat_lt 255 at) (take at datagram) (drop (at + 1) datagram) cookie body e in
    let u = under_none at t.0 in
    subst (λ rest. IsFrame datagram cookie rest) t.2 (subst (λ front. IsFrame datagram front (drop (at + 1) datagram)) t.1 (real_here datagram at is u.0 u.1))

pub frame_real : (datagram cookie body : List ℕ) → frame datagram ≡ Some (cookie, body) → IsFrame datagram cookie body
frame_real datagram cookie body e = real_at datagram cookie body (position (λ byte. byte == 32) datagram) refl e
