-- What `clap` gives for a number, against what its text says.
use Rattle.std.proofs.Common.{◌≡◌, ◌∙◌, ◌⊎◌, ◌≤◌, ◌<◌, ap, ℕ, Bool, true, false, List, Option, Some, None, refl, sym, subst, inl, inr, arith}
use Rattle.std.specs.Prelude.{Result, Ok, Err, option_and_then, if◌then◌else◌}
use Rattle.std.specs.Str.Parse.{ParsesUnsigned, digits_value, without_leading_plus}
use Rattle.clap.specs.Walk.{Text}
use Rattle.clap.specs.ValueTests.{is_unsigned_in}
use Rattle.clap.specs.Words.{ReadsOne}
use Rattle.clap.specs.declared.builder.value_parser.ValueParser.TheVariants.{Unsigned}
use Rattle.clap.proofs.ValueTestLemmas.{accepts-Accepts, Accepts-accepts}
use Rattle.command_line.specs.Words.{number_in}

abbrev value_of : Text → ℕ
value_of text = digits_value 10 (without_leading_plus text)

-- outside the limits
abbrev pub IsOutside : (least most n : ℕ) → Type 0
IsOutside least most n = (n < least) ⊎ (most < n)

module _ (E : Type 0) (G : List ℕ → Result ℕ E → Type 0) (only : (u : List ℕ) (x : Result ℕ E) → G u x → ParsesUnsigned 64 10 u x)
    (given : Option Text) (r : Option ℕ) (none : given ≡ None → r ≡ None) (value : (t : Text) → given ≡ Some t → ReadsOne G t r) (least most : ℕ) where
  pub unread : r ≡ None → None ≡ option_and_then (number_in least most) given
  unread e = go given refl
    where
      test : (t : Text) → given ≡ Some t → (b : Bool) → is_unsigned_in least most t ≡ b → None ≡ (if b then Some (value_of t) else None)
      test t is false holds = refl
      test t is true holds =
          let read : ReadsOne G t None = subst (ReadsOne G t) e (value t is) in
          let accepted = accepts-Accepts false (Unsigned least most) t holds in
          absurd (only t (Err read.0) read.1 (accepted.0, accepted.1))

      go : (o : Option Text) → given ≡ o → None ≡ option_and_then (number_in least most) o
      go None is = refl
      go (Some t) is = test t is (is_unsigned_in least most t) refl

  read_as_said : (n : ℕ) → r ≡ Some n → (t : Text) → given ≡ Some t → ParsesUnsigned {E = E} 64 10 t (Ok n)
  read_as_said n e t is = only t (Ok n) (subst (ReadsOne G t) e (value t is))

  pub within : (n : ℕ) → r ≡ Some n → least ≤ n → n ≤ most → Some n ≡ option_and_then (number_in least most) given
  within n e low high = go given refl
    where
      go : (o : Option Text) → given ≡ o → Some n ≡ option_and_then (number_in least most) o
      go None is =
          let absent : Some n ≡ None = sym e ∙ none is in
          cc
      go (Some t) is =
          let said = read_as_said n e t is in
          let test = Accepts-accepts false (Unsigned least most) t (said.0.0, said.0.1, subst (λ (v : ℕ). least ≤ v) said.1 low, subst (λ (v : ℕ). v ≤ most) said.1 high) in
          rw test (ap Some said.1)

  pub outside : (n : ℕ) → r ≡ Some n → IsOutside least most n → None ≡ option_and_then (number_in least most) given
  outside n e out = go given refl
    where
      test : (t : Text) → given ≡ Some t → (b : Bool) → is_unsigned_in least most t ≡ b → None ≡ (if b then Some (value_of t) else None)
      test t is false holds = refl
      test t is true holds =
          let said = read_as_said n e t is in
          let accepted = accepts-Accepts false (Unsigned least most) t holds in
          elim out [
            | inl low ↦ absurd (omega (arith, low, said.1, accepted.2))
            | inr high ↦ absurd (omega (arith, high, said.1, accepted.3))
          ]

      go : (o : Option Text) → given ≡ o → None ≡ option_and_then (number_in least most) o
      go None is = refl
      go (Some t) is = test t is (is_unsigned_in least most t) refl
