-- Where `::` stands.
use Rattle.std.proofs.Common.{◌≡◌, ℕ, ◌+◌, ◌<◌, ◌≤◌, ◌&&◌, List, [], ◌∷◌, ◌++◌, length, take, drop, Option, Some, None, refl, sym, ap, ◌∙◌, arith, append_assoc, append-nil}
use Rattle.std.specs.Option.{option_map}
use Rattle.sdp_text.specs.Hosts.{around_double_colon}

-- what stands around `::`, with more in front
abbrev pub behind : List ℕ → Option (List ℕ × List ℕ) → Option (List ℕ × List ℕ)
behind front around = option_map (λ sides. (front ++ sides.0, sides.1)) around

behind_more : (front : List ℕ) (a : ℕ) (o : Option (List ℕ × List ℕ)) → behind front (option_map (λ sides. (a ∷ sides.0, sides.1)) o) ≡ behind (front ++ a ∷ []) o
behind_more front a None = refl
behind_more front a (Some sides) = ap (λ x. Some (x, sides.1)) (sym (append_assoc front (a ∷ []) sides.0))

short_none : (text : List ℕ) → length text ≤ 1 → around_double_colon text ≡ None
short_none [] h = refl
short_none (a ∷ []) h = refl
short_none (a ∷ b ∷ more) h = absurd (omega arith)

pub no_colons : (text : List ℕ) (i : ℕ) → length text ≤ i + 1 → length (drop i text) ≤ 1 → around_double_colon text ≡ behind (take i text) (around_double_colon (drop i text)) → around_double_colon text ≡ None
no_colons text i h short known = known ∙ ap (behind (take i text)) (short_none (drop i text) short)
