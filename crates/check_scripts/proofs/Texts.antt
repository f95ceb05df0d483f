-- What is left of a text after the lines that were compared.
use Rattle.std.proofs.Common.{◌≡◌, ◌≢◌, ◌+◌, ◌<◌, ◌↔◌, ℕ, List, ◌++◌, length, drop, get_or, sym, ap, ◌∙◌}
use Rattle.std.proofs.lemmas.List.{at_drop_more, append_cancel_left}
use Rattle.relay_outside.specs.declared.lines.WriteCall.{WriteCall}
use Rattle.check_scripts.specs.Output.{line_written, text_of_lines}

-- the text from a call on begins with that call's line
text_from : (calls : List WriteCall) (i : ℕ) (call : WriteCall) (line : List ℕ) → i < length calls → call ≡ get_or calls i call → line ≡ line_written call → text_of_lines (drop i calls) ≡ line ++ text_of_lines (drop (i + 1) calls)
text_from calls i call line within is said = at_drop_more text_of_lines calls i call within ∙ ap (λ c. line_written c ++ text_of_lines (drop (i + 1) calls)) (sym is) ∙ ap (λ l. l ++ text_of_lines (drop (i + 1) calls)) (sym said)

-- where what is left of the other text begins with that line, what is left after it is the same question
pub left_behind : {A : Type 0} → (calls : List WriteCall) (i : ℕ) (call : WriteCall) (line rest more : List ℕ) → i < length calls → call ≡ get_or calls i call → line ≡ line_written call → rest ≡ line ++ more → A ↔ (text_of_lines (drop i calls) ≡ rest) → A ↔ (text_of_lines (drop (i + 1) calls) ≡ more)
left_behind calls i call line rest more within is said begins same =
    let from = text_from calls i call line within is said in (
      (λ h. append_cancel_left line (text_of_lines (drop (i + 1) calls)) more (sym from ∙ same.0 h ∙ begins)),
      (λ h. same.1 (from ∙ ap (λ t. line ++ t) h ∙ sym begins)),
    )

-- where it doesn't begin so, the texts differ
pub differs_here : {A : Type 0} → (calls : List WriteCall) (i : ℕ) (call : WriteCall) (line rest : List ℕ) → i < length calls → call ≡ get_or calls i call → line ≡ line_written call → ((more : List ℕ) → rest ≢ line ++ more) → A ↔ (text_of_lines (drop i calls) ≡ rest) → A → ⊥
differs_here calls i call line rest within is said other same h = other (text_of_lines (drop (i + 1) calls)) (sym (same.0 h) ∙ text_from calls i call line within is said)
