-- The end of side B's description, with its crypto line.
use Rattle.std.proofs.Common.{◌≡◌, ℕ, Bool, true, List, ◌++◌, codes, ap, sym, ◌∙◌, append_assoc}
use Rattle.std.specs.Prelude.{Result, Ok, Err, OnOk}
use Rattle.sdes_lines.specs.CryptoLine.{line_text}
use Rattle.sdes_lines.specs.declared.crypto_line.Suite.TheVariants.{Tag80}
use Rattle.load_maker.specs.Calls.{answer_key, answer_end}

pub key_put : (old first second third line : List ℕ) (call : ℕ) (protected : Bool) → protected ≡ true
    → first ≡ old ++ codes " RTP/SAVP 0\r\n" → line ≡ line_text 1 Tag80 (answer_key call)
    → second ≡ first ++ line → third ≡ second ++ codes "\r\n" → third ≡ old ++ answer_end call protected
key_put old first second third line call protected is a l b c =
    c
    ∙ ap (λ (s : List ℕ). s ++ codes "\r\n")
    (b ∙ ap (λ (s : List ℕ). s ++ line) a ∙ ap (λ (s : List ℕ). (old ++ codes " RTP/SAVP 0\r\n") ++ s) l)
    ∙ append_assoc (old ++ codes " RTP/SAVP 0\r\n") (line_text 1 Tag80 (answer_key call)) (codes "\r\n")
    ∙ append_assoc old (codes " RTP/SAVP 0\r\n") (line_text 1 Tag80 (answer_key call) ++ codes "\r\n")
    ∙ ap (λ (p : Bool). old ++ answer_end call p) (sym is)

pub on_ok : {T E : Type 0} (r : Result T E) (P Q : Type 0) → (P → Q) → OnOk r P → OnOk r Q
on_ok (Ok value) P Q follows is = follows is
on_ok (Err error) P Q follows is = is
