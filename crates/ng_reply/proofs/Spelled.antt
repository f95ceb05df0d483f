-- The replies byte for byte.
use Rattle.std.proofs.Common.{◌≡◌, ℕ, List, [], ◌∷◌, ◌++◌, ◌+◌, length, codes, decimal, ap, ◌∙◌, arith, append_assoc}
use Rattle.std.proofs.lemmas.List.{length-append, append-nil}
use Rattle.ng_bencode.specs.Tree.{Dict, no_entries}
use Rattle.ng_bencode.specs.Spells.{spelling, string}
use Rattle.ng_reply.specs.Replies.{text_entry, sdp_reply, error_datagram}
use Rattle.ng_reply.specs.Texts.{code_text}
use Rattle.ng_reply.specs.declared.code.ErrorCode.{ErrorCode}
use Rattle.ng_reply.proofs.Numbers.{two, three, five, six, twelve}

-- a text after its length
spelled : (text rest : List ℕ) → string text ++ rest ≡ decimal (length text) ++ 58 ∷ (text ++ rest)
spelled text rest = append_assoc (decimal (length text)) (58 ∷ text) rest

result_key : string (codes "result") ≡ codes "6:result"
result_key = rw six

ok_text : string (codes "ok") ≡ codes "2:ok"
ok_text = rw two

sdp_key : string (codes "sdp") ≡ codes "3:sdp"
sdp_key = rw three

error_text : string (codes "error") ≡ codes "5:error"
error_text = rw five

reason_key : string (codes "error-reason") ≡ codes "12:error-reason"
reason_key = rw twelve

-- success with a description
pub sdp_bytes : (sdp : List ℕ) → spelling (sdp_reply sdp) ≡ codes "d6:result2:ok3:sdp" ++ (decimal (length sdp) ++ 58 ∷ (sdp ++ 101 ∷ []))
sdp_bytes sdp = rw (result_key, ok_text, sdp_key, append-nil (string sdp)) (ap (λ rest. codes "d6:result2:ok3:sdp" ++ rest) (spelled sdp (101 ∷ [])))

pub sdp_length : (sdp : List ℕ) → length (spelling (sdp_reply sdp)) ≡ 18 + length (decimal (length sdp)) + 1 + length sdp + 1
sdp_length sdp =
    ap length (sdp_bytes sdp) ∙ omega (arith, length-append (decimal (length sdp)) (58 ∷ (sdp ++ 101 ∷ [])), length-append sdp (101 ∷ []))

pub sdp_written : (old first second third fourth last sdp digits : List ℕ) → first ≡ old ++ codes "d6:result2:ok3:sdp" → second ≡ first ++ digits → third ≡ second ++ 58 ∷ [] → fourth ≡ third ++ sdp → last ≡ fourth ++ 101 ∷ [] → digits ≡ decimal (length sdp) → last ≡ old ++ spelling (sdp_reply sdp)
sdp_written old first second third fourth last sdp digits a b c d e number =
    rw (e, d, c, b, a, number, sdp_bytes sdp) (simp append_assoc)

-- failure
error_bytes : (text : List ℕ) → spelling (Dict (text_entry (codes "error-reason") text (text_entry (codes "result") (codes "error") no_entries))) ≡ codes "d12:error-reason" ++ (decimal (length text) ++ 58 ∷ (text ++ codes "6:result5:errore"))
error_bytes text =
    rw (reason_key, result_key, error_text) (ap (λ rest. codes "d12:error-reason" ++ rest) (append_assoc (string text) (codes "6:result5:error") (101 ∷ []) ∙ spelled text (codes "6:result5:errore")))

pub error_written : (cookie text digits first second third fourth fifth last : List ℕ) (code : ErrorCode) → first ≡ [] ++ cookie → second ≡ first ++ codes " d12:error-reason" → third ≡ second ++ digits → fourth ≡ third ++ 58 ∷ [] → fifth ≡ fourth ++ text → last ≡ fifth ++ codes "6:result5:errore" → digits ≡ decimal (length text) → text ≡ code_text code → last ≡ error_datagram cookie code
error_written cookie text digits first second third fourth fifth last code a b c d e f number is =
    rw (f, e, d, c, b, a, number, is, error_bytes (code_text code)) (simp append_assoc)
