-- The replies in JSON byte for byte.
use Rattle.std.proofs.Common.{◌≡◌, ℕ, true, false, List, [], ◌∷◌, ◌++◌, codes, decimal, refl, ap, ◌∙◌, append_assoc}
use Rattle.std.specs.Cmp.Lexicographic.{slice_cmp}
use Rattle.std.specs.Ordering.{nat_cmp}
use Rattle.std.specs.declared.cmp.Ordering.TheVariants.{Greater}
use Rattle.json.specs.Print.{quoted}
use Rattle.ng_bencode.specs.Tree.{Dict, no_entries}
use Rattle.ng_command.specs.declared.fault.KeyName.{KeyName}
use Rattle.ng_command.specs.declared.fault.KeyName.TheVariants as key
use Rattle.ng_json.specs.Strings.{is_marked, string_of_bytes}
use Rattle.ng_json.specs.JsonText.{json_text}
use Rattle.ng_json.proofs.Simple.{are_simple, simple_escape, simple_string, simple_append, simple_decimal, two_texts}
use Rattle.ng_reply.specs.Replies.{text_entry, sdp_reply, error_reply, json_error_datagram}
use Rattle.ng_reply.specs.Texts.{key_text, part_text, head_text, tail_text, code_text}
use Rattle.ng_reply.specs.declared.code.SdpPart.{SdpPart}
use Rattle.ng_reply.specs.declared.code.SdpPart.TheVariants.{Line, Media}
use Rattle.ng_reply.specs.declared.code.ErrorCode.{ErrorCode}
use Rattle.ng_reply.specs.declared.code.ErrorCode.TheVariants.{E1, E2, E3, E4, E5, E6, E7, E8, E9, E10, E11, E12, E13, E14, E15, E16, E17, E18, E19, E20}

-- a simple text stands as it is in its quotes
plainly : (text : List ℕ) → are_simple text ≡ true → is_marked text ≡ false → quoted (string_of_bytes text) ≡ 34 ∷ (text ++ 34 ∷ [])
plainly text simple unmarked = ap quoted (simple_string text simple unmarked) ∙ ap (λ t. 34 ∷ (t ++ 34 ∷ [])) (simple_escape text simple)

own : (text : List ℕ) → are_simple text ≡ true → quoted text ≡ 34 ∷ (text ++ 34 ∷ [])
own text simple = ap (λ t. 34 ∷ (t ++ 34 ∷ [])) (simple_escape text simple)

-- two texts, where these are their keys and they in quotes
shown : (a x b y qa qx qb qy : List ℕ) → string_of_bytes a ≡ a → string_of_bytes b ≡ b → slice_cmp nat_cmp b a ≡ Greater → quoted a ≡ qa → quoted (string_of_bytes x) ≡ qx → quoted b ≡ qb → quoted (string_of_bytes y) ≡ qy
    → json_text (Dict (text_entry a x (text_entry b y no_entries))) ≡ 123 ∷ (qa ++ 58 ∷ (qx ++ 44 ∷ (qb ++ 58 ∷ (qy ++ 125 ∷ []))))
shown a x b y qa qx qb qy is_a is_b after ea ex eb ey =
    two_texts a x b y is_a is_b after
    ∙ ap (λ q. 123 ∷ (q ++ 58 ∷ (quoted (string_of_bytes x) ++ 44 ∷ (quoted b ++ 58 ∷ (quoted (string_of_bytes y) ++ 125 ∷ []))))) ea
    ∙ ap (λ q. 123 ∷ (qa ++ 58 ∷ (q ++ 44 ∷ (quoted b ++ 58 ∷ (quoted (string_of_bytes y) ++ 125 ∷ []))))) ex
    ∙ ap (λ q. 123 ∷ (qa ++ 58 ∷ (qx ++ 44 ∷ (q ++ 58 ∷ (quoted (string_of_bytes y) ++ 125 ∷ []))))) eb
    ∙ ap (λ q. 123 ∷ (qa ++ 58 ∷ (qx ++ 44 ∷ (qb ++ 58 ∷ (q ++ 125 ∷ []))))) ey

pub sdp_json : (sdp : List ℕ) → json_text (sdp_reply sdp) ≡ codes "{\"result\":\"ok\",\"sdp\":" ++ (quoted (string_of_bytes sdp) ++ 125 ∷ [])
sdp_json sdp =
    shown (codes "result") (codes "ok") (codes "sdp") sdp (codes "\"result\"") (codes "\"ok\"") (codes "\"sdp\"") (quoted (string_of_bytes sdp))
    (simple_string (codes "result") refl refl) (simple_string (codes "sdp") refl refl) refl (own (codes "result") refl) (plainly (codes "ok") refl refl) (own (codes "sdp") refl) refl

-- ---- the texts of errors are simple

key_simple : (name : KeyName) → are_simple (key_text name) ≡ true
key_simple key.CallId = refl
key_simple key.FromTag = refl
key_simple key.ToTag = refl
key_simple key.Sdp = refl
key_simple key.Flags = refl
key_simple key.Replace = refl
key_simple key.TransportProtocol = refl
key_simple key.ReceivedFrom = refl
key_simple key.Limit = refl
key_simple key.DeleteDelay = refl
key_simple key.AddressFamily = refl
key_simple key.RtcpMux = refl
key_simple key.Ice = refl
key_simple key.Dtls = refl
key_simple key.RecordCall = refl
key_simple key.Codec = refl
key_simple key.Tls = refl

part_simple : (part : SdpPart) → are_simple (part_text part) ≡ true
part_simple (Line n) = simple_append (codes "line ") (decimal n) refl (simple_decimal n)
part_simple (Media n) = simple_append (codes "media ") (decimal n) refl (simple_decimal n)

tail_simple : (code : ErrorCode) → are_simple (tail_text code) ≡ true
tail_simple E1 = refl
tail_simple E2 = refl
tail_simple E3 = refl
tail_simple (E4 name) = key_simple name
tail_simple (E5 name) = key_simple name
tail_simple (E6 n) = part_simple (Line n)
tail_simple (E7 part) = part_simple part
tail_simple E8 = refl
tail_simple E9 = refl
tail_simple E10 = refl
tail_simple E11 = refl
tail_simple E12 = refl
tail_simple E13 = refl
tail_simple E14 = refl
tail_simple E15 = refl
tail_simple E16 = refl
tail_simple E17 = refl
tail_simple E18 = refl
tail_simple E19 = refl
tail_simple E20 = refl

head_simple : (code : ErrorCode) → are_simple (head_text code) ≡ true
head_simple E1 = refl
head_simple E2 = refl
head_simple E3 = refl
head_simple (E4 name) = refl
head_simple (E5 name) = refl
head_simple (E6 n) = refl
head_simple (E7 part) = refl
head_simple E8 = refl
head_simple E9 = refl
head_simple E10 = refl
head_simple E11 = refl
head_simple E12 = refl
head_simple E13 = refl
head_simple E14 = refl
head_simple E15 = refl
head_simple E16 = refl
head_simple E17 = refl
head_simple E18 = refl
head_simple E19 = refl
head_simple E20 = refl

code_unmarked : (code : ErrorCode) → is_marked (code_text code) ≡ false
code_unmarked E1 = refl
code_unmarked E2 = refl
code_unmarked E3 = refl
code_unmarked (E4 name) = refl
code_unmarked (E5 name) = refl
code_unmarked (E6 n) = refl
code_unmarked (E7 part) = refl
code_unmarked E8 = refl
code_unmarked E9 = refl
code_unmarked E10 = refl
code_unmarked E11 = refl
code_unmarked E12 = refl
code_unmarked E13 = refl
code_unmarked E14 = refl
code_unmarked E15 = refl
code_unmarked E16 = refl
code_unmarked E17 = refl
code_unmarked E18 = refl
code_unmarked E19 = refl
code_unmarked E20 = refl

error_shape : (text : List ℕ) → 123 ∷ (codes "\"error-reason\"" ++ 58 ∷ ((34 ∷ (text ++ 34 ∷ [])) ++ 44 ∷ (codes "\"result\"" ++ 58 ∷ (codes "\"error\"" ++ 125 ∷ []))))
    ≡ codes "{\"error-reason\":\"" ++ (text ++ codes "\",\"result\":\"error\"}")
error_shape text = ap (λ t. codes "{\"error-reason\":\"" ++ t) (append_assoc text (34 ∷ []) (codes ",\"result\":\"error\"}"))

error_json : (code : ErrorCode) → json_text (error_reply code) ≡ codes "{\"error-reason\":\"" ++ (code_text code ++ codes "\",\"result\":\"error\"}")
error_json code =
    shown (codes "error-reason") (code_text code) (codes "result") (codes "error") (codes "\"error-reason\"") (34 ∷ (code_text code ++ 34 ∷ [])) (codes "\"result\"") (codes "\"error\"")
    (simple_string (codes "error-reason") refl refl) (simple_string (codes "result") refl refl) refl (own (codes "error-reason") refl)
    (plainly (code_text code) (simple_append (head_text code) (tail_text code) (head_simple code) (tail_simple code)) (code_unmarked code))
    (own (codes "result") refl) (plainly (codes "error") refl refl)
    ∙ error_shape (code_text code)

pub error_json_written : (cookie text first second third last : List ℕ) (code : ErrorCode) → first ≡ [] ++ cookie → second ≡ first ++ codes " {\"error-reason\":\"" → third ≡ second ++ text → last ≡ third ++ codes "\",\"result\":\"error\"}" → text ≡ code_text code → last ≡ json_error_datagram cookie code
error_json_written cookie text first second third last code a b c d is =
    rw (d, c, b, a, is, error_json code) (simp append_assoc)

pub sdp_json_written : (old first second last sdp : List ℕ) → first ≡ old ++ codes "{\"result\":\"ok\",\"sdp\":" → second ≡ first ++ quoted (string_of_bytes sdp) → last ≡ second ++ 125 ∷ [] → last ≡ old ++ json_text (sdp_reply sdp)
sdp_json_written old first second last sdp a b c = rw (c, b, a, sdp_json sdp) (simp append_assoc)
