-- The datagrams of replies whose text is the same in every configuration.
use Rattle.std.proofs.Common.{◌≡◌, ℕ, Bool, List, [], ◌∷◌, ◌++◌, refl, sym, ap, ◌∙◌, append_assoc}
use Rattle.std.specs.Prelude.{Result, Ok, Err, IfOk}
use Rattle.relay_outside.specs.declared.settings.Config.{Config}
use Rattle.ng_bencode.specs.Room.{Room}
use Rattle.ng_bencode.specs.Tree.{Tree}
use Rattle.ng_reply.specs.Replies as bare
use Rattle.ng_reply.specs.declared.code.ErrorCode.{ErrorCode}
use Rattle.call_board.specs.Dialects.{is_json, written_in}
use Rattle.call_board.specs.Replies.{Pong, Done, Warned, Described, Reported, Listed, Fault, reply_text, reply_datagram, fault_datagram}
use Rattle.call_board.specs.Reports.{Report, report_tree, listing_tree}

-- the datagram of a value
abbrev pub value_datagram : (cookie body : List ℕ) → Tree → List ℕ
value_datagram cookie body tree = cookie ++ 32 ∷ written_in (is_json body) tree

pub pong_is : (config : Config) (cookie body : List ℕ) → value_datagram cookie body bare.pong_reply ≡ reply_datagram config cookie body Pong
unfolding reply_text
pong_is config cookie body = refl

pub done_is : (config : Config) (cookie body : List ℕ) → value_datagram cookie body bare.ok_reply ≡ reply_datagram config cookie body Done
unfolding reply_text
done_is config cookie body = refl

pub warned_is : (config : Config) (cookie body : List ℕ) (code : ErrorCode) → value_datagram cookie body (bare.warning_reply code) ≡ reply_datagram config cookie body (Warned code)
unfolding reply_text
warned_is config cookie body code = refl

pub reported_is : (config : Config) (cookie body : List ℕ) (report : Report) → value_datagram cookie body (report_tree config report) ≡ reply_datagram config cookie body (Reported report)
unfolding reply_text
reported_is config cookie body report = refl

pub listed_is : (config : Config) (cookie body : List ℕ) (ids : List (List ℕ)) → value_datagram cookie body (listing_tree ids) ≡ reply_datagram config cookie body (Listed ids)
unfolding reply_text
listed_is config cookie body ids = refl

pub described_is : (config : Config) (cookie body sdp : List ℕ) → value_datagram cookie body (bare.sdp_reply sdp) ≡ reply_datagram config cookie body (Described sdp)
unfolding reply_text
described_is config cookie body sdp = refl

-- the datagram of an error, out of memory included
pub fault_is : (config : Config) (cookie body : List ℕ) (code : ErrorCode) → fault_datagram cookie body code ≡ reply_datagram config cookie body (Fault code)
unfolding reply_text
fault_is config cookie body code = refl

-- what is written in the dialect of a body
pub fault_in : (cookie body : List ℕ) (code : ErrorCode) (in_json : Bool) → is_json body ≡ in_json → cookie ++ 32 ∷ written_in in_json (bare.error_reply code) ≡ fault_datagram cookie body code
fault_in cookie body code in_json is = ap (λ (b : Bool). cookie ++ 32 ∷ written_in b (bare.error_reply code)) (sym is)

pub appended_in : (old new body : List ℕ) (tree : Tree) (in_json : Bool) → is_json body ≡ in_json → new ≡ old ++ written_in in_json tree → new ≡ old ++ written_in (is_json body) tree
appended_in old new body tree in_json is put = put ∙ ap (λ (b : Bool). old ++ written_in b tree) (sym is)

-- a text that holds these bytes holds the same bytes under another name
pub same_text : {E : Type 0} (result : Result (Room ℕ) E) (bytes same : List ℕ) → IfOk result (λ text. text.list ≡ bytes) → bytes ≡ same → IfOk result (λ text. text.list ≡ same)
same_text (Ok text) bytes same holds is = holds ∙ is
same_text (Err none) bytes same holds is = tt

-- bytes that are put into an empty text
pub written : (old new bytes same : List ℕ) → old ≡ [] → new ≡ old ++ bytes → bytes ≡ same → new ≡ same
written old new bytes same empty put is = put ∙ ap (λ front. front ++ bytes) empty ∙ is

pub described_written : (config : Config) (cookie body sdp old first second last : List ℕ) → old ≡ [] → first ≡ old ++ cookie → second ≡ first ++ 32 ∷ []
    → last ≡ second ++ written_in (is_json body) (bare.sdp_reply sdp) → last ≡ reply_datagram config cookie body (Described sdp)
described_written config cookie body sdp old first second last empty a b c =
    let text : List ℕ = written_in (is_json body) (bare.sdp_reply sdp) in
    let front : first ≡ cookie = written old first cookie cookie empty a refl in
    c ∙ ap (λ front. front ++ text) (b ∙ ap (λ front. front ++ 32 ∷ []) front) ∙ append_assoc cookie (32 ∷ []) text ∙ described_is config cookie body sdp
