-- The error of a description, by the family that comes with it and by what reading it gives.
use Rattle.std.proofs.Common.{◌≡◌, ◌∙◌, ℕ, List, Option, Some, None, sym, ap}
use Rattle.relay_outside.specs.declared.address.Family.{Family}
use Rattle.relay_outside.specs.declared.settings.Config.{Config}
use Rattle.histories.specs.Words.{or_else}
use Rattle.sdp_text.specs.Lines.{lines_of}
use Rattle.sdp_text.specs.Descriptions.{fault_in, v6_line_in}
use Rattle.sdp_text.specs.declared.fault.SdpFault.{SdpFault}
use Rattle.ng_reply.specs.declared.code.ErrorCode.{ErrorCode}
use Rattle.call_board.specs.Requests.{sdp_code, code_if, v6_error, family_error, sdp_error, sdp_error_for}

-- the error of the family is the first
pub family-faulty : (config : Config) (family : Option Family) (text : List ℕ) (code : ErrorCode) → family_error family config.interface6 ≡ Some code
    → sdp_error_for config family text ≡ Some code
family-faulty config family text code e = ap (λ (f : Option ErrorCode). or_else f (sdp_error config text)) e

-- and else that of the description counts
pub family-sound : (config : Config) (family : Option Family) (text : List ℕ) → family_error family config.interface6 ≡ None
    → sdp_error_for config family text ≡ sdp_error config text
family-sound config family text e = ap (λ (f : Option ErrorCode). or_else f (sdp_error config text)) e

-- a fault of the text is the error
pub error-faulty : (config : Config) (text : List ℕ) (fault : SdpFault) → fault_in (lines_of text) ≡ Some fault → sdp_error config text ≡ Some (sdp_code fault)
unfolding sdp_error
error-faulty config text fault e =
    ap (λ (f : Option SdpFault). or_else (code_if f) (v6_error config.interface6 (v6_line_in (lines_of text)))) e

-- and else an address that can't be served is
pub error-sound : (config : Config) (text : List ℕ) (lines : List (List ℕ)) → lines ≡ lines_of text → fault_in (lines_of text) ≡ None →
    v6_error config.interface6 (v6_line_in lines) ≡ sdp_error config text
unfolding sdp_error
error-sound config text lines is e =
    ap (λ (ls : List (List ℕ)). v6_error config.interface6 (v6_line_in ls)) is
    ∙ sym (ap (λ (f : Option SdpFault). or_else (code_if f) (v6_error config.interface6 (v6_line_in (lines_of text)))) e)
