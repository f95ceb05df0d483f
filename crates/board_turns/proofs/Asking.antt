-- What a datagram asks, by the command that its dictionary says.
use Rattle.std.proofs.Common.{◌≡◌, ◌∙◌, ap, refl, Bool, Option, Some, None, Ok, Err}
use Rattle.relay_outside.specs.declared.settings.Config.{Config}
use Rattle.ng_bencode.specs.Tree.{Entries}
use Rattle.ng_command.specs.Meanings.{Said}
use Rattle.ng_reply.specs.declared.code.ErrorCode.{ErrorCode}
use Rattle.call_board.specs.Requests.{asked, asked_by, command_in, description_error, unless}

unless_none : (o : Option ErrorCode) (says : Said) → o ≡ None → unless o says ≡ Ok says
unless_none None says is = refl
unless_none (Some code) says is = absurd (let e = is in cc)

-- a command whose description has no error
pub asks_so : (config : Config) (too_long : Bool) (pairs : Option Entries) (says : Said) → command_in too_long pairs ≡ Ok says
    → description_error config says ≡ None → asked config too_long pairs ≡ Ok says
unfolding asked
asks_so config too_long pairs says is fine = ap (asked_by config) is ∙ unless_none (description_error config says) says fine

-- a command whose description has this error
pub asks_misdescribed : (config : Config) (too_long : Bool) (pairs : Option Entries) (says : Said) (code : ErrorCode) → command_in too_long pairs ≡ Ok says
    → description_error config says ≡ Some code → asked config too_long pairs ≡ Err code
unfolding asked
asks_misdescribed config too_long pairs says code is faulty =
    ap (asked_by config) is ∙ ap (λ (o : Option ErrorCode). unless o says) faulty

-- a datagram that is too long, or whose dictionary or keys are faulty
pub asks_faulty : (config : Config) (too_long : Bool) (pairs : Option Entries) (code : ErrorCode) → command_in too_long pairs ≡ Err code
    → asked config too_long pairs ≡ Err code
unfolding asked
asks_faulty config too_long pairs code is = ap (asked_by config) is
