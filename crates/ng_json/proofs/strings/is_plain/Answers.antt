use Rattle.std.proofs.Common.{not, refl}
use Rattle.std.proofs.lemmas.Str.{is_utf8-from_IsUtf8}
use Rattle.ng_json.specs.Strings.{is_marked}
use Rattle.ng_json.proofs.Texts.{is_not_plain}
use Rattle.ng_json.proofs.strings.is_plain.Goals as goal

pub returns-in-Ok : goal.returns-in-Ok
returns-in-Ok c = rw (c.is_marked.ensures, is_utf8-from_IsUtf8 c.args.bytes.now c.in-Ok.ensures.cases.1) refl

pub returns-in-Err : goal.returns-in-Err
returns-in-Err c = is_not_plain c.args.bytes.now (not (is_marked c.args.bytes.now)) c.in-Err.ensures.cases.0
