use Rattle.std.proofs.Common.{false}
use Rattle.ng_bencode.specs.Tree.{Dict}
use Rattle.control_messages.proofs.Read.{dictionary_read}
use Rattle.control_messages.proofs.body.bencode_dictionary.Goals as goal

pub returns-in-Ok : goal.returns-in-Ok
returns-in-Ok c = dictionary_read false c.args.text.now c.in-Ok.value c.dictionary_of.result c.in-Ok.ensures.value c.in-Ok.ensures.only c.dictionary_of.ensures

pub returns-in-Err-NotBencode : goal.returns-in-Err-NotBencode
returns-in-Err-NotBencode c = λ pairs spells. c.in-Err-NotBencode.ensures.cause c.in-Err-NotBencode.field-0-is (Dict pairs) spells
