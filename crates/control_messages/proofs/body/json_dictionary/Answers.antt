use Rattle.std.proofs.Common.{true}
use Rattle.ng_bencode.specs.Tree.{Dict, tree_of}
use Rattle.call_board.proofs.Saying.{says_once, says_nothing}
use Rattle.control_messages.proofs.Read.{dictionary_read}
use Rattle.control_messages.proofs.body.json_dictionary.Goals as goal

pub returns-in-Ok : goal.returns-in-Ok
returns-in-Ok c =
    dictionary_read true c.args.text.now c.in-Ok.value c.dictionary_of.result c.in-Ok.ensures.value
    (λ tree other. says_once c.args.text.now tree (tree_of c.in-Ok.value) other c.in-Ok.ensures.value) c.dictionary_of.ensures

pub returns-in-Err-NotJson : goal.returns-in-Err-NotJson
returns-in-Err-NotJson c = λ pairs says. c.in-Err-NotJson.ensures.not_json c.in-Err-NotJson.field-0-is says.value says.is_json

pub returns-in-Err-NoTwin : goal.returns-in-Err-NoTwin
returns-in-Err-NoTwin c = λ pairs says. says_nothing c.args.text.now (Dict pairs) (c.in-Err-NoTwin.ensures.no_twin c.in-Err-NoTwin.field-0-is) says
