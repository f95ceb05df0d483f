use Rattle.std.proofs.Common.{◌∙◌, sym, true, false}
use Rattle.control_messages.proofs.Read.{read_in}
use Rattle.control_messages.proofs.body.dictionary_in.Goals as goal

pub returns-then-is_json : goal.returns-then-is_json
returns-then-is_json c = read_in c.args.body.now true c.json_dictionary.result (sym c.is_json.ensures ∙ c.if-is_json.true) c.json_dictionary.ensures

pub returns-else-is_json : goal.returns-else-is_json
returns-else-is_json c = read_in c.args.body.now false c.bencode_dictionary.result (sym c.is_json.ensures ∙ c.if-is_json.false) c.bencode_dictionary.ensures
