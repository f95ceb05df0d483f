use Rattle.std.proofs.Common.{sym}
use Rattle.relay_script.proofs.Words.{no_words, words_read, words_refused}
use Rattle.relay_script.proofs.parser.read_words.Goals as goal

pub returns-in_default-find_keyword-clause-refused : goal.returns-in_default-find_keyword-clause-refused
returns-in_default-find_keyword-clause-refused c =
    no_words c.args.line.now c.in-Some.name.now c.in-Some.rest.now c.in-Some.ensures.found c.in-Some.ensures.first (sym c.in_default-find_keyword.ensures.value)

pub returns-clause-step : goal.returns-clause-step
returns-clause-step c =
    words_read c.args.line.now c.in-Some.name.now c.in-Some.rest.now c.in-Some-find_keyword.keyword c.read_behind.result c.in-Some.ensures.found c.in-Some-find_keyword.ensures.text c.read_behind.ensures

pub returns-clause-refused : goal.returns-clause-refused
returns-clause-refused c =
    words_refused c.args.line.now c.in-Some.name.now c.in-Some.rest.now c.in-Some-find_keyword.keyword c.read_behind.result c.in-Some.ensures.found c.in-Some.ensures.first c.in-Some-find_keyword.ensures.text c.read_behind.ensures
