use Rattle.std.proofs.Common.{◌∷◌, ◌∙◌, ap, arith}
use Rattle.std.proofs.lemmas.Result.{err_from_is_err_and}
use Rattle.ng_bencode.specs.Row.{list_in}
use Rattle.ng_bencode.specs.Tree.{tree_of}
use Rattle.ng_bencode.proofs.Reading.{items_read, items_kept, pairs_read, pairs_kept, int_read, list_read, dict_read, no_int, no_list, no_dict, no_other, no_empty, left_items, stuck_items, left_pairs, stuck_key, stuck_pair}
use Rattle.ng_bencode.proofs.nested.+read.Goals as goal

pub read_items-returns-in_err-item-clause-cause :
    goal.read_items-returns-in_err-item-clause-cause
read_items-returns-in_err-item-clause-cause t c =
    let p = err_from_is_err_and c.from_residual.result c.from_residual.ensures.1 in
    rw (p.1, p.2) (λ is items x fits e.
    let left = c.items.invariant.left items x fits e in
    stuck_items c.args.depth c.items.rest.now (c.in_err-item.ensures.cause is) c.in_default.ensures left.0 x left.1 left.2)

pub read_items-items-preserved : goal.read_items-items-preserved
read_items-items-preserved t c =
    record {
      read = items_read c.args.bytes.now c.items.rest.now c.in_ok-item.after.now (list_in c.items.found) (list_in c.reserve.new.self) (list_in c.push.new.self) c.in_ok-item.item c.in_ok-reserve.ensures.list c.push.ensures.list c.items.invariant.read c.in_ok-item.ensures.value;
      fits = items_kept c.args.depth (list_in c.items.found) (list_in c.reserve.new.self) (list_in c.push.new.self) c.in_ok-item.item c.in_ok-reserve.ensures.list c.push.ensures.list c.items.invariant.fits c.in_ok-item.ensures.fits;
      left = λ trees x fits e.
          let left = c.items.invariant.left trees x fits e in
          left_items c.args.depth c.items.rest.now c.in_ok-item.after.now (tree_of c.in_ok-item.item) c.in_ok-item.ensures.fits c.in_ok-item.ensures.value c.in_default.ensures left.0 x left.1 left.2;
    }

pub read_pairs-returns-in_default-read_string-clause-cause :
    goal.read_pairs-returns-in_default-read_string-clause-cause
read_pairs-returns-in_default-read_string-clause-cause t c is pairs x fits e =
    let left = c.pairs.invariant.left pairs x fits e in
    stuck_key c.args.depth c.pairs.rest.now c.in_default-read_string.ensures.string c.in_default.ensures left.0 x left.1 left.2

pub read_pairs-returns-in_err-value-clause-cause :
    goal.read_pairs-returns-in_err-value-clause-cause
read_pairs-returns-in_err-value-clause-cause t c =
    let p = err_from_is_err_and c.from_residual-in_err-value.result c.from_residual-in_err-value.ensures.1 in
    rw (p.1, p.2) (λ is pairs x fits e.
    let left = c.pairs.invariant.left pairs x fits e in
    stuck_pair c.args.depth c.pairs.rest.now c.in-Some-read_string.key.now c.in-Some-read_string.behind.now c.in-Some-read_string.ensures.fits c.in-Some-read_string.ensures.string (c.in_err-value.ensures.cause is) c.in_default.ensures left.0 x left.1 left.2)

pub read_pairs-pairs-preserved : goal.read_pairs-pairs-preserved
read_pairs-pairs-preserved t c =
    record {
      read = pairs_read c.args.bytes.now c.pairs.rest.now c.in-Some-read_string.key.now c.in-Some-read_string.behind.now c.in_ok-value.after.now (list_in c.pairs.found) (list_in c.reserve.new.self) (list_in c.push.new.self) c.in_ok-own.own c.in_ok-value.value c.in_ok-reserve.ensures.list c.push.ensures.list c.in_ok-own.ensures c.pairs.invariant.read c.in-Some-read_string.ensures.string c.in_ok-value.ensures.value;
      fits = pairs_kept c.args.depth (list_in c.pairs.found) (list_in c.reserve.new.self) (list_in c.push.new.self) c.in-Some-read_string.key.now c.in_ok-own.own c.in_ok-value.value c.in_ok-reserve.ensures.list c.push.ensures.list c.in_ok-own.ensures c.pairs.invariant.fits c.in-Some-read_string.ensures.fits c.in_ok-value.ensures.fits;
      left = λ pairs x fits e.
          let left = c.pairs.invariant.left pairs x fits e in
          left_pairs c.args.depth c.pairs.rest.now c.in-Some-read_string.key.now c.in-Some-read_string.behind.now c.in_ok-value.after.now (tree_of c.in_ok-value.value) c.in-Some-read_string.ensures.fits c.in_ok-value.ensures.fits c.in-Some-read_string.ensures.string c.in_ok-value.ensures.value c.in_default.ensures left.0 x left.1 left.2;
    }

pub read_value-returns-in_default-clause-cause : goal.read_value-returns-in_default-clause-cause
read_value-returns-in_default-clause-cause t c is = no_empty c.args.depth c.args.bytes.now c.in_default.ensures

pub read_value-returns-in-Some-read_int-clause-value :
    goal.read_value-returns-in-Some-read_int-clause-value
read_value-returns-in-Some-read_int-clause-value t c =
    int_read c.in-Some-read_int.number c.args.bytes.now c.in-Some.body.now c.in-Some-read_int.rest.now
    (c.in-Some.ensures ∙ ap (λ head. head ∷ c.in-Some.body.now) c.if-head-eq-INT.true) c.in-Some-read_int.ensures.fits c.in-Some-read_int.ensures.number

pub read_value-returns-in-None-clause-cause : goal.read_value-returns-in-None-clause-cause
read_value-returns-in-None-clause-cause t c is =
    no_int c.args.depth c.args.bytes.now c.in-Some.body.now (c.in-Some.ensures ∙ ap (λ head. head ∷ c.in-Some.body.now) c.if-head-eq-INT.true) c.in-None.ensures.number

pub read_value-returns-then-depth-eq0-clause-cause :
    goal.read_value-returns-then-depth-eq0-clause-cause
read_value-returns-then-depth-eq0-clause-cause t c is =
    no_list c.args.depth c.args.bytes.now c.in-Some.body.now (c.in-Some.ensures ∙ ap (λ head. head ∷ c.in-Some.body.now) c.if-head-eq-LIST.true)
    (λ items rest some fits e. omega arith)

pub read_value-returns-then-head-eq-LIST-clause-value : goal.read_value-returns-then-head-eq-LIST-clause-value
read_value-returns-then-head-eq-LIST-clause-value t c =
    list_read c.in_ok-items.items c.args.bytes.now c.in-Some.body.now c.in_ok-items.rest.now (c.in-Some.ensures ∙ ap (λ head. head ∷ c.in-Some.body.now) c.if-head-eq-LIST.true) c.in_ok-items.ensures.value

pub read_value-returns-in_err-items-clause-cause : goal.read_value-returns-in_err-items-clause-cause
read_value-returns-in_err-items-clause-cause t c =
    let p = err_from_is_err_and c.from_residual.result c.from_residual.ensures.1 in
    rw (p.1, p.2) (λ is.
    no_list c.args.depth c.args.bytes.now c.in-Some.body.now (c.in-Some.ensures ∙ ap (λ head. head ∷ c.in-Some.body.now) c.if-head-eq-LIST.true)
    (λ items rest some fits e. c.in_err-items.ensures.cause is items rest fits e))

pub read_value-returns-then-depth-eq0-2-clause-cause :
    goal.read_value-returns-then-depth-eq0-2-clause-cause
read_value-returns-then-depth-eq0-2-clause-cause t c is =
    no_dict c.args.depth c.args.bytes.now c.in-Some.body.now (c.in-Some.ensures ∙ ap (λ head. head ∷ c.in-Some.body.now) c.if-head-eq-DICT.true)
    (λ pairs rest some fits e. omega arith)

pub read_value-returns-then-head-eq-DICT-clause-value :
    goal.read_value-returns-then-head-eq-DICT-clause-value
read_value-returns-then-head-eq-DICT-clause-value t c =
    dict_read c.in_ok-pairs.pairs c.args.bytes.now c.in-Some.body.now c.in_ok-pairs.rest.now (c.in-Some.ensures ∙ ap (λ head. head ∷ c.in-Some.body.now) c.if-head-eq-DICT.true) c.in_ok-pairs.ensures.value

pub read_value-returns-in_err-pairs-clause-cause :
    goal.read_value-returns-in_err-pairs-clause-cause
read_value-returns-in_err-pairs-clause-cause t c =
    let p = err_from_is_err_and c.from_residual-in_err-pairs.result c.from_residual-in_err-pairs.ensures.1 in
    rw (p.1, p.2) (λ is.
    no_dict c.args.depth c.args.bytes.now c.in-Some.body.now (c.in-Some.ensures ∙ ap (λ head. head ∷ c.in-Some.body.now) c.if-head-eq-DICT.true)
    (λ pairs rest some fits e. c.in_err-pairs.ensures.cause is pairs rest fits e))

pub read_value-returns-in-None-read_string-clause-cause :
    goal.read_value-returns-in-None-read_string-clause-cause
read_value-returns-in-None-read_string-clause-cause t c is =
    no_other c.args.depth c.in-Some.head c.args.bytes.now c.in-Some.body.now c.in-Some.ensures c.if-head-eq-INT.false c.if-head-eq-LIST.false c.if-head-eq-DICT.false c.in-None-read_string.ensures.string
