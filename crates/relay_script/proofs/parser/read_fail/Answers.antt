use Rattle.std.proofs.Common.{true, false, refl, sym, ◌∙◌}
use Rattle.std.proofs.lemmas.Slice.Eq.{slice_eq-Decides}
use Rattle.std.proofs.lemmas.Bool.Decides.{Decides-eqb}
use Rattle.ng_bencode.proofs.Numbers.{false_true}
use Rattle.relay_script.proofs.Words.{no_fail, fail_send, fail_unknown, fail_uncounted}
use Rattle.relay_script.proofs.parser.read_fail.Goals as goal

pub returns-in_default : goal.returns-in_default
returns-in_default c = no_fail c.args.rest.now c.in_default.ensures.missing

pub returns-then-eq : goal.returns-then-eq
returns-then-eq c =
    let same = (slice_eq-Decides Decides-eqb c.in-Some.name.now c.as_slice.result.now true c.if-eq.ensures).0 refl in
    fail_send c.args.rest.now c.in-Some.name.now c.in-Some.rest.now c.in-Some.ensures.found (same ∙ c.as_slice.ensures) c.read_send_failure.result c.read_send_failure.ensures

pub returns-in_default-find_kind : goal.returns-in_default-find_kind
returns-in_default-find_kind c =
    fail_unknown c.args.rest.now c.in-Some.name.now c.in-Some.rest.now c.in-Some.ensures.found c.in-Some.ensures.first
    (λ e. false_true ((slice_eq-Decides Decides-eqb c.in-Some.name.now c.as_slice.result.now false c.if-eq.ensures).1 (e ∙ sym c.as_slice.ensures)))
    (sym c.in_default-find_kind.ensures.value)

pub returns-in-None : goal.returns-in-None
returns-in-None c =
    fail_uncounted c.args.rest.now c.in-Some.name.now c.in-Some.rest.now c.in-Some-find_kind.kind c.in-Some.ensures.found c.in-Some-find_kind.ensures.text c.in-None.ensures
