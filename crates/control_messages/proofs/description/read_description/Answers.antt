use Rattle.std.proofs.Common.{◌∙◌, sym, ap}
use Rattle.std.proofs.lemmas.Result.{err_from_is_err_and}
use Rattle.sdp_text.specs.Lines.{lines_of}
use Rattle.sdp_text.proofs.Served.{sections_few}
use Rattle.call_board.specs.Requests.{v6_error}
use Rattle.control_messages.proofs.Described.{family-faulty, family-sound, error-faulty, error-sound}
use Rattle.control_messages.proofs.description.read_description.Goals as goal

pub returns-in-Some-clause-error : goal.returns-in-Some-clause-error
returns-in-Some-clause-error c = family-faulty c.args.config.now c.args.family c.args.text.now c.in-Some.code (sym c.family_error.ensures ∙ c.in-Some.is)

pub returns-in-Some-v6_error-clause-error : goal.returns-in-Some-v6_error-clause-error
returns-in-Some-v6_error-clause-error c =
    family-sound c.args.config.now c.args.family c.args.text.now (sym c.family_error.ensures ∙ c.in_default.is)
    ∙ sym (error-sound c.args.config.now c.args.text.now c.in_ok-sdp.sdp c.in_ok-sdp.ensures.lines c.in_ok-sdp.ensures.sound)
    ∙ sym (ap (v6_error c.args.config.now.interface6) c.first_v6.ensures) ∙ sym c.v6_error.ensures ∙ c.in-Some-v6_error.is

pub returns-clause-few : goal.returns-clause-few
returns-clause-few c = sections_few (lines_of c.args.text.now) c.in_ok-sdp.ensures.sound

pub returns-clause-sound : goal.returns-clause-sound
returns-clause-sound c =
    family-sound c.args.config.now c.args.family c.args.text.now (sym c.family_error.ensures ∙ c.in_default.is)
    ∙ sym (error-sound c.args.config.now c.args.text.now c.in_ok-sdp.sdp c.in_ok-sdp.ensures.lines c.in_ok-sdp.ensures.sound)
    ∙ sym (ap (v6_error c.args.config.now.interface6) c.first_v6.ensures) ∙ sym c.v6_error.ensures ∙ c.in-None.is

pub returns-in_err-sdp-clause-error : goal.returns-in_err-sdp-clause-error
returns-in_err-sdp-clause-error c =
    let p = err_from_is_err_and c.from_residual.result c.from_residual.ensures.1 in
    rw p.1 (p.2 _ (λ memory.
    family-sound c.args.config.now c.args.family c.args.text.now (sym c.family_error.ensures ∙ c.in_default.is)
    ∙ error-faulty c.args.config.now c.args.text.now c.in_err-sdp.field-0.0 (c.in_err-sdp.ensures.fault memory)))
