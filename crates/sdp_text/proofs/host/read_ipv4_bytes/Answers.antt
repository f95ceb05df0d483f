use Rattle.std.proofs.Common.{◌∷◌, ap, ◌∙◌, sym}
use Rattle.sdp_text.proofs.Cuts.{cut_on, ipv4_long}
use Rattle.sdp_text.proofs.host.read_ipv4_bytes.Goals as goal

pub returns-in-Some : goal.returns-in-Some
returns-in-Some c =
    let e1 = cut_on 46 c.args.text.now c.cut.result.0.now c.cut.result.1 c.in_ok-rest.field-0 c.cut.ensures.pieces c.in_ok-rest.was in
    let e2 = cut_on 46 c.in_ok-rest.field-0.now c.cut-2.result.0.now c.cut-2.result.1 c.in_ok-rest-2.field-0 c.cut-2.ensures.pieces c.in_ok-rest-2.was in
    let e3 = cut_on 46 c.in_ok-rest-2.field-0.now c.cut-3.result.0.now c.cut-3.result.1 c.in_ok-rest-3.field-0 c.cut-3.ensures.pieces c.in_ok-rest-3.was in
    let e4 = cut_on 46 c.in_ok-rest-3.field-0.now c.cut-4.result.0.now c.cut-4.result.1 c.in-Some.field-0 c.cut-4.ensures.pieces c.in-Some.is in
    sym (ipv4_long c.args.text.now c.cut.result.0.now c.cut-2.result.0.now c.cut-3.result.0.now c.cut-4.result.0.now c.in-Some.field-0.now c.in_ok-a.a c.in_ok-b.b c.in_ok-c.c c.in_ok-d.d
    (e1 ∙ ap (λ ps. c.cut.result.0.now ∷ ps) (e2 ∙ ap (λ ps. c.cut-2.result.0.now ∷ ps) (e3 ∙ ap (λ ps. c.cut-3.result.0.now ∷ ps) e4)))
    (sym c.read_octet.ensures ∙ c.in_ok-a.was) (sym c.read_octet-2.ensures ∙ c.in_ok-b.was) (sym c.read_octet-3.ensures ∙ c.in_ok-c.was) (sym c.read_octet-4.ensures ∙ c.in_ok-d.was))
