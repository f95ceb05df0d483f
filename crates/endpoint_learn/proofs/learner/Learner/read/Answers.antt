use Rattle.std.proofs.Common.{◌≡◌, ◌∙◌, ◌+◌, ◌∷◌, ℕ, List, get_or, drop, take, sym, ap}
use Rattle.endpoint_learn.specs.SavedLearners.{saved_flag, saved_source}
use Rattle.endpoint_learn.proofs.SavedForms.{signalled_part, flag_part, source_part, flag_in, flag_again, none_read, some_read}
use Rattle.endpoint_learn.proofs.learner.Learner.read.Goals as goal
use Rattle.endpoint_learn.proofs.learner.Learner.read.Goals.{then-bytes-eq0, else-bytes-eq0}

pub returns : goal.returns
returns c learner fits same =
    let bytes = c.args.bytes.now in
    let f = learner.flags in
    let at : (k : ℕ) → get_or bytes (19 + k) 0 ≡ get_or (saved_flag f.strict ∷ saved_flag f.handover ∷ saved_flag f.asymmetric ∷ saved_source learner.learned) k 0 =
    λ k. ap (λ (b : List ℕ). get_or b (19 + k) 0) (sym same) ∙ flag_part learner k fits in
    let strict : flag_in (get_or bytes 19 0) ≡ f.strict = ap flag_in (at 0) ∙ flag_again f.strict in
    let handover : flag_in (get_or bytes 20 0) ≡ f.handover = ap flag_in (at 1) ∙ flag_again f.handover in
    let asymmetric : flag_in (get_or bytes 21 0) ≡ f.asymmetric = ap flag_in (at 2) ∙ flag_again f.asymmetric in
    let signalled : c.addr_of-2.result ≡ learner.signalled =
    c.addr_of-2.ensures learner.signalled fits.signalled (sym (signalled_part learner fits) ∙ ap (λ (b : List ℕ). take 19 (drop 0 b)) same ∙ sym c.part-2.ensures) in
    let source : saved_source learner.learned ≡ take 19 (drop 22 bytes) = sym (source_part learner fits) ∙ ap (λ (b : List ℕ). take 19 (drop 22 b)) same in
    let learned : c.if-bytes-eq0.learned ≡ learner.learned = elim c.if-bytes-eq0.branch [
      | then-bytes-eq0 w ↦ w.learned-is ∙ none_read learner.learned (sym (at 3) ∙ w.if-bytes-eq0.true)
      | else-bytes-eq0 w ↦ w.learned-is ∙ some_read learner.learned w.addr_of.result fits.learned (λ zero_is. w.if-bytes-eq0.false (at 3 ∙ zero_is))
          (λ addr fits_addr is. w.addr_of.ensures addr fits_addr (is ∙ source ∙ sym w.part.ensures))
    ] in
    λ i. record {
      signalled = signalled i;
      flags = record { strict = strict i; handover = handover i; asymmetric = asymmetric i };
      learned = learned i;
    }
