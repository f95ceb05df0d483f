-- What a call does, where it is known what becomes of its packet.
use Rattle.std.proofs.Common.{◌≡◌, ℕ, List, ◌∷◌, sym, ap, subst, refl}
use Rattle.std.specs.Prelude.{Result, Ok, Err}
use Rattle.srtp_keys.specs.declared.faults.ProtectFault.{ProtectFault}
use Rattle.srtp_keys.specs.declared.faults.UnprotectFault.{UnprotectFault}
use Rattle.srtp_sources.specs.Notes.{Note}
use Rattle.srtp_sources.specs.Judged.{Opened, Wrapped, Writes, OpensTo, WrapsTo}

module _ {C : Type 0} (for : C → List Note → Type 0) (notes : List Note) (old new : C) (buf : List ℕ) where
  pub refuses : (o : Result Opened UnprotectFault) (cause : UnprotectFault) → o ≡ Err cause → new ≡ old → OpensTo for notes o old new buf buf (Err cause)
  refuses o cause is same =
      subst (λ r. OpensTo for notes r old new buf buf (Err cause)) (sym is) (record { answer = refl; buffer = refl; context = same })

  pub takes : (o : Result Opened UnprotectFault) (packet : Opened) (buf_new : List ℕ) (size : ℕ) → o ≡ Ok packet
      → Writes packet.packet buf buf_new size → for new (packet.note ∷ notes) → OpensTo for notes o old new buf buf_new (Ok size)
  takes o packet buf_new size is written noted =
      subst (λ r. OpensTo for notes r old new buf buf_new (Ok size)) (sym is)
      (record { answer = ap Ok written.length_is; buffer = written.buffer; context = noted })

  pub sends_none : (o : Result Wrapped ProtectFault) (cause : ProtectFault) → o ≡ Err cause → new ≡ old → WrapsTo for notes o old new buf buf (Err cause)
  sends_none o cause is same =
      subst (λ r. WrapsTo for notes r old new buf buf (Err cause)) (sym is) (record { answer = refl; buffer = refl; context = same })

  pub sends : (o : Result Wrapped ProtectFault) (packet : Wrapped) (buf_new : List ℕ) (size : ℕ) → o ≡ Ok packet
      → Writes packet.bytes buf buf_new size → for new (packet.note ∷ notes) → WrapsTo for notes o old new buf buf_new (Ok (size, packet.note.index))
  sends o packet buf_new size is written noted =
      subst (λ r. WrapsTo for notes r old new buf buf_new (Ok (size, packet.note.index))) (sym is)
      (record { answer = ap (λ n. Ok (n, packet.note.index)) written.length_is; buffer = written.buffer; context = noted })
