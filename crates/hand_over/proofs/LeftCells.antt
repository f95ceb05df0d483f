-- Which cells were emptied, call by call.
use Rattle.std.proofs.Common.{◌≡◌, ◌∙◌, sym, ap, subst, refl, ◌≤◌, ◌+◌, ℕ, zero, suc, ◌⊎◌, inl, inr, List, [], ◌∷◌, take, drop, Option, Some, arith}
use Rattle.std.specs.Prelude.{slice_get}
use Rattle.relay_outside.specs.declared.ports.InCall.{InCall}
use Rattle.relay_outside.specs.declared.ports.OutCall.{OutCall}
use Rattle.relay_outside.specs.declared.ports.PortCall.{PortCall}
use Rattle.relay_outside.specs.declared.settings.Config.{Config}
use Rattle.relay_outside.specs.DeviceLogs.{EndLog}
use Rattle.histories.specs.Words.{In, here, there}
use Rattle.histories.proofs.Lists.{in_append, in_left}
use Rattle.port_pool.specs.Pools.{AreFree}
use Rattle.call_board.specs.Shapes.{LiveShape}
use Rattle.call_shapes.specs.WholeRelay.{cells_of_calls}
use Rattle.media_ports.proofs.Leased.{take_next, drop_next}
use Rattle.relay_core.specs.declared.part.Part.{Part}
use Rattle.hand_over.specs.Closings.{legs_there, legs_at}
use Rattle.hand_over.specs.ClosingSteps.{legs_with_ends, ClosesSome, IsEmptied, LeavesEmptied}
use Rattle.hand_over.proofs.RestCalls.{cells_apart}

pub in_first : (calls : List LiveShape) (i : ℕ) (call : LiveShape) → In call (take i calls) → In call calls
in_first [] zero call i = i
in_first [] (suc n) call i = i
in_first (c ∷ calls) zero call i = elim i [ ]
in_first (c ∷ calls) (suc n) call (here same) = here same
in_first (c ∷ calls) (suc n) call (there i) = there (in_first calls n call i)

module _ {I O : Type 0} where
  pub none_left : (config : Config) (parts : List (Part I O)) → LeavesEmptied config parts parts []
  none_left config parts = record { emptied = λ call i. elim i [ ]; others = λ k within other. refl }

  still_emptied : (old mid new : List (Part I O)) (place : ℕ) → slice_get new place ≡ slice_get mid place → IsEmptied old mid place → IsEmptied old new place
  still_emptied old mid new place same is = record {
    keeps = λ was at. let m = is.keeps was at in (m.0, same ∙ m.1, m.2);
    none = ap (λ (o : Option (Part I O)). legs_with_ends (legs_there o)) same ∙ is.none;
  }

module _ {I O : Type 0} (taken : I → EndLog InCall) (sent : O → EndLog OutCall) where
  pub left_more : (config : Config) (count : ℕ) (calls : List LiveShape) (i : ℕ) (call : LiveShape) (old mid new : List (Part I O)) (was now : Option (List PortCall))
      → AreFree count (cells_of_calls calls) → ((c : LiveShape) → In c calls → c.cell ≤ config.max_sessions) → slice_get calls i ≡ Some call
      → ClosesSome taken sent config call.cell mid was new now → legs_with_ends (legs_at new call.cell) ≡ [] → LeavesEmptied config old mid (take i calls)
      → LeavesEmptied config old new (take (i + 1) calls)
  left_more config count calls i call old mid new was now free within at steps none left =
      let taken_are = take_next calls i call at in
      let mine : In call (drop i calls) = subst (λ (l : List LiveShape). In call l) (sym (drop_next calls i call at)) (here refl) in
      let differs : (c : LiveShape) → In c (take i calls) → c.cell ≡ call.cell → ⊥ = λ c x e. cells_apart count calls i free c call x mine e in
      let stays : (k : ℕ) → k ≤ config.max_sessions → (k ≡ call.cell → ⊥) → slice_get new k ≡ slice_get mid k =
      λ k low other. steps.others k other (λ pair x e. absurd (omega (arith, e, low))) in
      let untouched : slice_get mid call.cell ≡ slice_get old call.cell = left.others call.cell steps.ready.within (λ c x e. differs c x (sym e)) in
      record {
        emptied = λ c x. by c (in_append (take i calls) (call ∷ []) (subst (λ (l : List LiveShape). In c l) taken_are x)) differs stays untouched;
        others = λ k low other.
            stays k low (λ e. other call (subst (λ (l : List LiveShape). In call l) (sym taken_are) (Rattle.histories.proofs.Lists.in_right (take i calls) (call ∷ []) (here refl))) e)
            ∙ left.others k low (λ c x e. other c (subst (λ (l : List LiveShape). In c l) (sym taken_are) (in_left (take i calls) (call ∷ []) x)) e);
      }
    where
      by : (c : LiveShape) → In c (take i calls) ⊎ In c (call ∷ []) → ((d : LiveShape) → In d (take i calls) → d.cell ≡ call.cell → ⊥)
          → ((k : ℕ) → k ≤ config.max_sessions → (k ≡ call.cell → ⊥) → slice_get new k ≡ slice_get mid k) → slice_get mid call.cell ≡ slice_get old call.cell → IsEmptied old new c.cell
      by c (inl x) differs stays untouched = still_emptied old mid new c.cell (stays c.cell (within c (in_first calls i c x)) (differs c x)) (left.emptied c x)
      by c (inr (here same)) differs stays untouched =
          subst (λ (d : LiveShape). IsEmptied old new d.cell) (sym same) (record { keeps = λ before is. steps.keeps before (untouched ∙ is); none = none })
      by c (inr (there more)) differs stays untouched = elim more [ ]
