-- Which addresses are not open: at first, and after their closing.
use Rattle.std.proofs.Common.{◌≡◌, sym, subst, refl, true, List, [], ◌∷◌, ◌++◌, ◌⊎◌, inl, inr, Option, Some, None}
use Rattle.std.specs.Prelude.{All}
use Rattle.std.specs.List.{AllByRecursion}
use Rattle.std.proofs.lemmas.List.Elements.{recursion_from_All}
use Rattle.relay_outside.specs.declared.address.Addr.{Addr}
use Rattle.relay_outside.specs.declared.ports.InCall.{InCall}
use Rattle.relay_outside.specs.declared.ports.OutCall.{OutCall}
use Rattle.relay_outside.specs.declared.ports.PortCall.{PortCall}
use Rattle.relay_outside.specs.declared.ports.PortCall.TheVariants.{Open, Close}
use Rattle.relay_outside.specs.Ports.{IsOpen, ClosesNot}
use Rattle.relay_outside.specs.DeviceLogs.{Gains, WhereLogged}

none_at_first : (at : Addr) → IsOpen [] at → ⊥
none_at_first at o = never o.before o.opened
  where
    never : (before : List PortCall) → [] ≡ before ++ Open at true ∷ o.after → ⊥
    never [] e = cc
    never (call ∷ before) e = cc

-- a maker that was not called has no address open
pub first_open : (log : Option (List PortCall)) (at : Addr) → log ≡ Some [] → WhereLogged log (λ calls. IsOpen calls at → ⊥)
first_open log at is = subst (λ (t : Option (List PortCall)). WhereLogged t (λ calls. IsOpen calls at → ⊥)) (sym is) (none_at_first at)

-- the last of these is the one in the middle, or stands after it
at_end : {A : Type 0} (xs before after : List A) (y z : A) → xs ++ y ∷ [] ≡ before ++ z ∷ after →
    (y ≡ z) ⊎ ((rest : List A) × (after ≡ rest ++ y ∷ []))
at_end [] [] after y z e = inl (let same : y ≡ z = cc in same)
at_end [] (b ∷ []) after y z e = absurd (let f = e in cc)
at_end [] (b ∷ c ∷ bs) after y z e = absurd (let f = e in cc)
at_end (x ∷ xs) [] after y z e = inr (xs, let f : after ≡ xs ++ y ∷ [] = cc in f)
at_end {A} (x ∷ xs) (b ∷ bs) after y z e =
    let rest : xs ++ y ∷ [] ≡ bs ++ z ∷ after = cc in
    at_end xs bs after y z rest

last_of_all : {A : Type 0} (P : A → Type 0) (xs : List A) (y : A) → AllByRecursion P (xs ++ y ∷ []) → P y
last_of_all P [] y h = h.0
last_of_all P (x ∷ xs) y h = last_of_all P xs y h.1

just_closed : (calls : List PortCall) (at : Addr) (taken : Option (List InCall)) (sent : Option (List OutCall)) →
    IsOpen (calls ++ Close at taken sent ∷ []) at → ⊥
just_closed calls at taken sent o =
    elim (at_end calls o.before o.after (Close at taken sent) (Open at true) o.opened) as (λ _. ⊥) [
      | inl same ↦ let f = same in cc
      | inr found ↦
          last_of_all (ClosesNot at) found.0 (Close at taken sent)
          (recursion_from_All (ClosesNot at) (found.0 ++ Close at taken sent ∷ []) (subst (All (ClosesNot at)) found.1 o.kept)) refl
    ]

-- an address that was closed last is not open
pub closed : (old new : Option (List PortCall)) (at : Addr) (taken : Option (List InCall)) (sent : Option (List OutCall)) →
    Gains old new (Close at taken sent) → WhereLogged new (λ calls. IsOpen calls at → ⊥)
closed old None at taken sent gains = tt
closed None (Some new) at taken sent gains = absurd gains
closed (Some old) (Some new) at taken sent gains =
    subst (λ (calls : List PortCall). IsOpen calls at → ⊥) (sym gains) (just_closed old at taken sent)
