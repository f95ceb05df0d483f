-- Which addresses are open as a list of calls gains one more call.
use Rattle.std.proofs.Common.{◌≡◌, ◌∙◌, ap, subst, refl, true, List, [], ◌∷◌, ◌++◌, ◌⊎◌, inl, inr, append_assoc}
use Rattle.std.specs.Prelude.{All}
use Rattle.std.specs.List.{AllByRecursion}
use Rattle.std.proofs.lemmas.List.Elements.{All-from_recursion, recursion_from_All, All-push, All-nil}
use Rattle.relay_outside.specs.declared.address.Addr.{Addr}
use Rattle.relay_outside.specs.declared.ports.PortCall.{PortCall}
use Rattle.relay_outside.specs.declared.ports.PortCall.TheVariants.{Open}
use Rattle.relay_outside.specs.Ports.{IsOpen, ClosesNot}

-- the last of these is the one in the middle, or stands after it
at_end : {A : Type 0} (xs before after : List A) (y z : A) → xs ++ y ∷ [] ≡ before ++ z ∷ after →
    ((y ≡ z) × (xs ≡ before)) ⊎ ((rest : List A) × (after ≡ rest ++ y ∷ []) × (xs ≡ before ++ z ∷ rest))
at_end [] [] after y z e = inl (let same : y ≡ z = cc in same, refl)
at_end [] (b ∷ []) after y z e = absurd (let f = e in cc)
at_end [] (b ∷ c ∷ bs) after y z e = absurd (let f = e in cc)
at_end (x ∷ xs) [] after y z e = inr (xs, let f : after ≡ xs ++ y ∷ [] = cc in f, let same : x ≡ z = cc in ap (λ w. w ∷ xs) same)
at_end {A} (x ∷ xs) (b ∷ bs) after y z e =
    let rest : xs ++ y ∷ [] ≡ bs ++ z ∷ after = cc in
    let same : x ≡ b = cc in
    elim (at_end xs bs after y z rest) as (λ _. ((y ≡ z) × (x ∷ xs ≡ b ∷ bs)) ⊎ ((more : List A) × (after ≡ more ++ y ∷ []) × (x ∷ xs ≡ b ∷ bs ++ z ∷ more))) [
      | inl found ↦ inl (found.0, let i = found.1 in cc)
      | inr found ↦ inr (found.0, found.1, let i = found.2 in cc)
    ]

all_before : {A : Type 0} (P : A → Type 0) (xs : List A) (y : A) → AllByRecursion P (xs ++ y ∷ []) → AllByRecursion P xs × P y
all_before P [] y h = (tt, h.0)
all_before P (x ∷ xs) y h = let rest = all_before P xs y h.1 in ((h.0, rest.0), rest.1)

-- an address that was opened is open
pub open_anew : (calls : List PortCall) (at : Addr) → IsOpen (calls ++ Open at true ∷ []) at
open_anew calls at = record { before = calls; after = []; opened = refl; kept = All-nil (ClosesNot at) }

-- an open address stays open with a call that doesn't close it
pub open_still : (calls : List PortCall) (call : PortCall) (at : Addr) → ClosesNot at call → IsOpen calls at → IsOpen (calls ++ call ∷ []) at
open_still calls call at not o = record {
  before = o.before;
  after = o.after ++ call ∷ [];
  opened = ap (λ xs. xs ++ call ∷ []) o.opened ∙ append_assoc o.before (Open at true ∷ o.after) (call ∷ []);
  kept = All-push (ClosesNot at) o.after call o.kept not;
}

-- an address is open after a call that opened it, or where it was open and was not closed
pub open_before : (calls : List PortCall) (call : PortCall) (at : Addr) → IsOpen (calls ++ call ∷ []) at → (call ≡ Open at true) ⊎ (IsOpen calls at × ClosesNot at call)
open_before calls call at o =
    elim (at_end calls o.before o.after call (Open at true) o.opened) as (λ _. (call ≡ Open at true) ⊎ (IsOpen calls at × ClosesNot at call)) [
      | inl found ↦ inl found.0
      | inr found ↦
          let all = all_before (ClosesNot at) found.0 call (recursion_from_All (ClosesNot at) (found.0 ++ call ∷ []) (subst (All (ClosesNot at)) found.1 o.kept)) in
          inr (record { before = o.before; after = found.0; opened = found.2; kept = All-from_recursion (ClosesNot at) found.0 all.0 }, all.1)
    ]

-- nothing is open before the first call
pub none_at_first : (at : Addr) → IsOpen [] at → ⊥
none_at_first at o = never o.before o.opened
  where
    never : (before : List PortCall) → [] ≡ before ++ Open at true ∷ o.after → ⊥
    never [] e = cc
    never (call ∷ before) e = cc
