-- Which addresses are open after several openings or closings.
use Rattle.std.proofs.Common.{◌≡◌, ◌∙◌, sym, subst, refl, Bool, true, List, [], ◌∷◌, ◌++◌, ◌⊎◌, inl, inr, append-nil, length, replicate}
use Rattle.std.specs.List.{AllZip}
use Rattle.std.proofs.Math.Seq.{append_snoc}
use Rattle.relay_outside.specs.declared.address.Addr.{Addr}
use Rattle.relay_outside.specs.declared.ports.PortCall.{PortCall}
use Rattle.relay_outside.specs.declared.ports.PortCall.TheVariants.{Open, Close}
use Rattle.relay_outside.specs.Ports.{IsOpen, ClosesNot}
use Rattle.histories.specs.Words.{In, here, there}
use Rattle.media_ports.specs.Calls.{openings, Closes, ClosesUncalled, NoneOpen, LeavesOpen}
use Rattle.media_ports.proofs.Opened.{open_anew, open_still, open_before}

pub closes_uncalled : (ats : List Addr) (calls : List PortCall) → AllZip ClosesUncalled ats calls → AllZip Closes ats calls
closes_uncalled [] [] h = tt
closes_uncalled [] (call ∷ calls) h = h
closes_uncalled (at ∷ ats) [] h = h
closes_uncalled (at ∷ ats) (Open other done ∷ calls) h = absurd h.0
closes_uncalled (at ∷ ats) (Close other taken sent ∷ calls) h = (h.0.0, closes_uncalled ats calls h.1)

pub zip-append : {A B : Type 0} (R : A → B → Type 0) (those these : List A) (xs ys : List B) → AllZip R those xs → AllZip R these ys → AllZip R (those ++ these) (xs ++ ys)
zip-append R [] these [] ys front back = back
zip-append R [] these (x ∷ xs) ys front back = absurd front
zip-append R (a ∷ those) these [] ys front back = absurd front
zip-append R (a ∷ those) these (x ∷ xs) ys front back = (front.0, zip-append R those these xs ys front.1 back)

-- Openings.

-- each address is opened, in order
abbrev pub OpensAll : List Addr → List PortCall → Type 0
OpensAll ats calls = calls ≡ openings ats (replicate (length ats) true)

-- what is open stays open
pub still_open : (ats : List Addr) (answers : List Bool) (calls : List PortCall) (at : Addr) → IsOpen calls at → IsOpen (calls ++ openings ats answers) at
still_open [] answers calls at o = subst (λ (all : List PortCall). IsOpen all at) (sym (append-nil calls)) o
still_open (a ∷ ats) [] calls at o = subst (λ (all : List PortCall). IsOpen all at) (sym (append-nil calls)) o
still_open (a ∷ ats) (done ∷ answers) calls at o =
    let more = still_open ats answers (calls ++ Open a done ∷ []) at (open_still calls (Open a done) at tt o) in
    subst (λ (all : List PortCall). IsOpen all at) (append_snoc calls (Open a done) (openings ats answers)) more

-- what is open then was open, or is among these addresses
pub open_among : (ats : List Addr) (answers : List Bool) (calls : List PortCall) (at : Addr) → IsOpen (calls ++ openings ats answers) at → IsOpen calls at ⊎ In at ats
open_among [] answers calls at o = inl (subst (λ (all : List PortCall). IsOpen all at) (append-nil calls) o)
open_among (a ∷ ats) [] calls at o = inl (subst (λ (all : List PortCall). IsOpen all at) (append-nil calls) o)
open_among (a ∷ ats) (done ∷ answers) calls at o =
    let shifted = subst (λ (all : List PortCall). IsOpen all at) (sym (append_snoc calls (Open a done) (openings ats answers))) o in
    elim (open_among ats answers (calls ++ Open a done ∷ []) at shifted) as (λ _. IsOpen calls at ⊎ In at (a ∷ ats)) [
      | inl before ↦ elim (open_before calls (Open a done) at before) as (λ _. IsOpen calls at ⊎ In at (a ∷ ats)) [
        | inl is ↦ inr (here (let same : at ≡ a = cc in same))
        | inr was ↦ inl was.0
      ]
      | inr among ↦ inr (there among)
    ]

-- each of these addresses is open then
pub opens_each : (ats : List Addr) (calls : List PortCall) (at : Addr) → In at ats → IsOpen (calls ++ openings ats (replicate (length ats) true)) at
opens_each [] calls at among = elim among [ ]
opens_each (a ∷ ats) calls at (here same) =
    let first : IsOpen (calls ++ Open a true ∷ []) at = subst (λ (b : Addr). IsOpen (calls ++ Open a true ∷ []) b) (sym same) (open_anew calls a) in
    subst (λ (all : List PortCall). IsOpen all at) (append_snoc calls (Open a true) (openings ats (replicate (length ats) true)))
    (still_open ats (replicate (length ats) true) (calls ++ Open a true ∷ []) at first)
opens_each (a ∷ ats) calls at (there more) =
    subst (λ (all : List PortCall). IsOpen all at) (append_snoc calls (Open a true) (openings ats (replicate (length ats) true)))
    (opens_each ats (calls ++ Open a true ∷ []) at more)

-- Closings.

not_closed : (call : PortCall) (a at : Addr) → Closes a call → (at ≡ a → ⊥) → ClosesNot at call
not_closed (Open other done) a at h differs = tt
not_closed (Close other taken sent) a at h differs = λ same. differs (sym same ∙ h)

closed_then : (call : PortCall) (a at : Addr) → Closes a call → (call ≡ Open at true) ⊎ ClosesNot at call → at ≡ a → ⊥
closed_then (Open other done) a at h how same = h
closed_then (Close other taken sent) a at h (inl is) same = let f = is in cc
closed_then (Close other taken sent) a at h (inr not) same = not (h ∙ sym same)

weaker : {A B C : Type 0} → A ⊎ (B × C) → A ⊎ C
weaker (inl a) = inl a
weaker (inr both) = inr both.1

was_open : (call : PortCall) (a at : Addr) (calls : List PortCall) → Closes a call → (call ≡ Open at true) ⊎ (IsOpen calls at × ClosesNot at call) → IsOpen calls at
was_open (Open other done) a at calls h how = absurd h
was_open (Close other taken sent) a at calls h (inl is) = absurd (let f = is in cc)
was_open (Close other taken sent) a at calls h (inr both) = both.0

-- what is open then was open, and is not among these addresses
pub open_since : (ats : List Addr) (closes calls : List PortCall) (at : Addr) → AllZip Closes ats closes → IsOpen (calls ++ closes) at → IsOpen calls at × (In at ats → ⊥)
open_since [] [] calls at all o = (subst (λ (these : List PortCall). IsOpen these at) (append-nil calls) o, λ among. elim among [ ])
open_since [] (call ∷ closes) calls at all o = absurd all
open_since (a ∷ ats) [] calls at all o = absurd all
open_since (a ∷ ats) (call ∷ closes) calls at all o =
    let shifted = subst (λ (these : List PortCall). IsOpen these at) (sym (append_snoc calls call closes)) o in
    let later = open_since ats closes (calls ++ call ∷ []) at all.1 shifted in
    let how = open_before calls call at later.0 in
    (was_open call a at calls all.0 how, neither (closed_then call a at all.0 (weaker how)) later.1)
  where
    neither : (at ≡ a → ⊥) → (In at ats → ⊥) → In at (a ∷ ats) → ⊥
    neither differs not (here same) = differs same
    neither differs not (there more) = not more

-- what is not among these addresses stays open
pub open_beside : (ats : List Addr) (closes calls : List PortCall) (at : Addr) → AllZip Closes ats closes → (In at ats → ⊥) → IsOpen calls at → IsOpen (calls ++ closes) at
open_beside [] [] calls at all not o = subst (λ (these : List PortCall). IsOpen these at) (sym (append-nil calls)) o
open_beside [] (call ∷ closes) calls at all not o = absurd all
open_beside (a ∷ ats) [] calls at all not o = absurd all
open_beside (a ∷ ats) (call ∷ closes) calls at all not o =
    let first = open_still calls call at (not_closed call a at all.0 (λ same. not (here same))) o in
    subst (λ (these : List PortCall). IsOpen these at) (append_snoc calls call closes)
    (open_beside ats closes (calls ++ call ∷ []) at all.1 (λ more. not (there more)) first)

pub none_from : (ats : List Addr) (calls : List PortCall) → ((at : Addr) → In at ats → IsOpen calls at → ⊥) → NoneOpen ats calls
none_from [] calls not = tt
none_from (a ∷ ats) calls not = (not a (here refl), none_from ats calls (λ at more. not at (there more)))

-- after the closings of these addresses
pub leaves_open : (ats : List Addr) (closes calls : List PortCall) → AllZip Closes ats closes → LeavesOpen ats calls (calls ++ closes)
leaves_open ats closes calls all = record {
  closed = none_from ats (calls ++ closes) (λ at among o. (open_since ats closes calls at all o).1 among);
  others = λ at beside. ((λ o. (open_since ats closes calls at all o).0), λ o. open_beside ats closes calls at all beside o);
}

pub not_open : (ats : List Addr) (calls : List PortCall) (at : Addr) → NoneOpen ats calls → In at ats → IsOpen calls at → ⊥
not_open [] calls at none among o = elim among [ ]
not_open (a ∷ ats) calls at none (here same) o = none.0 (subst (IsOpen calls) same o)
not_open (a ∷ ats) calls at none (there more) o = not_open ats calls at none.1 more o
