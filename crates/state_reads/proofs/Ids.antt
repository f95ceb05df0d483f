-- One call-id among others.
use Rattle.std.proofs.Common.{◌≡◌, ◌∙◌, ℕ, zero, suc, ◌<◌, List, [], ◌∷◌, Bool, true, false, length, get_or, refl, sym, ap, subst, arith}
use Rattle.std.specs.Prelude.{◌||◌}
use Rattle.std.specs.List.{list_any}
use Rattle.std.specs.Str.{bytes_eq}
use Rattle.call_board.specs.declared.saved_board.CallSaved.{CallSaved}
use Rattle.call_board.specs.SavedBoards.{IdsApart}
use Rattle.state_reads.specs.Calls.{saved_ids}

or_true : (a : Bool) → (a || true) ≡ true
or_true true = refl
or_true false = refl

pub has_at : (p : List ℕ → Bool) (calls : List CallSaved) (i : ℕ) (d : CallSaved) → i < length calls → p (get_or calls i d).id.list ≡ true
    → list_any p (saved_ids calls) ≡ true
has_at p [] i d within is = absurd (omega arith)
has_at p (call ∷ calls) zero d within is = ap (λ b. b || list_any p (saved_ids calls)) is
has_at p (call ∷ calls) (suc i) d within is = ap (λ b. p call.id.list || b) (has_at p calls i d (omega arith) is) ∙ or_true (p call.id.list)

-- the first of these calls has a call-id that none of the others has
pub apart_more : (calls : List CallSaved) (call : CallSaved) (rest : List CallSaved) → calls ≡ call ∷ rest
    → list_any (λ other. bytes_eq other call.id.list) (saved_ids rest) ≡ false → IdsApart (saved_ids rest) → IdsApart (saved_ids calls)
apart_more calls call rest is out apart = subst (λ (l : List CallSaved). IdsApart (saved_ids l)) (sym is) (out, apart)

pub apart_rest : (calls : List CallSaved) (call : CallSaved) (rest : List CallSaved) → calls ≡ call ∷ rest
    → IdsApart (saved_ids calls) → IdsApart (saved_ids rest)
apart_rest calls call rest is apart =
    let all : IdsApart (saved_ids (call ∷ rest)) = subst (λ (l : List CallSaved). IdsApart (saved_ids l)) is apart in all.1

pub apart_first : (calls : List CallSaved) (call : CallSaved) (rest : List CallSaved) → calls ≡ call ∷ rest
    → IdsApart (saved_ids calls) → list_any (λ other. bytes_eq other call.id.list) (saved_ids rest) ≡ false
apart_first calls call rest is apart =
    let all : IdsApart (saved_ids (call ∷ rest)) = subst (λ (l : List CallSaved). IdsApart (saved_ids l)) is apart in all.0
