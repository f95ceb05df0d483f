-- What an offer prepares, part by part.
use Rattle.std.proofs.Common.{◌≡◌, refl, ap, subst, sym, ◌∙◌, ℕ, zero, suc, ◌<◌, Bool, true, false, List, [], ◌∷◌, ◌++◌, length, map, inl, inr, get_or, set, arith}
use Rattle.std.specs.Prelude.{if◌then◌else◌}
use Rattle.std.proofs.lemmas.List.{get_or-set_same, get_or-set_other}
use Rattle.std.specs.List.{AllZip, filter_map}
use Rattle.histories.specs.Words.{In, here, there, has}
use Rattle.histories.proofs.Lists.{in_append}
use Rattle.port_pool.specs.Signals.{NewKey}
use Rattle.call_cell.specs.declared.leg.Leg.{Leg}
use Rattle.call_cell.specs.declared.prepare.PreparedKey.{PreparedKey}
use Rattle.call_cell.specs.declared.prepare.Prepare as prepared
use Rattle.call_cell.specs.CellEnds.{parts_of}
use Rattle.call_cell.specs.DroppedLegs.{FlagsAre}
use Rattle.call_cell.specs.Preparations.{PrepareFor, IsPrepared, IsFreshLeg, added, parts_added}
use Rattle.srtp_sources.proofs.Knowing.{equal, differ}
use Rattle.call_cell.proofs.Placing.{same_or_not}

pub no_flags : (section : ℕ) → section < 8
    → get_or (false ∷ false ∷ false ∷ false ∷ false ∷ false ∷ false ∷ false ∷ []) section false ≡ has [] section
no_flags zero q = refl
no_flags (suc zero) q = refl
no_flags (suc (suc zero)) q = refl
no_flags (suc (suc (suc zero))) q = refl
no_flags (suc (suc (suc (suc zero)))) q = refl
no_flags (suc (suc (suc (suc (suc zero))))) q = refl
no_flags (suc (suc (suc (suc (suc (suc zero)))))) q = refl
no_flags (suc (suc (suc (suc (suc (suc (suc zero))))))) q = refl
no_flags (suc (suc (suc (suc (suc (suc (suc (suc n)))))))) q = absurd (omega (arith, q))

pub nothing : {O : Type 0} (signal : prepared.Prepare O) → signal.keys.items ≡ [] → signal.legs.items ≡ [] → FlagsAre signal.dropped (has [])
    → PrepareFor signal [] [] × (added signal ≡ []) × (parts_added signal ≡ [])
nothing {O} signal keys legs drops = (
  record {
    keys_are = subst (λ (l : List PreparedKey). AllZip IsPrepared l []) (sym keys) tt;
    drops = drops;
    fresh = λ leg i. elim (subst (λ (l : List (Leg O)). In leg l) legs i) [ ];
  },
  ap (λ (l : List (Leg O)). map (λ (leg : Leg O). leg.holder) l) legs,
  ap (λ (l : List (Leg O)). filter_map (λ (leg : Leg O). parts_of leg) l) legs,
)

fresh_more : {O : Type 0} (legs : List (Leg O)) (new : Leg O) → ((leg : Leg O) → In leg legs → IsFreshLeg leg) → IsFreshLeg new
    → (leg : Leg O) → In leg (legs ++ new ∷ []) → IsFreshLeg leg
fresh_more {O} legs new all is leg i = elim (in_append legs (new ∷ []) i) [
  | inl old ↦ all leg old
  | inr one ↦ subst (λ (l : Leg O). IsFreshLeg l) (sym (is_one one)) is
]
  where
    is_one : In leg (new ∷ []) → leg ≡ new
    is_one (here q) = q
    is_one (there j) = elim j [ ]

pub one_more_leg : {O : Type 0} (old new : prepared.Prepare O) (leg : Leg O) (keys : List NewKey) (dropped : List ℕ) → new.keys.items ≡ old.keys.items
    → new.dropped ≡ old.dropped → new.legs.items ≡ old.legs.items ++ leg ∷ [] → IsFreshLeg leg → PrepareFor old keys dropped → PrepareFor new keys dropped
one_more_leg {O} old new leg keys dropped same_keys same_dropped legs is for =
    record {
      keys_are = subst (λ (l : List PreparedKey). AllZip IsPrepared l keys) (sym same_keys) for.keys_are;
      drops = subst (λ (l : List Bool). FlagsAre l (has dropped)) (sym same_dropped) for.drops;
      fresh = λ x i. fresh_more old.legs.items leg for.fresh is x (subst (λ (l : List (Leg O)). In x l) legs i);
    }

zip_more : (ps : List PreparedKey) (ks : List NewKey) (p : PreparedKey) (k : NewKey) → AllZip IsPrepared ps ks → IsPrepared p k
    → AllZip IsPrepared (ps ++ p ∷ []) (ks ++ k ∷ [])
zip_more [] [] p k z is = (is, tt)
zip_more [] (l ∷ ks) p k z is = absurd z
zip_more (q ∷ ps) [] p k z is = absurd z
zip_more (q ∷ ps) (l ∷ ks) p k z is = (z.0, zip_more ps ks p k z.1 is)

pub one_more_key : {O : Type 0} (old new : prepared.Prepare O) (p : PreparedKey) (k : NewKey) (keys : List NewKey) (dropped : List ℕ)
    → new.legs.items ≡ old.legs.items → new.dropped ≡ old.dropped → new.keys.items ≡ old.keys.items ++ p ∷ [] → IsPrepared p k
    → PrepareFor old keys dropped → PrepareFor new (keys ++ k ∷ []) dropped
one_more_key {O} old new p k keys dropped same_legs same_dropped more is for =
    record {
      keys_are = subst (λ (l : List PreparedKey). AllZip IsPrepared l (keys ++ k ∷ [])) (sym more) (zip_more old.keys.items keys p k for.keys_are is);
      drops = subst (λ (l : List Bool). FlagsAre l (has dropped)) (sym same_dropped) for.drops;
      fresh = λ x i. for.fresh x (subst (λ (l : List (Leg O)). In x l) same_legs i);
    }

-- a section more is flagged
flag_on : (flags : List Bool) (section : ℕ) (dropped : List ℕ) → section < length flags → FlagsAre flags (has dropped)
    → FlagsAre (set flags section true) (has (section ∷ dropped))
flag_on flags section dropped below for s small = elim (same_or_not s section) [
  | inl is ↦ ap (λ (n : ℕ). get_or (set flags section true) n false) is ∙ get_or-set_same flags section true false below
      ∙ sym (ap (λ (b : Bool). if b then true else has dropped s) (equal section s (sym is)))
  | inr apart ↦ get_or-set_other flags section s true false apart ∙ for s small
      ∙ sym (ap (λ (b : Bool). if b then true else has dropped s) (differ section s (λ q. apart (sym q))))
]

pub one_more_drop : {O : Type 0} (old new : prepared.Prepare O) (section : ℕ) (keys : List NewKey) (dropped : List ℕ) → new.legs.items ≡ old.legs.items
    → new.keys.items ≡ old.keys.items → new.dropped ≡ set old.dropped section true → section < length old.dropped
    → PrepareFor old keys dropped → PrepareFor new keys (section ∷ dropped)
one_more_drop {O} old new section keys dropped same_legs same_keys more below for =
    record {
      keys_are = subst (λ (l : List PreparedKey). AllZip IsPrepared l keys) (sym same_keys) for.keys_are;
      drops = subst (λ (l : List Bool). FlagsAre l (has (section ∷ dropped))) (sym more) (flag_on old.dropped section dropped below for.drops);
      fresh = λ x i. for.fresh x (subst (λ (l : List (Leg O)). In x l) same_legs i);
    }
