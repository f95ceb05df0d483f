-- The legs of a cell over one commit: each is committed, and those of rejected sections go.
use Rattle.std.proofs.Common.{◌≡◌, refl, ap, subst, sym, ◌∙◌, ℕ, zero, suc, ◌+◌, ◌<◌, ◌≤◌, Bool, true, false, cond, not, List, [], ◌∷◌, ◌++◌, map, filter, length, Option, Some, None, get_or, max, arith}
use Rattle.std.specs.Prelude.{is_some}
use Rattle.std.specs.List.{cons_option, filter_map}
use Rattle.std.proofs.lemmas.List.Kept.{AllPairs-filter}
use Rattle.relay_outside.specs.declared.settings.Config.{Config}
use Rattle.histories.specs.Words.{In, here, there, final}
use Rattle.histories.proofs.Lists.{filtered}
use Rattle.port_pool.specs.declared.pairs.Lease.{Lease}
use Rattle.port_pool.specs.declared.holder.Holder.{Holder}
use Rattle.port_pool.specs.declared.signal.LegSignal.{LegSignal}
use Rattle.port_pool.specs.declared.signal.SectionSignal.{SectionSignal}
use Rattle.port_pool.specs.Signals.{same_leg, is_rejected}
use Rattle.call_cell.specs.declared.leg.Leg.{Leg}
use Rattle.call_cell.specs.declared.cell.Cell.{Cell}
use Rattle.call_cell.specs.Cells.{CellEntry, legs, since_end, prepared_call}
use Rattle.call_cell.specs.LegHistories.{LegStandsFor, LegsStandFor, AreApart}
use Rattle.call_cell.specs.CellHistories.{CellFor, WasAt, cell_last_moment}
use Rattle.call_cell.specs.CellEnds.{parts_of}
use Rattle.call_cell.specs.DroppedLegs.{FlagsAre, goes, stays, Part}
use Rattle.call_cell.specs.Commits.{LegCommitsBy, LegsCommit, NamesKeys, said_of, goes_by, stays_by, CellCommits, committed_at}
use Rattle.call_cell.proofs.Steps.{commit_legs}
use Rattle.call_cell.proofs.Few.{few, in_at, at_in, Apart, pairs_of, apart_of}
use Rattle.call_cell.proofs.CommitSteps.{commit_entry, committed_leg}

-- Two lists, element by element.

pub data Pairwise {X Y : Type 0} (R : X → Y → Type 0) : List X → List Y → Type 0 where
  none : Pairwise R [] []
  more : {x : X} {y : Y} {xs : List X} {ys : List Y} → R x y → Pairwise R xs ys → Pairwise R (x ∷ xs) (y ∷ ys)

pub pairwise : {X : Type 0} (R : X → X → Type 0) (xs ys : List X) → length ys ≡ length xs
    → ((i : ℕ) (d : X) → i < length xs → R (get_or xs i d) (get_or ys i d)) → Pairwise R xs ys
pairwise R [] [] long all = none
pairwise R [] (y ∷ ys) long all = absurd (omega (arith, long))
pairwise R (x ∷ xs) [] long all = absurd (omega (arith, long))
pairwise R (x ∷ xs) (y ∷ ys) long all =
    more (all zero x (omega arith)) (pairwise R xs ys (omega (arith, long)) (λ i d below. all (suc i) d (omega (arith, below))))

kept_case : {X Y Z : Type 0} (f : X → Z) (g : Y → Z) (x : X) (y : Y) (xs : List X) (ys : List Y) → g y ≡ f x → map g ys ≡ map f xs → (b : Bool)
    → map g (cond b (y ∷ ys) ys) ≡ map f (cond b (x ∷ xs) xs)
kept_case {X} {Y} {Z} f g x y xs ys same rest true = ap (λ (z : Z). z ∷ map g ys) same ∙ ap (λ (l : List Z). f x ∷ l) rest
kept_case f g x y xs ys same rest false = rest

-- what is kept of both is the same, where the same is tested and made
pub kept_both : {X Y Z : Type 0} (R : X → Y → Type 0) (p : X → Bool) (q : Y → Bool) (f : X → Z) (g : Y → Z)
    → ((x : X) (y : Y) → R x y → (q y ≡ p x) × (g y ≡ f x)) → (xs : List X) (ys : List Y) → Pairwise R xs ys
    → map g (filter q ys) ≡ map f (filter p xs)
kept_both R p q f g same [] [] none = refl
kept_both R p q f g same [] (y ∷ ys) z = elim z [ ]
kept_both R p q f g same (x ∷ xs) [] z = elim z [ ]
kept_both {X} {Y} {Z} R p q f g same (x ∷ xs) (y ∷ ys) (more r rest) =
    let s = same x y r in
    ap (λ (b : Bool). map g (cond b (y ∷ filter q ys) (filter q ys))) s.0
    ∙ kept_case f g x y (filter p xs) (filter q ys) s.1 (kept_both R p q f g same xs ys rest) (p x)

map_case : {X Z : Type 0} (f : X → Z) (x : X) (xs : List X) (b : Bool) → map f (cond b (x ∷ xs) xs) ≡ cond b (f x ∷ map f xs) (map f xs)
map_case f x xs true = refl
map_case f x xs false = refl

pub map_filter : {X Z : Type 0} (f : X → Z) (p : Z → Bool) (xs : List X) → map f (filter (λ (x : X). p (f x)) xs) ≡ filter p (map f xs)
map_filter f p [] = refl
map_filter {X} {Z} f p (x ∷ xs) =
    map_case f x (filter (λ (y : X). p (f y)) xs) (p (f x))
    ∙ ap (λ (l : List Z). cond (p (f x)) (f x ∷ l) l) (map_filter f p xs)

-- what is picked is what is made, where it is there
pub picked_made : {X Y : Type 0} (f : X → Option Y) (xs : List X) → filter_map f xs ≡ filter_map (λ (o : Option Y). o) (map f xs)
picked_made f [] = refl
picked_made {X} {Y} f (x ∷ xs) = ap (λ (l : List Y). cons_option (f x) l) (picked_made f xs)

-- A leg and what the commit made of it.

same_of : {O : Type 0} (said : Option LegSignal) (a b : Leg O) → LegCommitsBy said a b → (b.holder ≡ a.holder) × (parts_of b ≡ parts_of a)
same_of {O} None a b does = (ap (λ (l : Leg O). l.holder) does, ap (λ (l : Leg O). parts_of l) does)
same_of {O} (Some s) a b does = (ap (λ (l : Leg O). l.holder) does.rest, ap (λ (l : Leg O). parts_of l) does.rest)

record Same {O : Type 0} (signal : List SectionSignal) (flags : List Bool) (a b : Leg O) : Type 0 where
  pub holder : b.holder ≡ a.holder
  pub parts : parts_of b ≡ parts_of a
  pub flag : goes flags b ≡ goes_by signal a

same_pair : {O : Type 0} (signal : List SectionSignal) (flags : List Bool) (a b : Leg O) → FlagsAre flags (is_rejected signal) → a.holder.section < 8
    → LegCommitsBy (said_of signal a.holder) a b → Same signal flags a b
same_pair signal flags a b are small does =
    let s = same_of (said_of signal a.holder) a b does in
    record {
      holder = s.0;
      parts = s.1;
      flag = ap (λ (x : Holder). get_or flags x.section false) s.0 ∙ are a.holder.section small;
    }

-- legs with the same holders are apart as well
pub apart_so : {O : Type 0} (xs ys : List (Leg O)) → length ys ≡ length xs
    → ((i : ℕ) (d : Leg O) → i < length xs → (get_or ys i d).holder ≡ (get_or xs i d).holder) → AreApart xs → AreApart ys
apart_so {O} xs ys long same apart = record {
  leases = λ i j d one two q.
      let a : i < length xs = omega (arith, one, long) in
      let b : j < length xs = omega (arith, two, long) in
      apart.leases i j d a b
      (subst (λ (z : Holder). same_leg z (get_or xs j d).holder ≡ true) (same i d a)
      (subst (λ (z : Holder). same_leg (get_or ys i d).holder z ≡ true) (same j d b) q));
  places = λ i j d one two section side.
      let a : i < length xs = omega (arith, one, long) in
      let b : j < length xs = omega (arith, two, long) in
      apart.places i j d a b
      (sym (ap (λ (z : Holder). z.section) (same i d a)) ∙ section ∙ ap (λ (z : Holder). z.section) (same j d b))
      (sym (ap (λ (z : Holder). z.side) (same i d a)) ∙ side ∙ ap (λ (z : Holder). z.side) (same j d b));
}

pub apart_kept : {O : Type 0} (p : Leg O → Bool) (xs : List (Leg O)) → AreApart xs → AreApart (filter p xs)
apart_kept {O} p xs apart = apart_of (filter p xs) (AllPairs-filter (λ (a b : Leg O). Apart a b) p xs (pairs_of xs apart))

-- The legs.

pub record Answered {O : Type 0} (config : Config) (m : ℕ) (signal : List SectionSignal) (h : List CellEntry) (old new : List (Leg O))
    (gone : List (Lease × O × O)) : Type 0 where
  pub legs_for : LegsStandFor config (commit_entry m signal ∷ h) new
  pub went : gone ≡ filter_map (λ (leg : Leg O). parts_of leg) (filter (λ (leg : Leg O). goes_by signal leg) old)
  pub stay : map (λ (leg : Leg O). parts_of leg) new ≡ map (λ (leg : Leg O). parts_of leg) (filter (λ (leg : Leg O). stays_by signal leg) old)

pub answered : {O : Type 0} (config : Config) (m : ℕ) (signal : List SectionSignal) (h : List CellEntry) (flags : List Bool) (old mid new : List (Leg O))
    (before after : List (Lease × O × O)) → LegsStandFor config h old → NamesKeys h signal → length mid ≡ length old → LegsCommit signal old mid
    → FlagsAre flags (is_rejected signal) → before ≡ [] → Part flags mid new before after → Answered config m signal h old new after
answered {O} config m signal h flags old mid new before after for names long does are empty part =
    let P : List (Leg O) → Type 0 = λ (l : List (Leg O)). LegsStandFor config (commit_entry m signal ∷ h) l in
    let room : length before + length mid ≤ 16
    = subst (λ (l : List (Lease × O × O)). length l + length mid ≤ 16) (sym empty) (omega (arith, few config h old for, long)) in
    let parts : Leg O → Option (Lease × O × O) = λ (leg : Leg O). parts_of leg in
    let holder : Leg O → Holder = λ (leg : Leg O). leg.holder in
    let R : Leg O → Leg O → Type 0 = λ (a b : Leg O). Same signal flags a b in
    let stay_p : Leg O → Bool = λ (leg : Leg O). stays_by signal leg in
    let stay_q : Leg O → Bool = λ (leg : Leg O). stays flags leg in
    let pairs : Pairwise R old mid = pairwise R old mid long
    (λ i d below. same_pair signal flags (get_or old i d) (get_or mid i d) are (for.each i d below).section (does i d below)) in
    let same : (i : ℕ) (d : Leg O) → i < length old → (get_or mid i d).holder ≡ (get_or old i d).holder
    = λ i d below. (same_of (said_of signal (get_or old i d).holder) (get_or old i d) (get_or mid i d) (does i d below)).0 in
    let in_old : (i : ℕ) (d : Leg O) → i < length old → In (get_or old i d).holder (legs h)
    = λ i d below. subst (λ (l : List Holder). In (get_or old i d).holder l) for.holders (maps_in old i d below) in
    let each_mid : (i : ℕ) (d : Leg O) → i < length mid → LegStandsFor config (commit_entry m signal ∷ h) (get_or mid i d) = λ i d below.
    let within : i < length old = omega (arith, below, long) in
    committed_leg config m signal h (get_or old i d) (get_or mid i d) (said_of signal (get_or old i d).holder) refl
    (λ n q. names (get_or old i d).holder n (in_old i d within) q) (does i d within) (for.each i d within) in
    let kept : P (filter stay_q mid) = record {
      holders = kept_both R stay_p stay_q holder holder (λ a b r. (ap not r.flag, r.holder)) old mid pairs
          ∙ map_filter holder (λ (leg : Holder). not (is_rejected signal leg.section)) old
          ∙ ap (λ (l : List Holder). filter (λ (leg : Holder). not (is_rejected signal leg.section)) l) for.holders
          ∙ sym (commit_legs m signal h);
      apart = apart_kept stay_q mid (apart_so old mid long same for.apart);
      each = λ i d below.
          let f = filtered stay_q mid (at_in (filter stay_q mid) i d below) in
          let a = in_at mid f.0 in
          subst (λ (l : Leg O). LegStandsFor config (commit_entry m signal ∷ h) l) (a.is d) (each_mid a.at d a.below);
    } in
    record {
      legs_for = subst P (sym (part room).0) kept;
      went = (part room).1 ∙ ap (λ (l : List (Lease × O × O)). l ++ filter_map parts (filter (λ (leg : Leg O). goes flags leg) mid)) empty
          ∙ picked_made parts (filter (λ (leg : Leg O). goes flags leg) mid)
          ∙ ap (λ (l : List (Option (Lease × O × O))). filter_map (λ o. o) l)
          (kept_both R (λ (leg : Leg O). goes_by signal leg) (λ (leg : Leg O). goes flags leg) parts parts (λ a b r. (r.flag, r.parts)) old mid pairs)
          ∙ sym (picked_made parts (filter (λ (leg : Leg O). goes_by signal leg) old));
      stay = ap (λ (l : List (Leg O)). map parts l) (part room).0
          ∙ kept_both R stay_p stay_q parts parts (λ a b r. (ap not r.flag, r.parts)) old mid pairs;
    }
  where
    maps_in : (those : List (Leg O)) (i : ℕ) (d : Leg O) → i < length those → In (get_or those i d).holder (map (λ (leg : Leg O). leg.holder) those)
    maps_in [] i d below = absurd (omega (arith, below))
    maps_in (x ∷ xs) zero d below = here refl
    maps_in (x ∷ xs) (suc i) d below = there (maps_in xs i d (omega (arith, below)))

-- The cell.

max_swap : (m n : ℕ) → max m n ≡ max n m
max_swap m n = omega arith

max_again : (m n : ℕ) → max m n ≡ max (max n m) m
max_again m n = omega arith

pub cell_commits : {O : Type 0} (config : Config) (old new : Cell O) (h : List CellEntry) (signal : List SectionSignal) (now : ℕ) (gone : List (Lease × O × O))
    → CellFor config old h → new.config ≡ old.config → new.moment ≡ max old.moment now → new.call ≡ old.call → new.began ≡ old.began
    → new.is_committed ≡ true → new.active ≡ new.moment
    → ((m : ℕ) → Answered config m signal (since_end h) old.legs.items new.legs.items gone)
    → CellCommits config old new h signal now gone
cell_commits {O} config old new h signal now gone for same_config moment same_call began committed active legs_do =
    let e = committed_at h signal now in
    let last : new.moment ≡ cell_last_moment (e ∷ h) = moment ∙ ap (λ (m : ℕ). max m now) for.moment ∙ max_again (cell_last_moment h) now in
    let now_is : e.moment ≡ new.moment = max_swap now (cell_last_moment h) ∙ sym (moment ∙ ap (λ (m : ℕ). max m now) for.moment) in
    let did = legs_do e.moment in
    record {
      fits = tt;
      stands = record {
        config_is = same_config ∙ for.config_is;
        moment = last;
        call_is = same_call ∙ for.call_is;
        began = subst (λ (m : ℕ). WasAt (final (filter (λ (x : CellEntry). is_some (prepared_call x)) (since_end h))) m) (sym began) for.began;
        is_committed = committed;
        active = now_is ∙ sym active;
        unnoted = for.unnoted;
        legs_for = did.legs_for;
      };
      went = did.went;
      stay = did.stay;
    }
