-- The legs of a cell over one Prepare: those of dropped sections go, and new ones come, with the keys.
use Rattle.std.proofs.Common.{◌≡◌, refl, ap, subst, sym, ◌∙◌, ℕ, zero, suc, ◌+◌, ◌<◌, ◌≤◌, inl, inr, Bool, true, false, cond, not, List, [], ◌∷◌, ◌++◌, map, filter, length, Option, Some, None, get_or, max, arith, Box, Global}
use Rattle.std.specs.Prelude.{is_some, if◌then◌else◌}
use Rattle.std.specs.List.{AllPairs, filter_map, cons_option}
use Rattle.std.proofs.lemmas.List.{get_or-map, length-map, map-append}
use Rattle.std.proofs.lemmas.List.Kept.{AllPairs-cons}
use Rattle.relay_outside.specs.declared.settings.Config.{Config}
use Rattle.sdes_lines.specs.declared.crypto_line.Suite.{Suite}
use Rattle.sdes_lines.specs.declared.crypto_line.Suite.TheVariants.{Tag80, Tag32}
use Rattle.histories.specs.Words.{In, here, there, first, final, or_else, has}
use Rattle.histories.proofs.Lists.{filtered, keeps, maps, mapped, in_left, in_right, in_append}
use Rattle.port_pool.specs.declared.pairs.Lease.{Lease}
use Rattle.port_pool.specs.declared.holder.Holder.{Holder}
use Rattle.port_pool.specs.Signals.{NewKey, same_leg}
use Rattle.call_cell.specs.declared.contexts.Outbound.{Outbound}
use Rattle.call_cell.specs.declared.leg.Leg.{Leg}
use Rattle.call_cell.specs.declared.prepare.PreparedKey.{PreparedKey}
use Rattle.call_cell.specs.declared.prepare.Prepare as prepared
use Rattle.call_cell.specs.declared.cell.Cell.{Cell}
use Rattle.call_cell.specs.Cells.{CellEntry, legs, since_end, call, prepared_call, key_numbered, keys_in}
use Rattle.call_cell.specs.Protection.{protected}
use Rattle.call_cell.specs.Demands.{is_activity}
use Rattle.call_cell.specs.LegHistories.{LegStandsFor, LegsStandFor, AreApart, with_sending}
use Rattle.call_cell.specs.CellHistories.{CellFor, WasAt, cell_last_moment}
use Rattle.call_cell.specs.CellEnds.{parts_of}
use Rattle.call_cell.specs.DroppedLegs.{goes, stays, Part}
use Rattle.call_cell.specs.Preparations.{PrepareFor, CanCome, AreTwo, CellPrepares, added, prepare_entry, prepared_at, is_key_at, with_contexts, with_key, with_keys}
use Rattle.call_cell.proofs.Placing.{same_itself}
use Rattle.call_cell.proofs.Few.{few, in_at, at_in, each_in, Apart, pairs_of, apart_of}
use Rattle.call_cell.proofs.Answered.{map_filter, apart_kept}
use Rattle.call_cell.proofs.Joined.{map_map, map_by, apart_map}
use Rattle.call_cell.proofs.PrepareSteps.{same_holder, none_before, any_false, any_true, Came, leg_stays, leg_begins}

-- Lists.

filter_case : {X : Type 0} (p q : X → Bool) (x : X) (xs : List X) → q x ≡ p x → filter q xs ≡ filter p xs
    → cond (q x) (x ∷ filter q xs) (filter q xs) ≡ cond (p x) (x ∷ filter p xs) (filter p xs)
filter_case {X} p q x xs same rest =
    ap (λ (b : Bool). cond b (x ∷ filter q xs) (filter q xs)) same ∙ ap (λ (l : List X). cond (p x) (x ∷ l) l) rest

pub filter_by : {X : Type 0} (p q : X → Bool) (xs : List X) → ((x : X) → In x xs → q x ≡ p x) → filter q xs ≡ filter p xs
filter_by p q [] same = refl
filter_by p q (x ∷ xs) same = filter_case p q x xs (same x (here refl)) (filter_by p q xs (λ y i. same y (there i)))

tail_pairs : {X : Type 0} (R : X → X → Type 0) (x : X) (xs : List X) → AllPairs R (x ∷ xs) → AllPairs R xs
tail_pairs R x xs pairs = λ i j d less below. pairs (suc i) (suc j) d (omega (arith, less)) (omega (arith, below))

head_pairs : {X : Type 0} (R : X → X → Type 0) (x : X) (xs : List X) → AllPairs R (x ∷ xs) → (y : X) → In y xs → R x y
head_pairs {X} R x xs pairs y i =
    let a = in_at xs i in
    subst (λ (z : X). R x z) (a.is x) (pairs zero (suc a.at) x (omega arith) (omega (arith, a.below)))

pairs_append : {X : Type 0} (R : X → X → Type 0) (xs ys : List X) → AllPairs R xs → AllPairs R ys → ((x y : X) → In x xs → In y ys → R x y) → AllPairs R (xs ++ ys)
pairs_append R [] ys one two both = two
pairs_append {X} R (x ∷ xs) ys one two both =
    AllPairs-cons R x (xs ++ ys)
    (λ k d below. elim (in_append xs ys (at_in (xs ++ ys) k d below)) [
      | inl i ↦ head_pairs R x xs one (get_or (xs ++ ys) k d) i
      | inr i ↦ both x (get_or (xs ++ ys) k d) (here refl) i
    ])
    (pairs_append R xs ys (tail_pairs R x xs one) two (λ a b i j. both a b (there i) j))

-- Ends and leases.

put_parts : {O : Type 0} (t : Suite) (box : Box (Option Outbound) Global) (leg : Leg O) → parts_of (with_sending leg (with_contexts t box leg.sending)) ≡ parts_of leg
put_parts Tag80 box leg = refl
put_parts Tag32 box leg = refl

if_parts : {O : Type 0} (key : PreparedKey) (leg : Leg O) (b : Bool) → parts_of (cond b (with_key key leg) leg) ≡ parts_of leg
if_parts key leg true = put_parts key.suite key.contexts leg
if_parts key leg false = refl

keys_parts : {O : Type 0} (keys : List PreparedKey) (leg : Leg O) → parts_of (with_keys keys leg) ≡ parts_of leg
keys_parts [] leg = refl
keys_parts (key ∷ keys) leg = if_parts key (with_keys keys leg) (is_key_at key (with_keys keys leg)) ∙ keys_parts keys leg

-- The legs.

pub record Offered {O : Type 0} (config : Config) (m call : ℕ) (signal : prepared.Prepare O) (keys : List NewKey) (dropped : List ℕ) (h : List CellEntry)
    (old new : List (Leg O)) (gone : List (Lease × O × O)) : Type 0 where
  pub legs_for : LegsStandFor config (prepare_entry m call (added signal) keys dropped ∷ h) new
  pub went : gone ≡ filter_map (λ (leg : Leg O). parts_of leg) (filter (λ (leg : Leg O). has dropped leg.holder.section) old)
  pub stay : map (λ (leg : Leg O). parts_of leg) new
      ≡ map (λ (leg : Leg O). parts_of leg) (filter (λ (leg : Leg O). not (has dropped leg.holder.section)) old)
      ++ map (λ (leg : Leg O). parts_of leg) signal.legs.items

pub offered : {O : Type 0} (config : Config) (m call : ℕ) (signal : prepared.Prepare O) (keys : List NewKey) (dropped : List ℕ) (h : List CellEntry)
    (old kept joined new : List (Leg O)) (before after : List (Lease × O × O)) → LegsStandFor config h old
    → ((number : ℕ) → key_numbered h number ≡ None → protected h number ≡ []) → PrepareFor signal keys dropped → CanCome config h signal call keys dropped
    → before ≡ [] → Part signal.dropped old kept before after → joined ≡ kept ++ signal.legs.items
    → (AreApart joined → new ≡ map (λ (leg : Leg O). with_keys signal.keys.items leg) joined)
    → Offered config m call signal keys dropped h old new after
offered {O} config m call signal keys dropped h old kept joined new before after for unnoted prep can empty part joins puts =
    let e = prepare_entry m call (added signal) keys dropped in
    let room : length before + length old ≤ 16
    = subst (λ (l : List (Lease × O × O)). length l + length old ≤ 16) (sym empty) (omega (arith, few config h old for)) in
    let parts : Leg O → Option (Lease × O × O) = λ (leg : Leg O). parts_of leg in
    let holder : Leg O → Holder = λ (leg : Leg O). leg.holder in
    let drop : Leg O → Bool = λ (leg : Leg O). has dropped leg.holder.section in
    let keep : Leg O → Bool = λ (leg : Leg O). not (has dropped leg.holder.section) in
    let flags_are : (leg : Leg O) → In leg old → goes signal.dropped leg ≡ drop leg
    = λ leg i. prep.drops leg.holder.section (each_in config h old leg for i).section in
    let kept_is : kept ≡ filter keep old = (part room).0 ∙ filter_by keep (λ (leg : Leg O). stays signal.dropped leg) old (λ leg i. ap not (flags_are leg i)) in
    let in_old : (leg : Leg O) → In leg kept → In leg old × (keep leg ≡ true)
    = λ leg i. filtered keep old (subst (λ (l : List (Leg O)). In leg l) kept_is i) in
    let is_leg : (leg : Leg O) → In leg old → In leg.holder (legs h)
    = λ leg i. subst (λ (l : List Holder). In leg.holder l) for.holders (maps holder old i) in
    let is_added : (leg : Leg O) → In leg signal.legs.items → In leg.holder (added signal) = λ leg i. maps holder signal.legs.items i in
    let apart : AreApart joined
    = subst (λ (l : List (Leg O)). AreApart l) (sym joins)
    (apart_of (kept ++ signal.legs.items) (pairs_append (λ (a b : Leg O). Apart a b) kept signal.legs.items
    (pairs_of kept (subst (λ (l : List (Leg O)). AreApart l) (sym kept_is) (apart_kept keep old for.apart)))
    (λ i j d less below. new_pair can.differ i j d less below)
    (λ x y i j. record {
      lease = λ same. can.new_lease y.holder x.holder (is_added y j) (is_leg x (in_old x i).0) same;
      place = λ section side. can.free_place y.holder x.holder (is_added y j) (is_leg x (in_old x i).0) (not_kept (has dropped x.holder.section) (in_old x i).1) section side;
    }))) in
    let f : Leg O → Leg O = λ (leg : Leg O). with_keys signal.keys.items leg in
    let new_is : new ≡ map f joined = puts apart in
    let came : Came config m call (added signal) signal.keys.items keys dropped h = record {
      zip = prep.keys_are;
      new_number = can.new_number;
      numbers_differ = can.numbers_differ;
      unnoted = unnoted;
    } in
    let kept_leg : (leg : Leg O) → In leg kept → LegStandsFor config (e ∷ h) (f leg) = λ leg i.
    let o = in_old leg i in
    leg_stays config m call (added signal) signal.keys.items keys dropped h came leg
    (any_false (same_leg leg.holder) (added signal) (λ x j same. can.new_lease x leg.holder j (is_leg leg o.0) same))
    (can.one_each leg.holder (in_left (filter (λ (x : Holder). not (has dropped x.section)) (legs h)) (added signal)
    (keeps (λ (x : Holder). not (has dropped x.section)) (legs h) (is_leg leg o.0) o.1)))
    (each_in config h old leg for o.0) in
    let new_leg : (leg : Leg O) → In leg signal.legs.items → LegStandsFor config (e ∷ h) (f leg) = λ leg i.
    leg_begins config m call (added signal) signal.keys.items keys dropped h came leg
    (any_true (same_leg leg.holder) leg.holder (added signal) (is_added leg i) (same_itself leg.holder))
    (can.one_each leg.holder (in_right (filter (λ (x : Holder). not (has dropped x.section)) (legs h)) (added signal) (is_added leg i)))
    (can.sections leg i) (can.families leg i) (can.ports leg i) (prep.fresh leg i) in
    let each_joined : (leg : Leg O) → In leg joined → LegStandsFor config (e ∷ h) (f leg) = λ leg i.
    elim (in_append kept signal.legs.items (subst (λ (l : List (Leg O)). In leg l) joins i)) [
      | inl one ↦ kept_leg leg one
      | inr two ↦ new_leg leg two
    ] in
    let P : List (Leg O) → Type 0 = λ (l : List (Leg O)). LegsStandFor config (e ∷ h) l in
    record {
      legs_for = subst P (sym new_is) (record {
        holders = map_map holder f joined ∙ map_by (λ (leg : Leg O). (f leg).holder) holder (λ leg. same_holder signal.keys.items leg) joined
            ∙ ap (λ (l : List (Leg O)). map holder l) joins ∙ map-append holder kept signal.legs.items
            ∙ ap (λ (l : List (Leg O)). map holder l ++ added signal) kept_is
            ∙ ap (λ (l : List Holder). l ++ added signal) (map_filter holder (λ (x : Holder). not (has dropped x.section)) old
            ∙ ap (λ (l : List Holder). filter (λ (x : Holder). not (has dropped x.section)) l) for.holders);
        apart = apart_map f joined (λ leg. same_holder signal.keys.items leg) apart;
        each = λ i d below.
            let m = mapped f joined (at_in (map f joined) i d below) in
            subst (λ (l : Leg O). LegStandsFor config (e ∷ h) l) m.makes (each_joined m.from m.is_in);
      });
      went = (part room).1 ∙ ap (λ (l : List (Lease × O × O)). l ++ filter_map parts (filter (λ (leg : Leg O). goes signal.dropped leg) old)) empty
          ∙ ap (λ (l : List (Leg O)). filter_map parts l) (filter_by drop (λ (leg : Leg O). goes signal.dropped leg) old flags_are);
      stay = ap (λ (l : List (Leg O)). map parts l) new_is ∙ map_map parts f joined
          ∙ map_by (λ (leg : Leg O). parts_of (f leg)) parts (λ leg. keys_parts signal.keys.items leg) joined
          ∙ ap (λ (l : List (Leg O)). map parts l) joins ∙ map-append parts kept signal.legs.items
          ∙ ap (λ (l : List (Leg O)). map parts l ++ map parts signal.legs.items) kept_is;
    }
  where
    not_kept : (b : Bool) → not b ≡ true → b ≡ false
    not_kept true q = absurd (let x = q in cc)
    not_kept false q = refl

    new_pair : AllPairs AreTwo (map (λ (leg : Leg O). leg.holder) signal.legs.items) → (i j : ℕ) (d : Leg O) → i < j → j < length signal.legs.items
        → Apart (get_or signal.legs.items i d) (get_or signal.legs.items j d)
    new_pair pairs i j d less below =
        let g : Leg O → Holder = λ (leg : Leg O). leg.holder in
        let xs = signal.legs.items in
        let two = pairs i j d.holder less (omega (arith, below, length-map xs g)) in
        let one_is = get_or-map g xs i d d.holder (omega (arith, less, below)) in
        let two_is = get_or-map g xs j d d.holder below in
        let it = subst (λ (x : Holder). AreTwo x (get_or xs j d).holder) one_is (subst (λ (x : Holder). AreTwo (get_or (map g xs) i d.holder) x) two_is two) in
        record { lease = it.lease; place = it.place }

-- The cell.

max_swap : (m n : ℕ) → max m n ≡ max n m
max_swap m n = omega arith

max_again : (m n : ℕ) → max m n ≡ max (max n m) m
max_again m n = omega arith

final_some : {X : Type 0} (x : X) (xs : List X) → (y : X) × (final (x ∷ xs) ≡ Some y)
final_some x [] = (x, refl)
final_some x (z ∷ zs) = final_some z zs

final_or : {X : Type 0} (x : X) (xs : List X) → final (x ∷ xs) ≡ or_else (final xs) (Some x)
final_or x [] = refl
final_or {X} x (y ∷ ys) =
    let f = final_some y ys in
    f.1 ∙ sym (ap (λ (o : Option X). or_else o (Some x)) f.1)

some_final : {X : Type 0} (x : X) (xs : List X) → is_some (final (x ∷ xs)) ≡ true
some_final {X} x xs = ap (λ (o : Option X). is_some o) (final_some x xs).1

both_case : {X Y : Type 0} (x : X) (xs : List X) (ys : List Y) (o : Option Y) → is_some (final ys) ≡ is_some (final xs)
    → is_some (final (cons_option o ys)) ≡ is_some (final (cond (is_some o) (x ∷ xs) xs))
both_case x xs ys None rest = rest
both_case x xs ys (Some y) rest = some_final y ys ∙ sym (some_final x xs)

pub both_final : {X Y : Type 0} (f : X → Option Y) (xs : List X) → is_some (final (filter_map f xs)) ≡ is_some (final (filter (λ (x : X). is_some (f x)) xs))
both_final f [] = refl
both_final {X} f (x ∷ xs) = both_case x (filter (λ (y : X). is_some (f y)) xs) (filter_map f xs) (f x) (both_final f xs)

began_case : (o : Option CellEntry) (e : CellEntry) (before now : ℕ) → e.moment ≡ now → WasAt o before → WasAt (or_else o (Some e)) (if is_some o then before else now)
began_case None e before now is was = is
began_case (Some x) e before now is was = was

pub cell_prepares : {O : Type 0} (config : Config) (old new : Cell O) (h : List CellEntry) (signal : prepared.Prepare O) (number : ℕ) (keys : List NewKey)
    (dropped : List ℕ) (now : ℕ) (gone : List (Lease × O × O)) → CellFor config old h → new.config ≡ old.config → new.moment ≡ max old.moment now
    → new.call ≡ or_else old.call (Some number) → new.began ≡ (if is_some old.call then old.began else new.moment)
    → new.is_committed ≡ old.is_committed → new.active ≡ old.active
    → ((m : ℕ) → Offered config m number signal keys dropped (since_end h) old.legs.items new.legs.items gone)
    → CellPrepares config old new h signal number keys dropped now gone
cell_prepares {O} config old new h signal number keys dropped now gone for same_config moment held began committed active legs_do =
    let e = prepared_at h signal number keys dropped now in
    let s = since_end h in
    let F = filter (λ (x : CellEntry). is_some (prepared_call x)) s in
    let last : new.moment ≡ cell_last_moment (e ∷ h) = moment ∙ ap (λ (m : ℕ). max m now) for.moment ∙ max_again (cell_last_moment h) now in
    let now_is : e.moment ≡ new.moment = max_swap now (cell_last_moment h) ∙ sym (moment ∙ ap (λ (m : ℕ). max m now) for.moment) in
    let did = legs_do e.moment in
    let some_is : is_some old.call ≡ is_some (final F) = ap (λ (o : Option ℕ). is_some o) for.call_is ∙ both_final prepared_call s in
    let began_is : new.began ≡ (if is_some (final F) then old.began else new.moment)
    = began ∙ ap (λ (b : Bool). if b then old.began else new.moment) some_is in
    record {
      fits = tt;
      stands = record {
        config_is = same_config ∙ for.config_is;
        moment = last;
        call_is = held ∙ ap (λ (o : Option ℕ). or_else o (Some number)) for.call_is ∙ sym (final_or number (filter_map prepared_call s));
        began = subst (λ (o : Option CellEntry). WasAt o new.began) (sym (final_or e F))
            (subst (λ (m : ℕ). WasAt (or_else (final F) (Some e)) m) (sym began_is) (began_case (final F) e old.began new.moment now_is for.began));
        is_committed = committed ∙ for.is_committed;
        active = subst (λ (m : ℕ). WasAt (first (filter (λ (x : CellEntry). is_activity x.event) s)) m) (sym active) for.active;
        unnoted = λ n q. for.unnoted n (none_before n keys (keys_in s) q);
        legs_for = did.legs_for;
      };
      went = did.went;
      stay = did.stay;
    }
