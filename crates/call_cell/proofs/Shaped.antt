-- What the calls of a cell make of its shape.
use Rattle.std.proofs.Common.{◌≡◌, refl, ap, subst, sym, ◌∙◌, ℕ, zero, suc, ◌<◌, ◌≤◌, ◌+◌, Bool, true, false, cond, not, List, [], ◌∷◌, ◌++◌, map, filter, length, Option, Some, None, Box, Global, get_or, set, arith, append-nil}
use Rattle.std.specs.Prelude.{◌||◌, is_some, position}
use Rattle.std.specs.List.{AllZip, list_any, filter_map}
use Rattle.std.proofs.lemmas.List.{length-map, map-append}
use Rattle.std.proofs.lemmas.List.Quantifiers.{position-Some}
use Rattle.std.proofs.Math.Seq.{map-set_same}
use Rattle.sdes_lines.specs.declared.crypto_line.Suite.{Suite}
use Rattle.sdes_lines.specs.declared.crypto_line.Suite.TheVariants.{Tag80, Tag32}
use Rattle.relay_outside.specs.declared.settings.Config.{Config}
use Rattle.histories.specs.Words.{In, here, there}
use Rattle.histories.proofs.Lists.{maps, mapped}
use Rattle.port_pool.specs.declared.pairs.Lease.{Lease}
use Rattle.port_pool.specs.declared.holder.Holder.{Holder}
use Rattle.port_pool.specs.declared.holder.Side.{Side}
use Rattle.port_pool.specs.declared.signal.LegSignal.{LegSignal}
use Rattle.port_pool.specs.declared.signal.SectionSignal.{SectionSignal}
use Rattle.port_pool.specs.Signals.{NewKey, is_rejected}
use Rattle.srtp_sources.proofs.Knowing.{any-position}
use Rattle.call_cell.specs.declared.contexts.Outbound.{Outbound}
use Rattle.call_cell.specs.declared.sender.Sending.{Sending}
use Rattle.call_cell.specs.declared.counts.Counts.{Counts}
use Rattle.call_cell.specs.declared.leg.Leg.{Leg}
use Rattle.call_cell.specs.declared.cell.Cell.{Cell}
use Rattle.call_cell.specs.declared.prepare.PreparedKey.{PreparedKey}
use Rattle.call_cell.specs.Cells.{CellEntry, since_end}
use Rattle.call_cell.specs.Parts.{SameNumbers, key_number_in}
use Rattle.call_cell.specs.LegHistories.{with_sending}
use Rattle.call_cell.specs.CellHistories.{CellFor}
use Rattle.call_cell.specs.CellEnds.{parts_of}
use Rattle.call_cell.specs.DroppedLegs.{FlagsAre, goes, stays, Part}
use Rattle.call_cell.specs.Commits.{LegCommitsBy, LegsCommit, said_of}
use Rattle.call_cell.specs.Preparations.{IsPrepared, IsOutboundAnew, is_key_at, with_contexts}
use Rattle.call_cell.specs.Shapes.{CellLegShape, IsSmall, LegsGo, cell_leg_shape, cell_leg_shapes, ends_of_legs, counts_of_legs, with_key_number, key_number_at, with_key_numbers, with_prepared, answered_leg}
use Rattle.call_cell.proofs.Answered.{Pairwise, pairwise, kept_both, map_filter, picked_made}
use Rattle.call_cell.proofs.Joined.{map_map}
use Rattle.call_cell.proofs.Ended.{filter_none, filter_whole}
use Rattle.call_cell.proofs.Few.{few, each_in}

-- A leg that sent.

pub same_shape : {O : Type 0} (old : Leg O) (new : Sending O) → is_some new.ends ≡ is_some old.sending.ends → SameNumbers old.sending new
    → cell_leg_shape (with_sending old new) ≡ cell_leg_shape old
same_shape {O} old new ends numbers =
    let s = cell_leg_shape old in
    ap (λ (b : Bool). record { holder = s.holder; lease = s.lease; has_ends = b; is_committed = s.is_committed; tag80 = (cell_leg_shape (with_sending old new)).tag80; tag32 = (cell_leg_shape (with_sending old new)).tag32 }) ends
    ∙ ap (λ (n : Option ℕ). record { holder = s.holder; lease = s.lease; has_ends = s.has_ends; is_committed = s.is_committed; tag80 = n; tag32 = (cell_leg_shape (with_sending old new)).tag32 }) numbers.tag80
    ∙ ap (λ (n : Option ℕ). record { holder = s.holder; lease = s.lease; has_ends = s.has_ends; is_committed = s.is_committed; tag80 = s.tag80; tag32 = n }) numbers.tag32

pub shapes_set : {O : Type 0} (those : List (Leg O)) (i : ℕ) (new x : Leg O) → cell_leg_shape new ≡ cell_leg_shape (get_or those i x)
    → cell_leg_shapes (set those i new) ≡ cell_leg_shapes those
shapes_set {O} those i new x same = map-set_same (λ (leg : Leg O). cell_leg_shape leg) those i new x same

-- Keys.

put_shape : {O : Type 0} (s : Suite) (box : Box (Option Outbound) Global) (leg : Leg O)
    → cell_leg_shape (with_sending leg (with_contexts s box leg.sending)) ≡ with_key_number s (key_number_in box.value) (cell_leg_shape leg)
put_shape Tag80 box leg = refl
put_shape Tag32 box leg = refl

abbrev put_one : PreparedKey → List CellLegShape → List CellLegShape
put_one key legs = key_number_at key.section key.side key.suite (key_number_in key.contexts.value) legs

put_first : {O : Type 0} (key : PreparedKey) (those : List (Leg O)) (i : ℕ) (d new : Leg O) → i < length those → is_key_at key (get_or those i d) ≡ true
    → ((k : ℕ) → k < i → is_key_at key (get_or those k d) ≡ false)
    → cell_leg_shape new ≡ with_key_number key.suite (key_number_in key.contexts.value) (cell_leg_shape (get_or those i d))
    → cell_leg_shapes (set those i new) ≡ put_one key (cell_leg_shapes those)
put_first key [] i d new below at none is = absurd (omega (arith, below))
put_first {O} key (leg ∷ those) zero d new below at none is =
    let n = key_number_in key.contexts.value in
    ap (λ (s : CellLegShape). s ∷ cell_leg_shapes those) is
    ∙ sym (ap (λ (b : Bool). cond b (with_key_number key.suite n (cell_leg_shape leg) ∷ cell_leg_shapes those) (cell_leg_shape leg ∷ put_one key (cell_leg_shapes those))) at)
put_first {O} key (leg ∷ those) (suc i) d new below at none is =
    let n = key_number_in key.contexts.value in
    ap (λ (l : List CellLegShape). cell_leg_shape leg ∷ l) (put_first key those i d new (omega (arith, below)) at (λ k less. none (suc k) (omega (arith, less))) is)
    ∙ sym (ap (λ (b : Bool). cond b (with_key_number key.suite n (cell_leg_shape leg) ∷ cell_leg_shapes those) (cell_leg_shape leg ∷ put_one key (cell_leg_shapes those))) (none zero (omega arith)))

pub shape_put : {O : Type 0} (key : PreparedKey) (those : List (Leg O)) (at : ℕ) (x new : Leg O) → position (λ (leg : Leg O). is_key_at key leg) those ≡ Some at
    → new ≡ with_sending (get_or those at x) (with_contexts key.suite key.contexts (get_or those at x).sending)
    → cell_leg_shapes (set those at new) ≡ put_one key (cell_leg_shapes those)
shape_put {O} key those at x new is new_is =
    let f = position-Some (λ (leg : Leg O). is_key_at key leg) those at x is in
    put_first key those at x new f.0 f.1 f.2 (ap (λ (leg : Leg O). cell_leg_shape leg) new_is ∙ put_shape key.suite key.contexts (get_or those at x))

or_one : (a b : Bool) → (a || b) ≡ false → a ≡ false
or_one true b q = absurd (let f = q in cc)
or_one false b q = refl

or_two : (a b : Bool) → (a || b) ≡ false → b ≡ false
or_two true b q = absurd (let f = q in cc)
or_two false b q = q

put_none : {O : Type 0} (key : PreparedKey) (those : List (Leg O)) → list_any (λ (leg : Leg O). is_key_at key leg) those ≡ false
    → cell_leg_shapes those ≡ put_one key (cell_leg_shapes those)
put_none key [] q = refl
put_none {O} key (leg ∷ those) q =
    let n = key_number_in key.contexts.value in
    let any = list_any (λ (l : Leg O). is_key_at key l) those in
    ap (λ (l : List CellLegShape). cell_leg_shape leg ∷ l) (put_none key those (or_two (is_key_at key leg) any q))
    ∙ sym (ap (λ (b : Bool). cond b (with_key_number key.suite n (cell_leg_shape leg) ∷ cell_leg_shapes those) (cell_leg_shape leg ∷ put_one key (cell_leg_shapes those))) (or_one (is_key_at key leg) any q))

pub shape_nowhere : {O : Type 0} (key : PreparedKey) (those : List (Leg O)) → position (λ (leg : Leg O). is_key_at key leg) those ≡ None
    → cell_leg_shapes those ≡ put_one key (cell_leg_shapes those)
shape_nowhere {O} key those none =
    put_none key those (any-position (λ (leg : Leg O). is_key_at key leg) those ∙ ap (λ (o : Option ℕ). is_some o) none)

prepared_more : (keys : List PreparedKey) (key : PreparedKey) (legs : List CellLegShape) → with_prepared (keys ++ key ∷ []) legs ≡ with_prepared keys (put_one key legs)
prepared_more [] key legs = refl
prepared_more (k ∷ keys) key legs = ap (put_one k) (prepared_more keys key legs)

-- the last of the keys was put
pub shape_one : {O : Type 0} (all keys rest : List PreparedKey) (key : PreparedKey) (first old new : List (Leg O)) → keys ≡ rest ++ key ∷ []
    → with_prepared keys (cell_leg_shapes old) ≡ with_prepared all (cell_leg_shapes first) → cell_leg_shapes new ≡ put_one key (cell_leg_shapes old)
    → with_prepared rest (cell_leg_shapes new) ≡ with_prepared all (cell_leg_shapes first)
shape_one all keys rest key first old new is before does =
    ap (with_prepared rest) does ∙ sym (prepared_more rest key (cell_leg_shapes old)) ∙ sym (ap (λ (l : List PreparedKey). with_prepared l (cell_leg_shapes old)) is) ∙ before

pub shape_all : {O : Type 0} (all keys : List PreparedKey) (first old : List (Leg O)) → keys ≡ []
    → with_prepared keys (cell_leg_shapes old) ≡ with_prepared all (cell_leg_shapes first) → cell_leg_shapes old ≡ with_prepared all (cell_leg_shapes first)
shape_all all keys first old none is = sym (ap (λ (l : List PreparedKey). with_prepared l (cell_leg_shapes old)) none) ∙ is

anew_number : (key : NewKey) (o : Option Outbound) → IsOutboundAnew key o → key_number_in o ≡ Some key.number
anew_number key None is = absurd is
anew_number key (Some contexts) is = ap Some is.number

pub prepared_are : (those : List PreparedKey) (keys : List NewKey) (legs : List CellLegShape) → AllZip IsPrepared those keys → with_prepared those legs ≡ with_key_numbers keys legs
prepared_are [] [] legs zip = refl
prepared_are [] (k ∷ keys) legs zip = absurd zip
prepared_are (p ∷ those) [] legs zip = absurd zip
prepared_are (p ∷ those) (k ∷ keys) legs zip =
    let n = key_number_in p.contexts.value in
    let rest = with_prepared those legs in
    ap (λ (x : ℕ). key_number_at x p.side p.suite n rest) zip.0.section
    ∙ ap (λ (x : Side). key_number_at k.section x p.suite n rest) zip.0.side
    ∙ ap (λ (x : Suite). key_number_at k.section k.side x n rest) zip.0.suite
    ∙ ap (λ (x : Option ℕ). key_number_at k.section k.side k.suite x rest) (anew_number k p.contexts.value zip.0.contexts)
    ∙ ap (key_number_at k.section k.side k.suite (Some k.number)) (prepared_are those keys legs zip.1)

-- An offer.

pub shapes_kept : {O : Type 0} (p : Holder → Bool) (those : List (Leg O))
    → cell_leg_shapes (filter (λ (leg : Leg O). p leg.holder) those) ≡ filter (λ (leg : CellLegShape). p leg.holder) (cell_leg_shapes those)
shapes_kept {O} p those = map_filter (λ (leg : Leg O). cell_leg_shape leg) (λ (leg : CellLegShape). p leg.holder) those

pub offered_legs : {O : Type 0} (flags : List Bool) (old kept came joined new : List (Leg O)) (those : List PreparedKey) (keys : List NewKey)
    → kept ≡ filter (λ (leg : Leg O). stays flags leg) old → joined ≡ kept ++ came → cell_leg_shapes new ≡ with_prepared those (cell_leg_shapes joined)
    → AllZip IsPrepared those keys
    → cell_leg_shapes new ≡ with_key_numbers keys (filter (λ (leg : CellLegShape). not (get_or flags leg.holder.section false)) (cell_leg_shapes old) ++ cell_leg_shapes came)
offered_legs {O} flags old kept came joined new those keys stay joins puts zip =
    let joined_are : cell_leg_shapes joined ≡ filter (λ (leg : CellLegShape). not (get_or flags leg.holder.section false)) (cell_leg_shapes old) ++ cell_leg_shapes came
    = ap cell_leg_shapes joins ∙ map-append (λ (leg : Leg O). cell_leg_shape leg) kept came
    ∙ ap (λ (l : List (Leg O)). cell_leg_shapes l ++ cell_leg_shapes came) stay
    ∙ ap (λ (l : List CellLegShape). l ++ cell_leg_shapes came) (shapes_kept (λ (h : Holder). not (get_or flags h.section false)) old) in
    puts ∙ ap (with_prepared those) joined_are ∙ prepared_are those keys _ zip

put_ends : {O : Type 0} (those : List (Leg O)) (at : ℕ) (x new : Leg O) → new.sending.ends ≡ (get_or those at x).sending.ends
    → ends_of_legs (set those at new) ≡ ends_of_legs those
put_ends {O} those at x new same = map-set_same (λ (leg : Leg O). leg.sending.ends) those at new x same

with_ends : {O : Type 0} (s : Suite) (box : Box (Option Outbound) Global) (leg : Leg O) → (with_sending leg (with_contexts s box leg.sending)).sending.ends ≡ leg.sending.ends
with_ends Tag80 box leg = refl
with_ends Tag32 box leg = refl

pub ends_put : {O : Type 0} (key : PreparedKey) (those : List (Leg O)) (at : ℕ) (x new : Leg O)
    → new ≡ with_sending (get_or those at x) (with_contexts key.suite key.contexts (get_or those at x).sending) → ends_of_legs (set those at new) ≡ ends_of_legs those
ends_put {O} key those at x new is =
    put_ends those at x new (ap (λ (leg : Leg O). leg.sending.ends) is ∙ with_ends key.suite key.contexts (get_or those at x))

pub counts_put : {O : Type 0} (key : PreparedKey) (those : List (Leg O)) (at : ℕ) (x new : Leg O)
    → new ≡ with_sending (get_or those at x) (with_contexts key.suite key.contexts (get_or those at x).sending) → counts_of_legs (set those at new) ≡ counts_of_legs those
counts_put {O} key those at x new is =
    map-set_same (λ (leg : Leg O). leg.counts) those at new x (ap (λ (leg : Leg O). leg.counts) is)

pub offered_go : {O : Type 0} (flags : List Bool) (old kept came joined new : List (Leg O)) (before after : List (Lease × O × O)) → before ≡ [] → length old ≤ 16
    → Part flags old kept before after → joined ≡ kept ++ came → ends_of_legs new ≡ ends_of_legs joined → counts_of_legs new ≡ counts_of_legs joined
    → LegsGo (λ leg. get_or flags leg.section false) came old new after
offered_go {O} flags old kept came joined new before after empty few part joins puts counted =
    let room : length before + length old ≤ 16 = subst (λ (l : List (Lease × O × O)). length l + length old ≤ 16) (sym empty) (omega (arith, few)) in
    let parts = part room in
    record {
      went = parts.1 ∙ ap (λ (l : List (Lease × O × O)). l ++ filter_map (λ (leg : Leg O). parts_of leg) (filter (λ (leg : Leg O). goes flags leg) old)) empty;
      ends = puts ∙ ap ends_of_legs joins ∙ map-append (λ (leg : Leg O). leg.sending.ends) kept came
          ∙ ap (λ (l : List (Leg O)). ends_of_legs l ++ ends_of_legs came) parts.0;
      counts = counted ∙ ap counts_of_legs joins ∙ map-append (λ (leg : Leg O). leg.counts) kept came
          ∙ ap (λ (l : List (Leg O)). counts_of_legs l ++ counts_of_legs came) parts.0;
    }

-- An answer.

record Shows {O : Type 0} (signal : List SectionSignal) (flags : List Bool) (a b : Leg O) : Type 0 where
  pub flag : goes flags b ≡ is_rejected signal a.holder.section
  pub shape : cell_leg_shape b ≡ answered_leg signal (cell_leg_shape a)
  pub parts : parts_of b ≡ parts_of a
  pub ends : b.sending.ends ≡ a.sending.ends
  pub counts : b.counts ≡ a.counts

answered_by : {O : Type 0} (signal : List SectionSignal) (a b : Leg O) (o : Option LegSignal) → said_of signal a.holder ≡ o → LegCommitsBy o a b
    → cell_leg_shape b ≡ answered_leg signal (cell_leg_shape a)
answered_by {O} signal a b None is does =
    ap (λ (leg : Leg O). cell_leg_shape leg) does
    ∙ sym (ap (λ (o : Option LegSignal). record (cell_leg_shape a) { is_committed = is_some o || is_some a.signal }) is)
answered_by {O} signal a b (Some s) is does =
    ap (λ (leg : Leg O). cell_leg_shape leg) does.rest
    ∙ sym (ap (λ (o : Option LegSignal). record (cell_leg_shape a) { is_committed = is_some o || is_some a.signal }) is)

same_by : {O : Type 0} {X : Type 0} (f : Leg O → X) (said : Option LegSignal) (a b : Leg O)
    → ((s : LegSignal) → LegCommitsBy (Some s) a b → f b ≡ f a) → LegCommitsBy said a b → f b ≡ f a
same_by f None a b by does = ap f does
same_by f (Some s) a b by does = by s does

shows : {O : Type 0} (signal : List SectionSignal) (flags : List Bool) (a b : Leg O) → FlagsAre flags (is_rejected signal) → a.holder.section < 8
    → LegCommitsBy (said_of signal a.holder) a b → Shows signal flags a b
shows {O} signal flags a b are small does =
    let holder : b.holder ≡ a.holder = same_by (λ (l : Leg O). l.holder) (said_of signal a.holder) a b (λ s d. ap (λ (l : Leg O). l.holder) d.rest) does in
    record {
      flag = ap (λ (x : Holder). get_or flags x.section false) holder ∙ are a.holder.section small;
      shape = answered_by signal a b (said_of signal a.holder) refl does;
      parts = same_by (λ (l : Leg O). parts_of l) (said_of signal a.holder) a b (λ s d. ap (λ (l : Leg O). parts_of l) d.rest) does;
      ends = same_by (λ (l : Leg O). l.sending.ends) (said_of signal a.holder) a b (λ s d. ap (λ (l : Leg O). l.sending.ends) d.rest) does;
      counts = same_by (λ (l : Leg O). l.counts) (said_of signal a.holder) a b (λ s d. ap (λ (l : Leg O). l.counts) d.rest) does;
    }

pub small_in : {O : Type 0} (those : List (Leg O)) → IsSmall (cell_leg_shapes those) → (leg : Leg O) → In leg those → leg.holder.section < 8
small_in {O} those small leg i = small.sections (cell_leg_shape leg) (maps (λ (l : Leg O). cell_leg_shape l) those i)

pub few_in : {O : Type 0} (those : List (Leg O)) → IsSmall (cell_leg_shapes those) → length those ≤ 16
few_in {O} those small = let long = length-map those (λ (l : Leg O). cell_leg_shape l) in let few = small.few in omega (arith, long, few)

pub record ShapeAnswered {O : Type 0} (signal : List SectionSignal) (old new : List (Leg O)) (gone : List (Lease × O × O)) : Type 0 where
  pub legs : cell_leg_shapes new ≡ map (answered_leg signal) (filter (λ (leg : CellLegShape). not (is_rejected signal leg.holder.section)) (cell_leg_shapes old))
  pub go : LegsGo (λ leg. is_rejected signal leg.section) [] old new gone

pub shape_answered : {O : Type 0} (signal : List SectionSignal) (flags : List Bool) (old mid new : List (Leg O)) (before after : List (Lease × O × O))
    → IsSmall (cell_leg_shapes old) → length mid ≡ length old → LegsCommit signal old mid → FlagsAre flags (is_rejected signal) → before ≡ []
    → Part flags mid new before after → ShapeAnswered signal old new after
shape_answered {O} signal flags old mid new before after small long does are empty part =
    let few = few_in old small in
    let room : length before + length mid ≤ 16
    = subst (λ (l : List (Lease × O × O)). length l + length mid ≤ 16) (sym empty) (omega (arith, few, long)) in
    let R : Leg O → Leg O → Type 0 = λ (a b : Leg O). Shows signal flags a b in
    let stay_p : Leg O → Bool = λ (leg : Leg O). not (is_rejected signal leg.holder.section) in
    let stay_q : Leg O → Bool = λ (leg : Leg O). stays flags leg in
    let go_p : Leg O → Bool = λ (leg : Leg O). is_rejected signal leg.holder.section in
    let go_q : Leg O → Bool = λ (leg : Leg O). goes flags leg in
    let shape : Leg O → CellLegShape = λ (leg : Leg O). cell_leg_shape leg in
    let ends : Leg O → Option (O × O) = λ (leg : Leg O). leg.sending.ends in
    let counts : Leg O → Counts = λ (leg : Leg O). leg.counts in
    let parts : Leg O → Option (Lease × O × O) = λ (leg : Leg O). parts_of leg in
    let pairs : Pairwise R old mid = pairwise R old mid long
    (λ i d below. shows signal flags (get_or old i d) (get_or mid i d) are (small_in old small (get_or old i d) (at_in old i d below)) (does i d below)) in
    record {
      legs = ap cell_leg_shapes (part room).0
          ∙ kept_both R stay_p stay_q (λ (a : Leg O). answered_leg signal (shape a)) shape (λ a b r. (ap not r.flag, r.shape)) old mid pairs
          ∙ sym (map_map (answered_leg signal) shape (filter stay_p old))
          ∙ ap (map (answered_leg signal)) (shapes_kept (λ (h : Holder). not (is_rejected signal h.section)) old);
      go = record {
        went = (part room).1 ∙ ap (λ (l : List (Lease × O × O)). l ++ filter_map parts (filter go_q mid)) empty
            ∙ picked_made parts (filter go_q mid)
            ∙ ap (λ (l : List (Option (Lease × O × O))). filter_map (λ o. o) l) (kept_both R go_p go_q parts parts (λ a b r. (r.flag, r.parts)) old mid pairs)
            ∙ sym (picked_made parts (filter go_p old));
        ends = ap ends_of_legs (part room).0 ∙ kept_both R stay_p stay_q ends ends (λ a b r. (ap not r.flag, r.ends)) old mid pairs
            ∙ sym (append-nil (ends_of_legs (filter stay_p old)));
        counts = ap counts_of_legs (part room).0 ∙ kept_both R stay_p stay_q counts counts (λ a b r. (ap not r.flag, r.counts)) old mid pairs
            ∙ sym (append-nil (counts_of_legs (filter stay_p old)));
      };
    }
  where
    at_in : (xs : List (Leg O)) (n : ℕ) (y : Leg O) → n < length xs → In (get_or xs n y) xs
    at_in [] n y low = absurd (omega (arith, low))
    at_in (z ∷ xs) zero y low = here refl
    at_in (z ∷ xs) (suc n) y low = there (at_in xs n y (omega (arith, low)))

-- An end.

pub shape_ended : {O : Type 0} (flags : List Bool) (old new : List (Leg O)) (before after : List (Lease × O × O)) → IsSmall (cell_leg_shapes old)
    → ((section : ℕ) → section < 8 → get_or flags section false ≡ true) → before ≡ [] → Part flags old new before after
    → (new ≡ []) × (after ≡ filter_map (λ (leg : Leg O). parts_of leg) old)
shape_ended {O} flags old new before after small flagged empty part =
    let few = few_in old small in
    let room : length before + length old ≤ 16
    = subst (λ (l : List (Lease × O × O)). length l + length old ≤ 16) (sym empty) (omega (arith, few)) in
    let gone : (leg : Leg O) → In leg old → goes flags leg ≡ true = λ leg i. flagged leg.holder.section (small_in old small leg i) in (
      (part room).0 ∙ filter_none (λ (leg : Leg O). stays flags leg) old (λ leg i. ap not (gone leg i)),
      (part room).1 ∙ ap (λ (l : List (Lease × O × O)). l ++ filter_map (λ (leg : Leg O). parts_of leg) (filter (λ (leg : Leg O). goes flags leg) old)) empty
          ∙ ap (λ (l : List (Leg O)). filter_map (λ (leg : Leg O). parts_of leg) l) (filter_whole (λ (leg : Leg O). goes flags leg) old gone),
    )

-- A cell that stands for a history.

pub is_small : {O : Type 0} (config : Config) (cell : Cell O) (h : List CellEntry) → CellFor config cell h → IsSmall (cell_leg_shapes cell.legs.items)
is_small {O} config cell h for =
    let long = length-map cell.legs.items (λ (l : Leg O). cell_leg_shape l) in
    let many = few config (since_end h) cell.legs.items for.legs_for in
    record {
      few = omega (arith, long, many);
      sections = λ leg i.
          let m = mapped (λ (l : Leg O). cell_leg_shape l) cell.legs.items i in
          subst (λ (s : CellLegShape). s.holder.section < 8) m.makes (each_in config (since_end h) cell.legs.items m.from for.legs_for m.is_in).section;
    }
