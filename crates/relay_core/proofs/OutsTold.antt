-- What the out ends of legs told when the legs went from their cells is what the histories of these cells say that they sent.
use Rattle.std.proofs.Common.{◌≡◌, ◌∙◌, sym, ap, subst, refl, ℕ, zero, suc, ◌<◌, ◌⊎◌, inl, inr, List, [], ◌∷◌, ◌++◌, Bool, true, false, cond, not, Option, Some, None, map, length, filter, arith, get_or, append-nil}
use Rattle.std.specs.Prelude.{IsSome}
use Rattle.std.specs.List.{AllZip, list_any, cons_option, filter_map}
use Rattle.std.proofs.lemmas.List.{get_or-map, map-append, length-map}
use Rattle.call_cell.specs.Cells.{keys_of}
use Rattle.call_cell.proofs.Placing.{same_itself}
use Rattle.call_cell.proofs.PrepareSteps.{any_false, any_true}
use Rattle.relay_outside.specs.declared.ports.OutCall.{OutCall}
use Rattle.relay_outside.specs.declared.ports.OutCall.TheVariants as out
use Rattle.relay_outside.specs.declared.address.Addr.{Addr}
use Rattle.relay_outside.specs.declared.settings.Config.{Config}
use Rattle.relay_outside.specs.DeviceLogs.{EndLog, EndGains, StartsEmpty, WhereLogged}
use Rattle.rtp_packet.specs.declared.head.Half.{Half}
use Rattle.rtp_packet.specs.declared.head.Half.TheVariants.{Rtp, Rtcp}
use Rattle.srtp_sources.specs.Notes.{is_half}
use Rattle.histories.specs.Words.{In, here, there, has}
use Rattle.histories.proofs.Lists.{in_right, in_append, filtered, maps}
use Rattle.port_pool.specs.declared.pairs.Lease.{Lease}
use Rattle.port_pool.specs.declared.holder.Holder.{Holder}
use Rattle.port_pool.specs.declared.signal.SectionSignal.{SectionSignal}
use Rattle.port_pool.specs.Signals.{same_leg, is_rejected, NewKey}
use Rattle.call_cell.specs.declared.leg.Leg.{Leg}
use Rattle.call_cell.specs.declared.sender.Sending as parts
use Rattle.call_cell.specs.declared.prepare.Prepare as prepared
use Rattle.call_cell.specs.declared.cell.Cell as cell
use Rattle.call_cell.specs.declared.outcome.Outcome.{Outcome}
use Rattle.call_cell.specs.Cells.{CellEvent, CellEntry, Sending, Receipt, Relayed, Prepare, Commit, Relay, Expire, Read, End, legs, since_end}
use Rattle.call_cell.specs.Deeds.{deed, found, opposite_of, is_leaving}
use Rattle.call_cell.specs.Parts.{end_of, other_half, SendsBy}
use Rattle.call_cell.specs.LegHistories.{EndsFor, LegsStandFor, sent_ok}
use Rattle.call_cell.specs.CellHistories.{CellFor, CellRelays, relayed_at}
use Rattle.call_cell.specs.Preparations.{added, CellPrepares}
use Rattle.call_cell.specs.Commits.{stays_by, CellCommits}
use Rattle.call_cell.specs.CellEnds.{parts_of, parts_with}
use Rattle.call_cell.proofs.EndsThere.{is_there, same_ends}
use Rattle.call_cell.proofs.Few.{in_at, pairs_of, each_in}
use Rattle.relay_core.specs.Records.{LegLeft}
use Rattle.relay_core.specs.Steps.{legs_left, IsOpened, AreOpened}
use Rattle.relay_core.specs.Entries.{Cell}
use Rattle.relay_core.specs.EndLogs.{is_parting, with_call, out_left, out_call_of, sends_since, legs_going, HasLogged}
use Rattle.relay_core.specs.Records.{Made}
use Rattle.relay_core.specs.Steps.{CellStepsBy, AreNew}
use Rattle.relay_core.proofs.Filling.{fill_cell}
use Rattle.relay_core.proofs.InsTold.{Grew, same_grew, gains_grew}

-- Lists.

-- where two lists agree in two ways, an element of the one has a partner in the other
pub record Partner {A B C : Type 0} (f : A → B) (g : A → C) (x : A) (ys : List A) : Type 0 where
  pub other : A
  pub is_in : In other ys
  pub one : f x ≡ f other
  pub two : g x ≡ g other

partner_more : {A B C : Type 0} (f : A → B) (g : A → C) {x : A} (y : A) (ys : List A) → Partner f g x ys → Partner f g x (y ∷ ys)
partner_more f g y ys p = record { other = p.other; is_in = there p.is_in; one = p.one; two = p.two }

head_same : {A : Type 0} (x y : A) (xs ys : List A) → x ∷ xs ≡ y ∷ ys → x ≡ y
head_same x y xs ys q = cc

tail_same : {A : Type 0} (x y : A) (xs ys : List A) → x ∷ xs ≡ y ∷ ys → xs ≡ ys
tail_same x y xs ys q = cc

pub partner : {A B C : Type 0} (f : A → B) (g : A → C) {x : A} (xs ys : List A) → map f xs ≡ map f ys → map g xs ≡ map g ys → In x xs → Partner f g x ys
partner f g [] ys p q i = absurd (elim i [ ])
partner f g (x ∷ xs) [] p q i = absurd (let k = p in cc)
partner f g (x ∷ xs) (y ∷ ys) p q (here e) =
    record { other = y; is_in = here refl; one = ap f e ∙ head_same (f x) (f y) (map f xs) (map f ys) p; two = ap g e ∙ head_same (g x) (g y) (map g xs) (map g ys) q }
partner f g (x ∷ xs) (y ∷ ys) p q (there i) =
    partner_more f g y ys
    (partner f g xs ys (tail_same (f x) (f y) (map f xs) (map f ys) p) (tail_same (g x) (g y) (map g xs) (map g ys) q) i)

pub filter_mapped : {A B : Type 0} (p : B → Bool) (f : A → B) (xs : List A) → filter p (map f xs) ≡ map f (filter (λ (x : A). p (f x)) xs)
filter_mapped p f [] = refl
filter_mapped {A} {B} p f (x ∷ xs) = by_case (p (f x)) (filter_mapped p f xs)
  where
    by_case : (t : Bool) → filter p (map f xs) ≡ map f (filter (λ (y : A). p (f y)) xs)
        → cond t (f x ∷ filter p (map f xs)) (filter p (map f xs)) ≡ map f (cond t (x ∷ filter (λ (y : A). p (f y)) xs) (filter (λ (y : A). p (f y)) xs))
    by_case true rest = ap (λ (ys : List B). f x ∷ ys) rest
    by_case false rest = rest

all_kept : {A : Type 0} (xs : List A) → filter (λ (x : A). true) xs ≡ xs
all_kept [] = refl
all_kept {A} (x ∷ xs) = ap (λ (ys : List A). x ∷ ys) (all_kept xs)

pub nothing_in : {A : Type 0} (xs : List A) → length xs ≡ 0 → xs ≡ []
nothing_in [] q = refl
nothing_in (x ∷ xs) q = absurd (omega (arith, q))

-- What is told.

pub where_told : {C : Type 0} (log : Option (List C)) (P : List C → Type 0) → ((calls : List C) → log ≡ Some calls → P calls) → WhereLogged log P
where_told None P each = tt
where_told (Some calls) P each = each calls refl

pub is_told : {C : Type 0} (log : Option (List C)) (P : List C → Type 0) (calls : List C) → WhereLogged log P → log ≡ Some calls → P calls
is_told (Some those) P calls holds q = subst P (let k : Some those ≡ Some calls = q in cc) holds
is_told None P calls holds q = absurd (let k : None ≡ Some calls = q in cc)

starts_empty : {C : Type 0} (log : Option (List C)) → StartsEmpty log → WhereLogged log (λ (calls : List C). calls ≡ [])
starts_empty None s = tt
starts_empty (Some calls) s = s

-- an end that told all calls, and told one more
grew_told : {C : Type 0} (before now : Option (List C)) (call : Option C) (all : List C) → WhereLogged before (λ (calls : List C). calls ≡ all) → Grew before now call
    → WhereLogged now (λ (calls : List C). calls ≡ with_call all call)
grew_told {C} before now call all log grew =
    where_told now (λ (calls : List C). calls ≡ with_call all call) (λ calls q.
    let g = grew calls q in
    g.2 ∙ ap (λ (cs : List C). with_call cs call) (is_told before (λ (cs : List C). cs ≡ all) g.0 log g.1))

-- Legs that are apart.

-- in two lists one after the other, of which no two elements are the same leg
split_apart : (ks ns : List Holder) → ((i j : ℕ) (d : Holder) → i < j → j < length (ks ++ ns) → same_leg (get_or (ks ++ ns) i d) (get_or (ks ++ ns) j d) ≡ true → ⊥)
    → {k n : Holder} → In k ks → In n ns → same_leg k n ≡ true → ⊥
split_apart [] ns apart i j q = elim i [ ]
split_apart (x ∷ ks) ns apart {k} {n} (here e) j q =
    let a = in_at (ks ++ ns) (in_right ks ns j) in
    apart 0 (suc a.at) n (omega arith) (let b = a.below in omega (arith, b))
    (subst (λ (h : Holder). same_leg x h ≡ true) (sym (a.is n)) (subst (λ (h : Holder). same_leg h n ≡ true) e q))
split_apart (x ∷ ks) ns apart (there i) j q =
    split_apart ks ns (λ a b d less below same. apart (suc a) (suc b) d (omega (arith, less)) (omega (arith, below)) same) i j q

module _ {O : Type 0} where
  abbrev pub holder_of : Leg O → Holder
  holder_of leg = leg.holder

  holders_apart : (config : Config) (h : List CellEntry) (those : List (Leg O)) → LegsStandFor config h those → (leg : Leg O) → (i j : ℕ) (d : Holder) → i < j → j < length (map holder_of those)
      → same_leg (get_or (map holder_of those) i d) (get_or (map holder_of those) j d) ≡ true → ⊥
  holders_apart config h those for leg i j d less below same =
      let long = length-map those holder_of in
      let b : j < length those = omega (arith, below, long) in
      let a : i < length those = omega (arith, b, less) in
      (pairs_of those for.apart i j leg less b).lease
      (subst (λ (x : Holder). same_leg x (get_or those j leg).holder ≡ true) (get_or-map holder_of those i leg d a)
      (subst (λ (x : Holder). same_leg (get_or (map holder_of those) i d) x ≡ true) (get_or-map holder_of those j leg d b) same))

module _ {O : Type 0} (log : O → EndLog OutCall) (faults : O → ℕ) where
  -- what the end of a half logged, where there are ends
  abbrev pub calls_by : Half → Option (O × O) → Option (List OutCall)
  calls_by half None = None
  calls_by half (Some ends) = (log (end_of half ends)).calls

  -- each leg's out ends told what was sent by them since the leg was added
  abbrev pub AreTold : List (Leg O) → List CellEntry → Type 0
  AreTold those h = (leg : Leg O) → In leg those → (half : Half) → WhereLogged (calls_by half leg.sending.ends) (λ calls. calls ≡ sends_since leg.holder half h)

  -- the leg that another is a form of has the same out ends
  pub end_told : (leg other : Leg O) → parts_of leg ≡ parts_of other → (half : Half) → calls_by half leg.sending.ends ≡ calls_by half other.sending.ends
  end_told leg other q half = ap (calls_by half) (same_ends leg other q)

  abbrev calls_of : O → Option (List OutCall)
  calls_of end = (log end).calls

  -- A relay.

  pair_grew : (half other : Half) (to : Addr) (bytes : List ℕ) (ok : Bool) (before after : O × O) → EndGains (log (end_of other before)) (log (end_of other after)) (out.Send to bytes ok)
      → end_of (other_half other) after ≡ end_of (other_half other) before
      → Grew (log (end_of half before)).calls (log (end_of half after)).calls (cond (is_half half other) (Some (out.Send to bytes ok)) None)
  pair_grew Rtp Rtp to bytes ok before after gains same = gains_grew (log before.0).calls (log after.0).calls (out.Send to bytes ok) gains.gains
  pair_grew Rtp Rtcp to bytes ok before after gains same = same_grew (log before.0).calls (log after.0).calls (ap calls_of same)
  pair_grew Rtcp Rtp to bytes ok before after gains same = same_grew (log before.1).calls (log after.1).calls (ap calls_of same)
  pair_grew Rtcp Rtcp to bytes ok before after gains same = gains_grew (log before.1).calls (log after.1).calls (out.Send to bytes ok) gains.gains

  sends_grew : (half other : Half) (to : Addr) (bytes : List ℕ) (ok : Bool) (old new : parts.Sending O) → SendsBy log faults other to bytes ok old new
      → Grew (calls_by half old.ends) (calls_by half new.ends) (cond (is_half half other) (Some (out.Send to bytes ok)) None)
  sends_grew half other to bytes ok old new s =
      let call : Option OutCall = cond (is_half half other) (Some (out.Send to bytes ok)) None in
      subst (λ (o : Option (O × O)). Grew (calls_by half o) (calls_by half new.ends) call) (sym s.had)
      (subst (λ (o : Option (O × O)). Grew (calls_by half (Some s.before)) (calls_by half o) call) (sym s.has)
      (pair_grew half other to bytes ok s.before s.after s.gains s.other))

  kept_grew : (half : Half) (old new : parts.Sending O) → new.ends ≡ old.ends → Grew (calls_by half old.ends) (calls_by half new.ends) None
  kept_grew half old new same = same_grew (calls_by half old.ends) (calls_by half new.ends) (ap (calls_by half) same)

  ends_grew : (half : Half) (leaves : Bool) (sending : Option Sending) (ok : Bool) (old new : parts.Sending O) → EndsFor log faults leaves sending ok old new
      → Grew (calls_by half old.ends) (calls_by half new.ends) (cond leaves (out_call_of half ok sending) None)
  ends_grew half true None ok old new e = kept_grew half old new e
  ends_grew half false None ok old new e = kept_grew half old new e
  ends_grew half false (Some w) ok old new e = kept_grew half old new e
  ends_grew half true (Some w) ok old new e = sends_grew half w.half w.to w.bytes ok old new e

  pub legs_relayed : (config : Config) (old new : cell.Cell O) (h : List CellEntry) (p : Receipt) (now : ℕ) (buf : List ℕ) (result : Outcome) → CellFor config old h
      → CellRelays log faults config old new h p now buf result → map holder_of new.legs.items ≡ map holder_of old.legs.items
  legs_relayed config old new h p now buf result for relays =
      relays.stands.legs_for.holders
      ∙ append-nil (filter (λ (leg : Holder). true) (legs (since_end h)))
      ∙ all_kept (legs (since_end h))
      ∙ sym for.legs_for.holders

  relay_told : (config : Config) (old new : cell.Cell O) (h : List CellEntry) (p : Receipt) (now : ℕ) (buf : List ℕ) (result : Outcome) → CellFor config old h
      → CellRelays log faults config old new h p now buf result → AreTold old.legs.items (since_end h)
      → AreTold new.legs.items (relayed_at config h p now result ∷ since_end h)
  relay_told config old new h p now buf result for relays before leg i half =
      let same = legs_relayed config old new h p now buf result for relays in
      let long = ap length same in
      let long_new = length-map new.legs.items holder_of in
      let long_old = length-map old.legs.items holder_of in
      let a = in_at new.legs.items i in
      let below = a.below in
      let was : a.at < length old.legs.items = omega (arith, below, long, long_new, long_old) in
      let x : Leg O = get_or old.legs.items a.at leg in
      let holder : leg.holder ≡ x.holder
      = ap holder_of (sym (a.is leg))
      ∙ sym (get_or-map holder_of new.legs.items a.at leg leg.holder below)
      ∙ ap (λ (hs : List Holder). get_or hs a.at leg.holder) same
      ∙ get_or-map holder_of old.legs.items a.at leg leg.holder was in
      let d = deed config (since_end h) p (sent_ok result) in
      let grew = ends_grew half (is_leaving (opposite_of (since_end h) (found (since_end h) p)) x.holder) d.sending (sent_ok result) x.sending
      (get_or new.legs.items a.at leg).sending (relays.ends a.at leg was) in
      subst (λ (l : Leg O). WhereLogged (calls_by half l.sending.ends) (λ calls. calls ≡ sends_since leg.holder half (relayed_at config h p now result ∷ since_end h))) (a.is leg)
      (subst (λ (k : Holder). WhereLogged (calls_by half (get_or new.legs.items a.at leg).sending.ends) (λ calls. calls ≡ sends_since k half (relayed_at config h p now result ∷ since_end h))) (sym holder)
      (grew_told (calls_by half x.sending.ends) (calls_by half (get_or new.legs.items a.at leg).sending.ends)
      (cond (is_leaving (opposite_of (since_end h) (found (since_end h) p)) x.holder) (out_call_of half (sent_ok result) d.sending) None)
      (sends_since x.holder half (since_end h)) (before x (at_in_legs old.legs.items a.at leg was) half) grew))
    where
      at_in_legs : (xs : List (Leg O)) (n : ℕ) (y : Leg O) → n < length xs → In (get_or xs n y) xs
      at_in_legs [] n y low = absurd (omega (arith, low))
      at_in_legs (z ∷ xs) zero y low = here refl
      at_in_legs (z ∷ xs) (suc n) y low = there (at_in_legs xs n y (omega (arith, low)))

  -- Legs that stay, and legs that go.

  -- a leg that is a form of one that was told, after an event that adds and sends nothing for it
  stays_told : (leg other : Leg O) (half : Half) (h : List CellEntry) (all : List OutCall) → leg.holder ≡ other.holder → parts_of leg ≡ parts_of other
      → WhereLogged (calls_by half other.sending.ends) (λ calls. calls ≡ sends_since other.holder half h) → all ≡ sends_since leg.holder half h
      → WhereLogged (calls_by half leg.sending.ends) (λ calls. calls ≡ all)
  stays_told leg other half h all holder parts those is =
      subst (λ (o : Option (List OutCall)). WhereLogged o (λ calls. calls ≡ all)) (sym (end_told leg other parts half))
      (subst (λ (cs : List OutCall). WhereLogged (calls_by half other.sending.ends) (λ calls. calls ≡ cs)) (ap (λ (k : Holder). sends_since k half h) (sym holder) ∙ sym is) those)

  -- the leg has the lease of its holder, and its ends
  pub record HasParts (leg : Leg O) : Type 0 where
    pub pair : leg.lease.pair ≡ leg.holder.pair
    pub generation : leg.lease.generation ≡ leg.holder.generation
    pub ends : IsSome leg.sending.ends

  went_told : (config : Config) (h : List CellEntry) (those : List (Leg O)) → ((leg : Leg O) → In leg those → HasParts leg)
      → AreTold those h → AllZip (HasLogged h) (legs_left log (filter_map (λ (leg : Leg O). parts_of leg) those)) (map holder_of those)
  went_told config h [] have those = tt
  went_told config h (leg ∷ more) have those =
      let has = have leg (here refl) in
      let t = is_there leg.sending.ends has.ends in
      subst (λ (o : Option (O × O)). AllZip (HasLogged h) (legs_left log (cons_option (parts_with leg.lease o) (filter_map (λ (l : Leg O). parts_of l) more))) (leg.holder ∷ map holder_of more)) (sym t.1) (
        record {
          pair = has.pair;
          generation = has.generation;
          sends = λ half. each half t.0 (subst (λ (o : Option (O × O)). WhereLogged (calls_by half o) (λ calls. calls ≡ sends_since leg.holder half h)) t.1 (those leg (here refl) half));
        },
        went_told config h more (λ l i. have l (there i)) (λ l i. those l (there i)),
      )
    where
      each : (half : Half) (ends : O × O) → WhereLogged (log (end_of half ends)).calls (λ calls. calls ≡ sends_since leg.holder half h)
          → WhereLogged (out_left half (record { lease = leg.lease; rtp = (log ends.0).calls; rtcp = (log ends.1).calls })) (λ calls. calls ≡ sends_since leg.holder half h)
      each Rtp ends t = t
      each Rtcp ends t = t

  -- those that pass, of the legs of a cell
  gone_told : (config : Config) (cell : cell.Cell O) (h : List CellEntry) (p : Holder → Bool) (gone : List (Lease × O × O)) (left : List LegLeft) → CellFor config cell h
      → AreTold cell.legs.items (since_end h) → gone ≡ filter_map (λ (leg : Leg O). parts_of leg) (filter (λ (leg : Leg O). p leg.holder) cell.legs.items) → left ≡ legs_left log gone
      → AllZip (HasLogged (since_end h)) left (filter p (legs (since_end h)))
  gone_told config cell h p gone left for those went is =
      let going : List (Leg O) = filter (λ (leg : Leg O). p leg.holder) cell.legs.items in
      subst (λ (ls : List LegLeft). AllZip (HasLogged (since_end h)) ls (filter p (legs (since_end h)))) (sym (is ∙ ap (legs_left log) went))
      (subst (λ (hs : List Holder). AllZip (HasLogged (since_end h)) (legs_left log (filter_map (λ (leg : Leg O). parts_of leg) going)) hs)
      (sym (filter_mapped p holder_of cell.legs.items) ∙ ap (filter p) for.legs_for.holders)
      (went_told config (since_end h) going
      (λ leg i. let f = each_in config (since_end h) cell.legs.items leg for.legs_for (filtered (λ (l : Leg O). p l.holder) cell.legs.items i).0 in record { pair = f.pair; generation = f.generation; ends = f.sending.ends })
      (λ leg i half. those leg (filtered (λ (l : Leg O). p l.holder) cell.legs.items i).0 half)))

  -- An answer.

  commit_told : (config : Config) (old new : cell.Cell O) (h : List CellEntry) (signal : List SectionSignal) (now : ℕ) (gone : List (Lease × O × O)) (moment : ℕ) → CellFor config old h
      → CellCommits config old new h signal now gone → AreTold old.legs.items (since_end h)
      → AreTold new.legs.items ((record { moment = moment; event = Commit signal }) ∷ since_end h)
  commit_told config old new h signal now gone moment for commits before leg i half =
      let holders : map holder_of new.legs.items ≡ map holder_of (filter (λ (l : Leg O). stays_by signal l) old.legs.items)
      = commits.stands.legs_for.holders
      ∙ append-nil (filter (λ (l : Holder). not (is_rejected signal l.section)) (legs (since_end h)))
      ∙ ap (filter (λ (l : Holder). not (is_rejected signal l.section))) (sym for.legs_for.holders)
      ∙ filter_mapped (λ (l : Holder). not (is_rejected signal l.section)) holder_of old.legs.items in
      let p = partner holder_of (λ (l : Leg O). parts_of l) new.legs.items (filter (λ (l : Leg O). stays_by signal l) old.legs.items) holders commits.stay i in
      stays_told leg p.other half (since_end h) (sends_since leg.holder half ((record { moment = moment; event = Commit signal }) ∷ since_end h)) p.one p.two
      (before p.other (filtered (λ (l : Leg O). stays_by signal l) old.legs.items p.is_in).0 half) refl

  -- An offer.

  fresh : (half : Half) (config : Config) (leg : Leg O) → IsOpened log config leg → StartsEmpty (calls_by half leg.sending.ends)
  fresh Rtp config leg u = subst (λ (o : Option (O × O)). StartsEmpty (calls_by Rtp o)) (sym u.ends_are) u.rtp.uncalled
  fresh Rtcp config leg u = subst (λ (o : Option (O × O)). StartsEmpty (calls_by Rtcp o)) (sym u.ends_are) u.rtcp.uncalled

  prepare_told : (config : Config) (old new : cell.Cell O) (h : List CellEntry) (signal : prepared.Prepare O) (call : ℕ) (keys : List NewKey) (dropped : List ℕ) (now : ℕ)
      (gone : List (Lease × O × O)) (moment : ℕ) → CellFor config old h → CellPrepares config old new h signal call keys dropped now gone → AreOpened log old.config signal
      → AreTold old.legs.items (since_end h)
      → AreTold new.legs.items ((record { moment = moment; event = Prepare call (added signal) keys dropped }) ∷ since_end h)
  prepare_told config old new h signal call keys dropped now gone moment for prepares opened before leg i half =
      let keep : Holder → Bool = λ (l : Holder). not (has dropped l.section) in
      let stay : List (Leg O) = filter (λ (l : Leg O). not (has dropped l.holder.section)) old.legs.items in
      let kept : filter keep (legs (since_end h)) ≡ map holder_of stay = ap (filter keep) (sym for.legs_for.holders) ∙ filter_mapped keep holder_of old.legs.items in
      let holders : map holder_of new.legs.items ≡ map holder_of (stay ++ signal.legs.items)
      = prepares.stands.legs_for.holders
      ∙ ap (λ (hs : List Holder). hs ++ added signal) kept
      ∙ sym (map-append holder_of stay signal.legs.items) in
      let parts : map (λ (l : Leg O). parts_of l) new.legs.items ≡ map (λ (l : Leg O). parts_of l) (stay ++ signal.legs.items)
      = prepares.stay ∙ sym (map-append (λ (l : Leg O). parts_of l) stay signal.legs.items) in
      let p = partner holder_of (λ (l : Leg O). parts_of l) new.legs.items (stay ++ signal.legs.items) holders parts i in
      let apart : (k n : Holder) → In k (map holder_of stay) → In n (added signal) → same_leg k n ≡ true → ⊥
      = λ k n a b same. split_apart (map holder_of stay) (added signal)
      (subst (λ (hs : List Holder). (a b : ℕ) (d : Holder) → a < b → b < length hs → same_leg (get_or hs a d) (get_or hs b d) ≡ true → ⊥)
      (holders ∙ map-append holder_of stay signal.legs.items)
      (holders_apart config _ new.legs.items prepares.stands.legs_for leg)) a b same in
      by_case p (in_append stay signal.legs.items p.is_in) (λ j n k same. apart p.other.holder n (maps holder_of stay j) k same)
    where
      by_case : (p : Partner holder_of (λ (l : Leg O). parts_of l) leg (filter (λ (l : Leg O). not (has dropped l.holder.section)) old.legs.items ++ signal.legs.items))
          → In p.other (filter (λ (l : Leg O). not (has dropped l.holder.section)) old.legs.items) ⊎ In p.other signal.legs.items
          → (In p.other (filter (λ (l : Leg O). not (has dropped l.holder.section)) old.legs.items) → (n : Holder) → In n (added signal) → same_leg p.other.holder n ≡ true → ⊥)
          → WhereLogged (calls_by half leg.sending.ends) (λ calls. calls ≡ sends_since leg.holder half ((record { moment = moment; event = Prepare call (added signal) keys dropped }) ∷ since_end h))
      by_case p (inl j) apart =
          let none : list_any (same_leg leg.holder) (added signal) ≡ false
          = any_false (same_leg leg.holder) (added signal) (λ n k same. apart j n k (subst (λ (x : Holder). same_leg x n ≡ true) p.one same)) in
          stays_told leg p.other half (since_end h) (sends_since leg.holder half ((record { moment = moment; event = Prepare call (added signal) keys dropped }) ∷ since_end h)) p.one p.two
          (before p.other (filtered (λ (l : Leg O). not (has dropped l.holder.section)) old.legs.items j).0 half)
          (ap (λ (t : Bool). cond t [] (sends_since leg.holder half (since_end h))) none)
      by_case p (inr j) apart =
          let new_one : list_any (same_leg leg.holder) (added signal) ≡ true
          = any_true (same_leg leg.holder) p.other.holder (added signal) (maps holder_of signal.legs.items j)
          (subst (λ (x : Holder). same_leg leg.holder x ≡ true) p.one (same_itself leg.holder)) in
          subst (λ (o : Option (List OutCall)). WhereLogged o (λ calls. calls ≡ sends_since leg.holder half ((record { moment = moment; event = Prepare call (added signal) keys dropped }) ∷ since_end h)))
          (sym (end_told leg p.other p.two half))
          (subst (λ (cs : List OutCall). WhereLogged (calls_by half p.other.sending.ends) (λ calls. calls ≡ cs))
          (sym (ap (λ (t : Bool). cond t [] (sends_since leg.holder half (since_end h))) new_one))
          (starts_empty (calls_by half p.other.sending.ends) (fresh half old.config p.other (opened p.other j))))

  -- Any event of a cell.

  -- what a step of a cell keeps, and what it tells of the legs that go
  pub record TellsOn (config : Config) (new : cell.Cell O) (h : List CellEntry) (moment : ℕ) (event : CellEvent) (left : List LegLeft) : Type 0 where
    pub after : AreTold new.legs.items (since_end ((record { moment = moment; event = fill_cell config h event }) ∷ h))
    pub going : is_parting (Cell event) ≡ true → AllZip (HasLogged (since_end h)) left (legs_going (since_end h) event)

  pub no_legs_told : (config : Config) (new : cell.Cell O) (h : List CellEntry) → LegsStandFor config [] new.legs.items → AreTold new.legs.items h
  no_legs_told config new h for leg i half =
      absurd (elim (subst (λ (ls : List (Leg O)). In leg ls)
      (nothing_in new.legs.items (let a = length-map new.legs.items holder_of in let b = ap length for.holders in omega (arith, a, b))) i) [ ])

  pub cell_tells : (config : Config) (old new : cell.Cell O) (made : Made) (event : CellEvent) (h : List CellEntry) (moment : ℕ)
      → AreNew h (keys_of event) → CellStepsBy log faults old made event new
      → CellFor config old h → AreTold old.legs.items (since_end h) → TellsOn config new h moment event made.left.legs
  cell_tells config old new made (Prepare call legs keys dropped) h moment fresh step for before =
      let s = step.steps config h for fresh in
      record {
        after = subst (λ (ls : List Holder). AreTold new.legs.items ((record { moment = moment; event = Prepare call ls keys dropped }) ∷ since_end h)) step.legs_are
            (prepare_told config old new h step.signal call keys dropped made.handed step.gone moment for s.1 step.opened before);
        going = λ t. gone_told config old h (λ (l : Holder). has dropped l.section) step.gone made.left.legs for before s.1.went step.left_are;
      }
  cell_tells config old new made (Commit signal) h moment fresh step for before =
      let s = step.steps config h for in
      record {
        after = commit_told config old new h signal made.handed step.gone moment for s.1 before;
        going = λ t. gone_told config old h (λ (l : Holder). is_rejected signal l.section) step.gone made.left.legs for before s.1.went step.left_are;
      }
  cell_tells config old new made (Relay x) h moment fresh step for before =
      let s = step.steps config h x.packet.take for in
      let ok : sent_ok x.deed.outcome ≡ x.sent_ok = sym (ap (λ (r : Relayed). r.sent_ok) step.is_told) in
      record {
        after = subst (λ (b : Bool). AreTold new.legs.items ((record { moment = moment; event = Relay (record { packet = x.packet; sent_ok = b; deed = deed config (since_end h) x.packet b }) }) ∷ since_end h)) ok
            (λ leg i half. relay_told config old new h x.packet made.handed step.buffer x.deed.outcome for s.1 before leg i half);
        going = λ t. absurd (let k : false ≡ true = t in cc);
      }
  cell_tells config old new made (Expire due) h moment fresh step for before =
      let s = step.steps config h for in
      record {
        after = λ leg i half. before leg (subst (λ (c : cell.Cell O). In leg c.legs.items) s.1.rest i) half;
        going = λ t. absurd (let k : false ≡ true = t in cc);
      }
  cell_tells config old new made (Read reports) h moment fresh step for before =
      record {
        after = λ leg i half. before leg (subst (λ (c : cell.Cell O). In leg c.legs.items) step.same i) half;
        going = λ t. absurd (let k : false ≡ true = t in cc);
      }
  cell_tells config old new made End h moment fresh step for before =
      let s = step.steps config h for in
      record {
        after = no_legs_told config new [] s.1.stands.legs_for;
        going = λ t. subst (λ (hs : List Holder). AllZip (HasLogged (since_end h)) made.left.legs hs) (all_kept (legs (since_end h)))
            (gone_told config old h (λ (l : Holder). true) step.gone made.left.legs for before
            (s.1.went ∙ ap (filter_map (λ (leg : Leg O). parts_of leg)) (sym (all_kept old.legs.items))) step.left_are);
      }
