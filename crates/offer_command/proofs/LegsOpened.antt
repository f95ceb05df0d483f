-- What was done of an offer's legs, and one leg more.
use Rattle.std.proofs.Common.{◌≡◌, refl, sym, ◌∙◌, ap, subst, ℕ, suc, ◌+◌, ◌<◌, ◌++◌, List, [], ◌∷◌, length, map, false, true, Option, Some, None, arith, append_assoc}
use Rattle.std.specs.Prelude.{option_map, slice_get}
use Rattle.std.specs.Option.{option_to_list}
use Rattle.std.specs.List.{AllZip}
use Rattle.std.proofs.lemmas.List.{length_push, map_push}
use Rattle.histories.specs.Words.{In, here, there, has}
use Rattle.histories.proofs.Lists.{it_has}
use Rattle.relay_outside.specs.declared.settings.Config.{Config}
use Rattle.relay_outside.specs.declared.ports.InCall.{InCall}
use Rattle.relay_outside.specs.declared.ports.OutCall.{OutCall}
use Rattle.relay_outside.specs.DeviceLogs.{EndLog}
use Rattle.turn_table.specs.declared.hands.Hand.{Hand}
use Rattle.turn_table.specs.Hands.{IsSameHand, entries, starts}
use Rattle.port_pool.specs.declared.holder.Holder.{Holder}
use Rattle.port_pool.specs.declared.holder.Side.{Side}
use Rattle.port_pool.specs.declared.pairs.Lease.{Lease}
use Rattle.offer_answer.specs.Rounds.{NewLeg, Demand}
use Rattle.offer_answer.specs.Laws.{new_leg_place}
use Rattle.offer_answer.specs.Offers.{PlanFor}
use Rattle.offer_answer.specs.declared.plan.Plan.{Plan}
use Rattle.call_board.specs.Acts.{Call}
use Rattle.call_board.specs.Whole.{holders_of_new_legs, holder_of_new_leg}
use Rattle.media_ports.specs.declared.ends.PairEnds.{PairEnds}
use Rattle.media_ports.specs.Addresses.{pairs_of_leases}
use Rattle.relay_core.specs.declared.part.Part.{Part}
use Rattle.relay_core.specs.Entries.{box_of}
use Rattle.relay_core.specs.Scripts.{Owed, open_owed}
use Rattle.relay_core.specs.Records.{Made}
use Rattle.relay_core.specs.Turns.{GainsNested}
use Rattle.relay_core.proofs.Holders.{same_box}
use Rattle.relay_core.proofs.Turns.{nothing_more}
use Rattle.board_turns.proofs.Nesting.{gains_more, same_again}
use Rattle.board_turns.proofs.Closed.{holder_stays}
use Rattle.offer_command.specs.Legs.{LegsFor}
use Rattle.offer_command.specs.LegBoxes.{AreShut, IsBoxOpened, leg_parts, leased_parts}

-- The legs.

-- the holder of the leg
abbrev pub holder_for : (call cell : ℕ) → Lease → ℕ × Side → Holder
holder_for call cell lease leg = record { cell = cell; call = call; section = leg.0; side = leg.1; pair = lease.pair; generation = lease.generation }

legs_push : (of : Call) (done : List Lease) (lease : Lease) (asked : List NewLeg) (leg : ℕ × Side) → option_map new_leg_place (slice_get asked (length done)) ≡ Some leg
    → holders_of_new_legs of (done ++ lease ∷ []) asked ≡ holders_of_new_legs of done asked ++ holder_for of.number of.cell lease leg ∷ []
legs_push of [] lease [] leg q = absurd (let e : None ≡ Some leg = q in cc)
legs_push of [] lease (x ∷ asked) leg q =
    let e : new_leg_place x ≡ leg = (let f : Some (new_leg_place x) ≡ Some leg = q in cc) in
    ap (λ (y : ℕ × Side). holder_for of.number of.cell lease y ∷ []) e
legs_push of (d ∷ done) lease [] leg q = absurd (let e : None ≡ Some leg = q in cc)
legs_push of (d ∷ done) lease (x ∷ asked) leg q = ap (λ (legs : List Holder). holder_of_new_leg of d x ∷ legs) (legs_push of done lease asked leg q)

holder_is : (of : Call) (call cell : ℕ) (lease : Lease) (leg : ℕ × Side) → of.number ≡ call → of.cell ≡ cell → holder_for of.number of.cell lease leg ≡ holder_for call cell lease leg
holder_is of call cell lease leg number place =
    ap (λ (n : ℕ). holder_for n of.cell lease leg) number ∙ ap (λ (n : ℕ). holder_for call n lease leg) place

legs_more : (plan : Plan) (call cell : ℕ) (done : List Lease) (lease : Lease) (legs : List Holder) (i : ℕ) (leg : ℕ × Side) → LegsFor plan call cell done legs → length done ≡ i
    → ((asked : Demand) → PlanFor plan asked → option_map new_leg_place (slice_get asked.pairs i) ≡ Some leg)
    → LegsFor plan call cell (done ++ lease ∷ []) (legs ++ holder_for call cell lease leg ∷ [])
legs_more plan call cell done lease legs i leg are count says asked of demands number place =
    ap (λ (xs : List Holder). xs ++ holder_for call cell lease leg ∷ []) (are asked of demands number place)
    ∙ ap (λ (h : Holder). holders_of_new_legs of done asked.pairs ++ h ∷ []) (sym (holder_is of call cell lease leg number place))
    ∙ sym (legs_push of done lease asked.pairs leg (subst (λ (n : ℕ). option_map new_leg_place (slice_get asked.pairs n) ≡ Some leg) (sym count) (says asked demands)))

-- The ends.

module _ {I O : Type 0} where
  parts_push : (done : List Lease) (ends : List (PairEnds I O)) (lease : Lease) (last : PairEnds I O) → length done ≡ length ends
      → leased_parts (done ++ lease ∷ []) (ends ++ last ∷ []) ≡ leased_parts done ends ++ leg_parts lease last ∷ []
  parts_push [] [] lease last q = refl
  parts_push [] (e ∷ ends) lease last q = absurd (omega (arith, q))
  parts_push (d ∷ done) [] lease last q = absurd (omega (arith, q))
  parts_push (d ∷ done) (e ∷ ends) lease last q =
      ap (λ (xs : List (Lease × O × O)). leg_parts d e ∷ xs) (parts_push done ends lease last (omega (arith, q)))

zip_push : {A B : Type 0} (R : A → B → Type 0) (xs : List A) (ys : List B) (x : A) (y : B) → AllZip R xs ys → R x y → AllZip R (xs ++ x ∷ []) (ys ++ y ∷ [])
zip_push R [] [] x y all r = (r, tt)
zip_push R [] (b ∷ ys) x y all r = elim all [ ]
zip_push R (a ∷ xs) [] x y all r = elim all [ ]
zip_push R (a ∷ xs) (b ∷ ys) x y all r = (all.0, zip_push R xs ys x y all.1 r)

zip_map : {A B : Type 0} (R S : A → B → Type 0) (xs : List A) (ys : List B) → ((x : A) (y : B) → R x y → S x y) → AllZip R xs ys → AllZip S xs ys
zip_map R S [] [] f all = tt
zip_map R S [] (y ∷ ys) f all = elim all [ ]
zip_map R S (x ∷ xs) [] f all = elim all [ ]
zip_map R S (x ∷ xs) (y ∷ ys) f all = (f x y all.0, zip_map R S xs ys f all.1)

-- So many legs are done, and these leases and ends are left.
pub record AreDone {I O : Type 0} (plan : Plan) (call cell : ℕ) (R : Holder → PairEnds I O → Type 0) (all left : List Lease) (opened open_left : List (PairEnds I O))
    (count : ℕ) (legs : List Holder) (before now : List (Lease × O × O)) : Type 0 where
  pub leases : List Lease
  pub ends : List (PairEnds I O)
  pub leases_are : all ≡ leases ++ left
  pub ends_are : opened ≡ ends ++ open_left
  pub lease_count : length leases ≡ count
  pub end_count : length ends ≡ count
  pub legs_are : LegsFor plan call cell leases legs
  pub opens : AllZip R legs ends
  pub parts_are : now ≡ before ++ leased_parts leases ends

module _ {I O : Type 0} where
  pub none_done : (plan : Plan) (call cell : ℕ) (R : Holder → PairEnds I O → Type 0) (all : List Lease) (opened : List (PairEnds I O)) (legs : List Holder)
      (before : List (Lease × O × O)) → legs ≡ [] → AreDone plan call cell R all all opened opened 0 legs before before
  none_done plan call cell R all opened legs before none = record {
    leases = [];
    ends = [];
    leases_are = refl;
    ends_are = refl;
    lease_count = refl;
    end_count = refl;
    legs_are = λ asked of demands number place. none;
    opens = subst (λ (xs : List Holder). AllZip R xs []) (sym none) tt;
    parts_are = sym (nothing_more before);
  }

  -- one leg more
  pub one_done : (plan : Plan) (call cell : ℕ) (R : Holder → PairEnds I O → Type 0) (all left rest : List Lease) (opened open_left open_rest : List (PairEnds I O)) (i : ℕ)
      (legs more : List Holder) (before now after : List (Lease × O × O)) (lease : Lease) (ends : PairEnds I O) (leg : ℕ × Side)
      → AreDone plan call cell R all left opened open_left i legs before now → left ≡ lease ∷ rest → open_left ≡ ends ∷ open_rest
      → ((asked : Demand) → PlanFor plan asked → option_map new_leg_place (slice_get asked.pairs i) ≡ Some leg) → R (holder_for call cell lease leg) ends
      → more ≡ legs ++ holder_for call cell lease leg ∷ [] → after ≡ now ++ leg_parts lease ends ∷ []
      → AreDone plan call cell R all rest opened open_rest (i + 1) more before after
  one_done plan call cell R all left rest opened open_left open_rest i legs more before now after lease ends leg done here_lease here_ends says opens more_is after_is = record {
    leases = done.leases ++ lease ∷ [];
    ends = done.ends ++ ends ∷ [];
    leases_are = done.leases_are ∙ ap (λ (xs : List Lease). done.leases ++ xs) here_lease ∙ sym (append_assoc done.leases (lease ∷ []) rest);
    ends_are = done.ends_are ∙ ap (λ (xs : List (PairEnds I O)). done.ends ++ xs) here_ends ∙ sym (append_assoc done.ends (ends ∷ []) open_rest);
    lease_count = length_push done.leases lease ∙ ap (λ (n : ℕ). n + 1) done.lease_count;
    end_count = length_push done.ends ends ∙ ap (λ (n : ℕ). n + 1) done.end_count;
    legs_are = subst (λ (xs : List Holder). LegsFor plan call cell (done.leases ++ lease ∷ []) xs) (sym more_is)
        (legs_more plan call cell done.leases lease legs i leg done.legs_are done.lease_count says);
    opens = subst (λ (xs : List Holder). AllZip R xs (done.ends ++ ends ∷ [])) (sym more_is)
        (zip_push R legs done.ends (holder_for call cell lease leg) ends done.opens opens);
    parts_are = after_is ∙ ap (λ (xs : List (Lease × O × O)). xs ++ leg_parts lease ends ∷ []) done.parts_are
        ∙ append_assoc before (leased_parts done.leases done.ends) (leg_parts lease ends ∷ [])
        ∙ ap (λ (xs : List (Lease × O × O)). before ++ xs) (sym (parts_push done.leases done.ends lease ends (done.lease_count ∙ sym done.end_count)));
  }

nothing_left : {A : Type 0} (all done left : List A) → all ≡ done ++ left → length all ≡ length done → left ≡ []
nothing_left all done [] q n = refl
nothing_left all done (x ∷ left) q n =
    let both : length (done ++ x ∷ left) ≡ length done + suc (length left) = length_both done x left in
    absurd (let e = ap length q in omega (arith, e, both, n))
  where
    length_both : {A : Type 0} (done : List A) (x : A) (left : List A) → length (done ++ x ∷ left) ≡ length done + suc (length left)
    length_both [] x left = omega arith
    length_both (d ∷ done) x left = let e = length_both done x left in omega (arith, e)

all_here : {A : Type 0} (all done left : List A) → all ≡ done ++ left → length all ≡ length done → all ≡ done
all_here all done left q n = q ∙ ap (λ xs. done ++ xs) (nothing_left all done left q n) ∙ nothing_more done

module _ {I O : Type 0} (plan : Plan) (call cell : ℕ) (R : Holder → PairEnds I O → Type 0) (all left : List Lease) (opened open_left : List (PairEnds I O)) (i : ℕ)
    (legs : List Holder) (before now : List (Lease × O × O)) (done : AreDone plan call cell R all left opened open_left i legs before now) where
  -- all are done
  pub no_ends_left : length opened ≡ i → open_left ≡ []
  no_ends_left n = nothing_left opened done.ends open_left done.ends_are (n ∙ sym done.end_count)

  pub all_legs : length all ≡ i → LegsFor plan call cell all legs
  all_legs n = subst (λ (xs : List Lease). LegsFor plan call cell xs legs) (sym (all_here all done.leases left done.leases_are (n ∙ sym done.lease_count))) done.legs_are

  pub all_opened : length opened ≡ i → AllZip R legs opened
  all_opened n = subst (λ (xs : List (PairEnds I O)). AllZip R legs xs) (sym (all_here opened done.ends open_left done.ends_are (n ∙ sym done.end_count))) done.opens

  pub all_parts : length all ≡ i → length opened ≡ i → now ≡ before ++ leased_parts all opened
  all_parts n m =
      done.parts_are
      ∙ ap (λ (xs : List Lease). before ++ leased_parts xs done.ends) (sym (all_here all done.leases left done.leases_are (n ∙ sym done.lease_count)))
      ∙ ap (λ (xs : List (PairEnds I O)). before ++ leased_parts all xs) (sym (all_here opened done.ends open_left done.ends_are (m ∙ sym done.end_count)))

  -- something is left
  pub leases_left : i < length all → 0 < length left
  leases_left low = some_left all done.leases left done.leases_are (let n = done.lease_count in omega (arith, n, low))
    where
      some_left : {A : Type 0} (all done left : List A) → all ≡ done ++ left → length done < length all → 0 < length left
      some_left all done [] q low = let e = ap length (q ∙ nothing_more done) in omega (arith, e, low)
      some_left all done (x ∷ left) q low = omega arith

  pub ends_left : i < length opened → 0 < length open_left
  ends_left low = some_left opened done.ends open_left done.ends_are (let n = done.end_count in omega (arith, n, low))
    where
      some_left : {A : Type 0} (all done left : List A) → all ≡ done ++ left → length done < length all → 0 < length left
      some_left all done [] q low = let e = ap length (q ∙ nothing_more done) in omega (arith, e, low)
      some_left all done (x ∷ left) q low = omega arith

-- The boxes.

module _ {M S T : Type 0} {g : _} where
  -- nothing yet
  pub gains_nothing : (number moment : ℕ) (hand : Hand M S Made T g) → GainsNested number moment [] hand hand
  gains_nothing number moment hand = record {
    rows = [];
    list_is = sym (nothing_more (entries hand));
    gained = record { owes = refl; of_board = λ e i. elim i [ ]; rising = tt };
    handed = λ row i. elim i [ ];
  }

  -- one leg more
  pub gains_leg : (config : Config) (number moment : ℕ) (legs more : List Holder) (leg : Holder) (old mid new : Hand M S Made T g) → more ≡ legs ++ leg ∷ []
      → GainsNested number moment (map (open_owed config) legs) old mid → GainsNested number moment (open_owed config leg ∷ []) mid new
      → GainsNested number moment (map (open_owed config) more) old new
  gains_leg config number moment legs more leg old mid new is a b =
      subst (λ (events : List Owed). GainsNested number moment events old new) (sym (ap (λ (xs : List Holder). map (open_owed config) xs) is ∙ map_push (open_owed config) legs leg))
      (gains_more number moment (map (open_owed config) legs) (open_owed config leg ∷ []) old mid new a b)

module _ {M I O T : Type 0} {g : _} where
  -- the boxes of the other leases stay shut
  pub shut_still : (config : Config) (number moment : ℕ) (leg : Holder) (rest : List ℕ) (old new : Hand M (Part I O) Made T g) → starts new ≡ starts old
      → GainsNested number moment (open_owed config leg ∷ []) old new → AreShut config old (leg.pair ∷ rest) → has rest leg.pair ≡ false → AreShut config new rest
  shut_still config number moment leg rest old new same gains shut apart pair i =
      holder_stays config number moment pair (open_owed config leg ∷ []) old new same gains (λ owed j p. other owed j p) ∙ shut pair (there i)
    where
      other : (owed : Owed) → In owed (open_owed config leg ∷ []) → owed.place ≡ box_of config pair → ⊥
      other owed (here q) p =
          let one : leg.pair ≡ pair = same_box config leg.pair pair (sym (ap (λ (o : Owed). o.place) q) ∙ p) in
          let wrong : true ≡ false = sym (it_has leg.pair rest (subst (λ (n : ℕ). In n rest) (sym one) i)) ∙ apart in cc
      other owed (there j) p = elim j [ ]

module _ {M I O T : Type 0} {g : _} (it : I → EndLog InCall) (ic : I → ℕ) (ot : O → EndLog OutCall) (oc : O → ℕ) where
  -- what was opened from a later state on was opened from an earlier one on
  pub opened_since : (config : Config) (number moment : ℕ) (old mid : Hand M (Part I O) Made T g) (leg : Holder) (ends : PairEnds I O) → IsSameHand old mid
      → IsBoxOpened it ic ot oc config number moment mid leg ends → IsBoxOpened it ic ot oc config number moment old leg ends
  opened_since config number moment old mid leg ends same opened = record { hand = opened.hand; same = same_again old mid opened.hand same opened.same; opens = opened.opens }

-- The leases and the ends that are left.

pub popped : {A : Type 0} (old rest : List A) (o : Option A) (x : A) → old ≡ option_to_list o ++ rest → o ≡ Some x → old ≡ x ∷ rest
popped old rest o x q is = q ∙ ap (λ (p : Option _). option_to_list p ++ rest) is

pub pairs_left : (left rest : List Lease) (lease : Lease) (pair : ℕ) → left ≡ lease ∷ rest → pair ≡ lease.pair → pairs_of_leases left ≡ pair ∷ pairs_of_leases rest
pairs_left left rest lease pair is same = ap (λ (xs : List Lease). pairs_of_leases xs) is ∙ ap (λ (n : ℕ). n ∷ pairs_of_leases rest) (sym same)

-- the holder, by what was read of the lease
abbrev pub holder_read : (call cell : ℕ) → ℕ × Side → (pair generation : ℕ) → Holder
holder_read call cell leg pair generation = record { cell = cell; call = call; section = leg.0; side = leg.1; pair = pair; generation = generation }

pub holder_same : (call cell : ℕ) (lease : Lease) (leg : ℕ × Side) (pair generation : ℕ) → pair ≡ lease.pair → generation ≡ lease.generation
    → holder_read call cell leg pair generation ≡ holder_for call cell lease leg
holder_same call cell lease leg pair generation p q =
    ap (λ (n : ℕ). holder_read call cell leg n generation) p ∙ ap (λ (n : ℕ). holder_read call cell leg lease.pair n) q
