-- One leg of a cell is closed: the first that has its ends.
use Rattle.std.proofs.Common.{◌≡◌, ◌∙◌, sym, ap, subst, refl, ◌<◌, ℕ, Bool, true, false, cond, ◌⊎◌, inl, inr, List, [], ◌∷◌, ◌++◌, length, map, Option, Some, None, arith}
use Rattle.std.specs.Prelude.{slice_get}
use Rattle.std.specs.List.{AllZip}
use Rattle.relay_outside.specs.declared.address.Addr.{Addr}
use Rattle.relay_outside.specs.declared.ports.InCall.{InCall}
use Rattle.relay_outside.specs.declared.ports.OutCall.{OutCall}
use Rattle.relay_outside.specs.declared.ports.PortCall.{PortCall}
use Rattle.relay_outside.specs.declared.settings.Config.{Config}
use Rattle.relay_outside.specs.DeviceLogs.{EndLog, Gained}
use Rattle.relay_outside.specs.Settings.{AreFamilies}
use Rattle.relay_outside.proofs.Telling.{gained_less, gained_none}
use Rattle.rtp_packet.specs.declared.head.Half.{Half}
use Rattle.rtp_packet.specs.declared.head.Half.TheVariants.{Rtp, Rtcp}
use Rattle.histories.specs.Words.{In, here, there, has}
use Rattle.histories.proofs.Lists.{in_append, in_left, in_right, it_has, maps}
use Rattle.port_pool.specs.Ports.{AreOfPair, port_address, pair_count}
use Rattle.port_pool.specs.Pools.{AreFree}
use Rattle.port_pool.proofs.Addresses.{one_address}
use Rattle.call_cell.specs.declared.leg.Leg.{Leg}
use Rattle.call_cell.specs.declared.cell.Cell as cell
use Rattle.call_cell.specs.declared.saved.CellSaved.{CellSaved}
use Rattle.call_cell.specs.SavedCells.{saved_leg}
use Rattle.call_cell.specs.TakenEnds.{TakesEnds, leased_address, without_ends, first_ends, without_first}
use Rattle.media_ports.specs.Addresses.{pair_addresses}
use Rattle.media_ports.specs.Calls.{AllOpen, Closes}
use Rattle.media_ports.proofs.Closed.{open_beside}
use Rattle.media_ports.proofs.Held.{below}
use Rattle.media_ports.proofs.Telling.{told_after}
use Rattle.relay_core.specs.declared.part.Part.{Part}
use Rattle.relay_core.specs.declared.part.Part.TheVariants as part
use Rattle.relay_core.specs.Entries.{box_of}
use Rattle.hand_over.specs.Closings.{legs_there, legs_at, box_ends_in, box_ends_at, pair_closings, cell_closings}
use Rattle.hand_over.specs.ClosingSteps.{IsPairOpen, pairs_of_legs, legs_with_ends, KeepsAllButEnds, HoldsEnds, GivesBox, TakesAt, AreReady, IsLegReady, IsCellReady, ClosesSome}
use Rattle.hand_over.proofs.FirstLegs.{IsFirstLeg, first_leg, no_first, other_pairs, closed_first, one_fewer, same_closings}

-- Cells.

module _ {O : Type 0} where
  map_without : {B : Type 0} (f : Leg O → B) → ((leg : Leg O) → f (without_ends leg) ≡ f leg) → (those : List (Leg O)) → map f (without_first those) ≡ map f those
  map_without f same [] = refl
  map_without {B} f same (leg ∷ legs) = by (Rattle.std.specs.Prelude.is_some leg.sending.ends) (map_without f same legs)
    where
      by : (b : Bool) → map f (without_first legs) ≡ map f legs → map f (cond b (without_ends leg ∷ legs) (leg ∷ without_first legs)) ≡ f leg ∷ map f legs
      by true rest = ap (λ (x : B). x ∷ map f legs) (same leg)
      by false rest = ap (λ (l : List B). f leg ∷ l) rest

  saved_without : (those : List (Leg O)) → map (λ (leg : Leg O). saved_leg leg) (without_first those) ≡ map (λ (leg : Leg O). saved_leg leg) those
  saved_without those = map_without (λ (leg : Leg O). saved_leg leg) (λ leg. refl) those

  pairs_without : (those : List (Leg O)) → pairs_of_legs (without_first those) ≡ pairs_of_legs those
  pairs_without those = map_without (λ (leg : Leg O). leg.holder.pair) (λ leg. refl) those

  -- a cell that gave ends is saved as it was
  gave_saves : (was now : cell.Cell O) (ends : Option (Addr × O × O)) → TakesEnds was now ends → KeepsAllButEnds was now
  gave_saves was now ends takes = record {
    saves = λ (saved : CellSaved) s. record {
      config = s.config ∙ takes.config;
      moment = s.moment ∙ takes.moment;
      call = s.call ∙ takes.call;
      began = s.began ∙ takes.began;
      is_committed = s.is_committed ∙ takes.is_committed;
      active = s.active ∙ takes.active;
      legs = s.legs ∙ ap (λ (l : List (Leg O)). map (λ (leg : Leg O). saved_leg leg) l) takes.legs ∙ saved_without was.legs.items;
    };
  }

-- Ports.

-- the ports of two pairs differ
ports_apart : (config : Config) (p q : ℕ) (half : Half) → AreFamilies config → p < pair_count config → q < pair_count config → (q ≡ p → ⊥)
    → In (port_address config q half) (pair_addresses config (p ∷ [])) → ⊥
ports_apart config p q half families within also other (here same) = other (one_address config q p half Rtp families also within same).0
ports_apart config p q half families within also other (there (here same)) = other (one_address config q p half Rtcp families also within same).0
ports_apart config p q half families within also other (there (there more)) = elim more [ ]

-- the ports of a pair stay open, where those of another are closed
still_open : (config : Config) (p q : ℕ) (was now : Option (List PortCall)) → AreFamilies config → p < pair_count config → q < pair_count config → (q ≡ p → ⊥)
    → Gained was now (AllZip Closes (pair_addresses config (p ∷ []))) → IsPairOpen config was q → IsPairOpen config now q
still_open config p q was now families within also other gained opened =
    let ats = pair_addresses config (p ∷ []) in
    told_after was now (AllZip Closes ats) (AllOpen (pair_addresses config (q ∷ []))) (AllOpen (pair_addresses config (q ∷ [])))
    (λ calls more o those. (
      open_beside ats more calls (port_address config q Rtp) those (ports_apart config p q Rtp families within also other) o.0,
      (open_beside ats more calls (port_address config q Rtcp) those (ports_apart config p q Rtcp families within also other) o.1.0, tt),
    )) opened gained

-- Places.

module _ {I O : Type 0} where
  abbrev cell_or : cell.Cell O → Option (Part I O) → cell.Cell O
  cell_or d (Some (part.Cell c)) = c
  cell_or d _ = d

  pub same_cell : (parts : List (Part I O)) (place : ℕ) (a b : cell.Cell O) → slice_get parts place ≡ Some (part.Cell a) → slice_get parts place ≡ Some (part.Cell b) → a ≡ b
  same_cell parts place a b is also = sym (ap (λ (o : Option (Part I O)). cell_or a o) is) ∙ ap (λ (o : Option (Part I O)). cell_or a o) also

  pub legs_of_cell : (parts : List (Part I O)) (place : ℕ) (c : cell.Cell O) → slice_get parts place ≡ Some (part.Cell c) → legs_at parts place ≡ c.legs.items
  legs_of_cell parts place c is = ap (λ (o : Option (Part I O)). legs_there o) is

  pub held_ends : (config : Config) (parts : List (Part I O)) (pair : ℕ) (ends : I × I) → HoldsEnds parts (box_of config pair) ends → box_ends_at config parts pair ≡ Some ends
  held_ends config parts pair ends has = ap (λ (o : Option (Part I O)). box_ends_in o) has.box_is ∙ has.ends_are

-- The step.

module _ {I O : Type 0} (taken : I → EndLog InCall) (sent : O → EndLog OutCall) where
  -- the cell that is ready, as it stands there
  pub record Known (config : Config) (parts : List (Part I O)) (log : Option (List PortCall)) (those : List (Leg O)) : Type 0 where
    pub apart : AreFree (pair_count config) (pairs_of_legs those)
    pub legs : (leg : Leg O) → In leg those → IsLegReady taken sent config parts log leg

  pub known : (config : Config) (parts : List (Part I O)) (log : Option (List PortCall)) (place : ℕ) (c : cell.Cell O) → IsCellReady taken sent config parts log place
      → slice_get parts place ≡ Some (part.Cell c) → Known config parts log c.legs.items × (c.config ≡ config)
  known config parts log place c ready is =
      let same : ready.cell ≡ c = same_cell parts place ready.cell c ready.cell_is is in (
        record {
          apart = subst (λ (d : cell.Cell O). AreFree (pair_count config) (pairs_of_legs d.legs.items)) same ready.apart;
          legs = subst (λ (d : cell.Cell O). (leg : Leg O) → In leg d.legs.items → IsLegReady taken sent config parts log leg) same ready.legs;
        },
        subst (λ (d : cell.Cell O). d.config ≡ config) same ready.config_is,
      )

  pub within_range : (config : Config) (those : List (Leg O)) (leg : Leg O) → AreFree (pair_count config) (pairs_of_legs those) → In leg those → leg.holder.pair < pair_count config
  within_range config those leg free among =
      below (pair_count config) (pairs_of_legs those) leg.holder.pair free (it_has leg.holder.pair (pairs_of_legs those) (maps (λ (l : Leg O). l.holder.pair) those among))

  -- what is known of the leg that is closed
  pub record IsNext (config : Config) (parts : List (Part I O)) (log : Option (List PortCall)) (those : List (Leg O)) (at : Addr) (a b : O) : Type 0 where
    pub first : IsFirstLeg config those at a b
    pub is_in : In first.leg those
    pub within : first.leg.holder.pair < pair_count config
    pub at_is : at ≡ port_address config first.leg.holder.pair Rtp
    pub ready : AreReady taken sent config parts log first.leg.holder.pair (Some (a, b))

  pub is_next : (config : Config) (parts : List (Part I O)) (log : Option (List PortCall)) (those : List (Leg O)) (at : Addr) (a b : O) → Known config parts log those
      → first_ends config those ≡ Some (at, a, b) → IsNext config parts log those at a b
  is_next config parts log those at a b have e =
      let first = first_leg config those at a b e in
      let leg = first.leg in
      let among : In leg those = subst (λ (l : List (Leg O)). In leg l) (sym first.legs_are) (in_right first.front (leg ∷ first.back) (here refl)) in
      let is = have.legs leg among in
      record {
        first = first;
        is_in = among;
        within = within_range config those leg have.apart among;
        at_is = first.at_is ∙ ap (leased_address config) is.lease_is;
        ready = subst (λ (o : Option (O × O)). AreReady taken sent config parts log leg.holder.pair o) first.ends_are is.ready;
      }

  -- a leg of another pair stays ready
  pub kept_ready : (config : Config) (old new : List (Part I O)) (was now : Option (List PortCall)) (q : ℕ) (ends : Option (O × O)) → slice_get new (box_of config q) ≡ slice_get old (box_of config q)
      → (IsPairOpen config was q → IsPairOpen config now q) → AreReady taken sent config old was q ends → AreReady taken sent config new now q ends
  kept_ready config old new was now q None same opened ready = tt
  kept_ready config old new was now q (Some ends) same opened ready =
      (ready.0, ready.1, record { box = ready.2.box; box_is = same ∙ ready.2.box_is; ends_are = ready.2.ends_are }, ready.3, opened ready.4)

  each_ready : (config : Config) (new : List (Part I O)) (now : Option (List PortCall)) (front : List (Leg O)) (leg : Leg O) (back : List (Leg O)) (other : Leg O)
      → ((o : Leg O) → In o front → IsLegReady taken sent config new now o) → ((o : Leg O) → In o back → IsLegReady taken sent config new now o)
      → IsLegReady taken sent config new now (without_ends leg) → In other (front ++ without_ends leg ∷ back) → IsLegReady taken sent config new now other
  each_ready config new now front leg back other before behind gone among = by (in_append front (without_ends leg ∷ back) among)
    where
      by : In other front ⊎ In other (without_ends leg ∷ back) → IsLegReady taken sent config new now other
      by (inl i) = before other i
      by (inr (here same)) = subst (λ (l : Leg O). IsLegReady taken sent config new now l) (sym same) gone
      by (inr (there i)) = behind other i

  pub closes_one : (config : Config) (place : ℕ) (old mid new : List (Part I O)) (was now : Option (List PortCall)) (at : Addr) (a b : O) (ins : I × I)
      → AreFamilies config → (ready : IsCellReady taken sent config old was place) (take : TakesAt old mid place (Some (at, a, b)))
      → (next : IsNext config old was take.was.legs.items at a b) → GivesBox mid new (box_of config next.first.leg.holder.pair) ins
      → Gained was now (λ calls. calls ≡ pair_closings taken sent config next.first.leg.holder.pair (Some (a, b)) (Some ins))
      → ClosesSome taken sent config place old was new now
  closes_one config place old mid new was now at a b ins families ready take next gives gained =
      let leg = next.first.leg in
      let p = leg.holder.pair in
      let those = take.was.legs.items in
      let have = (known config old was place take.was ready take.was_is).0 in
      let same_config = (known config old was place take.was ready take.was_is).1 in
      let low = ready.within in
      let elsewhere : (k : ℕ) → (k ≡ place → ⊥) → (k ≡ box_of config p → ⊥) → slice_get new k ≡ slice_get old k = λ k x y. gives.others k y ∙ take.others k x in
      let apart_box : place ≡ box_of config p → ⊥ = λ e. absurd (omega (arith, e, low)) in
      let now_is : slice_get new place ≡ Some (part.Cell take.now) = gives.others place apart_box ∙ take.now_is in
      let after : legs_at new place ≡ without_first those = legs_of_cell new place take.now now_is ∙ take.takes.legs in
      let before : legs_at old place ≡ those = legs_of_cell old place take.was take.was_is in
      let boxes : (q : ℕ) → (q ≡ p → ⊥) → slice_get new (box_of config q) ≡ slice_get old (box_of config q) =
      λ q other. elsewhere (box_of config q) (λ e. absurd (omega (arith, e, low))) (λ e. other (omega (arith, e))) in
      let open_kept : (q : ℕ) → q < pair_count config → (q ≡ p → ⊥) → IsPairOpen config was q → IsPairOpen config now q =
      λ q also other. still_open config p q was now families next.within also other
      (gained_less was now (λ calls. calls ≡ pair_closings taken sent config p (Some (a, b)) (Some ins)) (AllZip Closes (pair_addresses config (p ∷ [])))
      (λ calls is. subst (λ (cs : List PortCall). AllZip Closes (pair_addresses config (p ∷ [])) cs) (sym is) (refl, (refl, tt))) gained) in
      let free : AreFree (pair_count config) (pairs_of_legs (next.first.front ++ leg ∷ next.first.back)) =
      subst (λ (l : List (Leg O)). AreFree (pair_count config) (pairs_of_legs l)) next.first.legs_are have.apart in
      let apart : (other : Leg O) → In other next.first.front ⊎ In other next.first.back → other.holder.pair ≡ p → ⊥ =
      λ other among same. other_pairs (pair_count config) next.first.front leg next.first.back free other among same in
      let of_those : (other : Leg O) → In other (next.first.front ++ leg ∷ next.first.back) → In other those = λ other among. subst (λ (l : List (Leg O)). In other l) (sym next.first.legs_are) among in
      let stays : (other : Leg O) → In other those → (other.holder.pair ≡ p → ⊥) → IsLegReady taken sent config new now other = λ other among differs.
      let is = have.legs other among in
      record {
        lease_is = is.lease_is;
        ready = kept_ready config old new was now other.holder.pair other.sending.ends (boxes other.holder.pair differs)
            (open_kept other.holder.pair (within_range config those other have.apart among) differs) is.ready;
      } in
      let gone : IsLegReady taken sent config new now (without_ends leg) = record { lease_is = (have.legs leg next.is_in).lease_is; ready = tt } in
      let x = pair_closings taken sent config p (Some (a, b)) (Some ins) in
      let ins_are : box_ends_at config old p ≡ Some ins =
      sym (ap (λ (o : Option (Part I O)). box_ends_in o) (take.others (box_of config p) (λ e. apart_box (sym e)))) ∙ held_ends config mid p ins gives.gave in
      record {
        ready = record {
          cell = take.now;
          cell_is = now_is;
          config_is = take.takes.config ∙ same_config;
          within = low;
          apart = subst (λ (ps : List ℕ). AreFree (pair_count config) ps) (sym (ap (λ (l : List (Leg O)). pairs_of_legs l) take.takes.legs ∙ pairs_without those)) have.apart;
          legs = λ other among. each_ready config new now next.first.front leg next.first.back other
              (λ o i. stays o (of_those o (in_left next.first.front (leg ∷ next.first.back) i)) (apart o (inl i)))
              (λ o i. stays o (of_those o (in_right next.first.front (leg ∷ next.first.back) (there i))) (apart o (inr i))) gone
              (subst (λ (l : List (Leg O)). In other l) (take.takes.legs ∙ next.first.after_are) among);
        };
        closes = gained_less was now (λ calls. calls ≡ x) (λ calls. calls ++ cell_closings taken sent config new (legs_at new place) ≡ cell_closings taken sent config old (legs_at old place))
            (λ calls is. ap (λ (cs : List PortCall). cs ++ cell_closings taken sent config new (legs_at new place)) is
            ∙ ap (λ (l : List (Leg O)). x ++ cell_closings taken sent config new l) after
            ∙ closed_first taken sent config old new those at a b ins next.first ins_are
            (λ other i. ap (λ (o : Option (Part I O)). box_ends_in o) (boxes other.holder.pair (apart other (inr i))))
            ∙ sym (ap (λ (l : List (Leg O)). cell_closings taken sent config old l) before)) gained;
        keeps = λ c c_is. (
          take.now,
          now_is,
          subst (λ (d : cell.Cell O). KeepsAllButEnds d take.now) (same_cell old place take.was c take.was_is c_is) (gave_saves take.was take.now (Some (at, a, b)) take.takes),
        );
        pairs_are = ap (λ (l : List (Leg O)). pairs_of_legs l) after ∙ pairs_without those ∙ sym (ap (λ (l : List (Leg O)). pairs_of_legs l) before);
        others = λ k differs no_box. elsewhere k differs (λ e. no_box p (in_those p before (maps (λ (l : Leg O). l.holder.pair) those next.is_in)) e);
        still_open = λ q also not_in opened. open_kept q also (λ e. not_in (subst (λ (n : ℕ). In n (pairs_of_legs (legs_at old place))) (sym e)
            (in_those p before (maps (λ (l : Leg O). l.holder.pair) those next.is_in)))) opened;
        length_is = gives.length_is ∙ take.length_is;
      }
    where
      in_those : (p : ℕ) → legs_at old place ≡ take.was.legs.items → In p (pairs_of_legs take.was.legs.items) → In p (pairs_of_legs (legs_at old place))
      in_those p same among = subst (λ (l : List (Leg O)). In p (pairs_of_legs l)) (sym same) among

  -- the next leg, where one was taken
  pub next_of : (config : Config) (place : ℕ) (old mid : List (Part I O)) (was : Option (List PortCall)) (at : Addr) (a b : O) → IsCellReady taken sent config old was place
      → (take : TakesAt old mid place (Some (at, a, b))) → IsNext config old was take.was.legs.items at a b
  next_of config place old mid was at a b ready take =
      let have = known config old was place take.was ready take.was_is in
      is_next config old was take.was.legs.items at a b have.0 (ap (λ (k : Config). first_ends k take.was.legs.items) (sym have.1) ∙ sym take.takes.taken)

  same_ends : (parts : List (Part I O)) (k : ℕ) (x y : I × I) → HoldsEnds parts k x → HoldsEnds parts k y → x ≡ y
  same_ends parts k x y has also =
      let one = ap (λ (o : Option (Part I O)). box_ends_in o) has.box_is ∙ has.ends_are in
      let two = ap (λ (o : Option (Part I O)). box_ends_in o) also.box_is ∙ also.ends_are in
      let both = sym one ∙ two in
      cc

  pub still_holds : (config : Config) (place : ℕ) (old mid : List (Part I O)) (was : Option (List PortCall)) (at : Addr) (a b : O) (pair : ℕ) (ends : I × I) → IsCellReady taken sent config old was place
      → TakesAt old mid place (Some (at, a, b)) → HoldsEnds old (box_of config pair) ends → HoldsEnds mid (box_of config pair) ends
  still_holds config place old mid was at a b pair ends ready take has =
      let low = ready.within in
      record { box = has.box; box_is = take.others (box_of config pair) (λ e. absurd (omega (arith, e, low))) ∙ has.box_is; ends_are = has.ends_are }

  -- the in ends that the box gave are those of the pair
  pub ins_home : (config : Config) (place : ℕ) (old mid new : List (Part I O)) (was : Option (List PortCall)) (at : Addr) (a b : O) (ins : I × I) → IsCellReady taken sent config old was place
      → (take : TakesAt old mid place (Some (at, a, b))) (next : IsNext config old was take.was.legs.items at a b) → GivesBox mid new (box_of config next.first.leg.holder.pair) ins
      → AreOfPair taken (port_address config next.first.leg.holder.pair Rtp) ins.0 ins.1
  ins_home config place old mid new was at a b ins ready take next gives =
      let p = next.first.leg.holder.pair in
      subst (λ (i : I × I). AreOfPair taken (port_address config p Rtp) i.0 i.1)
      (same_ends mid (box_of config p) next.ready.1 ins (still_holds config place old mid was at a b p next.ready.1 ready take next.ready.2) gives.gave) next.ready.3

  pub fewer_left : (config : Config) (place : ℕ) (old mid new : List (Part I O)) (was : Option (List PortCall)) (at : Addr) (a b : O) (ins : I × I) → IsCellReady taken sent config old was place
      → (take : TakesAt old mid place (Some (at, a, b))) (next : IsNext config old was take.was.legs.items at a b) → GivesBox mid new (box_of config next.first.leg.holder.pair) ins
      → length (legs_with_ends (legs_at new place)) < length (legs_with_ends (legs_at old place))
  fewer_left config place old mid new was at a b ins ready take next gives =
      let those = take.was.legs.items in
      let low = ready.within in
      let p = next.first.leg.holder.pair in
      let apart_box : place ≡ box_of config p → ⊥ = λ e. absurd (omega (arith, e, low)) in
      let after : legs_at new place ≡ without_first those = legs_of_cell new place take.now (gives.others place apart_box ∙ take.now_is) ∙ take.takes.legs in
      let before : legs_at old place ≡ those = legs_of_cell old place take.was take.was_is in
      let x = ap (λ (l : List (Leg O)). length (legs_with_ends l)) after in
      let y = ap (λ (l : List (Leg O)). length (legs_with_ends l)) before in
      let less = one_fewer config those at a b next.first in
      omega (arith, x, y, less)

  -- none is closed, where none has its ends
  pub closes_none : (config : Config) (place : ℕ) (old new : List (Part I O)) (was : Option (List PortCall)) → IsCellReady taken sent config old was place
      → TakesAt old new place None → ClosesSome taken sent config place old was new was × (legs_with_ends (legs_at new place) ≡ [])
  closes_none config place old new was ready take =
      let those = take.was.legs.items in
      let have = known config old was place take.was ready take.was_is in
      let none = no_first config those (ap (λ (k : Config). first_ends k those) (sym have.1) ∙ sym take.takes.taken) in
      let low = ready.within in
      let legs_are : take.now.legs.items ≡ those = take.takes.legs ∙ none.0 in
      let after : legs_at new place ≡ those = legs_of_cell new place take.now take.now_is ∙ legs_are in
      let before : legs_at old place ≡ those = legs_of_cell old place take.was take.was_is in
      let boxes : (q : ℕ) → slice_get new (box_of config q) ≡ slice_get old (box_of config q) = λ q. take.others (box_of config q) (λ e. absurd (omega (arith, e, low))) in (
        record {
          ready = record {
            cell = take.now;
            cell_is = take.now_is;
            config_is = take.takes.config ∙ have.1;
            within = low;
            apart = subst (λ (l : List (Leg O)). AreFree (pair_count config) (pairs_of_legs l)) (sym legs_are) have.0.apart;
            legs = λ leg among.
                let is = have.0.legs leg (subst (λ (l : List (Leg O)). In leg l) legs_are among) in
                record { lease_is = is.lease_is; ready = kept_ready config old new was was leg.holder.pair leg.sending.ends (boxes leg.holder.pair) (λ o. o) is.ready };
          };
          closes = gained_none was (λ calls. calls ++ cell_closings taken sent config new (legs_at new place) ≡ cell_closings taken sent config old (legs_at old place))
              (ap (λ (l : List (Leg O)). cell_closings taken sent config new l) after
              ∙ same_closings taken sent config new old those (λ leg i. ap (λ (o : Option (Part I O)). box_ends_in o) (boxes leg.holder.pair))
              ∙ sym (ap (λ (l : List (Leg O)). cell_closings taken sent config old l) before));
          keeps = λ c c_is. (
            take.now,
            take.now_is,
            subst (λ (d : cell.Cell O). KeepsAllButEnds d take.now) (same_cell old place take.was c take.was_is c_is) (gave_saves take.was take.now None take.takes),
          );
          pairs_are = ap (λ (l : List (Leg O)). pairs_of_legs l) (after ∙ sym before);
          others = λ k differs no_box. take.others k differs;
          still_open = λ q also not_in opened. opened;
          length_is = take.length_is;
        },
        ap (λ (l : List (Leg O)). legs_with_ends l) after ∙ none.1,
      )
