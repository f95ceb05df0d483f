-- The lasting entries of a cell since its last End are those that the rounds of its live call owe; where its place has no live
-- call there are none.
use Rattle.std.proofs.Common.{◌≡◌, ◌∙◌, sym, ap, subst, refl, ℕ, ◌⊎◌, inl, inr, List, [], ◌∷◌, Bool, true, false, cond, map, length, ◌==◌, arith}
use Rattle.std.specs.List.{list_any}
use Rattle.relay_outside.specs.declared.settings.Config.{Config}
use Rattle.histories.specs.Words.{In, here, there, has}
use Rattle.histories.proofs.Lists.{any_is_in, maps, it_has, mapped, equal, equal_if}
use Rattle.call_cell.specs.Cells.{CellEvent, CellEntry, Prepare, Commit, ends, since_end}
use Rattle.call_cell.proofs.Since.{since_more}
use Rattle.call_cell.proofs.PrepareSteps.{any_true}
use Rattle.offer_answer.specs.Rounds.{Round}
use Rattle.offer_answer.specs.Plan as plan
use Rattle.call_board.specs.Acts as act
use Rattle.call_board.specs.Acts.{Call, Act, BoardEntry}
use Rattle.call_board.specs.Calls.{live, begun, begun_by_act, ended_by, rounds}
use Rattle.call_board.specs.Fits.{FitsBoard, IsFitting}
use Rattle.call_board.proofs.Told.{IsCallOf, begins, goes_on, IsAnswer}
use Rattle.call_board.proofs.Tells.{offer_told, answer_told, ended_live}
use Rattle.call_board.proofs.Calls.{begun_below, live_begun, live_before, ended_by_turn, ended_here, offered_live, live_numbers}
use Rattle.call_board.proofs.Cells.{live_cells}
use Rattle.relay_core.proofs.Rounded.{entries_of}
use Rattle.relay_core.proofs.CallRounds.{MoreRounds, none, by_offer, by_answer, more_rounds, rounds_offer, rounds_answer, no_rounds, offer_round}

abbrev pub events : List CellEntry → List CellEvent
events h = map (λ (e : CellEntry). e.event) h

-- the lasting entries of a place are those of its call
pub record Follows (place : ℕ) (xs : List CellEntry) (h : List BoardEntry) : Type 0 where
  pub live_is : (of : Call) → In of (live h) → of.cell ≡ place → events (since_end xs) ≡ events (entries_of of.number (rounds h of.number))
  pub none_is : ((of : Call) → In of (live h) → of.cell ≡ place → ⊥) → since_end xs ≡ []

-- What a board entry does at a place.

pub data DoesAt (x : BoardEntry) (place : ℕ) : Type 0 where
  offers : (p : act.Offer) → act.act x ≡ act.Offered p → p.of.cell ≡ place → DoesAt x place
  answers : (a : act.Answer) → act.act x ≡ act.Answered a → a.of.cell ≡ place → DoesAt x place
  ends_one : (d : Call) → In d (ended_by x) → d.cell ≡ place → DoesAt x place
  nothing : ((p : act.Offer) → act.act x ≡ act.Offered p → p.of.cell ≡ place → ⊥)
      → ((a : act.Answer) → act.act x ≡ act.Answered a → a.of.cell ≡ place → ⊥)
      → ((d : Call) → In d (ended_by x) → d.cell ≡ place → ⊥) → DoesAt x place

abbrev OffersAt : BoardEntry → ℕ → Type 0
OffersAt x place = (p : act.Offer) × (act.act x ≡ act.Offered p) × (p.of.cell ≡ place)

abbrev AnswersAt : BoardEntry → ℕ → Type 0
AnswersAt x place = (a : act.Answer) × (act.act x ≡ act.Answered a) × (a.of.cell ≡ place)

same_offer : (p r : act.Offer) → act.Offered p ≡ act.Offered r → p ≡ r
same_offer p r q = let e = q in cc

same_answer : (p r : act.Answer) → act.Answered p ≡ act.Answered r → p ≡ r
same_answer p r q = let e = q in cc

not_equal : (a b : ℕ) → (a == b) ≡ false → a ≡ b → ⊥
not_equal a b q e = let t = equal a b e in cc

offer_case : (x : BoardEntry) (place : ℕ) (p : act.Offer) → act.act x ≡ act.Offered p → (b : Bool) → (p.of.cell == place) ≡ b
    → OffersAt x place ⊎ ((r : act.Offer) → act.act x ≡ act.Offered r → r.of.cell ≡ place → ⊥)
offer_case x place p q true m = inl (p, q, equal_if p.of.cell place m)
offer_case x place p q false m =
    inr (λ r s at. not_equal p.of.cell place m (ap (λ (o : act.Offer). o.of.cell) (same_offer p r (sym q ∙ s)) ∙ at))

answer_case : (x : BoardEntry) (place : ℕ) (a : act.Answer) → act.act x ≡ act.Answered a → (b : Bool) → (a.of.cell == place) ≡ b
    → AnswersAt x place ⊎ ((r : act.Answer) → act.act x ≡ act.Answered r → r.of.cell ≡ place → ⊥)
answer_case x place a q true m = inl (a, q, equal_if a.of.cell place m)
answer_case x place a q false m =
    inr (λ r s at. not_equal a.of.cell place m (ap (λ (o : act.Answer). o.of.cell) (same_answer a r (sym q ∙ s)) ∙ at))

-- an act that is no offer, or no answer
abbrev is_offer : Act → Bool
is_offer (act.Offered p) = true
is_offer _ = false

abbrev is_answer : Act → Bool
is_answer (act.Answered a) = true
is_answer _ = false

no_offer : (x : BoardEntry) (place : ℕ) → is_offer (act.act x) ≡ false
    → OffersAt x place ⊎ ((r : act.Offer) → act.act x ≡ act.Offered r → r.of.cell ≡ place → ⊥)
no_offer x place q = inr (λ r s at. let t = ap is_offer s in let u = q in cc)

no_answer : (x : BoardEntry) (place : ℕ) → is_answer (act.act x) ≡ false
    → AnswersAt x place ⊎ ((r : act.Answer) → act.act x ≡ act.Answered r → r.of.cell ≡ place → ⊥)
no_answer x place q = inr (λ r s at. let t = ap is_answer s in let u = q in cc)

offers_by : (x : BoardEntry) (place : ℕ) (a : Act) → act.act x ≡ a → OffersAt x place ⊎ ((r : act.Offer) → act.act x ≡ act.Offered r → r.of.cell ≡ place → ⊥)
offers_by x place (act.Offered p) q = offer_case x place p q (p.of.cell == place) refl
offers_by x place (act.Answered a) q = no_offer x place (ap is_offer q)
offers_by x place act.Repeated q = no_offer x place (ap is_offer q)
offers_by x place act.OutOfMemory q = no_offer x place (ap is_offer q)
offers_by x place (act.Failed code) q = no_offer x place (ap is_offer q)
offers_by x place (act.Undone code leases draws) q = no_offer x place (ap is_offer q)
offers_by x place (act.Deleted of) q = no_offer x place (ap is_offer q)
offers_by x place (act.Queried of) q = no_offer x place (ap is_offer q)
offers_by x place act.Told q = no_offer x place (ap is_offer q)
offers_by x place (act.Delayed of s) q = no_offer x place (ap is_offer q)

answers_by : (x : BoardEntry) (place : ℕ) (a : Act) → act.act x ≡ a → AnswersAt x place ⊎ ((r : act.Answer) → act.act x ≡ act.Answered r → r.of.cell ≡ place → ⊥)
answers_by x place (act.Answered p) q = answer_case x place p q (p.of.cell == place) refl
answers_by x place (act.Offered a) q = no_answer x place (ap is_answer q)
answers_by x place act.Repeated q = no_answer x place (ap is_answer q)
answers_by x place act.OutOfMemory q = no_answer x place (ap is_answer q)
answers_by x place (act.Failed code) q = no_answer x place (ap is_answer q)
answers_by x place (act.Undone code leases draws) q = no_answer x place (ap is_answer q)
answers_by x place (act.Deleted of) q = no_answer x place (ap is_answer q)
answers_by x place (act.Queried of) q = no_answer x place (ap is_answer q)
answers_by x place act.Told q = no_answer x place (ap is_answer q)
answers_by x place (act.Delayed of s) q = no_answer x place (ap is_answer q)

none_any : (x : BoardEntry) (place : ℕ) → list_any (λ (d : Call). d.cell == place) (ended_by x) ≡ false → (d : Call) → In d (ended_by x) → d.cell ≡ place → ⊥
none_any x place q d i at =
    let t = any_true (λ (c : Call). c.cell == place) d (ended_by x) i (equal d.cell place at) in cc

does_case : (x : BoardEntry) (place : ℕ) → OffersAt x place ⊎ ((r : act.Offer) → act.act x ≡ act.Offered r → r.of.cell ≡ place → ⊥)
    → AnswersAt x place ⊎ ((r : act.Answer) → act.act x ≡ act.Answered r → r.of.cell ≡ place → ⊥)
    → (b : Bool) → list_any (λ (d : Call). d.cell == place) (ended_by x) ≡ b → DoesAt x place
does_case x place (inl p) a b q = offers p.0 p.1 p.2
does_case x place (inr p) (inl a) b q = answers a.0 a.1 a.2
does_case x place (inr p) (inr a) true q =
    let m = any_is_in (λ (d : Call). d.cell == place) (ended_by x) q in ends_one m.from m.is_in (equal_if m.from.cell place m.makes)
does_case x place (inr p) (inr a) false q = nothing p a (none_any x place q)

pub does_at : (x : BoardEntry) (place : ℕ) → DoesAt x place
does_at x place =
    does_case x place (offers_by x place (act.act x) refl) (answers_by x place (act.act x) refl) (list_any (λ (d : Call). d.cell == place) (ended_by x)) refl

-- A board entry that does nothing there.

begins_offered : (of : Call) (a : Act) → In of (begun_by_act a) → (p : act.Offer) × (a ≡ act.Offered p) × (p.of ≡ of)
begins_offered of (act.Offered p) i = go p.begins refl i
  where
    go : (b : Bool) → p.begins ≡ b → In of (cond b (p.of ∷ []) []) → (r : act.Offer) × (act.Offered p ≡ act.Offered r) × (r.of ≡ of)
    go true q (here e) = (p, refl, sym e)
    go true q (there j) = elim j [ ]
    go false q j = elim j [ ]
begins_offered of (act.Answered a) i = elim i [ ]
begins_offered of act.Repeated i = elim i [ ]
begins_offered of act.OutOfMemory i = elim i [ ]
begins_offered of (act.Failed code) i = elim i [ ]
begins_offered of (act.Undone code leases draws) i = elim i [ ]
begins_offered of (act.Deleted d) i = elim i [ ]
begins_offered of (act.Queried d) i = elim i [ ]
begins_offered of act.Told i = elim i [ ]
begins_offered of (act.Delayed d s) i = elim i [ ]

module _ (config : Config) (h : List BoardEntry) (x : BoardEntry) (good : IsFitting config h) (fits : FitsBoard config h x) (place : ℕ) where
  -- a call that an entry ends is not live after it
  ended_not : (of d : Call) → In d (ended_by x) → In of (live (x ∷ h)) → of.number ≡ d.number → ⊥
  ended_not of d i j same =
      let out = (live_before h x of j).1 in
      let it : has (map (λ (c : Call). c.number) (ended_by x)) of.number ≡ true
      = it_has of.number (map (λ (c : Call). c.number) (ended_by x)) (subst (λ n. In n (map (λ (c : Call). c.number) (ended_by x))) (sym same) (maps (λ (c : Call). c.number) (ended_by x) i)) in
      cc

  was_live : (of : Call) → In of (live (x ∷ h)) → ((p : act.Offer) → act.act x ≡ act.Offered p → p.of ≡ of → ⊥) → In of (live h)
  was_live of i none_begun = go (live_before h x of i).0
    where
      go : In of (live h) ⊎ In of (begun_by_act (act.act x)) → In of (live h)
      go (inl j) = j
      go (inr j) = let b = begins_offered of (act.act x) j in absurd (none_begun b.0 b.1 b.2)

  is_live_yet : (of : Call) → In of (live h) → ((d : Call) → In d (ended_by x) → d.cell ≡ of.cell → ⊥) → In of (live (x ∷ h))
  is_live_yet of i none_ended = go (ended_here h x of i)
    where
      go : In of (live (x ∷ h)) ⊎ In of.number (map (λ (d : Call). d.number) (ended_by x)) → In of (live (x ∷ h))
      go (inl j) = j
      go (inr j) =
          let m = mapped (λ (d : Call). d.number) (ended_by x) j in
          let same = live_numbers config h m.from of good (ended_live config h x m.from fits m.is_in) i m.makes in
          absurd (none_ended m.from m.is_in (ap (λ (c : Call). c.cell) same))

  offered_is : (of : Call) (p : act.Offer) → act.act x ≡ act.Offered p → In of (live (x ∷ h)) → p.of.number ≡ of.number → p.of ≡ of
  offered_is of p q i same = live_numbers config (x ∷ h) p.of of (fits, good) (offered_live config h x p good fits q) i same

  answered_is : (of : Call) (a : act.Answer) → act.act x ≡ act.Answered a → In of (live h) → a.of.number ≡ of.number → a.of ≡ of
  answered_is of a q i same = let shown = answer_told config h x a fits q in live_numbers config h a.of of good shown.is_live i same

  pub quiet_follows : (xs : List CellEntry) → ((p : act.Offer) → act.act x ≡ act.Offered p → p.of.cell ≡ place → ⊥)
      → ((a : act.Answer) → act.act x ≡ act.Answered a → a.of.cell ≡ place → ⊥) → ((d : Call) → In d (ended_by x) → d.cell ≡ place → ⊥)
      → Follows place xs h → Follows place xs (x ∷ h)
  quiet_follows xs no_o no_a no_d f = record { live_is = live_so; none_is = none_so }
    where
      live_so : (of : Call) → In of (live (x ∷ h)) → of.cell ≡ place → events (since_end xs) ≡ events (entries_of of.number (rounds (x ∷ h) of.number))
      live_so of i at =
          let was = was_live of i (λ p q same. no_o p q (ap (λ (c : Call). c.cell) same ∙ at)) in
          f.live_is of was at ∙ ap (λ (rs : List Round). events (entries_of of.number rs)) (sym (same_rounds was (more_rounds h x of.number)))
        where
          same_rounds : In of (live h) → MoreRounds h x of.number → rounds (x ∷ h) of.number ≡ rounds h of.number
          same_rounds was (none q) = q
          same_rounds was (by_offer p q m s) = absurd (no_o p q (ap (λ (c : Call). c.cell) (offered_is of p q i m) ∙ at))
          same_rounds was (by_answer a q m s) = absurd (no_a a q (ap (λ (c : Call). c.cell) (answered_is of a q was m) ∙ at))

      none_so : ((of : Call) → In of (live (x ∷ h)) → of.cell ≡ place → ⊥) → since_end xs ≡ []
      none_so nobody = f.none_is (λ of i at. nobody of (is_live_yet of i (λ d j same. no_d d j (same ∙ at))) at)

  -- An End.

  pub end_follows : (xs : List CellEntry) (d : Call) → In d (ended_by x) → d.cell ≡ place → since_end xs ≡ [] → Follows place xs (x ∷ h)
  end_follows xs d i at empty = record {
    live_is = λ of j p. absurd (not_live of j p (live_before h x of j).0);
    none_is = λ nobody. empty;
  }
    where
      no_offer_ends : (p : act.Offer) → act.act x ≡ act.Offered p → ⊥
      no_offer_ends p q =
          let shown = offer_told config h x p fits q in
          let j = subst (λ (cs : List Call). In d cs) (ended_by_turn x (act.Offered p) shown.turn) i in elim j [ ]

      not_live : (of : Call) → In of (live (x ∷ h)) → of.cell ≡ place → In of (live h) ⊎ In of (begun_by_act (act.act x)) → ⊥
      not_live of j p (inl k) =
          let same = live_cells config h of d good k (ended_live config h x d fits i) (p ∙ sym at) in
          ended_not of d i j (ap (λ (c : Call). c.number) same)
      not_live of j p (inr k) = let b = begins_offered of (act.act x) k in no_offer_ends b.0 b.1

  -- An offer.

  no_ends : (p : act.Offer) → act.act x ≡ act.Offered p → (d : Call) → In d (ended_by x) → ⊥
  no_ends p q d i =
      let shown = offer_told config h x p fits q in
      let j = subst (λ (cs : List Call). In d cs) (ended_by_turn x (act.Offered p) shown.turn) i in elim j [ ]

  -- before an offer its cell has what the rounds of its call owe
  pub before_offer : (ys : List CellEntry) (p : act.Offer) → act.act x ≡ act.Offered p → p.of.cell ≡ place → Follows place ys h
      → (id : List ℕ) → IsCallOf config h id p → events (since_end ys) ≡ events (entries_of p.of.number (rounds h p.of.number))
  before_offer ys p q at f id (goes_on b found alive) = f.live_is p.of alive at
  before_offer ys p q at f id (begins b new unfound room) =
      let number : p.of.number ≡ length (begun h) = ap (λ (c : Call). c.number) new in
      let no_round = no_rounds config h p.of.number good (omega (arith, number)) in
      ap events (f.none_is nobody) ∙ ap (λ (rs : List Round). events (entries_of p.of.number rs)) (sym no_round)
    where
      nobody : (of : Call) → In of (live h) → of.cell ≡ place → ⊥
      nobody of i cell =
          let yet = is_live_yet of i (λ d j same. no_ends p q d j) in
          let one = live_cells config (x ∷ h) of p.of (fits, good) yet (offered_live config h x p good fits q) (cell ∙ sym at) in
          let below = begun_below config h of good (live_begun h of i) in
          let same : of.number ≡ p.of.number = ap (λ (c : Call). c.number) one in
          let number : p.of.number ≡ length (begun h) = ap (λ (c : Call). c.number) new in
          omega (arith, below, same, number)

  pub offer_follows : (xs ys : List CellEntry) (c : CellEntry) (p : act.Offer) → act.act x ≡ act.Offered p → p.of.cell ≡ place → xs ≡ c ∷ ys
      → c.event ≡ Prepare p.of.number p.legs p.keys p.dropped → Follows place ys h → Follows place xs (x ∷ h)
  offer_follows xs ys c p q at split event f = record {
    live_is = λ of i cell.
        (let one = live_cells config (x ∷ h) of p.of (fits, good) i (offered_live config h x p good fits q) (cell ∙ sym at) in
        subst (λ (d : Call). events (since_end xs) ≡ events (entries_of d.number (rounds (x ∷ h) d.number))) (sym one) its_own);
    none_is = λ nobody. absurd (nobody p.of (offered_live config h x p good fits q) at);
  }
    where
      its_own : events (since_end xs) ≡ events (entries_of p.of.number (rounds (x ∷ h) p.of.number))
      its_own =
          let r = offer_round config h x p good fits q in
          let shown = offer_told config h x p fits q in
          ap (λ (l : List CellEntry). events (since_end l)) split ∙ ap events (since_more c ys (ap ends event))
          ∙ ap (λ (v : CellEvent). v ∷ events (since_end ys)) (event ∙ ap (λ (ns : List ℕ). Prepare p.of.number p.legs p.keys ns) r.dropped_are)
          ∙ ap (λ (vs : List CellEvent). Prepare p.of.number p.legs p.keys (plan.demand (rounds h p.of.number) p.ask).dropped ∷ vs)
          (before_offer ys p q at f shown.id shown.call_is)
          ∙ ap (λ (rs : List Round). events (entries_of p.of.number rs)) (sym (rounds_offer h x p q))

  -- An answer.

  pub answer_follows : (xs ys : List CellEntry) (c : CellEntry) (a : act.Answer) → act.act x ≡ act.Answered a → a.of.cell ≡ place → xs ≡ c ∷ ys
      → c.event ≡ Commit a.signal → Follows place ys h → Follows place xs (x ∷ h)
  answer_follows xs ys c a q at split event f = record {
    live_is = λ of i cell.
        (let one = live_cells config (x ∷ h) of a.of (fits, good) i still_live (cell ∙ sym at) in
        subst (λ (d : Call). events (since_end xs) ≡ events (entries_of d.number (rounds (x ∷ h) d.number))) (sym one) its_own);
    none_is = λ nobody. absurd (nobody a.of still_live at);
  }
    where
      shown : IsAnswer h x a
      shown = answer_told config h x a fits q

      still_live : In a.of (live (x ∷ h))
      still_live = is_live_yet a.of shown.is_live (λ d i same. no_end (subst (λ (cs : List Call). In d cs) (ended_by_turn x (act.Answered a) shown.turn) i))
        where
          no_end : {d : Call} → In d [] → ⊥
          no_end i = elim i [ ]

      its_own : events (since_end xs) ≡ events (entries_of a.of.number (rounds (x ∷ h) a.of.number))
      its_own =
          ap (λ (l : List CellEntry). events (since_end l)) split ∙ ap events (since_more c ys (ap ends event))
          ∙ ap (λ (v : CellEvent). v ∷ events (since_end ys)) (event ∙ ap Commit shown.signal_is)
          ∙ ap (λ (vs : List CellEvent). Commit (plan.signal (rounds h a.of.number) a.ask) ∷ vs) (f.live_is a.of shown.is_live at)
          ∙ ap (λ (rs : List Round). events (entries_of a.of.number rs)) (sym (rounds_answer h x a q))
