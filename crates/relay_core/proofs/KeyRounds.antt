-- Since an offer drew a key in the life of a section, no offer of that call leased pairs for the section.
use Rattle.std.proofs.Common.{◌≡◌, ◌∙◌, sym, ap, subst, refl, ℕ, List, [], ◌∷◌, ◌++◌, Bool, true, false, cond, ◌==◌}
use Rattle.std.specs.List.{list_any}
use Rattle.relay_outside.specs.declared.settings.Config.{Config}
use Rattle.histories.specs.Words.{In}
use Rattle.histories.proofs.Lists.{equal}
use Rattle.port_pool.specs.declared.holder.Holder.{Holder}
use Rattle.port_pool.specs.Signals.{NewKey}
use Rattle.offer_answer.specs.Rounds as round
use Rattle.offer_answer.specs.Rounds.{Round, OfferAsk}
use Rattle.offer_answer.specs.Sections.{leases}
use Rattle.offer_answer.specs.Laws.{KeepsPairs, IsDrawnInLife}
use Rattle.call_board.specs.Acts as act
use Rattle.call_board.specs.Acts.{Act, BoardEntry}
use Rattle.call_board.specs.Calls.{rounds, round_of}
use Rattle.call_board.specs.Fits.{IsFitting}
use Rattle.call_board.proofs.Moments.{Later, now, after, later_through, entry_fits}
use Rattle.call_board.proofs.Keys.{drawn_apart}

-- a key that was drawn in a section's life was drawn by the last round, or before it, and the last round leased nothing for the section
data ByLast (last : Round) (before : List Round) (section : ℕ) (key : NewKey) : Type 0 where
  drawn_now : (ask : OfferAsk) (legs : List Holder) (keys : List NewKey) → last ≡ round.Offered ask legs keys → In key keys → ByLast last before section key
  drawn_before : leases last section ≡ false → IsDrawnInLife before section key → ByLast last before section key

by_last_case : (last : Round) (before : List Round) (section : ℕ) (key : NewKey) (later : List Round) (ask : OfferAsk) (legs : List Holder) (keys : List NewKey)
    (earlier : List Round) → last ∷ before ≡ later ++ round.Offered ask legs keys ∷ earlier → In key keys
    → KeepsPairs section later (round.Offered ask legs keys ∷ earlier) → ByLast last before section key
by_last_case last before section key [] ask legs keys earlier q i k = let one : last ≡ round.Offered ask legs keys = cc in drawn_now ask legs keys one i
by_last_case last before section key (r ∷ later) ask legs keys earlier q i k =
    let one : r ≡ last = cc in
    let rest : before ≡ later ++ round.Offered ask legs keys ∷ earlier = cc in
    drawn_before (subst (λ (x : Round). leases x section ≡ false) one k.1)
    (record { later = later; ask = ask; legs = legs; keys = keys; earlier = earlier; rounds_are = rest; drawn = i; kept = k.2 })

by_last : (last : Round) (before : List Round) (section : ℕ) (key : NewKey) → IsDrawnInLife (last ∷ before) section key → ByLast last before section key
by_last last before section key d = by_last_case last before section key d.later d.ask d.legs d.keys d.earlier d.rounds_are d.drawn d.kept

-- the round that an entry makes in a call: none, an accepted offer, or an accepted answer
data RoundOf (call : ℕ) (a : Act) : Type 0 where
  no_round : round_of call a ≡ [] → RoundOf call a
  by_offer : (o : act.Offer) → a ≡ act.Offered o → round_of call a ≡ round.Offered o.ask o.legs o.keys ∷ [] → RoundOf call a
  by_answer : (o : act.Answer) → round_of call a ≡ round.Answered o.ask ∷ [] → RoundOf call a

offer_round : (call : ℕ) (o : act.Offer) → (b : Bool) → (o.of.number == call) ≡ b → RoundOf call (act.Offered o)
offer_round call o true q = by_offer o refl (ap (λ (b : Bool). cond b (round.Offered o.ask o.legs o.keys ∷ []) []) q)
offer_round call o false q = no_round (ap (λ (b : Bool). cond b (round.Offered o.ask o.legs o.keys ∷ []) []) q)

answer_round : (call : ℕ) (o : act.Answer) → (b : Bool) → (o.of.number == call) ≡ b → RoundOf call (act.Answered o)
answer_round call o true q = by_answer o (ap (λ (b : Bool). cond b (round.Answered o.ask ∷ []) []) q)
answer_round call o false q = no_round (ap (λ (b : Bool). cond b (round.Answered o.ask ∷ []) []) q)

round_by : (call : ℕ) (a : Act) → RoundOf call a
round_by call (act.Offered o) = offer_round call o (o.of.number == call) refl
round_by call (act.Answered o) = answer_round call o (o.of.number == call) refl
round_by call act.Repeated = no_round refl
round_by call act.OutOfMemory = no_round refl
round_by call (act.Failed code) = no_round refl
round_by call (act.Undone code leases draws) = no_round refl
round_by call (act.Deleted of) = no_round refl
round_by call (act.Queried of) = no_round refl
round_by call act.Told = no_round refl
round_by call (act.Delayed of s) = no_round refl

-- In what follows an entry x, after the history s, drew the key by an offer o.
module _ (config : Config) (call section : ℕ) (key : NewKey) (s : List BoardEntry) (x : BoardEntry) (o : act.Offer) (drew : act.act x ≡ act.Offered o)
    (has_key : In key o.keys) where
  -- no later entry draws it
  drawn_twice : (h : List BoardEntry) (y : BoardEntry) (p : act.Offer) (ask : OfferAsk) (legs : List Holder) (keys : List NewKey) → IsFitting config (y ∷ h)
      → Later (x ∷ s) h → act.act y ≡ act.Offered p → round.Offered p.ask p.legs p.keys ≡ round.Offered ask legs keys → In key keys → ⊥
  drawn_twice h y p ask legs keys fits late is q i =
      let keys_are : keys ≡ p.keys = cc in
      drawn_apart config s h x y o p key key late (entry_fits config x s h late fits.1) fits.0 drew is has_key (subst (λ ks. In key ks) keys_are i) refl

  before_case : (h : List BoardEntry) (g : BoardEntry) → IsFitting config (g ∷ h) → Later (x ∷ s) h → RoundOf call (act.act g)
      → IsDrawnInLife (rounds (g ∷ h) call) section key → IsDrawnInLife (rounds h call) section key
  before_case h g fits late (no_round q) d = subst (λ rs. IsDrawnInLife (rs ++ rounds h call) section key) q d
  before_case h g fits late (by_answer a q) d =
      by_case (by_last (round.Answered a.ask) (rounds h call) section key (subst (λ rs. IsDrawnInLife (rs ++ rounds h call) section key) q d))
    where
      by_case : ByLast (round.Answered a.ask) (rounds h call) section key → IsDrawnInLife (rounds h call) section key
      by_case (drawn_now ask legs keys e i) = absurd (let k = e in cc)
      by_case (drawn_before none before) = before
  before_case h g fits late (by_offer p is q) d =
      by_case (by_last (round.Offered p.ask p.legs p.keys) (rounds h call) section key (subst (λ rs. IsDrawnInLife (rs ++ rounds h call) section key) q d))
    where
      by_case : ByLast (round.Offered p.ask p.legs p.keys) (rounds h call) section key → IsDrawnInLife (rounds h call) section key
      by_case (drawn_now ask legs keys e i) = absurd (drawn_twice h g p ask legs keys fits late is e i)
      by_case (drawn_before none before) = before

  now_case : (h : List BoardEntry) (y : BoardEntry) (p : act.Offer) → IsFitting config (y ∷ h) → Later (x ∷ s) h → act.act y ≡ act.Offered p
      → list_any (λ (leg : Holder). leg.section == section) p.legs ≡ true → ByLast (round.Offered p.ask p.legs p.keys) (rounds h call) section key → ⊥
  now_case h y p fits late is leased (drawn_now ask legs keys e i) = drawn_twice h y p ask legs keys fits late is e i
  now_case h y p fits late is leased (drawn_before none before) = let k = leased in let m = none in cc

  -- so no later offer of the call leased pairs for the section, where the key was drawn in the section's life
  pub none_leased : (t : List BoardEntry) (y : BoardEntry) (p : act.Offer) (h : List BoardEntry) → IsFitting config h → Later (x ∷ s) t → Later (y ∷ t) h
      → act.act y ≡ act.Offered p → p.of.number ≡ call → list_any (λ (leg : Holder). leg.section == section) p.legs ≡ true
      → IsDrawnInLife (rounds h call) section key → ⊥
  none_leased t y p h fits late (now q) is of leased d =
      let rounds_are : round_of call (act.act y) ≡ round.Offered p.ask p.legs p.keys ∷ [] =
      ap (round_of call) is ∙ ap (λ (b : Bool). cond b (round.Offered p.ask p.legs p.keys ∷ []) []) (equal p.of.number call of) in
      let here : IsDrawnInLife (rounds (y ∷ t) call) section key = subst (λ k. IsDrawnInLife (rounds k call) section key) (sym q) d in
      now_case t y p (subst (IsFitting config) (sym q) fits) late is leased
      (by_last (round.Offered p.ask p.legs p.keys) (rounds t call) section key
      (subst (λ rs. IsDrawnInLife (rs ++ rounds t call) section key) rounds_are here))
  none_leased t y p (g ∷ h) fits late (after later) is of leased d =
      none_leased t y p h fits.1 late later is of leased
      (before_case h g fits (later_through (after late) later) (round_by call (act.act g)) d)
