use Rattle.std.proofs.Common.{arith, ◌≡◌, ◌^◌, ◌<◌, [], ◌∷◌, length, Some, None, sym, refl, ap, ◌∙◌, subst, inl, inr}
use Rattle.atomic_table.specs.Table.{rest}
use Rattle.atomic_table.specs.Seated.{TableId}
use Rattle.turn_table.specs.declared.view.Phase.TheVariants.{Marked, Out, Held}
use Rattle.turn_table.specs.Histories.{seen_at, phase_at}
use Rattle.turn_table.specs.Steps.{noted, tried, phased, GivenView}
use Rattle.turn_table.proofs.Lists.{phase_here}
use Rattle.turn_table.proofs.Calls.{no_turn, got_is, held_out, sees, after_mark, after_look, after_count, after_return, after_empty, swapped, taken_view, returned_view, taken_turns, returned_turns}
use Rattle.turn_table.proofs.Keeps.{IsAt}
use Rattle.turn_table.proofs.Asks.{marks_at, looks_at, counts_at, returns_at, empties_at, lies_at, hand_again}
use Rattle.turn_table.proofs.Spans.{alone}
use Rattle.turn_table.proofs.hands.Turns.try_turn.Goals as goal

pub compare_exchange-requires : goal.compare_exchange-requires
compare_exchange-requires g c =
    let k = c.args.place in let spot = c.spot-spot.result in let v = c.args.hand.now.seat.me.0 in let live = c.args.hand.now.live in let long = c.args.hand.now.long in let rel = g.M.Machine.relates in let res = g.M.Machine.reserved in
    let starts = c.args.self.now.table.shared.key.value.items in let slots = c.args.self.now.table.shared.table_id.slots in
    let lies : IsAt v k spot = lies_at v k c.args.self.now.rows spot c.args.hand.now.seat.table_id.slots slots c.requires.place.0 long (ap (λ (z : TableId). z.slots) c.requires.table) c.args.self.now.deep c.spot-spot.ensures.value in
    let none_yet = no_turn v.turns k c.requires.place.1 in
    let e₀ : c.args.hand.now.seat.me ≡ (v, []) = λ i. (v, c.args.hand.now.empty i) in
    let wide = c.args.self.now.wide in let deep = c.args.self.now.deep in let inside = c.spot-spot.ensures.low in (c.requires.table, omega arith, marks_at rel res starts slots _ k spot _ v e₀ lies live none_yet)

pub load-front-requires : goal.load-front-requires
load-front-requires g c =
    let k = c.args.place in let spot = c.spot-spot.result in let v = c.args.hand.now.seat.me.0 in let live = c.args.hand.now.live in let long = c.args.hand.now.long in let rel = g.M.Machine.relates in let res = g.M.Machine.reserved in
    let starts = c.args.self.now.table.shared.key.value.items in let slots = c.args.self.now.table.shared.table_id.slots in
    let lies : IsAt v k spot = lies_at v k c.args.self.now.rows spot c.args.hand.now.seat.table_id.slots slots c.requires.place.0 long (ap (λ (z : TableId). z.slots) c.requires.table) c.args.self.now.deep c.spot-spot.ensures.value in
    let none_yet = no_turn v.turns k c.requires.place.1 in
    let e₀ : c.args.hand.now.seat.me ≡ (v, []) = λ i. (v, c.args.hand.now.empty i) in
    let h₁ = after_mark rel res k spot c.compare_exchange.result v lies _ c.compare_exchange.new.seat.me e₀ c.compare_exchange.ensures.2 in
    let lost = h₁.1 c.if-compare_exchange-ne0.true in
    let wide = c.args.self.now.wide in let deep = c.args.self.now.deep in let inside = c.spot-spot.ensures.low in (c.compare_exchange.ensures.0 ∙ c.requires.table, omega arith, looks_at rel res starts slots _ k spot _ (tried k 1 v) lost.1 lies live)

pub invariant_of-hand : goal.invariant_of-hand
invariant_of-hand g c =
    let k = c.args.place in let spot = c.spot-spot.result in let v = c.args.hand.now.seat.me.0 in let live = c.args.hand.now.live in let long = c.args.hand.now.long in let rel = g.M.Machine.relates in let res = g.M.Machine.reserved in
    let starts = c.args.self.now.table.shared.key.value.items in let slots = c.args.self.now.table.shared.table_id.slots in
    let lies : IsAt v k spot = lies_at v k c.args.self.now.rows spot c.args.hand.now.seat.table_id.slots slots c.requires.place.0 long (ap (λ (z : TableId). z.slots) c.requires.table) c.args.self.now.deep c.spot-spot.ensures.value in
    let none_yet = no_turn v.turns k c.requires.place.1 in
    let e₀ : c.args.hand.now.seat.me ≡ (v, []) = λ i. (v, c.args.hand.now.empty i) in
    let h₁ = after_mark rel res k spot c.compare_exchange.result v lies _ c.compare_exchange.new.seat.me e₀ c.compare_exchange.ensures.2 in
    let lost = h₁.1 c.if-compare_exchange-ne0.true in
    let n = c.load-front.result in let h₂ = after_look k spot n (tried k 1 v) lies _ c.load-front.new.seat.me lost.1 c.load-front.ensures.2 in let e₂ = h₂.0 in
    let h = hand_again _ v (noted k n (tried k 1 v)) c.args.hand.now.seat.table_id _ e₂ (c.load-front.ensures.0 ∙ c.compare_exchange.ensures.0) refl refl live long in record { empty = h.0; live = h.1; long = h.2 }

pub returns-then-compare_exchange-ne0-clause-same : goal.returns-then-compare_exchange-ne0-clause-same
returns-then-compare_exchange-ne0-clause-same g c =
    let k = c.args.place in let spot = c.spot-spot.result in let v = c.args.hand.now.seat.me.0 in let live = c.args.hand.now.live in let long = c.args.hand.now.long in let rel = g.M.Machine.relates in let res = g.M.Machine.reserved in
    let starts = c.args.self.now.table.shared.key.value.items in let slots = c.args.self.now.table.shared.table_id.slots in
    let lies : IsAt v k spot = lies_at v k c.args.self.now.rows spot c.args.hand.now.seat.table_id.slots slots c.requires.place.0 long (ap (λ (z : TableId). z.slots) c.requires.table) c.args.self.now.deep c.spot-spot.ensures.value in
    let none_yet = no_turn v.turns k c.requires.place.1 in
    let e₀ : c.args.hand.now.seat.me ≡ (v, []) = λ i. (v, c.args.hand.now.empty i) in
    let h₁ = after_mark rel res k spot c.compare_exchange.result v lies _ c.compare_exchange.new.seat.me e₀ c.compare_exchange.ensures.2 in
    let lost = h₁.1 c.if-compare_exchange-ne0.true in
    let n = c.load-front.result in let h₂ = after_look k spot n (tried k 1 v) lies _ c.load-front.new.seat.me lost.1 c.load-front.ensures.2 in let e₂ = h₂.0 in
    (((c.load-front.ensures.0 ∙ c.compare_exchange.ensures.0), ap (λ m. m.0.starts) e₂, ap (λ m. m.0.parts) e₂, ap (λ m. m.0.main) e₂), ap (λ m. m.0.entries) e₂)

pub returns-then-compare_exchange-ne0-clause-alone : goal.returns-then-compare_exchange-ne0-clause-alone
returns-then-compare_exchange-ne0-clause-alone g c =
    let k = c.args.place in let spot = c.spot-spot.result in let v = c.args.hand.now.seat.me.0 in let live = c.args.hand.now.live in let long = c.args.hand.now.long in let rel = g.M.Machine.relates in let res = g.M.Machine.reserved in
    let starts = c.args.self.now.table.shared.key.value.items in let slots = c.args.self.now.table.shared.table_id.slots in
    let lies : IsAt v k spot = lies_at v k c.args.self.now.rows spot c.args.hand.now.seat.table_id.slots slots c.requires.place.0 long (ap (λ (z : TableId). z.slots) c.requires.table) c.args.self.now.deep c.spot-spot.ensures.value in
    let none_yet = no_turn v.turns k c.requires.place.1 in
    let e₀ : c.args.hand.now.seat.me ≡ (v, []) = λ i. (v, c.args.hand.now.empty i) in
    let h₁ = after_mark rel res k spot c.compare_exchange.result v lies _ c.compare_exchange.new.seat.me e₀ c.compare_exchange.ensures.2 in
    let lost = h₁.1 c.if-compare_exchange-ne0.true in
    λ all. absurd (alone rel res v.starts k v all refl lost.2)

pub returns-then-compare_exchange-ne0-clause-turn : goal.returns-then-compare_exchange-ne0-clause-turn
returns-then-compare_exchange-ne0-clause-turn g c =
    let k = c.args.place in let spot = c.spot-spot.result in let v = c.args.hand.now.seat.me.0 in let live = c.args.hand.now.live in let long = c.args.hand.now.long in let rel = g.M.Machine.relates in let res = g.M.Machine.reserved in
    let starts = c.args.self.now.table.shared.key.value.items in let slots = c.args.self.now.table.shared.table_id.slots in
    let lies : IsAt v k spot = lies_at v k c.args.self.now.rows spot c.args.hand.now.seat.table_id.slots slots c.requires.place.0 long (ap (λ (z : TableId). z.slots) c.requires.table) c.args.self.now.deep c.spot-spot.ensures.value in
    let none_yet = no_turn v.turns k c.requires.place.1 in
    let e₀ : c.args.hand.now.seat.me ≡ (v, []) = λ i. (v, c.args.hand.now.empty i) in
    let h₁ = after_mark rel res k spot c.compare_exchange.result v lies _ c.compare_exchange.new.seat.me e₀ c.compare_exchange.ensures.2 in
    let lost = h₁.1 c.if-compare_exchange-ne0.true in
    let n = c.load-front.result in let h₂ = after_look k spot n (tried k 1 v) lies _ c.load-front.new.seat.me lost.1 c.load-front.ensures.2 in let e₂ = h₂.0 in
    let s = sees v.seen k n h₂.1 in
    (inl lost.2, h₂.2, h₂.1, λ j. ap (λ m. phase_at m.0.turns j) e₂, (ap (λ m. seen_at m.0.seen k) e₂ ∙ s.0, λ j ne. ap (λ m. seen_at m.0.seen j) e₂ ∙ s.1 j ne))

pub load-front-requires-2 : goal.load-front-requires-2
load-front-requires-2 g c =
    let k = c.args.place in let spot = c.spot-spot.result in let v = c.args.hand.now.seat.me.0 in let live = c.args.hand.now.live in let long = c.args.hand.now.long in let rel = g.M.Machine.relates in let res = g.M.Machine.reserved in
    let starts = c.args.self.now.table.shared.key.value.items in let slots = c.args.self.now.table.shared.table_id.slots in
    let lies : IsAt v k spot = lies_at v k c.args.self.now.rows spot c.args.hand.now.seat.table_id.slots slots c.requires.place.0 long (ap (λ (z : TableId). z.slots) c.requires.table) c.args.self.now.deep c.spot-spot.ensures.value in
    let none_yet = no_turn v.turns k c.requires.place.1 in
    let e₀ : c.args.hand.now.seat.me ≡ (v, []) = λ i. (v, c.args.hand.now.empty i) in
    let h₁ = after_mark rel res k spot c.compare_exchange.result v lies _ c.compare_exchange.new.seat.me e₀ c.compare_exchange.ensures.2 in
    let won = h₁.0 c.if-compare_exchange-ne0.false in let x = won.0 in let v₁ = phased k (Marked x) (tried k 0 v) in
    let wide = c.args.self.now.wide in let deep = c.args.self.now.deep in let inside = c.spot-spot.ensures.low in (c.compare_exchange.ensures.0 ∙ c.requires.table, omega arith, counts_at rel res starts slots _ k spot _ v₁ ((spot, Some x) ∷ []) won.1 lies live x (phase_here v.turns k (Marked x)))

pub store-requires : goal.store-requires
store-requires g c =
    let k = c.args.place in let spot = c.spot-spot.result in let v = c.args.hand.now.seat.me.0 in let live = c.args.hand.now.live in let long = c.args.hand.now.long in let rel = g.M.Machine.relates in let res = g.M.Machine.reserved in
    let starts = c.args.self.now.table.shared.key.value.items in let slots = c.args.self.now.table.shared.table_id.slots in
    let lies : IsAt v k spot = lies_at v k c.args.self.now.rows spot c.args.hand.now.seat.table_id.slots slots c.requires.place.0 long (ap (λ (z : TableId). z.slots) c.requires.table) c.args.self.now.deep c.spot-spot.ensures.value in
    let none_yet = no_turn v.turns k c.requires.place.1 in
    let e₀ : c.args.hand.now.seat.me ≡ (v, []) = λ i. (v, c.args.hand.now.empty i) in
    let h₁ = after_mark rel res k spot c.compare_exchange.result v lies _ c.compare_exchange.new.seat.me e₀ c.compare_exchange.ensures.2 in
    let won = h₁.0 c.if-compare_exchange-ne0.false in let x = won.0 in let v₁ = phased k (Marked x) (tried k 0 v) in
    let n = c.load-front-2.result in let h₂ = after_count rel res k spot n x v lies _ c.load-front-2.new.seat.me won.1 c.load-front-2.ensures.2 in let e₂ = h₂.0 in
    let w₂ = phased k (Out n x) (noted k n v₁) in
    let wide = c.args.self.now.wide in let deep = c.args.self.now.deep in let inside = c.spot-spot.ensures.low in ((c.load-front-2.ensures.0 ∙ c.compare_exchange.ensures.0) ∙ c.requires.table, omega arith, returns_at rel res starts slots _ k spot _ w₂ n x e₂ lies live (phase_here v₁.turns k (Out n x)))

pub invariant_of-hand-then-front-eq-LAST : goal.invariant_of-hand-then-front-eq-LAST
invariant_of-hand-then-front-eq-LAST g c =
    let k = c.args.place in let spot = c.spot-spot.result in let v = c.args.hand.now.seat.me.0 in let live = c.args.hand.now.live in let long = c.args.hand.now.long in let rel = g.M.Machine.relates in let res = g.M.Machine.reserved in
    let starts = c.args.self.now.table.shared.key.value.items in let slots = c.args.self.now.table.shared.table_id.slots in
    let lies : IsAt v k spot = lies_at v k c.args.self.now.rows spot c.args.hand.now.seat.table_id.slots slots c.requires.place.0 long (ap (λ (z : TableId). z.slots) c.requires.table) c.args.self.now.deep c.spot-spot.ensures.value in
    let none_yet = no_turn v.turns k c.requires.place.1 in
    let e₀ : c.args.hand.now.seat.me ≡ (v, []) = λ i. (v, c.args.hand.now.empty i) in
    let h₁ = after_mark rel res k spot c.compare_exchange.result v lies _ c.compare_exchange.new.seat.me e₀ c.compare_exchange.ensures.2 in
    let won = h₁.0 c.if-compare_exchange-ne0.false in let x = won.0 in let v₁ = phased k (Marked x) (tried k 0 v) in
    let n = c.load-front-2.result in let h₂ = after_count rel res k spot n x v lies _ c.load-front-2.new.seat.me won.1 c.load-front-2.ensures.2 in let e₂ = h₂.0 in
    let w₂ = phased k (Out n x) (noted k n v₁) in
    let e₃ = after_return k spot w₂ lies ((spot, Some x) ∷ []) _ c.store.new.seat.me e₂ c.store.ensures.2 in
    let h = hand_again _ v (returned_view k n x v) c.args.hand.now.seat.table_id _ e₃ (c.store.ensures.0 ∙ (c.load-front-2.ensures.0 ∙ c.compare_exchange.ensures.0)) refl refl live long in record { empty = h.0; live = h.1; long = h.2 }

pub returns-then-front-eq-LAST-clause-same : goal.returns-then-front-eq-LAST-clause-same
returns-then-front-eq-LAST-clause-same g c =
    let k = c.args.place in let spot = c.spot-spot.result in let v = c.args.hand.now.seat.me.0 in let live = c.args.hand.now.live in let long = c.args.hand.now.long in let rel = g.M.Machine.relates in let res = g.M.Machine.reserved in
    let starts = c.args.self.now.table.shared.key.value.items in let slots = c.args.self.now.table.shared.table_id.slots in
    let lies : IsAt v k spot = lies_at v k c.args.self.now.rows spot c.args.hand.now.seat.table_id.slots slots c.requires.place.0 long (ap (λ (z : TableId). z.slots) c.requires.table) c.args.self.now.deep c.spot-spot.ensures.value in
    let none_yet = no_turn v.turns k c.requires.place.1 in
    let e₀ : c.args.hand.now.seat.me ≡ (v, []) = λ i. (v, c.args.hand.now.empty i) in
    let h₁ = after_mark rel res k spot c.compare_exchange.result v lies _ c.compare_exchange.new.seat.me e₀ c.compare_exchange.ensures.2 in
    let won = h₁.0 c.if-compare_exchange-ne0.false in let x = won.0 in let v₁ = phased k (Marked x) (tried k 0 v) in
    let n = c.load-front-2.result in let h₂ = after_count rel res k spot n x v lies _ c.load-front-2.new.seat.me won.1 c.load-front-2.ensures.2 in let e₂ = h₂.0 in
    let w₂ = phased k (Out n x) (noted k n v₁) in
    let e₃ = after_return k spot w₂ lies ((spot, Some x) ∷ []) _ c.store.new.seat.me e₂ c.store.ensures.2 in
    (((c.store.ensures.0 ∙ (c.load-front-2.ensures.0 ∙ c.compare_exchange.ensures.0)), ap (λ m. m.0.starts) e₃, ap (λ m. m.0.parts) e₃, ap (λ m. m.0.main) e₃), ap (λ m. m.0.entries) e₃)

pub returns-then-front-eq-LAST-clause-turn : goal.returns-then-front-eq-LAST-clause-turn
returns-then-front-eq-LAST-clause-turn g c =
    let k = c.args.place in let spot = c.spot-spot.result in let v = c.args.hand.now.seat.me.0 in let live = c.args.hand.now.live in let long = c.args.hand.now.long in let rel = g.M.Machine.relates in let res = g.M.Machine.reserved in
    let starts = c.args.self.now.table.shared.key.value.items in let slots = c.args.self.now.table.shared.table_id.slots in
    let lies : IsAt v k spot = lies_at v k c.args.self.now.rows spot c.args.hand.now.seat.table_id.slots slots c.requires.place.0 long (ap (λ (z : TableId). z.slots) c.requires.table) c.args.self.now.deep c.spot-spot.ensures.value in
    let none_yet = no_turn v.turns k c.requires.place.1 in
    let e₀ : c.args.hand.now.seat.me ≡ (v, []) = λ i. (v, c.args.hand.now.empty i) in
    let h₁ = after_mark rel res k spot c.compare_exchange.result v lies _ c.compare_exchange.new.seat.me e₀ c.compare_exchange.ensures.2 in
    let won = h₁.0 c.if-compare_exchange-ne0.false in let x = won.0 in let v₁ = phased k (Marked x) (tried k 0 v) in
    let n = c.load-front-2.result in let h₂ = after_count rel res k spot n x v lies _ c.load-front-2.new.seat.me won.1 c.load-front-2.ensures.2 in let e₂ = h₂.0 in
    let w₂ = phased k (Out n x) (noted k n v₁) in
    let e₃ = after_return k spot w₂ lies ((spot, Some x) ∷ []) _ c.store.new.seat.me e₂ c.store.ensures.2 in
    let s = sees v.seen k n h₂.1 in
    (inr c.if-front-eq-LAST.true, h₂.2, h₂.1, λ j. ap (λ m. phase_at m.0.turns j) e₃ ∙ returned_turns k n x v none_yet j, (ap (λ m. seen_at m.0.seen k) e₃ ∙ s.0, λ j ne. ap (λ m. seen_at m.0.seen j) e₃ ∙ s.1 j ne))

pub slot_mut-requires : goal.slot_mut-requires
slot_mut-requires g c =
    let k = c.args.place in let spot = c.spot-spot.result in let v = c.args.hand.now.seat.me.0 in let live = c.args.hand.now.live in let long = c.args.hand.now.long in let rel = g.M.Machine.relates in let res = g.M.Machine.reserved in
    let starts = c.args.self.now.table.shared.key.value.items in let slots = c.args.self.now.table.shared.table_id.slots in
    let lies : IsAt v k spot = lies_at v k c.args.self.now.rows spot c.args.hand.now.seat.table_id.slots slots c.requires.place.0 long (ap (λ (z : TableId). z.slots) c.requires.table) c.args.self.now.deep c.spot-spot.ensures.value in
    let none_yet = no_turn v.turns k c.requires.place.1 in
    let e₀ : c.args.hand.now.seat.me ≡ (v, []) = λ i. (v, c.args.hand.now.empty i) in
    let h₁ = after_mark rel res k spot c.compare_exchange.result v lies _ c.compare_exchange.new.seat.me e₀ c.compare_exchange.ensures.2 in
    let won = h₁.0 c.if-compare_exchange-ne0.false in let x = won.0 in let v₁ = phased k (Marked x) (tried k 0 v) in
    let n = c.load-front-2.result in let h₂ = after_count rel res k spot n x v lies _ c.load-front-2.new.seat.me won.1 c.load-front-2.ensures.2 in let e₂ = h₂.0 in
    let w₂ = phased k (Out n x) (noted k n v₁) in
    ((c.load-front-2.ensures.0 ∙ c.compare_exchange.ensures.0) ∙ c.requires.table, held_out spot (Some x) _ (ap (λ m. m.1) e₂))

pub unreachable-requires : goal.unreachable-requires
unreachable-requires g c =
    let k = c.args.place in let spot = c.spot-spot.result in let v = c.args.hand.now.seat.me.0 in let live = c.args.hand.now.live in let long = c.args.hand.now.long in let rel = g.M.Machine.relates in let res = g.M.Machine.reserved in
    let starts = c.args.self.now.table.shared.key.value.items in let slots = c.args.self.now.table.shared.table_id.slots in
    let lies : IsAt v k spot = lies_at v k c.args.self.now.rows spot c.args.hand.now.seat.table_id.slots slots c.requires.place.0 long (ap (λ (z : TableId). z.slots) c.requires.table) c.args.self.now.deep c.spot-spot.ensures.value in
    let none_yet = no_turn v.turns k c.requires.place.1 in
    let e₀ : c.args.hand.now.seat.me ≡ (v, []) = λ i. (v, c.args.hand.now.empty i) in
    let h₁ = after_mark rel res k spot c.compare_exchange.result v lies _ c.compare_exchange.new.seat.me e₀ c.compare_exchange.ensures.2 in
    let won = h₁.0 c.if-compare_exchange-ne0.false in let x = won.0 in let v₁ = phased k (Marked x) (tried k 0 v) in
    let n = c.load-front-2.result in let h₂ = after_count rel res k spot n x v lies _ c.load-front-2.new.seat.me won.1 c.load-front-2.ensures.2 in let e₂ = h₂.0 in
    let w₂ = phased k (Out n x) (noted k n v₁) in
    let got = got_is spot (Some x) c.slot_mut.result.now (rest c.load-front-2.new.seat.me.1) (sym (ap (λ m. m.1) e₂) ∙ c.slot_mut.ensures.value) ∙ sym c.swap.ensures.0 in
    c.in_default.not-Some x (sym got)

pub load-requires : goal.load-requires
load-requires g c =
    let k = c.args.place in let spot = c.spot-spot.result in let v = c.args.hand.now.seat.me.0 in let live = c.args.hand.now.live in let long = c.args.hand.now.long in let rel = g.M.Machine.relates in let res = g.M.Machine.reserved in
    let starts = c.args.self.now.table.shared.key.value.items in let slots = c.args.self.now.table.shared.table_id.slots in
    let lies : IsAt v k spot = lies_at v k c.args.self.now.rows spot c.args.hand.now.seat.table_id.slots slots c.requires.place.0 long (ap (λ (z : TableId). z.slots) c.requires.table) c.args.self.now.deep c.spot-spot.ensures.value in
    let none_yet = no_turn v.turns k c.requires.place.1 in
    let e₀ : c.args.hand.now.seat.me ≡ (v, []) = λ i. (v, c.args.hand.now.empty i) in
    let h₁ = after_mark rel res k spot c.compare_exchange.result v lies _ c.compare_exchange.new.seat.me e₀ c.compare_exchange.ensures.2 in
    let won = h₁.0 c.if-compare_exchange-ne0.false in let x = won.0 in let v₁ = phased k (Marked x) (tried k 0 v) in
    let n = c.load-front-2.result in let h₂ = after_count rel res k spot n x v lies _ c.load-front-2.new.seat.me won.1 c.load-front-2.ensures.2 in let e₂ = h₂.0 in
    let w₂ = phased k (Out n x) (noted k n v₁) in
    let e₃ = swapped spot (Some x) None c.swap.new.self w₂ c.load-front-2.new.seat.me e₂ c.swap.ensures.1 in
    let low : n < 2 ^ 56 = let l = h₂.2 in let ne = c.if-front-eq-LAST.false in omega arith in
    let wide = c.args.self.now.wide in let deep = c.args.self.now.deep in let inside = c.spot-spot.ensures.low in ((c.load-front-2.ensures.0 ∙ c.compare_exchange.ensures.0) ∙ c.requires.table, omega arith, empties_at rel res starts slots _ k spot _ w₂ n x e₃ lies live (phase_here v₁.turns k (Out n x)) low)

pub invariant_of-hand-2 : goal.invariant_of-hand-2
invariant_of-hand-2 g c =
    let k = c.args.place in let spot = c.spot-spot.result in let v = c.args.hand.now.seat.me.0 in let live = c.args.hand.now.live in let long = c.args.hand.now.long in let rel = g.M.Machine.relates in let res = g.M.Machine.reserved in
    let starts = c.args.self.now.table.shared.key.value.items in let slots = c.args.self.now.table.shared.table_id.slots in
    let lies : IsAt v k spot = lies_at v k c.args.self.now.rows spot c.args.hand.now.seat.table_id.slots slots c.requires.place.0 long (ap (λ (z : TableId). z.slots) c.requires.table) c.args.self.now.deep c.spot-spot.ensures.value in
    let none_yet = no_turn v.turns k c.requires.place.1 in
    let e₀ : c.args.hand.now.seat.me ≡ (v, []) = λ i. (v, c.args.hand.now.empty i) in
    let h₁ = after_mark rel res k spot c.compare_exchange.result v lies _ c.compare_exchange.new.seat.me e₀ c.compare_exchange.ensures.2 in
    let won = h₁.0 c.if-compare_exchange-ne0.false in let x = won.0 in let v₁ = phased k (Marked x) (tried k 0 v) in
    let n = c.load-front-2.result in let h₂ = after_count rel res k spot n x v lies _ c.load-front-2.new.seat.me won.1 c.load-front-2.ensures.2 in let e₂ = h₂.0 in
    let w₂ = phased k (Out n x) (noted k n v₁) in
    let e₃ = swapped spot (Some x) None c.swap.new.self w₂ c.load-front-2.new.seat.me e₂ c.swap.ensures.1 in
    let low : n < 2 ^ 56 = let l = h₂.2 in let ne = c.if-front-eq-LAST.false in omega arith in
    let e₄ = after_empty k spot n x (noted k n v₁) lies ((spot, None) ∷ []) c.load.result _ c.load.new.seat.me e₃ c.load.ensures.2 in
    let h = hand_again _ v (taken_view k n x v) c.args.hand.now.seat.table_id _ e₄ (c.load.ensures.0 ∙ (c.load-front-2.ensures.0 ∙ c.compare_exchange.ensures.0)) refl refl live long in record { empty = h.0; live = h.1; long = h.2 }

pub returns-clause-same : goal.returns-clause-same
returns-clause-same g c =
    let k = c.args.place in let spot = c.spot-spot.result in let v = c.args.hand.now.seat.me.0 in let live = c.args.hand.now.live in let long = c.args.hand.now.long in let rel = g.M.Machine.relates in let res = g.M.Machine.reserved in
    let starts = c.args.self.now.table.shared.key.value.items in let slots = c.args.self.now.table.shared.table_id.slots in
    let lies : IsAt v k spot = lies_at v k c.args.self.now.rows spot c.args.hand.now.seat.table_id.slots slots c.requires.place.0 long (ap (λ (z : TableId). z.slots) c.requires.table) c.args.self.now.deep c.spot-spot.ensures.value in
    let none_yet = no_turn v.turns k c.requires.place.1 in
    let e₀ : c.args.hand.now.seat.me ≡ (v, []) = λ i. (v, c.args.hand.now.empty i) in
    let h₁ = after_mark rel res k spot c.compare_exchange.result v lies _ c.compare_exchange.new.seat.me e₀ c.compare_exchange.ensures.2 in
    let won = h₁.0 c.if-compare_exchange-ne0.false in let x = won.0 in let v₁ = phased k (Marked x) (tried k 0 v) in
    let n = c.load-front-2.result in let h₂ = after_count rel res k spot n x v lies _ c.load-front-2.new.seat.me won.1 c.load-front-2.ensures.2 in let e₂ = h₂.0 in
    let w₂ = phased k (Out n x) (noted k n v₁) in
    let e₃ = swapped spot (Some x) None c.swap.new.self w₂ c.load-front-2.new.seat.me e₂ c.swap.ensures.1 in
    let low : n < 2 ^ 56 = let l = h₂.2 in let ne = c.if-front-eq-LAST.false in omega arith in
    let e₄ = after_empty k spot n x (noted k n v₁) lies ((spot, None) ∷ []) c.load.result _ c.load.new.seat.me e₃ c.load.ensures.2 in
    (((c.load.ensures.0 ∙ (c.load-front-2.ensures.0 ∙ c.compare_exchange.ensures.0)), ap (λ m. m.0.starts) e₄, ap (λ m. m.0.parts) e₄, ap (λ m. m.0.main) e₄), ap (λ m. m.0.entries) e₄)

pub returns-clause-turn : goal.returns-clause-turn
returns-clause-turn g c =
    let k = c.args.place in let spot = c.spot-spot.result in let v = c.args.hand.now.seat.me.0 in let live = c.args.hand.now.live in let long = c.args.hand.now.long in let rel = g.M.Machine.relates in let res = g.M.Machine.reserved in
    let starts = c.args.self.now.table.shared.key.value.items in let slots = c.args.self.now.table.shared.table_id.slots in
    let lies : IsAt v k spot = lies_at v k c.args.self.now.rows spot c.args.hand.now.seat.table_id.slots slots c.requires.place.0 long (ap (λ (z : TableId). z.slots) c.requires.table) c.args.self.now.deep c.spot-spot.ensures.value in
    let none_yet = no_turn v.turns k c.requires.place.1 in
    let e₀ : c.args.hand.now.seat.me ≡ (v, []) = λ i. (v, c.args.hand.now.empty i) in
    let h₁ = after_mark rel res k spot c.compare_exchange.result v lies _ c.compare_exchange.new.seat.me e₀ c.compare_exchange.ensures.2 in
    let won = h₁.0 c.if-compare_exchange-ne0.false in let x = won.0 in let v₁ = phased k (Marked x) (tried k 0 v) in
    let n = c.load-front-2.result in let h₂ = after_count rel res k spot n x v lies _ c.load-front-2.new.seat.me won.1 c.load-front-2.ensures.2 in let e₂ = h₂.0 in
    let w₂ = phased k (Out n x) (noted k n v₁) in
    let e₃ = swapped spot (Some x) None c.swap.new.self w₂ c.load-front-2.new.seat.me e₂ c.swap.ensures.1 in
    let low : n < 2 ^ 56 = let l = h₂.2 in let ne = c.if-front-eq-LAST.false in omega arith in
    let e₄ = after_empty k spot n x (noted k n v₁) lies ((spot, None) ∷ []) c.load.result _ c.load.new.seat.me e₃ c.load.ensures.2 in
    let got = got_is spot (Some x) c.slot_mut.result.now (rest c.load-front-2.new.seat.me.1) (sym (ap (λ m. m.1) e₂) ∙ c.slot_mut.ensures.value) ∙ sym c.swap.ensures.0 in
    let full : Some x ≡ Some c.in-Some.state = got ∙ c.in-Some.is in
    let is : x ≡ c.in-Some.state = cc in
    let kept = c.of-taken.ensures ∙ c.get.ensures in
    let s = sees v.seen k n h₂.1 in
    let ts = taken_turns k n x v in
    let range : k < length v.starts = c.requires.place.0 in (
      (
        refl,
        kept,
        low,
        h₂.1,
        (subst (λ m. k < length m.0.starts) (sym e₄) range, ap (λ m. phase_at m.0.turns k) e₄ ∙ (ts.0 ∙ ap (Held n) (is ∙ sym kept))),
        λ j ne. ap (λ m. phase_at m.0.turns j) e₄ ∙ ts.1 j ne,
        (ap (λ m. seen_at m.0.seen k) e₄ ∙ s.0, λ j ne. ap (λ m. seen_at m.0.seen j) e₄ ∙ s.1 j ne),
      ),
      subst (λ y. GivenView rel res k v n y) is h₂.3,
    )

pub returns-then-compare_exchange-ne0-clause-tried : goal.returns-then-compare_exchange-ne0-clause-tried
returns-then-compare_exchange-ne0-clause-tried g c =
    let k = c.args.place in let spot = c.spot-spot.result in let v = c.args.hand.now.seat.me.0 in let live = c.args.hand.now.live in let long = c.args.hand.now.long in let rel = g.M.Machine.relates in let res = g.M.Machine.reserved in
    let starts = c.args.self.now.table.shared.key.value.items in let slots = c.args.self.now.table.shared.table_id.slots in
    let lies : IsAt v k spot = lies_at v k c.args.self.now.rows spot c.args.hand.now.seat.table_id.slots slots c.requires.place.0 long (ap (λ (z : TableId). z.slots) c.requires.table) c.args.self.now.deep c.spot-spot.ensures.value in
    let none_yet = no_turn v.turns k c.requires.place.1 in
    let e₀ : c.args.hand.now.seat.me ≡ (v, []) = λ i. (v, c.args.hand.now.empty i) in
    let h₁ = after_mark rel res k spot c.compare_exchange.result v lies _ c.compare_exchange.new.seat.me e₀ c.compare_exchange.ensures.2 in
    let lost = h₁.1 c.if-compare_exchange-ne0.true in
    let n = c.load-front.result in let h₂ = after_look k spot n (tried k 1 v) lies _ c.load-front.new.seat.me lost.1 c.load-front.ensures.2 in let e₂ = h₂.0 in
    inl (ap (λ m. m.0.tries) e₂, lost.2)

pub returns-then-compare_exchange-ne0-clause-free : goal.returns-then-compare_exchange-ne0-clause-free
returns-then-compare_exchange-ne0-clause-free g c =
    let k = c.args.place in let spot = c.spot-spot.result in let v = c.args.hand.now.seat.me.0 in let live = c.args.hand.now.live in let long = c.args.hand.now.long in let rel = g.M.Machine.relates in let res = g.M.Machine.reserved in
    let starts = c.args.self.now.table.shared.key.value.items in let slots = c.args.self.now.table.shared.table_id.slots in
    let lies : IsAt v k spot = lies_at v k c.args.self.now.rows spot c.args.hand.now.seat.table_id.slots slots c.requires.place.0 long (ap (λ (z : TableId). z.slots) c.requires.table) c.args.self.now.deep c.spot-spot.ensures.value in
    let none_yet = no_turn v.turns k c.requires.place.1 in
    let e₀ : c.args.hand.now.seat.me ≡ (v, []) = λ i. (v, c.args.hand.now.empty i) in
    let h₁ = after_mark rel res k spot c.compare_exchange.result v lies _ c.compare_exchange.new.seat.me e₀ c.compare_exchange.ensures.2 in
    let lost = h₁.1 c.if-compare_exchange-ne0.true in
    let n = c.load-front.result in let h₂ = after_look k spot n (tried k 1 v) lies _ c.load-front.new.seat.me lost.1 c.load-front.ensures.2 in let e₂ = h₂.0 in
    λ all. absurd (alone rel res v.starts k v all refl lost.2)

pub returns-then-front-eq-LAST-clause-tried : goal.returns-then-front-eq-LAST-clause-tried
returns-then-front-eq-LAST-clause-tried g c =
    let k = c.args.place in let spot = c.spot-spot.result in let v = c.args.hand.now.seat.me.0 in let live = c.args.hand.now.live in let long = c.args.hand.now.long in let rel = g.M.Machine.relates in let res = g.M.Machine.reserved in
    let starts = c.args.self.now.table.shared.key.value.items in let slots = c.args.self.now.table.shared.table_id.slots in
    let lies : IsAt v k spot = lies_at v k c.args.self.now.rows spot c.args.hand.now.seat.table_id.slots slots c.requires.place.0 long (ap (λ (z : TableId). z.slots) c.requires.table) c.args.self.now.deep c.spot-spot.ensures.value in
    let none_yet = no_turn v.turns k c.requires.place.1 in
    let e₀ : c.args.hand.now.seat.me ≡ (v, []) = λ i. (v, c.args.hand.now.empty i) in
    let h₁ = after_mark rel res k spot c.compare_exchange.result v lies _ c.compare_exchange.new.seat.me e₀ c.compare_exchange.ensures.2 in
    let won = h₁.0 c.if-compare_exchange-ne0.false in let x = won.0 in let v₁ = phased k (Marked x) (tried k 0 v) in
    let n = c.load-front-2.result in let h₂ = after_count rel res k spot n x v lies _ c.load-front-2.new.seat.me won.1 c.load-front-2.ensures.2 in let e₂ = h₂.0 in
    let w₂ = phased k (Out n x) (noted k n v₁) in
    let e₃ = after_return k spot w₂ lies ((spot, Some x) ∷ []) _ c.store.new.seat.me e₂ c.store.ensures.2 in
    inr (ap (λ m. m.0.tries) e₃, c.if-front-eq-LAST.true)

pub returns-then-front-eq-LAST-clause-free : goal.returns-then-front-eq-LAST-clause-free
returns-then-front-eq-LAST-clause-free g c =
    let k = c.args.place in let spot = c.spot-spot.result in let v = c.args.hand.now.seat.me.0 in let live = c.args.hand.now.live in let long = c.args.hand.now.long in let rel = g.M.Machine.relates in let res = g.M.Machine.reserved in
    let starts = c.args.self.now.table.shared.key.value.items in let slots = c.args.self.now.table.shared.table_id.slots in
    let lies : IsAt v k spot = lies_at v k c.args.self.now.rows spot c.args.hand.now.seat.table_id.slots slots c.requires.place.0 long (ap (λ (z : TableId). z.slots) c.requires.table) c.args.self.now.deep c.spot-spot.ensures.value in
    let none_yet = no_turn v.turns k c.requires.place.1 in
    let e₀ : c.args.hand.now.seat.me ≡ (v, []) = λ i. (v, c.args.hand.now.empty i) in
    let h₁ = after_mark rel res k spot c.compare_exchange.result v lies _ c.compare_exchange.new.seat.me e₀ c.compare_exchange.ensures.2 in
    let won = h₁.0 c.if-compare_exchange-ne0.false in let x = won.0 in let v₁ = phased k (Marked x) (tried k 0 v) in
    let n = c.load-front-2.result in let h₂ = after_count rel res k spot n x v lies _ c.load-front-2.new.seat.me won.1 c.load-front-2.ensures.2 in let e₂ = h₂.0 in
    let w₂ = phased k (Out n x) (noted k n v₁) in
    let e₃ = after_return k spot w₂ lies ((spot, Some x) ∷ []) _ c.store.new.seat.me e₂ c.store.ensures.2 in
    λ _. ap (λ m. m.0.tries) e₃

pub returns-clause-tried : goal.returns-clause-tried
returns-clause-tried g c =
    let k = c.args.place in let spot = c.spot-spot.result in let v = c.args.hand.now.seat.me.0 in let live = c.args.hand.now.live in let long = c.args.hand.now.long in let rel = g.M.Machine.relates in let res = g.M.Machine.reserved in
    let starts = c.args.self.now.table.shared.key.value.items in let slots = c.args.self.now.table.shared.table_id.slots in
    let lies : IsAt v k spot = lies_at v k c.args.self.now.rows spot c.args.hand.now.seat.table_id.slots slots c.requires.place.0 long (ap (λ (z : TableId). z.slots) c.requires.table) c.args.self.now.deep c.spot-spot.ensures.value in
    let none_yet = no_turn v.turns k c.requires.place.1 in
    let e₀ : c.args.hand.now.seat.me ≡ (v, []) = λ i. (v, c.args.hand.now.empty i) in
    let h₁ = after_mark rel res k spot c.compare_exchange.result v lies _ c.compare_exchange.new.seat.me e₀ c.compare_exchange.ensures.2 in
    let won = h₁.0 c.if-compare_exchange-ne0.false in let x = won.0 in let v₁ = phased k (Marked x) (tried k 0 v) in
    let n = c.load-front-2.result in let h₂ = after_count rel res k spot n x v lies _ c.load-front-2.new.seat.me won.1 c.load-front-2.ensures.2 in let e₂ = h₂.0 in
    let w₂ = phased k (Out n x) (noted k n v₁) in
    let e₃ = swapped spot (Some x) None c.swap.new.self w₂ c.load-front-2.new.seat.me e₂ c.swap.ensures.1 in
    let low : n < 2 ^ 56 = let l = h₂.2 in let ne = c.if-front-eq-LAST.false in omega arith in
    let e₄ = after_empty k spot n x (noted k n v₁) lies ((spot, None) ∷ []) c.load.result _ c.load.new.seat.me e₃ c.load.ensures.2 in
    (ap (λ m. m.0.tries) e₄, low)

pub returns-clause-free : goal.returns-clause-free
returns-clause-free g c =
    let k = c.args.place in let spot = c.spot-spot.result in let v = c.args.hand.now.seat.me.0 in let live = c.args.hand.now.live in let long = c.args.hand.now.long in let rel = g.M.Machine.relates in let res = g.M.Machine.reserved in
    let starts = c.args.self.now.table.shared.key.value.items in let slots = c.args.self.now.table.shared.table_id.slots in
    let lies : IsAt v k spot = lies_at v k c.args.self.now.rows spot c.args.hand.now.seat.table_id.slots slots c.requires.place.0 long (ap (λ (z : TableId). z.slots) c.requires.table) c.args.self.now.deep c.spot-spot.ensures.value in
    let none_yet = no_turn v.turns k c.requires.place.1 in
    let e₀ : c.args.hand.now.seat.me ≡ (v, []) = λ i. (v, c.args.hand.now.empty i) in
    let h₁ = after_mark rel res k spot c.compare_exchange.result v lies _ c.compare_exchange.new.seat.me e₀ c.compare_exchange.ensures.2 in
    let won = h₁.0 c.if-compare_exchange-ne0.false in let x = won.0 in let v₁ = phased k (Marked x) (tried k 0 v) in
    let n = c.load-front-2.result in let h₂ = after_count rel res k spot n x v lies _ c.load-front-2.new.seat.me won.1 c.load-front-2.ensures.2 in let e₂ = h₂.0 in
    let w₂ = phased k (Out n x) (noted k n v₁) in
    let e₃ = swapped spot (Some x) None c.swap.new.self w₂ c.load-front-2.new.seat.me e₂ c.swap.ensures.1 in
    let low : n < 2 ^ 56 = let l = h₂.2 in let ne = c.if-front-eq-LAST.false in omega arith in
    let e₄ = after_empty k spot n x (noted k n v₁) lies ((spot, None) ∷ []) c.load.result _ c.load.new.seat.me e₃ c.load.ensures.2 in
    λ _. ap (λ m. m.0.tries) e₄
