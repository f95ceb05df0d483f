use Rattle.std.proofs.Common.{arith, ◌≡◌, ◌+◌, ◌≤◌, [], Some, None, refl, ap, ◌∙◌}
use Rattle.atomic_table.specs.Seated.{TableId}
use Rattle.turn_table.specs.declared.view.Phase.TheVariants.{Out, Counted}
use Rattle.turn_table.specs.Histories.{seen_at, phase_at}
use Rattle.turn_table.specs.Steps.{noted, phased, gained, entry}
use Rattle.turn_table.proofs.Lists.{phase_here}
use Rattle.turn_table.proofs.Calls.{sees, after_reach, after_finish, after_free, swapped, put_view, put_turns}
use Rattle.turn_table.proofs.Keeps.{IsAt}
use Rattle.turn_table.proofs.Asks.{reaches_at, ends_at, frees_at, lies_at, hand_again}
use Rattle.turn_table.proofs.hands.Turns.put.Goals as goal

pub load-requires : goal.load-requires
load-requires g c =
    let k = c.args.turn.place in let spot = c.spot-spot.result in let v = c.args.hand.now.seat.me.0 in let live = c.args.hand.now.live in let long = c.args.hand.now.long in let rel = g.M.Machine.relates in let res = g.M.Machine.reserved in
    let starts = c.args.self.now.table.shared.key.value.items in let slots = c.args.self.now.table.shared.table_id.slots in
    let n = c.args.turn.front in let x = c.args.turn.taken.value in let y = c.args.turn.state in let event = g.X.Said.event in let outcome = g.X.Said.outcome in
    let lies : IsAt v k spot = lies_at v k c.args.self.now.rows spot c.args.hand.now.seat.table_id.slots slots c.requires.turn.0 long (ap (λ (z : TableId). z.slots) c.requires.table) c.args.self.now.deep c.spot-spot.ensures.value in
    let phase = c.requires.turn.1 in
    let e₀ : c.args.hand.now.seat.me ≡ (v, []) = λ i. (v, c.args.hand.now.empty i) in
    let wide = c.args.self.now.wide in let deep = c.args.self.now.deep in let inside = c.spot-spot.ensures.low in (c.requires.table, omega arith, reaches_at rel res starts slots _ k spot _ v n x e₀ lies live phase)

pub store-requires : goal.store-requires
store-requires g c =
    let k = c.args.turn.place in let spot = c.spot-spot.result in let v = c.args.hand.now.seat.me.0 in let live = c.args.hand.now.live in let long = c.args.hand.now.long in let rel = g.M.Machine.relates in let res = g.M.Machine.reserved in
    let starts = c.args.self.now.table.shared.key.value.items in let slots = c.args.self.now.table.shared.table_id.slots in
    let n = c.args.turn.front in let x = c.args.turn.taken.value in let y = c.args.turn.state in let event = g.X.Said.event in let outcome = g.X.Said.outcome in
    let lies : IsAt v k spot = lies_at v k c.args.self.now.rows spot c.args.hand.now.seat.table_id.slots slots c.requires.turn.0 long (ap (λ (z : TableId). z.slots) c.requires.table) c.args.self.now.deep c.spot-spot.ensures.value in
    let phase = c.requires.turn.1 in
    let e₀ : c.args.hand.now.seat.me ≡ (v, []) = λ i. (v, c.args.hand.now.empty i) in
    let h₁ = after_reach k spot n x v lies c.load.result _ c.load.new.seat.me e₀ phase c.load.ensures.2 in let e₁ = h₁.0 in let v₁ = phased k (Out n x) v in
    let e₂ = swapped spot None (Some y) c.swap-nothing.new.self v₁ c.load.new.seat.me e₁ c.swap-nothing.ensures.1 in
    let wide = c.args.self.now.wide in let deep = c.args.self.now.deep in let inside = c.spot-spot.ensures.low in (c.load.ensures.0 ∙ c.requires.table, omega arith, ends_at rel res starts slots _ k spot _ v₁ n _ (omega arith) x y e₂ lies live (phase_here v.turns k (Out n x)) h₁.1 event outcome c.requires.step c.requires.right)

pub store-requires-2 : goal.store-requires-2
store-requires-2 g c =
    let k = c.args.turn.place in let spot = c.spot-spot.result in let v = c.args.hand.now.seat.me.0 in let live = c.args.hand.now.live in let long = c.args.hand.now.long in let rel = g.M.Machine.relates in let res = g.M.Machine.reserved in
    let starts = c.args.self.now.table.shared.key.value.items in let slots = c.args.self.now.table.shared.table_id.slots in
    let n = c.args.turn.front in let x = c.args.turn.taken.value in let y = c.args.turn.state in let event = g.X.Said.event in let outcome = g.X.Said.outcome in
    let lies : IsAt v k spot = lies_at v k c.args.self.now.rows spot c.args.hand.now.seat.table_id.slots slots c.requires.turn.0 long (ap (λ (z : TableId). z.slots) c.requires.table) c.args.self.now.deep c.spot-spot.ensures.value in
    let phase = c.requires.turn.1 in
    let e₀ : c.args.hand.now.seat.me ≡ (v, []) = λ i. (v, c.args.hand.now.empty i) in
    let h₁ = after_reach k spot n x v lies c.load.result _ c.load.new.seat.me e₀ phase c.load.ensures.2 in let e₁ = h₁.0 in let v₁ = phased k (Out n x) v in
    let e₂ = swapped spot None (Some y) c.swap-nothing.new.self v₁ c.load.new.seat.me e₁ c.swap-nothing.ensures.1 in
    let h₃ = after_finish k spot n (n + 1) x y event outcome v lies _ c.store.new.seat.me e₂ c.store.ensures.2 in let e₃ = h₃.0 in
    let v₃ = phased k (Counted y) (noted k (n + 1) (gained (entry k n event outcome) v₁)) in
    let wide = c.args.self.now.wide in let deep = c.args.self.now.deep in let inside = c.spot-spot.ensures.low in ((c.store.ensures.0 ∙ c.load.ensures.0) ∙ c.requires.table, omega arith, frees_at rel res starts slots _ k spot _ v₃ y e₃ lies live (phase_here v₁.turns k (Counted y)))

pub invariant_of-hand : goal.invariant_of-hand
invariant_of-hand g c =
    let k = c.args.turn.place in let spot = c.spot-spot.result in let v = c.args.hand.now.seat.me.0 in let live = c.args.hand.now.live in let long = c.args.hand.now.long in let rel = g.M.Machine.relates in let res = g.M.Machine.reserved in
    let starts = c.args.self.now.table.shared.key.value.items in let slots = c.args.self.now.table.shared.table_id.slots in
    let n = c.args.turn.front in let x = c.args.turn.taken.value in let y = c.args.turn.state in let event = g.X.Said.event in let outcome = g.X.Said.outcome in
    let lies : IsAt v k spot = lies_at v k c.args.self.now.rows spot c.args.hand.now.seat.table_id.slots slots c.requires.turn.0 long (ap (λ (z : TableId). z.slots) c.requires.table) c.args.self.now.deep c.spot-spot.ensures.value in
    let phase = c.requires.turn.1 in
    let e₀ : c.args.hand.now.seat.me ≡ (v, []) = λ i. (v, c.args.hand.now.empty i) in
    let h₁ = after_reach k spot n x v lies c.load.result _ c.load.new.seat.me e₀ phase c.load.ensures.2 in let e₁ = h₁.0 in let v₁ = phased k (Out n x) v in
    let e₂ = swapped spot None (Some y) c.swap-nothing.new.self v₁ c.load.new.seat.me e₁ c.swap-nothing.ensures.1 in
    let h₃ = after_finish k spot n (n + 1) x y event outcome v lies _ c.store.new.seat.me e₂ c.store.ensures.2 in let e₃ = h₃.0 in
    let v₃ = phased k (Counted y) (noted k (n + 1) (gained (entry k n event outcome) v₁)) in
    let e₄ = after_free k spot v₃ lies _ c.store-2.new.seat.me e₃ c.store-2.ensures.2 in
    let h = hand_again _ v (put_view k n x y event outcome v) c.args.hand.now.seat.table_id _ e₄ (c.store-2.ensures.0 ∙ (c.store.ensures.0 ∙ c.load.ensures.0)) refl refl live long in record { empty = h.0; live = h.1; long = h.2 }

pub returns-clause-same : goal.returns-clause-same
returns-clause-same g c =
    let k = c.args.turn.place in let spot = c.spot-spot.result in let v = c.args.hand.now.seat.me.0 in let live = c.args.hand.now.live in let long = c.args.hand.now.long in let rel = g.M.Machine.relates in let res = g.M.Machine.reserved in
    let starts = c.args.self.now.table.shared.key.value.items in let slots = c.args.self.now.table.shared.table_id.slots in
    let n = c.args.turn.front in let x = c.args.turn.taken.value in let y = c.args.turn.state in let event = g.X.Said.event in let outcome = g.X.Said.outcome in
    let lies : IsAt v k spot = lies_at v k c.args.self.now.rows spot c.args.hand.now.seat.table_id.slots slots c.requires.turn.0 long (ap (λ (z : TableId). z.slots) c.requires.table) c.args.self.now.deep c.spot-spot.ensures.value in
    let phase = c.requires.turn.1 in
    let e₀ : c.args.hand.now.seat.me ≡ (v, []) = λ i. (v, c.args.hand.now.empty i) in
    let h₁ = after_reach k spot n x v lies c.load.result _ c.load.new.seat.me e₀ phase c.load.ensures.2 in let e₁ = h₁.0 in let v₁ = phased k (Out n x) v in
    let e₂ = swapped spot None (Some y) c.swap-nothing.new.self v₁ c.load.new.seat.me e₁ c.swap-nothing.ensures.1 in
    let h₃ = after_finish k spot n (n + 1) x y event outcome v lies _ c.store.new.seat.me e₂ c.store.ensures.2 in let e₃ = h₃.0 in
    let v₃ = phased k (Counted y) (noted k (n + 1) (gained (entry k n event outcome) v₁)) in
    let e₄ = after_free k spot v₃ lies _ c.store-2.new.seat.me e₃ c.store-2.ensures.2 in
    ((c.store-2.ensures.0 ∙ (c.store.ensures.0 ∙ c.load.ensures.0)), ap (λ m. m.0.starts) e₄, ap (λ m. m.0.parts) e₄, ap (λ m. m.0.main) e₄)

pub returns-clause-tried : goal.returns-clause-tried
returns-clause-tried g c =
    let k = c.args.turn.place in let spot = c.spot-spot.result in let v = c.args.hand.now.seat.me.0 in let live = c.args.hand.now.live in let long = c.args.hand.now.long in let rel = g.M.Machine.relates in let res = g.M.Machine.reserved in
    let starts = c.args.self.now.table.shared.key.value.items in let slots = c.args.self.now.table.shared.table_id.slots in
    let n = c.args.turn.front in let x = c.args.turn.taken.value in let y = c.args.turn.state in let event = g.X.Said.event in let outcome = g.X.Said.outcome in
    let lies : IsAt v k spot = lies_at v k c.args.self.now.rows spot c.args.hand.now.seat.table_id.slots slots c.requires.turn.0 long (ap (λ (z : TableId). z.slots) c.requires.table) c.args.self.now.deep c.spot-spot.ensures.value in
    let phase = c.requires.turn.1 in
    let e₀ : c.args.hand.now.seat.me ≡ (v, []) = λ i. (v, c.args.hand.now.empty i) in
    let h₁ = after_reach k spot n x v lies c.load.result _ c.load.new.seat.me e₀ phase c.load.ensures.2 in let e₁ = h₁.0 in let v₁ = phased k (Out n x) v in
    let e₂ = swapped spot None (Some y) c.swap-nothing.new.self v₁ c.load.new.seat.me e₁ c.swap-nothing.ensures.1 in
    let h₃ = after_finish k spot n (n + 1) x y event outcome v lies _ c.store.new.seat.me e₂ c.store.ensures.2 in let e₃ = h₃.0 in
    let v₃ = phased k (Counted y) (noted k (n + 1) (gained (entry k n event outcome) v₁)) in
    let e₄ = after_free k spot v₃ lies _ c.store-2.new.seat.me e₃ c.store-2.ensures.2 in
    ap (λ m. m.0.tries) e₄

pub returns-clause-entry : goal.returns-clause-entry
returns-clause-entry g c =
    let k = c.args.turn.place in let spot = c.spot-spot.result in let v = c.args.hand.now.seat.me.0 in let live = c.args.hand.now.live in let long = c.args.hand.now.long in let rel = g.M.Machine.relates in let res = g.M.Machine.reserved in
    let starts = c.args.self.now.table.shared.key.value.items in let slots = c.args.self.now.table.shared.table_id.slots in
    let n = c.args.turn.front in let x = c.args.turn.taken.value in let y = c.args.turn.state in let event = g.X.Said.event in let outcome = g.X.Said.outcome in
    let lies : IsAt v k spot = lies_at v k c.args.self.now.rows spot c.args.hand.now.seat.table_id.slots slots c.requires.turn.0 long (ap (λ (z : TableId). z.slots) c.requires.table) c.args.self.now.deep c.spot-spot.ensures.value in
    let phase = c.requires.turn.1 in
    let e₀ : c.args.hand.now.seat.me ≡ (v, []) = λ i. (v, c.args.hand.now.empty i) in
    let h₁ = after_reach k spot n x v lies c.load.result _ c.load.new.seat.me e₀ phase c.load.ensures.2 in let e₁ = h₁.0 in let v₁ = phased k (Out n x) v in
    let e₂ = swapped spot None (Some y) c.swap-nothing.new.self v₁ c.load.new.seat.me e₁ c.swap-nothing.ensures.1 in
    let h₃ = after_finish k spot n (n + 1) x y event outcome v lies _ c.store.new.seat.me e₂ c.store.ensures.2 in let e₃ = h₃.0 in
    let v₃ = phased k (Counted y) (noted k (n + 1) (gained (entry k n event outcome) v₁)) in
    let e₄ = after_free k spot v₃ lies _ c.store-2.new.seat.me e₃ c.store-2.ensures.2 in
    let low : seen_at v.seen k ≤ n + 1 = let s = h₃.1 in omega arith in
    let s = sees v.seen k (n + 1) low in
    let ts = put_turns k n x y event outcome v in (
      ap (λ m. m.0.entries) e₄,
      h₃.1,
      ap (λ m. phase_at m.0.turns k) e₄ ∙ ts.0,
      λ j ne. ap (λ m. phase_at m.0.turns j) e₄ ∙ ts.1 j ne,
      (ap (λ m. seen_at m.0.seen k) e₄ ∙ s.0, λ j ne. ap (λ m. seen_at m.0.seen j) e₄ ∙ s.1 j ne),
    )
