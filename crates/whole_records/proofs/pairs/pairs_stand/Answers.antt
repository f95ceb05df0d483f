use Rattle.std.proofs.Common.{◌≡◌, ◌∙◌, ◌++◌, ℕ, List, sym, ap, subst}
use Rattle.port_pool.specs.Ports.{pair_count}
use Rattle.call_shapes.specs.Turns.{pairs_held}
use Rattle.whole_records.specs.Records.{saved_held_legs}
use Rattle.whole_records.specs.RecordParts.{StandOnce}
use Rattle.whole_records.proofs.pairs.pairs_stand.Goals as goal

pub returns : goal.returns
returns c =
    let config = c.args.config.now in
    let held : List ℕ = pairs_held (saved_held_legs config c.args.calls.now c.args.cells.now) in
    let free4 : List ℕ = c.args.pool.now.free4.items in
    let free6 : List ℕ = c.args.pool.now.free6.items in
    let first : c.extend_from_slice.new.self.items ≡ free4 =
    c.in_ok-extend_from_slice.ensures.items ∙ ap (λ (l : List ℕ). l ++ c.deref.result.now) c.new-pairs.ensures.items ∙ c.deref.ensures.value in
    let second : c.extend_from_slice-2.new.self.items ≡ free4 ++ free6 =
    c.in_ok-extend_from_slice-2.ensures.items ∙ ap (λ (l : List ℕ). l ++ c.deref-2.result.now) first ∙ ap (λ (l : List ℕ). free4 ++ l) c.deref-2.ensures.value in
    let list : c.deref-3.result.now ≡ free4 ++ free6 ++ held =
    c.deref-3.ensures.value ∙ c.in_ok-put_held.ensures config ∙ ap (λ (l : List ℕ). l ++ held) second in
    let once = c.in_ok-once.ensures in (
      λ t. record {
        range = c.has_range.ensures.0 c.if-not-has_range.false;
        once = subst (λ n. StandOnce n (free4 ++ free6 ++ held)) c.pairs.ensures.count (subst (StandOnce c.pairs.result) list (once.0 t));
      },
      λ h. once.1 (subst (λ n. StandOnce n c.deref-3.result.now) (sym c.pairs.ensures.count) (subst (StandOnce (pair_count config)) (sym list) h.once)),
    )
