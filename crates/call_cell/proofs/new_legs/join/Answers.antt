use Rattle.std.proofs.Common.{◌≡◌, ap, ◌∙◌, ◌+◌, Bool, true, cond, List, ◌++◌, arith}
use Rattle.std.specs.Prelude.{is_ok, vec_len}
use Rattle.call_cell.specs.declared.leg.Leg.{Leg}
use Rattle.call_cell.proofs.Joined.{nil_of}
use Rattle.call_cell.proofs.new_legs.join.Goals as goal

pub destroy_empty-requires : goal.destroy_empty-requires
destroy_empty-requires g c =
    let one : is_ok c.append.result ≡ true = c.append.ensures.succeeds (omega (arith, c.requires.room, c.requires.none)) in
    ap vec_len c.replace-old.ensures.value ∙ c.append.ensures.other_len ∙ ap (λ (b : Bool). cond b 0 (vec_len c.args.legs.now)) one

pub destroy_empty-requires-2 : goal.destroy_empty-requires-2
destroy_empty-requires-2 g c =
    let one : is_ok c.append.result ≡ true = c.append.ensures.succeeds (omega (arith, c.requires.room, c.requires.none)) in
    let long = c.append.ensures.len ∙ ap (λ (b : Bool). cond b (vec_len c.args.places + vec_len c.args.legs.now) (vec_len c.args.places)) one in
    let two : is_ok c.append-2.result ≡ true = c.append-2.ensures.succeeds (omega (arith, c.requires.room, c.requires.none, c.append.ensures.capacity, long)) in
    c.append-2.ensures.other_len ∙ ap (λ (b : Bool). cond b 0 (vec_len c.args.new)) two

pub returns : goal.returns
returns g c =
    let one : is_ok c.append.result ≡ true = c.append.ensures.succeeds (omega (arith, c.requires.room, c.requires.none)) in
    let long = c.append.ensures.len ∙ ap (λ (b : Bool). cond b (vec_len c.args.places + vec_len c.args.legs.now) (vec_len c.args.places)) one in
    let two : is_ok c.append-2.result ≡ true = c.append-2.ensures.succeeds (omega (arith, c.requires.room, c.requires.none, c.append.ensures.capacity, long)) in
    let first = c.append.ensures.items ∙ ap (λ (b : Bool). cond b (c.args.places.items ++ c.args.legs.now.items) c.args.places.items) one
    ∙ ap (λ (l : List (Leg _)). l ++ c.args.legs.now.items) (nil_of c.args.places.items (omega (arith, c.requires.none, c.args.places.ok.0))) in
    ap (λ (v : _). v.items) c.replace-old.ensures.after
    ∙ c.append-2.ensures.items ∙ ap (λ (b : Bool). cond b (c.append.new.self.items ++ c.args.new.items) c.append.new.self.items) two
    ∙ ap (λ (l : List (Leg _)). l ++ c.args.new.items) first
