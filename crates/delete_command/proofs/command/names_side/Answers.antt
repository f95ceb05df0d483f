use Rattle.std.proofs.Common.{◌≡◌, ◌∙◌, sym, ap, ◌||◌, ℕ, Bool, Option}
use Rattle.ng_bencode.specs.Room.{Room}
use Rattle.ng_command.specs.Meanings.{strings_in_list}
use Rattle.port_pool.specs.declared.holder.Side.TheVariants.{B}
use Rattle.offer_answer.specs.Sides.{is_tag_of, is_some_sides}
use Rattle.call_board.specs.Answers.{names_side}
use Rattle.delete_command.proofs.Named.{side-is}
use Rattle.delete_command.proofs.command.names_side.Goals as goal

pub returns-then-is_tag_of : goal.returns-then-is_tag_of
returns-then-is_tag_of c config v of shows found =
    let tag = c.in-Some.tag.list in
    let named : names_side of.rounds (strings_in_list c.args.tag.now) ≡ is_some_sides of.rounds tag =
    ap (λ (t : Option (Room ℕ)). names_side of.rounds (strings_in_list t)) c.in-Some.is ∙ side-is of.rounds tag in
    let e = c.is_tag_of.ensures config v of shows found in
    c.if-is_tag_of.true ∙ sym (named ∙ ap (λ (b : Bool). b || is_tag_of of.rounds B tag) (sym e ∙ c.if-is_tag_of.true))

pub returns-else-is_tag_of : goal.returns-else-is_tag_of
returns-else-is_tag_of c config v of shows found =
    let tag = c.in-Some.tag.list in
    let named : names_side of.rounds (strings_in_list c.args.tag.now) ≡ is_some_sides of.rounds tag =
    ap (λ (t : Option (Room ℕ)). names_side of.rounds (strings_in_list t)) c.in-Some.is ∙ side-is of.rounds tag in
    let e = c.is_tag_of.ensures config v of shows found in
    let f = c.is_tag_of-else-is_tag_of.ensures config v of shows found in
    f ∙ sym (named ∙ ap (λ (b : Bool). b || is_tag_of of.rounds B tag) (sym e ∙ c.if-is_tag_of.false))
