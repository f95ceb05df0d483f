-- What the filling of a plan keeps.
use Rattle.std.proofs.Common.{◌≡◌, ◌∙◌, refl, ap, sym, subst, ℕ, zero, suc, ◌+◌, ◌<◌, ◌≤◌, false, List, ◌∷◌, length, map, replicate, slice_index_or, arith}
use Rattle.relay_outside.specs.declared.settings.Config.{Config}
use Rattle.sdp_text.specs.declared.host.Host.{Host}
use Rattle.histories.specs.Words.{numbers}
use Rattle.sdp_edit.specs.declared.edits.Edit.{Edit}
use Rattle.sdp_edit.specs.EditedText.{edited}
use Rattle.ng_command.specs.declared.command.Options.{Options}
use Rattle.offer_answer.specs.Texts.{interface_host}
use Rattle.offer_answer.specs.Edits.{IsEditReserved, longest_host, widest_section, widest_at, widest_sections, widest_len, made_at}
use Rattle.offer_answer.specs.Widths.{SameMade, SameOffer, KeepsOffer, WritesNext}
use Rattle.offer_answer.specs.declared.last_offer.MadeSection.{MadeSection}
use Rattle.offer_answer.specs.declared.last_offer.LastOffer.{LastOffer}
use Rattle.offer_answer.specs.declared.plan.Next.{Next}
use Rattle.offer_answer.specs.declared.plan.Next.TheVariants.{Offer, Answer}
use Rattle.offer_answer.specs.declared.plan.Plan.{Plan}

-- nothing is set in an array of false
pub none-set : (n section : ℕ) → slice_index_or (replicate n false) section false ≡ false
none-set zero section = refl
none-set (suc n) zero = refl
none-set (suc n) (suc section) = none-set n section

same-widest : (host : Host) (options : Options) (old new : MadeSection) → SameMade old new → widest_section host options new ≡ widest_section host options old
same-widest host options old new s =
    ap (widest_section host options) (parts s)
  where
    parts : SameMade old new → record { section = new.section; line = old.line; written = new.written; lines = old.lines } ≡ old
    parts s = let a = s.section_is in let b = s.written_is in λ i. record { section = a i; line = old.line; written = b i; lines = old.lines }

map-numbers : {A : Type 0} (f g : ℕ → A) (from count : ℕ) → ((k : ℕ) → k < from + count → f k ≡ g k) → map f (numbers from count) ≡ map g (numbers from count)
map-numbers f g from zero same = refl
map-numbers f g from (suc count) same =
    let here = same from (omega arith) in
    let more = map-numbers f g (suc from) count (λ k lt. same k (omega (arith, lt))) in
    λ i. here i ∷ more i

same-sections : (host : Host) (old new : LastOffer) → SameOffer old new → old.count ≤ 8 → widest_sections host new ≡ widest_sections host old
same-sections host old new s few =
    ap (λ n. map (widest_at host new) (numbers 0 n)) s.count_is
    ∙ map-numbers (widest_at host new) (widest_at host old) 0 old.count
    (λ k lt. ap (λ (options : Options). widest_section host options (made_at new k)) s.options_are
    ∙ same-widest host old.options (made_at old k) (made_at new k) (s.sections_are k (omega (arith, lt, few))))

same-len : (config : Config) (old new : LastOffer) (lines : List (List ℕ)) → SameOffer old new → old.count ≤ 8 → widest_len config new lines ≡ widest_len config old lines
same-len config old new lines s few =
    let o = s.options_are in
    let l = same-sections (longest_host config) old new s few in
    ap (λ (edit : Edit). length (edited lines edit))
    (λ i. record {
      address = longest_host config;
      replace_origin = (o i).replace_origin;
      replace_session = (o i).replace_session;
      sections = record { list = l i; spare = 0 };
    })

-- the plan writes the description as before
pub kept-writes : (plan : Plan) (lines : List (List ℕ)) (old new : Next) → KeepsOffer old new → WritesNext plan lines old → WritesNext plan lines new
kept-writes plan lines (Offer o) (Offer n) k w =
    let few = w.0 in (
      subst (λ count. count ≤ 8) (sym k.count_is) few,
      subst (λ (options : Options). IsEditReserved (interface_host plan.config) options n.last.count plan.edit) (sym k.options_are)
          (subst (λ count. IsEditReserved (interface_host plan.config) o.last.options count plan.edit) (sym k.count_is) w.1),
      subst (λ len. len ≤ plan.reply_len) (sym (same-len plan.config o.last n.last lines k few)) w.2,
    )
kept-writes plan lines (Answer o) (Answer n) k w = w
kept-writes plan lines (Offer o) (Answer n) k w = elim k [ ]
kept-writes plan lines (Answer o) (Offer n) k w = elim k [ ]
