use Rattle.std.proofs.Common.{refl}
use Rattle.offer_answer.proofs.Nexts.{tag-offered, none-offered}
use Rattle.offer_answer.proofs.dialog.Dialog.apply_offer.Goals as goal

pub returns-clause-stands : goal.returns-clause-stands
returns-clause-stands c = λ config rounds ask ports keys legs s awaits f leased. record {
  begun_is = refl;
  first_tag_is = tag-offered config c.args.self.now rounds ask legs keys s awaits;
  answering_tag_is = s.answering_tag_is;
  has_answer_is = s.has_answer_is;
  is_settled_is = s.has_answer_is;
  committed_count_is = s.committed_count_is;
  offer_is = f.last_for;
  sections_are = λ section below. f.sections_are legs section leased below;
  no_more = none-offered config c.args.self.now rounds ask legs keys s;
}
