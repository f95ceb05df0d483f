-- What a plan demands, drops and counts stays as it is filled.
use Rattle.std.proofs.Common.{◌≡◌, ◌<◌, ◌≤◌, ◌||◌, ◌∙◌, ℕ, Bool, false, List, length, refl, ap, sym, subst, slice_index_or}
use Rattle.histories.specs.Words.{In}
use Rattle.offer_answer.specs.Rounds.{NewLeg, KeyPlace}
use Rattle.offer_answer.specs.Widths.{KeepsOffer}
use Rattle.offer_answer.specs.Shapes.{SamePlaces, shape_of, is_demanded, drops_at}
use Rattle.offer_answer.specs.OfferPlaces.{ArePairsOfSections, AreKeysOfLegs, OfferPlaces, SameCounts, AnswerCounts, offered_count_after}
use Rattle.offer_answer.specs.declared.dialog.Dialog.{Dialog}
use Rattle.offer_answer.specs.declared.plan.Next.{Next}
use Rattle.offer_answer.specs.declared.plan.Next.TheVariants.{Offer, Answer}
use Rattle.offer_answer.specs.declared.plan.Plan.{Plan}

pub kept-counts : (old new : Next) → KeepsOffer old new → SameCounts old new
kept-counts (Offer o) (Offer n) k = record { offered_is = λ dialog. k.count_is; committed_is = λ dialog. refl }
kept-counts (Answer o) (Answer n) k = record { offered_is = λ dialog. refl; committed_is = λ dialog. ap (λ next. next.count) k }
kept-counts (Offer o) (Answer n) k = elim k [ ]
kept-counts (Answer o) (Offer n) k = elim k [ ]

pub same-places : (old new : Plan) (dialog : Dialog) → SamePlaces old new → SameCounts old.next new.next → OfferPlaces old dialog → OfferPlaces new dialog
same-places old new dialog s n p = record {
  pairs = subst ArePairsOfSections (sym s.pairs_are) p.pairs;
  new = λ section d.
      let g = p.new section (sym (ap (λ (legs : List NewLeg). is_demanded legs section) s.pairs_are) ∙ d) in
      record { within = below section g.within; had_none = g.had_none; stays = drops section ∙ g.stays };
  dropped = λ section d. p.dropped section (sym (drops section) ∙ d);
  keys = subst AreKeysOfLegs (sym s.keys_are) p.keys;
  drawn = λ key i.
      let g = p.drawn key (subst (λ (keys : List KeyPlace). In key keys) s.keys_are i) in
      record {
        within = below key.section g.within;
        has_pairs = ap (λ (legs : List NewLeg). (shape_of dialog key.section).has_pairs || is_demanded legs key.section) s.pairs_are ∙ g.has_pairs;
        stays = drops key.section ∙ g.stays;
        lacks = g.lacks;
      };
  counts = record {
    most = subst (λ count. count ≤ 8) (sym (n.offered_is dialog)) p.counts.most;
    enough = subst (λ count. dialog.committed_count ≤ count) (sym (n.offered_is dialog)) p.counts.enough;
    committed_is = n.committed_is dialog ∙ p.counts.committed_is;
    kept = λ section low had uncommitted stays. below section (p.counts.kept section low had uncommitted (sym (drops section) ∙ stays));
  };
}
  where
    below : (section : ℕ) → section < offered_count_after dialog old.next → section < offered_count_after dialog new.next
    below section l = subst (λ count. section < count) (sym (n.offered_is dialog)) l

    drops : (section : ℕ) → drops_at new section ≡ drops_at old section
    drops section = ap (λ (those : List Bool). slice_index_or those section false) s.drops_are

pub same-answer-counts : (old new : Plan) (dialog : Dialog) → new.signal ≡ old.signal → SameCounts old.next new.next → AnswerCounts old dialog → AnswerCounts new dialog
same-answer-counts old new dialog s n a = record {
  signal_is = ap length s ∙ a.signal_is;
  most = a.most;
  offered_is = n.offered_is dialog ∙ a.offered_is;
  committed_is = n.committed_is dialog ∙ a.committed_is;
}
