-- What the record of a dialog holds of it, and that it stands for the same rounds.
use Rattle.std.specs.Prelude.{◌≡◌, ℕ, List, Option, Some, None, option_map}
use Rattle.relay_outside.specs.declared.settings.Config.{Config}
use Rattle.ng_bencode.specs.Room.{Room}
use Rattle.offer_answer.specs.Rounds.{Round}
use Rattle.offer_answer.specs.Dialogs.{DialogFor, Awaits}
use Rattle.offer_answer.specs.declared.last_offer.LastOffer.{LastOffer}
use Rattle.offer_answer.specs.declared.dialog.Dialog.{Dialog}
use Rattle.offer_answer.specs.declared.saved.DialogSaved.{DialogSaved}

-- this is held of the last offer: its tag by its bytes, and all else as it is
pub record OfferSaves (last saved : LastOffer) : Type 0 where
  pub from_tag_is : saved.from_tag.list ≡ last.from_tag.list
  pub maker_is : saved.maker ≡ last.maker
  pub options_are : saved.options ≡ last.options
  pub count_is : saved.count ≡ last.count
  pub sections_are : saved.sections ≡ last.sections

-- an offer is held exactly where there is one
abbrev pub LastOfferSaves : Option LastOffer → Option LastOffer → Type 0
LastOfferSaves None None = Unit {0}
LastOfferSaves None (Some saved) = ⊥
LastOfferSaves (Some last) None = ⊥
LastOfferSaves (Some last) (Some saved) = OfferSaves last saved

-- The record is that of the dialog: it holds the bytes of its tags, and all else as it is.
pub record DialogSaves (dialog : Dialog) (saved : DialogSaved) : Type 0 where
  pub first_tag_is : saved.first_tag.list ≡ dialog.first_tag.list
  pub begun_is : saved.is_begun ≡ dialog.is_begun
  pub answering_tag_is : option_map (λ (tag : Room ℕ). tag.list) saved.answering_tag ≡ option_map (λ (tag : Room ℕ). tag.list) dialog.answering_tag
  pub has_answer_is : saved.has_answer ≡ dialog.has_answer
  pub settled_is : saved.is_settled ≡ dialog.is_settled
  pub committed_count_is : saved.committed_count ≡ dialog.committed_count
  pub last_offer_is : LastOfferSaves dialog.last_offer saved.last_offer
  pub sections_are : saved.sections ≡ dialog.sections

-- dialogs of one record stand for the same rounds
abbrev pub DialogMoves : Type 0
DialogMoves = (config : Config) (a b : Dialog) (saved : DialogSaved) (rounds : List Round) → DialogSaves a saved → DialogSaves b saved →
    DialogFor config a rounds → DialogFor config b rounds

-- and await their first offer from the same side
abbrev pub AwaitsMoves : Type 0
AwaitsMoves = (a b : Dialog) (saved : DialogSaved) (tag : List ℕ) → DialogSaves a saved → DialogSaves b saved → Awaits a tag → Awaits b tag
