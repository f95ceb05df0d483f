-- How a dialog is written: a key of the dictionary for each field, in the order of their bytes. Its sections are a list of eight.
use Rattle.std.specs.Prelude.{codes, ℕ, ◌≡◌, ◌<◌, ◌^◌, length, All, IfSome, option_map}
use Rattle.ng_bencode.specs.Room.{Room}
use Rattle.ng_bencode.specs.Tree.{Tree, Bytes, Dict, entry, no_entries}
use Rattle.offer_answer.specs.declared.leg.DrawnKey.{DrawnKey}
use Rattle.offer_answer.specs.declared.leg.Leg.{Leg}
use Rattle.offer_answer.specs.declared.leg.DialogSection.{DialogSection}
use Rattle.offer_answer.specs.declared.saved.DialogSaved.{DialogSaved}
use Rattle.offer_answer.specs.SavedDialogs.{LastOfferSaves}
use Rattle.state_values.specs.Numbers.{number_tree, list_tree}
use Rattle.state_values.specs.Forms.{option_tree, flag_tree, family_tree, suite_tree, proto_tree}
use Rattle.state_values.specs.OfferTrees.{offer_tree, FitsOffer}

-- a drawn key, in full
abbrev pub key_tree : DrawnKey → Tree
key_tree key = Dict
    (entry (codes "bytes") (Bytes key.bytes)
    (entry (codes "number") (number_tree key.number)
    (entry (codes "suite") (suite_tree key.suite) no_entries)))

abbrev pub leg_tree : Leg → Tree
leg_tree leg = Dict
    (entry (codes "family") (option_tree family_tree leg.family)
    (entry (codes "in_force") (option_tree proto_tree leg.in_force)
    (entry (codes "key_in_force") (option_tree key_tree leg.key_in_force)
    (entry (codes "long_key") (option_tree key_tree leg.long_key)
    (entry (codes "offered") (option_tree proto_tree leg.offered)
    (entry (codes "port") (number_tree leg.port)
    (entry (codes "short_key") (option_tree key_tree leg.short_key) no_entries)))))))

abbrev pub kept_tree : DialogSection → Tree
kept_tree kept = Dict
    (entry (codes "a") (leg_tree kept.a)
    (entry (codes "b") (leg_tree kept.b)
    (entry (codes "has_pairs") (flag_tree kept.has_pairs)
    (entry (codes "is_committed") (flag_tree kept.is_committed) no_entries))))

-- a tag is its bytes
abbrev pub tag_tree : Room ℕ → Tree
tag_tree tag = Bytes tag.list

abbrev pub dialog_tree : DialogSaved → Tree
dialog_tree saved = Dict
    (entry (codes "answering_tag") (option_tree tag_tree saved.answering_tag)
    (entry (codes "committed_count") (number_tree saved.committed_count)
    (entry (codes "first_tag") (tag_tree saved.first_tag)
    (entry (codes "has_answer") (flag_tree saved.has_answer)
    (entry (codes "is_begun") (flag_tree saved.is_begun)
    (entry (codes "is_settled") (flag_tree saved.is_settled)
    (entry (codes "last_offer") (option_tree offer_tree saved.last_offer)
    (entry (codes "sections") (list_tree kept_tree saved.sections) no_entries))))))))

-- the ranges of the fields
pub record FitsKey (key : DrawnKey) : Type 0 where
  pub number : key.number < 2 ^ 64
  pub bytes : length key.bytes ≡ 30

pub record FitsLeg (leg : Leg) : Type 0 where
  pub port : leg.port < 2 ^ 16
  pub long_key : IfSome leg.long_key FitsKey
  pub short_key : IfSome leg.short_key FitsKey
  pub key_in_force : IfSome leg.key_in_force FitsKey

pub record FitsKept (kept : DialogSection) : Type 0 where
  pub a : FitsLeg kept.a
  pub b : FitsLeg kept.b

pub record FitsDialogSaved (saved : DialogSaved) : Type 0 where
  pub committed_count : saved.committed_count < 2 ^ 64
  pub last_offer : IfSome saved.last_offer FitsOffer
  pub sections : All FitsKept saved.sections
  pub sections_long : length saved.sections ≡ 8

-- The same to all that reads them: the tags by their bytes, whatever room they have to spare, and all else as it is.
pub record IsSameDialog (a b : DialogSaved) : Type 0 where
  pub first_tag : a.first_tag.list ≡ b.first_tag.list
  pub is_begun : a.is_begun ≡ b.is_begun
  pub answering_tag : option_map (λ (tag : Room ℕ). tag.list) a.answering_tag ≡ option_map (λ (tag : Room ℕ). tag.list) b.answering_tag
  pub has_answer : a.has_answer ≡ b.has_answer
  pub is_settled : a.is_settled ≡ b.is_settled
  pub committed_count : a.committed_count ≡ b.committed_count
  pub last_offer : LastOfferSaves b.last_offer a.last_offer
  pub sections : a.sections ≡ b.sections
