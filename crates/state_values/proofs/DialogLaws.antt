-- Dialogs that are written alike, and that each is spelled.
use Rattle.std.proofs.Common.{◌≡◌, ℕ, Option, Some, None, IfSome, option_map, refl, arith}
use Rattle.relay_outside.specs.declared.address.Family.{Family}
use Rattle.sdp_text.specs.declared.proto.Proto.{Proto}
use Rattle.ng_bencode.specs.Room.{Room}
use Rattle.ng_bencode.specs.Tree.{Bytes, Items, no_items, item}
use Rattle.ng_bencode.specs.Spells.{spelling, Spells}
use Rattle.offer_answer.specs.declared.leg.DrawnKey.{DrawnKey}
use Rattle.offer_answer.specs.declared.leg.Leg.{Leg}
use Rattle.offer_answer.specs.declared.leg.DialogSection.{DialogSection}
use Rattle.offer_answer.specs.declared.last_offer.LastOffer.{LastOffer}
use Rattle.offer_answer.specs.declared.saved.DialogSaved.{DialogSaved}
use Rattle.offer_answer.specs.SavedDialogs.{LastOfferSaves}
use Rattle.state_values.specs.Forms.{option_tree, flag_number, suite_number, family_number, proto_number, family_tree, proto_tree}
use Rattle.state_values.specs.OfferTrees.{offer_tree, FitsOffer}
use Rattle.state_values.specs.DialogTrees.{key_tree, leg_tree, kept_tree, tag_tree, dialog_tree, FitsKey, FitsLeg, FitsKept, FitsDialogSaved, IsSameDialog}
use Rattle.state_values.proofs.NumberTrees.{same_number}
use Rattle.state_values.proofs.KeyedTrees.{same_entries, same_value, same_rest}
use Rattle.state_values.proofs.FormLaws.{same_bytes, same_flag, same_family, same_suite, same_proto, same_option, same_plain_option, same_each, bytes_spelled, option_spelled, ended, then_entry, dict_spelled}
use Rattle.state_values.proofs.OfferLaws.{same_offer, offer_spelled}
use Rattle.state_values.proofs.Spelled.{Spelled, number_spelled, list_spelled}

same_key : (a b : DrawnKey) → FitsKey a → FitsKey b → key_tree a ≡ key_tree b → a ≡ b
same_key a b fits_a fits_b same =
    let first = same_entries same in
    let second = same_rest first in
    let third = same_rest second in
    let bytes = same_bytes a.bytes b.bytes (same_value first) in
    let number = same_number a.number b.number fits_a.number fits_b.number (same_value second) in
    let suite = same_suite a.suite b.suite (same_value third) in
    λ i. record { bytes = bytes i; number = number i; suite = suite i }

same_leg : (a b : Leg) → FitsLeg a → FitsLeg b → leg_tree a ≡ leg_tree b → a ≡ b
same_leg a b fits_a fits_b same =
    let first = same_entries same in
    let second = same_rest first in
    let third = same_rest second in
    let fourth = same_rest third in
    let fifth = same_rest fourth in
    let sixth = same_rest fifth in
    let seventh = same_rest sixth in
    let family = same_plain_option family_tree same_family a.family b.family (same_value first) in
    let in_force = same_plain_option proto_tree same_proto a.in_force b.in_force (same_value second) in
    let key_in_force = same_option key_tree FitsKey same_key a.key_in_force b.key_in_force fits_a.key_in_force fits_b.key_in_force (same_value third) in
    let long_key = same_option key_tree FitsKey same_key a.long_key b.long_key fits_a.long_key fits_b.long_key (same_value fourth) in
    let offered = same_plain_option proto_tree same_proto a.offered b.offered (same_value fifth) in
    let port = same_number a.port b.port (omega (arith, fits_a.port)) (omega (arith, fits_b.port)) (same_value sixth) in
    let short_key = same_option key_tree FitsKey same_key a.short_key b.short_key fits_a.short_key fits_b.short_key (same_value seventh) in
    λ i. record { family = family i; in_force = in_force i; key_in_force = key_in_force i; long_key = long_key i; offered = offered i; port = port i; short_key = short_key i }

same_kept : (x y : DialogSection) → FitsKept x → FitsKept y → kept_tree x ≡ kept_tree y → x ≡ y
same_kept x y fits_x fits_y same =
    let first = same_entries same in
    let second = same_rest first in
    let third = same_rest second in
    let fourth = same_rest third in
    let a = same_leg x.a y.a fits_x.a fits_y.a (same_value first) in
    let b = same_leg x.b y.b fits_x.b fits_y.b (same_value second) in
    let has_pairs = same_flag x.has_pairs y.has_pairs (same_value third) in
    let is_committed = same_flag x.is_committed y.is_committed (same_value fourth) in
    λ i. record { a = a i; b = b i; has_pairs = has_pairs i; is_committed = is_committed i }

same_tag_option : (a b : Option (Room ℕ)) → option_tree tag_tree a ≡ option_tree tag_tree b → option_map (λ (tag : Room ℕ). tag.list) a ≡ option_map (λ (tag : Room ℕ). tag.list) b
same_tag_option None None e = refl
same_tag_option None (Some y) e = let f : Items no_items ≡ Items (item (tag_tree y) no_items) = e in absurd (cc)
same_tag_option (Some x) None e = let f : Items (item (tag_tree x) no_items) ≡ Items no_items = e in absurd (cc)
same_tag_option (Some x) (Some y) e =
    let f : Items (item (Bytes x.list) no_items) ≡ Items (item (Bytes y.list) no_items) = e in
    let g : x.list ≡ y.list = cc in
    λ i. Some (g i)

same_offer_option : (a b : Option LastOffer) → IfSome a FitsOffer → IfSome b FitsOffer → option_tree offer_tree a ≡ option_tree offer_tree b → LastOfferSaves b a
same_offer_option None None fits_a fits_b e = tt
same_offer_option None (Some y) fits_a fits_b e = let f : Items no_items ≡ Items (item (offer_tree y) no_items) = e in absurd (cc)
same_offer_option (Some x) None fits_a fits_b e = let f : Items (item (offer_tree x) no_items) ≡ Items no_items = e in absurd (cc)
same_offer_option (Some x) (Some y) fits_a fits_b e =
    let f : Items (item (offer_tree x) no_items) ≡ Items (item (offer_tree y) no_items) = e in
    let g : offer_tree x ≡ offer_tree y = cc in
    same_offer x y fits_a fits_b g

pub same_dialogs : (a b : DialogSaved) → FitsDialogSaved a → FitsDialogSaved b → dialog_tree a ≡ dialog_tree b → IsSameDialog a b
same_dialogs a b fits_a fits_b same =
    let first = same_entries same in
    let second = same_rest first in
    let third = same_rest second in
    let fourth = same_rest third in
    let fifth = same_rest fourth in
    let sixth = same_rest fifth in
    let seventh = same_rest sixth in
    let eighth = same_rest seventh in
    record {
      first_tag = same_bytes a.first_tag.list b.first_tag.list (same_value third);
      is_begun = same_flag a.is_begun b.is_begun (same_value fifth);
      answering_tag = same_tag_option a.answering_tag b.answering_tag (same_value first);
      has_answer = same_flag a.has_answer b.has_answer (same_value fourth);
      is_settled = same_flag a.is_settled b.is_settled (same_value sixth);
      committed_count = same_number a.committed_count b.committed_count fits_a.committed_count fits_b.committed_count (same_value second);
      last_offer = same_offer_option a.last_offer b.last_offer fits_a.last_offer fits_b.last_offer (same_value seventh);
      sections = same_each kept_tree FitsKept same_kept a.sections b.sections fits_a.sections fits_b.sections (same_value eighth);
    }

-- ---- how deep they are

family_spelled : (it : Family) → Spelled 0 (family_tree it)
family_spelled it = number_spelled (family_number it)

proto_spelled : (it : Proto) → Spelled 0 (proto_tree it)
proto_spelled it = number_spelled (proto_number it)

tag_spelled : (tag : Room ℕ) → Spelled 0 (tag_tree tag)
tag_spelled tag = bytes_spelled tag.list

key_spelled : (key : DrawnKey) → Spelled 1 (key_tree key)
key_spelled key = dict_spelled {most = 0}
    (then_entry {few = 0} (omega arith) (bytes_spelled key.bytes)
    (then_entry {few = 0} (omega arith) (number_spelled key.number)
    (then_entry {few = 0} (omega arith) (number_spelled (suite_number key.suite)) ended)))

leg_spelled : (leg : Leg) → Spelled 3 (leg_tree leg)
leg_spelled leg = dict_spelled {most = 2}
    (then_entry {few = 1} (omega arith) (option_spelled family_tree 0 family_spelled leg.family)
    (then_entry {few = 1} (omega arith) (option_spelled proto_tree 0 proto_spelled leg.in_force)
    (then_entry {few = 2} (omega arith) (option_spelled key_tree 1 key_spelled leg.key_in_force)
    (then_entry {few = 2} (omega arith) (option_spelled key_tree 1 key_spelled leg.long_key)
    (then_entry {few = 1} (omega arith) (option_spelled proto_tree 0 proto_spelled leg.offered)
    (then_entry {few = 0} (omega arith) (number_spelled leg.port)
    (then_entry {few = 2} (omega arith) (option_spelled key_tree 1 key_spelled leg.short_key) ended)))))))

kept_spelled : (kept : DialogSection) → Spelled 4 (kept_tree kept)
kept_spelled kept = dict_spelled {most = 3}
    (then_entry {few = 3} (omega arith) (leg_spelled kept.a)
    (then_entry {few = 3} (omega arith) (leg_spelled kept.b)
    (then_entry {few = 0} (omega arith) (number_spelled (flag_number kept.has_pairs))
    (then_entry {few = 0} (omega arith) (number_spelled (flag_number kept.is_committed)) ended))))

pub dialog_deep : (saved : DialogSaved) → Spelled 8 (dialog_tree saved)
dialog_deep saved = dict_spelled {most = 7}
    (then_entry {few = 1} (omega arith) (option_spelled tag_tree 0 tag_spelled saved.answering_tag)
    (then_entry {few = 0} (omega arith) (number_spelled saved.committed_count)
    (then_entry {few = 0} (omega arith) (bytes_spelled saved.first_tag.list)
    (then_entry {few = 0} (omega arith) (number_spelled (flag_number saved.has_answer))
    (then_entry {few = 0} (omega arith) (number_spelled (flag_number saved.is_begun))
    (then_entry {few = 0} (omega arith) (number_spelled (flag_number saved.is_settled))
    (then_entry {few = 7} (omega arith) (option_spelled offer_tree 6 offer_spelled saved.last_offer)
    (then_entry {few = 5} (omega arith) (list_spelled kept_tree 4 kept_spelled saved.sections) ended))))))))

pub dialog_spelled : (saved : DialogSaved) → Spells (spelling (dialog_tree saved)) (dialog_tree saved)
dialog_spelled saved =
    let all = dialog_deep saved in
    record { ints = all.ints; deep = omega (arith, all.deep); spelled = refl }
