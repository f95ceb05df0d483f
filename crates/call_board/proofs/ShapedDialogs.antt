-- The shape of a dialog before its first offer.
use Rattle.std.proofs.Common.{◌≡◌, refl, ℕ, zero, suc, ◌+◌, ◌<◌, ◌≤◌, [], ◌∷◌, map, replicate, Option, Some, None, arith}
use Rattle.std.specs.Prelude.{◌&&◌, option_map, slice_index_or}
use Rattle.relay_outside.specs.declared.settings.Config.{Config}
use Rattle.histories.specs.Words.{numbers}
use Rattle.sdes_lines.specs.declared.crypto_line.Suite.TheVariants.{Tag80, Tag32}
use Rattle.port_pool.specs.declared.holder.Side.{Side}
use Rattle.port_pool.specs.declared.holder.Side.TheVariants.{A, B}
use Rattle.offer_answer.specs.Dialogs.{DialogFor, LegFor, drawn_for_leg, no_state}
use Rattle.offer_answer.specs.LastOffers.{OfferKept}
use Rattle.offer_answer.specs.Shapes.{key_shape, leg_shape, no_leg_shape, shape_of, bare_shape, offered_count, dialog_shape}
use Rattle.offer_answer.specs.declared.leg.DrawnKey.{DrawnKey}
use Rattle.offer_answer.specs.declared.leg.Leg.{Leg}
use Rattle.offer_answer.specs.declared.last_offer.LastOffer.{LastOffer}
use Rattle.offer_answer.specs.declared.dialog.Dialog.{Dialog}
use Rattle.call_board.specs.Shapes.{bare_dialog}

no_key : (section : ℕ) (side : Side) (key : Option DrawnKey) → option_map (drawn_for_leg section side) key ≡ None → option_map key_shape key ≡ None
no_key section side None is = refl
no_key section side (Some key) is = absurd (let f = is in cc)

bare_leg : (config : Config) (section : ℕ) (side : Side) (leg : Leg) → LegFor config [] section side leg → leg_shape leg ≡ no_leg_shape
bare_leg config section side leg s = λ i. record {
  port = s.port_is i;
  long_key = no_key section side leg.long_key (s.keys_are Tag80) i;
  short_key = no_key section side leg.short_key (s.keys_are Tag32) i;
  key_in_force = no_key section side leg.key_in_force s.key_in_force_is i;
}

bare_at : (config : Config) (dialog : Dialog) → DialogFor config dialog [] → (section : ℕ) → section < 8 → shape_of dialog section ≡ bare_shape
bare_at config dialog d section lt =
    let s = d.sections_are section lt in
    let kept = slice_index_or dialog.sections section no_state in λ i. record {
      has_pairs = s.pairs_are i;
      is_committed = s.pairs_are i && kept.is_committed;
      a = bare_leg config section A kept.a (s.legs_are A) i;
      b = bare_leg config section B kept.b (s.legs_are B) i;
    }

bare_from : (config : Config) (dialog : Dialog) → DialogFor config dialog [] → (n count : ℕ) → n + count ≤ 8 → map (shape_of dialog) (numbers n count) ≡ replicate count bare_shape
bare_from config dialog d n zero le = refl
bare_from config dialog d n (suc count) le =
    let here = bare_at config dialog d n (omega (arith, le)) in
    let more = bare_from config dialog d (suc n) count (omega (arith, le)) in
    λ i. here i ∷ more i

none_offered : (last : Option LastOffer) → OfferKept None last → last ≡ None
none_offered None kept = refl
none_offered (Some offer) kept = elim kept [ ]

-- a dialog before its first offer is bare
pub is_bare : (config : Config) (dialog : Dialog) → DialogFor config dialog [] → dialog_shape dialog ≡ bare_dialog
is_bare config dialog d =
    let none = none_offered dialog.last_offer d.offer_is in λ i. record {
      sections = bare_from config dialog d 0 8 (omega arith) i;
      offered_count = offered_count (record dialog { last_offer = none i });
      committed_count = d.committed_count_is i;
    }
