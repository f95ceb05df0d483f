-- What a dialog that stands for rounds keeps.
use Rattle.std.proofs.Common.{◌≡◌, ◌<◌, ◌≤◌, ℕ, List, Bool, true, false, Option, Some, None, sym, ap, subst, if◌then◌else◌, option_map, slice_index_or}
use Rattle.relay_outside.specs.declared.settings.Config.{Config}
use Rattle.ng_bencode.specs.Room.{Room}
use Rattle.port_pool.specs.declared.holder.Side.{Side}
use Rattle.port_pool.specs.declared.holder.Side.TheVariants.{A, B}
use Rattle.offer_answer.specs.Rounds.{Round}
use Rattle.std.specs.Str.{bytes_eq}
use Rattle.offer_answer.specs.Sides.{is_tag_of}
use Rattle.offer_answer.specs.Plan.{tag, protocol}
use Rattle.offer_answer.specs.Dialogs.{DialogFor, leg_at, no_state}
use Rattle.offer_answer.specs.declared.dialog.Dialog.{Dialog}

pub begun_tag : (config : Config) (dialog : Dialog) (rounds : List Round) → DialogFor config dialog rounds → dialog.is_begun ≡ true → tag rounds A ≡ Some dialog.first_tag.list
unfolding tag
begun_tag config dialog rounds s e = sym (subst (λ (b : Bool). (if b then Some dialog.first_tag.list else None) ≡ tag rounds A) e s.first_tag_is)

pub no_tag : (config : Config) (dialog : Dialog) (rounds : List Round) → DialogFor config dialog rounds → dialog.is_begun ≡ false → tag rounds A ≡ None
unfolding tag
no_tag config dialog rounds s e = sym (subst (λ (b : Bool). (if b then Some dialog.first_tag.list else None) ≡ tag rounds A) e s.first_tag_is)

pub answering : (config : Config) (dialog : Dialog) (rounds : List Round) → DialogFor config dialog rounds → tag rounds B ≡ option_map (λ (t : Room ℕ). t.list) dialog.answering_tag
unfolding tag
answering config dialog rounds s = sym s.answering_tag_is

pub protocol_kept : (config : Config) (dialog : Dialog) (rounds : List Round) (section : ℕ) (side : Side) → DialogFor config dialog rounds → section < 8 →
    (leg_at (slice_index_or dialog.sections section no_state) side).in_force ≡ protocol rounds section side
unfolding protocol
protocol_kept config dialog rounds section side s l = ((s.sections_are section l).legs_are side).in_force_is

pub no_protocol : (config : Config) (dialog : Dialog) (rounds : List Round) (section : ℕ) (side : Side) → DialogFor config dialog rounds → 8 ≤ section → None ≡ protocol rounds section side
unfolding protocol
no_protocol config dialog rounds section side s l = sym (s.no_more section side l)

pub tag-is : (rounds : List Round) (side : Side) (own given : List ℕ) → tag rounds side ≡ Some own → is_tag_of rounds side given ≡ bytes_eq own given
unfolding tag
tag-is rounds side own given e = ap (λ (o : Option (List ℕ)). elim o [ None ↦ false | Some own ↦ bytes_eq own given ]) e

pub no_tag-is : (rounds : List Round) (side : Side) (given : List ℕ) → tag rounds side ≡ None → is_tag_of rounds side given ≡ false
unfolding tag
no_tag-is rounds side given e = ap (λ (o : Option (List ℕ)). elim o [ None ↦ false | Some own ↦ bytes_eq own given ]) e
