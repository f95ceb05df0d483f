-- What each event of a cell makes of the holders of its legs.
use Rattle.std.proofs.Common.{◌≡◌, ◌∙◌, refl, sym, ap, ℕ, Bool, true, false, not, cond, ◌&&◌, ◌==◌, List, [], ◌∷◌, ◌++◌, map, filter, Option, Some}
use Rattle.std.proofs.lemmas.List.{map-append, append-nil}
use Rattle.std.specs.Prelude.{slice_index_or}
use Rattle.relay_outside.specs.declared.settings.Config.{Config}
use Rattle.sdes_lines.specs.declared.crypto_line.Suite.{Suite}
use Rattle.sdes_lines.specs.declared.crypto_line.Suite.TheVariants.{Tag80, Tag32}
use Rattle.port_pool.specs.declared.holder.Holder.{Holder}
use Rattle.port_pool.specs.declared.holder.Side.{Side}
use Rattle.port_pool.specs.declared.signal.SectionSignal.{SectionSignal}
use Rattle.port_pool.specs.Signals.{NewKey, side_eq, is_rejected}
use Rattle.call_cell.specs.Shapes.{CellLegShape, CellShape, with_key_number, key_number_at, with_key_numbers, offered_shape, answered_leg, answered_shape}
use Rattle.call_shapes.specs.Events.{brought_shape}
use Rattle.call_shapes.specs.Turns.{LegsMove, holders_of}

-- the holders of the legs that pass
filter_case : (p : Holder → Bool) (leg : CellLegShape) (legs : List CellLegShape) → holders_of (filter (λ (l : CellLegShape). p l.holder) legs) ≡ filter p (holders_of legs)
    → (b : Bool) → holders_of (cond b (leg ∷ filter (λ (l : CellLegShape). p l.holder) legs) (filter (λ (l : CellLegShape). p l.holder) legs)) ≡ cond b (leg.holder ∷ filter p (holders_of legs)) (filter p (holders_of legs))
filter_case p leg legs rest true = ap (λ (l : List Holder). leg.holder ∷ l) rest
filter_case p leg legs rest false = rest

pub holders_filtered : (p : Holder → Bool) (legs : List CellLegShape) → holders_of (filter (λ (l : CellLegShape). p l.holder) legs) ≡ filter p (holders_of legs)
holders_filtered p [] = refl
holders_filtered p (leg ∷ legs) = filter_case p leg legs (holders_filtered p legs) (p leg.holder)

-- keys change no holder
key_holder : (suite : Suite) (number : Option ℕ) (leg : CellLegShape) → (with_key_number suite number leg).holder ≡ leg.holder
key_holder Tag80 number leg = refl
key_holder Tag32 number leg = refl

key_case : (section : ℕ) (side : Side) (suite : Suite) (number : Option ℕ) (leg : CellLegShape) (legs : List CellLegShape)
    → holders_of (key_number_at section side suite number legs) ≡ holders_of legs
    → (b : Bool) → holders_of (cond b (with_key_number suite number leg ∷ legs) (leg ∷ key_number_at section side suite number legs)) ≡ holders_of (leg ∷ legs)
key_case section side suite number leg legs rest true = ap (λ (h : Holder). h ∷ holders_of legs) (key_holder suite number leg)
key_case section side suite number leg legs rest false = ap (λ (l : List Holder). leg.holder ∷ l) rest

one_key : (section : ℕ) (side : Side) (suite : Suite) (number : Option ℕ) (legs : List CellLegShape) → holders_of (key_number_at section side suite number legs) ≡ holders_of legs
one_key section side suite number [] = refl
one_key section side suite number (leg ∷ legs) =
    key_case section side suite number leg legs (one_key section side suite number legs) ((section == leg.holder.section) && side_eq side leg.holder.side)

pub keys_holders : (keys : List NewKey) (legs : List CellLegShape) → holders_of (with_key_numbers keys legs) ≡ holders_of legs
keys_holders [] legs = refl
keys_holders (key ∷ keys) legs = one_key key.section key.side key.suite (Some key.number) (with_key_numbers keys legs) ∙ keys_holders keys legs

pub brought_holders : (config : Config) (legs : List Holder) → holders_of (map (brought_shape config) legs) ≡ legs
brought_holders config [] = refl
brought_holders config (leg ∷ legs) = ap (λ (l : List Holder). leg ∷ l) (brought_holders config legs)

answered_holders : (signal : List SectionSignal) (legs : List CellLegShape) → holders_of (map (answered_leg signal) legs) ≡ holders_of legs
answered_holders signal [] = refl
answered_holders signal (leg ∷ legs) = ap (λ (l : List Holder). leg.holder ∷ l) (answered_holders signal legs)

-- an offer: those of the flagged sections go, and the new ones come
pub offer_moves : (flags : List Bool) (came : List Holder) (keys : List NewKey) (call : ℕ) (shape : CellShape)
    → LegsMove (λ leg. slice_index_or flags leg.section false) came (filter (λ leg. slice_index_or flags leg.section false) (holders_of shape.legs)) (holders_of shape.legs)
    (holders_of (offered_shape flags (map (brought_shape shape.config) came) keys call shape).legs)
offer_moves flags came keys call shape =
    let stays = λ (leg : Holder). not (slice_index_or flags leg.section false) in
    record {
      went = refl;
      stay = keys_holders keys (filter (λ (l : CellLegShape). stays l.holder) shape.legs ++ map (brought_shape shape.config) came)
          ∙ map-append (λ (l : CellLegShape). l.holder) (filter (λ (l : CellLegShape). stays l.holder) shape.legs) (map (brought_shape shape.config) came)
          ∙ ap (λ (l : List Holder). l ++ holders_of (map (brought_shape shape.config) came)) (holders_filtered stays shape.legs)
          ∙ ap (λ (l : List Holder). filter stays (holders_of shape.legs) ++ l) (brought_holders shape.config came);
    }

-- an answer: those of the rejected sections go, and none comes
pub answer_moves : (signal : List SectionSignal) (shape : CellShape)
    → LegsMove (λ leg. is_rejected signal leg.section) [] (filter (λ leg. is_rejected signal leg.section) (holders_of shape.legs)) (holders_of shape.legs)
    (holders_of (answered_shape signal shape).legs)
answer_moves signal shape =
    let stays = λ (leg : Holder). not (is_rejected signal leg.section) in
    record {
      went = refl;
      stay = answered_holders signal (filter (λ (l : CellLegShape). stays l.holder) shape.legs)
          ∙ holders_filtered stays shape.legs ∙ sym (append-nil (filter stays (holders_of shape.legs)));
    }
