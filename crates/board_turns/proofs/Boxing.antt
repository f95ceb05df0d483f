-- What the main hand is given at a box, and what its ends then are.
use Rattle.std.proofs.Common.{◌≡◌, refl, sym, subst, ℕ, ◌<◌, ◌≤◌, List, ◌∷◌, Option, Some, None, IsSome, arith}
use Rattle.relay_outside.specs.declared.settings.Config.{Config}
use Rattle.relay_outside.specs.declared.ports.InCall.{InCall}
use Rattle.relay_outside.specs.declared.ports.OutCall.{OutCall}
use Rattle.relay_outside.specs.DeviceLogs.{EndLog}
use Rattle.turn_table.specs.declared.hands.Turns.{Turns}
use Rattle.turn_table.specs.declared.hands.Hand.{Hand}
use Rattle.turn_table.specs.Hands.{view, IsGiven}
use Rattle.port_pool.specs.declared.holder.Holder.{Holder}
use Rattle.port_pool.specs.declared.boxes.Opened.{Opened}
use Rattle.port_pool.specs.Boxes.{BoxEvent, FitsBox, Open}
use Rattle.port_pool.specs.declared.boxes.PairBox.{PairBox}
use Rattle.port_pool.specs.PairBoxes.{BoxFor, holder_of, pair_ends, ends_in, at_of, cells_of}
use Rattle.port_pool.specs.Ports.{pair_count}
use Rattle.relay_core.specs.declared.part.Part.{Part}
use Rattle.relay_core.specs.declared.part.Part.TheVariants as part
use Rattle.relay_core.specs.Entries.{Box, box_of}
use Rattle.relay_core.specs.Records.{Made}
use Rattle.relay_core.specs.Steps.{Relates, IsReserved}
use Rattle.relay_core.proofs.Shaped.{HasHolder}
use Rattle.relay_core.proofs.KeptGiven.{kept_box}
use Rattle.board_turns.specs.NestedSteps.{MayNest, holder_now, IsShut, IsTurnOpen, OpensBox, Shuts, nested}
use Rattle.board_turns.specs.BoxStates.{CanOpen, CanShut, FitEnds, HasEnds}

-- a box without a holder has no ends
pub no_ends : {I : Type 0} (o : Option (Opened I)) → holder_of o ≡ None → pair_ends o ≡ None
no_ends None q = refl
no_ends (Some opened) q = absurd (let e : Some opened.holder ≡ None = q in cc)

module _ {I O : Type 0} where
  can_open : (cells : ℕ) (leg : Holder) (x : Part I O) → HasHolder cells x None → 1 ≤ leg.cell → leg.cell ≤ cells → CanOpen leg x
  can_open cells leg (part.Board board) is low high = absurd is
  can_open cells leg (part.Cell cell) is low high = absurd is
  can_open cells leg (part.Pair box) is low high = (is.0, low, let q = is.1 in omega (arith, q, high))

  can_shut : (cells : ℕ) (held : Option Holder) (x : Part I O) → HasHolder cells x held → IsSome held → CanShut x
  can_shut cells held (part.Board board) is some = absurd is
  can_shut cells held (part.Cell cell) is some = absurd is
  can_shut cells held (part.Pair box) is some = subst (λ (o : Option Holder). IsSome o) (sym is.0) some

-- a shut box that is opened makes the step of an opening
pub open_relates : {I O : Type 0} (it : I → EndLog InCall) (ic : I → ℕ) (ot : O → EndLog OutCall) (oc : O → ℕ) (x : Part I O) (old new : PairBox I) (leg : Holder)
    (rtp rtcp : I) (number handed : ℕ) → x ≡ part.Pair old → CanOpen leg x → FitEnds it x (rtp, rtcp)
    → ((h : List BoxEvent) → BoxFor old h → FitsBox h (Open leg) × BoxFor new (Open leg ∷ h)) → ends_in new ≡ Some (rtp, rtcp) → cells_of new ≡ cells_of old
    → at_of new ≡ at_of old → Relates it ic ot oc x (nested number handed 0 (Box (Open leg))) (part.Pair new)
open_relates {I = I} {O = O} it ic ot oc x old new leg rtp rtcp number handed is can fits history ends cells at =
    let shut = subst (CanOpen leg) is can in
    let fit = subst (λ (z : Part I O). FitEnds it z (rtp, rtcp)) is fits in
    subst (λ (z : Part I O). Relates it ic ot oc z (nested number handed 0 (Box (Open leg))) (part.Pair new)) (sym is)
    (record {
      moment_is = refl;
      cells_are = cells;
      at_is = at;
      ends = (no_ends old.opened shut.0, record { rtp = rtp; rtcp = rtcp; are_in = ends; rtp_is_new = fit.0; rtcp_is_new = fit.1 });
      stands = history;
    })

module _ {M I O T : Type 0} {g : _} (it : I → EndLog InCall) (ic : I → ℕ) (ot : O → EndLog OutCall) (oc : O → ℕ) where
  abbrev pub Gives : Hand M (Part I O) Made T g → ℕ → ℕ → Part I O → Type 0
  Gives hand place n x = IsGiven (λ (a : Part I O) (m : Made) (o : T) (b : Part I O). Relates it ic ot oc a m b) IsReserved hand place n x

  -- the main hand is given a box that is open for the leg that the box's start and the hand's list say
  box_given : (config : Config) (turns : Turns M (Part I O) Made T) (hand : Hand M (Part I O) Made T g) (pair n : ℕ) (x : Part I O) → MayNest config turns hand
      → pair < pair_count config → Gives hand (box_of config pair) n x → HasHolder config.max_sessions x (holder_now config hand pair)
  box_given config turns hand pair n x may below given =
      kept_box it ic ot oc config (view hand) pair n x may.whole_parts below given may.main may.numbered

  pub shut_given : (config : Config) (turns : Turns M (Part I O) Made T) (hand : Hand M (Part I O) Made T g) (leg : Holder) (found n : ℕ) (x : Part I O)
      → MayNest config turns hand → leg.pair < pair_count config → IsShut config hand leg.pair → 1 ≤ leg.cell → leg.cell ≤ config.max_sessions
      → found ≡ box_of config leg.pair → Gives hand found n x → CanOpen leg x
  shut_given config turns hand leg found n x may below shut low high at given =
      let there : Gives hand (box_of config leg.pair) n x = subst (λ (k : ℕ). Gives hand k n x) at given in
      can_open config.max_sessions leg x
      (subst (λ (o : Option Holder). HasHolder config.max_sessions x o) shut (box_given config turns hand leg.pair n x may below there)) low high

  pub open_given : (config : Config) (turns : Turns M (Part I O) Made T) (hand : Hand M (Part I O) Made T g) (pair found n : ℕ) (x : Part I O)
      → MayNest config turns hand → pair < pair_count config → IsTurnOpen config hand pair → found ≡ box_of config pair → Gives hand found n x → CanShut x
  open_given config turns hand pair found n x may below held at given =
      let there : Gives hand (box_of config pair) n x = subst (λ (k : ℕ). Gives hand k n x) at given in
      can_shut config.max_sessions (holder_now config hand pair) x (box_given config turns hand pair n x may below there) held

  shut_by : (hand : Hand M (Part I O) Made T g) (place n : ℕ) (x y : Part I O) (made : Made) (ends : I × I) → Gives hand place n x
      → Relates it ic ot oc x made y → HasEnds x ends → Shuts it ic ot oc hand place made ends
  shut_by hand place n (part.Pair old) (part.Pair new) made ends given relates has = record {
    old = old;
    new = new;
    step = record { number = n; given = given; relates = relates };
    ends_are = has;
  }
  shut_by hand place n (part.Board old) y made ends given relates has = absurd has
  shut_by hand place n (part.Cell old) y made ends given relates has = absurd has
  shut_by hand place n (part.Pair old) (part.Board new) made ends given relates has = absurd relates
  shut_by hand place n (part.Pair old) (part.Cell new) made ends given relates has = absurd relates

  -- the ends that the box gave are those of the box that was shut
  pub shut_from : (hand : Hand M (Part I O) Made T g) (found place n : ℕ) (x now y : Part I O) (made : Made) (ends : I × I) → found ≡ place → now ≡ x
      → Gives hand found n x → Relates it ic ot oc now made y → HasEnds now ends → Shuts it ic ot oc hand place made ends
  shut_from hand found place n x now y made ends at same given relates has =
      shut_by hand place n now y made ends
      (subst (λ (k : ℕ). Gives hand k n now) at (subst (λ (z : Part I O). Gives hand found n z) (sym same) given)) relates has

  opened_by : (hand : Hand M (Part I O) Made T g) (place n : ℕ) (x y : Part I O) (made : Made) (ends : I × I) → Gives hand place n x
      → Relates it ic ot oc x made y → HasEnds y ends → OpensBox it ic ot oc hand place made ends
  opened_by hand place n (part.Pair old) (part.Pair new) made ends given relates has = record {
    old = old;
    new = new;
    step = record { number = n; given = given; relates = relates };
    ends_are = has;
  }
  opened_by hand place n x (part.Board new) made ends given relates has = absurd has
  opened_by hand place n x (part.Cell new) made ends given relates has = absurd has
  opened_by hand place n (part.Board old) (part.Pair new) made ends given relates has = absurd relates
  opened_by hand place n (part.Cell old) (part.Pair new) made ends given relates has = absurd relates

  -- the box that was opened has the ends that came
  pub opened_from : (hand : Hand M (Part I O) Made T g) (found place n : ℕ) (x now y : Part I O) (made : Made) (ends : I × I) → found ≡ place → now ≡ x
      → Gives hand found n x → Relates it ic ot oc now made y → HasEnds y ends → OpensBox it ic ot oc hand place made ends
  opened_from hand found place n x now y made ends at same given relates has =
      opened_by hand place n now y made ends
      (subst (λ (k : ℕ). Gives hand k n now) at (subst (λ (z : Part I O). Gives hand found n z) (sym same) given)) relates has
