-- What a relay does, by the whole history of its cell.
use Rattle.std.proofs.Common.{◌≡◌, ◌∙◌, sym, ap, subst, ℕ, ◌≤◌, List, [], ◌∷◌, ◌++◌, Option, Result, Ok, Err, IfOk, arith}
use Rattle.relay_outside.specs.declared.ports.InCall.{InCall}
use Rattle.relay_outside.specs.declared.ports.OutCall.{OutCall}
use Rattle.relay_outside.specs.declared.settings.Config.{Config}
use Rattle.relay_outside.specs.DeviceLogs.{EndLog}
use Rattle.turn_table.specs.declared.hands.Hand.{Hand}
use Rattle.turn_table.specs.Hands.{view, entries, starts, parts, IsMain}
use Rattle.call_cell.specs.declared.outcome.Outcome.{Outcome}
use Rattle.call_cell.specs.Cells.{Receipt}
use Rattle.relay_core.specs.declared.part.Part.{Part}
use Rattle.relay_core.specs.declared.part.Part.TheVariants as part
use Rattle.relay_core.specs.Entries.{Entry, box_of, history}
use Rattle.relay_core.specs.Records.{Made}
use Rattle.relay_core.specs.FirstPlaces.{AreParts}
use Rattle.relay_core.specs.Legal.{Orderly}
use Rattle.relay_core.specs.PlaceHistories.{Stands}
use Rattle.relay_core.specs.Turns.{Numbered, made_by}
use Rattle.relay_core.proofs.Given.{given_box, given_whole_cell}
use Rattle.relay_core.proofs.KeysOnce.{keys_once}
use Rattle.relay_core.proofs.Own.{in_rows}
use Rattle.port_pool.specs.declared.holder.Holder.{Holder}
use Rattle.port_pool.specs.Boxes.{FitsTaken}
use Rattle.rtp_packet.specs.declared.head.Half.{Half}
use Rattle.media_lane.specs.declared.answers.Received.{Received}
use Rattle.media_lane.specs.Relays.{MakesRelay}
use Rattle.media_lane.specs.Takes.{MakesTake}
use Rattle.media_lane.specs.Steps.{take_entry, Took, recorded_relay, RelaysBy}

-- bytes that are those of a copy, where it was made
pub of_copy : {T E : Type 0} (copy : Result T E) (list : T → List ℕ) (bytes : List ℕ) (P : List ℕ → Type 0) → IfOk copy (λ t. list t ≡ bytes) → P bytes → IfOk copy (λ t. P (list t))
of_copy (Ok t) list bytes P is p = subst P (sym is) p
of_copy (Err e) list bytes P is p = tt

module _ {I O : Type 0} (it : I → EndLog InCall) (ic : I → ℕ) (ot : O → EndLog OutCall) (oc : O → ℕ) {M : Type 0} {g : _} where
  -- by the only hand
  pub relays_by : (Tried : Type 0) (config : Config) (p : Receipt) (now : ℕ) (outcome : Outcome) (bytes : List ℕ) (old after : Hand M (Part I O) Made (Unit {0}) g) (new : List Entry)
      → AreParts config (starts old) → Numbered (made_by old) → Orderly config (made_by old) → (1 ≤ p.holder.cell) × (p.holder.cell ≤ config.max_sessions) → parts old ≡ 1024
      → (r : MakesRelay it ic ot oc Tried p now outcome bytes old after) → new ≡ made_by old ++ recorded_relay p r.number r.moment outcome ∷ []
      → RelaysBy config (made_by old) p now outcome bytes new
  relays_by Tried config p now outcome bytes old after new are numbered orderly in_range all r is =
      let k = p.holder.cell in
      let stands : Stands {I = I} config (part.Cell r.before) (history (made_by old) k r.number) =
      given_whole_cell it ic ot oc config (view old) k r.number (part.Cell r.before) are in_range.0 in_range.1 r.given all numbered (keys_once config (made_by old) orderly k r.number) in
      let did = r.step.steps config stands.history p.take stands.stands in record {
        number = r.number;
        at_front = λ e i place. let row = in_rows (entries old) i in
            let low = r.given.above row.row row.is_in (ap (λ (x : Entry). x.place) row.is ∙ place) in
            let same = ap (λ (x : Entry). x.number) row.is in omega (arith, low, same);
        history = stands.history;
        recorded = stands.is_recorded;
        fitting = stands.fitting;
        outcome_is = did.1.outcome;
        bytes_are = r.are_sent config stands.history stands.stands;
        list_is = is ∙ ap (λ (m : ℕ). made_by old ++ recorded_relay p r.number m outcome ∷ []) did.0;
      }

  -- a take by the main hand
  pub took_by : (Tried : Type 0) (config : Config) (pair : ℕ) (half : Half) (answer : Received) (old after : Hand M (Part I O) Made (Unit {0}) g) (new : List Entry)
      → AreParts config (starts old) → Numbered (made_by old) → IsMain old → (t : MakesTake it ic ot oc Tried config pair half answer old after)
      → new ≡ made_by old ++ take_entry config pair half t.number t.taken ∷ [] → Took config (made_by old) pair half answer new
  took_by Tried config pair half answer old after new are numbered main t is =
      let k = box_of config pair in
      let box = given_box it ic ot oc config (view old) k t.number (part.Pair t.before) are (omega arith) t.given main numbered in record {
        number = t.number;
        at_front = λ e i place. let row = in_rows (entries old) i in
            let low = t.given.above row.row row.is_in (ap (λ (x : Entry). x.place) row.is ∙ place) in
            let same = ap (λ (x : Entry). x.number) row.is in omega (arith, low, same);
        taken = t.taken;
        fits = subst (λ (o : Option Holder). FitsTaken o t.taken) box.0 t.fits;
        list_is = is;
        tells = t.tells;
      }
