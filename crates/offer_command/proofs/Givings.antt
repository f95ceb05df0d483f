-- What the devices returned for an offer that was carried out, and which pairs its entry leased.
use Rattle.std.proofs.Common.{◌≡◌, ◌∙◌, refl, sym, ap, subst, ℕ, ◌*◌, [], List, Option, Ok}
use Rattle.relay_outside.specs.declared.keys.KeyCall.{KeyCall}
use Rattle.relay_outside.specs.declared.ports.PortCall.{PortCall}
use Rattle.relay_outside.specs.declared.settings.Config.{Config}
use Rattle.relay_outside.specs.DeviceLogs.{Gained}
use Rattle.ng_bencode.specs.Tree.{Entries}
use Rattle.ng_command.specs.declared.command.OfferIn.{OfferIn}
use Rattle.ng_reply.specs.declared.code.ErrorCode.TheVariants.{E15, E16}
use Rattle.sdes_lines.specs.declared.crypto_line.CryptoLine.{CryptoLine}
use Rattle.offer_answer.specs.Offers.{pairs_demanded}
use Rattle.media_ports.specs.Draws.{KeyBytes, AreDrawn}
use Rattle.media_ports.specs.Openings.{OpensAt}
use Rattle.std.specs.Prelude.{replicate, true}
use Rattle.call_board.specs.Acts as act
use Rattle.call_board.specs.Acts.{BoardEntry}
use Rattle.call_board.specs.Answers.{Answered, offering, spelled}
use Rattle.call_board.specs.Pairs.{leased_by_act}
use Rattle.call_board.specs.Plans.{PlansOffer}
use Rattle.call_board.specs.Replies.{Fault}
use Rattle.call_board.specs.Views.{view_of}
use Rattle.call_board.specs.declared.board_plan.BoardPlan.{BoardPlan}
use Rattle.call_board.proofs.Done.{IsDue, with_reply, plan_leases, offer_ports_due, offer_keys_due, offered_due}
use Rattle.call_board.proofs.FreeAfter.{pairs_leased}
use Rattle.control_messages.specs.declared.request.Request.{Request}
use Rattle.board_turns.specs.declared.command_outcome.CommandOutcome.{CommandOutcome}
use Rattle.board_turns.specs.declared.device_answers.DeviceAnswers.{DeviceAnswers}
use Rattle.board_turns.specs.declared.device_answers.DeviceAnswers.TheVariants as device_answers
use Rattle.board_turns.specs.Commands.{record_as, record_by}
use Rattle.board_turns.specs.Controls.{RequestRecord, unanswered, entry_pairs}
use Rattle.board_turns.specs.DeviceAnswers.{given_by, IsGivenBy}
use Rattle.board_turns.proofs.Givings.{offered_given, ports_given, keys_given}
use Rattle.offer_command.specs.declared.lease.LeaseFault.{LeaseFault}
use Rattle.offer_command.specs.declared.lease.LeaseFault.TheVariants.{Port, Key}
use Rattle.offer_command.specs.Commands.{AsksForOffer, ask_of_offer, undone_answers}
use Rattle.offer_command.specs.Leases.{planned_pairs}
use Rattle.offer_command.specs.Offers.{target_of, pairs_for, offer_of, undone_leases}
use Rattle.offer_command.specs.Undo.{DrawsBefore, HasRisen, opens_before}
use Rattle.offer_command.proofs.Asked.{asks_offer, none_fails, one_fails}
use Rattle.offer_command.proofs.Taken.{pairs_of_legs}
use Rattle.offer_command.proofs.Targets.{planned_are}

-- what the entry of a datagram says that the devices returned is what they told
abbrev pub GivenFor : Config → List BoardEntry → (moment : ℕ) → RequestRecord → (ports ports_now keys keys_now : ℕ) → (opened opened_now : Option (List PortCall)) → (drew drew_now : Option (List KeyCall)) → Type 0
GivenFor config h moment x ports ports_now keys keys_now opened opened_now drew drew_now =
    IsGivenBy config (entry_pairs config h moment x) x.given ports ports_now keys keys_now opened opened_now drew drew_now

-- what is recorded, where the outcome is this
pub recorded_so : (request : Request) (pairs : Option Entries) (chosen : List (Option CryptoLine)) (device_answers : DeviceAnswers) (done : CommandOutcome) → done.chosen_lines ≡ chosen →
    done.device_answers ≡ device_answers → record_by request pairs done ≡ record_as request pairs chosen device_answers
recorded_so request pairs chosen device_answers done lines answers =
    ap (λ (ls : List (Option CryptoLine)). record_as request pairs ls done.device_answers) lines ∙ ap (λ (these : DeviceAnswers). record_as request pairs chosen these) answers

module _ (config : Config) (h : List BoardEntry) (moment : ℕ) (request : Request) (pairs : Option Entries) (input : OfferIn) (chosen : List (Option CryptoLine)) (p : BoardPlan)
    (c : AsksForOffer config h moment request pairs input) (plans : PlansOffer config (view_of config h) input.call_id.list (ask_of_offer input chosen) (Ok p)) where
  -- The entry leases the pairs that the board planned: where the offer is accepted
  offered_leases : (drawn : KeyBytes) → entry_pairs config h moment (record_as request pairs chosen (device_answers.Offered (2 * pairs_demanded p.plan) drawn)) ≡ planned_pairs config (view_of config h) p
  offered_leases drawn =
      let id = input.call_id.list in
      let ask = ask_of_offer input chosen in
      let given = device_answers.Offered (2 * pairs_demanded p.plan) drawn in
      let x = record_as request pairs chosen given in
      let t = target_of config h id in
      let o = offer_of config h id ask drawn.list in
      let is : IsDue config h moment (unanswered x) (spelled config request.cookie.now request.body.now (offering config t.rounds o)) =
      offered_due config h moment (unanswered x) id ask t.of t.begins t.rounds (pairs_for config h id ask) (asks_offer config h moment request pairs input chosen given c refl) refl
      (plan_leases config h (unanswered x) id ask p plans) (none_fails (2 * pairs_demanded p.plan)) refl in
      ap (λ (a : Answered). leased_by_act a.act) is ∙ pairs_of_legs config h id ask drawn.list ∙ sym (planned_are config h id ask p plans.1)

  -- and where it is undone
  undone_leased : (fault : LeaseFault) → entry_pairs config h moment (record_as request pairs chosen (undone_answers (2 * pairs_demanded p.plan) fault)) ≡ planned_pairs config (view_of config h) p
  undone_leased (Port opened) =
      let id = input.call_id.list in
      let ask = ask_of_offer input chosen in
      let given = device_answers.PortFault opened in
      let x = record_as request pairs chosen given in
      let t = target_of config h id in
      let is : IsDue config h moment (unanswered x) (with_reply config (unanswered x) (Fault E15) (act.Undone E15 (undone_leases config h id ask) [])) =
      offer_ports_due config h moment (unanswered x) id ask t.of t.begins t.rounds (pairs_for config h id ask) (asks_offer config h moment request pairs input chosen given c refl) refl
      (plan_leases config h (unanswered x) id ask p plans) (one_fails opened) in
      ap (λ (a : Answered). leased_by_act a.act) is ∙ pairs_leased h (pairs_for config h id ask) ∙ sym (planned_are config h id ask p plans.1)
  undone_leased (Key drawn) =
      let id = input.call_id.list in
      let ask = ask_of_offer input chosen in
      let given = device_answers.KeyFault (2 * pairs_demanded p.plan) drawn in
      let x = record_as request pairs chosen given in
      let t = target_of config h id in
      let is : IsDue config h moment (unanswered x) (with_reply config (unanswered x) (Fault E16) (act.Undone E16 (undone_leases config h id ask) drawn.list)) =
      offer_keys_due config h moment (unanswered x) id ask t.of t.begins t.rounds (pairs_for config h id ask) (asks_offer config h moment request pairs input chosen given c refl) refl
      (plan_leases config h (unanswered x) id ask p plans) (none_fails (2 * pairs_demanded p.plan)) refl in
      ap (λ (a : Answered). leased_by_act a.act) is ∙ pairs_leased h (pairs_for config h id ask) ∙ sym (planned_are config h id ask p plans.1)

  module _ (done : CommandOutcome) (lines : done.chosen_lines ≡ chosen) (ports ports_now keys keys_now : ℕ) (opened opened_now : Option (List PortCall)) (drew drew_now : Option (List KeyCall)) where
    -- one that is accepted
    pub accepted_given : (drawn : KeyBytes) → done.device_answers ≡ device_answers.Offered (2 * pairs_demanded p.plan) drawn →
        Gained opened opened_now (OpensAt config (planned_pairs config (view_of config h) p) (replicate (2 * pairs_demanded p.plan) true)) → Gained drew drew_now (AreDrawn drawn.list) →
        GivenFor config h moment (record_by request pairs done) ports ports_now keys keys_now opened opened_now drew drew_now
    accepted_given drawn answers opens draws =
        let given = device_answers.Offered (2 * pairs_demanded p.plan) drawn in
        subst (λ (x : RequestRecord). GivenFor config h moment x ports ports_now keys keys_now opened opened_now drew drew_now) (sym (recorded_so request pairs chosen given done lines answers))
        (subst (λ (ps : List ℕ). IsGivenBy config ps (given_by given) ports ports_now keys keys_now opened opened_now drew drew_now) (sym (offered_leases drawn))
        (offered_given config (planned_pairs config (view_of config h) p) (2 * pairs_demanded p.plan) drawn ports ports_now keys keys_now opened opened_now drew drew_now opens draws))

    fault_given : (fault : LeaseFault) → HasRisen fault ports ports_now keys keys_now →
        Gained opened opened_now (OpensAt config (planned_pairs config (view_of config h) p) (opens_before (pairs_demanded p.plan) fault)) → DrawsBefore fault drew drew_now →
        IsGivenBy config (planned_pairs config (view_of config h) p) (given_by (undone_answers (2 * pairs_demanded p.plan) fault)) ports ports_now keys keys_now opened opened_now drew drew_now
    fault_given (Port count) rose opens before =
        ports_given config (planned_pairs config (view_of config h) p) count ports ports_now keys keys_now opened opened_now drew drew_now rose opens before
    fault_given (Key drawn) rose opens before =
        keys_given config (planned_pairs config (view_of config h) p) (2 * pairs_demanded p.plan) drawn ports ports_now keys keys_now opened opened_now drew drew_now rose opens before

    -- one that is undone
    pub undone_given : (fault : LeaseFault) → done.device_answers ≡ undone_answers (2 * pairs_demanded p.plan) fault → HasRisen fault ports ports_now keys keys_now →
        Gained opened opened_now (OpensAt config (planned_pairs config (view_of config h) p) (opens_before (pairs_demanded p.plan) fault)) → DrawsBefore fault drew drew_now →
        GivenFor config h moment (record_by request pairs done) ports ports_now keys keys_now opened opened_now drew drew_now
    undone_given fault answers rose opens before =
        let given = undone_answers (2 * pairs_demanded p.plan) fault in
        subst (λ (x : RequestRecord). GivenFor config h moment x ports ports_now keys keys_now opened opened_now drew drew_now) (sym (recorded_so request pairs chosen given done lines answers))
        (subst (λ (ps : List ℕ). IsGivenBy config ps (given_by given) ports ports_now keys keys_now opened opened_now drew drew_now) (sym (undone_leased fault))
        (fault_given fault rose opens before))
