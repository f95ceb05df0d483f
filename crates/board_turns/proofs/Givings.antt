-- What the devices returned, by what they told.
use Rattle.std.proofs.Common.{◌≡◌, ◌∙◌, refl, sym, subst, ℕ, zero, suc, Bool, true, false, List, [], ◌∷◌, ◌++◌, Option, Some, None, map, replicate, append-nil}
use Rattle.histories.specs.Words.{In, here, there}
use Rattle.histories.proofs.Lists.{in_nothing}
use Rattle.relay_outside.specs.declared.keys.KeyCall.{KeyCall}
use Rattle.relay_outside.specs.declared.keys.KeyCall.TheVariants as key
use Rattle.relay_outside.specs.declared.ports.PortCall.{PortCall}
use Rattle.relay_outside.specs.declared.settings.Config.{Config}
use Rattle.relay_outside.specs.DeviceLogs.{Rose, Gained}
use Rattle.relay_outside.proofs.Telling.{gained_none, gained_less}
use Rattle.port_pool.specs.declared.reports.LegReport.{LegReport}
use Rattle.media_ports.specs.Openings.{NoneOpened, OpensAt}
use Rattle.media_ports.proofs.Asked.{gained_no_opening, opens_none_at}
use Rattle.media_ports.specs.Draws.{KeyBytes, AreDrawn, DrawsUpTo}
use Rattle.board_turns.specs.declared.device_answers.DeviceAnswers.{DeviceAnswers}
use Rattle.board_turns.specs.declared.device_answers.DeviceAnswers.TheVariants.{Nothing, OutOfMemory, PortFault, KeyFault, Offered, Report, ReportOutOfMemory}
use Rattle.board_turns.specs.DeviceAnswers.{given_by, IsUnasked, IsGivenBy}

-- where all ports were opened, none failed
none_failed : (opened : ℕ) → In false (replicate opened true) → ⊥
none_failed zero i = in_nothing i
none_failed (suc opened) (here e) = let k : false ≡ true = e in cc
none_failed (suc opened) (there i) = none_failed opened i

nothing_given : (config : Config) (leased : List ℕ) (out_of_memory : Bool) (report : Option (List LegReport)) (ports ports_now keys keys_now : ℕ) (opened opened_now : Option (List PortCall)) (drew : Option (List KeyCall))
    → Gained opened opened_now NoneOpened → IsGivenBy config leased (record { out_of_memory = out_of_memory; opens = []; draws = []; draw_failed = false; report = report }) ports ports_now keys keys_now opened opened_now drew drew
nothing_given config leased out_of_memory report ports ports_now keys keys_now opened opened_now drew closes = record {
  port_fault = λ i. absurd (in_nothing i);
  key_fault = λ t. absurd (let k : false ≡ true = t in cc);
  opens = gained_less opened opened_now NoneOpened (OpensAt config leased []) (opens_none_at config leased) closes;
  draws = gained_none drew (λ calls. calls ≡ []) refl;
}

-- nothing was asked: the port maker was at most asked to close, and the key source's list stands as it was, whatever the counts are
pub closing_given : (config : Config) (leased : List ℕ) (device_answers : DeviceAnswers) (ports ports_now keys keys_now : ℕ) (opened opened_now : Option (List PortCall)) (drew : Option (List KeyCall))
    → Gained opened opened_now NoneOpened → IsUnasked device_answers → IsGivenBy config leased (given_by device_answers) ports ports_now keys keys_now opened opened_now drew drew
closing_given config leased Nothing ports ports_now keys keys_now opened opened_now drew closes unasked = nothing_given config leased false None ports ports_now keys keys_now opened opened_now drew closes
closing_given config leased OutOfMemory ports ports_now keys keys_now opened opened_now drew closes unasked = nothing_given config leased true None ports ports_now keys keys_now opened opened_now drew closes
closing_given config leased (PortFault count) ports ports_now keys keys_now opened opened_now drew closes unasked = absurd unasked
closing_given config leased (KeyFault count drawn) ports ports_now keys keys_now opened opened_now drew closes unasked = absurd unasked
closing_given config leased (Offered count drawn) ports ports_now keys keys_now opened opened_now drew closes unasked = absurd unasked
closing_given config leased (Report log) ports ports_now keys keys_now opened opened_now drew closes unasked = nothing_given config leased false (Some log) ports ports_now keys keys_now opened opened_now drew closes
closing_given config leased (ReportOutOfMemory log) ports ports_now keys keys_now opened opened_now drew closes unasked = nothing_given config leased true (Some log) ports ports_now keys keys_now opened opened_now drew closes

-- no port was closed either
pub unasked_given : (config : Config) (leased : List ℕ) (device_answers : DeviceAnswers) (ports ports_now keys keys_now : ℕ) (opened : Option (List PortCall)) (drew : Option (List KeyCall)) → IsUnasked device_answers
    → IsGivenBy config leased (given_by device_answers) ports ports_now keys keys_now opened opened drew drew
unasked_given config leased device_answers ports ports_now keys keys_now opened drew unasked =
    closing_given config leased device_answers ports ports_now keys keys_now opened opened drew (gained_no_opening opened) unasked

-- all ports were opened, and all keys drawn
pub offered_given : (config : Config) (leased : List ℕ) (count : ℕ) (drawn : KeyBytes) (ports ports_now keys keys_now : ℕ) (opened opened_now : Option (List PortCall)) (drew drew_now : Option (List KeyCall))
    → Gained opened opened_now (OpensAt config leased (replicate count true)) → Gained drew drew_now (AreDrawn drawn.list)
    → IsGivenBy config leased (given_by (Offered count drawn)) ports ports_now keys keys_now opened opened_now drew drew_now
offered_given config leased count drawn ports ports_now keys keys_now opened opened_now drew drew_now opens gained = record {
  port_fault = λ i. absurd (none_failed count i);
  key_fault = λ t. absurd (let k : false ≡ true = t in cc);
  opens = opens;
  draws = gained_less drew drew_now (AreDrawn drawn.list) (λ calls. calls ≡ map key.Drawn drawn.list ++ [])
      (λ calls is. is ∙ sym (append-nil (map key.Drawn drawn.list))) gained;
}

-- a port could not be opened, and no key was drawn
pub ports_given : (config : Config) (leased : List ℕ) (count : ℕ) (ports ports_now keys keys_now : ℕ) (opened opened_now : Option (List PortCall)) (drew drew_now : Option (List KeyCall))
    → Rose ports ports_now → Gained opened opened_now (OpensAt config leased (replicate count true ++ false ∷ [])) → drew_now ≡ drew
    → IsGivenBy config leased (given_by (PortFault count)) ports ports_now keys keys_now opened opened_now drew drew_now
ports_given config leased count ports ports_now keys keys_now opened opened_now drew drew_now rose opens same = record {
  port_fault = λ i. rose;
  key_fault = λ t. absurd (let k : false ≡ true = t in cc);
  opens = opens;
  draws = subst (λ (now : Option (List KeyCall)). Gained drew now (λ calls. calls ≡ [])) (sym same) (gained_none drew (λ calls. calls ≡ []) refl);
}

-- all ports were opened, these keys drawn, and the next draw failed
pub keys_given : (config : Config) (leased : List ℕ) (count : ℕ) (drawn : KeyBytes) (ports ports_now keys keys_now : ℕ) (opened opened_now : Option (List PortCall)) (drew drew_now : Option (List KeyCall))
    → Rose keys keys_now → Gained opened opened_now (OpensAt config leased (replicate count true)) → Gained drew drew_now (DrawsUpTo drawn.list)
    → IsGivenBy config leased (given_by (KeyFault count drawn)) ports ports_now keys keys_now opened opened_now drew drew_now
keys_given config leased count drawn ports ports_now keys keys_now opened opened_now drew drew_now rose opens gained = record {
  port_fault = λ i. absurd (none_failed count i);
  key_fault = λ t. rose;
  opens = opens;
  draws = gained;
}

-- the same of a gave that is the one that was told
pub given_as : (config : Config) (leased : List ℕ) (device_answers is : DeviceAnswers) (ports ports_now keys keys_now : ℕ) (opened opened_now : Option (List PortCall)) (drew drew_now : Option (List KeyCall)) → device_answers ≡ is
    → IsGivenBy config leased (given_by is) ports ports_now keys keys_now opened opened_now drew drew_now
    → IsGivenBy config leased (given_by device_answers) ports ports_now keys keys_now opened opened_now drew drew_now
given_as config leased device_answers is ports ports_now keys keys_now opened opened_now drew drew_now e given =
    subst (λ (these : DeviceAnswers). IsGivenBy config leased (given_by these) ports ports_now keys keys_now opened opened_now drew drew_now) (sym e) given
