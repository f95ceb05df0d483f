-- The devices of a load, after it, and the line that it prints.
use Rattle.std.proofs.Common.{◌≡◌, ◌∙◌, inl, inr, ap, refl, sym, subst, ℕ, ◌-◌, ◌*◌, ◌^◌, ◌≤◌, nat_lt, Bool, true, false, List, [], ◌∷◌, Option, Some, None, IsSome, Result, Ok, Err, IfOk, IfErr}
use Rattle.relay_outside.specs.declared.lines.WriteCall.{WriteCall}
use Rattle.relay_outside.specs.declared.lines.WriteCall.TheVariants as put
use Rattle.relay_outside.specs.declared.link.LinkCall.{LinkCall}
use Rattle.relay_outside.specs.declared.ports.PortCall.{PortCall}
use Rattle.relay_outside.specs.declared.keys.KeyCall.{KeyCall}
use Rattle.relay_outside.specs.DeviceLogs.{Gains, WhereLogged, where_logged}
use Rattle.relay_outside.proofs.Telling.{gained_one}
use Rattle.outside_real.specs.KeyStream.{KeyStream, draws, stream_of, logged_draws}
use Rattle.load_maker.specs.Links.{LogsLoad}
use Rattle.load_maker.specs.Moments.{AreZero}
use Rattle.load_maker.specs.Takes.{HasGivenAll}
use Rattle.media_lane.specs.declared.answers.Totals.{Totals}
use Rattle.command_line.specs.declared.settings.LoadSettings.{LoadSettings}
use Rattle.relay_outside.specs.declared.settings.Config.{Config}
use Rattle.relay_runs.specs.declared.load_end.LoadEnd.TheVariants as end
use Rattle.relay_runs.specs.declared.load_end.Shortfall.{Shortfall}
use Rattle.relay_runs.specs.declared.status.Status.{Status}
use Rattle.relay_runs.specs.declared.status.Status.TheVariants as status
use Rattle.relay_runs.specs.declared.totals.Counts.{Counts}
use Rattle.relay_runs.specs.ServeRuns.{Outside, Gave}
use Rattle.relay_runs.specs.Loads.{DidLoadTurns, RunsLoad, CutsShort, EndsLoad, IsCutBy, first_draws, load_line, packets_of}

-- the run that a load is, in the words of its settings
pub serve_as : (settings : LoadSettings) (gate : ℕ → Type 0) (limit : ℕ) (config : Config) (threads moment : ℕ) (outside : Outside) (ended : Status) (counts : Counts) (totals : Totals)
    → limit ≡ 1000000 → config ≡ settings.config → threads ≡ settings.lanes → moment ≡ 0
    → DidLoadTurns limit config threads (Some (moment, moment)) gate outside ended counts totals
    → DidLoadTurns 1000000 settings.config settings.lanes (Some (0, 0)) gate outside ended counts totals
serve_as settings gate limit config threads moment outside ended counts totals limit_is config_is threads_are moment_is did =
    subst (λ (n : ℕ). DidLoadTurns 1000000 settings.config settings.lanes (Some (n, n)) gate outside ended counts totals) moment_is
    (subst (λ (n : ℕ). DidLoadTurns 1000000 settings.config n (Some (moment, moment)) gate outside ended counts totals) threads_are
    (subst (λ (c : Config). DidLoadTurns 1000000 c threads (Some (moment, moment)) gate outside ended counts totals) config_is
    (subst (λ (n : ℕ). DidLoadTurns n config threads (Some (moment, moment)) gate outside ended counts totals) limit_is did)))

-- The keys of a seed, after they were drawn from.

pub drew_none : (keys : KeyStream) (seed : ℕ) → keys ≡ stream_of seed → logged_draws keys ≡ Some []
drew_none keys seed is = ap (λ (k : KeyStream). logged_draws k) is

pub drew_first : (settings : LoadSettings) (keys : KeyStream) (number : ℕ) → nat_lt keys.drawn (2 ^ 64 - 1) ≡ true → keys.seed_words ≡ (stream_of number).seed_words → settings.seed ≡ number
    → logged_draws keys ≡ Some (first_draws settings keys.drawn)
drew_first settings keys number tells words same =
    ap (λ (b : Bool). where_logged b (draws keys.seed_words keys.drawn)) tells
    ∙ ap (λ (ws : List ℕ). let log : Option (List KeyCall) = Some (draws ws keys.drawn) in log) (words ∙ ap (λ (n : ℕ). (stream_of n).seed_words) (sym same))

-- What is known of the devices of a load after it, by what they tell
module _ (settings : LoadSettings) (gate : ℕ → Type 0) (totals : Totals) (outside : Outside) (counts : Counts) (ended : Status)
    (did : DidLoadTurns 1000000 settings.config settings.lanes (Some (0, 0)) gate outside ended counts totals)
    (linked : Option (List LinkCall)) (opened : Option (List PortCall)) (moments : Option (List ℕ)) (keys : KeyStream)
    (begun : (outside.link ≡ Some []) × (outside.opened ≡ Some []) × (outside.timer ≡ Some []) × (outside.drew ≡ Some []))
    (link_is : outside.link_now ≡ linked) (ports_are : outside.opened_now ≡ opened) (timer_is : outside.timer_now ≡ moments) (keys_are : outside.drew_now ≡ logged_draws keys) where
  -- All has been taken.
  all_told : (link : Option (List LinkCall)) (ports : Option (List PortCall)) (timer : Option (List ℕ)) → outside.link_now ≡ link → outside.opened_now ≡ ports → outside.timer_now ≡ timer
      → ended ≡ status.Ok → totals.taken ≡ packets_of settings → outside.drew_now ≡ Some (first_draws settings keys.drawn)
      → IsSome link → IsSome ports → IsSome timer → WhereLogged link (LogsLoad (2 * settings.calls) true)
      → HasGivenAll settings.config.interface settings.config.port_min settings.calls settings.packets ports
      → AreZero timer → RunsLoad settings gate totals
  all_told None ports timer l o t well taken drew is_linked is_opened is_timed heard gave zero = absurd (cc)
  all_told (Some calls) None timer l o t well taken drew is_linked is_opened is_timed heard gave zero = absurd (cc)
  all_told (Some calls) (Some opens) None l o t well taken drew is_linked is_opened is_timed heard gave zero = absurd (cc)
  all_told (Some calls) (Some opens) (Some times) l o t well taken drew is_linked is_opened is_timed heard gave zero = record {
    outside = outside;
    counts = counts;
    calls = calls;
    opened = opens;
    moments = times;
    drawn = keys.drawn;
    link = (begun.0, l);
    ports = (begun.1, o);
    timer = (begun.2, t);
    keys = (begun.3, drew);
    did = subst (λ (e : Status). DidLoadTurns 1000000 settings.config settings.lanes (Some (0, 0)) gate outside e counts totals) well did;
    heard = heard;
    at_zero = zero;
    gave = gave;
    all_taken = taken;
  }

  pub whole_load : (found : Result Totals Shortfall) (given number : ℕ) (well : Bool) → keys.seed_words ≡ (stream_of number).seed_words → settings.seed ≡ number
      → IfOk found (λ t. (t ≡ totals) × (ended ≡ status.Ok)) → IfOk found (λ t. t.taken ≡ packets_of settings)
      → IfOk found (λ t. (given ≡ 2 * settings.calls) × (well ≡ true) × IsSome linked) → IfOk found (λ t. IsSome opened × IsSome moments × (nat_lt keys.drawn (2 ^ 64 - 1) ≡ true))
      → WhereLogged linked (LogsLoad given well)
      → IfOk found (λ t. HasGivenAll settings.config.interface settings.config.port_min settings.calls settings.packets opened)
      → AreZero moments → IfOk found (λ t. RunsLoad settings gate t)
  whole_load (Err cause) given number well words same went taken spent shown heard gave zero = tt
  whole_load (Ok t) given number well words same went taken spent shown heard gave zero =
      subst (λ (x : Totals). RunsLoad settings gate x) (sym went.0)
      (all_told linked opened moments link_is ports_are timer_is went.1 (subst (λ (x : Totals). x.taken ≡ packets_of settings) went.0 taken)
      (keys_are ∙ drew_first settings keys number shown.2 words same)
      spent.2 shown.0 shown.1
      (subst (λ n. WhereLogged linked (LogsLoad n true)) spent.0 (subst (λ b. WhereLogged linked (LogsLoad given b)) spent.1 heard)) gave zero)

  -- Something is wanting.
  pub short_load : (found : Result Totals Shortfall) → (ended ≡ status.Ok → packets_of settings ≤ totals.taken)
      → IfErr found (λ cause. IsCutBy cause settings linked opened moments (logged_draws keys) ended totals) → IfErr found (λ cause. CutsShort settings gate cause)
  short_load (Ok t) took short = tt
  short_load (Err cause) took short = record {
    outside = outside;
    ended = ended;
    counts = counts;
    totals = totals;
    begun = begun;
    did = did;
    took = took;
    cause_is =
        subst (λ l. IsCutBy cause settings l outside.opened_now outside.timer_now outside.drew_now ended totals) (sym link_is)
        (subst (λ o. IsCutBy cause settings linked o outside.timer_now outside.drew_now ended totals) (sym ports_are)
        (subst (λ t. IsCutBy cause settings linked opened t outside.drew_now ended totals) (sym timer_is)
        (subst (λ k. IsCutBy cause settings linked opened moments k ended totals) (sym keys_are) short)));
  }

module _ (settings : LoadSettings) (gate : ℕ → Type 0) (totals : Totals) (runs : RunsLoad settings gate totals) (wrote wrote_now : Option (List WriteCall)) (line : List ℕ)
    (line_is : line ≡ load_line settings.calls totals) where
  wrote_one : (done : Bool) → Gains wrote wrote_now (put.Write line done) → Gave wrote wrote_now (put.Write (load_line settings.calls totals) done ∷ [])
  wrote_one done gains =
      gained_one wrote wrote_now (put.Write line done) (λ more. more ≡ put.Write (load_line settings.calls totals) done ∷ []) gains
      (ap (λ (text : List ℕ). put.Write text done ∷ []) line_is)

  -- the sink took the line
  pub took_line : Gains wrote wrote_now (put.Write line true) → EndsLoad settings gate wrote wrote_now end.Finished
  took_line gains = record { totals = totals; runs = runs; printed = inl (refl, wrote_one true gains) }

  -- it did not
  pub left_line : Gains wrote wrote_now (put.Write line false) → EndsLoad settings gate wrote wrote_now end.PrintFault
  left_line gains = record { totals = totals; runs = runs; printed = inr (refl, wrote_one false gains) }
