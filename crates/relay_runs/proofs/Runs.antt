-- A run whose link was bound: the bind, the control turns, the line of totals.
use Rattle.std.proofs.Common.{◌≡◌, ◌∙◌, ◌⊎◌, inl, inr, ap, refl, sym, subst, ℕ, List, [], ◌∷◌, ◌++◌, Option, Some, Bool, true, false}
use Rattle.relay_outside.specs.DeviceLogs.{Gains}
use Rattle.relay_outside.specs.declared.link.LinkCall.{LinkCall}
use Rattle.relay_outside.specs.declared.link.LinkCall.TheVariants as call
use Rattle.relay_outside.specs.declared.lines.WriteCall.{WriteCall}
use Rattle.relay_outside.specs.declared.lines.WriteCall.TheVariants as put
use Rattle.relay_outside.specs.declared.keys.KeyCall.{KeyCall}
use Rattle.relay_outside.specs.declared.ports.PortCall.{PortCall}
use Rattle.relay_outside.specs.declared.settings.Config.{Config}
use Rattle.relay_outside.proofs.Telling.{gained_none, gained_one, gained_both}
use Rattle.media_lane.specs.declared.answers.Totals.{Totals}
use Rattle.relay_runs.specs.declared.status.Status.{Status}
use Rattle.relay_runs.specs.declared.status.Status.TheVariants as status
use Rattle.command_line.specs.declared.settings.Settings.{Settings}
use Rattle.relay_runs.specs.declared.totals.Counts.{Counts}
use Rattle.relay_runs.specs.ServeRuns.{Outside, Gave, AreCalls, DidServe, totals_line, counts_in, Counted}
use Rattle.relay_runs.specs.RunStates.{IsLoopEnd}
use Rattle.relay_runs.specs.Run.{Serves, is_printed}
use Rattle.relay_runs.proofs.Counts.{bind_counted}

-- a status of the control turns tells that the line was printed
pub loop_prints : (ended : Status) → IsLoopEnd ended → true ≡ is_printed ended
loop_prints status.Ok ends = refl
loop_prints status.ControlFault ends = refl
loop_prints status.TurnsSpent ends = refl
loop_prints status.OutOfMemory ends = absurd ends
loop_prints status.PrintFault ends = absurd ends
loop_prints status.Usage ends = absurd ends
loop_prints status.ScriptFault ends = absurd ends
loop_prints status.ScriptRead ends = absurd ends

-- a device that was not called
uncalled : {C : Type 0} (before after : Option (List C)) → before ≡ after → Gave before after []
uncalled {C} before after same = subst (λ (t : Option (List C)). Gave before t []) same (gained_none before (λ more. more ≡ []) refl)

-- memory ran out before the bind
pub not_begun : (settings : Settings) (range : Option (ℕ × ℕ)) (gate : ℕ → Type 0) (outside : Outside) (wrote : Option (List WriteCall)) → outside.link ≡ outside.link_now
    → outside.timer ≡ outside.timer_now → outside.opened ≡ outside.opened_now → outside.drew ≡ outside.drew_now
    → Serves (Some settings) range gate outside wrote wrote status.OutOfMemory
not_begun settings range gate outside wrote link timer opened drew =
    inl (
      record { link = uncalled _ _ link; no_moment = uncalled _ _ timer; no_port = uncalled _ _ opened; no_draw = uncalled _ _ drew },
      uncalled wrote wrote refl,
      refl,
    )

-- the bind failed
pub not_bound : (settings : Settings) (range : Option (ℕ × ℕ)) (gate : ℕ → Type 0) (outside : Outside) (wrote : Option (List WriteCall)) → Gains outside.link outside.link_now (call.Bind settings.listen false)
    → outside.timer ≡ outside.timer_now → outside.opened ≡ outside.opened_now → outside.drew ≡ outside.drew_now
    → Serves (Some settings) range gate outside wrote wrote status.ControlFault
not_bound settings range gate outside wrote bound timer opened drew =
    inr (inl (
      record {
        link = gained_one outside.link outside.link_now (call.Bind settings.listen false) (λ more. more ≡ call.Bind settings.listen false ∷ []) bound refl;
        no_moment = uncalled _ _ timer;
        no_port = uncalled _ _ opened;
        no_draw = uncalled _ _ drew;
      },
      uncalled wrote wrote refl,
      refl,
    ))

module _ (l0 l1 l2 : Option (List LinkCall)) (t0 t1 : Option (List ℕ)) (o0 o1 : Option (List PortCall)) (k0 k1 : Option (List KeyCall)) (p0 p1 q0 q1 : ℕ)
    (settings : Settings) (config : Config) (range : Option (ℕ × ℕ)) (gate : ℕ → Type 0) (ended : Status) (counts : Counts) (totals : Totals)
    (bound : Gains l0 l1 (call.Bind settings.listen true)) (config_is : config ≡ settings.config)
    (served : DidServe [] settings.turns config settings.threads range gate
    (record { link = l1; link_now = l2; timer = t0; timer_now = t1; opened = o0; opened_now = o1; drew = k0; drew_now = k1; port_faults = p0; port_faults_now = p1; key_faults = q0; key_faults_now = q1 })
    ended counts totals) where
  abbrev out : Outside
  out = record { link = l0; link_now = l2; timer = t0; timer_now = t1; opened = o0; opened_now = o1; drew = k0; drew_now = k1; port_faults = p0; port_faults_now = p1; key_faults = q0; key_faults_now = q1 }

  abbrev bind : LinkCall
  bind = call.Bind settings.listen true

  calls : (xs ys : List LinkCall) → xs ≡ bind ∷ [] → AreCalls config [] served.rounds ended ys → AreCalls config (bind ∷ []) served.rounds ended (xs ++ ys)
  calls xs ys x y = record {
    more = y.more;
    exchanges = y.exchanges;
    calls_are = ap (λ (zs : List LinkCall). zs ++ ys) x ∙ ap (λ (zs : List LinkCall). bind ∷ zs) y.calls_are;
    counted =
        subst (λ (zs : List LinkCall). Counted (counts_in served.rounds) (zs ++ ys)) (sym x) (bind_counted settings.listen true ys (counts_in served.rounds) y.counted);
  }

  bound_serves : DidServe (bind ∷ []) settings.turns config settings.threads range gate out ended counts totals
  bound_serves = record {
    rounds = served.rounds;
    last = served.last;
    whole = served.whole;
    gated = served.gated;
    counts_are = served.counts_are;
    has_ended = served.has_ended;
    last_is = served.last_is;
    log = record {
      link =
          gained_both l0 l1 l2 (λ xs. xs ≡ bind ∷ []) (AreCalls config [] served.rounds ended) (AreCalls config (bind ∷ []) served.rounds ended) calls
          (gained_one l0 l1 bind (λ xs. xs ≡ bind ∷ []) bound refl) served.log.link;
      timer = served.log.timer;
      ports = served.log.ports;
      keys = served.log.keys;
      causes = λ entry given i is. (let c = served.log.causes entry given i is in record { port_fault = c.port_fault; key_fault = c.key_fault });
    };
    ends = served.ends;
    all_sent = served.all_sent;
    opens_same = served.opens_same;
  }

  -- with the line of totals, which the sink took or not
  pub bound_runs : (answer : Status) (wrote wrote_now : Option (List WriteCall)) (line : List ℕ) (done : Bool) → (answer ≡ ended) ⊎ (answer ≡ status.PrintFault)
      → line ≡ totals_line counts totals → done ≡ is_printed answer → Gains wrote wrote_now (put.Write line done) → Serves (Some settings) range gate out wrote wrote_now answer
  bound_runs answer wrote wrote_now line done log line_is done_is gains =
      inr (inr (record {
        ended = ended;
        counts = counts;
        totals = totals;
        did = subst (λ (c : Config). DidServe (bind ∷ []) settings.turns c settings.threads range gate out ended counts totals) config_is bound_serves;
        answer_is = log;
        line =
            gained_one wrote wrote_now (put.Write line done) (λ more. more ≡ put.Write (totals_line counts totals) (is_printed answer) ∷ []) gains
            (ap (λ (text : List ℕ). put.Write text done ∷ []) line_is ∙ ap (λ (b : Bool). put.Write (totals_line counts totals) b ∷ []) done_is);
      }))
