-- Views of which a board keeps the same, and what an entry makes of them.
use Rattle.std.proofs.Common.{◌≡◌, ◌∙◌, refl, sym, ap, subst, ℕ, zero, suc, ◌+◌, ◌<◌, Bool, true, false, cond, List, [], ◌∷◌, ◌++◌, map, filter, not, length, ◌==◌, Option, Some, None, append-nil}
use Rattle.std.specs.Prelude.{count_by, max}
use Rattle.std.specs.List.{flat_map}
use Rattle.relay_outside.specs.declared.settings.Config.{Config}
use Rattle.histories.specs.Words.{has}
use Rattle.std.proofs.lemmas.List.Elements.{filter-append}
use Rattle.relay_outside.specs.declared.address.Family.{Family}
use Rattle.port_pool.specs.Ports.{pair_count, pair_family, family_eq, pairs_of_family}
use Rattle.port_pool.specs.declared.holder.Holder.{Holder}
use Rattle.cookie_cache.specs.Keepings.{Keeping, moment_used}
use Rattle.offer_answer.specs.Rounds as round
use Rattle.offer_answer.specs.Rounds.{Round}
use Rattle.offer_answer.proofs.Alike.{Alike, alike_of_one, stands_for_alike}
use Rattle.offer_answer.proofs.AlikeNext.{alike_goes_on, may_keep}
use Rattle.call_board.specs.declared.live_call.LiveCall.{LiveCall}
use Rattle.call_board.specs.declared.board.Board.{Board}
use Rattle.call_board.specs.Acts as act
use Rattle.call_board.specs.Acts.{Call, Lease, Offer, Answer, Act, Control, BoardEvent, Turn, Tick, Stop, BoardEntry}
use Rattle.call_board.specs.Calls.{due_after, sooner}
use Rattle.call_board.specs.Pairs.{closed_of}
use Rattle.call_board.specs.Views.{CallView, View, view_at_moment, with_leases, with_returned, without, goes_on, ends_by, with_round, with_due, is_call_numbered}
use Rattle.call_board.specs.Boards.{CallFor, CallsFor, BoardMatches}
use Rattle.call_board.specs.Whole.{with_draws, with_reply, with_closed, with_more, with_first, with_due_call, with_ended, view_after}
use Rattle.call_board.specs.Futures.{closed_pairs}
use Rattle.call_board.proofs.CallsAfter.{cleared}
use Rattle.call_board.proofs.Leased.{family_without}
use Rattle.call_board.proofs.Entries.{ended_view, ended_are}
use Rattle.call_board.proofs.AlikeKeepings.{AreKeepings, AlikeKeepings, keepings_of_one, stands_for_others, keepings_go_on}

-- the same is kept of a live call
pub record AlikeCalls (config : Config) (c d : CallView) : Type 0 where
  pub of_is : c.of ≡ d.of
  pub rounds_are : Alike config c.rounds d.rounds
  pub first_is : c.first ≡ d.first
  pub last_is : c.last ≡ d.last
  pub due_is : c.due ≡ d.due

abbrev pub AllAlike : Config → List CallView → List CallView → Type 0
AllAlike config [] [] = Unit {0}
AllAlike config [] (d ∷ ds) = ⊥
AllAlike config (c ∷ cs) [] = ⊥
AllAlike config (c ∷ cs) (d ∷ ds) = AlikeCalls config c d × AllAlike config cs ds

-- the same is kept of both
pub record AlikeViews (config : Config) (v w : View) : Type 0 where
  pub moment_is : v.moment ≡ w.moment
  pub begun_is : v.begun ≡ w.begun
  pub drawn_is : v.drawn ≡ w.drawn
  pub calls_are : AllAlike config v.calls w.calls
  pub free_is : (family : Family) → pairs_of_family config v.free family ≡ pairs_of_family config w.free family
  pub leases_are : (pair : ℕ) → pair < pair_count config → v.leases pair ≡ w.leases pair
  pub keepings_are : AlikeKeepings v.keepings w.keepings

-- What one board shows is alike.

call_of_one : (config : Config) (call : LiveCall) (c d : CallView) → CallFor config call c → CallFor config call d → AlikeCalls config c d
call_of_one config call c d a b = record {
  of_is =
      let number = sym a.number_is ∙ b.number_is in
      let cell = sym a.cell_is ∙ b.cell_is in
      let id = sym a.id_is ∙ b.id_is in
      λ i. record { number = number i; cell = cell i; id = id i };
  rounds_are = alike_of_one config call.dialog.value c.rounds d.rounds a.dialog_for b.dialog_for;
  first_is = sym a.first_is ∙ b.first_is;
  last_is = sym a.last_is ∙ b.last_is;
  due_is = sym a.due_is ∙ b.due_is;
}

calls_of_one : (config : Config) (calls : List LiveCall) (cs ds : List CallView) → CallsFor config calls cs → CallsFor config calls ds → AllAlike config cs ds
calls_of_one config [] [] [] a b = tt
calls_of_one config [] [] (d ∷ ds) a b = elim b [ ]
calls_of_one config [] (c ∷ cs) ds a b = elim a [ ]
calls_of_one config (call ∷ calls) [] ds a b = elim a [ ]
calls_of_one config (call ∷ calls) (c ∷ cs) [] a b = elim b [ ]
calls_of_one config (call ∷ calls) (c ∷ cs) (d ∷ ds) a b = (call_of_one config call c d a.0 b.0, calls_of_one config calls cs ds a.1 b.1)

pub views_of_one : (config : Config) (board : Board) (v w : View) → BoardMatches config board v → BoardMatches config board w → AlikeViews config v w
views_of_one config board v w a b = record {
  moment_is = sym a.moment_is ∙ b.moment_is;
  begun_is = sym a.begun_is ∙ b.begun_is;
  drawn_is = sym a.drawn_is ∙ b.drawn_is;
  calls_are = calls_of_one config board.calls.list v.calls w.calls a.calls_for b.calls_for;
  free_is = λ family. sym (a.pool_for.free_is family) ∙ b.pool_for.free_is family;
  leases_are = λ pair below. sym (a.pool_for.leases_are pair below) ∙ b.pool_for.leases_are pair below;
  keepings_are = keepings_of_one board.replies v.keepings w.keepings a.replies_for b.replies_for;
}

-- A board that shows a view shows what is alike.

call_moves : (config : Config) (call : LiveCall) (c d : CallView) → AlikeCalls config c d → CallFor config call c → CallFor config call d
call_moves config call c d s a = record {
  number_is = a.number_is ∙ ap (λ (of : Call). of.number) s.of_is;
  cell_is = a.cell_is ∙ ap (λ (of : Call). of.cell) s.of_is;
  id_is = a.id_is ∙ ap (λ (of : Call). of.id) s.of_is;
  dialog_for = stands_for_alike config call.dialog.value c.rounds d.rounds s.rounds_are a.dialog_for;
  first_is = a.first_is ∙ s.first_is;
  last_is = a.last_is ∙ s.last_is;
  due_is = a.due_is ∙ s.due_is;
}

calls_move : (config : Config) (calls : List LiveCall) (cs ds : List CallView) → AllAlike config cs ds → CallsFor config calls cs → CallsFor config calls ds
calls_move config [] [] [] s a = tt
calls_move config [] [] (d ∷ ds) s a = elim s [ ]
calls_move config [] (c ∷ cs) ds s a = elim a [ ]
calls_move config (call ∷ calls) [] ds s a = elim a [ ]
calls_move config (call ∷ calls) (c ∷ cs) [] s a = elim s [ ]
calls_move config (call ∷ calls) (c ∷ cs) (d ∷ ds) s a = (call_moves config call c d s.0 a.0, calls_move config calls cs ds s.1 a.1)

cells_alike : (config : Config) (cs ds : List CallView) → AllAlike config cs ds → map (λ (c : CallView). c.of.cell) cs ≡ map (λ (c : CallView). c.of.cell) ds
cells_alike config [] [] s = refl
cells_alike config [] (d ∷ ds) s = elim s [ ]
cells_alike config (c ∷ cs) [] s = elim s [ ]
cells_alike config (c ∷ cs) (d ∷ ds) s =
    let here = s.0.of_is in
    let more = cells_alike config cs ds s.1 in
    λ i. (here i).cell ∷ more i

pub shows_alike : (config : Config) (board : Board) (v w : View) → AlikeViews config v w → BoardMatches config board v → BoardMatches config board w
shows_alike config board v w s a = record {
  config_is = a.config_is;
  moment_is = a.moment_is ∙ s.moment_is;
  begun_is = a.begun_is ∙ s.begun_is;
  drawn_is = a.drawn_is ∙ s.drawn_is;
  calls_for = calls_move config board.calls.list v.calls w.calls s.calls_are a.calls_for;
  cells_for = record {
    count_is = a.cells_for.count_is;
    taken_are = λ k d below. a.cells_for.taken_are k d below ∙ ap (λ cells. has cells (1 + k)) (cells_alike config v.calls w.calls s.calls_are);
  };
  pool_for = record {
    first_is = a.pool_for.first_is;
    per_is = a.pool_for.per_is;
    count_is = a.pool_for.count_is;
    free_is = λ family. a.pool_for.free_is family ∙ s.free_is family;
    leases_are = λ pair below. a.pool_for.leases_are pair below ∙ s.leases_are pair below;
  };
  replies_for = stands_for_others board.replies v.keepings w.keepings s.keepings_are a.replies_for;
}

-- Steps that several acts have.

moment_alike : (config : Config) (v w : View) (now : ℕ) → AlikeViews config v w → AlikeViews config (view_at_moment v now) (view_at_moment w now)
moment_alike config v w now s = record {
  moment_is = ap (max now) s.moment_is;
  begun_is = s.begun_is;
  drawn_is = s.drawn_is;
  calls_are = s.calls_are;
  free_is = s.free_is;
  leases_are = s.leases_are;
  keepings_are = s.keepings_are;
}

draws_alike : (config : Config) (v w : View) (count : ℕ) → AlikeViews config v w → AlikeViews config (with_draws v count) (with_draws w count)
draws_alike config v w zero s = s
draws_alike config v w (suc count) s = let more = draws_alike config v w count s in record {
  moment_is = more.moment_is;
  begun_is = more.begun_is;
  drawn_is = ap (λ n. n + 1) more.drawn_is;
  calls_are = more.calls_are;
  free_is = more.free_is;
  leases_are = more.leases_are;
  keepings_are = more.keepings_are;
}

leases_alike : (config : Config) (v w : View) (pairs : List ℕ) → AlikeViews config v w → AlikeViews config (with_leases v pairs) (with_leases w pairs)
leases_alike config v w pairs s = record {
  moment_is = s.moment_is;
  begun_is = s.begun_is;
  drawn_is = s.drawn_is;
  calls_are = s.calls_are;
  free_is = λ family.
      family_without config v.free pairs family ∙ ap (filter (λ p. not (has pairs p))) (s.free_is family) ∙ sym (family_without config w.free pairs family);
  leases_are = λ pair below. ap (λ n. n + count_by (λ p. p == pair) pairs) (s.leases_are pair below);
  keepings_are = s.keepings_are;
}

family_more : (config : Config) (free other pairs others : List ℕ) (family : Family) → pairs_of_family config free family ≡ pairs_of_family config other family → pairs ≡ others →
    pairs_of_family config (free ++ pairs) family ≡ pairs_of_family config (other ++ others) family
family_more config free other pairs others family same alike =
    filter-append (λ p. family_eq (pair_family config p) family) free pairs
    ∙ ap (λ ps. ps ++ pairs_of_family config pairs family) same
    ∙ ap (λ ps. pairs_of_family config other family ++ pairs_of_family config ps family) alike
    ∙ sym (filter-append (λ p. family_eq (pair_family config p) family) other others)

returned_alike : (config : Config) (v w : View) (pairs others : List ℕ) → pairs ≡ others → AlikeViews config v w → AlikeViews config (with_returned v pairs) (with_returned w others)
returned_alike config v w pairs others same s = record {
  moment_is = s.moment_is;
  begun_is = s.begun_is;
  drawn_is = s.drawn_is;
  calls_are = s.calls_are;
  free_is = λ family. family_more config v.free w.free pairs others family (s.free_is family) same;
  leases_are = s.leases_are;
  keepings_are = s.keepings_are;
}

reply_alike : (config : Config) (v w : View) (now : ℕ) (c : Control) → AlikeViews config v w → AreKeepings (with_reply now c v).keepings → AlikeViews config (with_reply now c v) (with_reply now c w)
reply_alike config v w now c s are = record {
  moment_is = s.moment_is;
  begun_is = s.begun_is;
  drawn_is = s.drawn_is;
  calls_are = s.calls_are;
  free_is = s.free_is;
  leases_are = s.leases_are;
  keepings_are =
      let kept : ℕ → Keeping = (λ moment. record { source = c.source; cookie = c.cookie; reply = c.reply; moment = moment }) in
      subst (λ (m : ℕ). AlikeKeepings (kept (moment_used v.keepings now) ∷ v.keepings) (kept m ∷ w.keepings)) (ap (max now) s.keepings_are.moment_is)
      (keepings_go_on v.keepings w.keepings (kept (moment_used v.keepings now)) s.keepings_are are);
}

pub are_keepings : (config : Config) (board : Board) (v : View) → BoardMatches config board v → AreKeepings v.keepings
are_keepings config board v s = record { in_time = s.replies_for.in_time; from_sources = s.replies_for.from_sources }

-- Calls that go on, begin and end.

goes_case : (config : Config) (number : ℕ) (made : Round) (now : ℕ) (calls : List LiveCall) (c d : CallView) (cs ds : List CallView) → AlikeCalls config c d → AllAlike config cs ds →
    ((calls : List LiveCall) → CallsFor config calls (goes_on number made now cs) → AllAlike config (goes_on number made now cs) (goes_on number made now ds)) → (a : Bool) →
    CallsFor config calls (cond a (with_round made now c ∷ cs) (c ∷ goes_on number made now cs)) →
    AllAlike config (cond a (with_round made now c ∷ cs) (c ∷ goes_on number made now cs)) (cond a (with_round made now d ∷ ds) (d ∷ goes_on number made now ds))
goes_case config number made now [] c d cs ds same all more true shown = elim shown [ ]
goes_case config number made now [] c d cs ds same all more false shown = elim shown [ ]
goes_case config number made now (call ∷ calls) c d cs ds same all more true shown = (
  record {
    of_is = same.of_is;
    rounds_are = alike_goes_on config c.rounds d.rounds made same.rounds_are (may_keep config call.dialog.value c.rounds made shown.0.dialog_for);
    first_is = same.first_is;
    last_is = refl;
    due_is = same.due_is;
  },
  all,
)
goes_case config number made now (call ∷ calls) c d cs ds same all more false shown = (same, more calls shown.1)

went_alike : (config : Config) (number : ℕ) (made : Round) (now : ℕ) (calls : List LiveCall) (cs ds : List CallView) → AllAlike config cs ds → CallsFor config calls (goes_on number made now cs) →
    AllAlike config (goes_on number made now cs) (goes_on number made now ds)
went_alike config number made now calls [] [] s shown = tt
went_alike config number made now calls [] (d ∷ ds) s shown = elim s [ ]
went_alike config number made now calls (c ∷ cs) [] s shown = elim s [ ]
went_alike config number made now calls (c ∷ cs) (d ∷ ds) s shown =
    subst (λ (b : Bool). AllAlike config (goes_on number made now (c ∷ cs)) (cond b (with_round made now d ∷ ds) (d ∷ goes_on number made now ds)))
    (ap (λ (of : Call). of.number == number) s.0.of_is)
    (goes_case config number made now calls c d cs ds s.0 s.1 (λ more shown. went_alike config number made now more cs ds s.1 shown) (is_call_numbered number c) shown)

more_alike : (config : Config) (of : Call) (made : Round) (now : ℕ) (calls : List LiveCall) (v w : View) → AlikeViews config v w → CallsFor config calls (goes_on of.number made now v.calls) →
    AlikeViews config (with_more of made now v) (with_more of made now w)
more_alike config of made now calls v w s shown = record {
  moment_is = s.moment_is;
  begun_is = s.begun_is;
  drawn_is = s.drawn_is;
  calls_are = went_alike config of.number made now calls v.calls w.calls s.calls_are shown;
  free_is = s.free_is;
  leases_are = s.leases_are;
  keepings_are = s.keepings_are;
}

due_case : (config : Config) (number due : ℕ) (c d : CallView) (cs ds : List CallView) → AlikeCalls config c d → AllAlike config cs ds → AllAlike config (ends_by number due cs) (ends_by number due ds) →
    (a : Bool) → AllAlike config (cond a (with_due due c ∷ cs) (c ∷ ends_by number due cs)) (cond a (with_due due d ∷ ds) (d ∷ ends_by number due ds))
due_case config number due c d cs ds same all more true = (
  record {
    of_is = same.of_is;
    rounds_are = same.rounds_are;
    first_is = same.first_is;
    last_is = same.last_is;
    due_is = ap (λ (o : Option ℕ). Some (sooner due o)) same.due_is;
  },
  all,
)
due_case config number due c d cs ds same all more false = (same, more)

due_alike : (config : Config) (number due : ℕ) (cs ds : List CallView) → AllAlike config cs ds → AllAlike config (ends_by number due cs) (ends_by number due ds)
due_alike config number due [] [] s = tt
due_alike config number due [] (d ∷ ds) s = elim s [ ]
due_alike config number due (c ∷ cs) [] s = elim s [ ]
due_alike config number due (c ∷ cs) (d ∷ ds) s =
    subst (λ (b : Bool). AllAlike config (ends_by number due (c ∷ cs)) (cond b (with_due due d ∷ ds) (d ∷ ends_by number due ds)))
    (ap (λ (of : Call). of.number == number) s.0.of_is)
    (due_case config number due c d cs ds s.0 s.1 (due_alike config number due cs ds s.1) (is_call_numbered number c))

delayed_alike : (config : Config) (number due : ℕ) (v w : View) → AlikeViews config v w → AlikeViews config (with_due_call number due v) (with_due_call number due w)
delayed_alike config number due v w s = record {
  moment_is = s.moment_is;
  begun_is = s.begun_is;
  drawn_is = s.drawn_is;
  calls_are = due_alike config number due v.calls w.calls s.calls_are;
  free_is = s.free_is;
  leases_are = s.leases_are;
  keepings_are = s.keepings_are;
}

pushed_alike : (config : Config) (calls : List LiveCall) (c : CallView) (cs ds : List CallView) → AllAlike config cs ds → CallsFor config calls (cs ++ c ∷ []) →
    AllAlike config (cs ++ c ∷ []) (ds ++ c ∷ [])
pushed_alike config [] c [] [] s shown = elim shown [ ]
pushed_alike config (call ∷ calls) c [] [] s shown = (call_of_one config call c c shown.0 shown.0, tt)
pushed_alike config calls c [] (d ∷ ds) s shown = elim s [ ]
pushed_alike config calls c (x ∷ cs) [] s shown = elim s [ ]
pushed_alike config [] c (x ∷ cs) (d ∷ ds) s shown = elim shown [ ]
pushed_alike config (call ∷ calls) c (x ∷ cs) (d ∷ ds) s shown = (s.0, pushed_alike config calls c cs ds s.1 shown.1)

first_alike : (config : Config) (of : Call) (made : Round) (now : ℕ) (calls : List LiveCall) (v w : View) → AlikeViews config v w → CallsFor config calls (with_first of made now v).calls →
    AlikeViews config (with_first of made now v) (with_first of made now w)
first_alike config of made now calls v w s shown = record {
  moment_is = s.moment_is;
  begun_is = ap (λ n. n + 1) s.begun_is;
  drawn_is = s.drawn_is;
  calls_are = pushed_alike config calls (record { of = of; rounds = made ∷ []; first = now; last = now; due = None }) v.calls w.calls s.calls_are shown;
  free_is = s.free_is;
  leases_are = s.leases_are;
  keepings_are = s.keepings_are;
}

without_case : (config : Config) (c d : CallView) (cs ds less fewer : List CallView) → AlikeCalls config c d → AllAlike config cs ds → AllAlike config less fewer → (b : Bool) →
    AllAlike config (cond b cs (c ∷ less)) (cond b ds (d ∷ fewer))
without_case config c d cs ds less fewer same all more true = all
without_case config c d cs ds less fewer same all more false = (same, more)

without_alike : (config : Config) (number : ℕ) (cs ds : List CallView) → AllAlike config cs ds → AllAlike config (without number cs) (without number ds)
without_alike config number [] [] s = tt
without_alike config number [] (d ∷ ds) s = elim s [ ]
without_alike config number (c ∷ cs) [] s = elim s [ ]
without_alike config number (c ∷ cs) (d ∷ ds) s =
    subst (λ (b : Bool). AllAlike config (without number (c ∷ cs)) (cond b ds (d ∷ without number ds)))
    (ap (λ (of : Call). of.number == number) s.0.of_is)
    (without_case config c d cs ds (without number cs) (without number ds) s.0 s.1 (without_alike config number cs ds s.1) (is_call_numbered number c))

cleared_alike : (config : Config) (gone : List Call) (cs ds : List CallView) → AllAlike config cs ds → AllAlike config (cleared gone cs) (cleared gone ds)
cleared_alike config [] cs ds s = s
cleared_alike config (of ∷ gone) cs ds s = cleared_alike config gone (without of.number cs) (without of.number ds) (without_alike config of.number cs ds s)

ended_alike : (config : Config) (g h : List BoardEntry) (e : BoardEntry) (calls : List Call) (v w : View) →
    map (λ (leg : Holder). leg.pair) (flat_map (closed_of g e) calls) ≡ map (λ (leg : Holder). leg.pair) (flat_map (closed_of h e) calls) → AlikeViews config v w →
    AlikeViews config (with_ended g e calls v) (with_ended h e calls w)
ended_alike config g h e calls v w same s =
    subst (λ (x : View). AlikeViews config x (with_ended h e calls w)) (sym (ended_are g e calls v))
    (subst (λ (x : View). AlikeViews config (ended_view g e calls v) x) (sym (ended_are h e calls w)) (record {
      moment_is = s.moment_is;
      begun_is = s.begun_is;
      drawn_is = s.drawn_is;
      calls_are = cleared_alike config calls v.calls w.calls s.calls_are;
      free_is = λ family.
          family_more config v.free w.free (map (λ (leg : Holder). leg.pair) (flat_map (closed_of g e) calls)) (map (λ (leg : Holder). leg.pair) (flat_map (closed_of h e) calls)) family
          (s.free_is family) same;
      leases_are = s.leases_are;
      keepings_are = s.keepings_are;
    }))

-- An entry.

abbrev turn : ℕ → Control → Act → BoardEntry
turn now c a = record { moment = now; event = Turn (record c { act = a }) }

-- what an act gives back that closes legs of one call
closed_one : (g h : List BoardEntry) (e : BoardEntry) (of : Call) → map (λ (leg : Holder). leg.pair) (closed_of g e of ++ []) ≡ map (λ (leg : Holder). leg.pair) (closed_of h e of ++ []) →
    map (λ (leg : Holder). leg.pair) (closed_of g e of) ≡ map (λ (leg : Holder). leg.pair) (closed_of h e of)
closed_one g h e of same =
    sym (ap (map (λ (leg : Holder). leg.pair)) (append-nil (closed_of g e of))) ∙ same ∙ ap (map (λ (leg : Holder). leg.pair)) (append-nil (closed_of h e of))

module _ (config : Config) (board : Board) (g h : List BoardEntry) (now : ℕ) (c : Control) (v w : View) (s : AlikeViews config v w) where
  taken_alike : (o : Offer) (new : Bool) (x y : View) → AlikeViews config x y →
      CallsFor config board.calls.list (cond new (with_first o.of (round.Offered o.ask o.legs o.keys) now x) (with_more o.of (round.Offered o.ask o.legs o.keys) now x)).calls →
      AlikeViews config (cond new (with_first o.of (round.Offered o.ask o.legs o.keys) now x) (with_more o.of (round.Offered o.ask o.legs o.keys) now x))
      (cond new (with_first o.of (round.Offered o.ask o.legs o.keys) now y) (with_more o.of (round.Offered o.ask o.legs o.keys) now y))
  taken_alike o true x y t shown = first_alike config o.of (round.Offered o.ask o.legs o.keys) now board.calls.list x y t shown
  taken_alike o false x y t shown = more_alike config o.of (round.Offered o.ask o.legs o.keys) now board.calls.list x y t shown

  turned_alike : (a : Act) → closed_pairs g (turn now c a) ≡ closed_pairs h (turn now c a) → BoardMatches config board (view_after g (turn now c a) v) →
      AlikeViews config (view_after g (turn now c a) v) (view_after h (turn now c a) w)
  turned_alike act.Repeated same shown = moment_alike config v w now s
  turned_alike act.OutOfMemory same shown = moment_alike config v w now s
  turned_alike (act.Failed code) same shown =
      reply_alike config (view_at_moment v now) (view_at_moment w now) now c (moment_alike config v w now s) (are_keepings config board (with_reply now c (view_at_moment v now)) shown)
  turned_alike (act.Queried of) same shown =
      reply_alike config (view_at_moment v now) (view_at_moment w now) now c (moment_alike config v w now s) (are_keepings config board (with_reply now c (view_at_moment v now)) shown)
  turned_alike act.Told same shown =
      reply_alike config (view_at_moment v now) (view_at_moment w now) now c (moment_alike config v w now s) (are_keepings config board (with_reply now c (view_at_moment v now)) shown)
  turned_alike (act.Delayed of seconds) same shown =
      let ending = λ (x : View). with_due_call of.number (due_after now seconds) (view_at_moment x now) in
      reply_alike config (ending v) (ending w) now c
      (delayed_alike config of.number (due_after now seconds) (view_at_moment v now) (view_at_moment w now) (moment_alike config v w now s))
      (are_keepings config board (with_reply now c (ending v)) shown)
  turned_alike (act.Undone code leases draws) same shown =
      let pairs : List ℕ = map (λ (lease : Lease). lease.pair) leases in
      let leased = λ (x : View). with_draws (with_leases (view_at_moment x now) pairs) (length draws) in
      let drawn : AlikeViews config (leased v) (leased w) =
      draws_alike config (with_leases (view_at_moment v now) pairs) (with_leases (view_at_moment w now) pairs) (length draws)
      (leases_alike config (view_at_moment v now) (view_at_moment w now) pairs (moment_alike config v w now s)) in
      reply_alike config (with_returned (leased v) pairs) (with_returned (leased w) pairs) now c (returned_alike config (leased v) (leased w) pairs pairs refl drawn)
      (are_keepings config board (with_reply now c (with_returned (leased v) pairs)) shown)
  turned_alike (act.Offered o) same shown =
      let e = turn now c (act.Offered o) in
      let made : Round = round.Offered o.ask o.legs o.keys in
      let pairs : List ℕ = map (λ (leg : Holder). leg.pair) o.legs in
      let leased = λ (x : View). with_draws (with_leases (view_at_moment x now) pairs) (length o.keys) in
      let taken = λ (x : View). cond o.begins (with_first o.of made now (leased x)) (with_more o.of made now (leased x)) in
      let drawn : AlikeViews config (leased v) (leased w) =
      draws_alike config (with_leases (view_at_moment v now) pairs) (with_leases (view_at_moment w now) pairs) (length o.keys)
      (leases_alike config (view_at_moment v now) (view_at_moment w now) pairs (moment_alike config v w now s)) in
      reply_alike config (with_closed g e o.of (taken v)) (with_closed h e o.of (taken w)) now c
      (returned_alike config (taken v) (taken w) (map (λ (leg : Holder). leg.pair) (closed_of g e o.of)) (map (λ (leg : Holder). leg.pair) (closed_of h e o.of)) (closed_one g h e o.of same)
      (taken_alike o o.begins (leased v) (leased w) drawn shown.calls_for))
      (are_keepings config board (with_reply now c (with_closed g e o.of (taken v))) shown)
  turned_alike (act.Answered a) same shown =
      let e = turn now c (act.Answered a) in
      let made : Round = round.Answered a.ask in
      let taken = λ (x : View). with_more a.of made now (view_at_moment x now) in
      reply_alike config (with_closed g e a.of (taken v)) (with_closed h e a.of (taken w)) now c
      (returned_alike config (taken v) (taken w) (map (λ (leg : Holder). leg.pair) (closed_of g e a.of)) (map (λ (leg : Holder). leg.pair) (closed_of h e a.of)) (closed_one g h e a.of same)
      (more_alike config a.of made now board.calls.list (view_at_moment v now) (view_at_moment w now) (moment_alike config v w now s) shown.calls_for))
      (are_keepings config board (with_reply now c (with_closed g e a.of (taken v))) shown)
  turned_alike (act.Deleted of) same shown =
      let e = turn now c (act.Deleted of) in
      reply_alike config (with_ended g e (of ∷ []) (view_at_moment v now)) (with_ended h e (of ∷ []) (view_at_moment w now)) now c
      (ended_alike config g h e (of ∷ []) (view_at_moment v now) (view_at_moment w now) same (moment_alike config v w now s))
      (are_keepings config board (with_reply now c (with_ended g e (of ∷ []) (view_at_moment v now))) shown)

happened_alike : (config : Config) (board : Board) (g h : List BoardEntry) (now : ℕ) (event : BoardEvent) (v w : View) → AlikeViews config v w →
    closed_pairs g (record { moment = now; event = event }) ≡ closed_pairs h (record { moment = now; event = event }) →
    BoardMatches config board (view_after g (record { moment = now; event = event }) v) →
    AlikeViews config (view_after g (record { moment = now; event = event }) v) (view_after h (record { moment = now; event = event }) w)
happened_alike config board g h now (Turn c) v w s same shown = turned_alike config board g h now c v w s c.act same shown
happened_alike config board g h now (Tick calls) v w s same shown =
    ended_alike config g h (record { moment = now; event = Tick calls }) calls (view_at_moment v now) (view_at_moment w now) same (moment_alike config v w now s)
happened_alike config board g h now (Stop calls) v w s same shown = ended_alike config g h (record { moment = now; event = Stop calls }) calls v w same s

-- views of which a board keeps the same stay so by an entry that gives back the same pairs
pub after_alike : (config : Config) (board : Board) (g h : List BoardEntry) (e : BoardEntry) (v w : View) → AlikeViews config v w → closed_pairs g e ≡ closed_pairs h e →
    BoardMatches config board (view_after g e v) → AlikeViews config (view_after g e v) (view_after h e w)
after_alike config board g h e v w s same shown = happened_alike config board g h e.moment e.event v w s same shown
