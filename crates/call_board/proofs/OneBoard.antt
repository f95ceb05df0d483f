-- Two histories that one board stands for have one future.
use Rattle.std.proofs.Common.{◌≡◌, ◌∙◌, refl, ap, subst, ℕ, ◌≤◌, List, [], ◌∷◌, map, filter}
use Rattle.relay_outside.specs.declared.settings.Config.{Config}
use Rattle.histories.specs.Words.{In, here, there, has}
use Rattle.offer_answer.specs.Rounds.{Demand}
use Rattle.call_board.specs.declared.board.Board.{Board}
use Rattle.call_board.specs.Acts.{Call, Control, BoardEvent, Turn, Tick, Stop, BoardEntry}
use Rattle.call_board.specs.Calls.{live, is_due_by}
use Rattle.call_board.specs.Requests.{asked}
use Rattle.call_board.specs.Fits.{GivesFor, FitsControl, FitsAt, AreNamedWhenDue, IsFitting}
use Rattle.call_board.specs.Views.{view_of, board_last_moment}
use Rattle.call_board.specs.Boards.{BoardMatches, BoardFor}
use Rattle.call_board.specs.Whole.{IsMomentOf, view_after}
use Rattle.call_board.specs.Futures.{OneBoardLives, OneBoardAnswers, OneBoardDemands, OneBoardFits, OneBoardGoesOn}
use Rattle.call_board.proofs.Entries.{whole, entry_stands}
use Rattle.call_board.proofs.AlikeViews.{AlikeViews, views_of_one, shows_alike, after_alike}
use Rattle.call_board.proofs.AlikeHistories.{AlikeHistories, histories_alike, due_alike}
use Rattle.call_board.proofs.AlikeAnswers.{answers_alike, demanded_alike, hears_alike, asks_alike}

of_one : (config : Config) (board : Board) (g h : List BoardEntry) → BoardFor config board g → BoardFor config board h → AlikeHistories config g h
of_one config board g h a b = histories_alike config g h (views_of_one config board (view_of config g) (view_of config h) a b)

pub one_board_lives : OneBoardLives
one_board_lives config board g h a b = (of_one config board g h a b).live_is

pub one_board_answers : OneBoardAnswers
one_board_answers config board g h now c old a b = answers_alike config g h (of_one config board g h a b) old now c

pub one_board_demands : OneBoardDemands
one_board_demands config board g h c a b = demanded_alike config g h (of_one config board g h a b) c

control_fits : (config : Config) (g h : List BoardEntry) (now : ℕ) (c : Control) → IsFitting config g → AlikeHistories config g h → FitsControl config g now c → FitsControl config h now c
control_fits config g h now c old s fits = record {
  framed = fits.framed;
  length_is = fits.length_is;
  reads = fits.reads;
  hears = λ heard. hears_alike config g h s c (asked config c.too_long c.pairs) (fits.hears heard);
  gives = subst (λ (d : Demand). GivesFor d c.given c.act) (demanded_alike config g h s c) fits.gives;
  reports = λ out none. fits.reports out (asks_alike config g h s (asked config c.too_long c.pairs) ∙ none);
  answers = fits.answers ∙ answers_alike config g h s old now c;
}

named_alike : (config : Config) (g h : List BoardEntry) (now : ℕ) (named : List ℕ) (calls : List Call) → AlikeHistories config g h → ((c : Call) → In c calls → In c (live g)) →
    AreNamedWhenDue g now named calls → AreNamedWhenDue h now named calls
named_alike config g h now named [] s are_live all = tt
named_alike config g h now named (c ∷ calls) s are_live all = (
  λ is_due. all.0 (ap (is_due_by now) (due_alike config g h c s (are_live c (here refl))) ∙ is_due),
  named_alike config g h now named calls s (λ d i. are_live d (there i)) all.1,
)

event_fits : (config : Config) (g h : List BoardEntry) (now : ℕ) (event : BoardEvent) → IsFitting config g → AlikeHistories config g h → FitsAt config g now event → FitsAt config h now event
event_fits config g h now (Turn c) old s fits = control_fits config g h now c old s fits
event_fits config g h now (Tick calls) old s fits = (
  fits.0 ∙ ap (λ (those : List Call). filter (λ (c : Call). has (map (λ (d : Call). d.number) calls) c.number) those) s.live_is,
  subst (AreNamedWhenDue h now (map (λ (d : Call). d.number) calls)) s.live_is
      (named_alike config g h now (map (λ (d : Call). d.number) calls) (live g) s (λ c i. i) fits.1),
)
event_fits config g h now (Stop calls) old s fits = fits ∙ s.live_is

pub one_board_fits : OneBoardFits
one_board_fits config board g h e old a b fits = event_fits config g h e.moment e.event old (of_one config board g h a b) fits

moment_of : (g h : List BoardEntry) (moment : ℕ) (event : BoardEvent) → board_last_moment g ≡ board_last_moment h → IsMomentOf g moment event → IsMomentOf h moment event
moment_of g h moment (Turn c) same late = subst (λ m. m ≤ moment) same late
moment_of g h moment (Tick calls) same late = subst (λ m. m ≤ moment) same late
moment_of g h moment (Stop calls) same late = late ∙ same

pub one_board_goes_on : OneBoardGoesOn
one_board_goes_on config old new g h e first second a b fits timely same shown =
    let s : AlikeViews config (view_of config g) (view_of config h) = views_of_one config old (view_of config g) (view_of config h) a b in
    let now : BoardMatches config new (view_after g e (view_of config g)) = subst (BoardMatches config new) (whole config g e first fits timely) shown in
    entry_stands config new h e second (one_board_fits config old g h e first a b fits) (moment_of g h e.moment e.event s.moment_is timely)
    (shows_alike config new (view_after g e (view_of config g)) (view_after h e (view_of config h)) (after_alike config new g h e (view_of config g) (view_of config h) s same now) now)
