-- Turns of the board that owe the same leave the same lists.
use Rattle.std.proofs.Common.{◌≡◌, ◌∙◌, sym, ap, subst, refl, ℕ, ◌<◌, ◌≤◌, max, List, [], ◌∷◌, ◌++◌, map, length, Bool, true, false, Some, append_assoc, arith}
use Rattle.relay_outside.specs.declared.settings.Config.{Config}
use Rattle.histories.specs.Words.{In, here, there, greatest}
use Rattle.histories.proofs.Lists.{in_right}
use Rattle.call_cell.specs.Cells.{Prepare, Commit, Relay, Expire, Read, End}
use Rattle.call_board.specs.Acts.{BoardEntry}
use Rattle.relay_core.specs.Entries.{Event, Board, Cell, Box, Entry, is_nested, history, board_at}
use Rattle.relay_core.specs.Legal.{Orderly, is_handed_own, is_handed_boards}
use Rattle.relay_core.specs.Scripts.{Owed, owed_by, script}
use Rattle.relay_core.specs.Turns.{IsAbove, Rising}
use Rattle.relay_core.proofs.Gains.{rising_above, rising_append}
use Rattle.relay_core.proofs.Turns.{turn_elsewhere}
use Rattle.board_turns.specs.Between.{board_of}
use Rattle.replay_steps.specs.Steps.{TurnsBoard}
use Rattle.replay_laws.specs.Alike.{bare}
use Rattle.replay_laws.proofs.Lists.{same_history}
use Rattle.replay_laws.proofs.Turned.{turn_event, turn_owes}
use Rattle.replay_laws.proofs.Rising.{turn_rising, last_rising, nothing_behind}
use Rattle.replay_laws.proofs.Beginnings.{Begins, latest, number_is, boards_moment, else_moment}
use Rattle.replay_laws.proofs.Growing.{blank, blank_entry, SameLists, same_long, same_latest, one_grown}

-- a beginning of a beginning
pub begins_less : (config : Config) (l es new : List Entry) → new ≡ l ++ es → Rising l es → Begins config new → Begins config l
begins_less config l es new is rising b = record {
  all = b.all;
  legal = b.legal;
  more = es ++ b.more;
  is = b.is ∙ ap (λ (k : List Entry). k ++ b.more) is ∙ append_assoc l es b.more;
  rising = rising_append l es b.more rising (subst (λ (k : List Entry). Rising k b.more) is b.rising);
}

-- Of a list that goes on so, the front.
module _ (config : Config) (new l : List Entry) (b : Begins config new) (e : Entry) (rest : List Entry) (is : new ≡ l ++ e ∷ rest) (rising : Rising l (e ∷ rest)) where
  front_in : In e new
  front_in = subst (In e) (sym is) (in_right l (e ∷ rest) (here refl))

  front_past : history new e.place e.number ≡ history l e.place e.number
  front_past = ap (λ (k : List Entry). history k e.place e.number) is ∙ same_history l (e ∷ rest) e.place e.number (λ f i p. above f i p)
    where
      above : (f : Entry) → In f (e ∷ rest) → f.place ≡ e.place → e.number ≤ f.number
      above f (here q) p = let z = ap (λ (x : Entry). x.number) q in omega (arith, z)
      above f (there i) p =
          let low : e.number < f.number = rising_above (l ++ e ∷ []) rest rising.1 f i e (in_right l (e ∷ []) (here refl)) (sym p) in omega (arith, low)

  front_number : e.number ≡ length (history l e.place e.number)
  front_number = number_is config new b e front_in ∙ ap length front_past

  front_latest : latest new e.place e.number ≡ latest l e.place e.number
  front_latest = ap (λ (xs : List Entry). greatest (map (λ (x : Entry). x.moment) xs)) front_past

-- the next entries of two lists that are the same have one number
pub number_once : (config : Config) (new more l k : List Entry) (e f : Entry) (rest others : List Entry) → Begins config new → Begins config more → new ≡ l ++ e ∷ rest → more ≡ k ++ f ∷ others
    → Rising l (e ∷ rest) → Rising k (f ∷ others) → SameLists l k → e.place ≡ f.place → e.number ≡ f.number
number_once config new more l k e f rest others b c is too u v same at =
    front_number config new l b e rest is u
    ∙ same_long l k same e.place e.number f.number u.0 (subst (λ (p : ℕ). IsAbove k p f.number) (sym at) v.0)
    ∙ ap (λ (p : ℕ). length (history k p f.number)) at ∙ sym (front_number config more k c f others too v)

-- Nested entries.

nested_own : (v : Event) → is_nested v ≡ true → is_handed_own v ≡ false
nested_own (Board b) is = absurd (let e : false ≡ true = is in cc)
nested_own (Cell (Prepare call legs keys dropped)) is = refl
nested_own (Cell (Commit signal)) is = refl
nested_own (Cell (Relay x)) is = absurd (let e : false ≡ true = is in cc)
nested_own (Cell (Expire due)) is = refl
nested_own (Cell (Read log)) is = refl
nested_own (Cell End) is = refl
nested_own (Box b) is = refl

abbrev parts : ℕ → ℕ → ℕ → Event → Entry
parts place number moment v = record { place = place; number = number; moment = moment; board = 0; event = v }

pub blank_parts : (e f : Entry) → e.place ≡ f.place → e.number ≡ f.number → e.moment ≡ f.moment → blank e.event ≡ blank f.event → blank_entry e ≡ blank_entry f
blank_parts e f place number moment event =
    ap (λ (x : ℕ). parts x e.number e.moment (blank e.event)) place
    ∙ ap (λ (x : ℕ). parts f.place x e.moment (blank e.event)) number
    ∙ ap (λ (x : ℕ). parts f.place f.number x (blank e.event)) moment
    ∙ ap (parts f.place f.number f.moment) event

heads : (v w : Owed) (vs ws : List Owed) → v ∷ vs ≡ w ∷ ws → v ≡ w
heads v w vs ws e = cc

tails : (v w : Owed) (vs ws : List Owed) → v ∷ vs ≡ w ∷ ws → vs ≡ ws
tails v w vs ws e = cc

-- what is known of the nested entries of a turn
record Nested (config : Config) (new : List Entry) (last : Entry) (e : Entry) : Type 0 where
  nested : is_nested e.event ≡ true
  of_board : last.number ≡ e.board

module _ (config : Config) (new more : List Entry) (last final : Entry) (b : Begins config new) (c : Begins config more) (in_new : In last new) (in_more : In final more)
    (at_board : last.place ≡ 0) (at_board_too : final.place ≡ 0) (moments : last.moment ≡ final.moment) where
  moment_case : (l k : List Entry) (e f : Entry) (rest others : List Entry) → (is : new ≡ l ++ e ∷ rest) → (too : more ≡ k ++ f ∷ others) → (u : Rising l (e ∷ rest)) → (v : Rising k (f ∷ others)) → SameLists l k
      → Nested config new last e → Nested config more final f → e.place ≡ f.place → e.event ≡ f.event → (handed : Bool) → is_handed_boards e.event ≡ handed → e.moment ≡ f.moment
  moment_case l k e f rest others is too u v same m n at event true handed =
      boards_moment config new b e (front_in config new l b e rest is u) last in_new at_board m.of_board handed
      ∙ ap (λ (x : ℕ). max x (latest new e.place e.number)) moments ∙ ap (max final.moment) (latests l k e f rest others is too u v same at)
      ∙ sym (boards_moment config more c f (front_in config more k c f others too v) final in_more at_board_too n.of_board (sym (ap is_handed_boards event) ∙ handed))
    where
      latests : (l k : List Entry) (e f : Entry) (rest others : List Entry) → (is : new ≡ l ++ e ∷ rest) → (too : more ≡ k ++ f ∷ others) → (u : Rising l (e ∷ rest)) → (v : Rising k (f ∷ others)) → SameLists l k
          → e.place ≡ f.place → latest new e.place e.number ≡ latest more f.place f.number
      latests l k e f rest others is too u v same at =
          front_latest config new l b e rest is u
          ∙ same_latest l k same e.place e.number f.number u.0 (subst (λ (p : ℕ). IsAbove k p f.number) (sym at) v.0)
          ∙ ap (λ (p : ℕ). latest k p f.number) at ∙ sym (front_latest config more k c f others too v)
  moment_case l k e f rest others is too u v same m n at event false handed =
      else_moment config new b e (front_in config new l b e rest is u) (nested_own e.event m.nested) handed
      ∙ front_latest config new l b e rest is u
      ∙ same_latest l k same e.place e.number f.number u.0 (subst (λ (p : ℕ). IsAbove k p f.number) (sym at) v.0)
      ∙ ap (λ (p : ℕ). latest k p f.number) at ∙ sym (front_latest config more k c f others too v)
      ∙ sym (else_moment config more c f (front_in config more k c f others too v) (nested_own f.event n.nested) (sym (ap is_handed_boards event) ∙ handed))

  nested_grown : (l k ns ms : List Entry) → new ≡ l ++ (ns ++ last ∷ []) → more ≡ k ++ (ms ++ final ∷ []) → Rising l (ns ++ last ∷ []) → Rising k (ms ++ final ∷ []) → SameLists l k
      → ((e : Entry) → In e ns → Nested config new last e) → ((f : Entry) → In f ms → Nested config more final f) → map owed_by ns ≡ map owed_by ms → SameLists (l ++ ns) (k ++ ms)
  nested_grown l k [] [] is too u v same m n owes =
      subst (λ (x : List Entry). SameLists x (k ++ [])) (sym (nothing_behind l)) (subst (λ (y : List Entry). SameLists l y) (sym (nothing_behind k)) same)
  nested_grown l k [] (f ∷ ms) is too u v same m n owes = absurd (let e = owes in cc)
  nested_grown l k (e ∷ ns) [] is too u v same m n owes = absurd (let z = owes in cc)
  nested_grown l k (e ∷ ns) (f ∷ ms) is too u v same m n owes =
      let head : owed_by e ≡ owed_by f = heads (owed_by e) (owed_by f) (map owed_by ns) (map owed_by ms) owes in
      let at : e.place ≡ f.place = ap (λ (w : Owed). w.place) head in
      let event : e.event ≡ f.event = ap (λ (w : Owed). w.event) head in
      let number : e.number ≡ f.number = number_once config new more l k e f (ns ++ last ∷ []) (ms ++ final ∷ []) b c is too u v same at in
      let moment : e.moment ≡ f.moment =
      moment_case l k e f (ns ++ last ∷ []) (ms ++ final ∷ []) is too u v same (m e (here refl)) (n f (here refl)) at event (is_handed_boards e.event) refl in
      let one = one_grown l k e f same u.0 v.0 (blank_parts e f at number moment (ap blank event)) in
      let rest = nested_grown (l ++ e ∷ []) (k ++ f ∷ []) ns ms (is ∙ sym (append_assoc l (e ∷ []) (ns ++ last ∷ []))) (too ∙ sym (append_assoc k (f ∷ []) (ms ++ final ∷ []))) u.1 v.1 one
      (λ x i. m x (there i)) (λ x i. n x (there i)) (tails (owed_by e) (owed_by f) (map owed_by ns) (map owed_by ms) owes) in
      subst (λ (x : List Entry). SameLists x (k ++ f ∷ ms)) (append_assoc l (e ∷ []) ns)
      (subst (λ (y : List Entry). SameLists ((l ++ e ∷ []) ++ ns) y) (append_assoc k (f ∷ []) ms) rest)

-- Whole turns.

-- two turns of the board whose entries are one, but for what decides nothing, and owe the same
pub record TurnAlike (config : Config) (l k new more : List Entry) : Type 0 where
  pub entry : BoardEntry
  pub other : BoardEntry
  pub turns : TurnsBoard config l entry new
  pub turns_too : TurnsBoard config k other more
  pub bare_is : bare entry ≡ bare other
  pub owe_one : script config (board_of l) entry ≡ script config (board_of k) other

board_moment : (moment : ℕ) (v : Event) (x : BoardEntry) → board_at moment v ≡ Some x → moment ≡ x.moment
board_moment moment (Board b) x is = let e : Some (record { moment = moment; event = b }) ≡ Some x = is in ap (λ (y : BoardEntry). y.moment) (entry_once (record { moment = moment; event = b }) x e)
  where
    entry_once : (x y : BoardEntry) → Some x ≡ Some y → x ≡ y
    entry_once x y e = cc
board_moment moment (Cell c) x is = absurd (let e = is in cc)
board_moment moment (Box b) x is = absurd (let e = is in cc)

-- the list after a turn, and the order of what it adds
pub turn_list : (config : Config) (l new : List Entry) (e : BoardEntry) → Orderly config l → (t : TurnsBoard config l e new)
    → (new ≡ l ++ (t.nested ++ t.last ∷ [])) × Rising l (t.nested ++ t.last ∷ [])
turn_list config l new e o t = (t.list_is ∙ append_assoc l t.nested (t.last ∷ []), turn_rising config l t.nested t.last o t.turn)

turn_nested : (config : Config) (l new : List Entry) (e : BoardEntry) → Orderly config l → (t : TurnsBoard config l e new) → (x : Entry) → In x t.nested → Nested config new t.last x
turn_nested config l new e o t x i = record { nested = (turn_elsewhere config l t.nested t.last o t.turn x i).0; of_board = sym (t.turn.of_board x i) }

pub turn_grown : (config : Config) (l k new more : List Entry) → Orderly config l → Orderly config k → Begins config new → Begins config more → SameLists l k → TurnAlike config l k new more → SameLists new more
turn_grown config l k new more o p b c same a =
    let t = a.turns in
    let u = a.turns_too in
    let left = turn_list config l new a.entry o t in
    let right = turn_list config k more a.other p u in
    let here_it_is = turn_event config l a.entry new t in
    let there_it_is = turn_event config k a.other more u in
    let moment : t.last.moment ≡ u.last.moment =
    board_moment t.last.moment t.last.event a.entry t.is ∙ ap (λ (x : BoardEntry). x.moment) a.bare_is ∙ sym (board_moment u.last.moment u.last.event a.other u.is) in
    let owes : map owed_by t.nested ≡ map owed_by u.nested = turn_owes config l a.entry new t ∙ a.owe_one ∙ sym (turn_owes config k a.other more u) in
    let nested = nested_grown config new more t.last u.last b c here_it_is.0 there_it_is.0 t.turn.at_board u.turn.at_board moment l k t.nested u.nested left.0 right.0 left.1 right.1 same
    (turn_nested config l new a.entry o t) (turn_nested config k more a.other p u) owes in
    let above = last_rising config l t.nested t.last o t.turn in
    let above_too = last_rising config k u.nested u.last p u.turn in
    let at : t.last.place ≡ u.last.place = t.turn.at_board ∙ sym u.turn.at_board in
    let number : t.last.number ≡ u.last.number =
    number_once config new more (l ++ t.nested) (k ++ u.nested) t.last u.last [] [] b c t.list_is u.list_is (above, tt) (above_too, tt) nested at in
    let event : blank t.last.event ≡ blank u.last.event =
    ap blank here_it_is.1 ∙ ap (λ (x : BoardEntry). Board x.event) a.bare_is ∙ sym (ap blank there_it_is.1) in
    let grown = one_grown (l ++ t.nested) (k ++ u.nested) t.last u.last nested above above_too (blank_parts t.last u.last at number moment event) in
    subst (λ (x : List Entry). SameLists x more) (sym t.list_is) (subst (λ (y : List Entry). SameLists ((l ++ t.nested) ++ t.last ∷ []) y) (sym u.list_is) grown)
