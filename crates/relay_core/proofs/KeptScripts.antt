-- What the events of a turn of the board make of the cells and of the boxes.
use Rattle.std.proofs.Common.{◌≡◌, ◌∙◌, refl, sym, ap, subst, ℕ, Bool, true, false, cond, List, [], ◌∷◌, ◌++◌, map, Option, Some, None, ◌==◌, arith}
use Rattle.relay_outside.specs.declared.settings.Config.{Config}
use Rattle.histories.specs.Words.{In, here, there, has}
use Rattle.histories.proofs.Lists.{equal, equal_if, it_has, has_it, maps, mapped}
use Rattle.port_pool.specs.declared.holder.Holder.{Holder}
use Rattle.call_cell.specs.Cells.{CellEvent}
use Rattle.call_cell.specs.Shapes.{CellShape}
use Rattle.call_board.specs.Acts.{Call}
use Rattle.call_shapes.specs.Events.{shape_after_event}
use Rattle.call_shapes.specs.Turns.{pairs_held, BoxesMove}
use Rattle.relay_core.specs.Entries.{box_of}
use Rattle.relay_core.specs.Scripts.{Owed, open_owed, closing, in_cell}
use Rattle.relay_core.specs.KeptAfter.{cell_by_event, box_by_event, cells_after_one, holders_after_one, cells_after, holders_after}
use Rattle.relay_core.proofs.Turns.{false_if}

-- Numbers that are told apart.

abbrev pub unequal : (a b : ℕ) → (a ≡ b → ⊥) → (a == b) ≡ false
unequal a b apart = false_if (a == b) (λ t. apart (equal_if a b t))

same_test : (a b c d : ℕ) → (a ≡ b → c ≡ d) → (c ≡ d → a ≡ b) → (t : Bool) → (a == b) ≡ t → (c == d) ≡ (a == b)
same_test a b c d to from true t = equal c d (to (equal_if a b t)) ∙ sym t
same_test a b c d to from false t = unequal c d (λ q. let yes = equal a b (from q) in let wrong : true ≡ false = sym yes ∙ t in absurd (let w = wrong in cc)) ∙ sym t

-- the boxes of two pairs are at one place just where the pairs are one
pub same_box : (config : Config) (a b : ℕ) → (box_of config a == box_of config b) ≡ (a == b)
same_box config a b =
    same_test a b (box_of config a) (box_of config b) (λ q. ap (λ (p : ℕ). box_of config p) q) (λ q. omega (arith, q)) (a == b) refl

-- One event after the other.

pub cells_same : (ws : List Owed) (cells others : ℕ → CellShape) (k : ℕ) → ((place : ℕ) → cells place ≡ others place) → cells_after ws cells k ≡ cells_after ws others k
cells_same [] cells others k same = same k
cells_same (w ∷ ws) cells others k same =
    cells_same ws (cells_after_one w cells) (cells_after_one w others) k
    (λ place. ap (λ (s : CellShape). cond (w.place == place) (cell_by_event w.event s) s) (same place))

pub holders_same : (config : Config) (ws : List Owed) (holders others : ℕ → Option Holder) (pair : ℕ) → ((p : ℕ) → holders p ≡ others p)
    → holders_after config ws holders pair ≡ holders_after config ws others pair
holders_same config [] holders others pair same = same pair
holders_same config (w ∷ ws) holders others pair same =
    holders_same config ws (holders_after_one config w holders) (holders_after_one config w others) pair
    (λ p. ap (λ (held : Option Holder). cond (w.place == box_of config p) (box_by_event w.event held) held) (same p))

pub cells_append : (ws vs : List Owed) (cells : ℕ → CellShape) (k : ℕ) → cells_after (ws ++ vs) cells k ≡ cells_after vs (cells_after ws cells) k
cells_append [] vs cells k = refl
cells_append (w ∷ ws) vs cells k = cells_append ws vs (cells_after_one w cells) k

pub holders_append : (config : Config) (ws vs : List Owed) (holders : ℕ → Option Holder) (pair : ℕ)
    → holders_after config (ws ++ vs) holders pair ≡ holders_after config vs (holders_after config ws holders) pair
holders_append config [] vs holders pair = refl
holders_append config (w ∷ ws) vs holders pair = holders_append config ws vs (holders_after_one config w holders) pair

-- Openings and closings.

same_either : (t : Bool) (shape : CellShape) → cond t shape shape ≡ shape
same_either true shape = refl
same_either false shape = refl

-- they leave the cells as they were
pub closed_cells : (config : Config) (legs : List Holder) (cells : ℕ → CellShape) (k : ℕ) → cells_after (map (closing config) legs) cells k ≡ cells k
closed_cells config [] cells k = refl
closed_cells config (leg ∷ legs) cells k =
    closed_cells config legs (cells_after_one (closing config leg) cells) k ∙ same_either (box_of config leg.pair == k) (cells k)

pub opened_cells : (config : Config) (legs : List Holder) (cells : ℕ → CellShape) (k : ℕ) → cells_after (map (open_owed config) legs) cells k ≡ cells k
opened_cells config [] cells k = refl
opened_cells config (leg ∷ legs) cells k =
    opened_cells config legs (cells_after_one (open_owed config leg) cells) k ∙ same_either (box_of config leg.pair == k) (cells k)

shut_case : (t u : Bool) (held : Option Holder) → cond u None (cond t None held) ≡ cond (cond t true u) None held
shut_case true true held = refl
shut_case true false held = refl
shut_case false true held = refl
shut_case false false held = refl

-- closings shut the boxes of these legs and no others
pub closed_all : (config : Config) (legs : List Holder) (holders : ℕ → Option Holder) (pair : ℕ)
    → holders_after config (map (closing config) legs) holders pair ≡ cond (has (pairs_held legs) pair) None (holders pair)
closed_all config [] holders pair = refl
closed_all config (leg ∷ legs) holders pair =
    closed_all config legs (holders_after_one config (closing config leg) holders) pair
    ∙ ap (λ (b : Bool). cond (has (pairs_held legs) pair) None (cond b None (holders pair))) (same_box config leg.pair pair)
    ∙ shut_case (leg.pair == pair) (has (pairs_held legs) pair) (holders pair)

pub closed_shut : (config : Config) (legs : List Holder) (holders : ℕ → Option Holder) (pair : ℕ) → has (pairs_held legs) pair ≡ true
    → holders_after config (map (closing config) legs) holders pair ≡ None
closed_shut config legs holders pair among = closed_all config legs holders pair ∙ ap (λ (b : Bool). cond b None (holders pair)) among

pub closed_others : (config : Config) (legs : List Holder) (holders : ℕ → Option Holder) (pair : ℕ) → has (pairs_held legs) pair ≡ false
    → holders_after config (map (closing config) legs) holders pair ≡ holders pair
closed_others config legs holders pair none = closed_all config legs holders pair ∙ ap (λ (b : Bool). cond b None (holders pair)) none

-- legs of which no two have one pair
abbrev pub HaveOwnPairs : List Holder → Type 0
HaveOwnPairs legs = (a b : Holder) → In a legs → In b legs → a.pair ≡ b.pair → a ≡ b

pair_in : (legs : List Holder) (leg : Holder) → In leg legs → has (pairs_held legs) leg.pair ≡ true
pair_in legs leg i = it_has leg.pair (pairs_held legs) (maps (λ (l : Holder). l.pair) legs i)

none_of_more : (t u : Bool) → cond t true u ≡ false → (t ≡ false) × (u ≡ false)
none_of_more true u q = absurd (let wrong : true ≡ false = q in cc)
none_of_more false u q = (refl, q)

pub opened_others : (config : Config) (legs : List Holder) (holders : ℕ → Option Holder) (pair : ℕ) → has (pairs_held legs) pair ≡ false
    → holders_after config (map (open_owed config) legs) holders pair ≡ holders pair
opened_others config [] holders pair none = refl
opened_others config (leg ∷ legs) holders pair none =
    let apart = none_of_more (leg.pair == pair) (has (pairs_held legs) pair) none in
    opened_others config legs (holders_after_one config (open_owed config leg) holders) pair apart.1
    ∙ ap (λ (b : Bool). cond b (Some leg) (holders pair)) (same_box config leg.pair pair ∙ apart.0)

opened_case : (config : Config) (l : Holder) (legs : List Holder) (holders : ℕ → Option Holder) (leg : Holder) → In leg (l ∷ legs) → HaveOwnPairs (l ∷ legs)
    → ((others : ℕ → Option Holder) → In leg legs → holders_after config (map (open_owed config) legs) others leg.pair ≡ Some leg)
    → (b : Bool) → has (pairs_held legs) leg.pair ≡ b
    → holders_after config (map (open_owed config) legs) (holders_after_one config (open_owed config l) holders) leg.pair ≡ Some leg
opened_case config l legs holders leg i own rest true among =
    let m = mapped (λ (h : Holder). h.pair) legs (has_it leg.pair (pairs_held legs) among) in
    let same : m.from ≡ leg = own m.from leg (there m.is_in) i m.makes in
    rest (holders_after_one config (open_owed config l) holders) (subst (λ (h : Holder). In h legs) same m.is_in)
opened_case config l legs holders leg (here q) own rest false among =
    opened_others config legs (holders_after_one config (open_owed config l) holders) leg.pair among
    ∙ ap (λ (b : Bool). cond b (Some l) (holders leg.pair)) (same_box config l.pair leg.pair ∙ equal l.pair leg.pair (sym (ap (λ (h : Holder). h.pair) q)))
    ∙ ap Some (sym q)
opened_case config l legs holders leg (there i) own rest false among =
    absurd (let yes = pair_in legs leg i in let wrong : true ≡ false = sym yes ∙ among in cc)

-- openings open the boxes of these legs for them
pub opened_for : (config : Config) (legs : List Holder) (holders : ℕ → Option Holder) (leg : Holder) → In leg legs → HaveOwnPairs legs
    → holders_after config (map (open_owed config) legs) holders leg.pair ≡ Some leg
opened_for config [] holders leg i own = elim i [ ]
opened_for config (l ∷ legs) holders leg i own =
    opened_case config l legs holders leg i own
    (λ others j. opened_for config legs others leg j (λ a b p q. own a b (there p) (there q)))
    (has (pairs_held legs) leg.pair) refl

-- An event of a cell.

pub cell_moves : (of : Call) (event : CellEvent) (cells : ℕ → CellShape) → cells_after (in_cell of event ∷ []) cells of.cell ≡ shape_after_event event (cells of.cell)
cell_moves of event cells =
    ap (λ (b : Bool). cond b (shape_after_event event (cells of.cell)) (cells of.cell)) (equal of.cell of.cell refl)

pub other_cells : (of : Call) (event : CellEvent) (cells : ℕ → CellShape) (k : ℕ) → (k ≡ of.cell → ⊥) → cells_after (in_cell of event ∷ []) cells k ≡ cells k
other_cells of event cells k apart =
    ap (λ (b : Bool). cond b (shape_after_event event (cells k)) (cells k)) (unequal of.cell k (λ q. apart (sym q)))

held_either : (t : Bool) (held : Option Holder) → cond t held held ≡ held
held_either true held = refl
held_either false held = refl

pub cell_holders : (config : Config) (of : Call) (event : CellEvent) (holders : ℕ → Option Holder) (pair : ℕ)
    → holders_after config (in_cell of event ∷ []) holders pair ≡ holders pair
cell_holders config of event holders pair = held_either (of.cell == box_of config pair) (holders pair)

-- An offer or an answer: boxes are opened, then comes the event of the cell, and boxes are shut.

abbrev pub one_turn : Config → (came : List Holder) → Call → CellEvent → (gone : List Holder) → List Owed
one_turn config came of event gone = map (open_owed config) came ++ in_cell of event ∷ map (closing config) gone

module _ (config : Config) (came : List Holder) (of : Call) (event : CellEvent) (gone : List Holder) where
  cells_split : (cells : ℕ → CellShape) (k : ℕ)
      → cells_after (one_turn config came of event gone) cells k ≡ cells_after (in_cell of event ∷ []) (cells_after (map (open_owed config) came) cells) k
  cells_split cells k =
      cells_append (map (open_owed config) came) (in_cell of event ∷ map (closing config) gone) cells k
      ∙ closed_cells config gone (cells_after_one (in_cell of event) (cells_after (map (open_owed config) came) cells)) k

  pub turn_cell : (cells : ℕ → CellShape) → cells_after (one_turn config came of event gone) cells of.cell ≡ shape_after_event event (cells of.cell)
  turn_cell cells =
      cells_split cells of.cell
      ∙ cell_moves of event (cells_after (map (open_owed config) came) cells)
      ∙ ap (shape_after_event event) (opened_cells config came cells of.cell)

  pub turn_other_cells : (cells : ℕ → CellShape) (k : ℕ) → (k ≡ of.cell → ⊥) → cells_after (one_turn config came of event gone) cells k ≡ cells k
  turn_other_cells cells k apart =
      cells_split cells k
      ∙ other_cells of event (cells_after (map (open_owed config) came) cells) k apart
      ∙ opened_cells config came cells k

  turn_holders : (holders : ℕ → Option Holder) (pair : ℕ)
      → holders_after config (one_turn config came of event gone) holders pair
      ≡ cond (has (pairs_held gone) pair) None (holders_after config (map (open_owed config) came) holders pair)
  turn_holders holders pair =
      let opened = holders_after config (map (open_owed config) came) holders in
      holders_append config (map (open_owed config) came) (in_cell of event ∷ map (closing config) gone) holders pair
      ∙ closed_all config gone (holders_after_one config (in_cell of event) opened) pair
      ∙ ap (λ (held : Option Holder). cond (has (pairs_held gone) pair) None held) (cell_holders config of event opened pair)

  -- where no leg that comes has the pair of another one, or of one that goes
  pub turn_boxes : (holders : ℕ → Option Holder) → HaveOwnPairs came → ((leg : Holder) → In leg came → has (pairs_held gone) leg.pair ≡ false)
      → BoxesMove came gone holders (holders_after config (one_turn config came of event gone) holders)
  turn_boxes holders own apart = record {
    opened = λ leg i.
        turn_holders holders leg.pair
        ∙ ap (λ (b : Bool). cond b None (holders_after config (map (open_owed config) came) holders leg.pair)) (apart leg i)
        ∙ opened_for config came holders leg i own;
    shut = λ leg i.
        turn_holders holders leg.pair
        ∙ ap (λ (b : Bool). cond b None (holders_after config (map (open_owed config) came) holders leg.pair)) (pair_in gone leg i);
    others = λ pair none_came none_gone.
        turn_holders holders pair
        ∙ ap (λ (b : Bool). cond b None (holders_after config (map (open_owed config) came) holders pair)) none_gone
        ∙ opened_others config came holders pair none_came;
  }
