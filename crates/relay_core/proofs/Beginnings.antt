-- Parts that are added one after the other.
use Rattle.std.proofs.Common.{◌≡◌, refl, sym, ◌∙◌, ap, subst, arith, ℕ, suc, ◌+◌, List, [], ◌∷◌, ◌++◌, length, append_assoc, length-append}
use Rattle.port_pool.specs.Ports.{pair_count}
use Rattle.call_board.specs.declared.board.Board as board
use Rattle.call_board.specs.Boards.{BoardFor}
use Rattle.relay_core.specs.declared.part.Part.TheVariants as part
use Rattle.relay_outside.specs.declared.settings.Config.{Config}
use Rattle.relay_outside.specs.Settings.{AreFamilies}
use Rattle.relay_core.specs.declared.part.Part.{Part}
use Rattle.relay_core.specs.FirstPlaces.{IsCell, IsBox, AreCells, AreBoxes, AddsCells, AddsBoxes, AreParts}

nothing_behind : {A : Type 0} (xs : List A) → xs ++ [] ≡ xs
nothing_behind [] = refl
nothing_behind (x ∷ xs) = ap (λ (ys : List _). x ∷ ys) (nothing_behind xs)

module _ {I O : Type 0} where
  cells_and : (config : Config) (xs : List (Part I O)) (x : Part I O) → AreCells config xs → IsCell config x → AreCells config (xs ++ x ∷ [])
  cells_and config [] x are is = (is, tt)
  cells_and config (y ∷ xs) x are is = (are.0, cells_and config xs x are.1 is)

  boxes_and : (config : Config) (k : ℕ) (xs : List (Part I O)) (x : Part I O) → AreBoxes config k xs → IsBox config (length xs + k) x → AreBoxes config k (xs ++ x ∷ [])
  boxes_and config k [] x are is = (subst (λ (n : ℕ). IsBox config n x) (omega arith) is, tt)
  boxes_and config k (y ∷ xs) x are is =
      (are.0, boxes_and config (suc k) xs x are.1 (subst (λ (n : ℕ). IsBox config n x) (omega arith) is))

  pub no_cells : (config : Config) (xs : List (Part I O)) → AddsCells config xs xs 0
  no_cells config xs = record { added = []; is = sym (nothing_behind xs); as_many = refl; are = tt }

  pub no_boxes : (config : Config) (xs : List (Part I O)) → AddsBoxes config xs xs 0
  no_boxes config xs = record { added = []; is = sym (nothing_behind xs); as_many = refl; are = tt }

  pub one_more_cell : (config : Config) (old new newer : List (Part I O)) (count : ℕ) (x : Part I O) → AddsCells config old new count → IsCell config x
      → newer ≡ new ++ x ∷ [] → AddsCells config old newer (count + 1)
  one_more_cell config old new newer count x adds is q = record {
    added = adds.added ++ x ∷ [];
    is = q ∙ ap (λ (xs : List (Part I O)). xs ++ x ∷ []) adds.is ∙ append_assoc old adds.added (x ∷ []);
    as_many = length-append adds.added (x ∷ []) ∙ ap (λ (n : ℕ). n + 1) adds.as_many;
    are = cells_and config adds.added x adds.are is;
  }

  pub one_more_box : (config : Config) (old new newer : List (Part I O)) (count : ℕ) (x : Part I O) → AddsBoxes config old new count
      → IsBox config (count + (config.max_sessions + 1)) x → newer ≡ new ++ x ∷ [] → AddsBoxes config old newer (count + 1)
  one_more_box config old new newer count x adds is q = record {
    added = adds.added ++ x ∷ [];
    is = q ∙ ap (λ (xs : List (Part I O)). xs ++ x ∷ []) adds.is ∙ append_assoc old adds.added (x ∷ []);
    as_many = length-append adds.added (x ∷ []) ∙ ap (λ (n : ℕ). n + 1) adds.as_many;
    are = boxes_and config (config.max_sessions + 1) adds.added x adds.are
        (subst (λ (n : ℕ). IsBox config (n + (config.max_sessions + 1)) x) (sym adds.as_many) is);
  }

module _ {I O : Type 0} where
  pub parts_begin : (config : Config) (b : board.Board) (none one two three : List (Part I O)) → AreFamilies config → none ≡ [] → one ≡ none ++ part.Board b ∷ []
      → AddsCells config one two config.max_sessions → AddsBoxes config two three (pair_count config) → BoardFor config b [] → AreParts config three
  parts_begin config b none one two three families empty first cells boxes for = record {
    families = families;
    board = b;
    cells = cells.added;
    boxes = boxes.added;
    parts_are = boxes.is
        ∙ ap (λ (xs : List (Part I O)). xs ++ boxes.added) (cells.is ∙ ap (λ (xs : List (Part I O)). xs ++ cells.added) (first ∙ ap (λ (xs : List (Part I O)). xs ++ part.Board b ∷ []) empty))
        ∙ append_assoc (part.Board b ∷ []) cells.added boxes.added;
    board_for = for;
    cell_count = cells.as_many;
    are_cells = cells.are;
    box_count = boxes.as_many;
    are_boxes = boxes.are;
  }
