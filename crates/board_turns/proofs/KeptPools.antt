-- What the board keeps when the pairs of legs came back one after the other.
use Rattle.std.proofs.Common.{◌≡◌, ◌∙◌, sym, ap, ℕ, List, [], ◌∷◌, ◌++◌}
use Rattle.port_pool.specs.Pools.{Pairs, after_return}
use Rattle.call_board.specs.Shapes.{BoardShape, after_returns, shape_returned, shape_returns, with_pool}
use Rattle.call_board.proofs.ShapedPools.{none_back, one_more_back}

one_back : (pool : Pairs) (pair : ℕ) → after_return pool pair ≡ after_returns pool (pair ∷ [])
one_back pool pair = ap (λ (p : Pairs). after_return p pair) (none_back pool) ∙ one_more_back pool [] pair

pub none_returned : (shape : BoardShape) → shape ≡ shape_returns [] shape
none_returned shape = ap (λ (pool : Pairs). with_pool pool shape) (none_back shape.pool)

pub one_returned : (shape : BoardShape) (pair : ℕ) → shape_returned pair shape ≡ shape_returns (pair ∷ []) shape
one_returned shape pair = ap (λ (pool : Pairs). with_pool pool shape) (one_back shape.pool pair)

-- and one more
pub more_returned : (shape : BoardShape) (pairs : List ℕ) (pair : ℕ) → shape_returns (pair ∷ []) (shape_returns pairs shape) ≡ shape_returns (pairs ++ pair ∷ []) shape
more_returned shape pairs pair =
    ap (λ (pool : Pairs). with_pool pool shape) (sym (one_back (after_returns shape.pool pairs) pair) ∙ one_more_back shape.pool pairs pair)
