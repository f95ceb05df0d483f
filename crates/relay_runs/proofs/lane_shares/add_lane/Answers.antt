use Rattle.std.proofs.Common.{◌≡◌, refl, ◌∙◌, ap, ◌∷◌, ◌++◌, [], slice_index_or, vec_capacity}
use Rattle.std.proofs.lemmas.List.{get_or_default}
use Rattle.relay_runs.proofs.lane_shares.add_lane.Goals as goal

-- the thread at this place, as it was
same : (g : _) (c : goal.After-threads-1 g) (d : _) → c.index_mut.result.now ≡ slice_index_or c.args.threads.now.items c.args.at d
same g c d = c.index_mut.ensures.value ∙ get_or_default c.args.threads.now.items c.args.at c.index_mut.result.now d c.requires.at

pub returns : goal.returns
returns g c = record {
  grown = record { lanes = c.push_reserved.new.self; number = c.index_mut.result.now.number; share = c.index_mut.result.now.share; until = c.index_mut.result.now.until; rooms = c.index_mut.result.now.rooms };
  new_is = refl;
  lanes_are = λ d. c.push_reserved.ensures.items ∙ ap (λ thread. thread.lanes.items ++ c.args.own ∷ []) (same g c d);
  until = λ d. ap (λ thread. thread.until) (same g c d);
  room = λ d. c.push_reserved.ensures.capacity ∙ ap (λ thread. vec_capacity thread.lanes) (same g c d);
}
