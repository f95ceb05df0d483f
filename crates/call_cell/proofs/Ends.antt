-- A cell over the end of its call.
use Rattle.std.proofs.Common.{◌≡◌, refl, subst, sym, ◌∙◌, ℕ, List, [], max, arith, false, None}
use Rattle.std.specs.List.{filter_map}
use Rattle.relay_outside.specs.declared.settings.Config.{Config}
use Rattle.port_pool.specs.declared.pairs.Lease.{Lease}
use Rattle.call_cell.specs.declared.leg.Leg.{Leg}
use Rattle.call_cell.specs.declared.cell.Cell.{Cell}
use Rattle.call_cell.specs.Cells.{CellEntry}
use Rattle.call_cell.specs.LegHistories.{LegsStandFor}
use Rattle.call_cell.specs.CellHistories.{CellFor, cell_last_moment}
use Rattle.call_cell.specs.CellEnds.{parts_of, CellEnds}

max_same : (m : ℕ) → m ≡ max m m
max_same m = omega arith

pub no_legs : {O : Type 0} (config : Config) → LegsStandFor {O = O} config [] []
no_legs config = record {
  holders = refl;
  apart = record {
    leases = λ i j d one two same. absurd (omega (arith, one));
    places = λ i j d one two section side. absurd (omega (arith, one));
  };
  each = λ i d below. absurd (omega (arith, below));
}

pub cell_ends : {O : Type 0} (config : Config) (old new : Cell O) (h : List CellEntry) (after : List (Lease × O × O)) → CellFor config old h
    → new.config ≡ old.config → new.moment ≡ old.moment → new.call ≡ None → new.is_committed ≡ false
    → new.legs.items ≡ [] → after ≡ filter_map (λ (leg : Leg O). parts_of leg) old.legs.items → CellEnds config old new h after
cell_ends {O} config old new h after for same_config same_moment call committed none went =
    record {
      fits = tt;
      stands = record {
        config_is = same_config ∙ for.config_is;
        moment = same_moment ∙ for.moment ∙ max_same (cell_last_moment h);
        call_is = call;
        began = tt;
        is_committed = committed;
        active = tt;
        unnoted = λ number q. refl;
        legs_for = subst (λ (l : List (Leg O)). LegsStandFor config [] l) (sym none) (no_legs config);
      };
      went = went;
    }
