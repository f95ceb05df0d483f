-- How what a relay keeps beside its pool, its calls, its cells and its replies is written.
use Rattle.std.specs.Prelude.{codes, ◌<◌, ◌^◌}
use Rattle.ng_bencode.specs.Tree.{Tree, Dict, entry, no_entries}
use Rattle.state_values.specs.declared.relays.RelaySaved.{RelaySaved}
use Rattle.state_values.specs.Numbers.{number_tree}
use Rattle.state_values.specs.ConfigTrees.{config_tree, FitsConfig}

abbrev pub relay_tree : RelaySaved → Tree
relay_tree saved = Dict
    (entry (codes "begun") (number_tree saved.begun)
    (entry (codes "config") (config_tree saved.config)
    (entry (codes "drawn") (number_tree saved.drawn)
    (entry (codes "moment") (number_tree saved.moment) no_entries))))

-- the ranges of the fields
pub record FitsRelaySaved (saved : RelaySaved) : Type 0 where
  pub config : FitsConfig saved.config
  pub moment : saved.moment < 2 ^ 64
  pub begun : saved.begun < 2 ^ 64
  pub drawn : saved.drawn < 2 ^ 64
