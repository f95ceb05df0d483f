-- How the calls of a port maker follow from the rows that the main hand adds: its closings give back the ends that leave boxes and cells.
use Rattle.std.specs.Prelude.{◌≡◌, ◌<◌, ◌++◌, ℕ, All, List, [], Option, Some}
use Rattle.relay_outside.specs.declared.ports.OutCall.{OutCall}
use Rattle.relay_outside.specs.declared.ports.PortCall.{PortCall}
use Rattle.relay_outside.specs.declared.settings.Config.{Config}
use Rattle.relay_outside.specs.Ports.{taken_at, sent_at}
use Rattle.relay_outside.specs.DeviceLogs.{EndLog, Gained}
use Rattle.rtp_packet.specs.declared.head.Half.{Half}
use Rattle.turn_table.specs.declared.machine.Entry as table
use Rattle.port_pool.specs.declared.pairs.Lease.{Lease}
use Rattle.port_pool.specs.Ports.{pair_count}
use Rattle.relay_core.specs.Entries.{box_of}
use Rattle.relay_core.specs.Records.{Made}
use Rattle.relay_core.specs.Steps.{legs_left}
use Rattle.relay_core.specs.EndLogs.{ins_logged, legs_logged, outs_logged}
use Rattle.media_ports.specs.Addresses.{port_address}
use Rattle.media_ports.specs.ReturnedEnds.{SameWhereTold, IsOfPair}

module _ {T : Type 0} where
  -- the in ends that were given back are those that left boxes: of each port they tell the same
  abbrev pub AreTakesTied : Config → List (table.Entry Made T) → List PortCall → Type 0
  AreTakesTied config rows calls =
      (pair : ℕ) (half : Half) → pair < pair_count config → SameWhereTold (taken_at calls (port_address config pair half)) (ins_logged rows (box_of config pair) half)

  -- the out ends that were given back are those of the legs that went from cells
  abbrev pub AreSendsTied : Config → List (table.Entry Made T) → List PortCall → Type 0
  AreSendsTied config rows calls =
      (pair : ℕ) (half : Half) → pair < pair_count config → SameWhereTold (sent_at calls (port_address config pair half)) (outs_logged rows pair half)

  -- no address but those of pairs was called, and what was given back is what left boxes and cells
  pub record AreTied (config : Config) (rows : List (table.Entry Made T)) (calls : List PortCall) : Type 0 where
    pub of_pairs : All (IsOfPair config) calls
    pub takes : AreTakesTied config rows calls
    pub sends : AreSendsTied config rows calls

  -- Rows were appended, and, where the port maker tells, its calls meanwhile are tied to them
  pub record PortsFollowRows (config : Config) (log told_now : Option (List PortCall)) (rows rows_now : List (table.Entry Made T)) : Type 0 where
    pub more : List (table.Entry Made T)
    pub rows_are : rows_now ≡ rows ++ more
    pub calls : Gained log told_now (AreTied config more)

  -- the same of in ends alone, by rows of which no leg goes from a cell
  pub record TiesTakes (config : Config) (log told_now : Option (List PortCall)) (rows rows_now : List (table.Entry Made T)) : Type 0 where
    pub more : List (table.Entry Made T)
    pub rows_are : rows_now ≡ rows ++ more
    pub calls : Gained log told_now (λ calls. All (IsOfPair config) calls × AreTakesTied config more calls)
    pub no_legs : (pair : ℕ) (half : Half) → outs_logged more pair half ≡ Some []

  -- rows were appended by which just these legs went from a cell, and no box was shut
  pub record LegsLeave {O : Type 0} (log : O → EndLog OutCall) (gone : List (Lease × O × O)) (rows rows_now : List (table.Entry Made T)) : Type 0 where
    pub more : List (table.Entry Made T)
    pub rows_are : rows_now ≡ rows ++ more
    pub no_ends : (place : ℕ) (half : Half) → ins_logged more place half ≡ Some []
    pub legs : (pair : ℕ) (half : Half) → outs_logged more pair half ≡ legs_logged (legs_left log gone) pair half
