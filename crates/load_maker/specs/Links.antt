-- The control link of a load: what it tells, and that this is of the load.
use Rattle.std.specs.Prelude.{◌≡◌, ℕ, ◌*◌, ◌≤◌, Bool, Option, List}
use Rattle.std.specs.List.{list_all}
use Rattle.relay_outside.specs.declared.link.LinkCall.{LinkCall}
use Rattle.relay_outside.specs.Link.{datagrams, sends}
use Rattle.relay_outside.specs.DeviceLogs.{WhereLogged}
use Rattle.load_maker.specs.Datagrams.{first_datagrams, is_success}

-- what it tells; how many calls it is for, and how many of their datagrams it gave; whether each reply was a success; its count of faults
pub record LoadLinkState : Type 0 where
  pub log : Option (List LinkCall)
  pub calls : ℕ
  pub given : ℕ
  pub well : Bool
  pub faults : ℕ

-- the datagrams that were taken are the first of the load, and all replies are successes exactly where the link says so
pub record LogsLoad (given : ℕ) (well : Bool) (calls : List LinkCall) : Type 0 where
  pub taken : datagrams calls ≡ first_datagrams given
  pub replied : list_all (λ reply. is_success reply.1) (sends calls) ≡ well

-- What is so of every link of a load, whoever has it
pub record IsOfLoad (link : LoadLinkState) : Type 0 where
  pub few : link.calls ≤ 1000
  pub left : link.given ≤ 2 * link.calls
  pub log : WhereLogged link.log (LogsLoad link.given link.well)
