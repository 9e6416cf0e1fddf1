-- How a run goes on from where it began.
use Rattle.std.specs.Prelude.{◌≡◌, List, [], ◌++◌}
use Rattle.peer_network.specs.declared.event.Event.{Event}
use Rattle.ghs_shared.specs.Progress.{StartsWith}
use Rattle.peer_network.specs.declared.wake_set.WakeSet.TheVariants.{All}
use Rattle.ghs_world.specs.WorldState.{WorldState}
use Rattle.ghs_pool.specs.Shop.{ShopState}

-- the same graph, wake set and turns, and a trace that begins with the first one's
pub record Follows (s first : WorldState) : Type 0 where
  pub graph : s.net.graph ≡ first.net.graph
  pub wake : s.wake ≡ first.wake
  pub turns : s.turns ≡ first.turns
  pub further : List Event
  pub trace : s.net.trace ≡ first.net.trace ++ further

-- the world goes on from the first one, and what was published, on the same board, begins with what had been published then
pub record GoesOn (s first : ShopState) : Type 0 where
  pub world : Follows s.world first.world
  pub table : s.told.table ≡ first.told.table
  pub list : StartsWith s.told.list first.told.list

-- a shop without a node; it stands where no run has begun
abbrev pub no_shop : ShopState
no_shop = record {
  world = record {
    net = record { graph = record { nodes = 0; keys = [] }; trace = []; channels = record { queues = []; destinations = [] }; spare = 0 };
    wake = All;
    turns = 0;
    outs = [];
    last = 0;
  };
  told = record { table = record { words = 0; slots = 0; views_name = 0; atom = 0; block = 0; offset = 0; slot_names = [] }; list = [] };
}
