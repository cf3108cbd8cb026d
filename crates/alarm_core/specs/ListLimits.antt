-- What edits may leave of the lists of a site's classes, and of the peers that it knows.
use Rattle.std.specs.Prelude.{ℕ, ◌<◌, ◌≤◌, List, length, map, All, AllPairs}
use Rattle.bac_values.specs.Address.{PeerData}
use Rattle.bac_values.specs.Limits.{most_destinations, most_peers}
use Rattle.notify_class.specs.declared.class.Class.{Class}
use Rattle.alarm_core.specs.declared.site.Site.{Site}
use Rattle.alarm_core.specs.Room.{LeaveRoom}

abbrev pub HasFew : Class → Type 0
HasFew class = length class.destinations ≤ most_destinations

abbrev pub instances : List Class → List ℕ
instances classes = map (λ (class : Class). class.instance) classes

abbrev pub InstancesAscend : List Class → Type 0
InstancesAscend classes = AllPairs (λ earlier later. earlier < later) (instances classes)

-- the instances ascend, each list has no more recipients than it may, no more peers are known than may be, and the lists leave room in the outbox
pub record KeepLists (site : Site) (classes : List Class) (known : List PeerData) : Type 0 where
  pub few : All HasFew classes
  pub ascending : InstancesAscend classes
  pub peers : length known ≤ most_peers
  pub room : LeaveRoom site classes
