-- What contracts see of a follower.
use Rattle.std.specs.Prelude.{◌≤◌, ◌+◌, Option}
use Rattle.alarm_core.specs.State.{CoreState}
use Rattle.alarm_core.specs.declared.site.Site.{Site}
use Rattle.alarm_journal.specs.Press.{PressState}
use Rattle.alarm_journal.specs.declared.layout.Layout.{Layout}
use Rattle.state_codec.specs.Sizes.{batch_octets, snapshot_bound}
use Rattle.standby.specs.Takes.{Following, Gathering, following}

-- a follower: its core, the press that writes its journal, and the snapshot that it gathers, if it does
pub record FollowerState (G : Type 0) : Type 0 where
  pub core : CoreState
  pub press : PressState G
  pub gathering : Option Gathering

-- how far it has come
abbrev pub following_of : {G : Type 0} → FollowerState G → Following
following_of follower = following follower.core follower.gathering

-- each area of a journal takes the longest snapshot of the site, and the records of one commit beside it
abbrev pub HasRoomyAreas : Site → Layout → Type 0
HasRoomyAreas site layout = batch_octets + snapshot_bound site ≤ layout.half
