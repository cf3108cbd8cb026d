-- What is written of a core in one commit, and what a journal holds then.
use Rattle.std.specs.Prelude.{◌≡◌, ◌<◌, ◌≤◌, ℕ, ◌+◌, All, List, [], length}
use Rattle.alarm_core.specs.Allowed.{Represents}
use Rattle.alarm_core.specs.Fits.{FitsEvent}
use Rattle.alarm_core.specs.State.{CoreState}
use Rattle.alarm_core.specs.declared.event.Event.{Event}
use Rattle.alarm_journal.specs.Journal.{Content, only_snapshot, with_batch}
use Rattle.state_codec.specs.Contents.{StandsForHistory}
use Rattle.state_codec.specs.Snapshots.{written_state}
use Rattle.state_codec.specs.declared.work.Work.{Work}
use Rattle.state_codec.specs.declared.work.Work.TheVariants.{Nothing, Batch, Snapshot}

-- octets are the snapshot of a state: of each history that it represents, a journal that has them alone stands for it
pub record IsSnapshotOf (state : CoreState) (octets : List ℕ) : Type 0 where
  pub octets_are : octets ≡ written_state state
  pub stands : (history : List Event) → Represents state history → All FitsEvent history → StandsForHistory state.site (only_snapshot octets) history

-- the work of a state with these records: nothing where there are none, else the records where there is room for them, or the state in their place
abbrev pub IsWorkOf : CoreState → List ℕ → ℕ → Work → Type 0
IsWorkOf state records room Nothing = records ≡ []
IsWorkOf state records room (Batch job) = job ≡ records
IsWorkOf state records room (Snapshot job) = IsSnapshotOf state job × (room < length records)

-- the work is of its sort, and fits a press whose area has so many octets
abbrev pub FitsPress : ℕ → ℕ → Work → Type 0
FitsPress room half Nothing = Unit {0}
FitsPress room half (Batch job) = (0 < length job) × (length job ≤ room)
FitsPress room half (Snapshot job) = (0 < length job) × (length job + 5 ≤ half)

-- what a journal holds once the work is written
abbrev pub content_with : Work → Content → Content
content_with Nothing content = content
content_with (Batch job) content = with_batch content job
content_with (Snapshot job) content = only_snapshot job
