-- What is so of all records.
use Rattle.std.specs.Prelude.{◌≡◌, ◌↔◌, ℕ, ◌<◌, ◌≤◌, All, List, ◌++◌, length}
use Rattle.bac_values.specs.Limits.{snapshot_octets_limit}
use Rattle.bac_values.specs.Moments.{IsMoment}
use Rattle.alarm_core.specs.Allowed.{IsAllowed, IsHistory}
use Rattle.alarm_core.specs.Fits.{FitsEvent}
use Rattle.alarm_core.specs.State.{CoreState}
use Rattle.alarm_core.specs.declared.event.Event.{Event}
use Rattle.alarm_core.specs.SiteStates.{IsStateOf}
use Rattle.alarm_core.specs.Sites.{IsSite}
use Rattle.alarm_core.specs.declared.site.Site.{Site}
use Rattle.alarm_journal.specs.Journal.{Content}
use Rattle.alarm_journal.specs.Opened.{content_in}
use Rattle.alarm_journal.specs.declared.opened.Opened.{Opened}
use Rattle.state_codec.specs.Contents.{IsSnapshotAfter}
use Rattle.state_codec.specs.Damage.{ContentLeadsTo, IsDamagedAt, IsDamagedBehind}
use Rattle.state_codec.specs.Records.{HasRecord, SpellsEvent, written_event}
use Rattle.state_codec.specs.Sizes.{most_text, need, snapshot_bound}
use Rattle.state_codec.specs.Snapshots.{written_state}
use Rattle.state_codec.specs.Spelled.{FitsState, SpellsState}

-- no record begins another: whatever follows two of them, where the octets are the same, the records are, and so are their events
abbrev pub OneSpelling : Type 0
OneSpelling =
    (first second more others : List ℕ) (x y : Event) → SpellsEvent first x → SpellsEvent second y → first ++ more ≡ second ++ others → (first ≡ second) × (x ≡ y)

-- the octets of the longest record: that of an edit with as many recipients as there may be
abbrev pub longest_record : ℕ
longest_record = 1_006

abbrev pub RecordsAreShort : Type 0
RecordsAreShort = (event : Event) → HasRecord event → length (written_event event) ≤ longest_record

-- an event that may come next in some state, at a moment in range, has a record
abbrev pub HasRecordWhereAllowed : Event → Type 0
HasRecordWhereAllowed event = (state : CoreState) → IsMoment event.moment → IsAllowed state event.act → HasRecord event

-- the snapshot of a state that a site may have is at most as long as the site's bound, and not empty
pub record SnapshotsAreShort : Type 0 where
  pub most : (site : Site) (state : CoreState) → IsStateOf site state → FitsState state → length (written_state state) ≤ snapshot_bound site
  pub some : (state : CoreState) → 1 ≤ length (written_state state)

-- a site needs fewer than 36,000,000 octets for a snapshot, and fewer than 72,000,000 for its device
pub record BoundsAreLow : Type 0 where
  pub snapshot : (site : Site) → IsSite site → snapshot_bound site < snapshot_octets_limit
  pub device : (site : Site) (text : ℕ) → IsSite site → text ≤ most_text → need site text < 72_000_000

-- octets are the snapshot of one state of a site at most; and a state has one snapshot
pub record OneSnapshot : Type 0 where
  pub state : (site : Site) (octets : List ℕ) (x y : CoreState) → IsSite site → SpellsState site octets x → SpellsState site octets y → x ≡ y
  pub octets : (site : Site) (first second : List ℕ) (x : CoreState) → SpellsState site first x → SpellsState site second x → first ≡ second

-- A content leads to one state of its site at most; and where what was opened leads to one, it is damaged nowhere.
pub record LeadsOnce : Type 0 where
  pub state : (site : Site) (content : Content) (x y : CoreState) → IsSite site → ContentLeadsTo site content x → ContentLeadsTo site content y → x ≡ y
  pub never_both : (site : Site) (opened : Opened) (state : CoreState) (at : ℕ) → IsSite site → ContentLeadsTo site (content_in opened) state → IsDamagedAt site opened at → ⊥

-- Where the snapshot is that of the state after a history, or there is none and no event, a place is damaged exactly if it is so by some history.
abbrev pub DamageByHistories : Type 0
DamageByHistories =
    (site : Site) (opened : Opened) (older : List Event) (at : ℕ) → IsSite site → IsHistory site older → All FitsEvent older → IsSnapshotAfter site older opened.snapshot →
    IsDamagedAt site opened at ↔ ((history : List Event) × IsDamagedBehind site opened history at)
