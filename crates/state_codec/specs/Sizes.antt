-- How long the snapshot of a site may become, and how large its journal's device has to be.
use Rattle.std.specs.Prelude.{ℕ, ◌+◌, ◌*◌, Bool, if◌then◌else◌, length, is_some, count_by, sum_by}
use Rattle.bac_values.specs.Limits.{most_site_octets}
use Rattle.object_table.specs.declared.object_site.ObjectSite.{ObjectSite}
use Rattle.alarm_core.specs.Limits.{size_of}
use Rattle.alarm_core.specs.declared.site.Site.{Site}
use Rattle.state_codec.specs.Snapshots.{has_rule}

-- ---- how many octets there may be

-- the version, the number of events, the last moment, and the number of known peers
abbrev pub frame_octets : ℕ
frame_octets = 19

-- at most so many of a value object, an alarm object, a class with its recipients, a log without its records, all posts without their notes, and a note
abbrev pub object_octets : ℕ
object_octets = 320

abbrev pub alarm_octets : ℕ
alarm_octets = 128

abbrev pub class_octets : ℕ
class_octets = 993

abbrev pub log_octets : ℕ
log_octets = 9

abbrev pub post_octets : ℕ
post_octets = 229_376

abbrev pub note_octets : ℕ
note_octets = 1_027

-- of a record of a log; where there is a zone rule, it has its hundredths too
abbrev pub record_octets : Site → ℕ
record_octets site = if has_rule site then 1_042 else 1_034

-- ---- how many parts there are

abbrev pub has_alarm : ObjectSite → Bool
has_alarm site = is_some site.class

-- the objects with alarms: value objects with a notification class, and enrollments
abbrev pub alarm_objects : Site → ℕ
alarm_objects site = count_by has_alarm site.objects + length site.enrollments

-- how many records the logs hold together
abbrev pub log_records : Site → ℕ
log_records site = sum_by size_of site.logs

-- ---- together

abbrev pub snapshot_bound : Site → ℕ
snapshot_bound site =
    frame_octets
    + object_octets * length site.objects
    + alarm_octets * alarm_objects site
    + class_octets * length site.classes
    + log_octets * length site.logs
    + record_octets site * log_records site
    + post_octets
    + note_octets * site.device.outbox

-- what stands before the areas of a device beside the site's text
abbrev pub header_octets : ℕ
header_octets = 22

-- what an area is to take beside the longest snapshot
abbrev pub batch_octets : ℕ
batch_octets = 60_010

-- the longest text of a site
abbrev pub most_text : ℕ
most_text = most_site_octets

-- how many octets the device of a site has to have whose text has so many
abbrev pub need : Site → ℕ → ℕ
need site text = header_octets + text + 2 * (batch_octets + snapshot_bound site)
