-- How snapshots are written: some parts together, as calls append them.
use Rattle.std.specs.Prelude.{◌⊎◌, ℕ, ℤ, ◌+◌, ◌*◌, ◌^◌, ◌<◌, if◌then◌else◌, FitsSigned, List, [], ◌∷◌, ◌++◌, length, slice_get}
use Rattle.std.specs.Int.{FitsUnsigned, w16, w32, w64, to_be_bytes}
use Rattle.std.specs.Option.{option_map_or}
use Rattle.bac_values.specs.declared.note.Note.{Note}
use Rattle.enrollment.specs.declared.subject.Subject.{Subject}
use Rattle.object_table.specs.declared.object_site.ObjectSite.{ObjectSite}
use Rattle.object_table.specs.declared.row.Row.{Row}
use Rattle.outbox.specs.declared.post.Post.{Post}
use Rattle.outbox.specs.Outboxes.{OutboxState}
use Rattle.outbox.specs.Posts.{MailboxState}
use Rattle.alarm_core.specs.State.{CoreState}
use Rattle.alarm_core.specs.Subjects.{has_class}
use Rattle.state_codec.specs.Records.{IsPeer, written_flag, written_flags, written_peer}
use Rattle.alarm_core.specs.declared.site.Site.{Site}
use Rattle.state_codec.specs.Sizes.{alarm_objects, alarm_octets, class_octets, log_octets, log_records, note_octets, object_octets, post_octets, record_octets}
use Rattle.state_codec.specs.Snapshots.{version_of, written_subject}

-- the version, how many events there were, and the moment of the last
abbrev pub written_head : CoreState → List ℕ
written_head state = version_of state.site ∷ (to_be_bytes w64 state.events ++ to_be_bytes w64 state.last_moment)

-- a limit fits 32 bits, with a sign or without
abbrev pub IsLimit : ℤ → Type 0
IsLimit limit = FitsSigned w32 limit ⊎ FitsUnsigned w32 limit

abbrev pub AreLimits : ObjectSite → Type 0
AreLimits site = IsLimit site.high × IsLimit site.low

-- the properties of a row between its value and Time_Delay_Normal
abbrev pub written_settings : Row → List ℕ
written_settings row =
    written_flag row.site.out_of_service
    ++ (written_flag row.site.inhibit
    ++ (written_flag row.site.reliability_inhibit
    ++ (row.field_fault ∷ (written_flags row.site.enable
    ++ to_be_bytes w32 row.site.time_delay))))

-- the alarm of an object, where it has a notification class
abbrev pub written_if_alarm : CoreState → Subject → List ℕ
written_if_alarm state subject = if has_class subject then written_subject state subject else []

-- the notes of the post at a place
abbrev pub notes_of_post : MailboxState → List Note
notes_of_post post = post.notes

abbrev pub notes_at : OutboxState → ℕ → List Note
notes_at outbox place = option_map_or notes_of_post (slice_get outbox.posts place) []

-- what is told of a delivery, and how many notes there are
abbrev pub written_delivery : Post → List ℕ
written_delivery post = post.next_invoke ∷ post.attempts ∷ (to_be_bytes w64 post.deadline ++ to_be_bytes w16 post.notes)

-- what is told of a post
abbrev pub written_told : Post → List ℕ
written_told post = written_peer post.peer ++ written_delivery post

-- ---- what types say

-- what the types say of what is told of a post
pub record FitsTold (post : Post) : Type 0 where
  pub peer : IsPeer post.peer
  pub invoke : post.next_invoke < 2 ^ 8
  pub attempts : post.attempts < 2 ^ 8
  pub deadline : post.deadline < 2 ^ 64

-- ---- the parts of a site's bound

abbrev pub objects_bound : Site → ℕ
objects_bound site = object_octets * length site.objects + alarm_octets * alarm_objects site + class_octets * length site.classes

abbrev pub logs_bound : Site → ℕ
logs_bound site = log_octets * length site.logs + record_octets site * log_records site

abbrev pub outbox_bound : Site → ℕ
outbox_bound site = post_octets + note_octets * site.device.outbox
