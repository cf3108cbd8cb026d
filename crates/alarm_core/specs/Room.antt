-- That the notifications of one transition of every object fit an empty outbox.
use Rattle.std.specs.Prelude.{ℕ, ◌+◌, ◌*◌, ◌==◌, ◌≤◌, List, length, count_by, sum_by}
use Rattle.notify_class.specs.declared.class.Class.{Class}
use Rattle.object_table.specs.declared.object_site.ObjectSite.{ObjectSite}
use Rattle.enrollment.specs.declared.enrollment_site.EnrollmentSite.{EnrollmentSite}
use Rattle.alarm_core.specs.declared.site.Site.{Site}
use Rattle.alarm_core.specs.Classes.{is_member}

-- how many objects of a site have a class, which no event changes
abbrev pub members_at : Site → ℕ → ℕ
members_at site number =
    count_by (λ (object : ObjectSite). is_member object.class number) site.objects + count_by (λ (enrollment : EnrollmentSite). enrollment.class == number) site.enrollments

abbrev pub members_of_class : Site → Class → ℕ
members_of_class site class = members_at site class.instance

-- how many notifications one transition of each of its objects gives at most
abbrev pub share_at : Site → Class → ℕ
share_at site class = members_of_class site class * length class.destinations

-- all of them together are no more than may wait
abbrev pub LeaveRoom : Site → List Class → Type 0
LeaveRoom site classes = sum_by (share_at site) classes ≤ site.device.outbox
