-- The objects of a site that have event detection: value objects with a notification class, and event enrollments (ANSI/ASHRAE 135-2020, 12.12 and 13.2).
use Rattle.std.specs.Prelude.{ℕ, ◌==◌, Bool, replicate, false, Option, is_some, List, filter, find}
use Rattle.std.specs.Option.{option_and_then, option_map_or}
use Rattle.notify_class.specs.declared.class_site.ClassSite.{ClassSite}
use Rattle.enrollment.specs.declared.subject.Subject.{Subject}
use Rattle.enrollment.specs.Subjects.{is_detecting, subjects_of as subjects_in}
use Rattle.alarm_core.specs.declared.site.Site.{Site}

-- what event detection is set to for the value objects and the enrollments of a site at its start, by ascending identifier
abbrev pub subjects_of : Site → List Subject
subjects_of site = subjects_in site.objects site.enrollments

-- those that have alarms: value objects with a notification class, and enrollments
abbrev pub has_class : Subject → Bool
has_class subject = is_some subject.class

abbrev pub alarm_subjects : Site → List Subject
alarm_subjects site = filter has_class (subjects_of site)

abbrev pub detecting_subjects : Site → List Subject
detecting_subjects site = filter is_detecting (subjects_of site)

-- the notification class of a subject, as the site has it
abbrev pub site_class_of : Site → Option ℕ → Option ClassSite
site_class_of site class = option_and_then (λ instance. find (λ (listed : ClassSite). listed.class.instance == instance) site.classes) class

-- Ack_Required of it
abbrev pub ack_required_of : Site → Subject → List Bool
ack_required_of site subject = option_map_or (λ (listed : ClassSite). listed.class.ack_required) (site_class_of site subject.class) (replicate 3 false)
