-- The notifications of a tick are within the room that a site's classes leave in its outbox.
use Rattle.std.proofs.Common.{◌≡◌, ℕ, ◌+◌, ◌*◌, ◌≤◌, ◌==◌, if◌then◌else◌, List, ◌++◌, length, map, refl, arith}
use Rattle.std.proofs.Math.Nat.{mul-le-mul_right}
use Rattle.std.specs.List.{count_by, filter, sum_by}
use Rattle.std.proofs.lemmas.List.Folds.{fold-map}
use Rattle.std.proofs.lemmas.List.Sums.{sum_by-append, sum_by-le-sum_by}
use Rattle.std.proofs.lemmas.List.Filters.{sum_by-filter_both}
use Rattle.notify_class.specs.declared.class.Class.{Class}
use Rattle.object_table.specs.declared.object_site.ObjectSite.{ObjectSite}
use Rattle.enrollment.specs.declared.enrollment_site.EnrollmentSite.{EnrollmentSite}
use Rattle.enrollment.specs.declared.subject.Subject.{Subject}
use Rattle.enrollment.specs.Subjects.{is_before_enrollments, is_behind_enrollments, subject_of_enrollment, subject_of_object}
use Rattle.alarm_core.specs.declared.event.Event.{Event}
use Rattle.alarm_core.specs.declared.site.Site.{Site}
use Rattle.alarm_core.specs.Allowed.{IsHistory}
use Rattle.alarm_core.specs.Classes.{classes_after, is_member}
use Rattle.alarm_core.specs.CoreSteps.{next_notes}
use Rattle.alarm_core.specs.History.{tick_at}
use Rattle.alarm_core.specs.Room.{members_at, share_at}
use Rattle.alarm_core.specs.Sites.{IsSite}
use Rattle.alarm_core.specs.State.{state_of}
use Rattle.alarm_core.specs.Subjects.{subjects_of}
use Rattle.alarm_core.proofs.FewTold.{tick_told}
use Rattle.alarm_core.proofs.KeptClasses.{lists_kept}
use Rattle.alarm_core.proofs.Shares.{by_class, members_in}

-- ---- the members of a class are subjects

module _ (number : ℕ) where
  object_members : (objects : List ObjectSite) → members_in (map subject_of_object objects) number ≡ count_by (λ (object : ObjectSite). is_member object.class number) objects
  object_members objects = fold-map (λ n (subject : Subject). n + (if is_member subject.class number then 1 else 0)) subject_of_object 0 objects

  site_members : (sites : List EnrollmentSite) → members_in (map subject_of_enrollment sites) number ≡ count_by (λ (enrollment : EnrollmentSite). enrollment.class == number) sites
  site_members sites = fold-map (λ n (subject : Subject). n + (if is_member subject.class number then 1 else 0)) subject_of_enrollment 0 sites

  pub subject_members : (site : Site) → members_in (subjects_of site) number ≡ members_at site number
  subject_members site =
      let one : Subject → ℕ = λ subject. if is_member subject.class number then 1 else 0 in
      let before = map subject_of_object (filter is_before_enrollments site.objects) in
      let between = map subject_of_enrollment site.enrollments in
      let behind = map subject_of_object (filter is_behind_enrollments site.objects) in
      let parted : count_by (λ (object : ObjectSite). is_member object.class number) (filter is_before_enrollments site.objects) + count_by (λ (object : ObjectSite). is_member object.class number) (filter is_behind_enrollments site.objects)
      ≡ count_by (λ (object : ObjectSite). is_member object.class number) site.objects =
      sum_by-filter_both is_before_enrollments is_behind_enrollments (λ object. refl) (λ (object : ObjectSite). if is_member object.class number then 1 else 0) site.objects in
      let whole : members_in (before ++ (between ++ behind)) number ≡ members_in before number + members_in (between ++ behind) number = sum_by-append one before (between ++ behind) in
      let later : members_in (between ++ behind) number ≡ members_in between number + members_in behind number = sum_by-append one between behind in
      omega (arith, whole, later, parted, object_members (filter is_before_enrollments site.objects), object_members (filter is_behind_enrollments site.objects), site_members site.enrollments)

-- ---- a tick

module _ (site : Site) (is : IsSite site) where
  members_share : (class : Class) → members_in (subjects_of site) class.instance * length class.destinations ≤ share_at site class
  members_share class =
      mul-le-mul_right (length class.destinations) (let same : members_in (subjects_of site) class.instance ≡ members_at site class.instance = subject_members class.instance site in omega (arith, same))

  pub tick_fits : (history : List Event) → IsHistory site history → (moment : ℕ) → length (next_notes (tick_at moment) (state_of site history)) ≤ site.device.outbox
  tick_fits history h moment =
      let classes = classes_after site history in
      let share : Class → ℕ = λ class. members_in (subjects_of site) class.instance * length class.destinations in
      let keep = lists_kept site is history h in
      omega (arith, tick_told site is history moment, by_class classes (subjects_of site), sum_by-le-sum_by share (share_at site) classes members_share, keep.room)
