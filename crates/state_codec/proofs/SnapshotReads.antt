-- Snapshots: each is read exactly as it is written, and those that a site may have.
use Rattle.std.proofs.Common.{◌≡◌, ℕ, ◌^◌, ◌<◌, ◌≤◌, ◌&&◌, Bool, true, false, cond, eqb, ltb, leb, Option, Some, None, List, [], ◌∷◌, ◌++◌, filter, length, refl, sym, ap, subst, ◌∙◌, append-nil, arith}
use Rattle.std.specs.Int.{w32, w64, to_be_bytes}
use Rattle.std.specs.List.{All, AllZip, flat_map}
use Rattle.std.specs.Option.{option_map_or}
use Rattle.std.proofs.lemmas.Bool.{eqb-true, leb-true, ltb-true, le-leb, lt-ltb, eq-eqb}
use Rattle.std.proofs.lemmas.Option.{cond_some}
use Rattle.std.proofs.lemmas.List.Elements.{All-nil, All-cons, All-head, All-tail}
use Rattle.bac_values.specs.Identifier.{ObjectIdData}
use Rattle.bac_values.specs.Moments.{IsMoment, first_moment, last_moment}
use Rattle.civil_stamp.specs.LocalTime.{ZoneData}
use Rattle.event_log.specs.Log.{EventLogState}
use Rattle.event_log.specs.declared.log_site.LogSite.{LogSite}
use Rattle.event_machine.specs.Summary.{AlarmState}
use Rattle.notify_class.specs.declared.class.Class.{Class}
use Rattle.notify_class.specs.declared.class_site.ClassSite.{ClassSite}
use Rattle.object_table.specs.Objects.{IsObject, IsRow}
use Rattle.object_table.specs.Rows.{is_object, row_of}
use Rattle.object_table.specs.declared.object_site.ObjectSite.{ObjectSite}
use Rattle.object_table.specs.declared.row.Row.{Row}
use Rattle.outbox.specs.Outboxes.{OutboxState}
use Rattle.enrollment.specs.Subjects.{subject_of_enrollment}
use Rattle.enrollment.specs.declared.enrollment_site.EnrollmentSite.{EnrollmentSite}
use Rattle.enrollment.specs.declared.subject.Subject.{Subject}
use Rattle.alarm_core.specs.Evaluations.{site_zone}
use Rattle.alarm_core.specs.Logs.{log_of}
use Rattle.alarm_core.specs.SiteStates.{alarm_values_in}
use Rattle.alarm_core.specs.Sites.{IsLogSite, IsSite}
use Rattle.alarm_core.specs.declared.site.Site.{Site}
use Rattle.state_codec.specs.Snapshots.{has_rule, version_of, written_alarm, written_class, written_entry, written_log, written_outbox, written_row}
use Rattle.state_codec.specs.Records.{written_flag}
use Rattle.alarm_core.specs.declared.parts.Parts.{Parts}
use Rattle.state_codec.specs.ReadingSteps.{◌>>=◌, number_at, octet_at}
use Rattle.state_codec.specs.SnapshotSteps.{AlarmsData, HeadData, RestData, SnapshotData, alarm_parts, alarm_parts_at, alarms_at, all_alarms_at, all_enrolled_at, and_at, are_posts_of, classes_at, each_at, enrolled_at, enrollment_at, events_at, head_at, held_at, is_before, is_behind, kept_with, last_moment_at, leave_room, listed_class_at, log_at, logs_at, may_be_last, object_subjects, outbox_at, outbox_with, parts_at, parts_in, parts_with, posts_at, rest_at, row_at, site_classes_at, site_outbox_at, snapshot_at, subject_at, values_in, version_at, whole_of}
use Rattle.state_codec.specs.SnapshotLaws.{ArePosts, HasClass, HasEnrollment, HasRow}
use Rattle.state_codec.proofs.Behind.{AreOctets, Reads, bind_some, both_true, some_is}
use Rattle.state_codec.proofs.FewValues.{few_values}
use Rattle.state_codec.proofs.PartLaws.{written_octet, IsOctet, IsBelow, IsAny, octet_reads, u64_reads}
use Rattle.state_codec.proofs.RestReads.{HasLog, class_reads, enrollment_reads, log_reads, posts_reads, written_posts, written_settings}
use Rattle.state_codec.proofs.RowsOf.{row_reads}
use Rattle.state_codec.proofs.SubjectReads.{HasSubject, subject_reads}
use Rattle.state_codec.proofs.Together.{reads_each, reads_made, reads_pair, reads_where}

-- ---- the version, the events and the last moment

version_fits : (rule : Bool) → cond rule 2 1 < 256
version_fits true = omega arith
version_fits false = omega arith

abbrev pub IsVersionOf : Site → ℕ → Type 0
IsVersionOf site version = version ≡ version_of site

version_reads : (site : Site) → Reads (version_at site) written_octet (IsVersionOf site)
unfolding version_at
version_reads site =
    reads_where octet_at (λ version. eqb version (version_of site)) written_octet IsOctet (IsVersionOf site) octet_reads
    (λ version fits e. eqb-true version (version_of site) e)
    (λ version is. (subst (λ (n : ℕ). n < 256) (sym is) (version_fits (has_rule site)), eq-eqb version (version_of site) is))

events_reads : Reads events_at (to_be_bytes w64) (IsBelow (2 ^ 63))
unfolding events_at
events_reads =
    reads_where (number_at w64) (λ events. ltb events (2 ^ 63)) (to_be_bytes w64) (IsBelow (2 ^ 64)) (IsBelow (2 ^ 63)) u64_reads
    (λ events fits e. ltb-true events (2 ^ 63) e)
    (λ events lt. (omega (arith, lt), lt-ltb events (2 ^ 63) lt))

abbrev pub IsLastOf : Site → ℕ → Type 0
IsLastOf site moment = IsMoment moment × (site.device.start ≤ moment)

both_are : (a b : Bool) → a ≡ true → b ≡ true → (a && b) ≡ true
both_are true b e f = f
both_are false b e f = absurd cc

last_forth : (site : Site) (moment : ℕ) → may_be_last site moment ≡ true → IsLastOf site moment
last_forth site moment e =
    let a = both_true (leb first_moment moment) (leb moment last_moment && leb site.device.start moment) e in
    let b = both_true (leb moment last_moment) (leb site.device.start moment) a.1 in
    ((leb-true _ _ a.0, leb-true _ _ b.0), leb-true _ _ b.1)

last_back : (site : Site) (moment : ℕ) → IsLastOf site moment → may_be_last site moment ≡ true
last_back site moment is =
    both_are (leb first_moment moment) (leb moment last_moment && leb site.device.start moment) (le-leb _ _ is.0.0)
    (both_are (leb moment last_moment) (leb site.device.start moment) (le-leb _ _ is.0.1) (le-leb _ _ is.1))

last_reads : (site : Site) → Reads (last_moment_at site) (to_be_bytes w64) (IsLastOf site)
unfolding last_moment_at
last_reads site =
    reads_where (number_at w64) (may_be_last site) (to_be_bytes w64) (IsBelow (2 ^ 64)) (IsLastOf site) u64_reads
    (λ moment fits e. last_forth site moment e)
    (λ moment is. (omega (arith, is.0.1), last_back site moment is))

abbrev pub written_head : HeadData → List ℕ
written_head x = written_octet x.0 ++ (to_be_bytes w64 x.1.0 ++ to_be_bytes w64 x.1.1)

abbrev pub IsHead : Site → HeadData → Type 0
IsHead site x = IsVersionOf site x.0 × ((x.1.0 < 2 ^ 63) × IsLastOf site x.1.1)

pub head_reads : (site : Site) → Reads (head_at site) written_head (IsHead site)
unfolding head_at
head_reads site =
    reads_pair (version_at site) _ written_octet (λ (x : ℕ × ℕ). to_be_bytes w64 x.0 ++ to_be_bytes w64 x.1) (IsVersionOf site) (λ version x. (x.0 < 2 ^ 63) × IsLastOf site x.1) (version_reads site) (λ version is.
    reads_pair events_at _ (to_be_bytes w64) (to_be_bytes w64) (IsBelow (2 ^ 63)) (λ events. IsLastOf site) events_reads (λ events lt. last_reads site))

-- ---- rows

pub rows_reads : (sites : List ObjectSite) → All IsObject sites → Reads (each_at row_at sites) (flat_map written_row) (AllZip HasRow sites)
rows_reads sites are = reads_each row_at written_row IsObject HasRow row_reads sites are

pub all_rows : (sites : List ObjectSite) (rows : List Row) → AllZip HasRow sites rows → All IsRow rows
all_rows [] [] are = All-nil IsRow
all_rows [] (row ∷ rows) are = absurd are
all_rows (site ∷ sites) [] are = absurd are
all_rows (site ∷ sites) (row ∷ rows) are = All-cons IsRow row rows are.0.written.takes (all_rows sites rows are.1)

few_or : (row : Row) (others : Option Row) (here : Bool) → alarm_values_in row ≤ 32 → option_map_or alarm_values_in others 0 ≤ 32 → option_map_or alarm_values_in (cond here (Some row) others) 0 ≤ 32
few_or row others true one rest = one
few_or row others false one rest = rest

few_one : (alarm : Bool) (count : ℕ) → count ≤ 32 → cond alarm 1 count ≤ 32
few_one true count few = omega arith
few_one false count few = few

pub few_in : (object : ObjectIdData) (rows : List Row) → All IsRow rows → values_in object rows ≤ 32
few_in object [] are = omega arith
few_in object (row ∷ rows) are =
    let first = All-head IsRow row rows are in
    few_or row (row_of object rows) (is_object object row.site.object) (few_one _ (length row.site.alarm_values) (few_values row.site first.site)) (few_in object rows (All-tail IsRow row rows are))

-- ---- alarms

all_any : {X : Type 0} (xs : List X) → All (IsAny {X = X}) xs
all_any [] = All-nil IsAny
all_any (x ∷ xs) = All-cons IsAny x xs tt (all_any xs)

abbrev pub HaveAlarms : List Row → ℕ → List Subject → List AlarmState → Type 0
HaveAlarms rows last = AllZip (HasSubject rows last)

pub alarms_reads : (rows : List Row) → All IsRow rows → (last : ℕ) (subjects : List Subject) → Reads (alarms_at rows last subjects) (flat_map written_alarm) (HaveAlarms rows last subjects)
alarms_reads rows are last subjects = reads_each (subject_at rows last) written_alarm IsAny (HasSubject rows last) (λ subject any. subject_reads rows last subject (few_in subject.object rows are)) subjects (all_any subjects)

abbrev pub written_enrolled : AlarmState × EnrollmentSite → List ℕ
written_enrolled x = written_alarm x.0 ++ written_settings x.1

abbrev pub HasEnrolled : List Row → ℕ → EnrollmentSite → AlarmState × EnrollmentSite → Type 0
HasEnrolled rows last site x = HasSubject rows last (subject_of_enrollment site) x.0 × HasEnrollment site x.1

enrolled_reads : (rows : List Row) → All IsRow rows → (last : ℕ) (site : EnrollmentSite) → Reads (enrolled_at rows last site) written_enrolled (HasEnrolled rows last site)
unfolding enrolled_at
enrolled_reads rows are last site =
    reads_pair (subject_at rows last (subject_of_enrollment site)) (λ alarm. enrollment_at site) written_alarm written_settings (HasSubject rows last (subject_of_enrollment site)) (λ alarm. HasEnrollment site)
    (subject_reads rows last (subject_of_enrollment site) (few_in site.object rows are)) (λ alarm has. enrollment_reads site)

pub all_enrolled_reads : (rows : List Row) → All IsRow rows → (last : ℕ) (sites : List EnrollmentSite) → Reads (all_enrolled_at rows last sites) (flat_map written_enrolled) (AllZip (HasEnrolled rows last) sites)
all_enrolled_reads rows are last sites = reads_each (enrolled_at rows last) written_enrolled IsAny (HasEnrolled rows last) (λ site any. enrolled_reads rows are last site) sites (all_any sites)

abbrev pub written_alarms : AlarmsData → List ℕ
written_alarms x = flat_map written_alarm x.0 ++ (flat_map written_enrolled x.1.0 ++ flat_map written_alarm x.1.1)

abbrev pub AreAlarms : Site → List Row → ℕ → AlarmsData → Type 0
AreAlarms site rows last x =
    HaveAlarms rows last (filter is_before (object_subjects site)) x.0
    × (AllZip (HasEnrolled rows last) site.enrollments x.1.0 × HaveAlarms rows last (filter is_behind (object_subjects site)) x.1.1)

pub all_alarms_reads : (site : Site) (rows : List Row) → All IsRow rows → (last : ℕ) → Reads (all_alarms_at site rows last) written_alarms (AreAlarms site rows last)
unfolding all_alarms_at
all_alarms_reads site rows are last =
    let before = filter is_before (object_subjects site) in
    let behind = filter is_behind (object_subjects site) in
    reads_pair (alarms_at rows last before) _ (flat_map written_alarm) (λ (x : List (AlarmState × EnrollmentSite) × List AlarmState). flat_map written_enrolled x.0 ++ flat_map written_alarm x.1) (HaveAlarms rows last before)
    (λ first x. AllZip (HasEnrolled rows last) site.enrollments x.0 × HaveAlarms rows last behind x.1) (alarms_reads rows are last before) (λ first has.
    reads_pair (all_enrolled_at rows last site.enrollments) _ (flat_map written_enrolled) (flat_map written_alarm) (AllZip (HasEnrolled rows last) site.enrollments) (λ enrolled. HaveAlarms rows last behind) (all_enrolled_reads rows are last site.enrollments) (λ enrolled has.
    alarms_reads rows are last behind))

-- ---- classes and logs

abbrev pub IsListed : ClassSite → Class → Type 0
IsListed listed = HasClass listed.class

pub classes_reads : (sites : List ClassSite) → Reads (classes_at sites) (flat_map written_class) (AllZip IsListed sites)
classes_reads sites = reads_each listed_class_at written_class IsAny IsListed (λ listed any. class_reads listed.class) sites (all_any sites)

-- classes of a site, with lists that leave room
abbrev pub AreListed : Site → List Class → Type 0
AreListed site classes = AllZip IsListed site.classes classes × (leave_room site classes ≡ true)

pub site_classes_reads : (site : Site) → Reads (site_classes_at site) (flat_map written_class) (AreListed site)
unfolding site_classes_at
site_classes_reads site =
    reads_where (classes_at site.classes) (leave_room site) (flat_map written_class) (AllZip IsListed site.classes) (AreListed site) (classes_reads site.classes) (λ classes are e. (are, e)) (λ classes are. are)

-- what a log holds, as it is written
abbrev pub written_held : Bool → EventLogState → List ℕ
written_held rule log = written_flag log.enabled ++ (to_be_bytes w32 log.total ++ (to_be_bytes w32 (length log.records) ++ flat_map (written_entry rule) log.records))

abbrev pub HasHeld : Bool → ZoneData → LogSite → EventLogState → Type 0
HasHeld rule zone listed log = HasLog rule zone listed (kept_with listed log)

held_reads : (rule : Bool) (zone : ZoneData) (listed : LogSite) → IsLogSite listed → Reads (held_at rule zone listed) (written_held rule) (HasHeld rule zone listed)
unfolding held_at
held_reads rule zone listed is =
    reads_made (log_at rule zone listed) log_of (kept_with listed) (written_log rule) (HasLog rule zone listed) (written_held rule) (HasHeld rule zone listed) (log_reads rule zone listed (omega (arith, is.most)))
    (λ kept has. (record { same = refl; size = has.size; stops = has.stops; total = has.total; few = has.few; records = has.records }, refl))
    (λ log has. (has, refl, refl))

pub logs_reads : (rule : Bool) (zone : ZoneData) (sites : List LogSite) → All IsLogSite sites → Reads (logs_at rule zone sites) (flat_map (written_held rule)) (AllZip (HasHeld rule zone) sites)
logs_reads rule zone sites are = reads_each (held_at rule zone) (written_held rule) IsLogSite (HasHeld rule zone) (held_reads rule zone) sites are

-- ---- the outbox

pub record HasOutbox (site : Site) (classes : List Class) (outbox : OutboxState) : Type 0 where
  pub posts : ArePosts outbox.posts
  pub tested : are_posts_of site classes outbox.posts ≡ true
  pub settings : outbox ≡ outbox_with site outbox.posts

pub outbox_reads : (site : Site) (classes : List Class) → Reads (site_outbox_at site classes) written_outbox (HasOutbox site classes)
unfolding site_outbox_at outbox_at
outbox_reads site classes =
    reads_made (outbox_at site classes) (outbox_with site) (λ outbox. outbox.posts) written_posts (λ posts. ArePosts posts × (are_posts_of site classes posts ≡ true)) written_outbox (HasOutbox site classes)
    (reads_where posts_at (are_posts_of site classes) written_posts ArePosts (λ posts. ArePosts posts × (are_posts_of site classes posts ≡ true)) posts_reads (λ posts are e. (are, e)) (λ posts has. has))
    (λ posts has. (record { posts = has.0; tested = has.1; settings = refl }, refl))
    (λ outbox has. ((has.posts, has.tested), sym has.settings, refl))

-- ---- all of it

abbrev pub written_rest : Bool → RestData → List ℕ
written_rest rule x = flat_map written_class x.0 ++ (flat_map (written_held rule) x.1.0 ++ written_outbox x.1.1)

abbrev pub IsRest : Site → RestData → Type 0
IsRest site x = AreListed site x.0 × (AllZip (HasHeld (has_rule site) (site_zone site)) site.logs x.1.0 × HasOutbox site x.0 x.1.1)

pub rest_reads : (site : Site) → IsSite site → Reads (rest_at site) (written_rest (has_rule site)) (IsRest site)
unfolding rest_at
rest_reads site is =
    let rule = has_rule site in
    let zone = site_zone site in
    reads_pair (site_classes_at site) _ (flat_map written_class) (λ (x : List EventLogState × OutboxState). flat_map (written_held rule) x.0 ++ written_outbox x.1) (AreListed site)
    (λ classes x. AllZip (HasHeld rule zone) site.logs x.0 × HasOutbox site classes x.1) (site_classes_reads site) (λ classes are.
    reads_pair (logs_at rule zone site.logs) _ (flat_map (written_held rule)) written_outbox (AllZip (HasHeld rule zone) site.logs) (λ logs. HasOutbox site classes) (logs_reads rule zone site.logs is.logs) (λ logs have.
    outbox_reads site classes))

-- what a snapshot tells, with the alarms as they stand there
abbrev pub WholeData : Type 0
WholeData = HeadData × (List Row × (AlarmsData × RestData))

abbrev pub whole_at : Site → List ℕ → Option (WholeData × List ℕ)
whole_at site = and_at (head_at site) λ head. and_at (each_at row_at site.objects) λ rows. and_at (all_alarms_at site rows head.1.1) λ alarms. rest_at site

abbrev pub written_whole : Bool → WholeData → List ℕ
written_whole rule x = written_head x.0 ++ (flat_map written_row x.1.0 ++ (written_alarms x.1.1.0 ++ written_rest rule x.1.1.1))

abbrev pub IsWhole : Site → WholeData → Type 0
IsWhole site x = IsHead site x.0 × (AllZip HasRow site.objects x.1.0 × (AreAlarms site x.1.0 x.0.1.1 x.1.1.0 × IsRest site x.1.1.1))

pub whole_reads : (site : Site) → IsSite site → Reads (whole_at site) (written_whole (has_rule site)) (IsWhole site)
whole_reads site is =
    let rule = has_rule site in
    reads_pair (head_at site) _ written_head (λ (x : List Row × (AlarmsData × RestData)). flat_map written_row x.0 ++ (written_alarms x.1.0 ++ written_rest rule x.1.1)) (IsHead site)
    (λ head x. AllZip HasRow site.objects x.0 × (AreAlarms site x.0 head.1.1 x.1.0 × IsRest site x.1.1)) (head_reads site) (λ head is_head.
    reads_pair (each_at row_at site.objects) _ (flat_map written_row) (λ (x : AlarmsData × RestData). written_alarms x.0 ++ written_rest rule x.1) (AllZip HasRow site.objects)
    (λ rows x. AreAlarms site rows head.1.1 x.0 × IsRest site x.1) (rows_reads site.objects is.objects) (λ rows have.
    reads_pair (all_alarms_at site rows head.1.1) (λ alarms. rest_at site) written_alarms (written_rest rule) (AreAlarms site rows head.1.1) (λ alarms. IsRest site) (all_alarms_reads site rows (all_rows site.objects rows have) head.1.1) (λ alarms are.
    rest_reads site is)))

-- ---- as parts

abbrev pub with_alarm_parts : WholeData → SnapshotData
with_alarm_parts x = (x.0, (x.1.0, (alarm_parts x.1.1.0, x.1.1.1)))

abbrev pub data_with : WholeData → Parts
data_with x = parts_with (with_alarm_parts x)

-- what is made of what is read
abbrev made_of : {A C : Type 0} → (A → C) → Option (A × List ℕ) → Option (C × List ℕ)
made_of make read = read >>= λ found. Some (make found.0, found.1)

abbrev pair_of : {A B : Type 0} → Option (A × List ℕ) → (A → List ℕ → Option (B × List ℕ)) → Option ((A × B) × List ℕ)
pair_of read next = read >>= λ found. next found.0 found.1 >>= λ second. Some ((found.0, second.0), second.1)

second_made : {A B C : Type 0} (make : B → C) (a : A) (read : Option (B × List ℕ))
    → (made_of make read >>= λ second. Some ((a, second.0), second.1)) ≡ made_of {C = A × C} (λ (x : A × B). (x.0, make x.1)) (read >>= λ second. Some ((a, second.0), second.1))
second_made make a None = refl
second_made make a (Some found) = refl

inside : {A B C : Type 0} (make : B → C) (read : Option (A × List ℕ)) (next : A → List ℕ → Option (B × List ℕ)) (other : A → List ℕ → Option (C × List ℕ))
    → ((a : A) (octets : List ℕ) → other a octets ≡ made_of make (next a octets)) → pair_of read other ≡ made_of {C = A × C} (λ (x : A × B). (x.0, make x.1)) (pair_of read next)
inside make None next other same = refl
inside {A = A} {C = C} make (Some found) next other same =
    ap (λ (o : Option (C × List ℕ)). o >>= λ second. Some ((found.0, second.0), second.1)) (same found.0 found.1) ∙ second_made make found.0 (next found.0 found.1)

front_of : {A B C : Type 0} (make : A → C) (a : A) (read : Option (B × List ℕ))
    → (read >>= λ second. Some ((make a, second.0), second.1)) ≡ made_of {C = C × B} (λ (x : A × B). (make x.0, x.1)) (read >>= λ second. Some ((a, second.0), second.1))
front_of make a None = refl
front_of make a (Some found) = refl

front : {A B C : Type 0} (make : A → C) (read : Option (A × List ℕ)) (next : List ℕ → Option (B × List ℕ))
    → pair_of (made_of make read) (λ c. next) ≡ made_of {C = C × B} (λ (x : A × B). (make x.0, x.1)) (pair_of read (λ a. next))
front make None next = refl
front make (Some found) next = front_of make found.0 (next found.1)

twice : {A B C : Type 0} (first : A → B) (second : B → C) (read : Option (A × List ℕ)) → made_of second (made_of first read) ≡ made_of (λ a. second (first a)) read
twice first second None = refl
twice first second (Some found) = refl

snapshot_same : (site : Site) (octets : List ℕ) → snapshot_at site octets ≡ made_of with_alarm_parts (whole_at site octets)
unfolding snapshot_at alarm_parts_at
snapshot_same site octets =
    inside (λ (x : List Row × (AlarmsData × RestData)). (x.0, (alarm_parts x.1.0, x.1.1))) (head_at site octets)
    (λ head. and_at (each_at row_at site.objects) λ rows. and_at (all_alarms_at site rows head.1.1) λ alarms. rest_at site)
    (λ head. and_at (each_at row_at site.objects) λ rows. and_at (alarm_parts_at site rows head.1.1) λ alarms. rest_at site) (λ head later.
    inside (λ (x : AlarmsData × RestData). (alarm_parts x.0, x.1)) (each_at row_at site.objects later)
    (λ rows. and_at (all_alarms_at site rows head.1.1) λ alarms. rest_at site)
    (λ rows. and_at (alarm_parts_at site rows head.1.1) λ alarms. rest_at site) (λ rows behind.
    front alarm_parts (all_alarms_at site rows head.1.1 behind) (rest_at site)))

-- the parts that octets tell are those of what stands there
pub parts_same : (site : Site) (octets : List ℕ) → parts_at site octets ≡ made_of data_with (whole_at site octets)
unfolding parts_at
parts_same site octets = ap (made_of parts_with) (snapshot_same site octets) ∙ twice with_alarm_parts parts_with (whole_at site octets)

-- where octets tell parts, they are those of what stands there, and nothing is behind it
pub record Tells (site : Site) (octets : List ℕ) (parts : Parts) : Type 0 where
  pub whole : WholeData
  pub is : IsWhole site whole
  pub parts_are : parts ≡ data_with whole
  pub octets_are : octets ≡ written_whole (has_rule site) whole

no_more : (octets rest : List ℕ) → eqb (length rest) 0 ≡ true → octets ++ rest ≡ octets
no_more octets [] e = append-nil octets
no_more octets (octet ∷ rest) e = absurd (omega (arith, eqb-true (length (octet ∷ rest)) 0 e))

pub tells : (site : Site) → IsSite site → (octets : List ℕ) → AreOctets octets → (parts : Parts) → parts_in site octets ≡ Some parts → Tells site octets parts
tells site is octets are parts e =
    let a = bind_some (parts_at site octets) whole_of parts e in
    let b = bind_some (whole_at site octets) (λ found. Some (data_with found.0, found.1)) a.0 (sym (parts_same site octets) ∙ a.1) in
    let t = (whole_reads site is).takes octets b.0.0 b.0.1 are b.1 in
    let same : (data_with b.0.0, b.0.1) ≡ a.0 = some_is (data_with b.0.0, b.0.1) a.0 b.2 in
    let g = cond_some (eqb (length a.0.1) 0) a.0.0 parts a.2 in
    let rest : a.0.1 ≡ b.0.1 = ap (λ (p : Parts × List ℕ). p.1) (sym same) in
    record {
      whole = b.0.0;
      is = t.1;
      parts_are = sym g.1 ∙ ap (λ (p : Parts × List ℕ). p.0) (sym same);
      octets_are = t.0.parts ∙ no_more (written_whole (has_rule site) b.0.0) b.0.1 (ap (λ (l : List ℕ). eqb (length l) 0) (sym rest) ∙ g.0);
    }

pub told : (site : Site) → IsSite site → (whole : WholeData) → IsWhole site whole → parts_in site (written_whole (has_rule site) whole) ≡ Some (data_with whole)
told site is whole has =
    let octets = written_whole (has_rule site) whole in
    let read : whole_at site octets ≡ Some (whole, []) = ap (whole_at site) (sym (append-nil octets)) ∙ (whole_reads site is).again whole [] has in
    ap (λ (o : Option (Parts × List ℕ)). o >>= whole_of) (parts_same site octets ∙ ap (made_of data_with) read)
