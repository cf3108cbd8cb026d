-- How long the parts of snapshots are, and so snapshots.
use Rattle.bac_values.specs.Limits.{most_note_octets}
use Rattle.std.proofs.Common.{◌≡◌, ℕ, suc, ◌+◌, ◌*◌, ◌≤◌, ◌<◌, Bool, true, false, cond, not, Option, Some, None, IfSome, is_some, List, [], ◌∷◌, ◌++◌, length, map, filter, find, count_by, get_or, take, sum_by, All, refl, sym, ap, ◌∙◌, subst, mul-add, mul-le-mul_right, arith}
use Rattle.std.specs.List.{flat_map, AllZip}
use Rattle.std.proofs.lemmas.List.{length-append}
use Rattle.std.proofs.lemmas.List.Concat.{flat_map-cons, length-flat_map}
use Rattle.std.proofs.lemmas.List.Elements.{All-cons, All-head, All-replicate, All-tail, filter-append}
use Rattle.std.proofs.lemmas.List.Filters.{length-filter_more}
use Rattle.std.proofs.lemmas.List.Sums.{count_by-le-length, length-filter, sum_by-cons, sum_by-le}
use Rattle.std.proofs.lemmas.Slice.Zip.{AllZip-long}
use Rattle.bac_values.specs.Identifier.{kind_of}
use Rattle.bac_values.specs.Reliabilities.{number_of_reliability}
use Rattle.bac_values.specs.declared.event_state.EventState.{EventState}
use Rattle.bac_values.specs.declared.note.Note.{Note}
use Rattle.bac_values.specs.declared.object_kind.ObjectKind.{ObjectKind}
use Rattle.bac_values.specs.declared.object_kind.ObjectKind.TheVariants.{BinaryValue, IntegerValue, PositiveIntegerValue}
use Rattle.event_log.specs.declared.log_record.LogRecord.{LogRecord}
use Rattle.event_log.specs.declared.log_site.LogSite.{LogSite}
use Rattle.algorithm_rules.specs.Rules.{rules_of}
use Rattle.event_machine.specs.Runs.{places}
use Rattle.event_machine.specs.Summary.{AlarmState, new_alarm, transitions}
use Rattle.event_machine.specs.declared.run.Run.{Run}
use Rattle.notify_class.specs.declared.class.Class.{Class}
use Rattle.notify_class.specs.declared.class_site.ClassSite.{ClassSite}
use Rattle.object_table.specs.Objects.{IsRow}
use Rattle.object_table.specs.Properties.{kind_in}
use Rattle.object_table.specs.Rows.{is_object}
use Rattle.object_table.specs.declared.object_site.ObjectSite.{ObjectSite}
use Rattle.object_table.specs.declared.row.Row.{Row}
use Rattle.outbox.specs.Outboxes.{unfinished_in}
use Rattle.outbox.specs.Posts.{IsPost, MailboxState}
use Rattle.enrollment.specs.declared.enrollment_site.EnrollmentSite.{EnrollmentSite}
use Rattle.enrollment.specs.declared.subject.Subject.{Subject}
use Rattle.enrollment.specs.Enrollments.{site_of}
use Rattle.enrollment.specs.Subjects.{is_before_enrollments, is_behind_enrollments, subject_of_enrollment, subject_of_object}
use Rattle.alarm_core.specs.Found.{alarm_in, alarm_or_new, detected_object_in}
use Rattle.alarm_core.specs.Limits.{size_of}
use Rattle.alarm_core.specs.Logs.{SiteLogState}
use Rattle.alarm_core.specs.SiteStates.{IsClassOf, IsDetectedOf, IsLastState, IsLogOf, IsRowOf, IsRunAt, IsStateOf}
use Rattle.alarm_core.specs.State.{CoreState, DetectedObjectState}
use Rattle.alarm_core.specs.Sites.{IsSite}
use Rattle.alarm_core.specs.Subjects.{alarm_subjects, detecting_subjects, has_class}
use Rattle.alarm_core.specs.declared.site.Site.{Site}
use Rattle.state_codec.specs.Records.{written_destination, written_peer, written_value}
use Rattle.state_codec.specs.Sizes.{alarm_objects, has_alarm, log_records, most_text, need, record_octets, snapshot_bound}
use Rattle.state_codec.specs.SnapshotLaws.{FitsRow, IsStamp}
use Rattle.state_codec.specs.Spelled.{FitsClass, FitsDetected, FitsEntry, FitsLog, FitsPost, FitsState}
use Rattle.state_codec.specs.Snapshots.{has_rule, written_alarm, written_cause, written_class, written_delay, written_enrollment, written_entry, written_keys, written_last, written_log, written_note, written_outbox, written_post, written_row, written_run, written_stamp, written_state, written_subject}
use Rattle.state_codec.proofs.AllowedLaws.{present_type, value_has}
use Rattle.state_codec.proofs.LengthLaws.{list_length, peer_length, value_length}

-- ---- lists

all_to : {X : Type 0} (P Q : X → Type 0) → ((x : X) → P x → Q x) → (xs : List X) → All P xs → All Q xs
all_to P Q f xs all = λ k d lt. f _ (all k d lt)

all_both : {X : Type 0} (P Q : X → Type 0) → (xs : List X) → All P xs → All Q xs → All (λ x. P x × Q x) xs
all_both P Q xs one other = λ k d lt. (one k d lt, other k d lt)

all_none : {X : Type 0} (P : X → Type 0) → All P []
all_none P = λ k d lt. let no : ⊥ = omega arith in absurd no

-- of two lists side by side, what holds of each of the second
seconds : {X Y : Type 0} (R : X → Y → Type 0) (Q : Y → Type 0) → ((x : X) (y : Y) → R x y → Q y) → (xs : List X) (ys : List Y) → AllZip R xs ys → All Q ys
seconds R Q f [] [] zipped = all_none Q
seconds R Q f [] (y ∷ ys) zipped = absurd zipped
seconds R Q f (x ∷ xs) [] zipped = absurd zipped
seconds R Q f (x ∷ xs) (y ∷ ys) zipped = All-cons Q y ys (f x y zipped.0) (seconds R Q f xs ys zipped.1)

found_by : {X : Type 0} (P : X → Type 0) (b : Bool) (x : X) (rest : Option X) → P x → IfSome rest P → IfSome (cond b (Some x) rest) P
found_by P true x rest h k = h
found_by P false x rest h k = k

found : {X : Type 0} (P : X → Type 0) (test : X → Bool) (xs : List X) → All P xs → IfSome (find test xs) P
found P test [] h = tt
found P test (x ∷ xs) h = found_by P (test x) x (find test xs) (All-head P x xs h) (found P test xs (All-tail P x xs h))

-- so many parts, none longer than another number
at_most : {X : Type 0} (f : X → List ℕ) (P : X → Type 0) (most : ℕ) → ((x : X) → P x → length (f x) ≤ most) → (xs : List X) → All P xs → length (flat_map f xs) ≤ length xs * most
at_most f P most each xs all =
    subst (λ n. n ≤ length xs * most) (sym (length-flat_map f xs)) (sum_by-le (λ x. length (f x)) most xs (all_to P (λ x. length (f x) ≤ most) each xs all))

behind : {X : Type 0} (f : X → List ℕ) (x : X) (xs : List X) → length (flat_map f (x ∷ xs)) ≡ length (f x) + length (flat_map f xs)
behind f x xs = ap (λ (t : List ℕ). length t) (flat_map-cons f x xs) ∙ length-append (f x) (flat_map f xs)

-- ---- value objects

delay_length : (delay : Option ℕ) → length (written_delay delay) ≡ 5
delay_length (Some seconds) = refl
delay_length None = refl

keys_length : (kind : Option ObjectKind) (site : ObjectSite) → length (written_keys kind site) ≤ 13
keys_length (Some IntegerValue) site = omega arith
keys_length (Some PositiveIntegerValue) site = omega arith
keys_length (Some BinaryValue) site = omega arith
keys_length _ site = omega arith

row_length : (row : Row) → IsRow row × FitsRow row → length (written_row row) ≤ 320
row_length row is =
    let site = row.site in
    let value : length (written_value site.value) ≤ 259 = value_length site.value (value_has site.value is.1.value (present_type (kind_in site) site site.value is.0.site.value)) in
    let delay : length (written_delay site.time_delay_normal) ≡ 5 = delay_length site.time_delay_normal in
    let keys : length (written_keys (kind_of site.object.number) site) ≤ 13 = keys_length (kind_of site.object.number) site in
    let last : length (written_delay site.time_delay_normal ++ written_keys (kind_of site.object.number) site) ≡ length (written_delay site.time_delay_normal) + length (written_keys (kind_of site.object.number) site) = length-append (written_delay site.time_delay_normal) (written_keys (kind_of site.object.number) site) in
    omega (arith, value, delay, keys, last, length-append (written_value site.value))

-- ---- alarms

-- what makes an alarm short: three of all
record IsPlain (alarm : AlarmState) : Type 0 where
  stamps : length alarm.stamps ≡ 3
  last_states : length alarm.last_states ≡ 3
  runs : length alarm.runs ≡ 3

last_length : (last : Option EventState) → Unit {0} → length (written_last last) ≤ 1
last_length (Some state) t = omega arith
last_length None t = omega arith

run_length : (run : Option Run) → Unit {0} → length (written_run run) ≤ 13
run_length (Some run) t = omega arith
run_length None t = omega arith

cause_length : (cause : Option ℕ) → length (written_cause cause) ≡ 4
cause_length (Some place) = refl
cause_length None = refl

alarm_length : (alarm : AlarmState) → IsPlain alarm → All IsStamp alarm.stamps → length (written_alarm alarm) ≤ 73
alarm_length alarm is stamped =
    let stamps : length (flat_map written_stamp alarm.stamps) ≤ length alarm.stamps * 8 = at_most written_stamp IsStamp 8 (λ x e. omega (arith, e)) alarm.stamps stamped in
    let lasts : length (flat_map written_last alarm.last_states) ≤ length alarm.last_states * 1 = at_most written_last (λ x. Unit {0}) 1 last_length alarm.last_states (λ k d lt. tt) in
    let runs : length (flat_map written_run alarm.runs) ≤ length alarm.runs * 13 = at_most written_run (λ x. Unit {0}) 13 run_length alarm.runs (λ k d lt. tt) in
    let cause : length (written_cause alarm.cause) ≡ 4 = cause_length alarm.cause in
    let end = number_of_reliability alarm.last_reliability ∷ flat_map written_run alarm.runs in
    let third : length (written_cause alarm.cause ++ end) ≡ length (written_cause alarm.cause) + length end = length-append (written_cause alarm.cause) end in
    let second : length (flat_map written_last alarm.last_states ++ (written_cause alarm.cause ++ end)) ≡ length (flat_map written_last alarm.last_states) + length (written_cause alarm.cause ++ end) = length-append (flat_map written_last alarm.last_states) (written_cause alarm.cause ++ end) in
    let first : length (flat_map written_stamp alarm.stamps ++ (flat_map written_last alarm.last_states ++ (written_cause alarm.cause ++ end))) ≡ length (flat_map written_stamp alarm.stamps) + length (flat_map written_last alarm.last_states ++ (written_cause alarm.cause ++ end)) = length-append (flat_map written_stamp alarm.stamps) (flat_map written_last alarm.last_states ++ (written_cause alarm.cause ++ end)) in
    omega (arith, stamps, lasts, runs, cause, third, second, first, is.stamps, is.last_states, is.runs)

enrollment_length : (site : Option EnrollmentSite) → length (written_enrollment site) ≤ 2
enrollment_length (Some site) = omega arith
enrollment_length None = omega arith

-- and stamps of eight octets each
abbrev IsShort : AlarmState → Type 0
IsShort alarm = IsPlain alarm × All IsStamp alarm.stamps

new_is_short : IsShort new_alarm
new_is_short = (record { stamps = refl; last_states = refl; runs = refl }, All-replicate IsStamp 3 _ refl)

alarm_of_is_short : (detected : Option DetectedObjectState) → IfSome detected (λ it. IsShort it.alarm) → IsShort (alarm_or_new detected)
alarm_of_is_short (Some detected) is = is
alarm_of_is_short None is = new_is_short

detected_is_plain : (site : Site) (state : CoreState) (subject : Subject) (detected : DetectedObjectState) → IsDetectedOf site state subject detected → IsPlain detected.alarm
detected_is_plain site state subject detected is = record {
  stamps = is.alarm.stamps;
  last_states = AllZip-long IsLastState transitions detected.alarm.last_states is.alarm.last_states;
  runs = AllZip-long (IsRunAt (rules_of subject.algorithm detected.alarm.state) state.last_moment) places detected.alarm.runs is.alarm.runs;
}

-- each alarm of a state that a site may have is plain
alarms_are_plain : (site : Site) (state : CoreState) → IsStateOf site state → All (λ (it : DetectedObjectState). IsPlain it.alarm) state.alarms
alarms_are_plain site state is =
    seconds (IsDetectedOf site state) (λ it. IsPlain it.alarm) (λ subject it e. detected_is_plain site state subject it e) (detecting_subjects site) state.alarms is.alarms

-- and short, where its parts fit their types
alarms_are_short : (site : Site) (state : CoreState) → IsStateOf site state → All FitsDetected state.alarms → All (λ (it : DetectedObjectState). IsShort it.alarm) state.alarms
alarms_are_short site state is fit = λ k d lt. (alarms_are_plain site state is k d lt, (fit k d lt).stamps)

subject_length : (state : CoreState) → All (λ (it : DetectedObjectState). IsShort it.alarm) state.alarms → (subject : Subject) → Unit {0} → length (written_subject state subject) ≤ 128
subject_length state short subject t =
    let alarm = alarm_in state subject.object in
    let rest = written_enrollment (site_of subject.object state.values.enrollments) in
    let is : IsShort alarm = alarm_of_is_short (detected_object_in subject.object state.alarms) (found (λ (it : DetectedObjectState). IsShort it.alarm) (λ detected. is_object subject.object detected.object) state.alarms short) in
    let one : length (written_alarm alarm) ≤ 73 = alarm_length alarm is.0 is.1 in
    let other : length rest ≤ 2 = enrollment_length (site_of subject.object state.values.enrollments) in
    let whole : length (written_alarm alarm ++ rest) ≡ length (written_alarm alarm) + length rest = length-append (written_alarm alarm) rest in
    omega (arith, one, other, whole)

-- ---- classes

class_length : (class : Class) → (length class.destinations ≤ 32) × FitsClass class → length (written_class class) ≤ 993
class_length class is =
    let all : length (flat_map written_destination class.destinations) ≡ 31 * length class.destinations = list_length class.destinations is.1 in
    omega (arith, all, is.0)

-- ---- logs

abbrev entry_octets : Bool → ℕ
entry_octets true = 1_042
entry_octets false = 1_034

entry_length : (rule : Bool) (entry : LogRecord) → (length entry.body ≤ most_note_octets) × FitsEntry rule entry → length (written_entry rule entry) ≤ entry_octets rule
entry_length true entry is = omega (arith, is.0, is.1.stamp, length-append entry.stamp.octets)
entry_length false entry is = omega (arith, is.0, is.1.stamp, length-append entry.stamp.octets)

log_length : (rule : Bool) (site : Site) (listed : LogSite) (kept : SiteLogState) → IsLogOf site listed kept → FitsLog rule kept → length (written_log rule kept) ≤ 9 + entry_octets rule * listed.size
log_length rule site listed kept is fits =
    let records = kept.log.records in
    let each : All (λ (entry : LogRecord). (length entry.body ≤ most_note_octets) × FitsEntry rule entry) records = λ k d lt. ((is.records k d lt).short, fits k d lt) in
    let all : length (flat_map (written_entry rule) records) ≤ length records * entry_octets rule = at_most (written_entry rule) (λ (entry : LogRecord). (length entry.body ≤ most_note_octets) × FitsEntry rule entry) (entry_octets rule) (entry_length rule) records each in
    let few : length records ≤ listed.size = subst (λ size. length records ≤ size) is.size is.log.short in
    let more : length records * entry_octets rule ≤ listed.size * entry_octets rule = mul-le-mul_right (entry_octets rule) few in
    omega (arith, all, more)

logs_length : (rule : Bool) (site : Site) (listed : List LogSite) (kept : List SiteLogState) → AllZip (IsLogOf site) listed kept → All (FitsLog rule) kept → length (flat_map (written_log rule) kept) ≤ 9 * length listed + entry_octets rule * sum_by size_of listed
logs_length rule site [] [] zipped fit = omega arith
logs_length rule site [] (it ∷ kept) zipped fit = absurd zipped
logs_length rule site (one ∷ listed) [] zipped fit = absurd zipped
logs_length rule site (one ∷ listed) (it ∷ kept) zipped fit =
    let first : length (written_log rule it) ≤ 9 + entry_octets rule * one.size = log_length rule site one it zipped.0 (All-head (FitsLog rule) it kept fit) in
    let rest : length (flat_map (written_log rule) kept) ≤ 9 * length listed + entry_octets rule * sum_by size_of listed = logs_length rule site listed kept zipped.1 (All-tail (FitsLog rule) it kept fit) in
    let whole : length (flat_map (written_log rule) (it ∷ kept)) ≡ length (written_log rule it) + length (flat_map (written_log rule) kept) = behind (written_log rule) it kept in
    let sizes : sum_by size_of (one ∷ listed) ≡ one.size + sum_by size_of listed = sum_by-cons size_of one listed in
    let product : entry_octets rule * sum_by size_of (one ∷ listed) ≡ entry_octets rule * one.size + entry_octets rule * sum_by size_of listed = ap (λ n. entry_octets rule * n) sizes ∙ mul-add (entry_octets rule) one.size (sum_by size_of listed) in
    omega (arith, first, rest, whole, product)

-- ---- the outbox

note_length : (note : Note) → length note.body ≤ most_note_octets → length (written_note note) ≤ 1_027
note_length note short = omega (arith, short)

post_length : (retries : ℕ) (post : MailboxState) → IsPost retries post × FitsPost post → length (written_post post) ≤ 28 + 1_027 * length post.notes
post_length retries post is =
    let notes : length (flat_map written_note post.notes) ≤ length post.notes * 1_027 = at_most written_note (λ (note : Note). length note.body ≤ most_note_octets) 1_027 note_length post.notes is.0.short in
    let peer : length (written_peer post.peer) ≡ 16 = peer_length post.peer is.1.peer in
    omega (arith, notes, peer, length-append (written_peer post.peer))

abbrev notes_in : MailboxState → ℕ
notes_in post = length post.notes

posts_length : (retries : ℕ) (posts : List MailboxState) → All (IsPost retries) posts → All FitsPost posts → length (flat_map written_post posts) ≤ 28 * length posts + 1_027 * sum_by notes_in posts
posts_length retries [] are have = omega arith
posts_length retries (post ∷ posts) are have =
    let first : length (written_post post) ≤ 28 + 1_027 * length post.notes = post_length retries post (All-head (IsPost retries) post posts are, All-head FitsPost post posts have) in
    let rest : length (flat_map written_post posts) ≤ 28 * length posts + 1_027 * sum_by notes_in posts = posts_length retries posts (All-tail (IsPost retries) post posts are) (All-tail FitsPost post posts have) in
    let whole : length (flat_map written_post (post ∷ posts)) ≡ length (written_post post) + length (flat_map written_post posts) = behind written_post post posts in
    let sizes : sum_by notes_in (post ∷ posts) ≡ length post.notes + sum_by notes_in posts = sum_by-cons notes_in post posts in
    omega (arith, first, rest, whole, sizes)

-- ---- how many alarms there are

pub count_more : (xs : List ObjectSite) (i : ℕ) (d : ObjectSite) → i < length xs → count_by has_alarm (take (i + 1) xs) ≡ count_by has_alarm (take i xs) + cond (is_some (get_or xs i d).class) 1 0
count_more xs i d lt =
    sym (length-filter has_alarm (take (i + 1) xs)) ∙ length-filter_more has_alarm xs i d lt ∙ ap (λ n. n + cond (is_some (get_or xs i d).class) 1 0) (length-filter has_alarm (take i xs))

shorter : {X : Type 0} (b : Bool) (x : X) (xs : List X) → length (cond b (x ∷ xs) xs) ≡ cond b 1 0 + length xs
shorter true x xs = omega arith
shorter false x xs = omega arith

with_class : (xs : List ObjectSite) → length (filter has_class (map subject_of_object xs)) ≡ length (filter has_alarm xs)
with_class [] = refl
with_class (x ∷ xs) =
    shorter (has_alarm x) (subject_of_object x) (filter has_class (map subject_of_object xs)) ∙ ap (λ n. cond (has_alarm x) 1 0 + n) (with_class xs) ∙ sym (shorter (has_alarm x) x (filter has_alarm xs))

all_have_class : (xs : List EnrollmentSite) → length (filter has_class (map subject_of_enrollment xs)) ≡ length xs
all_have_class [] = refl
all_have_class (x ∷ xs) = ap suc (all_have_class xs)

parted_by : {X : Type 0} (p : X → Bool) (x : X) (before behind whole : List X) (b : Bool) → length (filter p before) + length (filter p behind) ≡ length whole
    → length (filter p (cond b (x ∷ before) before)) + length (filter p (cond (not b) (x ∷ behind) behind)) ≡ length (cond (p x) (x ∷ whole) whole)
parted_by p x before behind whole true so_far =
    let one = shorter (p x) x (filter p before) in
    let all = shorter (p x) x whole in
    omega (arith, one, all, so_far)
parted_by p x before behind whole false so_far =
    let one = shorter (p x) x (filter p behind) in
    let all = shorter (p x) x whole in
    omega (arith, one, all, so_far)

parted : {X : Type 0} (p q : X → Bool) (xs : List X) → length (filter p (filter q xs)) + length (filter p (filter (λ x. not (q x)) xs)) ≡ length (filter p xs)
parted p q [] = refl
parted p q (x ∷ xs) = parted_by p x (filter q xs) (filter (λ x. not (q x)) xs) (filter p xs) (q x) (parted p q xs)

pub alarm_count : (site : Site) → length (alarm_subjects site) ≡ alarm_objects site
alarm_count site =
    let first = map subject_of_object (filter is_before_enrollments site.objects) in
    let middle = map subject_of_enrollment site.enrollments in
    let last = map subject_of_object (filter is_behind_enrollments site.objects) in
    let split : length (filter has_class (first ++ (middle ++ last))) ≡ length (filter has_class first) + (length (filter has_class middle) + length (filter has_class last)) =
    ap (λ (t : List Subject). length t) (filter-append has_class first (middle ++ last) ∙ ap (λ (t : List Subject). filter has_class first ++ t) (filter-append has_class middle last))
    ∙ length-append (filter has_class first) (filter has_class middle ++ filter has_class last)
    ∙ ap (λ n. length (filter has_class first) + n) (length-append (filter has_class middle) (filter has_class last)) in
    let one = with_class (filter is_before_enrollments site.objects) in
    let two = all_have_class site.enrollments in
    let three = with_class (filter is_behind_enrollments site.objects) in
    let together = parted has_alarm is_before_enrollments site.objects in
    let count = length-filter has_alarm site.objects in
    omega (arith, split, one, two, three, together, count)

-- ---- all of it

class_is_few : (listed : ClassSite) (class : Class) → IsClassOf listed class → length class.destinations ≤ 32
class_is_few listed class is = is.few

entry_octets_by : (rule : Bool) → entry_octets rule ≡ cond rule 1_042 1_034
entry_octets_by true = refl
entry_octets_by false = refl

entry_octets_are : (site : Site) → entry_octets (has_rule site) ≡ record_octets site
entry_octets_are site = entry_octets_by (has_rule site)

pub snapshot_length : (site : Site) (state : CoreState) → IsStateOf site state → FitsState state → length (written_state state) ≤ snapshot_bound site
snapshot_length site state is fits =
    let rule = has_rule state.site in
    let short = alarms_are_short site state is fits.alarms in
    let rows : length (flat_map written_row state.values.rows) ≤ length state.values.rows * 320 =
    at_most written_row (λ row. IsRow row × FitsRow row) 320 row_length state.values.rows (all_both IsRow FitsRow state.values.rows (seconds IsRowOf IsRow (λ described row e. e.takes) site.objects state.values.rows is.rows) fits.rows) in
    let row_count : length state.values.rows ≡ length site.objects = AllZip-long IsRowOf site.objects state.values.rows is.rows in
    let subjects : length (flat_map (written_subject state) (alarm_subjects state.site)) ≤ length (alarm_subjects state.site) * 128 =
    at_most (written_subject state) (λ subject. Unit {0}) 128 (subject_length state short) (alarm_subjects state.site) (λ k d lt. tt) in
    let subject_count : length (alarm_subjects state.site) ≡ alarm_objects site = ap (λ (s : Site). length (alarm_subjects s)) is.site_is ∙ alarm_count site in
    let classes : length (flat_map written_class state.classes) ≤ length state.classes * 993 =
    at_most written_class (λ (class : Class). (length class.destinations ≤ 32) × FitsClass class) 993 class_length state.classes
    (all_both (λ (class : Class). length class.destinations ≤ 32) FitsClass state.classes (seconds IsClassOf (λ (class : Class). length class.destinations ≤ 32) class_is_few site.classes state.classes is.classes) fits.classes) in
    let class_count : length state.classes ≡ length site.classes = AllZip-long IsClassOf site.classes state.classes is.classes in
    let logs : length (flat_map (written_log rule) state.logs) ≤ 9 * length site.logs + record_octets site * log_records site =
    subst (λ n. length (flat_map (written_log rule) state.logs) ≤ 9 * length site.logs + n * log_records site) (ap (λ (s : Site). entry_octets (has_rule s)) is.site_is ∙ entry_octets_are site) (logs_length rule site site.logs state.logs is.logs fits.logs) in
    let posts : length (flat_map written_post state.outbox.posts) ≤ 28 * length state.outbox.posts + 1_027 * unfinished_in state.outbox.posts = posts_length state.outbox.retries state.outbox.posts is.outbox.posts fits.posts in
    let room : unfinished_in state.outbox.posts ≤ site.device.outbox = subst (λ limit. unfinished_in state.outbox.posts ≤ limit) is.limit is.outbox.room in
    let a = flat_map written_row state.values.rows in
    let b = flat_map (written_subject state) (alarm_subjects state.site) in
    let c = flat_map written_class state.classes in
    let d = flat_map (written_log rule) state.logs in
    let e = written_outbox state.outbox in
    let da : length (a ++ (b ++ (c ++ (d ++ e)))) ≡ length a + length (b ++ (c ++ (d ++ e))) = length-append a (b ++ (c ++ (d ++ e))) in
    let db : length (b ++ (c ++ (d ++ e))) ≡ length b + length (c ++ (d ++ e)) = length-append b (c ++ (d ++ e)) in
    let dc : length (c ++ (d ++ e)) ≡ length c + length (d ++ e) = length-append c (d ++ e) in
    let dd : length (d ++ e) ≡ length d + length e = length-append d e in
    omega (arith, rows, row_count, subjects, subject_count, classes, class_count, logs, posts, room, da, db, dc, dd, is.peers)

pub snapshot_some : (state : CoreState) → 1 ≤ length (written_state state)
snapshot_some state = omega arith

-- ---- how low the bounds are

record_octets_by : (rule : Bool) → cond rule 1_042 1_034 ≤ 1_042
record_octets_by true = omega arith
record_octets_by false = omega arith

bound_least : (site : Site) → IsSite site → snapshot_bound site ≤ 35_299_747
bound_least site is =
    let alarms : count_by has_alarm site.objects ≤ length site.objects = count_by-le-length has_alarm site.objects in
    let records : record_octets site * log_records site ≤ 1_042 * log_records site = mul-le-mul_right (log_records site) (record_octets_by (has_rule site)) in
    let keeps = is.limits in
    omega (arith, alarms, records, keeps.objects, keeps.classes, keeps.logs, keeps.records, is.settings.fits)

pub bound_low : (site : Site) → IsSite site → snapshot_bound site < 36_000_000
bound_low site is = omega (arith, bound_least site is)

pub need_low : (site : Site) (text : ℕ) → IsSite site → text ≤ most_text → need site text < 72_000_000
need_low site text is short = omega (arith, bound_least site is, short)
