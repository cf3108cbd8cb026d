-- The snapshot of a state that the site may have tells the parts of that state.
use Rattle.bac_values.specs.Limits.{most_note_octets}
use Rattle.std.proofs.Common.{IsTrue, IsNone, ◌≡◌, ◌&&◌, ◌||◌, ℕ, zero, suc, ◌-◌, ◌^◌, ◌<◌, ◌≤◌, leb, ltb, eqb, Bool, true, false, true≢false, cond, Option, Some, None, is_some, List, [], ◌∷◌, ◌++◌, filter, length, map, refl, sym, ap, subst, ◌∙◌, arith}
use Rattle.std.specs.List.{All, AllZip, zip}
use Rattle.std.proofs.lemmas.Bool.{le-leb, lt-ltb}
use Rattle.std.proofs.lemmas.List.{length-map}
use Rattle.std.proofs.lemmas.List.Elements.{All-nil, All-cons, All-head, All-tail}
use Rattle.std.proofs.lemmas.List.Sums.{sum_by-cons}
use Rattle.std.proofs.lemmas.Slice.Zip.{AllZip-long}
use Rattle.bac_values.specs.Address.{PeerData}
use Rattle.bac_values.specs.declared.note.Note.{Note}
use Rattle.bac_values.specs.declared.stamp.Stamp.{Stamp}
use Rattle.civil_stamp.specs.LocalTime.{ZoneData}
use Rattle.event_log.specs.Log.{AreNumbered, number_back}
use Rattle.event_log.specs.declared.log_record.LogRecord.{LogRecord}
use Rattle.event_log.specs.declared.log_site.LogSite.{LogSite}
use Rattle.event_machine.specs.Summary.{AlarmState}
use Rattle.outbox.specs.Outboxes.{IsOutbox, peers_of, unfinished_in}
use Rattle.outbox.specs.Posts.{IsPost, MailboxState, TestsPosts}
use Rattle.enrollment.specs.Subjects.{is_detecting, subject_of_enrollment}
use Rattle.enrollment.specs.declared.enrollment_site.EnrollmentSite.{EnrollmentSite}
use Rattle.enrollment.specs.References.{enrollments_in}
use Rattle.enrollment.specs.declared.subject.Subject.{Subject}
use Rattle.alarm_core.specs.Evaluations.{site_zone}
use Rattle.alarm_core.specs.Found.{alarm_in}
use Rattle.alarm_core.specs.Logs.{SiteLogState, log_of}
use Rattle.alarm_core.specs.Parts.{ArePartsOf, MayHave, RestoresWhatItTells, detected_with, parts_of, state_of_parts}
use Rattle.alarm_core.specs.SiteStates.{IsClassOf, IsDetectedOf, IsEnrollmentOf, IsLogOf, IsRecordOf, IsRowOf, IsStateOf, hundredths_shown}
use Rattle.alarm_core.specs.Sites.{IsSite}
use Rattle.alarm_core.specs.State.{CoreState, DetectedObjectState}
use Rattle.alarm_core.specs.Subjects.{alarm_subjects, subjects_of}
use Rattle.alarm_core.specs.declared.parts.Parts.{Parts}
use Rattle.alarm_core.specs.declared.site.Site.{Site}
use Rattle.state_codec.specs.Snapshots.{has_rule, version_of, written_state}
use Rattle.state_codec.specs.SnapshotLaws.{AreHundredths, FitsRow, HasEntry, HasNote, HasPost, HasRow}
use Rattle.state_codec.specs.SnapshotSteps.{is_before, is_behind, knows_classes, may_have_posts, may_hold, numbers_up_to, object_subjects, outbox_with, parts_in, values_in}
use Rattle.state_codec.specs.Spelled.{FitsClass, FitsDetected, FitsEntry, FitsLog, FitsPost, FitsState}
use Rattle.state_codec.proofs.Beside.{beside_apart, beside_with}
use Rattle.state_codec.proofs.Pairs.{firsts, seconds}
use Rattle.state_codec.proofs.PostsOf.{told_classes, told_posts}
use Rattle.state_codec.proofs.SnapshotReads.{AreAlarms, HasEnrolled, HasHeld, HasOutbox, IsListed, IsWhole, WholeData, data_with, told, written_whole}
use Rattle.state_codec.proofs.SnapshotStates.{all_is_written}
use Rattle.state_codec.proofs.SubjectReads.{HasSubject, MayHaveAlarm}
use Rattle.state_codec.proofs.SubjectsOf.{in_three, subjects_split}
use Rattle.state_codec.proofs.ToldAlarms.{detecting_among, told as told_of}

both_are : (a b : Bool) → a ≡ true → b ≡ true → (a && b) ≡ true
both_are true b e f = f
both_are false b e f = absurd (true≢false (sym e))

second_is : (a b : Bool) → b ≡ true → (a || b) ≡ true
second_is true b e = refl
second_is false b e = e

-- ---- logs

hundredths_of : (rule : Option (List ℕ)) (zone : ZoneData) (stamp : Stamp) (hundredths : ℕ) → (IsTrue (is_some rule) → hundredths < 2 ^ 64) → (IsNone rule → hundredths ≡ hundredths_shown zone stamp) → AreHundredths (is_some rule) zone stamp hundredths
hundredths_of None zone stamp hundredths fits shown = shown refl
hundredths_of (Some text) zone stamp hundredths fits shown = fits refl

module _ (site : Site) where
  entries_from : (total : ℕ) (entries : List LogRecord) → AreNumbered total entries → All (IsRecordOf site) entries → All (FitsEntry (has_rule site)) entries → AllZip (HasEntry (has_rule site) (site_zone site)) (numbers_up_to total (length entries)) entries
  entries_from total [] numbered are fit = tt
  entries_from total (entry ∷ others) numbered are fit =
      let is = All-head (IsRecordOf site) entry others are in
      let fits = All-head (FitsEntry (has_rule site)) entry others fit in
      let back : suc (length others) - 1 - 0 ≡ length others = omega arith in (
        record {
          stamp = fits.stamp;
          hundredths = hundredths_of site.device.zone_rule (site_zone site) entry.stamp entry.hundredths fits.hundredths is.shown;
          number = numbered 0 entry refl ∙ ap (λ (n : ℕ). number_back total n) back;
          short = is.short;
        },
        entries_from total others (λ place found e. numbered (suc place) found e ∙ ap (λ (n : ℕ). number_back total n) (further (length others) place)) (All-tail (IsRecordOf site) entry others are) (All-tail (FitsEntry (has_rule site)) entry others fit),
      )
    where
      further : (long place : ℕ) → suc long - 1 - suc place ≡ long - 1 - place
      further long place = omega arith

  held_of : (count total size : ℕ) → count ≤ size → (0 < count → 0 < total) → may_hold size total count ≡ true
  held_of zero total size few begun = both_are (leb 0 size) (eqb 0 0 || ltb 0 total) (le-leb 0 size few) refl
  held_of (suc count) total size few begun =
      both_are (leb (suc count) size) (eqb (suc count) 0 || ltb 0 total) (le-leb (suc count) size few) (second_is (eqb (suc count) 0) (ltb 0 total) (lt-ltb 0 total (begun (omega arith))))

  log_held : (listed : LogSite) (kept : SiteLogState) → IsLogOf site listed kept → FitsLog (has_rule site) kept → HasHeld (has_rule site) (site_zone site) listed (log_of kept)
  log_held listed kept is fits = record {
    same = refl;
    size = is.size;
    stops = is.stops;
    total = is.log.total;
    few = held_of (length kept.log.records) kept.log.total listed.size (subst (λ (n : ℕ). length kept.log.records ≤ n) is.size is.log.short) is.log.begun;
    records = entries_from kept.log.total kept.log.records is.log.numbered is.records fits;
  }

  logs_held : (listed : List LogSite) (logs : List SiteLogState) → AllZip (IsLogOf site) listed logs → All (FitsLog (has_rule site)) logs → AllZip (HasHeld (has_rule site) (site_zone site)) listed (map log_of logs)
  logs_held [] [] are fit = tt
  logs_held [] (kept ∷ logs) are fit = absurd are
  logs_held (it ∷ listed) [] are fit = absurd are
  logs_held (it ∷ listed) (kept ∷ logs) are fit = (log_held it kept are.0 (All-head (FitsLog (has_rule site)) kept logs fit), logs_held listed logs are.1 (All-tail (FitsLog (has_rule site)) kept logs fit))

-- ---- posts

abbrev HasFew : ℕ → MailboxState → Type 0
HasFew most post = length post.notes ≤ most

few_each : (most : ℕ) (posts : List MailboxState) → unfinished_in posts ≤ most → All (HasFew most) posts
few_each most [] le = All-nil (HasFew most)
few_each most (post ∷ posts) le =
    let sum = sum_by-cons (λ (p : MailboxState). length p.notes) post posts in
    All-cons (HasFew most) post posts (omega (arith, sum, le)) (few_each most posts (omega (arith, sum, le)))

notes_all : (peer : PeerData) (notes : List Note) → All (λ (note : Note). length note.body ≤ most_note_octets) notes → All (λ (note : Note). note.peer ≡ peer) notes → All (HasNote peer) notes
notes_all peer [] short own = All-nil (HasNote peer)
notes_all peer (note ∷ notes) short own =
    All-cons (HasNote peer) note notes (All-head (λ (n : Note). n.peer ≡ peer) note notes own, All-head (λ (n : Note). length n.body ≤ most_note_octets) note notes short)
    (notes_all peer notes (All-tail (λ (n : Note). length n.body ≤ most_note_octets) note notes short) (All-tail (λ (n : Note). n.peer ≡ peer) note notes own))

posts_all : (retries : ℕ) (posts : List MailboxState) → All (IsPost retries) posts → All FitsPost posts → All (HasFew 16_384) posts → All HasPost posts
posts_all retries [] are fit few = All-nil HasPost
posts_all retries (post ∷ posts) are fit few =
    let is = All-head (IsPost retries) post posts are in
    let fits = All-head FitsPost post posts fit in
    let one : length post.notes ≤ 16_384 = All-head (HasFew 16_384) post posts few in
    All-cons HasPost post posts (record { to = fits.peer; invoke = fits.invoke; tries = fits.attempts; until = fits.deadline; few = omega (arith, one); own = notes_all post.peer post.notes is.short is.own })
    (posts_all retries posts (All-tail (IsPost retries) post posts are) (All-tail FitsPost post posts fit) (All-tail (HasFew 16_384) post posts few))

-- ---- alarms

module _ (state : CoreState) where
  abbrev its_alarm : Subject → AlarmState
  its_alarm subject = alarm_in state subject.object

  one_has : (subject : Subject) (alarm : AlarmState) (subjects : List Subject) (rest : List DetectedObjectState) (there : Bool) → is_detecting subject ≡ there → MayHave subject alarm
      → AllZip (IsDetectedOf state.site state) (cond there (subject ∷ subjects) subjects) (cond there (detected_with state.site subject alarm ∷ []) [] ++ rest) → All FitsDetected (cond there (detected_with state.site subject alarm ∷ []) [] ++ rest)
      → MayHaveAlarm there subject.algorithm (values_in subject.object state.values.rows) state.last_moment alarm × (AllZip (IsDetectedOf state.site state) subjects rest × All FitsDetected rest)
  one_has subject alarm subjects rest true is may are fit =
      (record { own = are.0.alarm; fits = All-head FitsDetected (detected_with state.site subject alarm) rest fit }, (are.1, All-tail FitsDetected (detected_with state.site subject alarm) rest fit))
  one_has subject alarm subjects rest false is may are fit = (may is, (are, fit))

  all_have : (subjects : List Subject) (alarms : List AlarmState) → AllZip MayHave subjects alarms → AllZip (IsDetectedOf state.site state) (filter is_detecting subjects) (told_of state.site subjects alarms) → All FitsDetected (told_of state.site subjects alarms)
      → AllZip (HasSubject state.values.rows state.last_moment) subjects alarms
  all_have [] [] may are fit = tt
  all_have [] (a ∷ alarms) may are fit = absurd may
  all_have (s ∷ subjects) [] may are fit = absurd may
  all_have (s ∷ subjects) (a ∷ alarms) may are fit =
      let t = one_has s a (filter is_detecting subjects) (told_of state.site subjects alarms) (is_detecting s) refl may.0 are fit in
      (t.0, all_have subjects alarms may.1 t.1.0 t.1.1)

  enrolled_all : (sites : List EnrollmentSite) (alarms : List AlarmState) (others : List EnrollmentSite) → AllZip (HasSubject state.values.rows state.last_moment) (map subject_of_enrollment sites) alarms → AllZip IsEnrollmentOf sites others
      → AllZip (HasEnrolled state.values.rows state.last_moment) sites (zip alarms others)
  enrolled_all [] [] [] have are = tt
  enrolled_all [] [] (e ∷ others) have are = absurd are
  enrolled_all [] (a ∷ alarms) others have are = absurd have
  enrolled_all (e ∷ sites) [] others have are = absurd have
  enrolled_all (e ∷ sites) (a ∷ alarms) [] have are = absurd are
  enrolled_all (e ∷ sites) (a ∷ alarms) (o ∷ others) have are = ((have.0, record { own = are.0 }), enrolled_all sites alarms others have.1 are.1)

  map_append : (f : Subject → AlarmState) (xs ys : List Subject) → map f (xs ++ ys) ≡ map f xs ++ map f ys
  map_append f [] ys = refl
  map_append f (x ∷ xs) ys = ap (λ (rest : List AlarmState). f x ∷ rest) (map_append f xs ys)

  abbrev before_it : List Subject
  before_it = filter is_before (object_subjects state.site)

  abbrev behind_it : List Subject
  behind_it = filter is_behind (object_subjects state.site)

  abbrev middle_of_it : List Subject
  middle_of_it = map subject_of_enrollment state.site.enrollments

  abbrev whole_of_it : WholeData
  whole_of_it = (
    (version_of state.site, (state.events, state.last_moment)),
    (
      state.values.rows,
      (
        (map its_alarm before_it, (zip (map its_alarm middle_of_it) state.values.enrollments, map its_alarm behind_it)),
        (state.classes, (map log_of state.logs, state.outbox)),
      ),
    ),
  )

  module _ (site : IsSite state.site) (tests : TestsPosts) (law : RestoresWhatItTells) (own : IsStateOf state.site state) (fits : FitsState state) where
    parts_are : ArePartsOf state.site (parts_of state)
    parts_are = law.parts state.site state site own

    state_is : state_of_parts state.site (parts_of state) ≡ state
    state_is = law.state state.site state site own

    alarms_are : told_of state.site (alarm_subjects state.site) (map its_alarm (alarm_subjects state.site)) ≡ state.alarms
    alarms_are = ap (λ (s : CoreState). s.alarms) state_is

    have : AllZip (HasSubject state.values.rows state.last_moment) (alarm_subjects state.site) (map its_alarm (alarm_subjects state.site))
    have =
        all_have (alarm_subjects state.site) (map its_alarm (alarm_subjects state.site)) parts_are.alarms
        (subst (λ (ds : List DetectedObjectState). AllZip (IsDetectedOf state.site state) (filter is_detecting (alarm_subjects state.site)) ds) (sym alarms_are)
        (subst (λ (ss : List Subject). AllZip (IsDetectedOf state.site state) ss state.alarms) (sym (detecting_among (subjects_of state.site))) own.alarms))
        (subst (λ (ds : List DetectedObjectState). All FitsDetected ds) (sym alarms_are) fits.alarms)

    split : map its_alarm (alarm_subjects state.site) ≡ map its_alarm before_it ++ (map its_alarm middle_of_it ++ map its_alarm behind_it)
    split =
        ap (map its_alarm) (subjects_split state.site) ∙ map_append its_alarm before_it (middle_of_it ++ behind_it)
        ∙ ap (λ (rest : List AlarmState). map its_alarm before_it ++ rest) (map_append its_alarm middle_of_it behind_it)

    alarms_have : AreAlarms state.site state.values.rows state.last_moment whole_of_it.1.1.0
    alarms_have =
        let all = subst (λ (all : List AlarmState). AllZip (HasSubject state.values.rows state.last_moment) (in_three state.site) all) split
        (subst (λ (ss : List Subject). AllZip (HasSubject state.values.rows state.last_moment) ss (map its_alarm (alarm_subjects state.site))) (subjects_split state.site) have) in
        let a = beside_apart (HasSubject state.values.rows state.last_moment) before_it (middle_of_it ++ behind_it) (map its_alarm before_it) (map its_alarm middle_of_it ++ map its_alarm behind_it) (sym (length-map before_it its_alarm)) all in
        let b = beside_apart (HasSubject state.values.rows state.last_moment) middle_of_it behind_it (map its_alarm middle_of_it) (map its_alarm behind_it) (sym (length-map middle_of_it its_alarm)) a.1 in
        (a.0, (enrolled_all state.site.enrollments (map its_alarm middle_of_it) state.values.enrollments b.0 own.enrollments, b.1))

    outbox_has : HasOutbox state.site state.classes state.outbox
    outbox_has =
        let posts = state.outbox.posts in
        let settings : state.outbox ≡ outbox_with state.site posts = λ k. record { posts = posts; limit = own.limit k; timeout = own.timeout k; retries = own.retries k; flush_silent = own.flush_silent k } in
        let few = few_each 16_384 posts (omega (arith, own.outbox.room, own.outbox.settings.fits)) in
        record {
          posts = (posts_all state.outbox.retries posts own.outbox.posts fits.posts few, omega (arith, own.peers));
          tested = both_are (may_have_posts state.site posts) (knows_classes (peers_of posts) state.classes)
              (told_posts tests state.site posts (record { few = own.peers; outbox = subst IsOutbox settings own.outbox })) (told_classes (peers_of posts) state.classes own.known);
          settings = settings;
        }

    is_whole : IsWhole state.site whole_of_it
    is_whole = (
      (refl, (own.events, (own.moment, own.begun))),
      (
        beside_with IsRowOf HasRow FitsRow (λ s r h f. record { written = h; fits = f }) state.site.objects state.values.rows own.rows fits.rows,
        (
          alarms_have,
          (
            (beside_with IsClassOf IsListed FitsClass (λ listed class h f. record { same = h.same; destinations = (h.few, f) }) state.site.classes state.classes own.classes fits.classes, le-leb _ _ own.room),
            (logs_held state.site state.site.logs state.logs own.logs fits.logs, outbox_has),
          ),
        ),
      ),
    )

    paired : length (map its_alarm middle_of_it) ≡ length state.values.enrollments
    paired = length-map middle_of_it its_alarm ∙ length-map state.site.enrollments subject_of_enrollment ∙ sym (AllZip-long IsEnrollmentOf state.site.enrollments state.values.enrollments own.enrollments)

    data_same : data_with whole_of_it ≡ parts_of state
    data_same = λ k. record {
      events = state.events;
      last_moment = state.last_moment;
      table = state.values.rows;
      enrollments = enrollments_in (record { rows = state.values.rows; enrollments = seconds (map its_alarm middle_of_it) state.values.enrollments paired k });
      alarms = (ap (λ (rest : List AlarmState). map its_alarm before_it ++ (rest ++ map its_alarm behind_it)) (firsts (map its_alarm middle_of_it) state.values.enrollments paired) ∙ sym split) k;
      classes = state.classes;
      logs = map log_of state.logs;
      outbox = state.outbox;
    }

    pub parts_again : parts_in state.site (written_state state) ≡ Some (parts_of state)
    parts_again =
        let octets : written_whole (has_rule state.site) whole_of_it ≡ written_state state = all_is_written state.site site tests whole_of_it is_whole ∙ ap (λ (p : Parts). written_state (state_of_parts state.site p)) data_same ∙ ap written_state state_is in
        ap (parts_in state.site) (sym octets) ∙ told state.site site whole_of_it is_whole ∙ ap (λ (p : Parts). Some p) data_same
