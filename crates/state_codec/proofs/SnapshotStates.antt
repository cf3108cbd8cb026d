-- The states that snapshots tell: what is read is the snapshot of a state that the site may have.
use Rattle.std.proofs.Common.{IsTrue, IsNone, ◌≡◌, ℕ, ◌^◌, ◌<◌, Bool, true, false, true≢false, Option, Some, None, is_some, List, [], ◌∷◌, ◌++◌, append_assoc, filter, length, map, refl, sym, ap, subst, ◌∙◌, arith}
use Rattle.std.specs.Int.{w64, to_be_bytes}
use Rattle.std.specs.List.{All, AllZip, flat_map, zip}
use Rattle.std.proofs.lemmas.Bool.{leb-true}
use Rattle.std.proofs.lemmas.List.Elements.{All-nil, All-cons, All-head, All-tail}
use Rattle.std.proofs.lemmas.Slice.Zip.{AllZip-long}
use Rattle.bac_values.specs.declared.stamp.Stamp.{Stamp}
use Rattle.civil_stamp.specs.LocalTime.{ZoneData}
use Rattle.event_log.specs.Log.{EventLogState}
use Rattle.event_log.specs.declared.log_record.LogRecord.{LogRecord}
use Rattle.event_log.specs.declared.log_site.LogSite.{LogSite}
use Rattle.event_machine.specs.Summary.{AlarmState}
use Rattle.object_table.specs.declared.row.Row.{Row}
use Rattle.outbox.specs.Outboxes.{IsOutbox, OutboxState, peers_of}
use Rattle.outbox.specs.Posts.{MailboxState, TestsPosts}
use Rattle.bac_values.specs.Identifier.{ObjectIdData}
use Rattle.object_table.specs.Rows.{Ascends}
use Rattle.enrollment.specs.Enrollments.{site_of}
use Rattle.enrollment.specs.Subjects.{object_of, subject_of_enrollment}
use Rattle.enrollment.specs.declared.enrollment_site.EnrollmentSite.{EnrollmentSite}
use Rattle.enrollment.specs.declared.subject.Subject.{Subject}
use Rattle.alarm_core.specs.Evaluations.{site_zone}
use Rattle.alarm_core.specs.Parts.{ArePartsOf, MayHave, kept_by, state_of_parts}
use Rattle.alarm_core.specs.SiteStates.{IsClassOf, IsDetectedOf, IsEnrollmentOf, IsLogOf, IsRecordOf, IsRowOf, IsStateOf, hundredths_shown}
use Rattle.alarm_core.specs.Sites.{IsLogSite, IsSite}
use Rattle.alarm_core.specs.State.{CoreState}
use Rattle.alarm_core.specs.Subjects.{alarm_subjects, subjects_of}
use Rattle.alarm_core.specs.declared.site.Site.{Site}
use Rattle.state_codec.specs.Snapshots.{has_rule, version_of, written_class, written_log, written_outbox, written_row, written_state, written_subject}
use Rattle.state_codec.specs.SnapshotLaws.{AreHundredths, HasEntry, HasPost, HasRow, FitsRow}
use Rattle.state_codec.specs.SnapshotSteps.{AlarmsData, alarm_of, enrollment_of, is_before, is_behind, knows_classes, may_have_posts, may_hold, numbers_up_to, object_subjects}
use Rattle.state_codec.specs.Spelled.{FitsClass, FitsEntry, FitsLog, FitsPost, FitsState, SpellsState}
use Rattle.state_codec.proofs.Behind.{both_true}
use Rattle.state_codec.proofs.Beside.{beside_apart, beside_both, beside_each, beside_made, beside_mapped, beside_more, beside_unmapped, same_of, seconds_all}
use Rattle.state_codec.proofs.LogsHeld.{is_log}
use Rattle.state_codec.proofs.Numbers.{number_of, numbered_from}
use Rattle.state_codec.proofs.PostsOf.{classes_told, posts_told}
use Rattle.state_codec.proofs.SnapshotReads.{AreAlarms, HasEnrolled, HasHeld, IsListed, IsWhole, WholeData, data_with, written_alarms, written_held, written_whole}
use Rattle.state_codec.proofs.SubjectReads.{HasSubject}
use Rattle.state_codec.proofs.SubjectsOf.{in_three, subjects_split}
use Rattle.state_codec.proofs.ToldAlarms.{detected_all, detecting_among, found_again, may_of}
use Rattle.state_codec.proofs.WrittenSubjects.{AreInOrder, FindsItself, IsAlarmIn, all_written, enrollments_found, own_object, subjects_ascend}

-- ---- logs

numbers_of : (rule : Bool) (zone : ZoneData) (guides : List ℕ) (entries : List LogRecord) → AllZip (HasEntry rule zone) guides entries → map number_of entries ≡ guides
numbers_of rule zone [] [] are = refl
numbers_of rule zone [] (entry ∷ entries) are = absurd are
numbers_of rule zone (guide ∷ guides) [] are = absurd are
numbers_of rule zone (guide ∷ guides) (entry ∷ entries) are =
    ap (λ (n : ℕ). n ∷ map number_of entries) are.0.number ∙ ap (λ (ns : List ℕ). guide ∷ ns) (numbers_of rule zone guides entries are.1)

shown_of : (rule : Option (List ℕ)) (zone : ZoneData) (stamp : Stamp) (hundredths : ℕ) → AreHundredths (is_some rule) zone stamp hundredths → IsNone rule → hundredths ≡ hundredths_shown zone stamp
shown_of None zone stamp hundredths are none = are
shown_of (Some text) zone stamp hundredths are none = absurd (true≢false none)

fit_of : (rule : Bool) (zone : ZoneData) (stamp : Stamp) (hundredths : ℕ) → AreHundredths rule zone stamp hundredths → IsTrue rule → hundredths < 2 ^ 64
fit_of true zone stamp hundredths are is = are
fit_of false zone stamp hundredths are is = absurd (true≢false (sym is))

module _ (site : Site) where
  one_log : (listed : LogSite) (log : EventLogState) → IsLogSite listed → HasHeld (has_rule site) (site_zone site) listed log → IsLogOf site listed (kept_by (listed, log)) × FitsLog (has_rule site) (kept_by (listed, log))
  one_log listed log is has = (
    record {
      same = refl;
      size = has.size;
      stops = has.stops;
      log = is_log log.size log.stops log.enabled log.total log.records (omega (arith, is.most, has.size)) has.total (subst (λ (n : ℕ). may_hold n log.total (length log.records) ≡ true) (sym has.size) has.few)
          (numbered_from log.total log.records (numbers_of (has_rule site) (site_zone site) (numbers_up_to log.total (length log.records)) log.records has.records));
      records = seconds_all (HasEntry (has_rule site) (site_zone site)) (IsRecordOf site) (λ number entry h. record { short = h.short; shown = λ none. shown_of site.device.zone_rule (site_zone site) entry.stamp entry.hundredths h.hundredths none }) (numbers_up_to log.total (length log.records)) log.records has.records;
    },
    seconds_all (HasEntry (has_rule site) (site_zone site)) (FitsEntry (has_rule site)) (λ number entry h. record { stamp = h.stamp; hundredths = λ is. fit_of (has_rule site) (site_zone site) entry.stamp entry.hundredths h.hundredths is }) (numbers_up_to log.total (length log.records)) log.records has.records,
  )

  logs_kept : (listed : List LogSite) (logs : List EventLogState) → All IsLogSite listed → AllZip (HasHeld (has_rule site) (site_zone site)) listed logs
      → AllZip (IsLogOf site) listed (map kept_by (zip listed logs)) × All (FitsLog (has_rule site)) (map kept_by (zip listed logs))
  logs_kept [] [] are have = (tt, All-nil (FitsLog (has_rule site)))
  logs_kept [] (log ∷ logs) are have = absurd have
  logs_kept (it ∷ listed) [] are have = absurd have
  logs_kept (it ∷ listed) (log ∷ logs) are have =
      let one = one_log it log (All-head IsLogSite it listed are) have.0 in
      let rest = logs_kept listed logs (All-tail IsLogSite it listed are) have.1 in
      ((one.0, rest.0), All-cons (FitsLog (has_rule site)) (kept_by (it, log)) (map kept_by (zip listed logs)) one.1 rest.1)

  logs_written : (listed : List LogSite) (logs : List EventLogState) → AllZip (HasHeld (has_rule site) (site_zone site)) listed logs
      → flat_map (written_log (has_rule site)) (map kept_by (zip listed logs)) ≡ flat_map (written_held (has_rule site)) logs
  logs_written [] [] have = refl
  logs_written [] (log ∷ logs) have = absurd have
  logs_written (it ∷ listed) [] have = absurd have
  logs_written (it ∷ listed) (log ∷ logs) have = ap (λ (t : List ℕ). written_held (has_rule site) log ++ t) (logs_written listed logs have.1)

  -- ---- alarms

  have_all : (rows : List Row) (last : ℕ) (x : AlarmsData) → AreAlarms site rows last x → AllZip (HasSubject rows last) (in_three site) (x.0 ++ (map alarm_of x.1.0 ++ x.1.1))
  have_all rows last x are =
      beside_more (HasSubject rows last) (filter is_before (object_subjects site)) (map subject_of_enrollment site.enrollments ++ filter is_behind (object_subjects site)) x.0 (map alarm_of x.1.0 ++ x.1.1) are.0
      (beside_more (HasSubject rows last) (map subject_of_enrollment site.enrollments) (filter is_behind (object_subjects site)) (map alarm_of x.1.0) x.1.1
      (beside_mapped (HasSubject rows last) subject_of_enrollment alarm_of site.enrollments x.1.0 (beside_each (HasEnrolled rows last) (λ (e : EnrollmentSite) (p : AlarmState × EnrollmentSite). HasSubject rows last (subject_of_enrollment e) p.0) (λ e p h. h.0) site.enrollments x.1.0 are.1.0)) are.1.1)

  pub enrolled_of : (rows : List Row) (last : ℕ) (x : AlarmsData) → AreAlarms site rows last x → AllZip IsEnrollmentOf site.enrollments (map enrollment_of x.1.0)
  enrolled_of rows last x are =
      beside_made IsEnrollmentOf enrollment_of site.enrollments x.1.0 (beside_each (HasEnrolled rows last) (λ (e : EnrollmentSite) (p : AlarmState × EnrollmentSite). IsEnrollmentOf e p.1) (λ e p h. h.1.own) site.enrollments x.1.0 are.1.0)

  same_objects : (sites others : List EnrollmentSite) → AllZip IsEnrollmentOf sites others → map own_object others ≡ map own_object sites
  same_objects sites others are = same_of IsEnrollmentOf own_object own_object (λ e o h. ap own_object h.same) sites others are

  -- ---- the state

  module _ (is : IsSite site) (tests : TestsPosts) (x : WholeData) (whole : IsWhole site x) where
    abbrev told_state : CoreState
    told_state = state_of_parts site (data_with x)

    abbrev own_alarms : List AlarmState
    own_alarms = x.1.1.0.0 ++ (map alarm_of x.1.1.0.1.0 ++ x.1.1.0.1.1)

    have : AllZip (HasSubject x.1.0 x.0.1.1) (alarm_subjects site) own_alarms
    have = subst (λ (ss : List Subject). AllZip (HasSubject x.1.0 x.0.1.1) ss own_alarms) (sym (subjects_split site)) (have_all x.1.0 x.0.1.1 x.1.1.0 whole.1.1.0)

    may_have : AllZip MayHave (alarm_subjects site) own_alarms
    may_have = beside_each (HasSubject x.1.0 x.0.1.1) MayHave (λ s a h. may_of site x.1.0 x.0.1.1 s a h) (alarm_subjects site) own_alarms have

    posts_are : (may_have_posts site x.1.1.1.1.1.posts ≡ true) × (knows_classes (peers_of x.1.1.1.1.1.posts) x.1.1.1.0 ≡ true)
    posts_are = both_true (may_have_posts site x.1.1.1.1.1.posts) (knows_classes (peers_of x.1.1.1.1.1.posts) x.1.1.1.0) whole.1.1.1.1.1.tested

    its_state : IsStateOf site told_state
    its_state =
        let outbox = whole.1.1.1.1.1 in
        let posts = posts_told tests site is.settings x.1.1.1.1.1.posts posts_are.0 in
        let detected = detected_all site told_state (alarm_subjects site) own_alarms have in
        record {
          site_is = refl;
          events = whole.0.1.0;
          moment = whole.0.1.1.0;
          begun = whole.0.1.1.1;
          rows = beside_each HasRow IsRowOf (λ s r h. h.written) site.objects x.1.0 whole.1.0;
          enrollments = enrolled_of x.1.0 x.0.1.1 x.1.1.0 whole.1.1.0;
          alarms = subst (λ (ss : List Subject). AllZip (IsDetectedOf site told_state) ss told_state.alarms) (detecting_among (subjects_of site)) detected.0;
          classes = beside_each IsListed IsClassOf (λ listed class h. record { same = h.same; few = h.destinations.0 }) site.classes x.1.1.1.0 whole.1.1.1.0.0;
          room = leb-true _ _ whole.1.1.1.0.1;
          known = classes_told (peers_of x.1.1.1.1.1.posts) x.1.1.1.0 posts_are.1;
          peers = posts.few;
          outbox = subst IsOutbox (sym outbox.settings) posts.outbox;
          limit = ap (λ (o : OutboxState). o.limit) outbox.settings;
          timeout = ap (λ (o : OutboxState). o.timeout) outbox.settings;
          retries = ap (λ (o : OutboxState). o.retries) outbox.settings;
          flush_silent = ap (λ (o : OutboxState). o.flush_silent) outbox.settings;
          logs = (logs_kept site.logs x.1.1.1.1.0 is.logs whole.1.1.1.1.0).0;
        }

    pub are_parts : ArePartsOf site (data_with x)
    are_parts = record {
      references = refl;
      alarms = may_have;
      logs = AllZip-long (HasHeld (has_rule site) (site_zone site)) site.logs x.1.1.1.1.0 whole.1.1.1.1.0;
      state = its_state;
    }

    its_types : FitsState told_state
    its_types = record {
      rows = seconds_all HasRow FitsRow (λ s r h. h.fits) site.objects x.1.0 whole.1.0;
      alarms = (detected_all site told_state (alarm_subjects site) own_alarms have).1;
      classes = seconds_all IsListed FitsClass (λ listed class h. h.destinations.1) site.classes x.1.1.1.0 whole.1.1.1.0.0;
      logs = (logs_kept site.logs x.1.1.1.1.0 is.logs whole.1.1.1.1.0).1;
      posts = fits_all x.1.1.1.1.1.posts whole.1.1.1.1.1.posts.0;
    }
      where
        fits_all : (posts : List MailboxState) → All HasPost posts → All FitsPost posts
        fits_all [] all = All-nil FitsPost
        fits_all (post ∷ posts) all =
            let one = All-head HasPost post posts all in
            All-cons FitsPost post posts (record { peer = one.to; invoke = one.invoke; attempts = one.tries; deadline = one.until }) (fits_all posts (All-tail HasPost post posts all))

    -- ---- what is written

    order : AreInOrder told_state (filter is_before (object_subjects site)) site.enrollments (filter is_behind (object_subjects site))
    order = record {
      objects = same_objects site.enrollments (map enrollment_of x.1.1.0.1.0) (enrolled_of x.1.0 x.0.1.1 x.1.1.0 whole.1.1.0);
      ascending = subst (λ (ss : List Subject). Ascends (map object_of ss)) (subjects_split site) (subjects_ascend site is);
    }

    found : AllZip (IsAlarmIn told_state) (in_three site) own_alarms
    found = subst (λ (ss : List Subject). AllZip (IsAlarmIn told_state) ss own_alarms) (subjects_split site) (found_again site (alarm_subjects site) own_alarms (subjects_ascend site is) may_have)

    alarms_written : flat_map (written_subject told_state) (alarm_subjects site) ≡ written_alarms x.1.1.0
    alarms_written =
        let before = filter is_before (object_subjects site) in
        let behind = filter is_behind (object_subjects site) in
        let middle = map subject_of_enrollment site.enrollments in
        let first = x.1.1.0.0 in
        let enrolled = x.1.1.0.1.0 in
        let last = x.1.1.0.1.1 in
        let are = whole.1.1.0 in
        let a = beside_apart (IsAlarmIn told_state) before (middle ++ behind) first (map alarm_of enrolled ++ last) (sym (AllZip-long (HasSubject x.1.0 x.0.1.1) before first are.0)) found in
        let mapped = beside_mapped (HasSubject x.1.0 x.0.1.1) subject_of_enrollment alarm_of site.enrollments enrolled (beside_each (HasEnrolled x.1.0 x.0.1.1) (λ (e : EnrollmentSite) (p : AlarmState × EnrollmentSite). HasSubject x.1.0 x.0.1.1 (subject_of_enrollment e) p.0) (λ e p h. h.0) site.enrollments enrolled are.1.0) in
        let b = beside_apart (IsAlarmIn told_state) middle behind (map alarm_of enrolled) last (sym (AllZip-long (HasSubject x.1.0 x.0.1.1) middle (map alarm_of enrolled) mapped)) a.1 in
        let own = beside_unmapped (IsAlarmIn told_state) subject_of_enrollment alarm_of site.enrollments enrolled b.0 in
        let there = enrolled_found site.enrollments enrolled (beside_each (HasEnrolled x.1.0 x.0.1.1) (λ (e : EnrollmentSite) (p : AlarmState × EnrollmentSite). p.1.object ≡ e.object) (λ e p h. ap own_object h.1.own.same) site.enrollments enrolled are.1.0)
        (enrollments_found told_state before site.enrollments behind order) in
        ap (λ (ss : List Subject). flat_map (written_subject told_state) ss) (subjects_split site)
        ∙ all_written told_state before site.enrollments behind order first enrolled last a.0 (beside_both (λ (e : EnrollmentSite) (p : AlarmState × EnrollmentSite). IsAlarmIn told_state (subject_of_enrollment e) p.0) (λ (e : EnrollmentSite) (p : AlarmState × EnrollmentSite). site_of e.object told_state.values.enrollments ≡ Some p.1) site.enrollments enrolled own there) b.1
      where
        enrolled_found : (sites : List EnrollmentSite) (enrolled : List (AlarmState × EnrollmentSite)) → AllZip (λ (e : EnrollmentSite) (p : AlarmState × EnrollmentSite). p.1.object ≡ e.object) sites enrolled → All (FindsItself told_state.values.enrollments) (map enrollment_of enrolled)
            → AllZip (λ (e : EnrollmentSite) (p : AlarmState × EnrollmentSite). site_of e.object told_state.values.enrollments ≡ Some p.1) sites enrolled
        enrolled_found [] [] same all = tt
        enrolled_found [] (p ∷ enrolled) same all = absurd same
        enrolled_found (e ∷ sites) [] same all = absurd same
        enrolled_found (e ∷ sites) (p ∷ enrolled) same all = (
          ap (λ (object : ObjectIdData). site_of object told_state.values.enrollments) (sym same.0) ∙ All-head (FindsItself told_state.values.enrollments) p.1 (map enrollment_of enrolled) all,
          enrolled_found sites enrolled same.1 (All-tail (FindsItself told_state.values.enrollments) p.1 (map enrollment_of enrolled) all),
        )

    pub all_is_written : written_whole (has_rule site) x ≡ written_state told_state
    all_is_written =
        let e = to_be_bytes w64 x.0.1.0 in
        let l = to_be_bytes w64 x.0.1.1 in
        let behind = flat_map written_row x.1.0 ++ (written_alarms x.1.1.0 ++ (flat_map written_class x.1.1.1.0 ++ (flat_map (written_held (has_rule site)) x.1.1.1.1.0 ++ written_outbox x.1.1.1.1.1))) in
        ap (λ (v : ℕ). v ∷ ((e ++ l) ++ behind)) whole.0.0
        ∙ ap (λ (t : List ℕ). version_of site ∷ t) (append_assoc e l behind)
        ∙ (λ k. version_of site ∷ (e ++ (l ++ (flat_map written_row x.1.0 ++ (sym alarms_written k ++ (flat_map written_class x.1.1.1.0 ++ (sym (logs_written site.logs x.1.1.1.1.0 whole.1.1.1.1.0) k ++ written_outbox x.1.1.1.1.1)))))))

    pub is_spelled : SpellsState site (written_whole (has_rule site) x) told_state
    is_spelled = record { octets_are = all_is_written; own = its_state; fits = its_types }
