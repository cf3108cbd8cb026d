-- The state that a history leaves keeps to what the state of a site does.
use Rattle.std.proofs.Common.{◌≡◌, ℕ, ◌/◌, ℤ, Bool, true, false, true≢false, if◌then◌else◌, Option, Some, None, List, [], ◌∷◌, map, refl, sym, ap}
use Rattle.std.specs.Prelude.{IsNone}
use Rattle.std.specs.List.{All, AllZip}
use Rattle.std.specs.Option.{option_and_then, unwrap_or}
use Rattle.std.proofs.lemmas.List.Elements.{All-nil, All-cons, All-head, All-tail, All-append}
use Rattle.bac_values.specs.Moments.{IsMoment}
use Rattle.bac_values.specs.declared.value.Value.{Value}
use Rattle.bac_values.specs.declared.value.Value.TheVariants.{Bool as Truth, Unsigned, Signed, Bits}
use Rattle.civil_stamp.specs.LocalTime.{IsZone, fixed_zone, local_stamp, rule_zone}
use Rattle.event_log.specs.declared.log_site.LogSite.{LogSite}
use Rattle.object_table.specs.declared.change.Change.{Change}
use Rattle.object_table.specs.declared.change.What.{What}
use Rattle.object_table.specs.declared.change.What.TheVariants.{Property, FieldFault}
use Rattle.object_table.specs.declared.object_property.ObjectProperty.{ObjectProperty}
use Rattle.object_table.specs.declared.object_property.ObjectProperty.TheVariants.{PresentValue, OutOfService, ReliabilityEvaluationInhibit, TimeDelay, TimeDelayNormal, HighLimit, LowLimit, Deadband, LimitEnable, AlarmValue, EventEnable, EventAlgorithmInhibit}
use Rattle.object_table.specs.declared.object_site.ObjectSite.{ObjectSite}
use Rattle.object_table.specs.declared.row.Row.{Row}
use Rattle.object_table.specs.Properties.{property_of}
use Rattle.object_table.specs.Rows.{is_object, rows_of}
use Rattle.object_table.specs.Writes as rows
use Rattle.enrollment.specs.Objects.{ObjectsState}
use Rattle.enrollment.specs.Properties as enrollment_properties
use Rattle.enrollment.specs.Writes as enrollments
use Rattle.enrollment.specs.declared.enrollment_property.EnrollmentProperty.{EnrollmentProperty}
use Rattle.enrollment.specs.declared.enrollment_property.EnrollmentProperty.TheVariants as of_enrollments
use Rattle.enrollment.specs.declared.enrollment_site.EnrollmentSite.{EnrollmentSite}
use Rattle.alarm_core.specs.declared.event.Act.{Act}
use Rattle.alarm_core.specs.declared.event.Act.TheVariants.{Tick, Write, Ack, Pump, Answer, Edit}
use Rattle.alarm_core.specs.declared.event.Event.{Event}
use Rattle.alarm_core.specs.declared.site.Site.{Site}
use Rattle.alarm_core.specs.Allowed.{IsHistory}
use Rattle.alarm_core.specs.Classes.{classes_after}
use Rattle.alarm_core.specs.Deliveries.{event_notes, notifications_of}
use Rattle.alarm_core.specs.Fits.{FitsAct, FitsEnrollment, FitsEvent, FitsObject, FitsSite, FitsValue, FitsWhat}
use Rattle.alarm_core.specs.History.{event_looks, joined, transition_of, values_after, values_with}
use Rattle.alarm_core.specs.Laws.{KeepsToItsSite}
use Rattle.alarm_core.specs.Logs.{kept_log_of}
use Rattle.alarm_core.specs.Notes.{IsShort}
use Rattle.alarm_core.specs.SiteStates.{IsLogOf, IsRecordOf, hundredths_or_none, hundredths_shown}
use Rattle.alarm_core.specs.Sites.{IsLogSite, IsSite}
use Rattle.alarm_core.proofs.KeptClasses.{classes_kept, lists_kept, peers_kept_few}
use Rattle.alarm_core.proofs.KeptLogs.{TellsSuch, such_log}
use Rattle.alarm_core.proofs.KeptLooks.{GivesSuch, event_such, joined_such}
use Rattle.alarm_core.proofs.KeptOutbox.{outbox_kept, recipients_known}
use Rattle.alarm_core.proofs.KeptPoints.{alarms_kept, begun_by, moment_kept}
use Rattle.alarm_core.proofs.KeptRows.{enrollments_kept, rows_kept}
use Rattle.alarm_core.proofs.KeptShort.{AllFit, FitsRow, TellsShort, notes_short, record_short, tells_short}
use Rattle.alarm_core.proofs.KeptStamps.{fixed_hundredths}

-- ---- the values of the objects fit their types

set_fits : (property : ObjectProperty) (value : Value) (site : ObjectSite) → FitsValue value → FitsObject site → FitsObject (rows.set_known property value site)
set_fits PresentValue value site fits old = record { value = fits; alarm_values = old.alarm_values; texts = old.texts }
set_fits OutOfService (Truth truth) site fits old = record { value = old.value; alarm_values = old.alarm_values; texts = old.texts }
set_fits ReliabilityEvaluationInhibit (Truth truth) site fits old = record { value = old.value; alarm_values = old.alarm_values; texts = old.texts }
set_fits TimeDelay (Unsigned seconds) site fits old = record { value = old.value; alarm_values = old.alarm_values; texts = old.texts }
set_fits TimeDelayNormal (Unsigned seconds) site fits old = record { value = old.value; alarm_values = old.alarm_values; texts = old.texts }
set_fits HighLimit (Signed limit) site fits old = record { value = old.value; alarm_values = old.alarm_values; texts = old.texts }
set_fits HighLimit (Unsigned limit) site fits old = record { value = old.value; alarm_values = old.alarm_values; texts = old.texts }
set_fits LowLimit (Signed limit) site fits old = record { value = old.value; alarm_values = old.alarm_values; texts = old.texts }
set_fits LowLimit (Unsigned limit) site fits old = record { value = old.value; alarm_values = old.alarm_values; texts = old.texts }
set_fits Deadband (Unsigned deadband) site fits old = record { value = old.value; alarm_values = old.alarm_values; texts = old.texts }
set_fits LimitEnable (Bits flags) site fits old = record { value = old.value; alarm_values = old.alarm_values; texts = old.texts }
set_fits AlarmValue value site fits old = record { value = old.value; alarm_values = old.alarm_values; texts = old.texts }
set_fits EventEnable (Bits flags) site fits old = record { value = old.value; alarm_values = old.alarm_values; texts = old.texts }
set_fits EventAlgorithmInhibit (Truth truth) site fits old = record { value = old.value; alarm_values = old.alarm_values; texts = old.texts }
set_fits _ _ site fits old = old

set_by_fits : (property : Option ObjectProperty) (value : Value) (site : ObjectSite) → FitsValue value → FitsObject site → FitsObject (rows.set_by property value site)
set_by_fits None value site fits old = old
set_by_fits (Some property) value site fits old = set_fits property value site fits old

changed_fits : (what : What) (row : Row) → FitsWhat what → FitsRow row → FitsRow (rows.changed what row)
changed_fits (Property property value) row fits old = set_by_fits (property_of property.0) value row.site fits old
changed_fits (FieldFault reliability) row fits old = old

written_by : (b : Bool) (what : What) (row : Row) → FitsWhat what → FitsRow row → FitsRow (if b then rows.changed what row else row)
written_by true what row fits old = changed_fits what row fits old
written_by false what row fits old = old

written_fit : (change : Change) (table : List Row) → FitsWhat change.what → All FitsRow table → All FitsRow (rows.written change table)
written_fit change [] fits all = All-nil FitsRow
written_fit change (row ∷ table) fits all =
    let new : Row = if is_object change.object row.site.object then rows.changed change.what row else row in
    All-cons FitsRow new (rows.written change table)
    (written_by (is_object change.object row.site.object) change.what row fits (All-head FitsRow row table all)) (written_fit change table fits (All-tail FitsRow row table all))

-- no write changes the texts of an enrollment
enrollment_known : (property : EnrollmentProperty) (value : Value) (site : EnrollmentSite) → FitsEnrollment site → FitsEnrollment (enrollments.set_known property value site)
enrollment_known of_enrollments.EventEnable (Bits flags) site fits = fits
enrollment_known of_enrollments.EventAlgorithmInhibit (Truth truth) site fits = fits
enrollment_known _ _ site fits = fits

enrollment_by : (property : Option EnrollmentProperty) (value : Value) (site : EnrollmentSite) → FitsEnrollment site → FitsEnrollment (enrollments.set_by property value site)
enrollment_by None value site fits = fits
enrollment_by (Some property) value site fits = enrollment_known property value site fits

enrollment_changed : (what : What) (site : EnrollmentSite) → FitsEnrollment site → FitsEnrollment (enrollments.changed what site)
enrollment_changed (Property property value) site fits = enrollment_by (enrollment_properties.property_of property.0) value site fits
enrollment_changed (FieldFault reliability) site fits = fits

enrollment_written : (b : Bool) (what : What) (site : EnrollmentSite) → FitsEnrollment site → FitsEnrollment (if b then enrollments.changed what site else site)
enrollment_written true what site fits = enrollment_changed what site fits
enrollment_written false what site fits = fits

enrollments_fit : (change : Change) (sites : List EnrollmentSite) → All FitsEnrollment sites → All FitsEnrollment (enrollments.written change sites)
enrollments_fit change [] all = All-nil FitsEnrollment
enrollments_fit change (site ∷ sites) all =
    let new : EnrollmentSite = if is_object change.object site.object then enrollments.changed change.what site else site in
    All-cons FitsEnrollment new (enrollments.written change sites)
    (enrollment_written (is_object change.object site.object) change.what site (All-head FitsEnrollment site sites all)) (enrollments_fit change sites (All-tail FitsEnrollment site sites all))

act_fits : (act : Act) (values : ObjectsState) → FitsAct act → AllFit values → AllFit (values_with act values)
act_fits (Write change) values fits all = record { rows = written_fit change values.rows fits all.rows; enrollments = enrollments_fit change values.enrollments all.enrollments }
act_fits Tick values fits all = all
act_fits (Ack object transition named) values fits all = all
act_fits Pump values fits all = all
act_fits (Answer peer invoke kind) values fits all = all
act_fits (Edit number recipients) values fits all = all

first_fit : (sites : List ObjectSite) → All FitsObject sites → All FitsRow (rows_of sites)
first_fit [] all = All-nil FitsRow
first_fit (site ∷ sites) all =
    All-cons FitsRow (record { site = site; field_fault = 0 }) (rows_of sites) (All-head FitsObject site sites all) (first_fit sites (All-tail FitsObject site sites all))

module _ (site : Site) (typed : FitsSite site) where
  all_fit : (history : List Event) → All FitsEvent history → AllFit (values_after site history)
  all_fit [] fits = record { rows = first_fit site.objects typed.objects; enrollments = typed.enrollments }
  all_fit (event ∷ older) fits = act_fits event.act (values_after site older) (All-head FitsEvent event older fits) (all_fit older (All-tail FitsEvent event older fits))

  -- ---- the notes are short

  gives_short : (moment : ℕ) (history : List Event) → All FitsEvent history → GivesSuch TellsShort moment (values_after site history)
  gives_short moment history fits = λ states transition. tells_short (transition_of moment (values_after site history) states transition) (all_fit history fits)

  pub all_short : (history : List Event) → All FitsEvent history → All IsShort (notifications_of site history)
  all_short [] fits = All-nil IsShort
  all_short (event ∷ older) fits =
      let older_fits = All-tail FitsEvent event older fits in
      let looks = event_such TellsShort site event older (gives_short event.moment older older_fits) (gives_short event.moment (event ∷ older) fits) in
      All-append IsShort (notifications_of site older) (event_notes site event older) (all_short older older_fits)
      (notes_short site (classes_after site older) (values_after site older) event.moment event.act (joined (event_looks site event older)) (joined_such TellsShort (event_looks site event older) looks))

  -- ---- the logs

  module _ (is : IsSite site) where
    zone_by : (rule : Option (List ℕ)) (minutes : ℤ) (moment : ℕ) → IsZone minutes → IsMoment moment → IsNone rule →
        hundredths_shown (unwrap_or (option_and_then rule_zone rule) (fixed_zone minutes)) (local_stamp (unwrap_or (option_and_then rule_zone rule) (fixed_zone minutes)) moment) ≡ moment / 10
    zone_by None minutes moment zone range none = ap hundredths_or_none (fixed_hundredths minutes moment zone range)
    zone_by (Some rule) minutes moment zone range none = absurd (true≢false none)

    record_is : (moment : ℕ) → IsMoment moment → (history : List Event) → IsHistory site history → All FitsEvent history → GivesSuch (TellsSuch (IsRecordOf site) site) moment (values_after site history)
    record_is moment range history h fits = λ states transition subject class number. record {
      short = record_short site (transition_of moment (values_after site history) states transition) subject class (gives_short moment history fits states transition);
      shown = λ none. sym (zone_by site.device.zone_rule site.device.zone_minutes moment is.zone range none);
    }

    log_is : (history : List Event) → IsHistory site history → All FitsEvent history → (listed : LogSite) → IsLogSite listed → IsLogOf site listed (kept_log_of site history listed)
    log_is history h fits listed listed_is =
        let such = such_log (IsRecordOf site) site record_is listed listed_is history h fits in
        record { same = refl; size = refl; stops = refl; log = such.0; records = such.1 }

    logs_are : (history : List Event) → IsHistory site history → All FitsEvent history → (logs : List LogSite) → All IsLogSite logs → AllZip (IsLogOf site) logs (map (kept_log_of site history) logs)
    logs_are history h fits [] all = tt
    logs_are history h fits (listed ∷ logs) all =
        (log_is history h fits listed (All-head IsLogSite listed logs all), logs_are history h fits logs (All-tail IsLogSite listed logs all))

-- ---- all of it

pub keeps_to_its_site : KeepsToItsSite
keeps_to_its_site = record {
  keeps = λ site is typed history h fits few. record {
    site_is = refl;
    events = few;
    moment = moment_kept site is history h;
    begun = begun_by site history h;
    rows = rows_kept site is history h fits;
    enrollments = enrollments_kept site is history h;
    alarms = alarms_kept site is history h fits;
    classes = classes_kept site is history h;
    room = (lists_kept site is history h).room;
    known = recipients_known site history;
    peers = peers_kept_few site is history h;
    outbox = outbox_kept site is history h (all_short site typed history fits);
    limit = refl;
    timeout = refl;
    retries = refl;
    flush_silent = refl;
    logs = logs_are site typed is history h fits site.logs is.logs;
  };
}
