-- What is told and recorded of a transition has at most 1,024 octets.
use Rattle.std.proofs.Common.{◌≡◌, ℕ, zero, suc, ◌≤◌, ℤ, Bool, true, false, if◌then◌else◌, Option, Some, None, List, [], ◌∷◌, ◌++◌, length, map, refl, arith, length-append}
use Rattle.std.specs.List.{All, flat_map, slice_get}
use Rattle.std.specs.Option.{IfSome, option_and_then, option_map, option_to_list}
use Rattle.std.proofs.lemmas.List.Elements.{All-nil, All-cons, All-head, All-tail, All-append}
use Rattle.bac_values.specs.Identifier.{ObjectIdData}
use Rattle.bac_values.specs.declared.event_state.EventState.{EventState}
use Rattle.bac_values.specs.declared.note.Note.{Note}
use Rattle.bac_values.specs.declared.reliability.Reliability.{Reliability}
use Rattle.bac_values.specs.declared.status_flags.StatusFlags.{StatusFlags}
use Rattle.bac_values.specs.EventStates.{place_of_transition, transition_to}
use Rattle.bac_values.specs.declared.transition.Transition.{Transition}
use Rattle.bac_values.specs.declared.value.Value.{Value}
use Rattle.bac_values.specs.declared.value.Value.TheVariants as values
use Rattle.algorithm_rules.specs.declared.table.Algorithm.{Algorithm}
use Rattle.algorithm_rules.specs.declared.table.Algorithm.TheVariants.{ChangeOfBitstring, ChangeOfState, CommandFailure, UnsignedRange, SignedOutOfRange, UnsignedOutOfRange, ChangeOfCharacterstring}
use Rattle.algorithm_rules.specs.Facts.{Facts}
use Rattle.civil_stamp.specs.LocalTime.{ZoneData, local_stamp, octets_of_day_and_time}
use Rattle.event_machine.specs.Detection.{cause_on}
use Rattle.event_machine.specs.declared.moves.Move.{Move}
use Rattle.event_services.specs.declared.notification.Notification.{Notification}
use Rattle.event_services.specs.NoteLengths.{AreShort, HasShortText, IsShort as IsShortValue}
use Rattle.event_services.specs.NoteRanges.{IfAny}
use Rattle.event_services.specs.Notifications.{told_to, written_event, written_kind, written_notification, written_states, written_text_in, written_values}
use Rattle.event_services.specs.NoteTails.{written_occurrence}
use Rattle.event_services.proofs.NoteLengthLaws.{before_octets, parts_octets}
use Rattle.bac_tags.specs.ParameterWriting.{written_enclosed, written_if_given}
use Rattle.bac_tags.specs.Writing.{written_object, written_stamp, written_unsigned}
use Rattle.note_maker.specs.Notes.{note_to, notes_for}
use Rattle.note_maker.specs.Shapes.{acknowledgement_notification}
use Rattle.note_maker.specs.Told.{algorithm_values, as_signed, as_unsigned, bitstring_told, command_told, exceeded_limit, one_value, range_told, reliability_values, signed_told, state_told, text_in, text_told, told_alarm, unsigned_told, values_at}
use Rattle.notify_class.specs.Chosen.{chosen_destinations}
use Rattle.notify_class.specs.Recipients.{DestinationData}
use Rattle.notify_class.specs.declared.class.Class.{Class}
use Rattle.enrollment.specs.declared.enrollment_site.EnrollmentSite.{EnrollmentSite}
use Rattle.enrollment.specs.declared.subject.Subject.{Subject}
use Rattle.enrollment.specs.Enrollments.{site_of}
use Rattle.enrollment.specs.Objects.{ObjectsState, facts_at, reliability_at}
use Rattle.enrollment.specs.Snapshots.{algorithm_with, facts_by_site, facts_of_enrollment, facts_of_row, value_in}
use Rattle.enrollment.specs.Subjects.{subject_in}
use Rattle.enrollment.specs.Texts.{if_not_empty, texts_by, texts_in}
use Rattle.object_table.specs.declared.row.Row.{Row}
use Rattle.object_table.specs.Rows.{is_object, row_of}
use Rattle.alarm_core.specs.declared.event.Act.{Act}
use Rattle.alarm_core.specs.declared.event.Act.TheVariants.{Tick, Write, Ack, Pump, Answer, Edit}
use Rattle.alarm_core.specs.declared.site.Site.{Site}
use Rattle.alarm_core.specs.Deliveries.{notes_by}
use Rattle.alarm_core.specs.Evaluations.{site_stamp, site_zone}
use Rattle.alarm_core.specs.Fits.{FitsEnrollment, FitsObject, FitsText, FitsValue}
use Rattle.alarm_core.specs.History.{StateTransition}
use Rattle.alarm_core.specs.Notes.{IsShort, addressed, move_of, notes_of_acknowledgement, notes_of_transition, notes_of_transitions, notification_of, source_of, text_of, told_flags, told_value, values_of, with_class}
use Rattle.alarm_core.proofs.NotesGo.{found}

-- ---- one notification

note_short : (note : Notification) → length note.stamp.octets ≡ 8 → IfAny HasShortText note.text → IfAny AreShort note.values → length (written_notification note) ≤ 1_024
unfolding written_notification
note_short note eight text told =
    let process = written_unsigned (Some 0) note.process in
    let device = written_object (Some 1) note.device in
    let object = written_object (Some 2) note.object in
    let stamp = written_enclosed 3 (written_enclosed 2 (written_stamp note.stamp)) in
    let kind = written_kind note in
    let event = written_occurrence note in
    let message = written_if_given (written_text_in 7) note.text in
    let states = written_states note in
    let rest = written_if_given written_values note.values in
    let all = (((([] ++ event) ++ message) ++ states) ++ rest) in
    let room = parts_octets note [] ([] ++ event) (([] ++ event) ++ message) ((([] ++ event) ++ message) ++ states) all refl refl refl refl refl eight text told in
    omega (
      arith,
      before_octets note.process all room,
      length-append process all,
      length-append ((event ++ message) ++ states) rest,
      length-append (event ++ message) states,
      length-append event message,
      length-append ((device ++ object) ++ stamp) kind,
      length-append (device ++ object) stamp,
      length-append device object,
      length-append ((written_event note ++ message) ++ states) rest,
      length-append (written_event note ++ message) states,
      length-append (written_event note) message,
      length-append (((process ++ device) ++ object) ++ stamp) kind,
      length-append ((process ++ device) ++ object) stamp,
      length-append (process ++ device) object,
      length-append process device,
    )

stamp_size : (zone : ZoneData) (moment : ℕ) → length (local_stamp zone moment).octets ≡ 8
unfolding local_stamp octets_of_day_and_time
stamp_size zone moment = refl

-- ---- what is told of facts

record FitsFacts (facts : Facts) : Type 0 where
  value : FitsValue facts.value
  feedback : IfSome facts.feedback FitsValue
  alarm_values : All FitsValue facts.alarm_values

one_short : (value : Value) → FitsValue value → IfAny IsShortValue (one_value value)
one_short values.Null fits = tt
one_short (values.Bool b) fits = tt
one_short (values.Unsigned n) fits = tt
one_short (values.Signed z) fits = tt
one_short (values.Text text) fits = fits
one_short (values.Bits string) fits = fits
one_short (values.Enumerated n) fits = tt
one_short (values.Object id) fits = tt
one_short (values.DateTime stamp) fits = tt
one_short (values.Opaque tag why) fits = tt

one_if_any : (value : Option Value) → IfSome value FitsValue → IfAny IsShortValue (option_and_then one_value value)
one_if_any None fits = tt
one_if_any (Some value) fits = one_short value fits

text_short : (value : Value) → FitsValue value → IfAny HasShortText (text_in value)
text_short (values.Text text) fits = fits
text_short _ fits = tt

text_if_any : (value : Option Value) → IfSome value FitsValue → IfAny HasShortText (option_and_then text_in value)
text_if_any None fits = tt
text_if_any (Some value) fits = text_short value fits

at_place : (alarms : List Value) (place : ℕ) → All FitsValue alarms → IfSome (slice_get alarms place) FitsValue
at_place [] place all = tt
at_place (alarm ∷ alarms) zero all = All-head FitsValue alarm alarms all
at_place (alarm ∷ alarms) (suc place) all = at_place alarms place (All-tail FitsValue alarm alarms all)

alarm_fits : (alarms : List Value) (cause : Option ℕ) → All FitsValue alarms → IfSome (option_and_then (λ place. slice_get alarms place) cause) FitsValue
alarm_fits alarms None all = tt
alarm_fits alarms (Some place) all = at_place alarms place all

bits_short : (value : Value) (flags : StatusFlags) → FitsValue value → IfAny AreShort (bitstring_told value flags)
bits_short (values.Bits string) flags fits = fits
bits_short _ flags fits = tt

state_short : (value : Value) (flags : StatusFlags) → IfAny AreShort (state_told value flags)
state_short (values.Enumerated n) flags = tt
state_short (values.Unsigned n) flags = tt
state_short _ flags = tt

command_short : (command feedback : Option Value) (flags : StatusFlags) → IfAny IsShortValue command → IfAny IsShortValue feedback → IfAny AreShort (command_told command feedback flags)
command_short (Some command) (Some feedback) flags one other = (one, other)
command_short (Some command) None flags one other = tt
command_short None feedback flags one other = tt

range_short : (value : Value) (limit : Option ℕ) (flags : StatusFlags) → IfAny AreShort (range_told value limit flags)
range_short (values.Unsigned n) (Some limit) flags = tt
range_short (values.Unsigned n) None flags = tt
range_short _ limit flags = tt

signed_short : (value : Value) (deadband : ℕ) (limit : Option ℤ) (flags : StatusFlags) → IfAny AreShort (signed_told value deadband limit flags)
signed_short (values.Signed z) deadband (Some limit) flags = tt
signed_short (values.Signed z) deadband None flags = tt
signed_short _ deadband limit flags = tt

unsigned_short : (value : Value) (deadband : ℕ) (limit : Option ℕ) (flags : StatusFlags) → IfAny AreShort (unsigned_told value deadband limit flags)
unsigned_short (values.Unsigned n) deadband (Some limit) flags = tt
unsigned_short (values.Unsigned n) deadband None flags = tt
unsigned_short _ deadband limit flags = tt

texts_short : (value : Value) (alarm : Option (List ℕ)) (flags : StatusFlags) → FitsValue value → IfAny HasShortText alarm → IfAny AreShort (text_told value alarm flags)
texts_short (values.Text text) (Some alarm) flags fits short = (fits, short)
texts_short (values.Text text) None flags fits short = tt
texts_short _ alarm flags fits short = tt

algorithm_short : (algorithm : Algorithm) (facts : Facts) (made : Move) (cause : Option ℕ) (flags : StatusFlags) → FitsFacts facts → IfAny AreShort (algorithm_values algorithm facts made cause flags)
algorithm_short ChangeOfBitstring facts made cause flags fits = bits_short facts.value flags fits.value
algorithm_short ChangeOfState facts made cause flags fits = state_short facts.value flags
algorithm_short CommandFailure facts made cause flags fits =
    command_short (one_value facts.value) (option_and_then one_value facts.feedback) flags (one_short facts.value fits.value) (one_if_any facts.feedback fits.feedback)
algorithm_short UnsignedRange facts made cause flags fits = range_short facts.value (option_and_then as_unsigned (exceeded_limit made facts)) flags
algorithm_short SignedOutOfRange facts made cause flags fits = signed_short facts.value facts.deadband (option_and_then as_signed (exceeded_limit made facts)) flags
algorithm_short UnsignedOutOfRange facts made cause flags fits = unsigned_short facts.value facts.deadband (option_and_then as_unsigned (exceeded_limit made facts)) flags
algorithm_short ChangeOfCharacterstring facts made cause flags fits =
    texts_short facts.value (option_and_then text_in (told_alarm made facts cause)) flags fits.value (text_if_any (told_alarm made facts cause) (alarm_fits facts.alarm_values (cause_on made.to facts cause) fits.alarm_values))

told_by : (by_fault : Bool) (algorithm : Algorithm) (facts : Facts) (made : Move) (cause : Option ℕ) (reliability : Reliability) (flags : StatusFlags) (present : Option Value) → FitsFacts facts → IfSome present FitsValue →
    IfAny AreShort (if by_fault then Some (reliability_values reliability flags present) else algorithm_values algorithm facts made cause flags)
told_by true algorithm facts made cause reliability flags present fits present_fits = one_if_any present present_fits
told_by false algorithm facts made cause reliability flags present fits present_fits = algorithm_short algorithm facts made cause flags fits

-- ---- the text of a transition

not_empty_short : (text : List ℕ) → FitsText text → IfAny HasShortText (if_not_empty text)
not_empty_short [] fits = tt
not_empty_short (octet ∷ octets) fits = fits

told_short : (texts : List (List ℕ)) (place : ℕ) → All FitsText texts → IfAny HasShortText (option_and_then if_not_empty (slice_get texts place))
told_short [] place all = tt
told_short (text ∷ texts) zero all = not_empty_short text (All-head FitsText text texts all)
told_short (text ∷ texts) (suc place) all = told_short texts place (All-tail FitsText text texts all)

-- ---- the properties of all objects

abbrev pub FitsRow : Row → Type 0
FitsRow row = FitsObject row.site

pub record AllFit (objects : ObjectsState) : Type 0 where
  pub rows : All FitsRow objects.rows
  pub enrollments : All FitsEnrollment objects.enrollments

module _ (objects : ObjectsState) (fit : AllFit objects) where
  row_fits : (object : ObjectIdData) → IfSome (row_of object objects.rows) FitsRow
  row_fits object = found FitsRow (λ (row : Row). is_object object row.site.object) objects.rows fit.rows

  value_by : (row : Option Row) → IfSome row FitsRow → IfSome (option_map (λ (r : Row). r.site.value) row) FitsValue
  value_by None fits = tt
  value_by (Some row) fits = fits.value

  value_fits : (object : ObjectIdData) → IfSome (value_in objects.rows object) FitsValue
  value_fits object = value_by (row_of object objects.rows) (row_fits object)

  feedback_fits : (feedback : Option ObjectIdData) → IfSome (option_and_then (value_in objects.rows) feedback) FitsValue
  feedback_fits None = tt
  feedback_fits (Some object) = value_fits object

  facts_of_fit : (row : Option Row) → IfSome row FitsRow → IfSome (facts_of_row row) FitsFacts
  facts_of_fit None fits = tt
  facts_of_fit (Some row) fits = record { value = fits.value; feedback = tt; alarm_values = fits.alarm_values }

  seen_fit : (site : EnrollmentSite) (value : Option Value) → IfSome value FitsValue →
      IfSome (option_map (λ v. facts_of_enrollment v (option_and_then (value_in objects.rows) site.feedback) site) value) FitsFacts
  seen_fit site None fits = tt
  seen_fit site (Some value) fits = record { value = fits; feedback = feedback_fits site.feedback; alarm_values = All-nil FitsValue }

  facts_by_fit : (object : ObjectIdData) (listed : Option EnrollmentSite) → IfSome (facts_by_site listed object objects.rows) FitsFacts
  facts_by_fit object None = facts_of_fit (row_of object objects.rows) (row_fits object)
  facts_by_fit object (Some site) = seen_fit site (value_in objects.rows site.monitored) (value_fits site.monitored)

  texts_by_fit : (site : Option EnrollmentSite) (row : Option Row) → IfSome site FitsEnrollment → IfSome row FitsRow → All FitsText (texts_by site row)
  texts_by_fit (Some site) row site_fits row_fits = site_fits
  texts_by_fit None (Some row) site_fits row_fits = row_fits.texts
  texts_by_fit None None site_fits row_fits = All-nil FitsText

  texts_fit : (object : ObjectIdData) → All FitsText (texts_in object objects)
  texts_fit object =
      texts_by_fit (site_of object objects.enrollments) (row_of object objects.rows)
      (found FitsEnrollment (λ (site : EnrollmentSite). is_object object site.object) objects.enrollments fit.enrollments) (row_fits object)

  facts_fit : (object : ObjectIdData) → IfSome (facts_at object objects) FitsFacts
  facts_fit object = facts_by_fit object (site_of object objects.enrollments)

-- ---- a transition

-- what is told of it is short: its text, and its values
pub record TellsShort (transition : StateTransition) : Type 0 where
  pub text : IfAny HasShortText (text_of transition)
  pub values : IfAny AreShort (values_of transition)

present_fits : (listed : Option EnrollmentSite) (transition : StateTransition) → AllFit transition.values → IfSome (told_value listed transition) FitsValue
present_fits None transition fit = value_fits transition.values fit transition.object
present_fits (Some site) transition fit = tt

tells_by : (transition : StateTransition) (facts : Option Facts) → IfSome facts FitsFacts → AllFit transition.values →
    let listed = site_of transition.object transition.values.enrollments in
    IfAny AreShort
    (option_and_then
    (λ facts. values_at (algorithm_with transition.object transition.values.enrollments) facts (move_of transition) transition.cause (reliability_at transition.object transition.values) (told_flags listed transition) (told_value listed transition))
    facts)
tells_by transition None fits fit = tt
tells_by transition (Some facts) fits fit =
    let listed = site_of transition.object transition.values.enrollments in
    told_by transition.by_fault (algorithm_with transition.object transition.values.enrollments) facts (move_of transition) transition.cause (reliability_at transition.object transition.values) (told_flags listed transition) (told_value listed transition)
    fits (present_fits listed transition fit)

pub tells_short : (transition : StateTransition) → AllFit transition.values → TellsShort transition
tells_short transition fit = record {
  text = told_short (texts_in transition.object transition.values) (place_of_transition (transition_to transition.to)) (texts_fit transition.values fit transition.object);
  values = tells_by transition (facts_at transition.object transition.values) (facts_fit transition.values fit transition.object) fit;
}

-- its record
pub record_short : (site : Site) (transition : StateTransition) (subject : Subject) (class : Class) → TellsShort transition → length (written_notification (notification_of site transition subject class)) ≤ 1_024
record_short site transition subject class short = note_short (notification_of site transition subject class) (stamp_size (site_zone site) transition.moment) short.text short.values

-- ---- the notes

to_all : (facts : Notification) (recipients : List DestinationData) → length facts.stamp.octets ≡ 8 → IfAny HasShortText facts.text → IfAny AreShort facts.values → All IsShort (map (note_to facts) recipients)
to_all facts [] eight text told = All-nil IsShort
to_all facts (recipient ∷ recipients) eight text told =
    All-cons IsShort (note_to facts recipient) (map (note_to facts) recipients) (note_short (told_to recipient.process facts) eight text told) (to_all facts recipients eight text told)

told_all : (make : Subject × Class → List Note) → ((to : Subject × Class) → All IsShort (make to)) → (told : Option (Subject × Class)) → All IsShort (flat_map make (option_to_list told))
told_all make short None = All-nil IsShort
told_all make short (Some to) = All-append IsShort (make to) [] (short to) (All-nil IsShort)

module _ (site : Site) (classes : List Class) where
  transition_notes : (transition : StateTransition) → TellsShort transition → All IsShort (notes_of_transition site classes transition)
  transition_notes transition short =
      told_all (λ (to : Subject × Class). notes_for (notification_of site transition to.0 to.1) to.1.destinations (transition_to transition.to) transition.moment (site_zone site))
      (λ to. to_all (notification_of site transition to.0 to.1) (chosen_destinations to.1.destinations (transition_to transition.to) transition.moment (site_zone site)) (stamp_size (site_zone site) transition.moment) short.text short.values)
      (addressed classes transition)

  transitions_notes : (transitions : List StateTransition) → All TellsShort transitions → All IsShort (notes_of_transitions site classes transitions)
  transitions_notes [] all = All-nil IsShort
  transitions_notes (transition ∷ transitions) all =
      All-append IsShort (notes_of_transition site classes transition) (notes_of_transitions site classes transitions) (transition_notes transition (All-head TellsShort transition transitions all))
      (transitions_notes transitions (All-tail TellsShort transition transitions all))

  acknowledgement_notes : (moment : ℕ) (subject : Option Subject) (transition : Transition) (named : EventState) → All IsShort (notes_of_acknowledgement site classes moment subject transition named)
  acknowledgement_notes moment subject transition named =
      let facts = λ (to : Subject × Class). acknowledgement_notification (source_of site to.0) to.1 named (site_stamp site moment) in
      told_all (λ (to : Subject × Class). notes_for (facts to) to.1.destinations transition moment (site_zone site))
      (λ to. to_all (facts to) (chosen_destinations to.1.destinations transition moment (site_zone site)) (stamp_size (site_zone site) moment) tt tt)
      (option_and_then (with_class classes) subject)

  pub notes_short : (objects : ObjectsState) (moment : ℕ) (act : Act) (transitions : List StateTransition) → All TellsShort transitions → All IsShort (notes_by site classes objects moment act transitions)
  notes_short objects moment (Ack object transition named) transitions all = acknowledgement_notes moment (subject_in object objects) transition named
  notes_short objects moment Tick transitions all = transitions_notes transitions all
  notes_short objects moment (Write change) transitions all = transitions_notes transitions all
  notes_short objects moment Pump transitions all = transitions_notes transitions all
  notes_short objects moment (Answer peer invoke kind) transitions all = transitions_notes transitions all
  notes_short objects moment (Edit number recipients) transitions all = transitions_notes transitions all
