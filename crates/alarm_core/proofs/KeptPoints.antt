-- The alarms of a site after a history: each is one that an alarm of its object may be.
use Rattle.std.proofs.Common.{◌≡◌, ℕ, ◌<◌, ◌≤◌, Bool, true, false, true≢false, cond, if◌then◌else◌, Option, Some, None, IsNone, is_some, List, [], ◌∷◌, ◌++◌, length, map, nat_lt, refl, sym, ap, ◌∙◌, subst, arith}
use Rattle.std.specs.List.{All, AllZip, position, position_or_len}
use Rattle.std.specs.Option.{IfSome, option_and_then, option_map, option_map_or, option_to_list, unwrap_or}
use Rattle.std.proofs.lemmas.Bool.{ltb-true}
use Rattle.std.proofs.lemmas.List.Elements.{All-head, All-tail}
use Rattle.bac_values.specs.Identifier.{ObjectIdData, kind_of}
use Rattle.bac_values.specs.Moments.{IsMoment}
use Rattle.bac_values.specs.declared.object_kind.ObjectKind.{ObjectKind}
use Rattle.bac_values.specs.declared.object_kind.ObjectKind.TheVariants.{BinaryValue, BitStringValue, CharacterStringValue, IntegerValue, PositiveIntegerValue}
use Rattle.bac_values.specs.declared.transition.Transition.{Transition}
use Rattle.bac_values.specs.declared.value.Value.{Value}
use Rattle.algorithm_rules.specs.declared.table.Algorithm.TheVariants.{CommandFailure}
use Rattle.algorithm_rules.specs.Facts.{Facts}
use Rattle.algorithm_rules.specs.Matches.{alarms_among, matched_in, matches}
use Rattle.event_machine.specs.Points.{Incident, Looked, Acknowledged}
use Rattle.object_table.specs.declared.object_site.ObjectSite.{ObjectSite}
use Rattle.object_table.specs.declared.row.Row.{Row}
use Rattle.object_table.specs.Objects.{IsObject, KeepsAlarmKeys, KeepsAlarmValue}
use Rattle.object_table.specs.Properties.{is_binary, kind_in}
use Rattle.object_table.specs.Rows.{first_row, is_object, row_of, rows_of}
use Rattle.enrollment.specs.declared.enrollment_site.EnrollmentSite.{EnrollmentSite}
use Rattle.enrollment.specs.Enrollments.{IsEnrollment, site_of}
use Rattle.enrollment.specs.Objects.{ObjectsState, facts_at}
use Rattle.enrollment.specs.Snapshots.{algorithm_by_site, algorithm_of, facts_by_site, facts_of_enrollment, facts_of_row, value_in}
use Rattle.enrollment.specs.declared.subject.Subject.{Subject}
use Rattle.enrollment.proofs.Parted.{site_is_of}
use Rattle.alarm_core.specs.declared.event.Act.{Act}
use Rattle.alarm_core.specs.declared.event.Act.TheVariants.{Tick, Write, Ack, Pump, Answer, Edit}
use Rattle.alarm_core.specs.declared.event.Event.{Event}
use Rattle.alarm_core.specs.declared.site.Site.{Site}
use Rattle.alarm_core.specs.Allowed.{IsHistory}
use Rattle.alarm_core.specs.Evaluations.{first_point, no_facts, point_with, site_moment}
use Rattle.alarm_core.specs.Fits.{FitsEvent}
use Rattle.alarm_core.specs.History.{Occurrence, AllEvaluated, incidents_of, last_moment_of, occurrences_of, occurrences_with, values_after, values_with}
use Rattle.alarm_core.specs.SiteStates.{IsAlarmOf, IsDetectedOf, IsRowOf, alarm_values_in, alarm_values_of}
use Rattle.alarm_core.specs.Sites.{IsSite}
use Rattle.alarm_core.specs.State.{alarms_of, detected_object_of, state_of}
use Rattle.alarm_core.specs.Subjects.{ack_required_of, detecting_subjects}
use Rattle.alarm_core.specs.Values.{first_values}
use Rattle.alarm_core.proofs.KeptAlarms.{alarm_is}
use Rattle.alarm_core.proofs.KeptDetections.{AreSeen, Suits}
use Rattle.alarm_core.proofs.KeptRows.{rows_kept}
use Rattle.alarm_core.proofs.NotesGo.{found}
use Rattle.alarm_core.proofs.OwnSubjects.{IsOwn, own_detecting}
use Rattle.alarm_core.proofs.TypesApart.{HasNoValue, no_row}

-- ---- how many alarm values an object has

is_none_some : {X : Type 0} (one : Option X) → IsNone one → is_some one ≡ false
is_none_some None none = refl
is_none_some (Some x) none = absurd (true≢false none)

alarm_by_kind : (kind : Option ObjectKind) (alarm : Option Value) → KeepsAlarmValue kind alarm → is_some alarm ≡ is_binary kind
alarm_by_kind (Some BinaryValue) (Some value) keeps = refl
alarm_by_kind (Some BinaryValue) None keeps = absurd keeps
alarm_by_kind _ alarm keeps = is_none_some alarm keeps

-- objects of one kind, with a class or both without one, have an alarm value alike
alarm_alike : (kind : Option ObjectKind) (class : Option ℕ) (a b : ObjectSite) → KeepsAlarmKeys kind class a → KeepsAlarmKeys kind class b → is_some a.alarm_value ≡ is_some b.alarm_value
alarm_alike kind (Some class) a b one other = alarm_by_kind kind a.alarm_value one.alarm_value ∙ sym (alarm_by_kind kind b.alarm_value other.alarm_value)
alarm_alike kind None a b one other = is_none_some a.alarm_value one.alarm_value ∙ sym (is_none_some b.alarm_value other.alarm_value)

row_alike : (site : ObjectSite) (row : Row) → IsObject site → IsRowOf site row → alarm_values_in row ≡ alarm_values_in (first_row site)
row_alike site row is kept =
    let kind : kind_in row.site ≡ kind_in site = ap (λ (s : ObjectSite). kind_in s) kept.same in
    let class : row.site.class ≡ site.class = ap (λ (s : ObjectSite). s.class) kept.same in
    let keys = subst (λ c. KeepsAlarmKeys (kind_in site) c row.site) class (subst (λ k. KeepsAlarmKeys k row.site.class row.site) kind kept.takes.site.alarm) in
    ap (λ b. if b then 1 else length row.site.alarm_values) (alarm_alike (kind_in site) site.class row.site site keys is.alarm)
    ∙ ap (λ (s : ObjectSite). if is_some site.alarm_value then 1 else length s.alarm_values) kept.same

values_by : (object : ObjectIdData) (site : ObjectSite) (row : Row) (rest first : Option Row) → (b : Bool) → alarm_values_in row ≡ alarm_values_in (first_row site) →
    option_map_or alarm_values_in rest 0 ≡ option_map_or alarm_values_in first 0 →
    option_map_or alarm_values_in (cond b (Some row) rest) 0 ≡ option_map_or alarm_values_in (cond b (Some (first_row site)) first) 0
values_by object site row rest first true one more = one
values_by object site row rest first false one more = more

values_alike : (object : ObjectIdData) (sites : List ObjectSite) (table : List Row) → All IsObject sites → AllZip IsRowOf sites table →
    option_map_or alarm_values_in (row_of object table) 0 ≡ option_map_or alarm_values_in (row_of object (rows_of sites)) 0
values_alike object [] [] all zip = refl
values_alike object [] (row ∷ table) all zip = absurd zip
values_alike object (site ∷ sites) [] all zip = absurd zip
values_alike object (site ∷ sites) (row ∷ table) all zip =
    let same : is_object object row.site.object ≡ is_object object site.object = ap (λ (s : ObjectSite). is_object object s.object) zip.0.same in
    ap (λ b. option_map_or alarm_values_in (cond b (Some row) (row_of object table)) 0) same
    ∙ values_by object site row (row_of object table) (row_of object (rows_of sites)) (is_object object site.object) (row_alike site row (All-head IsObject site sites all) zip.0)
    (values_alike object sites table (All-tail IsObject site sites all) zip.1)

-- ---- an alarm value that matches is one of the object's

below_by : (place size : ℕ) (b : Bool) → nat_lt place size ≡ b → IfSome (cond b (Some place) None) (λ p. p < size)
below_by place size true e = ltb-true place size e
below_by place size false e = tt

below : (test : Value → Bool) (xs : List Value) → IfSome (position test xs) (λ place. place < length xs)
below test xs = below_by (position_or_len test xs) (length xs) (nat_lt (position_or_len test xs) (length xs)) refl

-- an alarm value that matches at these facts is one of so many
abbrev Matches : ℕ → Facts → Type 0
Matches size facts = IfSome (matched_in facts) (λ place. place < size)

matched_by : (site : ObjectSite) (alarm : Option Value) →
    IfSome (position (λ a. matches site.mask a site.value) (alarms_among alarm site.alarm_values)) (λ place. place < (if is_some alarm then 1 else length site.alarm_values))
matched_by site (Some value) = below (λ a. matches site.mask a site.value) (value ∷ [])
matched_by site None = below (λ a. matches site.mask a site.value) site.alarm_values

matched_row : (row : Option Row) → IfSome (facts_of_row row) (Matches (option_map_or alarm_values_in row 0))
matched_row None = tt
matched_row (Some row) = matched_by row.site row.site.alarm_value

matched_enrollment : (size : ℕ) (site : EnrollmentSite) (rows : List Row) (value : Option Value) →
    IfSome (option_map (λ v. facts_of_enrollment v (option_and_then (value_in rows) site.feedback) site) value) (Matches size)
matched_enrollment size site rows None = tt
matched_enrollment size site rows (Some value) = tt

matched_site : (object : ObjectIdData) (rows : List Row) (found : Option EnrollmentSite) → IfSome (facts_by_site found object rows) (Matches (option_map_or alarm_values_in (row_of object rows) 0))
matched_site object rows None = matched_row (row_of object rows)
matched_site object rows (Some site) = matched_enrollment (option_map_or alarm_values_in (row_of object rows) 0) site rows (value_in rows site.monitored)

-- whatever an object sees with these properties
abbrev MatchesAt : ℕ → ObjectIdData → ObjectsState → Type 0
MatchesAt size object values = IfSome (facts_at object values) (Matches size)

matches_now : (object : ObjectIdData) (values : ObjectsState) → MatchesAt (alarm_values_of object values) object values
matches_now object values = matched_site object values.rows (site_of object values.enrollments)

-- ---- an object with a command failure has no alarm values

never_command : (kind : Option ObjectKind) → algorithm_of kind ≡ CommandFailure → ⊥
never_command (Some BitStringValue) e = cc
never_command (Some CharacterStringValue) e = cc
never_command (Some IntegerValue) e = cc
never_command (Some PositiveIntegerValue) e = cc
never_command _ e = cc

no_value : HasNoValue 9
no_value site h = true≢false (sym h)

module _ (site : Site) (is : IsSite site) (object : ObjectIdData) where
  command_by : (found : Option EnrollmentSite) → site_of object site.enrollments ≡ found → algorithm_by_site found object ≡ CommandFailure → alarm_values_of object (first_values site) ≡ 0
  command_by None e command = absurd (never_command (kind_of object.number) command)
  command_by (Some listed) e command =
      let listed_is : IsEnrollment listed = subst (λ f. IfSome f IsEnrollment) e (found IsEnrollment (λ (s : EnrollmentSite). is_object object s.object) site.enrollments is.enrollments) in
      let number : object.number ≡ 9 = sym (ap (λ (o : ObjectIdData). o.number) (site_is_of object site.enrollments listed e)) ∙ listed_is.number in
      ap (λ row. option_map_or alarm_values_in row 0) (no_row site [] object is.objects (subst HasNoValue (sym number) no_value))

suits : (site : Site) → IsSite site → (subject : Subject) → IsOwn site subject → Suits subject.algorithm (alarm_values_of subject.object (first_values site))
suits site is subject own command = command_by site is subject.object (site_of subject.object site.enrollments) refl (own.algorithm ∙ command)

-- ---- the points of an object

module _ (site : Site) (subject : Subject) (size last : ℕ) where
  Seen : List Incident → Type 0
  Seen incidents = AreSeen size last (first_point site subject) incidents

  look_by : (moment : ℕ) (values : ObjectsState) (facts : Option Facts) (incidents : List Incident) → IsMoment moment → moment ≤ last → IfSome facts (Matches size) → Seen incidents →
      Seen (option_to_list (option_map Looked (option_map (point_with (site_moment site moment) (ack_required_of site subject) subject.object values) facts)) ++ incidents)
  unfolding Seen
  look_by moment values None incidents range past matched seen = seen
  look_by moment values (Some facts) incidents range past matched seen = (record { range = range; past = past; matched = matched }, seen)

  look_seen : (moment : ℕ) (values : ObjectsState) (w : List Occurrence) → IsMoment moment → moment ≤ last → MatchesAt size subject.object values → Seen (incidents_of site subject w) →
      Seen (incidents_of site subject (AllEvaluated moment values ∷ w))
  look_seen moment values w range past matched seen = look_by moment values (facts_at subject.object values) (incidents_of site subject w) range past matched seen

  acknowledged_by : (same : Bool) (transition : Transition) (incidents : List Incident) → Seen incidents → Seen (if same then Acknowledged transition ∷ incidents else incidents)
  unfolding Seen
  acknowledged_by true transition incidents seen = seen
  acknowledged_by false transition incidents seen = seen

  more_seen : (moment : ℕ) (act : Act) (values : ObjectsState) (w : List Occurrence) → IsMoment moment → moment ≤ last → MatchesAt size subject.object values → MatchesAt size subject.object (values_with act values) →
      Seen (incidents_of site subject w) → Seen (incidents_of site subject (occurrences_with moment act values w))
  more_seen moment Tick values w range past before after seen = look_seen moment values w range past before seen
  more_seen moment (Write change) values w range past before after seen =
      look_seen moment (values_with (Write change) values) (AllEvaluated moment values ∷ w) range past after (look_seen moment values w range past before seen)
  more_seen moment (Ack object transition named) values w range past before after seen =
      acknowledged_by (is_object object subject.object) transition (incidents_of site subject w) seen
  more_seen moment Pump values w range past before after seen = seen
  more_seen moment (Answer peer invoke kind) values w range past before after seen = seen
  more_seen moment (Edit number recipients) values w range past before after seen = seen

-- ---- over a history

module _ (site : Site) (is : IsSite site) (object : ObjectIdData) where
  size_kept : (history : List Event) → IsHistory site history → All FitsEvent history → alarm_values_of object (values_after site history) ≡ alarm_values_of object (first_values site)
  size_kept history h fits = values_alike object site.objects (values_after site history).rows is.objects (rows_kept site is history h fits)

  matches_after : (history : List Event) → IsHistory site history → All FitsEvent history → MatchesAt (alarm_values_of object (first_values site)) object (values_after site history)
  matches_after history h fits = subst (λ size. MatchesAt size object (values_after site history)) (size_kept history h fits) (matches_now object (values_after site history))

first_by : (size : ℕ) (facts : Option Facts) → IfSome facts (Matches size) → Matches size (unwrap_or facts no_facts)
first_by size None matched = tt
first_by size (Some facts) matched = matched

-- the last moment isn't before the start
pub begun_by : (site : Site) (history : List Event) → IsHistory site history → site.device.start ≤ last_moment_of site history
begun_by site [] h = omega arith
begun_by site (event ∷ older) h = omega (arith, begun_by site older h.4, h.0)

pub moment_kept : (site : Site) → IsSite site → (history : List Event) → IsHistory site history → IsMoment (last_moment_of site history)
moment_kept site is [] h = is.start
moment_kept site is (event ∷ older) h = h.1

module _ (site : Site) (is : IsSite site) (subject : Subject) (last : ℕ) where
  seen_after : (history : List Event) → IsHistory site history → All FitsEvent history → last_moment_of site history ≤ last →
      AreSeen (alarm_values_of subject.object (first_values site)) last (first_point site subject) (incidents_of site subject (occurrences_of site history))
  unfolding Seen
  seen_after [] h fits past =
      record { range = is.start; past = past; matched = first_by (alarm_values_of subject.object (first_values site)) (facts_at subject.object (first_values site)) (matches_now subject.object (first_values site)) }
  seen_after (event ∷ older) h fits past =
      let older_fits = All-tail FitsEvent event older fits in
      more_seen site subject (alarm_values_of subject.object (first_values site)) last event.moment event.act (values_after site older) (occurrences_of site older) h.1 past
      (matches_after site is subject.object older h.4 older_fits) (matches_after site is subject.object (event ∷ older) h fits)
      (seen_after older h.4 older_fits (omega (arith, h.0, past)))

module _ (site : Site) (is : IsSite site) (history : List Event) (h : IsHistory site history) (fits : All FitsEvent history) where
  detected_is : (subject : Subject) → IsOwn site subject → IsDetectedOf site (state_of site history) subject (detected_object_of site (occurrences_of site history) subject)
  detected_is subject own =
      let size = alarm_values_of subject.object (first_values site) in
      let last = last_moment_of site history in
      let alarm = alarm_is subject.algorithm size last (suits site is subject own) (first_point site subject) (incidents_of site subject (occurrences_of site history))
      (seen_after site is subject last history h fits (omega arith)) in
      record {
        object = refl;
        algorithm = refl;
        ack_required = refl;
        alarm = subst (λ n. IsAlarmOf subject.algorithm n last (detected_object_of site (occurrences_of site history) subject).alarm) (sym (size_kept site is subject.object history h fits)) alarm;
      }

  detected_all : (subjects : List Subject) → All (IsOwn site) subjects → AllZip (IsDetectedOf site (state_of site history)) subjects (map (detected_object_of site (occurrences_of site history)) subjects)
  detected_all [] own = tt
  detected_all (subject ∷ subjects) own = (detected_is subject (All-head (IsOwn site) subject subjects own), detected_all subjects (All-tail (IsOwn site) subject subjects own))

  pub alarms_kept : AllZip (IsDetectedOf site (state_of site history)) (detecting_subjects site) (alarms_of site (occurrences_of site history))
  alarms_kept = detected_all (detecting_subjects site) (own_detecting site is)
