-- At a tick each object gives at most one notification to each recipient of its class.
use Rattle.std.proofs.Common.{◌≡◌, ℕ, ◌≤◌, Bool, true, false, if◌then◌else◌, Option, Some, None, option_and_then, List, [], ◌∷◌, ◌++◌, length, sym, ap, ◌∙◌, subst, arith}
use Rattle.std.specs.List.{All, flat_map, sum_by}
use Rattle.std.specs.Option.{option_map, option_to_list}
use Rattle.std.proofs.lemmas.List.{append-nil, length-map}
use Rattle.std.proofs.lemmas.List.Concat.{length-flat_map}
use Rattle.std.proofs.lemmas.List.Elements.{All-weaker}
use Rattle.std.proofs.lemmas.List.Folds.{flat_map-map}
use Rattle.std.proofs.lemmas.List.Sums.{count_by-le-length, length-filter}
use Rattle.bac_values.specs.EventStates.{transition_to}
use Rattle.bac_values.specs.declared.note.Note.{Note}
use Rattle.event_machine.specs.declared.moves.Move.{Move}
use Rattle.note_maker.specs.Notes.{note_to, notes_for}
use Rattle.notify_class.specs.Chosen.{chosen_destinations}
use Rattle.notify_class.specs.Recipients.{DestinationData}
use Rattle.notify_class.specs.Windows.{is_in_window}
use Rattle.notify_class.specs.declared.class.Class.{Class}
use Rattle.enrollment.specs.declared.subject.Subject.{Subject}
use Rattle.enrollment.specs.Subjects.{is_detecting, is_enabled, subject_in}
use Rattle.enrollment.specs.Objects.{ObjectsState}
use Rattle.alarm_core.specs.declared.event.Event.{Event}
use Rattle.alarm_core.specs.declared.site.Site.{Site}
use Rattle.alarm_core.specs.declared.transition.ObjectTransition.{ObjectTransition}
use Rattle.alarm_core.specs.Classes.{class_in, classes_after}
use Rattle.alarm_core.specs.CoreSteps.{change_at, evaluated_all, next_notes, states_of, transitions_all, transitions_by}
use Rattle.alarm_core.specs.History.{Occurrence, ObjectState, StateTransition, object_transition, occurrences_of, tick_at, transition_of, values_after}
use Rattle.alarm_core.specs.Notes.{class_for, notes_of_transition, notes_of_transitions, notification_of, with_class}
use Rattle.alarm_core.specs.Evaluations.{site_moment, site_zone}
use Rattle.alarm_core.specs.Sites.{IsSite}
use Rattle.alarm_core.specs.State.{alarms_of, state_of, detected_object_of}
use Rattle.alarm_core.specs.Subjects.{detecting_subjects, subjects_of}
use Rattle.alarm_core.proofs.Flattened.{flat_map-flat_map}
use Rattle.alarm_core.proofs.OwnSubjects.{IsOwn, own_detecting}
use Rattle.alarm_core.proofs.Settled.{IsSettled, moved_once, settled_after}
use Rattle.alarm_core.proofs.Shares.{recipients_in, sum_of_some, sum_within, weight}
use Rattle.alarm_core.proofs.Stays.{class_after, class_of}

module _ (site : Site) (classes : List Class) where
  -- the notes of a transition to who is told, if anybody is
  notes_with : StateTransition → Option (Subject × Class) → List Note
  notes_with transition told =
      flat_map (λ (to : Subject × Class). notes_for (notification_of site transition to.0 to.1) to.1.destinations (transition_to transition.to) transition.moment (site_zone site)) (option_to_list told)

  class_told : (transition : StateTransition) (subject : Subject) (class : Option Class) → length (notes_with transition (option_map (λ class. (subject, class)) class)) ≤ recipients_in class
  unfolding notes_with
  class_told transition subject None = omega arith
  class_told transition subject (Some class) =
      let facts = notification_of site transition subject class in
      let to = transition_to transition.to in
      let zone = site_zone site in
      let notes = notes_for facts class.destinations to transition.moment zone in
      let in_window : DestinationData → Bool = λ recipient. is_in_window recipient to transition.moment zone in
      let whole : length (notes ++ []) ≡ length notes = ap length (append-nil notes) in
      omega (arith, whole, length-map (chosen_destinations class.destinations to transition.moment zone) (note_to facts), length-filter in_window class.destinations, count_by-le-length in_window class.destinations)

  enabled_told : (transition : StateTransition) (enabled : Bool) (told : Option (Subject × Class)) (most : ℕ) → length (notes_with transition told) ≤ most → length (notes_with transition (if enabled then told else None)) ≤ most
  unfolding notes_with
  enabled_told transition true told most few = few
  enabled_told transition false told most few = omega arith

  subject_told : (transition : StateTransition) (now : Subject) → length (notes_with transition (if is_enabled (transition_to transition.to) now then with_class classes now else None)) ≤ weight classes now
  subject_told transition now =
      let class = class_for now classes in
      enabled_told transition (is_enabled (transition_to transition.to) now) (with_class classes now) (recipients_in class) (class_told transition now class)

  -- what is found under the identifier of a subject has its class
  found_told : (transition : StateTransition) (subject : Subject) (found : Option Subject) → option_map class_of found ≡ Some subject.class →
      length (notes_with transition (option_and_then (λ now. if is_enabled (transition_to transition.to) now then with_class classes now else None) found)) ≤ weight classes subject
  found_told transition subject None same = cc
  found_told transition subject (Some now) same =
      let class : now.class ≡ subject.class = cc in
      let weighs : weight classes now ≡ weight classes subject = ap (λ number. recipients_in (option_and_then (λ n. class_in n classes) number)) class in
      omega (arith, subject_told transition now, weighs)

  transition_told : (transition : StateTransition) (subject : Subject) → option_map class_of (subject_in transition.object transition.values) ≡ Some subject.class →
      length (notes_of_transition site classes transition) ≤ weight classes subject
  unfolding notes_with
  transition_told transition subject same = found_told transition subject (subject_in transition.object transition.values) same

  -- of one move at most
  moves_told : (told : Move → List Note) (most : ℕ) → ((made : Move) → length (told made) ≤ most) → (moves : List Move) → length moves ≤ 1 → length (flat_map told moves) ≤ most
  moves_told told most few [] once = omega arith
  moves_told told most few (made ∷ []) once = subst (λ notes. length notes ≤ most) (sym (append-nil (told made))) (few made)
  moves_told told most few (made ∷ more ∷ moves) once = absurd (omega arith)

  -- the notes of a transition of an object
  pub made_notes : ℕ → ObjectsState → List ObjectState → ObjectTransition → List Note
  made_notes moment values states transition = notes_of_transition site classes (transition_of moment values states transition)

  object_told : (moment : ℕ) (values : ObjectsState) (states : List ObjectState) (w : List Occurrence) (subject : Subject) →
      option_map class_of (subject_in subject.object values) ≡ Some subject.class → IsSettled site subject values w →
      length (flat_map (made_notes moment values states) (transitions_by (site_moment site moment) values (detected_object_of site w subject))) ≤ weight classes subject
  unfolding made_notes
  object_told moment values states w subject class settled =
      let detected = detected_object_of site w subject in
      let make : Move → ObjectTransition = object_transition subject.object detected.alarm.cause in
      let moves = (change_at (site_moment site moment) values detected).moves in
      subst (λ notes. length notes ≤ weight classes subject) (sym (flat_map-map (made_notes moment values states) make moves))
      (moves_told (λ made. made_notes moment values states (make made)) (weight classes subject)
      (λ made. transition_told (transition_of moment values states (make made)) subject class) moves (moved_once site subject moment values w settled))

-- a subject of a site has its class after each history
pub own_class : (site : Site) (subject : Subject) → IsOwn site subject → (history : List Event) → option_map class_of (subject_in subject.object (values_after site history)) ≡ Some subject.class
own_class site subject own history = class_after site subject.object history ∙ ap (option_map class_of) own.found

-- the notifications of a tick
pub tick_told : (site : Site) → IsSite site → (history : List Event) (moment : ℕ) →
    length (next_notes (tick_at moment) (state_of site history)) ≤ sum_by (weight (classes_after site history)) (subjects_of site)
unfolding made_notes
tick_told site is history moment =
    let classes = classes_after site history in
    let values = values_after site history in
    let w = occurrences_of site history in
    let at = site_moment site moment in
    let states = states_of (evaluated_all at values (alarms_of site w)) in
    let made : Subject → List ObjectTransition = λ subject. transitions_by at values (detected_object_of site w subject) in
    let told : Subject → List Note = λ subject. flat_map (made_notes site classes moment values states) (made subject) in
    let Few : Subject → Type 0 = λ subject. length (told subject) ≤ weight classes subject in
    let subjects = detecting_subjects site in
    let few : All Few subjects =
    All-weaker (IsOwn site) Few (λ subject own. object_told site classes moment values states w subject (own_class site subject own history) (settled_after site subject own history)) subjects (own_detecting site is) in
    let all : List ObjectTransition = flat_map (transitions_by at values) (alarms_of site w) in
    let whole : next_notes (tick_at moment) (state_of site history) ≡ flat_map told subjects =
    ap (notes_of_transitions site classes) (append-nil (transitions_all at values (alarms_of site w)))
    ∙ (flat_map-map (notes_of_transition site classes) (transition_of moment values states) all
    ∙ (ap (flat_map (made_notes site classes moment values states)) (flat_map-map (transitions_by at values) (detected_object_of site w) subjects)
    ∙ flat_map-flat_map (made_notes site classes moment values states) made subjects)) in
    omega (arith, ap length whole, length-flat_map told subjects, sum_within (λ subject. length (told subject)) (weight classes) subjects few, sum_of_some (weight classes) is_detecting (subjects_of site))
