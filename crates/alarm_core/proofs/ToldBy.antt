-- What is told of a move and of an acknowledgement, by what is found of the object's class.
use Rattle.std.proofs.Common.{◌≡◌, ℕ, Bool, true, false, if◌then◌else◌, Option, Some, None, option_and_then, List, [], ◌∷◌, map, refl, sym, ap, ◌∙◌}
use Rattle.civil_stamp.specs.LocalTime.{ZoneData, LocalMomentData}
use Rattle.std.specs.List.{find, flat_map}
use Rattle.std.specs.Option.{option_map, option_map_or, option_to_list}
use Rattle.std.proofs.lemmas.List.{append-nil}
use Rattle.std.proofs.lemmas.List.Folds.{flat_map-map}
use Rattle.std.proofs.Math.Path.{fun_ext}
use Rattle.bac_values.specs.EventStates.{transition_to}
use Rattle.bac_values.specs.Identifier.{ObjectIdData}
use Rattle.bac_values.specs.declared.event_state.EventState.{EventState}
use Rattle.bac_values.specs.declared.event_state.EventState.TheVariants.{Normal}
use Rattle.bac_values.specs.declared.note.Note.{Note}
use Rattle.bac_values.specs.declared.reliability.Reliability.{Reliability}
use Rattle.bac_values.specs.declared.stamp.Stamp.{Stamp}
use Rattle.bac_values.specs.declared.status_flags.StatusFlags.{StatusFlags}
use Rattle.bac_values.specs.declared.transition.Transition.{Transition}
use Rattle.bac_values.specs.declared.value.Value.{Value}
use Rattle.algorithm_rules.specs.declared.table.Algorithm.{Algorithm}
use Rattle.algorithm_rules.specs.Facts.{Facts}
use Rattle.event_services.specs.declared.notification.EventValues.{EventValues}
use Rattle.event_services.specs.declared.notification.Notification.{Notification}
use Rattle.note_maker.specs.declared.source.Source.{Source}
use Rattle.note_maker.specs.Notes.{notes_for}
use Rattle.note_maker.specs.Shapes.{acknowledgement_notification}
use Rattle.note_maker.specs.Told.{values_at}
use Rattle.notify_class.specs.declared.class.Class.{Class}
use Rattle.object_table.specs.Rows.{is_object}
use Rattle.enrollment.specs.Enrollments.{site_of}
use Rattle.enrollment.specs.Snapshots.{algorithm_with}
use Rattle.enrollment.specs.declared.subject.Subject.{Subject}
use Rattle.enrollment.specs.Objects.{facts_at, reliability_at}
use Rattle.enrollment.specs.Subjects.{is_enabled, subject_in}
use Rattle.alarm_core.specs.declared.site.Site.{Site}
use Rattle.event_log.specs.declared.log_site.LogSite.{LogSite}
use Rattle.alarm_core.specs.declared.transition.ObjectTransition.{ObjectTransition}
use Rattle.alarm_core.specs.Found.{detected_object_in}
use Rattle.alarm_core.specs.History.{ObjectState, StateTransition, state_in}
use Rattle.alarm_core.specs.CoreSteps.{state_of_detected, states_of}
use Rattle.alarm_core.specs.Notes.{addressed, class_for, move_of, notes_of_acknowledgement, notes_of_transition, notes_of_transitions, notification_of, source_of, told_flags, told_value, values_of, with_class}
use Rattle.alarm_core.specs.Evaluations.{site_moment, site_stamp, site_zone}
use Rattle.alarm_core.specs.State.{DetectedObjectState}
use Rattle.alarm_core.specs.Logs.{record_of_transition, records_of, SiteLogState}
use Rattle.alarm_core.specs.ViewSteps.{addressed_in, notes_to, record_to, transition_in, AddressedData, SiteViewData}
use Rattle.alarm_core.proofs.Flattened.{flat_map-flat_map}

-- what is made of each, where it is mapped before
each_mapped : {X Y Z : Type 0} (f : Y → List Z) (g : X → Y) (x : Option X) → flat_map f (option_to_list (option_map g x)) ≡ flat_map (λ x. f (g x)) (option_to_list x)
each_mapped f g None = refl
each_mapped f g (Some x) = refl

-- the event state of an object is that of its alarm
abbrev pub state_shown : Option DetectedObjectState → EventState
state_shown (Some detected) = detected.alarm.state
state_shown None = Normal

either_state : (b : Bool) (detected : DetectedObjectState) (listed : Option ObjectState) (rest : Option DetectedObjectState) → option_map_or (λ (found : ObjectState). found.state) listed Normal ≡ state_shown rest →
    option_map_or (λ (found : ObjectState). found.state) (if b then Some (state_of_detected detected) else listed) Normal ≡ state_shown (if b then Some detected else rest)
either_state true detected listed rest e = refl
either_state false detected listed rest e = e

pub state_is_shown : (object : ObjectIdData) (alarms : List DetectedObjectState) → state_in object (states_of alarms) ≡ state_shown (detected_object_in object alarms)
state_is_shown object [] = refl
state_is_shown object (detected ∷ alarms) =
    either_state (is_object object detected.object) detected (find (λ (listed : ObjectState). is_object object listed.object) (states_of alarms)) (detected_object_in object alarms) (state_is_shown object alarms)

-- what is told of a transition at its point, by what its algorithm looks at
pub values_missing : (transition : StateTransition) → facts_at transition.object transition.values ≡ None → None ≡ values_of transition
values_missing transition e =
    let listed = site_of transition.object transition.values.enrollments in
    sym (ap (option_and_then (λ facts. values_at (algorithm_with transition.object transition.values.enrollments) facts (move_of transition) transition.cause (reliability_at transition.object transition.values) (told_flags listed transition) (told_value listed transition))) e)

pub values_found : (transition : StateTransition) (facts : Facts) (algorithm : Algorithm) (reliability : Reliability) (flags : StatusFlags) (value : Option Value) (values : Option EventValues) →
    facts_at transition.object transition.values ≡ Some facts → algorithm ≡ algorithm_with transition.object transition.values.enrollments → reliability ≡ reliability_at transition.object transition.values →
    flags ≡ told_flags (site_of transition.object transition.values.enrollments) transition → value ≡ told_value (site_of transition.object transition.values.enrollments) transition →
    values ≡ values_at algorithm facts (move_of transition) transition.cause reliability flags value → values ≡ values_of transition
values_found transition facts algorithm reliability flags value values f a r g v e =
    let listed = site_of transition.object transition.values.enrollments in
    let told : values_at algorithm facts (move_of transition) transition.cause reliability flags value
    ≡ values_at (algorithm_with transition.object transition.values.enrollments) facts (move_of transition) transition.cause (reliability_at transition.object transition.values) (told_flags listed transition) (told_value listed transition) =
    λ k. values_at (a k) facts (move_of transition) transition.cause (r k) (g k) (v k) in
    e ∙ (told ∙ sym (ap (option_and_then (λ facts. values_at (algorithm_with transition.object transition.values.enrollments) facts (move_of transition) transition.cause (reliability_at transition.object transition.values) (told_flags listed transition) (told_value listed transition))) f))

-- the notification of a transition with the class whose recipients are told
abbrev as_told : SiteViewData → StateTransition → Option (Subject × Class) → Option AddressedData
as_told seen transition told = option_map (λ (to : Subject × Class). record { class = to.1; kind = transition_to transition.to; facts = notification_of seen.site transition to.0 to.1 }) told

-- of what is found under its identifier
abbrev found_as : SiteViewData → StateTransition → Option Subject → Option (Subject × Class)
found_as seen transition found = option_and_then (λ subject. if is_enabled (transition_to transition.to) subject then with_class seen.classes subject else None) found

abbrev paired : Subject → Option Class → Option (Subject × Class)
paired subject class = option_map (λ class. (subject, class)) class

either_none : (b : Bool) (told : Option (Subject × Class)) → told ≡ None → (if b then told else None) ≡ None
either_none true told e = e
either_none false told e = refl

module _ (seen : SiteViewData) (transition : StateTransition) where
  pub told_nowhere : subject_in transition.object transition.values ≡ None → None ≡ addressed_in seen transition
  told_nowhere s = sym (ap (λ found. as_told seen transition (found_as seen transition found)) s)

  pub told_disabled : (subject : Subject) → subject_in transition.object transition.values ≡ Some subject → is_enabled (transition_to transition.to) subject ≡ false → None ≡ addressed_in seen transition
  told_disabled subject s e =
      sym (ap (λ found. as_told seen transition (found_as seen transition found)) s ∙ ap (λ b. as_told seen transition (if b then with_class seen.classes subject else None)) e)

  pub told_classless : (subject : Subject) → subject_in transition.object transition.values ≡ Some subject → class_for subject seen.classes ≡ None → None ≡ addressed_in seen transition
  told_classless subject s e =
      sym (ap (λ found. as_told seen transition (found_as seen transition found)) s
      ∙ ap (as_told seen transition) (either_none (is_enabled (transition_to transition.to) subject) (with_class seen.classes subject) (ap (paired subject) e)))

  pub told_move : (subject : Subject) (class : Class) (facts : Notification) (kind : Transition) →
      subject_in transition.object transition.values ≡ Some subject → is_enabled kind subject ≡ true → class_for subject seen.classes ≡ Some class →
      facts ≡ notification_of seen.site transition subject class → kind ≡ transition_to transition.to →
      Some (record { class = class; kind = kind; facts = facts }) ≡ addressed_in seen transition
  told_move subject class facts kind u e f p s =
      let enabled : is_enabled (transition_to transition.to) subject ≡ true = ap (λ k. is_enabled k subject) (sym s) ∙ e in
      (λ k. Some (record { class = class; kind = s k; facts = p k }))
      ∙ sym (ap (λ found. as_told seen transition (found_as seen transition found)) u
      ∙ (ap (λ b. as_told seen transition (if b then with_class seen.classes subject else None)) enabled
      ∙ ap (λ c. as_told seen transition (paired subject c)) f))

  -- its notes, and its record in a log
  pub notes_same : (at : LocalMomentData) → at ≡ site_moment seen.site transition.moment → flat_map (notes_to at) (option_to_list (addressed_in seen transition)) ≡ notes_of_transition seen.site seen.classes transition
  notes_same at e =
      ap (λ a. flat_map (notes_to a) (option_to_list (addressed_in seen transition))) e
      ∙ each_mapped (notes_to (site_moment seen.site transition.moment)) (λ (to : Subject × Class). record { class = to.1; kind = transition_to transition.to; facts = notification_of seen.site transition to.0 to.1 }) (addressed seen.classes transition)

  pub record_same : (at : LocalMomentData) (listed : LogSite) → at ≡ site_moment seen.site transition.moment →
      flat_map (record_to at listed) (option_to_list (addressed_in seen transition)) ≡ record_of_transition seen.site seen.classes listed transition
  record_same at listed e =
      ap (λ a. flat_map (record_to a listed) (option_to_list (addressed_in seen transition))) e
      ∙ each_mapped (record_to (site_moment seen.site transition.moment) listed) (λ (to : Subject × Class). record { class = to.1; kind = transition_to transition.to; facts = notification_of seen.site transition to.0 to.1 }) (addressed seen.classes transition)

-- those of all transitions of a look
module _ (seen : SiteViewData) (at : LocalMomentData) (here : at ≡ site_moment seen.site seen.moment) where
  made_of_all : {A : Type 0} (f : AddressedData → List A) (g : StateTransition → List A) →
      ((transition : ObjectTransition) → flat_map f (option_to_list (addressed_in seen (transition_in seen transition))) ≡ g (transition_in seen transition)) →
      (transitions : List ObjectTransition) → flat_map f (flat_map (λ transition. option_to_list (addressed_in seen (transition_in seen transition))) transitions) ≡ flat_map g (map (transition_in seen) transitions)
  made_of_all f g same transitions =
      flat_map-flat_map f (λ transition. option_to_list (addressed_in seen (transition_in seen transition))) transitions
      ∙ (ap (λ h. flat_map h transitions) (fun_ext same)
      ∙ sym (flat_map-map g (transition_in seen) transitions))

  pub all_notes : (transitions : List ObjectTransition) (told : List AddressedData) (notes : List Note) →
      told ≡ flat_map (λ transition. option_to_list (addressed_in seen (transition_in seen transition))) transitions → notes ≡ flat_map (notes_to at) told →
      notes ≡ notes_of_transitions seen.site seen.classes (map (transition_in seen) transitions)
  all_notes transitions told notes t e =
      e ∙ (ap (flat_map (notes_to at)) t
      ∙ made_of_all (notes_to at) (notes_of_transition seen.site seen.classes) (λ transition. notes_same seen (transition_in seen transition) at here) transitions)

  pub all_records : (transitions : List ObjectTransition) (told : List AddressedData) (logs : List SiteLogState) →
      told ≡ flat_map (λ transition. option_to_list (addressed_in seen (transition_in seen transition))) transitions →
      map (λ (kept : SiteLogState). flat_map (record_to at kept.site) told) logs ≡ map (λ (kept : SiteLogState). records_of seen.site seen.classes kept.site (map (transition_in seen) transitions)) logs
  all_records transitions told logs t =
      ap (λ f. map f logs) (fun_ext (λ (kept : SiteLogState). ap (flat_map (record_to at kept.site)) t
      ∙ made_of_all (record_to at kept.site) (record_of_transition seen.site seen.classes kept.site) (λ transition. record_same seen (transition_in seen transition) at kept.site here) transitions))

-- ---- of an acknowledgement

module _ (site : Site) (classes : List Class) (moment : ℕ) (transition : Transition) (named : EventState) where
  abbrev acknowledged_to : Option (Subject × Class) → List Note
  acknowledged_to told =
      flat_map (λ (to : Subject × Class). notes_for (acknowledgement_notification (source_of site to.0) to.1 named (site_stamp site moment)) to.1.destinations transition moment (site_zone site)) (option_to_list told)

  pub acknowledged_nowhere : (found : Option Subject) → found ≡ None → [] ≡ notes_of_acknowledgement site classes moment found transition named
  acknowledged_nowhere found s = sym (ap (λ f. acknowledged_to (option_and_then (with_class classes) f)) s)

  pub acknowledged_classless : (found : Option Subject) (subject : Subject) → found ≡ Some subject → class_for subject classes ≡ None → [] ≡ notes_of_acknowledgement site classes moment found transition named
  acknowledged_classless found subject s e = sym (ap (λ f. acknowledged_to (option_and_then (with_class classes) f)) s ∙ ap (λ c. acknowledged_to (paired subject c)) e)

  pub told_acknowledgement : (found : Option Subject) (subject : Subject) (class : Class) (source : Source) (stamp : Stamp) (zone : ZoneData) →
      found ≡ Some subject → class_for subject classes ≡ Some class → source ≡ source_of site subject → stamp ≡ site_stamp site moment → zone ≡ site_zone site →
      notes_for (acknowledgement_notification source class named stamp) class.destinations transition moment zone ≡ notes_of_acknowledgement site classes moment found transition named
  told_acknowledgement found subject class source stamp zone s f p q t =
      let notes = notes_for (acknowledgement_notification (source_of site subject) class named (site_stamp site moment)) class.destinations transition moment (site_zone site) in
      let given : notes_for (acknowledgement_notification source class named stamp) class.destinations transition moment zone ≡ notes =
      λ k. notes_for (acknowledgement_notification (p k) class named (q k)) class.destinations transition moment (t k) in
      given ∙ (sym (append-nil notes) ∙ sym (ap (λ f. acknowledged_to (option_and_then (with_class classes) f)) s ∙ ap (λ c. acknowledged_to (paired subject c)) f))
