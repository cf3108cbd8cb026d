-- Notes go to peers that are known.
use Rattle.std.proofs.Common.{ℕ, Bool, true, false, cond, if◌then◌else◌, Option, Some, None, option_and_then, List, [], ◌∷◌}
use Rattle.std.specs.List.{All, find, flat_map}
use Rattle.std.specs.Option.{IfSome, option_map, option_to_list}
use Rattle.std.specs.Prelude.{◌==◌}
use Rattle.std.proofs.lemmas.List.Elements.{All-nil, All-cons, All-head, All-tail, All-append, All-filter, All-map}
use Rattle.bac_values.specs.Address.{PeerData}
use Rattle.bac_values.specs.EventStates.{transition_to}
use Rattle.bac_values.specs.declared.event_state.EventState.{EventState}
use Rattle.bac_values.specs.declared.note.Note.{Note}
use Rattle.bac_values.specs.declared.transition.Transition.{Transition}
use Rattle.civil_stamp.specs.LocalTime.{ZoneData}
use Rattle.event_services.specs.declared.notification.Notification.{Notification}
use Rattle.note_maker.specs.Notes.{note_to, notes_for}
use Rattle.note_maker.specs.Shapes.{acknowledgement_notification}
use Rattle.notify_class.specs.Edits.{recipient_peers}
use Rattle.notify_class.specs.Chosen.{chosen_destinations}
use Rattle.notify_class.specs.Recipients.{DestinationData}
use Rattle.notify_class.specs.Windows.{is_in_window}
use Rattle.notify_class.specs.declared.class.Class.{Class}
use Rattle.enrollment.specs.declared.subject.Subject.{Subject}
use Rattle.enrollment.specs.Subjects.{is_enabled, subject_in}
use Rattle.enrollment.specs.Objects.{ObjectsState}
use Rattle.alarm_core.specs.declared.event.Act.{Act}
use Rattle.alarm_core.specs.declared.event.Act.TheVariants.{Tick, Write, Ack, Pump, Answer, Edit}
use Rattle.alarm_core.specs.declared.event.Event.{Event}
use Rattle.alarm_core.specs.declared.site.Site.{Site}
use Rattle.alarm_core.specs.Classes.{class_in, classes_after, known_peers_of}
use Rattle.alarm_core.specs.Deliveries.{event_notes, notes_by}
use Rattle.alarm_core.specs.History.{StateTransition, event_transitions, values_after}
use Rattle.alarm_core.specs.Notes.{addressed, class_for, notes_of_acknowledgement, notes_of_transition, notes_of_transitions, notification_of, source_of, with_class}
use Rattle.alarm_core.specs.Evaluations.{site_stamp, site_zone}
use Rattle.alarm_core.specs.Known.{Knows, KnowsClass}
use Rattle.alarm_core.proofs.KnownPeers.{classes_known}

-- a note goes to a known peer
abbrev pub GoesTo : List PeerData → Note → Type 0
GoesTo known note = Knows known note.peer

unmapped : (known : List PeerData) (recipients : List DestinationData) → All (Knows known) (recipient_peers recipients) → All (λ (recipient : DestinationData). Knows known recipient.peer) recipients
unmapped known [] h = All-nil (λ (recipient : DestinationData). Knows known recipient.peer)
unmapped known (recipient ∷ recipients) h =
    All-cons (λ (recipient : DestinationData). Knows known recipient.peer) recipient recipients (All-head (Knows known) recipient.peer (recipient_peers recipients) h)
    (unmapped known recipients (All-tail (Knows known) recipient.peer (recipient_peers recipients) h))

notes_go : (known : List PeerData) (facts : Notification) (recipients : List DestinationData) (transition : Transition) (moment : ℕ) (zone : ZoneData) →
    All (Knows known) (recipient_peers recipients) → All (GoesTo known) (notes_for facts recipients transition moment zone)
notes_go known facts recipients transition moment zone h =
    All-map (GoesTo known) (note_to facts) (chosen_destinations recipients transition moment zone)
    (All-filter (λ recipient. is_in_window recipient transition moment zone) (λ (recipient : DestinationData). Knows known recipient.peer) recipients (unmapped known recipients h))

found_by : {X : Type 0} (P : X → Type 0) (b : Bool) (x : X) (rest : Option X) → P x → IfSome rest P → IfSome (cond b (Some x) rest) P
found_by P true x rest h k = h
found_by P false x rest h k = k

pub found : {X : Type 0} (P : X → Type 0) (test : X → Bool) (xs : List X) → All P xs → IfSome (find test xs) P
found P test [] h = tt
found P test (x ∷ xs) h = found_by P (test x) x (find test xs) (All-head P x xs h) (found P test xs (All-tail P x xs h))

class_known : (known : List PeerData) (classes : List Class) → All (KnowsClass known) classes → (number : Option ℕ) → IfSome (option_and_then (λ n. class_in n classes) number) (KnowsClass known)
class_known known classes h None = tt
class_known known classes h (Some n) = found (KnowsClass known) (λ (class : Class). class.instance == n) classes h

-- who is told, if anybody is, has a class whose recipients are known
abbrev IsToldKnown : List PeerData → Option (Subject × Class) → Type 0
IsToldKnown known told = IfSome told (λ to. KnowsClass known to.1)

known_as : (known : List PeerData) (subject : Subject) (class : Option Class) → IfSome class (KnowsClass known) → IsToldKnown known (option_map (λ class. (subject, class)) class)
known_as known subject None k = tt
known_as known subject (Some class) k = k

enabled_known : (known : List PeerData) (b : Bool) (told : Option (Subject × Class)) → IsToldKnown known told → IsToldKnown known (if b then told else None)
enabled_known known true told k = k
enabled_known known false told k = tt

told_go : (known : List PeerData) (make : Subject × Class → List Note) → ((to : Subject × Class) → KnowsClass known to.1 → All (GoesTo known) (make to)) →
    (told : Option (Subject × Class)) → IsToldKnown known told → All (GoesTo known) (flat_map make (option_to_list told))
told_go known make go None k = All-nil (GoesTo known)
told_go known make go (Some to) k = All-append (GoesTo known) (make to) [] (go to k) (All-nil (GoesTo known))

module _ (site : Site) (known : List PeerData) (classes : List Class) (h : All (KnowsClass known) classes) where
  with_class_known : (subject : Subject) → IsToldKnown known (with_class classes subject)
  with_class_known subject = known_as known subject (class_for subject classes) (class_known known classes h subject.class)

  addressed_known : (kind : Transition) (found : Option Subject) → IsToldKnown known (option_and_then (λ subject. if is_enabled kind subject then with_class classes subject else None) found)
  addressed_known kind None = tt
  addressed_known kind (Some subject) = enabled_known known (is_enabled kind subject) (with_class classes subject) (with_class_known subject)

  found_known : (found : Option Subject) → IsToldKnown known (option_and_then (with_class classes) found)
  found_known None = tt
  found_known (Some subject) = with_class_known subject

  transition_go : (transition : StateTransition) → All (GoesTo known) (notes_of_transition site classes transition)
  transition_go transition =
      let kind = transition_to transition.to in
      told_go known (λ (to : Subject × Class). notes_for (notification_of site transition to.0 to.1) to.1.destinations kind transition.moment (site_zone site))
      (λ to k. notes_go known (notification_of site transition to.0 to.1) to.1.destinations kind transition.moment (site_zone site) k)
      (addressed classes transition) (addressed_known kind (subject_in transition.object transition.values))

  transitions_go : (transitions : List StateTransition) → All (GoesTo known) (notes_of_transitions site classes transitions)
  transitions_go [] = All-nil (GoesTo known)
  transitions_go (transition ∷ transitions) =
      All-append (GoesTo known) (notes_of_transition site classes transition) (notes_of_transitions site classes transitions) (transition_go transition) (transitions_go transitions)

  acknowledgement_go : (moment : ℕ) (subject : Option Subject) (transition : Transition) (named : EventState) → All (GoesTo known) (notes_of_acknowledgement site classes moment subject transition named)
  acknowledgement_go moment subject transition named =
      let facts = λ (to : Subject × Class). acknowledgement_notification (source_of site to.0) to.1 named (site_stamp site moment) in
      told_go known (λ (to : Subject × Class). notes_for (facts to) to.1.destinations transition moment (site_zone site))
      (λ to k. notes_go known (facts to) to.1.destinations transition moment (site_zone site) k)
      (option_and_then (with_class classes) subject) (found_known subject)

  pub notes_go_by : (values : ObjectsState) (moment : ℕ) (act : Act) (transitions : List StateTransition) → All (GoesTo known) (notes_by site classes values moment act transitions)
  notes_go_by values moment (Ack object transition named) transitions = acknowledgement_go moment (subject_in object values) transition named
  notes_go_by values moment Tick transitions = transitions_go transitions
  notes_go_by values moment (Write change) transitions = transitions_go transitions
  notes_go_by values moment Pump transitions = transitions_go transitions
  notes_go_by values moment (Answer peer invoke kind) transitions = transitions_go transitions
  notes_go_by values moment (Edit number recipients) transitions = transitions_go transitions

pub notes_known : (site : Site) (event : Event) (older : List Event) → All (GoesTo (known_peers_of site older)) (event_notes site event older)
notes_known site event older =
    notes_go_by site (known_peers_of site older) (classes_after site older) (classes_known site older) (values_after site older) event.moment event.act (event_transitions site event older)
