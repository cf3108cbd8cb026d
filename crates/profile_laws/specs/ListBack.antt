-- A list that was edited, as it is read then, and elements that were added and are removed (ANSI/ASHRAE 135-2020, 15.1, 15.2 and 15.5).
use Rattle.std.specs.Prelude.{◌≡◌, ℕ, Bool, true, false, Option, Some, None, Ok, List}
use Rattle.std.specs.List.{All, flat_map}
use Rattle.bac_values.specs.Properties.{recipient_list_property}
use Rattle.bac_values.specs.Reasons.{other_reason}
use Rattle.bac_values.specs.declared.note.Send.{Send}
use Rattle.apdu_frame.specs.Writing.{written_abort, written_simple_ack}
use Rattle.notify_class.specs.Recipients.{DestinationData}
use Rattle.notify_class.specs.declared.class.Class.{Class}
use Rattle.property_services.specs.declared.requests.ReadRequest.{ReadRequest}
use Rattle.property_values.specs.ClassProperties.{written_recipient}
use Rattle.list_binding.specs.Edits.{EditsTo, ReadsAs, is_in}
use Rattle.list_binding.specs.Requests.{ListAsked, SpellsListRequest}
use Rattle.alarm_core.specs.Allowed.{IsHistory}
use Rattle.alarm_core.specs.Classes.{class_in}
use Rattle.alarm_core.specs.CoreSteps.{next_state}
use Rattle.alarm_core.specs.Sites.{IsSite}
use Rattle.alarm_core.specs.State.{CoreState, state_of}
use Rattle.alarm_core.specs.declared.event.Event.{Event}
use Rattle.alarm_core.specs.declared.site.Site.{Site}
use Rattle.service_desk.specs.Answers.{Entered, answer_of}
use Rattle.service_desk.specs.declared.decision.Decision.TheVariants.{Enter}
use Rattle.service_desk.specs.ListDecisions.{edit_at, limits_in}
use Rattle.service_desk.specs.Replies.{reply_to}
use Rattle.profile_laws.specs.ErrorTables.{AreOctets, Asker, decision_for}
use Rattle.profile_laws.specs.ListErrors.{editing_service}
use Rattle.profile_laws.specs.ReadBack.{IsReadAs}

-- octets are a request to add elements to a list or to remove them, and in this state it is answered as an event, with its acknowledgement
pub record IsEditEntered (state : CoreState) (adding : Bool) (asked : ListAsked) (event : Event) : Type 0 where
  pub moment : ℕ
  pub asker : Asker
  pub parameters : List ℕ
  pub octets : AreOctets parameters
  pub spelled : SpellsListRequest parameters asked
  pub acknowledgement : Option Send
  pub entered : answer_of state (decision_for state moment asker (editing_service adding) parameters) ≡ Entered event acknowledgement

-- a read of the Recipient_List of the object whose list was edited
abbrev pub AsksForList : ListAsked → ReadRequest → Type 0
AsksForList asked reference = (reference.object ≡ asked.object) × (reference.property.0 ≡ recipient_list_property) × (reference.index ≡ None)

-- Behind a history: what the edit of the list of the class leaves is what is read of it in the state behind the event.
abbrev pub ReadsBackEdits : Type 0
ReadsBackEdits =
    (site : Site) → IsSite site → (history : List Event) → IsHistory site history → (adding : Bool) (asked : ListAsked) (event : Event) → IsEditEntered (state_of site history) adding asked event →
    (class : Class) → class_in asked.object.instance (state_of site history).classes ≡ Some class →
    (left : List DestinationData) → EditsTo (limits_in (state_of site history) asked.object.instance) site.bindings class.destinations adding asked.elements (Ok left) →
    (reference : ReadRequest) → AsksForList asked reference → IsReadAs (next_state event (state_of site history)) reference (flat_map written_recipient left)

-- Elements that were added to a list in which none of them was are removed by the same parameters: that is the event by which the list is again what it was.
abbrev pub UndoesWhatWasAdded : Type 0
UndoesWhatWasAdded =
    (site : Site) → IsSite site → (history : List Event) → IsHistory site history → (asked : ListAsked) (event : Event) → IsEditEntered (state_of site history) true asked event →
    (class : Class) → class_in asked.object.instance (state_of site history).classes ≡ Some class →
    (elements : List DestinationData) → ReadsAs site.bindings asked.elements (Ok elements) → All (λ element. is_in class.destinations element ≡ false) elements →
    (moment : ℕ) (asker : Asker) (parameters : List ℕ) → AreOctets parameters → SpellsListRequest parameters asked →
    decision_for (next_state event (state_of site history)) moment asker (editing_service false) parameters
    ≡ Enter (edit_at moment asked.object.instance class.destinations) (Some (reply_to asker.peer (written_simple_ack asker.invoke (editing_service false)))) (Some (reply_to asker.peer (written_abort asker.invoke other_reason)))
