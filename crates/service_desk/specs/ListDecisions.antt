-- What becomes of AddListElement and RemoveListElement (ANSI/ASHRAE 135-2020, 15.1 and 15.2).
use Rattle.std.specs.Prelude.{ℕ, ◌==◌, ◌&&◌, ◌||◌, Bool, if◌then◌else◌, Option, Some, None, Result, Ok, Err, List}
use Rattle.bac_values.specs.Errors.{property_is_not_a_list_error, unknown_object_error, write_access_denied_error}
use Rattle.bac_values.specs.Identifier.{ObjectIdData, number_of_kind}
use Rattle.bac_values.specs.Properties.{alarm_values_property, fault_values_property, recipient_list_property}
use Rattle.bac_values.specs.Reasons.{other_reason}
use Rattle.bac_values.specs.declared.object_kind.ObjectKind.TheVariants.{MultiStateValue}
use Rattle.bac_values.specs.declared.service_error.ServiceError.{ServiceError}
use Rattle.bac_tags.specs.declared.malformed.Malformed.{Malformed}
use Rattle.notify_class.specs.Recipients.{DestinationData}
use Rattle.notify_class.specs.declared.class.Class.{Class}
use Rattle.outbox.specs.Outboxes.{peers_of}
use Rattle.property_values.specs.declared.content.ReadFault.{ReadFault}
use Rattle.property_values.specs.declared.content.ReadFault.TheVariants as read_faults
use Rattle.list_binding.specs.Edits.{EditAnswer, LimitsData, are_same}
use Rattle.list_binding.specs.EditSteps.{edit_of}
use Rattle.list_binding.specs.Requests.{ListAsked}
use Rattle.list_binding.specs.RequestSteps.{list_request_of}
use Rattle.alarm_core.specs.declared.event.Act.TheVariants.{Edit}
use Rattle.alarm_core.specs.declared.event.Event.{Event}
use Rattle.alarm_core.specs.Allowed.{members_of, room_beside}
use Rattle.alarm_core.specs.Classes.{class_in}
use Rattle.alarm_core.specs.Contents.{recipients_of}
use Rattle.alarm_core.specs.Reading.{read_of}
use Rattle.alarm_core.specs.State.{CoreState}
use Rattle.service_desk.specs.declared.decision.Decision.{Decision}
use Rattle.service_desk.specs.declared.decision.Decision.TheVariants.{Reply, Enter}
use Rattle.service_desk.specs.Replies.{abort, list_error, reject, simple_ack}
use Rattle.service_desk.specs.Requesters.{RequesterData}

-- ---- the object and the property

-- Alarm_Values and Fault_Values of a multi-state value are lists (12.20)
abbrev pub is_list_of_values : ObjectIdData → ℕ → Bool
is_list_of_values object number = object.number == number_of_kind MultiStateValue && (number == alarm_values_property || number == fault_values_property)

-- the elements of Recipient_List can be edited, and those of the lists of a multi-state value can't; no other property is a list
abbrev pub list_verdict : ObjectIdData → ℕ → Option ServiceError
list_verdict object number =
    if number == recipient_list_property then None
    else (if is_list_of_values object number then Some write_access_denied_error else Some property_is_not_a_list_error)

-- an index of an array is as good as any other: 0, which each array has, stands for it
abbrev pub any_index : Option ℕ → Option ℕ
any_index (Some index) = Some 0
any_index None = None

-- no such object, no such property, and an index where there is no array, are the errors of a read of the same; no reading ends for want of memory
abbrev pub property_verdict : ObjectIdData → ℕ → Result (List ℕ) ReadFault → Option ServiceError
property_verdict object number (Ok octets) = list_verdict object number
property_verdict object number (Err (read_faults.Error class code)) = Some (record { class = class; code = code })
property_verdict object number (Err read_faults.NoMemory) = Some unknown_object_error

-- why the elements of a property aren't edited, whatever they are
abbrev pub property_error : CoreState → ObjectIdData → ℕ → Option ℕ → Option ServiceError
property_error state object number index = property_verdict object number (read_of state object number (any_index index))

-- ---- the list

-- the limits of the list of a class: the peers that are known, how many objects have the class, and what the other classes leave of the outbox
abbrev pub limits_in : CoreState → ℕ → LimitsData
limits_in state number = record { known = peers_of state.outbox.posts; members = members_of state number; room = room_beside state number }

-- an error that is that of no element
abbrev pub of_no_element : ServiceError → EditAnswer
of_no_element error = Err (record { error = error; element = 0 })

-- the list that the edit leaves of that of a class, or the error of the first element that fails
abbrev pub class_answer : CoreState → ℕ → Bool → List ℕ → Option Class → EditAnswer
class_answer state number adding elements (Some class) = edit_of (limits_in state number) state.site.bindings class.destinations adding elements
class_answer state number adding elements None = of_no_element unknown_object_error

-- the object and the property are looked at before any element
abbrev pub answer_unless : CoreState → ℕ → Bool → List ℕ → Option ServiceError → EditAnswer
answer_unless state number adding elements (Some error) = of_no_element error
answer_unless state number adding elements None = class_answer state number adding elements (class_in number state.classes)

abbrev pub list_answer : CoreState → Bool → ListAsked → EditAnswer
list_answer state adding asked = answer_unless state asked.object.instance adding asked.elements (property_error state asked.object asked.property asked.index)

-- ---- the decision

-- the list of the class with an instance
abbrev pub list_in : CoreState → ℕ → List DestinationData
list_in state number = recipients_of (class_in number state.classes)

abbrev pub edit_at : ℕ → ℕ → List DestinationData → Event
edit_at moment number recipients = record { moment = moment; act = Edit number recipients }

-- a list that stays as it is is no event
abbrev pub edited_decision : ℕ → RequesterData → ℕ → List DestinationData → EditAnswer → Decision
edited_decision moment requester number list (Err refused) = Reply (list_error requester refused.error refused.element)
edited_decision moment requester number list (Ok left) =
    if are_same left list then Reply (simple_ack requester)
    else Enter (edit_at moment number left) (Some (simple_ack requester)) (Some (abort requester other_reason))

-- by its parameters, as they were read
abbrev pub list_with : CoreState → ℕ → RequesterData → Bool → Result ListAsked Malformed → Decision
list_with state moment requester adding (Err refusal) = Reply (reject requester refusal.reject)
list_with state moment requester adding (Ok asked) = edited_decision moment requester asked.object.instance (list_in state asked.object.instance) (list_answer state adding asked)

-- of AddListElement, which adds, and of RemoveListElement, which doesn't
abbrev pub list_decision : CoreState → ℕ → RequesterData → Bool → List ℕ → Decision
list_decision state moment requester adding parameters = list_with state moment requester adding (list_request_of parameters)
