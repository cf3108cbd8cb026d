-- The errors of AddListElement and RemoveListElement in their order, each with its condition (ANSI/ASHRAE 135-2020, 15.1, 15.2 and clause 18).
use Rattle.std.specs.Prelude.{◌≡◌, ℕ, ◌==◌, ◌||◌, Bool, true, false, not, Option, Some, None, Ok, Err, List, [], ◌∷◌}
use Rattle.bac_values.specs.Errors.{property_is_not_a_list_error, property_is_not_an_array_error, unknown_object_error, unknown_property_error, write_access_denied_error}
use Rattle.bac_values.specs.Identifier.{ObjectIdData}
use Rattle.bac_values.specs.Properties.{recipient_list_property}
use Rattle.bac_values.specs.Services.{add_list_element_service, remove_list_element_service}
use Rattle.bac_values.specs.declared.note.Send.{Send}
use Rattle.bac_values.specs.declared.service_error.ServiceError.{ServiceError}
use Rattle.apdu_frame.specs.Writing.{written_list_error}
use Rattle.notify_class.specs.declared.class.Class.{Class}
use Rattle.list_binding.specs.Edits.{EditAnswer, EditsTo}
use Rattle.list_binding.specs.Requests.{ListAsked}
use Rattle.alarm_core.specs.Classes.{class_in}
use Rattle.alarm_core.specs.State.{CoreState}
use Rattle.service_desk.specs.declared.decision.Decision.{Decision}
use Rattle.service_desk.specs.declared.decision.Decision.TheVariants.{Reply}
use Rattle.service_desk.specs.ListDecisions.{is_list_of_values, limits_in}
use Rattle.service_desk.specs.Replies.{reply_to}
use Rattle.profile_laws.specs.ErrorTables.{Asker, HasNoError}
use Rattle.profile_laws.specs.PropertyErrors.{is_indexed_without_array, is_unknown_object, is_unknown_property, size_in}
use Rattle.profile_laws.specs.PropertyTables.{property_of}

-- the number of the service, which adds or removes
abbrev pub editing_service : Bool → ℕ
editing_service true = add_list_element_service
editing_service false = remove_list_element_service

-- the property is no list: it is neither Recipient_List nor one of those of a multi-state value
abbrev pub is_no_list : ObjectIdData → ℕ → Bool
is_no_list object number = not (number == recipient_list_property || is_list_of_values object number)

-- the errors of the object and of the property; an index of an array isn't looked at
abbrev pub list_errors : CoreState → ListAsked → List (Bool × ServiceError)
list_errors state asked =
    let property = property_of state asked.object asked.property in
    (is_unknown_object state asked.object, unknown_object_error)
    ∷ (is_unknown_property property, unknown_property_error)
    ∷ (is_indexed_without_array (size_in property) asked.index, property_is_not_an_array_error)
    ∷ (is_no_list asked.object asked.property, property_is_not_a_list_error)
    ∷ (is_list_of_values asked.object asked.property, write_access_denied_error)
    ∷ []

-- a ChangeList-Error as the answer (clause 21), with the number of the element that failed, or 0
abbrev pub list_error_to : Asker → ℕ → ServiceError → ℕ → Send
list_error_to asker service error element = reply_to asker.peer (written_list_error asker.invoke service error.class error.code element)

-- what the edit of the list comes to is the answer: the error of an element, or none
abbrev pub IsAnsweredAs : Asker → ℕ → EditAnswer → Decision → Type 0
IsAnsweredAs asker service (Err refused) decision = decision ≡ Reply (list_error_to asker service refused.error refused.element)
IsAnsweredAs asker service (Ok left) decision = HasNoError asker service decision

-- the class whose list is edited is there, and what the edit of it comes to is the answer
pub record IsEdited (state : CoreState) (asker : Asker) (adding : Bool) (asked : ListAsked) (decision : Decision) : Type 0 where
  pub class : Class
  pub there : class_in asked.object.instance state.classes ≡ Some class
  pub answered : (answer : EditAnswer) → EditsTo (limits_in state asked.object.instance) state.site.bindings class.destinations adding asked.elements answer → IsAnsweredAs asker (editing_service adding) answer decision

-- a request is answered with the first error that applies to its object and its property, if one does, and else by its elements
abbrev pub IsListAnswered : CoreState → Asker → Bool → ListAsked → Option ServiceError → Decision → Type 0
IsListAnswered state asker adding asked (Some error) decision = decision ≡ Reply (list_error_to asker (editing_service adding) error 0)
IsListAnswered state asker adding asked None decision = IsEdited state asker adding asked decision
