-- The confirmed services that the device carries out (ANSI/ASHRAE 135-2020, clause 21, BACnetConfirmedServiceChoice).
use Rattle.std.specs.Prelude.{ℕ, ◌==◌, Option, List, [], ◌∷◌, find}
use Rattle.bac_values.specs.Services.{acknowledge_alarm_service, add_list_element_service, get_alarm_summary_service, get_enrollment_summary_service, get_event_information_service, read_property_multiple_service, read_property_service, read_range_service, remove_list_element_service, write_property_service}
use Rattle.service_desk.specs.declared.service.Service.{Service}
use Rattle.service_desk.specs.declared.service.Service.TheVariants.{AcknowledgeAlarm, GetAlarmSummary, GetEnrollmentSummary, AddListElement, RemoveListElement, ReadProperty, ReadPropertyMultiple, WriteProperty, ReadRange, GetEventInformation}

abbrev pub number_of_service : Service → ℕ
number_of_service AcknowledgeAlarm = acknowledge_alarm_service
number_of_service GetAlarmSummary = get_alarm_summary_service
number_of_service GetEnrollmentSummary = get_enrollment_summary_service
number_of_service AddListElement = add_list_element_service
number_of_service RemoveListElement = remove_list_element_service
number_of_service ReadProperty = read_property_service
number_of_service ReadPropertyMultiple = read_property_multiple_service
number_of_service WriteProperty = write_property_service
number_of_service ReadRange = read_range_service
number_of_service GetEventInformation = get_event_information_service

-- all of them
abbrev pub services : List Service
services = AcknowledgeAlarm ∷ GetAlarmSummary ∷ GetEnrollmentSummary ∷ AddListElement ∷ RemoveListElement ∷ ReadProperty ∷ ReadPropertyMultiple ∷ WriteProperty ∷ ReadRange ∷ GetEventInformation ∷ []

-- the one with a number; none where the device carries out no service of this number
abbrev pub service_of : ℕ → Option Service
service_of number = find (λ service. number_of_service service == number) services
