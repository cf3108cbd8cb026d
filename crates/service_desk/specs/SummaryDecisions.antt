-- What becomes of GetAlarmSummary, GetEnrollmentSummary and ReadPropertyMultiple (ANSI/ASHRAE 135-2020, 13.10, 13.11 and 15.7).
use Rattle.std.specs.Prelude.{ℕ, ◌-◌, Option, Result, Ok, Err, List, [], ◌∷◌}
use Rattle.bac_values.specs.Identifier.{ObjectIdData}
use Rattle.bac_values.specs.Reasons.{too_many_arguments_reason}
use Rattle.bac_tags.specs.declared.malformed.Malformed.{Malformed}
use Rattle.property_values.specs.declared.content.ReadFault.{ReadFault}
use Rattle.property_values.specs.declared.content.ReadFault.TheVariants as read_faults
use Rattle.summaries.specs.Many.{properties_of}
use Rattle.summaries.specs.ManyRequests.{ObjectAsked}
use Rattle.summaries.specs.ManySteps.{groups_of}
use Rattle.summaries.specs.RequestSteps.{enrollment_request_of}
use Rattle.summaries.specs.Summaries.{alarm_summary_of, enrollment_summary_of}
use Rattle.summaries.specs.declared.filter.Filter.{Filter}
use Rattle.summaries.specs.declared.part.Part.{Part}
use Rattle.summaries.specs.declared.part.Part.TheVariants.{Octets, Error}
use Rattle.alarm_core.specs.AlarmRows.{alarm_rows}
use Rattle.alarm_core.specs.Classes.{class_in}
use Rattle.alarm_core.specs.Reading.{read_of}
use Rattle.alarm_core.specs.State.{CoreState}
use Rattle.notify_class.specs.declared.class.Class.{Class}
use Rattle.service_desk.specs.declared.decision.Decision.{Decision}
use Rattle.service_desk.specs.declared.decision.Decision.TheVariants.{Reply}
use Rattle.service_desk.specs.Requesters.{RequesterData}
use Rattle.service_desk.specs.Replies.{complex_ack, reject}

-- ---- what summaries see of a state

-- the class with an instance, with its list as the edits have left it
abbrev pub classes_in : CoreState → ℕ → Option Class
classes_in state instance = class_in instance state.classes

-- what is read of a property; no reading ends for want of memory
abbrev pub part_read : Result (List ℕ) ReadFault → Part
part_read (Ok octets) = Octets octets
part_read (Err (read_faults.Error class code)) = Error class code
part_read (Err read_faults.NoMemory) = Error 0 0

abbrev pub reads_in : CoreState → ObjectIdData → ℕ → Option ℕ → Part
reads_in state object number index = part_read (read_of state object number index)

-- the octets of a result that an answer to the requester has room for, behind its header of three
abbrev pub result_room : RequesterData → ℕ
result_room requester = requester.max_apdu - 3

-- ---- the decisions

-- GetAlarmSummary (13.10) has no parameters
abbrev pub alarm_summary_decision : CoreState → RequesterData → List ℕ → Decision
alarm_summary_decision state requester [] = Reply (complex_ack requester (alarm_summary_of (alarm_rows state)))
alarm_summary_decision state requester (octet ∷ octets) = Reply (reject requester too_many_arguments_reason)

-- GetEnrollmentSummary (13.11)
abbrev pub enrollment_summary_with : CoreState → RequesterData → Result Filter Malformed → Decision
enrollment_summary_with state requester (Err refusal) = Reply (reject requester refusal.reject)
enrollment_summary_with state requester (Ok filter) = Reply (complex_ack requester (enrollment_summary_of (alarm_rows state) (classes_in state) filter))

abbrev pub enrollment_summary_decision : CoreState → RequesterData → List ℕ → Decision
enrollment_summary_decision state requester parameters = enrollment_summary_with state requester (enrollment_request_of parameters)

-- ReadPropertyMultiple (15.7)
abbrev pub many_with : CoreState → RequesterData → Result (List ObjectAsked) Malformed → Decision
many_with state requester (Err refusal) = Reply (reject requester refusal.reject)
many_with state requester (Ok groups) = Reply (complex_ack requester (properties_of (reads_in state) groups))

abbrev pub many_decision : CoreState → RequesterData → List ℕ → Decision
many_decision state requester parameters = many_with state requester (groups_of parameters)
