-- What becomes of ReadProperty (ANSI/ASHRAE 135-2020, 15.5).
use Rattle.std.specs.Prelude.{ℕ, Result, Ok, Err, List}
use Rattle.bac_values.specs.Reasons.{other_reason}
use Rattle.bac_values.specs.declared.note.Send.{Send}
use Rattle.bac_tags.specs.declared.malformed.Malformed.{Malformed}
use Rattle.property_services.specs.declared.requests.ReadRequest.{ReadRequest}
use Rattle.property_services.specs.ReadingSteps.{read_property_of}
use Rattle.property_services.specs.Writing.{written_read_ack}
use Rattle.property_values.specs.declared.content.ReadFault.{ReadFault}
use Rattle.property_values.specs.declared.content.ReadFault.TheVariants as read_faults
use Rattle.alarm_core.specs.Reading.{read_of}
use Rattle.alarm_core.specs.State.{CoreState}
use Rattle.service_desk.specs.declared.decision.Decision.{Decision}
use Rattle.service_desk.specs.declared.decision.Decision.TheVariants.{Reply}
use Rattle.service_desk.specs.Replies.{abort, complex_ack, error_numbered, reject}
use Rattle.service_desk.specs.Requesters.{RequesterData}

-- a property that was read, or the error; no reading ends for want of memory
abbrev pub read_reply : RequesterData → ReadRequest → Result (List ℕ) ReadFault → Send
read_reply requester request (Ok octets) = complex_ack requester (written_read_ack request octets)
read_reply requester request (Err (read_faults.Error class code)) = error_numbered requester class code
read_reply requester request (Err read_faults.NoMemory) = abort requester other_reason

-- by its parameters, as they were read
abbrev pub read_with : CoreState → RequesterData → Result ReadRequest Malformed → Decision
read_with state requester (Err refusal) = Reply (reject requester refusal.reject)
read_with state requester (Ok request) = Reply (read_reply requester request (read_of state request.object request.property.0 request.index))

abbrev pub read_decision : CoreState → RequesterData → List ℕ → Decision
read_decision state requester parameters = read_with state requester (read_property_of parameters)
