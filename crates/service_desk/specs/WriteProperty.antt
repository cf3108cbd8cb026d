-- What becomes of WriteProperty (ANSI/ASHRAE 135-2020, 15.9).
use Rattle.std.specs.Prelude.{ℕ, Some, Result, Ok, Err, List}
use Rattle.bac_values.specs.Reasons.{other_reason}
use Rattle.bac_tags.specs.declared.malformed.Malformed.{Malformed}
use Rattle.property_services.specs.declared.requests.WriteRequest.{WriteRequest}
use Rattle.property_services.specs.ReadingSteps.{write_property_of}
use Rattle.object_table.specs.declared.change.Change.{Change}
use Rattle.object_table.specs.declared.faults.WriteFault.{WriteFault}
use Rattle.object_table.specs.declared.faults.WriteFault.TheVariants as write_faults
use Rattle.alarm_core.specs.declared.event.Act.TheVariants.{Write}
use Rattle.alarm_core.specs.declared.event.Event.{Event}
use Rattle.alarm_core.specs.Reading.{write_of}
use Rattle.alarm_core.specs.State.{CoreState}
use Rattle.service_desk.specs.declared.decision.Decision.{Decision}
use Rattle.service_desk.specs.declared.decision.Decision.TheVariants.{Reply, Enter}
use Rattle.service_desk.specs.Replies.{abort, simple_ack, error_numbered, reject}
use Rattle.service_desk.specs.Requesters.{RequesterData}

abbrev pub write_at : ℕ → Change → Event
write_at moment change = record { moment = moment; act = Write change }

-- a write that makes a change, or the error; no verdict on a write is want of memory
abbrev pub change_decision : ℕ → RequesterData → Result Change WriteFault → Decision
change_decision moment requester (Ok change) = Enter (write_at moment change) (Some (simple_ack requester)) (Some (abort requester other_reason))
change_decision moment requester (Err (write_faults.Error class code)) = Reply (error_numbered requester class code)
change_decision moment requester (Err write_faults.NoMemory) = Reply (abort requester other_reason)

-- by its parameters, as they were read
abbrev pub write_with : CoreState → ℕ → RequesterData → Result WriteRequest Malformed → Decision
write_with state moment requester (Err refusal) = Reply (reject requester refusal.reject)
write_with state moment requester (Ok request) = change_decision moment requester (write_of state request.object request.property.0 request.index request.value)

abbrev pub write_decision : CoreState → ℕ → RequesterData → List ℕ → Decision
write_decision state moment requester parameters = write_with state moment requester (write_property_of parameters)
