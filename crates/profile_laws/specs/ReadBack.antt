-- A property that was written, as it is read then (ANSI/ASHRAE 135-2020, 15.5 and 15.9).
use Rattle.std.specs.Prelude.{◌≡◌, ◌≢◌, ◌≤◌, ℕ, Option, Some, List, [], length}
use Rattle.bac_values.specs.Properties.{record_count_property}
use Rattle.bac_values.specs.Services.{read_property_service, write_property_service}
use Rattle.bac_values.specs.declared.note.Send.{Send}
use Rattle.bac_values.specs.declared.value.Value.TheVariants.{Unsigned}
use Rattle.bac_tags.specs.Writing.{written_value}
use Rattle.apdu_frame.specs.Writing.{written_complex_ack}
use Rattle.property_services.specs.declared.requests.ReadRequest.{ReadRequest}
use Rattle.property_services.specs.declared.requests.WriteRequest.{WriteRequest}
use Rattle.property_services.specs.Requests.{SpellsReadProperty, SpellsWriteProperty, reference_in}
use Rattle.property_services.specs.Writing.{written_read_ack}
use Rattle.event_log.specs.Log.{EventLogState}
use Rattle.alarm_core.specs.declared.event.Event.{Event}
use Rattle.alarm_core.specs.CoreSteps.{next_state, next_transitions}
use Rattle.alarm_core.specs.Logs.{log_in}
use Rattle.alarm_core.specs.State.{CoreState}
use Rattle.service_desk.specs.declared.decision.Decision.TheVariants.{Reply}
use Rattle.service_desk.specs.Answers.{Entered, answer_of}
use Rattle.service_desk.specs.Replies.{reply_to}
use Rattle.profile_laws.specs.ErrorTables.{AreOctets, Asker, decision_for}

-- the ComplexACK of a read (20.1.5, 15.5), which repeats what is read, with these octets as its value
abbrev pub read_ack : Asker → ReadRequest → List ℕ → List ℕ
read_ack asker reference octets = written_complex_ack asker.invoke read_property_service (written_read_ack reference octets)

-- whenever the property is read in this state, however the request is spelled, the octets are the answer to each that takes an APDU so long
abbrev pub IsReadAs : CoreState → ReadRequest → List ℕ → Type 0
IsReadAs state reference octets =
    (moment : ℕ) (asker : Asker) (parameters : List ℕ) → AreOctets parameters → SpellsReadProperty parameters reference → length (read_ack asker reference octets) ≤ asker.max_apdu →
    decision_for state moment asker read_property_service parameters ≡ Reply (reply_to asker.peer (read_ack asker reference octets))

-- octets are a request of WriteProperty, and in this state it is answered as an event, with its acknowledgement
pub record IsWritten (state : CoreState) (request : WriteRequest) (event : Event) : Type 0 where
  pub moment : ℕ
  pub asker : Asker
  pub parameters : List ℕ
  pub octets : AreOctets parameters
  pub spelled : SpellsWriteProperty parameters request
  pub acknowledgement : Option Send
  pub entered : answer_of state (decision_for state moment asker write_property_service parameters) ≡ Entered event acknowledgement

-- What is written is read back in the state behind the event: the same value of the same property and index, in its one spelling.
pub record ReadsBackWrites : Type 0 where
  pub value : (state : CoreState) (request : WriteRequest) (event : Event) → IsWritten state request event → request.property.0 ≢ record_count_property →
      IsReadAs (next_state event state) (reference_in request) (written_value request.value)
  -- where the request spelled the value so, its very octets
  pub octets : (state : CoreState) (request : WriteRequest) (event : Event) (written : IsWritten state request event) → request.property.0 ≢ record_count_property →
      written.spelled.value.inside ≡ written_value request.value → IsReadAs (next_state event state) (reference_in request) written.spelled.value.inside
  -- Record_Count of an event log (12.27) is the one exception: a write of 0 clears the log, the transitions of the write's second point are recorded behind that, and it is read as the number of records that the log has then
  pub record_count : (state : CoreState) (request : WriteRequest) (event : Event) → IsWritten state request event → request.property.0 ≡ record_count_property →
      (log : EventLogState) × (log_in request.object (next_state event state).logs ≡ Some log) × IsReadAs (next_state event state) (reference_in request) (written_value (Unsigned (length log.records)))
  -- it is read back as 0 too where the write comes with no transition that the log could record
  pub cleared : (state : CoreState) (request : WriteRequest) (event : Event) → IsWritten state request event → request.property.0 ≡ record_count_property → next_transitions event state ≡ [] →
      IsReadAs (next_state event state) (reference_in request) (written_value request.value)
