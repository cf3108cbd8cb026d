-- How the parameters of AcknowledgeAlarm are read.
use Rattle.std.specs.Prelude.{ℕ, Some, List, Result, Ok, Err}
use Rattle.bac_tags.specs.declared.fault.TagFault.{TagFault}
use Rattle.bac_tags.specs.ReadingSteps.{content_at, unsigned_at, object_at, ◌>>=◌}
use Rattle.bac_tags.specs.declared.malformed.Malformed.{Malformed}
use Rattle.bac_tags.specs.ParameterReadingSteps.{required, nothing_follows}
use Rattle.bac_tags.specs.EnclosingSteps.{enclosed_at}
use Rattle.event_services.specs.declared.acknowledge.AckRequest.{AckRequest}
use Rattle.event_services.specs.TimeStampSteps.{time_stamp_at}

-- the place after a content
abbrev pub skipped : Result (List ℕ × ℕ) TagFault → Result ℕ TagFault
skipped (Ok x) = Ok x.1
skipped (Err fault) = Err fault

-- the request, or the first refusal
unfoldable pub acknowledge_request_of : List ℕ → Result AckRequest Malformed
acknowledge_request_of input = do
  process ← required input 0 (unsigned_at input 0 (Some 0))
  object ← required input process.1 (object_at input process.1 (Some 1))
  state ← required input object.1 (unsigned_at input object.1 (Some 2))
  stamp ← required input state.1 (enclosed_at time_stamp_at 3 input state.1)
  source ← required input stamp.1 (skipped (content_at input stamp.1 0 (Some 4) 1 4294967295))
  time ← required input source (enclosed_at time_stamp_at 5 input source)
  nothing ← nothing_follows input time.1
  Ok (record { process = process.0; object = object.0; state = state.0; stamp = stamp.0 })
