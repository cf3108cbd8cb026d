-- What becomes of GetEventInformation (ANSI/ASHRAE 135-2020, 13.12).
use Rattle.std.specs.Prelude.{ℕ, ◌-◌, ◌==◌, ◌&&◌, Bool, if◌then◌else◌, Option, Result, Ok, Err, List, length}
use Rattle.bac_values.specs.Identifier.{ObjectIdData}
use Rattle.bac_values.specs.Reasons.{segmentation_not_supported_reason}
use Rattle.bac_values.specs.declared.note.Send.{Send}
use Rattle.bac_tags.specs.declared.malformed.Malformed.{Malformed}
use Rattle.event_services.specs.declared.information.EventSummary.{EventSummary}
use Rattle.event_services.specs.Information.{written_information}
use Rattle.event_services.specs.InformationSteps.{information_request_of}
use Rattle.alarm_core.specs.Information.{has_more, summaries_of}
use Rattle.alarm_core.specs.State.{CoreState}
use Rattle.service_desk.specs.declared.decision.Decision.{Decision}
use Rattle.service_desk.specs.declared.decision.Decision.TheVariants.{Reply}
use Rattle.service_desk.specs.Requesters.{RequesterData}
use Rattle.service_desk.specs.Replies.{abort, complex_ack, reject}

-- the octets of summaries that an answer to the requester has room for: its header, their tags and its last parameter have 7
abbrev pub information_room : RequesterData → ℕ
information_room requester = requester.max_apdu - 7

-- the summaries, as they are answered; where more remain and none fits, the device would have to send segments
abbrev pub information_reply : RequesterData → List EventSummary → Bool → Send
information_reply requester summaries more =
    if more && length summaries == 0 then abort requester segmentation_not_supported_reason else complex_ack requester (written_information summaries more)

-- by its parameters, as they were read
abbrev pub information_with : CoreState → RequesterData → Result (Option ObjectIdData) Malformed → Decision
information_with state requester (Err refusal) = Reply (reject requester refusal.reject)
information_with state requester (Ok last) = Reply (information_reply requester (summaries_of last (information_room requester) state) (has_more last (information_room requester) state))

abbrev pub information_decision : CoreState → RequesterData → List ℕ → Decision
information_decision state requester parameters = information_with state requester (information_request_of parameters)
