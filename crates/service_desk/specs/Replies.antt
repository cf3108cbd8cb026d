-- The replies of the device.
use Rattle.std.specs.Prelude.{ℕ, nat_lt, false, if◌then◌else◌, List, length}
use Rattle.bac_values.specs.Address.{PeerData}
use Rattle.bac_values.specs.Reasons.{segmentation_not_supported_reason}
use Rattle.bac_values.specs.declared.note.Send.{Send}
use Rattle.bac_values.specs.declared.service_error.ServiceError.{ServiceError}
use Rattle.apdu_frame.specs.Writing.{written_abort, written_complex_ack, written_error, written_list_error, written_reject, written_simple_ack}
use Rattle.bvlc_npdu.specs.Writing.{written_frame}
use Rattle.service_desk.specs.Requesters.{RequesterData}

-- an APDU on its way to a peer that needn't answer it
abbrev pub reply_to : PeerData → List ℕ → Send
reply_to peer apdu = record { peer = peer; bytes = written_frame peer false apdu }

abbrev pub abort_to : PeerData → ℕ → ℕ → Send
abort_to peer invoke reason = reply_to peer (written_abort invoke reason)

abbrev pub simple_ack : RequesterData → Send
simple_ack requester = reply_to requester.peer (written_simple_ack requester.invoke requester.service)

abbrev pub error_numbered : RequesterData → ℕ → ℕ → Send
error_numbered requester class code = reply_to requester.peer (written_error requester.invoke requester.service class code)

-- an error of the standard
abbrev pub error : RequesterData → ServiceError → Send
error requester named = error_numbered requester named.class named.code

-- an error of a service that edits a list, at the element with a number, from 1; 0 where it is that of none
abbrev pub list_error : RequesterData → ServiceError → ℕ → Send
list_error requester named element = reply_to requester.peer (written_list_error requester.invoke requester.service named.class named.code element)

abbrev pub reject : RequesterData → ℕ → Send
reject requester reason = reply_to requester.peer (written_reject requester.invoke reason)

abbrev pub abort : RequesterData → ℕ → Send
abort requester reason = abort_to requester.peer requester.invoke reason

-- an answer, unless it is longer than the requester takes (5.4.5.3): the device sends no segments
unfoldable pub within_max_apdu : RequesterData → List ℕ → Send
within_max_apdu requester apdu = if nat_lt requester.max_apdu (length apdu) then abort requester segmentation_not_supported_reason else reply_to requester.peer apdu

-- the result of a request
abbrev pub complex_ack : RequesterData → List ℕ → Send
complex_ack requester body = within_max_apdu requester (written_complex_ack requester.invoke requester.service body)
