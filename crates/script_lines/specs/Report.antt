-- The texts of a report's lines.
use Rattle.std.specs.Prelude.{ℕ, ◌/◌, ◌%◌, Option, Some, None, List, ◌++◌, codes}
use Rattle.std.specs.Fmt.{decimal}
use Rattle.hex.specs.Hex.{encode_lower}
use Rattle.bac_values.specs.Address.{PeerData}
use Rattle.bac_values.specs.Identifier.{kind_of, ObjectIdData}
use Rattle.bac_values.specs.declared.event_state.EventState.{EventState}
use Rattle.bac_values.specs.declared.event_state.EventState.TheVariants.{Normal, Fault, Offnormal, HighLimit, LowLimit}
use Rattle.bac_values.specs.declared.object_kind.ObjectKind.{ObjectKind}
use Rattle.bac_values.specs.declared.object_kind.ObjectKind.TheVariants.{BinaryValue, Device, EventEnrollment, NotificationClass, MultiStateValue, EventLog, BitStringValue, CharacterStringValue, IntegerValue, PositiveIntegerValue}
use Rattle.bac_values.specs.declared.input.SetFault.{SetFault}
use Rattle.bac_values.specs.declared.input.SetFault.TheVariants.{UnknownObject, WrongKind, OutOfService, ValueRange}
use Rattle.bac_values.specs.declared.report.ReportLine.{ReportLine}
use Rattle.bac_values.specs.declared.report.ReportLine.TheVariants.{TrialMove, TrialEnd, Open, Entered, Idle, Ignored, Refused, Reply, Full, Change, Sent, End, Packet, ShipEnd, Malformed, Gap, Repeat, Part, Taken, Summary}

abbrev pub state_name : EventState → List ℕ
state_name Normal = codes "normal"
state_name Fault = codes "fault"
state_name Offnormal = codes "offnormal"
state_name HighLimit = codes "high-limit"
state_name LowLimit = codes "low-limit"

abbrev pub kind_name : ObjectKind → List ℕ
kind_name BinaryValue = codes "binary-value"
kind_name Device = codes "device"
kind_name EventEnrollment = codes "event-enrollment"
kind_name NotificationClass = codes "notification-class"
kind_name MultiStateValue = codes "multi-state-value"
kind_name EventLog = codes "event-log"
kind_name BitStringValue = codes "bitstring-value"
kind_name CharacterStringValue = codes "characterstring-value"
kind_name IntegerValue = codes "integer-value"
kind_name PositiveIntegerValue = codes "positive-integer-value"

abbrev pub refusal_word : SetFault → List ℕ
refusal_word UnknownObject = codes "unknown-object"
refusal_word WrongKind = codes "wrong-kind"
refusal_word OutOfService = codes "out-of-service"
refusal_word ValueRange = codes "value-range"

-- the name of an object's type, or its number where it has no name
abbrev pub type_text : ℕ → Option ObjectKind → List ℕ
type_text number (Some kind) = kind_name kind
type_text number None = decimal number

-- KIND:INSTANCE
abbrev pub object_text : ObjectIdData → List ℕ
object_text object = type_text object.number (kind_of object.number) ++ (codes ":" ++ decimal object.instance)

-- A.B.C.D:PORT, the address of IPv4 by its octets, the highest first
abbrev pub address_text : PeerData → List ℕ
address_text peer = decimal (peer.ip / 16777216) ++ (codes "." ++ (decimal (peer.ip / 65536 % 256) ++ (codes "." ++ (decimal (peer.ip / 256 % 256) ++ (codes "." ++ (decimal (peer.ip % 256) ++ (codes ":" ++ decimal peer.port)))))))

-- `N WORD` and a line feed
abbrev pub word_text : ℕ → List ℕ → List ℕ
word_text line word = decimal line ++ (codes " " ++ (word ++ codes "\n"))

-- `N WORD NUMBER` and a line feed
abbrev pub number_text : ℕ → List ℕ → ℕ → List ℕ
number_text line word number = decimal line ++ (codes " " ++ (word ++ (codes " " ++ (decimal number ++ codes "\n"))))

-- what a workload has led to
abbrev pub counts_text : ℕ → ℕ → ℕ → ℕ → List ℕ
counts_text events changes sends full = codes "events " ++ (decimal events ++ (codes " changes " ++ (decimal changes ++ (codes " sends " ++ (decimal sends ++ (codes " full " ++ decimal full))))))

-- the text of a report's line, a line feed at its end
abbrev pub report_text : ReportLine → List ℕ
report_text (TrialMove moment from to) = decimal moment ++ (codes " " ++ (state_name from ++ (codes " " ++ (state_name to ++ codes "\n"))))
report_text (TrialEnd lines) = codes "end " ++ (decimal lines ++ codes "\n")
report_text (Open events) = codes "open " ++ (decimal events ++ codes "\n")
report_text (Entered line event moment) = decimal line ++ (codes " entered " ++ (decimal event ++ (codes " " ++ (decimal moment ++ codes "\n"))))
report_text (Idle line) = word_text line (codes "idle")
report_text (Ignored line) = word_text line (codes "ignored")
report_text (Refused line why) = decimal line ++ (codes " refused " ++ (refusal_word why ++ codes "\n"))
report_text (Reply line) = word_text line (codes "reply")
report_text (Full line would limit) = decimal line ++ (codes " full " ++ (decimal would ++ (codes " " ++ (decimal limit ++ codes "\n"))))
report_text (Change line moved) = decimal line ++ (codes " change " ++ (object_text moved.object ++ (codes " " ++ (state_name moved.from ++ (codes " " ++ (state_name moved.to ++ codes "\n"))))))
report_text (Sent line send) = decimal line ++ (codes " send " ++ (address_text send.peer ++ (codes " " ++ (encode_lower send.bytes ++ codes "\n"))))
report_text (End lines events) = codes "end " ++ (decimal lines ++ (codes " " ++ (decimal events ++ codes "\n")))
report_text (Packet packet) = codes "packet " ++ (encode_lower packet ++ codes "\n")
report_text (ShipEnd packets events) = codes "end " ++ (decimal packets ++ (codes " " ++ (decimal events ++ codes "\n")))
report_text (Malformed line) = word_text line (codes "malformed")
report_text (Gap line events) = number_text line (codes "gap") events
report_text (Repeat line events) = number_text line (codes "repeat") events
report_text (Part line place) = number_text line (codes "part") place
report_text (Taken line events) = number_text line (codes "taken") events
report_text (Summary seed count events changes sends full) = codes "workload " ++ (decimal seed ++ (codes " " ++ (decimal count ++ (codes " " ++ (counts_text events changes sends full ++ codes "\n")))))
