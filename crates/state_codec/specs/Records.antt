-- Events in octets: the records of a journal. Numbers stand with their high octet first, and one part stands behind another.
use Rattle.std.specs.Prelude.{◌≡◌, ℕ, ◌+◌, ◌*◌, ◌^◌, ◌<◌, ◌≤◌, Bool, List, [], ◌∷◌, ◌++◌, length, All, IsUtf8, FitsSigned}
use Rattle.bac_values.specs.Limits.{most_destinations}
use Rattle.std.specs.Int.{w16, w32, w64, to_be_bytes, cast_unsigned, from_bool}
use Rattle.bac_values.specs.Address.{IsAddress, PeerData, padded}
use Rattle.bac_values.specs.ApplicationTags.{boolean_tag, unsigned_tag, signed_tag, character_string_tag, bit_string_tag, enumerated_tag}
use Rattle.bac_values.specs.BitString.{BitsData, IsBitString, flags_number}
use Rattle.bac_values.specs.EventStates.{number_of_state, place_of_transition}
use Rattle.bac_values.specs.Identifier.{IsIdentifier, ObjectIdData}
use Rattle.bac_values.specs.Moments.{IsMoment}
use Rattle.std.specs.List.{flat_map}
use Rattle.bac_values.specs.declared.value.Value.{Value}
use Rattle.bac_values.specs.declared.value.Value.TheVariants as values
use Rattle.notify_class.specs.Recipients.{IsListedRecipient, DestinationData}
use Rattle.bac_tags.specs.Places.{IsSpelledAt}
use Rattle.alarm_core.specs.declared.event.Act.{Act}
use Rattle.alarm_core.specs.declared.event.Act.TheVariants.{Tick, Write, Ack, Pump, Answer, Edit}
use Rattle.alarm_core.specs.declared.event.Event.{Event}
use Rattle.object_table.specs.declared.change.What.{What}
use Rattle.object_table.specs.declared.change.What.TheVariants.{Property, FieldFault}

-- ---- flags, identifiers and peers

-- a flag is 1 where it is set, and else 0
abbrev pub written_flag : Bool → List ℕ
written_flag flag = from_bool flag ∷ []

-- flags of transitions: to-offnormal is the lowest bit, to-fault and to-normal are the next two
abbrev pub written_flags : List Bool → List ℕ
written_flags flags = flags_number flags ∷ []

-- an object identifier as the standard has it (ANSI/ASHRAE 135-2020, 20.2.14): ten bits of the type's number, twenty-two of the instance
abbrev pub written_object : ObjectIdData → List ℕ
written_object object = to_be_bytes w32 (object.number * 2 ^ 22 + object.instance)

-- the station of a peer: how many octets it has, and these in seven places
abbrev pub written_station : List ℕ → List ℕ
written_station mac = length mac ∷ padded mac

-- a peer: the address of IPv4, the port, the network, and the station there
abbrev pub written_peer : PeerData → List ℕ
written_peer peer = to_be_bytes w32 peer.ip ++ (to_be_bytes w16 peer.port ++ (to_be_bytes w16 peer.net ++ written_station peer.mac))

-- ---- values

-- a text is its length and its octets
abbrev pub written_text : List ℕ → List ℕ
written_text text = to_be_bytes w16 (length text) ++ text

-- a string of bits is its length, and the number whose lowest bit is the first
abbrev pub written_bits : BitsData → List ℕ
written_bits string = string.size ∷ to_be_bytes w64 string.bits

-- the number of the value's application tag (20.2.1.4), and the value. No record has a value of another type
abbrev pub written_value : Value → List ℕ
written_value (values.Bool flag) = boolean_tag ∷ written_flag flag
written_value (values.Unsigned number) = unsigned_tag ∷ to_be_bytes w32 number
written_value (values.Signed number) = signed_tag ∷ to_be_bytes w32 (cast_unsigned w32 number)
written_value (values.Text text) = character_string_tag ∷ written_text text
written_value (values.Bits string) = bit_string_tag ∷ written_bits string
written_value (values.Enumerated number) = enumerated_tag ∷ to_be_bytes w32 number
written_value values.Null = []
written_value (values.Object object) = []
written_value (values.DateTime stamp) = []
written_value (values.Opaque tag why) = []

-- ---- changes and recipients

-- the numbers by which records say what happens
abbrev pub tick_number : ℕ
tick_number = 1

abbrev pub property_number : ℕ
property_number = 2

abbrev pub field_fault_number : ℕ
field_fault_number = 3

abbrev pub acknowledgement_number : ℕ
acknowledgement_number = 4

abbrev pub pump_number : ℕ
pump_number = 5

abbrev pub answer_number : ℕ
answer_number = 6

abbrev pub edit_number : ℕ
edit_number = 7

-- a change: the object, and a property and its value; or the object, and the number of the reliability of what gives its value
abbrev pub written_what : ObjectIdData → What → List ℕ
written_what object (Property property value) = property_number ∷ (written_object object ++ (to_be_bytes w32 property.0 ++ written_value value))
written_what object (FieldFault reliability) = field_fault_number ∷ (written_object object ++ (reliability ∷ []))

-- a recipient (12.21, BACnetDestination): the valid days, the first and the last time of the day in hundredths of a second, the peer, its process identifier, whether it confirms, and the kinds of transitions
abbrev pub written_destination : DestinationData → List ℕ
written_destination recipient =
    recipient.days ∷ (to_be_bytes w32 recipient.from ++ (to_be_bytes w32 recipient.to ++ (written_peer recipient.peer ++ (to_be_bytes w32 recipient.process ++ (written_flag recipient.confirmed ++ written_flags recipient.transitions)))))

-- how many there are, and one behind the other
abbrev pub written_destinations : List DestinationData → List ℕ
written_destinations recipients = length recipients ∷ flat_map written_destination recipients

-- ---- events

-- what happens: the number of it, and its fields. A transition is its place, an event state its number (clause 21, BACnetEventState)
abbrev pub written_act : Act → List ℕ
written_act Tick = tick_number ∷ []
written_act (Write change) = written_what change.object change.what
written_act (Ack object transition state) = acknowledgement_number ∷ (written_object object ++ (place_of_transition transition ∷ (number_of_state state ∷ [])))
written_act Pump = pump_number ∷ []
written_act (Answer peer invoke kind) = answer_number ∷ (written_peer peer ++ (invoke ∷ (kind ∷ [])))
written_act (Edit number recipients) = edit_number ∷ (to_be_bytes w32 number ++ written_destinations recipients)

-- the moment, and what happens
abbrev pub written_event : Event → List ℕ
written_event event = to_be_bytes w64 event.moment ++ written_act event.act

-- ---- what has a record

-- a peer of BACnet/IP, with at most seven octets of a station, and none on the local network
pub record IsPeer (peer : PeerData) : Type 0 where
  pub ip : peer.ip < 2 ^ 32
  pub port : peer.port < 2 ^ 16
  pub net : peer.net < 2 ^ 16
  pub station : length peer.mac ≤ 7
  pub local : IsAddress peer.net peer.mac

-- a Boolean, a number of 32 bits, a text of at most 256 octets, or a string of at most 64 bits
abbrev pub IsRecorded : Value → Type 0
IsRecorded (values.Bool flag) = Unit {0}
IsRecorded (values.Unsigned number) = number < 2 ^ 32
IsRecorded (values.Signed number) = FitsSigned w32 number
IsRecorded (values.Text text) = (length text ≤ 256) × IsUtf8 text
IsRecorded (values.Bits string) = IsBitString string.size string.bits
IsRecorded (values.Enumerated number) = number < 2 ^ 32
IsRecorded values.Null = ⊥
IsRecorded (values.Object object) = ⊥
IsRecorded (values.DateTime stamp) = ⊥
IsRecorded (values.Opaque tag why) = ⊥

-- an identifier, and a value that has a record with the number of its property; or an octet
abbrev pub IsRecordedWhat : What → Type 0
IsRecordedWhat (Property property value) = (property.0 < 2 ^ 32) × IsRecorded value
IsRecordedWhat (FieldFault reliability) = reliability < 2 ^ 8

-- a recipient with a peer, and a flag for each kind of transition
pub record IsDestination (recipient : DestinationData) : Type 0 where
  pub listed : IsListedRecipient recipient.days recipient.from recipient.to
  pub peer : IsPeer recipient.peer
  pub process : recipient.process < 2 ^ 32
  pub transitions : length recipient.transitions ≡ 3

-- at most as many as a class may have
abbrev pub AreDestinations : List DestinationData → Type 0
AreDestinations recipients = (length recipients ≤ most_destinations) × All IsDestination recipients

-- a change, identifiers and peers as above, and numbers that fit their fields
abbrev pub IsRecordedAct : Act → Type 0
IsRecordedAct Tick = Unit {0}
IsRecordedAct (Write change) = IsIdentifier change.object.number change.object.instance × IsRecordedWhat change.what
IsRecordedAct (Ack object transition state) = IsIdentifier object.number object.instance
IsRecordedAct Pump = Unit {0}
IsRecordedAct (Answer peer invoke kind) = IsPeer peer × (invoke < 2 ^ 8) × (kind < 2 ^ 8)
IsRecordedAct (Edit number recipients) = (number < 2 ^ 32) × AreDestinations recipients

-- the event is one that a record spells: at a moment in range
pub record HasRecord (event : Event) : Type 0 where
  pub moment : IsMoment event.moment
  pub act : IsRecordedAct event.act

-- the octets are the record of the event
abbrev pub SpellsEvent : List ℕ → Event → Type 0
SpellsEvent octets event = (octets ≡ written_event event) × HasRecord event

-- no event's record stands at the place
abbrev pub IsNowhere : List ℕ → ℕ → Type 0
IsNowhere input place = (event : Event) (end : ℕ) → ¬ IsSpelledAt SpellsEvent input place event end
