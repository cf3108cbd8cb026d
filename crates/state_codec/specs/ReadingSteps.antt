-- How what is written is read: the value at the front of octets and the octets behind it, or nothing.
use Rattle.std.specs.Prelude.{◌≡◌, ℕ, zero, suc, ◌+◌, ◌/◌, ◌%◌, ◌^◌, ◌==◌, ◌&&◌, ◌||◌, not, nat_lt, nat_le, if◌then◌else◌, Bool, true, false, Option, Some, None, List, [], ◌∷◌, length, take, drop, Result, Ok, Err}
use Rattle.bac_values.specs.Limits.{most_destinations}
use Rattle.std.specs.Int.{Width, w16, w32, w64, byte_len, from_be_bytes, cast_signed}
use Rattle.std.specs.List.{list_all}
use Rattle.std.specs.Str.{is_utf8}
use Rattle.bac_values.specs.Address.{PeerData}
use Rattle.bac_values.specs.ApplicationTags.{boolean_tag, unsigned_tag, signed_tag, character_string_tag, bit_string_tag, enumerated_tag}
use Rattle.bac_values.specs.BitString.{BitsData, three_flags}
use Rattle.bac_values.specs.EventStates.{state_of_number}
use Rattle.bac_values.specs.Identifier.{ObjectIdData}
use Rattle.bac_values.specs.Moments.{first_moment, last_moment}
use Rattle.bac_values.specs.declared.event_state.EventState.{EventState}
use Rattle.bac_values.specs.declared.transition.Transition.{Transition}
use Rattle.bac_values.specs.declared.transition.Transition.TheVariants.{ToOffnormal, ToFault, ToNormal}
use Rattle.bac_values.specs.declared.value.Value.{Value}
use Rattle.bac_values.specs.declared.value.Value.TheVariants as values
use Rattle.notify_class.specs.Recipients.{DestinationData}
use Rattle.alarm_core.specs.declared.event.Act.{Act}
use Rattle.alarm_core.specs.declared.event.Act.TheVariants.{Tick, Write, Ack, Pump, Answer, Edit}
use Rattle.alarm_core.specs.declared.event.Event.{Event}
use Rattle.object_table.specs.declared.change.Change.{Change}
use Rattle.object_table.specs.declared.change.What.TheVariants.{Property, FieldFault}
use Rattle.state_codec.specs.declared.fault.CodecFault.{CodecFault}
use Rattle.state_codec.specs.declared.fault.CodecFault.TheVariants as codec
use Rattle.state_codec.specs.Records.{tick_number, property_number, field_fault_number, acknowledgement_number, pump_number, answer_number, edit_number}
use Rattle.state_codec.specs.declared.reading.ReadFault.{ReadFault}
use Rattle.state_codec.specs.declared.reading.ReadFault.TheVariants as faults

-- ---- one part behind another

infixl 10 ◌>>=◌
abbrev pub ◌>>=◌ : {A B : Type 0} → Option A → (A → Option B) → Option B
None >>= f = None
(Some x) >>= f = f x

-- one part, and then what follows it
abbrev pub then_at : {A C : Type 0} → (List ℕ → Option (A × List ℕ)) → (A → List ℕ → Option (C × List ℕ)) → List ℕ → Option (C × List ℕ)
then_at read next octets = read octets >>= λ found. next found.0 found.1

-- the last part, of which the value is made
abbrev pub last_at : {A C : Type 0} → (List ℕ → Option (A × List ℕ)) → (A → Option C) → List ℕ → Option (C × List ℕ)
last_at read make octets = read octets >>= λ found. make found.0 >>= λ value. Some (value, found.1)

-- one of two
abbrev pub either_at : {C : Type 0} → Bool → (List ℕ → Option (C × List ℕ)) → (List ℕ → Option (C × List ℕ)) → List ℕ → Option (C × List ℕ)
either_at first read other octets = if first then read octets else other octets

abbrev pub nothing_at : {C : Type 0} → List ℕ → Option (C × List ℕ)
nothing_at octets = None

-- a value where it is one
abbrev pub value_if : {C : Type 0} → Bool → C → Option C
value_if allowed value = if allowed then Some value else None

-- ---- what a call answers

abbrev pub Fails : {Y : Type 0} → ReadFault → Option Y → Type 0
Fails faults.NoMemory read = Unit {0}
Fails faults.NothingThere read = read ≡ None

-- what a call answered, seen by view, is what reading gives, unless memory was refused
abbrev pub Gives : {X Y : Type 0} → (X → Y) → Result X ReadFault → Option Y → Type 0
Gives view (Ok x) read = read ≡ Some (view x)
Gives view (Err fault) read = Fails fault read

-- ---- octets and numbers

unfoldable pub octet_at : List ℕ → Option (ℕ × List ℕ)
octet_at [] = None
octet_at (octet ∷ rest) = Some (octet, rest)

unfoldable pub octets_at : ℕ → List ℕ → Option (List ℕ × List ℕ)
octets_at count octets = if nat_lt (length octets) count then None else Some (take count octets, drop count octets)

unfoldable pub number_at : Width → List ℕ → Option (ℕ × List ℕ)
number_at width octets =
    if nat_lt (length octets) (byte_len width) then None
    else Some (from_be_bytes width (take (byte_len width) octets), drop (byte_len width) octets)

-- ---- flags, identifiers and peers

abbrev pub flag_of : ℕ → Option Bool
flag_of zero = Some false
flag_of (suc zero) = Some true
flag_of (suc (suc octet)) = None

unfoldable pub flag_at : List ℕ → Option (Bool × List ℕ)
flag_at = last_at octet_at flag_of

abbrev pub flags_of : ℕ → Option (List Bool)
flags_of octet = value_if (nat_lt octet 8) (three_flags (record { size = 3; bits = octet }))

unfoldable pub flags_at : List ℕ → Option (List Bool × List ℕ)
flags_at = last_at octet_at flags_of

abbrev pub object_of : ℕ → Option ObjectIdData
object_of number = Some (record { number = number / 2 ^ 22; instance = number % 2 ^ 22 })

unfoldable pub object_at : List ℕ → Option (ObjectIdData × List ℕ)
object_at = last_at (number_at w32) object_of

abbrev pub station_of : ℕ → List ℕ → Option (List ℕ)
station_of size places = value_if (nat_le size 7 && list_all (λ octet. octet == 0) (drop size places)) (take size places)

unfoldable pub station_at : List ℕ → Option (List ℕ × List ℕ)
station_at = then_at octet_at λ size. last_at (octets_at 7) (station_of size)

abbrev pub peer_of : ℕ → ℕ → ℕ → List ℕ → Option PeerData
peer_of ip port net mac = value_if (not (net == 0) || length mac == 0) (record { ip = ip; port = port; net = net; mac = mac })

unfoldable pub peer_at : List ℕ → Option (PeerData × List ℕ)
peer_at = then_at (number_at w32) λ ip. then_at (number_at w16) λ port. then_at (number_at w16) λ net. last_at station_at (peer_of ip port net)

-- ---- values

abbrev pub text_of : List ℕ → Option (List ℕ)
text_of octets = value_if (nat_le (length octets) 256 && is_utf8 octets) octets

unfoldable pub text_at : List ℕ → Option (List ℕ × List ℕ)
text_at = then_at (number_at w16) λ count. last_at (octets_at count) text_of

abbrev pub bits_of : ℕ → ℕ → Option BitsData
bits_of size bits = value_if (nat_le size 64 && nat_lt bits (2 ^ size)) (record { size = size; bits = bits })

unfoldable pub bits_at : List ℕ → Option (BitsData × List ℕ)
bits_at = then_at octet_at λ size. last_at (number_at w64) (bits_of size)

-- the content of a value with this application tag
unfoldable pub content_at : ℕ → List ℕ → Option (Value × List ℕ)
content_at tag =
    either_at (tag == boolean_tag) (last_at flag_at λ flag. Some (values.Bool flag))
    (either_at (tag == unsigned_tag) (last_at (number_at w32) λ number. Some (values.Unsigned number))
    (either_at (tag == signed_tag) (last_at (number_at w32) λ number. Some (values.Signed (cast_signed w32 number)))
    (either_at (tag == character_string_tag) (last_at text_at λ text. Some (values.Text text))
    (either_at (tag == bit_string_tag) (last_at bits_at λ string. Some (values.Bits string))
    (either_at (tag == enumerated_tag) (last_at (number_at w32) λ number. Some (values.Enumerated number))
    nothing_at)))))

unfoldable pub value_at : List ℕ → Option (Value × List ℕ)
value_at = then_at octet_at content_at

-- ---- changes and recipients

abbrev pub property_change : ObjectIdData → ℕ → Value → Change
property_change object property value = record { object = object; what = Property (record { 0 = property }) value }

abbrev pub field_fault : ObjectIdData → ℕ → Change
field_fault object reliability = record { object = object; what = FieldFault reliability }

unfoldable pub property_change_at : List ℕ → Option ((ObjectIdData × ℕ × Value) × List ℕ)
property_change_at = then_at object_at λ object. then_at (number_at w32) λ property. last_at value_at λ value. Some (object, property, value)

unfoldable pub field_fault_at : List ℕ → Option ((ObjectIdData × ℕ) × List ℕ)
field_fault_at = then_at object_at λ object. last_at octet_at λ reliability. Some (object, reliability)

abbrev pub destination_of : ℕ → ℕ → ℕ → PeerData → ℕ → Bool → List Bool → Option DestinationData
destination_of days from to peer process confirmed transitions =
    value_if (nat_lt days 128 && nat_lt from 8_640_000 && nat_lt to 8_640_000)
    (record { days = days; from = from; to = to; peer = peer; process = process; confirmed = confirmed; transitions = transitions })

unfoldable pub destination_at : List ℕ → Option (DestinationData × List ℕ)
destination_at =
    then_at octet_at λ days. then_at (number_at w32) λ from. then_at (number_at w32) λ to. then_at peer_at λ peer. then_at (number_at w32) λ process. then_at flag_at λ confirmed. last_at flags_at (destination_of days from to peer process confirmed)

-- so many recipients, one behind the other
unfoldable pub list_at : ℕ → List ℕ → Option (List DestinationData × List ℕ)
list_at zero octets = Some ([], octets)
list_at (suc count) octets = destination_at octets >>= λ first. list_at count first.1 >>= λ others. Some (first.0 ∷ others.0, others.1)

unfoldable pub destinations_at : List ℕ → Option (List DestinationData × List ℕ)
destinations_at = then_at octet_at λ count. either_at (nat_le count most_destinations) (list_at count) nothing_at

-- ---- events

abbrev pub done_at : {C : Type 0} → C → List ℕ → Option (C × List ℕ)
done_at value octets = Some (value, octets)

abbrev pub transition_of : ℕ → Option Transition
transition_of zero = Some ToOffnormal
transition_of (suc zero) = Some ToFault
transition_of (suc (suc zero)) = Some ToNormal
transition_of (suc (suc (suc octet))) = None

unfoldable pub transition_at : List ℕ → Option (Transition × List ℕ)
transition_at = last_at octet_at transition_of

unfoldable pub state_at : List ℕ → Option (EventState × List ℕ)
state_at = last_at octet_at state_of_number

unfoldable pub acknowledgement_at : List ℕ → Option ((ObjectIdData × Transition × EventState) × List ℕ)
acknowledgement_at = then_at object_at λ object. then_at transition_at λ transition. last_at state_at λ state. Some (object, transition, state)

unfoldable pub answer_at : List ℕ → Option ((PeerData × ℕ × ℕ) × List ℕ)
answer_at = then_at peer_at λ peer. then_at octet_at λ invoke. last_at octet_at λ kind. Some (peer, invoke, kind)

unfoldable pub edit_at : List ℕ → Option ((ℕ × List DestinationData) × List ℕ)
edit_at = then_at (number_at w32) λ number. last_at destinations_at λ recipients. Some (number, recipients)

-- the fields of what happens by this number
unfoldable pub fields_at : ℕ → List ℕ → Option (Act × List ℕ)
fields_at number =
    either_at (number == tick_number) (done_at Tick)
    (either_at (number == property_number) (last_at property_change_at λ change. Some (Write (property_change change.0 change.1 change.2)))
    (either_at (number == field_fault_number) (last_at field_fault_at λ change. Some (Write (field_fault change.0 change.1)))
    (either_at (number == acknowledgement_number) (last_at acknowledgement_at λ found. Some (Ack found.0 found.1 found.2))
    (either_at (number == pump_number) (done_at Pump)
    (either_at (number == answer_number) (last_at answer_at λ found. Some (Answer found.0 found.1 found.2))
    (either_at (number == edit_number) (last_at edit_at λ found. Some (Edit found.0 found.1))
    nothing_at))))))

unfoldable pub act_at : List ℕ → Option (Act × List ℕ)
act_at = then_at octet_at fields_at

abbrev pub event_of : ℕ → Act → Option Event
event_of moment act = value_if (nat_le first_moment moment && nat_le moment last_moment) (record { moment = moment; act = act })

unfoldable pub event_at : List ℕ → Option (Event × List ℕ)
event_at = then_at (number_at w64) λ moment. last_at act_at (event_of moment)

-- what is answered from a place on: the event and the place after its record, or that nothing is read there
abbrev pub GivesEvent : List ℕ → ℕ → Result (Event × ℕ) CodecFault → Option (Event × List ℕ) → Type 0
GivesEvent input at (Ok x) read = (rest : List ℕ) × (read ≡ Some (x.0, rest)) × (x.1 + length rest ≡ length input)
GivesEvent input at (Err codec.NoMemory) read = Unit {0}
GivesEvent input at (Err (codec.Malformed place)) read = (place ≡ at) × (read ≡ None)
