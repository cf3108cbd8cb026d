-- Which octets are a notification (ANSI/ASHRAE 135-2020, clause 21, ConfirmedEventNotification-Request and BACnetNotificationParameters), in any spelling of its elements.
use Rattle.std.specs.Prelude.{◌≡◌, ℕ, ◌<◌, ◌≤◌, Bool, Option, Some, List, ◌∷◌, ◌++◌, length, IsUtf8}
use Rattle.bac_values.specs.Limits.{most_text_octets}
use Rattle.bac_values.specs.EventStates.{number_of_state}
use Rattle.bac_values.specs.Reliabilities.{number_of_reliability}
use Rattle.bac_values.specs.declared.event_state.EventState.{EventState}
use Rattle.bac_values.specs.declared.reliability.Reliability.{Reliability as Reliable}
use Rattle.bac_values.specs.declared.stamp.Stamp.{Stamp}
use Rattle.bac_values.specs.Properties.{present_value_property}
use Rattle.bac_values.specs.declared.status_flags.StatusFlags.{StatusFlags}
use Rattle.bac_values.specs.declared.value.Value.{Value}
use Rattle.bac_tags.specs.Elements.{SpellsElement}
use Rattle.bac_tags.specs.Contents.{SpellsUnsigned, SpellsSigned, SpellsObject, SpellsBoolean, SpellsBits}
use Rattle.bac_tags.specs.Stamps.{SpellsStamp}
use Rattle.bac_tags.specs.Values.{SpellsValue}
use Rattle.bac_tags.specs.EnclosingTags.{SpellsEnclosed}
use Rattle.bac_tags.specs.Parameters.{SpellsIfGiven}
use Rattle.event_services.specs.declared.notification.Notification.{Notification}
use Rattle.event_services.specs.declared.notification.EventValues.{EventValues}
use Rattle.event_services.specs.declared.notification.EventValues.TheVariants.{Bitstring, State, Command, UnsignedRange, SignedOutOfRange, UnsignedOutOfRange, Characterstring, Reliability}
use Rattle.event_services.specs.Notifications.{type_of_values, bits_of_flags, state_number}

-- one behind the other
pub record SpellsBoth {X Y : Type 0} (First : List ℕ → X → Type 0) (Second : List ℕ → Y → Type 0) (octets : List ℕ) (both : X × Y) : Type 0 where
  pub front : List ℕ
  pub back : List ℕ
  pub parts : octets ≡ front ++ back
  pub first : First front both.0
  pub second : Second back both.1

-- ---- elements; in a context an Enumerated is spelled as an Unsigned is

abbrev pub SpellsNumber : ℕ → List ℕ → ℕ → Type 0
SpellsNumber number = SpellsUnsigned (Some number)

abbrev pub SpellsOctetNumber : ℕ → List ℕ → ℕ → Type 0
SpellsOctetNumber number octets n = SpellsNumber number octets n × (n < 256)

abbrev pub SpellsState : ℕ → List ℕ → EventState → Type 0
SpellsState number octets state = SpellsNumber number octets (number_of_state state)

abbrev pub SpellsReliability : ℕ → List ℕ → Reliable → Type 0
SpellsReliability number octets reliability = SpellsNumber number octets (number_of_reliability reliability)

abbrev pub SpellsFlags : List ℕ → StatusFlags → Type 0
SpellsFlags octets flags = SpellsBits (Some 1) octets (bits_of_flags flags)

-- the number of the character set, which is UTF-8, and at most `most_text_octets` octets
abbrev pub IsTextContent : List ℕ → List ℕ → Type 0
IsTextContent content text = (content ≡ 0 ∷ text) × (length text ≤ most_text_octets) × IsUtf8 text

abbrev pub SpellsText : ℕ → List ℕ → List ℕ → Type 0
SpellsText number = SpellsElement 0 (Some number) IsTextContent

-- a time stamp in its third form
abbrev pub SpellsMoment : ℕ → List ℕ → Stamp → Type 0
SpellsMoment number = SpellsEnclosed number (SpellsEnclosed 2 SpellsStamp)

-- ---- what is told, by the event's type

-- [1] a binary value or [11] a number
abbrev pub SpellsPropertyState : List ℕ → Bool × ℕ → Type 0
SpellsPropertyState octets state = SpellsNumber (state_number state.0) octets state.1

-- [0] Present_Value
abbrev pub SpellsPresentValue : List ℕ → Unit {0} → Type 0
SpellsPresentValue octets nothing = SpellsNumber 0 octets present_value_property

-- [0] Present_Value, [2] its value
abbrev pub SpellsPropertyValue : List ℕ → Value → Type 0
SpellsPropertyValue octets value = SpellsBoth SpellsPresentValue (SpellsEnclosed 2 SpellsValue) octets (tt, value)

abbrev pub SpellsPropertyList : List ℕ → Option Value → Type 0
SpellsPropertyList = SpellsIfGiven SpellsPropertyValue

abbrev pub SpellsTold : List ℕ → EventValues → Type 0
SpellsTold octets (Bitstring referenced flags) = SpellsBoth (SpellsBits (Some 0)) SpellsFlags octets (referenced, flags)
SpellsTold octets (State binary number flags) = SpellsBoth (SpellsEnclosed 0 SpellsPropertyState) SpellsFlags octets ((binary, number), flags)
SpellsTold octets (Command command flags feedback) =
    SpellsBoth (SpellsEnclosed 0 SpellsValue) (SpellsBoth SpellsFlags (SpellsEnclosed 2 SpellsValue)) octets (command, (flags, feedback))
SpellsTold octets (UnsignedRange value flags limit) = SpellsBoth (SpellsNumber 0) (SpellsBoth SpellsFlags (SpellsNumber 2)) octets (value, (flags, limit))
SpellsTold octets (SignedOutOfRange value flags deadband limit) =
    SpellsBoth (SpellsSigned (Some 0)) (SpellsBoth SpellsFlags (SpellsBoth (SpellsNumber 2) (SpellsSigned (Some 3)))) octets (value, (flags, (deadband, limit)))
SpellsTold octets (UnsignedOutOfRange value flags deadband limit) =
    SpellsBoth (SpellsNumber 0) (SpellsBoth SpellsFlags (SpellsBoth (SpellsNumber 2) (SpellsNumber 3))) octets (value, (flags, (deadband, limit)))
SpellsTold octets (Characterstring changed flags alarm) = SpellsBoth (SpellsText 0) (SpellsBoth SpellsFlags (SpellsText 2)) octets (changed, (flags, alarm))
SpellsTold octets (Reliability reliability flags property) =
    SpellsBoth (SpellsReliability 0) (SpellsBoth SpellsFlags (SpellsEnclosed 2 SpellsPropertyList)) octets (reliability, (flags, property))

-- what is told of an event of that type
abbrev pub SpellsToldOf : ℕ → List ℕ → EventValues → Type 0
SpellsToldOf type octets told = SpellsTold octets told × (type_of_values told ≡ type)

-- [12], and within it the number of the type
abbrev pub SpellsValuesOf : ℕ → List ℕ → EventValues → Type 0
SpellsValuesOf type = SpellsEnclosed 12 (SpellsEnclosed type (SpellsToldOf type))

-- ---- the parameters in their order

pub record SpellsNotification (octets : List ℕ) (note : Notification) : Type 0 where
  pub process : List ℕ
  pub device : List ℕ
  pub object : List ℕ
  pub stamp : List ℕ
  pub class : List ℕ
  pub priority : List ℕ
  pub type : List ℕ
  pub text : List ℕ
  pub notify : List ℕ
  pub ack : List ℕ
  pub from : List ℕ
  pub to : List ℕ
  pub values : List ℕ
  pub parts : octets ≡ (process ++ (device ++ (object ++ stamp))) ++ ((class ++ (priority ++ type)) ++ (text ++ ((notify ++ (ack ++ (from ++ to))) ++ values)))
  pub named_process : SpellsNumber 0 process note.process
  pub named_device : SpellsObject (Some 1) device note.device
  pub named_object : SpellsObject (Some 2) object note.object
  pub stamped : SpellsMoment 3 stamp note.stamp
  pub classed : SpellsNumber 4 class note.class
  pub ranked : SpellsOctetNumber 5 priority note.priority
  pub typed : SpellsOctetNumber 6 type note.event_type
  pub worded : SpellsIfGiven (SpellsText 7) text note.text
  pub notified : SpellsOctetNumber 8 notify note.notify
  pub required : SpellsIfGiven (SpellsBoolean (Some 9)) ack note.ack_required
  pub left : SpellsIfGiven (SpellsState 10) from note.from
  pub entered : SpellsState 11 to note.to
  pub told : SpellsIfGiven (SpellsValuesOf note.event_type) values note.values
