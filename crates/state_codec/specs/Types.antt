-- What the types of an event's parts say of it: numbers are in their ranges, and texts, strings, peers and recipients keep the rules of their types. Every event that the program holds fits.
use Rattle.std.specs.Prelude.{ℕ, ◌^◌, ◌<◌, ◌≤◌, All, List, length, slice_index, IsUtf8, FitsSigned}
use Rattle.std.specs.Int.{w32}
use Rattle.bac_values.specs.BitString.{IsBitString}
use Rattle.bac_values.specs.Identifier.{IsIdentifier}
use Rattle.bac_values.specs.declared.value.Value.{Value}
use Rattle.bac_values.specs.declared.value.Value.TheVariants as values
use Rattle.object_table.specs.declared.change.What.{What}
use Rattle.object_table.specs.declared.change.What.TheVariants.{Property, FieldFault}
use Rattle.alarm_core.specs.declared.event.Act.{Act}
use Rattle.alarm_core.specs.declared.event.Act.TheVariants.{Tick, Write, Ack, Pump, Answer, Edit}
use Rattle.state_codec.specs.Records.{IsPeer, IsDestination}

-- octets are below 2^8
abbrev pub AreOctets : List ℕ → Type 0
AreOctets octets = (place : ℕ) → slice_index octets place < 2 ^ 8

abbrev pub FitsValue : Value → Type 0
FitsValue (values.Bool flag) = Unit {0}
FitsValue (values.Unsigned number) = number < 2 ^ 32
FitsValue (values.Signed number) = FitsSigned w32 number
FitsValue (values.Text text) = (length text ≤ 256) × IsUtf8 text
FitsValue (values.Bits string) = IsBitString string.size string.bits
FitsValue (values.Enumerated number) = number < 2 ^ 32
FitsValue values.Null = Unit {0}
FitsValue (values.Object object) = IsIdentifier object.number object.instance
FitsValue (values.DateTime stamp) = Unit {0}
FitsValue (values.Opaque tag why) = Unit {0}

abbrev pub FitsWhat : What → Type 0
FitsWhat (Property property value) = (property.0 < 2 ^ 32) × FitsValue value
FitsWhat (FieldFault reliability) = reliability < 2 ^ 8

abbrev pub FitsAct : Act → Type 0
FitsAct Tick = Unit {0}
FitsAct (Write change) = IsIdentifier change.object.number change.object.instance × FitsWhat change.what
FitsAct (Ack object transition state) = IsIdentifier object.number object.instance
FitsAct Pump = Unit {0}
FitsAct (Answer peer invoke kind) = IsPeer peer × (invoke < 2 ^ 8) × (kind < 2 ^ 8)
FitsAct (Edit number recipients) = (number < 2 ^ 32) × All IsDestination recipients
