-- How long a notification can be: its numbers have four octets at most, and so only its texts and strings of bits make it long.
use Rattle.std.specs.Prelude.{ℕ, ◌≤◌, List, length}
use Rattle.bac_values.specs.Limits.{most_text_octets, most_bits}
use Rattle.bac_values.specs.declared.value.Value.{Value}
use Rattle.bac_values.specs.declared.value.Value.TheVariants as values
use Rattle.event_services.specs.declared.notification.EventValues.{EventValues}
use Rattle.event_services.specs.declared.notification.EventValues.TheVariants.{Bitstring, State, Command, UnsignedRange, SignedOutOfRange, UnsignedOutOfRange, Characterstring, Reliability}
use Rattle.event_services.specs.NoteRanges.{IfAny}

-- a text of `most_text_octets` at most
abbrev pub HasShortText : List ℕ → Type 0
HasShortText text = length text ≤ most_text_octets

-- and a string at most `most_bits` bits
abbrev pub IsShort : Value → Type 0
IsShort values.Null = Unit {0}
IsShort (values.Bool b) = Unit {0}
IsShort (values.Unsigned n) = Unit {0}
IsShort (values.Signed z) = Unit {0}
IsShort (values.Text text) = HasShortText text
IsShort (values.Bits string) = string.size ≤ most_bits
IsShort (values.Enumerated n) = Unit {0}
IsShort (values.Object id) = Unit {0}
IsShort (values.DateTime stamp) = ⊥
IsShort (values.Opaque tag why) = ⊥

abbrev pub AreShort : EventValues → Type 0
AreShort (Bitstring referenced flags) = referenced.size ≤ most_bits
AreShort (State binary number flags) = Unit {0}
AreShort (Command command flags feedback) = IsShort command × IsShort feedback
AreShort (UnsignedRange value flags limit) = Unit {0}
AreShort (SignedOutOfRange value flags deadband limit) = Unit {0}
AreShort (UnsignedOutOfRange value flags deadband limit) = Unit {0}
AreShort (Characterstring changed flags alarm) = HasShortText changed × HasShortText alarm
AreShort (Reliability reliability flags property) = IfAny IsShort property
