-- Notifications whose fields are in the ranges of their types, and whose values are those of the event type.
use Rattle.std.specs.Prelude.{◌≡◌, ℕ, ◌^◌, ◌<◌, ◌≤◌, Option, Some, None, List, length, IsUtf8, FitsSigned}
use Rattle.bac_values.specs.Limits.{most_text_octets}
use Rattle.std.specs.Int.{w32}
use Rattle.bac_values.specs.BitString.{IsBitString}
use Rattle.bac_values.specs.Identifier.{IsIdentifier}
use Rattle.bac_tags.specs.Values.{IsOneElement}
use Rattle.event_services.specs.declared.notification.Notification.{Notification}
use Rattle.event_services.specs.declared.notification.EventValues.{EventValues}
use Rattle.event_services.specs.declared.notification.EventValues.TheVariants.{Bitstring, State, Command, UnsignedRange, SignedOutOfRange, UnsignedOutOfRange, Characterstring, Reliability}
use Rattle.event_services.specs.Notifications.{type_of_values}

-- a number of four octets, a text
abbrev pub IsLong : ℕ → Type 0
IsLong n = n < 2 ^ 32

abbrev pub IsText : List ℕ → Type 0
IsText text = (length text ≤ most_text_octets) × IsUtf8 text

-- nothing, or what has the property
abbrev pub IfAny : {X : Type 0} → (X → Type 0) → Option X → Type 0
IfAny P None = Unit {0}
IfAny P (Some x) = P x

abbrev pub IsInRange : EventValues → Type 0
IsInRange (Bitstring referenced flags) = IsBitString referenced.size referenced.bits
IsInRange (State binary number flags) = IsLong number
IsInRange (Command command flags feedback) = IsOneElement command × IsOneElement feedback
IsInRange (UnsignedRange value flags limit) = IsLong value × IsLong limit
IsInRange (SignedOutOfRange value flags deadband limit) = FitsSigned w32 value × IsLong deadband × FitsSigned w32 limit
IsInRange (UnsignedOutOfRange value flags deadband limit) = IsLong value × IsLong deadband × IsLong limit
IsInRange (Characterstring changed flags alarm) = IsText changed × IsText alarm
IsInRange (Reliability reliability flags property) = IfAny IsOneElement property

pub record IsNotable (note : Notification) : Type 0 where
  pub process : IsLong note.process
  pub device : IsIdentifier note.device.number note.device.instance
  pub object : IsIdentifier note.object.number note.object.instance
  pub stamp : length note.stamp.octets ≡ 8
  pub class : IsLong note.class
  pub priority : note.priority < 256
  pub type : note.event_type < 256
  pub text : IfAny IsText note.text
  pub notify : note.notify < 256
  pub values : IfAny (λ told. (type_of_values told ≡ note.event_type) × IsInRange told) note.values
