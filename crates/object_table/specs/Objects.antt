-- What a value object may be: the keys that its kind has, and with a class those of its alarms.
use Rattle.std.specs.Prelude.{◌≡◌, ℕ, ◌≤◌, ℤ, pos, ◌⊎◌, IsTrue, IsSome, IsNone, IfSome, All, false, Option, Some, None, List, [], ◌∷◌, length, FitsSigned}
use Rattle.bac_values.specs.Limits.{most_listed_values}
use Rattle.std.specs.Int.{w32, FitsUnsigned}
use Rattle.bac_values.specs.EventTypes.{alarm_notify_type, event_notify_type}
use Rattle.bac_values.specs.declared.object_kind.ObjectKind.{ObjectKind}
use Rattle.bac_values.specs.declared.object_kind.ObjectKind.TheVariants.{BinaryValue, MultiStateValue, BitStringValue, CharacterStringValue, IntegerValue, PositiveIntegerValue}
use Rattle.bac_values.specs.declared.value.Value.{Value}
use Rattle.bac_values.specs.declared.value.Value.TheVariants.{Unsigned, Text, Bits}
use Rattle.bac_values.specs.BitString.{BitsData}
use Rattle.bac_values.specs.Identifier.{number_of_kind, ObjectIdData}
use Rattle.object_table.specs.declared.object_site.ObjectSite.{ObjectSite}
use Rattle.object_table.specs.declared.row.Row.{Row}
use Rattle.object_table.specs.Properties.{kind_in}
use Rattle.object_table.specs.Values.{is_present_value, is_binary_value, is_field_fault}

-- only a multi-state value has a number of states, which its value isn't above
abbrev pub HasStates : Option ObjectKind → ℕ → Type 0
HasStates (Some MultiStateValue) states = Unit {0}
HasStates _ states = states ≡ 0

-- a whole number that the value of the kind can be
abbrev pub IsWithin : Option ObjectKind → ℤ → Type 0
IsWithin (Some IntegerValue) number = FitsSigned w32 number
IsWithin (Some PositiveIntegerValue) number = FitsUnsigned w32 number
IsWithin _ number = ⊥

-- two fault limits, or none
abbrev pub AreFaultLimits : Option ObjectKind → Option ℤ → Option ℤ → Type 0
AreFaultLimits kind None None = Unit {0}
AreFaultLimits kind (Some low) (Some high) = IsWithin kind low × IsWithin kind high
AreFaultLimits kind _ _ = ⊥

-- fault values are of the type of the value
abbrev pub IsFaultValue : Option ObjectKind → Value → Type 0
IsFaultValue (Some MultiStateValue) (Unsigned state) = Unit {0}
IsFaultValue (Some CharacterStringValue) (Text text) = Unit {0}
IsFaultValue _ _ = ⊥

-- alarm values too, and bit strings have them as well
abbrev pub IsAlarmValue : Option ObjectKind → Value → Type 0
IsAlarmValue (Some MultiStateValue) (Unsigned state) = Unit {0}
IsAlarmValue (Some BitStringValue) (Bits string) = Unit {0}
IsAlarmValue (Some CharacterStringValue) (Text text) = Unit {0}
IsAlarmValue _ _ = ⊥

-- the limits of an integer or a positive integer value, and two flags for them
pub record HasLimits (kind : Option ObjectKind) (site : ObjectSite) : Type 0 where
  pub low : IsWithin kind site.low
  pub high : IsWithin kind site.high
  pub flags : length site.limit_enable ≡ 2

-- no limits
pub record LacksLimits (site : ObjectSite) : Type 0 where
  pub low : site.low ≡ pos 0
  pub high : site.high ≡ pos 0
  pub deadband : site.deadband ≡ 0
  pub flags : site.limit_enable ≡ false ∷ false ∷ []

abbrev pub KeepsLimits : Option ObjectKind → ObjectSite → Type 0
KeepsLimits (Some IntegerValue) site = HasLimits (Some IntegerValue) site
KeepsLimits (Some PositiveIntegerValue) site = HasLimits (Some PositiveIntegerValue) site
KeepsLimits _ site = LacksLimits site

-- the one alarm value of a binary value
abbrev pub KeepsAlarmValue : Option ObjectKind → Option Value → Type 0
KeepsAlarmValue (Some BinaryValue) (Some value) = IsTrue (is_binary_value value)
KeepsAlarmValue (Some BinaryValue) None = ⊥
KeepsAlarmValue _ alarm = IsNone alarm

-- the alarm values of a multi-state, a bit string or a character string value: at least one
abbrev pub NeedsAlarmValues : Option ObjectKind → List Value → Type 0
NeedsAlarmValues (Some MultiStateValue) values = 1 ≤ length values
NeedsAlarmValues (Some BitStringValue) values = 1 ≤ length values
NeedsAlarmValues (Some CharacterStringValue) values = 1 ≤ length values
NeedsAlarmValues _ values = Unit {0}

-- the mask of a bit string value
abbrev pub KeepsMask : Option ObjectKind → Option BitsData → Type 0
KeepsMask (Some BitStringValue) mask = IsSome mask
KeepsMask _ mask = IsNone mask

-- an object whose value inhibits others is a binary value
abbrev pub IsBinaryValue : ObjectIdData → Type 0
IsBinaryValue object = object.number ≡ number_of_kind BinaryValue

-- the texts of transitions: none, or one each to-offnormal, to-fault and to-normal
abbrev pub AreTexts : List (List ℕ) → Type 0
AreTexts texts = (texts ≡ []) ⊎ (length texts ≡ 3)

-- the keys of an object with a class; it is inhibited by reference alone, or by Event_Algorithm_Inhibit alone
pub record HasAlarmKeys (kind : Option ObjectKind) (site : ObjectSite) : Type 0 where
  pub notify : site.notify ≤ event_notify_type
  pub enable : length site.enable ≡ 3
  pub inhibit : IsSome site.inhibit_ref → site.inhibit ≡ false
  pub reference : IfSome site.inhibit_ref IsBinaryValue
  pub texts : AreTexts site.texts
  pub limits : KeepsLimits kind site
  pub alarm_value : KeepsAlarmValue kind site.alarm_value
  pub alarm_values : All (IsAlarmValue kind) site.alarm_values
  pub few : length site.alarm_values ≤ most_listed_values
  pub some : NeedsAlarmValues kind site.alarm_values
  pub mask : KeepsMask kind site.mask

-- an object without a class has none of them
pub record LacksAlarmKeys (site : ObjectSite) : Type 0 where
  pub notify : site.notify ≡ alarm_notify_type
  pub enable : site.enable ≡ false ∷ false ∷ false ∷ []
  pub time_delay : site.time_delay ≡ 0
  pub time_delay_normal : IsNone site.time_delay_normal
  pub detection : site.detection ≡ false
  pub inhibit : site.inhibit ≡ false
  pub inhibit_ref : IsNone site.inhibit_ref
  pub texts : site.texts ≡ []
  pub limits : LacksLimits site
  pub alarm_value : IsNone site.alarm_value
  pub alarm_values : site.alarm_values ≡ []
  pub mask : IsNone site.mask

abbrev pub KeepsAlarmKeys : Option ObjectKind → Option ℕ → ObjectSite → Type 0
KeepsAlarmKeys kind (Some class) site = HasAlarmKeys kind site
KeepsAlarmKeys kind None site = LacksAlarmKeys site

-- an object of a kind
pub record IsObjectOf (kind : Option ObjectKind) (site : ObjectSite) : Type 0 where
  pub instance : site.object.instance ≤ 4194302
  pub value : IsTrue (is_present_value kind site site.value)
  pub states : HasStates kind site.states
  pub fault_limits : AreFaultLimits kind site.fault_low site.fault_high
  pub fault_values : All (IsFaultValue kind) site.fault_values
  pub few : length site.fault_values ≤ most_listed_values
  pub alarm : KeepsAlarmKeys kind site.class site

-- a value object
abbrev pub IsObject : ObjectSite → Type 0
IsObject site = IsObjectOf (kind_in site) site

-- a row of a table
pub record IsRow (row : Row) : Type 0 where
  pub site : IsObject row.site
  pub field_fault : IsTrue (is_field_fault row.field_fault)
