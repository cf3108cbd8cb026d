-- Object identifiers (ANSI/ASHRAE 135-2020, 20.2.14) and the types of objects that the server knows (clause 21).
use Rattle.std.specs.Prelude.{ℕ, ◌≤◌, ◌==◌, Option, List, [], ◌∷◌, find}
use Rattle.bac_values.specs.declared.object_kind.ObjectKind.{ObjectKind}
use Rattle.bac_values.specs.declared.object_kind.ObjectKind.TheVariants.{BinaryValue, Device, EventEnrollment, NotificationClass, MultiStateValue, EventLog, BitStringValue, CharacterStringValue, IntegerValue, PositiveIntegerValue}

-- the number of an object's type, and its instance
pub record ObjectIdData : Type 0 where
  pub number : ℕ
  pub instance : ℕ

-- ten bits of type, twenty-two of instance
abbrev pub IsIdentifier : ℕ → ℕ → Type 0
IsIdentifier number instance = (number ≤ 1023) × (instance ≤ 4194303)

-- the number of each type of object
abbrev pub number_of_kind : ObjectKind → ℕ
number_of_kind BinaryValue = 5
number_of_kind Device = 8
number_of_kind EventEnrollment = 9
number_of_kind NotificationClass = 15
number_of_kind MultiStateValue = 19
number_of_kind EventLog = 25
number_of_kind BitStringValue = 39
number_of_kind CharacterStringValue = 40
number_of_kind IntegerValue = 45
number_of_kind PositiveIntegerValue = 48

-- the types that the server knows
abbrev pub known_kinds : List ObjectKind
known_kinds =
    BinaryValue ∷ Device ∷ EventEnrollment ∷ NotificationClass ∷ MultiStateValue ∷ EventLog ∷ BitStringValue ∷ CharacterStringValue ∷ IntegerValue ∷ PositiveIntegerValue ∷ []

-- the known type with a number
abbrev pub kind_of : ℕ → Option ObjectKind
kind_of number = find (λ kind. number_of_kind kind == number) known_kinds
