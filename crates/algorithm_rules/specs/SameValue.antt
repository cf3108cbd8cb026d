-- When a feedback equals the value that it is compared with.
use Rattle.std.specs.Prelude.{Bool, true, false, not, ◌==◌, ◌&&◌, Option, Some, None}
use Rattle.std.specs.Bool.{beq}
use Rattle.std.specs.Ordering.{int_eq}
use Rattle.std.specs.Str.{bytes_eq}
use Rattle.bac_values.specs.declared.value.Foreign.{Foreign}
use Rattle.bac_values.specs.declared.value.Foreign.TheVariants.{OtherType, CharacterSet, NotUtf8, TooLong, OutOfRange}
use Rattle.bac_values.specs.declared.value.Value.{Value}
use Rattle.bac_values.specs.declared.value.Value.TheVariants.{Null, Bool as Truth, Unsigned, Signed, Text, Bits, Enumerated, Object, DateTime, Opaque}

abbrev pub same_reason : Foreign → Foreign → Bool
same_reason OtherType OtherType = true
same_reason CharacterSet CharacterSet = true
same_reason NotUtf8 NotUtf8 = true
same_reason TooLong TooLong = true
same_reason OutOfRange OutOfRange = true
same_reason _ _ = false

-- whether two values are one: of the same type, and equal
abbrev pub same_value : Value → Value → Bool
same_value Null Null = true
same_value (Truth a) (Truth b) = beq a b
same_value (Unsigned a) (Unsigned b) = a == b
same_value (Signed a) (Signed b) = int_eq a b
same_value (Text a) (Text b) = bytes_eq a b
same_value (Bits a) (Bits b) = a.size == b.size && a.bits == b.bits
same_value (Enumerated a) (Enumerated b) = a == b
same_value (Object a) (Object b) = a.number == b.number && a.instance == b.instance
same_value (DateTime a) (DateTime b) = bytes_eq a.octets b.octets
same_value (Opaque a why) (Opaque b other) = a == b && same_reason why other
same_value _ _ = false

-- whether there is a feedback, and it equals the value
abbrev pub feedback_equals : Option Value → Value → Bool
feedback_equals (Some feedback) value = same_value feedback value
feedback_equals None value = false

-- whether there is a feedback, and it differs from the value
abbrev pub feedback_differs : Option Value → Value → Bool
feedback_differs (Some feedback) value = not (same_value feedback value)
feedback_differs None value = false
