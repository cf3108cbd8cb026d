-- What a value of a site's text says: an instance, an object, a peer, or a value of a kind.
use Rattle.std.specs.Prelude.{ℕ, ◌==◌, nat_le, ℤ, pos, negsuc, Option, Some, None, option_map, List, codes, if◌then◌else◌}
use Rattle.std.specs.Str.{bytes_eq}
use Rattle.toml.specs.Data.{Data, as_str}
use Rattle.bac_values.specs.Address.{PeerData}
use Rattle.bac_values.specs.BitString.{BitsData}
use Rattle.bac_values.specs.Identifier.{number_of_kind, ObjectIdData}
use Rattle.bac_values.specs.declared.object_kind.ObjectKind.{ObjectKind}
use Rattle.bac_values.specs.declared.object_kind.ObjectKind.TheVariants.{BinaryValue, MultiStateValue, BitStringValue, CharacterStringValue, IntegerValue, PositiveIntegerValue}
use Rattle.bac_values.specs.declared.value.Value.{Value}
use Rattle.bac_values.specs.declared.value.Value.TheVariants.{Unsigned, Signed, Text, Bits, Enumerated}
use Rattle.algorithm_rules.specs.declared.table.Algorithm.{Algorithm}
use Rattle.algorithm_rules.specs.declared.table.Algorithm.TheVariants.{CommandFailure, UnsignedRange}
use Rattle.script_lines.specs.SessionLine.{kind_named, object_of, peer_of, bits_of}
use Rattle.toml_items.specs.Values.{◌>>=◌, whole_in, unsigned_in, last_unsigned, text_in}

-- instances are 0 to 4194302
abbrev pub last_instance : ℕ
last_instance = 4194302

abbrev pub instance_in : Data → Option ℕ
instance_in d = unsigned_in 0 last_instance d

-- a string of bits, the first digit its first bit
abbrev pub bits_in : Data → Option BitsData
bits_in d = as_str d >>= bits_of

-- seven digits, Monday first: the number whose lowest bit is Monday's
abbrev pub seven_bits : BitsData → Option ℕ
seven_bits string = if string.size == 7 then Some string.bits else None

abbrev pub days_in : Data → Option ℕ
days_in d = bits_in d >>= seven_bits

-- an address A.B.C.D:PORT, with a port from 1
abbrev pub peer_in : Data → Option PeerData
peer_in d = as_str d >>= peer_of

-- an object KIND:INSTANCE
abbrev pub with_instance : ObjectIdData → Option ObjectIdData
with_instance object = if nat_le object.instance last_instance then Some object else None

abbrev pub object_in : Data → Option ObjectIdData
object_in d = (as_str d >>= object_of) >>= with_instance

-- one of them that is a binary value
abbrev pub as_binary_value : ObjectIdData → Option ObjectIdData
as_binary_value object = if object.number == number_of_kind BinaryValue then Some object else None

abbrev pub binary_value_in : Data → Option ObjectIdData
binary_value_in d = object_in d >>= as_binary_value

-- Notify_Type: alarm is 0, event is 1
abbrev pub notify_of : List ℕ → Option ℕ
notify_of text = if bytes_eq text (codes "alarm") then Some 0 else (if bytes_eq text (codes "event") then Some 1 else None)

abbrev pub notify_in : Data → Option ℕ
notify_in d = as_str d >>= notify_of

-- the algorithm of an enrollment
abbrev pub algorithm_of : List ℕ → Option Algorithm
algorithm_of text = if bytes_eq text (codes "command-failure") then Some CommandFailure else (if bytes_eq text (codes "unsigned-range") then Some UnsignedRange else None)

abbrev pub algorithm_in : Data → Option Algorithm
algorithm_in d = as_str d >>= algorithm_of

-- the kind of a value object
abbrev pub value_kind : ObjectKind → Option ObjectKind
value_kind BinaryValue = Some BinaryValue
value_kind MultiStateValue = Some MultiStateValue
value_kind BitStringValue = Some BitStringValue
value_kind CharacterStringValue = Some CharacterStringValue
value_kind IntegerValue = Some IntegerValue
value_kind PositiveIntegerValue = Some PositiveIntegerValue
value_kind _ = None

abbrev pub kind_in : Data → Option ObjectKind
kind_in d = (as_str d >>= kind_named) >>= value_kind

-- a state of a binary value: inactive is 0, active is 1
abbrev pub state_of : List ℕ → Option ℕ
state_of text = if bytes_eq text (codes "inactive") then Some 0 else (if bytes_eq text (codes "active") then Some 1 else None)

abbrev pub binary_in : Data → Option ℕ
binary_in d = as_str d >>= state_of

-- a number that the value of the kind, and a limit of it, can be
abbrev pub limit_in : ObjectKind → Data → Option ℤ
limit_in IntegerValue d = whole_in (negsuc 2147483647) (pos 2147483647) d
limit_in _ d = whole_in (pos 0) (pos last_unsigned) d

-- a value of the kind: a whole number, a state, a string of bits, or a text
abbrev pub value_in : ObjectKind → Data → Option Value
value_in IntegerValue d = option_map Signed (limit_in IntegerValue d)
value_in PositiveIntegerValue d = option_map Unsigned (unsigned_in 0 last_unsigned d)
value_in MultiStateValue d = option_map Unsigned (unsigned_in 0 last_unsigned d)
value_in BinaryValue d = option_map Enumerated (binary_in d)
value_in BitStringValue d = option_map Bits (bits_in d)
value_in CharacterStringValue d = option_map Text (text_in d)
value_in _ d = None

-- what Present_Value can be: states are counted from 1
abbrev pub present_in : ObjectKind → Data → Option Value
present_in MultiStateValue d = option_map Unsigned (unsigned_in 1 last_unsigned d)
present_in kind d = value_in kind d
