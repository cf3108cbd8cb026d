-- The event type of each event algorithm (ANSI/ASHRAE 135-2020, 13.3 and clause 21, BACnetEventType).
use Rattle.std.specs.Prelude.{ℕ}
use Rattle.bac_values.specs.EventTypes.{change_of_bitstring_type, change_of_state_type, command_failure_type, unsigned_range_type, signed_out_of_range_type, unsigned_out_of_range_type, change_of_characterstring_type}
use Rattle.algorithm_rules.specs.declared.table.Algorithm.{Algorithm}
use Rattle.algorithm_rules.specs.declared.table.Algorithm.TheVariants.{ChangeOfBitstring, ChangeOfState, CommandFailure, UnsignedRange, SignedOutOfRange, UnsignedOutOfRange, ChangeOfCharacterstring}

-- its number
abbrev pub event_type_of : Algorithm → ℕ
event_type_of ChangeOfBitstring = change_of_bitstring_type
event_type_of ChangeOfState = change_of_state_type
event_type_of CommandFailure = command_failure_type
event_type_of UnsignedRange = unsigned_range_type
event_type_of SignedOutOfRange = signed_out_of_range_type
event_type_of UnsignedOutOfRange = unsigned_out_of_range_type
event_type_of ChangeOfCharacterstring = change_of_characterstring_type
