-- Reading event notifications (ANSI/ASHRAE 135-2020, clause 21, ConfirmedEventNotification-Request and BACnetNotificationParameters). What a field doesn't hold isn't in the grammar.
use Rattle.std.specs.Prelude.{◌≡◌, ℕ, ◌/◌, ◌%◌, ◌==◌, nat_lt, nat_le, ◌&&◌, ◌⊎◌, if◌then◌else◌, Bool, true, false, Option, Some, None, List, [], ◌∷◌, length, Result, Ok, Err}
use Rattle.bac_values.specs.Limits.{most_text_octets}
use Rattle.std.specs.Option.{ok_or}
use Rattle.std.specs.Str.{is_utf8}
use Rattle.bac_values.specs.BitString.{BitsData}
use Rattle.bac_values.specs.EventStates.{state_of_number}
use Rattle.bac_values.specs.Reliabilities.{reliability_of_number}
use Rattle.bac_values.specs.declared.event_state.EventState.{EventState}
use Rattle.bac_values.specs.declared.reliability.Reliability.{Reliability as Reliable}
use Rattle.bac_values.specs.declared.stamp.Stamp.{Stamp}
use Rattle.bac_values.specs.EventTypes.{change_of_bitstring_type, change_of_state_type, command_failure_type, unsigned_range_type, signed_out_of_range_type, unsigned_out_of_range_type, change_of_characterstring_type, change_of_reliability_type}
use Rattle.bac_values.specs.Properties.{present_value_property}
use Rattle.bac_values.specs.declared.status_flags.StatusFlags.{StatusFlags}
use Rattle.bac_values.specs.declared.value.Value.{Value}
use Rattle.bac_tags.specs.declared.fault.TagFault.{TagFault}
use Rattle.bac_tags.specs.declared.fault.TagFault.TheVariants.{WrongTag, BadLength, NoMemory}
use Rattle.bac_tags.specs.ReadingSteps.{◌>>=◌, content_at, tag_at, unsigned_at, signed_at, bits_at, stamp_at, value_at}
use Rattle.bac_tags.specs.EnclosingSteps.{is_closing, opening_at, closing_at, enclosed_at}
use Rattle.event_services.specs.declared.notification.EventValues.{EventValues}
use Rattle.event_services.specs.declared.notification.EventValues.TheVariants.{Bitstring, State, Command, UnsignedRange, SignedOutOfRange, UnsignedOutOfRange, Characterstring, Reliability}

-- a reader of a value that begins at a place
abbrev pub Reads : Type 0 → Type 0
Reads X = List ℕ → ℕ → Result (X × ℕ) TagFault

-- one behind the other
abbrev pub both_at : {X Y : Type 0} → Reads X → Reads Y → Reads (X × Y)
both_at first second input place = first input place >>= λ x. second input x.1 >>= λ y. Ok ((x.0, y.0), y.1)

-- what is made of the value
abbrev pub made_at : {X Y : Type 0} → (X → Y) → Reads X → Reads Y
made_at make read input place = read input place >>= λ x. Ok (make x.0, x.1)

-- what the field holds of it
abbrev pub held_at : {X Y : Type 0} → (X → Option Y) → Reads X → Reads Y
held_at hold read input place = read input place >>= λ x. ok_or (hold x.0) (BadLength place) >>= λ y. Ok (y, x.1)

-- ---- elements of notifications

abbrev pub number_at : ℕ → Reads ℕ
number_at number input place = unsigned_at input place (Some number)

-- a number of one octet
abbrev pub octet_of : ℕ → Option ℕ
octet_of n = if nat_lt n 256 then Some n else None

unfoldable pub octet_number_at : ℕ → Reads ℕ
octet_number_at number = held_at octet_of (number_at number)

unfoldable pub state_at : ℕ → Reads EventState
state_at number = held_at state_of_number (number_at number)

-- the four status flags, the first of them the string's first bit
abbrev pub flags_of : BitsData → Option StatusFlags
flags_of string =
    if string.size == 4
    then Some (record { in_alarm = string.bits % 2 == 1; fault = string.bits / 2 % 2 == 1; overridden = string.bits / 4 % 2 == 1; out_of_service = string.bits / 8 % 2 == 1 })
    else None

unfoldable pub flags_at : Reads StatusFlags
flags_at = held_at flags_of (λ input place. bits_at input place (Some 1))

-- a text of at most `most_text_octets` octets of UTF-8, behind the number of this character set; in a context the tag doesn't tell the type
abbrev pub text_of : List ℕ → Option (List ℕ)
text_of [] = None
text_of (set ∷ text) = if set == 0 && nat_le (length text) most_text_octets && is_utf8 text then Some text else None

unfoldable pub text_at : ℕ → Reads (List ℕ)
text_at number = held_at text_of (λ input place. content_at input place 0 (Some number) 1 257)

-- a date and a time of day in a time stamp, whose other forms the field doesn't hold
unfoldable pub moment_at : ℕ → Reads Stamp
moment_at number = enclosed_at (enclosed_at stamp_at 2) number

-- ---- what is told, by the event's type

-- a BACnetPropertyStates: [1] a binary value or [11] a number
abbrev pub property_state_in : ℕ → Reads (Bool × ℕ)
property_state_in number input place =
    if number == 1 then made_at (λ n. (true, n)) (number_at 1) input place
    else (if number == 11 then made_at (λ n. (false, n)) (number_at 11) input place else Err (WrongTag place))

unfoldable pub property_state_at : Reads (Bool × ℕ)
property_state_at input place = tag_at input place >>= λ tag. property_state_in tag.0.number input place

unfoldable pub reliability_number_at : ℕ → Reads Reliable
reliability_number_at number = held_at reliability_of_number (number_at number)

-- [0] Present_Value
abbrev pub present_value : ℕ → Option (Unit {0})
present_value n = if n == present_value_property then Some tt else None

unfoldable pub property_value_at : Reads Value
property_value_at = made_at (λ x. x.1) (both_at (held_at present_value (number_at 0)) (enclosed_at value_at 2))

-- [2] the values of properties, of which there are none or that one
unfoldable pub properties_at : Reads (Option Value)
properties_at input place = do
  start ← opening_at input place 2
  tag ← tag_at input start
  if is_closing tag.0.shape then (closing_at input start 2 >>= λ end. Ok (None, end))
      else (property_value_at input start >>= λ x. closing_at input x.1 2 >>= λ end. Ok (Some x.0, end))

unfoldable pub bitstring_at : Reads EventValues
bitstring_at = made_at (λ x. Bitstring x.0 x.1) (both_at (λ input place. bits_at input place (Some 0)) flags_at)

unfoldable pub changed_state_at : Reads EventValues
changed_state_at = made_at (λ x. State x.0.0 x.0.1 x.1) (both_at (enclosed_at property_state_at 0) flags_at)

unfoldable pub commanded_at : Reads EventValues
commanded_at = made_at (λ x. Command x.0 x.1.0 x.1.1) (both_at (enclosed_at value_at 0) (both_at flags_at (enclosed_at value_at 2)))

unfoldable pub unsigned_range_at : Reads EventValues
unsigned_range_at = made_at (λ x. UnsignedRange x.0 x.1.0 x.1.1) (both_at (number_at 0) (both_at flags_at (number_at 2)))

unfoldable pub signed_out_of_range_at : Reads EventValues
signed_out_of_range_at =
    made_at (λ x. SignedOutOfRange x.0 x.1.0 x.1.1.0 x.1.1.1) (both_at (λ input place. signed_at input place (Some 0)) (both_at flags_at (both_at (number_at 2) (λ input place. signed_at input place (Some 3)))))

unfoldable pub unsigned_out_of_range_at : Reads EventValues
unsigned_out_of_range_at = made_at (λ x. UnsignedOutOfRange x.0 x.1.0 x.1.1.0 x.1.1.1) (both_at (number_at 0) (both_at flags_at (both_at (number_at 2) (number_at 3))))

unfoldable pub changed_text_at : Reads EventValues
changed_text_at = made_at (λ x. Characterstring x.0 x.1.0 x.1.1) (both_at (text_at 0) (both_at flags_at (text_at 2)))

unfoldable pub reliability_at : Reads EventValues
reliability_at = made_at (λ x. Reliability x.0 x.1.0 x.1.1) (both_at (reliability_number_at 0) (both_at flags_at properties_at))

unfoldable pub told_at : ℕ → Reads EventValues
told_at type input place =
    if type == change_of_bitstring_type then bitstring_at input place
    else (if type == change_of_state_type then changed_state_at input place
    else (if type == command_failure_type then commanded_at input place
    else (if type == unsigned_range_type then unsigned_range_at input place
    else (if type == signed_out_of_range_type then signed_out_of_range_at input place
    else (if type == unsigned_out_of_range_type then unsigned_out_of_range_at input place
    else (if type == change_of_characterstring_type then changed_text_at input place
    else (if type == change_of_reliability_type then reliability_at input place
    else Err (WrongTag place))))))))

-- [12], and within it the number of the event's type
unfoldable pub values_at : ℕ → Reads EventValues
values_at type = enclosed_at (enclosed_at (told_at type) type) 12

-- what was answered is what reading gives, but that a text may get no memory
abbrev pub GivesRead : {X : Type 0} → Type 0 → Result X TagFault → Result X TagFault → Type 0
GivesRead Text answer read = (answer ≡ read) ⊎ ((answer ≡ Err NoMemory) × Text)
