-- What a read is answered with, and a write: the value, or the first error of its list that applies (15.5, 15.9, 18).
use Rattle.std.specs.Prelude.{ℕ, ◌-◌, Bool, true, false, ◌==◌, ◌||◌, ◌&&◌, not, nat_lt, if◌then◌else◌}
use Rattle.std.specs.Prelude.{Option, Some, None, is_some, is_none, option_map, option_and_then, option_to_list}
use Rattle.std.specs.Prelude.{Result, Ok, Err, List, [], ◌∷◌, ◌++◌, map, find, filter, fold, length, slice_get}
use Rattle.profile.specs.Numbers.{Identifier, is, identifier, maybe, Value, Text, Unsigned, Opaque, CharacterSet, TooLong, datatype}
use Rattle.profile.specs.Numbers.{Device, EventLog, NotificationClass, Error, UnknownObject, UnknownProperty}
use Rattle.profile.specs.Numbers.{InvalidDataType, ValueOutOfRange, WriteAccessDenied, CharacterSetNotSupported}
use Rattle.profile.specs.Numbers.{InvalidArrayIndex, PropertyIsNotAnArray, NoSpaceToWriteProperty}
use Rattle.profile.specs.Sites.{Site, Class, Log, identifier_of}
use Rattle.profile.specs.Tables.{Part, One, Content, Whole, Array, Row, row_of, object_rows, log_rows, class_rows, device_rows}
use Rattle.profile.specs.Histories.{Event, objects_after, classes_after, shown_after}

-- ---- the errors, each with the condition under which it comes, in their order

-- the first error whose condition holds
abbrev pub first_error : List (Bool × Error) → Option Error
first_error errors = option_map (λ (row : Bool × Error). row.1) (find (λ (row : Bool × Error). row.0) errors)

abbrev pub array_length : Content → Option ℕ
array_length (Array parts) = Some (length parts)
array_length (Whole parts) = None

-- of a read (15.5): of the row of the property, where the object has it, and the index, where one is given
abbrev pub read_errors : Bool → Option Row → Option ℕ → List (Bool × Error)
read_errors there row index =
    let size = option_and_then (λ (row : Row). array_length row.read) row in
    (not there, UnknownObject)
    ∷ (is_none row, UnknownProperty)
    ∷ (is_some index && is_none size, PropertyIsNotAnArray)
    ∷ (maybe size false (λ most. maybe index false (nat_lt most)), InvalidArrayIndex)
    ∷ []

abbrev pub is_foreign : Value → Bool
is_foreign (Opaque number CharacterSet) = true
is_foreign value = false

-- a text has at most 256 octets
abbrev pub is_long : Value → Bool
is_long (Opaque number TooLong) = true
is_long (Text octets) = nat_lt 256 (length octets)
is_long value = false

-- of a write (15.9): those of a read, and then those of the value
abbrev pub write_errors : Bool → Option Row → Option ℕ → Value → List (Bool × Error)
write_errors there row index value =
    let written = option_and_then (λ (row : Row). row.written) row in
    read_errors there row index
    ++ ((is_none written, WriteAccessDenied)
    ∷ (not (maybe written false (λ number. number == datatype value)), InvalidDataType)
    ∷ (is_foreign value, CharacterSetNotSupported)
    ∷ (is_long value, NoSpaceToWriteProperty)
    ∷ (not (maybe row false (λ row. row.can_be value)), ValueOutOfRange)
    ∷ [])

-- what is read: all of it, or of an array its length at index 0, or an element
abbrev pub part_at : Content → Option ℕ → List Part
part_at (Whole parts) index = parts
part_at (Array parts) None = parts
part_at (Array parts) (Some index) =
    if index == 0 then One (Unsigned (length parts)) ∷ [] else option_to_list (slice_get parts (index - 1))

-- ---- the objects of the device

-- by type, then by instance
abbrev pub precedes : Identifier → Identifier → Bool
precedes a b = nat_lt a.type b.type || a.type == b.type && nat_lt a.instance b.instance

-- an identifier among ascending ones
abbrev pub put : List Identifier → Identifier → List Identifier
put ids id = filter (λ other. precedes other id) ids ++ id ∷ filter (precedes id) ids

-- by what each log holds: whether it takes records, how many it has, and how many it ever took
module _ (site : Site) (holds : Log → Bool × ℕ × ℕ) where
  -- all objects of the device, itself too, by ascending identifier (12.11)
  abbrev pub object_list : List Identifier
  object_list =
      fold put [] (identifier Device site.device.instance ∷ map identifier_of site.objects
      ++ map (λ (class : Class). identifier NotificationClass class.number) site.classes
      ++ map (λ (log : Log). identifier EventLog log.instance) site.logs)

  -- the table of each, as it is behind a history
  abbrev pub tables_after : List Event → List (Identifier × List Row)
  tables_after history =
      (identifier Device site.device.instance, device_rows site.device object_list)
      ∷ map (λ object. (identifier_of object, object_rows (shown_after site history object) object)) (objects_after site history)
      ++ map (λ (class : Class). (identifier NotificationClass class.number, class_rows class)) (classes_after site history)
      ++ map (λ (log : Log). (identifier EventLog log.instance, log_rows log (holds log).0 (holds log).1 (holds log).2)) site.logs

  abbrev pub table_of : List Event → Identifier → Option (List Row)
  table_of history id =
      let names = λ (found : Identifier × List Row). is found.0 id in
      option_map (λ (found : Identifier × List Row). found.1) (find names (tables_after history))

  -- the answer to a read of a property by its number: an error, or what is read
  abbrev pub read : List Event → Identifier → ℕ → Option ℕ → Result (List Part) Error
  read history id number index =
      let table = table_of history id in
      let row = option_and_then (row_of number) table in
      maybe (first_error (read_errors (is_some table) row index)) (Ok (maybe row [] (λ row. part_at row.read index))) Err

  -- the error with which a write is answered, or none where it is taken
  abbrev pub write_error : List Event → Identifier → ℕ → Option ℕ → Value → Option Error
  write_error history id number index value =
      let table = table_of history id in
      first_error (write_errors (is_some table) (option_and_then (row_of number) table) index value)
