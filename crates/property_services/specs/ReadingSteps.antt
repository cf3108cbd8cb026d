-- Reading the parameters of a request, one after the other: the request, or the first refusal.
use Rattle.std.specs.Prelude.{◌≡◌, ℕ, ℤ, ◌==◌, nat_lt, if◌then◌else◌, Option, Some, None, Bool, true, false, List, length, slice_range, Result, Ok, Err, IsOk}
use Rattle.bac_values.specs.declared.property_id.PropertyId.{PropertyId}
use Rattle.bac_values.specs.declared.stamp.Stamp.{Stamp}
use Rattle.bac_values.specs.declared.value.Value.{Value}
use Rattle.bac_values.specs.declared.value.Value.TheVariants as values
use Rattle.bac_values.specs.declared.value.Foreign.TheVariants.{OtherType}
use Rattle.bac_tags.specs.declared.fault.TagFault.{TagFault}
use Rattle.bac_tags.specs.declared.tag.Shape.{Shape}
use Rattle.bac_tags.specs.declared.tag.Shape.TheVariants.{Primitive, Opening, Closing}
use Rattle.bac_tags.specs.ReadingSteps.{tag_at, unsigned_at, signed_at, object_at, stamp_at, value_at, ◌>>=◌}
use Rattle.bac_tags.specs.declared.malformed.Malformed.{Malformed}
use Rattle.bac_tags.specs.ParameterReadingSteps.{or_invalid, required, optional, whole}
use Rattle.bac_tags.specs.EnclosingSteps.{closing_at}
use Rattle.bac_tags.specs.BalancedSteps.{elements_at}
use Rattle.property_services.specs.declared.requests.ReadRequest.{ReadRequest}
use Rattle.property_services.specs.declared.fault.ServiceFault.{ServiceFault}
use Rattle.property_services.specs.declared.fault.ServiceFault.TheVariants as faults
use Rattle.property_services.specs.declared.requests.WriteRequest.{WriteRequest}
use Rattle.property_services.specs.declared.requests.RangeRequest.{RangeRequest}
use Rattle.property_services.specs.declared.requests.RangeBy.{RangeBy}
use Rattle.property_services.specs.declared.requests.RangeBy.TheVariants.{All, Position, Sequence, Time}

abbrev pub property_id : ℕ → PropertyId
property_id number = record { 0 = number }

-- the object, the property and the index, and the place after them
unfoldable pub reference_at : List ℕ → Result (ReadRequest × ℕ) Malformed
reference_at input = do
  object ← required input 0 (object_at input 0 (Some 0))
  property ← required input object.1 (unsigned_at input object.1 (Some 1))
  index ← optional input property.1 (unsigned_at input property.1 (Some 2))
  Ok (record { object = object.0; property = property_id property.0; index = index.0 }, index.1)

abbrev pub read_property_of : List ℕ → Result ReadRequest Malformed
read_property_of input = whole input (reference_at input)

-- ---- ReadRange

-- the number of a tag that opens a list
abbrev pub opened : Bool → Shape → ℕ → Option ℕ
opened true Opening number = Some number
opened true Closing number = None
opened true (Primitive n) number = None
opened false shape number = None

-- what stands behind the opening tag of a list that begins at the first place: a number and a count, or a date, a time and a count
unfoldable pub counted_at : List ℕ → ℕ → ℕ → ℕ → Result ((ℕ × ℤ) × ℕ) Malformed
counted_at input begin place number = do
  reference ← or_invalid begin (unsigned_at input place None)
  count ← or_invalid begin (signed_at input reference.1 None)
  end ← or_invalid begin (closing_at input count.1 number)
  Ok ((reference.0, count.0), end)

unfoldable pub dated_at : List ℕ → ℕ → ℕ → ℕ → Result ((Stamp × ℤ) × ℕ) Malformed
dated_at input begin place number = do
  reference ← or_invalid begin (stamp_at input place)
  count ← or_invalid begin (signed_at input reference.1 None)
  end ← or_invalid begin (closing_at input count.1 number)
  Ok ((reference.0, count.0), end)

-- the range behind an opening tag of this number, or all where no such tag is there
unfoldable pub range_behind : List ℕ → ℕ → ℕ → Option ℕ → Result (RangeBy × ℕ) Malformed
range_behind input begin place None = Ok (All, begin)
range_behind input begin place (Some number) =
    if number == 3 then (counted_at input begin place 3 >>= λ x. Ok (Position x.0.0 x.0.1, x.1))
    else (if number == 6 then (counted_at input begin place 6 >>= λ x. Ok (Sequence x.0.0 x.0.1, x.1))
    else (if number == 7 then (dated_at input begin place 7 >>= λ x. Ok (Time x.0.0 x.0.1, x.1))
    else Ok (All, begin)))

unfoldable pub range_at : List ℕ → ℕ → Result (RangeBy × ℕ) Malformed
range_at input place =
    if nat_lt place (length input) then (or_invalid place (tag_at input place) >>= λ tag. range_behind input place tag.1 (opened tag.0.context tag.0.shape tag.0.number)) else Ok (All, place)

abbrev pub range_request : ReadRequest → RangeBy → RangeRequest
range_request reference range = record { object = reference.object; property = reference.property; index = reference.index; range = range }

unfoldable pub range_request_at : List ℕ → Result (RangeRequest × ℕ) Malformed
range_request_at input = do
  reference ← reference_at input
  range ← range_at input reference.1
  Ok (range_request reference.0 range.0, range.1)

abbrev pub read_range_of : List ℕ → Result RangeRequest Malformed
read_range_of input = whole input (range_request_at input)

-- ---- WriteProperty

-- the elements of the value
unfoldable pub content_at : List ℕ → ℕ → Result (List ℕ × ℕ) Malformed
content_at input place = do
  found ← required input place (elements_at input place 3)
  Ok (slice_range input found.0.0 found.0.1, found.1)

unfoldable pub write_at : List ℕ → Result ((ReadRequest × List ℕ) × ℕ) Malformed
write_at input = do
  reference ← reference_at input
  content ← content_at input reference.1
  priority ← optional input content.1 (unsigned_at input content.1 (Some 4))
  Ok ((reference.0, content.0), priority.1)

-- the value of elements that are exactly one application value
abbrev pub value_or_other : ℕ → Result (Value × ℕ) TagFault → Value
value_or_other size (Ok x) = if x.1 == size then x.0 else values.Opaque 0 OtherType
value_or_other size (Err fault) = values.Opaque 0 OtherType

unfoldable pub value_of : List ℕ → Value
value_of content = value_or_other (length content) (value_at content 0)

abbrev pub write_request : ReadRequest × List ℕ → WriteRequest
write_request written = record { object = written.0.object; property = written.0.property; index = written.0.index; value = value_of written.1 }

abbrev pub write_property_of : List ℕ → Result WriteRequest Malformed
write_property_of input = whole input (write_at input) >>= λ written. Ok (write_request written)

-- what a call returned is what reading gives, where memory may be refused
abbrev pub GivesWrite : Result WriteRequest ServiceFault → Result WriteRequest Malformed → Type 0
GivesWrite (Ok request) read = read ≡ Ok request
GivesWrite (Err (faults.Malformed reject place)) read = read ≡ Err (record { reject = reject; at = place })
GivesWrite (Err faults.NoMemory) read = IsOk read

-- ---- Who-Is

-- behind the lowest instance, if it is given, the highest
unfoldable pub limits_behind : List ℕ → Option ℕ → ℕ → Result (Option (ℕ × ℕ) × ℕ) Malformed
limits_behind input None place = Ok (None, place)
limits_behind input (Some low) place = do
  high ← required input place (unsigned_at input place (Some 1))
  Ok (Some (low, high.0), high.1)

unfoldable pub limits_at : List ℕ → Result (Option (ℕ × ℕ) × ℕ) Malformed
limits_at input = do
  low ← optional input 0 (unsigned_at input 0 (Some 0))
  limits_behind input low.0 low.1

abbrev pub who_is_of : List ℕ → Result (Option (ℕ × ℕ)) Malformed
who_is_of input = whole input (limits_at input)
