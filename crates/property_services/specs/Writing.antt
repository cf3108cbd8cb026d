-- The one spelling of what is written: every tag and every number in the fewest octets (ANSI/ASHRAE 135-2020, 15.5, 15.8 and 16.10).
use Rattle.std.specs.Prelude.{ℕ, Bool, Option, Some, None, List, ◌++◌}
use Rattle.bac_values.specs.Identifier.{ObjectIdData}
use Rattle.bac_values.specs.BitString.{string_of_flags}
use Rattle.bac_values.specs.Services.{longest_apdu, no_segmentation}
use Rattle.bac_tags.specs.Writing.{written_unsigned, written_enumerated, written_object, written_bits}
use Rattle.bac_tags.specs.ParameterWriting.{written_enclosed, written_if_given}
use Rattle.property_services.specs.declared.requests.ReadRequest.{ReadRequest}
use Rattle.property_services.specs.declared.requests.RangeRequest.{RangeRequest}

-- what was read: [0] the object, [1] the property, [2] the index, if there is one
unfoldable pub written_reference : ObjectIdData → ℕ → Option ℕ → List ℕ
written_reference object property index =
    written_object (Some 0) object ++ written_unsigned (Some 1) property ++ written_if_given (written_unsigned (Some 2)) index

-- 15.5: the answer to ReadProperty repeats the request, with [3] the values
abbrev pub written_read_ack : ReadRequest → List ℕ → List ℕ
written_read_ack request values = written_reference request.object request.property.0 request.index ++ written_enclosed 3 values

-- 15.8: the answer to ReadRange repeats the request, with [3] its flags (first item, last item, more items), [4] the count, [5] the items, [6] the first sequence number, if there is one
abbrev pub written_range_ack : RangeRequest → List Bool → ℕ → List ℕ → Option ℕ → List ℕ
written_range_ack request flags count items first =
    written_reference request.object request.property.0 request.index ++ written_bits (Some 3) (string_of_flags flags) ++ written_unsigned (Some 4) count ++ written_enclosed 5 items ++ written_if_given (written_unsigned (Some 6)) first

-- 16.10: I-Am has the device, the longest APDU that it takes, that it takes no segments, and the number of its vendor
abbrev pub written_i_am : ObjectIdData → ℕ → List ℕ
written_i_am device vendor =
    written_object None device ++ written_unsigned None longest_apdu ++ written_enumerated None no_segmentation ++ written_unsigned None vendor
