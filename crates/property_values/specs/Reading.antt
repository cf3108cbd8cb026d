-- What is read of a property: the first error that applies, or its octets (ANSI/ASHRAE 135-2020, 15.5 and clause 18).
use Rattle.std.specs.Prelude.{◌≡◌, ◌==◌, ℕ, ◌-◌, if◌then◌else◌, Option, Some, None, Result, Ok, Err, List, length, slice_get, Vec}
use Rattle.std.specs.declared.alloc.Global.{Global}
use Rattle.std.specs.List.{flat_map}
use Rattle.bac_tags.specs.Writing.{written_unsigned}
use Rattle.property_values.specs.declared.content.Content.{Content}
use Rattle.property_values.specs.declared.content.Content.TheVariants.{Whole, Elements}
use Rattle.property_values.specs.declared.content.ReadFault.{ReadFault}
use Rattle.property_values.specs.declared.content.ReadFault.TheVariants.{Error, NoMemory}
use Rattle.property_values.specs.Properties.{invalid_array_index, property_is_not_an_array}

-- an element of an array, which are counted from 1
abbrev pub found_element : Option (List ℕ) → Result (List ℕ) ReadFault
found_element (Some octets) = Ok octets
found_element None = Err invalid_array_index

-- what is read of a property: the whole, the length of an array at index 0, or one of its elements
abbrev pub part_of : Content → Option ℕ → Result (List ℕ) ReadFault
part_of (Whole octets) None = Ok octets
part_of (Whole octets) (Some index) = Err property_is_not_an_array
part_of (Elements elements) None = Ok (flat_map (λ octets. octets) elements)
part_of (Elements elements) (Some index) =
    if index == 0 then Ok (written_unsigned None (length elements)) else found_element (slice_get elements (index - 1))

abbrev pub part_in : Result Content ReadFault → Option ℕ → Result (List ℕ) ReadFault
part_in (Ok content) index = part_of content index
part_in (Err fault) index = Err fault

-- the answer is that one, unless memory is refused
abbrev pub AnswersRead : Result (Vec ℕ Global) ReadFault → Result (List ℕ) ReadFault → Type 0
AnswersRead (Ok octets) read = read ≡ Ok octets.items
AnswersRead (Err (Error class code)) read = read ≡ Err (Error class code)
AnswersRead (Err NoMemory) read = Unit {0}

-- the same of what a property is
abbrev pub AnswersContent : Result Content ReadFault → Result Content ReadFault → Type 0
AnswersContent (Ok content) found = found ≡ Ok content
AnswersContent (Err (Error class code)) found = found ≡ Err (Error class code)
AnswersContent (Err NoMemory) found = Unit {0}

-- the length of a property that is an array
abbrev pub size_of : Content → Option ℕ
size_of (Whole octets) = None
size_of (Elements elements) = Some (length elements)
