-- What an array of a TOML document says, item by item.
use Rattle.std.specs.Prelude.{ℕ, ◌+◌, ◌&&◌, nat_le, Bool, true, is_some, Option, Some, None, List, [], ◌∷◌, if◌then◌else◌}
use Rattle.toml.specs.Data.{Data, Items, no_items, item, as_array, as_table}
use Rattle.toml_items.specs.Values.{◌>>=◌}

-- what each item of an array says
abbrev pub all_in : {A : Type 0} → (Data → Option A) → Items → Option (List A)
all_in read no_items = Some []
all_in read (item d ds) = read d >>= λ x. all_in read ds >>= λ xs. Some (x ∷ xs)

-- an array of so many at least, and so many at most
abbrev pub items_count : Items → ℕ
items_count no_items = 0
items_count (item d ds) = 1 + items_count ds

abbrev pub sized : ℕ → ℕ → Items → Option Items
sized least most ds = if nat_le least (items_count ds) && nat_le (items_count ds) most then Some ds else None

abbrev pub list_in : {A : Type 0} → ℕ → ℕ → (Data → Option A) → Data → Option (List A)
list_in least most read d = (as_array d >>= sized least most) >>= all_in read

-- an array of three
abbrev pub three_of : {A : Type 0} → (Data → Option A) → Items → Option (List A)
three_of read (item a (item b (item c no_items))) = read a >>= λ x. read b >>= λ y. read c >>= λ z. Some (x ∷ y ∷ z ∷ [])
three_of read _ = None

abbrev pub three_in : {A : Type 0} → (Data → Option A) → Data → Option (List A)
three_in read d = as_array d >>= three_of read

-- an array of tables
abbrev pub are_tables : Items → Bool
are_tables no_items = true
are_tables (item d ds) = is_some (as_table d) && are_tables ds

abbrev pub tables : Items → Option Items
tables ds = if are_tables ds then Some ds else None
