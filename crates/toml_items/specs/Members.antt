-- The value at a key of a table: whether it is there, and whether it says what the key can have.
use Rattle.std.specs.Prelude.{ℕ, nat_lt, Bool, Option, Some, None, List, [], length, Result, Ok, Err, if◌then◌else◌}
use Rattle.std.specs.List.{list_any}
use Rattle.std.specs.Str.{bytes_eq}
use Rattle.toml.specs.Data.{Data, Members, no_members, member, get_member}
use Rattle.toml_items.specs.declared.item_fault.ItemFault.{ItemFault}
use Rattle.toml_items.specs.declared.item_fault.ItemFault.TheVariants.{Unknown, Missing, BadValue}
use Rattle.toml_items.specs.Answers.{◌>>=◌}

-- how a fault names a key: one of more than 256 octets by the empty text
abbrev pub named : List ℕ → List ℕ
named key = if nat_lt 256 (length key) then [] else key

-- a value that the key can have
abbrev pub valid_value : {A : Type 0} → List ℕ → Option A → Result A ItemFault
valid_value key None = Err (BadValue (named key))
valid_value key (Some x) = Ok x

-- what is at a key that has to be there
abbrev pub required_member : List ℕ → Option Data → Result Data ItemFault
required_member key None = Err (Missing (named key))
required_member key (Some d) = Ok d

-- the value at a key that has to be there
abbrev pub required : {A : Type 0} → (Data → Option A) → List ℕ → Members → Result A ItemFault
required read key ms = required_member key (get_member key ms) >>= λ d. valid_value key (read d)

-- the value at a key, or what it is where the key isn't there
abbrev pub value_or : {A : Type 0} → A → (Data → Option A) → List ℕ → Option Data → Result A ItemFault
value_or usual read key None = Ok usual
value_or usual read key (Some d) = valid_value key (read d)

abbrev pub or_else : {A : Type 0} → A → (Data → Option A) → List ℕ → Members → Result A ItemFault
or_else usual read key ms = value_or usual read key (get_member key ms)

-- the value at a key, or none
abbrev pub optional_value : {A : Type 0} → Result A ItemFault → Result (Option A) ItemFault
optional_value (Ok x) = Ok (Some x)
optional_value (Err fault) = Err fault

abbrev pub value_if_there : {A : Type 0} → (Data → Option A) → List ℕ → Option Data → Result (Option A) ItemFault
value_if_there read key None = Ok None
value_if_there read key (Some d) = optional_value (valid_value key (read d))

abbrev pub optional : {A : Type 0} → (Data → Option A) → List ℕ → Members → Result (Option A) ItemFault
optional read key ms = value_if_there read key (get_member key ms)

-- ---- the keys of an item

-- one of the names
abbrev pub is_among : List (List ℕ) → List ℕ → Bool
is_among names key = list_any (λ name. bytes_eq name key) names

-- the least key that isn't known: the keys of a table ascend
abbrev pub first_unknown : (List ℕ → Bool) → Members → Option (List ℕ)
first_unknown known no_members = None
first_unknown known (member key d ms) = if known key then first_unknown known ms else Some key

abbrev pub refused_key : Option (List ℕ) → Result (Unit {0}) ItemFault
refused_key None = Ok tt
refused_key (Some key) = Err (Unknown (named key))

-- an item with the keys that are known: a key of its own is its first fault
abbrev pub with_keys : {A : Type 0} → (List ℕ → Bool) → (Members → Result A ItemFault) → Members → Result A ItemFault
with_keys known read ms = refused_key (first_unknown known ms) >>= λ _. read ms
