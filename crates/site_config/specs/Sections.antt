-- The sections of a document, and the places of their faults.
use Rattle.std.specs.Prelude.{ℕ, ◌+◌, ◌-◌, ◌^◌, min, Option, Some, None, List, [], ◌∷◌, codes, Result, Ok, Err, if◌then◌else◌}
use Rattle.std.specs.Cmp.Lexicographic.{slice_cmp}
use Rattle.std.specs.Ordering.{nat_cmp, is_lt}
use Rattle.toml.specs.Data.{Data, table, as_table, as_array, Items, no_items, item, Members, no_members, get_member}
use Rattle.property_values.specs.declared.device_site.DeviceSite.{DeviceSite}
use Rattle.site_config.specs.declared.fault.Section.{Section}
use Rattle.site_config.specs.declared.fault.Section.TheVariants.{Device, Class, Destination, Object, Enrollment, Log, Binding}
use Rattle.site_config.specs.declared.fault.SiteFault.{SiteFault}
use Rattle.site_config.specs.declared.fault.SiteFault.TheVariants as site_faults
use Rattle.toml_items.specs.declared.item_fault.ItemFault.{ItemFault}
use Rattle.toml_items.specs.declared.item_fault.ItemFault.TheVariants.{Unknown, Missing, BadValue, NoMemory}
use Rattle.site_config.specs.declared.keys.Keys.TheVariants as keys
use Rattle.toml_items.specs.Answers.{◌>>=◌}
use Rattle.toml_items.specs.Lists.{tables}
use Rattle.toml_items.specs.Values.{◌>>=◌ as ◌>>?◌}
use Rattle.site_config.specs.Devices.{device_of}
use Rattle.site_config.specs.Keys.{has_key}
use Rattle.toml_items.specs.Members.{named, first_unknown, refused_key}

-- the fault of an item, with its place
abbrev pub at_place : Section → ℕ → ItemFault → SiteFault
at_place section number (Unknown key) = site_faults.Unknown (record { section = section; item = number; key = key })
at_place section number (Missing key) = site_faults.Missing (record { section = section; item = number; key = key })
at_place section number (BadValue key) = site_faults.BadValue (record { section = section; item = number; key = key })
at_place section number NoMemory = site_faults.NoMemory

-- an item, or its fault with its place
abbrev pub placed : {A : Type 0} → Section → ℕ → Result A ItemFault → Result A SiteFault
placed section number (Ok x) = Ok x
placed section number (Err fault) = Err (at_place section number fault)

abbrev pub section_name : Section → List ℕ
section_name Device = codes "device"
section_name Class = codes "class"
section_name Destination = codes "destination"
section_name Object = codes "object"
section_name Enrollment = codes "enrollment"
section_name Log = codes "log"
section_name Binding = codes "binding"

-- a section that isn't a table, or isn't an array of tables
abbrev pub section_fault : Section → SiteFault
section_fault section = at_place section 0 (BadValue (named (section_name section)))

-- ---- the device

-- without a table the device has no keys
abbrev pub device_table : Option Data → Option Members
device_table None = Some no_members
device_table (Some d) = as_table d

-- the lesser of two keys, by their octets
abbrev pub lesser_key : Option (List ℕ) → Option (List ℕ) → Option (List ℕ)
lesser_key None other = other
lesser_key (Some key) None = Some key
lesser_key (Some key) (Some other) = if is_lt (slice_cmp nat_cmp other key) then Some other else Some key

-- the unknown keys of the document count among those of the device
abbrev pub device_item : Members → Members → Result DeviceSite ItemFault
device_item document ms =
    refused_key (lesser_key (first_unknown (has_key keys.Device) ms) (first_unknown (has_key keys.Top) document)) >>= λ _. device_of ms

abbrev pub device_from : Members → Option Members → Result DeviceSite SiteFault
device_from document None = Err (section_fault Device)
device_from document (Some ms) = placed Device 0 (device_item document ms)

abbrev pub device_section : Members → Result DeviceSite SiteFault
device_section document = device_from document (device_table (get_member (codes "device") document))

-- ---- arrays of tables

-- the tables of a section: none where it isn't there
abbrev pub tables_at : Option Data → Option Items
tables_at None = Some no_items
tables_at (Some d) = as_array d >>? tables

-- items are counted from 1
abbrev pub next_number : ℕ → ℕ
next_number number = min (number + 1) (2 ^ 32 - 1)

-- the items of tables, the first of which has this number; what is no table isn't among them
abbrev pub items_of : {A : Type 0} → (Members → Result A ItemFault) → Section → ℕ → Items → Result (List A) SiteFault
items_of read section number no_items = Ok []
items_of read section number (item (table ms) ds) =
    placed section number (read ms) >>= λ x. items_of read section (next_number number) ds >>= λ xs. Ok (x ∷ xs)
items_of read section number (item _ ds) = items_of read section number ds

abbrev pub section_from : {A : Type 0} → (Members → Result A ItemFault) → Section → Option Items → Result (List A) SiteFault
section_from read section None = Err (section_fault section)
section_from read section (Some ds) = items_of read section 1 ds

abbrev pub section_of : {A : Type 0} → (Members → Result A ItemFault) → Section → Members → Result (List A) SiteFault
section_of read section document = section_from read section (tables_at (get_member (section_name section) document))
