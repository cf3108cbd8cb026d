-- Tables of value objects: rows that ascend by identifier.
use Rattle.std.specs.Prelude.{◌≡◌, ℕ, ◌==◌, ◌<◌, ◌≢◌, Bool, true, false, ◌&&◌, Option, List, length, map, find, slice_index_or, AllPairs}
use Rattle.std.specs.declared.cmp.Ordering.TheVariants.{Less}
use Rattle.bac_values.specs.Identifier.{ObjectIdData}
use Rattle.bac_values.specs.Orders.{identifier_order}
use Rattle.object_table.specs.declared.object_site.ObjectSite.{ObjectSite}
use Rattle.object_table.specs.declared.row.Row.{Row}

-- whether two identifiers are one
abbrev pub is_object : ObjectIdData → ObjectIdData → Bool
is_object object other = other.number == object.number && other.instance == object.instance

-- the row of an object
abbrev pub row_of : ObjectIdData → List Row → Option Row
row_of object rows = find (λ row. is_object object row.site.object) rows

-- a table begins with the site's objects, none of which has a field fault
abbrev pub first_row : ObjectSite → Row
first_row site = record { site = site; field_fault = 0 }

abbrev pub rows_of : List ObjectSite → List Row
rows_of sites = map first_row sites

-- each identifier is below every later one
abbrev pub Ascends : List ObjectIdData → Type 0
Ascends objects = AllPairs (λ earlier later. identifier_order earlier later ≡ Less) objects

abbrev pub object_of : ObjectSite → ObjectIdData
object_of site = site.object

abbrev pub object_in : Row → ObjectIdData
object_in row = row.site.object

-- objects, and rows, in the order of their identifiers
abbrev pub AscendsById : List ObjectSite → Type 0
AscendsById sites = Ascends (map object_of sites)

abbrev pub RowsAscend : List Row → Type 0
RowsAscend rows = Ascends (map object_in rows)

-- the row at the place is that of the object, and no other is
pub record StandsAt (object : ObjectIdData) (rows : List Row) (place : ℕ) : Type 0 where
  pub within : place < length rows
  pub here : (d : Row) → is_object object (slice_index_or rows place d).site.object ≡ true
  pub others : (k : ℕ) (d : Row) → k < length rows → k ≢ place → is_object object (slice_index_or rows k d).site.object ≡ false
