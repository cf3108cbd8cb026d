-- What passes the tests of a write: the index is none, the property may be written, and it can be the value.
use Rattle.std.proofs.Common.{◌≡◌, ℕ, Bool, true, false, true≢false, ◌&&◌, if◌then◌else◌, ◌==◌, Option, Some, None, IsSome, Result, Ok, Err, List, refl, sym}
use Rattle.std.specs.Option.{is_none}
use Rattle.bac_values.specs.Identifier.{ObjectIdData}
use Rattle.bac_values.specs.declared.value.Foreign.TheVariants.{CharacterSet, TooLong}
use Rattle.bac_values.specs.declared.value.Value.{Value}
use Rattle.bac_values.specs.declared.value.Value.TheVariants.{Opaque}
use Rattle.object_table.specs.declared.change.Change.{Change}
use Rattle.object_table.specs.declared.faults.WriteFault.{WriteFault}
use Rattle.object_table.specs.declared.row.Row.{Row}
use Rattle.object_table.specs.Verdicts.{allowed_change, and_then, content_verdict, index_verdict, invalid_data_type, tag_of, unknown_property, value_verdict}
use Rattle.enrollment.specs.Subjects.{inhibited_by}

-- a change that is allowed is the given one, and its verdict has no fault
pub allowed : (verdict : Result (Unit {0}) WriteFault) (given change : Change) → allowed_change verdict given ≡ Ok change → (verdict ≡ Ok tt) × (given ≡ change)
allowed (Ok passed) given change h = (refl, cc)
allowed (Err fault) given change h = absurd cc

content_ok : (possible : Bool) (value : Value) → content_verdict possible value ≡ Ok tt → possible ≡ true
content_ok true value h = refl
content_ok false (Opaque tag CharacterSet) h = cc
content_ok false (Opaque tag TooLong) h = cc
content_ok false value h = cc

typed_ok : (possible : Bool) (value : Value) (same : Bool) → (if same then content_verdict possible value else Err invalid_data_type) ≡ Ok tt → possible ≡ true
typed_ok possible value true h = content_ok possible value h
typed_ok possible value false h = cc

value_ok : (tag : Option ℕ) (possible : Bool) (value : Value) → value_verdict tag possible value ≡ Ok tt → (possible ≡ true) × IsSome tag
value_ok None possible value h = absurd cc
value_ok (Some tag) possible value h = (typed_ok possible value (tag_of value == tag) h, refl)

both_ok : (first second : Result (Unit {0}) WriteFault) → and_then first second ≡ Ok tt → (first ≡ Ok tt) × (second ≡ Ok tt)
both_ok (Ok passed) second h = (refl, h)
both_ok (Err fault) second h = absurd cc

pub record Passes (size index tag : Option ℕ) (possible : Bool) : Type 0 where
  pub within : index_verdict size index ≡ Ok tt
  pub can : possible ≡ true
  pub writable : IsSome tag

pub passes : (size index tag : Option ℕ) (possible : Bool) (value : Value) → and_then (index_verdict size index) (value_verdict tag possible value) ≡ Ok tt → Passes size index tag possible
passes size index tag possible value h =
    let both = both_ok (index_verdict size index) (value_verdict tag possible value) h in
    let ok = value_ok tag possible value both.1 in
    record { within = both.0; can = ok.0; writable = ok.1 }

-- where the property has to be there first
pub there : (is : Bool) (verdict : Result (Unit {0}) WriteFault) → (if is then verdict else Err unknown_property) ≡ Ok tt → (is ≡ true) × (verdict ≡ Ok tt)
there true verdict h = (refl, h)
there false verdict h = absurd cc

pub no_index : (index : Option ℕ) → index_verdict None index ≡ Ok tt → index ≡ None
no_index None h = refl
no_index (Some index) h = absurd cc

-- Event_Algorithm_Inhibit is written where no reference inhibits, and then an object is inhibited by it alone
pub inhibited_alone : (reference : Option ObjectIdData) (inhibit : Bool) (rows : List Row) → (is_none reference && true) ≡ true → inhibited_by reference inhibit rows ≡ inhibit
inhibited_alone None inhibit rows h = refl
inhibited_alone (Some object) inhibit rows h = absurd (true≢false (sym h))

pub second_true : (a b : Bool) → (a && b) ≡ true → b ≡ true
second_true true b h = h
second_true false b h = absurd (true≢false (sym h))
