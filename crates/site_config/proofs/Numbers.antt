-- What instances, limits and Notify_Type keep to.
use Rattle.std.proofs.Common.{◌≡◌, ◌≤◌, ℤ, pos, negsuc, ◌≤ℤ◌, ℕ, List, true, false, if◌then◌else◌, Bool, Some, None, arith}
use Rattle.std.specs.Prelude.{FitsSigned, codes}
use Rattle.std.specs.Int.{w32, FitsUnsigned}
use Rattle.std.specs.Str.{bytes_eq}
use Rattle.std.proofs.lemmas.Int.{ints}
use Rattle.toml.specs.Data.{Data, as_str}
use Rattle.bac_values.specs.declared.object_kind.ObjectKind.TheVariants.{IntegerValue, PositiveIntegerValue}
use Rattle.object_table.specs.Objects.{IsWithin}
use Rattle.toml_items.specs.Values.{last_unsigned}
use Rattle.toml_items.proofs.Numbers.{whole_kept, unsigned_kept}
use Rattle.toml_items.proofs.Steps.{found}
use Rattle.site_config.specs.Values.{instance_in, notify_of, notify_in, limit_in}

pub instance_kept : (d : Data) (n : ℕ) → instance_in d ≡ Some n → n ≤ 4194302
instance_kept d n h = (unsigned_kept 0 4194302 d n h).1

-- ---- limits of integer and of positive integer values

signed_limits : (z : ℤ) → negsuc 2147483647 ≤ℤ z → z ≤ℤ pos 2147483647 → FitsSigned w32 z
signed_limits z low high = omega (arith, ints)

unsigned_limits : (z : ℤ) → pos 0 ≤ℤ z → z ≤ℤ pos 4294967295 → FitsUnsigned w32 z
unsigned_limits z low high = (low, omega (arith, ints))

pub integer_limit : (d : Data) (z : ℤ) → limit_in IntegerValue d ≡ Some z → IsWithin (Some IntegerValue) z
integer_limit d z h = let (low, high) = whole_kept (negsuc 2147483647) (pos 2147483647) d z h in signed_limits z low high

pub positive_limit : (d : Data) (z : ℤ) → limit_in PositiveIntegerValue d ≡ Some z → IsWithin (Some PositiveIntegerValue) z
positive_limit d z h = let (low, high) = whole_kept (pos 0) (pos last_unsigned) d z h in unsigned_limits z low high

-- ---- Notify_Type

notify_at_most_one : (text : List ℕ) (n : ℕ) → notify_of text ≡ Some n → n ≤ 1
notify_at_most_one text n h = by (bytes_eq text (codes "alarm")) (bytes_eq text (codes "event")) h
  where
    by : (a b : Bool) → (if a then Some 0 else (if b then Some 1 else None)) ≡ Some n → n ≤ 1
    by true b e = let is : 0 ≡ n = cc in omega arith
    by false true e = let is : 1 ≡ n = cc in omega arith
    by false false e = absurd cc

pub notify_kept : (d : Data) (n : ℕ) → notify_in d ≡ Some n → n ≤ 1
notify_kept d n h = let f = found (as_str d) notify_of n h in notify_at_most_one f.value n f.next_is
