-- How many octets a ground over a device has, before its first call.
use Rattle.std.proofs.Common.{◌≡◌, ◌==◌, ℕ, length, refl, cond, Bool, true, false, Some, None, [], rules}
use Rattle.ground_io.specs.InMemory.{bytes_told, file_size}
use Rattle.ground_io.specs.Record.{Supposed, told_by, unasked}

by_first : (bytes : ℕ) (disk : Supposed) (is : Bool) → (length disk.first == bytes) ≡ is → bytes_told bytes (told_by (cond is (Some (record { first = disk.first; trace = []; left = disk.left })) None)) ≡ bytes
by_first bytes disk true is = search rules
by_first bytes disk false is = refl

pub size_at_first : (bytes : ℕ) (disk : Supposed) → file_size (unasked bytes disk) ≡ bytes
size_at_first bytes disk = by_first bytes disk (length disk.first == bytes) refl
