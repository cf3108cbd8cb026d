use Rattle.std.proofs.Common.{◌≡◌, ◌-◌, ◌^◌, ℕ, ℤ, Some, List, refl, rules, of_z, to_z, w32}
use Rattle.std.specs.Prelude.{string_bytes}
use Rattle.script_lines.specs.Number.{signed_of, unsigned_of}
use Rattle.alarm_server.specs.Settings.{settings_from}
use Rattle.alarm_server.proofs.settings.settings_in.Goals as goal

all_given : (low high deadband delay normal : List ℕ) (l h : ℤ) (d y n : ℕ) → Some l ≡ signed_of low → Some h ≡ signed_of high → Some d ≡ unsigned_of (2 ^ 32 - 1) deadband → Some y ≡ unsigned_of (2 ^ 32 - 1) delay → Some n ≡ unsigned_of (2 ^ 32 - 1) normal →
    Some (record { low = l; high = h; deadband = d; delay = y; normal = n }) ≡ settings_from low high deadband delay normal
all_given low high deadband delay normal l h d y n first second third fourth fifth = rw (← first, ← second, ← third, ← fourth, ← fifth) refl

pub returns : goal.returns
returns c =
    let l = to_z w32 (of_z w32 c.in_ok-signed_word.field-0) in
    let h = to_z w32 (of_z w32 c.in_ok-signed_word-2.field-0) in
    let low : Some l ≡ signed_of (string_bytes c.args.low.now) = search rules in
    let high : Some h ≡ signed_of (string_bytes c.args.high.now) = search rules in
    record {
      settings = all_given (string_bytes c.args.low.now) (string_bytes c.args.high.now) (string_bytes c.args.deadband.now) (string_bytes c.args.delay.now) (string_bytes c.args.normal.now) l h c.in_ok-unsigned_word.field-0 c.in_ok-unsigned_word-2.field-0 c.in_ok-unsigned_word-3.field-0 low high c.in_ok-unsigned_word.ensures.value c.in_ok-unsigned_word-2.ensures.value c.in_ok-unsigned_word-3.ensures.value;
    }
