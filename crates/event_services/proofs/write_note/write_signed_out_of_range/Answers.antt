use Rattle.std.proofs.Common.{◌≡◌, ℤ, Some, w32, to_z, of_z, List, ◌++◌, ℕ, ap, ◌∙◌, append_assoc}
use Rattle.std.proofs.lemmas.Int.{to_z-of_z}
use Rattle.std.proofs.lemmas.Result.{on_ok_weaker}
use Rattle.bac_tags.specs.Writing.{written_signed, written_unsigned}
use Rattle.event_services.specs.Notifications.{written_flags}
use Rattle.event_services.proofs.write_note.write_signed_out_of_range.Goals as goal

-- four parts, one behind the other
joined : (out a b c d : List ℕ) (first second third fourth : List ℕ) → first ≡ out ++ a → second ≡ first ++ b → third ≡ second ++ c → fourth ≡ third ++ d → fourth ≡ out ++ (a ++ b ++ c ++ d)
joined out a b c d first second third fourth e f g h = rw (h, g, f, e) (simp append_assoc)

pub returns : goal.returns
returns c =
    let value : to_z w32 (of_z w32 c.args.value) ≡ c.args.value = to_z-of_z w32 c.args.value c.ranges.value in
    let limit : to_z w32 (of_z w32 c.args.limit) ≡ c.args.limit = to_z-of_z w32 c.args.limit c.ranges.limit in
    on_ok_weaker c.write_signed-2.result
    (λ e. joined c.args.out.now.items (written_signed (Some 0) c.args.value) (written_flags c.args.flags) (written_unsigned (Some 2) c.args.deadband) (written_signed (Some 3) c.args.limit) c.write_signed.new.out.items c.write_flags.new.out.items c.write_unsigned.new.out.items c.write_signed-2.new.out.items
    (c.in_ok-write_signed.ensures.written ∙ ap (λ (z : ℤ). c.args.out.now.items ++ written_signed (Some 0) z) value)
    c.in_ok-write_flags.ensures
    c.in_ok-write_unsigned.ensures.written
    (e ∙ ap (λ (z : ℤ). c.write_unsigned.new.out.items ++ written_signed (Some 3) z) limit))
    c.write_signed-2.ensures.written
