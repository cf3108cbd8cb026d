use Rattle.std.proofs.Common.{refl, sym, subst, Option, Some}
use Rattle.ground_io.specs.Disk.{with_octets}
use Rattle.ground_io.specs.Past.{GoesOn}
use Rattle.ground_io.specs.declared.entry.Entry.TheVariants.{Wrote}
use Rattle.ground_io.specs.declared.past.Past.{Past}
use Rattle.ground_io.proofs.Telling.{goes_on_or_untold, put_first}
use Rattle.ground_io.proofs.past.after_write.Goals as goal

pub returns-in-Some : goal.returns-in-Some
returns-in-Some c =
    let now = with_octets c.args.place c.args.octets.now c.args.contents.now in
    let entry = Wrote c.args.place c.args.octets.now in
    let made = goes_on_or_untold c.in-Some.past c.with_write.result c.args.contents.now now entry c.requires refl
    (put_first c.in-Some.past c.with_write.result c.args.contents.now now c.with_write.ensures.first) c.with_write.ensures.entries in
    record {
      goes_on = subst (λ (o : Option Past). GoesOn o c.ok.result c.args.contents.now now entry) (sym c.in-Some.is)
          (subst (λ (o : Option Past). GoesOn (Some c.in-Some.past) o c.args.contents.now now entry) (sym c.ok.ensures.value) made);
    }
