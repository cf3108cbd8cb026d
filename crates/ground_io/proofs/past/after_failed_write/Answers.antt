use Rattle.std.proofs.Common.{sym, subst, Option, Some, length}
use Rattle.ground_io.specs.Disk.{octets_at}
use Rattle.ground_io.specs.Past.{GoesOn}
use Rattle.ground_io.specs.declared.entry.Entry.TheVariants.{Broke}
use Rattle.ground_io.specs.declared.past.Past.{Past}
use Rattle.ground_io.proofs.Disks.{length-octets_at, put_back}
use Rattle.ground_io.proofs.Telling.{goes_on_or_untold, same_first}
use Rattle.ground_io.proofs.past.after_failed_write.Goals as goal

pub returns-in-Some : goal.returns-in-Some
returns-in-Some c =
    let contents = c.args.contents.now in
    let count = length c.args.octets.now in
    let entry = Broke c.args.place c.args.octets.now (octets_at c.args.place count contents) in
    let made = goes_on_or_untold c.in-Some.past c.with_failed_write.result contents contents entry (c.requires, length-octets_at c.args.place count contents c.requires) (sym (put_back c.args.place count contents c.requires))
    (same_first c.in-Some.past c.with_failed_write.result contents c.with_failed_write.ensures.first) c.with_failed_write.ensures.entries in
    record {
      goes_on = subst (λ (o : Option Past). GoesOn o c.ok.result contents contents entry) (sym c.in-Some.is)
          (subst (λ (o : Option Past). GoesOn (Some c.in-Some.past) o contents contents entry) (sym c.ok.ensures.value) made);
    }
