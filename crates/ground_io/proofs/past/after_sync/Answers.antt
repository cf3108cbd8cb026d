use Rattle.std.proofs.Common.{refl, sym, subst, Option, Some, List, ℕ}
use Rattle.ground_io.specs.Past.{GoesOn}
use Rattle.ground_io.specs.declared.entry.Entry.TheVariants.{Synced}
use Rattle.ground_io.specs.declared.past.Past.{Past}
use Rattle.ground_io.proofs.Telling.{goes_on_or_untold, same_first}
use Rattle.ground_io.proofs.past.after_sync.Goals as goal

pub returns-in-Some : goal.returns-in-Some
returns-in-Some c =
    let made = λ (contents : List ℕ). goes_on_or_untold c.in-Some.past c.with_entry.result contents contents Synced tt refl (same_first c.in-Some.past c.with_entry.result contents c.with_entry.ensures.first) c.with_entry.ensures.entries in
    record {
      goes_on = λ contents. subst (λ (o : Option Past). GoesOn o c.ok.result contents contents Synced) (sym c.in-Some.is)
          (subst (λ (o : Option Past). GoesOn (Some c.in-Some.past) o contents contents Synced) (sym c.ok.ensures.value) (made contents));
    }
