use Rattle.std.proofs.Common.{sym, subst, Option, Some, List, ℕ}
use Rattle.ground_io.specs.Past.{GoesOn}
use Rattle.ground_io.specs.Trace.{sending}
use Rattle.ground_io.specs.declared.past.Past.{Past}
use Rattle.ground_io.proofs.Telling.{goes_on_or_untold, same_first, sending_inside, sending_keeps}
use Rattle.ground_io.proofs.past.after_emission.Goals as goal

pub returns-in-Some : goal.returns-in-Some
returns-in-Some c =
    let entry = sending c.args.lost c.args.peer c.args.octets.now in
    let made = λ (contents : List ℕ). goes_on_or_untold c.in-Some.past c.with_emission.result contents contents entry (sending_inside c.args.lost c.args.peer c.args.octets.now contents) (sending_keeps c.args.lost c.args.peer c.args.octets.now contents)
    (same_first c.in-Some.past c.with_emission.result contents c.with_emission.ensures.first) c.with_emission.ensures.entries in
    record {
      goes_on = λ contents. subst (λ (o : Option Past). GoesOn o c.ok.result contents contents entry) (sym c.in-Some.is)
          (subst (λ (o : Option Past). GoesOn (Some c.in-Some.past) o contents contents entry) (sym c.ok.ensures.value) (made contents));
    }
