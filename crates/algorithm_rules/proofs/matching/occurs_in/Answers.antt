use Rattle.std.proofs.Common.{sym, arith, ⊎_elim}
use Rattle.std.proofs.lemmas.Bool.{cases_Bool}
use Rattle.algorithm_rules.specs.Matches.{occurs_in}
use Rattle.algorithm_rules.proofs.Occurrences.{occurs_in-true, occurs_in-place}
use Rattle.algorithm_rules.proofs.matching.occurs_in.Goals as goal

pub returns-in-Some : goal.returns-in-Some
returns-in-Some c =
    let found = rw c.in-Some.is at c.find.ensures in
    record { occurs = sym (occurs_in-true c.args.part.now c.args.whole.now c.in-Some.field-0 found.1) }

pub returns-in-None : goal.returns-in-None
returns-in-None c =
    let nowhere = rw c.in-None.is at c.find.ensures in
    record {
      occurs = ⊎_elim
          (λ yes. let place = occurs_in-place c.args.part.now c.args.whole.now yes in
          absurd (nowhere place.0 (omega arith) (omega (arith, place.1.fits)) place.1))
          (λ no. sym no)
          (cases_Bool (occurs_in c.args.part.now c.args.whole.now));
    }
