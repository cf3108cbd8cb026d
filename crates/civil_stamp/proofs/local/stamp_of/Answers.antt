use Rattle.std.proofs.Common.{◌∙◌, sym}
use Rattle.civil_stamp.proofs.StampLemmas.{stamp_is, civil_octets-shows}
use Rattle.civil_stamp.proofs.local.stamp_of.Goals as goal

pub returns-clause-shows : goal.returns-clause-shows
returns-clause-shows c =
    civil_octets-shows _ _ _ c.date_and_time.result c.stamp_of_civil.ensures.octets c.date_and_time.ensures.year c.date_and_time.ensures.shows

pub returns-clause-stamp : goal.returns-clause-stamp
returns-clause-stamp c =
    stamp_is _ _ _ (returns-clause-shows c)

pub returns-clause-only : goal.returns-clause-only
returns-clause-only c = λ stamp h. stamp_is _ _ _ h ∙ sym (returns-clause-stamp c)
