use Rattle.std.proofs.Common.{sym, subst}
use Rattle.bac_tags.proofs.WrittenElements.{IsSpelledBack, null_written, text_written}
use Rattle.bac_tags.proofs.value.write_value.Goals as goal

pub returns-in-Null-clause-spelled : goal.returns-in-Null-clause-spelled
returns-in-Null-clause-spelled c = subst IsSpelledBack (sym c.in-Null.is) null_written

pub returns-in-Text-clause-spelled : goal.returns-in-Text-clause-spelled
returns-in-Text-clause-spelled c =
    subst IsSpelledBack (sym c.in-Text.is) (text_written c.in-Text.text c.octets.ensures.short c.octets.ensures.utf8)
