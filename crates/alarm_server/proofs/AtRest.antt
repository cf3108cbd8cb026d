-- A moment at which nothing happens to a press.
use Rattle.std.proofs.Common.{Option, Some, None, []}
use Rattle.ground_io.specs.Trace.{Told}
use Rattle.ground_io.proofs.Crashes.{adds_none}
use Rattle.alarm_journal.specs.Journal.{Content}
use Rattle.alarm_journal.specs.Journal.{Site as Journal}
use Rattle.alarm_journal.specs.Press.{Lasts, Throughout}

pub throughout_now : (journal : Journal) (content : Content) (told : Option Told) → Lasts journal told content → Throughout journal content told told
throughout_now journal content None lasts = tt
throughout_now journal content (Some told) lasts = ([], adds_none (Some told), lasts)
