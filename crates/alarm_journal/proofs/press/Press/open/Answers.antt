use Rattle.std.proofs.Common.{◌+◌, length, arith}
use Rattle.alarm_journal.specs.Journal.{Site}
use Rattle.alarm_journal.specs.Opened.{content_in}
use Rattle.alarm_journal.specs.Press.{start_of}
use Rattle.alarm_journal.proofs.Committing.{end_low}
use Rattle.alarm_journal.proofs.Places.{ends_before, pieces_whole, pieces_long}
use Rattle.alarm_journal.proofs.Rest.{lasts}
use Rattle.alarm_journal.proofs.press.Press.open.Goals as goal

pub returns-in-Ok-clause-lasts : goal.returns-in-Ok-clause-lasts
returns-in-Ok-clause-lasts g c =
    let site : Site = record { text = c.args.site_text.now; need = c.args.need } in
    lasts site c.in-Ok.layout (g.G.Ground.told c.open_device.new.device) (content_in c.in-Ok.opened) (g.G.Ground.size c.open_device.new.device) c.in-Ok.ensures.sound c.in-Ok.ensures.settled

pub returns-in-Ok-clause-batches : goal.returns-in-Ok-clause-batches
returns-in-Ok-clause-batches g c = pieces_whole c.in-Ok.opened.bodies c.in-Ok.opened.batches c.in-Ok.ensures.laid.whole

pub returns-in-Ok-clause-lengths : goal.returns-in-Ok-clause-lengths
returns-in-Ok-clause-lengths g c = pieces_long c.in-Ok.opened.bodies c.in-Ok.opened.batches c.in-Ok.ensures.laid.whole

pub returns-in-Ok-clause-ends : goal.returns-in-Ok-clause-ends
returns-in-Ok-clause-ends g c =
    let layout = c.in-Ok.layout in
    let sound = c.in-Ok.ensures.sound in
    ends_before (start_of layout + 4 + length c.in-Ok.opened.snapshot) c.in-Ok.opened.bodies layout.next (omega (arith, sound.within, sound.fits, sound.word, end_low layout)) c.in-Ok.ensures.laid.bodies
