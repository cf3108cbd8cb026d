use Rattle.std.proofs.Common.{◌++◌, reverse}
use Rattle.alarm_journal.specs.Press.{room_of}
use Rattle.state_codec.specs.Work.{content_with}
use Rattle.state_codec.proofs.Works.{content_committed}
use Rattle.state_codec.proofs.Committing.{nothing_committed, works_stand}
use Rattle.state_codec.proofs.keeping.keep_events.Goals as goal

pub returns-in-Err-clause-keeps : goal.returns-in-Err-clause-keeps
returns-in-Err-clause-keeps g c = λ journal events older are stands holds.
    rw c.into_ground.ensures.same (nothing_committed journal c.args.core.now.site older (reverse events ++ older) c.args.press.layout (g.G.Ground.told c.args.press.device) holds)

pub returns-in-Ok-write_work-clause-holds : goal.returns-in-Ok-write_work-clause-holds
returns-in-Ok-write_work-clause-holds g c = λ journal events older are stands (content, rests, stood).
    let work = c.in-Ok.work in
    (content_with work content, c.in-Ok-write_work.ensures.rests journal content rests, works_stand c.args.core.now c.args.records.now events older (room_of c.args.press.layout) work content are stands c.in-Ok.ensures.work stood)

pub returns-in-Ok-write_work-clause-keeps : goal.returns-in-Ok-write_work-clause-keeps
returns-in-Ok-write_work-clause-keeps g c = λ journal events older are stands (content, rests, stood).
    let work = c.in-Ok.work in
    content_committed journal c.args.core.now.site older (reverse events ++ older) content (content_with work content) (g.G.Ground.told c.args.press.device) (g.G.Ground.told c.in-Ok-write_work.press.device) stood
    (works_stand c.args.core.now c.args.records.now events older (room_of c.args.press.layout) work content are stands c.in-Ok.ensures.work stood) (c.in-Ok-write_work.ensures.any_moment journal content rests)

pub returns-in-Err-write_work-clause-keeps : goal.returns-in-Err-write_work-clause-keeps
returns-in-Err-write_work-clause-keeps g c = λ journal events older are stands (content, rests, stood).
    let work = c.in-Ok.work in
    content_committed journal c.args.core.now.site older (reverse events ++ older) content (content_with work content) (g.G.Ground.told c.args.press.device) (g.G.Ground.told c.in-Err-write_work.device) stood
    (works_stand c.args.core.now c.args.records.now events older (room_of c.args.press.layout) work content are stands c.in-Ok.ensures.work stood) (c.in-Err-write_work.ensures.any_moment journal content rests)
