use Rattle.alarm_journal.specs.Opened.{content_in}
use Rattle.state_codec.proofs.Openings.{opened_to}
use Rattle.floor_desk.proofs.desk.Desk.open.Goals as goal

pub returns-in-Ok-over-clause-holds : goal.returns-in-Ok-over-clause-holds
returns-in-Ok-over-clause-holds g c = rw c.in-Ok-over.ensures.origin c.in-Ok.ensures.holds

pub returns-in-Ok-over-clause-leads : goal.returns-in-Ok-over-clause-leads
returns-in-Ok-over-clause-leads g c =
    rw c.in-Ok-over.ensures.origin (opened_to c.args.site.now c.args.text.now (content_in c.in-Ok.opened.2) c.in-Ok.opened.1 (g.G.Ground.told c.args.device) (g.G.Ground.told c.in-Ok.opened.0.device) c.in-Ok.ensures.opened c.in-Ok.ensures.leads)

pub returns-in-Ok-over-clause-enough : goal.returns-in-Ok-over-clause-enough
returns-in-Ok-over-clause-enough g c = c.in-Ok.ensures.enough

pub returns-in-Ok-over-clause-cause : goal.returns-in-Ok-over-clause-cause
returns-in-Ok-over-clause-cause g c = rw c.in-Ok-over.ensures.origin c.in-Ok.ensures.cause
