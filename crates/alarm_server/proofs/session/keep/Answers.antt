use Rattle.state_codec.proofs.Committing.{nothing_committed}
use Rattle.alarm_server.proofs.session.keep.Goals as goal

pub returns-in-Ok-clause-holds : goal.returns-in-Ok-clause-holds
returns-in-Ok-clause-holds g c = rw c.in-Some.is c.in-Ok.ensures.holds

pub returns-in-Ok-clause-keeps : goal.returns-in-Ok-clause-keeps
returns-in-Ok-clause-keeps g c = rw c.in-Some.is c.in-Ok.ensures.keeps

pub returns-in-Err-clause-keeps : goal.returns-in-Err-clause-keeps
returns-in-Err-clause-keeps g c = rw c.in-Some.is c.in-Err.ensures.keeps

pub returns-in-None-clause-keeps : goal.returns-in-None-clause-keeps
returns-in-None-clause-keeps g c = rw c.in-None.is (λ journal older stands holds. nothing_committed journal c.args.core.now.site older older c.args.press.layout (g.G.Ground.told c.args.press.device) holds)
