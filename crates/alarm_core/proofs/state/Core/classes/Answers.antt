use Rattle.std.proofs.Common.{subst}
use Rattle.outbox.specs.Outboxes.{peers_of}
use Rattle.alarm_core.specs.ListLimits.{KeepLists}
use Rattle.alarm_core.specs.State.{CoreState}
use Rattle.alarm_core.proofs.state.Core.classes.Goals as goal

pub returns-clause-keep : goal.returns-clause-keep
returns-clause-keep c =
    let core = c.self.inside in
    subst (λ (state : CoreState). KeepLists state.site state.classes (peers_of state.outbox.posts)) c.self.view_is
    (subst (KeepLists core.site core.classes.items) c.self.invariant.peers c.self.invariant.lists)
