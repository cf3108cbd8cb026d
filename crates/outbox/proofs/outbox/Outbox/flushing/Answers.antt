use Rattle.std.proofs.Common.{sym, ap, subst}
use Rattle.outbox.specs.Outboxes.{OutboxState, flushing}
use Rattle.outbox.specs.Following.{StandsFor, no_operations}
use Rattle.outbox.proofs.Standing.{flushing_stands}
use Rattle.outbox.proofs.outbox.Outbox.flushing.Goals as goal

pub returns-clause-looking_back : goal.returns-clause-looking_back
returns-clause-looking_back c = λ stands.
    subst (λ (o : OutboxState). StandsFor o no_operations) (sym (ap (flushing c.args.flush_silent) c.self.view_is)) (flushing_stands c.args.flush_silent c.args.self stands)
