use Rattle.std.proofs.Common.{subst}
use Rattle.standby.specs.Offers.{IsLeader}
use Rattle.standby.specs.Reaches.{HasPackets}
use Rattle.standby.proofs.AllOffered.{has_packets}
use Rattle.standby.proofs.leader.Leader.offers_all.Goals as goal

pub returns-clause-all : goal.returns-clause-all
returns-clause-all c = has_packets c.records_are_short.ensures.short c.snapshots_are_short.ensures.short c.args.self.now (subst IsLeader c.self.view_is c.self.invariant)
