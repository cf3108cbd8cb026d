use Rattle.state_codec.proofs.TablesRead.{enrollments_are, enrollments_ascend}
use Rattle.state_codec.proofs.reading_state.take_detecting.Goals as goal

pub restored-requires-clause-ascending : goal.restored-requires-clause-ascending
restored-requires-clause-ascending c =
    enrollments_ascend c.args.site.now c.requires.site c.args.table.now c.requires.allowed c.args.last c.args.bytes.now.now c.octets_fit.ensures.below _ _ c.in_ok-alarms.ensures.exact

pub restored-requires-clause-allowed : goal.restored-requires-clause-allowed
restored-requires-clause-allowed c =
    enrollments_are c.args.site.now c.requires.site c.args.table.now c.requires.allowed c.args.last c.args.bytes.now.now c.octets_fit.ensures.below _ _ c.in_ok-alarms.ensures.exact
