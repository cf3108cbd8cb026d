use Rattle.notify_class.specs.Edits.{recipient_peers}
use Rattle.notify_class.proofs.UnionLemmas.{union_of}
use Rattle.notify_class.proofs.edit.check_edit.Goals as goal

pub returns-then-count-gt-MOST_DESTINATIONS-clause-union : goal.returns-then-count-gt-MOST_DESTINATIONS-clause-union
returns-then-count-gt-MOST_DESTINATIONS-clause-union c = union_of c.args.known.now (recipient_peers c.args.destinations.now) c.requires.ascending

pub returns-then-would-gt-MOST_PEERS-clause-union : goal.returns-then-would-gt-MOST_PEERS-clause-union
returns-then-would-gt-MOST_PEERS-clause-union c = union_of c.args.known.now (recipient_peers c.args.destinations.now) c.requires.ascending

pub returns-then-would-from-clause-union : goal.returns-then-would-from-clause-union
returns-then-would-from-clause-union c = union_of c.args.known.now (recipient_peers c.args.destinations.now) c.requires.ascending

pub returns-clause-union : goal.returns-clause-union
returns-clause-union c = union_of c.args.known.now (recipient_peers c.args.destinations.now) c.requires.ascending
