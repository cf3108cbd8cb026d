use Rattle.std.proofs.Common.{arith}
use Rattle.state_codec.proofs.EventLaws.{is_found, is_only, is_refused, is_nothing}
use Rattle.state_codec.proofs.event.read_event.Goals as goal

pub returns-clause-found : goal.returns-clause-found
returns-clause-found c = is_found c.args.bytes.now c.args.at c.event_from.result (λ i. omega (arith, c.type_inv.bytes i)) c.requires.within c.event_from.ensures.exact

pub returns-clause-only : goal.returns-clause-only
returns-clause-only c = is_only c.args.bytes.now c.args.at c.event_from.result c.requires.within c.event_from.ensures.exact

pub returns-clause-refused : goal.returns-clause-refused
returns-clause-refused c = is_refused c.args.bytes.now c.args.at c.event_from.result c.event_from.ensures.exact

pub returns-clause-nothing : goal.returns-clause-nothing
returns-clause-nothing c = is_nothing c.args.bytes.now c.args.at c.event_from.result (λ i. omega (arith, c.type_inv.bytes i)) c.requires.within c.event_from.ensures.exact
