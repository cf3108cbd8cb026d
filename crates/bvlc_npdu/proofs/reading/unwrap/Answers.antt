use Rattle.std.proofs.Common.{arith}
use Rattle.bvlc_npdu.proofs.Answering.{start_within, is_frame, is_only, is_none}
use Rattle.bvlc_npdu.proofs.reading.unwrap.Goals as goal

pub returns-in_default-clause-only : goal.returns-in_default-clause-only
returns-in_default-clause-only c = is_none c.args.sender c.args.bytes.now c.in_default.ensures

pub overflow_sub-result : goal.overflow_sub-result
overflow_sub-result c = start_within c.args.sender c.args.bytes.now c.in-Some.found.0 c.in-Some.found.1.now (λ i. omega (arith, c.type_inv.bytes i)) c.in-Some.ensures

pub returns-clause-found : goal.returns-clause-found
returns-clause-found c = is_frame c.args.sender c.args.bytes.now c.in-Some.found.0 c.in-Some.found.1.now (λ i. omega (arith, c.type_inv.bytes i)) c.in-Some.ensures

pub returns-clause-only : goal.returns-clause-only
returns-clause-only c = is_only c.args.sender c.args.bytes.now c.in-Some.found.0 c.in-Some.found.1.now c.in-Some.ensures
