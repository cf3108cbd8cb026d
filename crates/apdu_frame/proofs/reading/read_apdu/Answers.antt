use Rattle.std.proofs.Common.{rules}
use Rattle.apdu_frame.proofs.Refusals.{refusal_found}
use Rattle.apdu_frame.proofs.reading.read_apdu.Goals as goal

pub returns-in-REJECT-len2-up-clause-found : goal.returns-in-REJECT-len2-up-clause-found
returns-in-REJECT-len2-up-clause-found c = λ _. refusal_found 6 c.in-Some.first.now c.in-Some.rest.now c.args.bytes.now c.in-Some.ensures.cases.0 c.in-REJECT-len2-up.len_at_least (search rules)

pub returns-in-ABORT-len2-up-clause-found : goal.returns-in-ABORT-len2-up-clause-found
returns-in-ABORT-len2-up-clause-found c = λ _. refusal_found 7 c.in-Some.first.now c.in-Some.rest.now c.args.bytes.now c.in-Some.ensures.cases.0 c.in-ABORT-len2-up.len_at_least (search rules)
