use Rattle.std.proofs.Common.{arith}
use Rattle.recipients.proofs.RecipientReaders.{ReadsRecipient, reads_recipient}
use Rattle.recipients.proofs.reading.read_recipient.Goals as goal

-- all that the clauses say
all : (c : goal.After-recipient_at) → ReadsRecipient c.args.input.now c.args.at c.recipient_at.result
all c =
    reads_recipient c.args.input.now c.args.at c.recipient_at.result (λ i. omega (arith, c.type_inv.input i)) c.requires c.recipient_at.ensures.exact

pub returns-clause-found : goal.returns-clause-found
returns-clause-found c = (all c).found

pub returns-clause-only : goal.returns-clause-only
returns-clause-only c = (all c).only

pub returns-clause-refused : goal.returns-clause-refused
returns-clause-refused c = (all c).refused
