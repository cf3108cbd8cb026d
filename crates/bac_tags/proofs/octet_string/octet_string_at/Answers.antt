use Rattle.std.proofs.Common.{arith}
use Rattle.bac_tags.proofs.LongReaders.{content_stands}
use Rattle.bac_tags.proofs.octet_string.octet_string_at.Goals as goal

pub returns-clause-exact : goal.returns-clause-exact
returns-clause-exact c =
    content_stands c.args.input.now c.args.at c.in_ok-content.content.now c.in_ok-content.after (λ i. omega (arith, c.type_inv.input i)) c.requires c.in_ok-content.ensures.exact
