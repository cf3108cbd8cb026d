use Rattle.std.proofs.Common.{arith}
use Rattle.state_codec.proofs.ReadState.{parts_are}
use Rattle.state_codec.proofs.reading_state.state_in.Goals as goal

pub restore-requires-clause-parts : goal.restore-requires-clause-parts
restore-requires-clause-parts c =
    parts_are c.args.site.now c.requires.site c.tests_posts.ensures.posts c.args.bytes.now (λ i. omega (arith, c.type_inv.bytes i)) c.in_ok-parts.parts c.in_ok-parts.ensures.exact
