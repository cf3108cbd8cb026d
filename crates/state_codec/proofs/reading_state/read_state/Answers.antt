use Rattle.std.proofs.Common.{arith}
use Rattle.state_codec.proofs.ReadState.{is_found, is_only, is_refused, is_nothing}
use Rattle.state_codec.proofs.reading_state.read_state.Goals as goal

pub returns-clause-found : goal.returns-clause-found
returns-clause-found c = is_found c.args.site.now c.requires.site c.tests_posts.ensures.posts c.args.bytes.now (λ i. omega (arith, c.type_inv.bytes i)) c.state_in.result c.state_in.ensures.exact

pub returns-clause-only : goal.returns-clause-only
returns-clause-only c = is_only c.args.site.now c.requires.site c.tests_posts.ensures.posts c.restores_what_it_tells.ensures.restores c.args.bytes.now c.state_in.result c.state_in.ensures.exact

pub returns-clause-refused : goal.returns-clause-refused
returns-clause-refused c = is_refused c.args.site.now c.requires.site c.tests_posts.ensures.posts c.restores_what_it_tells.ensures.restores c.args.bytes.now c.state_in.result c.state_in.ensures.exact

pub returns-clause-nothing : goal.returns-clause-nothing
returns-clause-nothing c = is_nothing c.args.site.now c.requires.site c.tests_posts.ensures.posts c.args.bytes.now (λ i. omega (arith, c.type_inv.bytes i)) c.state_in.result c.state_in.ensures.exact
