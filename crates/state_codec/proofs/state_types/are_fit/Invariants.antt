use Rattle.std.proofs.Common.{All, take}
use Rattle.state_codec.specs.Spelled.{FitsPost}
use Rattle.state_codec.proofs.state_types.are_fit.Given as goal

abbrev pub invariant-loop-place : goal.invariant-loop-place
invariant-loop-place l = All FitsPost (take l.place l.outbox.posts)
