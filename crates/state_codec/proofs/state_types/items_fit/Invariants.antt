use Rattle.std.proofs.Common.{All, take}
use Rattle.state_codec.specs.Spelled.{FitsEntry}
use Rattle.state_codec.proofs.state_types.items_fit.Given as goal

abbrev pub invariant-loop-place : goal.invariant-loop-place
invariant-loop-place l = All (FitsEntry l.rule) (take l.place l.log.records)
