use Rattle.std.proofs.Common.{◌≡◌, ◌++◌, ◌∷◌, [], rules, w64}
use Rattle.std.specs.Int.{to_be_bytes}
use Rattle.state_codec.specs.Snapshots.{version_of}
use Rattle.state_codec.proofs.Written.{on_ok, three_parts}
use Rattle.state_codec.proofs.writing_state.put_head.Goals as goal

pub returns : goal.returns
returns c =
    let state = c.args.core.now in
    let version : c.push.new.items.items ≡ c.args.out.now.items ++ version_of state.site ∷ [] = search rules in
    let events : c.put_long.new.out.items ≡ c.push.new.items.items ++ to_be_bytes w64 state.events = search rules in
    record { written = on_ok c.put_long-2.result _ _ (λ e. three_parts c.args.out.now.items (version_of state.site ∷ []) (to_be_bytes w64 state.events) (to_be_bytes w64 state.last_moment) _ _ _ version events (search (rules, e))) c.put_long-2.ensures.written }
