use Rattle.std.proofs.Common.{◌≡◌, []}
use Rattle.std.specs.Prelude.{fold}
use Rattle.std.specs.Vec.Iter.{into_iter_items}
use Rattle.site_config.specs.Sites.{put}
use Rattle.site_config.proofs.order.by_identifier.Given as goal

abbrev pub invariant-loop-item : goal.invariant-loop-item
invariant-loop-item g l = fold (put g.T.Identified.id_of) l.map.entries (into_iter_items l.item-iterator) ≡ fold (put g.T.Identified.id_of) [] l.fn.items.items
