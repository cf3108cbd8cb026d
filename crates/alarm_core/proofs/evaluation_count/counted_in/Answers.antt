use base.Fml.{Incl}
use base.Meet.{within_both}
use mathlib.Core.List.{not-mem-nil}
use Rattle.std.proofs.Common.{List, [], rules}
use Rattle.alarm_core.proofs.evaluation_count.counted_in.Goals as goal

-- a ledger lives as long as what is lent of it
pub picked-requires : goal.picked-requires
picked-requires g c κs within =
    let none : Incl κs.1.1.0 [] = λ a m. absurd (not-mem-nil m) in
    let alone = within_both κs.1.1.0 g.row.L.lives [] within none in
    let part = within_both κs.1.1.0 _ _ alone (within_both κs.1.1.0 _ [] (within_both κs.1.1.0 _ [] alone none) none) in
    (search rules, within_both κs.1.1.0 _ _ alone (within_both κs.1.1.0 _ _ part (within_both κs.1.1.0 _ [] part none)))
