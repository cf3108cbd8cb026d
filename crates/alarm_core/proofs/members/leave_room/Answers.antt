use Rattle.std.proofs.Common.{◌∙◌, arith}
use Rattle.std.proofs.lemmas.Bool.{leb-true, le-leb}
use Rattle.alarm_core.specs.Room.{share_at}
use Rattle.alarm_core.proofs.Adding.{folded}
use Rattle.alarm_core.proofs.members.leave_room.Goals as goal

pub returns : goal.returns
returns c =
    let shares = c.shares_at.ensures.shares ∙ folded 18446744073709551615 (share_at c.args.site.now) c.args.classes.now in
    record { room = (λ small. omega (arith, shares, leb-true _ _ small, c.from.ensures), λ room. le-leb _ _ (omega (arith, shares, room, c.from.ensures))) }
