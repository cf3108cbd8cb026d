use Rattle.std.proofs.Common.{◌==◌, not, filter, ◌∙◌, ap, arith}
use Rattle.notify_class.specs.declared.class.Class.{Class}
use Rattle.alarm_core.specs.declared.site.Site.{Site}
use Rattle.alarm_core.specs.Allowed.{share_of}
use Rattle.alarm_core.proofs.Adding.{folded}
use Rattle.alarm_core.proofs.state.Core.room_beside.Goals as goal

pub returns-clause-room : goal.returns-clause-room
returns-clause-room c =
    let others = filter (λ (other : Class). not (other.instance == c.args.class)) c.args.self.now.classes in
    let shares = c.shares_beside.ensures.shares ∙ folded 18446744073709551615 (share_of c.args.self.now) others in
    let keeps = c.site.ensures.keeps in
    let site = c.site.ensures.site in
    omega (arith, shares, c.saturating_sub.ensures, c.from-room.ensures, keeps.settings.fits, ap (λ (s : Site). s.device.outbox) site)
