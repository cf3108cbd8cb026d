use Rattle.std.proofs.Common.{refl}
use Rattle.state_codec.proofs.Committing.{nothing_committed}
use Rattle.alarm_server.proofs.Emitting.{emits}
use Rattle.alarm_server.proofs.following.take_packet.Goals as goal

-- ---- memory was refused: the follower is as it was

pub returns-in-Err-NoMemory-clause-broken : goal.returns-in-Err-NoMemory-clause-broken
returns-in-Err-NoMemory-clause-broken g c =
    let same = rw c.in-Err-NoMemory.field-0-is at c.in-Err-NoMemory.ensures.same in
    rw (c.ground_of.ensures.same, same) refl

pub returns-in-Err-NoMemory-clause-breaks : goal.returns-in-Err-NoMemory-clause-breaks
returns-in-Err-NoMemory-clause-breaks g c =
    let same = rw c.in-Err-NoMemory.field-0-is at c.in-Err-NoMemory.ensures.same in
    rw (c.ground_of.ensures.same, same)
    (λ journal before after holds represents may may_after leads. nothing_committed journal c.args.follower.core.site before after c.args.follower.press.layout (g.G.Ground.told c.args.follower.press.device) holds)

pub returns-in-Err-NoMemory-clause-quiet : goal.returns-in-Err-NoMemory-clause-quiet
returns-in-Err-NoMemory-clause-quiet g c =
    let same = rw c.in-Err-NoMemory.field-0-is at c.in-Err-NoMemory.ensures.same in
    rw (c.ground_of.ensures.same, same) (emits.nothing (g.G.Ground.told c.args.follower.press.device))

-- ---- the packet was taken, or the disk failed

pub returns-in-Ok-clause-holds : goal.returns-in-Ok-clause-holds
returns-in-Ok-clause-holds g c = λ journal before after holding stands may may_after leads. (rw c.as_slice.ensures.same at c.in-Ok.ensures.holds) journal before after holding stands may may_after leads

pub returns-in-Err-DiskFault-clause-breaks : goal.returns-in-Err-DiskFault-clause-breaks
returns-in-Err-DiskFault-clause-breaks g c = λ journal before after holding stands may may_after leads.
    (rw (c.in-Err-DiskFault.field-0-is, c.as_slice.ensures.same) at c.in-Err-DiskFault.ensures.breaks) journal before after holding stands may may_after leads
