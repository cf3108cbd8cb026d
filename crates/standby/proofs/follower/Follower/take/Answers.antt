use Rattle.std.proofs.Common.{ℕ, ◌+◌, ◌≤◌, List, sym, subst}
use Rattle.alarm_core.specs.Allowed.{Represents}
use Rattle.alarm_core.specs.declared.event.Event.{Event as Happening}
use Rattle.alarm_core.specs.declared.site.Site.{Site}
use Rattle.state_codec.specs.Contents.{StandsForHistory}
use Rattle.state_codec.specs.Sizes.{batch_octets, snapshot_bound}
use Rattle.state_codec.specs.Work.{content_with}
use Rattle.state_codec.proofs.Committing.{nothing_committed}
use Rattle.state_codec.proofs.Quiet.{nothing_sent}
use Rattle.state_codec.proofs.Works.{content_committed}
use Rattle.standby.specs.Followers.{HasRoomyAreas}
use Rattle.standby.specs.Judging.{ComesTo}
use Rattle.standby.specs.Leads.{LeadsOn}
use Rattle.standby.specs.Takes.{Following, following}
use Rattle.standby.specs.declared.judging.Judged.{Judged}
use Rattle.standby.specs.declared.took.Took.{Took}
use Rattle.standby.specs.declared.took.Took.TheVariants.{Taken}
use Rattle.standby.proofs.Judged.{led_nowhere}
use Rattle.standby.proofs.follower.Follower.take.Goals as goal

-- ---- nothing was taken

pub returns-in-Ok-Answers-clause-represents : goal.returns-in-Ok-Answers-clause-represents
returns-in-Ok-Answers-clause-represents g c =
    let core = c.self.inside.core in
    let old : Following = following core c.self.inside.gathering in
    let left = c.judge.new.gathering in
    let packet : List ℕ = c.args.packet.now in
    let took = c.in-Ok-Answers.took in
    let comes = subst (λ (j : Judged). ComesTo core packet c.self.inside.gathering left j) c.in-Ok-Answers.field-0-is c.in-Ok-Answers.ensures.comes in
    rw (c.of.ensures.parts, ← c.self.view_is)
    (λ before after represents may may_after on. subst (λ (h : List Happening). Represents core h) (sym (led_nowhere old packet took (following core left) before after comes.nothing on)) represents)

pub returns-in-Ok-Answers-clause-holds : goal.returns-in-Ok-Answers-clause-holds
returns-in-Ok-Answers-clause-holds g c =
    let core = c.self.inside.core in
    let old : Following = following core c.self.inside.gathering in
    let left = c.judge.new.gathering in
    let packet : List ℕ = c.args.packet.now in
    let took = c.in-Ok-Answers.took in
    let comes = subst (λ (j : Judged). ComesTo core packet c.self.inside.gathering left j) c.in-Ok-Answers.field-0-is c.in-Ok-Answers.ensures.comes in
    rw (c.of.ensures.parts, ← c.self.view_is)
    (λ journal before after holds represents may may_after on.
    (holds.0, holds.1, subst (λ (h : List Happening). StandsForHistory core.site holds.0 h) (sym (led_nowhere old packet took (following core left) before after comes.nothing on)) holds.2))

pub returns-in-Ok-Answers-clause-keeps : goal.returns-in-Ok-Answers-clause-keeps
returns-in-Ok-Answers-clause-keeps g c =
    let press = c.self.inside.press in
    rw (c.of.ensures.parts, ← c.self.view_is)
    (λ journal before after holds represents may may_after on. nothing_committed journal c.self.inside.core.site before after press.layout (g.G.Ground.told press.device) holds)

pub returns-in-Ok-Answers-clause-quiet : goal.returns-in-Ok-Answers-clause-quiet
returns-in-Ok-Answers-clause-quiet g c = rw (c.of.ensures.parts, ← c.self.view_is) (nothing_sent (g.G.Ground.told c.self.inside.press.device))

-- ---- events or a snapshot were taken

pub of-follower-requires : goal.of-follower-requires
of-follower-requires g c =
    let core = c.self.inside.core in
    let left = c.judge.new.gathering in
    let packet : List ℕ = c.args.packet.now in
    let layout = c.in-Ok.press.layout in
    let comes = subst (λ (j : Judged). ComesTo core packet c.self.inside.gathering left j) c.in-Ok-Writes.field-0-is c.in-Ok-Writes.ensures.comes in
    let here : HasRoomyAreas core.site layout = subst (λ (n : ℕ). batch_octets + snapshot_bound core.site ≤ n) (sym c.in-Ok.ensures.half) c.self.invariant in
    record { areas = subst (λ (s : Site). HasRoomyAreas s layout) (sym comes.site) here }

pub returns-in-Ok-clause-represents : goal.returns-in-Ok-clause-represents
returns-in-Ok-clause-represents g c =
    let core = c.self.inside.core in
    let left = c.judge.new.gathering in
    let packet : List ℕ = c.args.packet.now in
    let work = c.in-Ok-Writes.work in
    let comes = subst (λ (j : Judged). ComesTo core packet c.self.inside.gathering left j) c.in-Ok-Writes.field-0-is c.in-Ok-Writes.ensures.comes in
    rw (c.of-follower.ensures.parts, ← c.self.view_is) (λ before after represents may may_after on. comes.represents before after represents may may_after on)

pub returns-in-Ok-clause-holds : goal.returns-in-Ok-clause-holds
returns-in-Ok-clause-holds g c =
    let core = c.self.inside.core in
    let left = c.judge.new.gathering in
    let packet : List ℕ = c.args.packet.now in
    let work = c.in-Ok-Writes.work in
    let comes = subst (λ (j : Judged). ComesTo core packet c.self.inside.gathering left j) c.in-Ok-Writes.field-0-is c.in-Ok-Writes.ensures.comes in
    rw (c.of-follower.ensures.parts, ← c.self.view_is)
    (λ journal before after holds represents may may_after on.
    (content_with work holds.0, c.in-Ok.ensures.rests journal holds.0 holds.1, comes.stands before after holds.0 holds.2 represents may may_after on))

pub returns-in-Ok-clause-keeps : goal.returns-in-Ok-clause-keeps
returns-in-Ok-clause-keeps g c =
    let core = c.self.inside.core in
    let left = c.judge.new.gathering in
    let packet : List ℕ = c.args.packet.now in
    let work = c.in-Ok-Writes.work in
    let comes = subst (λ (j : Judged). ComesTo core packet c.self.inside.gathering left j) c.in-Ok-Writes.field-0-is c.in-Ok-Writes.ensures.comes in
    rw (c.of-follower.ensures.parts, ← c.self.view_is)
    (λ journal before after holds represents may may_after on.
    content_committed journal core.site before after holds.0 (content_with work holds.0) (g.G.Ground.told c.self.inside.press.device) (g.G.Ground.told c.in-Ok.press.device) holds.2
    (comes.stands before after holds.0 holds.2 represents may may_after on) (c.in-Ok.ensures.any_moment journal holds.0 holds.1))

pub returns-in-Ok-clause-quiet : goal.returns-in-Ok-clause-quiet
returns-in-Ok-clause-quiet g c = rw (c.of-follower.ensures.parts, ← c.self.view_is) c.in-Ok.ensures.quiet

-- ---- the disk failed

pub returns-in-Ok-Writes-clause-breaks : goal.returns-in-Ok-Writes-clause-breaks
returns-in-Ok-Writes-clause-breaks g c =
    let core = c.self.inside.core in
    let left = c.judge.new.gathering in
    let packet : List ℕ = c.args.packet.now in
    let work = c.in-Ok-Writes.work in
    let comes = subst (λ (j : Judged). ComesTo core packet c.self.inside.gathering left j) c.in-Ok-Writes.field-0-is c.in-Ok-Writes.ensures.comes in
    let next = c.in-Ok-Writes.core in
    let old : Following = following core c.self.inside.gathering in
    let new : Following = following next left in
    rw (← c.self.view_is)
    (λ journal before after holds represents may may_after may_lead.
    let same = c.answers_once_to.ensures.once before represents may c.self.inside.gathering packet may_lead.0 (Taken next.events) may_lead.1 new may_lead.2 comes.takes in
    let on : LeadsOn old packet (Taken next.events) new before after =
    subst (λ (t : Took). LeadsOn old packet t new before after) same.took_is (subst (λ (f : Following). LeadsOn old packet may_lead.0 f before after) same.new_is may_lead.3) in
    content_committed journal core.site before after holds.0 (content_with work holds.0) (g.G.Ground.told c.self.inside.press.device) (g.G.Ground.told c.in-Err-write_work.device) holds.2
    (comes.stands before after holds.0 holds.2 represents may may_after on) (c.in-Err-write_work.ensures.any_moment journal holds.0 holds.1))

pub returns-in-Ok-Writes-clause-quiet : goal.returns-in-Ok-Writes-clause-quiet
returns-in-Ok-Writes-clause-quiet g c = rw (← c.self.view_is) c.in-Err-write_work.ensures.quiet

pub returns-in-Ok-Writes-clause-tried : goal.returns-in-Ok-Writes-clause-tried
returns-in-Ok-Writes-clause-tried g c =
    let core = c.self.inside.core in
    let left = c.judge.new.gathering in
    let packet : List ℕ = c.args.packet.now in
    let comes = subst (λ (j : Judged). ComesTo core packet c.self.inside.gathering left j) c.in-Ok-Writes.field-0-is c.in-Ok-Writes.ensures.comes in
    let next = c.in-Ok-Writes.core in
    rw (← c.self.view_is) (next.events, following next left, comes.takes)

pub returns-in-Ok-Writes-clause-cause : goal.returns-in-Ok-Writes-clause-cause
returns-in-Ok-Writes-clause-cause g c = rw (← c.self.view_is) c.in-Err-write_work.ensures.cause
