use Rattle.std.proofs.Common.{List, sym, ◌∙◌, ap, subst, arith}
use Rattle.std.specs.List.{All, flat_map}
use Rattle.bac_values.specs.declared.note.Send.{Send}
use Rattle.outbox.specs.Delivery.{Timing}
use Rattle.outbox.specs.Posts.{IsPost, post_pumped, post_sends, MailboxState}
use Rattle.outbox.specs.Outboxes.{OutboxState, unfinished_in, pumped, sends_of, timing_of}
use Rattle.outbox.specs.Following.{Follows, after_pump}
use Rattle.outbox.proofs.Keeping.{pump_keeps}
use Rattle.outbox.proofs.Standing.{pump_follows, are_sent}
use Rattle.outbox.proofs.Settling.{all_written, with_posts, is_with}
use Rattle.outbox.proofs.outbox.Outbox.pump.Goals as goal

pub sends_of-requires : goal.sends_of-requires
sends_of-requires c = record { posts = subst (All (IsPost c.self.inside.retries)) (sym c.deref.ensures.value) c.self.invariant.1.posts }

pub pump_all-requires-clause-timeout : goal.pump_all-requires-clause-timeout
pump_all-requires-clause-timeout c = c.self.invariant.1.settings.ends

pub pump_all-requires-clause-retries : goal.pump_all-requires-clause-retries
pump_all-requires-clause-retries c = c.self.invariant.1.settings.stops

pub count_unfinished-self-inside-requires : goal.count_unfinished-self-inside-requires
count_unfinished-self-inside-requires c =
    let items = c.self.inside.mailboxes.items in
    let state : OutboxState = record { posts = items; limit = c.self.inside.limit; timeout = c.self.inside.timeout; retries = c.self.inside.retries; flush_silent = c.self.inside.flush_silent } in
    let written = all_written (post_pumped (timing_of state) c.args.moment) items c.deref_mut.result.now c.pump_all.new.mailboxes c.self.inside.mailboxes.len c.self.inside.mailboxes.ok.0 c.deref_mut.ensures.value c.pump_all.ensures.pumped in
    let is = pump_keeps c.args.moment state c.requires.moment c.self.invariant.1 in
    let counts = ap unfinished_in (c.deref-2.ensures.value ∙ written) in
    record { room = omega (arith, counts, is.room, is.settings.fits) }

pub invariant_of-self : goal.invariant_of-self
invariant_of-self c =
    let items = c.self.inside.mailboxes.items in
    let state : OutboxState = record { posts = items; limit = c.self.inside.limit; timeout = c.self.inside.timeout; retries = c.self.inside.retries; flush_silent = c.self.inside.flush_silent } in
    let written = all_written (post_pumped (timing_of state) c.args.moment) items c.deref_mut.result.now c.pump_all.new.mailboxes c.self.inside.mailboxes.len c.self.inside.mailboxes.ok.0 c.deref_mut.ensures.value c.pump_all.ensures.pumped in
    (c.count_unfinished-self-inside.ensures.count ∙ ap unfinished_in c.deref-2.ensures.value, is_with state _ _ written (pump_keeps c.args.moment state c.requires.moment c.self.invariant.1))

pub returns-clause-pumped : goal.returns-clause-pumped
returns-clause-pumped c =
    let items = c.self.inside.mailboxes.items in
    let state : OutboxState = record { posts = items; limit = c.self.inside.limit; timeout = c.self.inside.timeout; retries = c.self.inside.retries; flush_silent = c.self.inside.flush_silent } in
    let written = all_written (post_pumped (timing_of state) c.args.moment) items c.deref_mut.result.now c.pump_all.new.mailboxes c.self.inside.mailboxes.len c.self.inside.mailboxes.ok.0 c.deref_mut.ensures.value c.pump_all.ensures.pumped in
    ap (with_posts state) written ∙ ap (pumped c.args.moment) c.self.view_is

pub returns-clause-sends : goal.returns-clause-sends
returns-clause-sends c =
    let timing : Timing = record { timeout = c.self.inside.timeout; retries = c.self.inside.retries; flush_silent = c.self.inside.flush_silent } in
    let all : List MailboxState → List Send = flat_map (post_sends timing c.args.moment) in
    c.in_ok-sends.ensures.sends c.self.inside.timeout ∙ ap all c.deref.ensures.value ∙ ap (sends_of c.args.moment) c.self.view_is

pub returns-clause-looking_back : goal.returns-clause-looking_back
returns-clause-looking_back c =
    let items = c.self.inside.mailboxes.items in
    let state : OutboxState = record { posts = items; limit = c.self.inside.limit; timeout = c.self.inside.timeout; retries = c.self.inside.retries; flush_silent = c.self.inside.flush_silent } in
    let written = all_written (post_pumped (timing_of state) c.args.moment) items c.deref_mut.result.now c.pump_all.new.mailboxes c.self.inside.mailboxes.len c.self.inside.mailboxes.ok.0 c.deref_mut.ensures.value c.pump_all.ensures.pumped in
    let now = ap (with_posts state) written ∙ ap (pumped c.args.moment) c.self.view_is in
    subst (λ (o : OutboxState). Follows (after_pump c.args.moment) c.args.self.now o) (sym now) (pump_follows c.args.moment c.args.self.now)

pub returns-clause-sent : goal.returns-clause-sent
returns-clause-sent c =
    let timing : Timing = record { timeout = c.self.inside.timeout; retries = c.self.inside.retries; flush_silent = c.self.inside.flush_silent } in
    let all : List MailboxState → List Send = flat_map (post_sends timing c.args.moment) in
    are_sent c.args.moment c.args.self.now c.in_ok-sends.sends.items (c.in_ok-sends.ensures.sends c.self.inside.timeout ∙ ap all c.deref.ensures.value ∙ ap (sends_of c.args.moment) c.self.view_is)
