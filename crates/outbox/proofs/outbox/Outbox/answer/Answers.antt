use Rattle.std.proofs.Common.{◌<◌, List, length, map, sym, ◌∙◌, ap, subst, arith, if◌then◌else◌}
use Rattle.std.specs.List.{list_any, All}
use Rattle.bac_values.specs.Orders.{IsAscending}
use Rattle.outbox.specs.Posts.{MailboxState}
use Rattle.outbox.specs.Outboxes.{OutboxState, peers_of, unfinished_in, answered_by, answered, is_flight_to}
use Rattle.outbox.specs.declared.answers.Answered.TheVariants.{Answered as Finishing, Stray}
use Rattle.outbox.specs.Following.{Follows, after_answer}
use Rattle.outbox.proofs.Keeping.{answer_keeps, all_filled, stray_same}
use Rattle.outbox.proofs.Standing.{answer_follows}
use Rattle.outbox.proofs.Settling.{all_written, with_posts, is_with}
use Rattle.outbox.proofs.outbox.Outbox.answer.Goals as goal

pub answer_one-requires : goal.answer_one-requires
answer_one-requires c =
    let is = c.self.invariant.1 in
    let back = sym c.deref_mut.ensures.value in
    record {
      ascending = subst (λ (ps : List MailboxState). IsAscending (peers_of ps)) back is.ascending;
      filled = subst (λ (ps : List MailboxState). All (λ (post : MailboxState). 0 < post.attempts → 0 < length post.notes) ps) back (all_filled _ is);
    }

pub invariant_of-self : goal.invariant_of-self
invariant_of-self c =
    let items = c.self.inside.mailboxes.items in
    let change = answered_by c.args.peer.now c.args.invoke in
    let state : OutboxState = record { posts = items; limit = c.self.inside.limit; timeout = c.self.inside.timeout; retries = c.self.inside.retries; flush_silent = c.self.inside.flush_silent } in
    let written = all_written change items c.deref_mut.result.now c.answer_one.new.mailboxes c.self.inside.mailboxes.len c.self.inside.mailboxes.ok.0 c.deref_mut.ensures.value c.answer_one.ensures.now in
    let same = stray_same c.args.peer.now c.args.invoke items (c.if-not-answer_one.ensures.in_flight ∙ ap (list_any (is_flight_to c.args.peer.now c.args.invoke)) c.deref_mut.ensures.value) in
    (c.self.invariant.0 ∙ ap unfinished_in (sym (written ∙ same)), is_with state _ _ written (answer_keeps c.args.peer.now c.args.invoke state c.self.invariant.1))

pub returns-then-not-answer_one-clause-answered : goal.returns-then-not-answer_one-clause-answered
returns-then-not-answer_one-clause-answered c =
    let flights = list_any (is_flight_to c.args.peer.now c.args.invoke) in
    let told = c.if-not-answer_one.ensures.in_flight ∙ ap flights c.deref_mut.ensures.value ∙ ap (λ (o : OutboxState). flights o.posts) c.self.view_is in
    ap (λ b. if b then Finishing else Stray) told

pub returns-then-not-answer_one-clause-now : goal.returns-then-not-answer_one-clause-now
returns-then-not-answer_one-clause-now c =
    let items = c.self.inside.mailboxes.items in
    let change = answered_by c.args.peer.now c.args.invoke in
    let state : OutboxState = record { posts = items; limit = c.self.inside.limit; timeout = c.self.inside.timeout; retries = c.self.inside.retries; flush_silent = c.self.inside.flush_silent } in
    let written = all_written change items c.deref_mut.result.now c.answer_one.new.mailboxes c.self.inside.mailboxes.len c.self.inside.mailboxes.ok.0 c.deref_mut.ensures.value c.answer_one.ensures.now in
    ap (with_posts state) written ∙ ap (answered c.args.peer.now c.args.invoke) c.self.view_is

pub returns-then-not-answer_one-clause-stray : goal.returns-then-not-answer_one-clause-stray
returns-then-not-answer_one-clause-stray c = λ h.
    let items = c.self.inside.mailboxes.items in
    let change = answered_by c.args.peer.now c.args.invoke in
    let state : OutboxState = record { posts = items; limit = c.self.inside.limit; timeout = c.self.inside.timeout; retries = c.self.inside.retries; flush_silent = c.self.inside.flush_silent } in
    let written = all_written change items c.deref_mut.result.now c.answer_one.new.mailboxes c.self.inside.mailboxes.len c.self.inside.mailboxes.ok.0 c.deref_mut.ensures.value c.answer_one.ensures.now in
    let same = stray_same c.args.peer.now c.args.invoke items (c.if-not-answer_one.ensures.in_flight ∙ ap (list_any (is_flight_to c.args.peer.now c.args.invoke)) c.deref_mut.ensures.value) in
    ap (with_posts state) (written ∙ same) ∙ c.self.view_is

pub returns-then-not-answer_one-clause-looking_back : goal.returns-then-not-answer_one-clause-looking_back
returns-then-not-answer_one-clause-looking_back c =
    let items = c.self.inside.mailboxes.items in
    let change = answered_by c.args.peer.now c.args.invoke in
    let state : OutboxState = record { posts = items; limit = c.self.inside.limit; timeout = c.self.inside.timeout; retries = c.self.inside.retries; flush_silent = c.self.inside.flush_silent } in
    let written = all_written change items c.deref_mut.result.now c.answer_one.new.mailboxes c.self.inside.mailboxes.len c.self.inside.mailboxes.ok.0 c.deref_mut.ensures.value c.answer_one.ensures.now in
    let now = ap (with_posts state) written ∙ ap (answered c.args.peer.now c.args.invoke) c.self.view_is in
    subst (λ (o : OutboxState). Follows (after_answer c.args.peer.now c.args.invoke) c.args.self.now o) (sym now) (answer_follows c.args.peer.now c.args.invoke c.args.self.now)

pub overflow_sub-self : goal.overflow_sub-self
overflow_sub-self c =
    let left = c.if-not-answer_one.ensures.left in
    let seen = ap unfinished_in c.deref_mut.ensures.value in
    omega (arith, left, seen, c.self.invariant.0)

pub invariant_of-self-2 : goal.invariant_of-self-2
invariant_of-self-2 c =
    let items = c.self.inside.mailboxes.items in
    let change = answered_by c.args.peer.now c.args.invoke in
    let state : OutboxState = record { posts = items; limit = c.self.inside.limit; timeout = c.self.inside.timeout; retries = c.self.inside.retries; flush_silent = c.self.inside.flush_silent } in
    let written = all_written change items c.deref_mut.result.now c.answer_one.new.mailboxes c.self.inside.mailboxes.len c.self.inside.mailboxes.ok.0 c.deref_mut.ensures.value c.answer_one.ensures.now in
    let left = c.if-not-answer_one.ensures.left in
    let seen = ap unfinished_in c.deref_mut.ensures.value in
    let told = ap unfinished_in (c.answer_one.ensures.now ∙ ap (map change) c.deref_mut.ensures.value) in
    let count = ap unfinished_in written in
    (omega (arith, left, seen, told, count, c.self.invariant.0), is_with state _ _ written (answer_keeps c.args.peer.now c.args.invoke state c.self.invariant.1))

pub returns-clause-answered : goal.returns-clause-answered
returns-clause-answered c =
    let flights = list_any (is_flight_to c.args.peer.now c.args.invoke) in
    let told = c.if-not-answer_one.ensures.in_flight ∙ ap flights c.deref_mut.ensures.value ∙ ap (λ (o : OutboxState). flights o.posts) c.self.view_is in
    ap (λ b. if b then Finishing else Stray) told

pub returns-clause-now : goal.returns-clause-now
returns-clause-now c =
    let items = c.self.inside.mailboxes.items in
    let change = answered_by c.args.peer.now c.args.invoke in
    let state : OutboxState = record { posts = items; limit = c.self.inside.limit; timeout = c.self.inside.timeout; retries = c.self.inside.retries; flush_silent = c.self.inside.flush_silent } in
    let written = all_written change items c.deref_mut.result.now c.answer_one.new.mailboxes c.self.inside.mailboxes.len c.self.inside.mailboxes.ok.0 c.deref_mut.ensures.value c.answer_one.ensures.now in
    ap (with_posts state) written ∙ ap (answered c.args.peer.now c.args.invoke) c.self.view_is

pub returns-clause-stray : goal.returns-clause-stray
returns-clause-stray c = λ h. cc

pub returns-clause-looking_back : goal.returns-clause-looking_back
returns-clause-looking_back c =
    let items = c.self.inside.mailboxes.items in
    let change = answered_by c.args.peer.now c.args.invoke in
    let state : OutboxState = record { posts = items; limit = c.self.inside.limit; timeout = c.self.inside.timeout; retries = c.self.inside.retries; flush_silent = c.self.inside.flush_silent } in
    let written = all_written change items c.deref_mut.result.now c.answer_one.new.mailboxes c.self.inside.mailboxes.len c.self.inside.mailboxes.ok.0 c.deref_mut.ensures.value c.answer_one.ensures.now in
    let now = ap (with_posts state) written ∙ ap (answered c.args.peer.now c.args.invoke) c.self.view_is in
    subst (λ (o : OutboxState). Follows (after_answer c.args.peer.now c.args.invoke) c.args.self.now o) (sym now) (answer_follows c.args.peer.now c.args.invoke c.args.self.now)
