use Rattle.std.proofs.Common.{◌≡◌, ◌+◌, ◌<◌, ◌≤◌, List, Ok, Err, length, sym, ◌∙◌, ap, subst, arith}
use Rattle.std.proofs.lemmas.List.{map-id}
use Rattle.std.specs.Result.{IsErrOf}
use Rattle.bac_values.specs.Orders.{IsAscending}
use Rattle.outbox.specs.declared.answers.QueueFault.{QueueFault}
use Rattle.outbox.specs.declared.answers.QueueFault.TheVariants.{Full, NoMemory}
use Rattle.outbox.specs.Posts.{MailboxState}
use Rattle.outbox.specs.Outboxes.{OutboxState, peers_of, unfinished_in, with_notes, queued, AreKnown}
use Rattle.outbox.specs.Following.{Follows, after_queue}
use Rattle.outbox.proofs.Standing.{queue_follows}
use Rattle.outbox.proofs.Settling.{all_written, with_posts, is_with}
use Rattle.outbox.proofs.QueueKeeping.{queue_keeps, all_longer}
use Rattle.outbox.proofs.Fullness.{is_above, is_within, told_full, not_full, no_memory_is_not_full, ok_is_not_full}
use Rattle.outbox.proofs.outbox.Outbox.queue.Goals as goal

pub returns-then-exceeds-clause-full : goal.returns-then-exceeds-clause-full
returns-then-exceeds-clause-full c =
    let size : c.len-added.result ≡ length c.args.notes.items = c.len-added.ensures ∙ c.args.notes.ok.0 in
    let count = c.self.invariant.0 ∙ ap (λ (o : OutboxState). unfinished_in o.posts) c.self.view_is in
    let total : c.self.inside.unfinished + c.len-added.result ≡ unfinished_in c.args.self.now.posts + length c.args.notes.items = λ k. count k + size k in
    let limit = ap (λ (o : OutboxState). o.limit) c.self.view_is in
    let above = is_above c.len-added.result (c.self.inside.unfinished + c.len-added.result) c.self.inside.limit c.if-exceeds.ensures.exceeds in
    let some : 0 < length c.args.notes.items = subst (λ n. 0 < n) size above.0 in
    let more : c.args.self.now.limit < unfinished_in c.args.self.now.posts + length c.args.notes.items = subst (λ n. n < unfinished_in c.args.self.now.posts + length c.args.notes.items) limit (subst (λ n. c.self.inside.limit < n) total above.1) in
    told_full (unfinished_in c.args.self.now.posts + length c.args.notes.items) c.args.self.now.limit c.args.notes.items (length c.args.notes.items) _ _ _ total limit c.of.ensures.same some more

pub put_all-requires-clause-ascending : goal.put_all-requires-clause-ascending
put_all-requires-clause-ascending c = subst (λ (ps : List MailboxState). IsAscending (peers_of ps)) (sym c.deref_mut.ensures.value) c.self.invariant.1.ascending

pub put_all-requires-clause-known : goal.put_all-requires-clause-known
put_all-requires-clause-known c = subst (AreKnown c.args.notes.items) (sym (c.deref_mut.ensures.value ∙ ap (λ (o : OutboxState). o.posts) c.self.view_is)) c.requires.known

pub invariant_of-self : goal.invariant_of-self
invariant_of-self c =
    let state : OutboxState = record { posts = c.self.inside.mailboxes.items; limit = c.self.inside.limit; timeout = c.self.inside.timeout; retries = c.self.inside.retries; flush_silent = c.self.inside.flush_silent } in
    let size : c.len-added.result ≡ length c.args.notes.items = c.len-added.ensures ∙ c.args.notes.ok.0 in
    let room : c.self.inside.unfinished ≤ c.self.inside.limit = let most = c.self.invariant.1.room in let is = c.self.invariant.0 in omega arith in
    let fits = is_within c.self.inside.unfinished c.len-added.result c.self.inside.limit room c.if-exceeds.ensures.exceeds in
    let written = all_written (with_notes c.args.notes.items) c.self.inside.mailboxes.items c.deref_mut.result.now c.put_all.new.mailboxes c.self.inside.mailboxes.len c.self.inside.mailboxes.ok.0 c.deref_mut.ensures.value c.in-Ok.ensures.put in
    let known = subst (AreKnown c.args.notes.items) (sym (ap (λ (o : OutboxState). o.posts) c.self.view_is)) c.requires.known in
    let longer = all_longer c.args.notes.items c.self.inside.mailboxes.items c.self.invariant.1.ascending known in
    let counts = ap unfinished_in written in
    let is = c.self.invariant.0 in (
      omega (arith, longer, counts, is, size),
      is_with state _ _ written (queue_keeps c.args.notes.items state c.self.invariant.1 known c.requires.short (omega (arith, is, size, fits))),
    )

pub invariant_of-self-in-Err : goal.invariant_of-self-in-Err
invariant_of-self-in-Err c =
    let state : OutboxState = record { posts = c.self.inside.mailboxes.items; limit = c.self.inside.limit; timeout = c.self.inside.timeout; retries = c.self.inside.retries; flush_silent = c.self.inside.flush_silent } in
    let kept = all_written (λ post. post) c.self.inside.mailboxes.items c.deref_mut.result.now c.put_all.new.mailboxes c.self.inside.mailboxes.len c.self.inside.mailboxes.ok.0 c.deref_mut.ensures.value (c.in-Err.ensures.refused ∙ sym (map-id c.deref_mut.result.now)) ∙ map-id c.self.inside.mailboxes.items in
    (c.self.invariant.0 ∙ ap unfinished_in (sym kept), is_with state _ _ kept c.self.invariant.1)

pub returns-in-Ok-clause-queued : goal.returns-in-Ok-clause-queued
returns-in-Ok-clause-queued c =
    let state : OutboxState = record { posts = c.self.inside.mailboxes.items; limit = c.self.inside.limit; timeout = c.self.inside.timeout; retries = c.self.inside.retries; flush_silent = c.self.inside.flush_silent } in
    let written = all_written (with_notes c.args.notes.items) c.self.inside.mailboxes.items c.deref_mut.result.now c.put_all.new.mailboxes c.self.inside.mailboxes.len c.self.inside.mailboxes.ok.0 c.deref_mut.ensures.value c.in-Ok.ensures.put in
    ap (with_posts state) written ∙ ap (queued c.args.notes.items) c.self.view_is

pub returns-in-Ok-clause-full : goal.returns-in-Ok-clause-full
returns-in-Ok-clause-full c = λ would limit back.
    let size : c.len-added.result ≡ length c.args.notes.items = c.len-added.ensures ∙ c.args.notes.ok.0 in
    let count = c.self.invariant.0 ∙ ap (λ (o : OutboxState). unfinished_in o.posts) c.self.view_is in
    let total : c.self.inside.unfinished + c.len-added.result ≡ unfinished_in c.args.self.now.posts + length c.args.notes.items = λ k. count k + size k in
    let room : c.self.inside.unfinished ≤ c.self.inside.limit = let most = c.self.invariant.1.room in let is = c.self.invariant.0 in omega arith in
    let fits = is_within c.self.inside.unfinished c.len-added.result c.self.inside.limit room c.if-exceeds.ensures.exceeds in
    let within : unfinished_in c.args.self.now.posts + length c.args.notes.items ≤ c.args.self.now.limit = subst (λ n. n ≤ c.args.self.now.limit) total (subst (λ n. c.self.inside.unfinished + c.len-added.result ≤ n) (ap (λ (o : OutboxState). o.limit) c.self.view_is) fits) in
    not_full (unfinished_in c.args.self.now.posts + length c.args.notes.items) c.args.self.now.limit c.args.notes.items (length c.args.notes.items) within
    (IsErrOf {T = Unit {0}} {E = QueueFault} (Ok tt) (Full would limit back)) (ok_is_not_full would limit back) would limit back

pub returns-in-Ok-clause-looking_back : goal.returns-in-Ok-clause-looking_back
returns-in-Ok-clause-looking_back c =
    let state : OutboxState = record { posts = c.self.inside.mailboxes.items; limit = c.self.inside.limit; timeout = c.self.inside.timeout; retries = c.self.inside.retries; flush_silent = c.self.inside.flush_silent } in
    let written = all_written (with_notes c.args.notes.items) c.self.inside.mailboxes.items c.deref_mut.result.now c.put_all.new.mailboxes c.self.inside.mailboxes.len c.self.inside.mailboxes.ok.0 c.deref_mut.ensures.value c.in-Ok.ensures.put in
    let now = ap (with_posts state) written ∙ ap (queued c.args.notes.items) c.self.view_is in
    subst (λ (o : OutboxState). Follows (after_queue c.args.notes.items) c.args.self.now o) (sym now) (queue_follows c.args.notes.items c.args.self.now c.requires.known)

pub returns-in-Err-clause-refused : goal.returns-in-Err-clause-refused
returns-in-Err-clause-refused c =
    let state : OutboxState = record { posts = c.self.inside.mailboxes.items; limit = c.self.inside.limit; timeout = c.self.inside.timeout; retries = c.self.inside.retries; flush_silent = c.self.inside.flush_silent } in
    let kept = all_written (λ post. post) c.self.inside.mailboxes.items c.deref_mut.result.now c.put_all.new.mailboxes c.self.inside.mailboxes.len c.self.inside.mailboxes.ok.0 c.deref_mut.ensures.value (c.in-Err.ensures.refused ∙ sym (map-id c.deref_mut.result.now)) ∙ map-id c.self.inside.mailboxes.items in
    ap (with_posts state) kept ∙ c.self.view_is

pub returns-in-Err-clause-full : goal.returns-in-Err-clause-full
returns-in-Err-clause-full c = λ would limit back.
    let size : c.len-added.result ≡ length c.args.notes.items = c.len-added.ensures ∙ c.args.notes.ok.0 in
    let count = c.self.invariant.0 ∙ ap (λ (o : OutboxState). unfinished_in o.posts) c.self.view_is in
    let total : c.self.inside.unfinished + c.len-added.result ≡ unfinished_in c.args.self.now.posts + length c.args.notes.items = λ k. count k + size k in
    let room : c.self.inside.unfinished ≤ c.self.inside.limit = let most = c.self.invariant.1.room in let is = c.self.invariant.0 in omega arith in
    let fits = is_within c.self.inside.unfinished c.len-added.result c.self.inside.limit room c.if-exceeds.ensures.exceeds in
    let within : unfinished_in c.args.self.now.posts + length c.args.notes.items ≤ c.args.self.now.limit = subst (λ n. n ≤ c.args.self.now.limit) total (subst (λ n. c.self.inside.unfinished + c.len-added.result ≤ n) (ap (λ (o : OutboxState). o.limit) c.self.view_is) fits) in
    not_full (unfinished_in c.args.self.now.posts + length c.args.notes.items) c.args.self.now.limit c.args.notes.items (length c.args.notes.items) within
    (IsErrOf {T = Unit {0}} {E = QueueFault} (Err (NoMemory c.in-Err.notes)) (Full would limit back)) (no_memory_is_not_full c.in-Err.notes would limit back) would limit back
