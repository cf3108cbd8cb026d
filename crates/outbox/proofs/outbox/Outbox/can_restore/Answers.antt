use Rattle.std.proofs.Common.{◌≡◌, ◌∙◌, true, false, true≢false, sym, arith, rules}
use Rattle.outbox.proofs.Tested.{refused_length, refused_order, decided}
use Rattle.outbox.proofs.outbox.Outbox.can_restore.Goals as goal

pub returns-then-notes-limit : goal.returns-then-notes-limit
returns-then-notes-limit c = record {
  exact = refused_length c.args.posts.now c.args.notes.now c.args.limit c.args.timeout c.args.retries (omega (arith, c.if-notes-limit.true));
}

pub returns-then-not-is_ascending : goal.returns-then-not-is_ascending
returns-then-not-is_ascending c =
    let no : c.is_ascending.result ≡ false = search rules in
    record {
      exact = refused_order c.args.posts.now c.args.notes.now c.args.limit c.args.timeout c.args.retries
          (λ ascending. true≢false (sym (c.is_ascending.ensures.ascending.1 ascending) ∙ no));
    }

pub returns : goal.returns
returns c =
    let ordered : c.is_ascending.result ≡ true = search rules in
    let set : c.are_settings.result ≡ true = search rules in
    record {
      exact = decided c.args.posts.now c.args.notes.now c.args.limit c.args.timeout c.args.retries c.are_posts.result
          (c.are_settings.ensures.settings.0 set) (omega (arith, c.if-notes-limit.false)) (c.is_ascending.ensures.ascending.0 ordered) c.are_posts.ensures.posts;
    }
