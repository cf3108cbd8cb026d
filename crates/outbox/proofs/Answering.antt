-- An answer changes one post, or none.
use Rattle.std.proofs.Common.{◌≡◌, ℕ, ◌+◌, ◌<◌, ◌&&◌, nat_lt, ◌==◌, length, arith, Bool, true, false, true≢false, List, map, set, get_or, refl, sym, ◌∙◌, ap, if◌then◌else◌}
use Rattle.std.specs.List.{All}
use Rattle.std.proofs.lemmas.Bool.{ltb-true}
use Rattle.std.proofs.lemmas.List.{get_or_default, length-drop}
use Rattle.std.proofs.lemmas.List.Sums.{sum_by-set}
use Rattle.std.proofs.lemmas.List.Elements.{All-get_or}
use Rattle.bac_values.specs.Address.{PeerData}
use Rattle.bac_values.specs.Orders.{is_same, IsAscending}
use Rattle.outbox.specs.Posts.{is_in_flight, post_answered, MailboxState}
use Rattle.outbox.specs.Outboxes.{peers_of, unfinished_in, answered_by}
use Rattle.outbox.specs.Places.{IsPlaceOf, IsGapFor}
use Rattle.outbox.proofs.PlaceLemmas.{changed_one, changed_none, here}

if_true : {X : Type 0} (b : Bool) (x y : X) → b ≡ true → (if b then x else y) ≡ x
if_true true x y e = refl
if_true false x y e = absurd (true≢false (sym e))

if_false : {X : Type 0} (b : Bool) (x y : X) → b ≡ false → (if b then x else y) ≡ y
if_false false x y e = refl
if_false true x y e = absurd (true≢false e)

module _ (peer : PeerData) (invoke : ℕ) (posts : List MailboxState) where
  pub answered_one : (place : ℕ) (new old : MailboxState) → IsAscending (peers_of posts) → IsPlaceOf peer posts place → new ≡ post_answered invoke (get_or posts place old) → set posts place new ≡ map (answered_by peer invoke) posts
  answered_one place new old ascending there is =
      changed_one (answered_by peer invoke) peer (λ post e. if_false (is_same post.peer peer) (post_answered invoke post) post e) posts place new ascending there
      (λ d. is ∙ ap (post_answered invoke) (get_or_default posts place old d there.0) ∙ sym (if_true (is_same (get_or posts place d).peer peer) (post_answered invoke (get_or posts place d)) (get_or posts place d) (here posts peer place there d)))

  pub answered_none : (place : ℕ) → IsGapFor peer posts place → posts ≡ map (answered_by peer invoke) posts
  answered_none place gap = changed_none (answered_by peer invoke) peer (λ post e. if_false (is_same post.peer peer) (post_answered invoke post) post e) posts place gap

first_of : (a b : Bool) → (a && b) ≡ true → a ≡ true
first_of true b e = refl
first_of false b e = absurd (true≢false (sym e))

-- an answer in flight takes one note away
fewer_by : (invoke : ℕ) (post : MailboxState) → (0 < post.attempts → 0 < length post.notes) → (b : Bool) → is_in_flight invoke post ≡ b → length (post_answered invoke post).notes + (if b then 1 else 0) ≡ length post.notes
fewer_by invoke post filled true e =
    let some = filled (ltb-true 0 post.attempts (first_of (nat_lt 0 post.attempts) (invoke == post.next_invoke) e)) in
    rw e (omega (arith, length-drop 1 post.notes, some))
fewer_by invoke post filled false e = rw e (omega arith)

pub left_one : (invoke : ℕ) (posts : List MailboxState) (place : ℕ) (new old : MailboxState) (result : Bool) → place < length posts → All (λ (post : MailboxState). 0 < post.attempts → 0 < length post.notes) posts →
    new ≡ post_answered invoke (get_or posts place old) → result ≡ is_in_flight invoke (get_or posts place old) → unfinished_in (set posts place new) + (if result then 1 else 0) ≡ unfinished_in posts
left_one invoke posts place new old result within filled is told =
    let sums = sum_by-set (λ (p : MailboxState). length p.notes) posts place new old within in
    let here_filled = All-get_or (λ (post : MailboxState). 0 < post.attempts → 0 < length post.notes) posts place old within filled in
    let less = fewer_by invoke (get_or posts place old) here_filled result (sym told) in
    let size : length new.notes ≡ length (post_answered invoke (get_or posts place old)).notes = ap (λ (p : MailboxState). length p.notes) is in
    omega (arith, sums, less, size)

pub left_none : (posts : List MailboxState) → unfinished_in posts + 0 ≡ unfinished_in posts
left_none posts = omega arith
