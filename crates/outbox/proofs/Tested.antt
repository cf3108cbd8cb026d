-- The tests of what was told are what they test.
use Rattle.bac_values.specs.Limits.{most_note_octets}
use Rattle.std.proofs.Common.{◌≡◌, ◌↔◌, ℕ, zero, suc, ◌+◌, ◌-◌, ◌^◌, ◌<◌, ◌≤◌, ◌==◌, Bool, true, false, true≢false, ◌&&◌, nat_lt, nat_le, IsTrue, List, [], ◌∷◌, length, take, drop, map, get_or, slice_get, refl, sym, ◌∙◌, ap, subst, arith, rules}
use Rattle.std.specs.List.{All, AllAdjacentBelow, IsAllAdjacentAnswer, list_all}
use Rattle.std.specs.Option.{IsSomeAnd, option_map_or}
use Rattle.std.specs.Ordering.{is_lt}
use Rattle.std.specs.declared.cmp.Ordering.{Ordering}
use Rattle.std.specs.declared.cmp.Ordering.TheVariants.{Less, Equal, Greater}
use Rattle.std.proofs.lemmas.Bool.{eq-eqb, eqb-true, lt-ltb, ltb-true}
use Rattle.std.proofs.lemmas.List.{get_or-map, length-drop, length-map}
use Rattle.std.proofs.lemmas.List.Sums.{sum_by-cons}
use Rattle.bac_values.specs.Address.{PeerData}
use Rattle.bac_values.specs.declared.note.Note.{Note}
use Rattle.bac_values.specs.Orders.{is_same, peer_order, IsAscending}
use Rattle.bac_values.proofs.OrderLemmas.{peers_are_total, same_is_equivalence, tied}
use Rattle.outbox.specs.declared.post.Post.{Post}
use Rattle.outbox.specs.Delivery.{is_confirmed}
use Rattle.outbox.specs.Posts.{IsPost, TestsPosts, is_own, is_post, is_tried, MailboxState}
use Rattle.outbox.specs.Outboxes.{AreParts, AreSettings, are_posts, notes_told, peers_of, restored_post, restored_posts}
use Rattle.outbox.proofs.Finished.{le_true}
use Rattle.outbox.proofs.Told.{counts_told, first_within, others_count}

both : (a b : Bool) → (a && b) ≡ true → (a ≡ true) × (b ≡ true)
both true b e = (refl, e)
both false b e = absurd (true≢false (sym e))

all_of : (a b : Bool) → a ≡ true → b ≡ true → (a && b) ≡ true
all_of true b e f = f
all_of false b e f = absurd (true≢false (sym e))

le-true : (a b : ℕ) → nat_le a b ≡ true → a ≤ b
le-true a b e = search (rules, e)

-- ---- the notes of a post

module _ (peer : PeerData) where
  pub own_told : (notes : List Note) → list_all (is_own peer) notes ≡ true → All (λ (note : Note). length note.body ≤ most_note_octets) notes × All (λ (note : Note). note.peer ≡ peer) notes
  own_told [] e = (λ k d h. absurd (omega (arith, h)), λ k d h. absurd (omega (arith, h)))
  own_told (note ∷ notes) e =
      let parts = both (is_own peer note) (list_all (is_own peer) notes) e in
      let own = both (nat_le (length note.body) most_note_octets) (is_same note.peer peer) parts.0 in
      let rest = own_told notes parts.1 in
      (shorts own.0 rest.0, owns own.1 rest.1)
    where
      shorts : nat_le (length note.body) most_note_octets ≡ true → All (λ (n : Note). length n.body ≤ most_note_octets) notes → All (λ (n : Note). length n.body ≤ most_note_octets) (note ∷ notes)
      shorts e all zero d h = le-true (length note.body) most_note_octets e
      shorts e all (suc k) d h = all k d (omega (arith, h))

      owns : is_same note.peer peer ≡ true → All (λ (n : Note). n.peer ≡ peer) notes → All (λ (n : Note). n.peer ≡ peer) (note ∷ notes)
      owns e all zero d h = tied note.peer peer e
      owns e all (suc k) d h = all k d (omega (arith, h))

  pub told_own : (notes : List Note) → All (λ (note : Note). length note.body ≤ most_note_octets) notes → All (λ (note : Note). note.peer ≡ peer) notes → list_all (is_own peer) notes ≡ true
  told_own [] short own = refl
  told_own (note ∷ notes) short own =
      let fits : nat_le (length note.body) most_note_octets ≡ true = le_true (length note.body) most_note_octets (short 0 note (omega arith)) in
      let mine : is_same note.peer peer ≡ true = ap (λ p. is_same note.peer p) (sym (own 0 note (omega arith))) ∙ same_is_equivalence.refl note.peer in
      all_of (is_own peer note) (list_all (is_own peer) notes) (all_of _ _ fits mine)
      (told_own notes (λ k d h. short (suc k) d (omega (arith, h))) (λ k d h. own (suc k) d (omega (arith, h))))

-- ---- a post

confirmed_told : (notes : List Note) → option_map_or is_confirmed (slice_get notes 0) false ≡ true → IsSomeAnd (slice_get notes 0) (λ (note : Note). IsTrue note.confirmed)
confirmed_told [] e = absurd (true≢false (sym e))
confirmed_told (note ∷ notes) e = e

told_confirmed : (notes : List Note) → IsSomeAnd (slice_get notes 0) (λ (note : Note). IsTrue note.confirmed) → option_map_or is_confirmed (slice_get notes 0) false ≡ true
told_confirmed [] h = absurd h
told_confirmed (note ∷ notes) h = h

-- its attempts and its deadline
record IsTried (retries : ℕ) (post : MailboxState) : Type 0 where
  attempts : post.attempts ≤ 1 + retries
  in_flight : 0 < post.attempts → IsSomeAnd (slice_get post.notes 0) (λ (note : Note). IsTrue note.confirmed)
  resting : post.attempts ≡ 0 → post.deadline ≡ 0

not_zero : (n : ℕ) → (n == 0) ≡ false → n ≡ 0 → ⊥
not_zero n e h = true≢false (sym (eq-eqb n 0 h) ∙ e)

some_of : (n : ℕ) → (n ≡ 0 → ⊥) → 0 < n
some_of zero never = absurd (never refl)
some_of (suc n) never = omega arith

tried_told : (retries : ℕ) (post : MailboxState) → is_tried retries post ≡ true → IsTried retries post
tried_told retries post h = by_test (post.attempts == 0) refl
  where
    by_test : (b : Bool) → (post.attempts == 0) ≡ b → IsTried retries post
    by_test true e =
        let none : post.attempts ≡ 0 = eqb-true post.attempts 0 e in
        let rests : (post.deadline == 0) ≡ true = rw e at h in
        record {
          attempts = omega (arith, none);
          in_flight = λ some. absurd (omega (arith, some, none));
          resting = λ none. eqb-true post.deadline 0 rests;
        }
    by_test false e =
        let sent : (nat_le post.attempts (1 + retries) && option_map_or is_confirmed (slice_get post.notes 0) false) ≡ true = rw e at h in
        let parts = both _ _ sent in
        record {
          attempts = le-true post.attempts (1 + retries) parts.0;
          in_flight = λ some. confirmed_told post.notes parts.1;
          resting = λ none. absurd (not_zero post.attempts e none);
        }

told_tried : (retries : ℕ) (post : MailboxState) → IsPost retries post → is_tried retries post ≡ true
told_tried retries post is = by_test (post.attempts == 0) refl
  where
    by_test : (b : Bool) → (post.attempts == 0) ≡ b → is_tried retries post ≡ true
    by_test true e = rw e (eq-eqb post.deadline 0 (is.resting (eqb-true post.attempts 0 e)))
    by_test false e =
        let never = not_zero post.attempts e in
        rw e (all_of _ _ (le_true post.attempts (1 + retries) is.attempts) (told_confirmed post.notes (is.in_flight (some_of post.attempts never))))

pub post_told : (retries : ℕ) (post : MailboxState) → is_post retries post ≡ true → IsPost retries post
post_told retries post e =
    let parts = both _ _ e in
    let range = both _ _ parts.0 in
    let rest = both _ _ parts.1 in
    let tried = tried_told retries post rest.0 in
    let own = own_told post.peer post.notes rest.1 in
    record {
      number = ltb-true post.next_invoke 256 range.0;
      fits = ltb-true post.deadline (2 ^ 64) range.1;
      attempts = tried.attempts;
      in_flight = tried.in_flight;
      resting = tried.resting;
      short = own.0;
      own = own.1;
    }

pub told_post : (retries : ℕ) (post : MailboxState) → IsPost retries post → is_post retries post ≡ true
told_post retries post is =
    all_of _ _ (all_of _ _ (lt-ltb post.next_invoke 256 is.number) (lt-ltb post.deadline (2 ^ 64) is.fits))
    (all_of _ _ (told_tried retries post is) (told_own post.peer post.notes is.short is.own))

-- what has its type's ranges
pub in_range : (invoke deadline : ℕ) (rest : Bool) → invoke < 256 → deadline < 2 ^ 64 → rest ≡ ((nat_lt invoke 256 && nat_lt deadline (2 ^ 64)) && rest)
in_range invoke deadline rest a b = rw (lt-ltb invoke 256 a, lt-ltb deadline (2 ^ 64) b) refl

pub tests_posts : TestsPosts
tests_posts retries post = (post_told retries post, told_post retries post)

-- ---- posts and their notes

none_left : (notes : List Note) → (length notes == 0) ≡ true → 0 ≡ length notes
none_left notes e = sym (eqb-true (length notes) 0 e)

pub posts_told : (retries : ℕ) (posts : List Post) (notes : List Note) → are_posts retries posts notes ≡ true → (notes_told posts ≡ length notes) × All (IsPost retries) (restored_posts posts notes)
posts_told retries [] notes e = (none_left notes e, λ k d h. absurd (omega (arith, h)))
posts_told retries (post ∷ posts) notes e =
    let parts = both (nat_le post.notes (length notes)) _ e in
    let both_parts = both (is_post retries (restored_post post (take post.notes notes))) (are_posts retries posts (drop post.notes notes)) parts.1 in
    let rest = posts_told retries posts (drop post.notes notes) both_parts.1 in
    let within = le-true post.notes (length notes) parts.0 in
    let sums = sum_by-cons (λ (p : Post). p.notes) post posts in
    let left = length-drop post.notes notes in
    (omega (arith, sums, rest.0, left, within), all (post_told retries _ both_parts.0) rest.1)
  where
    all : IsPost retries (restored_post post (take post.notes notes)) → All (IsPost retries) (restored_posts posts (drop post.notes notes)) →
        All (IsPost retries) (restored_post post (take post.notes notes) ∷ restored_posts posts (drop post.notes notes))
    all first others zero d h = first
    all first others (suc k) d h = others k d (omega (arith, h))

pub told_posts : (retries : ℕ) (posts : List Post) (notes : List Note) → notes_told posts ≡ length notes → All (IsPost retries) (restored_posts posts notes) → are_posts retries posts notes ≡ true
told_posts retries [] notes counts all = eq-eqb (length notes) 0 (sym counts)
told_posts retries (post ∷ posts) notes counts all =
    let within = first_within post posts notes counts in
    all_of _ _ (le_true post.notes (length notes) within)
    (all_of _ _ (told_post retries (restored_post post (take post.notes notes)) (all 0 (restored_post post (take post.notes notes)) (omega arith)))
    (told_posts retries posts (drop post.notes notes) (others_count post posts notes counts) (λ k d h. all (suc k) d (omega (arith, h)))))

-- ---- peers that ascend

peers_told : (posts : List Post) (notes : List Note) → peers_of (restored_posts posts notes) ≡ map (λ (post : Post). post.peer) posts
peers_told [] notes = refl
peers_told (post ∷ posts) notes = ap (λ ps. post.peer ∷ ps) (peers_told posts (drop post.notes notes))

-- a test that tells whether the first of two posts has the lower peer
module _ (below : Post → Post → Bool) (tells : (x y : Post) → below x y ≡ is_lt (peer_order x.peer y.peer)) (posts : List Post) where
  less_by : (o : Ordering) → true ≡ is_lt o → o ≡ Less
  less_by Less e = refl
  less_by Equal e = absurd (true≢false e)
  less_by Greater e = absurd (true≢false e)

  less : (x y : Post) → true ≡ below x y → peer_order x.peer y.peer ≡ Less
  less x y e = less_by (peer_order x.peer y.peer) (e ∙ tells x y)

  -- by the steps between them each is below each later one
  climbs : AllAdjacentBelow (λ x y. true ≡ below x y) posts (length posts) → (k n : ℕ) (d : Post) → k + n + 1 < length posts → peer_order (get_or posts k d).peer (get_or posts (k + n + 1) d).peer ≡ Less
  climbs steps k zero d within =
      let next : k + 1 ≡ k + zero + 1 = omega arith in
      ap (λ j. peer_order (get_or posts k d).peer (get_or posts j d).peer) (sym next) ∙ less (get_or posts k d) (get_or posts (k + 1) d) (steps k d (omega (arith, within)))
  climbs steps k (suc n) d within =
      let next : k + n + 1 + 1 ≡ k + suc n + 1 = omega arith in
      ap (λ j. peer_order (get_or posts k d).peer (get_or posts j d).peer) (sym next)
      ∙ peers_are_total.trans (get_or posts k d).peer (get_or posts (k + n + 1) d).peer (get_or posts (k + n + 1 + 1) d).peer (climbs steps k n d (omega (arith, within)))
      (less (get_or posts (k + n + 1) d) (get_or posts (k + n + 1 + 1) d) (steps (k + n + 1) d (omega (arith, within))))

  -- a post that has this peer
  at_peer : PeerData → Post
  at_peer peer = record { peer = peer; next_invoke = 0; attempts = 0; deadline = 0; notes = 0 }

  all_ascend : AllAdjacentBelow (λ x y. true ≡ below x y) posts (length posts) → IsAscending (map (λ (post : Post). post.peer) posts)
  all_ascend steps i j peer before within =
      let size : length (map (λ (post : Post). post.peer) posts) ≡ length posts = length-map posts (λ (post : Post). post.peer) in
      let inside : j < length posts = omega (arith, within, size) in
      let first = get_or-map (λ (post : Post). post.peer) posts i (at_peer peer) peer (omega (arith, before, inside)) in
      let second = get_or-map (λ (post : Post). post.peer) posts j (at_peer peer) peer inside in
      let there : i + (j - i - 1) + 1 ≡ j = omega (arith, before) in
      (λ k. peer_order (first k) (second k)) ∙ ap (λ n. peer_order (get_or posts i (at_peer peer)).peer (get_or posts n (at_peer peer)).peer) (sym there)
      ∙ climbs steps i (j - i - 1) (at_peer peer) (omega (arith, before, inside))

  not_below : (x y : Post) → false ≡ below x y → peer_order x.peer y.peer ≡ Less → ⊥
  not_below x y e f = true≢false (ap is_lt (sym f) ∙ sym (tells x y) ∙ sym e)

  none_ascends : (k : ℕ) → k + 1 < length posts → ((d : Post) → false ≡ below (get_or posts k d) (get_or posts (k + 1) d)) → IsAscending (map (λ (post : Post). post.peer) posts) → PeerData → ⊥
  none_ascends k within fails ascending peer =
      let size : length (map (λ (post : Post). post.peer) posts) ≡ length posts = length-map posts (λ (post : Post). post.peer) in
      let first = get_or-map (λ (post : Post). post.peer) posts k (at_peer peer) peer (omega (arith, within)) in
      let second = get_or-map (λ (post : Post). post.peer) posts (k + 1) (at_peer peer) peer within in
      not_below (get_or posts k (at_peer peer)) (get_or posts (k + 1) (at_peer peer)) (fails (at_peer peer))
      ((λ i. peer_order (sym first i) (sym second i)) ∙ ascending k (k + 1) peer (omega arith) (omega (arith, size, within)))

  some_peer : (posts : List Post) → 0 < length posts → PeerData
  some_peer [] h = absurd (omega (arith, h))
  some_peer (post ∷ posts) h = post.peer

  pub ascends : (answer : Bool) → IsAllAdjacentAnswer (λ x y b. b ≡ below x y) posts answer → (answer ≡ true) ↔ IsAscending (map (λ (post : Post). post.peer) posts)
  ascends true steps = (λ e. all_ascend steps, λ h. refl)
  ascends false fails = (λ e. absurd (true≢false (sym e)), λ h. absurd (none_ascends fails.0 fails.1 fails.2 h (some_peer posts (omega (arith, fails.1)))))

-- ---- all of it

are_parts : (posts : List Post) (notes : List Note) (limit timeout retries : ℕ) → AreSettings limit timeout retries → length notes ≤ limit → IsAscending (map (λ (post : Post). post.peer) posts) → are_posts retries posts notes ≡ true →
    AreParts posts notes limit timeout retries
are_parts posts notes limit timeout retries settings fits ascending tested =
    let told = posts_told retries posts notes tested in
    let count = counts_told posts notes told.0 in (
      told.0,
      record {
        settings = settings;
        ascending = subst IsAscending (sym (peers_told posts notes)) ascending;
        posts = told.1;
        room = omega (arith, count, fits);
      },
    )

module _ (posts : List Post) (notes : List Note) (limit timeout retries : ℕ) where
  refused : (AreParts posts notes limit timeout retries → ⊥) → (false ≡ true) ↔ AreParts posts notes limit timeout retries
  refused never = (λ e. absurd (true≢false (sym e)), λ are. absurd (never are))

  pub refused_settings : (AreSettings limit timeout retries → ⊥) → (false ≡ true) ↔ AreParts posts notes limit timeout retries
  refused_settings never = refused (λ are. never are.1.settings)

  pub refused_length : limit < length notes → (false ≡ true) ↔ AreParts posts notes limit timeout retries
  refused_length above = refused (λ are. let count = counts_told posts notes are.0 in let room = are.1.room in omega (arith, count, room, above))

  ascends_told : AreParts posts notes limit timeout retries → IsAscending (map (λ (post : Post). post.peer) posts)
  ascends_told are = subst IsAscending (peers_told posts notes) are.1.ascending

  pub refused_order : (IsAscending (map (λ (post : Post). post.peer) posts) → ⊥) → (false ≡ true) ↔ AreParts posts notes limit timeout retries
  refused_order never = refused (λ are. never (ascends_told are))

  pub decided : (answer : Bool) → AreSettings limit timeout retries → length notes ≤ limit → IsAscending (map (λ (post : Post). post.peer) posts) → answer ≡ are_posts retries posts notes →
      (answer ≡ true) ↔ AreParts posts notes limit timeout retries
  decided answer settings fits ascending tested = (
    λ e. are_parts posts notes limit timeout retries settings fits ascending (sym tested ∙ e),
    λ are. tested ∙ told_posts retries posts notes are.0 are.1.posts,
  )
