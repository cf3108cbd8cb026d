-- What is restored shows what it was made of.
use Rattle.std.proofs.Common.{◌≡◌, ◌≤◌, List, [], ◌∷◌, ◌++◌, length, take, drop, map, refl, ◌∙◌, ap, arith}
use Rattle.std.proofs.lemmas.List.{length-drop, length-take-le, take-append-drop}
use Rattle.std.proofs.lemmas.List.Sums.{sum_by-cons}
use Rattle.bac_values.specs.declared.note.Note.{Note}
use Rattle.outbox.specs.declared.post.Post.{Post}
use Rattle.outbox.specs.Posts.{MailboxState}
use Rattle.outbox.specs.Outboxes.{unfinished_in, shown, restored_post, restored_posts, notes_told, notes_of}

no_notes : (notes : List Note) → 0 ≡ length notes → [] ≡ notes
no_notes [] e = refl
no_notes (note ∷ notes) e = absurd (omega (arith, e))

-- the first post's notes, and those of the others
module _ (post : Post) (posts : List Post) (notes : List Note) (counts : notes_told (post ∷ posts) ≡ length notes) where
  pub first_within : post.notes ≤ length notes
  first_within = let sums = sum_by-cons (λ (p : Post). p.notes) post posts in omega (arith, sums, counts)

  pub first_long : length (take post.notes notes) ≡ post.notes
  first_long = length-take-le post.notes notes first_within

  pub others_count : notes_told posts ≡ length (drop post.notes notes)
  others_count =
      let sums = sum_by-cons (λ (p : Post). p.notes) post posts in
      let rest = length-drop post.notes notes in
      omega (arith, sums, counts, rest)

pub shows_told : (posts : List Post) (notes : List Note) → notes_told posts ≡ length notes → map shown (restored_posts posts notes) ≡ posts
shows_told [] notes counts = refl
shows_told (post ∷ posts) notes counts =
    let first = first_long post posts notes counts in
    let rest = shows_told posts (drop post.notes notes) (others_count post posts notes counts) in
    λ k. record { peer = post.peer; next_invoke = post.next_invoke; attempts = post.attempts; deadline = post.deadline; notes = first k } ∷ rest k

pub holds_told : (posts : List Post) (notes : List Note) → notes_told posts ≡ length notes → notes_of (restored_posts posts notes) ≡ notes
holds_told [] notes counts = no_notes notes counts
holds_told (post ∷ posts) notes counts =
    ap (λ ns. take post.notes notes ++ ns) (holds_told posts (drop post.notes notes) (others_count post posts notes counts)) ∙ take-append-drop post.notes notes

pub counts_told : (posts : List Post) (notes : List Note) → notes_told posts ≡ length notes → unfinished_in (restored_posts posts notes) ≡ length notes
counts_told [] notes counts = counts
counts_told (post ∷ posts) notes counts =
    let sums = sum_by-cons (λ (p : MailboxState). length p.notes) (restored_post post (take post.notes notes)) (restored_posts posts (drop post.notes notes)) in
    let first = first_long post posts notes counts in
    let rest = counts_told posts (drop post.notes notes) (others_count post posts notes counts) in
    let size = length-drop post.notes notes in
    let within = first_within post posts notes counts in
    omega (arith, sums, first, rest, size, within)
