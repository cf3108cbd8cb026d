-- Posts that were read one after the other, and their notes.
use Rattle.std.proofs.Common.{◌≡◌, ◌+◌, ◌≤◌, List, [], ◌∷◌, ◌++◌, length, take, take_all, drop, ap, ◌∙◌, arith}
use Rattle.std.proofs.lemmas.List.{take-append-le, drop-append-le, length-append, length-drop}
use Rattle.std.proofs.lemmas.List.Sums.{sum_by-cons}
use Rattle.bac_values.specs.declared.note.Note.{Note}
use Rattle.outbox.specs.declared.post.Post.{Post}
use Rattle.outbox.specs.Outboxes.{notes_told, restored_post, restored_posts}
use Rattle.outbox.specs.Posts.{MailboxState}

told_more : (post : Post) (posts : List Post) → notes_told (post ∷ posts) ≡ post.notes + notes_told posts
told_more post posts = sum_by-cons (λ (p : Post). p.notes) post posts

-- one more post, whose notes stand behind the others
pub one_more : (posts : List Post) (notes : List Note) (post : Post) (own : List Note) → notes_told posts ≡ length notes → post.notes ≡ length own → restored_posts (posts ++ post ∷ []) (notes ++ own) ≡ restored_posts posts notes ++ restored_post post own ∷ []
one_more [] [] post own told long = ap (λ (ns : List Note). restored_post post ns ∷ []) (take_all post.notes own (omega (arith, long)))
one_more [] (note ∷ notes) post own told long = absurd (omega (arith, told))
one_more (first ∷ others) notes post own told long =
    let le : first.notes ≤ length notes = omega (arith, told, told_more first others) in
    let rest : notes_told others ≡ length (drop first.notes notes) = omega (arith, told, told_more first others, length-drop first.notes notes) in
    ap (λ (ns : List Note). restored_post first ns ∷ restored_posts (others ++ post ∷ []) (drop first.notes (notes ++ own))) (take-append-le first.notes notes own le)
    ∙ ap (λ (ns : List Note). restored_post first (take first.notes notes) ∷ restored_posts (others ++ post ∷ []) ns) (drop-append-le first.notes notes own le)
    ∙ ap (λ (ps : List MailboxState). restored_post first (take first.notes notes) ∷ ps) (one_more others (drop first.notes notes) post own rest long)

told_after : (posts : List Post) (post : Post) → notes_told (posts ++ post ∷ []) ≡ notes_told posts + post.notes
told_after [] post = omega (arith, told_more post [])
told_after (first ∷ others) post = omega (arith, told_more first (others ++ post ∷ []), told_more first others, told_after others post)

-- as many notes as are told of
pub told_still : (posts : List Post) (notes : List Note) (post : Post) (own : List Note) → notes_told posts ≡ length notes → post.notes ≡ length own → notes_told (posts ++ post ∷ []) ≡ length (notes ++ own)
told_still posts notes post own told long = omega (arith, told, long, told_after posts post, length-append notes own)
