-- A recipient whose post is shown is known.
use Rattle.std.proofs.Common.{◌≡◌, ℕ, zero, suc, Bool, true, false, true≢false, IsTrue, List, [], ◌∷◌, Option, Some, None, refl, sym, ◌∙◌, ap, subst}
use Rattle.std.specs.List.{slice_get}
use Rattle.std.specs.Option.{option_map}
use Rattle.std.proofs.lemmas.Bool.{or_right}
use Rattle.std.proofs.lemmas.List.Elements.{All-cons, All-nil}
use Rattle.bac_values.specs.declared.note.Note.{Note}
use Rattle.bac_values.specs.Orders.{is_same}
use Rattle.bac_values.proofs.OrderLemmas.{same_is_equivalence}
use Rattle.outbox.specs.declared.post.Post.{Post}
use Rattle.outbox.specs.Posts.{MailboxState}
use Rattle.outbox.specs.Outboxes.{AreKnown, is_known, shown}

abbrev of_some : Option Post → Post → Post
of_some (Some post) other = post
of_some None other = other

abbrev has_one : {X : Type 0} → Option X → Bool
has_one (Some x) = true
has_one None = false

-- a recipient whose post is shown is known
pub shown_known : (posts : List MailboxState) (place : ℕ) (post : Post) → Some post ≡ option_map shown (slice_get posts place) → IsTrue (is_known post.peer posts)
shown_known [] place post told = absurd (true≢false (ap has_one told))
shown_known (first ∷ posts) zero post told =
    let same : first.peer ≡ post.peer = sym (ap (λ (o : Option Post). (of_some o post).peer) told) in
    let there : is_same first.peer post.peer ≡ true = ap (λ p. is_same first.peer p) (sym same) ∙ same_is_equivalence.refl first.peer in
    rw there refl
shown_known (first ∷ posts) (suc place) post told = or_right (is_same first.peer post.peer) (is_known post.peer posts) (shown_known posts place post told)

pub one_known : (posts : List MailboxState) (note : Note) (notes : List Note) → IsTrue (is_known note.peer posts) → notes ≡ note ∷ [] → AreKnown notes posts
one_known posts note notes known same =
    subst (λ ns. AreKnown ns posts) (sym same) (All-cons (λ (n : Note). IsTrue (is_known n.peer posts)) note [] known (All-nil (λ (n : Note). IsTrue (is_known n.peer posts))))
