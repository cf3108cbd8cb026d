-- The parts of a recipient, written one behind the other.
use Rattle.std.proofs.Common.{◌≡◌, ℕ, ◌+◌, ◌<◌, Result, Ok, Err, OnOk, Option, Some, None, option_map, slice_get, List, [], ◌∷◌, ◌++◌, length, get_or, take, flat_map, sym, ap, ◌∙◌, append_assoc, arith}
use Rattle.std.specs.Option.{option_map_or}
use Rattle.std.proofs.lemmas.List.{take_more, flat_map_more}
use Rattle.std.proofs.lemmas.Option.{get_or_from_slice_get, slice_get-get_or}
use Rattle.std.specs.Int.{w32, to_be_bytes}
use Rattle.notify_class.specs.Recipients.{DestinationData}
use Rattle.outbox.specs.Outboxes.{shown}
use Rattle.outbox.specs.Posts.{MailboxState}
use Rattle.outbox.specs.declared.post.Post.{Post}
use Rattle.state_codec.specs.Snapshots.{written_note, written_post}
use Rattle.state_codec.specs.WritingSteps.{notes_of_post, written_delivery, written_told}
use Rattle.state_codec.specs.Records.{written_flag, written_flags, written_peer, written_destination}

pub on_ok : {A E : Type 0} (r : Result A E) (P Q : Type 0) → (P → Q) → OnOk r P → OnOk r Q
on_ok (Ok x) P Q f p = f p
on_ok (Err e) P Q f p = tt

abbrev window : DestinationData → List ℕ
window it = it.days ∷ (to_be_bytes w32 it.from ++ to_be_bytes w32 it.to)

abbrev manner : DestinationData → List ℕ
manner it = to_be_bytes w32 it.process ++ (written_flag it.confirmed ++ written_flags it.transitions)

pub recipient_written : (it : DestinationData) (old first second all : List ℕ) → first ≡ old ++ window it → second ≡ first ++ written_peer it.peer → all ≡ second ++ manner it → all ≡ old ++ written_destination it
recipient_written it old first second all one two three =
    three ∙ ap (λ (t : List ℕ). t ++ manner it) (two ∙ ap (λ (t : List ℕ). t ++ written_peer it.peer) one)
    ∙ ap (λ (t : List ℕ). t ++ manner it) (append_assoc old (window it) (written_peer it.peer))
    ∙ append_assoc old (window it ++ written_peer it.peer) (manner it)
    ∙ ap (λ (t : List ℕ). old ++ t) (append_assoc (window it) (written_peer it.peer) (manner it))

-- one more of a list is written behind those before it
pub one_more : {X : Type 0} (f : X → List ℕ) (xs : List X) (i : ℕ) (x : X) (old now new : List ℕ) → i < length xs → x ≡ get_or xs i x → now ≡ old ++ flat_map f (take i xs) → new ≡ now ++ f x → new ≡ old ++ flat_map f (take (i + 1) xs)
one_more f xs i x old now new lt is so_far more =
    let taken : take (i + 1) xs ≡ take i xs ++ x ∷ [] = take_more xs i x lt ∙ ap (λ y. take i xs ++ y ∷ []) (sym is) in
    more
    ∙ ap (λ (t : List ℕ). t ++ f x) so_far
    ∙ flat_map_more f old (take i xs) x
    ∙ ap (λ t. old ++ flat_map f t) (sym taken)

-- the element at a place doesn't depend on what would stand there beyond the last
same_at : {X : Type 0} (xs : List X) (i : ℕ) (d e : X) → i < length xs → get_or xs i e ≡ get_or xs i d
same_at xs i d e lt = sym (get_or_from_slice_get xs i (get_or xs i e) d (slice_get-get_or xs i e lt))

-- the same of the element at a place
pub one_more_at : {X : Type 0} (f : X → List ℕ) (xs : List X) (i : ℕ) (old now new : List ℕ) → i < length xs → now ≡ old ++ flat_map f (take i xs) → new ≡ now ++ option_map_or f (slice_get xs i) [] → new ≡ old ++ flat_map f (take (i + 1) xs)
one_more_at f [] i old now new lt so_far more = let no : ⊥ = omega arith in absurd no
one_more_at f (first ∷ others) i old now new lt so_far more =
    let xs = first ∷ others in
    let x = get_or xs i first in
    one_more f xs i x old now new lt (same_at xs i x first lt) so_far (more ∙ ap (λ o. now ++ option_map_or f o []) (slice_get-get_or xs i first lt))

-- parts that are appended one by one stand one behind the other
pub two_parts : (old a b one two : List ℕ) → one ≡ old ++ a → two ≡ one ++ b → two ≡ old ++ (a ++ b)
two_parts old a b one two first second = second ∙ ap (λ (t : List ℕ). t ++ b) first ∙ append_assoc old a b

pub three_parts : (old a b c one two three : List ℕ) → one ≡ old ++ a → two ≡ one ++ b → three ≡ two ++ c → three ≡ old ++ (a ++ (b ++ c))
three_parts old a b c one two three first second third = two_parts old a (b ++ c) one three first (two_parts one b c two three second third)

pub four_parts : (old a b c d one two three four : List ℕ) → one ≡ old ++ a → two ≡ one ++ b → three ≡ two ++ c → four ≡ three ++ d → four ≡ old ++ (a ++ (b ++ (c ++ d)))
four_parts old a b c d one two three four first second third fourth = two_parts old a (b ++ (c ++ d)) one four first (three_parts one b c d two three four second third fourth)

-- what is told of a post, and its notes, are the post
pub post_written : (found : Option MailboxState) (told : Post) (old one two : List ℕ) → option_map shown found ≡ Some told → one ≡ old ++ written_told told → two ≡ one ++ flat_map written_note (option_map_or notes_of_post found []) → two ≡ old ++ option_map_or written_post found []
post_written (Some post) told old one two is first second =
    let told_of : one ≡ old ++ written_told (shown post) = first ∙ ap (λ (it : Option Post). old ++ option_map_or written_told it []) (sym is) in
    let notes = flat_map written_note post.notes in
    two_parts old (written_told (shown post)) notes one two told_of second
    ∙ ap (λ (t : List ℕ). old ++ t) (append_assoc (written_peer post.peer) (written_delivery (shown post)) notes)
post_written None told old one two is first second = absurd cc
