-- Where a peer's post stands, and where it would stand.
use Rattle.std.specs.Prelude.{◌≡◌, ℕ, ◌<◌, ◌≤◌, List, length, Result, MatchResult, slice_index_or}
use Rattle.std.specs.List.{AllWithin}
use Rattle.std.specs.declared.cmp.Ordering.TheVariants.{Less, Greater}
use Rattle.bac_values.specs.Address.{PeerData}
use Rattle.bac_values.specs.Orders.{peer_order}
use Rattle.outbox.specs.Posts.{MailboxState}

-- its post stands at the place
abbrev pub IsPlaceOf : PeerData → List MailboxState → ℕ → Type 0
IsPlaceOf peer posts place = (place < length posts) × ((d : MailboxState) → (slice_index_or posts place d).peer ≡ peer)

-- it has none; those below it stand before the place, and those above it from there on
abbrev pub IsGapFor : PeerData → List MailboxState → ℕ → Type 0
IsGapFor peer posts place = (place ≤ length posts)
    × AllWithin (λ (post : MailboxState). peer_order post.peer peer ≡ Less) posts 0 place
    × AllWithin (λ (post : MailboxState). peer_order post.peer peer ≡ Greater) posts place (length posts)

abbrev pub IsSearched : PeerData → List MailboxState → Result ℕ ℕ → Type 0
IsSearched peer posts answer = MatchResult answer (IsPlaceOf peer posts) (IsGapFor peer posts)
