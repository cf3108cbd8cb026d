-- A new outbox, and one that is made of what was told.
use Rattle.std.proofs.Common.{◌≡◌, ℕ, Bool, List, [], ◌∷◌, length, map, get_or, refl, sym, subst, arith}
use Rattle.std.proofs.lemmas.List.Elements.{All-map}
use Rattle.std.proofs.lemmas.List.Sums.{sum_by-cons}
use Rattle.bac_values.specs.Address.{PeerData}
use Rattle.bac_values.specs.Orders.{IsAscending}
use Rattle.outbox.specs.Posts.{IsPost, empty_post, MailboxState}
use Rattle.outbox.specs.Outboxes.{AreSettings, OutboxState, IsOutbox, peers_of, unfinished_in, new_outbox, flushing}

pub peers_empty : (peers : List PeerData) → peers_of (map empty_post peers) ≡ peers
peers_empty [] = refl
peers_empty (peer ∷ peers) = λ k. peer ∷ peers_empty peers k

pub none_unfinished : (peers : List PeerData) → 0 ≡ unfinished_in (map empty_post peers)
none_unfinished [] = refl
none_unfinished (peer ∷ peers) =
    let sums = sum_by-cons (λ (p : MailboxState). length p.notes) (empty_post peer) (map empty_post peers) in
    omega (arith, sums, none_unfinished peers)

pub empty_is : (retries : ℕ) (peer : PeerData) → IsPost retries (empty_post peer)
empty_is retries peer = record {
  number = omega arith;
  fits = omega arith;
  attempts = omega arith;
  in_flight = λ h. absurd (omega (arith, h));
  resting = λ h. refl;
  short = λ k d h. absurd (omega (arith, h));
  own = λ k d h. absurd (omega (arith, h));
}

pub new_is : (peers : List PeerData) (limit timeout retries : ℕ) → IsAscending peers → AreSettings limit timeout retries → IsOutbox (new_outbox peers limit timeout retries)
new_is peers limit timeout retries ascending settings =
    let none = none_unfinished peers in
    record {
      settings = settings;
      ascending = subst IsAscending (sym (peers_empty peers)) ascending;
      posts = All-map (IsPost retries) empty_post peers (λ k d h. empty_is retries (get_or peers k d));
      room = omega (arith, none);
    }

pub flushing_is : (flush_silent : Bool) (outbox : OutboxState) → IsOutbox outbox → IsOutbox (flushing flush_silent outbox)
flushing_is flush_silent outbox is = record { settings = is.settings; ascending = is.ascending; posts = is.posts; room = is.room }
