-- The limits of a Recipient_List that is edited.
use Rattle.std.specs.Prelude.{◌≡◌, ℕ, ◌*◌, ◌↔◌, ◌⊎◌, List, [], ◌∷◌, ◌++◌, length, map, Result, Ok, Err, Contains, AllPairs, nat_lt, if◌then◌else◌}
use Rattle.bac_values.specs.Limits.{most_destinations, most_peers}
use Rattle.bac_values.specs.Address.{PeerData}
use Rattle.bac_values.specs.Orders.{is_among}
use Rattle.notify_class.specs.declared.edit.EditFault.{EditFault}
use Rattle.notify_class.specs.declared.edit.EditFault.TheVariants.{TooMany, TooManyPeers, TooManyNotes}
use Rattle.notify_class.specs.Recipients.{DestinationData}

-- the peers of a list of recipients, in its order
abbrev pub recipient_peers : List DestinationData → List PeerData
recipient_peers recipients = map (λ (recipient : DestinationData). recipient.peer) recipients

-- the known peers, once each of the others has been added that is not there yet
abbrev pub known_with : List PeerData → List PeerData → List PeerData
known_with known [] = known
known_with known (peer ∷ peers) =
    if is_among known peer then known_with known peers else known_with (known ++ peer ∷ []) peers

-- the list has no peer twice, and has exactly the peers of both
pub record IsUnion (known others together : List PeerData) : Type 0 where
  pub distinct : AllPairs (λ earlier later. earlier ≡ later → ⊥) together
  pub members : (peer : PeerData) → Contains together peer ↔ (Contains known peer ⊎ Contains others peer)

-- what an edit is refused for: too many recipients; then too many peers, those known together with the new ones; then
-- too many notes, one of each member of the class to each recipient
abbrev pub edit_verdict : List PeerData → List DestinationData → ℕ → ℕ → Result (Unit {0}) EditFault
edit_verdict known recipients members room =
    let count = length recipients in
    let peers = length (known_with known (recipient_peers recipients)) in
    let notes = members * count in
    if nat_lt most_destinations count then Err (TooMany count)
    else (if nat_lt most_peers peers then Err (TooManyPeers peers)
    else (if nat_lt room notes then Err (TooManyNotes notes) else Ok tt))
