-- Who asks by a confirmed request.
use Rattle.std.specs.Prelude.{ℕ}
use Rattle.bac_values.specs.Address.{PeerData}

-- the peer, the most octets that it takes in an answer, the number of the request, and the number of the service
pub record RequesterData : Type 0 where
  pub peer : PeerData
  pub max_apdu : ℕ
  pub invoke : ℕ
  pub service : ℕ

abbrev pub requester_of : PeerData → ℕ → ℕ → ℕ → RequesterData
requester_of peer max_apdu invoke service = record { peer = peer; max_apdu = max_apdu; invoke = invoke; service = service }
