-- Where devices are that a request may name as recipients (ANSI/ASHRAE 135-2020, clause 21, BACnetRecipient).
use Rattle.std.specs.Prelude.{◌≡◌, ◌<◌, ◌≤◌, ℕ, ◌==◌, Option, List, map, find, AllPairs}
use Rattle.std.specs.Option.{option_map}
use Rattle.bac_values.specs.Address.{PeerData}
use Rattle.notify_class.specs.declared.binding.Binding.{Binding}

-- a binding that a site may have: the instance is one that a device can have, and the peer is one of the local network, at a port that isn't 0
pub record IsBinding (binding : Binding) : Type 0 where
  pub instance : binding.device ≤ 4194302
  pub local : binding.peer.net ≡ 0
  pub port : 1 ≤ binding.peer.port

abbrev pub device_of : Binding → ℕ
device_of binding = binding.device

-- the instance of each device is below that of every later one, so each is bound once
abbrev pub BindingsAscend : List Binding → Type 0
BindingsAscend bindings = AllPairs (λ earlier later. earlier < later) (map device_of bindings)

-- the peer to which a device is bound, if it is
abbrev pub binding_of : ℕ → List Binding → Option PeerData
binding_of device bindings = option_map (λ (binding : Binding). binding.peer) (find (λ (binding : Binding). binding.device == device) bindings)
