-- What a binding keeps to.
use Rattle.std.proofs.Common.{◌≡◌, ◌≤◌, ◌<◌, ◌==◌, ℕ, List, [], ◌∷◌, map, true, false, Bool, Some, None, Ok, if◌then◌else◌, refl, ap, subst, arith}
use Rattle.std.specs.Prelude.{codes}
use Rattle.std.specs.List.{All, AllPairs}
use Rattle.std.proofs.lemmas.Bool.Decides.{nat_tests}
use Rattle.std.proofs.lemmas.List.Elements.{All-map, All-weaker}
use Rattle.toml.specs.Data.{Data, Members, as_str}
use Rattle.bac_values.specs.Address.{PeerData}
use Rattle.bac_values.specs.Identifier.{number_of_kind}
use Rattle.bac_values.specs.declared.object_kind.ObjectKind.TheVariants as kinds
use Rattle.alarm_core.specs.Bindings.{BindingsAscend, IsBinding, device_of}
use Rattle.script_lines.specs.Number.{unsigned_of}
use Rattle.script_lines.specs.SessionLine.{before, behind, colon, ip_of, port_of, peer_of}
use Rattle.site_config.specs.declared.binding_item.BindingItem.{BindingItem}
use Rattle.site_config.specs.declared.keys.Keys.TheVariants as keys
use Rattle.site_config.specs.Bindings.{binding_of}
use Rattle.site_config.specs.Devices.{object_with}
use Rattle.site_config.specs.Identifiers.{id_of_binding}
use Rattle.site_config.specs.Items.{binding_item}
use Rattle.site_config.specs.Keys.{has_key}
use Rattle.site_config.specs.Sites.{bound}
use Rattle.site_config.specs.Values.{instance_in, peer_in}
use Rattle.toml_items.specs.Members.{first_unknown, refused_key, required}
use Rattle.toml_items.proofs.Steps.{after, found, ok_is, required_keeps}
use Rattle.site_config.proofs.Instances.{HasType, Precedes, instance, instances_ascend}
use Rattle.site_config.proofs.Numbers.{instance_kept}

-- ---- its address

-- a peer of the local network, at a port
pub record IsLocal (peer : PeerData) : Type 0 where
  pub local : peer.net ≡ 0
  pub port : 1 ≤ peer.port

port_kept : (text : List ℕ) (port : ℕ) → port_of text ≡ Some port → 1 ≤ port
port_kept text port h =
    let number = found (unsigned_of 65535 text) _ port h in
    by number.value (number.value == 0) refl number.next_is
  where
    by : (number : ℕ) (none : Bool) → (number == 0) ≡ none → (if none then None else Some number) ≡ Some port → 1 ≤ port
    by number true is e = absurd cc
    by number false is e = let same : number ≡ port = cc in rw (← same) (grind (arith, nat_tests))

is_local : (text : List ℕ) (peer : PeerData) → peer_of text ≡ Some peer → IsLocal peer
is_local text peer h =
    let ip = found (ip_of (before colon text)) _ peer h in
    let port = found (port_of (behind colon text)) _ peer ip.next_is in
    let whole : PeerData = record { ip = ip.value; port = port.value; net = 0; mac = [] } in
    let is : whole ≡ peer = cc in
    rw (← is) (record { local = refl; port = port_kept (behind colon text) port.value port.part_is })

peer_kept : (d : Data) (peer : PeerData) → peer_in d ≡ Some peer → IsLocal peer
peer_kept d peer h = let f = found (as_str d) peer_of peer h in is_local f.value peer f.next_is

-- ---- one that is read

pub record IsBindingPart (made : BindingItem) : Type 0 where
  pub device : HasType id_of_binding (number_of_kind kinds.Device) made
  pub instance : made.object.instance ≤ 4194302
  pub peer : IsLocal made.peer

binding_part_kept : (ms : Members) (made : BindingItem) → binding_of ms ≡ Ok made → IsBindingPart made
unfolding binding_of
binding_part_kept ms made h =
    let device = after (required instance_in (codes "device") ms) _ made h in
    let peer = after (required peer_in (codes "address") ms) _ made device.next_is in
    let whole : BindingItem = record { object = object_with kinds.Device device.value; peer = peer.value } in
    let is : whole ≡ made = ok_is whole made peer.next_is in
    let I : ℕ → Type 0 = λ n. n ≤ 4194302 in
    rw (← is) (record {
      device = refl;
      instance = required_keeps I instance_in instance_kept (codes "device") ms device.value device.first_is;
      peer = required_keeps IsLocal peer_in peer_kept (codes "address") ms peer.value peer.first_is;
    })

pub binding_kept : (ms : Members) (made : BindingItem) → binding_item ms ≡ Ok made → IsBindingPart made
binding_kept ms made h =
    let known = after (refused_key (first_unknown (has_key keys.Binding) ms)) (λ _. binding_of ms) made h in
    binding_part_kept ms made known.next_is

-- ---- those of a site

pub bindings_are : (items : List BindingItem) → All IsBindingPart items → All IsBinding (map bound items)
bindings_are items parts =
    All-map IsBinding bound items (All-weaker IsBindingPart (λ item. IsBinding (bound item)) (λ item is. record { instance = is.instance; local = is.peer.local; port = is.peer.port }) items parts)

devices_of : (items : List BindingItem) → map (instance id_of_binding) items ≡ map device_of (map bound items)
devices_of [] = refl
devices_of (item ∷ items) = ap (λ ns. item.object.instance ∷ ns) (devices_of items)

pub bindings_ascend : (items : List BindingItem) → All IsBindingPart items → AllPairs Precedes (map id_of_binding items) → BindingsAscend (map bound items)
bindings_ascend items parts ascend =
    let types = All-weaker IsBindingPart (HasType id_of_binding (number_of_kind kinds.Device)) (λ item is. is.device) items parts in
    subst (AllPairs (λ earlier later. earlier < later)) (devices_of items) (instances_ascend id_of_binding (number_of_kind kinds.Device) items types ascend)
