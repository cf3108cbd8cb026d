use Rattle.std.proofs.Common.{ℕ, ◌≡◌, ◌==◌, ◌<◌, Some, None, Result, Ok, Err, get_or, List, length, rules, ap, IfOk, OnErr}
use Rattle.std.specs.List.{find}
use Rattle.std.specs.Option.{option_map}
use Rattle.std.proofs.lemmas.List.Sorted.{answers_always}
use Rattle.bac_values.specs.Address.{PeerData}
use Rattle.notify_class.specs.declared.binding.Binding.{Binding}
use Rattle.alarm_core.specs.Bindings.{binding_of}
use Rattle.alarm_core.proofs.ByNumber.{SearchedByNumber, searched}
use Rattle.alarm_core.proofs.class_search.place_of_binding.Goals as goal

abbrev device : Binding → ℕ
device binding = binding.device

abbrev peer : Binding → PeerData
peer binding = binding.peer

found_peer : (number : ℕ) (bindings : List Binding) (answer : Result ℕ ℕ) → SearchedByNumber device number bindings answer →
    IfOk answer (λ place. (place < length bindings) × ((d : Binding) → binding_of number bindings ≡ Some (get_or bindings place d).peer))
found_peer number bindings (Ok place) h = (h.found.0, λ d. ap (option_map peer) (h.found.1 d))
found_peer number bindings (Err place) h = tt

no_peer : (number : ℕ) (bindings : List Binding) (answer : Result ℕ ℕ) → SearchedByNumber device number bindings answer → OnErr answer (binding_of number bindings ≡ None)
no_peer number bindings (Ok place) h = tt
no_peer number bindings (Err place) h = ap (option_map peer) h.absent

pub returns : goal.returns
returns c =
    let facts = c.binary_search_by_key.ensures in
    let by_key = facts.position device (answers_always _ _ _ (λ f a r g called. search rules)) in
    let answer = c.binary_search_by_key.result in
    let searched = searched device c.args.device c.args.bindings.now c.requires.ascending answer facts.bound by_key in
    record { found = found_peer c.args.device c.args.bindings.now answer searched; absent = no_peer c.args.device c.args.bindings.now answer searched }
