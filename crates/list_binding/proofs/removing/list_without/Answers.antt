use Rattle.std.proofs.Common.{◌≡◌, not, Some, None, Ok, sym, ap, ◌∙◌, List}
use Rattle.std.specs.Prelude.{position}
use Rattle.notify_class.specs.Recipients.{DestinationData}
use Rattle.list_binding.specs.Edits.{is_in, list_without}
use Rattle.list_binding.proofs.Changes.{refused_at, removed_at}
use Rattle.list_binding.proofs.removing.list_without.Goals as goal

pub returns-in-Some : goal.returns-in-Some
returns-in-Some c =
    let list = c.args.list.now in
    let elements = c.args.elements.now in
    let first : position (λ (element : DestinationData). not (is_in list element)) elements ≡ Some c.in-Some.place = sym c.in-Some.ensures.first in
    record { exact = rw c.at_element.ensures.refusal (sym (refused_at list elements c.in-Some.place first)) }

pub returns : goal.returns
returns c =
    let list = c.args.list.now in
    let elements = c.args.elements.now in
    let none : position (λ (element : DestinationData). not (is_in list element)) elements ≡ None = sym c.first_not_found.ensures.first ∙ c.in_default.is in
    let left : c.in_ok-all_without.field-0.items ≡ list_without list elements = c.in_ok-all_without.ensures.list in
    record { exact = ap (λ (l : List DestinationData). Ok l) left ∙ sym (removed_at list elements none) }
