use Rattle.std.proofs.Common.{rules, ◌≡◌, List, Vec, Global, sym, subst, ◌∙◌, arith}
use Rattle.bac_tags.proofs.Standing.{IsBytes}
use Rattle.notify_class.specs.Recipients.{DestinationData}
use Rattle.notify_class.specs.declared.destination.Destination.{Destination}
use Rattle.list_binding.specs.Edits.{EditsTo, Tells, limits_of}
use Rattle.list_binding.specs.EditSteps.{edit_of}
use Rattle.list_binding.proofs.EditLaws.{edits_only, edits_told, is_kept, is_part, tells_on}
use Rattle.list_binding.proofs.editing.edit.Goals as goal

abbrev items : Vec Destination Global → List DestinationData
items left = left.items

-- what the steps tell of the class's list
told : (c : goal.After-edit_of) → Tells items (λ answer. answer ≡ edit_of (limits_of c.args.limits.now) c.args.bindings.now c.args.class.now.destinations c.args.adding c.args.elements.now) c.edit_of.result
told c =
    let same : c.as_slice.result.now ≡ c.args.class.now.destinations = search rules in
    subst (λ (list : List DestinationData). Tells items (λ answer. answer ≡ edit_of (limits_of c.args.limits.now) c.args.bindings.now list c.args.adding c.args.elements.now) c.edit_of.result) same c.edit_of.ensures.exact

bytes : (c : goal.After-edit_of) → IsBytes c.args.elements.now
bytes c = λ i. omega (arith, c.type_inv.elements i)

pub returns-clause-edited : goal.returns-clause-edited
returns-clause-edited c =
    let limits = limits_of c.args.limits.now in
    let bindings = c.args.bindings.now in
    let list = c.args.class.now.destinations in
    let octets = c.args.elements.now in
    let all = edit_of limits bindings list c.args.adding octets in
    let law = edits_told limits bindings list c.args.adding octets (bytes c) in
    tells_on items (λ answer. answer ≡ all) (EditsTo limits bindings list c.args.adding octets) c.edit_of.result (λ answer e. subst (EditsTo limits bindings list c.args.adding octets) (sym e) law) (told c)

pub returns-clause-only : goal.returns-clause-only
returns-clause-only c = λ answer h.
    let limits = limits_of c.args.limits.now in
    let bindings = c.args.bindings.now in
    let list = c.args.class.now.destinations in
    let octets = c.args.elements.now in
    let all = edit_of limits bindings list c.args.adding octets in
    let one = edits_only limits bindings list c.args.adding octets (bytes c) answer h in
    tells_on items (λ found. found ≡ all) (λ found. found ≡ answer) c.edit_of.result (λ found e. e ∙ sym one) (told c)

pub returns-clause-limits : goal.returns-clause-limits
returns-clause-limits c = is_kept items (limits_of c.args.limits.now) c.args.bindings.now c.args.class.now.destinations c.args.adding c.args.elements.now c.edit_of.result (told c)

pub returns-clause-part : goal.returns-clause-part
returns-clause-part c = is_part items (limits_of c.args.limits.now) c.args.bindings.now c.args.class.now.destinations c.args.adding c.args.elements.now c.edit_of.result (told c)
