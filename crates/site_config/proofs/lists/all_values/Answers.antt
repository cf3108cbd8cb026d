use Rattle.std.proofs.Common.{◌≡◌, ◌<◌, ◌≤◌, ◌++◌, ◌∷◌, [], length, get_or, Some, None, ap, sym, subst, ◌∙◌}
use Rattle.std.proofs.lemmas.Result.{IfOk-from_err}
use Rattle.toml.specs.View.{items_view, view}
use Rattle.toml_items.specs.Lists.{all_in}
use Rattle.toml_items.proofs.Fronts.{one_more_read, one_bad, all_read, none_read}
use Rattle.site_config.specs.Values.{value_in}
use Rattle.site_config.proofs.lists.all_values.Goals as goal

pub loop-item-init : goal.loop-item-init
loop-item-init c = rw c.new-values.ensures.items (none_read (value_in c.args.kind) c.args.array.now.items)

pub loop-item-preserved : goal.loop-item-preserved
loop-item-preserved c =
    let vs = c.args.array.now.items in
    let i = c.loop-item.item-index in
    let d = c.item-item.result in
    let xs = c.loop-item.values.items in
    let x = c.in-Some.value in
    let lent : c.deref-item-items.result.now ≡ vs = c.deref-item-items.ensures.value in
    let within : i < length vs = subst (λ ws. i < length ws) lent c.loop-item-test.true in
    let at : d ≡ get_or vs i d = subst (λ ws. d ≡ get_or ws i d) lent c.item-item.is in
    let is : value_in c.args.kind (view (get_or vs i d)) ≡ Some x = ap (λ v. value_in c.args.kind (view v)) (sym at) ∙ (sym c.in_ok-value.ensures.value ∙ c.in-Some.is) in
    let added : c.push.new.items.items ≡ xs ++ x ∷ [] = c.in_ok-push.ensures.added in
    rw added (one_more_read (value_in c.args.kind) vs i d xs x (all_in (value_in c.args.kind) (items_view vs)) within is c.loop-item.invariant)

pub returns : goal.returns
returns c =
    let vs = c.args.array.now.items in
    let i = c.loop-item.item-index in
    let lent : c.deref-item-items.result.now ≡ vs = c.deref-item-items.ensures.value in
    let past : length vs ≤ i = subst (λ ws. length ws ≤ i) lent c.loop-item-test.false in
    record { values = ap Some c.of.ensures.same ∙ all_read (value_in c.args.kind) vs i c.loop-item.values.items (all_in (value_in c.args.kind) (items_view vs)) past c.loop-item.invariant }

pub returns-in_default : goal.returns-in_default
returns-in_default c =
    let vs = c.args.array.now.items in
    let i = c.loop-item.item-index in
    let d = c.item-item.result in
    let lent : c.deref-item-items.result.now ≡ vs = c.deref-item-items.ensures.value in
    let within : i < length vs = subst (λ ws. i < length ws) lent c.loop-item-test.true in
    let at : d ≡ get_or vs i d = subst (λ ws. d ≡ get_or ws i d) lent c.item-item.is in
    let nothing : c.in_ok-value.field-0 ≡ None = c.in_default.is in
    let is : value_in c.args.kind (view (get_or vs i d)) ≡ None = ap (λ v. value_in c.args.kind (view v)) (sym at) ∙ (sym c.in_ok-value.ensures.value ∙ nothing) in
    record { values = one_bad (value_in c.args.kind) vs i d c.loop-item.values.items (all_in (value_in c.args.kind) (items_view vs)) within is c.loop-item.invariant }

pub returns-in_err-value : goal.returns-in_err-value
returns-in_err-value c = record { values = IfOk-from_err c.from_residual.result _ c.from_residual.ensures.0 }

pub returns-in_err-push : goal.returns-in_err-push
returns-in_err-push c = record { values = IfOk-from_err c.from_residual-in_err-push.result _ c.from_residual-in_err-push.ensures.0 }
