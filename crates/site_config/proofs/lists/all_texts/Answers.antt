use Rattle.std.proofs.Common.{◌≡◌, ◌<◌, ◌≤◌, ◌++◌, ◌∷◌, [], length, get_or, Some, None, ap, sym, subst, ◌∙◌}
use Rattle.std.proofs.lemmas.Result.{IfOk-from_err}
use Rattle.toml.specs.View.{items_view, view}
use Rattle.toml_items.specs.Lists.{all_in}
use Rattle.toml_items.proofs.Fronts.{one_more_read, one_bad, all_read, none_read}
use Rattle.toml_items.specs.Values.{text_in}
use Rattle.site_config.proofs.lists.all_texts.Goals as goal

pub loop-item-init : goal.loop-item-init
loop-item-init c = rw c.new-texts.ensures.items (none_read text_in c.args.array.now.items)

pub loop-item-preserved : goal.loop-item-preserved
loop-item-preserved c =
    let vs = c.args.array.now.items in
    let i = c.loop-item.item-index in
    let d = c.item-item.result in
    let xs = c.loop-item.texts.items in
    let x = c.in-Some.text in
    let lent : c.deref-item-items.result.now ≡ vs = c.deref-item-items.ensures.value in
    let within : i < length vs = subst (λ ws. i < length ws) lent c.loop-item-test.true in
    let at : d ≡ get_or vs i d = subst (λ ws. d ≡ get_or ws i d) lent c.item-item.is in
    let is : text_in (view (get_or vs i d)) ≡ Some x = ap (λ v. text_in (view v)) (sym at) ∙ (sym c.in_ok-text.ensures.text ∙ c.in-Some.is) in
    let added : c.push.new.items.items ≡ xs ++ x ∷ [] = c.in_ok-push.ensures.added in
    rw added (one_more_read text_in vs i d xs x (all_in text_in (items_view vs)) within is c.loop-item.invariant)

pub returns : goal.returns
returns c =
    let vs = c.args.array.now.items in
    let i = c.loop-item.item-index in
    let lent : c.deref-item-items.result.now ≡ vs = c.deref-item-items.ensures.value in
    let past : length vs ≤ i = subst (λ ws. length ws ≤ i) lent c.loop-item-test.false in
    record { texts = ap Some c.of.ensures.same ∙ all_read text_in vs i c.loop-item.texts.items (all_in text_in (items_view vs)) past c.loop-item.invariant }

pub returns-in_default : goal.returns-in_default
returns-in_default c =
    let vs = c.args.array.now.items in
    let i = c.loop-item.item-index in
    let d = c.item-item.result in
    let lent : c.deref-item-items.result.now ≡ vs = c.deref-item-items.ensures.value in
    let within : i < length vs = subst (λ ws. i < length ws) lent c.loop-item-test.true in
    let at : d ≡ get_or vs i d = subst (λ ws. d ≡ get_or ws i d) lent c.item-item.is in
    let nothing : c.in_ok-text.field-0 ≡ None = c.in_default.is in
    let is : text_in (view (get_or vs i d)) ≡ None = ap (λ v. text_in (view v)) (sym at) ∙ (sym c.in_ok-text.ensures.text ∙ nothing) in
    record { texts = one_bad text_in vs i d c.loop-item.texts.items (all_in text_in (items_view vs)) within is c.loop-item.invariant }

pub returns-in_err-text : goal.returns-in_err-text
returns-in_err-text c = record { texts = IfOk-from_err c.from_residual.result _ c.from_residual.ensures.0 }

pub returns-in_err-push : goal.returns-in_err-push
returns-in_err-push c = record { texts = IfOk-from_err c.from_residual-in_err-push.result _ c.from_residual-in_err-push.ensures.0 }
