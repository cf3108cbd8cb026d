use Rattle.std.proofs.Common.{◌≡◌, ◌<◌, ◌≤◌, ◌++◌, ◌∷◌, [], length, get_or, Some, Ok, ap, sym, subst, ◌∙◌, inl, inr}
use Rattle.std.proofs.lemmas.Result.{err_from_is_err_and}
use Rattle.toml.specs.Data.{as_table}
use Rattle.toml.specs.View.{items_view, table_view, view}
use Rattle.site_config.specs.Sections.{items_of}
use Rattle.site_config.proofs.Tables.{nothing_read, table_read, table_refused, tables_read}
use Rattle.site_config.proofs.sections.read_items.Goals as goal

pub loop-value-init : goal.loop-value-init
loop-value-init g c = rw c.new-items.ensures.items (nothing_read g.T.Item.item_of c.args.section (items_view c.args.array.now.items))

pub loop-value-preserved : goal.loop-value-preserved
loop-value-preserved g c =
    let vs = c.args.array.now.items in
    let i = c.loop-value.value-index in
    let d = c.value-item.result in
    let xs = c.loop-value.items.items in
    let x = c.in_ok-item.item in
    let lent : c.deref-value-items.result.now ≡ vs = c.deref-value-items.ensures.value in
    let within : i < length vs = subst (λ ws. i < length ws) lent c.loop-value-test.true in
    let at : d ≡ get_or vs i d = subst (λ ws. d ≡ get_or ws i d) lent c.value-item.is in
    let is_table : Some (table_view c.in-Some.table.now) ≡ as_table (view (get_or vs i d)) = c.in-Some.ensures ∙ ap (λ v. as_table (view v)) at in
    let added : c.push.new.items.items ≡ xs ++ x ∷ [] = c.in_ok-push.ensures.added in
    rw (added, c.saturating_add-number.ensures) (table_read g.T.Item.item_of c.args.section c.loop-value.number vs i d (table_view c.in-Some.table.now) xs x (items_of g.T.Item.item_of c.args.section 1 (items_view vs)) within is_table c.in_ok-item.ensures.answer c.loop-value.invariant)

pub returns : goal.returns
returns g c =
    let vs = c.args.array.now.items in
    let i = c.loop-value.value-index in
    let lent : c.deref-value-items.result.now ≡ vs = c.deref-value-items.ensures.value in
    let past : length vs ≤ i = subst (λ ws. length ws ≤ i) lent c.loop-value-test.false in
    record { answer = tables_read g.T.Item.item_of c.args.section c.loop-value.number vs i c.loop-value.items.items (items_of g.T.Item.item_of c.args.section 1 (items_view vs)) past c.loop-value.invariant ∙ ap Ok (sym c.of.ensures.same) }

pub returns-in_err-item : goal.returns-in_err-item
returns-in_err-item g c =
    let vs = c.args.array.now.items in
    let i = c.loop-value.value-index in
    let d = c.value-item.result in
    let lent : c.deref-value-items.result.now ≡ vs = c.deref-value-items.ensures.value in
    let within : i < length vs = subst (λ ws. i < length ws) lent c.loop-value-test.true in
    let at : d ≡ get_or vs i d = subst (λ ws. d ≡ get_or ws i d) lent c.value-item.is in
    let is_table : Some (table_view c.in-Some.table.now) ≡ as_table (view (get_or vs i d)) = c.in-Some.ensures ∙ ap (λ v. as_table (view v)) at in
    let p = err_from_is_err_and c.from_residual.result c.from_residual.ensures.1 in
    record {
      answer = rw (p.1, p.2) (elim c.in_err-item.ensures.answer [
        | inl refused ↦ inl refused
        | inr is ↦ inr (table_refused g.T.Item.item_of c.args.section c.loop-value.number vs i d (table_view c.in-Some.table.now) c.loop-value.items.items c.in_err-item.field-0.0 (items_of g.T.Item.item_of c.args.section 1 (items_view vs)) within is_table is c.loop-value.invariant)
      ]);
    }

pub returns-in_err-push : goal.returns-in_err-push
returns-in_err-push g c =
    let p = err_from_is_err_and c.from_residual-in_err-push.result c.from_residual-in_err-push.ensures.1 in
    record { answer = rw p.1 (inl p.2) }
