use Rattle.std.proofs.Common.{string_bytes, ◌≡◌, Some, None, Err, ap, sym, ◌∙◌, option_map, refl, inl, inr}
use Rattle.toml.specs.View.{table_view}
use Rattle.toml_items.specs.Members.{first_unknown, named}
use Rattle.toml_items.specs.declared.item_fault.ItemFault.TheVariants.{Unknown}
use Rattle.toml_items.proofs.FirstUnknown.{first_unknown_find}
use Rattle.toml_items.proofs.keys.check_keys.Goals as goal

pub returns-in-Some : goal.returns-in-Some
returns-in-Some g c =
    let found : first_unknown (g.K.KnownKeys.has_key c.args.keys) (table_view c.args.table.now) ≡ Some (string_bytes c.in-Some.key.now) = sym (first_unknown_find (g.K.KnownKeys.has_key c.args.keys) c.args.table.now.entries) ∙ sym (ap (option_map string_bytes) c.in-Some.ensures.first) in
    record {
      answer = elim c.unknown.ensures.fault [
        | inl refused ↦ inl refused
        | inr is ↦ inr (rw found (ap Err (ap (λ key. Unknown (named key)) (sym c.as_str.ensures.value) ∙ sym is)))
      ];
    }

pub returns-in-None : goal.returns-in-None
returns-in-None g c =
    let nothing : first_unknown (g.K.KnownKeys.has_key c.args.keys) (table_view c.args.table.now) ≡ None = sym (first_unknown_find (g.K.KnownKeys.has_key c.args.keys) c.args.table.now.entries) ∙ sym (ap (option_map string_bytes) c.in-None.ensures.first) in
    record { answer = rw nothing refl }
