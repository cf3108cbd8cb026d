-- What the reference to the object that inhibits, and the texts of transitions keep to.
use Rattle.std.proofs.Common.{◌≡◌, ◌==◌, ℕ, List, [], true, false, Bool, Option, Some, None, Ok, if◌then◌else◌, refl, arith, inl, inr}
use Rattle.std.specs.Prelude.{codes, IsSome, IfSome}
use Rattle.std.proofs.lemmas.Bool.Decides.{nat_tests}
use Rattle.toml.specs.Data.{Data, Members, as_bool}
use Rattle.bac_values.specs.Identifier.{number_of_kind, ObjectIdData}
use Rattle.bac_values.specs.declared.object_kind.ObjectKind.TheVariants.{BinaryValue}
use Rattle.object_table.specs.Objects.{AreTexts, IsBinaryValue}
use Rattle.toml_items.specs.Lists.{list_in}
use Rattle.toml_items.specs.Members.{or_else, optional_value, valid_value, value_if_there, value_or}
use Rattle.toml_items.specs.Values.{text_in}
use Rattle.site_config.specs.AlarmKeys.{reference_beside}
use Rattle.site_config.specs.Values.{as_binary_value, object_in}
use Rattle.toml_items.proofs.Numbers.{list_kept}
use Rattle.toml_items.proofs.Steps.{found, or_else_keeps}

-- ---- the reference

-- it stands alone, and names a binary value
pub record KeepsReference (inhibit : Bool) (reference : Option ObjectIdData) : Type 0 where
  pub alone : IsSome reference → inhibit ≡ false
  pub names : IfSome reference IsBinaryValue

binary_is : (object named : ObjectIdData) → as_binary_value object ≡ Some named → IsBinaryValue named
binary_is object named h = by (object.number == number_of_kind BinaryValue) refl h
  where
    by : (test : Bool) → (object.number == number_of_kind BinaryValue) ≡ test → (if test then Some object else None) ≡ Some named → IsBinaryValue named
    by true is e = let same : object ≡ named = cc in rw (← same) (grind (arith, nat_tests))
    by false is e = absurd cc

beside_is : (inhibit : Option Data) (d : Data) (named : ObjectIdData) → reference_beside inhibit d ≡ Some named → (inhibit ≡ None) × IsBinaryValue named
beside_is None d named h = let f = found (object_in d) as_binary_value named h in (refl, binary_is f.value named f.next_is)
beside_is (Some i) d named h = absurd cc

not_inhibited : (given : Option Data) (inhibit : Bool) → given ≡ None → value_or false as_bool (codes "inhibit") given ≡ Ok inhibit → inhibit ≡ false
not_inhibited None inhibit none h = cc
not_inhibited (Some d) inhibit none h = absurd cc

pub reference_kept : (inhibit given : Option Data) (flag : Bool) (reference : Option ObjectIdData) →
    value_or false as_bool (codes "inhibit") inhibit ≡ Ok flag → value_if_there (reference_beside inhibit) (codes "inhibit_ref") given ≡ Ok reference → KeepsReference flag reference
reference_kept inhibit None flag reference i h =
    let none : None ≡ reference = cc in
    rw (← none) (record { alone = λ some. absurd cc; names = tt })
reference_kept inhibit (Some d) flag reference i h = by (reference_beside inhibit d) refl h
  where
    by : (part : Option ObjectIdData) → reference_beside inhibit d ≡ part → optional_value (valid_value (codes "inhibit_ref") part) ≡ Ok reference → KeepsReference flag reference
    by None is e = absurd cc
    by (Some named) is e =
        let same : Some named ≡ reference = cc in
        let (none, names) = beside_is inhibit d named is in
        rw (← same) (record { alone = λ some. not_inhibited inhibit flag none i; names = names })

-- ---- the texts

three_texts : (d : Data) (texts : List (List ℕ)) → list_in 3 3 text_in d ≡ Some texts → AreTexts texts
three_texts d texts h =
    let Any : List ℕ → Type 0 = λ text. Unit {0} in
    let kept = list_kept Any text_in (λ d text e. tt) 3 3 d texts h in
    inr (omega (arith, kept.enough, kept.few))

pub texts_kept : (ms : Members) (texts : List (List ℕ)) → or_else [] (list_in 3 3 text_in) (codes "texts") ms ≡ Ok texts → AreTexts texts
texts_kept ms texts h = or_else_keeps AreTexts (list_in 3 3 text_in) three_texts (codes "texts") [] (inl refl) ms texts h
