-- A text names an object exactly where it is how a report writes the object.
use Rattle.std.proofs.Common.{◌≡◌, ◌↔◌, ℕ, ◌==◌, Bool, true, Option, Some, None, IsSome, is_some, unwrap_or, List, [], ◌∷◌, ◌++◌, inl, inr, refl, ap, ◌∙◌, sym, arith, codes}
use Rattle.std.specs.List.{find}
use Rattle.std.specs.Str.{bytes_eq}
use Rattle.std.specs.Fmt.{decimal}
use Rattle.std.proofs.lemmas.Bool.{cases_Bool}
use Rattle.std.proofs.lemmas.Bool.Decides.{nat_tests}
use Rattle.std.proofs.lemmas.Slice.Eq.{bytes_eq-Decides}
use Rattle.bac_values.specs.Identifier.{kind_of, known_kinds, number_of_kind, ObjectIdData}
use Rattle.bac_values.specs.declared.object_kind.ObjectKind.{ObjectKind}
use Rattle.bac_values.specs.declared.object_kind.ObjectKind.TheVariants.{BinaryValue, Device, EventEnrollment, NotificationClass, MultiStateValue, EventLog, BitStringValue, CharacterStringValue, IntegerValue, PositiveIntegerValue}
use Rattle.script_lines.specs.Number.{unsigned_of}
use Rattle.script_lines.specs.Report.{kind_name, object_text, type_text}
use Rattle.script_lines.specs.SessionLine.{◌>>=◌, before, behind, colon, kind_named, object_of, IsNamedObject}
use Rattle.script_lines.proofs.Marks.{lacks, parted, has_mark, nothing_read, number_read, number_back, from_chain}

find_passes : {A : Type 0} (test : A → Bool) (xs : List A) (x : A) → find test xs ≡ Some x → test x ≡ true
find_passes test [] x h = absurd cc
find_passes test (y ∷ ys) x h =
    elim (cases_Bool (test y)) [
      | inl passes ↦ let here : Some y ≡ Some x = rw passes at h in let same : y ≡ x = cc in ap test (sym same) ∙ passes
      | inr fails ↦ let rest : find test ys ≡ Some x = rw fails at h in find_passes test ys x rest
    ]

name_lacks : (kind : ObjectKind) → lacks colon (kind_name kind) ≡ true
name_lacks BinaryValue = refl
name_lacks Device = refl
name_lacks EventEnrollment = refl
name_lacks NotificationClass = refl
name_lacks MultiStateValue = refl
name_lacks EventLog = refl
name_lacks BitStringValue = refl
name_lacks CharacterStringValue = refl
name_lacks IntegerValue = refl
name_lacks PositiveIntegerValue = refl

named_back : (kind : ObjectKind) → kind_named (kind_name kind) ≡ Some kind
named_back BinaryValue = refl
named_back Device = refl
named_back EventEnrollment = refl
named_back NotificationClass = refl
named_back MultiStateValue = refl
named_back EventLog = refl
named_back BitStringValue = refl
named_back CharacterStringValue = refl
named_back IntegerValue = refl
named_back PositiveIntegerValue = refl

kind_back : (kind : ObjectKind) → kind_of (number_of_kind kind) ≡ Some kind
kind_back BinaryValue = refl
kind_back Device = refl
kind_back EventEnrollment = refl
kind_back NotificationClass = refl
kind_back MultiStateValue = refl
kind_back EventLog = refl
kind_back BitStringValue = refl
kind_back CharacterStringValue = refl
kind_back IntegerValue = refl
kind_back PositiveIntegerValue = refl

-- a known type is written by its name
known_text : (object : ObjectIdData) (kind : ObjectKind) → kind_of object.number ≡ Some kind → object_text object ≡ kind_name kind ++ colon ∷ decimal object.instance
known_text object kind h = ap (λ known. type_text object.number known ++ (codes ":" ++ decimal object.instance)) h

some_kind : (known : Option ObjectKind) → IsSome known → (kind : ObjectKind) × (known ≡ Some kind)
some_kind None h = absurd cc
some_kind (Some kind) h = (kind, refl)

object_read : (text : List ℕ) (object : ObjectIdData) → object_of text ≡ Some object → (text ≡ object_text object) × IsNamedObject object
object_read text object h =
    let last : ObjectKind → ℕ → Option ObjectIdData = λ kind instance. Some (record { number = number_of_kind kind; instance = instance }) in
    let first = from_chain (kind_named (before colon text)) (λ kind. unsigned_of 4194303 (behind colon text) >>= last kind) object h in
    let kind = first.0 in
    let second = from_chain (unsigned_of 4194303 (behind colon text)) (last kind) object first.2 in
    let instance = second.0 in
    let read = number_read 4194303 instance (behind colon text) (omega arith) second.1 in
    let numbered : number_of_kind kind ≡ object.number = ap (λ o. (unwrap_or o object).number) second.2 in
    let placed : instance ≡ object.instance = ap (λ o. (unwrap_or o object).instance) second.2 in
    let passes = find_passes (λ k. bytes_eq (kind_name k) (before colon text)) known_kinds kind first.1 in
    let name : kind_name kind ≡ before colon text = (bytes_eq-Decides (kind_name kind) (before colon text)).0 passes in
    let known : kind_of object.number ≡ Some kind = ap kind_of (sym numbered) ∙ kind_back kind in
    let mark = has_mark colon text (λ e. nothing_read 4194303 instance (behind colon text) second.1 e) in (
      mark ∙ (ap (λ xs. xs ++ colon ∷ behind colon text) (sym name) ∙ (ap (λ xs. kind_name kind ++ colon ∷ xs) (read.0 ∙ ap decimal placed) ∙ sym (known_text object kind known))),
      record { kind = ap is_some known; instance = omega (arith, read.1, placed) },
    )

object_back : (text : List ℕ) (object : ObjectIdData) → text ≡ object_text object → IsNamedObject object → object_of text ≡ Some object
object_back text object e is =
    let some = some_kind (kind_of object.number) is.kind in
    let kind = some.0 in
    let passes = find_passes (λ k. number_of_kind k == object.number) known_kinds kind some.1 in
    let numbered : number_of_kind kind ≡ object.number = grind (arith, nat_tests) in
    let written = e ∙ known_text object kind some.1 in
    let parts = parted colon (kind_name kind) (decimal object.instance) (name_lacks kind) in
    let name : before colon text ≡ kind_name kind = ap (before colon) written ∙ parts.0 in
    let number : behind colon text ≡ decimal object.instance = ap (behind colon) written ∙ parts.1 in
    rw (ap kind_named name ∙ named_back kind, number_back 4194303 object.instance (behind colon text) (omega arith) number is.instance, numbered) refl

-- the object that is named
pub named : (object : ObjectIdData) (text : List ℕ) (result : Option ObjectIdData) → result ≡ object_of text → (result ≡ Some object) ↔ ((text ≡ object_text object) × IsNamedObject object)
named object text result value = (λ h. object_read text object (sym value ∙ h), λ h. value ∙ object_back text object h.0 h.1)
