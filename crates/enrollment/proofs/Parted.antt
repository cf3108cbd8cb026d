-- An identifier is never that of a value object and of an enrollment, so a write changes one of the two lists.
use Rattle.std.proofs.Common.{◌≡◌, Bool, true, false, true≢false, cond, if◌then◌else◌, Option, Some, None, List, [], ◌∷◌, map, refl, ap, ap₂, ◌∙◌, sym, subst, arith}
use Rattle.std.specs.List.{find}
use Rattle.std.proofs.lemmas.Bool.Decides.{nat_tests}
use Rattle.bac_values.specs.Identifier.{kind_of, ObjectIdData}
use Rattle.object_table.specs.declared.change.Change.{Change}
use Rattle.object_table.specs.declared.object_site.ObjectSite.{ObjectSite}
use Rattle.object_table.specs.declared.row.Row.{Row}
use Rattle.object_table.specs.Objects.{IsObject, IsObjectOf}
use Rattle.object_table.specs.Rows.{is_object, row_of}
use Rattle.object_table.specs.Writes as row_writes
use Rattle.enrollment.specs.declared.enrollment_site.EnrollmentSite.{EnrollmentSite}
use Rattle.enrollment.specs.Enrollments.{IsEnrollment, site_of}
use Rattle.enrollment.specs.Snapshots.{algorithm_by_site, algorithm_for}
use Rattle.enrollment.specs.Writes as site_writes
use Rattle.enrollment.specs.Objects.{ObjectsState, written}

-- what a search finds passes its test
picked : {X : Type 0} (test : X → Bool) (y x : X) (rest : Option X) → (rest ≡ Some x → test x ≡ true) → (b : Bool) → test y ≡ b → cond b (Some y) rest ≡ Some x → test x ≡ true
picked test y x rest later true t f = let same : y ≡ x = cc in subst (λ z. test z ≡ true) same t
picked test y x rest later false t f = later f

pub found_passes : {X : Type 0} (test : X → Bool) (xs : List X) (x : X) → find test xs ≡ Some x → test x ≡ true
found_passes test [] x e = absurd cc
found_passes test (y ∷ ys) x e = picked test y x (find test ys) (λ f. found_passes test ys x f) (test y) refl e

pub same_object : (object other : ObjectIdData) → is_object object other ≡ true → other ≡ object
same_object object other e = grind (arith, nat_tests)

-- the row that is found has the identifier
pub row_is_of : (object : ObjectIdData) (rows : List Row) (row : Row) → row_of object rows ≡ Some row → row.site.object ≡ object
row_is_of object rows row e = same_object object row.site.object (found_passes (λ (r : Row). is_object object r.site.object) rows row e)

pub site_is_of : (object : ObjectIdData) (sites : List EnrollmentSite) (site : EnrollmentSite) → site_of object sites ≡ Some site → site.object ≡ object
site_is_of object sites site e = same_object object site.object (found_passes (λ (s : EnrollmentSite). is_object object s.object) sites site e)

-- a value object isn't of the enrollments' type
no_object : (site : ObjectSite) → IsObjectOf (kind_of 9) site → ⊥
no_object site is = true≢false (sym is.value)

pub is_other_kind : (site : ObjectSite) → IsObject site → site.object.number ≡ 9 → ⊥
is_other_kind site is number = no_object site (subst (λ n. IsObjectOf (kind_of n) site) number is)

pub apart : (object : ObjectIdData) (rows : List Row) (row : Row) (sites : List EnrollmentSite) (site : EnrollmentSite) → row_of object rows ≡ Some row → site_of object sites ≡ Some site →
    IsObject row.site → IsEnrollment site → ⊥
apart object rows row sites site r s is it =
    is_other_kind row.site is (ap (λ (i : ObjectIdData). i.number) (row_is_of object rows row r ∙ sym (site_is_of object sites site s)) ∙ it.number)

-- a write of an object that isn't there changes nothing
passed : {X : Type 0} (test : X → Bool) (f : X → X) (x : X) (rest : Option X) (others xs : List X) → (rest ≡ None → others ≡ xs) → (b : Bool) → test x ≡ b → cond b (Some x) rest ≡ None →
    (if test x then f x else x) ∷ others ≡ x ∷ xs
passed test f x rest others xs same true t e = absurd cc
passed test f x rest others xs same false t e = ap₂ (λ y ys. y ∷ ys) (ap (λ b. if b then f x else x) t) (same e)

unwritten : {X : Type 0} (test : X → Bool) (f : X → X) (xs : List X) → find test xs ≡ None → map (λ x. if test x then f x else x) xs ≡ xs
unwritten test f [] e = refl
unwritten test f (x ∷ xs) e = passed test f x (find test xs) (map (λ y. if test y then f y else y) xs) xs (λ none. unwritten test f xs none) (test x) refl e

pub rows_stay : (change : Change) (rows : List Row) → row_of change.object rows ≡ None → row_writes.written change rows ≡ rows
rows_stay change rows e = unwritten (λ (row : Row). is_object change.object row.site.object) (row_writes.changed change.what) rows e

pub enrollments_stay : (change : Change) (sites : List EnrollmentSite) → site_of change.object sites ≡ None → site_writes.written change sites ≡ sites
enrollments_stay change sites e = unwritten (λ (site : EnrollmentSite). is_object change.object site.object) (site_writes.changed change.what) sites e

-- a write of a value object, and one of an enrollment
pub written_rows : (change : Change) (values : ObjectsState) → site_of change.object values.enrollments ≡ None → (after : List Row) → after ≡ row_writes.written change values.rows →
    record { rows = after; enrollments = values.enrollments } ≡ written change values
written_rows change values e after a = λ k. record { rows = a k; enrollments = sym (enrollments_stay change values.enrollments e) k }

pub written_enrollments : (change : Change) (values : ObjectsState) → row_of change.object values.rows ≡ None → (after : List EnrollmentSite) → after ≡ site_writes.written change values.enrollments →
    record { rows = values.rows; enrollments = after } ≡ written change values
written_enrollments change values e after a = λ k. record { rows = sym (rows_stay change values.rows e) k; enrollments = a k }

-- and what takes it back
pub undone_rows : (undo : Change) (values : ObjectsState) → site_of undo.object values.enrollments ≡ None → (after : List Row) → row_writes.written undo after ≡ values.rows →
    written undo (record { rows = after; enrollments = values.enrollments }) ≡ values
undone_rows undo values e after a = λ k. record { rows = a k; enrollments = enrollments_stay undo values.enrollments e k }

pub undone_enrollments : (undo : Change) (values : ObjectsState) → row_of undo.object values.rows ≡ None → (after : List EnrollmentSite) → site_writes.written undo after ≡ values.enrollments →
    written undo (record { rows = values.rows; enrollments = after }) ≡ values
undone_enrollments undo values e after a = λ k. record { rows = rows_stay undo values.rows e k; enrollments = a k }

-- a value object's algorithm is that of its type
pub own_algorithm : (object : ObjectIdData) (sites : List EnrollmentSite) (rows : List Row) (row : Row) → site_of object sites ≡ None → row_of object rows ≡ Some row →
    algorithm_for row.site.object ≡ algorithm_by_site (site_of object sites) object
own_algorithm object sites rows row none e = ap algorithm_for (row_is_of object rows row e) ∙ ap (λ site. algorithm_by_site site object) (sym none)
