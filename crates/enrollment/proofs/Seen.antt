-- Where a table holds the objects to which enrollments refer, each enrollment sees something.
use Rattle.std.proofs.Common.{arith, ◌≡◌, ◌↔◌, suc, Bool, true, false, true≢false, cond, Option, Some, None, IsNone, is_some, List, [], ◌∷◌, refl, sym, ap, subst, ◌∙◌}
use Rattle.std.specs.List.{All, find}
use Rattle.std.specs.Option.{option_map}
use Rattle.algorithm_rules.specs.Facts.{Facts}
use Rattle.bac_values.specs.Identifier.{ObjectIdData}
use Rattle.object_table.specs.declared.row.Row.{Row}
use Rattle.object_table.specs.Rows.{is_object, row_of}
use Rattle.enrollment.specs.declared.enrollment_site.EnrollmentSite.{EnrollmentSite}
use Rattle.enrollment.specs.Enrollments.{site_of}
use Rattle.enrollment.specs.Snapshots.{HasObjects, Holds, facts_of_site, value_in}

-- what is found is one of the list
pub found_has : {X : Type 0} (P : X → Type 0) (test : X → Bool) (xs : List X) (x : X) → Some x ≡ find test xs → All P xs → P x
found_has P test [] x found all = cc
found_has P test (y ∷ xs) x found all = by_test (test y) found (found_has P test xs x)
  where
    by_test : (b : Bool) → Some x ≡ cond b (Some y) (find test xs) → (Some x ≡ find test xs → All P xs → P x) → P x
    by_test true same later = let e : y ≡ x = cc in subst P e (all 0 y (omega arith))
    by_test false same later = later same (λ k d low. all (suc k) d (omega arith))

map_some : {X Y : Type 0} (f : X → Y) (o : Option X) → is_some (option_map f o) ≡ is_some o
map_some f None = refl
map_some f (Some x) = refl

-- an enrollment sees something where its monitored object is there
sees : (site : EnrollmentSite) (rows : List Row) → is_some (facts_of_site site rows) ≡ is_some (row_of site.monitored rows)
sees site rows = map_some _ (value_in rows site.monitored) ∙ map_some _ (row_of site.monitored rows)

pub absent_site : {X : Type 0} (result : Option X) (f : X → Facts) (object : ObjectIdData) (sites : List EnrollmentSite) (rows : List Row) (site : EnrollmentSite) → Some site ≡ site_of object sites → option_map f result ≡ facts_of_site site rows →
    Holds rows sites → (IsNone result ↔ ((site_of object sites ≡ None) × (row_of object rows ≡ None)))
absent_site result f object sites rows site found facts holds = (
  λ none. absurd (true≢false (sym there ∙ sym (sees site rows) ∙ sym (ap is_some facts) ∙ map_some f result ∙ none)),
  λ absent. let no : Some site ≡ None = found ∙ absent.0 in cc,
)
  where
    there : is_some (row_of site.monitored rows) ≡ true
    there = (found_has (HasObjects rows) (λ s. is_object object s.object) sites site found holds.enrollments).monitored
