-- The class of an object that has one is there after every history.
use Rattle.std.proofs.Common.{◌≡◌, ◌==◌, ◌||◌, ℕ, Bool, true, false, cond, Option, Some, None, is_some, List, [], ◌∷◌, map, IsTrue, IsSome, refl, sym, ap, subst, ◌∙◌}
use Rattle.std.specs.List.{All, list_any}
use Rattle.std.specs.Option.{IfSome, option_map}
use Rattle.std.proofs.lemmas.List.Elements.{All-map}
use Rattle.bac_values.specs.Identifier.{ObjectIdData}
use Rattle.notify_class.specs.declared.class.Class.{Class}
use Rattle.notify_class.specs.declared.class_site.ClassSite.{ClassSite}
use Rattle.object_table.specs.declared.row.Row.{Row}
use Rattle.object_table.specs.Rows.{first_row, is_object, row_of, rows_of}
use Rattle.enrollment.specs.declared.enrollment_site.EnrollmentSite.{EnrollmentSite}
use Rattle.enrollment.specs.declared.subject.Subject.{Subject}
use Rattle.enrollment.specs.Enrollments.{site_of}
use Rattle.enrollment.specs.Subjects.{subject_by, subject_in}
use Rattle.alarm_core.specs.declared.event.Event.{Event}
use Rattle.alarm_core.specs.declared.site.Site.{Site}
use Rattle.alarm_core.specs.Classes.{class_in, classes_after}
use Rattle.alarm_core.specs.History.{values_after}
use Rattle.alarm_core.specs.Laws.{ClassesAreThere}
use Rattle.alarm_core.specs.ListLimits.{instances}
use Rattle.alarm_core.specs.Notes.{class_for}
use Rattle.alarm_core.specs.Sites.{HasClass, HasItsClass, HasOwnClass, IsSite, instance_of}
use Rattle.alarm_core.specs.Values.{first_values}
use Rattle.alarm_core.proofs.KeptClasses.{instances_after}
use Rattle.alarm_core.proofs.NotesGo.{found}
use Rattle.alarm_core.proofs.Stays.{class_after, class_of}

-- ---- a class is found by its instance

module _ (number : ℕ) where
  found_some : (b : Bool) (class : Class) (rest : Option Class) (others : Bool) → is_some rest ≡ others → is_some (cond b (Some class) rest) ≡ (b || others)
  found_some true class rest others e = refl
  found_some false class rest others e = e

  class_some : (classes : List Class) → is_some (class_in number classes) ≡ list_any (λ (instance : ℕ). instance == number) (instances classes)
  class_some [] = refl
  class_some (class ∷ classes) = found_some (class.instance == number) class (class_in number classes) (list_any (λ (instance : ℕ). instance == number) (instances classes)) (class_some classes)

  listed_some : (sites : List ClassSite) → list_any (λ (listed : ClassSite). listed.class.instance == number) sites ≡ list_any (λ (instance : ℕ). instance == number) (map instance_of sites)
  listed_some [] = refl
  listed_some (listed ∷ sites) = ap (λ b. (listed.class.instance == number) || b) (listed_some sites)

  class_there : (site : Site) (history : List Event) → HasClass site.classes number → IsSome (class_in number (classes_after site history))
  class_there site history has =
      class_some (classes_after site history) ∙ (ap (list_any (λ (instance : ℕ). instance == number)) (instances_after site history) ∙ (sym (listed_some site.classes) ∙ has))

-- ---- the class of an object is one of the site's

module _ (site : Site) (is : IsSite site) where
  abbrev HasItsOwn : Option (Option ℕ) → Type 0
  HasItsOwn class = IfSome class (λ number. IfSome number (HasClass site.classes))

  own_by : (enrollment : Option EnrollmentSite) (row : Option Row) → IfSome enrollment (HasOwnClass site.classes) → IfSome row (λ (r : Row). HasItsClass site.classes r.site) → HasItsOwn (option_map class_of (subject_by enrollment row))
  own_by (Some enrollment) row has own = has
  own_by None (Some row) has own = own
  own_by None None has own = tt

  own_first : (object : ObjectIdData) → HasItsOwn (option_map class_of (subject_in object (first_values site)))
  own_first object =
      own_by (site_of object site.enrollments) (row_of object (rows_of site.objects))
      (found (HasOwnClass site.classes) (λ (enrollment : EnrollmentSite). is_object object enrollment.object) site.enrollments is.enrollment_classes)
      (found (λ (r : Row). HasItsClass site.classes r.site) (λ (r : Row). is_object object r.site.object) (rows_of site.objects) (All-map (λ (r : Row). HasItsClass site.classes r.site) first_row site.objects is.object_classes))

  own_after : (history : List Event) (object : ObjectIdData) (subject : Subject) → subject_in object (values_after site history) ≡ Some subject → IfSome subject.class (HasClass site.classes)
  own_after history object subject e =
      let same : option_map class_of (subject_in object (first_values site)) ≡ Some subject.class = sym (class_after site object history) ∙ ap (option_map class_of) e in
      subst HasItsOwn same (own_first object)

  there_by : (history : List Event) (class : Option ℕ) (subject : Subject) → subject.class ≡ class → IfSome class (HasClass site.classes) → IsSome class → IsSome (class_for subject (classes_after site history))
  there_by history None subject e has some = absurd cc
  there_by history (Some number) subject e has some = rw e (class_there number site history has)

pub classes_are_there : ClassesAreThere
classes_are_there = record {
  there = λ site is history object subject is_there some. there_by site is history subject.class subject refl (own_after site is history object subject is_there) some;
}
