-- How many objects have a class: no more than a site may have, and whatever is edited.
use Rattle.std.proofs.Common.{◌≡◌, ℕ, zero, suc, ◌==◌, ◌<◌, ◌≤◌, Bool, true, false, if◌then◌else◌, List, [], ◌∷◌, length, map, get_or, refl, ap, arith, count_by}
use Rattle.std.proofs.lemmas.List.Sums.{count_by-le-length}
use Rattle.bac_values.specs.Limits.{most_objects}
use Rattle.notify_class.specs.Recipients.{DestinationData}
use Rattle.notify_class.specs.declared.class.Class.{Class}
use Rattle.object_table.specs.declared.object_site.ObjectSite.{ObjectSite}
use Rattle.enrollment.specs.declared.enrollment_site.EnrollmentSite.{EnrollmentSite}
use Rattle.alarm_core.specs.Classes.{edited, is_member}
use Rattle.alarm_core.specs.Limits.{KeepsLimits}
use Rattle.alarm_core.specs.Room.{members_at, members_of_class}
use Rattle.alarm_core.specs.declared.site.Site.{Site}

pub members_within : (site : Site) → KeepsLimits site → (number : ℕ) → members_at site number ≤ most_objects
members_within site limits number =
    omega (
      arith,
      limits.objects,
      count_by-le-length (λ (object : ObjectSite). is_member object.class number) site.objects,
      count_by-le-length (λ (enrollment : EnrollmentSite). enrollment.class == number) site.enrollments,
    )

same_members : (site : Site) (is : Bool) (recipients : List DestinationData) (class : Class) → members_of_class site (if is then record class { destinations = recipients } else class) ≡ members_of_class site class
same_members site true recipients class = refl
same_members site false recipients class = refl

pub members_edited : (site : Site) (number : ℕ) (recipients : List DestinationData) (classes : List Class) → map (members_of_class site) (map (edited number recipients) classes) ≡ map (members_of_class site) classes
members_edited site number recipients [] = refl
members_edited site number recipients (class ∷ classes) =
    λ k. same_members site (class.instance == number) recipients class k ∷ members_edited site number recipients classes k

-- the number at a class's place
pub counted_at : (site : Site) (classes : List Class) (place number other : ℕ) → place < length classes → ((d : Class) → (get_or classes place d).instance ≡ number) →
    get_or (map (members_of_class site) classes) place other ≡ members_at site number
counted_at site [] place number other low is = absurd (omega (arith, low))
counted_at site (class ∷ classes) zero number other low is = ap (members_at site) (is class)
counted_at site (class ∷ classes) (suc place) number other low is = counted_at site classes place number other (omega (arith, low)) is
