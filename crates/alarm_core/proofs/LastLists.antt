-- The Recipient_List that is read of a class is that of its last edit.
use Rattle.std.proofs.Common.{◌≡◌, ℕ, ◌==◌, Bool, true, false, true≢false, ◌&&◌, if◌then◌else◌, Some, None, Ok, List, [], ◌∷◌, refl, ap, ◌∙◌, sym, subst}
use Rattle.std.proofs.lemmas.Bool.{eqb-true}
use Rattle.std.specs.List.{find, flat_map}
use Rattle.std.specs.Option.{option_map}
use Rattle.bac_values.specs.Identifier.{ObjectIdData}
use Rattle.notify_class.specs.declared.class.Class.{Class}
use Rattle.notify_class.specs.Recipients.{DestinationData}
use Rattle.object_table.specs.Rows.{is_object, row_of}
use Rattle.alarm_core.specs.declared.event.Act.{Act}
use Rattle.alarm_core.specs.declared.event.Act.TheVariants.{Edit}
use Rattle.alarm_core.specs.declared.event.Event.{Event}
use Rattle.notify_class.specs.declared.class_site.ClassSite.{ClassSite}
use Rattle.alarm_core.specs.declared.site.Site.{Site}
use Rattle.property_values.specs.ClassProperties.{class_content, property_of, written_recipient}
use Rattle.property_values.specs.DeviceProperties.{device_content}
use Rattle.property_values.specs.Reading.{part_in}
use Rattle.alarm_core.specs.Classes.{class_in, classes_after, classes_with, edited, first_classes}
use Rattle.alarm_core.specs.Contents.{class_or_other, content_by, recipients_of}
use Rattle.alarm_core.specs.Devices.{class_object, device_object, identifiers_of, listed_class}
use Rattle.alarm_core.specs.History.{values_after}
use Rattle.alarm_core.specs.LastLists.{ReadsTheLastList, last_list, list_with}
use Rattle.alarm_core.specs.Logs.{kept_log, logs_after}
use Rattle.alarm_core.specs.Reading.{read_of}
use Rattle.alarm_core.specs.Sites.{IsSite}
use Rattle.alarm_core.specs.State.{state_of}
use Rattle.alarm_core.proofs.Searches.{find_map, find_same, passes}
use Rattle.alarm_core.proofs.TypesApart.{HasNoValue, no_enrollment, no_log, no_row}

-- ---- the class of a site

-- the number and the instance of an identifier that is a class's
both : (a b : Bool) → (a && b) ≡ true → (a ≡ true) × (b ≡ true)
both true b e = (refl, e)
both false b e = cc

by_instance : (object : ObjectIdData) (listed other : ClassSite) → is_object object (class_object listed) ≡ true →
    is_object object (class_object other) ≡ (other.class.instance == listed.class.instance)
by_instance object listed other is =
    let parts = both (15 == object.number) (listed.class.instance == object.instance) is in
    let instance : listed.class.instance ≡ object.instance = eqb-true listed.class.instance object.instance parts.1 in
    ap (λ b. b && (other.class.instance == object.instance)) parts.0 ∙ ap (λ n. other.class.instance == n) (sym instance)

no_device : (object : ObjectIdData) (site : Site) (listed : ClassSite) → is_object object (class_object listed) ≡ true → is_object object (device_object site) ≡ false
no_device object site listed is =
    let parts = both (15 == object.number) (listed.class.instance == object.instance) is in
    ap (λ number. (8 == number) && (site.device.instance == object.instance)) (sym (eqb-true 15 object.number parts.0))

found_instance : (object : ObjectIdData) (listed : ClassSite) (classes : List ClassSite) → listed_class object classes ≡ Some listed →
    find (λ (other : ClassSite). other.class.instance == listed.class.instance) classes ≡ Some listed
found_instance object listed classes e =
    let is = passes (λ (other : ClassSite). is_object object (class_object other)) listed classes e in
    find_same (λ (other : ClassSite). other.class.instance == listed.class.instance) (λ (other : ClassSite). is_object object (class_object other))
    (λ other. sym (by_instance object listed other is)) classes ∙ e

abbrev class_of : ClassSite → Class
class_of listed = listed.class

first_class : (site : Site) (object : ObjectIdData) (listed : ClassSite) → listed_class object site.classes ≡ Some listed → class_in listed.class.instance (first_classes site) ≡ Some listed.class
first_class site object listed e =
    find_map class_of (λ (class : Class). class.instance == listed.class.instance) site.classes ∙ ap (option_map class_of) (found_instance object listed site.classes e)

-- ---- the class after a history

-- a class with another list
abbrev with_list : Class → List DestinationData → Class
with_list class recipients = record class { destinations = recipients }

stays : (class other : Class) → other.instance ≡ class.instance → (b : Bool) → (if b then other else class).instance ≡ class.instance
stays class other e true = e
stays class other e false = refl

-- an edit leaves the instance
instance_stays : (number : ℕ) (recipients : List DestinationData) (class : Class) → (edited number recipients class).instance ≡ class.instance
instance_stays number recipients class = stays class (with_list class recipients) refl (class.instance == number)

one_list : (class : Class) (before after : List DestinationData) (b : Bool) →
    (if b then with_list (with_list class before) after else with_list class before) ≡ with_list class (if b then after else before)
one_list class before after true = refl
one_list class before after false = refl

class_with : (act : Act) (class : Class) (recipients : List DestinationData) (classes : List Class) → class_in class.instance classes ≡ Some (with_list class recipients) →
    class_in class.instance (classes_with act classes) ≡ Some (with_list class (list_with act class.instance recipients))
class_with (Edit number others) class recipients classes e =
    find_map (edited number others) (λ (other : Class). other.instance == class.instance) classes
    ∙ ap (option_map (edited number others))
    (find_same (λ other. (edited number others other).instance == class.instance) (λ other. other.instance == class.instance)
    (λ other. ap (λ n. n == class.instance) (instance_stays number others other)) classes ∙ e)
    ∙ ap Some (one_list class recipients others (class.instance == number))
class_with _ class recipients classes e = e

class_after : (site : Site) (object : ObjectIdData) (listed : ClassSite) → listed_class object site.classes ≡ Some listed → (history : List Event) →
    class_in listed.class.instance (classes_after site history) ≡ Some (with_list listed.class (last_list listed history))
class_after site object listed e [] = first_class site object listed e
class_after site object listed e (event ∷ older) = class_with event.act listed.class (last_list listed older) (classes_after site older) (class_after site object listed e older)

-- ---- a class is no value object, no enrollment and no log

no_class_value : HasNoValue 15
no_class_value site h = absurd (true≢false (sym h))

-- ---- what is read

module _ (site : Site) (keeps : IsSite site) (history : List Event) (object : ObjectIdData) (listed : ClassSite) (found : listed_class object site.classes ≡ Some listed) where
  is_class : is_object object (class_object listed) ≡ true
  is_class = passes (λ (other : ClassSite). is_object object (class_object other)) listed site.classes found

  number : object.number ≡ 15
  number = sym (eqb-true 15 object.number (both (15 == object.number) (listed.class.instance == object.instance) is_class).0)

  reads : read_of (state_of site history) object 102 None ≡ Ok (flat_map written_recipient (last_list listed history))
  unfolding property_of
  reads =
      let classes = classes_after site history in
      let values = values_after site history in
      ap (λ enrollment. part_in (content_by (state_of site history) object 102 enrollment (row_of object values.rows) (kept_log object (logs_after site history))) None) (no_enrollment site history object keeps.enrollments (λ nine. let wrong : 15 ≡ 9 = sym number ∙ nine in cc))
      ∙ ap (λ row. part_in (content_by (state_of site history) object 102 None row (kept_log object (logs_after site history))) None) (no_row site history object keeps.objects (subst HasNoValue (sym number) no_class_value))
      ∙ ap (λ kept. part_in (content_by (state_of site history) object 102 None None kept) None) (no_log site history object keeps.logs (λ log. let wrong : 15 ≡ 25 = sym number ∙ log in cc))
      ∙ ap (λ b. part_in (if b then device_content site.device (identifiers_of site) 102 else class_or_other site classes object 102 (listed_class object site.classes)) None) (no_device object site listed is_class)
      ∙ ap (λ one. part_in (class_or_other site classes object 102 one) None) found
      ∙ ap (λ class. part_in (class_content listed (recipients_of class) 102) None) (class_after site object listed found history)

pub reads_the_last_list : ReadsTheLastList
reads_the_last_list = record { lists = reads }
