-- The site of a text keeps to what a site keeps to.
use Rattle.std.proofs.Common.{◌≡◌, ◌≤◌, ℕ, ℤ, pos, List, [], ◌∷◌, length, true, false, Bool, Option, Some, None, Ok, Err, if◌then◌else◌, refl, arith}
use Rattle.std.specs.Prelude.{codes, Result, neg_ℤ, nat_lt, IfOk, IfSome, IsTrue}
use Rattle.bac_values.specs.Limits.{least_outbox, most_outbox, most_site_octets}
use Rattle.std.specs.List.{All, AllByRecursion}
use Rattle.std.proofs.lemmas.List.Elements.{All-nil, All-map, All-weaker}
use Rattle.toml.specs.Data.{Data, Members, as_bool, get_member, Items, no_items, item, table, array, string, integer, float, boolean, datetime}
use Rattle.bac_values.specs.Identifier.{ObjectIdData}
use Rattle.bac_values.specs.Moments.{IsMoment}
use Rattle.bac_values.specs.declared.object_kind.ObjectKind.TheVariants as kinds
use Rattle.bac_values.proofs.OrderLemmas.{identifiers_are_total}
use Rattle.civil_stamp.specs.LocalTime.{IsZone}
use Rattle.object_table.specs.declared.object_site.ObjectSite.{ObjectSite}
use Rattle.object_table.specs.Objects.{IsObject}
use Rattle.object_table.specs.Rows.{first_row, rows_of}
use Rattle.object_table.specs.declared.row.Row.{Row}
use Rattle.outbox.specs.Outboxes.{AreSettings}
use Rattle.property_values.specs.declared.device_site.DeviceSite.{DeviceSite}
use Rattle.alarm_core.specs.declared.site.Site.{Site}
use Rattle.alarm_core.specs.Sites.{HasInstance, HasItsClass, HasItsClasses, HasOwnClass, IsLogSite, IsSite, IsSiteRule, is_zone_rule}
use Rattle.enrollment.specs.Enrollments.{IsEnrollment}
use Rattle.enrollment.specs.Snapshots.{HasObjects, HasReferred}
use Rattle.site_config.specs.declared.class.ClassItem.{ClassItem}
use Rattle.site_config.specs.Classes.{class_of}
use Rattle.site_config.specs.declared.draft.Draft.{Draft}
use Rattle.site_config.specs.declared.fault.Section.{Section}
use Rattle.site_config.specs.declared.fault.Section.TheVariants.{Device, Class, Destination, Object, Enrollment, Log, Binding}
use Rattle.site_config.specs.declared.fault.SiteFault.{SiteFault}
use Rattle.site_config.specs.declared.fault.SiteFault.TheVariants.{TooLong, NoMemory}
use Rattle.toml_items.specs.declared.item_fault.ItemFault.{ItemFault}
use Rattle.site_config.specs.declared.keys.Keys.TheVariants as keys
use Rattle.toml_items.specs.Answers.{Gives}
use Rattle.site_config.specs.Devices.{device_of, object_with, name_of, zone_rule_beside, zone_rule_of}
use Rattle.site_config.specs.Drafts.{draft_of}
use Rattle.site_config.specs.Identifiers.{id_of_class, id_of_object, id_of_enrollment, id_of_log, id_of_binding, identifiers, least_twice}
use Rattle.site_config.specs.Items.{class_item, destination_item, object_item, enrollment_item, log_item, binding_item}
use Rattle.site_config.specs.Keys.{has_key}
use Rattle.site_config.specs.Limits.{limits_of}
use Rattle.toml_items.specs.Members.{required, or_else, optional, optional_value, valid_value, value_if_there, value_or, first_unknown, refused_key}
use Rattle.site_config.specs.Objects.{keys_of_object, object_of}
use Rattle.site_config.specs.Notes.{members_of, notes_of}
use Rattle.site_config.specs.References.{least_dangling}
use Rattle.site_config.specs.Sections.{placed, device_item, device_from, device_table, device_section, lesser_key, items_of, next_number, section_from, section_of, section_name, tables_at}
use Rattle.site_config.specs.Sites.{document_of, site_or_no_toml, site_of_document, site_of_draft, site_of, duplicate_of, dangling_of, notes_fit, verdict_on, in_order, with_destinations}
use Rattle.site_config.specs.Values.{instance_in}
use Rattle.toml_items.specs.Values.{moment_in, text_in, unsigned_in, whole_in}
use Rattle.toml_items.specs.Lists.{three_in}
use Rattle.site_config.proofs.Ascending.{fold_ascends, fold_keeps}
use Rattle.site_config.proofs.KeptBindings.{IsBindingPart, binding_kept, bindings_are, bindings_ascend}
use Rattle.site_config.proofs.KeptEnrollments.{KeepsKeys, enrollment_kept, log_kept}
use Rattle.site_config.proofs.KeptLimits.{IsSmall, limits_kept, small_draft}
use Rattle.site_config.proofs.KeptObjects.{object_kept}
use Rattle.site_config.proofs.KeptReferences.{same_ids, none_dangles, are_enrollments, have_objects, have_referred, listed, objects_have, enrollments_have, logs_have}
use Rattle.site_config.proofs.KeptRoom.{HasClassId, classes_ascend, fit_within, room_kept}
use Rattle.site_config.proofs.Numbers.{instance_kept}
use Rattle.toml_items.proofs.Numbers.{moment_kept, unsigned_kept, whole_kept}
use Rattle.toml_items.proofs.Steps.{after, found, ok_is, required_keeps, or_else_keeps}

-- an item without its place
unplaced : {A : Type 0} (section : Section) (number : ℕ) (read : Result A ItemFault) (x : A) → placed section number read ≡ Ok x → read ≡ Ok x
unplaced section number (Ok y) x h = cc
unplaced section number (Err fault) x h = absurd cc

-- ---- items

module _ {A : Type 0} (P : A → Type 0) (read : Members → Result A ItemFault) (each : (ms : Members) (x : A) → read ms ≡ Ok x → P x) (section : Section) where
  items_kept : (number : ℕ) (ds : Items) (xs : List A) → items_of read section number ds ≡ Ok xs → AllByRecursion P xs
  items_kept number no_items xs h = let none : [] ≡ xs = cc in rw (← none) tt
  items_kept number (item (table ms) ds) xs h =
      let first = after (placed section number (read ms)) _ xs h in
      let rest = after (items_of read section (next_number number) ds) _ xs first.next_is in
      let is : first.value ∷ rest.value ≡ xs = cc in
      rw (← is) (each ms first.value (unplaced section number (read ms) first.value first.first_is), items_kept (next_number number) ds rest.value rest.first_is)
  items_kept number (item (string s) ds) xs h = items_kept number ds xs h
  items_kept number (item (integer s) ds) xs h = items_kept number ds xs h
  items_kept number (item (float s) ds) xs h = items_kept number ds xs h
  items_kept number (item (boolean s) ds) xs h = items_kept number ds xs h
  items_kept number (item (datetime s) ds) xs h = items_kept number ds xs h
  items_kept number (item (array s) ds) xs h = items_kept number ds xs h

  from_kept : (found : Option Items) (xs : List A) → section_from read section found ≡ Ok xs → AllByRecursion P xs
  from_kept None xs h = absurd cc
  from_kept (Some ds) xs h = items_kept 1 ds xs h

  section_kept : (document : Members) (xs : List A) → section_of read section document ≡ Ok xs → AllByRecursion P xs
  section_kept document xs h = from_kept (tables_at (get_member (section_name section) document)) xs h

item_kept : (ms : Members) (site : ObjectSite) → object_item ms ≡ Ok site → IsObject site
item_kept ms site h =
    let known = after (refused_key (first_unknown (has_key (keys_of_object ms)) ms)) (λ _. object_of ms) site h in
    object_kept ms site known.next_is

-- ---- the classes

record IsClassPart (made : ClassItem) : Type 0 where
  instance : made.object.instance ≤ 4194302
  class : HasClassId made

class_part_kept : (ms : Members) (made : ClassItem) → class_of ms ≡ Ok made → IsClassPart made
unfolding class_of
class_part_kept ms made h =
    let instance = after (required instance_in (codes "instance") ms) _ made h in
    let name = after (name_of (object_with kinds.NotificationClass instance.value) ms) _ made instance.next_is in
    let priority = after (required (three_in (unsigned_in 0 255)) (codes "priority") ms) _ made name.next_is in
    let ack_required = after (or_else (false ∷ false ∷ false ∷ []) (three_in as_bool) (codes "ack_required") ms) _ made priority.next_is in
    let whole : ClassItem = record { object = object_with kinds.NotificationClass instance.value; name = name.value; priority = priority.value; ack_required = ack_required.value } in
    let is : whole ≡ made = ok_is whole made ack_required.next_is in
    let I : ℕ → Type 0 = λ n. n ≤ 4194302 in
    rw (← is) (record { instance = required_keeps I instance_in instance_kept (codes "instance") ms instance.value instance.first_is; class = refl })

class_kept : (ms : Members) (made : ClassItem) → class_item ms ≡ Ok made → IsClassPart made
class_kept ms made h =
    let known = after (refused_key (first_unknown (has_key keys.Class) ms)) (λ _. class_of ms) made h in
    class_part_kept ms made known.next_is

-- ---- the zone rule

rule_is : (text rule : List ℕ) → zone_rule_of text ≡ Some rule → IsTrue (is_zone_rule rule)
rule_is text rule h = by (is_zone_rule text) refl h
  where
    by : (test : Bool) → is_zone_rule text ≡ test → (if test then Some text else None) ≡ Some rule → IsTrue (is_zone_rule rule)
    by true is e = let same : text ≡ rule = cc in rw (← same) is
    by false is e = absurd cc

-- no minutes stand beside a rule
beside_is : (minutes : Option Data) (d : Data) (rule : List ℕ) → zone_rule_beside minutes d ≡ Some rule → (minutes ≡ None) × IsTrue (is_zone_rule rule)
beside_is None d rule h = let f = found (text_in d) zone_rule_of rule h in (refl, rule_is f.value rule f.next_is)
beside_is (Some m) d rule h = absurd cc

no_minutes : (read : Data → Option ℤ) (minutes : Option Data) (zone : ℤ) → minutes ≡ None → value_or (pos 0) read (codes "zone_minutes") minutes ≡ Ok zone → zone ≡ pos 0
no_minutes read None zone none h = cc
no_minutes read (Some d) zone none h = absurd cc

rule_kept : (read : Data → Option ℤ) (minutes given : Option Data) (zone : ℤ) (rule : Option (List ℕ)) →
    value_or (pos 0) read (codes "zone_minutes") minutes ≡ Ok zone → value_if_there (zone_rule_beside minutes) (codes "zone_rule") given ≡ Ok rule → IfSome rule (IsSiteRule zone)
rule_kept read minutes None zone rule m h = let none : None ≡ rule = cc in rw (← none) tt
rule_kept read minutes (Some d) zone rule m h = by (zone_rule_beside minutes d) refl h
  where
    by : (part : Option (List ℕ)) → zone_rule_beside minutes d ≡ part → optional_value (valid_value (codes "zone_rule") part) ≡ Ok rule → IfSome rule (IsSiteRule zone)
    by None is e = absurd cc
    by (Some text) is e =
        let same : Some text ≡ rule = cc in
        let (none, is_rule) = beside_is minutes d text is in
        rw (← same) (record { rule = is_rule; alone = no_minutes read minutes zone none m })

-- ---- the device

record IsDevice (device : DeviceSite) : Type 0 where
  instance : device.instance ≤ 4194302
  start : IsMoment device.start
  zone : IsZone device.zone_minutes
  rule : IfSome device.zone_rule (IsSiteRule device.zone_minutes)
  settings : AreSettings device.outbox device.apdu_timeout device.retries

-- what a site has that doesn't name them is within the limits
usual_outbox : 256 ≤ most_outbox
usual_outbox = omega arith

usual_timeout : 3000 ≤ 3600000
usual_timeout = omega arith

usual_retries : 3 ≤ 15
usual_retries = omega arith

device_kept : (ms : Members) (device : DeviceSite) → device_of ms ≡ Ok device → IsDevice device
unfolding device_of
device_kept ms device h =
    let instance = after (required instance_in (codes "instance") ms) _ device h in
    let name = after (name_of (object_with kinds.Device instance.value) ms) _ device instance.next_is in
    let vendor = after (or_else 0 (unsigned_in 0 65535) (codes "vendor") ms) _ device name.next_is in
    let start = after (required moment_in (codes "start") ms) _ device vendor.next_is in
    let zone = after (or_else (pos 0) (whole_in (neg_ℤ (pos 840)) (pos 840)) (codes "zone_minutes") ms) _ device start.next_is in
    let rule = after (optional (zone_rule_beside (get_member (codes "zone_minutes") ms)) (codes "zone_rule") ms) _ device zone.next_is in
    let timeout = after (or_else 3000 (unsigned_in 1 3600000) (codes "apdu_timeout") ms) _ device rule.next_is in
    let retries = after (or_else 3 (unsigned_in 0 15) (codes "retries") ms) _ device timeout.next_is in
    let outbox = after (or_else 256 (unsigned_in least_outbox most_outbox) (codes "outbox") ms) _ device retries.next_is in
    let flush_silent = after (or_else false as_bool (codes "flush_silent") ms) _ device outbox.next_is in
    let whole : DeviceSite = record { instance = instance.value; name = name.value; vendor = vendor.value; start = start.value; zone_minutes = zone.value; zone_rule = rule.value; apdu_timeout = timeout.value; retries = retries.value; outbox = outbox.value; flush_silent = flush_silent.value } in
    let is : whole ≡ device = ok_is whole device flush_silent.next_is in
    let M : ℕ → Type 0 = IsMoment in
    let Z : ℤ → Type 0 = IsZone in
    let I : ℕ → Type 0 = λ n. n ≤ 4194302 in
    let usual : IsZone (pos 0) = (record { le = tt }, record { le = tt }) in
    let Limit : ℕ → Type 0 = λ n. n ≤ most_outbox in
    let Timeout : ℕ → Type 0 = λ n. n ≤ 3600000 in
    let Retries : ℕ → Type 0 = λ n. n ≤ 15 in
    rw (← is) (record {
      instance = required_keeps I instance_in instance_kept (codes "instance") ms instance.value instance.first_is;
      start = required_keeps M moment_in moment_kept (codes "start") ms start.value start.first_is;
      zone = or_else_keeps Z (whole_in (neg_ℤ (pos 840)) (pos 840)) (whole_kept (neg_ℤ (pos 840)) (pos 840)) (codes "zone_minutes") (pos 0) usual ms zone.value zone.first_is;
      rule = rule_kept (whole_in (neg_ℤ (pos 840)) (pos 840)) (get_member (codes "zone_minutes") ms) (get_member (codes "zone_rule") ms) zone.value rule.value zone.first_is rule.first_is;
      settings = record {
        fits = or_else_keeps Limit (unsigned_in least_outbox most_outbox) (λ d n e. (unsigned_kept least_outbox most_outbox d n e).1) (codes "outbox") 256 usual_outbox ms outbox.value outbox.first_is;
        ends = or_else_keeps Timeout (unsigned_in 1 3600000) (λ d n e. (unsigned_kept 1 3600000 d n e).1) (codes "apdu_timeout") 3000 usual_timeout ms timeout.value timeout.first_is;
        stops = or_else_keeps Retries (unsigned_in 0 15) (λ d n e. (unsigned_kept 0 15 d n e).1) (codes "retries") 3 usual_retries ms retries.value retries.first_is;
      };
    })

device_from_kept : (document : Members) (found : Option Members) (device : DeviceSite) → device_from document found ≡ Ok device → IsDevice device
device_from_kept document None device h = absurd cc
device_from_kept document (Some ms) device h =
    let read = unplaced Device 0 (device_item document ms) device h in
    let known = after (refused_key (lesser_key (first_unknown (has_key keys.Device) ms) (first_unknown (has_key keys.Top) document))) (λ _. device_of ms) device read in
    device_kept ms device known.next_is

-- ---- what the sections say

record IsDraft (draft : Draft) : Type 0 where
  device : IsDevice draft.device
  classes : AllByRecursion IsClassPart draft.classes
  objects : AllByRecursion IsObject draft.objects
  enrollments : AllByRecursion KeepsKeys draft.enrollments
  logs : AllByRecursion IsLogSite draft.logs
  bindings : AllByRecursion IsBindingPart draft.bindings

draft_kept : (document : Members) (draft : Draft) → draft_of document ≡ Ok draft → IsDraft draft
unfolding draft_of
draft_kept document draft h =
    let device = after (device_section document) _ draft h in
    let classes = after (section_of class_item Class document) _ draft device.next_is in
    let destinations = after (section_of destination_item Destination document) _ draft classes.next_is in
    let objects = after (section_of object_item Object document) _ draft destinations.next_is in
    let enrollments = after (section_of enrollment_item Enrollment document) _ draft objects.next_is in
    let logs = after (section_of log_item Log document) _ draft enrollments.next_is in
    let bindings = after (section_of binding_item Binding document) _ draft logs.next_is in
    let whole : Draft = record { device = device.value; classes = classes.value; destinations = destinations.value; objects = objects.value; enrollments = enrollments.value; logs = logs.value; bindings = bindings.value } in
    let is : whole ≡ draft = ok_is whole draft bindings.next_is in
    rw (← is) (record {
      device = device_from_kept document (device_table (get_member (codes "device") document)) device.value device.first_is;
      classes = section_kept IsClassPart class_item class_kept Class document classes.value classes.first_is;
      objects = section_kept IsObject object_item item_kept Object document objects.value objects.first_is;
      enrollments = section_kept KeepsKeys enrollment_item enrollment_kept Enrollment document enrollments.value enrollments.first_is;
      logs = section_kept IsLogSite log_item log_kept Log document logs.value logs.first_is;
      bindings = section_kept IsBindingPart binding_item binding_kept Binding document bindings.value bindings.first_is;
    })

-- no reference of a draft dangles that passes
nothing_dangles : (found : Option ObjectIdData) (verdict : Unit {0}) → dangling_of found ≡ Ok verdict → found ≡ None
nothing_dangles None verdict h = refl
nothing_dangles (Some object) verdict h = absurd cc

-- it isn't too large, nothing dangles, and the notifications fit
record Passes (draft : Draft) : Type 0 where
  small : IsSmall draft
  refers : least_dangling draft ≡ None
  fits : notes_of draft.destinations (members_of draft) ≤ draft.device.outbox

verdict_kept : (draft : Draft) (verdict : Unit {0}) → verdict_on draft ≡ Ok verdict → Passes draft
unfolding verdict_on
verdict_kept draft verdict h =
    let limits = after (limits_of draft) _ verdict h in
    let identifiers = after (duplicate_of (least_twice (identifiers draft))) _ verdict limits.next_is in
    let references = after (dangling_of (least_dangling draft)) (λ _. notes_fit draft) verdict identifiers.next_is in
    record { small = small_draft draft limits.value limits.first_is; refers = nothing_dangles (least_dangling draft) references.value references.first_is; fits = fit_within draft verdict references.next_is }

-- ---- the site

classes_kept : (draft : Draft) → IsDraft draft → All IsClassPart (in_order id_of_class draft.classes)
classes_kept draft kept = fold_keeps identifiers_are_total same_ids id_of_class IsClassPart [] draft.classes (All-nil IsClassPart) kept.classes

bindings_in_order : (draft : Draft) → IsDraft draft → All IsBindingPart (in_order id_of_binding draft.bindings)
bindings_in_order draft kept = fold_keeps identifiers_are_total same_ids id_of_binding IsBindingPart [] draft.bindings (All-nil IsBindingPart) kept.bindings

of_draft_kept : (draft : Draft) → IsDraft draft → Passes draft → IsSite (site_of_draft draft)
of_draft_kept draft kept passes =
    let resolved = none_dangles draft passes.refers in
    let classes = listed draft.classes draft.destinations in
    let ids = All-weaker IsClassPart HasClassId (λ item is. is.class) (in_order id_of_class draft.classes) (classes_kept draft kept) in
    let ascending = fold_ascends identifiers_are_total same_ids id_of_class draft.classes in
    let rows = rows_of (in_order id_of_object draft.objects) in
    let own = bindings_in_order draft kept in
    record {
      start = kept.device.start;
      zone = kept.device.zone;
      rule = kept.device.rule;
      instance = kept.device.instance;
      settings = kept.device.settings;
      classes = All-map HasInstance (with_destinations draft.destinations) (in_order id_of_class draft.classes)
          (All-weaker IsClassPart (λ item. HasInstance (with_destinations draft.destinations item)) (λ item is. is.instance) (in_order id_of_class draft.classes) (classes_kept draft kept));
      classes_ascend = classes_ascend draft ids ascending;
      ascending = fold_ascends identifiers_are_total same_ids id_of_object draft.objects;
      objects = fold_keeps identifiers_are_total same_ids id_of_object IsObject [] draft.objects (All-nil IsObject) kept.objects;
      object_classes = fold_keeps identifiers_are_total same_ids id_of_object (HasItsClass classes) [] draft.objects (All-nil (HasItsClass classes))
          (objects_have draft.classes draft.destinations draft.objects draft.objects resolved.objects);
      enrollments_ascend = fold_ascends identifiers_are_total same_ids id_of_enrollment draft.enrollments;
      enrollments = fold_keeps identifiers_are_total same_ids id_of_enrollment IsEnrollment [] draft.enrollments (All-nil IsEnrollment)
          (are_enrollments draft.classes draft.objects draft.enrollments kept.objects kept.enrollments resolved.enrollments);
      enrollment_classes = fold_keeps identifiers_are_total same_ids id_of_enrollment (HasOwnClass classes) [] draft.enrollments (All-nil (HasOwnClass classes))
          (enrollments_have draft.classes draft.destinations draft.objects draft.enrollments resolved.enrollments);
      referred = record {
        objects = All-map (λ (row : Row). HasReferred rows row.site.inhibit_ref) first_row (in_order id_of_object draft.objects)
            (fold_keeps identifiers_are_total same_ids id_of_object (λ (site : ObjectSite). HasReferred rows site.inhibit_ref) [] draft.objects (All-nil (λ (site : ObjectSite). HasReferred rows site.inhibit_ref))
            (have_referred draft.classes draft.objects draft.objects resolved.objects));
        enrollments = fold_keeps identifiers_are_total same_ids id_of_enrollment (HasObjects rows) [] draft.enrollments (All-nil (HasObjects rows))
            (have_objects draft.classes draft.objects draft.enrollments resolved.enrollments);
      };
      logs_ascend = fold_ascends identifiers_are_total same_ids id_of_log draft.logs;
      logs = fold_keeps identifiers_are_total same_ids id_of_log IsLogSite [] draft.logs (All-nil IsLogSite) kept.logs;
      log_classes = fold_keeps identifiers_are_total same_ids id_of_log (HasItsClasses classes) [] draft.logs (All-nil (HasItsClasses classes))
          (logs_have draft.classes draft.destinations draft.logs resolved.logs);
      bindings_ascend = bindings_ascend (in_order id_of_binding draft.bindings) own (fold_ascends identifiers_are_total same_ids id_of_binding draft.bindings);
      bindings = bindings_are (in_order id_of_binding draft.bindings) own;
      limits = limits_kept draft passes.small;
      room = room_kept draft ids ascending passes.fits;
    }

document_kept : (document : Members) (site : Site) → site_of_document document ≡ Ok site → IsSite site
unfolding site_of_document
document_kept document site h =
    let draft = after (draft_of document) _ site h in
    let verdict = after (verdict_on draft.value) (λ _. Ok (site_of_draft draft.value)) site draft.next_is in
    let is : site_of_draft draft.value ≡ site = cc in
    rw (← is) (of_draft_kept draft.value (draft_kept document draft.value draft.first_is) (verdict_kept draft.value verdict.value verdict.first_is))

found_kept : (found : Option Members) (site : Site) → site_or_no_toml found ≡ Ok site → IsSite site
found_kept None site h = absurd cc
found_kept (Some document) site h = document_kept document site h

site_kept : (text : List ℕ) (site : Site) → site_of text ≡ Ok site → IsSite site
unfolding site_of
site_kept text site h = by (nat_lt most_site_octets (length text)) h
  where
    by : (long : Bool) → (if long then Err TooLong else site_or_no_toml (document_of text)) ≡ Ok site → IsSite site
    by true e = absurd cc
    by false e = found_kept (document_of text) site e

-- what is given where memory isn't refused
pub gives_kept : (answer : Result Site SiteFault) (text : List ℕ) → Gives NoMemory answer (site_of text) → IfOk answer IsSite
gives_kept (Ok site) text h = site_kept text site h
gives_kept (Err fault) text h = tt
