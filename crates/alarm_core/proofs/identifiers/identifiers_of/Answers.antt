use Rattle.std.proofs.Common.{◌≡◌, List, [], ◌∷◌, ◌++◌, map, append_assoc, rules}
use Rattle.bac_values.specs.Identifier.{ObjectIdData}
use Rattle.object_table.specs.declared.object_site.ObjectSite.{ObjectSite}
use Rattle.enrollment.specs.declared.enrollment_site.EnrollmentSite.{EnrollmentSite}
use Rattle.event_log.specs.declared.log_site.LogSite.{LogSite}
use Rattle.alarm_core.specs.Devices.{class_object, device_object}
use Rattle.alarm_core.proofs.identifiers.identifiers_of.Goals as goal

-- five parts, one behind the other
gathered : {X : Type 0} (a b c d e w x y z : List X) → w ≡ a ++ b → x ≡ w ++ c → y ≡ x ++ d → z ≡ y ++ e → z ≡ a ++ (b ++ (c ++ (d ++ e)))
gathered a b c d e w x y z p q r s =
    let whole : z ≡ (((a ++ b) ++ c) ++ d) ++ e = cc in
    let right : (((a ++ b) ++ c) ++ d) ++ e ≡ a ++ (b ++ (c ++ (d ++ e))) = simp append_assoc in
    cc

pub returns : goal.returns
returns c =
    let site = c.args.site.now in
    let device : List ObjectIdData = device_object site ∷ [] in
    let objects : List ObjectIdData = map (λ (object : ObjectSite). object.object) site.objects in
    let classes : List ObjectIdData = map class_object site.classes in
    let enrollments : List ObjectIdData = map (λ (enrollment : EnrollmentSite). enrollment.object) site.enrollments in
    let logs : List ObjectIdData = map (λ (log : LogSite). log.object) site.logs in
    let first : c.push.new.items.items ≡ device = search rules in
    let second : c.add_objects.new.identifiers.items ≡ device ++ objects = search rules in
    let third : c.add_classes.new.identifiers.items ≡ c.add_objects.new.identifiers.items ++ classes = search rules in
    let fourth : c.add_enrollments.new.identifiers.items ≡ c.add_classes.new.identifiers.items ++ enrollments = search rules in
    let fifth : c.add_logs.new.identifiers.items ≡ c.add_enrollments.new.identifiers.items ++ logs = search rules in
    record { identifiers = gathered device objects classes enrollments logs _ _ _ _ second third fourth fifth }
