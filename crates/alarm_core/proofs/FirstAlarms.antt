-- The alarms of a site at its start ascend by their objects.
use Rattle.std.proofs.Common.{◌≡◌, Result, Ok, Err, IfOk, List, Vec, Global, filter, map, sym, subst}
use Rattle.std.proofs.lemmas.Simd.{map-map}
use Rattle.bac_values.specs.declared.no_memory.NoMemory.{NoMemory}
use Rattle.civil_stamp.specs.LocalTime.{LocalMomentData}
use Rattle.object_table.specs.Rows.{Ascends}
use Rattle.enrollment.specs.Objects.{ObjectsState}
use Rattle.enrollment.specs.Subjects.{is_detecting, object_of}
use Rattle.enrollment.specs.declared.subject.Subject.{Subject}
use Rattle.alarm_core.specs.declared.site.Site.{Site}
use Rattle.alarm_core.specs.CoreSteps.{first_with}
use Rattle.alarm_core.specs.DueSteps.{AscendByObject, object_of as object_of_detected}
use Rattle.alarm_core.specs.State.{DetectedObjectState}
use Rattle.alarm_core.specs.Subjects.{ack_required_of}
use Rattle.alarm_core.proofs.Places.{some_ascend}

module _ (at : LocalMomentData) (site : Site) (values : ObjectsState) (subjects : List Subject) (ascending : Ascends (map object_of subjects)) where
  pub first_ascend : (result : Result (Vec DetectedObjectState Global) NoMemory) → IfOk result (λ alarms. alarms.items ≡ map (λ subject. first_with at (ack_required_of site subject) values subject) (filter is_detecting subjects)) →
      IfOk result (λ alarms. AscendByObject alarms.items)
  first_ascend (Ok alarms) same =
      let kept = filter is_detecting subjects in
      let objects = map-map object_of_detected (λ (subject : Subject). first_with at (ack_required_of site subject) values subject) kept in
      subst AscendByObject (sym same) (subst Ascends (sym objects) (some_ascend object_of is_detecting subjects ascending))
  first_ascend (Err fault) same = tt
