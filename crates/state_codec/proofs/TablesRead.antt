-- What is read of a site's objects and enrollments makes a table, and enrollments in their order.
use Rattle.std.proofs.Common.{◌≡◌, ℕ, Bool, List, [], ◌∷◌, Some, sym, ap, subst}
use Rattle.std.specs.List.{All, AllZip}
use Rattle.std.proofs.lemmas.List.Elements.{All-nil, All-cons, All-head, All-tail}
use Rattle.algorithm_rules.specs.declared.table.Algorithm.{Algorithm}
use Rattle.algorithm_rules.specs.declared.table.Algorithm.TheVariants.{CommandFailure, UnsignedRange}
use Rattle.object_table.specs.Objects.{IsRow}
use Rattle.object_table.specs.Rows.{Ascends, RowsAscend, object_in, object_of}
use Rattle.object_table.specs.declared.object_site.ObjectSite.{ObjectSite}
use Rattle.object_table.specs.declared.row.Row.{Row}
use Rattle.enrollment.specs.Enrollments.{AscendById, IsEnrollment, KeepsAlgorithm, identifier_of}
use Rattle.enrollment.specs.declared.enrollment_site.EnrollmentSite.{EnrollmentSite}
use Rattle.alarm_core.specs.SiteStates.{IsEnrollmentOf}
use Rattle.alarm_core.specs.Sites.{IsSite}
use Rattle.alarm_core.specs.declared.site.Site.{Site}
use Rattle.state_codec.specs.SnapshotLaws.{HasRow}
use Rattle.state_codec.specs.SnapshotSteps.{AlarmParts, alarm_parts, alarm_parts_at, all_alarms_at, each_at, row_at}
use Rattle.state_codec.proofs.Behind.{AreOctets, bind_some, some_is}
use Rattle.state_codec.proofs.Beside.{same_of}
use Rattle.state_codec.proofs.SnapshotReads.{all_alarms_reads, all_rows, rows_reads}
use Rattle.state_codec.proofs.SnapshotStates.{enrolled_of}

-- ---- the table

pub rows_have : (site : Site) → IsSite site → (octets : List ℕ) → AreOctets octets → (rows : List Row) (rest : List ℕ) → each_at row_at site.objects octets ≡ Some (rows, rest) → AllZip HasRow site.objects rows
rows_have site is octets are rows rest e = ((rows_reads site.objects is.objects).takes octets rows rest are e).1

pub rows_ascend : (site : Site) → IsSite site → (octets : List ℕ) → AreOctets octets → (rows : List Row) (rest : List ℕ) → each_at row_at site.objects octets ≡ Some (rows, rest) → RowsAscend rows
rows_ascend site is octets are rows rest e =
    subst Ascends (sym (same_of HasRow object_of object_in (λ s r h. ap (λ (it : ObjectSite). it.object) h.written.same) site.objects rows (rows_have site is octets are rows rest e))) is.ascending

pub rows_are : (site : Site) → IsSite site → (octets : List ℕ) → AreOctets octets → (rows : List Row) (rest : List ℕ) → each_at row_at site.objects octets ≡ Some (rows, rest) → All IsRow rows
rows_are site is octets are rows rest e = all_rows site.objects rows (rows_have site is octets are rows rest e)

-- ---- the enrollments

algorithm_kept : (algorithm : Algorithm) (site : EnrollmentSite) (inhibit : Bool) (enable : List Bool) → KeepsAlgorithm algorithm site → KeepsAlgorithm algorithm (record site { enable = enable; inhibit = inhibit })
algorithm_kept CommandFailure site inhibit enable h = record { feedback = h.feedback; low = h.low; high = h.high }
algorithm_kept UnsignedRange site inhibit enable h = record { monitored = h.monitored; feedback = h.feedback }
algorithm_kept _ site inhibit enable h = absurd h

still_enrollment : (site written : EnrollmentSite) → IsEnrollmentOf site written → IsEnrollment site → IsEnrollment written
still_enrollment site written of is =
    let kept : IsEnrollment (record site { enable = written.enable; inhibit = written.inhibit }) =
    record {
      number = is.number;
      instance = is.instance;
      monitored = is.monitored;
      algorithm = algorithm_kept site.algorithm site written.inhibit written.enable is.algorithm;
      notify = is.notify;
      enable = of.enable;
      inhibit = of.inhibit;
      reference = is.reference;
      texts = is.texts;
    } in
    subst IsEnrollment (sym of.same) kept

still_enrollments : (sites others : List EnrollmentSite) → AllZip IsEnrollmentOf sites others → All IsEnrollment sites → All IsEnrollment others
still_enrollments [] [] of are = All-nil IsEnrollment
still_enrollments [] (other ∷ others) of are = absurd of
still_enrollments (site ∷ sites) [] of are = absurd of
still_enrollments (site ∷ sites) (other ∷ others) of are =
    All-cons IsEnrollment other others (still_enrollment site other of.0 (All-head IsEnrollment site sites are)) (still_enrollments sites others of.1 (All-tail IsEnrollment site sites are))

module _ (site : Site) (is : IsSite site) (rows : List Row) (all : All IsRow rows) (last : ℕ) (octets : List ℕ) (are : AreOctets octets) (parts : AlarmParts) (rest : List ℕ) (read : alarm_parts_at site rows last octets ≡ Some (parts, rest)) where
  enrollments_of : AllZip IsEnrollmentOf site.enrollments parts.1
  unfolding alarm_parts_at
  enrollments_of =
      let b = bind_some (all_alarms_at site rows last octets) (λ found. Some (alarm_parts found.0, found.1)) (parts, rest) read in
      let t = (all_alarms_reads site rows all last).takes octets b.0.0 b.0.1 are b.1 in
      let same : (alarm_parts b.0.0, b.0.1) ≡ (parts, rest) = some_is (alarm_parts b.0.0, b.0.1) (parts, rest) b.2 in
      subst (λ (p : AlarmParts × List ℕ). AllZip IsEnrollmentOf site.enrollments p.0.1) same (enrolled_of site rows last b.0.0 t.1)

  pub enrollments_ascend : AscendById parts.1
  enrollments_ascend = subst Ascends (sym (same_of IsEnrollmentOf identifier_of identifier_of (λ e o h. ap identifier_of h.same) site.enrollments parts.1 enrollments_of)) is.enrollments_ascend

  pub enrollments_are : All IsEnrollment parts.1
  enrollments_are = still_enrollments site.enrollments parts.1 enrollments_of is.enrollments
