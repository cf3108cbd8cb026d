-- The alarms of subjects: each is read exactly as it is written.
use Rattle.std.proofs.Common.{◌≡◌, ℕ, ◌≤◌, Bool, true, false, List, length, Some, refl, sym, ap, ◌∙◌}
use Rattle.std.specs.Prelude.{bytes_eq}
use Rattle.std.proofs.lemmas.Option.{cond_some}
use Rattle.std.proofs.lemmas.Slice.Eq.{bytes_eq-Decides}
use Rattle.algorithm_rules.specs.declared.table.Algorithm.{Algorithm}
use Rattle.event_machine.specs.Summary.{AlarmState, new_alarm}
use Rattle.object_table.specs.declared.row.Row.{Row}
use Rattle.enrollment.specs.Subjects.{is_detecting}
use Rattle.enrollment.specs.declared.subject.Subject.{Subject}
use Rattle.state_codec.specs.Snapshots.{written_alarm}
use Rattle.state_codec.specs.ReadingSteps.{either_at, octets_at, value_if}
use Rattle.state_codec.specs.SnapshotSteps.{alarm_at, new_alarm_at, subject_at, values_in}
use Rattle.state_codec.specs.SnapshotLaws.{HasAlarm}
use Rattle.state_codec.proofs.Behind.{Reads, reads_last}
use Rattle.state_codec.proofs.PartLaws.{as_they_are, HasLength, octets_reads}
use Rattle.state_codec.proofs.AlarmReads.{alarm_reads}

-- the alarm of a subject whose event detection is enabled, or isn't
abbrev pub MayHaveAlarm : Bool → Algorithm → ℕ → ℕ → AlarmState → Type 0
MayHaveAlarm true algorithm values last alarm = HasAlarm algorithm values last alarm
MayHaveAlarm false algorithm values last alarm = alarm ≡ new_alarm

abbrev pub HasSubject : List Row → ℕ → Subject → AlarmState → Type 0
HasSubject rows last subject alarm = MayHaveAlarm (is_detecting subject) subject.algorithm (values_in subject.object rows) last alarm

same_octets : (first second : List ℕ) → bytes_eq first second ≡ true → first ≡ second
same_octets first second e = (bytes_eq-Decides first second).0 e

abbrev IsNew : AlarmState → Type 0
IsNew alarm = alarm ≡ new_alarm

new_forth : (octets : List ℕ) (alarm : AlarmState) → length octets ≡ 73 → value_if (bytes_eq octets (written_alarm new_alarm)) new_alarm ≡ Some alarm → IsNew alarm × (written_alarm alarm ≡ octets)
new_forth octets alarm long e =
    let g = cond_some (bytes_eq octets (written_alarm new_alarm)) new_alarm alarm e in
    (sym g.1, ap written_alarm (sym g.1) ∙ sym (same_octets octets (written_alarm new_alarm) g.0))

new_back : (alarm : AlarmState) → IsNew alarm → (octets : List ℕ) × (length octets ≡ 73) × (value_if (bytes_eq octets (written_alarm new_alarm)) new_alarm ≡ Some alarm) × (written_alarm alarm ≡ octets)
new_back alarm is = (written_alarm new_alarm, refl, ap (λ (a : AlarmState). Some a) (sym is), ap written_alarm is)

new_reads : Reads new_alarm_at written_alarm IsNew
unfolding new_alarm_at
new_reads = reads_last (octets_at 73) (λ octets. value_if (bytes_eq octets (written_alarm new_alarm)) new_alarm) as_they_are (HasLength 73) written_alarm IsNew (octets_reads 73) new_forth new_back

either_reads : (detecting : Bool) (algorithm : Algorithm) (values last : ℕ) → values ≤ 32 → Reads (either_at detecting (alarm_at algorithm values last) new_alarm_at) written_alarm (MayHaveAlarm detecting algorithm values last)
either_reads true algorithm values last few = alarm_reads algorithm values last few
either_reads false algorithm values last few = new_reads

-- the alarm of a subject is read exactly as it is written, and those that it may have
pub subject_reads : (rows : List Row) (last : ℕ) (subject : Subject) → values_in subject.object rows ≤ 32 → Reads (subject_at rows last subject) written_alarm (HasSubject rows last subject)
unfolding subject_at
subject_reads rows last subject few = either_reads (is_detecting subject) subject.algorithm (values_in subject.object rows) last few
