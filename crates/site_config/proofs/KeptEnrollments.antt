-- What the keys of an enrollment and of a log keep to.
use Rattle.std.proofs.Common.{◌≡◌, ◌≤◌, ℕ, List, length, true, false, Bool, Option, Some, None, Ok, Err, refl}
use Rattle.std.specs.Prelude.{codes, Result, IsSome, IsNone, if◌then◌else◌}
use Rattle.bac_values.specs.Limits.{most_records}
use Rattle.std.specs.Str.{bytes_eq}
use Rattle.toml.specs.Data.{Data, Members, as_bool, as_str}
use Rattle.algorithm_rules.specs.declared.table.Algorithm.{Algorithm}
use Rattle.algorithm_rules.specs.declared.table.Algorithm.TheVariants.{ChangeOfBitstring, ChangeOfState, CommandFailure, UnsignedRange, SignedOutOfRange, UnsignedOutOfRange, ChangeOfCharacterstring}
use Rattle.bac_values.specs.Identifier.{ObjectIdData}
use Rattle.bac_values.specs.declared.object_kind.ObjectKind.TheVariants as kinds
use Rattle.enrollment.specs.declared.enrollment_site.EnrollmentSite.{EnrollmentSite}
use Rattle.event_log.specs.declared.log_site.LogSite.{LogSite}
use Rattle.object_table.specs.Objects.{AreTexts}
use Rattle.alarm_core.specs.Sites.{IsLogSite}
use Rattle.site_config.specs.declared.enrollment_item.Watch.{Watch}
use Rattle.toml_items.specs.declared.item_fault.ItemFault.{ItemFault}
use Rattle.site_config.specs.declared.keys.Keys.TheVariants as keys
use Rattle.site_config.specs.AlarmKeys.{alarm_keys_of}
use Rattle.site_config.specs.Devices.{object_with, name_of}
use Rattle.site_config.specs.Enrollments.{feedback_of, range_limit, watch_of, keys_of_enrollment, enrollment_of}
use Rattle.site_config.specs.Items.{enrollment_item, log_item}
use Rattle.site_config.specs.Keys.{has_key}
use Rattle.site_config.specs.Logs.{log_of}
use Rattle.toml_items.specs.Members.{required, or_else, optional_value, first_unknown, refused_key}
use Rattle.site_config.specs.Values.{instance_in, algorithm_of, algorithm_in, object_in}
use Rattle.toml_items.specs.Values.{unsigned_in}
use Rattle.toml_items.specs.Lists.{list_in}
use Rattle.site_config.proofs.KeptAlarms.{alarm_kept}
use Rattle.site_config.proofs.KeptInhibition.{KeepsReference}
use Rattle.site_config.proofs.Numbers.{instance_kept}
use Rattle.toml_items.proofs.Numbers.{unsigned_kept}
use Rattle.toml_items.proofs.Steps.{after, ok_is, found, required_keeps}

-- ---- the algorithm

-- an algorithm that an enrollment can have
IsKnown : Algorithm → Type 0
IsKnown CommandFailure = Unit {0}
IsKnown UnsignedRange = Unit {0}
IsKnown _ = ⊥

known_by_text : (text : List ℕ) (algorithm : Algorithm) → algorithm_of text ≡ Some algorithm → IsKnown algorithm
unfolding IsKnown
known_by_text text algorithm h = by (bytes_eq text (codes "command-failure")) (bytes_eq text (codes "unsigned-range")) h
  where
    by : (a b : Bool) → (if a then Some CommandFailure else (if b then Some UnsignedRange else None)) ≡ Some algorithm → IsKnown algorithm
    by true b e = let is : CommandFailure ≡ algorithm = cc in rw (← is) tt
    by false true e = let is : UnsignedRange ≡ algorithm = cc in rw (← is) tt
    by false false e = absurd cc

algorithm_known : (d : Data) (algorithm : Algorithm) → algorithm_in d ≡ Some algorithm → IsKnown algorithm
algorithm_known d algorithm h = let f = found (as_str d) algorithm_of algorithm h in known_by_text f.value algorithm f.next_is

-- ---- what goes with it

-- COMMAND_FAILURE has a feedback and no limits, UNSIGNED_RANGE no feedback
abbrev pub KeepsParameters : Algorithm → Option ObjectIdData → ℕ → ℕ → Type 0
KeepsParameters CommandFailure feedback low high = IsSome feedback × (low ≡ 0) × (high ≡ 0)
KeepsParameters UnsignedRange feedback low high = IsNone feedback
KeepsParameters _ feedback low high = ⊥

some_is : {A : Type 0} (part : Result A ItemFault) (y : Option A) → optional_value part ≡ Ok y → IsSome y
some_is (Ok x) y h = let is : Some x ≡ y = cc in rw (← is) refl
some_is (Err fault) y h = absurd cc

parameters_kept : (algorithm : Algorithm) (ms : Members) (feedback : Option ObjectIdData) (low high : ℕ) → IsKnown algorithm
    → feedback_of algorithm ms ≡ Ok feedback → range_limit algorithm (codes "low") ms ≡ Ok low → range_limit algorithm (codes "high") ms ≡ Ok high
    → KeepsParameters algorithm feedback low high
unfolding IsKnown
parameters_kept CommandFailure ms feedback low high known f l h = (some_is (required object_in (codes "feedback") ms) feedback f, cc, cc)
parameters_kept UnsignedRange ms feedback low high known f l h = let is : None ≡ feedback = ok_is None feedback f in rw (← is) refl
parameters_kept ChangeOfBitstring ms feedback low high known f l h = absurd known
parameters_kept ChangeOfState ms feedback low high known f l h = absurd known
parameters_kept SignedOutOfRange ms feedback low high known f l h = absurd known
parameters_kept UnsignedOutOfRange ms feedback low high known f l h = absurd known
parameters_kept ChangeOfCharacterstring ms feedback low high known f l h = absurd known

watch_kept : (ms : Members) (watch : Watch) → watch_of ms ≡ Ok watch → KeepsParameters watch.algorithm watch.feedback watch.low watch.high
unfolding watch_of
watch_kept ms watch h =
    let algorithm = after (required algorithm_in (codes "algorithm") ms) _ watch h in
    let monitored = after (required object_in (codes "monitored") ms) _ watch algorithm.next_is in
    let feedback = after (feedback_of algorithm.value ms) _ watch monitored.next_is in
    let low = after (range_limit algorithm.value (codes "low") ms) _ watch feedback.next_is in
    let high = after (range_limit algorithm.value (codes "high") ms) _ watch low.next_is in
    let whole : Watch = record { algorithm = algorithm.value; monitored = monitored.value; feedback = feedback.value; low = low.value; high = high.value } in
    let is : whole ≡ watch = ok_is whole watch high.next_is in
    let known : IsKnown algorithm.value = required_keeps IsKnown algorithm_in algorithm_known (codes "algorithm") ms algorithm.value algorithm.first_is in
    rw (← is) (parameters_kept algorithm.value ms feedback.value low.value high.value known feedback.first_is low.first_is high.first_is)

-- ---- the enrollment

-- what the keys of an enrollment say for themselves, whatever there is to refer to
pub record KeepsKeys (site : EnrollmentSite) : Type 0 where
  pub number : site.object.number ≡ 9
  pub instance : site.object.instance ≤ 4194302
  pub parameters : KeepsParameters site.algorithm site.feedback site.low site.high
  pub notify : site.notify ≤ 1
  pub enable : length site.enable ≡ 3
  pub reference : KeepsReference site.inhibit site.inhibit_ref
  pub texts : AreTexts site.texts

enrollment_part_kept : (ms : Members) (site : EnrollmentSite) → enrollment_of ms ≡ Ok site → KeepsKeys site
unfolding enrollment_of
enrollment_part_kept ms site h =
    let instance = after (required instance_in (codes "instance") ms) _ site h in
    let name = after (name_of (object_with kinds.EventEnrollment instance.value) ms) _ site instance.next_is in
    let class = after (required instance_in (codes "class") ms) _ site name.next_is in
    let watch = after (watch_of ms) _ site class.next_is in
    let alarm = after (alarm_keys_of ms) _ site watch.next_is in
    let whole : EnrollmentSite =
    record {
      object = object_with kinds.EventEnrollment instance.value;
      name = name.value;
      class = class.value;
      algorithm = watch.value.algorithm;
      monitored = watch.value.monitored;
      feedback = watch.value.feedback;
      low = watch.value.low;
      high = watch.value.high;
      notify = alarm.value.notify;
      enable = alarm.value.enable;
      time_delay = alarm.value.time_delay;
      time_delay_normal = alarm.value.time_delay_normal;
      detection = alarm.value.detection;
      inhibit = alarm.value.inhibit;
      inhibit_ref = alarm.value.inhibit_ref;
      texts = alarm.value.texts;
    } in
    let is : whole ≡ site = ok_is whole site alarm.next_is in
    let of_alarm = alarm_kept ms alarm.value alarm.first_is in
    let I : ℕ → Type 0 = λ n. n ≤ 4194302 in
    rw (← is) (record {
      number = refl;
      instance = required_keeps I instance_in instance_kept (codes "instance") ms instance.value instance.first_is;
      parameters = watch_kept ms watch.value watch.first_is;
      notify = of_alarm.notify;
      enable = of_alarm.enable;
      reference = of_alarm.reference;
      texts = of_alarm.texts;
    })

pub enrollment_kept : (ms : Members) (site : EnrollmentSite) → enrollment_item ms ≡ Ok site → KeepsKeys site
enrollment_kept ms site h =
    let known = after (refused_key (first_unknown (has_key (keys_of_enrollment ms)) ms)) (λ _. enrollment_of ms) site h in
    enrollment_part_kept ms site known.next_is

-- ---- the log

log_part_kept : (ms : Members) (log : LogSite) → log_of ms ≡ Ok log → IsLogSite log
unfolding log_of
log_part_kept ms log h =
    let instance = after (required instance_in (codes "instance") ms) _ log h in
    let name = after (name_of (object_with kinds.EventLog instance.value) ms) _ log instance.next_is in
    let size = after (required (unsigned_in 1 most_records) (codes "size") ms) _ log name.next_is in
    let stop = after (or_else false as_bool (codes "stop_when_full") ms) _ log size.next_is in
    let enable = after (or_else true as_bool (codes "enable") ms) _ log stop.next_is in
    let classes = after (required (list_in 1 256 instance_in) (codes "classes") ms) _ log enable.next_is in
    let whole : LogSite = record { object = object_with kinds.EventLog instance.value; name = name.value; size = size.value; stop_when_full = stop.value; enable = enable.value; classes = classes.value } in
    let is : whole ≡ log = ok_is whole log classes.next_is in
    let I : ℕ → Type 0 = λ n. n ≤ 4194302 in
    let Size : ℕ → Type 0 = λ n. (1 ≤ n) × (n ≤ most_records) in
    let good : Size size.value = required_keeps Size (unsigned_in 1 most_records) (unsigned_kept 1 most_records) (codes "size") ms size.value size.first_is in
    rw (← is) (record {
      number = refl;
      instance = required_keeps I instance_in instance_kept (codes "instance") ms instance.value instance.first_is;
      least = good.0;
      most = good.1;
    })

pub log_kept : (ms : Members) (log : LogSite) → log_item ms ≡ Ok log → IsLogSite log
log_kept ms log h =
    let known = after (refused_key (first_unknown (has_key keys.Log) ms)) (λ _. log_of ms) log h in
    log_part_kept ms log known.next_is
