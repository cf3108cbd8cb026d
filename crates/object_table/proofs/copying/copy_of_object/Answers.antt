use Rattle.std.proofs.Common.{◌≡◌, ℕ, ℤ, Option, List, ap, ◌∙◌, rules, to_z, of_z, w64}
use Rattle.bac_values.specs.declared.value.Value.{Value}
use Rattle.object_table.specs.declared.object_site.ObjectSite.{ObjectSite}
use Rattle.object_table.proofs.copying.copy_of_object.Goals as goal

same_site : (s : ObjectSite) (name : List ℕ) (value : Value) (faults : List Value) (low high : ℤ) (texts : List (List ℕ)) (alarm : Option Value) (alarms : List Value) → name ≡ s.name → value ≡ s.value → faults ≡ s.fault_values → low ≡ s.low → high ≡ s.high → texts ≡ s.texts → alarm ≡ s.alarm_value → alarms ≡ s.alarm_values
    → record s { name = name; value = value; fault_values = faults; low = low; high = high; texts = texts; alarm_value = alarm; alarm_values = alarms } ≡ s
same_site s name value faults low high texts alarm alarms a b d e f t g h =
    ap (λ (x : List ℕ). record s { name = x; value = value; fault_values = faults; low = low; high = high; texts = texts; alarm_value = alarm; alarm_values = alarms }) a
    ∙ ap (λ (x : Value). record s { value = x; fault_values = faults; low = low; high = high; texts = texts; alarm_value = alarm; alarm_values = alarms }) b
    ∙ ap (λ (x : List Value). record s { fault_values = x; low = low; high = high; texts = texts; alarm_value = alarm; alarm_values = alarms }) d
    ∙ ap (λ (x : ℤ). record s { low = x; high = high; texts = texts; alarm_value = alarm; alarm_values = alarms }) e
    ∙ ap (λ (x : ℤ). record s { high = x; texts = texts; alarm_value = alarm; alarm_values = alarms }) f
    ∙ ap (λ (x : List (List ℕ)). record s { texts = x; alarm_value = alarm; alarm_values = alarms }) t
    ∙ ap (λ (x : Option Value). record s { alarm_value = x; alarm_values = alarms }) g
    ∙ ap (λ (x : List Value). record s { alarm_values = x }) h

pub returns : goal.returns
returns c =
    let s = c.args.site.now in
    let name : c.in_ok-name.name ≡ s.name = search rules in
    let low : to_z w64 (of_z w64 s.low) ≡ s.low = search rules in
    let high : to_z w64 (of_z w64 s.high) ≡ s.high = search rules in
    record {
      same = same_site s c.in_ok-name.name c.in_ok-value.value c.in_ok-fault_values.fault_values (to_z w64 (of_z w64 s.low)) (to_z w64 (of_z w64 s.high)) c.in_ok-texts.texts c.in_ok-alarm_value.alarm_value c.in_ok-alarm_values.alarm_values
          name c.in_ok-value.ensures.same (c.in_ok-fault_values.ensures.same ∙ c.as_slice.ensures.same) low high (c.in_ok-texts.ensures.same ∙ c.as_slice-2.ensures.same) c.in_ok-alarm_value.ensures.same (c.in_ok-alarm_values.ensures.same ∙ c.as_slice-3.ensures.same);
    }
