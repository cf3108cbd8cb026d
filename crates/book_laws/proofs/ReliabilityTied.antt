-- The reliability of a value object is what the book says.
use Rattle.std.proofs.Common.{◌≡◌, ℤ, Bool, true, false, cond, ◌||◌, if◌then◌else◌, Option, Some, None, List, [], ◌∷◌, map, refl, sym, ap, ◌∙◌}
use Rattle.std.specs.Prelude.{All, find, is_some}
use Rattle.std.specs.List.{list_any}
use Rattle.std.proofs.lemmas.List.Elements.{All-head, All-tail}
use Rattle.bac_values.specs.declared.object_kind.ObjectKind.{ObjectKind}
use Rattle.bac_values.specs.declared.object_kind.ObjectKind.TheVariants.{BinaryValue, Device, EventEnrollment, NotificationClass, MultiStateValue, EventLog, BitStringValue, CharacterStringValue, IntegerValue, PositiveIntegerValue}
use Rattle.bac_values.specs.declared.reliability.Reliability.{Reliability}
use Rattle.bac_values.specs.declared.reliability.Reliability.TheVariants.{NoFaultDetected, OverRange, UnderRange, UnreliableOther, MultiStateFault, CommunicationFailure, MonitoredObjectFault}
use Rattle.bac_values.specs.declared.value.Value.{Value}
use Rattle.algorithm_rules.specs.Conditions.{number_in}
use Rattle.algorithm_rules.specs.Matches as code
use Rattle.object_table.specs.declared.object_site.ObjectSite.{ObjectSite}
use Rattle.object_table.specs.declared.row.Row.{Row}
use Rattle.object_table.specs.Properties.{has_limits, kind_in}
use Rattle.reliability_eval.specs.Reliability.{fault_of_field, first_fault, is_fault_value, is_over, is_under, reliability_of, value_fault}
use Rattle.profile.specs.Numbers as numbers
use Rattle.profile.specs.Numbers.{is_reliable, maybe}
use Rattle.profile.specs.Rules as book
use Rattle.profile.specs.Sites.{Object}
use Rattle.book_laws.specs.Objects.{object_in_book}
use Rattle.book_laws.specs.ReliabilityLaws.{HasFaultsOfKind, HasReliabilityOfBook, has_fault_values}
use Rattle.book_laws.specs.RuleLaws.{IsKnown}
use Rattle.book_laws.specs.Values.{reliability_in_book, value_in_book}
use Rattle.book_laws.proofs.Matching.{values}
use Rattle.book_laws.proofs.RulesTied.{above, below}

listed : (value : Value) → IsKnown value → (faults : List Value) → All IsKnown faults →
    is_some (find (λ fault. book.matches None fault (value_in_book value)) (map value_in_book faults)) ≡ is_fault_value faults value
listed value known [] all = refl
listed value known (fault ∷ faults) all =
    by (listed value known faults (All-tail IsKnown fault faults all)) (book.matches None (value_in_book fault) (value_in_book value)) (code.matches None fault value)
    (values None fault value tt (All-head IsKnown fault faults all) known)
  where
    by : is_some (find (λ other. book.matches None other (value_in_book value)) (map value_in_book faults)) ≡ is_fault_value faults value → (a b : Bool) → a ≡ b →
        is_some (cond a (Some (value_in_book fault)) (find (λ other. book.matches None other (value_in_book value)) (map value_in_book faults))) ≡ (b || is_fault_value faults value)
    by rest true true e = refl
    by rest false false e = rest
    by rest true false e = absurd cc
    by rest false true e = absurd cc

over : (limit : Option ℤ) (value : Value) → maybe limit false (λ high. book.above high (value_in_book value)) ≡ is_over limit (number_in value)
over None value = refl
over (Some high) value = sym (above high value)

under : (limit : Option ℤ) (value : Value) → maybe limit false (λ low. book.below low (value_in_book value)) ≡ is_under limit (number_in value)
under None value = refl
under (Some low) value = sym (below low value)

-- the fault by whether the value is listed, over its range, or under it
abbrev says : Bool → Bool → Bool → numbers.BACnetReliability
says is_listed is_high is_low =
    if is_listed then numbers.MultiStateFault else (if is_high then numbers.OverRange else (if is_low then numbers.UnderRange else numbers.NoFaultDetected))

by_list : (is_listed : Bool) → reliability_in_book (if is_listed then MultiStateFault else NoFaultDetected) ≡ says is_listed false false
by_list true = refl
by_list false = refl

by_range : (is_high is_low : Bool) → reliability_in_book (if is_high then OverRange else (if is_low then UnderRange else NoFaultDetected)) ≡ says false is_high is_low
by_range true is_low = refl
by_range false true = refl
by_range false false = refl

module _ (row : Row) (sound : HasFaultsOfKind row.site) where
  abbrev site : ObjectSite
  site = row.site

  abbrev all_say : numbers.BACnetReliability
  all_say = says (is_fault_value site.fault_values site.value) (is_over site.fault_high (number_in site.value)) (is_under site.fault_low (number_in site.value))

  only_list : has_limits (kind_in site) ≡ false → says (is_fault_value site.fault_values site.value) false false ≡ all_say
  only_list e =
      let none = sound.limited e in
      ap (λ limit. says (is_fault_value site.fault_values site.value) (is_over limit (number_in site.value)) false) (sym none.1)
      ∙ ap (λ limit. says (is_fault_value site.fault_values site.value) (is_over site.fault_high (number_in site.value)) (is_under limit (number_in site.value))) (sym none.0)

  only_range : has_fault_values (kind_in site) ≡ false → says false (is_over site.fault_high (number_in site.value)) (is_under site.fault_low (number_in site.value)) ≡ all_say
  only_range e = ap (λ faults. says (is_fault_value faults site.value) (is_over site.fault_high (number_in site.value)) (is_under site.fault_low (number_in site.value))) (sym (sound.listed e))

  neither : has_fault_values (kind_in site) ≡ false → has_limits (kind_in site) ≡ false → numbers.NoFaultDetected ≡ all_say
  neither e f = ap (λ faults. says (is_fault_value faults site.value) false false) (sym (sound.listed e)) ∙ only_list f

  value_faults : (kind : Option ObjectKind) → kind_in site ≡ kind → reliability_in_book (value_fault kind site) ≡ all_say
  value_faults (Some MultiStateValue) e = by_list (is_fault_value site.fault_values site.value) ∙ only_list (ap has_limits e)
  value_faults (Some CharacterStringValue) e = by_list (is_fault_value site.fault_values site.value) ∙ only_list (ap has_limits e)
  value_faults (Some IntegerValue) e = by_range _ _ ∙ only_range (ap has_fault_values e)
  value_faults (Some PositiveIntegerValue) e = by_range _ _ ∙ only_range (ap has_fault_values e)
  value_faults (Some BinaryValue) e = neither (ap has_fault_values e) (ap has_limits e)
  value_faults (Some Device) e = neither (ap has_fault_values e) (ap has_limits e)
  value_faults (Some EventEnrollment) e = neither (ap has_fault_values e) (ap has_limits e)
  value_faults (Some NotificationClass) e = neither (ap has_fault_values e) (ap has_limits e)
  value_faults (Some EventLog) e = neither (ap has_fault_values e) (ap has_limits e)
  value_faults (Some BitStringValue) e = neither (ap has_fault_values e) (ap has_limits e)
  value_faults None e = neither (ap has_fault_values e) (ap has_limits e)

  told_by_book : (others : Object) → book.fault_of (object_in_book others row) (value_in_book site.value) ≡ all_say
  told_by_book others =
      ap (λ b. says b (maybe site.fault_high false (λ high. book.above high (value_in_book site.value))) (maybe site.fault_low false (λ low. book.below low (value_in_book site.value))))
      (listed site.value sound.value site.fault_values sound.faults)
      ∙ ap (λ b. says (is_fault_value site.fault_values site.value) b (maybe site.fault_low false (λ low. book.below low (value_in_book site.value)))) (over site.fault_high site.value)
      ∙ ap (λ b. says (is_fault_value site.fault_values site.value) (is_over site.fault_high (number_in site.value)) b) (under site.fault_low site.value)

first_of : (field own : Reliability) →
    reliability_in_book (first_fault field own) ≡ (if is_reliable (reliability_in_book field) then reliability_in_book own else reliability_in_book field)
first_of NoFaultDetected own = refl
first_of OverRange own = refl
first_of UnderRange own = refl
first_of UnreliableOther own = refl
first_of MultiStateFault own = refl
first_of CommunicationFailure own = refl
first_of MonitoredObjectFault own = refl

inhibited_by : (inhibited : Bool) (found : Reliability) (told : numbers.BACnetReliability) → reliability_in_book found ≡ told →
    reliability_in_book (if inhibited then NoFaultDetected else found) ≡ (if inhibited then numbers.NoFaultDetected else told)
inhibited_by true found told e = refl
inhibited_by false found told e = e

pub has_reliability_of_book : HasReliabilityOfBook
has_reliability_of_book others row sound =
    let field = reliability_in_book (fault_of_field row.field_fault) in
    inhibited_by row.site.reliability_inhibit (first_fault (fault_of_field row.field_fault) (value_fault (kind_in row.site) row.site)) _
    (first_of (fault_of_field row.field_fault) (value_fault (kind_in row.site) row.site)
    ∙ ap (λ (own : numbers.BACnetReliability). if is_reliable field then own else field)
    (value_faults row sound (kind_in row.site) refl ∙ sym (told_by_book row sound others)))
