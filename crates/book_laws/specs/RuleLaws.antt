-- The rules of the book are those of the code.
use Rattle.std.specs.Prelude.{◌≡◌, ℕ, ◌<◌, ◌^◌, Option, map, All, IfSome}
use Rattle.bac_values.specs.BitString.{BitsData}
use Rattle.bac_values.specs.declared.event_state.EventState.{EventState}
use Rattle.bac_values.specs.declared.value.Value.{Value}
use Rattle.bac_values.specs.declared.value.Value.TheVariants.{Bits, DateTime, Opaque}
use Rattle.algorithm_rules.specs.declared.table.Algorithm.{Algorithm}
use Rattle.algorithm_rules.specs.declared.table.Rule.{Rule}
use Rattle.algorithm_rules.specs.Conditions.{delay_of}
use Rattle.algorithm_rules.specs.Facts.{Facts}
use Rattle.algorithm_rules.specs.Rules.{rules_of}
use Rattle.event_machine.specs.Held.{key_in_detection}
use Rattle.profile.specs.Numbers as book
use Rattle.profile.specs.Sites.{Detection as Settings}
use Rattle.profile.specs.Rules as book_rules
use Rattle.book_laws.specs.Values.{state_in_book, algorithm_in_book}
use Rattle.book_laws.specs.Points.{seen_in_book}

-- a string of bits has none beyond its size
abbrev pub IsString : BitsData → Type 0
IsString string = string.bits < 2 ^ string.size

-- a value that is known, and no date with a time, as the value of an object is
abbrev pub IsKnown : Value → Type 0
IsKnown (Bits string) = IsString string
IsKnown (DateTime stamp) = ⊥
IsKnown (Opaque tag why) = ⊥
IsKnown value = Unit {0}

-- what is seen of an object has known values
pub record AreKnown (facts : Facts) : Type 0 where
  pub value : IsKnown facts.value
  pub feedback : IfSome facts.feedback IsKnown
  pub alarm_value : IfSome facts.alarm_value IsKnown
  pub alarm_values : All IsKnown facts.alarm_values
  pub mask : IfSome facts.mask IsString

-- what is told of a rule: the state to which it leads, its key, and for how many seconds it must have had it
abbrev pub Told : Type 0
Told = book.EventState × Option ℕ × ℕ

abbrev pub told_by_book : Option ℕ → book_rules.Seen → book_rules.Rule → Told
told_by_book cause seen rule = (rule.target, rule.key cause seen, book_rules.seconds rule.delay seen.settings)

abbrev pub told_by_code : Option ℕ → Facts → Rule → Told
told_by_code cause facts rule = (state_in_book rule.target, key_in_detection rule facts cause, delay_of rule facts)

-- In each state each algorithm has the rules of the book, in their order: each leads to the same state, and whatever is seen has the same key and the same delay.
abbrev pub HasRulesOfBook : Type 0
HasRulesOfBook = (algorithm : Algorithm) (state : EventState) (cause : Option ℕ) (others : Settings) (facts : Facts) → AreKnown facts →
    map (told_by_code cause facts) (rules_of algorithm state)
    ≡ map (told_by_book cause (seen_in_book others facts)) (book_rules.rules_of (algorithm_in_book algorithm) (state_in_book state))
