-- Each rule of each algorithm is that of the book.
use Rattle.std.proofs.Common.{◌≡◌, ℕ, ◌==◌, ℤ, pos, negsuc, ◌+ℤ◌, ◌-ℤ◌, Bool, true, false, not, ◌&&◌, if◌then◌else◌, Option, Some, None, IfSome, [], ◌∷◌, map, refl, sym, ap, ◌∙◌, arith}
use Rattle.std.specs.Prelude.{int_lt, int_le, is_some, is_none, option_map, option_and_then, unwrap_or}
use Rattle.std.proofs.lemmas.Bool.Decides.{nat_tests}
use Rattle.bac_values.specs.declared.event_state.EventState.{EventState}
use Rattle.bac_values.specs.declared.event_state.EventState.TheVariants.{Normal, Fault, Offnormal, HighLimit, LowLimit}
use Rattle.bac_values.specs.declared.value.Value.{Value}
use Rattle.bac_values.specs.declared.value.Value.TheVariants.{Null, Bool as Truth, Unsigned, Signed, Text, Bits, Enumerated, Object, DateTime, Opaque}
use Rattle.algorithm_rules.specs.declared.table.Algorithm.{Algorithm}
use Rattle.algorithm_rules.specs.declared.table.Algorithm.TheVariants.{ChangeOfBitstring, ChangeOfState, CommandFailure, UnsignedRange, SignedOutOfRange, UnsignedOutOfRange, ChangeOfCharacterstring}
use Rattle.algorithm_rules.specs.Conditions as code
use Rattle.algorithm_rules.specs.Facts.{Facts}
use Rattle.algorithm_rules.specs.Rules.{rules_of, match_rules}
use Rattle.algorithm_rules.specs.Matches.{matched_in}
use Rattle.algorithm_rules.specs.SameValue.{same_value, feedback_equals, feedback_differs}
use Rattle.event_machine.specs.Held.{other_than}
use Rattle.profile.specs.Numbers.{maybe}
use Rattle.profile.specs.Rules as book
use Rattle.profile.specs.Sites.{Detection as Settings}
use Rattle.book_laws.specs.Values.{value_in_book, state_in_book, algorithm_in_book}
use Rattle.book_laws.specs.Points.{seen_in_book}
use Rattle.book_laws.specs.RuleLaws.{AreKnown, IsKnown, HasRulesOfBook, Told, told_by_book, told_by_code}
use Rattle.book_laws.proofs.Matching.{first_matches, truths, wholes}
use Rattle.book_laws.proofs.Bits.{unmasked}

-- ---- numbers and limits

numbers_same : (value : Value) → book.number_in (value_in_book value) ≡ code.number_in value
numbers_same (Signed number) = refl
numbers_same (Unsigned number) = refl
numbers_same _ = refl

above_by : (limit : ℤ) (n : Option ℤ) → maybe n false (λ number. int_lt limit number) ≡ code.is_above limit n
above_by limit (Some number) = refl
above_by limit None = refl

below_by : (limit : ℤ) (n : Option ℤ) → maybe n false (λ number. int_lt number limit) ≡ code.is_below limit n
below_by limit (Some number) = refl
below_by limit None = refl

pub above : (limit : ℤ) (value : Value) → code.is_above limit (code.number_in value) ≡ book.above limit (value_in_book value)
above limit value = sym (ap (λ n. maybe n false (λ number. int_lt limit number)) (numbers_same value) ∙ above_by limit (code.number_in value))

pub below : (limit : ℤ) (value : Value) → code.is_below limit (code.number_in value) ≡ book.below limit (value_in_book value)
below limit value = sym (ap (λ n. maybe n false (λ number. int_lt number limit)) (numbers_same value) ∙ below_by limit (code.number_in value))

within_by : (low high : Bool) → (not low && not high) ≡ (true && not high && not low)
within_by true true = refl
within_by true false = refl
within_by false true = refl
within_by false false = refl

at_most : (a b : ℤ) → int_le a b ≡ not (int_lt b a)
at_most (pos a) (pos b) = grind (arith, nat_tests)
at_most (pos a) (negsuc b) = refl
at_most (negsuc a) (pos b) = refl
at_most (negsuc a) (negsuc b) = grind (arith, nat_tests)

within_of : (low high : ℤ) (n : Option ℤ) → code.is_within low high n
    ≡ (is_some n && not (maybe n false (λ number. int_lt high number)) && not (maybe n false (λ number. int_lt number low)))
within_of low high (Some number) =
    ap (λ b. b && int_le number high) (at_most low number) ∙ ap (λ b. not (int_lt number low) && b) (at_most number high)
    ∙ within_by (int_lt number low) (int_lt high number)
within_of low high None = refl

within : (low high : ℤ) (value : Value) → code.is_within low high (code.number_in value)
    ≡ (is_some (book.number_in (value_in_book value)) && not (book.above high (value_in_book value)) && not (book.below low (value_in_book value)))
within low high value =
    within_of low high (code.number_in value)
    ∙ sym (ap (λ n. is_some n && not (maybe n false (λ number. int_lt high number)) && not (maybe n false (λ number. int_lt number low))) (numbers_same value))

-- ---- feedbacks

values_equal : (a b : Value) → IsKnown a → IsKnown b → same_value a b ≡ book.equal (value_in_book a) (value_in_book b)
values_equal Null Null ha hb = refl
values_equal (Truth a) (Truth b) ha hb = sym (truths a b)
values_equal (Unsigned a) (Unsigned b) ha hb = refl
values_equal (Signed a) (Signed b) ha hb = sym (wholes a b)
values_equal (Text a) (Text b) ha hb = refl
values_equal (Bits a) (Bits b) ha hb = sym (unmasked a.size b.size a.bits b.bits ha hb)
values_equal (Enumerated a) (Enumerated b) ha hb = refl
values_equal (Object a) (Object b) ha hb = refl
values_equal (DateTime a) b ha hb = absurd ha
values_equal (Opaque a why) b ha hb = absurd ha
values_equal a (DateTime b) ha hb = absurd hb
values_equal a (Opaque b why) ha hb = absurd hb
values_equal _ _ ha hb = refl

feedback_same : (feedback : Option Value) (value : Value) → IfSome feedback IsKnown → IsKnown value →
    feedback_equals feedback value ≡ maybe (option_map value_in_book feedback) false (λ found. book.equal found (value_in_book value))
feedback_same None value hf hv = refl
feedback_same (Some feedback) value hf hv = values_equal feedback value hf hv

feedback_other : (feedback : Option Value) (value : Value) → IfSome feedback IsKnown → IsKnown value →
    feedback_differs feedback value ≡ maybe (option_map value_in_book feedback) false (λ found. not (book.equal found (value_in_book value)))
feedback_other None value hf hv = refl
feedback_other (Some feedback) value hf hv = ap not (values_equal feedback value hf hv)

-- ---- another match

turned : (a b : ℕ) → (a == b) ≡ (b == a)
turned a b = grind (arith, nat_tests)

another_by : (cause found : Option ℕ) → other_than cause found ≡ option_and_then (λ n. if maybe cause false (λ entered. entered == n) then None else Some n) found
another_by cause None = refl
another_by None (Some n) = refl
another_by (Some entered) (Some n) = ap (λ b. if b then None else Some n) (turned n entered)

-- ---- the keys

module _ (others : Settings) (facts : Facts) (known : AreKnown facts) (cause : Option ℕ) where
  abbrev seen : book.Seen
  seen = seen_in_book others facts

  abbrev zero_where : Bool → Option ℕ
  zero_where b = if b then Some 0 else None

  key : (a b : Bool) → a ≡ b → zero_where a ≡ zero_where b
  key a b e = ap zero_where e

  some_match : zero_where (is_some (matched_in facts)) ≡ zero_where (is_some (book.first_match seen))
  some_match = ap (λ n. zero_where (is_some n)) (sym (first_matches others facts known))

  no_match : zero_where (is_none (matched_in facts)) ≡ zero_where (is_none (book.first_match seen))
  no_match = ap (λ n. zero_where (is_none n)) (sym (first_matches others facts known))

  other_match : other_than cause (matched_in facts) ≡ book.another cause seen
  other_match = ap (other_than cause) (sym (first_matches others facts known)) ∙ another_by cause (book.first_match seen)

  high : zero_where (facts.high_enabled && code.is_above facts.high (code.number_in facts.value)) ≡ zero_where (book.too_high seen)
  high = ap (λ b. zero_where (facts.high_enabled && b)) (above facts.high facts.value)

  low : zero_where (facts.low_enabled && code.is_below facts.low (code.number_in facts.value)) ≡ zero_where (book.too_low seen)
  low = ap (λ b. zero_where (facts.low_enabled && b)) (below facts.low facts.value)

  -- what is told of one rule, of two and of three
  abbrev told : EventState → ℕ → Option ℕ → Told
  told to seconds found = (state_in_book to, found, seconds)

  one : (t : EventState) (d : ℕ) {k l : Option ℕ} → k ≡ l → told t d k ∷ [] ≡ told t d l ∷ []
  one t d first = ap (λ x. told t d x ∷ []) first

  two : (t u : EventState) (d e : ℕ) {k l m n : Option ℕ} → k ≡ l → m ≡ n → told t d k ∷ told u e m ∷ [] ≡ told t d l ∷ told u e n ∷ []
  two t u d e {l = l} {m = m} first second = ap (λ x. told t d x ∷ told u e m ∷ []) first ∙ ap (λ x. told t d l ∷ told u e x ∷ []) second

  three : (t u v : EventState) (d e f : ℕ) {k l m n o p : Option ℕ} → k ≡ l → m ≡ n → o ≡ p →
      told t d k ∷ told u e m ∷ told v f o ∷ [] ≡ told t d l ∷ told u e n ∷ told v f p ∷ []
  three t u v d e f {l = l} {m = m} {o = o} first second third =
      ap (λ x. told t d x ∷ told u e m ∷ told v f o ∷ []) first ∙ ap (λ xs. told t d l ∷ xs) (two u v e f second third)

  abbrev wait : ℕ
  wait = facts.time_delay

  abbrev wait_back : ℕ
  wait_back = unwrap_or facts.time_delay_normal facts.time_delay

  abbrev Ties : Algorithm → EventState → Type 0
  Ties algorithm state =
      map (told_by_code cause facts) (rules_of algorithm state)
      ≡ map (told_by_book cause seen) (book.rules_of (algorithm_in_book algorithm) (state_in_book state))

  changes : (algorithm : Algorithm) → ((state : EventState) → rules_of algorithm state ≡ match_rules state) →
      ((state : EventState) → book.rules_of (algorithm_in_book algorithm) (state_in_book state) ≡ book.change_rules (state_in_book state)) → (state : EventState) → Ties algorithm state
  changes algorithm mine theirs Normal = ap (map (told_by_code cause facts)) (mine Normal) ∙ one Offnormal wait some_match ∙ ap (map (told_by_book cause seen)) (sym (theirs Normal))
  changes algorithm mine theirs Offnormal = ap (map (told_by_code cause facts)) (mine Offnormal) ∙ two Normal Offnormal wait_back wait no_match other_match ∙ ap (map (told_by_book cause seen)) (sym (theirs Offnormal))
  changes algorithm mine theirs Fault = ap (map (told_by_code cause facts)) (mine Fault) ∙ ap (map (told_by_book cause seen)) (sym (theirs Fault))
  changes algorithm mine theirs HighLimit = ap (map (told_by_code cause facts)) (mine HighLimit) ∙ ap (map (told_by_book cause seen)) (sym (theirs HighLimit))
  changes algorithm mine theirs LowLimit = ap (map (told_by_code cause facts)) (mine LowLimit) ∙ ap (map (told_by_book cause seen)) (sym (theirs LowLimit))

  commands : (state : EventState) → Ties CommandFailure state
  commands Normal = one Offnormal wait (ap zero_where (feedback_other facts.feedback facts.value known.feedback known.value))
  commands Offnormal = one Normal wait_back (ap zero_where (feedback_same facts.feedback facts.value known.feedback known.value))
  commands Fault = refl
  commands HighLimit = refl
  commands LowLimit = refl

  signed_limits : (state : EventState) → Ties SignedOutOfRange state
  signed_limits Normal = two HighLimit LowLimit wait wait high low
  signed_limits HighLimit = three Normal LowLimit Normal 0 wait wait_back refl low (ap zero_where (below (facts.high -ℤ pos facts.deadband) facts.value))
  signed_limits LowLimit = three Normal HighLimit Normal 0 wait wait_back refl high (ap zero_where (above (facts.low +ℤ pos facts.deadband) facts.value))
  signed_limits Fault = refl
  signed_limits Offnormal = refl

  unsigned_limits : (state : EventState) → Ties UnsignedOutOfRange state
  unsigned_limits Normal = two HighLimit LowLimit wait wait high low
  unsigned_limits HighLimit = three Normal LowLimit Normal 0 wait wait_back refl low (ap zero_where (below (facts.high -ℤ pos facts.deadband) facts.value))
  unsigned_limits LowLimit = three Normal HighLimit Normal 0 wait wait_back refl high (ap zero_where (above (facts.low +ℤ pos facts.deadband) facts.value))
  unsigned_limits Fault = refl
  unsigned_limits Offnormal = refl

  ranges : (state : EventState) → Ties UnsignedRange state
  ranges Normal = two HighLimit LowLimit wait wait (ap zero_where (above facts.high facts.value)) (ap zero_where (below facts.low facts.value))
  ranges HighLimit = two LowLimit Normal wait wait_back (ap zero_where (below facts.low facts.value)) (ap zero_where (within facts.low facts.high facts.value))
  ranges LowLimit = two HighLimit Normal wait wait_back (ap zero_where (above facts.high facts.value)) (ap zero_where (within facts.low facts.high facts.value))
  ranges Fault = refl
  ranges Offnormal = refl

  ties : (algorithm : Algorithm) (state : EventState) → Ties algorithm state
  ties ChangeOfBitstring state = changes ChangeOfBitstring (λ s. refl) (λ s. refl) state
  ties ChangeOfState state = changes ChangeOfState (λ s. refl) (λ s. refl) state
  ties ChangeOfCharacterstring state = changes ChangeOfCharacterstring (λ s. refl) (λ s. refl) state
  ties CommandFailure state = commands state
  ties UnsignedRange state = ranges state
  ties SignedOutOfRange state = signed_limits state
  ties UnsignedOutOfRange state = unsigned_limits state

pub has_rules_of_book : HasRulesOfBook
has_rules_of_book algorithm state cause others facts known = ties others facts known cause algorithm state
