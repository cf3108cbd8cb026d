-- What the detection of an object keeps to over its course: its state is one of its algorithm, its cause one of its alarm values, and its points are in range.
use Rattle.std.proofs.Common.{◌≡◌, ℕ, ◌<◌, ◌≤◌, ◌⊎◌, inl, inr, ◌==◌, ◌&&◌, Bool, true, false, if◌then◌else◌, IsTrue, IsSome, Option, Some, None, is_some, List, [], ◌∷◌, find, refl, arith}
use Rattle.std.specs.List.{All}
use Rattle.std.specs.Option.{IfSome}
use Rattle.std.proofs.lemmas.List.Elements.{All-nil, All-cons}
use Rattle.bac_values.specs.Moments.{IsMoment}
use Rattle.bac_values.specs.declared.event_state.EventState.{EventState}
use Rattle.bac_values.specs.declared.event_state.EventState.TheVariants.{Normal, Fault, Offnormal, HighLimit, LowLimit}
use Rattle.bac_values.specs.declared.reliability.Reliability.{Reliability}
use Rattle.bac_values.specs.Reliabilities.{number_of_reliability}
use Rattle.algorithm_rules.specs.declared.table.Algorithm.{Algorithm}
use Rattle.algorithm_rules.specs.declared.table.Algorithm.TheVariants.{ChangeOfBitstring, ChangeOfState, CommandFailure, UnsignedRange, SignedOutOfRange, UnsignedOutOfRange, ChangeOfCharacterstring}
use Rattle.algorithm_rules.specs.declared.table.Rule.{Rule}
use Rattle.algorithm_rules.specs.declared.table.Test.{Test}
use Rattle.algorithm_rules.specs.declared.table.Test.TheVariants.{SomeMatch, OtherMatch}
use Rattle.algorithm_rules.specs.Conditions.{key_by}
use Rattle.algorithm_rules.specs.Facts.{Facts}
use Rattle.algorithm_rules.specs.Matches.{matched_in}
use Rattle.algorithm_rules.specs.Rules.{rules_of}
use Rattle.event_machine.specs.Points.{Point, Incident, Looked, Acknowledged}
use Rattle.event_machine.specs.Held.{is_held, is_held_by, key_despite, key_in_detection, other_than}
use Rattle.bac_values.specs.EventStates.{is_fault, is_normal}
use Rattle.event_machine.specs.Detection.{Detection, and_then, cause_on, detection_at, enters, fault_by, fault_target, inhibited_step, later_step, rule_by, rule_held, sees, stays}
use Rattle.alarm_core.specs.SiteStates.{is_state_of}

-- ---- what is known of a detection

-- a point is in range and not after a moment, and an alarm value that matches there is one of so many
pub record IsSeen (values last : ℕ) (point : Point) : Type 0 where
  pub range : IsMoment point.moment
  pub past : point.moment ≤ last
  pub matched : IfSome (matched_in point.facts) (λ place. place < values)

-- so is each point of a course
abbrev pub AreSeen : ℕ → ℕ → Point → List Incident → Type 0
AreSeen values last first [] = IsSeen values last first
AreSeen values last first (Looked point ∷ older) = IsSeen values last point × AreSeen values last first older
AreSeen values last first (Acknowledged transition ∷ older) = AreSeen values last first older

pub record IsFit (algorithm : Algorithm) (values last : ℕ) (d : Detection) : Type 0 where
  pub state : IsTrue (is_state_of algorithm d.state)
  pub cause : IfSome d.cause (λ place. place < values)
  pub caused : d.state ≡ Offnormal → 0 < values → IsSome d.cause
  pub newest : IsSeen values last d.newest
  pub older : All (IsSeen values last) d.older

-- ---- where the rules of an algorithm lead

-- whether a test finds an alarm value that matches
abbrev pub finds_match : Test → Bool
finds_match SomeMatch = true
finds_match OtherMatch = true
finds_match _ = false

-- a rule leads to a state of the algorithm, and to OFFNORMAL by an alarm value that matches or by a command failure
pub record Leads (algorithm : Algorithm) (rule : Rule) : Type 0 where
  pub state : IsTrue (is_state_of algorithm rule.target)
  pub by_match : rule.target ≡ Offnormal → IsTrue (finds_match rule.test) ⊎ (algorithm ≡ CommandFailure)

abbrev pub AllLead : Algorithm → List Rule → Type 0
AllLead algorithm [] = Unit {0}
AllLead algorithm (rule ∷ rules) = Leads algorithm rule × AllLead algorithm rules

all_lead : (algorithm : Algorithm) (state : EventState) → AllLead algorithm (rules_of algorithm state)
all_lead ChangeOfState Normal = (record { state = refl; by_match = λ e. inl refl }, tt)
all_lead ChangeOfState Offnormal = (record { state = refl; by_match = λ e. absurd cc }, (record { state = refl; by_match = λ e. inl refl }, tt))
all_lead ChangeOfState Fault = tt
all_lead ChangeOfState HighLimit = tt
all_lead ChangeOfState LowLimit = tt
all_lead ChangeOfBitstring Normal = (record { state = refl; by_match = λ e. inl refl }, tt)
all_lead ChangeOfBitstring Offnormal = (record { state = refl; by_match = λ e. absurd cc }, (record { state = refl; by_match = λ e. inl refl }, tt))
all_lead ChangeOfBitstring Fault = tt
all_lead ChangeOfBitstring HighLimit = tt
all_lead ChangeOfBitstring LowLimit = tt
all_lead ChangeOfCharacterstring Normal = (record { state = refl; by_match = λ e. inl refl }, tt)
all_lead ChangeOfCharacterstring Offnormal = (record { state = refl; by_match = λ e. absurd cc }, (record { state = refl; by_match = λ e. inl refl }, tt))
all_lead ChangeOfCharacterstring Fault = tt
all_lead ChangeOfCharacterstring HighLimit = tt
all_lead ChangeOfCharacterstring LowLimit = tt
all_lead CommandFailure Normal = (record { state = refl; by_match = λ e. inr refl }, tt)
all_lead CommandFailure Offnormal = (record { state = refl; by_match = λ e. absurd cc }, tt)
all_lead CommandFailure Fault = tt
all_lead CommandFailure HighLimit = tt
all_lead CommandFailure LowLimit = tt
all_lead SignedOutOfRange Normal = (record { state = refl; by_match = λ e. absurd cc }, (record { state = refl; by_match = λ e. absurd cc }, tt))
all_lead SignedOutOfRange Offnormal = tt
all_lead SignedOutOfRange Fault = tt
all_lead SignedOutOfRange HighLimit = (record { state = refl; by_match = λ e. absurd cc }, (record { state = refl; by_match = λ e. absurd cc }, (record { state = refl; by_match = λ e. absurd cc }, tt)))
all_lead SignedOutOfRange LowLimit = (record { state = refl; by_match = λ e. absurd cc }, (record { state = refl; by_match = λ e. absurd cc }, (record { state = refl; by_match = λ e. absurd cc }, tt)))
all_lead UnsignedOutOfRange Normal = (record { state = refl; by_match = λ e. absurd cc }, (record { state = refl; by_match = λ e. absurd cc }, tt))
all_lead UnsignedOutOfRange Offnormal = tt
all_lead UnsignedOutOfRange Fault = tt
all_lead UnsignedOutOfRange HighLimit = (record { state = refl; by_match = λ e. absurd cc }, (record { state = refl; by_match = λ e. absurd cc }, (record { state = refl; by_match = λ e. absurd cc }, tt)))
all_lead UnsignedOutOfRange LowLimit = (record { state = refl; by_match = λ e. absurd cc }, (record { state = refl; by_match = λ e. absurd cc }, (record { state = refl; by_match = λ e. absurd cc }, tt)))
all_lead UnsignedRange Normal = (record { state = refl; by_match = λ e. absurd cc }, (record { state = refl; by_match = λ e. absurd cc }, tt))
all_lead UnsignedRange Offnormal = tt
all_lead UnsignedRange Fault = tt
all_lead UnsignedRange HighLimit = (record { state = refl; by_match = λ e. absurd cc }, (record { state = refl; by_match = λ e. absurd cc }, tt))
all_lead UnsignedRange LowLimit = (record { state = refl; by_match = λ e. absurd cc }, (record { state = refl; by_match = λ e. absurd cc }, tt))

-- what is found among such rules passes the test and leads so
abbrev FoundLeads : Algorithm → (Rule → Bool) → Option Rule → Type 0
FoundLeads algorithm test None = Unit {0}
FoundLeads algorithm test (Some rule) = (test rule ≡ true) × Leads algorithm rule

found_by : (algorithm : Algorithm) (test : Rule → Bool) (b : Bool) (rule : Rule) (rest : Option Rule) → test rule ≡ b → Leads algorithm rule → FoundLeads algorithm test rest →
    FoundLeads algorithm test (if b then Some rule else rest)
found_by algorithm test true rule rest e one more = (e, one)
found_by algorithm test false rule rest e one more = more

found_leads : (algorithm : Algorithm) (test : Rule → Bool) (rules : List Rule) → AllLead algorithm rules → FoundLeads algorithm test (find test rules)
found_leads algorithm test [] all = tt
found_leads algorithm test (rule ∷ rules) all = found_by algorithm test (test rule) rule (find test rules) refl all.0 (found_leads algorithm test rules all.1)

-- ---- a rule that is held by an alarm value that matches

has_key : (rule : Rule) (cause : Option ℕ) (newest : Point) (older : List Point) (key : Option ℕ) → is_held_by rule cause newest older key ≡ true → is_some key ≡ true
has_key rule cause newest older None held = absurd cc
has_key rule cause newest older (Some key) held = refl

matched_by : (found : Option ℕ) → is_some {T = ℕ} (if is_some found then Some 0 else None) ≡ true → is_some found ≡ true
matched_by None e = e
matched_by (Some place) e = refl

other_by : (cause found : Option ℕ) → is_some (other_than cause found) ≡ true → is_some found ≡ true
other_by cause None e = absurd cc
other_by cause (Some place) e = refl

matched_where : (test : Test) (facts : Facts) (cause : Option ℕ) → IsTrue (finds_match test) → is_some (key_despite test cause (key_by test facts)) ≡ true → IsSome (matched_in facts)
matched_where SomeMatch facts cause finds key = matched_by (matched_in facts) key
matched_where OtherMatch facts cause finds key = other_by cause (matched_in facts) key
matched_where _ facts cause finds key = absurd cc

-- an object with a command failure has no alarm values
abbrev pub Suits : Algorithm → ℕ → Type 0
Suits algorithm values = algorithm ≡ CommandFailure → values ≡ 0

matched_held : (algorithm : Algorithm) (values : ℕ) (rule : Rule) (d : Detection) → Suits algorithm values → IsTrue (finds_match rule.test) ⊎ (algorithm ≡ CommandFailure) →
    is_held rule d.cause d.newest d.older ≡ true → 0 < values → IsSome (matched_in d.newest.facts)
matched_held algorithm values rule d suits (inl finds) held some =
    matched_where rule.test d.newest.facts d.cause finds (has_key rule d.cause d.newest d.older (key_in_detection rule d.newest.facts d.cause) held)
matched_held algorithm values rule d suits (inr command) held some = absurd (omega (arith, suits command, some))

-- ---- a state is entered

entered_cause : (to : EventState) (facts : Facts) (cause : Option ℕ) (values : ℕ) → IfSome (matched_in facts) (λ place. place < values) → IfSome cause (λ place. place < values) →
    IfSome (cause_on to facts cause) (λ place. place < values)
entered_cause Offnormal facts cause values matched before = matched
entered_cause Normal facts cause values matched before = before
entered_cause Fault facts cause values matched before = before
entered_cause HighLimit facts cause values matched before = before
entered_cause LowLimit facts cause values matched before = before

entered_caused : (to : EventState) (facts : Facts) (cause : Option ℕ) → (to ≡ Offnormal → IsSome (matched_in facts)) → to ≡ Offnormal → IsSome (cause_on to facts cause)
entered_caused Offnormal facts cause matched e = matched e
entered_caused Normal facts cause matched e = absurd cc
entered_caused Fault facts cause matched e = absurd cc
entered_caused HighLimit facts cause matched e = absurd cc
entered_caused LowLimit facts cause matched e = absurd cc

module _ (algorithm : Algorithm) (values last : ℕ) where
  Fits : Detection → Type 0
  Fits d = IsFit algorithm values last d

  entered_fit : (to : EventState) (by_fault : Bool) (d : Detection) → Fits d → IsTrue (is_state_of algorithm to) → (to ≡ Offnormal → 0 < values → IsSome (matched_in d.newest.facts)) →
      Fits (enters to by_fault d).detection
  unfolding Fits
  entered_fit to by_fault d fit state matched = record {
    state = state;
    cause = entered_cause to d.newest.facts d.cause values fit.newest.matched fit.cause;
    caused = λ e some. entered_caused to d.newest.facts d.cause (λ same. matched same some) e;
    newest = fit.newest;
    older = All-nil (IsSeen values last);
  }

  sees_fit : (point : Point) (d : Detection) → Fits d → IsSeen values last point → Fits (sees point d)
  unfolding Fits
  sees_fit point d fit seen = record { state = fit.state; cause = fit.cause; caused = fit.caused; newest = seen; older = All-cons (IsSeen values last) d.newest d.older fit.newest fit.older }

  -- ---- a fault comes or goes

  abbrev IsFaultTarget : Option EventState → Type 0
  IsFaultTarget None = Unit {0}
  IsFaultTarget (Some Normal) = Unit {0}
  IsFaultTarget (Some Fault) = Unit {0}
  IsFaultTarget (Some _) = ⊥

  target_by : (sound same fault : Bool) → IsFaultTarget (if sound then (if fault then Some Normal else None) else (if fault && same then None else Some Fault))
  target_by true same true = tt
  target_by true same false = tt
  target_by false true true = tt
  target_by false false true = tt
  target_by false same false = tt

  target_of : (now before : Reliability) (state : EventState) → IsFaultTarget (fault_target now before state)
  target_of now before state = target_by (number_of_reliability now == 0) (number_of_reliability now == number_of_reliability before) (is_fault state)

  fault_fit : (to : Option EventState) (d : Detection) → IsFaultTarget to → Fits d → Fits (fault_by to d).detection
  fault_fit None d is fit = fit
  fault_fit (Some Normal) d is fit = entered_fit Normal true d fit refl (λ e. absurd cc)
  fault_fit (Some Fault) d is fit = entered_fit Fault true d fit refl (λ e. absurd cc)
  fault_fit (Some Offnormal) d is fit = absurd is
  fault_fit (Some HighLimit) d is fit = absurd is
  fault_fit (Some LowLimit) d is fit = absurd is

  -- ---- an inhibition, and a rule

  inhibited_fit : (normal : Bool) (d : Detection) → Fits d → Fits (if normal then stays (record d { older = [] }) else enters Normal false d).detection
  unfolding Fits
  inhibited_fit true d fit = record { state = fit.state; cause = fit.cause; caused = fit.caused; newest = fit.newest; older = All-nil (IsSeen values last) }
  inhibited_fit false d fit = entered_fit Normal false d fit refl (λ e. absurd cc)

  module _ (suits : Suits algorithm values) where
    rule_fit : (found : Option Rule) (d : Detection) → FoundLeads algorithm (λ rule. is_held rule d.cause d.newest d.older) found → Fits d → Fits (rule_by found d).detection
    rule_fit None d leads fit = fit
    rule_fit (Some rule) d leads fit = entered_fit rule.target false d fit leads.1.state (λ e some. matched_held algorithm values rule d suits (leads.1.by_match e) leads.0 some)

    held_leads : (d : Detection) → FoundLeads algorithm (λ rule. is_held rule d.cause d.newest d.older) (rule_held algorithm d)
    held_leads d = found_leads algorithm (λ rule. is_held rule d.cause d.newest d.older) (rules_of algorithm d.state) (all_lead algorithm d.state)

    later_by : (fault inhibited : Bool) (d : Detection) → Fits d → Fits (if fault then stays d else (if inhibited then inhibited_step d else rule_by (rule_held algorithm d) d)).detection
    later_by true inhibited d fit = fit
    later_by false true d fit = inhibited_fit (is_normal d.state) d fit
    later_by false false d fit = rule_fit (rule_held algorithm d) d (held_leads d) fit

    look_by : (to : Option EventState) (d : Detection) → IsFaultTarget to → Fits d → Fits (and_then (fault_by to d) (later_step algorithm)).detection
    look_by to d is fit =
        let moved = (fault_by to d).detection in
        later_by (is_fault moved.state) moved.newest.inhibited moved (fault_fit to d is fit)

    -- the detection after a course
    pub detection_fit : (first : Point) (later : List Incident) → AreSeen values last first later → IsFit algorithm values last (detection_at algorithm first later)
    unfolding detection_at Fits
    detection_fit first [] seen = record { state = refl; cause = tt; caused = λ e. absurd cc; newest = seen; older = All-nil (IsSeen values last) }
    detection_fit first (Looked point ∷ older) seen =
        let d = detection_at algorithm first older in
        look_by (fault_target point.reliability d.reliability d.state) (sees point d) (target_of point.reliability d.reliability d.state)
        (sees_fit point d (detection_fit first older seen.1) seen.0)
    detection_fit first (Acknowledged transition ∷ older) seen = detection_fit first older seen
