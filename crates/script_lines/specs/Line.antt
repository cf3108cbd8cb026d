-- What a line of a script says: in a trial, and in either grammar.
use Rattle.std.specs.Prelude.{◌≡◌, ℕ, ◌==◌, ◌||◌, nat_lt, Bool, true, Option, Some, None, option_and_then, List, [], ◌∷◌, length, if◌then◌else◌, codes}
use Rattle.std.specs.Str.{bytes_eq}
use Rattle.std.specs.Option.{option_map}
use Rattle.bac_values.specs.Identifier.{number_of_kind, ObjectIdData}
use Rattle.bac_values.specs.Moments.{IsMoment}
use Rattle.bac_values.specs.declared.input.Input.{Input}
use Rattle.bac_values.specs.declared.input.Input.TheVariants.{Tick, Pump, Set, Fault, Datagram}
use Rattle.bac_values.specs.declared.object_kind.ObjectKind.TheVariants.{IntegerValue}
use Rattle.bac_values.specs.declared.value.Value.TheVariants.{Signed}
use Rattle.script_lines.specs.declared.line.Grammar.{Grammar}
use Rattle.script_lines.specs.declared.line.Grammar.TheVariants.{Trial, Session, Packets}
use Rattle.script_lines.specs.declared.line.Line.{Line}
use Rattle.script_lines.specs.declared.line.Says.{Says}
use Rattle.script_lines.specs.declared.line.Says.TheVariants.{Skipped, Outside, Spells}
use Rattle.script_lines.specs.Number.{signed_of}
use Rattle.script_lines.specs.Words.{first_word, other_words, moment_of}
use Rattle.script_lines.specs.SessionLine.{session_line_of, IsOfOctets, IsSessionLine}

-- the object on trial: integer-value 1
abbrev pub trial_object : ObjectIdData
trial_object = record { number = number_of_kind IntegerValue; instance = 1 }

-- what a line of a trial can say: that time goes by, or a value with a sign for the object on trial
abbrev pub IsTrialInput : Input → Type 0
IsTrialInput Tick = Unit {0}
IsTrialInput (Set object (Signed v)) = object ≡ trial_object
IsTrialInput (Set object _) = ⊥
IsTrialInput Pump = ⊥
IsTrialInput (Fault object reliability) = ⊥
IsTrialInput (Datagram peer bytes) = ⊥

-- a moment in range, and what a line of a trial can say
pub record IsTrialLine (line : Line) : Type 0 where
  pub moment : IsMoment line.moment
  pub input : IsTrialInput line.input

-- the line `tick M`, from the words behind the first
abbrev pub tick_line : ℕ → List ℕ → Option Line
tick_line number words = option_map (λ m. record { number = number; moment = m; input = Tick }) (moment_of words)

-- the line `set M V`, which names the object on trial, from the words behind the first
abbrev pub set_line : ℕ → List ℕ → Option Line
set_line number words = option_and_then (λ m. option_map (λ v.
    record { number = number; moment = m; input = Set trial_object (Signed v) })
    (signed_of (other_words words))) (moment_of (first_word words))

-- the line with this number that a text spells
abbrev pub line_by_word : ℕ → List ℕ → Option Line
line_by_word number text =
    if bytes_eq (first_word text) (codes "tick") then tick_line number (other_words text) else
    (if bytes_eq (first_word text) (codes "set") then set_line number (other_words text) else None)

-- a blank line, or a comment; 35 is `#`
abbrev pub is_skipped : List ℕ → Bool
is_skipped [] = true
is_skipped (c ∷ cs) = c == 35

-- a script has at most so many lines
abbrev pub most_lines : ℕ
most_lines = 1000000

-- a line has at most so many octets, its line feed not counted
abbrev pub longest_line : ℕ
longest_line = 4096

-- an answer of a grammar
abbrev pub spells : {L : Type 0} → Option L → Says L
spells None = Outside
spells (Some line) = Spells line

-- the line with this number that a text spells in a grammar; a line of packets is none that names a moment
abbrev pub line_of : Grammar → ℕ → List ℕ → Option Line
line_of Trial number text = line_by_word number text
line_of Session number text = session_line_of number text
line_of Packets number text = None

-- what the octets of the line with this number say, in the grammar whose lines are those that this finds; what is longer than a line or a script may be is outside each grammar, also where it would be skipped
abbrev pub says_by : {L : Type 0} → (ℕ → List ℕ → Option L) → ℕ → List ℕ → Says L
says_by found number text =
    if nat_lt most_lines number || nat_lt longest_line (length text) then Outside else
    (if is_skipped text then Skipped else spells (found number text))

-- what the octets of the line with this number say of a trial's or a session's script
abbrev pub line_says : Grammar → ℕ → List ℕ → Says Line
line_says grammar number text = says_by (line_of grammar) number text

-- a line of a grammar
abbrev pub IsLineOf : Grammar → Line → Type 0
IsLineOf Trial line = IsTrialLine line
IsLineOf Session line = IsSessionLine line
IsLineOf Packets line = ⊥

-- this holds of a line that is spelled
abbrev pub IfSpells : {L : Type 0} → Says L → (L → Type 0) → Type 0
IfSpells Skipped P = Unit {0}
IfSpells Outside P = Unit {0}
IfSpells (Spells line) P = P line

-- a line of the grammar
abbrev pub IsSpelled : {L : Type 0} → Says L → Type 0
IsSpelled Skipped = ⊥
IsSpelled Outside = ⊥
IsSpelled (Spells line) = Unit {0}

-- a line of the grammar that sets an object to a text, or brings a datagram: holding its octets takes memory, as no other line does
abbrev pub HoldsOctets : Says Line → Type 0
HoldsOctets Skipped = ⊥
HoldsOctets Outside = ⊥
HoldsOctets (Spells line) = IsOfOctets line
