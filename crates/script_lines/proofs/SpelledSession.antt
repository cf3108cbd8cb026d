-- What is known of a line that a session's text spells.
use Rattle.bac_values.specs.Limits.{most_datagram_octets}
use Rattle.std.proofs.Common.{◌≡◌, ℕ, ◌^◌, ◌-◌, ◌≤◌, ◌&&◌, nat_le, Bool, true, false, cond, Option, Some, None, IfSome, List, length, codes, refl, arith}
use Rattle.std.specs.Str.{bytes_eq}
use Rattle.std.proofs.lemmas.Bool.Decides.{nat_tests}
use Rattle.bac_values.specs.Moments.{first_moment, last_moment, IsMoment}
use Rattle.bac_values.specs.declared.input.Input.{Input}
use Rattle.bac_values.specs.declared.input.Input.TheVariants.{Tick, Pump}
use Rattle.script_lines.specs.declared.line.Line.{Line}
use Rattle.script_lines.specs.Words.{first_word, other_words, moment_of}
use Rattle.script_lines.specs.SessionLine.{◌>>=◌, IsDatagram, IsSessionInput, IsSessionLine, datagram_of, octets_of, object_of, value_of, peer_of, moment_line, value_line, fault_line, datagram_line, session_line_of}
use Rattle.script_lines.specs.Number.{number_of, up_to, unsigned_of}

-- a line with this number that is one of a session
pub record IsLineAt (number : ℕ) (line : Line) : Type 0 where
  pub numbered : line.number ≡ number
  pub of_session : IsSessionLine line

-- what holds of the next part holds of the whole
then_part : {A B : Type 0} (P : A → Type 0) (Q : B → Type 0) (o : Option A) (f : A → Option B) → IfSome o P → ((x : A) → P x → IfSome (f x) Q) → IfSome (o >>= f) Q
then_part P Q None f h g = tt
then_part P Q (Some x) f h g = g x h

any_part : {A : Type 0} (o : Option A) → IfSome o (λ _. Unit {0})
any_part None = tt
any_part (Some x) = tt

if_some : {A : Type 0} (P : A → Type 0) (b : Bool) (x : A) → (b ≡ true → P x) → IfSome (cond b (Some x) None) P
if_some P true x h = h refl
if_some P false x h = tt

up_to_small : (most : ℕ) (o : Option ℕ) → IfSome (up_to most o) (λ n. n ≤ most)
up_to_small most None = tt
up_to_small most (Some n) = if_some (λ n. n ≤ most) (nat_le n most) n (λ e. grind (arith, nat_tests))

moment_in_range : (word : List ℕ) → IfSome (moment_of word) IsMoment
moment_in_range word =
    then_part (λ m. m ≤ last_moment) IsMoment (unsigned_of last_moment word) (λ m. cond (nat_le first_moment m) (Some m) None) (up_to_small last_moment (number_of word))
    (λ m small. if_some IsMoment (nat_le first_moment m) m (λ e. let first : first_moment ≤ m = grind (arith, nat_tests) in (first, small)))

datagram_in_range : (digits : List ℕ) → IfSome (datagram_of digits) IsDatagram
datagram_in_range digits =
    then_part (λ _. Unit {0}) IsDatagram (octets_of digits) (λ octets. cond (nat_le 1 (length octets) && nat_le (length octets) most_datagram_octets) (Some octets) None) (any_part (octets_of digits))
    (λ octets _. if_some IsDatagram (nat_le 1 (length octets) && nat_le (length octets) most_datagram_octets) octets (λ e. (grind (arith, nat_tests), grind (arith, nat_tests))))

at_moment : (input : Input) (number : ℕ) (words : List ℕ) → IsSessionInput input → IfSome (moment_line input number words) (IsLineAt number)
unfolding moment_line
at_moment input number words h =
    then_part IsMoment (IsLineAt number) (moment_of words) _ (moment_in_range words)
    (λ m range. record { numbered = refl; of_session = record { moment = range; input = h } })

of_value : (number : ℕ) (words : List ℕ) → IfSome (value_line number words) (IsLineAt number)
unfolding value_line
of_value number words =
    then_part IsMoment (IsLineAt number) (moment_of (first_word words)) _ (moment_in_range (first_word words))
    (λ m range. then_part (λ _. Unit {0}) (IsLineAt number) (object_of (first_word (other_words words))) _ (any_part _)
    (λ object _. then_part (λ _. Unit {0}) (IsLineAt number) (value_of (other_words (other_words words))) _ (any_part _)
    (λ value _. record { numbered = refl; of_session = record { moment = range; input = tt } })))

of_fault : (number : ℕ) (words : List ℕ) → IfSome (fault_line number words) (IsLineAt number)
unfolding fault_line
of_fault number words =
    then_part IsMoment (IsLineAt number) (moment_of (first_word words)) _ (moment_in_range (first_word words))
    (λ m range. then_part (λ _. Unit {0}) (IsLineAt number) (object_of (first_word (other_words words))) _ (any_part _)
    (λ object _. then_part (λ _. Unit {0}) (IsLineAt number) (unsigned_of (2 ^ 32 - 1) (other_words (other_words words))) _ (any_part _)
    (λ reliability _. record { numbered = refl; of_session = record { moment = range; input = tt } })))

of_datagram : (number : ℕ) (words : List ℕ) → IfSome (datagram_line number words) (IsLineAt number)
unfolding datagram_line
of_datagram number words =
    then_part IsMoment (IsLineAt number) (moment_of (first_word words)) _ (moment_in_range (first_word words))
    (λ m range. then_part (λ _. Unit {0}) (IsLineAt number) (peer_of (first_word (other_words words))) _ (any_part _)
    (λ peer _. then_part IsDatagram (IsLineAt number) (datagram_of (other_words (other_words words))) _ (datagram_in_range _)
    (λ octets size. record { numbered = refl; of_session = record { moment = range; input = size } })))

either : (Q : Line → Type 0) (b : Bool) (x y : Option Line) → IfSome x Q → IfSome y Q → IfSome (cond b x y) Q
either Q true x y h k = h
either Q false x y h k = k

-- a line that is spelled has the number that it was asked for, and is one of a session
pub spelled_session : (number : ℕ) (text : List ℕ) → IfSome (session_line_of number text) (IsLineAt number)
unfolding session_line_of
spelled_session number text =
    let word = first_word text in
    let words = other_words text in
    let from = cond (bytes_eq word (codes "from")) (datagram_line number words) None in
    let fault = cond (bytes_eq word (codes "fault")) (fault_line number words) from in
    let set = cond (bytes_eq word (codes "set")) (value_line number words) fault in
    let pump = cond (bytes_eq word (codes "pump")) (moment_line Pump number words) set in
    either (IsLineAt number) (bytes_eq word (codes "tick")) (moment_line Tick number words) pump (at_moment Tick number words tt)
    (either (IsLineAt number) (bytes_eq word (codes "pump")) (moment_line Pump number words) set (at_moment Pump number words tt)
    (either (IsLineAt number) (bytes_eq word (codes "set")) (value_line number words) fault (of_value number words)
    (either (IsLineAt number) (bytes_eq word (codes "fault")) (fault_line number words) from (of_fault number words)
    (either (IsLineAt number) (bytes_eq word (codes "from")) (datagram_line number words) None (of_datagram number words) tt))))
