-- Histories that go back to others, and parts of lists.
use Rattle.std.proofs.Common.{◌≡◌, ℕ, ◌+◌, ◌-◌, ◌≤◌, List, ◌++◌, length, take, drop, reverse, refl, ap, ◌∙◌, sym, subst, arith, append_assoc}
use Rattle.std.proofs.lemmas.List.{drop_at, drop-take, length-append, length-drop, length-reverse, length-take, reverse-append, take-append-drop, take-take}
use Rattle.alarm_core.specs.declared.event.Event.{Event}
use Rattle.standby.specs.Runs.{GoesBackTo}

-- two ends of one list that are as long as each other are one
pub one_end : {A : Type 0} (first second older other : List A) → first ++ older ≡ second ++ other → length older ≡ length other → older ≡ other
one_end first second older other e same =
    let long : length first ≡ length second = omega (arith, ap (λ (l : List _). length l) e, length-append first older, length-append second other, same) in
    sym (drop_at first older (length first) refl) ∙ (ap (λ (l : List _). drop (length first) l) e ∙ (ap (λ (n : ℕ). drop n (second ++ other)) long ∙ drop_at second other (length second) refl))

-- a history goes back to one history of each length
pub one_older : (history older other : List Event) → GoesBackTo history older → GoesBackTo history other → length older ≡ length other → older ≡ other
one_older history older other there also same = one_end there.0 also.0 older other (sym there.1 ∙ also.1) same

-- it goes back to what this goes back to
pub goes_further : (history older oldest : List Event) → GoesBackTo history older → GoesBackTo older oldest → GoesBackTo history oldest
goes_further history older oldest there further =
    (there.0 ++ further.0, there.1 ∙ (ap (λ (l : List Event). there.0 ++ l) further.1 ∙ sym (append_assoc there.0 further.0 oldest)))

-- and so does a longer one
pub goes_on : (history older events : List Event) → GoesBackTo history older → GoesBackTo (events ++ history) older
goes_on history older events there = (events ++ there.0, ap (λ (l : List Event). events ++ l) there.1 ∙ sym (append_assoc events there.0 older))

-- the first of some events, which stand behind older ones, and those past them
pub parted : (events older : List Event) (count : ℕ) → reverse events ++ older ≡ reverse (drop count events) ++ (reverse (take count events) ++ older)
parted events older count =
    ap (λ (l : List Event). reverse l ++ older) (sym (take-append-drop count events))
    ∙ (ap (λ (l : List Event). l ++ older) (reverse-append (take count events) (drop count events)) ∙ append_assoc (reverse (drop count events)) (reverse (take count events)) older)

-- Where a history has events behind some others, and one of its older histories ends among them, that one ends with the first of them, and those past them come next.
pub record Among (history older : List Event) (before : ℕ) (events : List Event) : Type 0 where
  pub next : GoesBackTo history (reverse (drop (length older - before) events) ++ older)
  pub long : length (reverse (drop (length older - before) events) ++ older) ≡ before + length events

pub among : (history older oldest events : List Event) → GoesBackTo history older → GoesBackTo history (reverse events ++ oldest) → length oldest ≤ length older → length older ≤ length oldest + length events
    → Among history older (length oldest) events
among history older oldest events there also low high =
    let count : ℕ = length older - length oldest in
    let first : List Event = reverse (take count events) ++ oldest in
    let split : reverse events ++ oldest ≡ reverse (drop count events) ++ first = parted events oldest count in
    let goes : GoesBackTo history (reverse (drop count events) ++ first) = subst (λ (l : List Event). GoesBackTo history l) split also in
    let long : length first ≡ length older = omega (arith, low, high, length-append (reverse (take count events)) oldest, length-reverse (take count events), length-take count events) in
    let same : first ≡ older = one_older history first older (goes_further history (reverse (drop count events) ++ first) first goes (reverse (drop count events), refl)) there long in
    record {
      next = subst (λ (l : List Event). GoesBackTo history (reverse (drop count events) ++ l)) same goes;
      long = omega (arith, low, high, length-append (reverse (drop count events)) older, length-reverse (drop count events), length-drop count events);
    }

-- the first octets of a list, and so many behind them
pub take_on : (first second : ℕ) (octets : List ℕ) → take first octets ++ take second (drop first octets) ≡ take (first + second) octets
take_on first second octets =
    ap (λ (l : List ℕ). l ++ take second (drop first octets)) (sym (take-take first (first + second) octets (omega arith)))
    ∙ (ap (λ (l : List ℕ). take first (take (first + second) octets) ++ l) (sym (drop-take first second octets)) ∙ take-append-drop first (take (first + second) octets))
