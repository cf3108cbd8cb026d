-- From what a call answers to what stands among the octets, and back.
use Rattle.std.proofs.Common.{◌≡◌, ℕ, List, drop, Result, Ok, Err, sym, subst}
use Rattle.std.specs.Prelude.{IfOk, IfErr}
use Rattle.bac_tags.specs.declared.fault.TagFault.{TagFault}
use Rattle.bac_tags.specs.Places.{IsSpelledAt}
use Rattle.bac_tags.proofs.Standing.{Stands, Stands-from}

-- octets that spell the value stand there
pub record Spelled {X : Type 0} (Spells : List ℕ → X → Type 0) (input : List ℕ) (place : ℕ) (x : X) (end : ℕ) : Type 0 where
  pub octets : List ℕ
  pub stands : Stands input place octets end
  pub spells : Spells octets x

pub is_found : {X : Type 0} (Spells : List ℕ → X → Type 0) (input : List ℕ) (place : ℕ) (r read : Result (X × ℕ) TagFault) → r ≡ read
    → ((x : X × ℕ) → read ≡ Ok x → Spelled Spells input place x.0 x.1) → IfOk r (λ x. IsSpelledAt Spells input place x.0 x.1)
is_found Spells input place (Ok x) read e f =
    let s = f x (sym e) in
    record { octets = s.octets; rest = drop x.1 input; spelled = s.spells; there = s.stands.parts; ends = s.stands.ends }
is_found Spells input place (Err d) read e f = tt

pub is_only : {X : Type 0} (Spells : List ℕ → X → Type 0) (input : List ℕ) (place : ℕ) (read : Result (X × ℕ) TagFault)
    → ((octets : List ℕ) (x : X) (end : ℕ) → Spells octets x → Stands input place octets end → read ≡ Ok (x, end)) → (x : X) (end : ℕ) → IsSpelledAt Spells input place x end → read ≡ Ok (x, end)
is_only Spells input place read f x end s =
    f s.octets x end s.spelled (subst (λ (e : ℕ). Stands input place s.octets e) (sym s.ends) (Stands-from input place s.octets s.rest s.there))

-- the one fault of a reading
pub all_faults : {X : Type 0} (P : TagFault → Type 0) (r read : Result X TagFault) → r ≡ read → ((e : TagFault) → read ≡ Err e → P e) → IfErr r P
all_faults P (Ok x) read e f = tt
all_faults P (Err d) read e f = f d (sym e)
