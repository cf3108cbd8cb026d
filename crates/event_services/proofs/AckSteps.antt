-- The parameters of AcknowledgeAlarm in their order, without their values: which of them are there, and why one is refused.
use Rattle.std.proofs.Common.{◌≡◌, ℕ, zero, suc, ◌+◌, ◌<◌, ◌≤◌, Some, List, [], ◌++◌, length, Result, Ok, Err, refl, sym, ap, subst, ◌∙◌, arith, inl, inr}
use Rattle.std.specs.Prelude.{◌⊎◌}
use Rattle.bac_tags.specs.declared.fault.TagFault.{TagFault}
use Rattle.bac_tags.specs.Contents.{SpellsUnsigned, SpellsEnumerated, SpellsObject}
use Rattle.bac_tags.specs.ReadingSteps.{valued, content_at, unsigned_at, object_at, ◌>>=◌}
use Rattle.bac_tags.proofs.Standing.{IsBytes, Stands, Stands-nil, Stands-then, Stands-front, Stands-back, Stands-within}
use Rattle.bac_tags.specs.declared.malformed.Malformed.{Malformed}
use Rattle.bac_tags.specs.Refusals.{invalid_tag, missing_parameter}
use Rattle.bac_tags.specs.ParameterReadingSteps.{required, nothing_follows}
use Rattle.bac_tags.specs.EnclosingSteps.{enclosed_at}
use Rattle.bac_tags.proofs.Steps.{bind_err, ok_is, err_is}
use Rattle.bac_tags.proofs.RequiredReaders.{required_outside}
use Rattle.bac_tags.proofs.ElementReaders.{Reader, whole, unsigned_reader, object_reader, octets_reader}
use Rattle.bac_tags.proofs.Sequences.{required_err, required_ok, required_again}
use Rattle.event_services.specs.Acknowledgements.{SpellsSource, SpellsStampOf, SpellsParameter, SpellsParameters}
use Rattle.event_services.specs.TimeStampSteps.{time_stamp_at}
use Rattle.event_services.proofs.StampReaders.{stamp_of_reader}

-- the place after a value
abbrev pub place_of : {X : Type 0} → Result (X × ℕ) Malformed → Result ℕ Malformed
place_of (Ok x) = Ok x.1
place_of (Err e) = Err e

place_ok : {X : Type 0} (r : Result (X × ℕ) Malformed) (end : ℕ) → place_of r ≡ Ok end → (x : X × ℕ) × (r ≡ Ok x) × (x.1 ≡ end)
place_ok (Ok x) end e = (x, refl, ok_is x.1 end e)
place_ok (Err d) end e = absurd cc

place_err : {X : Type 0} (r : Result (X × ℕ) Malformed) (e : Malformed) → place_of r ≡ Err e → r ≡ Err e
place_err (Ok x) e h = absurd cc
place_err (Err d) e h = ap Err (err_is {A = ℕ} d e h)

-- a parameter by its place in the order
abbrev pub source_at : List ℕ → ℕ → Result (List ℕ × ℕ) TagFault
source_at input place = valued whole (content_at input place 0 (Some 4) 1 4294967295)

abbrev pub step : ℕ → List ℕ → ℕ → Result ℕ Malformed
step zero input place = place_of (required input place (unsigned_at input place (Some 0)))
step (suc zero) input place = place_of (required input place (object_at input place (Some 1)))
step (suc (suc zero)) input place = place_of (required input place (unsigned_at input place (Some 2)))
step (suc (suc (suc zero))) input place = place_of (required input place (enclosed_at time_stamp_at 3 input place))
step (suc (suc (suc (suc zero)))) input place = place_of (required input place (source_at input place))
step (suc (suc (suc (suc (suc zero))))) input place = place_of (required input place (enclosed_at time_stamp_at 5 input place))
step (suc (suc (suc (suc (suc (suc n)))))) input place = Ok place

-- a parameter stands there
pub record Stood (k : ℕ) (input : List ℕ) (place end : ℕ) : Type 0 where
  pub octets : List ℕ
  pub stands : Stands input place octets end
  pub spells : SpellsParameter k octets

pub record StepLaws (k : ℕ) : Type 0 where
  pub ok : (input : List ℕ) (place end : ℕ) → IsBytes input → place ≤ length input → step k input place ≡ Ok end → Stood k input place end
  pub again : (input : List ℕ) (place : ℕ) (octets : List ℕ) (end : ℕ) → place ≤ length input → SpellsParameter k octets → Stands input place octets end → step k input place ≡ Ok end
  pub err : (input : List ℕ) (place : ℕ) (e : Malformed) → place ≤ length input → step k input place ≡ Err e → ((place ≡ length input) × (e ≡ missing_parameter (length input))) ⊎ ((place < length input) × (e ≡ invalid_tag place))
  pub outside : (input : List ℕ) (place : ℕ) → length input ≤ place → step k input place ≡ Err (missing_parameter (length input))

-- a parameter by its reader
pub record ByReader (k : ℕ) {X : Type 0} (Spells : List ℕ → X → Type 0) (read : List ℕ → ℕ → Result (X × ℕ) TagFault) : Type 0 where
  pub step_is : (input : List ℕ) (place : ℕ) → step k input place ≡ place_of (required input place (read input place))
  pub from : (octets : List ℕ) → SpellsParameter k octets → (x : X) × Spells octets x
  pub to : (octets : List ℕ) (x : X) → Spells octets x → SpellsParameter k octets

by_reader : (k : ℕ) {X : Type 0} (Spells : List ℕ → X → Type 0) (read : List ℕ → ℕ → Result (X × ℕ) TagFault) → Reader Spells read → ByReader k Spells read → StepLaws k
by_reader k {X = X} Spells read r b = record {
  ok = λ input place end bytes le e.
      let p = place_ok (required input place (read input place)) end (sym (b.step_is input place) ∙ e) in
      let s = required_ok Spells read r input place p.0 bytes le p.1 in
      subst (Stood k input place) p.2 (record { octets = s.octets; stands = s.stands; spells = b.to s.octets p.0.0 s.spells });
  again = λ input place octets end le s p. let x = b.from octets s in b.step_is input place ∙ ap place_of (required_again Spells read r input place octets x.0 end le x.1 p);
  err = λ input place e le h. required_err input place (read input place) e le (place_err (required input place (read input place)) e (sym (b.step_is input place) ∙ h));
  outside = λ input place past. b.step_is input place ∙ ap place_of (required_outside input place (read input place) past);
}

-- in a context an Enumerated is spelled as an Unsigned is
pub as_unsigned : (octets : List ℕ) (n : ℕ) → SpellsEnumerated (Some 2) octets n → SpellsUnsigned (Some 2) octets n
as_unsigned octets n s = record { header = s.header; content = s.content; parts = s.parts; tagged = s.tagged; is = s.is }

pub as_enumerated : (octets : List ℕ) (n : ℕ) → SpellsUnsigned (Some 2) octets n → SpellsEnumerated (Some 2) octets n
as_enumerated octets n s = record { header = s.header; content = s.content; parts = s.parts; tagged = s.tagged; is = s.is }

pub step_laws : (k : ℕ) → k < 6 → StepLaws k
step_laws zero lt = by_reader 0 (SpellsUnsigned (Some 0)) (λ input place. unsigned_at input place (Some 0)) (unsigned_reader 0) (record { step_is = λ input place. refl; from = λ octets s. s; to = λ octets x s. (x, s) })
step_laws (suc zero) lt = by_reader 1 (SpellsObject (Some 1)) (λ input place. object_at input place (Some 1)) (object_reader 1) (record { step_is = λ input place. refl; from = λ octets s. s; to = λ octets x s. (x, s) })
step_laws (suc (suc zero)) lt = by_reader 2 (SpellsUnsigned (Some 2)) (λ input place. unsigned_at input place (Some 2)) (unsigned_reader 2) (record { step_is = λ input place. refl; from = λ octets s. (s.0, as_unsigned octets s.0 s.1); to = λ octets x s. (x, as_enumerated octets x s) })
step_laws (suc (suc (suc zero))) lt = by_reader 3 (SpellsStampOf 3) (enclosed_at time_stamp_at 3) (stamp_of_reader 3) (record { step_is = λ input place. refl; from = λ octets s. s; to = λ octets x s. (x, s) })
step_laws (suc (suc (suc (suc zero)))) lt = by_reader 4 SpellsSource source_at (octets_reader 4 1 4294967295) (record { step_is = λ input place. refl; from = λ octets s. s; to = λ octets x s. (x, s) })
step_laws (suc (suc (suc (suc (suc zero))))) lt = by_reader 5 (SpellsStampOf 5) (enclosed_at time_stamp_at 5) (stamp_of_reader 5) (record { step_is = λ input place. refl; from = λ octets s. s; to = λ octets x s. (x, s) })
step_laws (suc (suc (suc (suc (suc (suc n)))))) lt = absurd (omega arith)

-- ---- one after the other

abbrev pub run : ℕ → ℕ → List ℕ → ℕ → Result (Unit {0}) Malformed
run zero k input place = nothing_follows input place
run (suc m) k input place = step k input place >>= run m (suc k) input

-- the parameters that are there, and why the next place is refused
pub record Cause (m k : ℕ) (input : List ℕ) (place : ℕ) (e : Malformed) : Type 0 where
  pub n : ℕ
  pub octets : List ℕ
  pub end : ℕ
  pub stands : Stands input place octets end
  pub spelled : SpellsParameters k n octets
  pub why : ((n < m) × (step (k + n) input end ≡ Err e)) ⊎ ((n ≡ m) × (nothing_follows input end ≡ Err e))

pub cause : (m k : ℕ) (input : List ℕ) (place : ℕ) (e : Malformed) → k + m ≤ 6 → IsBytes input → place ≤ length input → run m k input place ≡ Err e → Cause m k input place e
cause zero k input place e six bytes le h = record { n = 0; octets = []; end = place; stands = Stands-nil input place; spelled = refl; why = inr (refl, h) }
cause (suc m) k input place e six bytes le h =
    elim (bind_err (step k input place) (run m (suc k) input) e h) [
      | inl a ↦
          let here : k ≡ k + 0 = omega arith in
          record { n = 0; octets = []; end = place; stands = Stands-nil input place; spelled = refl; why = inl (omega arith, ap (λ (j : ℕ). step j input place) (sym here) ∙ a) }
      | inr a ↦
          let s = (step_laws k (omega arith)).ok input place a.0 bytes le a.1 in
          let r = cause m (suc k) input a.0 e (omega arith) bytes (Stands-within input place s.octets a.0 le s.stands) a.2 in
          let here : suc k + r.n ≡ k + suc r.n = omega arith in
          record {
            n = suc r.n;
            octets = s.octets ++ r.octets;
            end = r.end;
            stands = Stands-then input place s.octets a.0 r.octets r.end s.stands r.stands;
            spelled = (s.octets, r.octets, refl, s.spells, r.spelled);
            why = elim r.why [
              | inl w ↦ inl (omega (arith, w.0), ap (λ (j : ℕ). step j input r.end) (sym here) ∙ w.1)
              | inr w ↦ inr (ap suc w.0, w.1)
            ];
          }
    ]

pub run_fails : (m k n : ℕ) (input : List ℕ) (place : ℕ) (octets : List ℕ) (end : ℕ) (e : Malformed) → n < m → k + m ≤ 6 → place ≤ length input → SpellsParameters k n octets → Stands input place octets end → step (k + n) input end ≡ Err e
    → run m k input place ≡ Err e
run_fails zero k n input place octets end e lt six le s p h = absurd (omega arith)
run_fails (suc m) k zero input place octets end e lt six le s p h =
    let here : end ≡ place = omega (arith, p.ends, ap length s) in
    let same : k + 0 ≡ k = omega arith in
    ap (λ (r : Result ℕ Malformed). r >>= run m (suc k) input) (ap (λ (j : ℕ). step j input place) (sym same) ∙ ap (step (k + 0) input) (sym here) ∙ h)
run_fails (suc m) k (suc n) input place octets end e lt six le s p h =
    let q : Stands input place (s.0 ++ s.1) end = subst (λ (o : List ℕ). Stands input place o end) s.2 p in
    let front = Stands-front input place s.0 s.1 end q in
    let back = Stands-back input place s.0 s.1 end q in
    let same : k + suc n ≡ suc k + n = omega arith in
    ap (λ (r : Result ℕ Malformed). r >>= run m (suc k) input) ((step_laws k (omega arith)).again input place s.0 (place + length s.0) le s.3 front)
    ∙ run_fails m (suc k) n input (place + length s.0) s.1 end e (omega arith) (omega arith) (Stands-within input place s.0 (place + length s.0) le front) s.4 back (ap (λ (j : ℕ). step j input end) (sym same) ∙ h)

pub run_ends : (m k : ℕ) (input : List ℕ) (place : ℕ) (octets : List ℕ) (end : ℕ) → k + m ≤ 6 → place ≤ length input → SpellsParameters k m octets → Stands input place octets end → run m k input place ≡ nothing_follows input end
run_ends zero k input place octets end six le s p =
    let here : end ≡ place = omega (arith, p.ends, ap length s) in
    ap (nothing_follows input) (sym here)
run_ends (suc m) k input place octets end six le s p =
    let q : Stands input place (s.0 ++ s.1) end = subst (λ (o : List ℕ). Stands input place o end) s.2 p in
    let front = Stands-front input place s.0 s.1 end q in
    let back = Stands-back input place s.0 s.1 end q in
    ap (λ (r : Result ℕ Malformed). r >>= run m (suc k) input) ((step_laws k (omega arith)).again input place s.0 (place + length s.0) le s.3 front)
    ∙ run_ends m (suc k) input (place + length s.0) s.1 end (omega arith) (Stands-within input place s.0 (place + length s.0) le front) s.4 back
