-- The clauses of the reader of stamps.
use Rattle.std.proofs.Common.{◌≡◌, ℕ, ◌+◌, ◌≤◌, None, List, ◌++◌, length, drop, Result, Ok, Err, refl, sym, ap, subst, ◌∙◌, arith, inl, inr}
use Rattle.std.specs.Prelude.{◌↔◌, ◌⊎◌, IfOk}
use Rattle.bac_values.specs.declared.stamp.Stamp.{Stamp}
use Rattle.bac_tags.specs.declared.fault.TagFault.{TagFault}
use Rattle.bac_tags.specs.declared.fault.TagFault.TheVariants.{Truncated, WrongTag, BadLength}
use Rattle.bac_tags.specs.Places.{IsSpelledAt}
use Rattle.bac_tags.specs.Elements.{SpellsElement, EndsInElement, HasOtherTag, HasOtherLength}
use Rattle.bac_tags.specs.Stamps.{IsFour, SpellsDate, SpellsStamp, HasDate}
use Rattle.bac_tags.specs.ReadingSteps.{◌>>=◌, content_at, stamp_at}
use Rattle.bac_tags.proofs.Steps.{bind_ok, bind_err, ok_is}
use Rattle.bac_tags.proofs.Standing.{IsBytes, Stands, Stands-from, Stands-then, Stands-front, Stands-back, Stands-within}
use Rattle.bac_tags.proofs.Answered.{Spelled, is_found, is_only}
use Rattle.bac_tags.proofs.ElementLaws.{StandsContent, content_found, content_again, content_err, content_truncated, content_wrong_tag, content_bad_length}

abbrev made : List ℕ → Stamp
made octets = record { octets = octets }

-- a content of four octets is spelled
four_found : (input : List ℕ) (place type : ℕ) (x : List ℕ × ℕ) → IsBytes input → place ≤ length input → content_at input place type None 4 4 ≡ Ok x → Spelled (SpellsElement type None IsFour) input place x.0 x.1
four_found input place type x bytes le e =
    let s = content_found input place type None 4 4 x bytes le e in
    record { octets = s.header ++ x.0; stands = s.stands; spells = record { header = s.header; content = x.0; parts = refl; tagged = s.tagged; is = (omega (arith, s.right.0, s.right.1), refl) } }

four_again : (input : List ℕ) (place type : ℕ) (octets x : List ℕ) (end : ℕ) → place ≤ length input → SpellsElement type None IsFour octets x → Stands input place octets end → content_at input place type None 4 4 ≡ Ok (x, end)
four_again input place type octets x end le s p =
    let stands : StandsContent input place type None 4 4 s.content end = record { header = s.header; stands = subst (λ (o : List ℕ). Stands input place o end) s.parts p; tagged = s.tagged; right = (omega (arith, s.is.0), omega (arith, s.is.0)) } in
    content_again input place type None 4 4 s.content end le stands ∙ ap (λ (c : List ℕ). Ok (c, end)) (sym s.is.1)

abbrev after_date : List ℕ → List ℕ × ℕ → Result (Stamp × ℕ) TagFault
after_date input date = content_at input date.1 11 None 4 4 >>= λ time. Ok (made (date.0 ++ time.0), time.1)

stamp_found : (input : List ℕ) (place : ℕ) (x : Stamp × ℕ) → IsBytes input → place ≤ length input → stamp_at input place ≡ Ok x → Spelled SpellsStamp input place x.0 x.1
unfolding stamp_at
stamp_found input place x bytes le e =
    let a = bind_ok (content_at input place 10 None 4 4) (after_date input) x e in
    let b = bind_ok (content_at input a.0.1 11 None 4 4) (λ time. Ok (made (a.0.0 ++ time.0), time.1)) x a.2 in
    let date = four_found input place 10 a.0 bytes le a.1 in
    let within : a.0.1 ≤ length input = Stands-within input place date.octets a.0.1 le date.stands in
    let time = four_found input a.0.1 11 b.0 bytes within b.1 in
    subst (λ (y : Stamp × ℕ). Spelled SpellsStamp input place y.0 y.1) (ok_is (made (a.0.0 ++ b.0.0), b.0.1) x b.2) (record {
      octets = date.octets ++ time.octets;
      stands = Stands-then input place date.octets a.0.1 time.octets b.0.1 date.stands time.stands;
      spells = record { date_octets = date.octets; time_octets = time.octets; date = a.0.0; time = b.0.0; parts = refl; dated = date.spells; timed = time.spells; is = refl };
    })

pub stamp_again : (input : List ℕ) (place : ℕ) → place ≤ length input → (octets : List ℕ) (stamp : Stamp) (end : ℕ) → SpellsStamp octets stamp → Stands input place octets end → stamp_at input place ≡ Ok (stamp, end)
unfolding stamp_at
stamp_again input place le octets stamp end s p =
    let q : Stands input place (s.date_octets ++ s.time_octets) end = subst (λ (o : List ℕ). Stands input place o end) s.parts p in
    let front = Stands-front input place s.date_octets s.time_octets end q in
    let back = Stands-back input place s.date_octets s.time_octets end q in
    let within : place + length s.date_octets ≤ length input = Stands-within input place s.date_octets (place + length s.date_octets) le front in
    rw (four_again input place 10 s.date_octets s.date (place + length s.date_octets) le s.dated front, four_again input (place + length s.date_octets) 11 s.time_octets s.time end within s.timed back) (ap (λ (o : List ℕ). Ok (made o, end)) (sym s.is))

date_there : (input : List ℕ) (place : ℕ) (x : List ℕ × ℕ) → IsBytes input → place ≤ length input → content_at input place 10 None 4 4 ≡ Ok x → IsSpelledAt SpellsDate input place x.0 x.1 × (x.1 ≤ length input)
date_there input place x bytes le e =
    let s = four_found input place 10 x bytes le e in
    (record { octets = s.octets; rest = drop x.1 input; spelled = s.spells; there = s.stands.parts; ends = s.stands.ends }, Stands-within input place s.octets x.1 le s.stands)

date_reads : (input : List ℕ) (place : ℕ) (date : List ℕ) (end : ℕ) → place ≤ length input → IsSpelledAt SpellsDate input place date end → (content_at input place 10 None 4 4 ≡ Ok (date, end)) × (end ≤ length input)
date_reads input place date end le s =
    let p : Stands input place s.octets end = subst (λ (e : ℕ). Stands input place s.octets e) (sym s.ends) (Stands-from input place s.octets s.rest s.there) in
    (four_again input place 10 s.octets date end le s.spelled p, Stands-within input place s.octets end le p)

-- what a stamp's reading fails with
stamp_err : (input : List ℕ) (place : ℕ) (e : TagFault) → IsBytes input → place ≤ length input → stamp_at input place ≡ Err e
    → (content_at input place 10 None 4 4 ≡ Err e) ⊎ HasDate input place (λ end. (end ≤ length input) × (content_at input end 11 None 4 4 ≡ Err e))
unfolding stamp_at
stamp_err input place e bytes le h =
    elim (bind_err (content_at input place 10 None 4 4) (after_date input) e h) [
      | inl a ↦ inl a
      | inr a ↦
          let d = date_there input place a.0 bytes le a.1 in
          elim (bind_err (content_at input a.0.1 11 None 4 4) (λ time. Ok (made (a.0.0 ++ time.0), time.1)) e a.2) [
            | inl b ↦ inr (record { date = a.0.0; end = a.0.1; there = d.0; behind = (d.1, b) })
            | inr b ↦ absurd (let bad = b.2 in cc)
          ]
    ]

date_fails : (input : List ℕ) (place : ℕ) (e : TagFault) → content_at input place 10 None 4 4 ≡ Err e → stamp_at input place ≡ Err e
unfolding stamp_at
date_fails input place e h = rw h refl

time_fails : (input : List ℕ) (place : ℕ) (date : List ℕ) (end : ℕ) (e : TagFault) → content_at input place 10 None 4 4 ≡ Ok (date, end) → content_at input end 11 None 4 4 ≡ Err e → stamp_at input place ≡ Err e
unfolding stamp_at
time_fails input place date end e d h = rw (d, h) refl

-- the place of a fault
wrong_place : (input : List ℕ) (at type place : ℕ) → IsBytes input → at ≤ length input → (content_at input at type None 4 4 ≡ Err (WrongTag place)) ↔ ((place ≡ at) × HasOtherTag type None (drop at input))
wrong_place input at type place bytes le = (there, back)
  where
    there : content_at input at type None 4 4 ≡ Err (WrongTag place) → (place ≡ at) × HasOtherTag type None (drop at input)
    there h = elim (content_err input at type None 4 4 (WrongTag place) bytes le h) [
      | inl a ↦ absurd (let bad = a.1 in cc)
      | inr a ↦ elim a [ inl b ↦ (let same = b.1 in cc, b.0) | inr b ↦ absurd (let bad = b.1 in cc) ]
    ]

    back : (place ≡ at) × HasOtherTag type None (drop at input) → content_at input at type None 4 4 ≡ Err (WrongTag place)
    back h = (content_wrong_tag input at type None 4 4 bytes le).1 h.1 ∙ ap (λ (n : ℕ). Err (WrongTag n)) (sym h.0)

bad_place : (input : List ℕ) (at type place : ℕ) → IsBytes input → at ≤ length input → (content_at input at type None 4 4 ≡ Err (BadLength place)) ↔ ((place ≡ at) × HasOtherLength type None 4 4 (drop at input))
bad_place input at type place bytes le = (there, back)
  where
    there : content_at input at type None 4 4 ≡ Err (BadLength place) → (place ≡ at) × HasOtherLength type None 4 4 (drop at input)
    there h = elim (content_err input at type None 4 4 (BadLength place) bytes le h) [
      | inl a ↦ absurd (let bad = a.1 in cc)
      | inr a ↦ elim a [ inl b ↦ absurd (let bad = b.1 in cc) | inr b ↦ (let same = b.1 in cc, b.0) ]
    ]

    back : (place ≡ at) × HasOtherLength type None 4 4 (drop at input) → content_at input at type None 4 4 ≡ Err (BadLength place)
    back h = (content_bad_length input at type None 4 4 bytes le).1 h.1 ∙ ap (λ (n : ℕ). Err (BadLength n)) (sym h.0)

-- a fault comes from the date, or from the time behind it
fault_of : (input : List ℕ) (at : ℕ) (e : TagFault) (OfDate : Type 0) (OfTime : ℕ → Type 0) → IsBytes input → at ≤ length input
    → ((content_at input at 10 None 4 4 ≡ Err e) ↔ OfDate) → ((end : ℕ) → end ≤ length input → (content_at input end 11 None 4 4 ≡ Err e) ↔ OfTime end)
    → (stamp_at input at ≡ Err e) ↔ (OfDate ⊎ HasDate input at OfTime)
fault_of input at e OfDate OfTime bytes le date time = (there, back)
  where
    there : stamp_at input at ≡ Err e → OfDate ⊎ HasDate input at OfTime
    there h = elim (stamp_err input at e bytes le h) [
      | inl a ↦ inl (date.0 a)
      | inr a ↦ inr (record { date = a.date; end = a.end; there = a.there; behind = (time a.end a.behind.0).0 a.behind.1 })
    ]

    back : OfDate ⊎ HasDate input at OfTime → stamp_at input at ≡ Err e
    back (inl h) = date_fails input at e (date.1 h)
    back (inr h) = let d = date_reads input at h.date h.end le h.there in time_fails input at h.date h.end e d.0 ((time h.end d.1).1 h.behind)

pub record ReadsStamp (input : List ℕ) (at : ℕ) (answer : Result (Stamp × ℕ) TagFault) : Type 0 where
  pub found : IfOk answer (λ x. IsSpelledAt SpellsStamp input at x.0 x.1)
  pub only : (stamp : Stamp) (end : ℕ) → IsSpelledAt SpellsStamp input at stamp end → answer ≡ Ok (stamp, end)
  pub truncated : (answer ≡ Err (Truncated (length input))) ↔ (EndsInElement 10 None 4 4 (drop at input) ⊎ HasDate input at (λ end. EndsInElement 11 None 4 4 (drop end input)))
  pub wrong_tag : (place : ℕ) → (answer ≡ Err (WrongTag place)) ↔ (((place ≡ at) × HasOtherTag 10 None (drop at input)) ⊎ HasDate input at (λ end. (place ≡ end) × HasOtherTag 11 None (drop end input)))
  pub bad_length : (place : ℕ) → (answer ≡ Err (BadLength place)) ↔ (((place ≡ at) × HasOtherLength 10 None 4 4 (drop at input)) ⊎ HasDate input at (λ end. (place ≡ end) × HasOtherLength 11 None 4 4 (drop end input)))

same_err : {A P : Type 0} (r s : Result A TagFault) (e : TagFault) → r ≡ s → ((s ≡ Err e) ↔ P) → (r ≡ Err e) ↔ P
same_err r s e same h = (λ a. h.0 (sym same ∙ a), λ p. same ∙ h.1 p)

pub reads_stamp : (input : List ℕ) (at : ℕ) (answer : Result (Stamp × ℕ) TagFault) → IsBytes input → at ≤ length input → answer ≡ stamp_at input at → ReadsStamp input at answer
reads_stamp input at answer bytes le e =
    record {
      found = is_found SpellsStamp input at answer (stamp_at input at) e (λ x h. stamp_found input at x bytes le h);
      only = λ stamp end s. e ∙ is_only SpellsStamp input at (stamp_at input at) (stamp_again input at le) stamp end s;
      truncated = same_err answer (stamp_at input at) (Truncated (length input)) e (fault_of input at (Truncated (length input)) (EndsInElement 10 None 4 4 (drop at input)) (λ end. EndsInElement 11 None 4 4 (drop end input)) bytes le (content_truncated input at 10 None 4 4 bytes le) (λ end within. content_truncated input end 11 None 4 4 bytes within));
      wrong_tag = λ place. same_err answer (stamp_at input at) (WrongTag place) e (fault_of input at (WrongTag place) ((place ≡ at) × HasOtherTag 10 None (drop at input)) (λ end. (place ≡ end) × HasOtherTag 11 None (drop end input)) bytes le (wrong_place input at 10 place bytes le) (λ end within. wrong_place input end 11 place bytes within));
      bad_length = λ place. same_err answer (stamp_at input at) (BadLength place) e (fault_of input at (BadLength place) ((place ≡ at) × HasOtherLength 10 None 4 4 (drop at input)) (λ end. (place ≡ end) × HasOtherLength 11 None 4 4 (drop end input)) bytes le (bad_place input at 10 place bytes le) (λ end within. bad_place input end 11 place bytes within));
    }
