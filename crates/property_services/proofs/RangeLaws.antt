-- The clauses of the reader of ReadRange.
use Rattle.std.proofs.Common.{◌≡◌, ◌≢◌, ℕ, ℤ, ◌+◌, ◌<◌, ◌≤◌, Bool, true, false, eqb, Option, Some, None, List, [], ◌++◌, length, drop, Result, Ok, Err, refl, sym, ap, subst, ◌∙◌, append_assoc, arith, inl, inr}
use Rattle.std.specs.Prelude.{◌⊎◌}
use Rattle.std.proofs.lemmas.Bool.{cases_lt, cases_Bool, lt-ltb, le-ltb, eqb-true, eq-eqb, ne_eqb}
use Rattle.bac_values.specs.declared.stamp.Stamp.{Stamp}
use Rattle.bac_tags.specs.declared.fault.TagFault.{TagFault}
use Rattle.bac_tags.specs.declared.tag.Tag.{Tag}
use Rattle.bac_tags.specs.declared.tag.Shape.{Shape}
use Rattle.bac_tags.specs.declared.tag.Shape.TheVariants.{Primitive, Opening, Closing}
use Rattle.bac_tags.specs.Places.{IsSpelledAt}
use Rattle.bac_tags.specs.Tags.{SpellsTag}
use Rattle.bac_tags.specs.Elements.{element_tag}
use Rattle.bac_tags.specs.Contents.{SpellsUnsigned}
use Rattle.bac_tags.specs.Stamps.{SpellsStamp}
use Rattle.bac_tags.specs.ReadingSteps.{tag_at, unsigned_at, stamp_at, ◌>>=◌}
use Rattle.bac_tags.proofs.Steps as tags
use Rattle.bac_tags.proofs.Standing.{IsBytes, Stands, Stands-from, Stands-then, Stands-front, Stands-back, Stands-within}
use Rattle.bac_tags.proofs.TagLaws.{tag_found, tag_again}
use Rattle.bac_tags.specs.declared.malformed.Malformed.{Malformed}
use Rattle.bac_tags.specs.Refusals.{invalid_tag, Behind}
use Rattle.bac_tags.specs.Parameters.{IsThere, IsAbsent}
use Rattle.bac_tags.specs.EnclosingTags.{opening, IsOtherTag, SpellsEnclosed}
use Rattle.bac_tags.specs.ParameterReadingSteps.{or_invalid}
use Rattle.bac_tags.proofs.Steps.{bind_ok, bind_err, ok_is}
use Rattle.property_services.specs.declared.requests.ReadRequest.{ReadRequest}
use Rattle.property_services.specs.declared.requests.RangeRequest.{RangeRequest}
use Rattle.property_services.specs.declared.requests.RangeBy.{RangeBy}
use Rattle.property_services.specs.declared.requests.RangeBy.TheVariants.{All, Position, Sequence, Time}
use Rattle.property_services.specs.Requests.{SpellsCounted, SpellsGivenRange, SpellsRange, SpellsReadRange, reference_of}
use Rattle.property_services.specs.ReadingSteps.{opened, counted_at, dated_at, range_behind, range_at, range_request, range_request_at, reference_at, read_range_of}
use Rattle.property_services.specs.Refusals.{IsNoRange, IsRangeAt, RefusesRange, IsReferenceAt, RefusesReference, IsRangeRequestAt, RefusesReadRange}
use Rattle.bac_tags.proofs.ParameterAnswers.{Answers, Both, Made, then, mapped, said, Whole, ended, whole_said}
use Rattle.bac_tags.proofs.ElementAnswers.{invalid_ok, invalid_err, ends_within, begins_before, tag_some}
use Rattle.property_services.proofs.References.{stands, spelled_at, reference_answers, reference_within, refers_of, reference_of_octets, all_of, all_stand}
use Rattle.property_services.proofs.Ranges.{unsigned_finds, stamp_finds, list_at, Listed, list_found, list_again, list_err}

-- ---- the tag of a range

abbrev opens : Tag → Option ℕ
opens tag = opened tag.context tag.shape tag.number

abbrev made : ℕ → Bool → Shape → Tag
made number context shape = record { number = number; context = context; shape = shape }

opens_is : (tag : Tag) (n : ℕ) → opens tag ≡ Some n → tag ≡ opening n
opens_is tag n e = go tag.context tag.shape tag.number e
  where
    go : (context : Bool) (shape : Shape) (number : ℕ) → opened context shape number ≡ Some n → made number context shape ≡ opening n
    go true Opening number e = let same : number ≡ n = cc in ap (λ (k : ℕ). made k true Opening) same
    go true Closing number e = absurd cc
    go true (Primitive m) number e = absurd cc
    go false shape number e = absurd cc

not_opening : (tag : Tag) (o : Option ℕ) (k : ℕ) → opens tag ≡ o → o ≢ Some k → tag ≢ opening k
not_opening tag o k e other same = other (sym e ∙ ap opens same)

-- ---- reading behind it

abbrev as_position : (ℕ × ℤ) × ℕ → Result (RangeBy × ℕ) Malformed
as_position x = Ok (Position x.0.0 x.0.1, x.1)

abbrev as_sequence : (ℕ × ℤ) × ℕ → Result (RangeBy × ℕ) Malformed
as_sequence x = Ok (Sequence x.0.0 x.0.1, x.1)

abbrev as_time : (Stamp × ℤ) × ℕ → Result (RangeBy × ℕ) Malformed
as_time x = Ok (Time x.0.0 x.0.1, x.1)

abbrev pub number_from : List ℕ → ℕ → Result (ℕ × ℕ) TagFault
number_from input place = unsigned_at input place None

counted_is : (input : List ℕ) (begin place number : ℕ) → counted_at input begin place number ≡ list_at number_from input begin place number
unfolding counted_at
counted_is input begin place number = refl

dated_is : (input : List ℕ) (begin place number : ℕ) → dated_at input begin place number ≡ list_at stamp_at input begin place number
unfolding dated_at
dated_is input begin place number = refl

-- the four ways on
pub record Ways (input : List ℕ) (begin place : ℕ) (o : Option ℕ) : Type 0 where
  pub three : o ≡ Some 3 → range_behind input begin place o ≡ (list_at number_from input begin place 3 >>= as_position)
  pub six : o ≡ Some 6 → range_behind input begin place o ≡ (list_at number_from input begin place 6 >>= as_sequence)
  pub seven : o ≡ Some 7 → range_behind input begin place o ≡ (list_at stamp_at input begin place 7 >>= as_time)
  pub none : o ≢ Some 3 → o ≢ Some 6 → o ≢ Some 7 → range_behind input begin place o ≡ Ok (All, begin)

ways : (input : List ℕ) (begin place : ℕ) (o : Option ℕ) → Ways input begin place o
unfolding range_behind
ways input begin place None = record { three = λ e. absurd cc; six = λ e. absurd cc; seven = λ e. absurd cc; none = λ a b d. refl }
ways input begin place (Some n) =
    record {
      three = λ e. let same : n ≡ 3 = cc in rw same (ap (λ (r : Result ((ℕ × ℤ) × ℕ) Malformed). r >>= as_position) (counted_is input begin place 3));
      six = λ e. let same : n ≡ 6 = cc in rw same (ap (λ (r : Result ((ℕ × ℤ) × ℕ) Malformed). r >>= as_sequence) (counted_is input begin place 6));
      seven = λ e. let same : n ≡ 7 = cc in rw same (ap (λ (r : Result ((Stamp × ℤ) × ℕ) Malformed). r >>= as_time) (dated_is input begin place 7));
      none = λ a b d. rw (ne_eqb n 3 (λ e. a (ap (λ (k : ℕ). Some k) e)), ne_eqb n 6 (λ e. b (ap (λ (k : ℕ). Some k) e)), ne_eqb n 7 (λ e. d (ap (λ (k : ℕ). Some k) e))) refl;
    }

abbrev none_but : ℕ → Option ℕ
none_but n = Some n

-- which of them
pub data Which (o : Option ℕ) : Type 0 where
  three : o ≡ Some 3 → Which o
  six : o ≡ Some 6 → Which o
  seven : o ≡ Some 7 → Which o
  none : o ≢ Some 3 → o ≢ Some 6 → o ≢ Some 7 → Which o

which : (o : Option ℕ) → Which o
which None = none (λ e. absurd cc) (λ e. absurd cc) (λ e. absurd cc)
which (Some n) =
    elim (cases_Bool (eqb n 3)) [
      | inl a ↦ three (ap (λ (k : ℕ). Some k) (eqb-true n 3 a))
      | inr a ↦
          elim (cases_Bool (eqb n 6)) [
            | inl b ↦ six (ap (λ (k : ℕ). Some k) (eqb-true n 6 b))
            | inr b ↦
                elim (cases_Bool (eqb n 7)) [
                  | inl d ↦ seven (ap (λ (k : ℕ). Some k) (eqb-true n 7 d))
                  | inr d ↦ none (differs n 3 a) (differs n 6 b) (differs n 7 d)
                ]
          ]
    ]
  where
    differs : (n k : ℕ) → eqb n k ≡ false → none_but n ≢ Some k
    differs n k e same = let equal : n ≡ k = cc in let holds = eq-eqb n k equal in cc

-- a range between its tags stands at the place
enclosed_stands : {X : Type 0} (Spells : List ℕ → X → Type 0) (number : ℕ) (input : List ℕ) (place : ℕ) (front : List ℕ) (start : ℕ) (x : X × ℤ) (end : ℕ) → SpellsTag front (opening number) → Stands input place front start
    → Listed Spells number input start x end → IsSpelledAt (SpellsEnclosed number (SpellsCounted Spells)) input place x end
enclosed_stands Spells number input place front start x end opened p h =
    let all = Stands-then input place front start (h.inside ++ h.back) end p h.stands in
    record {
      octets = front ++ (h.inside ++ h.back);
      rest = drop end input;
      spelled = record { front = front; inside = h.inside; back = h.back; parts = refl; opened = opened; spelled = h.spelled; closed = h.closed };
      there = all.parts;
      ends = all.ends;
    }

-- what a range's reading gives behind a tag
abbrev behind : List ℕ → ℕ → Tag × ℕ → Result (RangeBy × ℕ) Malformed
behind input place tag = range_behind input place tag.1 (opens tag.0)

other_tag : (input : List ℕ) (place : ℕ) (octets : List ℕ) (tag : Tag) (end k : ℕ) → Stands input place octets end → SpellsTag octets tag → opens tag ≢ Some k → IsOtherTag (opening k) (drop place input)
other_tag input place octets tag end k p s other =
    record { header = octets; rest = drop end input; found = tag; parts = p.parts; tagged = s; other = not_opening tag (opens tag) k refl other }

abbrev IsRange : List ℕ → ℕ → RangeBy × ℕ → Type 0
IsRange input place y = IsRangeAt input place y.0 y.1

found_behind : (input : List ℕ) (place : ℕ) (octets : List ℕ) (tag : Tag) (start : ℕ) (y : RangeBy × ℕ) → IsBytes input → start ≤ length input → Stands input place octets start → SpellsTag octets tag
    → range_behind input place start (opens tag) ≡ Ok y → Which (opens tag) → IsRange input place y
found_behind input place octets tag start y bytes le p s e (three is) =
    let a = bind_ok (list_at number_from input place start 3) as_position y (sym ((ways input place start (opens tag)).three is) ∙ e) in
    let h = list_found (SpellsUnsigned None) number_from unsigned_finds input place start 3 a.0 bytes le a.1 in
    let here = enclosed_stands (SpellsUnsigned None) 3 input place octets start a.0.0 a.0.1 (subst (SpellsTag octets) (opens_is tag 3 is) s) p h in
    subst (IsRange input place) (ok_is (Position a.0.0.0 a.0.0.1, a.0.1) y a.2) (inr (record { octets = here.octets; rest = here.rest; spelled = here.spelled; there = here.there; ends = here.ends }))
found_behind input place octets tag start y bytes le p s e (six is) =
    let a = bind_ok (list_at number_from input place start 6) as_sequence y (sym ((ways input place start (opens tag)).six is) ∙ e) in
    let h = list_found (SpellsUnsigned None) number_from unsigned_finds input place start 6 a.0 bytes le a.1 in
    let here = enclosed_stands (SpellsUnsigned None) 6 input place octets start a.0.0 a.0.1 (subst (SpellsTag octets) (opens_is tag 6 is) s) p h in
    subst (IsRange input place) (ok_is (Sequence a.0.0.0 a.0.0.1, a.0.1) y a.2) (inr (record { octets = here.octets; rest = here.rest; spelled = here.spelled; there = here.there; ends = here.ends }))
found_behind input place octets tag start y bytes le p s e (seven is) =
    let a = bind_ok (list_at stamp_at input place start 7) as_time y (sym ((ways input place start (opens tag)).seven is) ∙ e) in
    let h = list_found SpellsStamp stamp_at stamp_finds input place start 7 a.0 bytes le a.1 in
    let here = enclosed_stands SpellsStamp 7 input place octets start a.0.0 a.0.1 (subst (SpellsTag octets) (opens_is tag 7 is) s) p h in
    subst (IsRange input place) (ok_is (Time a.0.0.0 a.0.0.1, a.0.1) y a.2) (inr (record { octets = here.octets; rest = here.rest; spelled = here.spelled; there = here.there; ends = here.ends }))
found_behind input place octets tag start y bytes le p s e (none a b d) =
    let all = sym ((ways input place start (opens tag)).none a b d) ∙ e in
    let at = λ (k : ℕ). other_tag input place octets tag start k p s in
    subst (IsRange input place) (ok_is (All, place) y all) (inl (refl, refl, inr (at 3 a, at 6 b, at 7 d)))

-- ---- the clauses

range_inside : (input : List ℕ) (place : ℕ) → place < length input → range_at input place ≡ (or_invalid place (tag_at input place) >>= behind input place)
unfolding range_at
range_inside input place lt = rw (lt-ltb place (length input) lt) refl

range_outside : (input : List ℕ) (place : ℕ) → length input ≤ place → range_at input place ≡ Ok (All, place)
unfolding range_at
range_outside input place le = rw (le-ltb place (length input) le) refl

range_found : (input : List ℕ) (place : ℕ) (y : RangeBy × ℕ) → IsBytes input → place ≤ length input → range_at input place ≡ Ok y → IsRange input place y
range_found input place y bytes le e =
    elim (cases_lt place (length input)) [
      | inl lt ↦
          let a = bind_ok (or_invalid place (tag_at input place)) (behind input place) y (sym (range_inside input place lt) ∙ e) in
          let t = tag_found input place a.0 bytes (invalid_ok place (tag_at input place) a.0 a.1) in
          let within = Stands-within input place t.octets a.0.1 le t.stands in
          found_behind input place t.octets a.0.0 a.0.1 y bytes within t.stands t.spells a.2 (which (opens a.0.0))
      | inr ge ↦ subst (IsRange input place) (ok_is (All, place) y (sym (range_outside input place ge) ∙ e)) (inl (refl, refl, inl (omega arith)))
    ]

-- behind a whole tag
range_after : (input : List ℕ) (place : ℕ) (octets : List ℕ) (tag : Tag) (start : ℕ) (answer : Result (RangeBy × ℕ) Malformed) → SpellsTag octets tag → Stands input place octets start → range_behind input place start (opens tag) ≡ answer → range_at input place ≡ answer
range_after input place octets tag start answer s p e =
    range_inside input place (begins_before input place octets (drop start input) p.parts (tag_some octets tag s))
    ∙ ap (λ (r : Result (Tag × ℕ) TagFault). or_invalid place r >>= behind input place) (tag_again input place octets tag start s p) ∙ e

enclosed_again : {X : Type 0} (Spells : List ℕ → X → Type 0) (number : ℕ) (input : List ℕ) (place : ℕ) (x : X × ℤ) (end : ℕ) (octets : List ℕ) → SpellsEnclosed number (SpellsCounted Spells) octets x → Stands input place octets end
    → (start : ℕ) × ((front : List ℕ) × (SpellsTag front (opening number) × Stands input place front start × Listed Spells number input start x end))
enclosed_again Spells number input place x end octets s p =
    let all = subst (λ (o : List ℕ). Stands input place o end) s.parts p in
    (place + length s.front, (s.front, (s.opened, Stands-front input place s.front (s.inside ++ s.back) end all, record { inside = s.inside; back = s.back; stands = Stands-back input place s.front (s.inside ++ s.back) end all; spelled = s.spelled; closed = s.closed })))

given_again : (input : List ℕ) (place : ℕ) (range : RangeBy) (end : ℕ) (octets : List ℕ) → IsBytes input → place ≤ length input → SpellsGivenRange octets range → Stands input place octets end → range_at input place ≡ Ok (range, end)
given_again input place All end octets bytes le s p = absurd s
given_again input place (Position reference count) end octets bytes le s p =
    let h = enclosed_again (SpellsUnsigned None) 3 input place (reference, count) end octets s p in
    let within = Stands-within input place h.1.0 h.0 le h.1.1.1 in
    let listed = list_again (SpellsUnsigned None) number_from unsigned_finds input place h.0 3 (reference, count) end bytes within h.1.1.2 in
    range_after input place h.1.0 (opening 3) h.0 (Ok (Position reference count, end)) h.1.1.0 h.1.1.1 ((ways input place h.0 (Some 3)).three refl ∙ ap (λ (r : Result ((ℕ × ℤ) × ℕ) Malformed). r >>= as_position) listed)
given_again input place (Sequence reference count) end octets bytes le s p =
    let h = enclosed_again (SpellsUnsigned None) 6 input place (reference, count) end octets s p in
    let within = Stands-within input place h.1.0 h.0 le h.1.1.1 in
    let listed = list_again (SpellsUnsigned None) number_from unsigned_finds input place h.0 6 (reference, count) end bytes within h.1.1.2 in
    range_after input place h.1.0 (opening 6) h.0 (Ok (Sequence reference count, end)) h.1.1.0 h.1.1.1 ((ways input place h.0 (Some 6)).six refl ∙ ap (λ (r : Result ((ℕ × ℤ) × ℕ) Malformed). r >>= as_sequence) listed)
given_again input place (Time reference count) end octets bytes le s p =
    let h = enclosed_again SpellsStamp 7 input place (reference, count) end octets s p in
    let within = Stands-within input place h.1.0 h.0 le h.1.1.1 in
    let listed = list_again SpellsStamp stamp_at stamp_finds input place h.0 7 (reference, count) end bytes within h.1.1.2 in
    range_after input place h.1.0 (opening 7) h.0 (Ok (Time reference count, end)) h.1.1.0 h.1.1.1 ((ways input place h.0 (Some 7)).seven refl ∙ ap (λ (r : Result ((Stamp × ℤ) × ℕ) Malformed). r >>= as_time) listed)

-- two whole tags at one place are one
same_tag : (input : List ℕ) (place a b : ℕ) (xs ys : List ℕ) (s t : Tag) → SpellsTag xs s → Stands input place xs a → SpellsTag ys t → Stands input place ys b → s ≡ t
same_tag input place a b xs ys s t hs ps ht pt =
    ap (λ (z : Tag × ℕ). z.0) (tags.ok_is (s, a) (t, b) (sym (tag_again input place xs s a hs ps) ∙ tag_again input place ys t b ht pt))

none_again : (input : List ℕ) (place : ℕ) → place ≤ length input → IsNoRange input place → range_at input place ≡ Ok (All, place)
none_again input place le (inl end) = range_outside input place (omega (arith, end))
none_again input place le (inr h) =
    let three = h.0 in
    let p = Stands-from input place three.header three.rest three.parts in
    let six = same_tag input place (place + length three.header) (place + length h.1.header) three.header h.1.header three.found h.1.found three.tagged p h.1.tagged (Stands-from input place h.1.header h.1.rest h.1.parts) in
    let seven = same_tag input place (place + length three.header) (place + length h.2.header) three.header h.2.header three.found h.2.found three.tagged p h.2.tagged (Stands-from input place h.2.header h.2.rest h.2.parts) in
    range_after input place three.header three.found (place + length three.header) (Ok (All, place)) three.tagged p
    ((ways input place (place + length three.header) (opens three.found)).none (λ e. three.other (opens_is three.found 3 e)) (λ e. h.1.other (sym six ∙ opens_is three.found 6 e)) (λ e. h.2.other (sym seven ∙ opens_is three.found 7 e)))

range_only : (input : List ℕ) (place : ℕ) (range : RangeBy) (end : ℕ) → IsBytes input → place ≤ length input → IsRangeAt input place range end → range_at input place ≡ Ok (range, end)
range_only input place range end bytes le (inl h) = none_again input place le h.2 ∙ ap (λ (r : RangeBy). Ok (r, place)) (sym h.0) ∙ ap (λ (n : ℕ). Ok (range, n)) (sym h.1)
range_only input place range end bytes le (inr s) = given_again input place range end s.octets bytes le s.spelled (stands SpellsGivenRange input place range end s)

behind_err : (input : List ℕ) (place start : ℕ) (o : Option ℕ) (fault : Malformed) → range_behind input place start o ≡ Err fault → Which o → fault ≡ invalid_tag place
behind_err input place start o fault e (three is) =
    elim (bind_err (list_at number_from input place start 3) as_position fault (sym ((ways input place start o).three is) ∙ e)) [ inl h ↦ list_err number_from input place start 3 fault h | inr h ↦ absurd (let bad = h.2 in cc) ]
behind_err input place start o fault e (six is) =
    elim (bind_err (list_at number_from input place start 6) as_sequence fault (sym ((ways input place start o).six is) ∙ e)) [ inl h ↦ list_err number_from input place start 6 fault h | inr h ↦ absurd (let bad = h.2 in cc) ]
behind_err input place start o fault e (seven is) =
    elim (bind_err (list_at stamp_at input place start 7) as_time fault (sym ((ways input place start o).seven is) ∙ e)) [ inl h ↦ list_err stamp_at input place start 7 fault h | inr h ↦ absurd (let bad = h.2 in cc) ]
behind_err input place start o fault e (none a b d) = absurd (let bad = sym ((ways input place start o).none a b d) ∙ e in cc)

range_err : (input : List ℕ) (place : ℕ) (fault : Malformed) → range_at input place ≡ Err fault → fault ≡ invalid_tag place
range_err input place fault e =
    elim (cases_lt place (length input)) [
      | inl lt ↦
          elim (bind_err (or_invalid place (tag_at input place)) (behind input place) fault (sym (range_inside input place lt) ∙ e)) [
            | inl h ↦ (invalid_err place (tag_at input place) fault h).0
            | inr a ↦ behind_err input place a.0.1 (opens a.0.0) fault a.2 (which (opens a.0.0))
          ]
      | inr ge ↦ absurd (let bad = sym (range_outside input place ge) ∙ e in cc)
    ]

range_answers : (input : List ℕ) (place : ℕ) → IsBytes input → place ≤ length input → Answers (IsRangeAt input place) (RefusesRange input place) (range_at input place)
range_answers input place bytes le =
    record {
      found = λ y e. range_found input place y bytes le e;
      only = λ range end h. range_only input place range end bytes le h;
      refused = λ fault e.
          (range_err input place fault e, λ none. let bad = sym (none_again input place le none) ∙ e in cc, λ there. let bad = sym (range_only input place there.value there.end bytes le (inr there.spelled)) ∙ e in cc);
      refuses = λ fault h. refuses (range_at input place) refl fault h;
    }
  where
    never : (range : RangeBy) (end : ℕ) → IsRangeAt input place range end → (¬ IsNoRange input place) → (¬ IsThere SpellsGivenRange input place) → ⊥
    never range end (inl h) a b = a h.2
    never range end (inr s) a b = b (record { value = range; end = end; spelled = s })

    refuses : (r : Result (RangeBy × ℕ) Malformed) → range_at input place ≡ r → (fault : Malformed) → RefusesRange input place fault → r ≡ Err fault
    refuses (Ok y) e fault h = absurd (never y.0 y.1 (range_found input place y bytes le e) h.1 h.2)
    refuses (Err d) e fault h = ap (λ (f : Malformed). Err f) (range_err input place d e ∙ sym h.0)

range_within : (input : List ℕ) (place : ℕ) (range : RangeBy) (end : ℕ) → place ≤ length input → IsRangeAt input place range end → end ≤ length input
range_within input place range end le (inl h) = omega (arith, h.1)
range_within input place range end le (inr s) = ends_within SpellsGivenRange input place range end le s

-- ---- the whole request

abbrev IsRangeOf : List ℕ → ReadRequest → ℕ → RangeRequest → ℕ → Type 0
IsRangeOf input reference place = Made (IsRangeAt input place) (range_request reference)

abbrev RefusesBoth : List ℕ → Malformed → Type 0
RefusesBoth input fault = RefusesReference input fault ⊎ Behind (IsReferenceAt input) (λ reference place. RefusesRange input place fault)

chained : (input : List ℕ) → IsBytes input → Answers (Both (IsReferenceAt input) (IsRangeOf input)) (RefusesBoth input) (range_request_at input)
unfolding range_request_at
chained input bytes =
    then (IsReferenceAt input) (RefusesReference input) (reference_at input) (IsRangeOf input) (λ reference place. RefusesRange input place)
    (λ reference. range_at input reference.1 >>= λ range. Ok (range_request reference.0 range.0, range.1))
    (reference_answers input bytes) (λ reference place there. mapped (IsRangeAt input place) (RefusesRange input place) (range_at input place) (range_request reference) (range_answers input place bytes (reference_within input reference place there)))

to_request : (input : List ℕ) (x : RangeRequest) (end : ℕ) → Both (IsReferenceAt input) (IsRangeOf input) x end → IsRangeRequestAt input x end
to_request input x end h =
    subst (λ (y : RangeRequest). IsRangeRequestAt input y end) h.is_next.made (record { range_at = h.place; reference = h.is_first; range = h.is_next.is })

from_request : (input : List ℕ) (x : RangeRequest) (end : ℕ) → IsRangeRequestAt input x end → Both (IsReferenceAt input) (IsRangeOf input) x end
from_request input x end h = record { first = reference_of x; place = h.range_at; is_first = h.reference; is_next = record { value = x.range; is = h.range; made = refl } }

request_answers : (input : List ℕ) → IsBytes input → Answers (IsRangeRequestAt input) (RefusesBoth input) (range_request_at input)
request_answers input bytes =
    said (Both (IsReferenceAt input) (IsRangeOf input)) (IsRangeRequestAt input) (RefusesBoth input) (RefusesBoth input) (range_request_at input) (chained input bytes) (to_request input) (from_request input) (λ fault h. h) (λ fault h. h)

request_within : (input : List ℕ) (x : RangeRequest) (end : ℕ) → IsRangeRequestAt input x end → end ≤ length input
request_within input x end h = range_within input h.range_at x.range end (reference_within input (reference_of x) h.range_at h.reference) h.range

-- a range has octets, or none
record Ranged (input : List ℕ) (place : ℕ) (range : RangeBy) (end : ℕ) : Type 0 where
  octets : List ℕ
  stands : Stands input place octets end
  spelled : SpellsRange octets range

ranged_of : (input : List ℕ) (place : ℕ) (range : RangeBy) (end : ℕ) → IsRangeAt input place range end → Ranged input place range end
ranged_of input place range end (inl h) = record { octets = []; stands = record { parts = ap (λ (n : ℕ). drop n input) (sym h.1); ends = omega (arith, h.1) }; spelled = inl (h.0, refl) }
ranged_of input place range end (inr s) = record { octets = s.octets; stands = stands SpellsGivenRange input place range end s; spelled = inr s.spelled }

to_whole : (input : List ℕ) (x : RangeRequest) → IsRangeRequestAt input x (length input) → SpellsReadRange input x
to_whole input x h =
    let r = refers_of input (reference_of x) h.range_at h.reference in
    let g = ranged_of input h.range_at x.range (length input) h.range in
    let all = Stands-then input 0 r.octets h.range_at g.octets (length input) r.stands g.stands in
    record { reference_octets = r.octets; range_octets = g.octets; parts = all_of input (r.octets ++ g.octets) all; reference = r.spelled; range = g.spelled }

-- a tag that opens is none of a number
pub opening_is_absent : (number k : ℕ) (input : List ℕ) (place : ℕ) (front rest : List ℕ) → SpellsTag front (opening k) → drop place input ≡ front ++ rest → IsAbsent number input place
opening_is_absent number k input place front rest s e =
    inr (record { header = front; rest = rest; tag = opening k; parts = e; tagged = s; other = λ n same. let shape : opens (opening k) ≡ opens (element_tag 0 (Some number) n) = ap opens same in cc })

first_of_three : (octets front back rest : List ℕ) → octets ≡ front ++ back → {xs : List ℕ} → xs ≡ octets ++ rest → xs ≡ front ++ (back ++ rest)
first_of_three octets front back rest parts e = e ∙ ap (λ (o : List ℕ). o ++ rest) parts ∙ append_assoc front back rest

-- where a range is given, no index stands
given_absent : (input : List ℕ) (place : ℕ) (range : RangeBy) (octets rest : List ℕ) → SpellsGivenRange octets range → drop place input ≡ octets ++ rest → IsAbsent 2 input place
given_absent input place All octets rest s e = absurd s
given_absent input place (Position reference count) octets rest s e = opening_is_absent 2 3 input place s.front ((s.inside ++ s.back) ++ rest) s.opened (first_of_three octets s.front (s.inside ++ s.back) rest s.parts e)
given_absent input place (Sequence reference count) octets rest s e = opening_is_absent 2 6 input place s.front ((s.inside ++ s.back) ++ rest) s.opened (first_of_three octets s.front (s.inside ++ s.back) rest s.parts e)
given_absent input place (Time reference count) octets rest s e = opening_is_absent 2 7 input place s.front ((s.inside ++ s.back) ++ rest) s.opened (first_of_three octets s.front (s.inside ++ s.back) rest s.parts e)

from_whole : (input : List ℕ) (x : RangeRequest) → SpellsReadRange input x → IsRangeRequestAt input x (length input)
from_whole input x s =
    let all : Stands input 0 (s.reference_octets ++ s.range_octets) (length input) = subst (λ (o : List ℕ). Stands input 0 o (length input)) s.parts (all_stand input) in
    let front = Stands-front input 0 s.reference_octets s.range_octets (length input) all in
    let back = Stands-back input 0 s.reference_octets s.range_octets (length input) all in
    let place = 0 + length s.reference_octets in
    record {
      range_at = place;
      reference = reference_of_octets input (reference_of x) place s.reference_octets s.reference front (λ none. absent place back s.range);
      range = there place back s.range;
    }
  where
    absent : (place : ℕ) → Stands input place s.range_octets (length input) → SpellsRange s.range_octets x.range → IsAbsent 2 input place
    absent place p (inl h) = inl (omega (arith, p.ends, ap length h.1))
    absent place p (inr h) = given_absent input place x.range s.range_octets (drop (length input) input) h p.parts

    there : (place : ℕ) → Stands input place s.range_octets (length input) → SpellsRange s.range_octets x.range → IsRangeAt input place x.range (length input)
    there place p (inl h) = let here : length input ≡ place = omega (arith, p.ends, ap length h.1) in inl (h.0, here, inl (sym here))
    there place p (inr h) = inr (spelled_at SpellsGivenRange input place x.range (length input) s.range_octets h p)

pub read_range_answers : (input : List ℕ) → IsBytes input → Whole (SpellsReadRange input) (RefusesReadRange input) (read_range_of input)
read_range_answers input bytes =
    whole_said (λ x. IsRangeRequestAt input x (length input)) (SpellsReadRange input) (RefusesReadRange input) (read_range_of input) (ended input (IsRangeRequestAt input) (RefusesBoth input) (range_request_at input) (request_answers input bytes) (request_within input)) (to_whole input) (from_whole input)
