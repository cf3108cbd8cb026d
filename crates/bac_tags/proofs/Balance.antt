-- Elements up to their closing tag: how many tags are looked at doesn't matter, and what is read is what stands there.
use Rattle.std.proofs.Common.{◌≡◌, ◌≢◌, ℕ, zero, suc, ◌+◌, ◌<◌, ◌≤◌, Bool, true, false, cond, eqb, ltb, ◌&&◌, not, Option, Some, None, List, [], ◌++◌, length, drop, take, Result, Ok, Err, refl, sym, ap, subst, ◌∙◌, arith, inl, inr}
use Rattle.std.specs.Prelude.{◌⊎◌}
use Rattle.std.proofs.lemmas.Bool.{cases_Bool, lt-ltb, le-ltb, ltb-false, eqb-true, eq-eqb, ne_eqb, and_parts}
use Rattle.std.proofs.lemmas.List.{length-append, length-drop, length-take, drop-drop, take-append-drop}
use Rattle.bac_tags.specs.declared.fault.TagFault.{TagFault}
use Rattle.bac_tags.specs.declared.tag.Tag.{Tag}
use Rattle.bac_tags.specs.declared.tag.Shape.{Shape}
use Rattle.bac_tags.specs.declared.tag.Shape.TheVariants.{Primitive, Opening, Closing}
use Rattle.bac_tags.specs.Tags.{SpellsTag}
use Rattle.bac_tags.specs.ReadingSteps.{tag_at}
use Rattle.bac_tags.proofs.Standing.{IsBytes, Stands, Stands-then, Stands-nil, Stands-front, Stands-back, Stands-within}
use Rattle.bac_tags.proofs.TagLaws.{tag_found, tag_again}
use Rattle.bac_tags.specs.EnclosingTags.{opening, closing}
use Rattle.bac_tags.specs.Balanced.{content_size, AreElements, none, primitive, enclosed}
use Rattle.bac_tags.specs.BalancedSteps.{rest_behind, behind_tag, at_tag, closes_within, elements_end}

-- a tag that is read is behind the place, and begins within the octets
tag_behind : (input : List ℕ) (place : ℕ) (tag : Tag) (after : ℕ) → IsBytes input → tag_at input place ≡ Ok (tag, after) → (place < after) × (place < length input)
tag_behind input place tag after bytes e =
    let f = tag_found input place (tag, after) bytes e in
    let some : 0 < length f.octets = omega (arith, ap length f.spells.parts) in
    (omega (arith, f.stands.ends), omega (arith, ap length f.stands.parts, length-append f.octets (drop after input), length-drop place input))

abbrev Rest : Type 0
Rest = ℕ → ℕ → Option (ℕ × ℕ)

-- the way on behind one more tag
abbrev next_of : ℕ → List ℕ → Rest
next_of tags input = λ next inner. closes_within tags input next inner

one_more : (tags : ℕ) (input : List ℕ) (place number : ℕ) → closes_within (suc tags) input place number ≡ at_tag (next_of tags input) input place number (tag_at input place)
unfolding closes_within
one_more tags input place number = refl

no_more : (input : List ℕ) (place number : ℕ) → closes_within 0 input place number ≡ None
unfolding closes_within
no_more input place number = refl

abbrev some_of : {X : Type 0} → X → Option X
some_of x = Some x

abbrev pair_of : ℕ → ℕ → Option (ℕ × ℕ)
pair_of a b = Some (a, b)

pub not_true : (b : Bool) → not b ≡ true → b ≡ false
not_true true e = absurd cc
not_true false e = refl

pub not_false : (b : Bool) → not b ≡ false → b ≡ true
not_false true e = refl
not_false false e = absurd cc

some_is : {X : Type 0} (x y : X) → some_of x ≡ some_of y → x ≡ y
some_is x y e = cc

-- ---- what is read ends behind the place

abbrev EndBehind : Rest → Type 0
EndBehind rest = (place number : ℕ) (x : ℕ × ℕ) → rest place number ≡ Some x → place < x.1

inner_ends : (rest : Rest) → EndBehind rest → (place number : ℕ) (o : Option (ℕ × ℕ)) (x : ℕ × ℕ) → ((y : ℕ × ℕ) → o ≡ Some y → place < y.1) → rest_behind rest number o ≡ Some x → place < x.1
inner_ends rest later place number None x first e = absurd cc
inner_ends rest later place number (Some y) x first e = let one = first y refl in let two = later y.1 number x e in omega arith

shape_ends : (rest : Rest) → EndBehind rest → (input : List ℕ) (place number : ℕ) (tag : Tag) (after : ℕ) (shape : Shape) (x : ℕ × ℕ) → place < after → behind_tag rest input place number tag after shape ≡ Some x → place < x.1
shape_ends rest later input place number tag after (Primitive n) x lt e =
    elim (cases_Bool (ltb (length input) (after + content_size tag n))) [
      | inl cut ↦ absurd (let bad = rw cut at e in cc)
      | inr whole ↦ let two = later (after + content_size tag n) number x (rw whole at e) in omega arith
    ]
shape_ends rest later input place number tag after Opening x lt e =
    elim (cases_Bool tag.context) [
      | inl context ↦ inner_ends rest later place number (rest after tag.number) x (λ y f. let one = later after tag.number y f in omega arith) (rw context at e)
      | inr application ↦ absurd (let bad = rw application at e in cc)
    ]
shape_ends rest later input place number tag after Closing x lt e =
    elim (cases_Bool (tag.context && eqb tag.number number)) [
      | inl right ↦ let same : after ≡ x.1 = ap (λ (y : ℕ × ℕ). y.1) (some_is (place, after) x (rw right at e)) in omega arith
      | inr wrong ↦ absurd (let bad = rw wrong at e in cc)
    ]

tag_ends : (rest : Rest) → EndBehind rest → (input : List ℕ) (place number : ℕ) (r : Result (Tag × ℕ) TagFault) (x : ℕ × ℕ) → ((t : Tag × ℕ) → r ≡ Ok t → place < t.1) → at_tag rest input place number r ≡ Some x → place < x.1
tag_ends rest later input place number (Ok t) x lt e = shape_ends rest later input place number t.0 t.1 t.0.shape x (lt t refl) e
tag_ends rest later input place number (Err fault) x lt e = absurd cc

ends_behind : (tags : ℕ) (input : List ℕ) (place number : ℕ) (x : ℕ × ℕ) → IsBytes input → closes_within tags input place number ≡ Some x → place < x.1
ends_behind zero input place number x bytes e = absurd (let bad = sym (no_more input place number) ∙ e in cc)
ends_behind (suc tags) input place number x bytes e =
    tag_ends (next_of tags input) (λ p k y f. ends_behind tags input p k y bytes f) input place number (tag_at input place) x (λ t f. (tag_behind input place t.0 t.1 bytes f).0) (sym (one_more tags input place number) ∙ e)

-- ---- how many tags are looked at doesn't matter

-- two ways on that are one behind the place
abbrev AgreeBehind : ℕ → Rest → Rest → Type 0
AgreeBehind place rest other = (next inner : ℕ) → place < next → rest next inner ≡ other next inner

inner_same : (rest other : Rest) (place number : ℕ) → AgreeBehind place rest other → (o : Option (ℕ × ℕ)) → ((y : ℕ × ℕ) → o ≡ Some y → place < y.1) → rest_behind rest number o ≡ rest_behind other number o
inner_same rest other place number agree None first = refl
inner_same rest other place number agree (Some y) first = agree y.1 number (first y refl)

shape_same : (rest other : Rest) → EndBehind rest → (input : List ℕ) (place number : ℕ) → AgreeBehind place rest other → (tag : Tag) (after : ℕ) (shape : Shape) → place < after → behind_tag rest input place number tag after shape ≡ behind_tag other input place number tag after shape
shape_same rest other later input place number agree tag after (Primitive n) lt =
    ap (λ (o : Option (ℕ × ℕ)). cond (ltb (length input) (after + content_size tag n)) None o) (agree (after + content_size tag n) number (omega arith))
shape_same rest other later input place number agree tag after Opening lt =
    ap (λ (o : Option (ℕ × ℕ)). cond tag.context o None)
    (inner_same rest other place number agree (rest after tag.number) (λ y f. let one = later after tag.number y f in omega arith) ∙ ap (rest_behind other number) (agree after tag.number lt))
shape_same rest other later input place number agree tag after Closing lt = refl

tag_same : (rest other : Rest) → EndBehind rest → (input : List ℕ) (place number : ℕ) → AgreeBehind place rest other → (r : Result (Tag × ℕ) TagFault) → ((t : Tag × ℕ) → r ≡ Ok t → place < t.1) → at_tag rest input place number r ≡ at_tag other input place number r
tag_same rest other later input place number agree (Ok t) lt = shape_same rest other later input place number agree t.0 t.1 t.0.shape (lt t refl)
tag_same rest other later input place number agree (Err fault) lt = refl

none_at : (rest : Rest) (input : List ℕ) (place number : ℕ) (r : Result (Tag × ℕ) TagFault) → ((t : Tag × ℕ) → r ≡ Ok t → ⊥) → at_tag rest input place number r ≡ None
none_at rest input place number (Ok t) never = absurd (never t refl)
none_at rest input place number (Err fault) never = refl

-- nothing is read from the end on
none_past : (tags : ℕ) (input : List ℕ) (place number : ℕ) → IsBytes input → length input ≤ place → closes_within tags input place number ≡ None
none_past zero input place number bytes le = no_more input place number
none_past (suc tags) input place number bytes le =
    one_more tags input place number ∙ none_at (next_of tags input) input place number (tag_at input place) (λ t e. let before = tag_behind input place t.0 t.1 bytes e in omega arith)

same_within : (a b : ℕ) (input : List ℕ) (place number : ℕ) → IsBytes input → length input < place + a → length input < place + b → closes_within a input place number ≡ closes_within b input place number
same_within zero b input place number bytes la lb = no_more input place number ∙ sym (none_past b input place number bytes (omega arith))
same_within (suc a) zero input place number bytes la lb = none_past (suc a) input place number bytes (omega arith) ∙ sym (no_more input place number)
same_within (suc a) (suc b) input place number bytes la lb =
    one_more a input place number
    ∙ tag_same (next_of a input) (next_of b input) (λ p k x e. ends_behind a input p k x bytes e) input place number (λ next inner lt. same_within a b input next inner bytes (omega arith) (omega arith)) (tag_at input place) (λ t e. (tag_behind input place t.0 t.1 bytes e).0)
    ∙ sym (one_more b input place number)

-- a step of the whole
pub whole_step : (input : List ℕ) (place number : ℕ) → IsBytes input → elements_end input place number ≡ at_tag (λ next inner. elements_end input next inner) input place number (tag_at input place)
whole_step input place number bytes =
    let all = suc (length input) in
    one_more (length input) input place number
    ∙ tag_same (next_of (length input) input) (next_of all input) (λ p k x e. ends_behind (length input) input p k x bytes e) input place number (λ next inner lt. same_within (length input) all input next inner bytes (omega arith) (omega arith)) (tag_at input place) (λ t e. (tag_behind input place t.0 t.1 bytes e).0)

abbrev pub all_next : List ℕ → Rest
all_next input = λ next inner. elements_end input next inner

pub step_with : (input : List ℕ) (place number : ℕ) (tag : Tag) (after : ℕ) (shape : Shape) → IsBytes input → Ok (tag, after) ≡ tag_at input place → tag.shape ≡ shape → elements_end input place number ≡ behind_tag (all_next input) input place number tag after shape
step_with input place number tag after shape bytes e s =
    whole_step input place number bytes ∙ ap (at_tag (all_next input) input place number) (sym e) ∙ ap (behind_tag (all_next input) input place number tag after) s

pub step_without : (input : List ℕ) (place number : ℕ) → IsBytes input → ((t : Tag × ℕ) → tag_at input place ≡ Ok t → ⊥) → elements_end input place number ≡ None
step_without input place number bytes never = whole_step input place number bytes ∙ none_at (all_next input) input place number (tag_at input place) never

pub step_cut : (input : List ℕ) (place number : ℕ) (tag : Tag) (after n : ℕ) → IsBytes input → Ok (tag, after) ≡ tag_at input place → tag.shape ≡ Primitive n → length input < after + content_size tag n → elements_end input place number ≡ None
step_cut input place number tag after n bytes e s lt = step_with input place number tag after (Primitive n) bytes e s ∙ rw (lt-ltb (length input) (after + content_size tag n) lt) refl

pub step_over : (input : List ℕ) (place number : ℕ) (tag : Tag) (after n : ℕ) → IsBytes input → Ok (tag, after) ≡ tag_at input place → tag.shape ≡ Primitive n → after + content_size tag n ≤ length input → elements_end input place number ≡ elements_end input (after + content_size tag n) number
step_over input place number tag after n bytes e s le = step_with input place number tag after (Primitive n) bytes e s ∙ rw (le-ltb (length input) (after + content_size tag n) le) refl

pub step_into : (input : List ℕ) (place number : ℕ) (tag : Tag) (after : ℕ) → IsBytes input → Ok (tag, after) ≡ tag_at input place → tag.shape ≡ Opening → tag.context ≡ true → elements_end input place number ≡ rest_behind (all_next input) number (elements_end input after tag.number)
step_into input place number tag after bytes e s context = step_with input place number tag after Opening bytes e s ∙ rw context refl

pub step_into_none : (input : List ℕ) (place number : ℕ) (tag : Tag) (after : ℕ) → IsBytes input → Ok (tag, after) ≡ tag_at input place → tag.shape ≡ Opening → tag.context ≡ true → None ≡ elements_end input after tag.number → elements_end input place number ≡ None
step_into_none input place number tag after bytes e s context inner = step_into input place number tag after bytes e s context ∙ ap (rest_behind (all_next input) number) (sym inner)

pub step_into_some : (input : List ℕ) (place number : ℕ) (tag : Tag) (after : ℕ) (y : ℕ × ℕ) → IsBytes input → Ok (tag, after) ≡ tag_at input place → tag.shape ≡ Opening → tag.context ≡ true → Some y ≡ elements_end input after tag.number → elements_end input place number ≡ elements_end input y.1 number
step_into_some input place number tag after y bytes e s context inner = step_into input place number tag after bytes e s context ∙ ap (rest_behind (all_next input) number) (sym inner)

pub step_application : (input : List ℕ) (place number : ℕ) (tag : Tag) (after : ℕ) → IsBytes input → Ok (tag, after) ≡ tag_at input place → tag.shape ≡ Opening → tag.context ≡ false → elements_end input place number ≡ None
step_application input place number tag after bytes e s application = step_with input place number tag after Opening bytes e s ∙ rw application refl

pub step_closes : (input : List ℕ) (place number : ℕ) (tag : Tag) (after : ℕ) → IsBytes input → Ok (tag, after) ≡ tag_at input place → tag.shape ≡ Closing → tag.context ≡ true → tag.number ≡ number → elements_end input place number ≡ Some (place, after)
step_closes input place number tag after bytes e s context same = step_with input place number tag after Closing bytes e s ∙ rw (context, eq-eqb tag.number number same) refl

pub step_other : (input : List ℕ) (place number : ℕ) (tag : Tag) (after : ℕ) → IsBytes input → Ok (tag, after) ≡ tag_at input place → tag.shape ≡ Closing → ((tag.context ≡ false) ⊎ (tag.number ≢ number)) → elements_end input place number ≡ None
step_other input place number tag after bytes e s (inl application) = step_with input place number tag after Closing bytes e s ∙ rw application refl
step_other input place number tag after bytes e s (inr other) =
    step_with input place number tag after Closing bytes e s ∙ rw (ne_eqb tag.number number other) (both tag.context)
  where
    both : (b : Bool) → cond (b && false) (pair_of place after) None ≡ None
    both true = refl
    both false = refl

-- ---- what stands there

-- elements stand from the place on, and behind them the closing tag of the number
pub record Closes (number : ℕ) (input : List ℕ) (place stop end : ℕ) : Type 0 where
  pub inside : List ℕ
  pub back : List ℕ
  pub elements : AreElements inside
  pub stands : Stands input place inside stop
  pub behind : Stands input stop back end
  pub closed : SpellsTag back (closing number)

abbrev made : ℕ → Bool → Shape → Tag
made number context shape = record { number = number; context = context; shape = shape }

tag_is : (tag : Tag) (context : Bool) (shape : Shape) → tag.context ≡ context → tag.shape ≡ shape → tag ≡ made tag.number context shape
tag_is tag context shape c s = ap (λ (b : Bool). made tag.number b tag.shape) c ∙ ap (made tag.number context) s

-- so many octets stand from the place on
pub octets_stand : (input : List ℕ) (place n : ℕ) → place + n ≤ length input → Stands input place (take n (drop place input)) (place + n)
octets_stand input place n le =
    record {
      parts = sym (take-append-drop n (drop place input)) ∙ ap (λ (r : List ℕ). take n (drop place input) ++ r) (drop-drop n place input);
      ends = omega (arith, length-take n (drop place input), length-drop place input);
    }

length_octets : (input : List ℕ) (place n : ℕ) → place + n ≤ length input → length (take n (drop place input)) ≡ n
length_octets input place n le = omega (arith, length-take n (drop place input), length-drop place input)

abbrev Sound : Rest → List ℕ → Type 0
Sound rest input = (place number : ℕ) (x : ℕ × ℕ) → place ≤ length input → rest place number ≡ Some x → Closes number input place x.0 x.1

closes_within_octets : (number : ℕ) (input : List ℕ) (place stop end : ℕ) → place ≤ length input → Closes number input place stop end → end ≤ length input
closes_within_octets number input place stop end le h = Stands-within input stop h.back end (Stands-within input place h.inside stop le h.stands) h.behind

inner_found : (rest : Rest) (input : List ℕ) → Sound rest input → (place number : ℕ) (header : List ℕ) (tag : Tag) (after : ℕ) (o : Option (ℕ × ℕ)) (x : ℕ × ℕ) → SpellsTag header (opening tag.number) → Stands input place header after → after ≤ length input
    → ((y : ℕ × ℕ) → o ≡ Some y → Closes tag.number input after y.0 y.1) → rest_behind rest number o ≡ Some x → Closes number input place x.0 x.1
inner_found rest input sound place number header tag after None x opened stands le first e = absurd cc
inner_found rest input sound place number header tag after (Some y) x opened stands le first e =
    let inner = first y refl in
    let within = closes_within_octets tag.number input after y.0 y.1 le inner in
    let outer = sound y.1 number x within e in
    record {
      inside = header ++ (inner.inside ++ (inner.back ++ outer.inside));
      back = outer.back;
      elements = enclosed tag.number header inner.inside inner.back outer.inside opened inner.elements inner.closed outer.elements;
      stands = Stands-then input place header after (inner.inside ++ (inner.back ++ outer.inside)) x.0 stands (Stands-then input after inner.inside y.0 (inner.back ++ outer.inside) x.0 inner.stands (Stands-then input y.0 inner.back y.1 outer.inside x.0 inner.behind outer.stands));
      behind = outer.behind;
      closed = outer.closed;
    }

shape_found : (rest : Rest) (input : List ℕ) → Sound rest input → (place number : ℕ) (header : List ℕ) (tag : Tag) (after : ℕ) (shape : Shape) (x : ℕ × ℕ) → SpellsTag header tag → Stands input place header after → after ≤ length input → tag.shape ≡ shape
    → behind_tag rest input place number tag after shape ≡ Some x → Closes number input place x.0 x.1
shape_found rest input sound place number header tag after (Primitive n) x tagged stands le s e =
    elim (cases_Bool (ltb (length input) (after + content_size tag n))) [
      | inl cut ↦ absurd (let bad = rw cut at e in cc)
      | inr whole ↦
          let long : after + content_size tag n ≤ length input = ltb-false _ _ whole in
          let content = take (content_size tag n) (drop after input) in
          let behind = octets_stand input after (content_size tag n) long in
          let outer = sound (after + content_size tag n) number x long (rw whole at e) in
          record {
            inside = header ++ (content ++ outer.inside);
            back = outer.back;
            elements = primitive header content outer.inside (record { tag = tag; size = n; tagged = tagged; shape = s; long = length_octets input after (content_size tag n) long }) outer.elements;
            stands = Stands-then input place header after (content ++ outer.inside) x.0 stands (Stands-then input after content (after + content_size tag n) outer.inside x.0 behind outer.stands);
            behind = outer.behind;
            closed = outer.closed;
          }
    ]
shape_found rest input sound place number header tag after Opening x tagged stands le s e =
    elim (cases_Bool tag.context) [
      | inl context ↦ inner_found rest input sound place number header tag after (rest after tag.number) x (subst (SpellsTag header) (tag_is tag true Opening context s) tagged) stands le (λ y f. sound after tag.number y le f) (rw context at e)
      | inr application ↦ absurd (let bad = rw application at e in cc)
    ]
shape_found rest input sound place number header tag after Closing x tagged stands le s e =
    elim (cases_Bool (tag.context && eqb tag.number number)) [
      | inl right ↦
          let both = and_parts tag.context (eqb tag.number number) right in
          let same : (place, after) ≡ x = some_is (place, after) x (rw right at e) in
          let is : tag ≡ closing number = tag_is tag true Closing both.0 s ∙ ap (λ (k : ℕ). made k true Closing) (eqb-true _ _ both.1) in
          subst (λ (y : ℕ × ℕ). Closes number input place y.0 y.1) same (record { inside = []; back = header; elements = none; stands = Stands-nil input place; behind = stands; closed = subst (SpellsTag header) is tagged })
      | inr wrong ↦ absurd (let bad = rw wrong at e in cc)
    ]

found_at : (rest : Rest) (input : List ℕ) → Sound rest input → (place number : ℕ) (r : Result (Tag × ℕ) TagFault) (x : ℕ × ℕ) → IsBytes input → place ≤ length input → tag_at input place ≡ r → at_tag rest input place number r ≡ Some x → Closes number input place x.0 x.1
found_at rest input sound place number (Ok t) x bytes le same e =
    let f = tag_found input place t bytes same in
    shape_found rest input sound place number f.octets t.0 t.1 t.0.shape x f.spells f.stands (Stands-within input place f.octets t.1 le f.stands) refl e
found_at rest input sound place number (Err fault) x bytes le same e = absurd cc

pub closes_found : (tags : ℕ) (input : List ℕ) (place number : ℕ) (x : ℕ × ℕ) → IsBytes input → place ≤ length input → closes_within tags input place number ≡ Some x → Closes number input place x.0 x.1
closes_found zero input place number x bytes le e = absurd (let bad = sym (no_more input place number) ∙ e in cc)
closes_found (suc tags) input place number x bytes le e =
    found_at (next_of tags input) input (λ p k y within f. closes_found tags input p k y bytes within f) place number (tag_at input place) x bytes le refl (sym (one_more tags input place number) ∙ e)

-- behind a whole tag
again_at : (rest : Rest) (input : List ℕ) (place number : ℕ) (header : List ℕ) (tag : Tag) (after : ℕ) (shape : Shape) (answer : Option (ℕ × ℕ)) → SpellsTag header tag → Stands input place header after → tag.shape ≡ shape → behind_tag rest input place number tag after shape ≡ answer
    → at_tag rest input place number (tag_at input place) ≡ answer
again_at rest input place number header tag after shape answer s p is e =
    ap (at_tag rest input place number) (tag_again input place header tag after s p) ∙ ap (behind_tag rest input place number tag after) is ∙ e

again_over : (rest : Rest) (input : List ℕ) (place number : ℕ) (tag : Tag) (after n : ℕ) (answer : Option (ℕ × ℕ)) → after + content_size tag n ≤ length input → rest (after + content_size tag n) number ≡ answer → behind_tag rest input place number tag after (Primitive n) ≡ answer
again_over rest input place number tag after n answer le e = rw (le-ltb (length input) (after + content_size tag n) le) e

again_into : (rest : Rest) (input : List ℕ) (place number k after : ℕ) (y : ℕ × ℕ) (answer : Option (ℕ × ℕ)) → rest after k ≡ Some y → rest y.1 number ≡ answer → behind_tag rest input place number (opening k) after Opening ≡ answer
again_into rest input place number k after y answer first second = ap (rest_behind rest number) first ∙ second

again_closes : (rest : Rest) (input : List ℕ) (place number after : ℕ) → behind_tag rest input place number (closing number) after Closing ≡ Some (place, after)
again_closes rest input place number after = rw (eq-eqb number number refl) refl

pub closes_again : (input : List ℕ) {inside : List ℕ} → AreElements inside → (tags place number : ℕ) (back : List ℕ) (stop end : ℕ) → IsBytes input → place ≤ length input → Stands input place inside stop → Stands input stop back end → SpellsTag back (closing number) → length inside < tags
    → closes_within tags input place number ≡ Some (stop, end)
closes_again input elements zero place number back stop end bytes le p q closed lt = absurd (omega arith)
closes_again input none (suc tags) place number back stop end bytes le p q closed lt =
    let here : stop ≡ place = omega (arith, p.ends) in
    let there : Stands input place back end = subst (λ (n : ℕ). Stands input n back end) here q in
    one_more tags input place number ∙ again_at (next_of tags input) input place number back (closing number) end Closing (Some (place, end)) closed there refl (again_closes (next_of tags input) input place number end) ∙ ap (λ (n : ℕ). Some (n, end)) (sym here)
closes_again input (primitive header content rest h more) (suc tags) place number back stop end bytes le p q closed lt =
    let front = Stands-front input place header (content ++ rest) stop p in
    let behind = Stands-back input place header (content ++ rest) stop p in
    let after = place + length header in
    let middle = Stands-front input after content rest stop behind in
    let last = Stands-back input after content rest stop behind in
    let size : after + length content ≡ after + content_size h.tag h.size = ap (λ (n : ℕ). after + n) h.long in
    let within = Stands-within input place header after le front in
    let long : after + length content ≤ length input = Stands-within input after content (after + length content) within middle in
    let long' : after + content_size h.tag h.size ≤ length input = subst (λ (n : ℕ). n ≤ length input) size long in
    let last' : Stands input (after + content_size h.tag h.size) rest stop = subst (λ (n : ℕ). Stands input n rest stop) size last in
    let some : 0 < length header = omega (arith, ap length h.tagged.parts) in
    let fewer : length rest < tags = omega (arith, length-append header (content ++ rest), length-append content rest) in
    one_more tags input place number ∙ again_at (next_of tags input) input place number header h.tag after (Primitive h.size) (Some (stop, end)) h.tagged front h.shape (again_over (next_of tags input) input place number h.tag after h.size (Some (stop, end)) long' (closes_again input more tags (after + content_size h.tag h.size) number back stop end bytes long' last' q closed fewer))
closes_again input (enclosed k front inside middle rest opened elements shut more) (suc tags) place number back stop end bytes le p q closed lt =
    let first = Stands-front input place front (inside ++ (middle ++ rest)) stop p in
    let behind = Stands-back input place front (inside ++ (middle ++ rest)) stop p in
    let after = place + length front in
    let within = Stands-within input place front after le first in
    let inner = Stands-front input after inside (middle ++ rest) stop behind in
    let later = Stands-back input after inside (middle ++ rest) stop behind in
    let inner_stop = after + length inside in
    let within2 : inner_stop ≤ length input = Stands-within input after inside inner_stop within inner in
    let shuts = Stands-front input inner_stop middle rest stop later in
    let last = Stands-back input inner_stop middle rest stop later in
    let inner_end = inner_stop + length middle in
    let within3 : inner_end ≤ length input = Stands-within input inner_stop middle inner_end within2 shuts in
    let some : 0 < length front = omega (arith, ap length opened.parts) in
    let sizes : length (front ++ (inside ++ (middle ++ rest))) ≡ length front + (length inside + (length middle + length rest)) = omega (arith, length-append front (inside ++ (middle ++ rest)), length-append inside (middle ++ rest), length-append middle rest) in
    one_more tags input place number ∙ again_at (next_of tags input) input place number front (opening k) after Opening (Some (stop, end)) opened first refl
    (again_into (next_of tags input) input place number k after (inner_stop, inner_end) (Some (stop, end))
    (closes_again input elements tags after k middle inner_stop inner_end bytes within inner shuts shut (omega arith))
    (closes_again input more tags inner_end number back stop end bytes within3 last q closed (omega arith)))
