-- Things are passed one after the other, and the one with an index is kept.
use Rattle.std.proofs.Common.{◌≡◌, ℕ, zero, suc, ◌+◌, ◌<◌, ◌≤◌, Bool, if◌then◌else◌, Option, Some, None, List, [], ◌∷◌, ◌++◌, length, map, Result, Ok, Err, refl, sym, ap, ap₂, ◌∙◌, append_assoc, arith, inl, inr}
use Rattle.std.specs.List.{slice_get}
use Rattle.std.specs.Option.{option_map}
use Rattle.std.proofs.lemmas.Bool.{cases_eq, eq-eqb, le-ltb, lt-ltb, ne_eqb}
use Rattle.std.proofs.lemmas.List.{append-nil, length-append, length-map}
use Rattle.bac_values.specs.Identifier.{ObjectIdData}
use Rattle.bac_tags.specs.declared.malformed.Malformed.{Malformed}
use Rattle.bac_tags.specs.ReadingSteps.{◌>>=◌}
use Rattle.bac_tags.specs.Refusals.{invalid_tag, missing_parameter}
use Rattle.bac_tags.proofs.Steps.{ok_is}
use Rattle.summaries.specs.declared.requested.PropertyAsked.{PropertyAsked}
use Rattle.summaries.specs.declared.requested.Spec.{Spec}
use Rattle.summaries.specs.ManyRequests.{ObjectAsked, spec_of, specs_in, specs_of}
use Rattle.summaries.specs.ManySteps.{closes_at, each_within, ends_at, entry_at, further_at, group_at, group_of, groups_of, many_request_of, one_or_more, or_before, passing, properties_at, property_at, seen, specs_read}
use Rattle.summaries.proofs.Each.{ended, goes_on}

-- ---- the one with an index

seen_past : {X : Type 0} (number : ℕ) (xs : List X) (index : ℕ) → index < number → seen number xs index ≡ None
seen_past number [] index less = refl
seen_past number (x ∷ xs) index less = rw (ne_eqb number index (λ e. omega (arith, less, e))) (seen_past (suc number) xs index (omega (arith, less)))

or_none : {X : Type 0} (later : Option X) → or_before later None ≡ later
or_none (Some x) = refl
or_none None = refl

pub seen_append : {X : Type 0} (number : ℕ) (xs ys : List X) (index : ℕ) → seen number (xs ++ ys) index ≡ or_before (seen (number + length xs) ys index) (seen number xs index)
seen_append number [] ys index = let same : number + 0 ≡ number = omega arith in sym (ap (λ n. or_before (seen n ys index) None) same ∙ or_none (seen number ys index))
seen_append {X} number (x ∷ xs) ys index =
    let next : suc number + length xs ≡ number + length (x ∷ xs) = omega arith in
    elim (cases_eq number index) [
      | inl here ↦
          let past : seen (number + length (x ∷ xs)) ys index ≡ None = seen_past (number + length (x ∷ xs)) ys index (omega (arith, here)) in
          rw (eq-eqb number index here) (sym (ap (λ (o : Option X). or_before o (Some x)) past))
      | inr not ↦
          rw (ne_eqb number index not) (seen_append (suc number) xs ys index ∙ ap (λ n. or_before (seen n ys index) (seen (suc number) xs index)) next)
    ]

seen_from : {X : Type 0} (number : ℕ) (xs : List X) (place : ℕ) → seen number xs (number + place) ≡ slice_get xs place
seen_from number [] zero = refl
seen_from number [] (suc place) = refl
seen_from number (x ∷ xs) zero = rw (eq-eqb number (number + 0) (omega arith)) refl
seen_from {X} number (x ∷ xs) (suc place) =
    let next : number + suc place ≡ suc number + place = omega arith in
    rw (ne_eqb number (number + suc place) (λ e. omega (arith, e))) (ap (λ n. seen (suc number) xs n) next ∙ seen_from (suc number) xs place)

pub seen_all : {X : Type 0} (xs : List X) (index : ℕ) → seen 0 xs index ≡ slice_get xs index
seen_all xs index = let same : index ≡ 0 + index = omega arith in ap (λ n. seen 0 xs n) same ∙ seen_from 0 xs index

seen_map : {X Y : Type 0} (f : X → Y) (number : ℕ) (xs : List X) (index : ℕ) → seen number (map f xs) index ≡ option_map f (seen number xs index)
seen_map f number [] index = refl
seen_map f number (x ∷ xs) index =
    elim (cases_eq number index) [
      | inl here ↦ rw (eq-eqb number index here) refl
      | inr not ↦ rw (ne_eqb number index not) (seen_map f (suc number) xs index)
    ]

-- ---- things that were passed, and those behind them

abbrev pub behind : {X : Type 0} → List X → Result (List X × ℕ) Malformed → Result (List X × ℕ) Malformed
behind xs (Ok rest) = Ok (xs ++ rest.0, rest.1)
behind xs (Err fault) = Err fault

pub behind_none : {X : Type 0} (r : Result (List X × ℕ) Malformed) → r ≡ behind [] r
behind_none (Ok rest) = refl
behind_none (Err fault) = refl

abbrev cons_to : {X : Type 0} → X → Result (List X × ℕ) Malformed → Result (List X × ℕ) Malformed
cons_to x r = r >>= λ rest. Ok (x ∷ rest.0, rest.1)

behind_one : {X : Type 0} (xs : List X) (x : X) (r : Result (List X × ℕ) Malformed) → behind xs (cons_to x r) ≡ behind (xs ++ x ∷ []) r
behind_one {X} xs x (Ok rest) = ap (λ (ys : List X). Ok (ys, rest.1)) (sym (append_assoc xs (x ∷ []) rest.0))
behind_one xs x (Err fault) = refl

module _ {X : Type 0} (ends : ℕ → Option ℕ) (read : ℕ → Result (X × ℕ) Malformed) where
  -- one more is passed
  pub one_more : (total start left place : ℕ) (xs : List X) (x : X) (next : ℕ) → each_within ends read total start ≡ behind xs (each_within ends read (suc left) place) → ends place ≡ None → read place ≡ Ok (x, next) →
      each_within ends read total start ≡ behind (xs ++ x ∷ []) (each_within ends read left next)
  one_more total start left place xs x next so_far none one =
      so_far
      ∙ (ap (behind xs) (goes_on ends read left place none ∙ ap (λ (r : Result (X × ℕ) Malformed). r >>= λ y. each_within ends read left y.1 >>= λ rest. Ok (y.0 ∷ rest.0, rest.1)) one)
      ∙ behind_one xs x (each_within ends read left next))

  -- what stands there is refused
  pub one_refused : (total start left place : ℕ) (xs : List X) (fault : Malformed) → each_within ends read total start ≡ behind xs (each_within ends read (suc left) place) → ends place ≡ None → read place ≡ Err fault →
      each_within ends read total start ≡ Err fault
  one_refused total start left place xs fault so_far none one =
      so_far ∙ ap (behind xs) (goes_on ends read left place none ∙ ap (λ (r : Result (X × ℕ) Malformed). r >>= λ y. each_within ends read left y.1 >>= λ rest. Ok (y.0 ∷ rest.0, rest.1)) one)

  -- the list ends there
  pub no_more : (total start left place : ℕ) (xs : List X) (end : ℕ) → each_within ends read total start ≡ behind xs (each_within ends read (suc left) place) → ends place ≡ Some end →
      each_within ends read total start ≡ Ok (xs, end)
  no_more total start left place xs end so_far e =
      so_far ∙ (ap (behind xs) (ended ends read left place end e) ∙ ap (λ (ys : List X). Ok (ys, end)) (append-nil xs))

pub none_left : {X : Type 0} (ends : ℕ → Option ℕ) (read : ℕ → Result (X × ℕ) Malformed) (place : ℕ) → each_within ends read 0 place ≡ Err (invalid_tag place)
unfolding each_within
none_left ends read place = refl

-- one more thing is the one with the index, or not
pub seen_here : {X : Type 0} (number : ℕ) (xs : List X) (x : X) (index place : ℕ) → place ≡ number + length xs → place ≡ index → seen number (xs ++ x ∷ []) index ≡ Some x
seen_here {X} number xs x index place count here =
    seen_append number xs (x ∷ []) index ∙ ap (λ (b : Bool). or_before (if b then Some x else None) (seen number xs index)) (eq-eqb (number + length xs) index (omega (arith, count, here)))

pub seen_before : {X : Type 0} (number : ℕ) (xs : List X) (x : X) (index place : ℕ) → place ≡ number + length xs → (place ≡ index → ⊥) → seen number (xs ++ x ∷ []) index ≡ seen number xs index
seen_before {X} number xs x index place count not =
    seen_append number xs (x ∷ []) index ∙ ap (λ (b : Bool). or_before (if b then Some x else None) (seen number xs index)) (ne_eqb (number + length xs) index (λ e. not (omega (arith, count, e))))

-- ---- the properties of an object

abbrev listed : List ℕ → ℕ → Result (List PropertyAsked × ℕ) Malformed
listed input start = each_within (closes_at input) (property_at input) (length input) start

pub none_listed : (input : List ℕ) (start before index end : ℕ) → listed input start ≡ Ok ([], end) → passing before index (properties_at input start) ≡ Err (missing_parameter start)
unfolding properties_at
none_listed input start before index end e = ap (λ (r : Result (List PropertyAsked × ℕ) Malformed). passing before index (r >>= one_or_more start)) e

pub some_listed : (input : List ℕ) (start before index : ℕ) (xs : List PropertyAsked) (end : ℕ) → 1 ≤ length xs → listed input start ≡ Ok (xs, end) →
    passing before index (properties_at input start) ≡ Ok (seen before xs index, before + length xs, end)
unfolding properties_at
some_listed input start before index [] end some e = absurd (omega (arith, some))
some_listed input start before index (x ∷ xs) end some e = ap (λ (r : Result (List PropertyAsked × ℕ) Malformed). passing before index (r >>= one_or_more start)) e

pub refused_listed : (input : List ℕ) (start before index : ℕ) (fault : Malformed) → listed input start ≡ Err fault → passing before index (properties_at input start) ≡ Err fault
unfolding properties_at
refused_listed input start before index fault e = ap (λ (r : Result (List PropertyAsked × ℕ) Malformed). passing before index (r >>= one_or_more start)) e

-- ---- the properties of an object as specs

abbrev pub of_object : ObjectIdData → Option PropertyAsked × ℕ × ℕ → Option Spec × ℕ × ℕ
of_object object x = (option_map (spec_of object) x.0, x.1, x.2)

abbrev pub passing_object : ObjectIdData → Result (Option PropertyAsked × ℕ × ℕ) Malformed → Result (Option Spec × ℕ × ℕ) Malformed
passing_object object (Ok x) = Ok (of_object object x)
passing_object object (Err fault) = Err fault

pub group_passing : (input : List ℕ) (place before index : ℕ) (object : ObjectIdData) (start : ℕ) → entry_at input place ≡ Ok (object, start) →
    passing before index (specs_read (group_at input place)) ≡ passing_object object (passing before index (properties_at input start))
unfolding group_at
group_passing input place before index object start e =
    ap (λ (r : Result (ObjectIdData × ℕ) Malformed). passing before index (specs_read (r >>= λ entry. properties_at input entry.1 >>= λ properties. Ok (group_of entry.0 properties.0, properties.1)))) e
    ∙ go (properties_at input start)
  where
    go : (r : Result (List PropertyAsked × ℕ) Malformed) → passing before index (specs_read (r >>= λ properties. Ok (group_of object properties.0, properties.1))) ≡ passing_object object (passing before index r)
    go (Ok x) = ap₂ (λ (o : Option Spec) (n : ℕ). Ok (o, before + n, x.1)) (seen_map (spec_of object) before x.0 index) (length-map x.0 (spec_of object))
    go (Err fault) = refl

pub group_refused : (input : List ℕ) (place before index : ℕ) (fault : Malformed) → entry_at input place ≡ Err fault → passing before index (specs_read (group_at input place)) ≡ Err fault
unfolding group_at
group_refused input place before index fault e =
    ap (λ (r : Result (ObjectIdData × ℕ) Malformed). passing before index (specs_read (r >>= λ entry. properties_at input entry.1 >>= λ properties. Ok (group_of entry.0 properties.0, properties.1)))) e

-- what was passed of an object
pub record PassedGroup (before index : ℕ) (read : Result (ObjectAsked × ℕ) Malformed) (found : Option Spec) (passed end : ℕ) : Type 0 where
  pub group : ObjectAsked
  pub is : read ≡ Ok (group, end)
  pub seen_in : found ≡ seen before (specs_of group) index
  pub count : passed ≡ before + length (specs_of group)

pub passed_group : (before index : ℕ) (read : Result (ObjectAsked × ℕ) Malformed) (found : Option Spec) (passed end : ℕ) → passing before index (specs_read read) ≡ Ok (found, passed, end) → PassedGroup before index read found passed end
passed_group before index (Ok x) found passed end e =
    let same = ok_is (seen before (specs_of x.0) index, before + length (specs_of x.0), x.1) (found, passed, end) e in
    record {
      group = x.0;
      is = ap (λ (t : Option Spec × ℕ × ℕ). Ok (x.0, t.2)) same;
      seen_in = ap (λ (t : Option Spec × ℕ × ℕ). t.0) (sym same);
      count = ap (λ (t : Option Spec × ℕ × ℕ). t.1) (sym same);
    }
passed_group before index (Err fault) found passed end e = absurd cc

pub refused_group : (before index : ℕ) (read : Result (ObjectAsked × ℕ) Malformed) (fault : Malformed) → passing before index (specs_read read) ≡ Err fault → read ≡ Err fault
refused_group before index (Ok x) fault e = absurd cc
refused_group before index (Err other) fault e = let same : other ≡ fault = cc in ap (λ (f : Malformed). Err f) same

pub specs_more : (groups : List ObjectAsked) (group : ObjectAsked) → specs_in (groups ++ group ∷ []) ≡ specs_in groups ++ specs_of group
specs_more [] group = append-nil (specs_of group)
specs_more (first ∷ groups) group = ap (λ (specs : List Spec). specs_of first ++ specs) (specs_more groups group) ∙ sym (append_assoc (specs_of first) (specs_in groups) (specs_of group))

-- ---- all objects

abbrev further_listed : List ℕ → ℕ → Result (List ObjectAsked × ℕ) Malformed
further_listed input start = each_within (ends_at input) (further_at input) (length input) start

pub all_passed : (input : List ℕ) (index : ℕ) (first : ObjectAsked) (start : ℕ) (xs : List ObjectAsked) (end : ℕ) → group_at input 0 ≡ Ok (first, start) → further_listed input start ≡ Ok (xs, end) →
    many_request_of input index ≡ Ok (slice_get (specs_in (first ∷ xs)) index)
unfolding groups_of
all_passed input index first start xs end one later = rw (one, later) refl

pub first_refused : (input : List ℕ) (index : ℕ) (fault : Malformed) → group_at input 0 ≡ Err fault → many_request_of input index ≡ Err fault
unfolding groups_of
first_refused input index fault one = rw one refl

pub later_refused : (input : List ℕ) (index : ℕ) (first : ObjectAsked) (start : ℕ) (fault : Malformed) → group_at input 0 ≡ Ok (first, start) → further_listed input start ≡ Err fault → many_request_of input index ≡ Err fault
unfolding groups_of
later_refused input index first start fault one later = rw (one, later) refl

pub ends_there : (input : List ℕ) (place : ℕ) → length input ≤ place → ends_at input place ≡ Some place
unfolding ends_at
ends_there input place past = rw (le-ltb place (length input) past) refl

pub goes_there : (input : List ℕ) (place : ℕ) → place < length input → ends_at input place ≡ None
unfolding ends_at
goes_there input place lt = rw (lt-ltb place (length input) lt) refl

-- one more object is passed
pub specs_seen : (first : ObjectAsked) (xs : List ObjectAsked) (group : ObjectAsked) (index passed : ℕ) → passed ≡ length (specs_in (first ∷ xs)) →
    seen 0 (specs_in (first ∷ (xs ++ group ∷ []))) index ≡ or_before (seen passed (specs_of group) index) (seen 0 (specs_in (first ∷ xs)) index)
specs_seen first xs group index passed count =
    ap (λ (specs : List Spec). seen 0 specs index) (specs_more (first ∷ xs) group)
    ∙ (seen_append 0 (specs_in (first ∷ xs)) (specs_of group) index
    ∙ ap (λ n. or_before (seen n (specs_of group) index) (seen 0 (specs_in (first ∷ xs)) index)) (omega (arith, count)))

pub specs_count : (first : ObjectAsked) (xs : List ObjectAsked) (group : ObjectAsked) → length (specs_in (first ∷ (xs ++ group ∷ []))) ≡ length (specs_in (first ∷ xs)) + length (specs_of group)
specs_count first xs group = ap length (specs_more (first ∷ xs) group) ∙ length-append (specs_in (first ∷ xs)) (specs_of group)

pub first_count : (first : ObjectAsked) → specs_in (first ∷ []) ≡ specs_of first
first_count first = append-nil (specs_of first)
