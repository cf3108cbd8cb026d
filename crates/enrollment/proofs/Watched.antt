-- The references of value objects and enrollments, and which of them are to an object.
use Rattle.std.proofs.Common.{◌≡◌, Bool, true, false, true≢false, ◌||◌, ◌&&◌, not, Option, Some, None, if◌then◌else◌, cond, List, [], ◌∷◌, ◌++◌, map, refl, ap, ap₂, sym, ◌∙◌, append_assoc}
use Rattle.std.specs.List.{filter, flat_map, list_any}
use Rattle.std.specs.Option.{option_to_list}
use Rattle.std.proofs.lemmas.List.{map-append}
use Rattle.std.proofs.lemmas.List.Elements.{filter-append}
use Rattle.bac_values.specs.Identifier.{ObjectIdData}
use Rattle.object_table.specs.declared.object_site.ObjectSite.{ObjectSite}
use Rattle.object_table.specs.Rows.{is_object}
use Rattle.enrollment.specs.declared.enrollment_site.EnrollmentSite.{EnrollmentSite}
use Rattle.enrollment.specs.declared.references.Reference.{Reference}
use Rattle.enrollment.specs.References.{is_to, reference_if_new, reference_to, references_behind, references_by, references_of, stands, watcher_of, watchers_in}
use Rattle.enrollment.specs.Subjects.{is_before_enrollments, is_behind_enrollments}
use Rattle.enrollment.specs.Watchers.{Referrer, identifier_of_referrer, referrer_of_enrollment, referrer_of_object, referrers_of, refers_to, watchers}
use Rattle.enrollment.proofs.Appended.{given}
use Rattle.enrollment.proofs.Ordered.{same_stretches}
use Rattle.enrollment.proofs.Parted.{same_object}

-- who refers, where it does
abbrev watcher_if : Bool → ObjectIdData → List ObjectIdData
watcher_if refers watcher = if refers then watcher ∷ [] else []

-- who refers by the references of two lists
in_both : (object : ObjectIdData) (xs ys : List Reference) → watchers_in object (xs ++ ys) ≡ watchers_in object xs ++ watchers_in object ys
in_both object xs ys = ap (map watcher_of) (filter-append (is_to object) xs ys) ∙ map-append watcher_of (filter (is_to object) xs) (filter (is_to object) ys)

by_both : (object : ObjectIdData) (xs ys : List Referrer) → watchers object (xs ++ ys) ≡ watchers object xs ++ watchers object ys
by_both object xs ys = ap (map identifier_of_referrer) (filter-append (refers_to object) xs ys) ∙ map-append identifier_of_referrer (filter (refers_to object) xs) (filter (refers_to object) ys)

-- ---- the references of one

one_or_none : (here : Bool) (reference : Reference) → map watcher_of (cond here (reference ∷ []) []) ≡ watcher_if (here || false) reference.watcher
one_or_none true reference = refl
one_or_none false reference = refl

-- whether one of the earlier references is to the same object is told alike of both
by_answers : (object watcher referred : ObjectIdData) (repeats earlier same : Bool) → is_object object referred ≡ same → (same ≡ true → repeats ≡ earlier) →
    watchers_in object (if repeats then [] else reference_to referred watcher ∷ []) ≡ watcher_if (not earlier && (is_object object referred || false)) watcher
by_answers object watcher referred true true same s alike = refl
by_answers object watcher referred false false same s alike = one_or_none (is_object object referred) (reference_to referred watcher)
by_answers object watcher referred true false true s alike = absurd (true≢false (alike refl))
by_answers object watcher referred true false false s alike = sym (ap (λ b. watcher_if (b || false) watcher) s)
by_answers object watcher referred false true true s alike = absurd (true≢false (sym (alike refl)))
by_answers object watcher referred false true false s alike = ap (λ b. map watcher_of (cond b (reference_to referred watcher ∷ []) [])) s

no_second : (earlier : Bool) → (not earlier && false) ≡ false
no_second true = refl
no_second false = refl

-- one more reference is to an object where it refers to that, and no earlier one does
one_more : (object watcher : ObjectIdData) (earlier : List ObjectIdData) (referred : Option ObjectIdData) →
    watchers_in object (reference_if_new watcher earlier referred) ≡ watcher_if (not (list_any (is_object object) earlier) && list_any (is_object object) (option_to_list referred)) watcher
one_more object watcher earlier None = ap (λ b. watcher_if b watcher) (sym (no_second (list_any (is_object object) earlier)))
one_more object watcher earlier (Some referred) =
    by_answers object watcher referred (list_any (is_object referred) earlier) (list_any (is_object object) earlier) (is_object object referred) refl
    (λ same. ap (λ o. list_any (is_object o) earlier) (same_object object referred same))

-- more references are to an object where one of them is, and no earlier one
more_or_not : (earlier first others : Bool) (watcher : ObjectIdData) → watcher_if (not earlier && (first || false)) watcher ++ watcher_if (not (first || earlier) && others) watcher ≡ watcher_if (not earlier && (first || others)) watcher
more_or_not true true others watcher = refl
more_or_not true false others watcher = refl
more_or_not false true others watcher = refl
more_or_not false false others watcher = refl

behind : (object watcher : ObjectIdData) (earlier objects : List ObjectIdData) → watchers_in object (references_behind watcher earlier objects) ≡ watcher_if (not (list_any (is_object object) earlier) && list_any (is_object object) objects) watcher
behind object watcher earlier [] = ap (λ b. watcher_if b watcher) (sym (no_second (list_any (is_object object) earlier)))
behind object watcher earlier (first ∷ others) =
    in_both object (reference_if_new watcher earlier (Some first)) (references_behind watcher (first ∷ earlier) others)
    ∙ ap₂ (λ xs ys. xs ++ ys) (one_more object watcher earlier (Some first)) (behind object watcher (first ∷ earlier) others)
    ∙ more_or_not (list_any (is_object object) earlier) (is_object object first) (list_any (is_object object) others) watcher

by_referrer : (object : ObjectIdData) (referrer : Referrer) → watchers_in object (references_by referrer) ≡ watcher_if (refers_to object referrer) referrer.object
by_referrer object referrer = behind object referrer.object [] referrer.refers

-- ---- the references of all

kept : (refers : Bool) (referrer : Referrer) (referrers : List Referrer) → watcher_if refers referrer.object ++ map identifier_of_referrer referrers ≡ map identifier_of_referrer (cond refers (referrer ∷ referrers) referrers)
kept true referrer referrers = refl
kept false referrer referrers = refl

by_referrers : (object : ObjectIdData) (referrers : List Referrer) → watchers_in object (flat_map references_by referrers) ≡ watchers object referrers
by_referrers object [] = refl
by_referrers object (referrer ∷ referrers) =
    in_both object (references_by referrer) (flat_map references_by referrers)
    ∙ (ap₂ (λ xs ys. xs ++ ys) (by_referrer object referrer) (by_referrers object referrers)
    ∙ kept (refers_to object referrer) referrer (filter (refers_to object) referrers))

-- who refers to an object is told by the references
pub all_watched : (object : ObjectIdData) (referrers : List Referrer) → watchers_in object (references_of referrers) ≡ watchers object referrers
all_watched object referrers = ap (map watcher_of) (same_stretches object (flat_map references_by referrers)) ∙ by_referrers object referrers

-- ---- how they are collected

given_map : {X : Type 0} (f : X → Referrer) (xs : List X) → flat_map references_by (map f xs) ≡ flat_map (λ x. references_by (f x)) xs
given_map f [] = refl
given_map f (x ∷ xs) = ap (λ references. references_by (f x) ++ references) (given_map f xs)

-- those of the value objects before the enrollments, of these, and of the other value objects
pub all_added : (objects : List ObjectSite) (enrollments : List EnrollmentSite) (once twice all : List Reference) → once ≡ flat_map (λ site. references_by (referrer_of_object site)) (filter (stands true) objects)
    → twice ≡ once ++ flat_map (λ site. references_by (referrer_of_enrollment site)) enrollments → all ≡ twice ++ flat_map (λ site. references_by (referrer_of_object site)) (filter (stands false) objects) → all ≡ flat_map references_by (referrers_of objects enrollments)
all_added objects enrollments once twice all first second third =
    let before : List ObjectSite = filter is_before_enrollments objects in
    let behind : List ObjectSite = filter is_behind_enrollments objects in
    let one : List Reference = flat_map (λ site. references_by (referrer_of_object site)) before in
    let two : List Reference = flat_map (λ site. references_by (referrer_of_enrollment site)) enrollments in
    let three : List Reference = flat_map (λ site. references_by (referrer_of_object site)) behind in
    third
    ∙ ap (λ xs. xs ++ three) (second ∙ ap (λ xs. xs ++ two) first)
    ∙ append_assoc one two three
    ∙ sym (given references_by (map referrer_of_object before) (map referrer_of_enrollment enrollments ++ map referrer_of_object behind)
    ∙ ap₂ (λ xs ys. xs ++ ys) (given_map referrer_of_object before)
    (given references_by (map referrer_of_enrollment enrollments) (map referrer_of_object behind) ∙ ap₂ (λ xs ys. xs ++ ys) (given_map referrer_of_enrollment enrollments) (given_map referrer_of_object behind)))
