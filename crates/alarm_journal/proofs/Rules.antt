-- The rules of an area, and how they are computed.
use Rattle.std.proofs.Common.{◌≡◌, ◌≢◌, inl, inr, ℕ, zero, suc, ◌+◌, ◌-◌, ◌<◌, ◌≤◌, if◌then◌else◌, Bool, true, false, List, [], ◌∷◌, ◌++◌, length, take, drop, get_or, refl, sym, ◌∙◌, ap, subst, arith, append_assoc, length-append, length-drop, take-append-drop, nat_lt, Result, Ok, Err}
use Rattle.std.proofs.lemmas.Bool.{cases_eq, cases_lt}
use Rattle.std.proofs.lemmas.List.{append-nil, drop-drop, length-take-le, take_at, drop_at}
use Rattle.byteorder.specs.Endian.{big_number}
use Rattle.ground_io.specs.Disk.{octets_at}
use Rattle.alarm_journal.specs.Journal.{Content, Tell, AreBatches, BeginsWith, IsShut, IsCut, Holds, LeavesAt, with_batch, only_snapshot}
use Rattle.alarm_journal.specs.JournalSteps.{in_front, batches_from, with_more, content_of}
use Rattle.alarm_journal.proofs.Batches.{is_one, below, not_below, batches_open, batches_closed, batches_bad}

zero_not_one : zero ≡ 1 → ⊥
zero_not_one is = omega arith

-- a batch in front, by its lengths
batch_long : (octets four body behind : List ℕ) → octets ≡ 1 ∷ (four ++ (body ++ behind)) → length four ≡ 4 → length octets ≡ 5 + length body + length behind
batch_long octets four body behind is long = ap length is ∙ five (length (four ++ (body ++ behind))) (omega (arith, long, length-append four (body ++ behind), length-append body behind))
  where
    five : (n : ℕ) → n ≡ 4 + length body + length behind → suc n ≡ 5 + length body + length behind
    five n so = omega arith

-- the rest is no longer than all
pub rest_short : (octets : List ℕ) (bodies : List (List ℕ)) (rest : List ℕ) → AreBatches octets bodies rest → length rest ≤ length octets
rest_short octets [] rest are = let same : length octets ≡ length rest = ap length are in omega arith
rest_short octets (body ∷ more) rest (four, behind, is, tells, are) = omega (arith, batch_long octets four body behind is tells.0, rest_short behind more rest are)

-- bodies in front of those that are read behind them, where they are read
abbrev pub after : List (List ℕ) → Result (List (List ℕ)) ℕ → Result (List (List ℕ)) ℕ
after bodies (Ok more) = Ok (bodies ++ more)
after bodies (Err place) = Err place

after_none : (r : Result (List (List ℕ)) ℕ) → r ≡ after [] r
after_none (Ok more) = refl
after_none (Err place) = refl

after_one : (body : List ℕ) (bodies : List (List ℕ)) (r : Result (List (List ℕ)) ℕ) → in_front body (after bodies r) ≡ after (body ∷ bodies) r
after_one body bodies (Ok more) = refl
after_one body bodies (Err place) = refl

-- batches that stand first are read, and then what stands behind them
pub batches_read : (place end : ℕ) (octets : List ℕ) (bodies : List (List ℕ)) (rest : List ℕ) → AreBatches octets bodies rest → end + length rest ≡ place + length octets → batches_from place zero octets ≡ after bodies (batches_from end zero rest)
batches_read place end octets [] rest are ends =
    let long : length octets ≡ length rest = ap length are in
    let same : place ≡ end = omega (arith, ends, long) in
    (λ i. batches_from (same i) zero (are i)) ∙ after_none (batches_from end zero rest)
batches_read place end octets (body ∷ more) rest (four, behind, is, tells, are) ends =
    ap (batches_from place zero) is ∙ batches_open place four body behind tells.0 (sym tells.1)
    ∙ ap (in_front body) (batches_read (place + 5 + length body) end behind more rest are (omega (arith, ends, batch_long octets four body behind is tells.0)))
    ∙ after_one body more (batches_from end zero rest)

-- what was computed of octets behind so many that belong to a body is so
abbrev Found : ℕ → ℕ → List ℕ → Result (List (List ℕ)) ℕ → Type 0
Found place left octets (Ok bodies) = (rest : List ℕ) × AreBatches (drop left octets) bodies rest × IsShut rest
Found place left octets (Err at) = (bodies : List (List ℕ)) × (rest : List ℕ) × AreBatches (drop left octets) bodies rest × IsCut rest × (at + length rest ≡ place + length octets + 1)

shut_found : (place : ℕ) (xs : List ℕ) → get_or xs 0 0 ≢ 1 → Found place zero xs (batches_from place zero xs)
shut_found place xs shut = subst (Found place zero xs) (sym (batches_closed place xs shut)) (xs, refl, shut)

cut_found : (place : ℕ) (xs : List ℕ) → get_or xs 0 0 ≡ 1 → length xs < 5 + big_number 4 (take 4 (drop 1 xs)) → Found place zero xs (batches_from place zero xs)
cut_found place xs gate short = subst (Found place zero xs) (sym (batches_bad place xs gate (inr short))) ([], xs, refl, (gate, short), omega arith)

few_found : (place : ℕ) (xs : List ℕ) → length xs < 5 → Found place zero xs (batches_from place zero xs)
few_found place xs few = elim (cases_eq (get_or xs 0 0) 1) [
  | inl gate ↦ cut_found place xs gate (omega (arith, few))
  | inr shut ↦ shut_found place xs shut
]

-- one batch, and what is found behind it
ahead : (place size g a b c d : ℕ) (rest : List ℕ) (r : Result (List (List ℕ)) ℕ) → g ≡ 1 → big_number 4 (a ∷ b ∷ c ∷ d ∷ []) ≡ size → size ≤ length rest → Found (place + 5) size rest r → Found place zero (g ∷ a ∷ b ∷ c ∷ d ∷ rest) (in_front (take size rest) r)
ahead place size g a b c d rest (Ok bodies) gate is fits (more, are, shut) =
    let long : length (take size rest) ≡ size = length-take-le size rest fits in
    (more, (a ∷ b ∷ c ∷ d ∷ [], drop size rest, (λ i. gate i ∷ a ∷ b ∷ c ∷ d ∷ sym (take-append-drop size rest) i), (refl, is ∙ sym long), are), shut)
ahead place size g a b c d rest (Err at) gate is fits (bodies, more, are, cut, ends) =
    let long : length (take size rest) ≡ size = length-take-le size rest fits in
    (take size rest ∷ bodies, more, (a ∷ b ∷ c ∷ d ∷ [], drop size rest, (λ i. gate i ∷ a ∷ b ∷ c ∷ d ∷ sym (take-append-drop size rest) i), (refl, is ∙ sym long), are), cut, five (length rest) ends)
  where
    five : (n : ℕ) → at + length more ≡ place + 5 + n + 1 → at + length more ≡ place + suc (suc (suc (suc (suc n)))) + 1
    five n so = omega arith

full_found : (place g a b c d : ℕ) (rest : List ℕ) → Found (place + 5) (big_number 4 (a ∷ b ∷ c ∷ d ∷ [])) rest (batches_from (place + 5) (big_number 4 (a ∷ b ∷ c ∷ d ∷ [])) rest) → Found place zero (g ∷ a ∷ b ∷ c ∷ d ∷ rest) (batches_from place zero (g ∷ a ∷ b ∷ c ∷ d ∷ rest))
full_found place g a b c d rest behind =
    let xs : List ℕ = g ∷ a ∷ b ∷ c ∷ d ∷ rest in
    let size : ℕ = big_number 4 (a ∷ b ∷ c ∷ d ∷ []) in
    elim (cases_eq g 1) [
      | inr shut ↦ shut_found place xs shut
      | inl gate ↦ elim (cases_lt (length rest) size) [
        | inl over ↦ cut_found place xs gate (five (length rest) size over)
        | inr fits ↦
            let is : batches_from place zero xs ≡ in_front (take size rest) (batches_from (place + 5) size rest) =
            ap (λ (t : Bool). if t then (if nat_lt (length rest) size then Err (place + 1) else in_front (take size rest) (batches_from (place + 5) size rest)) else Ok []) (is_one g gate)
            ∙ ap (λ (t : Bool). if t then Err (place + 1) else in_front (take size rest) (batches_from (place + 5) size rest)) (not_below size (length rest) fits) in
            subst (Found place zero xs) (sym is) (ahead place size g a b c d rest (batches_from (place + 5) size rest) gate refl fits behind)
      ]
    ]
  where
    five : (n m : ℕ) → n < m → suc (suc (suc (suc (suc n)))) < 5 + m
    five n m lt = omega arith

skipped : (place left octet : ℕ) (rest : List ℕ) (r : Result (List (List ℕ)) ℕ) → Found (place + 1) left rest r → Found place (suc left) (octet ∷ rest) r
skipped place left octet rest (Ok bodies) behind = behind
skipped place left octet rest (Err at) (bodies, more, are, cut, ends) = (bodies, more, are, cut, one (length rest) ends)
  where
    one : (n : ℕ) → at + length more ≡ place + 1 + n + 1 → at + length more ≡ place + suc n + 1
    one n so = omega arith

pub found : (place left : ℕ) (octets : List ℕ) → Found place left octets (batches_from place left octets)
found place zero [] = few_found place [] (omega arith)
found place zero (g ∷ []) = few_found place (g ∷ []) (omega arith)
found place zero (g ∷ a ∷ []) = few_found place (g ∷ a ∷ []) (omega arith)
found place zero (g ∷ a ∷ b ∷ []) = few_found place (g ∷ a ∷ b ∷ []) (omega arith)
found place zero (g ∷ a ∷ b ∷ c ∷ []) = few_found place (g ∷ a ∷ b ∷ c ∷ []) (omega arith)
found place zero (g ∷ a ∷ b ∷ c ∷ d ∷ rest) = full_found place g a b c d rest (found (place + 5) (big_number 4 (a ∷ b ∷ c ∷ d ∷ [])) rest)
found place (suc left) [] = ([], refl, zero_not_one)
found place (suc left) (octet ∷ rest) = skipped place left octet rest (batches_from (place + 1) left rest) (found (place + 1) left rest)

-- an area that begins with a length
abbrev area_with : ℕ → ℕ → List ℕ → Bool → Type 0
area_with place count area over = content_of place area ≡ (if over then Err place else with_more (only_snapshot (octets_at 4 count area)) (batches_from (place + (4 + count)) zero (drop (4 + count) area)))

counted : (place count : ℕ) (area : List ℕ) → big_number 4 (take 4 area) ≡ count → area_with place count area (nat_lt (length area) (4 + count))
counted place count area is = (λ i. if nat_lt (length area) (4 + is i) then Err place else with_more (only_snapshot (octets_at 4 (is i) area)) (batches_from (place + (4 + is i)) zero (drop (4 + is i) area)))

-- the snapshot's length leaves the area
pub bad_snapshot : (area : List ℕ) (place count : ℕ) → count ≡ big_number 4 (take 4 area) → length area < 4 + count → content_of place area ≡ Err place
bad_snapshot area place count is over =
    let out : nat_lt (length area) (4 + count) ≡ true = below (4 + count) (length area) over in
    counted place count area (sym is) ∙ ap (λ (b : Bool). if b then Err place else with_more (only_snapshot (octets_at 4 count area)) (batches_from (place + (4 + count)) zero (drop (4 + count) area))) out

-- a length and a snapshot in front of an area, and what is read behind them
pub content_front : (place : ℕ) (area four snapshot behind : List ℕ) → area ≡ four ++ (snapshot ++ behind) → Tell four (length snapshot) → content_of place area ≡ with_more (only_snapshot snapshot) (batches_from (place + (4 + length snapshot)) zero behind)
content_front place area four snapshot behind is tells =
    let n : ℕ = length snapshot in
    let all : List ℕ = four ++ (snapshot ++ behind) in
    let number : big_number 4 (take 4 all) ≡ n = ap (λ (l : List ℕ). big_number 4 l) (take_at four (snapshot ++ behind) 4 tells.0) ∙ tells.1 in
    let past : drop 4 all ≡ snapshot ++ behind = drop_at four (snapshot ++ behind) 4 tells.0 in
    let state : octets_at 4 n all ≡ snapshot = ap (take n) past ∙ take_at snapshot behind n refl in
    let rest : drop (4 + n) all ≡ behind = sym (drop-drop n 4 all) ∙ ap (drop n) past ∙ drop_at snapshot behind n refl in
    let whole : nat_lt (length all) (4 + n) ≡ false = not_below (4 + n) (length all) (omega (arith, tells.0, length-append four (snapshot ++ behind), length-append snapshot behind)) in
    ap (content_of place) is ∙ counted place n all number
    ∙ (λ i. if whole i then Err place else with_more (only_snapshot (state i)) (batches_from (place + (4 + n)) zero (rest i)))

with_after : (snapshot : List ℕ) (bodies : List (List ℕ)) (r : Result (List (List ℕ)) ℕ) → with_more (only_snapshot snapshot) (after bodies r) ≡ with_more (record { snapshot = snapshot; bodies = bodies }) r
with_after snapshot bodies (Ok more) = refl
with_after snapshot bodies (Err place) = refl

area_long : (area : List ℕ) (content : Content) (rest : List ℕ) → (begins : BeginsWith area content rest) → length area ≡ 4 + length content.snapshot + length begins.behind
area_long area content rest begins = omega (arith, length_is, begins.size.0, length-append begins.four (content.snapshot ++ begins.behind), length-append content.snapshot begins.behind)
  where
    length_is : length area ≡ length (begins.four ++ (content.snapshot ++ begins.behind))
    length_is = ap length begins.whole

pub area_rest : (area : List ℕ) (content : Content) (rest : List ℕ) → BeginsWith area content rest → length rest ≤ length area
area_rest area content rest begins = omega (arith, area_long area content rest begins, rest_short begins.behind content.bodies rest begins.batches)

-- what an area begins with is read, and then what stands behind it
pub area_read : (place end : ℕ) (area : List ℕ) (content : Content) (rest : List ℕ) → BeginsWith area content rest → end + length rest ≡ place + length area → content_of place area ≡ with_more content (batches_from end zero rest)
area_read place end area content rest begins ends =
    let n : ℕ = length content.snapshot in
    content_front place area begins.four content.snapshot begins.behind begins.whole begins.size
    ∙ ap (with_more (only_snapshot content.snapshot)) (batches_read (place + (4 + n)) end begins.behind content.bodies rest begins.batches (omega (arith, ends, area_long area content rest begins)))
    ∙ with_after content.snapshot content.bodies (batches_from end zero rest)

-- what was computed of an area is so
abbrev pub AreaFound : ℕ → List ℕ → Result Content ℕ → Type 0
AreaFound place area (Ok content) = Holds area content
AreaFound place area (Err at) = LeavesAt place area at

behind_snapshot : (place count : ℕ) (area : List ℕ) (r : Result (List (List ℕ)) ℕ) → 4 + count ≤ length area → big_number 4 (take 4 area) ≡ count → Found (place + (4 + count)) zero (drop (4 + count) area) r → AreaFound place area (with_more (only_snapshot (octets_at 4 count area)) r)
behind_snapshot place count area (Ok bodies) fits number (rest, are, shut) = (
  rest,
  record {
    four = take 4 area;
    behind = drop (4 + count) area;
    whole = parts area count;
    size = (length-take-le 4 area (omega (arith, fits)), number ∙ sym (length-take-le count (drop 4 area) (omega (arith, fits, length-drop 4 area))));
    batches = are;
  },
  shut,
)
  where
    parts : (xs : List ℕ) (n : ℕ) → xs ≡ take 4 xs ++ (octets_at 4 n xs ++ drop (4 + n) xs)
    parts xs n = sym (take-append-drop 4 xs) ∙ ap (λ (l : List ℕ). take 4 xs ++ l) (sym (take-append-drop n (drop 4 xs)) ∙ ap (λ (l : List ℕ). octets_at 4 n xs ++ l) (drop-drop n 4 xs))
behind_snapshot place count area (Err at) fits number (bodies, rest, are, cut, ends) = inr (
  record { snapshot = octets_at 4 count area; bodies = bodies },
  rest,
  record {
    four = take 4 area;
    behind = drop (4 + count) area;
    whole = parts area count;
    size = (length-take-le 4 area (omega (arith, fits)), number ∙ sym (length-take-le count (drop 4 area) (omega (arith, fits, length-drop 4 area))));
    batches = are;
  },
  cut,
  omega (arith, ends, fits, length-drop (4 + count) area, rest_short (drop (4 + count) area) bodies rest are),
)
  where
    parts : (xs : List ℕ) (n : ℕ) → xs ≡ take 4 xs ++ (octets_at 4 n xs ++ drop (4 + n) xs)
    parts xs n = sym (take-append-drop 4 xs) ∙ ap (λ (l : List ℕ). take 4 xs ++ l) (sym (take-append-drop n (drop 4 xs)) ∙ ap (λ (l : List ℕ). octets_at 4 n xs ++ l) (drop-drop n 4 xs))

pub area_found : (place : ℕ) (area : List ℕ) → AreaFound place area (content_of place area)
area_found place area =
    let count : ℕ = big_number 4 (take 4 area) in
    elim (cases_lt (length area) (4 + count)) [
      | inl over ↦ subst (AreaFound place area) (sym (bad_snapshot area place count refl over)) (inl (refl, over))
      | inr fits ↦
          let is : content_of place area ≡ with_more (only_snapshot (octets_at 4 count area)) (batches_from (place + (4 + count)) zero (drop (4 + count) area)) =
          counted place count area refl
          ∙ ap (λ (b : Bool). if b then Err place else with_more (only_snapshot (octets_at 4 count area)) (batches_from (place + (4 + count)) zero (drop (4 + count) area))) (not_below (4 + count) (length area) fits) in
          subst (AreaFound place area) (sym is) (behind_snapshot place count area (batches_from (place + (4 + count)) zero (drop (4 + count) area)) fits refl (found (place + (4 + count)) zero (drop (4 + count) area)))
    ]

-- an area that holds something, and one with a length that leaves it, are computed so
pub holds_computed : (place : ℕ) (area : List ℕ) (content : Content) → Holds area content → content_of place area ≡ Ok content
holds_computed place area content (rest, begins, shut) =
    let end : ℕ = place + (length area - length rest) in
    area_read place end area content rest begins (omega (arith, area_rest area content rest begins)) ∙ ap (with_more content) (batches_closed end rest shut)
    ∙ (λ i. Ok (record { snapshot = content.snapshot; bodies = append-nil content.bodies i }))

pub leaves_computed : (place : ℕ) (area : List ℕ) (at : ℕ) → LeavesAt place area at → content_of place area ≡ Err at
leaves_computed place area at (inl (is, over)) = bad_snapshot area place (big_number 4 (take 4 area)) refl over ∙ ap (λ (k : ℕ). Err k) (sym is)
leaves_computed place area at (inr (content, rest, begins, cut, is)) =
    let end : ℕ = place + (length area - length rest) in
    area_read place end area content rest begins (omega (arith, area_rest area content rest begins)) ∙ ap (with_more content) (batches_bad end rest cut.0 (inr cut.1)) ∙ ap (λ (k : ℕ). Err k) (sym is)

pub computed_holds : (place : ℕ) (area : List ℕ) (content : Content) → content_of place area ≡ Ok content → Holds area content
computed_holds place area content is = subst (AreaFound place area) is (area_found place area)

pub computed_leaves : (place : ℕ) (area : List ℕ) (at : ℕ) → content_of place area ≡ Err at → LeavesAt place area at
computed_leaves place area at is = subst (AreaFound place area) is (area_found place area)

-- batches behind batches
pub batches_then : (first : List ℕ) (bodies : List (List ℕ)) (second : List ℕ) (more : List (List ℕ)) (rest : List ℕ) → AreBatches first bodies second → AreBatches second more rest → AreBatches first (bodies ++ more) rest
batches_then first [] second more rest one two = subst (λ (l : List ℕ). AreBatches l more rest) (sym one) two
batches_then first (body ∷ bodies) second more rest (four, behind, is, tells, one) two = (four, behind, is, tells, batches_then behind bodies second more rest one two)

batches_tail : (octets : List ℕ) (bodies : List (List ℕ)) (rest tail : List ℕ) → AreBatches octets bodies rest → AreBatches (octets ++ tail) bodies (rest ++ tail)
batches_tail octets [] rest tail are = ap (λ (l : List ℕ). l ++ tail) are
batches_tail octets (body ∷ more) rest tail (four, behind, is, tells, are) = (
  four,
  behind ++ tail,
  ap (λ (l : List ℕ). l ++ tail) is ∙ ap (λ (l : List ℕ). 1 ∷ l) (append_assoc four (body ++ behind) tail ∙ ap (λ (l : List ℕ). four ++ l) (append_assoc body behind tail)),
  tells,
  batches_tail behind more rest tail are,
)

-- octets behind an area come behind its rest
pub begins_tail : (area : List ℕ) (content : Content) (rest tail : List ℕ) → BeginsWith area content rest → BeginsWith (area ++ tail) content (rest ++ tail)
begins_tail area content rest tail begins = record {
  four = begins.four;
  behind = begins.behind ++ tail;
  whole = ap (λ (l : List ℕ). l ++ tail) begins.whole ∙ append_assoc begins.four (content.snapshot ++ begins.behind) tail ∙ ap (λ (l : List ℕ). begins.four ++ l) (append_assoc content.snapshot begins.behind tail);
  size = begins.size;
  batches = batches_tail begins.behind content.bodies rest tail begins.batches;
}

-- a length and a snapshot alone
pub begins_snapshot : (four snapshot : List ℕ) → Tell four (length snapshot) → BeginsWith (four ++ snapshot) (only_snapshot snapshot) []
begins_snapshot four snapshot tells = record { four = four; behind = []; whole = ap (λ (l : List ℕ). four ++ l) (sym (append-nil snapshot)); size = tells; batches = refl }

-- one batch more
pub begins_batch : (area : List ℕ) (content : Content) (four body : List ℕ) → BeginsWith area content [] → Tell four (length body) → BeginsWith (area ++ 1 ∷ (four ++ body)) (with_batch content body) []
begins_batch area content four body begins tells =
    let mid : List ℕ = 1 ∷ (four ++ body) in
    let longer = begins_tail area content [] mid begins in
    record {
      four = longer.four;
      behind = longer.behind;
      whole = longer.whole;
      size = longer.size;
      batches = batches_then longer.behind content.bodies mid (body ∷ []) [] longer.batches (four, [], ap (λ (l : List ℕ). 1 ∷ (four ++ l)) (sym (append-nil body)), tells, refl);
    }

-- octets that are a content alone are read as it, whatever stands behind them
pub reads_any : (octets : List ℕ) (content : Content) → BeginsWith octets content [] → (place : ℕ) (tail : List ℕ) → content_of place (octets ++ tail) ≡ with_more content (batches_from (place + length octets) zero tail)
reads_any octets content begins place tail =
    area_read place (place + length octets) (octets ++ tail) content tail (begins_tail octets content [] tail begins) (omega (arith, length-append octets tail))
