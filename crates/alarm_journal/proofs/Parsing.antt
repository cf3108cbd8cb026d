-- One batch more is read.
use Rattle.std.proofs.Common.{◌≡◌, ℕ, zero, suc, ◌+◌, ◌-◌, ◌<◌, ◌≤◌, List, [], ◌∷◌, ◌++◌, length, take, drop, get_or, sym, ◌∙◌, ap, subst, arith, length-drop, ◌⊎◌, inl, inr, take-append-drop, Err}
use Rattle.std.proofs.lemmas.List.{take-take, drop-drop, drop_more, length-take-le, get_or-drop, get_or-take}
use Rattle.std.proofs.lemmas.Bool.{cases_lt}
use Rattle.std.proofs.Math.Seq.{take-add}
use Rattle.byteorder.specs.Endian.{big_number}
use Rattle.ground_io.specs.Disk.{octets_at}
use Rattle.alarm_journal.specs.Journal.{only_snapshot, with_batch, BeginsWith, Content}
use Rattle.alarm_journal.specs.JournalSteps.{content_of, batches_from, with_more}
use Rattle.alarm_journal.proofs.Fronts.{slice_front}
use Rattle.alarm_journal.proofs.Rules.{begins_batch, begins_snapshot, reads_any}
use Rattle.alarm_journal.proofs.Batches.{batches_bad}

-- the snapshot alone
pub reads_snapshot : (area : List ℕ) (count : ℕ) → 4 + count ≤ length area → count ≡ big_number 4 (take 4 area) → BeginsWith (take (4 + count) area) (only_snapshot (octets_at 4 count area)) []
reads_snapshot area count fits count_is =
    let long : length (octets_at 4 count area) ≡ count = length-take-le count (drop 4 area) (omega (arith, length-drop 4 area, fits)) in
    subst (λ (l : List ℕ). BeginsWith l (only_snapshot (octets_at 4 count area)) []) (sym (take-add 4 count area))
    (begins_snapshot (take 4 area) (octets_at 4 count area) (length-take-le 4 area (omega (arith, fits)), sym count_is ∙ sym long))

pub reads_batch : (area : List ℕ) (content : Content) (at size : ℕ) → BeginsWith (take at area) content [] → at + 5 + size ≤ length area → get_or area at 0 ≡ 1 → size ≡ big_number 4 (octets_at (at + 1) 4 area)
    → BeginsWith (take (at + 5 + size) area) (with_batch content (octets_at (at + 5) size area)) []
reads_batch area content at size reads fits gate size_is =
    let four : List ℕ = octets_at (at + 1) 4 area in
    let body : List ℕ = octets_at (at + 5) size area in
    let long4 : length four ≡ 4 = length-take-le 4 (drop (at + 1) area) (omega (arith, length-drop (at + 1) area, fits)) in
    let long : length body ≡ size = length-take-le size (drop (at + 5) area) (omega (arith, length-drop (at + 5) area, fits)) in
    let mid : List ℕ = 1 ∷ (four ++ body) in
    let step : drop at area ≡ 1 ∷ drop (at + 1) area = drop_more area at 0 (omega (arith, fits)) ∙ ap (λ (k : ℕ). k ∷ drop (at + 1) area) gate in
    let behind4 : drop 4 (drop (at + 1) area) ≡ drop (at + 5) area = drop-drop 4 (at + 1) area ∙ ap (λ (k : ℕ). drop k area) sum4 in
    let part : take (5 + size) (drop at area) ≡ mid =
    ap (take (5 + size)) step ∙ ap (λ (k : ℕ). take k (1 ∷ drop (at + 1) area)) (sum1 size) ∙ ap (λ (l : List ℕ). 1 ∷ l) (take-add 4 size (drop (at + 1) area) ∙ ap (λ (l : List ℕ). four ++ take size l) behind4) in
    let front : take (at + 5 + size) area ≡ take at area ++ mid = ap (λ (k : ℕ). take k area) sum ∙ take-add at (5 + size) area ∙ ap (λ (l : List ℕ). take at area ++ l) part in
    subst (λ (l : List ℕ). BeginsWith l (with_batch content body) []) (sym front) (begins_batch (take at area) content four body reads (long4, sym size_is ∙ sym long))
  where
    sum : at + 5 + size ≡ at + (5 + size)
    sum = omega arith

    sum4 : at + 1 + 4 ≡ at + 5
    sum4 = omega arith

    sum1 : (s : ℕ) → 5 + s ≡ suc (4 + s)
    sum1 s = omega arith

-- the next batch's does, in an area of so many octets
pub bad_batch : (octets : List ℕ) (content : Content) (place half at : ℕ) → BeginsWith (take at octets) content [] → half ≤ length octets → get_or octets at 0 ≡ 1 → (half < at + 5) ⊎ (half < at + 5 + big_number 4 (octets_at (at + 1) 4 octets)) → at < half
    → content_of place (take half octets) ≡ Err (place + at + 1)
bad_batch octets content place half at reads long gate bad inside =
    let area : List ℕ = take half octets in
    let rest : List ℕ = drop at area in
    let size : length area ≡ half = length-take-le half octets long in
    let front : take at area ≡ take at octets = take-take at half octets (omega (arith, inside)) in
    let whole : area ≡ take at octets ++ rest = sym (take-append-drop at area) ∙ ap (λ (l : List ℕ). l ++ rest) front in
    let head : get_or rest 0 0 ≡ 1 = get_or-drop at area 0 0 ∙ ap (λ (k : ℕ). get_or area k 0) none ∙ get_or-take half octets at 0 inside ∙ gate in
    let count : length rest ≡ half - at = length-drop at area ∙ ap (λ (k : ℕ). k - at) size in
    let wrong : (length rest < 5) ⊎ (length rest < 5 + big_number 4 (take 4 (drop 1 rest))) = elim (cases_lt half (at + 5)) [
      | inl short ↦ inl (omega (arith, count, short))
      | inr room ↦
          let four : take 4 (drop 1 rest) ≡ octets_at (at + 1) 4 octets =
          ap (take 4) (drop-drop 1 at area) ∙ slice_front half (at + 1) 4 area octets (omega (arith, room)) (take-take half half octets (omega arith)) in
          to (length rest) (big_number 4 (octets_at (at + 1) 4 octets)) (big_number 4 (take 4 (drop 1 rest))) (ap (λ (l : List ℕ). big_number 4 l) (sym four)) count bad
    ] in
    let before : length (take at octets) ≡ at = length-take-le at octets (omega (arith, long, inside)) in
    ap (content_of place) whole ∙ reads_any (take at octets) content reads place rest ∙ ap (λ (k : ℕ). with_more content (batches_from (place + k) zero rest)) before ∙ ap (with_more content) (batches_bad (place + at) rest head wrong)
  where
    none : at + 0 ≡ at
    none = omega arith

    to : (k n m : ℕ) → n ≡ m → k ≡ half - at → (half < at + 5) ⊎ (half < at + 5 + n) → (k < 5) ⊎ (k < 5 + m)
    to k n m same is (inl short) = inl (omega (arith, inside))
    to k n m same is (inr long_one) = inr (omega (arith, inside, same))
