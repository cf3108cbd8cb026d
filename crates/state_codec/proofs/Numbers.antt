-- Records that were read have their numbers.
use Rattle.std.proofs.Common.{◌≡◌, ℕ, zero, suc, ◌-◌, Bool, List, [], ◌∷◌, length, map, Some, Result, Ok, Err, IfOk, refl, sym, ap, ◌∙◌, arith}
use Rattle.civil_stamp.specs.LocalTime.{ZoneData}
use Rattle.event_log.specs.Log.{AreNumbered, number_back}
use Rattle.event_log.specs.declared.log_record.LogRecord.{LogRecord}
use Rattle.state_codec.specs.declared.reading.ReadFault.{ReadFault}
use Rattle.state_codec.specs.ReadingSteps.{◌>>=◌, Gives}
use Rattle.state_codec.specs.SnapshotSteps.{and_at, stamp_at, hundredths_at, body_at, each_at, entry_at, entry_with, numbers_up_to}
use Rattle.state_codec.proofs.Behind.{bind_some, some_is}

abbrev pub number_of : LogRecord → ℕ
number_of entry = entry.sequence

entry_number : (has_rule : Bool) (zone : ZoneData) (sequence : ℕ) (octets : List ℕ) (entry : LogRecord) (after : List ℕ) → entry_at has_rule zone sequence octets ≡ Some (entry, after) → entry.sequence ≡ sequence
unfolding entry_at
entry_number has_rule zone sequence octets entry after e =
    let b = bind_some ((and_at stamp_at λ stamp. and_at (hundredths_at has_rule zone stamp) λ hundredths. body_at) octets) (λ found. Some (entry_with sequence found.0) >>= λ value. Some (value, found.1)) (entry, after) e in
    ap (λ (p : LogRecord × List ℕ). p.0.sequence) (sym (some_is (entry_with sequence b.0.0, b.0.1) (entry, after) b.2))

each_number : (has_rule : Bool) (zone : ZoneData) (guides : List ℕ) (octets : List ℕ) (entries : List LogRecord) (rest : List ℕ) → each_at (entry_at has_rule zone) guides octets ≡ Some (entries, rest) → map number_of entries ≡ guides
unfolding each_at
each_number has_rule zone [] octets entries rest e = ap (λ (p : List LogRecord × List ℕ). map number_of p.0) (sym (some_is ([], octets) (entries, rest) e))
each_number has_rule zone (guide ∷ guides) octets entries rest e =
    let a = bind_some (entry_at has_rule zone guide octets) (λ first. each_at (entry_at has_rule zone) guides first.1 >>= λ others. Some (first.0 ∷ others.0, others.1)) (entries, rest) e in
    let b = bind_some (each_at (entry_at has_rule zone) guides a.0.1) (λ others. Some (a.0.0 ∷ others.0, others.1)) (entries, rest) a.2 in
    ap (λ (p : List LogRecord × List ℕ). map number_of p.0) (sym (some_is (a.0.0 ∷ b.0.0, b.0.1) (entries, rest) b.2))
    ∙ ap (λ (n : ℕ). n ∷ map number_of b.0.0) (entry_number has_rule zone guide octets a.0.0 a.0.1 a.1)
    ∙ ap (λ (ns : List ℕ). guide ∷ ns) (each_number has_rule zone guides a.0.1 b.0.0 b.0.1 b.1)

heads : (a b : ℕ) (xs ys : List ℕ) → a ∷ xs ≡ b ∷ ys → a ≡ b
heads a b xs ys e = cc

tails : (a b : ℕ) (xs ys : List ℕ) → a ∷ xs ≡ b ∷ ys → xs ≡ ys
tails a b xs ys e = cc

pub numbered_from : (total : ℕ) (entries : List LogRecord) → map number_of entries ≡ numbers_up_to total (length entries) → AreNumbered total entries
numbered_from total [] same place entry e = absurd cc
numbered_from total (first ∷ others) same zero entry e =
    let is : first ≡ entry = some_is first entry e in
    let back : length others ≡ suc (length others) - 1 - zero = omega arith in
    ap number_of (sym is) ∙ heads first.sequence (number_back total (length others)) (map number_of others) (numbers_up_to total (length others)) same ∙ ap (number_back total) back
numbered_from total (first ∷ others) same (suc place) entry e =
    let back : length others - 1 - place ≡ suc (length others) - 1 - suc place = omega arith in
    numbered_from total others (tails first.sequence (number_back total (length others)) (map number_of others) (numbers_up_to total (length others)) same) place entry e ∙ ap (number_back total) back

so_many : (total count : ℕ) → length (numbers_up_to total count) ≡ count
so_many total zero = refl
so_many total (suc count) = ap suc (so_many total count)

as_many : (entries : List LogRecord) → length (map number_of entries) ≡ length entries
as_many [] = refl
as_many (entry ∷ entries) = ap suc (as_many entries)

pub numbered_if : {V : Type 0} (view : V → List LogRecord) (after : List ℕ) (r : Result V ReadFault) (has_rule : Bool) (zone : ZoneData) (total count : ℕ) (octets : List ℕ) → Gives (λ x. (view x, after)) r (each_at (entry_at has_rule zone) (numbers_up_to total count) octets)
    → IfOk r (λ x. AreNumbered total (view x) × (length (view x) ≡ count))
numbered_if view after (Ok x) has_rule zone total count octets given =
    let same : map number_of (view x) ≡ numbers_up_to total count = each_number has_rule zone (numbers_up_to total count) octets (view x) after given in
    let long : length (view x) ≡ count = sym (as_many (view x)) ∙ ap (λ (l : List ℕ). length l) same ∙ so_many total count in
    (numbered_from total (view x) (same ∙ ap (numbers_up_to total) (sym long)), long)
numbered_if view after (Err fault) has_rule zone total count octets given = tt
