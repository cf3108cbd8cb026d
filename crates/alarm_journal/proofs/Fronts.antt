-- Octets that stand in front of a place or behind it.
use Rattle.std.proofs.Common.{◌≡◌, ℕ, ◌+◌, ◌-◌, ◌<◌, ◌≤◌, List, ◌++◌, length, take, drop, get_or, refl, sym, ◌∙◌, ap, arith, append_assoc}
use Rattle.std.proofs.lemmas.List.{take-take, drop-take, drop-drop, get_or-take, length-take-le, take_at, drop_at}
use Rattle.ground_io.specs.Disk.{octets_at, with_octets}

-- a part of a front
pub slice_front : (m place count : ℕ) (x c : List ℕ) → place + count ≤ m → take m x ≡ take m c → octets_at place count x ≡ octets_at place count c
slice_front m place count x c le same =
    sym (drop-take place count x) ∙ ap (λ (l : List ℕ). drop place l) (sym (take-take (place + count) m x le) ∙ ap (λ (l : List ℕ). take (place + count) l) same ∙ take-take (place + count) m c le)
    ∙ drop-take place count c

pub octet_front : (m place : ℕ) (x c : List ℕ) → place < m → take m x ≡ take m c → get_or x place 0 ≡ get_or c place 0
octet_front m place x c lt same = sym (get_or-take m x place 0 lt) ∙ ap (λ (l : List ℕ). get_or l place 0) same ∙ get_or-take m c place 0 lt

pub take_front : (m n : ℕ) (x c : List ℕ) → n ≤ m → take m x ≡ take m c → take n x ≡ take n c
take_front m n x c le same = sym (take-take n m x le) ∙ ap (λ (l : List ℕ). take n l) same ∙ take-take n m c le

-- a part behind a place
pub slice_back : (m place count : ℕ) (x c : List ℕ) → m ≤ place → drop m x ≡ drop m c → octets_at place count x ≡ octets_at place count c
slice_back m place count x c le same =
    let sum : m + (place - m) ≡ place = omega (arith, le) in
    ap (take count) (ap (λ (n : ℕ). drop n x) (sym sum) ∙ sym (drop-drop (place - m) m x) ∙ ap (drop (place - m)) same ∙ drop-drop (place - m) m c ∙ ap (λ (n : ℕ). drop n c) sum)

-- what a write leaves in front of its place, from its place on, and behind its octets
pub put_front : (place : ℕ) (octets c : List ℕ) → place ≤ length c → take place (with_octets place octets c) ≡ take place c
put_front place octets c le =
    ap (take place) (append_assoc (take place c) octets (drop (place + length octets) c)) ∙ take_at (take place c) (octets ++ drop (place + length octets) c) place (length-take-le place c le)

pub put_from : (place : ℕ) (octets c : List ℕ) → place ≤ length c → drop place (with_octets place octets c) ≡ octets ++ drop (place + length octets) c
put_from place octets c le =
    ap (drop place) (append_assoc (take place c) octets (drop (place + length octets) c)) ∙ drop_at (take place c) (octets ++ drop (place + length octets) c) place (length-take-le place c le)

pub put_past : (place : ℕ) (octets c : List ℕ) → place ≤ length c → drop (place + length octets) (with_octets place octets c) ≡ drop (place + length octets) c
put_past place octets c le =
    sym (drop-drop (length octets) place (with_octets place octets c)) ∙ ap (drop (length octets)) (put_from place octets c le) ∙ drop_at octets (drop (place + length octets) c) (length octets) refl
