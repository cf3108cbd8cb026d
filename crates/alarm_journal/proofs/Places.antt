-- One body more.
use Rattle.std.proofs.Common.{◌≡◌, ℕ, ◌+◌, ◌<◌, ◌≤◌, ◌^◌, All, List, [], ◌∷◌, ◌++◌, length, map, take, drop, refl, sym, ◌∙◌, ap, arith, length-drop, take-append-drop, flat_map}
use Rattle.std.proofs.lemmas.List.{take_all, take-append-le, drop-append-le, length-take-le}
use Rattle.std.proofs.lemmas.List.Elements.{All-cons, All-nil}
use Rattle.ground_io.specs.Disk.{octets_at}
use Rattle.alarm_journal.specs.Opened.{pieces, sum_of, EndsOnDevice, LieBetween, found_at}
use Rattle.alarm_journal.specs.declared.body.Body.{Body}

pub sum_more : (bodies : List Body) (body : Body) → sum_of (bodies ++ body ∷ []) ≡ sum_of bodies + body.length
sum_more [] body = omega arith
sum_more (b ∷ bodies) body = omega (arith, sum_more bodies body)

pub lie_more : (gate : ℕ) (bodies : List Body) (next : ℕ) (body : Body) (end : ℕ) → LieBetween gate bodies next → body.place ≡ next + 5 → next + 5 + body.length ≡ end → LieBetween gate (bodies ++ body ∷ []) end
lie_more gate [] next body end lie place is = (place ∙ ap (λ (k : ℕ). k + 5) (sym lie), omega (arith, lie, is))
lie_more gate (b ∷ bodies) next body end lie place is = (lie.0, lie_more (gate + 5 + b.length) bodies next body end lie.1 place is)

pub found_more : (image : List ℕ) (bodies : List Body) (body : Body) → found_at image (bodies ++ body ∷ []) ≡ found_at image bodies ++ octets_at body.place body.length image ∷ []
found_more image [] body = refl
found_more image (b ∷ bodies) body = ap (λ (l : List (List ℕ)). octets_at b.place b.length image ∷ l) (found_more image bodies body)

pub pieces_more : (bodies : List Body) (octets : List ℕ) (body : Body) (piece : List ℕ) → sum_of bodies ≡ length octets → length piece ≡ body.length → pieces (bodies ++ body ∷ []) (octets ++ piece) ≡ pieces bodies octets ++ piece ∷ []
pieces_more [] [] body piece whole long = ap (λ (l : List ℕ). l ∷ []) (take_all body.length piece (omega (arith, long)))
pieces_more [] (x ∷ octets) body piece whole long = absurd (omega (arith, whole))
pieces_more (b ∷ bodies) octets body piece whole long =
    (λ i. take-append-le b.length octets piece (omega (arith, whole)) i
    ∷ (ap (pieces (bodies ++ body ∷ [])) (drop-append-le b.length octets piece (omega (arith, whole))) ∙ pieces_more bodies (drop b.length octets) body piece (omega (arith, whole, length-drop b.length octets)) long) i)

-- pieces that make up the octets do so, and are as long as the bodies
pub pieces_whole : (bodies : List Body) (octets : List ℕ) → sum_of bodies ≡ length octets → flat_map (λ (body : List ℕ). body) (pieces bodies octets) ≡ octets
pieces_whole [] [] whole = refl
pieces_whole [] (x ∷ octets) whole = absurd (omega (arith, whole))
pieces_whole (b ∷ bodies) octets whole =
    ap (λ (l : List ℕ). take b.length octets ++ l) (pieces_whole bodies (drop b.length octets) (omega (arith, whole, length-drop b.length octets))) ∙ take-append-drop b.length octets

pub pieces_long : (bodies : List Body) (octets : List ℕ) → sum_of bodies ≡ length octets → map length (pieces bodies octets) ≡ map (λ (b : Body). b.length) bodies
pieces_long [] octets whole = refl
pieces_long (b ∷ bodies) octets whole =
    (λ i. length-take-le b.length octets (omega (arith, whole)) i ∷ pieces_long bodies (drop b.length octets) (omega (arith, whole, length-drop b.length octets)) i)

-- bodies that lie before a place end at places before it
lie_before : (gate : ℕ) (bodies : List Body) (next : ℕ) → LieBetween gate bodies next → gate ≤ next
lie_before gate [] next lie = omega (arith, lie)
lie_before gate (b ∷ bodies) next lie = omega (arith, lie_before (gate + 5 + b.length) bodies next lie.1)

pub ends_before : (gate : ℕ) (bodies : List Body) (next : ℕ) → next < 2 ^ 64 → LieBetween gate bodies next → All EndsOnDevice bodies
ends_before gate [] next word lie = All-nil EndsOnDevice
ends_before gate (b ∷ bodies) next word lie =
    All-cons EndsOnDevice b bodies (omega (arith, word, lie.0, lie_before (gate + 5 + b.length) bodies next lie.1)) (ends_before (gate + 5 + b.length) bodies next word lie.1)
