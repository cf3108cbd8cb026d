-- What a link in memory gives of the datagrams that are left.
use Rattle.std.proofs.Common.{◌≡◌, ℕ, suc, ◌+◌, ◌<◌, ◌≤◌, List, [], ◌∷◌, length, take, drop, min, get_or, refl, sym, ap, subst, ◌∙◌, arith, add-one, drop-cons}
use Rattle.std.specs.Prelude.{◌↔◌}
use Rattle.bac_values.specs.Address.{PeerData}
use Rattle.bac_values.specs.declared.note.Send.{Send}
use Rattle.ground_io.specs.Link.{Takes}
use Rattle.ground_io.specs.declared.link.Received.TheVariants.{Nothing, Datagram}

pub drop_next : (xs : List Send) (n : ℕ) (x : Send) → n < length xs → ((d : Send) → x ≡ get_or xs n d) → drop n xs ≡ x ∷ drop (n + 1) xs
drop_next xs n x within is = rw add-one (drop-cons xs n x within ∙ ap (λ (y : Send). y ∷ drop (suc n) xs) (sym (is x)))

-- the next one, cut to the slice
pub takes_next : (datagrams : List Send) (place : ℕ) (datagram : Send) (count : ℕ) (before after octets : List ℕ) → place < length datagrams → ((d : Send) → datagram ≡ get_or datagrams place d) → octets ≡ datagram.bytes
    → count ≡ min (length octets) (length before) → take count after ≡ take count octets → drop count after ≡ drop count before
    → Takes (Datagram datagram.peer count) before after (drop place datagrams) (drop (place + 1) datagrams)
takes_next datagrams place datagram count before after octets within is same cut copied behind =
    subst (λ (l : List Send). Takes (Datagram datagram.peer count) before after l (drop (place + 1) datagrams)) (sym (drop_next datagrams place datagram within is))
    (refl, record { sender = refl; cut = cut ∙ ap (λ (l : List ℕ). min (length l) (length before)) same; octets = copied ∙ ap (λ (l : List ℕ). take count l) same; behind = behind })

pub takes_something : (left : List Send) (peer : PeerData) (count : ℕ) (first : Send) (rest : List Send) → left ≡ first ∷ rest → (Datagram peer count ≡ Nothing) ↔ (left ≡ [])
takes_something left peer count first rest is = (λ none. cc, λ none. cc)

pub fits_into : (count most : ℕ) (before after : List ℕ) → count ≡ min most (length before) → length after ≡ length before → count ≤ length after
fits_into count most before after cut same = omega arith
