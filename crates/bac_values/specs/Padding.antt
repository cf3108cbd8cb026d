-- The octets of a station's address give back their seven places.
use Rattle.std.specs.Prelude.{◌≡◌, ℕ, List, length, take}
use Rattle.std.proofs.Common.{sym, ◌∙◌, ap}
use Rattle.std.proofs.lemmas.List.{length-take-le}
use Rattle.bac_values.specs.declared.mac.Mac.TheInside.{Inside}
use Rattle.bac_values.specs.Address.{IsPadded, padded}

abbrev pub inside : ℕ → List ℕ → Inside
inside size octets = record { size = size; octets = octets }

pub gives_back : (mac : Inside) → IsPadded mac.size mac.octets → inside (length (take mac.size mac.octets)) (padded (take mac.size mac.octets)) ≡ mac
gives_back mac h =
    let same : length (take mac.size mac.octets) ≡ mac.size = length-take-le mac.size mac.octets (rw h.whole h.short) in
    ap (λ n. inside n (padded (take mac.size mac.octets))) same ∙ ap (λ xs. inside mac.size xs) (sym h.padding)
