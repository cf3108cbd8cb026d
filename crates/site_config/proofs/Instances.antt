-- The instances of items whose identifiers ascend, all of one type, ascend.
use Rattle.std.proofs.Common.{◌≡◌, ℕ, ◌<◌, suc, List, [], ◌∷◌, map, arith}
use Rattle.std.specs.List.{All, AllPairs}
use Rattle.std.specs.declared.cmp.Ordering.TheVariants.{Less}
use Rattle.std.proofs.lemmas.Bool.Decides.{nat_tests}
use Rattle.std.proofs.lemmas.List.Elements.{All-cons, All-head, All-tail, All-nil}
use Rattle.std.proofs.lemmas.List.Kept.{AllPairs-cons}
use Rattle.bac_values.specs.Identifier.{ObjectIdData}
use Rattle.bac_values.specs.Orders.{identifier_order}

abbrev pub Below : ℕ → ℕ → Type 0
Below earlier later = earlier < later

abbrev pub Precedes : ObjectIdData → ObjectIdData → Type 0
Precedes earlier later = identifier_order earlier later ≡ Less

abbrev pub instance : {A : Type 0} → (A → ObjectIdData) → A → ℕ
instance id_of item = (id_of item).instance

-- an item's identifier is of a type
abbrev pub HasType : {A : Type 0} → (A → ObjectIdData) → ℕ → A → Type 0
HasType id_of type item = (id_of item).number ≡ type

-- identifiers of one type that ascend do so by their instances
instance_below : (type : ℕ) (earlier later : ObjectIdData) → earlier.number ≡ type → later.number ≡ type → identifier_order earlier later ≡ Less → earlier.instance < later.instance
instance_below type earlier later first second below = grind (arith, nat_tests)

module _ {A : Type 0} (id_of : A → ObjectIdData) (type : ℕ) where
  abbrev OfType : A → Type 0
  OfType = HasType id_of type

  abbrev place : A → ℕ
  place = instance id_of

  all_below : (first : A) (items : List A) → OfType first → All OfType items → All (Precedes (id_of first)) (map id_of items) → All (Below (place first)) (map place items)
  all_below first [] is types behind = All-nil (Below (place first))
  all_below first (item ∷ items) is types behind =
      let below = instance_below type (id_of first) (id_of item) is (All-head OfType item items types) (All-head (Precedes (id_of first)) (id_of item) (map id_of items) behind) in
      let others = all_below first items is (All-tail OfType item items types) (All-tail (Precedes (id_of first)) (id_of item) (map id_of items) behind) in
      All-cons (Below (place first)) (place item) (map place items) below others

  pub instances_ascend : (items : List A) → All OfType items → AllPairs Precedes (map id_of items) → AllPairs Below (map place items)
  instances_ascend [] types ascend = λ i j d before within. absurd (omega (arith, within))
  instances_ascend (item ∷ items) types ascend =
      let tail : AllPairs Precedes (map id_of items) = λ i j d before within. ascend (suc i) (suc j) d (omega (arith, before)) (omega (arith, within)) in
      let heads : All (Precedes (id_of item)) (map id_of items) = λ k d within. ascend 0 (suc k) d (omega arith) (omega (arith, within)) in
      let others = All-tail OfType item items types in
      AllPairs-cons Below (place item) (map place items) (all_below item items (All-head OfType item items types) others heads) (instances_ascend items others tail)
