-- What went before an answer that is no fault, and what a value says that is found.
use Rattle.std.proofs.Common.{◌≡◌, ℕ, List, Option, Some, None, Result, Ok, Err, refl}
use Rattle.std.specs.Option.{option_map}
use Rattle.toml.specs.Data.{Data, Members, get_member}
use Rattle.toml_items.specs.Answers.{◌>>=◌}
use Rattle.toml_items.specs.Members.{valid_value, required_member, required, value_or, or_else}
use Rattle.toml_items.specs.Values.{◌>>=◌ as ◌>>?◌}

pub record After {A B E : Type 0} (first : Result A E) (next : A → Result B E) (y : B) : Type 0 where
  pub value : A
  pub first_is : first ≡ Ok value
  pub next_is : next value ≡ Ok y

pub after : {A B E : Type 0} (first : Result A E) (next : A → Result B E) (y : B) → (first >>= next) ≡ Ok y → After first next y
after (Ok x) next y h = record { value = x; first_is = refl; next_is = h }
after (Err fault) next y h = absurd cc

-- what is given is one
pub ok_is : {A E : Type 0} (x y : A) → ◌≡◌ {A = Result A E} (Ok x) (Ok y) → x ≡ y
ok_is x y h = cc

pub record Found {A B : Type 0} (part : Option A) (next : A → Option B) (y : B) : Type 0 where
  pub value : A
  pub part_is : part ≡ Some value
  pub next_is : next value ≡ Some y

pub found : {A B : Type 0} (part : Option A) (next : A → Option B) (y : B) → (part >>? next) ≡ Some y → Found part next y
found (Some x) next y h = record { value = x; part_is = refl; next_is = h }
found None next y h = absurd cc

pub record Mapped {A B : Type 0} (f : A → B) (part : Option A) (y : B) : Type 0 where
  pub value : A
  pub part_is : part ≡ Some value
  pub is : f value ≡ y

pub mapped : {A B : Type 0} (f : A → B) (part : Option A) (y : B) → option_map f part ≡ Some y → Mapped f part y
mapped f (Some x) y h = record { value = x; part_is = refl; is = cc }
mapped f None y h = absurd cc

-- ---- what each good value of a key keeps to, the value at the key keeps to

module _ {A : Type 0} (P : A → Type 0) (read : Data → Option A) (each : (d : Data) (y : A) → read d ≡ Some y → P y) (key : List ℕ) where
  valid_keeps : (d : Data) (part : Option A) (x : A) → read d ≡ part → valid_value key part ≡ Ok x → P x
  valid_keeps d None x is h = absurd cc
  valid_keeps d (Some y) x is h = each d x cc

  member_keeps : (part : Option Data) (x : A) → (required_member key part >>= λ d. valid_value key (read d)) ≡ Ok x → P x
  member_keeps None x h = absurd cc
  member_keeps (Some d) x h = valid_keeps d (read d) x refl h

  pub required_keeps : (ms : Members) (x : A) → required read key ms ≡ Ok x → P x
  required_keeps ms x h = member_keeps (get_member key ms) x h

  value_or_keeps : (usual : A) → P usual → (part : Option Data) (x : A) → value_or usual read key part ≡ Ok x → P x
  value_or_keeps usual p None x h = let same : usual ≡ x = cc in let Q : A → Type 0 = P in rw (← same) p
  value_or_keeps usual p (Some d) x h = valid_keeps d (read d) x refl h

  pub or_else_keeps : (usual : A) → P usual → (ms : Members) (x : A) → or_else usual read key ms ≡ Ok x → P x
  or_else_keeps usual p ms x h = value_or_keeps usual p (get_member key ms) x h
