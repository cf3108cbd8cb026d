-- What an edit comes to, by the grammar and by the steps.
use Rattle.std.proofs.Common.{◌≡◌, ◌≢◌, ◌⊎◌, ℕ, Bool, true, false, List, Result, Ok, Err, refl, sym, ap, subst, ◌∙◌, inl, inr, All, Contains, not, IfOk}
use Rattle.std.proofs.lemmas.List.Elements.{All-contains_itself, All-filter}
use Rattle.bac_tags.specs.ReadingSteps.{◌>>=◌}
use Rattle.bac_tags.proofs.Standing.{IsBytes}
use Rattle.bac_tags.proofs.Steps.{bind_ok}
use Rattle.notify_class.specs.Recipients.{DestinationData}
use Rattle.notify_class.specs.declared.binding.Binding.{Binding}
use Rattle.list_binding.specs.declared.refusal.EditRefusal.{EditRefusal}
use Rattle.list_binding.specs.declared.refusal.EditRefusal.TheVariants.{Error, NoMemory}
use Rattle.list_binding.specs.Edits.{EditAnswer, EditsTo, HasRoom, LimitsData, ListError, ReadsAs, Tells, error_of, is_in, list_without}
use Rattle.list_binding.specs.EditSteps.{changed_of, destinations_of, edit_of}
use Rattle.list_binding.proofs.Changes.{added_kept, changes_only, changes_told, removed_is}
use Rattle.list_binding.proofs.Readings.{reads_only, reads_told}

abbrev Many : Type 0
Many = List DestinationData

-- what is told, said in other words
pub tells_on : {X Y : Type 0} (view : X → Y) (P Q : Result Y ListError → Type 0) (told : Result X EditRefusal) → ((answer : Result Y ListError) → P answer → Q answer) → Tells view P told → Tells view Q told
tells_on view P Q (Ok x) f h = f (Ok (view x)) h
tells_on view P Q (Err (Error class code element)) f h = f (Err (error_of class code element)) h
tells_on view P Q (Err NoMemory) f h = tt

module _ (limits : LimitsData) (bindings : List Binding) (list : Many) (adding : Bool) (octets : List ℕ) (bytes : IsBytes octets) where
  pub edits_told : EditsTo limits bindings list adding octets (edit_of limits bindings list adding octets)
  unfolding edit_of
  edits_told = go (destinations_of bindings octets) (reads_told bindings octets bytes)
    where
      go : (r : EditAnswer) → ReadsAs bindings octets r → EditsTo limits bindings list adding octets (r >>= changed_of limits list adding)
      go (Ok elements) h = inr (elements, h, changes_told limits list adding elements)
      go (Err refused) h = inl (refused, refl, h)

  pub edits_only : (answer : EditAnswer) → EditsTo limits bindings list adding octets answer → answer ≡ edit_of limits bindings list adding octets
  unfolding edit_of
  edits_only answer (inl h) = h.1 ∙ ap (λ (r : EditAnswer). r >>= changed_of limits list adding) (reads_only bindings octets bytes (Err h.0) h.2)
  edits_only answer (inr h) =
      changes_only limits list adding h.0 answer h.2 ∙ ap (λ (r : EditAnswer). r >>= changed_of limits list adding) (reads_only bindings octets bytes (Ok h.0) h.1)

pub edit_kept : (limits : LimitsData) (bindings : List Binding) (list left : Many) (octets : List ℕ) → edit_of limits bindings list true octets ≡ Ok left → (left ≡ list) ⊎ HasRoom limits left
unfolding edit_of
edit_kept limits bindings list left octets e =
    let s = bind_ok (destinations_of bindings octets) (changed_of limits list true) left e in
    added_kept limits list s.0 left s.2

pub edit_part : (limits : LimitsData) (bindings : List Binding) (list left : Many) (octets : List ℕ) → edit_of limits bindings list false octets ≡ Ok left → (elements : Many) × (left ≡ list_without list elements)
unfolding edit_of
edit_part limits bindings list left octets e =
    let s = bind_ok (destinations_of bindings octets) (changed_of limits list false) left e in
    (s.0, removed_is list s.0 left s.2)

-- ---- of a list that was told

is_some_kept : (limits : LimitsData) (list left : Many) → (left ≡ list) ⊎ HasRoom limits left → left ≢ list → HasRoom limits left
is_some_kept limits list left (inl same) other = absurd (other same)
is_some_kept limits list left (inr room) other = room

pub is_kept : {X : Type 0} (view : X → Many) (limits : LimitsData) (bindings : List Binding) (list : Many) (adding : Bool) (octets : List ℕ) (told : Result X EditRefusal) → Tells view (λ answer. answer ≡ edit_of limits bindings list adding octets) told
    → adding ≡ true → IfOk told (λ x. view x ≢ list → HasRoom limits (view x))
is_kept view limits bindings list adding octets (Ok x) e adds =
    is_some_kept limits list (view x) (edit_kept limits bindings list (view x) octets (ap (λ (b : Bool). edit_of limits bindings list b octets) (sym adds) ∙ sym e))
is_kept view limits bindings list adding octets (Err refusal) e adds = tt

pub is_part : {X : Type 0} (view : X → Many) (limits : LimitsData) (bindings : List Binding) (list : Many) (adding : Bool) (octets : List ℕ) (told : Result X EditRefusal) → Tells view (λ answer. answer ≡ edit_of limits bindings list adding octets) told
    → adding ≡ false → IfOk told (λ x. All (λ one. Contains list one) (view x))
is_part view limits bindings list adding octets (Ok x) e removes =
    let h = edit_part limits bindings list (view x) octets (ap (λ (b : Bool). edit_of limits bindings list b octets) (sym removes) ∙ sym e) in
    subst (All (Contains list)) (sym h.1) (All-filter (λ one. not (is_in h.0 one)) (Contains list) list (All-contains_itself list))
is_part view limits bindings list adding octets (Err refusal) e removes = tt
