-- What each kind of atomic step tells the seat that makes it. `st` is the step, `m` what the seat knew and held before it, `r` the number that it found, and `m'` what the seat knows and holds after it. No public clause cites this file.
use Rattle.std.specs.Prelude.{◌≡◌, ◌≢◌, ℕ, ◌+◌, ◌<◌, ◌≤◌, ◌^◌, List, [], ◌∷◌, length, max, Some}
use Rattle.atomic_table.specs.Table.{Me, Step}
use Rattle.turnstile.specs.Histories.{StartsWith, Accounts, times, IsOnce, NoOther, among, Licensed}
use Rattle.turnstile.specs.ViewSteps.{shut_of, named, longer, heard, at_stage, inside, after_call, with_mark}
use Rattle.turnstile.specs.RuleSteps.{Holds, AreAbove}
use Rattle.noted.specs.declared.noted.Noted.{Noted}
use Rattle.turnstile.specs.declared.view.View.{View}
use Rattle.turnstile.specs.declared.view.Place.{Place}
use Rattle.turnstile.specs.declared.view.Place.TheVariants.{Given}
use Rattle.turnstile.specs.declared.view.Stage.TheVariants.{Waits}

module _ {T E O : Type 0} where
  -- the expected number of tickets was found, and is the seat's ticket; or nothing changed
  abbrev pub Drew : Step (Place T E) → Me (Place T E) (View E O) → ℕ → Me (Place T E) (View E O) → Type 0
  Drew st m r m' = (r ≡ st.first → m' ≡ (at_stage m.0 (Waits st.first), m.1)) × (r ≢ st.first → m' ≡ m)

  -- the entry beside the value is one more call, and the slot is back
  abbrev pub PassedOn : Step (Place T E) → Me (Place T E) (View E O) → ℕ → Me (Place T E) (View E O) → Type 0
  PassedOn st m r m' = (x : T) (e : Noted E) → m.1 ≡ (0, Given x e) ∷ [] → m' ≡ (after_call m.0 e.value, [])

  -- a number that the seat didn't have is in front, and it is above one that the seat has
  abbrev pub Named : Step (Place T E) → Me (Place T E) (View E O) → ℕ → Me (Place T E) (View E O) → Type 0
  Named st m r m' = (n : ℕ) × (m' ≡ (named m.0 n, m.1)) × AreAbove m.0.calls (n ∷ m.0.split_off) × (times n m.0.calls ≡ 0)

  -- what was seen and what was told begin one history, so the longer of them begins with both
  abbrev pub Settled : Step (Place T E) → Me (Place T E) (View E O) → ℕ → Me (Place T E) (View E O) → Type 0
  Settled st m r m' =
      (m' ≡ (heard m.0, m.1)) × StartsWith (longer m.0.seen m.0.told) m.0.seen × StartsWith (longer m.0.seen m.0.told) m.0.told × IsOnce m.0.calls

  abbrev pub Closed : Step (Place T E) → Me (Place T E) (View E O) → ℕ → Me (Place T E) (View E O) → Type 0
  Closed st m r m' = m' ≡ (at_stage m.0 (shut_of m.0.stage), [])

  abbrev pub Raised : Step (Place T E) → Me (Place T E) (View E O) → ℕ → Me (Place T E) (View E O) → Type 0
  Raised st m r m' = m' ≡ (with_mark m.0 (max m.0.mark st.first), m.1)

  abbrev pub Loaded : Step (Place T E) → Me (Place T E) (View E O) → ℕ → Me (Place T E) (View E O) → Type 0
  Loaded st m r m' = (m.0.mark ≤ r) × (m' ≡ (with_mark m.0 r, m.1))

module _ {T E O : Type 0} (stands : T → List (ℕ × E) → Type 0) (origin : T → O) (licenses : List (ℕ × E) → ℕ → Type 0) where
  -- the turn of ticket t has come to a seat with the view v: the whole history is seen, the slot is taken, and its value stands for the history
  pub record Turned (v : View E O) (t : ℕ) (m : Me (Place T E) (View E O)) : Type 0 where
    pub place : Place T E
    pub taken : m.1 ≡ (0, place) ∷ []
    pub holds : Holds stands (λ x. (o : O) → v.origin ≡ Some o → origin x ≡ o) m.0.seen place
    pub is : m.0 ≡ inside v m.0.seen t
    pub long : length m.0.seen ≡ t
    pub small : t + 1 < 2 ^ 64
    pub begins : StartsWith m.0.seen v.seen
    pub accounts : Accounts m.0.seen v.calls
    pub once : IsOnce v.calls
    pub only : ((n : ℕ) → among n (0 ∷ v.split_off) ≤ times n v.calls) → NoOther m.0.seen v.calls
    pub licensed : Licensed licenses m.0.seen v.mark

  -- the ticket that is served was found: the seat's own, and its turn has come; or another, and nothing changed
  abbrev pub Looked : Step (Place T E) → Me (Place T E) (View E O) → ℕ → Me (Place T E) (View E O) → Type 0
  Looked st m r m' = (t : ℕ) → m.0.stage ≡ Waits t → (r ≡ t → Turned m.0 t m') × (r ≢ t → m' ≡ m)
