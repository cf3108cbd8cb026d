-- Two writes, each brought onto the disk before the next: what a crash may leave on the way.
use Rattle.std.proofs.Common.{◌≡◌, inl, inr, ℕ, List, [], ◌∷◌, length, refl, sym, subst, Option, Some, None}
use Rattle.ground_io.specs.Disk.{Disk, Each, Always, with_octets}
use Rattle.ground_io.specs.Trace.{Told, Adds, disk_of}
use Rattle.ground_io.specs.declared.entry.Entry.{Entry}
use Rattle.ground_io.specs.declared.entry.Entry.TheVariants.{Wrote, Synced}
use Rattle.ground_io.proofs.Crashes.{adds_both, disk_adds}
use Rattle.ground_io.specs.Sent.{AreQuiet}
use Rattle.alarm_journal.specs.Protocol.{Leads, AddsSome, two_writes, IsCutShort, IsTwoCutShort}

-- each image at each moment of two writes over these contents has P
pub record TwoWrites (P : List ℕ → Type 0) (c : List ℕ) (p1 : ℕ) (o1 : List ℕ) (p2 : ℕ) (o2 : List ℕ) : Type 0 where
  pub rest : Each P (record { contents = c; loose = [] })
  pub first : (o : List ℕ) → length o ≡ length o1 → Each P (record { contents = with_octets p1 o c; loose = record { place = p1; count = length o } ∷ [] })
  pub middle : Each P (record { contents = with_octets p1 o1 c; loose = [] })
  pub second : (o : List ℕ) → length o ≡ length o2 → Each P (record { contents = with_octets p2 o (with_octets p1 o1 c); loose = record { place = p2; count = length o } ∷ [] })
  pub last : Each P (record { contents = with_octets p2 o2 (with_octets p1 o1 c); loose = [] })

-- where the ground tells, nothing is loose, and they may begin
abbrev pub Ready : (List ℕ → Type 0) → ℕ → List ℕ → ℕ → List ℕ → Option Told → Type 0
Ready P p1 o1 p2 o2 None = Unit {0}
Ready P p1 o1 p2 o2 (Some a) = ((disk_of a).loose ≡ []) × TwoWrites P (disk_of a).contents p1 o1 p2 o2

-- both are done and on the disk
abbrev pub Ended : ℕ → List ℕ → ℕ → List ℕ → Option Told → Option Told → Type 0
Ended p1 o1 p2 o2 a None = Unit {0}
Ended p1 o1 p2 o2 None (Some d) = ⊥
Ended p1 o1 p2 o2 (Some a) (Some d) = disk_of d ≡ record { contents = with_octets p2 o2 (with_octets p1 o1 (disk_of a).contents); loose = [] }

module _ (P : List ℕ → Type 0) (p1 : ℕ) (o1 : List ℕ) (p2 : ℕ) (o2 : List ℕ) where
  -- one write that was cut short
  cut_one : (c : List ℕ) (place : ℕ) (o : List ℕ) (entries : List Entry) → Each P (record { contents = c; loose = [] }) → ((any : List ℕ) → length any ≡ length o → Each P (record { contents = with_octets place any c; loose = record { place = place; count = length any } ∷ [] }))
      → IsCutShort place o entries → AreQuiet entries × Always P (record { contents = c; loose = [] }) entries
  cut_one c place o entries rest first (inl wrote) =
      subst (λ (l : List Entry). AreQuiet l × Always P (record { contents = c; loose = [] }) l) (sym wrote) (tt, (rest, first o refl))
  cut_one c place o entries rest first (inr (left, size, broke)) =
      subst (λ (l : List Entry). AreQuiet l × Always P (record { contents = c; loose = [] }) l) (sym broke) (tt, (rest, first left size))

  cut_two : (c : List ℕ) (entries : List Entry) → TwoWrites P c p1 o1 p2 o2 → IsTwoCutShort p1 o1 p2 o2 entries → AreQuiet entries × Always P (record { contents = c; loose = [] }) entries
  cut_two c entries steps (inl short) = cut_one c p1 o1 entries steps.rest steps.first short
  cut_two c entries steps (inr (more, short, is)) =
      let behind = cut_one (with_octets p1 o1 c) p2 o2 more steps.middle steps.second short in
      subst (λ (l : List Entry). AreQuiet l × Always P (record { contents = c; loose = [] }) l) (sym is) (behind.0, (steps.rest, (steps.first o1 refl, behind.1)))

  at_rest : (a : Told) → (disk_of a).loose ≡ [] → disk_of a ≡ record { contents = (disk_of a).contents; loose = [] }
  at_rest a stable = λ i. record { contents = (disk_of a).contents; loose = stable i }

  pub cut_short : (a d : Option Told) → Ready P p1 o1 p2 o2 a → AddsSome (IsTwoCutShort p1 o1 p2 o2) a d → Leads P a d
  cut_short a None ready some = tt
  cut_short None (Some d) ready some = absurd some
  cut_short (Some a) (Some d) ready some =
      let found = cut_two (disk_of a).contents some.0 ready.1 some.1 in
      record { entries = some.0; adds = some.2; quiet = found.0; always = subst (λ (k : Disk). Always P k some.0) (sym (at_rest a ready.0)) found.1 }

  pub done : (a d : Option Told) → Ready P p1 o1 p2 o2 a → Adds a d (two_writes p1 o1 p2 o2) → Leads P a d
  done a None ready adds = tt
  done None (Some d) ready adds = absurd adds
  done (Some a) (Some d) ready adds =
      let steps = ready.1 in
      record {
        entries = two_writes p1 o1 p2 o2;
        adds = adds;
        quiet = tt;
        always = subst (λ (k : Disk). Always P k (two_writes p1 o1 p2 o2)) (sym (at_rest a ready.0)) (steps.rest, (steps.first o1 refl, (steps.middle, (steps.second o2 refl, steps.last))));
      }

  pub ended : (a d : Option Told) → Adds a d (two_writes p1 o1 p2 o2) → Ended p1 o1 p2 o2 a d
  ended a None adds = tt
  ended None (Some d) adds = absurd adds
  ended (Some a) (Some d) adds = disk_adds a d (two_writes p1 o1 p2 o2) adds

  -- nothing has been done yet
  pub none_done : (a d : Option Told) → Ready P p1 o1 p2 o2 a → Adds a d [] → Leads P a d
  none_done a None ready adds = tt
  none_done None (Some d) ready adds = absurd adds
  none_done (Some a) (Some d) ready adds = record { entries = []; adds = adds; quiet = tt; always = subst (Each P) (sym (at_rest a ready.0)) ready.1.rest }

pub some_weaker : (P Q : List Entry → Type 0) (a b : Option Told) → ((entries : List Entry) → P entries → Q entries) → AddsSome P a b → AddsSome Q a b
some_weaker P Q a None to some = tt
some_weaker P Q None (Some b) to some = absurd some
some_weaker P Q (Some a) (Some b) to some = (some.0, to some.0 some.1, some.2)

-- the second write was cut short, behind the first
pub cut_second : (p1 : ℕ) (o1 : List ℕ) (p2 : ℕ) (o2 : List ℕ) (a b d : Option Told) → Adds a b (Wrote p1 o1 ∷ Synced ∷ []) → AddsSome (IsCutShort p2 o2) b d → AddsSome (IsTwoCutShort p1 o1 p2 o2) a d
cut_second p1 o1 p2 o2 a b None adds some = tt
cut_second p1 o1 p2 o2 a None (Some d) adds some = absurd some
cut_second p1 o1 p2 o2 None (Some b) (Some d) adds some = absurd adds
cut_second p1 o1 p2 o2 (Some a) (Some b) (Some d) adds some = (Wrote p1 o1 ∷ Synced ∷ some.0, inr (some.0, some.1, refl), adds_both (Some a) (Some b) (Some d) (Wrote p1 o1 ∷ Synced ∷ []) some.0 adds some.2)
