-- How runs of entries follow each other, and what a crash may leave after them.
use Rattle.std.proofs.Common.{◌≡◌, inl, inr, ℕ, List, [], ◌∷◌, ◌++◌, Option, Some, None, refl, sym, ap, ◌∙◌, append_assoc, ◌+◌, ◌<◌, length, take, drop, get_or, unwrap_or, slice_get, arith, length-drop}
use Rattle.std.proofs.lemmas.List.{append-nil, ext_get_or, get_or-take, get_or-drop, length-take}
use Rattle.std.proofs.lemmas.Option.{unwrap_or-slice_get}
use Rattle.ground_io.specs.Disk.{Disk, MayLeave, Each, Always, after_entry, disk_after}
use Rattle.ground_io.specs.Trace.{Told, Adds, disk_of}
use Rattle.ground_io.specs.declared.entry.Entry.{Entry}
use Rattle.ground_io.proofs.Disks.{disk_after-append}

-- the disk that is told after some entries
pub disk_adds : (old new : Told) (entries : List Entry) → Adds (Some old) (Some new) entries → disk_of new ≡ disk_after entries (disk_of old)
disk_adds old new entries adds =
    ap (λ (l : List Entry). disk_after l (record { contents = new.first; loose = [] })) adds.1
    ∙ ap (λ (f : List ℕ). disk_after (old.trace ++ entries) (record { contents = f; loose = [] })) adds.0
    ∙ disk_after-append old.trace entries (record { contents = old.first; loose = [] })

pub adds_both : (a b c : Option Told) (first second : List Entry) → Adds a b first → Adds b c second → Adds a c (first ++ second)
adds_both a b None first second ab bc = tt
adds_both a None (Some c) first second ab bc = absurd bc
adds_both None (Some b) (Some c) first second ab bc = absurd ab
adds_both (Some a) (Some b) (Some c) first second ab bc = (bc.0 ∙ ab.0, bc.1 ∙ ap (λ (l : List Entry). l ++ second) ab.1 ∙ append_assoc a.trace first second)

pub adds_none : (a : Option Told) → Adds a a []
adds_none None = tt
adds_none (Some a) = (refl, sym (append-nil a.trace))

pub always-append : (P : List ℕ → Type 0) (disk : Disk) (first second : List Entry) → Always P disk first → Always P (disk_after first disk) second → Always P disk (first ++ second)
always-append P disk [] second one two = two
always-append P disk (entry ∷ first) second one two = (one.0, always-append P (after_entry entry disk) first second one.1 two)

pub always_weaker : (P Q : List ℕ → Type 0) → ((image : List ℕ) → P image → Q image) → (disk : Disk) (entries : List Entry) → Always P disk entries → Always Q disk entries
always_weaker P Q to disk [] all = λ image may. to image (all image may)
always_weaker P Q to disk (entry ∷ entries) all = (λ image may. to image (all.0 image may), always_weaker P Q to (after_entry entry disk) entries all.1)

-- and so after any of these entries
pub each_at : (P : List ℕ → Type 0) (disk : Disk) (first second : List Entry) → Always P disk (first ++ second) → Each P (disk_after first disk)
each_at P disk [] [] all = all
each_at P disk [] (entry ∷ second) all = all.0
each_at P disk (entry ∷ first) second all = each_at P (after_entry entry disk) first second all.1

octet : (image contents : List ℕ) (place : ℕ) → slice_get image place ≡ slice_get contents place → get_or image place 0 ≡ get_or contents place 0
octet image contents place same = sym (unwrap_or-slice_get image place 0) ∙ ap (λ (o : Option ℕ). unwrap_or o 0) same ∙ unwrap_or-slice_get contents place 0

-- with nothing loose, a crash leaves what a read gives
pub only_read : (contents image : List ℕ) → MayLeave (record { contents = contents; loose = [] }) image → image ≡ contents
only_read contents image may = ext_get_or 0 image contents may.size (λ i h. octet image contents i (may.as_read i tt))

-- any octets in a range, and the same in all else
pub record SameBut (place count : ℕ) (old new : List ℕ) : Type 0 where
  pub before : take place new ≡ take place old
  pub after : drop (place + count) new ≡ drop (place + count) old
  pub size : length new ≡ length old

-- with one range loose, it leaves the same but for that range
pub one_loose : (contents image : List ℕ) (place count : ℕ) → MayLeave (record { contents = contents; loose = record { place = place; count = count } ∷ [] }) image → SameBut place count contents image
one_loose contents image place count may = record {
  before = ext_get_or 0 (take place image) (take place contents) sizes (λ i h.
      let lt : i < place = grind (arith, length-take) in
      get_or-take place image i 0 lt ∙ octet image contents i (may.as_read i (inl lt, tt)) ∙ sym (get_or-take place contents i 0 lt));
  after = ext_get_or 0 (drop (place + count) image) (drop (place + count) contents) ends (λ i h.
      get_or-drop (place + count) image i 0 ∙ octet image contents (place + count + i) (may.as_read (place + count + i) (inr (omega arith), tt)) ∙ sym (get_or-drop (place + count) contents i 0));
  size = may.size;
}
  where
    sizes : length (take place image) ≡ length (take place contents)
    sizes = grind (arith, length-take)

    ends : length (drop (place + count) image) ≡ length (drop (place + count) contents)
    ends = grind (arith, length-drop)
