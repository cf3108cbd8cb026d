-- Octets put over others, and runs of entries.
use Rattle.std.proofs.Common.{◌≡◌, ℕ, suc, List, [], ◌∷◌, ◌++◌, refl, sym, ap, subst, ◌∙◌, append_assoc, ◌+◌, ◌≤◌, length, take, drop, arith, length-append, length-drop, take-append-drop}
use Rattle.std.specs.Prelude.{All}
use Rattle.std.proofs.lemmas.List.Elements.{All-head}
use Rattle.std.proofs.lemmas.List.{length-take, drop-drop}
use Rattle.ground_io.specs.Disk.{Disk, after_entry, disk_after, with_octets, octets_at, IsInside}
use Rattle.ground_io.specs.Image.{contents_with}
use Rattle.ground_io.specs.declared.entry.Entry.{Entry}
use Rattle.ground_io.specs.declared.entry.Entry.TheVariants.{Wrote, Broke, Synced, Emitted, Lost}

pub disk_after-append : (first second : List Entry) (disk : Disk) → disk_after (first ++ second) disk ≡ disk_after second (disk_after first disk)
disk_after-append [] second disk = refl
disk_after-append (entry ∷ first) second disk = disk_after-append first second (after_entry entry disk)

pub length-with_octets : (place : ℕ) (octets contents : List ℕ) → place + length octets ≤ length contents → length (with_octets place octets contents) ≡ length contents
length-with_octets place octets contents fits = grind (arith, length-append, length-take, length-drop)

pub length-octets_at : (place count : ℕ) (contents : List ℕ) → place + count ≤ length contents → length (octets_at place count contents) ≡ count
length-octets_at place count contents fits = grind (arith, length-take, length-drop)

-- the octets that stand there, put there
pub put_back : (place count : ℕ) (contents : List ℕ) → place + count ≤ length contents → with_octets place (octets_at place count contents) contents ≡ contents
put_back place count contents fits =
    ap (λ (n : ℕ). take place contents ++ octets_at place count contents ++ drop (place + n) contents) (length-octets_at place count contents fits)
    ∙ append_assoc (take place contents) (octets_at place count contents) (drop (place + count) contents)
    ∙ ap (λ (l : List ℕ). take place contents ++ l)
    (ap (λ (l : List ℕ). octets_at place count contents ++ l) (sym (drop-drop count place contents)) ∙ take-append-drop count (drop place contents))
    ∙ take-append-drop place contents

-- an entry does the same to the contents, whatever is loose
pub contents_after : (entry : Entry) (disk : Disk) → (after_entry entry disk).contents ≡ contents_with entry disk.contents
contents_after (Wrote place octets) disk = refl
contents_after (Broke place tried left) disk = refl
contents_after Synced disk = refl
contents_after (Emitted peer octets) disk = refl
contents_after (Lost peer octets) disk = refl

pub length-contents_with : (entry : Entry) (contents : List ℕ) → IsInside (length contents) entry → length (contents_with entry contents) ≡ length contents
length-contents_with (Wrote place octets) contents inside = length-with_octets place octets contents inside
length-contents_with (Broke place tried left) contents inside = length-with_octets place left contents (omega (arith, inside.0, inside.1))
length-contents_with Synced contents inside = refl
length-contents_with (Emitted peer octets) contents inside = refl
length-contents_with (Lost peer octets) contents inside = refl

pub all_tail : {X : Type 0} (P : X → Type 0) (x : X) (xs : List X) → All P (x ∷ xs) → All P xs
all_tail P x xs all = λ k d h. all (suc k) d (omega arith)

pub length-disk_after : (entries : List Entry) (disk : Disk) → All (IsInside (length disk.contents)) entries → length (disk_after entries disk).contents ≡ length disk.contents
length-disk_after [] disk inside = refl
length-disk_after (entry ∷ entries) disk inside =
    let one : length (after_entry entry disk).contents ≡ length disk.contents =
    ap length (contents_after entry disk) ∙ length-contents_with entry disk.contents (All-head (IsInside (length disk.contents)) entry entries inside) in
    length-disk_after entries (after_entry entry disk) (subst (λ (n : ℕ). All (IsInside n) entries) (sym one) (all_tail (IsInside (length disk.contents)) entry entries inside)) ∙ one
