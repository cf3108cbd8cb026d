-- The images that a filling makes: octets for the ranges that were written since the last sync, and in all else what a read gives.
use Rattle.std.specs.Prelude.{ℕ, List, [], ◌∷◌, length, replicate}
use Rattle.ground_io.specs.Disk.{with_octets, after_entry}
use Rattle.ground_io.specs.declared.entry.Entry.{Entry}
use Rattle.ground_io.specs.declared.entry.Entry.TheVariants.{Wrote, Broke, Synced, Emitted, Lost}
use Rattle.ground_io.specs.declared.filling.Filling.{Filling}
use Rattle.ground_io.specs.declared.filling.Filling.TheVariants.{Old, New, Octet}

-- the contents after an entry
abbrev pub contents_with : Entry → List ℕ → List ℕ
contents_with entry contents = (after_entry entry (record { contents = contents; loose = [] })).contents

-- the image, once these octets may stand at a place or may not
abbrev pub filled : Filling → ℕ → List ℕ → List ℕ → List ℕ
filled Old place tried image = image
filled New place tried image = with_octets place tried image
filled (Octet octet) place tried image = with_octets place (replicate (length tried) octet) image

-- the image after an entry that came to these contents and this image; after a sync it is what a read gives
abbrev pub image_with : Filling → Entry → List ℕ → List ℕ → List ℕ
image_with filling (Wrote place octets) contents image = filled filling place octets image
image_with filling (Broke place tried left) contents image = filled filling place tried image
image_with filling Synced contents image = contents
image_with filling (Emitted peer octets) contents image = image
image_with filling (Lost peer octets) contents image = image

-- the image after all of them, in order
abbrev pub image_after : Filling → List Entry → List ℕ → List ℕ → List ℕ
image_after filling [] contents image = image
image_after filling (entry ∷ entries) contents image = image_after filling entries (contents_with entry contents) (image_with filling entry contents image)
