use Rattle.std.proofs.Common.{◌≡◌, length, drop}
use Rattle.ground_io.specs.Image.{image_after}
use Rattle.ground_io.proofs.image.filled_image.Given as goal

abbrev pub invariant-loop-entry : goal.invariant-loop-entry
invariant-loop-entry l = record {
  contents : length l.contents.items ≡ length l.first;
  image : length l.image.items ≡ length l.first;
  rest : image_after l.filling l.entries l.first l.first ≡ image_after l.filling (drop l.entry-index l.entries) l.contents.items l.image.items;
}
