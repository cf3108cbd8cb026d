use Rattle.ground_io.proofs.Images.{may_leave}
use Rattle.ground_io.proofs.image.image_of.Goals as goal

pub returns-clause-possible : goal.returns-clause-possible
returns-clause-possible c = may_leave c.args.filling c.args.first.now c.args.entries.now c.filled_image.result c.requires c.filled_image.ensures.image
