-- the reason for which an image file's line is turned down
use Rattle.refusal.specs.declared.Refusal.{Refusal}
use Rattle.refusal.specs.declared.Refusal.TheVariants.{BadLine}
use Rattle.ihex.specs.Meaning as ihex
use Rattle.image.specs.declared.fault.ImageFault.{ImageFault}
use Rattle.image.specs.declared.fault.ImageFault.TheVariants.{Line, Record}

abbrev pub refusal_of : ImageFault → Refusal
refusal_of Line = BadLine
refusal_of (Record f) = ihex.refusal_of f
