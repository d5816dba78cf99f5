-- `unlisting::together` meets its promise: each part is a law of Belonging.antt. Assumes nothing.
use Rattle.unlisting.proofs.Belonging.{back, same, only}
use Rattle.unlisting.proofs.together.Goals as goal

pub returns : goal.returns
returns c = record { back = back; same = same; only = only }
