-- `lesson::enough` meets its promise: the theorem is proved in LongInput.antt. Assumes nothing.
use Rattle.lesson.proofs.LongInput.{enough}
use Rattle.lesson.proofs.enough.Goals as goal

pub returns : goal.returns
returns c = enough
