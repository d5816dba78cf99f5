-- No reader has to believe this file: it says how a promise reads the code's turn, which has a variant of its own for a beat that stores nothing. The turn of
-- the rules is in Touches.antt. Assumes nothing.
use Rattle.std.specs.Prelude.{Result, Ok, Err}
use Rattle.touches.specs.declared.Why.{Why}
use Rattle.touches.specs.declared.Turn.{Turn as Told}
use Rattle.touches.specs.declared.Turn.TheVariants.{Rests as TellsRest, Storeless as TellsStoreless, Does as TellsDo}
use Rattle.touches.specs.Touches.{Turn, Fails, Rests, Does, whole}

abbrev pub said : Result Told Why → Turn
said (Err why) = Fails why
said (Ok (TellsRest resting)) = Rests resting
said (Ok (TellsStoreless c)) = Does (whole c)
said (Ok (TellsDo c)) = Does c
