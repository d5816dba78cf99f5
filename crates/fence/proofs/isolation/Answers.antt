-- `fence::isolation` meets its promise: each sentence is proved in a file of its own. Assumes nothing.
use Rattle.loan.proofs.Touches.{fair}
use Rattle.fence.proofs.Agreeing.{entered_agrees}
use Rattle.fence.proofs.Keeping.{entered_keeps}
use Rattle.fence.proofs.Freeing.{entered_all, entered_stopped}
use Rattle.fence.proofs.Calls.{calls_agree, calls_keep, calls_free, calls_stopped}
use Rattle.fence.proofs.isolation.Goals as goal

pub returns : goal.returns
returns c = record {
  agrees = entered_agrees;
  keeps = entered_keeps;
  free = λ l h. entered_all l (fair l h);
  before = λ l h k room r m e. (entered_stopped l (fair l h) k room r m e).0;
  stopped = λ l h k room r m e. (entered_stopped l (fair l h) k room r m e).1;
  calls_agree = λ k l r m n ps qs h e. calls_agree l m n ps qs h k r e;
  calls_keep = calls_keep;
  calls_free = calls_free;
  calls_before = λ k l r m ps q h. (calls_stopped k l r m ps q h).0;
  calls_stopped = λ k l r m ps q h. (calls_stopped k l r m ps q h).1;
}
