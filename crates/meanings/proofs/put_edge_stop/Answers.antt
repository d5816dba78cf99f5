-- `meanings::put_edge_stop` meets its promise: the edges are put behind what they are of. Assumes nothing.
use Rattle.text.specs.Text.{bytes}
use Rattle.text.proofs.Puts.{adds_behind}
use Rattle.meanings.specs.Meanings.{meaning}
use Rattle.meanings.proofs.put_edge_stop.Goals as goal

pub returns : goal.returns
unfolding meaning bytes
returns c = adds_behind _ _ c.put_all.ensures c.put_edges.ensures
