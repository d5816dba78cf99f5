-- No reader has to believe this file: what the setter of the code sets, every other register as it was. Assumes nothing.
use Rattle.std.specs.Prelude.{Bool}
use Rattle.addresses.specs.declared.DisplayAddress.{DisplayAddress}
use Rattle.registers.specs.declared.Base.{Base}
use Rattle.registers.specs.With.{with_address, with_datastate}

abbrev pub state_set : Base → DisplayAddress → Bool → Base
state_set b address datastate = with_datastate (with_address b address) datastate
