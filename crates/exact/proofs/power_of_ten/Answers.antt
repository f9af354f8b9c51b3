-- `exact::power_of_ten` meets its contract: the table's rule at the entry. Assumes nothing.
use Rattle.exact.proofs.Table.{power_at}
use Rattle.exact.proofs.power_of_ten.Goals as goal

pub returns : goal.returns
returns c = power_at c.args.places c.requires
