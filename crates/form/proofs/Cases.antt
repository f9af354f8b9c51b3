-- Each string of the table asks what stands beside it: both columns are computed.
use mathlib.Core.Path.{refl}
use Rattle.register.specs.Registers.{entry, index}
use Rattle.numeral.specs.Number.{amount, number}
use Rattle.command.specs.Parse.{sole, reading, resetting, printing, status, data_of, writing, body, first_digit, second_digit, parse}
use Rattle.form.specs.Cases.{Right}

pub right : Right
unfolding parse first_digit second_digit body reading resetting printing writing data_of status sole number amount index entry
right = refl
