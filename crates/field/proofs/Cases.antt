-- The fields are the bytes that the table says, all of them by one computation. Assumes nothing.
use mathlib.Core.Path.{refl}
use Rattle.field.specs.Field.{digits, decimal, fraction, sign, number, text, field}
use Rattle.field.specs.Cases.{cases, CasesHold}

pub cases_hold : CasesHold
unfolding digits decimal fraction sign number text field cases
cases_hold = refl
