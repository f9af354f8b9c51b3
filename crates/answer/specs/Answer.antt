-- Document 01's number of each answer, and the number that it carries.
use Rattle.std.specs.Prelude.{ℕ}
use Rattle.answer.specs.declared.Answer.{Answer}
use Rattle.answer.specs.declared.Answer.TheVariants.{Done, Stored, Replied, OtherNode, BadForm, Dropped, TooLong, InAutomatic, NoRoom, UnknownKey, Refused, NotStarted}

abbrev pub number : Answer → ℕ
number Done = 0
number Stored = 1
number (Replied n) = 2
number OtherNode = 3
number BadForm = 4
number Dropped = 5
number TooLong = 6
number InAutomatic = 8
number NoRoom = 9
number UnknownKey = 10
number (Refused rule) = 11
number NotStarted = 12

-- a reply carries its length, a refusal the number of the broken rule, every other answer 0
abbrev pub value : Answer → ℕ
value Done = 0
value Stored = 0
value (Replied n) = n
value OtherNode = 0
value BadForm = 0
value Dropped = 0
value TooLong = 0
value InAutomatic = 0
value NoRoom = 0
value UnknownKey = 0
value (Refused rule) = rule
value NotStarted = 0
