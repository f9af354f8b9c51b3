-- The values that a block is written from: what the registers A to H show.
use Rattle.register.specs.Registers.{at}
use Rattle.alarms.specs.Alarms.{setpoints}
use Rattle.config.specs.declared.Places.{Places}
use Rattle.config.specs.declared.Working.{Working}
use Rattle.block.specs.declared.Values.{Values}
use Rattle.instrument.specs.Shown.{shown_at, places_at}
use Rattle.instrument.specs.declared.Instrument.{Instrument}

abbrev pub values : Places → Working → Instrument → Values
values p w i =
    record {
      places = record { input = places_at p (at "A"); total = places_at p (at "B") };
      input = shown_at w i (at "A");
      total = shown_at w i (at "B");
      max = shown_at w i (at "C");
      min = shown_at w i (at "D");
      setpoints = setpoints i.alarms;
    }
