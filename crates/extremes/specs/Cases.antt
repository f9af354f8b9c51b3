-- Worked cases of max and min.
use Rattle.std.specs.Prelude.{List, [], ◌∷◌, ℕ, ℤ, pos, None, Some}
use Rattle.exact.specs.Sign.{minus}
use Rattle.reading.specs.declared.Reading.{Reading}
use Rattle.reading.specs.declared.Reading.TheVariants.{Nothing, Under, Number, Over}
use Rattle.extremes.specs.declared.Side.{Side}
use Rattle.extremes.specs.declared.Side.TheVariants.{Max, Min}
use Rattle.extremes.specs.declared.Extreme.{Extreme}
use Rattle.extremes.specs.Extremes.{extreme, streak, taken, sampled}

-- samples one after the other, the first one first
unfoldable pub after : Side → ℤ → Extreme → List Reading → Extreme
after side capture e [] = e
after side capture e (r ∷ rs) = after side capture (sampled side capture e r) rs

-- a max or a min, the capture time in tenths of a second, what is kept at first, the readings, and what is then kept
pub record Case : Type 0 where
  pub side : Side
  pub capture : ℤ
  pub first : Extreme
  pub readings : List Reading
  pub last : Extreme

abbrev n : ℕ → Reading
n v = Number (pos v)

-- v is kept, and no run goes on
abbrev at : ℕ → Extreme
at v = taken (pos v)

-- v is kept, and a run of so many readings goes on, which remembers w
abbrev running : ℕ → ℕ → ℕ → Extreme
running v many w = extreme (Some (pos v)) (Some (streak many (pos w)))

unfoldable pub cases : List Case
cases =
    -- document 02's spike: capture 0.2 s and max 100; the fourth reading completes the run, and the least of the four is taken
    record { side = Max; capture = pos 2; first = at 100; readings = n 105 ∷ n 109 ∷ n 108 ∷ n 500 ∷ []; last = at 105 }
    -- three of four
    ∷ record { side = Max; capture = pos 2; first = at 100; readings = n 105 ∷ n 109 ∷ n 108 ∷ []; last = running 100 3 105 }
    -- the least in the middle, and the least at the end
    ∷ record { side = Max; capture = pos 2; first = at 100; readings = n 105 ∷ n 103 ∷ n 500 ∷ n 104 ∷ []; last = at 103 }
    ∷ record { side = Max; capture = pos 1; first = at 100; readings = n 105 ∷ n 103 ∷ []; last = at 103 }
    -- a reading that equals max is not above it, and the run after it remembers its own readings alone
    ∷ record { side = Max; capture = pos 2; first = at 100; readings = n 105 ∷ n 109 ∷ n 100 ∷ n 108 ∷ []; last = running 100 1 108 }
    -- so does the run after a complete one
    ∷ record { side = Max; capture = pos 1; first = at 100; readings = n 105 ∷ n 103 ∷ n 200 ∷ []; last = running 103 1 200 }
    -- Over, Under and nothing end the run
    ∷ record { side = Max; capture = pos 2; first = running 100 3 105; readings = Over ∷ []; last = at 100 }
    ∷ record { side = Max; capture = pos 2; first = running 100 3 105; readings = Under ∷ []; last = at 100 }
    ∷ record { side = Max; capture = pos 2; first = running 100 3 105; readings = Nothing ∷ []; last = at 100 }
    -- no capture time: one sample is enough
    ∷ record { side = Max; capture = pos 0; first = at 100; readings = n 101 ∷ n 500 ∷ []; last = at 500 }
    -- the first number is taken at once, whatever the capture time
    ∷ record { side = Max; capture = pos 32750; first = extreme None None; readings = Over ∷ n 7 ∷ []; last = at 7 }
    -- min, below: the greatest is taken
    ∷ record { side = Min; capture = pos 2; first = at 100; readings = n 95 ∷ n 91 ∷ n 92 ∷ Number (minus 500) ∷ []; last = at 95 }
    ∷ record { side = Min; capture = pos 2; first = at 100; readings = n 95 ∷ n 97 ∷ Number (minus 500) ∷ []; last = running 100 3 97 }
    ∷ record { side = Min; capture = pos 0; first = at 100; readings = n 100 ∷ n 101 ∷ []; last = at 100 }
    ∷ []

-- what a case comes to
abbrev pub outcome : Case → Extreme
outcome k = after k.side k.capture k.first k.readings
