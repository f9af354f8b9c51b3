-- Lines as they are printed, in one table with one claim. Assumes nothing.
use mathlib.Core.Path.{◌≡◌, refl}
use mathlib.Core.List.{List, [], ◌∷◌, ◌++◌, map}
use Prim.Native.Nat.{ℕ}
use Prim.Native.String.{String}
use lib.ListN.{replicate}
use lib.IntN.{pos}
use Rattle.std.specs.Prelude.{None, Some}
use Rattle.exact.specs.Exact.{cut}
use Rattle.exact.specs.Sign.{minus}
use Rattle.answer.specs.declared.Answer.TheVariants.{Done, Replied, Refused, NotStarted}
use Rattle.extremes.specs.Extremes as extremes
use Rattle.register.specs.Bytes.{ascii}
use Rattle.text.specs.Numeral.{fewest, numeral}
use Rattle.total.specs.Total as total
use Rattle.meter.specs.Meter.{not_started}
use Rattle.signed.specs.Signed.{signed}
use Rattle.hexadecimal.specs.Hex.{hex}
use Rattle.show.specs.Show.{named, counted, power_line, reading_word, quotient_of, total_words, trimmed, buffer_words, streak_words, extreme_words, measured_words, setpoint_words, state_words, run_words, alarm_words, mode_words, output_words, received_words, meter_words, event_line}

-- pieces as one text
abbrev whole : List (List ℕ) → List ℕ
whole [] = []
whole (s ∷ ss) = s ++ whole ss

pub record Row : Type 0 where
  pub pieces : List (List ℕ)
  pub text : List ℕ

abbrev row : List (List ℕ) → String → Row
row l t = record { pieces = l; text = ascii t }

-- a line, with its LF
abbrev line : List (List ℕ) → String → Row
line l t = record { pieces = l; text = ascii t ++ (10 ∷ []) }

abbrev pub rows : List Row
rows =
    row (numeral 0 ∷ []) "0"
    ∷ row (numeral 9 ∷ []) "9"
    ∷ row (numeral 10 ∷ []) "10"
    ∷ row (numeral 18446744073709551615 ∷ []) "18446744073709551615"
    ∷ row (signed (minus 199999)) "-199999"
    ∷ row (extreme_words (extremes.extreme (Some (pos 100)) (Some (extremes.streak 3 (pos 105)))) (extremes.extreme (Some (minus 5)) (Some (extremes.streak 12 (minus 7)))))
    " MAX=100 MIN=-5 MR=3:105 NR=12:-7"
    ∷ row (extreme_words (extremes.extreme (Some (pos 100)) None) (extremes.extreme (Some (pos 0)) (Some (extremes.streak 1 (minus 1))))) " MAX=100 MIN=0 MR=0 NR=1:-1"
    ∷ line (buffer_words (78 ∷ 238 ∷ 10 ∷ 238 ∷ 238 ∷ [])) " BUF=4eee0a"
    ∷ line (power_line Done) "0 0"
    ∷ line (power_line (Refused 5)) "11 5"
    ∷ line (event_line NotStarted not_started (replicate 170 238)) "A=12 V=0 BUF=-"
    ∷ line (event_line (Replied 2) not_started (65 ∷ 66 ∷ 238 ∷ []))
    "A=2 V=2 R=-- SUM=0 TOT=0 MAX=-- MIN=-- MR=0 NR=0 SP=0,0,0,0 AL=0000 RUN=0,0,0,0 AO=0 MODE=A MAN=0 RX=- RXO=0 BUF=4142"
    ∷ []

pub cases : map (λ (r : Row). whole r.pieces) rows ≡ map (λ (r : Row). r.text) rows
unfolding fewest numeral signed named counted hex reading_word quotient_of total_words trimmed buffer_words streak_words extreme_words measured_words setpoint_words state_words run_words alarm_words mode_words output_words received_words meter_words event_line total.quotient total.unit_of cut extremes.shown extremes.reset
cases = refl
