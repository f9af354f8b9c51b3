-- Replies as the bytes that they are: the examples of the documents, the longest numbers and the shortest, the marks, and blocks.
use Rattle.std.specs.Prelude.{ℕ, Bool, true, false, List, [], ◌∷◌, ◌++◌, Option, None, Some, pos, replicate}
use Prim.Native.Char.{Char}
use Rattle.exact.specs.Sign.{minus}
use Rattle.reading.specs.declared.Reading.{Reading}
use Rattle.reading.specs.declared.Reading.TheVariants.{Nothing, Under, Number, Over}
use Rattle.register.specs.Bytes.{byte, ascii}
use Rattle.register.specs.Registers.{at}
use Rattle.register.specs.declared.Print.{Print}
use Rattle.line.specs.Buffer.{answer}
use Rattle.line.specs.Line.{line}
use Rattle.line.specs.declared.Style.{Style}
use Rattle.block.specs.declared.Values.{Values}
use Rattle.block.specs.Block.{block}
use Rattle.block.specs.Values.{value_line}

-- a reply, and its bytes
pub record Case : Type 0 where
  pub reply : List ℕ
  pub text : List ℕ

abbrev is : List ℕ → List ℕ → Case
is reply text = record { reply = reply; text = text }

abbrev full : ℕ → Style
full node = record { node = node; abbreviated = false }

abbrev abbreviated : ℕ → Style
abbreviated node = record { node = node; abbreviated = true }

-- the line of a register, by its letter
abbrev line_of : Style → Char → ℕ → Reading → List ℕ
line_of style letter places shown = line style (at letter) places shown

abbrev printing : (input total extremes setpoints : Bool) → Print
printing input total extremes setpoints = record { input = input; extremes = extremes; total = total; setpoints = setpoints }

abbrev all : Print
all = printing true true true true

abbrev none : Print
none = printing false false false false

-- a meter with a widest total and no min yet, and one that has measured nothing
abbrev wide : Values
wide =
    record {
      places = record { input = 1; total = 4 };
      input = Number (pos 874);
      total = Number (minus 199999999);
      max = Number (pos 99999);
      min = Nothing;
      setpoints = pos 100 ∷ pos 0 ∷ minus 5 ∷ minus 19999 ∷ [];
    }

abbrev bare : Values
bare =
    record {
      places = record { input = 0; total = 0 };
      input = Nothing;
      total = Number (pos 0);
      max = Nothing;
      min = Nothing;
      setpoints = pos 100 ∷ pos 200 ∷ pos 150 ∷ pos 250 ∷ [];
    }

abbrev block_of : Style → Print → Values → List ℕ
block_of style print values = block print (value_line style values)

abbrev pub cases : List Case
cases =
    -- the examples of document 002, and the one of document 01
    is (line_of (full 17) "A" 0 (Number (pos 875))) (ascii "17 INP         875\r\n")
    ∷ is (line_of (full 0) "F" 1 (Number (minus 2505))) (ascii "   SP2      -250.5\r\n")
    ∷ is (line_of (abbreviated 0) "F" 0 (Number (pos 250))) (ascii "         250\r\n")
    ∷ is (line_of (full 5) "A" 1 (Number (pos 874))) (ascii "05 INP        87.4\r\n")
    -- the longest numbers and the shortest
    ∷ is (line_of (full 99) "B" 4 (Number (minus 199999999))) (ascii "99 TOT -19999.9999\r\n")
    ∷ is (line_of (full 99) "B" 0 (Number (pos 999999999))) (ascii "99 TOT   999999999\r\n")
    ∷ is (line_of (full 10) "A" 4 (Number (pos 5))) (ascii "10 INP      0.0005\r\n")
    ∷ is (line_of (full 10) "D" 4 (Number (pos 0))) (ascii "10 MIN      0.0000\r\n")
    ∷ is (line_of (full 9) "C" 1 (Number (minus 5))) (ascii "09 MAX        -0.5\r\n")
    -- the marks, the analog code and the states
    ∷ is (line_of (full 9) "B" 2 Over) (ascii "09 TOT        OLOL\r\n")
    ∷ is (line_of (full 9) "A" 2 Under) (ascii "09 INP        ULUL\r\n")
    ∷ is (line_of (full 9) "D" 2 Nothing) (ascii "09 MIN        ----\r\n")
    ∷ is (line_of (full 1) "I" 0 (Number (pos 4095))) (ascii "01 AOR        4095\r\n")
    ∷ is (line_of (full 1) "J" 0 (Number (pos 21))) (ascii "01 CSR          21\r\n")
    -- blocks of all lines, of some and of none
    ∷ is (block_of (full 5) all wide)
    (ascii "05 INP        87.4\r\n"
    ++ ascii "05 TOT -19999.9999\r\n"
    ++ ascii "05 MAX      9999.9\r\n"
    ++ ascii "05 MIN        ----\r\n"
    ++ ascii "05 SP1        10.0\r\n"
    ++ ascii "05 SP2         0.0\r\n"
    ++ ascii "05 SP3        -0.5\r\n"
    ++ ascii "05 SP4     -1999.9\r\n \r\n")
    ∷ is (block_of (abbreviated 5) all wide)
    (ascii "        87.4\r\n"
    ++ ascii " -19999.9999\r\n"
    ++ ascii "      9999.9\r\n"
    ++ ascii "        ----\r\n"
    ++ ascii "        10.0\r\n"
    ++ ascii "         0.0\r\n"
    ++ ascii "        -0.5\r\n"
    ++ ascii "     -1999.9\r\n \r\n")
    ∷ is (block_of (full 17) (printing false true true false) wide)
    (ascii "17 TOT -19999.9999\r\n" ++ ascii "17 MAX      9999.9\r\n" ++ ascii "17 MIN        ----\r\n \r\n")
    ∷ is (block_of (abbreviated 5) (printing false false false true) bare)
    (ascii "         100\r\n" ++ ascii "         200\r\n" ++ ascii "         150\r\n" ++ ascii "         250\r\n \r\n")
    ∷ is (block_of (full 5) none wide) []
    ∷ []

-- a reply at a place of a buffer of 166 bytes, and what became of it
pub record Placed : Type 0 where
  pub reply : List ℕ
  pub place : ℕ
  pub written : Option ℕ

abbrev put : List ℕ → ℕ → Option ℕ → Placed
put reply place written = record { reply = reply; place = place; written = written }

abbrev pub placed : List Placed
placed =
    put (block_of (full 5) all wide) 3 (Some 163)
    ∷ put (block_of (full 5) all wide) 4 None
    ∷ put (block_of (full 5) all wide) 18446744073709551615 None
    ∷ put (block_of (abbreviated 5) all wide) 51 (Some 115)
    ∷ put (block_of (abbreviated 5) all wide) 52 None
    -- nothing has room up to the end, and none past it
    ∷ put (block_of (full 5) none wide) 166 (Some 0)
    ∷ put (block_of (full 5) none wide) 167 None
    ∷ []

abbrev pub becomes : Placed → Option ℕ
becomes p = answer (replicate 166 (byte ".")) p.place p.reply
