-- `block::block_length` meets its contract: max and min are counted together, and so are the four setpoints. Assumes nothing.
use Rattle.block.proofs.Blocks.{all_counted, end_counted}
use Rattle.block.proofs.block_length.Goals as goal

pub returns : goal.returns
returns c =
    rw (
      all_counted c.args.print,
      end_counted,
      c.from-5.ensures,
      c.any.ensures,
      c.line_length.ensures,
      c.from-4.ensures,
      c.from-3.ensures,
      c.from-2.ensures,
      c.from.ensures,
    )
