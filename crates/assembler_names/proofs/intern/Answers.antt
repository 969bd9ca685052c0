use Rattle.std.proofs.Common.{arith, ◌≡◌, ◌+◌, ◌++◌, drop, length, length-append, length-take, length-drop}
use Rattle.assembler_names.proofs.PartLaws.{part_count, parts_kept, parts_interned}
use Rattle.assembler_names.proofs.intern.Goals as goal

pub returns : goal.returns
returns c =
    let row : length c.give.new.row + c.args.firsts_at ≡ c.args.free_at = omega (arith, c.give.auto.row, c.split_at_mut-words.ensures.back_len, c.split_at_mut-front.ensures.front_len) in
    let free : length (c.give.new.free ++ drop c.args.size c.split_at_mut-front.result.1.now) + c.args.free_at ≡ length c.args.work.now =
    omega (
      arith,
      length-append c.give.new.free (drop c.args.size c.split_at_mut-front.result.1.now),
      c.give.auto.free,
      c.split_at_mut-front.ensures.back_len,
      length-take c.args.size c.split_at_mut-front.result.1.now,
      length-drop c.args.size c.split_at_mut-front.result.1.now,
      c.requires,
    ) in
    let part = parts_kept c.args.count c.args.firsts_at c.args.free_at c.args.work.now _ _ c.requires.0 c.requires.1 (omega (arith, c.requires)) c.split_at_mut-front.ensures.front c.split_at_mut-words.ensures.front _ _ row free in
    (part, parts_interned c.args.count c.args.firsts_at c.args.free_at c.args.work.now _ _ c.requires.0 c.requires.1 (omega (arith, c.requires)) c.split_at_mut-front.ensures.front c.split_at_mut-words.ensures.front _ _ row free c.args.text.now c.give.ensures)
