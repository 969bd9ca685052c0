use Rattle.std.proofs.Common.{◌≡◌, ◌/◌, min, length}
use Rattle.std.specs.Iterator.Adapters.{take_source, take_count}
use Rattle.std.specs.Slice.Iter.{chunks_exact_rest, chunks_exact_size}
use Rattle.language.specs.Plain.{each}
use Rattle.language.specs.Agreement.{groups}
use Rattle.list_lines.specs.Listing.{diagnostic, diagnostic_lines}
use Rattle.list_lines.proofs.Chain.{Goes}
use Rattle.list_lines.proofs.diagnostic_lines.Given as goal

-- the diagnostics of the records that are left
abbrev pub invariant-loop-record : goal.invariant-loop-record
invariant-loop-record l =
    let chunks = take_source l.record-iterator in
    let rest = chunks_exact_rest chunks in
    record {
      five : chunks_exact_size chunks ≡ 5;
      goes : Goes (each (diagnostic l.text) (groups 5 (min (take_count l.record-iterator) (length rest / 5)) rest)) l.out (diagnostic_lines l.text l.n l.log) l.fn.out;
    }
