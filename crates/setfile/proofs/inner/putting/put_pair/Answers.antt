-- `setfile::inner::putting::put_pair` meets its contract.
use Rattle.std.proofs.Common.{◌∙◌, arith}
use Rattle.bits.proofs.WordLaws.{spelled-length}
use Rattle.bits.proofs.PenLaws.{written}
use Rattle.setfile.proofs.WriteLaws.{spelled_two}
use Rattle.setfile.proofs.inner.putting.put_pair.Goals as goal

pub slice_bounds-copy_from_slice-end : goal.slice_bounds-copy_from_slice-end
slice_bounds-copy_from_slice-end c = omega (arith, c.requires, spelled-length 2 c.args.n)

pub returns : goal.returns
returns c =
    let s = c.args in
    record {
      is = rw (c.copy_from_slice.ensures.after ∙ c.to_be_bytes.ensures ∙ spelled_two s.n) (written s.bytes.now _ s.at _ (omega (arith, spelled-length 2 s.n)));
      behind = omega (arith, spelled-length 2 s.n);
    }
