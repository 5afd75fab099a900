-- `draw::show` meets its contract: the row has room for any picture.
use mathlib.Core.Path.{sym, subst}
use mathlib.Core.List.{List}
use Prim.Native.Nat.{ℕ, ◌≤◌}
use lib.ListN.{length, replicate, length-replicate}
use Rattle.picture.specs.Picture.{picture}
use Rattle.picture.proofs.Theorems.{no_picture_is_longer}
use Rattle.draw.proofs.show.Goals as goal

-- the row, as it is lent
room : (f : List ℕ) → length (picture f) ≤ length (replicate {A = ℕ} 800000 0)
room f = subst (λ (n : ℕ). length (picture f) ≤ n) (sym (length-replicate {A = ℕ} 800000 0)) (no_picture_is_longer f)

pub slice_bounds-print-end : goal.slice_bounds-print-end
slice_bounds-print-end c = sym (length-replicate {A = ℕ} 800000 0)

pub print-requires : goal.print-requires
print-requires c = room c.args.bytes.now
