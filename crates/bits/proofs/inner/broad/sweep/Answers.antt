-- `bits::inner::broad::sweep` meets its contract.
use mathlib.Core.Path.{refl, ◌∙◌}
use Prim.Native.Nat.{◌+◌, ◌-◌, ◌/◌, ◌^◌}
use native.Mathlib.Omega.{arith}
use mir.Facts.{Fits-of_lt}
use Rattle.bits.specs.inside.Words.{spelled}
use Rattle.bits.proofs.WordLaws.{spelled_eight, spelled-length}
use Rattle.bits.proofs.PenLaws.{written}
use Rattle.bits.proofs.BroadLaws.{behind_fits, swept, swept_front, full_fits, swept_out, swept_rest}
use Rattle.bits.proofs.inner.broad.sweep.Goals as goal

pub overflow_add-result : goal.overflow_add-result
overflow_add-result c =
    let a = c.args in
    Fits-of_lt (behind_fits a.broad a.bytes.now a.width a.n c.requires.0 c.requires.2 (a.broad.width + a.width) refl (omega arith))

pub returns-then-all-le64 : goal.returns-then-all-le64
returns-then-all-le64 c =
    let a = c.args in (
      swept a.broad a.bytes.now a.width a.n c.requires.0 c.requires.2 (a.broad.width + a.width) refl (omega arith),
      swept_front a.broad a.bytes.now a.width a.n c.requires.0 c.requires.2 (a.broad.width + a.width) refl (omega arith),
    )

pub overflow_add-full : goal.overflow_add-full
overflow_add-full c =
    let a = c.args in
    Fits-of_lt (full_fits a.broad a.bytes.now a.width a.n c.requires.0 c.requires.2 (a.broad.width + a.width - 64) (omega arith) (omega (arith, c.requires.0.few, c.requires.1.within_60)))

pub returns : goal.returns
returns c =
    let a = c.args in
    let r = a.broad.width + a.width - 64 in
    let full = a.broad.kept + a.n / 2 ^ r in
    let e = c.copy_from_slice.ensures.after ∙ c.to_be_bytes.ensures ∙ spelled_eight full in (
      rw (e, written a.bytes.now (spelled 8 full) a.broad.at (a.broad.at + 8 - a.broad.at) (omega (arith, spelled-length 8 full)))
          (swept_out a.broad a.bytes.now a.width a.n c.requires.0 c.requires.2 r (omega arith) (omega (arith, c.requires.0.few, c.requires.1.within_60)) (omega (arith, c.requires.1.room)) full refl),
      swept_rest a.broad a.bytes.now a.width a.n c.requires.0 c.requires.2 r (omega arith) (omega (arith, c.requires.0.few, c.requires.1.within_60)),
    )
