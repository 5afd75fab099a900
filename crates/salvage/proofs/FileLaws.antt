-- What is kept of a file with a head: contours that a file can hold, in bytes that the damaged file has.
use mathlib.Core.Path.{◌≡◌, refl, sym, ◌∙◌, ap, ap₂}
use mathlib.Core.Bool.{Bool, true, false, not, ◌&&◌, ◌||◌}
use mathlib.Core.List.{List, [], ◌∷◌}
use Prim.Native.Nat.{ℕ, zero, suc, ◌+◌, ◌≤◌}
use native.Mathlib.Omega.{arith}
use lib.ListN.{length, drop, length-append, length-drop}
use lib.IntN.{ℤ}
use mir.Syntax.{w32}
use mir.Val.{SFits}
use borrow.Author.Tests.{not-false}
use Rattle.grid.specs.Limits.{narrow, all_on_grid}
use Rattle.grid.specs.Domain.{count}
use Rattle.replies.specs.Ladder.{first_of}
use Rattle.replies.proofs.LadderLaws.{clear}
use Rattle.buffer.specs.Sets.{joined}
use Rattle.setfile.specs.Entries.{Entry, contours_of}
use Rattle.setfile.specs.Layouts.{promised}
use Rattle.setfile.specs.Format.{come}
use Rattle.bits.specs.Bits.{Bytes}
use Rattle.setfile.specs.inside.Bytes.{in_bytes, coded_contours, coded}
use Rattle.setfile.specs.Writing.{most_points}
use Rattle.setfile.specs.Promises.{Each, Started, Carried}
use Rattle.setfile.proofs.SizeLaws.{promised_few}
use Rattle.setfile.proofs.CodedLaws.{file_is_coded}
use Rattle.grid.proofs.LimitLaws.{on_joined}
use Rattle.setfile.proofs.RoundTrip.{Matched, come_matched}
use Rattle.salvage.specs.Fates.{reason, open_behind, fates, kept}
use Rattle.salvage.specs.Outcome.{fates_of, kept_of, dropped_of, mended}
use Rattle.salvage.proofs.FateLaws.{fates-length, kept_or_dropped, kept_each, kept_even, kept_shorter}

-- one that is kept is on the grid, and begins a shape where none stood open
kept_sound : (b : Bool) (e : Entry) → reason b e ≡ 0 → (all_on_grid narrow e.points ≡ true) × ((e.begins || b) ≡ true)
unfolding reason
kept_sound b e z = let c = clear _ tt z in (not-false _ c.0, not-false _ c.1.0)

-- one that is dropped leaves no shape open where none was
still_shut : (on begins : Bool) (r : ℕ) → first_of ((not on, 3) ∷ (not (begins || false), 11) ∷ []) ≡ suc r → open_behind begins on false ≡ false
unfolding first_of
still_shut true true r e = absurd (omega arith)
still_shut true false r e = refl
still_shut false true r e = refl
still_shut false false r e = refl

or_none : (b : Bool) → (b || false) ≡ true → b ≡ true
or_none true e = refl
or_none false e = e

kept_started : (b : Bool) (l : List Entry) → b ≡ false → Started (kept (fates b l) l)
unfolding fates kept reason
kept_started b [] s = tt
kept_started b (e ∷ l) s = go (reason b e) refl (kept_started (open_behind e.begins (all_on_grid narrow e.points) b) l)
  where
    behind : Bool
    behind = open_behind e.begins (all_on_grid narrow e.points) b

    go : (r : ℕ) → reason b e ≡ r → (behind ≡ false → Started (kept (fates behind l) l)) → Started (kept (r ∷ fates behind l) (e ∷ l))
    go zero z h = or_none e.begins (ap (λ (t : Bool). e.begins || t) (sym s) ∙ (kept_sound b e z).1)
    go (suc r) z h =
        h
        (ap (open_behind e.begins (all_on_grid narrow e.points)) s
        ∙ still_shut (all_on_grid narrow e.points) e.begins r (ap (λ (t : Bool). first_of ((not (all_on_grid narrow e.points), 3) ∷ (not (e.begins || t), 11) ∷ [])) (sym s) ∙ z))

pub kept_on : (b : Bool) (l : List Entry) → all_on_grid narrow (joined (contours_of (kept (fates b l) l))) ≡ true
unfolding fates kept joined all_on_grid
kept_on b [] = refl
kept_on b (e ∷ l) = go (reason b e) refl (kept_on (open_behind e.begins (all_on_grid narrow e.points) b) l)
  where
    behind : Bool
    behind = open_behind e.begins (all_on_grid narrow e.points) b

    go : (r : ℕ) → reason b e ≡ r → all_on_grid narrow (joined (contours_of (kept (fates behind l) l))) ≡ true → all_on_grid narrow (joined (contours_of (kept (r ∷ fates behind l) (e ∷ l)))) ≡ true
    go zero z h = on_joined narrow e.points (joined (contours_of (kept (fates behind l) l))) ∙ ap₂ (λ (x y : Bool). x && y) (kept_sound b e z).0 h
    go (suc r) z h = h

-- a file with a head
module _ (f : List ℕ) (h : Bytes f) (e : 2 ≤ length f) where
  found : Matched (promised f) (drop 2 f) (in_bytes (come f))
  found = come_matched f h

  counts : length (kept_of f) + length (dropped_of f) ≡ length (come f).contours
  counts = kept_or_dropped 0 (fates_of f) (come f).contours (fates-length false (come f).contours)

  pub the_counts : length (kept_of f) + length (dropped_of f) + (come f).missing ≡ promised f
  the_counts = omega (arith, counts, found.number)

  pub kept_carried : Carried (kept_of f)
  kept_carried = record {
    small = record {
      few = omega (arith, the_counts, promised_few f);
      even = kept_even (fates_of f) (come f).contours found.even;
      short = kept_each (λ (e : Entry). e.points) (λ (c : List ℤ). count c ≤ most_points) (fates_of f) (come f).contours found.short;
    };
    started = kept_started false (come f).contours refl;
    fitting = kept_each (λ (e : Entry). e.points) (Each (SFits w32)) (fates_of f) (come f).contours found.fitting;
  }

  pub mended_is : mended f ≡ coded (kept_of f)
  mended_is = file_is_coded (kept_of f) kept_carried.small.few

  pub kept_within : 2 + length (coded_contours (kept_of f)) ≤ length f
  kept_within =
      omega (
        arith,
        kept_shorter (fates_of f) (come f).contours,
        sym (length-append (coded_contours (come f).contours) found.rest) ∙ ap length found.same ∙ length-drop 2 f,
        e,
      )
