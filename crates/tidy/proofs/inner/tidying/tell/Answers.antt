-- `tidy::inner::tidying::tell` meets its contract: the fates that were told say which lines are put.
use mathlib.Core.Path.{◌≡◌, sym, ◌∙◌, ap₂}
use mathlib.Core.List.{List, ◌++◌}
use Prim.Native.Nat.{ℕ, ◌≤◌}
use native.Mathlib.Omega.{arith}
use lib.ListN.{length, take, drop, replicate, length-append, length-replicate}
use lib.Seq.{length-take-le, take_at}
use lib.IntN.{ℤ}
use Rattle.buffer.specs.Spans.{spans}
use Rattle.buffer.specs.Sets.{joined, contours, shapes}
use Rattle.fates.specs.Fates.{fates}
use Rattle.tidy.specs.Words.{lines}
use Rattle.tidy.specs.inside.Sets.{Tidiable}
use Rattle.tidy.proofs.LineLaws.{lines-length}
use Rattle.tidy.proofs.SetLaws.{named, all_joined, contours-length, tellable, no_scratch}
use Rattle.tidy.proofs.inner.tidying.tell.Goals as goal
use Rattle.tidy.proofs.inner.tidying.tell.Goals.{After-sweep}

few : {p : List ℤ} {cs ss : List (List ℕ)} → Tidiable p cs ss → length cs ≤ length {A = ℕ} (replicate 4095 0)
few t = omega (arith, length-replicate {A = ℕ} 4095 0, t.few_contours)

abbrev told : After-sweep → List ℕ
told c = c.sweep.new.fates

told_long : (c : After-sweep) → length (told c) ≡ length c.args.contours.now
told_long c = c.sweep.auto.fates ∙ length-take-le _ _ (few c.requires.0)

-- the row, in front of which it stands
abbrev row : After-sweep → List ℕ
row c = told c ++ drop (length c.args.contours.now) (replicate 4095 0)

row_long : (c : After-sweep) → length c.args.contours.now ≤ length (row c)
row_long c = omega (arith, told_long c, length-append (told c) (drop (length c.args.contours.now) (replicate 4095 0)))

-- the words that it says
same_words : (c : After-sweep) →
    let s = c.args in
    let all = shapes s.points.now (spans s.contours.now) (spans s.shapes.now) in
    lines 1 (take (length s.contours.now) (row c)) (contours s.points.now (spans s.contours.now)) ≡ lines 1 (fates s.rule all) (joined all)
same_words c =
    ap₂ (λ (fs : List ℕ) (l : List (List ℤ)). lines 1 fs l)
    (take_at (told c) _ (length c.args.contours.now) (told_long c) ∙ c.sweep.ensures.fates_after)
    (sym (all_joined c.requires.0))

pub slice_bounds-sweep-end-4 : goal.slice_bounds-sweep-end-4
slice_bounds-sweep-end-4 c = sym (length-take-le _ _ (few c.requires.0))

pub sweep-requires : goal.sweep-requires
sweep-requires c = tellable c.requires.0 no_scratch (length-take-le _ _ (few c.requires.0))

pub slice_bounds-fates-end-2 : goal.slice_bounds-fates-end-2
slice_bounds-fates-end-2 c = row_long (goal.at.slice_bounds-fates-end-2 c).After-sweep

pub slice_bounds-put-end : goal.slice_bounds-put-end
slice_bounds-put-end c = sym (length-take-le _ _ (row_long (goal.at.slice_bounds-put-end c).After-sweep))

pub put-requires : goal.put-requires
put-requires c =
    let t = c.requires.0 in
    let k = length c.args.contours.now in
    record {
      named = (named t, length-take-le k (row (goal.at.put-requires c).After-sweep) (row_long (goal.at.put-requires c).After-sweep));
      ranges_in_bounds = omega (arith, lines-length 1 (take k (row (goal.at.put-requires c).After-sweep)) (contours c.args.points.now (spans c.args.contours.now)) (omega (arith, contours-length t, t.few_contours)), contours-length t, t.few_contours, c.requires.1);
    }

pub returns : goal.returns
returns c =
    rw (← same_words (goal.at.returns c).After-sweep) c.put.ensures
