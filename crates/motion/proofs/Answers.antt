-- Rows that are refused alike, and of which the same holds where they are not, are answered alike.
use mathlib.Core.Path.{◌≡◌, refl, sym, ◌∙◌, ap}
use mathlib.Core.Bool.{Bool}
use mathlib.Core.List.{List}
use Prim.Native.Nat.{ℕ, zero, suc, ◌*◌}
use lib.ListN.{length}
use lib.IntN.{ℤ}
use Rattle.replies.specs.Ladder.{first_of}
use Rattle.replies.specs.Verdicts.{verdict}
use Rattle.grid.specs.declared.Point.{Point}
use Rattle.grid.specs.declared.Edge.{Edge}
use Rattle.grid.specs.Limits.{limit, all_on_grid}
use Rattle.grid.specs.Points.{on, points}
use Rattle.grid.specs.Area.{exact, wrapped, reported}
use Rattle.grid.specs.Domain.{count, domain}
use Rattle.grid.proofs.DomainLaws.{in_domain}
use Rattle.replies.proofs.LadderLaws.{front_clear}
use Rattle.area.specs.Answers.{empty, refusals as area_refusals}
use Rattle.path.specs.Contains.{refusals as asked_refusals}
use Rattle.turned.specs.Starts.{started_at}
use Rattle.turned.proofs.StartedLaws.{started-length}
use Rattle.motion.specs.Moves.{shifted, reversed, StillOn}
use Rattle.motion.proofs.Rows.{shifted-length, reversed-length, reversed_on, started_on}

-- a row has as many numbers as another, and lies on the grid where that one does
pub record Alike (row other : List ℤ) : Type 0 where
  pub long : length row ≡ length other
  pub on : all_on_grid limit row ≡ all_on_grid limit other

pub shifted_alike : (d : Edge) (row : List ℤ) → StillOn d row → Alike (shifted d row) row
shifted_alike d row on = record { long = shifted-length d row; on = on.after ∙ sym on.before }

pub reversed_alike : (row : List ℤ) → Alike (reversed row) row
reversed_alike row = record { long = reversed-length row; on = reversed_on limit row }

pub started_alike : (k : ℕ) (row : List ℤ) → Alike (started_at k row) row
started_alike k row = record { long = started-length k row; on = started_on k row limit }

-- an answer by the number of the first refusal, which leaves the rest open
pub by_refusal : {X Y : Type 0} (tell : ℕ → X → Y) → ((k : ℕ) (a b : X) → tell (suc k) a ≡ tell (suc k) b)
    → (j k : ℕ) → j ≡ k → (a b : X) → (k ≡ 0 → a ≡ b) → tell j a ≡ tell k b
by_refusal tell rest j zero e a b f = ap (λ (i : ℕ). tell i a) e ∙ ap (tell 0) (f refl)
by_refusal tell rest j (suc k) e a b f = ap (λ (i : ℕ). tell i a) e ∙ rest k a b

module _ {row other : List ℤ} (x : Alike row other) where
  -- what no call refuses has two numbers for each point
  abbrev Even : Type 0
  Even = length other ≡ 2 * count other

  -- what is asked of a contour
  pub verdict_alike : (f : List Point → Bool) → (Even → f (points row) ≡ f (points other))
      → verdict (first_of (domain limit row)) (f (points row)) ≡ verdict (first_of (domain limit other)) (f (points other))
  verdict_alike f e = by_refusal
      verdict (λ k a b. refl)
      (first_of (domain limit row)) (first_of (domain limit other)) (rw (x.long, x.on))
      (f (points row)) (f (points other))
      (λ z. e (in_domain other z).even)

  module _ {X Y : Type 0} (tell : ℕ → X → Y) (rest : (k : ℕ) (a b : X) → tell (suc k) a ≡ tell (suc k) b) where
    -- what is told by the reported area, from the exact one
    pub area_alike : (f : ℤ → X) → (Even → exact (points row) ≡ exact (points other))
        → tell (first_of (area_refusals row)) (f (reported (points row))) ≡ tell (first_of (area_refusals other)) (f (reported (points other)))
    area_alike f e = by_refusal
        tell rest
        (first_of (area_refusals row)) (first_of (area_refusals other)) (rw (x.long, x.on))
        (f (reported (points row))) (f (reported (points other)))
        (λ z. ap (λ (v : ℤ). f (wrapped v)) (e (in_domain other (front_clear (domain limit other) (empty other) z)).even))

    -- what is asked of a contour and a point, of p beside the one row and of q beside the other
    pub asked_alike : (p q : Point) → on limit p ≡ on limit q → (f : Point → List Point → X) → (Even → f p (points row) ≡ f q (points other))
        → tell (first_of (asked_refusals p row)) (f p (points row)) ≡ tell (first_of (asked_refusals q other)) (f q (points other))
    asked_alike p q same f e = by_refusal
        tell rest
        (first_of (asked_refusals p row)) (first_of (asked_refusals q other)) (rw (x.long, x.on, same))
        (f p (points row)) (f q (points other))
        (λ z. e (in_domain other (front_clear (domain limit other) _ z)).even)
