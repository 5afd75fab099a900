-- Whether every contour of a set is simple, and whether none has spikes; the set is a contour set or a shape set.
use Rattle.std.specs.Prelude.{ℕ, Bool, true, ◌&&◌, List, [], ◌∷◌, ℤ}
use Rattle.replies.specs.declared.Verdict.{Verdict}
use Rattle.grid.specs.Points.{points}
use Rattle.replies.specs.Ladder.{Rung, first_of}
use Rattle.replies.specs.Verdicts.{verdict}
use Rattle.ring.specs.declared.Rule.{Rule}
use Rattle.ring.specs.declared.Rule.TheVariants.{Collinear, Spike}
use Rattle.clean.specs.Verdicts.{passes}
use Rattle.buffer.specs.Spans.{spans}
use Rattle.buffer.specs.Sets.{contours}
use Rattle.buffer.specs.Contours.{refusals as contour_refusals}
use Rattle.buffer.specs.Shapes.{refusals as shape_refusals}

-- every contour passes a test; those of a set of none do
unfoldable pub every : (List ℤ → Bool) → List (List ℤ) → Bool
every test [] = true
every test (c ∷ set) = test c && every test set

-- every contour passes its verdict
abbrev pub all_pass : Rule → List (List ℤ) → Bool
all_pass rule set = every (λ c. passes rule (points c)) set

-- the answer that goes with a rule, of a set with these refusals and these contours
unfoldable pub verdict_by : Rule → List Rung → List (List ℤ) → Verdict
verdict_by rule refusals set = verdict (first_of refusals) (all_pass rule set)

-- every contour of a contour set is simple
abbrev pub simple : List ℤ → List (List ℕ) → Verdict
simple p ranges = verdict_by Collinear (contour_refusals p ranges) (contours p (spans ranges))

-- no contour of a contour set has spikes
abbrev pub spike_free : List ℤ → List (List ℕ) → Verdict
spike_free p ranges = verdict_by Spike (contour_refusals p ranges) (contours p (spans ranges))

-- every contour of a shape set is simple
abbrev pub shapes_simple : List ℤ → List (List ℕ) → List (List ℕ) → Verdict
shapes_simple p cs ss = verdict_by Collinear (shape_refusals p cs ss) (contours p (spans cs))

-- no contour of a shape set has spikes
abbrev pub shapes_spike_free : List ℤ → List (List ℕ) → List (List ℕ) → Verdict
shapes_spike_free p cs ss = verdict_by Spike (shape_refusals p cs ss) (contours p (spans cs))
