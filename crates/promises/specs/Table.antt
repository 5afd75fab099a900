-- The scope's cases W1 to W12 as one table: a contour, and what each call answers of it. W5 is W4 despiked.
use Rattle.std.specs.Prelude.{◌≡◌, Bool, true, false, List, [], ◌∷◌, map, ℕ, ℤ, pos, negsuc, length, replicate}
use Rattle.replies.specs.declared.Verdict.{Verdict}
use Rattle.rows.specs.Rows.{front}
use Rattle.grid.specs.Domain.{count}
use Rattle.grid.specs.Cases.{W1, W2, W3, W4, W6, W7, W8, W9, W10, W11, W12}
use Rattle.area.specs.declared.answer.Area.{Area}
use Rattle.area.specs.Answers.{doubled, half}
use Rattle.path.specs.Convex.{convex as convex_verdict}
use Rattle.path.specs.Clockwise.{clockwise as clockwise_verdict}
use Rattle.path.specs.Contains.{contains}
use Rattle.path.specs.declared.Located.{Located}
use Rattle.path.specs.Locate.{located as located_at}
use Rattle.ring.specs.declared.Rule.{Rule}
use Rattle.ring.specs.declared.Rule.TheVariants.{Collinear, Spike}
use Rattle.ring.specs.Walk.{End}
use Rattle.ring.specs.Walk.End.{kept, collapsed}
use Rattle.clean.specs.declared.cleaning.Cleaned.{Cleaned}
use Rattle.clean.specs.Verdicts.{simple as simple_verdict, spike_free}
use Rattle.clean.specs.Outcome.{walked, chosen, answer, lent, outcome}
use Rattle.sets.specs.declared.cleaning.CleanedSet.{CleanedSet}
use Rattle.sets.specs.Outcome.{lent as set_lent, shape_outcome, answer as set_answer}

-- a point that is asked about: whether the contour contains it, and where it lies
pub record Asked : Type 0 where
  pub x : ℤ
  pub y : ℤ
  pub contained : Verdict
  pub located : Located

abbrev pub ask : ℤ → ℤ → Verdict → Located → Asked
ask x y contained located = record { x = x; y = y; contained = contained; located = located }

-- a cleaning: its answer, what stands in its output, which held 9s, and the positions that the walk keeps
pub record Alone : Type 0 where
  pub answer : Cleaned
  pub out : List ℤ
  pub positions : List ℕ

-- the cleaning of a shape of one contour: its answer, and what stands in its output and its record, which held 9s
pub record InASet : Type 0 where
  pub answer : CleanedSet
  pub out : List ℤ
  pub records : List (List ℕ)

-- a contour; what each cleaner makes of it, alone and in a set; the verdicts; the areas; some points
pub record Row : Type 0 where
  pub contour : List ℤ
  pub simplified : Alone
  pub despiked : Alone
  pub simplified_in_a_set : InASet
  pub despiked_in_a_set : InASet
  pub simple : Verdict
  pub no_spikes : Verdict
  pub convex : Verdict
  pub clockwise : Verdict
  pub area_two : Area
  pub area : Area
  pub asked : List Asked

-- scratch for a contour, and output for it, full of 9s
abbrev pub scratch : List ℤ → List ℕ
scratch c = replicate (count c) 9

abbrev pub room : List ℤ → List ℤ
room c = replicate (length c) (pos 9)

-- the positions that a walk keeps
abbrev pub positions : End → List ℕ
positions (kept s) = s
positions collapsed = []

-- what a cleaner's call comes to
abbrev pub cleaned : Rule → List ℤ → Alone
cleaned rule c =
    let o = outcome rule c (lent (scratch c) (scratch c) (scratch c) (room c)) in
    record { answer = o.answer; out = o.rows.out; positions = positions (walked rule c).end }

-- what a shape's call comes to
abbrev pub cleaned_in_a_set : Rule → List ℤ → InASet
cleaned_in_a_set rule c =
    let o = shape_outcome rule c ((0 ∷ count c ∷ []) ∷ []) (set_lent (scratch c) (scratch c) (scratch c) (room c) ((9 ∷ 9 ∷ []) ∷ []) []) in
    record { answer = o.answer; out = o.rows.points; records = o.rows.contours }

-- what the calls' definitions answer of a row's contour and points
abbrev pub answers : Row → Row
answers r = let c = r.contour in record {
  contour = c;
  simplified = cleaned Collinear c;
  despiked = cleaned Spike c;
  simplified_in_a_set = cleaned_in_a_set Collinear c;
  despiked_in_a_set = cleaned_in_a_set Spike c;
  simple = simple_verdict c;
  no_spikes = spike_free c;
  convex = convex_verdict c;
  clockwise = clockwise_verdict c;
  area_two = doubled c;
  area = half c;
  asked = map (λ (q : Asked). ask q.x q.y (contains c q.x q.y) (located_at c q.x q.y)) r.asked;
}

-- a contour that is kept at some positions, after so many decisions in so many turns
abbrev pub keeps : List ℤ → List ℕ → ℕ → ℕ → Alone
keeps c s k v = record { answer = answer 0 (length s) k v; out = front (chosen c s) (room c); positions = s }

-- a contour that collapses: 7, and its output as it was
abbrev pub collapses : List ℤ → ℕ → ℕ → Alone
collapses c k v = record { answer = answer 7 0 k v; out = room c; positions = [] }

-- a contour that stays in its set as these numbers
abbrev pub stays : List ℤ → List ℤ → ℕ → ℕ → InASet
stays c d k v = record { answer = set_answer 0 (count d) 1 1 k v; out = front d (room c); records = (0 ∷ count d ∷ []) ∷ [] }

-- a set whose only contour collapses: 7, and its rows as they were
abbrev pub falls : List ℤ → ℕ → ℕ → InASet
falls c k v = record { answer = set_answer 7 0 0 0 k v; out = room c; records = (9 ∷ 9 ∷ []) ∷ [] }

-- a question that is answered
abbrev pub answered : Bool → Verdict
answered b = record { reply = 0; yes = b }

-- a question that is refused
abbrev pub refused : ℕ → Verdict
refused k = record { reply = k; yes = false }

-- the three places of a point
abbrev pub outside : Located
outside = record { reply = 0; place = 0 }

abbrev pub on_the_boundary : Located
on_the_boundary = record { reply = 0; place = 1 }

abbrev pub inside : Located
inside = record { reply = 0; place = 2 }

-- an area that is answered
abbrev pub an_area : ℤ → Area
an_area z = record { reply = 0; value = z }

-- an area that is refused
abbrev pub refused_area : ℕ → Area
refused_area k = record { reply = k; value = pos 0 }

abbrev pub w1 : Row
w1 = record {
  contour = W1;
  simplified = collapses W1 0 0;
  despiked = collapses W1 0 0;
  simplified_in_a_set = falls W1 0 0;
  despiked_in_a_set = falls W1 0 0;
  simple = answered false;
  no_spikes = answered false;
  convex = answered true;
  clockwise = refused 8;
  area_two = refused_area 8;
  area = refused_area 8;
  asked = ask (pos 0) (pos 0) (answered false) outside ∷ [];
}

abbrev pub w2 : Row
w2 = record {
  contour = W2;
  simplified = collapses W2 1 1;
  despiked = collapses W2 1 1;
  simplified_in_a_set = falls W2 1 1;
  despiked_in_a_set = falls W2 1 1;
  simple = answered false;
  no_spikes = answered false;
  convex = answered false;
  clockwise = answered true;
  area_two = an_area (pos 0);
  area = an_area (pos 0);
  asked = [];
}

abbrev pub w3 : Row
w3 = record {
  contour = W3;
  simplified = keeps W3 (0 ∷ 1 ∷ 2 ∷ []) 3 3;
  despiked = keeps W3 (0 ∷ 1 ∷ 2 ∷ []) 3 3;
  simplified_in_a_set = stays W3 W3 0 0;
  despiked_in_a_set = stays W3 W3 0 0;
  simple = answered true;
  no_spikes = answered true;
  convex = answered true;
  clockwise = answered false;
  area_two = an_area (pos 16);
  area = an_area (pos 8);
  asked = ask (pos 1) (pos 1) (answered true) inside ∷ [];
}

abbrev pub w4 : Row
w4 = record {
  contour = W4;
  simplified = keeps W4 (0 ∷ 2 ∷ 3 ∷ 4 ∷ []) 6 6;
  despiked = keeps W4 (0 ∷ 1 ∷ 2 ∷ 3 ∷ 4 ∷ []) 5 5;
  simplified_in_a_set = stays W4 (pos 0 ∷ pos 0 ∷ pos 4 ∷ pos 0 ∷ pos 4 ∷ pos 4 ∷ pos 0 ∷ pos 4 ∷ []) 6 6;
  despiked_in_a_set = stays W4 W4 0 0;
  simple = answered false;
  no_spikes = answered true;
  convex = answered true;
  clockwise = answered false;
  area_two = an_area (pos 32);
  area = an_area (pos 16);
  asked = [];
}

abbrev pub w6 : Row
w6 = record {
  contour = W6;
  simplified = keeps W6 (0 ∷ 1 ∷ 4 ∷ 5 ∷ []) 9 9;
  despiked = keeps W6 (0 ∷ 1 ∷ 4 ∷ 5 ∷ []) 9 9;
  simplified_in_a_set = stays W6 (pos 0 ∷ pos 0 ∷ pos 4 ∷ pos 0 ∷ pos 4 ∷ pos 4 ∷ pos 0 ∷ pos 4 ∷ []) 9 9;
  despiked_in_a_set = stays W6 (pos 0 ∷ pos 0 ∷ pos 4 ∷ pos 0 ∷ pos 4 ∷ pos 4 ∷ pos 0 ∷ pos 4 ∷ []) 9 9;
  simple = answered false;
  no_spikes = answered false;
  convex = answered false;
  clockwise = answered false;
  area_two = an_area (pos 32);
  area = an_area (pos 16);
  asked = [];
}

abbrev pub w7 : Row
w7 = record {
  contour = W7;
  simplified = keeps W7 (1 ∷ 2 ∷ 3 ∷ []) 4 4;
  despiked = keeps W7 (1 ∷ 2 ∷ 3 ∷ []) 4 4;
  simplified_in_a_set = stays W7 (pos 0 ∷ pos 0 ∷ pos 4 ∷ pos 0 ∷ pos 0 ∷ pos 4 ∷ []) 4 4;
  despiked_in_a_set = stays W7 W7 0 0;
  simple = answered false;
  no_spikes = answered true;
  convex = answered true;
  clockwise = answered false;
  area_two = an_area (pos 16);
  area = an_area (pos 8);
  asked = [];
}

abbrev pub w8 : Row
w8 = record {
  contour = W8;
  simplified = keeps W8 (0 ∷ 1 ∷ 2 ∷ 3 ∷ 4 ∷ []) 5 5;
  despiked = keeps W8 (0 ∷ 1 ∷ 2 ∷ 3 ∷ 4 ∷ []) 5 5;
  simplified_in_a_set = stays W8 W8 0 0;
  despiked_in_a_set = stays W8 W8 0 0;
  simple = answered true;
  no_spikes = answered true;
  convex = answered true;
  clockwise = answered true;
  area_two = an_area (negsuc 303);
  area = an_area (negsuc 151);
  asked = ask (pos 0) (pos 0) (answered false) outside ∷ [];
}

abbrev pub w9 : Row
w9 = record {
  contour = W9;
  simplified = keeps W9 (0 ∷ 1 ∷ 2 ∷ 3 ∷ []) 4 4;
  despiked = keeps W9 (0 ∷ 1 ∷ 2 ∷ 3 ∷ []) 4 4;
  simplified_in_a_set = stays W9 W9 0 0;
  despiked_in_a_set = stays W9 W9 0 0;
  simple = answered true;
  no_spikes = answered true;
  convex = answered true;
  clockwise = answered false;
  area_two = an_area (pos 32);
  area = an_area (pos 16);
  asked = ask (pos 0) (pos 2) (answered true) on_the_boundary ∷ ask (pos 2) (pos 0) (answered true) on_the_boundary
      ∷ ask (pos 4) (pos 2) (answered false) on_the_boundary ∷ ask (pos 2) (pos 4) (answered false) on_the_boundary ∷ [];
}

abbrev pub w10 : Row
w10 = record {
  contour = W10;
  simplified = keeps W10 (0 ∷ 1 ∷ 2 ∷ 3 ∷ []) 4 4;
  despiked = keeps W10 (0 ∷ 1 ∷ 2 ∷ 3 ∷ []) 4 4;
  simplified_in_a_set = stays W10 W10 0 0;
  despiked_in_a_set = stays W10 W10 0 0;
  simple = answered true;
  no_spikes = answered true;
  convex = answered false;
  clockwise = answered true;
  area_two = an_area (pos 0);
  area = an_area (pos 0);
  asked = [];
}

abbrev pub w11 : Row
w11 = record {
  contour = W11;
  simplified = keeps W11 (0 ∷ 1 ∷ 2 ∷ []) 3 3;
  despiked = keeps W11 (0 ∷ 1 ∷ 2 ∷ []) 3 3;
  simplified_in_a_set = stays W11 W11 0 0;
  despiked_in_a_set = stays W11 W11 0 0;
  simple = answered true;
  no_spikes = answered true;
  convex = answered true;
  clockwise = answered true;
  area_two = an_area (negsuc 0);
  area = an_area (pos 0);
  asked = [];
}

abbrev pub w12 : Row
w12 = record {
  contour = W12;
  simplified = collapses W12 1 1;
  despiked = collapses W12 1 1;
  simplified_in_a_set = falls W12 1 1;
  despiked_in_a_set = falls W12 1 1;
  simple = answered false;
  no_spikes = answered false;
  convex = answered true;
  clockwise = answered true;
  area_two = an_area (pos 0);
  area = an_area (pos 0);
  asked = [];
}

-- the table
abbrev pub table : List Row
table = w1 ∷ w2 ∷ w3 ∷ w4 ∷ w6 ∷ w7 ∷ w8 ∷ w9 ∷ w10 ∷ w11 ∷ w12 ∷ []

-- every row is what the definitions of the calls answer
abbrev pub TheTableHolds : Type 0
TheTableHolds = map answers table ≡ table
