-- The rest of a file that can be read, contour by contour.
use Rattle.std.proofs.Common.{◌≡◌, ℕ, suc, ◌+◌, ◌-◌, ◌<◌, ◌≤◌, Bool, true, eqb, List, [], ◌∷◌, sym, refl, ap, ◌∙◌, ap₂, arith, drop-drop, eq-eqb, ne_eqb}
use Rattle.integers.proofs.Logic.{and_left, and_right}
use Rattle.grid.specs.Limits.{all_on_grid}
use Rattle.grid.proofs.LimitLaws.{on_joined}
use Rattle.grid.specs.Domain.{count}
use Rattle.bits.specs.Bits.{bits}
use Rattle.buffer.specs.Sets.{joined}
use Rattle.setfile.specs.Entries.{Entry, contours_of}
use Rattle.setfile.specs.Entries.Parsed.{carries}
use Rattle.setfile.specs.Layouts.{contours_in}
use Rattle.setfile.specs.Format.{begins, points_in}
use Rattle.setfile.specs.Editions.{layout, bound}
use Rattle.setfile.specs.inside.Reading.{contained, from_bit, At, front_points, Whole, Readable}
use Rattle.setfile.proofs.LayoutLaws.{next_read, none_read}
use Rattle.setfile.proofs.ContourLaws.{right, whole, behind}

-- from bit at on, behind i of n contours, these are the rest
pub record Rest (s : Bool) (f : List ℕ) (n i at : ℕ) (l : List Entry) : Type 0 where
  pub here : At s f at
  pub before : ℕ
  pub reads : contours_in (layout s) (n - i) (eqb i 0) before (from_bit f at) ≡ carries l
  pub on : all_on_grid (bound s) (joined (contours_of l)) ≡ true

-- one contour, and the rest behind it
pub record Next (s : Bool) (f : List ℕ) (n i at : ℕ) (l : List Entry) : Type 0 where
  pub rest : List Entry
  pub is : l ≡ (layout s).read (from_bit f at) ∷ rest
  pub all_there : Whole s f at
  pub due : Rest s f n (i + 1) (at + (layout s).size (from_bit f at)) rest
  pub begun : i ≡ 0 → begins (from_bit f at) ≡ true
  pub on : all_on_grid (bound s) (front_points s (from_bit f at)) ≡ true
  pub counted : points_in (from_bit f at) ≤ (layout s).size (from_bit f at)

module _ {s : Bool} {f : List ℕ} {n i at : ℕ} {l : List Entry} (r : Rest s f n i at l) where
  pub next : i < n → Next s f n i at l
  unfolding joined
  next h =
      let b : List Bool = from_bit f at in
      let e : suc (n - (i + 1)) ≡ n - i = omega arith in
      let x = next_read (layout s) (eqb i 0) r.before b l (n - (i + 1)) (ap (λ (k : ℕ). contours_in (layout s) k (eqb i 0) r.before b) e ∙ r.reads) in
      let w = whole r.here (eqb i 0) r.before x.right in
      let later : List Entry = x.others in
      let o = sym (on_joined (bound s) (front_points s b) (joined (contours_of later))) ∙ ap (λ (m : List Entry). all_on_grid (bound s) (joined (contours_of m))) (sym x.is) ∙ r.on in
      record {
        rest = later;
        is = x.is;
        all_there = w;
        due = record {
          here = behind w;
          before = r.before + count ((layout s).read b).points;
          reads =
              ap₂ (λ (t : Bool) (m : List Bool). contours_in (layout s) (n - (i + 1)) t (r.before + count ((layout s).read b).points) m) (ne_eqb (i + 1) 0 (λ z. omega arith)) (sym (drop-drop ((layout s).size b) at (bits f)))
              ∙ x.there;
          on = and_right (all_on_grid (bound s) (front_points s b)) _ o;
        };
        begun = λ z. (right s (eqb i 0) r.before b x.right).begun (eq-eqb i 0 z);
        on = and_left (all_on_grid (bound s) (front_points s b)) _ o;
        counted = (right s (eqb i 0) r.before b x.right).counted;
      }

  pub done : i ≡ n → l ≡ []
  done e =
      let z : n - i ≡ 0 = omega arith in
      (none_read (layout s) (eqb i 0) r.before (from_bit f at) l (ap (λ (k : ℕ). contours_in (layout s) k (eqb i 0) r.before (from_bit f at)) (sym z) ∙ r.reads)).1

pub rest_all : {s : Bool} {f : List ℕ} {n : ℕ} → Readable s f n → Rest s f n 0 16 (contained f)
rest_all {s} {f} {n} r =
    let e : n - 0 ≡ n = omega arith in
    record {
      here = record { short = r.short; within = omega (arith, r.head); whole = λ z. refl };
      before = 0;
      reads = ap (λ (k : ℕ). contours_in (layout s) k true 0 (from_bit f 16)) e ∙ r.reads;
      on = r.on;
    }

pub first_whole : {s : Bool} {f : List ℕ} {n : ℕ} → Readable s f n → 0 < n → Whole s f 16
first_whole r h = (next (rest_all r) h).all_there
