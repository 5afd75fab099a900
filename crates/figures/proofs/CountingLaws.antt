-- A loop that counts contour after contour.
use mathlib.Core.Path.{◌≡◌, refl, sym, ◌∙◌, ap, ap₂}
use mathlib.Core.List.{List, [], ◌∷◌, ◌++◌, map}
use Prim.Native.Nat.{ℕ, ◌+◌, ◌<◌, ◌≤◌}
use native.Mathlib.Omega.{arith}
use native.Mathlib.Numerals.{add-one}
use lib.ListN.{length, get_or, take, length-map, get_or-map}
use lib.Seq.{take-suc, take_all, length-take-le}
use lib.IntN.{ℤ}
use Rattle.ring.specs.declared.Rule.{Rule}
use Rattle.clean.specs.Outcome.{walked}
use Rattle.buffer.specs.Spans.{span, spans}
use Rattle.buffer.specs.Sets.{contour, contours}
use Rattle.buffer.proofs.PartLaws.{contours_at, part_long}
use Rattle.sets.specs.inside.Contour.{Cleanable}
use Rattle.sets.specs.inside.Shape.{Named}
use Rattle.sets.specs.Promises as S
use Rattle.sets.proofs.BehindLaws.{named_contour, all_named}
use Rattle.figures.specs.declared.answer.Figures.{Figures}
use Rattle.figures.specs.Entries.{Entry, contour_entry}
use Rattle.figures.specs.Batch.{figures_of}
use Rattle.figures.specs.Joining.{sum}
use Rattle.figures.specs.Adding.{written, outputs}
use Rattle.figures.specs.Promises.{Contours}
use Rattle.figures.specs.inside.Adding.{Joinable, Counts, Countable, CountsAll}
use Rattle.figures.proofs.BatchLaws.{counted_is, figures-append}
use Rattle.figures.proofs.LimitLaws.{AllSmall, all_numbered, small-take, small_contour, small_contours, figures_possible}
use Rattle.figures.proofs.LimitLaws.AllSmall.{nothing, and}

outputs-append : (rule : Rule) (a b : List (List ℤ)) (out : List ℤ) → outputs rule (a ++ b) out ≡ outputs rule b (outputs rule a out)
unfolding outputs
outputs-append rule [] b out = refl
outputs-append rule (c ∷ a) b out = outputs-append rule a b (written c (walked rule c).end out)

-- the contours that sound ranges name are of the domain
each_contour : (p : List ℤ) (l : List (List ℕ)) → S.Contours (contours p (spans l)) → Contours (contours p (spans l))
each_contour p [] h = tt
each_contour p (r ∷ l) h = (h.0, each_contour p l h.1)

pub all_contours : (p : List ℤ) (ranges : List (List ℕ)) → Named p ranges → Contours (contours p (spans ranges))
all_contours p ranges n = each_contour p ranges (all_named p ranges n)

module _ (rule : Rule) (p : List ℤ) (ranges : List (List ℕ)) (out₀ : List ℤ) where
  abbrev cs : List (List ℤ)
  cs = contours p (spans ranges)

  abbrev es : List Entry
  es = map (contour_entry rule) cs

  contours_many : length cs ≡ length ranges
  contours_many = length-map (spans ranges) (contour p) ∙ length-map ranges span

  -- there is an entry for each range
  pub entries_many : length es ≡ length ranges
  entries_many = length-map cs (contour_entry rule) ∙ contours_many

  -- the first i contours are counted
  pub record Counting (g : Figures) (out : List ℤ) (i : ℕ) : Type 0 where
    within : i ≤ length ranges
    is : g ≡ figures_of (take i es)
    output : out ≡ outputs rule (take i cs) out₀

  pub counting_none : (g : Figures) → g ≡ figures_of [] → Counting g out₀ 0
  unfolding outputs
  counting_none g e = record { within = omega arith; is = e; output = refl }

  module _ {next prev mark : List ℕ} (k : Countable p ranges next prev mark out₀) where
    -- the entries of all contours
    pub all_small : AllSmall es
    all_small = small_contours rule cs (all_contours p ranges k.named)

    module _ {g : Figures} {out : List ℤ} {i : ℕ} (v : Counting g out i) where
      module _ (h : i < length ranges) where
        abbrev c : List ℤ
        c = contour p (span (get_or ranges i []))

        contour_more : take (i + 1) cs ≡ take i cs ++ c ∷ []
        contour_more = ap (λ (n : ℕ). take n cs) (add-one i) ∙ take-suc cs i [] (omega (arith, contours_many)) ∙ ap (λ (x : List ℤ). take i cs ++ x ∷ []) (contours_at p ranges i h)

        entry_more : take (i + 1) es ≡ take i es ++ contour_entry rule c ∷ []
        entry_more =
            ap (λ (n : ℕ). take n es) (add-one i) ∙ take-suc es i (contour_entry rule []) (omega (arith, entries_many))
            ∙ ap (λ (x : Entry). take i es ++ x ∷ []) (get_or-map (contour_entry rule) cs i [] ∙ ap (contour_entry rule) (contours_at p ranges i h))

        short : length c ≤ length p
        short = let n = k.named.names i h in omega (arith, part_long p ranges i k.named.domain n, n.fits)

        one_small : AllSmall (contour_entry rule c ∷ [])
        one_small = and (small_contour rule (named_contour p ranges k.named i h)) nothing

        pub counting_cleanable : (next' prev' mark' : List ℕ) → length next' ≡ length next → length prev' ≡ length prev → length mark' ≡ length mark → length out ≡ length out₀
            → Cleanable c next' prev' mark' out
        counting_cleanable next' prev' mark' a b d e =
            let own = named_contour p ranges k.named i h in
            let all = k.named.domain.even in
            record {
              contour = own;
              scratch = record {
                in_next = omega (arith, short, k.scratch.in_next, own.even, all);
                in_prev = omega (arith, short, k.scratch.in_prev, own.even, all);
                in_mark = omega (arith, short, k.scratch.in_mark, own.even, all);
              };
              room = omega (arith, short, k.room);
            }

        module _ (more : Figures) (own exit : List ℤ) (same : own ≡ c) (came : Counts rule own out more exit) where
          o : Counts rule c out more exit
          o = rw same at came

          pub counting_joinable : Joinable g more
          counting_joinable =
              let n : length (take i es) ≡ i = length-take-le i es (omega (arith, entries_many)) in
              rw (v.is, o.figures_are)
              (record {
                few = omega (arith, counted_is (all_numbered (small-take i all_small)), counted_is (all_numbered one_small), k.few);
                first = figures_possible (small-take i all_small) (omega (arith, k.few));
                second = figures_possible one_small (omega arith);
              })

          pub counting_more : (g' : Figures) → g' ≡ sum g more → Counting g' exit (i + 1)
          unfolding outputs
          counting_more g' e = record {
            within = omega arith;
            is = e ∙ ap₂ sum v.is o.figures_are ∙ figures-append (take i es) (contour_entry rule c ∷ []) ∙ ap figures_of (sym entry_more);
            output =
                o.output ∙ ap (written c (walked rule c).end) v.output
                ∙ sym (ap (λ (l : List (List ℤ)). outputs rule l out₀) contour_more ∙ outputs-append rule (take i cs) (c ∷ []) out₀);
          }

      pub counting_all : length ranges ≤ i → CountsAll rule p ranges out₀ g out
      counting_all h = record {
        figures_are = v.is ∙ ap figures_of (take_all i es (omega (arith, entries_many)));
        output = v.output ∙ ap (λ (l : List (List ℤ)). outputs rule l out₀) (take_all i cs (omega (arith, contours_many)));
      }
