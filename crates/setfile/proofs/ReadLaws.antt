-- What is left to read of a file, coordinate by coordinate and contour by contour.
use Rattle.std.proofs.Common.{◌≡◌, ℕ, zero, suc, ◌+◌, ◌-◌, ◌*◌, ◌<◌, ◌≤◌, Bool, true, false, eqb, List, [], ◌∷◌, length, take, drop, sym, refl, ap, ◌∙◌, ap₂, arith, length-drop, drop-drop, ltb-false, ne_eqb, eqb-true, le-leb}
use borrow.Author.Tests.{not-false}
use Rattle.replies.specs.Ladder.{first_of}
use Rattle.replies.proofs.LadderLaws.{clear, first_is}
use Rattle.replies.proofs.LadderLaws.First.{here}
use Rattle.grid.specs.Domain.{count}
use Rattle.bits.specs.Bits.{value, bits}
use Rattle.bits.specs.Signs.{signed, numbers}
use Rattle.bits.proofs.BitLaws.{bits-length, bits_dropped}
use Rattle.bits.proofs.SignLaws.{numbers-length}
use Rattle.setfile.specs.Entries.{Entry, and_then}
use Rattle.setfile.specs.Entries.Parsed.{carries, damaged}
use Rattle.setfile.specs.Layouts.{some_set, contours_in, edition_of, promised, read_in}
use Rattle.setfile.specs.Format.{contour_size, contour_in, contour_damage, edition_1, head_damage, parsed}
use Rattle.setfile.specs.inside.Bytes.{decoded, held, fault, walk, front_entry}
use Rattle.setfile.proofs.LayoutLaws.{contours_on, contours_stop, contours_end, contours_past, Numbered, contours_numbered}
use Rattle.setfile.proofs.ByteLaws.{front_is, behind_it}

pub decoded-length : (k : ℕ) (f : List ℕ) → length (decoded k f) ≡ k
decoded-length k f = numbers-length 32 k (bits f)

-- the next of k coordinates
pub decoded_more : (f : List ℕ) (at k i : ℕ) → i < k
    → decoded (k - i) (drop (at + 4 * i) f) ≡ signed 32 (value (take 32 (bits (drop (at + 4 * i) f)))) ∷ decoded (k - (i + 1)) (drop (at + 4 * (i + 1)) f)
unfolding numbers
decoded_more f at k i h =
    let g : List ℕ = drop (at + 4 * i) f in
    let e : k - i ≡ suc (k - (i + 1)) = omega arith in
    let d : at + 4 * i + 4 ≡ at + 4 * (i + 1) = omega arith in
    ap (λ (n : ℕ). decoded n g) e
    ∙ ap (λ (l : List Bool). signed 32 (value (take 32 (bits g))) ∷ numbers 32 (k - (i + 1)) l)
    (bits_dropped 4 g ∙ ap bits (drop-drop 4 (at + 4 * i) f ∙ ap (λ (n : ℕ). drop n f) d))

pub decoded_none : (k : ℕ) (f : List ℕ) → k ≡ 0 → decoded k f ≡ []
unfolding numbers
decoded_none k f e = rw e

-- how many points came before does not matter in edition 1
anywhere : (k : ℕ) (first : Bool) (m n : ℕ) (l : List Bool) → contours_in edition_1 k first m l ≡ contours_in edition_1 k first n l
unfolding contours_in
anywhere zero first m n l = refl
anywhere (suc k) first m n l = go (contour_damage first l) refl (λ i j. anywhere k false i j (drop (contour_size l) l))
  where
    rest : List Bool
    rest = drop (contour_size l) l

    go : (r : ℕ) → contour_damage first l ≡ r → ((i j : ℕ) → contours_in edition_1 k false i rest ≡ contours_in edition_1 k false j rest) → contours_in edition_1 (suc k) first m l ≡ contours_in edition_1 (suc k) first n l
    go (suc r) e h = contours_stop edition_1 first m l k r e ∙ sym (contours_stop edition_1 first n l k r e)
    go zero e h =
        contours_on edition_1 first m l k e
        ∙ ap (and_then (contour_in l)) (h (m + count (contour_in l).points) (n + count (contour_in l).points))
        ∙ sym (contours_on edition_1 first n l k e)

-- what stands behind the contour in front
pub walk_behind : (k : ℕ) (f : List ℕ) (n : ℕ) → contours_in edition_1 k false n (drop (contour_size (bits f)) (bits f)) ≡ walk k false (drop (2 + 8 * held f) f)
walk_behind k f n = anywhere k false n 0 _ ∙ ap (contours_in edition_1 k false 0) (behind_it f)

-- a contour in front
module _ (k : ℕ) (first : Bool) (f : List ℕ) where
  walk_stops : (r : ℕ) → fault first f ≡ suc r → walk (suc k) first f ≡ damaged (suc r)
  walk_stops r e = contours_stop edition_1 first 0 (bits f) k r e

  walk_on : fault first f ≡ 0 → walk (suc k) first f ≡ and_then (front_entry f) (walk k false (drop (2 + 8 * held f) f))
  walk_on e =
      contours_on edition_1 first 0 (bits f) k e
      ∙ ap₂ and_then (front_is f) (walk_behind k f _)

-- the next of n contours
module _ (f : List ℕ) (n i at : ℕ) (first : Bool) where
  abbrev here_on : List ℕ
  here_on = drop at f

  module _ (h : i < n) where
    one_less : n - i ≡ suc (n - (i + 1))
    one_less = omega arith

    pub walk_faulty : (r : ℕ) → r ≡ fault first here_on → (r ≡ 0 → ⊥) → walk (n - i) first here_on ≡ damaged r
    walk_faulty zero e z = absurd (z refl)
    walk_faulty (suc r) e z = ap (λ (k : ℕ). walk k first here_on) one_less ∙ walk_stops (n - (i + 1)) first here_on r (sym e)

    pub walk_more : fault first here_on ≡ 0 → walk (n - i) first here_on ≡ and_then (front_entry here_on) (walk (n - (i + 1)) (eqb (i + 1) 0) (drop (at + (2 + 8 * held here_on)) f))
    walk_more e =
        ap (λ (k : ℕ). walk k first here_on) one_less ∙ walk_on (n - (i + 1)) first here_on e
        ∙ ap₂ (λ (b : Bool) (g : List ℕ). and_then (front_entry here_on) (walk (n - (i + 1)) b g)) (sym (ne_eqb (i + 1) 0 (λ z. omega arith))) (drop-drop (2 + 8 * held here_on) at f)

  pub contour_within : at ≤ length f → fault first here_on ≡ 0 → at + (2 + 8 * held here_on) ≤ length f
  contour_within h e =
      let c = clear _ tt e in
      let a = ltb-false (length (bits here_on)) 16 c.0 in
      let b = ltb-false (length (bits here_on)) (contour_size (bits here_on)) c.1.1.0 in
      omega (arith, bits-length here_on, length-drop at f)

-- no contours are left
pub walk_ends : (k : ℕ) (first : Bool) (f : List ℕ) → k ≡ 0 → walk k first f ≡ walk 0 false f
unfolding contours_in
walk_ends k first f e = rw e

pub walk_all : (f : List ℕ) → length f ≡ 0 → walk 0 false f ≡ carries []
unfolding bits some_set first_of
walk_all [] e = contours_end edition_1 false 0 [] refl
walk_all (b ∷ f) e = absurd (omega arith)

pub walk_left : (f : List ℕ) → 0 < length f → walk 0 false f ≡ damaged 10
walk_left f h = contours_past edition_1 false 0 (bits f) 9 (sym (first_is _ 10 (here (le-leb 8 (length (bits f)) (omega (arith, bits-length f))))))

-- a file, by what is wrong with its head
module _ (f : List ℕ) where
  pub parsed_faulty : (r : ℕ) → r ≡ head_damage f → (r ≡ 0 → ⊥) → parsed f ≡ damaged r
  unfolding parsed
  parsed_faulty zero e z = absurd (z refl)
  parsed_faulty (suc r) e z = rw (sym e, parsed)

  parsed_on : 0 ≡ head_damage f → parsed f ≡ read_in edition_1 f
  unfolding parsed
  parsed_on e = rw (sym e, parsed)

  pub parsed_behind : 0 ≡ head_damage f → parsed f ≡ walk (promised f) true (drop 2 f)
  parsed_behind e = parsed_on e ∙ ap (contours_in edition_1 (promised f) true 0) (bits_dropped 2 f)

  pub parsed_numbered : Numbered (parsed f)
  unfolding parsed
  parsed_numbered = go (head_damage f)
    where
      go : (r : ℕ) → Numbered (elim r [ suc r ↦ damaged (suc r) | zero ↦ read_in edition_1 f ])
      go zero = contours_numbered edition_1 (promised f) true 0 (drop 16 (bits f))
      go (suc r) = tt

-- a file whose contours are read has a right head
pub record Right (f : List ℕ) (l : List Entry) : Type 0 where
  pub head : head_damage f ≡ 0
  pub long : 2 ≤ length f
  pub edition : edition_of f ≡ 1
  pub reads : read_in edition_1 f ≡ carries l

pub parsed_right : (f : List ℕ) (l : List Entry) → parsed f ≡ carries l → Right f l
parsed_right f l h = go (head_damage f) refl
  where
    go : (r : ℕ) → r ≡ head_damage f → Right f l
    go zero e =
        let c = clear _ tt (sym e) in
        record {
          head = sym e;
          long = ltb-false (length f) 2 c.0;
          edition = eqb-true (edition_of f) 1 (not-false _ c.1.0);
          reads = sym (parsed_on f e) ∙ h;
        }
    go (suc r) e = let d = parsed_faulty f (suc r) e (λ z. omega arith) in let o : ◌≡◌ {A = ℕ} 0 1 = cc in absurd (omega arith)
