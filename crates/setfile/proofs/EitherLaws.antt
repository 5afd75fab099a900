-- A file of either edition, by what is wrong with its head.
use Rattle.std.proofs.Common.{◌≡◌, ℕ, zero, suc, ◌*◌, ◌/◌, Bool, true, false, not, ◌&&◌, eqb, ltb, List, [], ◌∷◌, length, sym, refl, ap, ◌∙◌, arith, length-append}
use mathlib.Core.Bool.{and-true}
use Rattle.replies.specs.Ladder.{first_of}
use Rattle.buffer.specs.Sets.{joined}
use Rattle.setfile.specs.Entries.{Entry, contours_of}
use Rattle.setfile.specs.Entries.Parsed.{carries, damaged}
use Rattle.setfile.specs.Layouts.{contours_in, edition_of, promised, read_in}
use Rattle.setfile.specs.Format as Format
use Rattle.setfile.specs.Editions.{layout, is_second, head_damage, parsed}
use Rattle.setfile.specs.inside.Reading.{from_bit, front_points}
use Rattle.setfile.proofs.LayoutLaws.{next_read, none_read, Numbered, contours_numbered}
use Rattle.setfile.proofs.ReadLaws.{parsed_right}
use Rattle.setfile.proofs.ContourLaws.{front_length}

module _ (f : List ℕ) where
  pub parsed_faulty : (r : ℕ) → r ≡ head_damage f → (r ≡ 0 → ⊥) → parsed f ≡ damaged r
  unfolding parsed
  parsed_faulty zero e z = absurd (z refl)
  parsed_faulty (suc r) e z = rw (sym e, parsed)

  parsed_behind : 0 ≡ head_damage f → parsed f ≡ read_in (layout (is_second f)) f
  unfolding parsed
  parsed_behind e = rw (sym e, parsed)

  pub parsed_numbered : Numbered (parsed f)
  unfolding parsed
  parsed_numbered = go (head_damage f)
    where
      go : (r : ℕ) → Numbered (elim r [ suc r ↦ damaged (suc r) | zero ↦ read_in (layout (is_second f)) f ])
      go zero = contours_numbered (layout (is_second f)) (promised f) true 0 (from_bit f 16)
      go (suc r) = tt

pub parsed_on : (s : Bool) (f : List ℕ) → s ≡ is_second f → 0 ≡ head_damage f → parsed f ≡ contours_in (layout s) (promised f) true 0 (from_bit f 16)
parsed_on s f e h = parsed_behind f h ∙ ap (λ (b : Bool). read_in (layout b) f) (sym e)

-- what is read has two numbers for each point
contours_even : (s : Bool) (k : ℕ) (first : Bool) (n : ℕ) (b : List Bool) (l : List Entry) → contours_in (layout s) k first n b ≡ carries l → length (joined (contours_of l)) ≡ 2 * (length (joined (contours_of l)) / 2)
unfolding joined
contours_even s zero first n b l h = rw (none_read (layout s) first n b l h).1
contours_even s (suc k) first n b l h =
    let x = next_read (layout s) first n b l k h in
    let e = contours_even s k false _ _ x.others x.there in
    rw x.is (omega (arith, length-append (front_points s b) (joined (contours_of x.others)), front_length s b, e))

pub read_even : (f : List ℕ) (l : List Entry) → parsed f ≡ carries l → length (joined (contours_of l)) ≡ 2 * (length (joined (contours_of l)) / 2)
read_even f l h = go (head_damage f) refl
  where
    go : (r : ℕ) → r ≡ head_damage f → length (joined (contours_of l)) ≡ 2 * (length (joined (contours_of l)) / 2)
    go zero e = contours_even (is_second f) (promised f) true 0 (from_bit f 16) l (sym (parsed_behind f e) ∙ h)
    go (suc r) e = let d = parsed_faulty f (suc r) e (λ z. omega arith) in let o : ◌≡◌ {A = ℕ} 0 1 = cc in absurd (omega arith)

-- a file that is not of edition 2 is read as one of edition 1
pub first_parsed : (f : List ℕ) → is_second f ≡ false → parsed f ≡ Format.parsed f
unfolding Format.parsed
first_parsed f e = go (head_damage f) refl
  where
    same : head_damage f ≡ Format.head_damage f
    same =
        ap (λ (b : Bool). first_of ((ltb (length f) 2, 10) ∷ (not (eqb (edition_of f) 1) && not b, 9) ∷ [])) e
        ∙ ap (λ (b : Bool). first_of ((ltb (length f) 2, 10) ∷ (b, 9) ∷ [])) (and-true (not (eqb (edition_of f) 1)))

    go : (r : ℕ) → r ≡ head_damage f → parsed f ≡ Format.parsed f
    go zero h = parsed_behind f h ∙ ap (λ (b : Bool). read_in (layout b) f) e ∙ sym (rw (sym (h ∙ same), Format.parsed))
    go (suc r) h = parsed_faulty f (suc r) h (λ z. omega arith) ∙ sym (rw (sym (h ∙ same), Format.parsed))

pub first_taken : (f : List ℕ) (l : List Entry) → Format.parsed f ≡ carries l → is_second f ≡ false
first_taken f l e = ap (λ (v : ℕ). eqb v 2) (parsed_right f l e).edition
