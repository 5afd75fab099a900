-- Where the refusals of a set stop, as the writers ask for them.
use Rattle.std.proofs.Common.{◌≡◌, ℕ, ◌%◌, ◌<◌, ◌≤◌, Bool, true, false, ◌&&◌, ◌||◌, eqb, ltb, List, ◌++◌, length, ℤ, sym, refl, ◌∙◌, arith, le-ltb, lt-ltb, eq-eqb, ne_eqb}
use Rattle.grid.specs.Limits.{narrow, most}
use Rattle.replies.specs.Ladder.{Rung, first_of}
use Rattle.grid.specs.Domain.{count, off}
use Rattle.replies.proofs.LadderLaws.{First, first_is, stopped, onward, found}
use Rattle.replies.proofs.LadderLaws.First.{here, past, foot}
use Rattle.buffer.specs.Spans.{spans, sound}
use Rattle.buffer.specs.Refusals.{unsound, set}
use Rattle.buffer.proofs.RowLaws.{spans-length}
use Rattle.setfile.specs.Format.{file_length}
use Rattle.setfile.specs.Reading.{most_bytes}
use Rattle.setfile.specs.Writing.{most_contours, most_points, some_over, some_empty, uncarried, refusals}
use Rattle.setfile.specs.inside.Writing.{bounded_refusals}

-- what is refused within a bound, but for the file's length: what is asked of every set, and then 12
module _ (bound : ℕ) (p : List ℤ) (cs ss : List (List ℕ)) where
  abbrev asked : List Rung
  asked = set bound p (sound (spans cs) (count p) && sound (spans ss) (length cs))

  module _ (r : ℕ) (e : r ≡ first_of asked) where
    pub refused_set : (r ≡ 0 → ⊥) → r ≡ first_of (bounded_refusals bound p cs ss)
    refused_set z = first_is _ r (stopped asked (uncarried (spans cs) (spans ss)) r e z)

    module _ (z : r ≡ 0) (over empty : Bool) (f : over ≡ some_over most_points (spans cs)) (g : empty ≡ some_empty (spans ss)) where
      last : (k : ℕ) → First (uncarried (spans cs) (spans ss)) k → k ≡ first_of (bounded_refusals bound p cs ss)
      last k h = first_is _ k (onward asked (uncarried (spans cs) (spans ss)) k tt (sym e ∙ z) h)

      carry_is : (ltb most_contours (length (spans cs)) || some_over most_points (spans cs) || some_empty (spans ss)) ≡ (ltb most_contours (length cs) || over || empty)
      carry_is = rw (← f, ← g, spans-length cs)

      pub refused_carry : (ltb most_contours (length cs) || over || empty) ≡ true → 12 ≡ first_of (bounded_refusals bound p cs ss)
      refused_carry h = last 12 (here (carry_is ∙ h))

      pub refused_none : (ltb most_contours (length cs) || over || empty) ≡ false → 0 ≡ first_of (bounded_refusals bound p cs ss)
      refused_none h = last 0 (past (carry_is ∙ h) foot)

module _ (p : List ℤ) (cs ss : List (List ℕ)) where
  pub refused_odd : length p % 2 ≡ 1 → 1 ≡ first_of (refusals p cs ss)
  refused_odd h = first_is _ _ (here (eq-eqb _ _ h))

  module _ (n : length p % 2 ≡ 1 → ⊥) where
    not_odd : eqb (length p % 2) 1 ≡ false
    not_odd = ne_eqb (length p % 2) 1 n

    pub refused_long : (m : ℕ) → m ≡ file_length (length cs) (count p) → most_bytes < m → 2 ≡ first_of (refusals p cs ss)
    refused_long m g h = go (ltb most (count p)) refl
      where
        go : (b : Bool) → ltb most (count p) ≡ b → 2 ≡ first_of (refusals p cs ss)
        go true e = first_is _ _ (past not_odd (here e))
        go false e = first_is _ _ (past not_odd (past e (here (lt-ltb most_bytes (file_length (length cs) (count p)) (omega (arith, g))))))

    module _ (m : ℕ) (g : m ≡ file_length (length cs) (count p)) (s : m ≤ most_bytes) where
      few : ltb most (count p) ≡ false
      unfolding most
      few = le-ltb most (count p) (omega (arith, g))

      -- behind its size, and in edition 1 behind its file's length, the same is asked
      abbrev rest : List Rung
      rest = (unsound (sound (spans cs) (count p) && sound (spans ss) (length cs)) ++ off narrow p) ++ uncarried (spans cs) (spans ss)

      pub refused_rest : (r : ℕ) → r ≡ first_of (bounded_refusals narrow p cs ss) → r ≡ first_of (refusals p cs ss)
      refused_rest r e =
          let f : First rest (first_of rest) = found rest (first_of rest) refl in
          e ∙ sym (first_is (bounded_refusals narrow p cs ss) (first_of rest) (past not_odd (past few f)))
          ∙ first_is (refusals p cs ss) (first_of rest) (past not_odd (past few (past (le-ltb most_bytes (file_length (length cs) (count p)) (omega (arith, g))) f)))
