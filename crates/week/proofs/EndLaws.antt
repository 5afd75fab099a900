-- Where the first of the files in a row ends.
use mathlib.Core.Path.{◌≡◌, refl, sym, ◌∙◌, ap}
use mathlib.Core.Bool.{Bool, true, false, ◌&&◌}
use mathlib.Core.List.{List}
use Prim.Native.Nat.{ℕ, zero, suc, ◌+◌, ◌-◌, ◌*◌, ◌/◌, ◌<◌, ◌≤◌}
use native.Mathlib.Omega.{arith}
use lib.Dec.{leb}
use lib.ListN.{length, drop, length-drop}
use lib.Seq.{drop-drop}
use borrow.Author.Tests.{le-leb, lt-leb, leb-true}
use Rattle.bits.specs.Bits.{bits}
use Rattle.replies.specs.Ladder.{first_of}
use Rattle.setfile.specs.Editions.{layout}
use Rattle.setfile.specs.declared.inner.headers.Header.{Header}
use Rattle.setfile.specs.inside.Reading.{from_bit, At, header_size, size_of}
use Rattle.setfile.proofs.ContourLaws.{from-length}
use Rattle.std.specs.Int.{div_ceil}
use Rattle.std.specs.Prelude.{Some, None}
use Rattle.std.proofs.lemmas.Option.{none-some, same_Some}
use Rattle.week.specs.Files.{if_any, is_there, or_none, bits_of_next, unless_none, bit_behind, bytes_by, whole_bytes, head_refusals, own_length}

-- none, or some number, where 0 stands for none
pub none_is : (n : ℕ) → 0 ≡ n → None ≡ if_any n
none_is n e = ap if_any e

pub some_is : (r n : ℕ) → r ≡ n → (r ≡ 0 → ⊥) → Some r ≡ if_any n
some_is zero n e z = absurd (z refl)
some_is (suc k) n e z = ap if_any e

pub none_back : (n : ℕ) → None ≡ if_any n → n ≡ 0
none_back zero e = refl
none_back (suc k) e = absurd (none-some (suc k) e)

pub some_back : (r n : ℕ) → Some r ≡ if_any n → (r ≡ n) × (r ≡ 0 → ⊥)
some_back r zero e = absurd (none-some r (sym e))
some_back r (suc k) e = let f = same_Some r (suc k) e in (f, λ z. omega arith)

-- no contour is of no bits
pub some_bits : (s : Bool) (h : Header) → size_of s h ≡ 0 → ⊥
some_bits true h e = omega arith
some_bits false h e = omega arith

-- the bytes that so many bits fill
pub filled_bytes : (n : ℕ) → div_ceil n 8 ≡ whole_bytes n
filled_bytes n = omega arith

-- the contour in front
module _ (s : Bool) (l : List Bool) where
  pub no_header : length l < header_size s → 0 ≡ bits_of_next s l
  no_header h = rw (lt-leb (header_size s) (length l) h)

  module _ (h : header_size s ≤ length l) where
    pub not_all : length l < (layout s).size l → 0 ≡ bits_of_next s l
    not_all g = rw (le-leb (header_size s) (length l) h, lt-leb ((layout s).size l) (length l) g)

    pub all_there : (layout s).size l ≤ length l → (layout s).size l ≡ bits_of_next s l
    all_there g = rw (le-leb (header_size s) (length l) h, le-leb ((layout s).size l) (length l) g)

  -- one that is there ends within them
  pub next_within : bits_of_next s l ≤ length l
  next_within = go (leb (header_size s) (length l)) (leb ((layout s).size l) (length l)) refl
    where
      go : (a b : Bool) → leb ((layout s).size l) (length l) ≡ b → or_none (a && b) ((layout s).size l) ≤ length l
      go true true e = leb-true ((layout s).size l) (length l) e
      go true false e = omega arith
      go false b e = omega arith

-- in edition 1 whole bytes
first_whole : (l : List Bool) → 8 * (bits_of_next false l / 8) ≡ bits_of_next false l
first_whole l = go (is_there false l)
  where
    go : (b : Bool) → 8 * (or_none b ((layout false).size l) / 8) ≡ or_none b ((layout false).size l)
    go true = omega arith
    go false = refl

-- behind a contour of a file
pub behind_next : (s : Bool) (f : List ℕ) (at : ℕ) → At s f at → (r : ℕ) → r ≡ bits_of_next s (from_bit f at) → At s f (at + r)
behind_next s f at a r e = record {
  short = a.short;
  within = omega (arith, e, next_within s (from_bit f at), from-length f at a.within);
  whole = go s a.whole e;
}
  where
    go : (s : Bool) → (s ≡ false → 8 * (at / 8) ≡ at) → r ≡ bits_of_next s (from_bit f at) → s ≡ false → 8 * ((at + r) / 8) ≡ at + r
    go true h e g = let o : ◌≡◌ {A = ℕ} 0 1 = cc in absurd (omega arith)
    go false h e g = omega (arith, h refl, e, first_whole (from_bit f at))

-- k contours and one more
module _ (s : Bool) (f : List ℕ) (n i at : ℕ) (h : i < n) (r : ℕ) (e : r ≡ bits_of_next s (from_bit f at)) where
  one_less : n - i ≡ suc (n - (i + 1))
  one_less = omega arith

  pub none_behind : r ≡ 0 → 0 ≡ bit_behind s (n - i) at (from_bit f at)
  unfolding bit_behind
  none_behind z = rw (one_less, ← e, z)

  unless : (r m : ℕ) → (r ≡ 0 → ⊥) → unless_none r m ≡ m
  unless zero m z = absurd (z refl)
  unless (suc r) m z = refl

  stepped : (r ≡ 0 → ⊥) → bit_behind s (n - i) at (from_bit f at) ≡ bit_behind s (n - (i + 1)) (at + r) (drop r (from_bit f at))
  unfolding bit_behind
  stepped z = rw (one_less, ← e) (unless r _ z)

  pub more_behind : (r ≡ 0 → ⊥) → bit_behind s (n - i) at (from_bit f at) ≡ bit_behind s (n - (i + 1)) (at + r) (from_bit f (at + r))
  more_behind z = stepped z ∙ ap (bit_behind s (n - (i + 1)) (at + r)) (drop-drop r at (bits f))

pub nothing_more : (s : Bool) (k at : ℕ) (l : List Bool) → k ≡ 0 → at ≡ bit_behind s k at l
unfolding bit_behind
nothing_more s k at l e = rw e

-- it ends within the bits
within_step : (s : Bool) (at : ℕ) (l : List Bool) (r m : ℕ) → r ≡ bits_of_next s l → m ≤ at + r + length (drop r l) → unless_none r m ≤ at + length l
within_step s at l zero m e h = omega arith
within_step s at l (suc r) m e h = omega (arith, length-drop (suc r) l, e, next_within s l)

pub ends_within : (s : Bool) (k at : ℕ) (l : List Bool) → bit_behind s k at l ≤ at + length l
unfolding bit_behind
ends_within s zero at l = omega arith
ends_within s (suc k) at l =
    let r : ℕ = bits_of_next s l in
    within_step s at l r (bit_behind s k (at + r) (drop r l)) refl (ends_within s k (at + r) (drop r l))

module _ (f : List ℕ) (r : ℕ) (e : r ≡ first_of (head_refusals f)) where
  pub not_told : (r ≡ 0 → ⊥) → 0 ≡ own_length f
  unfolding own_length
  not_told z = rw (← e) (go r z)
    where
      go : (r : ℕ) → (r ≡ 0 → ⊥) → 0 ≡ bytes_by r f
      go zero z = absurd (z refl)
      go (suc r) z = refl

  pub told : r ≡ 0 → bytes_by 0 f ≡ own_length f
  unfolding own_length
  told z = rw (← e, z)
