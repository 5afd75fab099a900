-- Words that are put into a text one behind the other.
use mathlib.Core.Path.{◌≡◌, refl, sym, ◌∙◌, ap}
use mathlib.Core.List.{List, [], ◌∷◌, ◌++◌, append_assoc, append-nil}
use Prim.Native.Nat.{ℕ, ◌+◌, ◌≤◌}
use native.Mathlib.Omega.{arith}
use lib.ListN.{length, drop, length-append}
use Rattle.rows.specs.Rows.{front, placed}
use Rattle.buffer.specs.Sets.{joined}
use Rattle.rows.proofs.RowLaws.{placed_front}
use Rattle.rows.proofs.PlacedLaws.{placed_none, placed_long, placed_behind}
use Rattle.report.specs.inside.Lines.{Put}

-- of what is put from position at on these words are left, from position e on
pub record Going (at : ℕ) (whole text : List ℕ) (e : ℕ) (t : List ℕ) (words : List (List ℕ)) : Type 0 where
  pub room : at + length whole ≤ length text
  pub long : length t ≡ length text
  pub end : e + length (joined words) ≡ at + length whole
  pub is : placed e (joined words) t ≡ placed at whole text

pub going_none : (at : ℕ) {whole : List ℕ} (text : List ℕ) (words : List (List ℕ)) → whole ≡ joined words → at + length whole ≤ length text → Going at whole text at text words
going_none at text words e h = record { room = h; long = refl; end = rw e; is = rw e }

module _ {at : ℕ} {whole text : List ℕ} {e : ℕ} {t b : List ℕ} {words : List (List ℕ)} (g : Going at whole text e t (b ∷ words)) where
  pub going_room : e + length b ≤ length t
  unfolding joined
  going_room = omega (arith, g.room, g.long, g.end, length-append b (joined words))

  pub going_more : {r : ℕ} {exit : List ℕ} → Put e b t r exit → Going at whole text r exit words
  unfolding joined
  going_more {r} p = record {
    room = g.room;
    long = ap length p.is ∙ placed_long t e b going_room ∙ g.long;
    end = omega (arith, g.end, p.behind, length-append b (joined words));
    is = ap (placed r (joined words)) p.is ∙ placed_behind t e b (joined words) r going_room p.behind ∙ g.is;
  }

-- nothing is left
pub going_all : {at : ℕ} {whole text : List ℕ} {e : ℕ} {t : List ℕ} → Going at whole text e t [] → Put at whole text e t
unfolding joined
going_all {at} {whole} {text} {e} {t} g = record { behind = omega (arith, g.end); is = sym (placed_none t e) ∙ g.is }

-- the same, in other words
pub going_same : {at : ℕ} {whole text : List ℕ} {e : ℕ} {t : List ℕ} {words : List (List ℕ)} (others : List (List ℕ)) → joined words ≡ joined others
    → Going at whole text e t words → Going at whole text e t others
going_same others h g = record { room = g.room; long = g.long; end = rw (sym h) g.end; is = rw (sym h) g.is }

-- two words
pub two_words : (a b : List ℕ) → a ++ b ≡ joined (a ∷ b ∷ [])
unfolding joined
two_words a b = simp append-nil

-- two words that are to be put
pub going_two : (at : ℕ) (text a b : List ℕ) → at + length (a ++ b) ≤ length text → Going at (a ++ b) text at text (a ∷ b ∷ [])
going_two at text a b h = going_none at text (a ∷ b ∷ []) (two_words a b) h

-- a word that is put, and another behind it
module _ {at : ℕ} {text a : List ℕ} {r : ℕ} {t : List ℕ} (p : Put at a text r t) (b : List ℕ) (h : at + length (a ++ b) ≤ length text) where
  one_put : Going at (a ++ b) text r t (b ∷ [])
  one_put = going_more (going_two at text a b h) p

  pub room_behind : r + length b ≤ length t
  room_behind = going_room one_put

  pub both_put : {e : ℕ} {exit : List ℕ} → Put r b t e exit → Put at (a ++ b) text e exit
  both_put q = going_all (going_more one_put q)

pub three_words : (a b c : List ℕ) → a ++ b ++ c ≡ joined (a ∷ b ∷ c ∷ [])
unfolding joined
three_words a b c = simp (append_assoc, append-nil)

-- three words that are to be put
pub going_three : (at : ℕ) (text a b c : List ℕ) → at + length (a ++ b ++ c) ≤ length text → Going at (a ++ b ++ c) text at text (a ∷ b ∷ c ∷ [])
going_three at text a b c h = going_none at text (a ∷ b ∷ c ∷ []) (three_words a b c) h

-- a word that is put in front
pub put_front : {word text : List ℕ} {r : ℕ} {exit : List ℕ} → Put 0 word text r exit → (r ≡ length word) × (exit ≡ front word text)
put_front {word} {text} p = (omega (arith, p.behind), p.is ∙ placed_front text word)

pub front_within : (word text : List ℕ) (r : ℕ) (exit : List ℕ) → r ≡ length word → exit ≡ front word text → r ≤ length exit
front_within word text r exit e f = omega (arith, ap length f ∙ length-append word (drop (length word) text))
