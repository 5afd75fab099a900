-- A pen writes bits behind each other into a row of bytes, and keeps those that do not fill a byte yet.
use Rattle.std.specs.Prelude.{◌≡◌, Bool, List, ◌++◌, ℕ, ◌+◌, ◌-◌, ◌*◌, ◌/◌, ◌^◌, ◌<◌, ◌≤◌, length, take, drop}
use Rattle.bits.specs.declared.inner.pens.Pen.{Pen}
use Rattle.bits.specs.declared.inner.broad.Broad.{Broad}
use Rattle.bits.specs.Bits.{field, bits, fill}

abbrev pub pen : ℕ → ℕ → ℕ → Pen
pen at kept width = record { at = at; kept = kept; width = width }

-- the bits that stand in the row before the pen, and those that it keeps
abbrev pub inked : Pen → List ℕ → List Bool
inked p row = bits (take p.at row) ++ field p.width p.kept

-- how many they are
abbrev pub reached : Pen → ℕ
reached p = 8 * p.at + p.width

-- fewer than 32 bits are kept, and no others
pub record Ready (p : Pen) : Type 0 where
  pub small : p.kept < 2 ^ p.width
  pub few : p.width < 32

-- there is room for w bits more, in the row and in the pen
pub record Space (row : List ℕ) (p : Pen) (w : ℕ) : Type 0 where
  pub within_32 : w ≤ 32
  pub room : reached p + w ≤ 8 * length row

-- the bits l were written behind what the pen p had written; the pen is q now, and behind it nothing has changed
pub record Wrote (p : Pen) (l : List Bool) (row : List ℕ) (q : Pen) (exit : List ℕ) : Type 0 where
  pub small : q.kept < 2 ^ q.width
  pub is : inked q exit ≡ inked p row ++ l
  pub on : p.at ≤ q.at
  pub behind : reached q ≡ reached p + length l
  pub rest : drop q.at exit ≡ drop q.at row
  pub long : length exit ≡ length row

-- all that the pen had written is in the row, filled with zero bits to n whole bytes
pub record Lifted (p : Pen) (row : List ℕ) (n : ℕ) (exit : List ℕ) : Type 0 where
  pub is : bits (take n exit) ≡ inked p row ++ field (fill (reached p)) 0
  pub rest : drop n exit ≡ drop n row
  pub ends : 8 * n ≡ reached p + fill (reached p)
  pub long : length exit ≡ length row

abbrev pub broad : ℕ → ℕ → ℕ → Broad
broad at kept width = record { at = at; kept = kept; width = width }

-- the pen that a broad one is, whose kept bits stand at the front of a word of 64
abbrev pub narrowed : Broad → Pen
narrowed b = pen b.at (b.kept / 2 ^ (64 - b.width)) b.width

-- they do stand there, and zeros behind them
pub record Fronted (b : Broad) : Type 0 where
  pub few : b.width ≤ 64
  pub small : b.kept / 2 ^ (64 - b.width) < 2 ^ b.width
  pub is : b.kept ≡ b.kept / 2 ^ (64 - b.width) * 2 ^ (64 - b.width)

-- there is room for w bits more, in the row and in the broad pen
pub record Breadth (row : List ℕ) (b : Broad) (w : ℕ) : Type 0 where
  pub some : 0 < w
  pub within_60 : w ≤ 60
  pub room : reached (narrowed b) + w ≤ 8 * length row
