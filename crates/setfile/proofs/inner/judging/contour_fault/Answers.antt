-- `setfile::inner::judging::contour_fault` meets its contract.
use Rattle.std.proofs.Common.{◌≡◌, ℕ, ◌+◌, ◌-◌, ◌*◌, ◌≤◌, Bool, true, false, not, ◌&&◌, eqb, ltb, List, [], ◌∷◌, length, sym, ap, ◌∙◌, ap₂, arith, drop-drop}
use Rattle.replies.specs.Ladder.{first_of}
use Rattle.grid.specs.Limits.{most}
use Rattle.bits.specs.Bits.{bits}
use Rattle.bits.specs.Widths.{width_of}
use Rattle.steps.specs.Bodies.{steps_in}
use Rattle.setfile.specs.declared.inner.headers.Header.{Header}
use Rattle.setfile.specs.Editions.{layout}
use Rattle.setfile.specs.inside.Reading.{from_bit, header_size, header_in, size_of}
use Rattle.setfile.proofs.ContourLaws.{size_is, header_small, from-length}
use Rattle.setfile.proofs.FaultLaws.{no_header, no_shape, too_many, no_points, no_fault, by_width}
use Rattle.setfile.proofs.inner.judging.contour_fault.Goals as goal

-- a contour at a position within the file, as the code meets it
module _ (s : Bool) (f : List ℕ) (at : ℕ) (within : at ≤ 8 * length f) where
  -- its header is there
  headed : {k : ℕ} → k ≡ header_size s → k ≤ 8 * length f - at → header_size s ≤ length (from_bit f at)
  headed e h = omega (arith, from-length f at within)

  module _ {h : Header} (e : h ≡ header_in s (from_bit f at)) where
    -- whether the first begins a shape
    begun : (first b : Bool) → (first && not h.begins) ≡ b → (first && not (header_in s (from_bit f at)).begins) ≡ b
    begun first b g = ap (λ (h : Header). first && not h.begins) (sym e) ∙ g

    -- whether the file promises too many points
    many : (n : ℕ) (b : Bool) → (s && ltb 65536 (n + h.count)) ≡ b → (s && ltb most (n + (header_in s (from_bit f at)).count)) ≡ b
    unfolding most
    many n b g = ap (λ (h : Header). s && ltb 65536 (n + h.count)) (sym e) ∙ g

    -- its size
    sized : {z : ℕ} → z ≡ size_of s h → (layout s).size (from_bit f at) ≡ z
    sized g = size_is s (from_bit f at) ∙ ap (size_of s) (sym e) ∙ sym g

    -- all of it is there
    ends : {z : ℕ} → z ≡ size_of s h → z ≤ 8 * length f - at → (layout s).size (from_bit f at) ≤ length (from_bit f at)
    ends g h = omega (arith, sized g, from-length f at within)

pub returns-then-rest-header_size : goal.returns-then-rest-header_size
returns-then-rest-header_size c =
    let s = c.args in
    no_header s.first s.points (from_bit s.bytes.now s.at) s.second
    (omega (arith, from-length s.bytes.now s.at c.requires.0.within, c.if-rest-header_size.true, c.header_size.ensures))

pub header_at-h-requires : goal.header_at-h-requires
header_at-h-requires c =
    let p = c.requires in
    (p.0, omega (arith, p.0.within, c.if-rest-header_size.false, c.header_size.ensures))

pub returns-then-first-h : goal.returns-then-first-h
returns-then-first-h c =
    let s = c.args in
    let w = c.requires.0.within in
    no_shape s.first s.points (from_bit s.bytes.now s.at) s.second (headed s.second s.bytes.now s.at w c.header_size.ensures c.if-rest-header_size.false)
    (begun s.second s.bytes.now s.at w c.header_at-h.ensures s.first true c.if-first-h.true)

pub overflow_add-points : goal.overflow_add-points
overflow_add-points c =
    let s = c.args in
    let p = c.requires in
    let h = headed s.second s.bytes.now s.at p.0.within c.header_size.ensures c.if-rest-header_size.false in
    omega (arith, header_small s.second (from_bit s.bytes.now s.at) h _ c.header_at-h.ensures, p.1, p.0.within, p.0.short)

pub returns-then-second-points : goal.returns-then-second-points
returns-then-second-points c =
    let s = c.args in
    let w = c.requires.0.within in
    too_many s.first s.points (from_bit s.bytes.now s.at) (begun s.second s.bytes.now s.at w c.header_at-h.ensures s.first false c.if-first-h.false)
    s.second (headed s.second s.bytes.now s.at w c.header_size.ensures c.if-rest-header_size.false)
    (many s.second s.bytes.now s.at w c.header_at-h.ensures s.points true c.if-second-points.true)

pub size-requires : goal.size-requires
size-requires c =
    let s = c.args in
    let h = headed s.second s.bytes.now s.at c.requires.0.within c.header_size.ensures c.if-rest-header_size.false in
    header_small s.second (from_bit s.bytes.now s.at) h _ c.header_at-h.ensures

pub returns-then-rest-size : goal.returns-then-rest-size
returns-then-rest-size c =
    let s = c.args in
    let w = c.requires.0.within in
    no_points s.first s.points (from_bit s.bytes.now s.at) (begun s.second s.bytes.now s.at w c.header_at-h.ensures s.first false c.if-first-h.false)
    s.second (headed s.second s.bytes.now s.at w c.header_size.ensures c.if-rest-header_size.false)
    (many s.second s.bytes.now s.at w c.header_at-h.ensures s.points false c.if-second-points.false)
    (omega (arith, sized s.second s.bytes.now s.at w c.header_at-h.ensures c.size.ensures, c.if-rest-size.true, from-length s.bytes.now s.at w))

pub width_fault-requires : goal.width_fault-requires
width_fault-requires c =
    let s = c.args in
    let h = c.header_at-h.result in
    let w = c.requires.0.within in
    let small = header_small s.second (from_bit s.bytes.now s.at) (headed s.second s.bytes.now s.at w c.header_size.ensures c.if-rest-header_size.false) _ c.header_at-h.ensures in
    let z : c.size.result ≡ size_of true h = c.size.ensures ∙ ap (λ (b : Bool). size_of b h) c.if-second.true in
    (record { few = small.0; short = c.requires.0.short; room = omega (arith, z, c.if-rest-size.false, from-length s.bytes.now s.at w) }, small.1)

pub returns-then-second : goal.returns-then-second
returns-then-second c =
    let s = c.args in
    let w = c.requires.0.within in
    let l : List Bool = from_bit s.bytes.now s.at in
    let h : c.header_at-h.result ≡ header_in true l = c.header_at-h.ensures ∙ ap (λ (b : Bool). header_in b l) c.if-second.true in
    by_width s.first s.points l (begun s.second s.bytes.now s.at w c.header_at-h.ensures s.first false c.if-first-h.false)
    s.second c.if-second.true (headed s.second s.bytes.now s.at w c.header_size.ensures c.if-rest-header_size.false)
    (many s.second s.bytes.now s.at w c.header_at-h.ensures s.points false c.if-second-points.false)
    (ends s.second s.bytes.now s.at w c.header_at-h.ensures c.size.ensures c.if-rest-size.false) _
    (c.width_fault.ensures
    ∙ ap₂ (λ (h : Header) (m : List Bool). first_of ((not (eqb h.width (width_of (steps_in h.count h.width m))), 15) ∷ [])) h (sym (drop-drop 22 s.at (bits s.bytes.now))))

pub returns : goal.returns
returns c =
    let s = c.args in
    let w = c.requires.0.within in
    no_fault s.first s.points (from_bit s.bytes.now s.at) (begun s.second s.bytes.now s.at w c.header_at-h.ensures s.first false c.if-first-h.false)
    s.second c.if-second.false (headed s.second s.bytes.now s.at w c.header_size.ensures c.if-rest-header_size.false)
    (ends s.second s.bytes.now s.at w c.header_at-h.ensures c.size.ensures c.if-rest-size.false)
