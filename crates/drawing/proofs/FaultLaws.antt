-- The first fault of a drawing.
use mathlib.Core.Path.{◌≡◌, refl, sym, ap, ap₂, ◌∙◌}
use mathlib.Core.Bool.{Bool, true, false, not, ◌&&◌}
use mathlib.Core.List.{List, ◌∷◌}
use Prim.Native.Nat.{ℕ, zero, suc, ◌+◌, ◌<◌}
use native.Mathlib.Omega.{arith}
use lib.Dec.{leb, ltb}
use lib.ListN.{length, get_or, drop}
use lib.Ieee.{Float}
use Rattle.integers.proofs.Logic.{and_left, and_right}
use Rattle.replies.specs.Ladder.{first_of}
use Rattle.replies.proofs.LadderLaws.{first_is}
use Rattle.replies.proofs.LadderLaws.First.{here, past, foot}
use Rattle.grid.specs.Limits.{narrow}
use Rattle.millimetres.specs.Scale.{finite, size, on_grid}
use Rattle.drawing.specs.declared.command.Place.{Place}
use Rattle.drawing.specs.declared.command.Command.{Command}
use Rattle.drawing.specs.Commands.{Item, item, brought, asked, items}
use Rattle.drawing.specs.Commands.Item.{command, no_command}
use Rattle.drawing.proofs.CommandLaws.{no_kind, opens_is, asked_more, items_more, items_done}
use Rattle.drawing.specs.Faults.{place_faults, faults, opens, or_else, first_fault}

-- a command that is faulty, or not
module _ (opened : Bool) (c : Item) (l : List Item) (r : ℕ) (e : r ≡ first_of (faults opened c)) where
  pub fault_decides : (r ≡ 0 → ⊥) → first_fault opened (c ∷ l) ≡ r
  unfolding first_fault
  fault_decides n = ap (λ (k : ℕ). or_else k (first_fault (opens c) l)) (sym e) ∙ stops r n
    where
      stops : (k : ℕ) → (k ≡ 0 → ⊥) → or_else k (first_fault (opens c) l) ≡ k
      stops zero m = absurd (m refl)
      stops (suc k) m = refl

  pub fault_passes : r ≡ 0 → first_fault opened (c ∷ l) ≡ first_fault (opens c) l
  unfolding first_fault
  fault_passes z = ap (λ (k : ℕ). or_else k (first_fault (opens c) l)) (sym e ∙ z)

pub no_command_decides : (opened : Bool) (l : List Item) → first_fault opened (no_command ∷ l) ≡ 13
unfolding first_fault first_of
no_command_decides opened l = refl

-- the faults so far: the first one of the rest is that of the whole
pub record Judged (kinds : List ℕ) (floats : List Float) (opened : Bool) (at i : ℕ) : Type 0 where
  pub few : at + asked (drop i kinds) ≡ length floats
  pub told : first_fault false (items kinds floats) ≡ first_fault opened (items (drop i kinds) (drop at floats))

module _ {kinds : List ℕ} {floats : List Float} {opened : Bool} {at i : ℕ} (x : Judged kinds floats opened at i) where
  pub all_judged : i ≡ length kinds → 0 ≡ first_fault false (items kinds floats)
  unfolding first_fault
  all_judged e = sym (x.told ∙ ap (first_fault opened) (items_done kinds i e (drop at floats)))

  module _ (h : i < length kinds) where
    abbrev kind : ℕ
    kind = get_or kinds i 0

    abbrev read : Item
    read = item kind (drop at floats)

    abbrev behind : List Item
    behind = items (drop (i + 1) kinds) (drop (at + brought kind) floats)

    met : first_fault false (items kinds floats) ≡ first_fault opened (read ∷ behind)
    met = x.told ∙ ap (first_fault opened) (items_more kinds i h floats at)

    pub judged_room : at + (brought kind + asked (drop (i + 1) kinds)) ≡ length floats
    judged_room = omega (arith, x.few, asked_more kinds i h)

    pub judged_no_kind : 2 < kind → 13 ≡ first_fault false (items kinds floats)
    judged_no_kind n =
        sym (met ∙ ap (λ (c : Item). first_fault opened (c ∷ behind)) (no_kind kind (drop at floats) n) ∙ no_command_decides opened behind)

    module _ (c : Command) (is : command c ≡ read) (r : ℕ) (e : r ≡ first_of (faults opened (command c))) where
      number : r ≡ first_of (faults opened read)
      number = e ∙ ap (λ (k : Item). first_of (faults opened k)) is

      pub judged_wrong : (r ≡ 0 → ⊥) → r ≡ first_fault false (items kinds floats)
      judged_wrong n = sym (met ∙ fault_decides opened read behind r number n)

      pub judged_past : r ≡ 0 → (n : ℕ) → n ≡ brought kind → Judged kinds floats (ltb kind 2) (at + n) (i + 1)
      judged_past z n q = record {
        few = omega (arith, judged_room);
        told =
            met ∙ fault_passes opened read behind r number z
            ∙ ap₂ (λ (b : Bool) (k : ℕ). first_fault b (items (drop (i + 1) kinds) (drop (at + k) floats)))
            (sym (opens_is kind (drop at floats))) (sym q);
      }

-- what is on the grid is finite
on_finite : (v : Float) → on_grid v ≡ true → finite v ≡ true
unfolding on_grid
on_finite v t = and_left (finite v) (leb (size v) narrow) t

-- a place on the grid, off it, and none: the code asks for the grid first
module _ (p : Place) where
  abbrev pub all_on : Bool
  all_on = on_grid p.x && on_grid p.y

  abbrev pub all_finite : Bool
  all_finite = finite p.x && finite p.y

  pub place_sound : all_on ≡ true → 0 ≡ first_of (place_faults p)
  place_sound t =
      let x = on_finite p.x (and_left (on_grid p.x) (on_grid p.y) t) in
      let y = on_finite p.y (and_right (on_grid p.x) (on_grid p.y) t) in
      first_is _ _ (past (ap₂ (λ (a b : Bool). not (a && b)) x y) (past (ap not t) foot))

  pub place_off : all_on ≡ false → all_finite ≡ true → 3 ≡ first_of (place_faults p)
  place_off t f = first_is _ _ (past (ap not f) (here (ap not t)))

  pub place_not_finite : all_finite ≡ false → 14 ≡ first_of (place_faults p)
  place_not_finite f = first_is _ _ (here (ap not f))
