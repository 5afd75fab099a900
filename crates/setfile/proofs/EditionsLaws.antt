-- Files of either edition: each is read as it was written and written as it was read, and each list of contours has one.
use Rattle.std.proofs.Common.{◌≡◌, ℕ, zero, suc, ◌<◌, ◌≤◌, Bool, true, false, not, ◌&&◌, T, eqb, List, length, sym, refl, ap, ◌∙◌, subst, arith, ltb-false, le-ltb, eqb-true}
use Rattle.replies.proofs.LadderLaws.{first_is, clear}
use Rattle.replies.proofs.LadderLaws.First.{past, foot}
use Rattle.bits.specs.Bits.{Bytes}
use Rattle.setfile.specs.Entries.{Entry}
use Rattle.setfile.specs.Entries.Parsed.{carries, damaged}
use Rattle.setfile.specs.Layouts.{file_in, edition_of, read_in}
use Rattle.setfile.specs.Editions.{number, layout, is_second, head_damage, parsed}
use Rattle.setfile.specs.Writing.{most_contours}
use Rattle.setfile.proofs.LayoutLaws.{Faithful, All, the_file_has_its_edition, the_file_has_a_head, the_file_is_read_back, what_is_read_can_be_held, what_is_read_is_few, the_file_is_written_back}
use Rattle.setfile.proofs.EitherLaws.{parsed_faulty, parsed_on}
use Rattle.setfile.proofs.EditionLaws as E1
use Rattle.setfile.proofs.Edition2Laws as E2

-- the number of an edition tells which it is
number_told : (s : Bool) → (not (eqb (number s) 1) && not (eqb (number s) 2)) ≡ false
number_told true = refl
number_told false = refl

second_told : (s : Bool) → eqb (number s) 2 ≡ s
second_told true = refl
second_told false = refl

number_small : (s : Bool) → number s < 16
number_small true = omega arith
number_small false = omega arith

-- and it is one of the two
told_number : (v : ℕ) → (not (eqb v 1) && not (eqb v 2)) ≡ false → v ≡ number (eqb v 2)
told_number v e = go (eqb v 1) refl (eqb v 2) refl
  where
    go : (a : Bool) → eqb v 1 ≡ a → (b : Bool) → eqb v 2 ≡ b → v ≡ number (eqb v 2)
    go a f true g = rw g (eqb-true v 2 g)
    go true f false g = rw g (eqb-true v 1 f)
    go false f false g = let z : (not (eqb v 1) && not (eqb v 2)) ≡ true = rw (f, g) in let c : true ≡ false = sym z ∙ e in absurd (subst T c tt)

-- what an edition can hold
abbrev pub Holds : Bool → Bool → ℕ → Entry → Type 0
Holds true = E2.Held
Holds false = E1.Held

faithful : (s : Bool) → Faithful (layout s) (Holds s)
faithful true = E2.edition_2_is_faithful
faithful false = E1.edition_1_is_faithful

-- the file of contours in an edition
abbrev pub file : Bool → List Entry → List ℕ
file s l = file_in (number s) (layout s) l

-- contours that a file of an edition can carry
pub record Carried (s : Bool) (l : List Entry) : Type 0 where
  pub few : length l ≤ most_contours
  pub all : All (Holds s) true 0 l

module _ (s : Bool) (l : List Entry) (c : Carried s l) where
  pub a_file_is_of_the_edition_it_was_written_in : edition_of (file s l) ≡ number s
  a_file_is_of_the_edition_it_was_written_in = the_file_has_its_edition (layout s) (Holds s) (faithful s) (number s) l (number_small s) c.few

  pub no_file_of_one_edition_is_taken_for_the_other : is_second (file s l) ≡ s
  no_file_of_one_edition_is_taken_for_the_other = ap (λ (v : ℕ). eqb v 2) a_file_is_of_the_edition_it_was_written_in ∙ second_told s

  pub what_is_written_is_read : parsed (file s l) ≡ carries l
  what_is_written_is_read =
      let f : List ℕ = file s l in
      let v : edition_of f ≡ number s = a_file_is_of_the_edition_it_was_written_in in
      let h : 0 ≡ head_damage f =
      first_is _ 0
      (past (le-ltb (length f) 2 (the_file_has_a_head (layout s) (Holds s) (faithful s) (number s) l (number_small s) c.few))
      (past (ap (λ (v : ℕ). not (eqb v 1) && not (eqb v 2)) v ∙ number_told s) foot)) in
      parsed_on s f (sym no_file_of_one_edition_is_taken_for_the_other) h
      ∙ the_file_is_read_back (layout s) (Holds s) (faithful s) (number s) l (number_small s) c.few c.all

-- a file that is read has a right head
record Right (f : List ℕ) (l : List Entry) : Type 0 where
  long : 2 ≤ length f
  edition : edition_of f ≡ number (is_second f)
  reads : read_in (layout (is_second f)) f ≡ carries l

right : (f : List ℕ) (l : List Entry) → parsed f ≡ carries l → Right f l
right f l h = go (head_damage f) refl
  where
    go : (r : ℕ) → r ≡ head_damage f → Right f l
    go zero e =
        let c = clear _ tt (sym e) in
        record { long = ltb-false (length f) 2 c.0; edition = told_number (edition_of f) c.1.0; reads = sym (parsed_on (is_second f) f refl e) ∙ h }
    go (suc r) e = let b : parsed f ≡ damaged (suc r) = parsed_faulty f (suc r) e (λ z. omega arith) in let z : ◌≡◌ {A = ℕ} 0 1 = cc in absurd (omega arith)

module _ (f : List ℕ) (h : Bytes f) (l : List Entry) (e : parsed f ≡ carries l) where
  abbrev own : Bool
  own = is_second f

  pub what_is_read_can_be_carried : Carried own l
  what_is_read_can_be_carried =
      let r = right f l e in
      record {
        few = what_is_read_is_few (layout own) (Holds own) (faithful own) f h r.long l r.reads;
        all = what_is_read_can_be_held (layout own) (Holds own) (faithful own) f h r.long l r.reads;
      }

  pub what_is_read_was_written : file own l ≡ f
  what_is_read_was_written =
      let r = right f l e in
      ap (λ (v : ℕ). file_in v (layout own) l) (sym r.edition)
      ∙ the_file_is_written_back (layout own) (Holds own) (faithful own) f h r.long l r.reads

pub no_two_files_of_an_edition_carry_the_same_contours : (f g : List ℕ) (l : List Entry) → Bytes f → Bytes g → parsed f ≡ carries l → parsed g ≡ carries l → edition_of f ≡ edition_of g → f ≡ g
no_two_files_of_an_edition_carry_the_same_contours f g l a b h k e =
    sym (what_is_read_was_written f a l h) ∙ ap (λ (v : ℕ). file (eqb v 2) l) e ∙ what_is_read_was_written g b l k
