-- A contour that is cleaned behind what is output-of.
use Rattle.std.proofs.Common.{◌≡◌, ℕ, zero, suc, ◌+◌, ◌-◌, ◌*◌, ◌^◌, ◌<◌, ◌≤◌, Bool, true, List, [], ◌∷◌, ◌++◌, map, length, get_or, take, drop, ℤ, sym, refl, ap, ◌∙◌, append_assoc, append-nil, arith, length-append, length-drop, drop_of_length-le, length-take-le, take_all, drop-drop}
use borrow.Rule.Slice.PartMut.{mid_of, put_mid, put_same}
use Rattle.grid.specs.Limits.{limit}
use Rattle.grid.specs.Domain.{count, Contour}
use Rattle.ring.specs.declared.Rule.{Rule}
use Rattle.clean.specs.declared.cleaning.Cleaned.{Cleaned}
use Rattle.clean.specs.Outcome.{answer}
use Rattle.clean.specs.inside.Settling.{Ready}
use Rattle.buffer.specs.declared.ranges.Span.{Span}
use Rattle.buffer.specs.Spans.{span, spans, size, sound}
use Rattle.buffer.specs.Sets.{cut, joined, contour, contours}
use Rattle.rows.specs.Rows.{placed}
use Rattle.buffer.proofs.PartLaws.{names_of, part_long, part_contour}
use Rattle.buffer.proofs.RefusalLaws.{Accepted}
use Rattle.sets.specs.declared.inner.contour.Progress.{Progress}
use Rattle.sets.specs.declared.inner.contour.Tried.{Tried}
use Rattle.sets.specs.Fates.{Fate, fate}
use Rattle.sets.specs.Fates.Fate.{stays, gone}
use Rattle.sets.specs.inside.Contour.{Scratch, Cleanable, answer_of, output_of, Fated, Noted, noted, noting, Notable, Reached, reached, placing, stayed, Placeable, Behind}
use Rattle.sets.specs.inside.Shape.{Room, Named}
use Rattle.sets.specs.Promises.{Contours, AllContours}
use Rattle.sets.proofs.FateLaws.{Smaller, fate_smaller}

-- the part behind what is output-of, lent and put back
module _ {A : Type 0} (a : ℕ) (xs : List A) where
  whole_tail : length (drop a xs) ≤ length xs - a
  whole_tail = omega (arith, length-drop a xs)

  tail_is : mid_of a (length xs - a) xs ≡ drop a xs
  tail_is = take_all (length xs - a) (drop a xs) whole_tail

  pub put_front : (d : List A) → put_mid a (length xs - a) xs (d ++ drop (length d) (mid_of a (length xs - a) xs)) ≡ placed a d xs
  put_front d =
      ap (λ (l : List A). take a xs ++ ((d ++ drop (length d) l) ++ drop (length xs - a) (drop a xs))) tail_is
      ∙ ap (λ (l : List A). take a xs ++ ((d ++ drop (length d) (drop a xs)) ++ l)) (drop_of_length-le (drop a xs) whole_tail)
      ∙ ap (λ (l : List A). take a xs ++ l) (append-nil (d ++ drop (length d) (drop a xs)))
      ∙ ap (λ (l : List A). take a xs ++ (d ++ l)) (drop-drop (length d) a xs)
      ∙ sym (append_assoc (take a xs) d (drop (a + length d) xs))

-- the scratch that the walk of one contour is lent
pub ready : (c : List ℤ) (next prev mark : List ℕ) (out : List ℤ) → Cleanable c next prev mark out
    → Ready c (take (count c) next) (take (count c) prev) (take (count c) mark) out
ready c next prev mark out x =
    let m = length-take-le (count c) mark x.scratch.in_mark in
    record {
      contour = rw m x.contour;
      next_long = length-take-le (count c) next x.scratch.in_next ∙ sym m;
      prev_long = length-take-le (count c) prev x.scratch.in_prev ∙ sym m;
      room = x.room;
    }

-- the output that it is lent
pub cleanable_behind : (c : List ℤ) (at : Progress) (next prev mark : List ℕ) (out : List ℤ) (records : List (List ℕ)) → Placeable c at next prev mark out records
    → Cleanable c next prev mark (mid_of (2 * at.points) (length out - 2 * at.points) out)
cleanable_behind c at next prev mark out records x = record {
  contour = x.contour;
  scratch = x.scratch;
  room = rw (tail_is (2 * at.points) out) (omega (arith, x.room, length-drop (2 * at.points) out));
}

pub same_reached : {p q : Progress} {a b : List ℤ} {k l : List (List ℕ)} → p ≡ q → a ≡ b → k ≡ l → reached p a k ≡ reached q b l
same_reached e f g = cc

module _ (rule : Rule) (c out : List ℤ) (at : Progress) (records : List (List ℕ)) (r : Cleaned) (mid : List ℤ)
    (f : Fated rule c (mid_of (2 * at.points) (length out - 2 * at.points) out) r mid) where
  -- the output and the ranges, put together
  pub behind_is : (t : Tried) (records' : List (List ℕ)) → noted t records' ≡ noting r.reply r at records
      → Behind rule c (reached at out records) t (put_mid (2 * at.points) (length out - 2 * at.points) out mid) records'
  behind_is t records' n = go (fate rule c) refl f.answer f.output
    where
      told : {w : Fate} → fate rule c ≡ w → t.stays ≡ stayed w → reached t.progress (put_mid (2 * at.points) (length out - 2 * at.points) out mid) records' ≡ placing w (reached at out records)
          → Behind rule c (reached at out records) t (put_mid (2 * at.points) (length out - 2 * at.points) out mid) records'
      told e b i = record { stays = b ∙ ap stayed (sym e); is = i ∙ ap (λ (w : Fate). placing w (reached at out records)) (sym e) }

      go : (w : Fate) → fate rule c ≡ w → r ≡ answer_of w → mid ≡ output_of w (mid_of (2 * at.points) (length out - 2 * at.points) out)
          → Behind rule c (reached at out records) t (put_mid (2 * at.points) (length out - 2 * at.points) out mid) records'
      go (stays d k) e a o =
          let m : noted t records' ≡ noting 0 (answer 0 (count d) k.decisions k.turns) at records = rw a at n in
          let put : put_mid (2 * at.points) (length out - 2 * at.points) out mid ≡ placed (2 * at.points) d out = rw o (put_front (2 * at.points) out d) in
          told e (ap (λ (q : Noted). q.tried.stays) m) (same_reached (ap (λ (q : Noted). q.tried.progress) m) put (ap (λ (q : Noted). q.ranges) m))
      go (gone k) e a o =
          let m : noted t records' ≡ noting 7 (answer 7 0 k.decisions k.turns) at records = rw a at n in
          let put : put_mid (2 * at.points) (length out - 2 * at.points) out mid ≡ out = rw o (put_same (2 * at.points) (length out - 2 * at.points) out) in
          told e (ap (λ (q : Noted). q.tried.stays) m) (same_reached (ap (λ (q : Noted). q.tried.progress) m) put (ap (λ (q : Noted). q.ranges) m))

  -- what is added stays a number of the machine
  counts_fit : Contour c (count c) → (r.decisions ≤ 2 * length c) × (r.turns ≤ 3 * length c) × (2 * r.points ≤ length c)
  counts_fit x = go (fate rule c) (fate_smaller rule c x) f.answer
    where
      go : (w : Fate) → Smaller c w → r ≡ answer_of w → (r.decisions ≤ 2 * length c) × (r.turns ≤ 3 * length c) × (2 * r.points ≤ length c)
      go (stays d k) s a = rw a (s.2, s.3, omega (arith, s.0, s.1))
      go (gone k) s a = rw a (s.0, s.1, omega arith)

  pub notable : (next prev mark : List ℕ) → Placeable c at next prev mark out records → length out < 2 ^ 64 → Notable r at records
  notable next prev mark x l =
      let k = counts_fit x.contour in
      record {
        space = x.space;
        narrow = x.narrow;
        points_fit = omega (arith, k.2, x.room);
        decisions_fit = omega (arith, k.0, x.fits);
        turns_fit = omega (arith, k.1, x.turns_fit);
      }

-- room for the rest, once a contour is cleaned
pub joined_more : (c : List ℤ) (l : List (List ℤ)) → length (joined (c ∷ l)) ≡ length c + length (joined l)
unfolding joined
joined_more c l = length-append c (joined l)

pub room_rest : (rule : Rule) (c : List ℤ) (l : List (List ℤ)) (at : Progress) (out : List ℤ) (records : List (List ℕ)) → Room (c ∷ l) at out records → Contour c (count c)
    → (pl : Progress) (out' : List ℤ) (records' : List (List ℕ)) → reached pl out' records' ≡ placing (fate rule c) (reached at out records)
    → length out' ≡ length out → length records' ≡ length records → Room l pl out' records'
room_rest rule c l at out records x k pl out' records' e a b = go (fate rule c) (fate_smaller rule c k) (ap (λ (s : Reached). s.progress) e)
  where
    go : (w : Fate) → Smaller c w → pl ≡ (placing w (reached at out records)).progress → Room l pl out' records'
    go (stays d n) s f =
        let j = joined_more c l in
        rw f (record { room = omega (arith, x.room, s.0, s.1); space = omega (arith, x.space); narrow = omega (arith, x.narrow); fits = omega (arith, x.fits, s.2); turns_fit = omega (arith, x.turns_fit, s.3) })
    go (gone n) s f =
        let j = joined_more c l in
        rw f (record { room = omega (arith, x.room); space = omega (arith, x.space); narrow = omega (arith, x.narrow); fits = omega (arith, x.fits, s.0); turns_fit = omega (arith, x.turns_fit, s.1) })

-- sound ranges of a set that no call refuses name parts of its points
pub accepted_named : (p : List ℤ) (cs : List (List ℕ)) (ok : Bool) → Accepted limit p ok → sound (spans cs) (count p) ≡ true → Named p cs
accepted_named p cs ok a s = record {
  domain = record { even = a.even; few = a.few; on = a.on };
  names = λ k h. names_of p cs k a.even s h;
}

-- a contour that a range names is of the domain, and there is room for it
module _ (p : List ℤ) (ranges : List (List ℕ)) (x : Named p ranges) (k : ℕ) (h : k < length ranges) where
  pub named_contour : Contour (contour p (span (get_or ranges k []))) (count (contour p (span (get_or ranges k []))))
  named_contour = part_contour p ranges k x.domain (x.names k h)

  part_few : count (contour p (span (get_or ranges k []))) ≤ count p
  part_few = let n = x.names k h in omega (arith, part_long p ranges k x.domain n, n.fits, x.domain.even)

  pub part_placeable : (at : Progress) (next prev mark : List ℕ) (out : List ℤ) (records : List (List ℕ)) (l : List (List ℤ))
      → Scratch (count p) next prev mark → Room (contour p (span (get_or ranges k [])) ∷ l) at out records
      → Placeable (contour p (span (get_or ranges k []))) at next prev mark out records
  part_placeable at next prev mark out records l s r =
      let j = joined_more (contour p (span (get_or ranges k []))) l in
      record {
        contour = named_contour;
        scratch = record { in_next = omega (arith, part_few, s.in_next); in_prev = omega (arith, part_few, s.in_prev); in_mark = omega (arith, part_few, s.in_mark) };
        room = omega (arith, r.room);
        space = omega (arith, r.space);
        narrow = omega (arith, r.narrow);
        fits = omega (arith, r.fits);
        turns_fit = omega (arith, r.turns_fit);
      }

-- so all contours of such ranges are
named_all : (p : List ℤ) (l : List (List ℕ)) → ((k : ℕ) → k < length l → Contour (contour p (span (get_or l k []))) (count (contour p (span (get_or l k []))))) → Contours (contours p (spans l))
named_all p [] f = tt
named_all p (r ∷ l) f = (f 0 (omega arith), named_all p l (λ k h. f (suc k) (omega arith)))

pub all_named : (p : List ℤ) (cs : List (List ℕ)) → Named p cs → Contours (contours p (spans cs))
all_named p cs n = named_all p cs (λ k h. named_contour p cs n k h)

-- and all shapes of such contours
contours_taken : (n : ℕ) (l : List (List ℤ)) → Contours l → Contours (take n l)
contours_taken zero l h = tt
contours_taken (suc n) [] h = tt
contours_taken (suc n) (c ∷ l) h = (h.0, contours_taken n l h.1)

contours_dropped : (n : ℕ) (l : List (List ℤ)) → Contours l → Contours (drop n l)
contours_dropped zero l h = h
contours_dropped (suc n) [] h = tt
contours_dropped (suc n) (c ∷ l) h = contours_dropped n l h.1

pub all_cut : (l : List (List ℤ)) (ss : List Span) → Contours l → AllContours (map (cut l) ss)
all_cut l [] h = tt
all_cut l (s ∷ ss) h = (contours_taken (size s) (drop s.start l) (contours_dropped s.start l h), all_cut l ss h)
