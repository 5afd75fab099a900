-- What a user may count on: no contour is lost, changed or moved by packing, adding and unpacking.
use mathlib.Core.Path.{◌≡◌, refl, sym, ◌∙◌, ap, ap₂}
use mathlib.Core.Bool.{Bool, true, ◌&&◌}
use mathlib.Core.List.{List, [], ◌∷◌, ◌++◌, map, map-append}
use Prim.Native.Nat.{ℕ, ◌+◌, ◌*◌}
use native.Mathlib.Omega.{arith}
use lib.ListN.{length, get_or, length-append, length-map}
use lib.IntN.{ℤ}
use Rattle.integers.proofs.Logic.{and_left}
use Rattle.replies.specs.Ladder.{Rung, first_of}
use Rattle.grid.specs.Limits.{limit}
use Rattle.grid.specs.Domain.{count, domain}
use Rattle.grid.proofs.LimitLaws.{on_joined}
use Rattle.grid.proofs.DomainLaws.{in_domain}
use Rattle.buffer.specs.declared.answer.Packed.{Packed}
use Rattle.buffer.specs.declared.ranges.Span.{Span}
use Rattle.buffer.specs.Spans.{spans, rows, sound, sound_from, moved, total, laid}
use Rattle.buffer.specs.Sets.{cut, joined, doubled, contour, contours, shapes, contour_spans, shape_spans, whole, every, Even}
use Rattle.rows.specs.Parts.{lying}
use Rattle.buffer.specs.Refusals.{both}
use Rattle.buffer.specs.Answers.{Outcome, stored, written_points, written_contours, written_shapes}
use Rattle.buffer.specs.Contours as C
use Rattle.buffer.specs.Shapes as S
use Rattle.buffer.proofs.SetLaws.{sound_nothing, sound_first, laid_sound, sound_laid, sizes_are, cuts_joined, all_of, laid_cut, cuts_front, cuts_behind, sound-append, sound_moved, sound_doubled, as_cuts, doubled_laid, doubled_moved}
use Rattle.buffer.proofs.RefusalLaws.{Accepted, accepted}
use Rattle.buffer.proofs.RowLaws.{spans-length}
use Rattle.buffer.proofs.PackLaws.{Joined, joined as joined_of, SoundParts, sound_parts, count-append, added-length}
use Rattle.buffer.proofs.WrittenLaws.{spans_rows, Written, written, refused_unchanged, contours_taken, shapes_taken, unpacked_contour, unpacked_shape}

whole_is : (c : List ℤ) → length c ≡ 2 * count c → contour c (whole c) ≡ c
whole_is c e = all_of c (doubled (whole c)) refl (sym e)

-- what an addition that is not refused has written is a set that no call refuses
grown : (p more : List ℤ) (s : Bool) → Joined p more s → (t : Bool) → t ≡ true → Accepted limit (p ++ more) t
grown p more s j t e =
    let l : length (p ++ more) ≡ length p + length more = length-append p more in
    record {
      even = omega (arith, j.even, j.more_even);
      few = omega (arith, j.few, count-append p more j.even);
      sound = e;
      on = rw (on_joined limit p more, j.on, j.more_on);
    }

-- a flat set that is sound
module _ (p : List ℤ) (cs : List Span) (even : length p ≡ 2 * count p) (ok : sound cs (count p) ≡ true) where
  numbers_sound : sound (map doubled cs) (length p) ≡ true
  numbers_sound = ap (sound (map doubled cs)) even ∙ sound_doubled 0 (count p) cs ok

  pub a_sound_set's_contours_laid_end_to_end_are_its_points : joined (contours p cs) ≡ p
  a_sound_set's_contours_laid_end_to_end_are_its_points = ap joined (as_cuts p cs) ∙ cuts_joined p 0 (map doubled cs) numbers_sound

  pub and_its_ranges_are_theirs : contour_spans (contours p cs) ≡ cs
  and_its_ranges_are_theirs = ap (laid 0) (sizes_are p 0 cs even ok) ∙ sound_laid 0 (count p) cs ok

  pub adding_points_leaves_every_contour : (more : List ℤ) → contours (p ++ more) cs ≡ contours p cs
  adding_points_leaves_every_contour more = as_cuts (p ++ more) cs ∙ cuts_front p more 0 (map doubled cs) numbers_sound ∙ sym (as_cuts p cs)

  pub adding_a_shape_appends_its_contours : (more : List ℤ) (mcs : List Span)
      → contours (p ++ more) (cs ++ map (moved (count p)) mcs) ≡ contours p cs ++ contours more mcs
  adding_a_shape_appends_its_contours more mcs =
      map-append (contour (p ++ more)) cs (map (moved (count p)) mcs)
      ∙ ap₂ (λ (a b : List (List ℤ)). a ++ b) (adding_points_leaves_every_contour more)
      (as_cuts (p ++ more) (map (moved (count p)) mcs)
      ∙ ap (map (cut (p ++ more))) (doubled_moved (count p) mcs ∙ ap (λ (n : ℕ). map (moved n) (map doubled mcs)) (sym even))
      ∙ cuts_behind p more (map doubled mcs)
      ∙ sym (as_cuts more mcs))

  pub adding_a_contour_appends_exactly_it : (more : List ℤ) → length more ≡ 2 * count more
      → contours (p ++ more) (cs ++ moved (count p) (whole more) ∷ []) ≡ contours p cs ++ more ∷ []
  adding_a_contour_appends_exactly_it more e =
      adding_a_shape_appends_its_contours more (whole more ∷ [])
      ∙ ap (λ (c : List ℤ). contours p cs ++ c ∷ []) (whole_is more e)

  pub adding_keeps_the_ranges_sound : (more : List ℤ) (mcs : List Span) → sound mcs (count more) ≡ true
      → sound (cs ++ map (moved (count p)) mcs) (count (p ++ more)) ≡ true
  adding_keeps_the_ranges_sound more mcs e =
      let n : count more + count p ≡ count (p ++ more) = omega (arith, count-append p more even) in
      let z : 0 + count p ≡ count p = omega arith in
      sound-append 0 (count p) (count (p ++ more)) cs (map (moved (count p)) mcs) ok
      (ap₂ (λ (a b : ℕ). sound_from a (map (moved (count p)) mcs) b) (sym z) (sym n) ∙ sound_moved 0 (count more) (count p) mcs e)

-- a list of contours, packed and unpacked
pub packing_then_unpacking_gives_back_every_contour : (set : List (List ℤ)) → Even set → contours (joined set) (contour_spans set) ≡ set
packing_then_unpacking_gives_back_every_contour set h =
    as_cuts (joined set) (contour_spans set) ∙ ap (map (cut (joined set))) (doubled_laid 0 set h) ∙ laid_cut [] set

pub points_total : (set : List (List ℤ)) → Even set → length (joined set) ≡ 2 * total (map count set)
unfolding joined
points_total [] h = refl
points_total (c ∷ set) h = length-append c (joined set) ∙ omega (arith, h.0, points_total set h.1)

pub the_counts_add_up : (set : List (List ℤ)) → Even set → count (joined set) ≡ total (map count set)
the_counts_add_up set h = omega (arith, points_total set h)

pub what_is_packed_is_sound : (set : List (List ℤ)) → Even set → sound (contour_spans set) (count (joined set)) ≡ true
what_is_packed_is_sound set h = laid_sound 0 (count (joined set)) (map count set) (omega (arith, the_counts_add_up set h))

-- a list of shapes
contours_total : {A : Type 0} (set : List (List A)) → length (joined set) ≡ total (map length set)
unfolding joined
contours_total [] = refl
contours_total (s ∷ set) = length-append s (joined set) ∙ ap (λ (n : ℕ). length s + n) (contours_total set)

pub packing_then_unpacking_gives_back_every_shape : (set : List (List (List ℤ))) → Even (joined set)
    → shapes (joined (joined set)) (contour_spans (joined set)) (shape_spans set) ≡ set
packing_then_unpacking_gives_back_every_shape set h =
    ap (λ (l : List (List ℤ)). map (cut l) (shape_spans set)) (packing_then_unpacking_gives_back_every_contour (joined set) h) ∙ laid_cut [] set

pub packed_shapes_are_sound : (set : List (List (List ℤ))) → sound (shape_spans set) (length (joined set)) ≡ true
packed_shapes_are_sound set = laid_sound 0 (length (joined set)) (map length set) (omega (arith, contours_total set))

-- a shape set that is sound
module _ (p : List ℤ) (cs ss : List Span) (even : length p ≡ 2 * count p) (ok : sound cs (count p) ≡ true) (grouped : sound ss (length cs) ≡ true) where
  pub a_sound_set's_shapes_laid_end_to_end_are_its_contours : joined (shapes p cs ss) ≡ contours p cs
  a_sound_set's_shapes_laid_end_to_end_are_its_contours =
      cuts_joined (contours p cs) 0 ss (ap (sound ss) (length-map cs (contour p)) ∙ grouped)

  pub adding_a_shape_appends_exactly_it : (more : List ℤ) (mcs : List Span)
      → shapes (p ++ more) (cs ++ map (moved (count p)) mcs) (ss ++ moved (length cs) (every mcs) ∷ []) ≡ shapes p cs ss ++ contours more mcs ∷ []
  adding_a_shape_appends_exactly_it more mcs =
      let l = length-map cs (contour p) in
      let m = length-map mcs (contour more) in
      ap (λ (k : List (List ℤ)). map (cut k) (ss ++ moved (length cs) (every mcs) ∷ [])) (adding_a_shape_appends_its_contours p cs even ok more mcs)
      ∙ map-append (cut (contours p cs ++ contours more mcs)) ss (moved (length cs) (every mcs) ∷ [])
      ∙ ap₂ (λ (a b : List (List (List ℤ))). a ++ b)
      (cuts_front (contours p cs) (contours more mcs) 0 ss (ap (sound ss) l ∙ grouped))
      (ap (λ (n : ℕ). cut (contours p cs ++ contours more mcs) (moved n (every mcs)) ∷ []) (sym l)
      ∙ cuts_behind (contours p cs) (contours more mcs) (every mcs ∷ [])
      ∙ ap (λ (c : List (List ℤ)). c ∷ []) (all_of (contours more mcs) (every mcs) refl (sym m)))

-- one contour, or one shape, alone in its set
whole_sound : (n : ℕ) (s : Span) → s.start ≡ 0 → s.end ≡ n → sound (s ∷ []) n ≡ true
whole_sound n s e f = sound_first 0 n s [] (sym e) (omega arith) (sound_nothing s.end n f)

-- the calls that pack, and are not refused
module _ (o : Outcome) (ok : o.answer.reply ≡ 0) where
  module _ (p out : List ℤ) (records : List (List ℕ)) (e : o ≡ C.with_contour p out records) where
    contour_written : Written (domain limit p) p (whole p ∷ []) [] o
    contour_written = written (domain limit p) tt p (whole p ∷ []) [] out records [] o e ok

    contour_accepted : Accepted limit p (sound (whole p ∷ []) (count p))
    contour_accepted = let c = in_domain p contour_written.clear in record { even = c.even; few = c.few; sound = whole_sound (count p) (whole p) refl refl; on = c.on }

    pub a_packed_contour_is_unpacked : (at : ℕ × ℕ) → (C.contour_at (lying at (written_points o)) (written_contours o) 0).numbers ≡ p
    a_packed_contour_is_unpacked at = unpacked_contour _ p (whole p ∷ []) [] o contour_written contour_accepted at 0 ∙ whole_is p contour_accepted.even

    pub a_packed_contour_is_a_set_that_no_call_refuses : first_of (C.refusals (written_points o) (written_contours o)) ≡ 0
    a_packed_contour_is_a_set_that_no_call_refuses = contours_taken _ p (whole p ∷ []) [] o contour_written contour_accepted

  module _ (p : List ℤ) (cs : List (List ℕ)) (out : List ℤ) (records : List (List ℕ)) (e : o ≡ C.with_shape p cs out records) where
    shape_written : Written (C.refusals p cs) p (spans cs) [] o
    shape_written = written (C.refusals p cs) tt p (spans cs) [] out records [] o e ok

    pub every_contour_of_a_packed_shape_is_unpacked : (at : ℕ × ℕ) (k : ℕ) → (C.contour_at (lying at (written_points o)) (written_contours o) k).numbers ≡ get_or (contours p (spans cs)) k []
    every_contour_of_a_packed_shape_is_unpacked = unpacked_contour _ p (spans cs) [] o shape_written (accepted limit p _ shape_written.clear)

    pub a_packed_shape_is_a_set_that_no_call_refuses : first_of (C.refusals (written_points o) (written_contours o)) ≡ 0
    a_packed_shape_is_a_set_that_no_call_refuses = contours_taken _ p (spans cs) [] o shape_written (accepted limit p _ shape_written.clear)

  module _ (p : List ℤ) (cs ss : List (List ℕ)) (out : List ℤ) (records : List (List ℕ)) (e : o ≡ C.with_shapes p cs ss out records) where
    shapes_written : Written (S.refusals p cs ss) p (spans cs) [] o
    shapes_written = written (S.refusals p cs ss) tt p (spans cs) [] out records [] o e ok

    shapes_accepted : Accepted limit p (sound (spans cs) (count p))
    shapes_accepted =
        let a = accepted limit p (sound (spans cs) (count p) && sound (spans ss) (length cs)) shapes_written.clear in
        record { even = a.even; few = a.few; sound = and_left (sound (spans cs) (count p)) _ a.sound; on = a.on }

    pub every_contour_of_packed_shapes_is_unpacked : (at : ℕ × ℕ) (k : ℕ) → (C.contour_at (lying at (written_points o)) (written_contours o) k).numbers ≡ get_or (contours p (spans cs)) k []
    every_contour_of_packed_shapes_is_unpacked = unpacked_contour _ p (spans cs) [] o shapes_written shapes_accepted

    pub packed_shapes_are_a_set_that_no_call_refuses : first_of (C.refusals (written_points o) (written_contours o)) ≡ 0
    packed_shapes_are_a_set_that_no_call_refuses = contours_taken _ p (spans cs) [] o shapes_written shapes_accepted

  pub a_list_of_contours_is_unpacked_as_it_was : (set : List (List ℤ)) → Even set → (out : List ℤ) (records : List (List ℕ)) → o ≡ C.with_shape (joined set) (rows (contour_spans set)) out records
      → (at : ℕ × ℕ) (k : ℕ) → (C.contour_at (lying at (written_points o)) (written_contours o) k).numbers ≡ get_or set k []
  a_list_of_contours_is_unpacked_as_it_was set h out records e at k =
      every_contour_of_a_packed_shape_is_unpacked (joined set) (rows (contour_spans set)) out records e at k
      ∙ ap (λ (l : List Span). get_or (contours (joined set) l) k []) (spans_rows (contour_spans set))
      ∙ ap (λ (l : List (List ℤ)). get_or l k []) (packing_then_unpacking_gives_back_every_contour set h)

  -- into a shape set: one shape of one contour
  module _ (p out : List ℤ) (records groups : List (List ℕ)) (e : o ≡ S.with_contour p out records groups) where
    abbrev only : List Span
    only = every (whole p ∷ []) ∷ []

    lone_written : Written (domain limit p) p (whole p ∷ []) only o
    lone_written = written (domain limit p) tt p (whole p ∷ []) only out records groups o e ok

    lone_accepted : Accepted limit p (sound (whole p ∷ []) (count p) && sound only 1)
    lone_accepted =
        let c = in_domain p lone_written.clear in
        record { even = c.even; few = c.few; sound = rw (whole_sound (count p) (whole p) refl refl, whole_sound 1 (every (whole p ∷ [])) refl refl); on = c.on }

    pub a_packed_contour_is_unpacked_from_its_shape : (at : ℕ × ℕ) → (S.contour_of (lying at (written_points o)) (written_contours o) (written_shapes o) 0 0).numbers ≡ p
    a_packed_contour_is_unpacked_from_its_shape at = unpacked_shape _ p (whole p ∷ []) only o lone_written lone_accepted at 0 0 ∙ whole_is p lone_accepted.even

    pub a_packed_contour_is_a_shape_set_that_no_call_refuses : first_of (S.refusals (written_points o) (written_contours o) (written_shapes o)) ≡ 0
    a_packed_contour_is_a_shape_set_that_no_call_refuses = shapes_taken _ p (whole p ∷ []) only o lone_written lone_accepted

  -- one shape
  module _ (p : List ℤ) (cs : List (List ℕ)) (out : List ℤ) (records groups : List (List ℕ)) (e : o ≡ S.with_shape p cs out records groups) where
    one_written : Written (C.refusals p cs) p (spans cs) (every cs ∷ []) o
    one_written = written (C.refusals p cs) tt p (spans cs) (every cs ∷ []) out records groups o e ok

    one_accepted : Accepted limit p (sound (spans cs) (count p) && sound (every cs ∷ []) (length (spans cs)))
    one_accepted =
        let a = accepted limit p (sound (spans cs) (count p)) one_written.clear in
        record { even = a.even; few = a.few; sound = rw (a.sound, whole_sound (length (spans cs)) (every cs) refl (sym (spans-length cs))); on = a.on }

    pub every_contour_of_a_packed_shape_is_unpacked_from_it : (at : ℕ × ℕ) (c : ℕ)
        → (S.contour_of (lying at (written_points o)) (written_contours o) (written_shapes o) 0 c).numbers ≡ get_or (contours p (spans cs)) c []
    every_contour_of_a_packed_shape_is_unpacked_from_it at c =
        unpacked_shape _ p (spans cs) (every cs ∷ []) o one_written one_accepted at 0 c
        ∙ ap (λ (l : List (List ℤ)). get_or l c []) (all_of (contours p (spans cs)) (every cs) refl (sym (length-map (spans cs) (contour p) ∙ spans-length cs)))

    pub a_packed_shape_is_a_shape_set_that_no_call_refuses : first_of (S.refusals (written_points o) (written_contours o) (written_shapes o)) ≡ 0
    a_packed_shape_is_a_shape_set_that_no_call_refuses = shapes_taken _ p (spans cs) (every cs ∷ []) o one_written one_accepted

  -- shapes
  module _ (p : List ℤ) (cs ss : List (List ℕ)) (out : List ℤ) (records groups : List (List ℕ)) (e : o ≡ S.with_shapes p cs ss out records groups) where
    all_written : Written (S.refusals p cs ss) p (spans cs) (spans ss) o
    all_written = written (S.refusals p cs ss) tt p (spans cs) (spans ss) out records groups o e ok

    all_accepted : Accepted limit p (sound (spans cs) (count p) && sound (spans ss) (length (spans cs)))
    all_accepted = rw (spans-length cs) (accepted limit p (sound (spans cs) (count p) && sound (spans ss) (length cs)) all_written.clear)

    pub every_contour_of_every_packed_shape_is_unpacked : (at : ℕ × ℕ) (s c : ℕ)
        → (S.contour_of (lying at (written_points o)) (written_contours o) (written_shapes o) s c).numbers ≡ get_or (get_or (shapes p (spans cs) (spans ss)) s []) c []
    every_contour_of_every_packed_shape_is_unpacked = unpacked_shape _ p (spans cs) (spans ss) o all_written all_accepted

    pub packed_shapes_are_a_shape_set_that_no_call_refuses : first_of (S.refusals (written_points o) (written_contours o) (written_shapes o)) ≡ 0
    packed_shapes_are_a_shape_set_that_no_call_refuses = shapes_taken _ p (spans cs) (spans ss) o all_written all_accepted

  -- an addition to a contour set
  module _ (p : List ℤ) (cs : List (List ℕ)) (more out : List ℤ) (records : List (List ℕ)) (e : o ≡ C.with_one_more p cs more out records) where
    added : Written (both p more (sound (spans cs) (count p))) (p ++ more) (spans cs ++ moved (count p) (whole more) ∷ []) [] o
    added = written (both p more (sound (spans cs) (count p))) tt (p ++ more) (spans cs ++ moved (count p) (whole more) ∷ []) [] out records [] o e ok

    taken : Joined p more (sound (spans cs) (count p))
    taken = joined_of p more (sound (spans cs) (count p)) 0 (sym added.clear) refl

    pub what_adding_a_contour_writes_is_sound : sound (spans cs ++ moved (count p) (whole more) ∷ []) (count (p ++ more)) ≡ true
    what_adding_a_contour_writes_is_sound =
        adding_keeps_the_ranges_sound p (spans cs) taken.even taken.sound more (whole more ∷ [])
        (whole_sound (count more) (whole more) refl refl)

    pub the_counts_of_an_addition_add_up : (o.answer.points ≡ count p + count more) × (o.answer.contours ≡ length cs + 1)
    the_counts_of_an_addition_add_up = (
      ap (λ (a : Packed). a.points) added.answer ∙ sym (count-append p more taken.even),
      ap (λ (a : Packed). a.contours) added.answer ∙ sym (added-length cs ((0 ∷ count more ∷ []) ∷ []) (count p)),
    )

    pub an_enlarged_contour_set_is_refused_by_no_call : first_of (C.refusals (written_points o) (written_contours o)) ≡ 0
    an_enlarged_contour_set_is_refused_by_no_call =
        contours_taken _ (p ++ more) (spans cs ++ moved (count p) (whole more) ∷ []) [] o added (grown p more _ taken _ what_adding_a_contour_writes_is_sound)

    pub an_added_contour_stands_behind_the_others_unchanged : (at : ℕ × ℕ) (k : ℕ) → (C.contour_at (lying at (written_points o)) (written_contours o) k).numbers ≡ get_or (contours p (spans cs) ++ more ∷ []) k []
    an_added_contour_stands_behind_the_others_unchanged at k =
        unpacked_contour _ (p ++ more) (spans cs ++ moved (count p) (whole more) ∷ []) [] o added (grown p more _ taken _ what_adding_a_contour_writes_is_sound) at k
        ∙ ap (λ (l : List (List ℤ)). get_or l k []) (adding_a_contour_appends_exactly_it p (spans cs) taken.even taken.sound more taken.more_even)

  -- an addition to a shape set
  module _ (p : List ℤ) (cs ss : List (List ℕ)) (more : List ℤ) (mcs : List (List ℕ)) (out : List ℤ) (records groups : List (List ℕ)) (e : o ≡ S.with_one_more p cs ss more mcs out records groups) where
    abbrev all_contours : List Span
    all_contours = spans cs ++ map (moved (count p)) (spans mcs)

    abbrev all_shapes : List Span
    all_shapes = spans ss ++ moved (length cs) (every mcs) ∷ []

    shape_added : Written (both p more (S.both_sound p cs ss more mcs)) (p ++ more) all_contours all_shapes o
    shape_added = written (both p more (S.both_sound p cs ss more mcs)) tt (p ++ more) all_contours all_shapes out records groups o e ok

    shape_taken : Joined p more (S.both_sound p cs ss more mcs)
    shape_taken = joined_of p more (S.both_sound p cs ss more mcs) 0 (sym shape_added.clear) refl

    parts : SoundParts p cs ss more mcs
    parts = sound_parts p cs ss more mcs shape_taken.sound

    pub what_adding_a_shape_writes_is_sound : (sound all_contours (count (p ++ more)) && sound all_shapes (length all_contours)) ≡ true
    what_adding_a_shape_writes_is_sound =
        let a = adding_keeps_the_ranges_sound p (spans cs) shape_taken.even parts.contours more (spans mcs) parts.added in
        let n : length cs + length mcs ≡ length all_contours = added-length cs mcs (count p) in
        let b =
        sound-append 0 (length cs) (length all_contours) (spans ss) (moved (length cs) (every mcs) ∷ []) parts.shapes
        (sound_first (length cs) (length all_contours) (moved (length cs) (every mcs)) [] (omega arith) (omega arith) (sound_nothing (length mcs + length cs) (length all_contours) (omega arith))) in
        rw (a, b)

    pub the_counts_of_an_added_shape_add_up :
        (o.answer.points ≡ count p + count more) × (o.answer.contours ≡ length cs + length mcs) × (o.answer.shapes ≡ length ss + 1)
    the_counts_of_an_added_shape_add_up = (
      ap (λ (a : Packed). a.points) shape_added.answer ∙ sym (count-append p more shape_taken.even),
      ap (λ (a : Packed). a.contours) shape_added.answer ∙ sym (added-length cs mcs (count p)),
      ap (λ (a : Packed). a.shapes) shape_added.answer ∙ sym (added-length ss ((0 ∷ length mcs ∷ []) ∷ []) (length cs)),
    )

    pub an_enlarged_shape_set_is_refused_by_no_call : first_of (S.refusals (written_points o) (written_contours o) (written_shapes o)) ≡ 0
    an_enlarged_shape_set_is_refused_by_no_call =
        shapes_taken _ (p ++ more) all_contours all_shapes o shape_added (grown p more _ shape_taken _ what_adding_a_shape_writes_is_sound)

    pub an_added_shape_stands_behind_the_others_unchanged : (at : ℕ × ℕ) (s c : ℕ)
        → (S.contour_of (lying at (written_points o)) (written_contours o) (written_shapes o) s c).numbers ≡ get_or (get_or (shapes p (spans cs) (spans ss) ++ contours more (spans mcs) ∷ []) s []) c []
    an_added_shape_stands_behind_the_others_unchanged at s c =
        let grouped : sound (spans ss) (length (spans cs)) ≡ true = ap (sound (spans ss)) (spans-length cs) ∙ parts.shapes in
        unpacked_shape _ (p ++ more) all_contours all_shapes o shape_added (grown p more _ shape_taken _ what_adding_a_shape_writes_is_sound) at s c
        ∙ ap (λ (l : List (List (List ℤ))). get_or (get_or l s []) c [])
        (ap₂ (λ (n m : ℕ). shapes (p ++ more) all_contours (spans ss ++ moved n (record { start = 0; end = m }) ∷ [])) (sym (spans-length cs)) (sym (spans-length mcs))
        ∙ adding_a_shape_appends_exactly_it p (spans cs) (spans ss) shape_taken.even parts.contours grouped more (spans mcs))

-- and a refused call
pub a_refusal_leaves_every_row_as_it_was :
    (l : List Rung) (p : List ℤ) (cs ss : List Span) (out : List ℤ) (records groups : List (List ℕ)) (o : Outcome) → o ≡ stored l p cs ss out records groups
    → (o.answer.reply ≡ 0 → ⊥) → (o.points ≡ out) × (o.contours ≡ records) × (o.shapes ≡ groups)
a_refusal_leaves_every_row_as_it_was = refused_unchanged
