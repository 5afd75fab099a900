-- What a closed contour's edges give together, in any order: the start may be moved, and the way turned round.
use Rattle.std.proofs.Common.{◌≡◌, List, [], ◌∷◌, ◌++◌, map, reverse, sym, refl, ap, ◌∙◌, ap₂, append-nil}
use mathlib.Core.List.{reverse-cons}
use Rattle.grid.specs.declared.Point.{Point}
use Rattle.grid.specs.Corners.{last}

-- the last point of two ways, one behind the other
pub last_joined : (a b : Point) (l m : List Point) → last a (l ++ b ∷ m) ≡ last b m
unfolding last
last_joined a b [] m = refl
last_joined a b (c ∷ l) m = last_joined c b l m

pub last-map : (g : Point → Point) (a : Point) (l : List Point) → last (g a) (map g l) ≡ g (last a l)
unfolding last
last-map g a [] = refl
last-map g a (b ∷ l) = last-map g b l

-- what is told of a contour is the same from every start
abbrev pub AnyStart : {X : Type 0} → (List Point → X) → Type 0
AnyStart f = (l m : List Point) → f (m ++ l) ≡ f (l ++ m)

-- if it is so of two parts that have points
pub any_start : {X : Type 0} (f : List Point → X) → ((o q : Point) (l m : List Point) → f ((q ∷ m) ++ o ∷ l) ≡ f ((o ∷ l) ++ q ∷ m)) → AnyStart f
any_start f both [] m = ap f (append-nil m)
any_start f both (o ∷ l) [] = ap f (sym (append-nil (o ∷ l)))
any_start f both (o ∷ l) (q ∷ m) = both o q l m

module _ {X : Type 0} (op : X → X → X) (none : X) where
  -- what the edges from a along the points give together
  abbrev pub along : (Point → Point → X) → Point → List Point → X
  along f a [] = none
  along f a (b ∷ l) = op (f a b) (along f b l)

  -- and those of a closed contour
  abbrev pub closed : (Point → Point → X) → List Point → X
  closed f [] = none
  closed f (o ∷ l) = along f (last o l) (o ∷ l)

  -- edges that give the same each give the same together
  along_alike : (f g : Point → Point → X) → ((a b : Point) → f a b ≡ g a b) → (a : Point) (l : List Point) → along f a l ≡ along g a l
  along_alike f g e a [] = refl
  along_alike f g e a (b ∷ l) = ap₂ op (e a b) (along_alike f g e b l)

  pub closed_alike : (f g : Point → Point → X) → ((a b : Point) → f a b ≡ g a b) → (l : List Point) → closed f l ≡ closed g l
  closed_alike f g e [] = refl
  closed_alike f g e (o ∷ l) = along_alike f g e (last o l) (o ∷ l)

  -- and so do those between other points
  module _ (f h : Point → Point → X) (g : Point → Point) (e : (a b : Point) → f (g a) (g b) ≡ h a b) where
    along-map : (a : Point) (l : List Point) → along f (g a) (map g l) ≡ along h a l
    along-map a [] = refl
    along-map a (b ∷ l) = ap₂ op (e a b) (along-map b l)

    pub closed-map : (l : List Point) → closed f (map g l) ≡ closed h l
    closed-map [] = refl
    closed-map (o ∷ l) = ap (λ (z : Point). along f z (map g (o ∷ l))) (last-map g o l) ∙ along-map (last o l) (o ∷ l)

  module _ (f : Point → Point → X) (regroup : (s t u : X) → op (op s t) u ≡ op s (op t u)) (swap : (s t : X) → op s t ≡ op t s) (nothing : (s : X) → op none s ≡ s) where
    along_joined : (a : Point) (l m : List Point) → along f a (l ++ m) ≡ op (along f a l) (along f (last a l) m)
    unfolding last
    along_joined a [] m = sym (nothing _)
    along_joined a (b ∷ l) m = ap (op (f a b)) (along_joined b l m) ∙ sym (regroup (f a b) (along f b l) (along f (last b l) m))

    -- two parts, each from the other's end
    closed_joined : (o q : Point) (l m : List Point) → closed f ((o ∷ l) ++ q ∷ m) ≡ op (along f (last q m) (o ∷ l)) (along f (last o l) (q ∷ m))
    unfolding last
    closed_joined o q l m = ap (λ (z : Point). along f z ((o ∷ l) ++ q ∷ m)) (last_joined o q l m) ∙ along_joined (last q m) (o ∷ l) (q ∷ m)

    pub moved_start : AnyStart (closed f)
    moved_start = any_start (closed f) (λ o q l m. closed_joined q o m l ∙ swap _ _ ∙ sym (closed_joined o q l m))

    -- the edges the other way
    abbrev back : Point → Point → X
    back a b = f b a

    -- the way back to a, from y
    way_back : (y a : Point) (l : List Point) → along f y (reverse l ++ a ∷ []) ≡ op (f y (last a l)) (along back a l)
    unfolding last
    way_back y a [] = refl
    way_back y a (b ∷ l) =
        ap (λ (w : List Point). along f y (w ++ a ∷ [])) (reverse-cons b l)
        ∙ along_joined y (reverse l ++ b ∷ []) (a ∷ [])
        ∙ ap₂ op (way_back y b l) (ap (λ (z : Point). op (f z a) none) (last_joined y b (reverse l) []) ∙ swap (f b a) none ∙ nothing (f b a))
        ∙ regroup (f y (last b l)) (along back b l) (f b a)
        ∙ ap (op (f y (last b l))) (swap (along back b l) (f b a))

    -- a contour that ends with z
    closed_end : (l : List Point) (z : Point) → closed f (l ++ z ∷ []) ≡ along f z (l ++ z ∷ [])
    unfolding last
    closed_end [] z = refl
    closed_end (o ∷ l) z = ap (λ (y : Point). along f y ((o ∷ l) ++ z ∷ [])) (last_joined o z l [])

    pub turned_round : (l : List Point) → closed f (reverse l) ≡ closed back l
    turned_round [] = refl
    turned_round (o ∷ l) = ap (closed f) (reverse-cons o l) ∙ closed_end (reverse l) o ∙ way_back o o l
