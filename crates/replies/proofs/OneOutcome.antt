-- When a contract leaves one outcome, and that one which is an equation with a definition does.
use mathlib.Core.Path.{◌≡◌, sym, ◌∙◌}
use seplogic.Ra.Ura.{Ura}
use base.Logic.{emp}
use types.Logic.{Logic}
use contract.Lifetimes.{Lfts}
use contract.Monad.{fact}
use denote.Triple.Entry.{Args, Res}
use denote.Triple.Spec.{Spec}
use denote.Triple.Clauses.{Ended, AtExit, closing}

-- A contract `C` says of the lifetimes and the arguments of a call what its answer and its parameters at exit are, and `seen` is what the caller has of those. Any two outcomes that the contract allows on the same arguments are seen identical.
module _ {K : Type 0} {A R E : K → Type 0} {O : Type 0} (C : (κs : K) → A κs → R κs → E κs → Type 0) (seen : (κs : K) → R κs → E κs → O) where
  abbrev pub Determined : Type 0
  Determined = (κs : K) (a : A κs) (x y : R κs) (d e : E κs) → C κs a x d → C κs a y e → seen κs x d ≡ seen κs y e

-- a contract that equates what is seen with a definition of the arguments
module _ {K : Type 0} {A R E : K → Type 0} {O : Type 0} {C : (κs : K) → A κs → R κs → E κs → Type 0} {seen : (κs : K) → R κs → E κs → O} where
  pub by_its_definition : (f : (κs : K) → A κs → O) → ((κs : K) (a : A κs) (x : R κs) (e : E κs) → C κs a x e → seen κs x e ≡ f κs a) → Determined C seen
  by_its_definition f is κs a x y d e p q = is κs a x d p ∙ sym (is κs a y e q)

-- the contract that asks nothing of the caller and ensures the plain fact `C`, in a model of the logic
module _ {M : Type 1} {𝓤 : Ura M} (𝓛 : Logic 𝓤) (T : Ended) where
  abbrev pub ensuring : ((κs : Lfts T.signature.lifetimes) → Args T.signature κs → Res T.signature κs → AtExit T κs → Type 0) → Spec 𝓤 T.signature
  ensuring C = closing 𝓛 T (λ κs a. record { ghost = Unit {0}; requires = λ g. emp 𝓤; ensures = λ g x e. fact 𝓤 (C κs a x e) })

-- what a call's parameters hold at its exit, by their names: so many parameters, each handed to f in its place
module _ {X A B C : Type 0} where
  abbrev pub two : A × (B × C) → (A → B → X) → X
  two e f = f e.0 e.1.0

module _ {X A B C D : Type 0} where
  abbrev pub three : A × (B × (C × D)) → (A → B → C → X) → X
  three e f = two e.1 (f e.0)

module _ {X A B C D E : Type 0} where
  abbrev pub four : A × (B × (C × (D × E))) → (A → B → C → D → X) → X
  four e f = three e.1 (f e.0)

module _ {X A B C D E F : Type 0} where
  abbrev pub five : A × (B × (C × (D × (E × F)))) → (A → B → C → D → E → X) → X
  five e f = four e.1 (f e.0)

module _ {X A B C D E F G : Type 0} where
  abbrev pub six : A × (B × (C × (D × (E × (F × G))))) → (A → B → C → D → E → F → X) → X
  six e f = five e.1 (f e.0)

module _ {X A B C D E F G H : Type 0} where
  abbrev pub seven : A × (B × (C × (D × (E × (F × (G × H)))))) → (A → B → C → D → E → F → G → X) → X
  seven e f = six e.1 (f e.0)

module _ {X A B C D E F G H I : Type 0} where
  abbrev pub eight : A × (B × (C × (D × (E × (F × (G × (H × I))))))) → (A → B → C → D → E → F → G → H → X) → X
  eight e f = seven e.1 (f e.0)

module _ {X A B C D E F G H I J : Type 0} where
  abbrev pub nine : A × (B × (C × (D × (E × (F × (G × (H × (I × J)))))))) → (A → B → C → D → E → F → G → H → I → X) → X
  nine e f = eight e.1 (f e.0)
