-- the laws of worn copies
use Rattle.std.proofs.Common.{◌≡◌, List, [], ◌∷◌, ◌++◌, subst}
use Rattle.std.specs.List.{AllByRecursion}
use Rattle.lane.specs.Worn.{Worn, done, skip, copy}

pub Worn_same : {X : Type 0} (xs : List X) → Worn xs xs
Worn_same [] = done
Worn_same (x ∷ xs) = copy (skip (Worn_same xs))

pub Worn_trans : {X : Type 0} {xs ys zs : List X} → Worn xs ys → Worn ys zs → Worn xs zs
Worn_trans done v = v
Worn_trans (skip w) v = skip (Worn_trans w v)
Worn_trans (copy w) (skip v) = Worn_trans w v
Worn_trans (copy w) (copy v) = copy (Worn_trans (copy w) v)

-- the worn copies of two lists, one after the other
pub Worn-append : {X : Type 0} {xs ys us vs : List X} → Worn xs ys → Worn us vs → Worn (xs ++ us) (ys ++ vs)
Worn-append done v = v
Worn-append (skip w) v = skip (Worn-append w v)
Worn-append (copy w) v = copy (Worn-append w v)

-- what is put at the end may be lost
pub Worn_lost : {X : Type 0} (xs : List X) (x : X) → Worn (xs ++ x ∷ []) xs
Worn_lost [] x = skip done
Worn_lost (y ∷ xs) x = copy (skip (Worn_lost xs x))

-- what holds of each element holds of each of a worn copy
pub Worn_all : {X : Type 0} (P : X → Type 0) {xs ys : List X} → Worn xs ys → AllByRecursion P xs → AllByRecursion P ys
Worn_all P done a = tt
Worn_all P (skip w) a = Worn_all P w a.1
Worn_all P (copy w) a = (a.0, Worn_all P w a)

-- the same of equal lists
pub Worn_along : {X : Type 0} {xs xs' ys ys' : List X} → xs ≡ xs' → ys ≡ ys' → Worn xs ys → Worn xs' ys'
Worn_along {xs'} {ys} e f w = subst (Worn xs') f (subst (λ zs. Worn zs ys) e w)
