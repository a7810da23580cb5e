-- A `~=` that quarrels stands at a token of the stream, and there is one first of them at most. Assumes nothing.
use mathlib.Core.Path.{◌≡◌, refl, sym, ap, ◌∙◌, subst}
use mathlib.Core.Bool.{Bool, true, false, ◌||◌}
use mathlib.Core.List.{List, [], ◌∷◌, ◌++◌}
use mathlib.Core.Logic.{◌⊎◌, inl, inr}
use Prim.Native.Nat.{ℕ, ◌<◌}
use native.Mathlib.Omega.{arith}
use Rattle.std.specs.Prelude.{Option, Some, None}
use Rattle.stream.specs.Words.{records, kind}
use Rattle.stream.specs.Formed.{Formed}
use Rattle.stream.specs.Kinds.{NotEqual}
use Rattle.stream.proofs.Words.{inside, few, token_next}
use Rattle.tree.specs.Forest.{Forest, none, tree}
use Rattle.quarrel.specs.Chains.{Op, op, expression, unary, tail, operators, operand, chains, within, inner}
use Rattle.quarrel.specs.Rule.{In, here, there, Quarrelling, First}
use Rattle.quarrel.proofs.Noted.{nested, found_none, found_some}

module _ (s : List ℕ) where
  -- each operator is of the kind of the token at its place
  abbrev Read : List Op → Type 0
  Read [] = Unit {0}
  Read (o ∷ os) = (o.sort ≡ kind s o.place) × Read os

  abbrev Reads : List (List Op) → Type 0
  Reads [] = Unit {0}
  Reads (c ∷ cs) = Read c × Reads cs

  read_join : (a b : List Op) → Read a → Read b → Read (a ++ b)
  read_join [] b x y = y
  read_join (o ∷ a) b x y = (x.0, read_join a b x.1 y)

  reads_join : (a b : List (List Op)) → Reads a → Reads b → Reads (a ++ b)
  reads_join [] b x y = y
  reads_join (c ∷ a) b x y = (x.0, reads_join a b x.1 y)

  mutual
    read_operators : (t : Forest) → Read (operators s t)
    read_operators none = tt
    read_operators (tree tag value line place kids rest) = go (tail tag) (unary tag) (read_operand kids) (read_operators rest)
      where
        go : (a b : Bool) → Read (operand s kids) → Read (operators s rest)
            → Read (elim a [
              | true ↦ op s place ∷ operand s kids ++ operators s rest
              | false ↦ elim b [ true ↦ operand s kids ++ operators s rest | false ↦ operators s rest ]
            ])
        go true b x y = (refl, read_join (operand s kids) (operators s rest) x y)
        go false true x y = read_join (operand s kids) (operators s rest) x y
        go false false x y = y

    read_operand : (t : Forest) → Read (operand s t)
    read_operand none = tt
    read_operand (tree tag value line place kids rest) = read_operators kids

  mutual
    read_chains : (t : Forest) → Reads (chains s t)
    read_chains none = tt
    read_chains (tree tag value line place kids rest) = go (expression tag) (read_within kids) (read_chains kids) (read_chains rest)
      where
        go : (a : Bool) → Reads (within s kids) → Reads (chains s kids) → Reads (chains s rest)
            → Reads (elim a [ true ↦ operators s kids ∷ within s kids | false ↦ chains s kids ] ++ chains s rest)
        go true x y z = (read_operators kids, reads_join (within s kids) (chains s rest) x z)
        go false x y z = reads_join (chains s kids) (chains s rest) y z

    read_within : (t : Forest) → Reads (within s t)
    read_within none = tt
    read_within (tree tag value line place kids rest) = go (tail tag || unary tag) (read_inner kids) (read_chains kids) (read_within rest)
      where
        go : (a : Bool) → Reads (inner s kids) → Reads (chains s kids) → Reads (within s rest)
            → Reads (elim a [ true ↦ inner s kids | false ↦ chains s kids ] ++ within s rest)
        go true x y z = reads_join (inner s kids) (within s rest) x z
        go false x y z = reads_join (chains s kids) (within s rest) y z

    read_inner : (t : Forest) → Reads (inner s t)
    read_inner none = tt
    read_inner (tree tag value line place kids rest) = read_within kids

  read_in : {c : List Op} {cs : List (List Op)} → In c cs → Reads cs → Read c
  read_in here x = x.0
  read_in (there i) x = read_in i x.1

  read_one : (a : List Op) (o : Op) (b : List Op) → Read (a ++ o ∷ b) → o.sort ≡ kind s o.place
  read_one [] o b x = x.0
  read_one (p ∷ a) o b x = read_one a o b x.1

  -- the token there is a `~=`
  pub unequal_there : {t : Forest} {i : ℕ} → Quarrelling s t i → kind s i ≡ NotEqual
  unequal_there {t} {i} q =
      let z = q.quarrels in
      let x = read_one z.before q.one z.after (subst Read z.split (read_in q.its (read_chains t))) in
      ap (kind s) (sym q.there) ∙ sym x ∙ z.unequal

  -- so its index is a token's, and in a well-formed stream there are at most 1,048,576 tokens
  pub below : Formed s → {t : Forest} {i : ℕ} → Quarrelling s t i → i < 1048576
  below f {t} {i} q =
      let e = unequal_there q in
      let l = token_next s f i (λ z. let w : ◌≡◌ {A = ℕ} 43 59 = sym e ∙ z in omega arith) in
      omega (arith, few s f)

  -- the first is at a `~=` of the stream
  pub first_unequal : {t : Forest} {i : ℕ} → First s t i → (kind s i ≡ NotEqual) × (i < records s)
  first_unequal {t} {i} x = let e = unequal_there x.quarrelling in (e, inside s i (λ z. let w : ◌≡◌ {A = ℕ} 43 59 = sym e ∙ z in omega arith))

  -- one first at most
  pub once : {t : Forest} {i j : ℕ} → First s t i → First s t j → i ≡ j
  once x y = omega (arith, x.lowest _ y.quarrelling, y.lowest _ x.quarrelling)

  -- none, or a first
  pub none_or_first : (t : Forest) → ((i : ℕ) → ¬ Quarrelling s t i) ⊎ ((i : ℕ) × First s t i)
  none_or_first t = go (nested s t None) refl
    where
      go : (q : Option ℕ) → nested s t None ≡ q → ((i : ℕ) → ¬ Quarrelling s t i) ⊎ ((i : ℕ) × First s t i)
      go None e = inl ((found_none s t).0 e)
      go (Some i) e = inr (i, (found_some s t i).0 e)
